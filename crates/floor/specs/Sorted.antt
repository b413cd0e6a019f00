-- The records of an accepted floor: kind after kind in the table's order, each body of its kind's length, and as many as are counted.
use Rattle.std.specs.Prelude.{ℕ, ◌+◌, ◌≤◌, ◌≡◌, refl, Bool, true, false, not, List, [], ◌∷◌, ◌++◌, map, eqb, length, Result, Ok, Err}
use Rattle.std.proofs.Common.{arith, sym, ap, ap₂, subst, ◌∙◌, inl, inr, eq-eqb}
use Rattle.std.proofs.Math.Path.{ap}
use Rattle.std.proofs.Math.Bool.{cond}
use Rattle.std.proofs.lemmas.Bool.{not-true}
use Rattle.record.specs.Record.{Record}
use Rattle.record.specs.Parts.{of_kind}
use Rattle.record.specs.All.{All, AllOf}
use Rattle.record.specs.Opened.{both_true}
use Rattle.floor.specs.Floor.{Kind, kinds, counts, seen, judged, onward, walk}
use Rattle.floor.specs.Numbers.{in_order, bodies_of}
use Rattle.floor.specs.Kinds.{unlisted, distinct, kinds-distinct, Counted, counts_of, counted_in, counted_length, counted_seen}
use Rattle.floor.specs.declared.Floor.{Floor}

-- the bodies of one kind, judged from n up to m of them, behind these counts of the kinds before it and ahead of those behind it
pub record Group (k : Kind) (before : List ℕ) (n m : ℕ) (after : List ℕ) (bodies : List (List ℕ)) : Type 0 where
  pub sizes : AllOf k.size bodies
  pub count : m ≡ n + length bodies
  pub few : n ≤ k.most → m ≤ k.most
  pub fields : All (λ (x : List ℕ). k.bad before x ≡ false) bodies
  pub none : seen after ≡ true → bodies ≡ []

-- and of each kind of a table
abbrev pub Groups : List Kind → List ℕ → List ℕ → List ℕ → List (List (List ℕ)) → Type 0
Groups [] before ns [] groups = Unit {0}
Groups [] before ns (m ∷ ms) groups = ⊥
Groups (k ∷ ks) before [] ms groups = ⊥
Groups (k ∷ ks) before (n ∷ ns) [] groups = ⊥
Groups (k ∷ ks) before (n ∷ ns) (m ∷ ms) [] = ⊥
Groups (k ∷ ks) before (n ∷ ns) (m ∷ ms) (bodies ∷ groups) = Group k before n m ns bodies × Groups ks (before ++ (m ∷ [])) ns ms groups

-- the bodies of each kind among records
abbrev pub groups_of : List Kind → List Record → List (List (List ℕ))
groups_of ks rs = map (λ (k : Kind). bodies_of k.number rs) ks

-- a record of another kind
module _ (r : Record) (rs : List Record) where
  pub other_kind : (n : ℕ) → eqb r.kind n ≡ false → bodies_of n (r ∷ rs) ≡ bodies_of n rs
  unfolding bodies_of
  other_kind n e = ap (λ (b : Bool). cond b (r.body ∷ bodies_of n rs) (bodies_of n rs)) e

  own_kind : (n : ℕ) → r.kind ≡ n → bodies_of n (r ∷ rs) ≡ r.body ∷ bodies_of n rs
  unfolding bodies_of
  own_kind n e = ap (λ (b : Bool). cond b (r.body ∷ bodies_of n rs) (bodies_of n rs)) (eq-eqb _ _ e)

  pub other_kinds : (ks : List Kind) → unlisted r.kind ks ≡ true → groups_of ks (r ∷ rs) ≡ groups_of ks rs
  other_kinds [] e = refl
  other_kinds (k ∷ ks) e =
      let t = both_true (not (eqb r.kind k.number)) (unlisted r.kind ks) e in
      ap₂ ◌∷◌ (other_kind k.number (not-true _ t.0)) (other_kinds ks t.1)

-- nothing judged
none_judged : (ks : List Kind) (before ns : List ℕ) → length ns ≡ length ks → Groups ks before ns ns (groups_of ks [])
unfolding bodies_of
none_judged [] before [] e = tt
none_judged [] before (n ∷ ns) e = absurd (omega arith)
none_judged (k ∷ ks) before [] e = absurd (omega arith)
none_judged (k ∷ ks) before (n ∷ ns) e = (
  record { sizes = tt; count = omega arith; few = λ l. l; fields = tt; none = λ s. refl },
  none_judged ks (before ++ (n ∷ [])) ns (omega arith),
)

-- records judged: each kind's bodies, and the records that these make up in the table's order
abbrev Arranged : List Kind → List ℕ → List ℕ → List ℕ → List Record → Type 0
Arranged ks before ns ms rs = Groups ks before ns ms (groups_of ks rs) × (rs ≡ in_order ks (groups_of ks rs))

-- one record more in front
module _ (r : Record) (rs : List Record) where
  step : (ks : List Kind) (before ns hs ms : List ℕ) → distinct ks ≡ true → Counted ks before ns r.kind r.body hs → Arranged ks before hs ms rs
      → Arranged ks before ns ms (r ∷ rs)
  step [] before ns hs ms d c j = absurd c
  step (k ∷ ks) before [] hs ms d c j = absurd c
  step (k ∷ ks) before (n ∷ ns) [] ms d c j = absurd c
  step (k ∷ ks) before (n ∷ ns) (h ∷ hs) [] d c j = absurd j.0
  step (k ∷ ks) before (n ∷ ns) (h ∷ hs) (m ∷ ms) d (inl c) j =
      let g = j.0.0 in
      let p = c.1 in
      let t = both_true (unlisted k.number ks) (distinct ks) d in
      let own = own_kind r rs k.number c.0 in
      let rest : groups_of ks (r ∷ rs) ≡ groups_of ks rs = other_kinds r rs ks (ap (λ (x : ℕ). unlisted x ks) c.0 ∙ t.0) in
      let is : r ≡ of_kind k.number r.body = ap (λ (x : ℕ). of_kind x r.body) c.0 in
      let group : Group k before n m ns (r.body ∷ bodies_of k.number rs) = record {
        sizes = (p.size, g.sizes);
        count = omega (arith, g.count, c.2);
        few = λ l. g.few (omega (arith, p.room, c.2));
        fields = (p.fields, g.fields);
        none = λ s. absurd (clash ns s p.order);
      } in
      rw (own, rest) (
        (group, subst (λ (x : List ℕ). Groups ks (before ++ (m ∷ [])) x ms (groups_of ks rs)) c.3 j.0.1),
        ap₂ ◌∷◌ is j.1,
      )
    where
      clash : (ns : List ℕ) → seen ns ≡ true → seen ns ≡ false → ⊥
      clash ns a b = let z : true ≡ false = sym a ∙ b in let y : ◌≡◌ {A = ℕ} 0 1 = cc in omega arith
  step (k ∷ ks) before (n ∷ ns) (h ∷ hs) (m ∷ ms) d (inr c) j =
      let g = j.0.0 in
      let t = both_true (unlisted k.number ks) (distinct ks) d in
      let other = other_kind r rs k.number c.0 in
      let none : bodies_of k.number rs ≡ [] = g.none (counted_seen ks (before ++ (n ∷ [])) ns r.kind r.body hs c.2) in
      let same : m ≡ n = omega (arith, g.count, c.1, ap length none) in
      let rest : rs ≡ in_order ks (groups_of ks rs) = j.1 ∙ ap (λ (x : List (List ℕ)). map (of_kind k.number) x ++ in_order ks (groups_of ks rs)) none in
      let more = step ks (before ++ (m ∷ [])) ns hs ms t.1
      (subst (λ (x : ℕ). Counted ks (before ++ (x ∷ [])) ns r.kind r.body hs) (sym same) c.2) (j.0.1, rest) in
      let group : Group k before n m ns [] =
      record { sizes = tt; count = omega (arith, same); few = λ l. omega (arith, same); fields = tt; none = λ s. refl } in
      rw (other ∙ none) ((group, more.0), more.1)

-- records judged from f on without a refusal, up to g
abbrev pub Sorted : Floor → Floor → List Record → Type 0
Sorted f g rs = Arranged kinds [] (counts f) (counts g) rs

pub sorted : (rs : List Record) (f : Floor) (at : ℕ) (g : Floor) (n : ℕ) → walk f at rs ≡ Ok (g, n) → Sorted f g rs
unfolding walk judged bodies_of
sorted [] f at g n e =
    let t : ◌≡◌ {A = Floor × ℕ} (f, at) (g, n) = cc in
    let q : f ≡ g = ap (λ (x : Floor × ℕ). x.0) t in
    subst (λ (x : Floor). Sorted f x []) q (none_judged kinds [] (counts f) refl, refl)
sorted (r ∷ rs) f at g n e = go (judged f r.kind r.body) refl (λ h. sorted rs h (at + 4 + length r.body) g n) e
  where
    go : (j : Result Floor ℕ) → judged f r.kind r.body ≡ j
        → ((h : Floor) → walk h (at + 4 + length r.body) rs ≡ Ok (g, n) → Sorted h g rs)
        → onward j at (λ h. walk h (at + 4 + length r.body) rs) ≡ Ok (g, n) → Sorted f g (r ∷ rs)
    go (Ok h) q ih e =
        let c = counted_in kinds [] (counts f) r.kind r.body h q in
        let cs : counts h ≡ c.0 = ap counts (sym c.1) ∙ counts_of c.0 (counted_length kinds [] (counts f) r.kind r.body c.0 c.2) in
        step r rs kinds [] (counts f) (counts h) (counts g) kinds-distinct
        (subst (Counted kinds [] (counts f) r.kind r.body) (sym cs) c.2) (ih h e)
    go (Err m) q ih e = let z : ◌≡◌ {A = ℕ} 0 1 = cc in absurd (omega arith)
