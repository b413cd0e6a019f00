-- The table of kinds: a floor and its counts, and, over any table, a record looked up and counted in.
use Rattle.std.specs.Prelude.{ℕ, zero, suc, ◌+◌, ◌<◌, ◌≡◌, refl, Bool, true, false, cond, not, ◌||◌, ◌&&◌, ◌⊎◌, List, [], ◌∷◌, ◌++◌, eqb, leb, ltb, length, get_or, Ok, Err}
use Rattle.std.proofs.Common.{arith, sym, ap, ◌∙◌, inl, inr, append_assoc, eqb-true, ne_eqb, leb-false, lt-ltb}
use Rattle.std.proofs.lemmas.Bool.{eqb-false}
use Rattle.refusal.specs.Faults.{none_holds, no_fault, not-not, or-true}
use Rattle.floor.specs.Floor.{Kind, kinds, counts, floor_of, seen, fault_of, judged_as, judged_by}
use Rattle.floor.specs.declared.Floor.{Floor}

-- n numbers of a list, from the i-th on
abbrev spelled : List ℕ → ℕ → ℕ → List ℕ
spelled ns zero i = []
spelled ns (suc n) i = get_or ns i 0 ∷ spelled ns n (suc i)

spelled_on : (m : ℕ) (ns : List ℕ) (n i : ℕ) → spelled (m ∷ ns) n (suc i) ≡ spelled ns n i
spelled_on m ns zero i = refl
spelled_on m ns (suc n) i = ap (λ (x : List ℕ). get_or ns i 0 ∷ x) (spelled_on m ns n (suc i))

spelled_all : (ns : List ℕ) → spelled ns (length ns) 0 ≡ ns
spelled_all [] = refl
spelled_all (m ∷ ns) = ap (λ (x : List ℕ). m ∷ x) (spelled_on m ns (length ns) 0 ∙ spelled_all ns)

-- as many counts as there are kinds are those of their floor
pub counts_of : (ns : List ℕ) → length ns ≡ length kinds → counts (floor_of ns) ≡ ns
counts_of ns e = ap (λ (n : ℕ). spelled ns n 0) (sym e) ∙ spelled_all ns

-- a number that no kind of a table has
abbrev pub unlisted : ℕ → List Kind → Bool
unlisted n [] = true
unlisted n (k ∷ ks) = not (eqb n k.number) && unlisted n ks

-- no two kinds of a table have one number
abbrev pub distinct : List Kind → Bool
distinct [] = true
distinct (k ∷ ks) = unlisted k.number ks && distinct ks

pub kinds-distinct : distinct kinds ≡ true
kinds-distinct = refl

pub eqb_turned : (a b : ℕ) → eqb a b ≡ false → eqb b a ≡ false
eqb_turned a b e = ne_eqb b a (λ q. eqb-false a b e (sym q))

-- a record of kind k that is counted in passed every test
pub record Passed (k : Kind) (before : List ℕ) (n : ℕ) (after body : List ℕ) : Type 0 where
  pub order : seen after ≡ false
  pub size : length body ≡ k.size
  pub room : n < k.most
  pub fields : k.bad before body ≡ false

fault_apart : (g : Floor) (n : ℕ) → Err n ≡ Ok g → ⊥
fault_apart g n e = let z : ◌≡◌ {A = ℕ} 0 1 = cc in omega arith

passed : (k : Kind) (before : List ℕ) (n : ℕ) (after body : List ℕ) (g : Floor) → judged_as k before n after body ≡ Ok g
    → Passed k before n after body × (floor_of (before ++ ((n + 1) ∷ after)) ≡ g)
passed k before n after body g e =
    let j = no_fault (fault_of k before n after body) (Ok (floor_of (before ++ ((n + 1) ∷ after)))) Err (Ok g) (fault_apart g) e in
    let is : Ok (floor_of (before ++ ((n + 1) ∷ after))) ≡ Ok g = j.1 in
    let same : floor_of (before ++ ((n + 1) ∷ after)) ≡ g = cc in
    let a = none_holds (seen after) 2 _ j.0 in
    let b = none_holds (not (eqb (length body) k.size)) 3 _ a.1 in
    let c = none_holds (leb k.most n) 4 _ b.1 in
    let d = none_holds (k.bad before body) 5 _ c.1 in
    (record { order = a.0; size = eqb-true _ _ (not-not _ b.0); room = leb-false _ _ c.0; fields = d.0 }, same)

-- a record of a number, counted in from ns to ms: by the table's first kind, or by one behind it
abbrev pub CountedHere : Kind → List ℕ → ℕ → List ℕ → ℕ → List ℕ → ℕ → List ℕ → Type 0
CountedHere k before n ns number body m ms = (number ≡ k.number) × Passed k before n ns body × (m ≡ n + 1) × (ms ≡ ns)

abbrev pub Counted : List Kind → List ℕ → List ℕ → ℕ → List ℕ → List ℕ → Type 0
Counted [] before ns number body ms = ⊥
Counted (k ∷ ks) before [] number body ms = ⊥
Counted (k ∷ ks) before (n ∷ ns) number body [] = ⊥
Counted (k ∷ ks) before (n ∷ ns) number body (m ∷ ms) =
    CountedHere k before n ns number body m ms
    ⊎ ((eqb number k.number ≡ false) × (m ≡ n) × Counted ks (before ++ (n ∷ [])) ns number body ms)

pub counted_in : (ks : List Kind) (before ns : List ℕ) (number : ℕ) (body : List ℕ) (g : Floor) → judged_by ks before ns number body ≡ Ok g
    → (ms : List ℕ) × (floor_of (before ++ ms) ≡ g) × Counted ks before ns number body ms
counted_in [] before ns number body g e = absurd (fault_apart g 3 e)
counted_in (k ∷ ks) before [] number body g e = absurd (fault_apart g 3 e)
counted_in (k ∷ ks) before (n ∷ ns) number body g e = go (eqb number k.number) refl e (counted_in ks (before ++ (n ∷ [])) ns number body g)
  where
    go : (b : Bool) → eqb number k.number ≡ b
        → cond b (judged_as k before n ns body) (judged_by ks (before ++ (n ∷ [])) ns number body) ≡ Ok g
        → (judged_by ks (before ++ (n ∷ [])) ns number body ≡ Ok g
        → (ms : List ℕ) × (floor_of ((before ++ (n ∷ [])) ++ ms) ≡ g) × Counted ks (before ++ (n ∷ [])) ns number body ms)
        → (ms : List ℕ) × (floor_of (before ++ ms) ≡ g) × Counted (k ∷ ks) before (n ∷ ns) number body ms
    go true q e more = let p = passed k before n ns body g e in ((n + 1) ∷ ns, p.1, inl (eqb-true _ _ q, p.0, refl, refl))
    go false q e more =
        let r = more e in
        (n ∷ r.0, ap floor_of (sym (append_assoc before (n ∷ []) r.0)) ∙ r.1, inr (q, refl, r.2))

-- the table stays as long as it was, and has a record of the kinds that it counts
pub counted_length : (ks : List Kind) (before ns : List ℕ) (number : ℕ) (body ms : List ℕ) → Counted ks before ns number body ms → length ms ≡ length ns
counted_length [] before ns number body ms c = absurd c
counted_length (k ∷ ks) before [] number body ms c = absurd c
counted_length (k ∷ ks) before (n ∷ ns) number body [] c = absurd c
counted_length (k ∷ ks) before (n ∷ ns) number body (m ∷ ms) (inl c) = ap (λ (x : List ℕ). suc (length x)) c.3
counted_length (k ∷ ks) before (n ∷ ns) number body (m ∷ ms) (inr c) = ap suc (counted_length ks (before ++ (n ∷ [])) ns number body ms c.2)

pub counted_seen : (ks : List Kind) (before ns : List ℕ) (number : ℕ) (body ms : List ℕ) → Counted ks before ns number body ms → seen ms ≡ true
counted_seen [] before ns number body ms c = absurd c
counted_seen (k ∷ ks) before [] number body ms c = absurd c
counted_seen (k ∷ ks) before (n ∷ ns) number body [] c = absurd c
counted_seen (k ∷ ks) before (n ∷ ns) number body (m ∷ ms) (inl c) =
    let some : ltb 0 m ≡ true = lt-ltb 0 m (omega (arith, c.2)) in
    ap (λ (b : Bool). b || seen ms) some
counted_seen (k ∷ ks) before (n ∷ ns) number body (m ∷ ms) (inr c) =
    ap (λ (b : Bool). ltb 0 m || b) (counted_seen ks (before ++ (n ∷ [])) ns number body ms c.2) ∙ or-true (ltb 0 m)
