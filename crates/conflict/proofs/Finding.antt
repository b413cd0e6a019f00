-- Whether a cart meets one above it, by the table and by one column.
use Prim.Native.Nat.{ℕ, suc, ◌+◌, ◌≤◌, ◌<◌}
use native.Mathlib.Omega.{arith}
use mathlib.Core.Path.{◌≡◌, refl, sym, ap, subst, ◌∙◌}
use mathlib.Core.Bool.{Bool, true, false, not, ◌&&◌}
use mathlib.Core.List.{List}
use mathlib.Core.Logic.{◌⊎◌, inl, inr, ⊎_elim}
use lib.Dec.{T, eqb, ltb}
use lib.ListN.{get_or}
use borrow.Author.Tests.{eq-eqb, ne_eqb, ltb-true, ltb-false, eqb-false}
use Rattle.row.specs.Lasso.{next_step, step_of}
use Rattle.row.specs.Round.{pick}
use Rattle.plan.specs.declared.Head.{Head}
use Rattle.conflict.specs.Meaning.{Routes, stands_on, Narrow}
use Rattle.conflict.specs.Met.{Same, Exchanged, Met, same_meets, exchange_meets, meets_cases}
use Rattle.conflict.specs.Table.{flag, block_place, Goes, table_routes, LatestAbove}
use Rattle.conflict.specs.Columns.{Decides, Some, LastOn, Latest, near}
use Rattle.conflict.specs.Above.{Above}
use Rattle.conflict.proofs.Deciding.{decides_as}
use Rattle.conflict.proofs.Tracking.{follows}

-- a test that is near or not
near_apart : (m v d : ℕ) → near m v d ≡ true → (m ≡ 0 → ⊥) × (v < m + d)
near_apart m v d e = go (eqb m 0) refl e
  where
    go : (t : Bool) → eqb m 0 ≡ t → not t && ltb v (m + d) ≡ true → (m ≡ 0 → ⊥) × (v < m + d)
    go true z q = let y : ◌≡◌ {A = ℕ} 0 1 = cc in absurd (omega arith)
    go false z q = (eqb-false m 0 z, ltb-true v (m + d) q)

far : (m v d : ℕ) → (m ≡ 0 → ⊥) → near m v d ≡ false → m + d ≤ v
far m v d some e = ltb-false v (m + d) (sym (ap (λ (t : Bool). not t && ltb v (m + d)) (ne_eqb m 0 some)) ∙ e)

unmarked : (bays : List ℕ) (p : ℕ) → get_or bays p 0 ≡ 0 → T (flag bays p) → ⊥
unmarked bays p z h = subst (λ (t : Bool). T (not t)) (eq-eqb (get_or bays p 0) 0 z) h

pub marked : (bays : List ℕ) (p : ℕ) → (get_or bays p 0 ≡ 0 → ⊥) → T (flag bays p)
marked bays p z = subst (λ (t : Bool). T (not t)) (sym (ne_eqb (get_or bays p 0) 0 z)) tt

module _ (P : Routes) (d a v : ℕ) (there : a < P.carts) where
  abbrev p : ℕ
  p = stands_on P a v

  -- one above a, at a counter within d of v, meets it
  pub above : (b w : ℕ) → a < b → b < P.carts → v ≤ w + d → w ≤ v + d → Same P a v b w ⊎ Exchanged P a v b w → Above P d a v
  above b w up in-fleet low high x = record {
    other = b;
    counter = w;
    higher = up;
    meeting = record {
      cart_there = there;
      other_there = in-fleet;
      two = λ e. omega arith;
      behind = low;
      ahead = high;
      meeting = ⊎_elim (same_meets P a v b w) (exchange_meets P a v b w) x;
    };
  }

  pub not_narrow : (Narrow P p → ⊥) → Above P d a v → ⊥
  not_narrow n x =
      ⊎_elim (λ s. n s.narrow) (λ e. n e.1.narrow) (meets_cases P a v x.other x.counter x.meeting.meeting)

  module _ (last : List ℕ) (t : Latest (suc a) P.carts (stands_on P) (suc (v + d)) last) (m : ℕ) (is : m ≡ get_or last p 0) where
    -- the table has one in a's narrow place
    pub near_above : Narrow P p → near m v d ≡ true → Above P d a v
    near_above n e = go (t.each p)
      where
        k : (m ≡ 0 → ⊥) × (v < m + d)
        k = near_apart m v d e

        go : LastOn (suc a) P.carts (stands_on P) p (suc (v + d)) (get_or last p 0) → Above P d a v
        go (inl z) = absurd (k.0 (is ∙ z.0))
        go (inr l) =
            let c : m ≡ suc l.counter = is ∙ l.is in
            above l.on.cart l.counter (omega (arith, l.on.low)) l.on.high (omega (arith, k.1)) (omega (arith, l.below))
            (inl (record { narrow = n; one = sym l.on.has }))

    -- it has none: no one above is there within d
    none_there : near m v d ≡ false → (b w : ℕ) → a < b → b < P.carts → v ≤ w + d → w ≤ v + d → stands_on P b w ≡ p → ⊥
    none_there e b w up in-fleet low high here = go (t.each p)
      where
        one : Some (suc a) P.carts (λ i. stands_on P i w ≡ p)
        one = record { cart = b; low = omega arith; high = in-fleet; has = here }

        go : LastOn (suc a) P.carts (stands_on P) p (suc (v + d)) (get_or last p 0) → ⊥
        go (inl z) = z.1 (record { counter = w; since = omega arith; until = omega arith; on = one })
        go (inr l) =
            let c : m ≡ suc l.counter = is ∙ l.is in
            let f : m + d ≤ v = far m v d (λ z. omega arith) e in
            l.later (record { counter = w; since = omega arith; until = omega arith; on = one })

    -- then only an exchange with one that is d ahead is left: any other ends in a's place within d
    pub only_ahead : near m v d ≡ false → ((b : ℕ) → a < b → b < P.carts → Exchanged P a v b (v + d) → ⊥) → Above P d a v → ⊥
    only_ahead e none x = ⊎_elim same (λ y. swap y.1) (meets_cases P a v x.other x.counter x.meeting.meeting)
      where
        k : Met P d a v x.other x.counter
        k = x.meeting

        same : Same P a v x.other x.counter → ⊥
        same s = none_there e x.other x.counter x.higher k.other_there k.behind k.ahead (sym s.one)

        swap : Exchanged P a v x.other x.counter → ⊥
        swap y =
            pick x.counter (v + d) ⊥
            (λ l. none_there e x.other (suc x.counter) x.higher k.other_there (omega (arith, k.behind)) (omega arith) y.back)
            (λ l.
            let q : x.counter ≡ v + d = omega (arith, k.ahead) in
            none x.other x.higher k.other_there (subst (Exchanged P a v x.other) q y))

---- The same of a block, with what the code looks at.
-- cart a is on p at counter v, and the table has where those above were up to counter v + d
pub record Look (bays block last : List ℕ) (carts : ℕ) (h : Head) (a v p : ℕ) : Type 0 where
  pub there : a < carts
  pub at : p ≡ stands_on (table_routes bays carts h block) a v
  pub latest : LatestAbove block carts h a (suc (v + h.drift)) last

module _ {bays block last : List ℕ} {carts : ℕ} {h : Head} {a v p : ℕ} (k : Look bays block last carts h a v p) where
  abbrev P : Routes
  P = table_routes bays carts h block

  abbrev d : ℕ
  d = h.drift

  pub plain : get_or bays p 0 ≡ 0 → Above P d a v → ⊥
  plain z = not_narrow P d a v k.there (unmarked bays (stands_on P a v) (ap (λ (n : ℕ). get_or bays n 0) (sym k.at) ∙ z))

  narrow_here : (get_or bays p 0 ≡ 0 → ⊥) → Narrow P (stands_on P a v)
  narrow_here z = subst (Narrow P) k.at (marked bays p z)

  is : get_or last p 0 ≡ get_or last (stands_on P a v) 0
  is = ap (λ (n : ℕ). get_or last n 0) k.at

  pub found : (get_or bays p 0 ≡ 0 → ⊥) → near (get_or last p 0) v d ≡ true → Above P d a v
  found z y = near_above P d a v k.there last k.latest (get_or last p 0) is (narrow_here z) y

-- its place is narrow and none above it is there within d; it goes on to q
pub record Going (bays block last : List ℕ) (carts : ℕ) (h : Head) (a v p q : ℕ) : Type 0 where
  pub look : Look bays block last carts h a v p
  pub narrow : get_or bays p 0 ≡ 0 → ⊥
  pub none : near (get_or last p 0) v h.drift ≡ false
  pub next : q ≡ stands_on (table_routes bays carts h block) a (suc v)

-- by the steps that the code has at hand
pub going : (bays block last : List ℕ) (carts : ℕ) (h : Head) (a v p q : ℕ) {sv nv : ℕ} → h.stem < h.steps → a < carts
    → LatestAbove block carts h a (suc (v + h.drift)) last → sv ≡ step_of h.steps h.stem v → nv ≡ next_step h.steps h.stem sv
    → p ≡ block_place block a sv → q ≡ block_place block a nv → (get_or bays p 0 ≡ 0 → ⊥) → near (get_or last p 0) v h.drift ≡ false
    → Going bays block last carts h a v p q
going bays block last carts h a v p q lap there latest here then at on narrow none = record {
  look = record { there = there; at = at ∙ ap (block_place block a) here; latest = latest };
  narrow = narrow;
  none = none;
  next = on ∙ ap (block_place block a) (follows h lap v here then);
}

module _ {bays block last : List ℕ} {carts : ℕ} {h : Head} {a v p q : ℕ} (g : Going bays block last carts h a v p q) where
  abbrev R : Routes
  R = table_routes bays carts h block

  abbrev e : ℕ
  e = h.drift

  only_exchange : ((b : ℕ) → a < b → b < carts → Exchanged R a v b (v + e) → ⊥) → Above R e a v → ⊥
  only_exchange = only_ahead R e a v g.look.there last g.look.latest (get_or last p 0) (is g.look) g.none

  -- the place that it goes to is not narrow
  pub no_exchange : get_or bays q 0 ≡ 0 → Above R e a v → ⊥
  no_exchange u = only_exchange (λ b up in-fleet x. unmarked bays q u (subst (Narrow R) (sym (g.next ∙ x.there)) x.other_narrow))

  module _ (sw nw : ℕ) (on : sw ≡ step_of h.steps h.stem (v + e)) (then : nw ≡ step_of h.steps h.stem (suc (v + e))) where
    abbrev pub Crossed : Type 0
    Crossed = Some (a + 1) carts (Goes block sw nw q p)

    crossed : (get_or bays q 0 ≡ 0 → ⊥) → Crossed → Above R e a v
    crossed u s =
        let b = s.cart in
        let here : stands_on R b (v + e) ≡ q = ap (block_place block b) (sym on) ∙ s.has.here in
        let back : stands_on R b (suc (v + e)) ≡ p = ap (block_place block b) (sym then) ∙ s.has.then in
        above R e a v g.look.there b (v + e) (omega (arith, s.low)) s.high (omega arith) (omega arith)
        (inr (record {
          narrow = narrow_here g.look g.narrow;
          other_narrow = subst (Narrow R) (sym here) (marked bays q u);
          there = sym g.next ∙ sym here;
          back = back ∙ g.look.at;
        }))

    not_crossed : (Crossed → ⊥) → Above R e a v → ⊥
    not_crossed n =
        only_exchange
        (λ b up in-fleet x. n (record {
          cart = b;
          low = omega arith;
          high = in-fleet;
          has = record {
            here = ap (block_place block b) on ∙ sym (g.next ∙ x.there);
            then = ap (block_place block b) then ∙ x.back ∙ sym g.look.at;
          };
        }))

    -- the column of counter v + d decides
    pub by_column : (get_or bays q 0 ≡ 0 → ⊥) → (t : Bool) → Decides Crossed t → Decides (Above R e a v) t
    by_column u t = decides_as Crossed (Above R e a v) t (crossed u) not_crossed
