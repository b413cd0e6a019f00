-- The tables, mark by mark and cart by cart.
use Prim.Native.Nat.{ℕ, suc, ◌+◌, ◌*◌, ◌-◌, ◌/◌, ◌%◌, ◌^◌, ◌≤◌, ◌<◌, min}
use mathlib.Core.Path.{◌≡◌, refl, sym, ap, subst, ◌∙◌}
use mathlib.Core.List.{List}
use native.Mathlib.Omega.{arith}
use native.Mathlib.Nat.{suc-mul, mul-le-mul_right, min-eq_left, min-eq_right}
use lib.ListN.{get_or}
use Rattle.row.specs.Round.{pick}
use Rattle.mask.specs.Mask.{on}
use Rattle.mask.specs.EachBit.{on_shr, on_zero}
use Rattle.table.specs.Table.{Stored}
use Rattle.marks.specs.Bears.{bearing}
use Rattle.marks.specs.Tables.{Holds, Tables, Empty, Room, WordAt, MovedUp, Bearers}
use Rattle.marks.specs.Fours.{Gathered, Packed}
use Rattle.marks.proofs.Turning.{on_rest}
use Rattle.marks.proofs.Building.{Building, begun, small, four_onward, ended}

-- a mark's table ends before those of the marks behind it
pub apart : (k n h : ℕ) → k < n → k * h + h ≤ n * h
apart k n h p = omega (arith, suc-mul k h, mul-le-mul_right {m = suc k} {n = n} h p)

module _ (P : ℕ → ℕ → ℕ → Type 0) (h : ℕ) where
  pub none_yet : (t : List ℕ) → Tables P 0 h t t
  none_yet t = record { kept = refl; each = λ k p. absurd (omega arith); beyond = λ j p. refl }

  -- a table more
  pub one_more : (k : ℕ) (before now after : List ℕ) → Tables P k h before now → Stored (P k) (k * h) 0 h now after → Tables P (k + 1) h before after
  one_more k before now after f r = record {
    kept = r.kept ∙ f.kept;
    each = λ m p s q. pick m k (P m s (get_or after (m * h + s) 0))
        (λ u. subst (P m s) (sym (r.below (m * h + s) (omega (arith, apart m k h u)))) (f.each m u s q))
        (λ u. let e : k ≡ m = omega arith in subst (λ (n : ℕ). P n s (get_or after (n * h + s) 0)) e (r.each s (omega arith) q));
    beyond = λ j p. r.above j (omega (arith, apart k (k + 1) h (omega arith))) ∙ f.beyond j (omega (arith, apart k (k + 1) h (omega arith)));
  }

-- four carts' bits in a table more
pub moved_more : (words : List ℕ) (h k : ℕ) (before now after : List ℕ) → Tables (MovedUp before h words) k h before now
    → Stored (MovedUp now h words k) (k * h) 0 h now after → Tables (MovedUp before h words) (k + 1) h before after
moved_more words h k before now after f r =
    one_more (MovedUp before h words) h k before now after f
    (record {
      kept = r.kept;
      each = λ s p q. r.each s p q
          ∙ ap (λ (x : ℕ). x * 16 + get_or words (k % 4 * 64 + s) 0 / 2 ^ (k / 4 * 4) % 16) (f.beyond (k * h + s) (omega arith));
      below = r.below;
      above = r.above;
    })

-- the four bits of mark k in words turned
fours_bit : (h s k c : ℕ) (words turned : List ℕ) → Packed 0 h words turned → s < h → k < 32 → c < 4
    → on (get_or turned (k % 4 * 64 + s) 0 / 2 ^ (k / 4 * 4) % 16) c ≡ on (get_or words (c * 64 + s) 0) k
fours_bit h s k c words turned r p q u =
    let x = get_or turned (k % 4 * 64 + s) 0 in
    let e : k / 4 * 4 + c ≡ 4 * (k / 4) + c = omega arith in
    let d : 4 * (k / 4) + k % 4 ≡ k = omega arith in
    on_rest (x / 2 ^ (k / 4 * 4)) 4 c u ∙ on_shr x (k / 4 * 4) c ∙ ap (on x) e
    ∙ r.each s (omega arith) p (k % 4) c (k / 4) (omega arith) u (omega arith)
    ∙ ap (on (get_or words (c * 64 + s) 0)) d

-- of four carts from i on n are there
abbrev pub Some : (carts i n : ℕ) → Type 0
Some carts i n = (n ≤ 4) × (i + n ≤ carts) × ((c : ℕ) → c < 4 → i + c < carts → c < n)

pub some_carts : (carts i left n : ℕ) → n ≡ min left 4 → left ≡ carts - i → i < carts → Some carts i n
some_carts carts i left n e d p =
    pick left 4 (Some carts i n)
    (λ q. let f = e ∙ min-eq_left {n = left} {m = 4} (omega arith) in (omega arith, omega arith, λ c u v. omega arith))
    (λ q. let f = e ∙ min-eq_right {n = 4} {m = left} q in (omega arith, omega arith, λ c u v. omega arith))

module _ (floor block : List ℕ) (carts h marks : ℕ) where
  -- a word with the bits of the carts from i on
  abbrev pub Built : ℕ → ℕ → ℕ → ℕ → Type 0
  Built i k s x = Building carts (λ j. bearing floor block j s k) x i

  pub no_cart : (i : ℕ) (t : List ℕ) → carts ≤ i → Holds Empty marks h t → Tables (Built i) marks h t t
  no_cart i t q z = record {
    kept = refl;
    each = λ k p s u. subst (λ (x : ℕ). Built i k s x) (sym (z k p s u)) (begun carts (λ j. bearing floor block j s k) i q);
    beyond = λ j p. refl;
  }

  pub every_cart : (i : ℕ) (before now : List ℕ) → Tables (Built i) marks h before now → i ≤ 0
      → Tables (Bearers floor block carts) marks h before now
  every_cart i before now f p = record { kept = f.kept; each = λ k u s v. ended carts _ (get_or now (k * h + s) 0) i p (f.each k u s v); beyond = f.beyond }

  module _ (i : ℕ) (before now : List ℕ) (f : Tables (Built (i + 4)) marks h before now) where
    pub room : carts ≤ 32 → Holds Room marks h now
    room few k p s q = small carts (λ j. bearing floor block j s k) (get_or now (k * h + s) 0) (i + 4) few (omega arith) (f.each k p s q)

    -- the words of the carts from i on: those that are missing had 0
    pub four_more : (n : ℕ) (first words turned after : List ℕ) → marks ≤ 32 → Some carts i n
        → ((j : ℕ) → (carts - i) * 64 ≤ j → j < 256 → get_or first j 0 ≡ 0) → h ≤ 64 → Gathered (λ c. WordAt floor block (i + c)) n h first words
        → Packed 0 h words turned → Tables (MovedUp now h turned) marks h now after → Tables (Built i) marks h before after
    four_more n first words turned after most few empty steps w g r = record {
      kept = r.kept ∙ f.kept;
      each = λ k p s q. subst (λ (x : ℕ). Built i k s x) (sym (r.each k p s q))
          (four_onward carts (λ j. bearing floor block j s k) (get_or now (k * h + s) 0) i _ (f.each k p s q) (omega arith)
          (λ c u v. fours_bit h s k c words turned g q (omega arith) u ∙ ap (λ (x : ℕ). on x k) (w.each c s (few.2 c u v) q))
          (λ c u v. fours_bit h s k c words turned g q (omega arith) u ∙ ap (λ (x : ℕ). on x k) (missing c s u v q) ∙ on_zero k));
      beyond = λ j p. r.beyond j p ∙ f.beyond j p;
    }
      where
        missing : (c s : ℕ) → c < 4 → carts ≤ i + c → s < h → get_or words (c * 64 + s) 0 ≡ 0
        missing c s u v q =
            let past : n ≤ c = omega (arith, few.1) in
            w.beyond (c * 64 + s) (omega arith) ∙ empty (c * 64 + s) (omega arith) (omega arith)
