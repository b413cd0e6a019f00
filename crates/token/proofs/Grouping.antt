-- An amount's group: the `@` behind its number and spaces, and its digit.
use Prim.Native.Nat.{ℕ, suc, ◌+◌, ◌-◌, ◌≤◌, ◌<◌}
use native.Mathlib.Omega.{arith}
use native.Mathlib.Numerals.{add-one}
use mathlib.Core.Path.{◌≡◌, refl, sym, ap, subst, ◌∙◌}
use mathlib.Core.Bool.{Bool, true, false, ◌&&◌}
use mathlib.Core.List.{List, [], ◌∷◌}
use lib.Dec.{leb}
use lib.ListN.{length, get_or, drop, drop_of_length-le}
use lib.Seq.{drop-cons}
use borrow.Author.Tests.{ne_eqb, lt-leb}
use Rattle.std.specs.Prelude.{Option, None, Some, Result, Ok, Err}
use Rattle.grammar.specs.Grammar.{Over, fleet, group, Amount, amount}
use Rattle.grammar.proofs.Each.{is_group_lem}
use Rattle.grammar.specs.Reader.{Got, got, no, pick, bind, skip, is_group, group_digit, over_at, overs}
use Rattle.token.specs.Leaves.{ByteAt, over_of, low_group, DigitIs, AmountIs, grouped_got}
use Rattle.token.specs.declared.Amount.{Amount as Read}
use Rattle.token.specs.declared.Fault.{Fault}

---- The digit.
module _ (s : List ℕ) (j : ℕ) where
  pub digit_end : length s ≤ j → DigitIs s j None (group_digit 0 (drop j s))
  unfolding group_digit
  digit_end out = let e = drop_of_length-le s {i = j} out in subst (λ (t : List ℕ). DigitIs s j None (group_digit 0 t)) (sym e) (refl, e)

  module _ (l : j < length s) where
    abbrev b : ℕ
    b = get_or s j 0

    by_digit : (r : Option ℕ) (x : Bool) → is_group b ≡ x
        → DigitIs s j r (pick x (got (group (b - 48)) 0 (drop (suc j) s)) (no 13 (b ∷ drop (suc j) s))) → DigitIs s j r (group_digit 0 (drop j s))
    unfolding group_digit
    by_digit r x e h =
        subst (λ (t : List ℕ). DigitIs s j r (group_digit 0 t)) (sym (drop-cons s j 0 l))
        (subst (λ (y : Bool). DigitIs s j r (pick y (got (group (b - 48)) 0 (drop (suc j) s)) (no 13 (b ∷ drop (suc j) s)))) (sym e) h)

    no_digit : is_group b ≡ false → DigitIs s j None (group_digit 0 (drop j s))
    no_digit e = by_digit None false e (refl, drop-cons s j 0 l)

    pub digit_low : b < 48 → DigitIs s j None (group_digit 0 (drop j s))
    digit_low h = no_digit (ap (λ (x : Bool). x && leb b 55) (lt-leb 48 b h))

    pub digit_high : 55 < b → DigitIs s j None (group_digit 0 (drop j s))
    digit_high h = no_digit (ap (λ (x : Bool). leb 48 b && x) (lt-leb b 55 h) ∙ neither (leb 48 b))
      where
        neither : (x : Bool) → (x && false) ≡ false
        neither true = refl
        neither false = refl

    pub digit_read : 48 ≤ b → b ≤ 55 → DigitIs s j (Some (b - 48)) (group_digit 0 (drop j s))
    digit_read h k = by_digit (Some (b - 48)) true (is_group_lem b h k) (refl, omega arith, l, refl)

---- The `@`.
over_off : (m : ℕ) (u t : List ℕ) → ((v : List ℕ) → t ≡ 64 ∷ v → ⊥) → over_at m u t ≡ got fleet m u
unfolding over_at
over_off m u [] f = refl
over_off m u (b ∷ t) f = ap (λ (x : Bool). pick x (group_digit m t) (got fleet m u)) (ne_eqb b 64 (λ e. f t (ap (λ (c : ℕ). c ∷ t) e)))

over_on : (m : ℕ) (u t : List ℕ) → over_at m u (64 ∷ t) ≡ group_digit m t
unfolding over_at
over_on m u t = refl

-- k is the number with its `%`, and i stands behind the spaces after it
module _ (s : List ℕ) (k : Read) (low : k.value ≤ 999) (i : ℕ) (is : drop i s ≡ skip (drop k.at s)) (b : Bool) (w : ByteAt s i 64 b) where
  abbrev then : Got Over → Got Amount
  then g = bind g (λ o m r. got (amount k.value k.percent o) m r)

  pub no_group : k.over ≡ None → b ≡ false → AmountIs s (Ok k) (grouped_got s k)
  unfolding overs bind
  no_group none y =
      subst (λ (g : Got Over). AmountIs s (Ok k) (then g))
      (sym (ap (over_at 0 (drop k.at s)) (sym is) ∙ over_off 0 (drop k.at s) (drop i s) (w.no y)))
      (refl, ap (λ (o : Option ℕ). amount k.value k.percent (over_of o)) none, low, subst low_group (sym none) tt)

  module _ (y : b ≡ true) where
    by : (r : Result Read Fault) → AmountIs s r (then (group_digit 0 (drop (i + 1) s))) → AmountIs s r (grouped_got s k)
    unfolding overs
    by r h =
        let e : skip (drop k.at s) ≡ 64 ∷ drop (i + 1) s = sym is ∙ w.yes y ∙ ap (λ (n : ℕ). 64 ∷ drop n s) (sym (add-one i)) in
        subst (λ (g : Got Over). AmountIs s r (then g)) (sym (ap (over_at 0 (drop k.at s)) e ∙ over_on 0 (drop k.at s) (drop (i + 1) s))) h

    pub group_bad : DigitIs s (i + 1) None (group_digit 0 (drop (i + 1) s)) → (f : Fault) → f ≡ record { number = 13; at = i + 1 }
        → AmountIs s (Err f) (grouped_got s k)
    unfolding bind
    group_bad d f q = by (Err f) (go (group_digit 0 (drop (i + 1) s)) d)
      where
        go : (g : Got Over) → DigitIs s (i + 1) None g → AmountIs s (Err f) (then g)
        go (got o m t) z = absurd z
        go (no x t) z = (ap (λ (y : Fault). y.number) q ∙ sym z.0, ap (λ (y : Fault). drop y.at s) q ∙ z.1, λ y. omega (arith, z.0))

    pub group_read : (v : ℕ) → DigitIs s (i + 1) (Some v) (group_digit 0 (drop (i + 1) s))
        → AmountIs s (Ok (record { at = i + 2; value = k.value; percent = k.percent; over = Some v })) (grouped_got s k)
    unfolding bind
    group_read v d = by (Ok (record { at = i + 2; value = k.value; percent = k.percent; over = Some v })) (go (group_digit 0 (drop (i + 1) s)) d)
      where
        go : (g : Got Over) → DigitIs s (i + 1) (Some v) g
            → AmountIs s (Ok (record { at = i + 2; value = k.value; percent = k.percent; over = Some v })) (then g)
        go (got o m t) z =
            let e : i + 2 ≡ suc (i + 1) = omega arith in
            (ap (λ (n : ℕ). drop n s) e ∙ z.3, ap (λ (x : Over). amount k.value k.percent x) z.0, low, z.1)
        go (no x t) z = absurd z
