-- What holds of each outcome of a reading, and of the small readers' outcomes.
use Rattle.std.specs.Prelude.{ℕ, zero, suc, ◌+◌, ◌*◌, ◌-◌, ◌≤◌, ◌<◌, ◌≡◌, Bool, true, false, ◌&&◌, length, leb, eqb}
use Rattle.std.proofs.Math.Path.{refl, subst}
use Rattle.std.proofs.Common.{ap, sym, ◌∙◌, arith}
use mathlib.Core.List.{List, [], ◌∷◌, ◌++◌}
use borrow.Author.Tests.{leb-true, leb-false, le-leb, eqb-true, eqb-false}
use Rattle.grammar.specs.Grammar.{Spaces, none, space, Digits, end, digit, Number, nought, other, Percent, without, sign, Over, fleet, group, Group, ungrouped, grouped, Amount, amount, AmountText, written}
use Rattle.grammar.specs.Limits.{most, AmountOk}
use Rattle.grammar.specs.Reader.{pick, Got, got, no, Reader, bind, node, skip, expect_at, expect, literal, is_digit, digits, number, percent, limits, is_group, group_digit, over_at, overs, amounts}
use Rattle.grammar.specs.Answers.{WholeNumber, WholePercent}
use Rattle.grammar.proofs.Ends.{Swap, here, there, swap_trans, swap_short, frame_token, frame_number, frame_percent}

pub data Each {A : Type 0} (P : A → ℕ → List ℕ → Type 0) (Q : ℕ → List ℕ → Type 0) : Got A → Type 0 where
  gives : {a : A} {n : ℕ} {r : List ℕ} → P a n r → Each P Q (got a n r)
  denies : {w : ℕ} {r : List ℕ} → Q w r → Each P Q (no w r)

-- of a reading and what follows it, what holds of each outcome
pub each_bind : {A B : Type 0} {P : B → ℕ → List ℕ → Type 0} {Q : ℕ → List ℕ → Type 0} (g : Got A) (f : A → Reader B)
    → Each (λ a n r. Each P Q (f a n r)) Q g → Each P Q (bind g f)
unfolding bind
each_bind g f (gives p) = p
each_bind g f (denies q) = denies q

pub each_map : {A : Type 0} {P P' : A → ℕ → List ℕ → Type 0} {Q Q' : ℕ → List ℕ → Type 0} {g : Got A}
    → Each P Q g → ((a : A) (n : ℕ) (r : List ℕ) → P a n r → P' a n r) → ((w : ℕ) (r : List ℕ) → Q w r → Q' w r) → Each P' Q' g
each_map (gives {a = a} {n = n} {r = r} p) y z = gives (y a n r p)
each_map (denies {w = w} {r = r} q) y z = denies (z w r q)

pub each_both : {A : Type 0} {P P' : A → ℕ → List ℕ → Type 0} {Q Q' : ℕ → List ℕ → Type 0} {g : Got A} → Each P Q g → Each P' Q' g
    → Each (λ a n r. P a n r × P' a n r) (λ w r. Q w r × Q' w r) g
each_both (gives p) (gives q) = gives (p, q)
each_both (denies p) (denies q) = denies (p, q)

pub each_node : {A : Type 0} {P : A → ℕ → List ℕ → Type 0} {Q : ℕ → List ℕ → Type 0} (at : List ℕ) (n : ℕ) (f : ℕ → Got A)
    → ((m : ℕ) → n ≡ suc m → Each P Q (f m)) → (n ≡ 0 → Q 14 at) → Each P Q (node at n f)
unfolding node
each_node at zero f y z = denies (z refl)
each_node at (suc n) f y z = y n refl

pub either : {A : Type 0} (P : A → Type 0) (b : Bool) (u v : A) → (b ≡ true → P u) → (b ≡ false → P v) → P (pick b u v)
either P true u v f g = f refl
either P false u v f g = g refl

pub never : {A : Type 0} → false ≡ true → A
never e = let z : ◌≡◌ {A = ℕ} 0 1 = cc in absurd (omega arith)

pub both_left : (a b : Bool) → (a && b) ≡ true → a ≡ true
both_left true b e = refl
both_left false b e = e

pub both_right : (a b : Bool) → (a && b) ≡ true → b ≡ true
both_right true b e = e
both_right false b e = never e

pub skip_spaces : (s : List ℕ) → Spaces s (skip s)
unfolding skip
skip_spaces [] = none
skip_spaces (b ∷ s) =
    either (λ r. Spaces (b ∷ s) r) (eqb b 32) (skip s) (b ∷ s)
    (λ e. subst (λ (c : ℕ). Spaces (c ∷ s) (skip s)) (sym (eqb-true b 32 e)) (space (skip_spaces s))) (λ e. none)

module _ {A : Type 0} {P : A → ℕ → List ℕ → Type 0} {Q : ℕ → List ℕ → Type 0} where
  expect_at_lem : (c : ℕ) (a : A) (n : ℕ) (s : List ℕ) → ((r : List ℕ) → s ≡ c ∷ r → P a n r) → Q 13 s → Each P Q (expect_at c a n s)
  unfolding expect_at
  expect_at_lem c a n [] y z = denies z
  expect_at_lem c a n (b ∷ r) y z = either (Each P Q) (eqb b c) _ _ (λ e. gives (y r (ap (λ (x : ℕ). x ∷ r) (eqb-true b c e)))) (λ e. denies z)

  pub each_expect : (c : ℕ) (a : A) (n : ℕ) (s : List ℕ) → ((r : List ℕ) → Spaces s (c ∷ r) → P a n r) → ((r : List ℕ) → Spaces s r → Q 13 r)
      → Each P Q (expect c a n s)
  unfolding expect
  each_expect c a n s y z = expect_at_lem c a n (skip s) (λ r e. y r (subst (λ (r : List ℕ). Spaces s r) e (skip_spaces s))) (z (skip s) (skip_spaces s))

  pub each_literal : (w : List ℕ) (a : A) (n : ℕ) (s : List ℕ) → ((r : List ℕ) → s ≡ w ++ r → P a n r)
      → ((r : List ℕ) → ((t : List ℕ) → (v : List ℕ) × Swap r v s (w ++ t)) → Q 13 r) → Each P Q (literal w a n s)
  unfolding literal
  each_literal [] a n s y z = gives (y s refl)
  each_literal (c ∷ w) a n [] y z = denies (z [] (λ t. (c ∷ w ++ t, here)))
  each_literal (c ∷ w) a n (b ∷ s) y z =
      either (Each P Q) (eqb b c) (literal w a n s) _
      (λ e. let h = eqb-true b c e in
      each_literal w a n s (λ r k. y r (cc))
      (λ r k. z r (λ t. let x = k t in (x.0, subst (λ (i : ℕ). Swap r x.0 (b ∷ s) (i ∷ w ++ t)) h (there x.1)))))
      (λ e. denies (z (b ∷ s) (λ t. (c ∷ w ++ t, here))))

pub digits_length : {v k : ℕ} {s r : List ℕ} → Digits v s r k → length r ≤ length s
digits_length end = omega arith
digits_length (digit h i x) = let j = digits_length x in omega arith

pub is_digit_lem : (b : ℕ) → 48 ≤ b → b ≤ 57 → is_digit b ≡ true
is_digit_lem b h i = simp (le-leb 48 b h, le-leb b 57 i)

-- no digits from s on leave less than r
abbrev Furthest : ℕ → List ℕ → List ℕ → Type 0
Furthest v s r = (r' : List ℕ) (k' : ℕ) → Digits v s r' k' → length r ≤ length r'

digits_on_far : {v b k' : ℕ} {s r' : List ℕ} (r : List ℕ) → length r ≤ length s → Furthest (v * 10 + (b - 48)) s r → Digits v (b ∷ s) r' k'
    → length r ≤ length r'
digits_on_far r h f end = omega arith
digits_on_far r h f (digit i j x) = f _ _ x

digits_stop_far : {v b k' : ℕ} {s r' : List ℕ} → is_digit b ≡ false → Digits v (b ∷ s) r' k' → length (b ∷ s) ≤ length r'
digits_stop_far e end = omega arith
digits_stop_far {b = b} e (digit i j x) = never (sym e ∙ is_digit_lem b i j)

nought_far : {k' : ℕ} {s r' : List ℕ} → Number (48 ∷ s) r' k' → length s ≤ length r'
nought_far nought = omega arith
nought_far (other h i x) = absurd (omega arith)

other_far : {b k' : ℕ} {s r' : List ℕ} (r : List ℕ) → (b ≡ 48 → ⊥) → Furthest (b - 48) s r → Number (b ∷ s) r' k' → length r ≤ length r'
other_far r h f nought = absurd (h refl)
other_far r h f (other i j x) = f _ _ x

sign_far : {p' : Bool} {s r' : List ℕ} → Percent (37 ∷ s) r' p' → length s ≤ length r'
sign_far without = omega arith
sign_far sign = omega arith

without_far : {b : ℕ} {p' : Bool} {s r' : List ℕ} → (b ≡ 37 → ⊥) → Percent (b ∷ s) r' p' → length (b ∷ s) ≤ length r'
without_far h without = omega arith
without_far h sign = absurd (h refl)

module _ {P : ℕ → ℕ → List ℕ → Type 0} {Q : ℕ → List ℕ → Type 0} where
  each_digits : (v n : ℕ) (s : List ℕ) → ((k : ℕ) (r : List ℕ) → Digits v s r k → Furthest v s r → P k n r) → Each P Q (digits v n s)
  unfolding digits
  each_digits v n [] y = gives (y v [] end (λ r' k' x. omega arith))
  each_digits v n (b ∷ s) y =
      either (Each P Q) (is_digit b) (digits (v * 10 + (b - 48)) n s) _
      (λ e. each_digits (v * 10 + (b - 48)) n s
      (λ k r x f. y k r (digit (leb-true 48 b (both_left (leb 48 b) (leb b 57) e)) (leb-true b 57 (both_right (leb 48 b) (leb b 57) e)) x)
      (λ r' k' z. digits_on_far r (digits_length x) f z)))
      (λ e. gives (y v (b ∷ s) end (λ r' k' z. digits_stop_far e z)))

  pub each_number : (n : ℕ) (s : List ℕ) → ((k : ℕ) (r : List ℕ) → WholeNumber s r k → P k n r) → Q 13 s → Each P Q (number n s)
  unfolding number
  each_number n [] y z = denies z
  each_number n (b ∷ s) y z =
      either (Each P Q) (eqb b 48) _ _
      (λ e. gives (y 0 s (subst (λ (x : ℕ). WholeNumber (x ∷ s) s 0) (sym (eqb-true b 48 e)) (record { number = nought; longest = λ r' k' x. nought_far x }))))
      (λ e. either (Each P Q) (is_digit b) (digits (b - 48) n s) _
      (λ d. let h = leb-true 48 b (both_left (leb 48 b) (leb b 57) d) in
      let i = leb-true b 57 (both_right (leb 48 b) (leb b 57) d) in
      let j = eqb-false b 48 e in
      each_digits (b - 48) n s (λ k r x f. y k r (record { number = other (omega arith) i x; longest = λ r' k' w. other_far r j f w })))
      (λ d. denies z))

pub each_percent : {P : Bool → ℕ → List ℕ → Type 0} {Q : ℕ → List ℕ → Type 0} (n : ℕ) (s : List ℕ)
    → ((p : Bool) (r : List ℕ) → WholePercent s r p → P p n r) → Each P Q (percent n s)
unfolding percent
each_percent n [] y = gives (y false [] (record { percent = without; longest = λ r' p' x. omega arith }))
each_percent {P} {Q} n (b ∷ s) y =
    either (Each P Q) (eqb b 37) _ _
    (λ e. gives
    (y true s (subst (λ (x : ℕ). WholePercent (x ∷ s) s true) (sym (eqb-true b 37 e)) (record { percent = sign; longest = λ r' p' x. sign_far x }))))
    (λ e. gives (y false (b ∷ s) (record { percent = without; longest = λ r' p' x. without_far (eqb-false b 37 e) x })))

-- a number with its `%`; or 15 for a whole number out of range, or 13 where none stands
pub each_limit : {P : ℕ × Bool → ℕ → List ℕ → Type 0} {Q : ℕ → List ℕ → Type 0} (n : ℕ) (s : List ℕ)
    → ((k : ℕ) (p : Bool) (s₁ r : List ℕ) → Number s s₁ k → Percent s₁ r p → k ≤ most p → P (k, p) n r)
    → ((k : ℕ) (p : Bool) (s₁ r : List ℕ) → WholeNumber s s₁ k → WholePercent s₁ r p → most p < k → Q 15 s) → Q 13 s → Each P Q (limits n s)
unfolding limits
each_limit {P} {Q} n s f g h =
    each_bind (number n s) _
    (each_number n s
    (λ k s₁ y.
    each_bind (percent n s₁) _
    (each_percent n s₁
    (λ p r z.
    either (Each P Q) (leb k (most p)) (got (k, p) n r) _
    (λ i. gives (f k p s₁ r y.number z.percent (leb-true k (most p) i)))
    (λ i. denies (g k p s₁ r y z (leb-false k (most p) i))))))
    h)

pub group_range : (b : ℕ) → is_group b ≡ true → (48 ≤ b) × (b ≤ 55)
group_range b e = (leb-true 48 b (both_left (leb 48 b) (leb b 55) e), leb-true b 55 (both_right (leb 48 b) (leb b 55) e))

pub is_group_lem : (b : ℕ) → 48 ≤ b → b ≤ 55 → is_group b ≡ true
is_group_lem b h i = simp (le-leb 48 b h, le-leb b 55 i)

-- the carts; or 13 behind an `@`
module _ {P : Over → ℕ → List ℕ → Type 0} {Q : ℕ → List ℕ → Type 0} where
  each_group_digit : (n : ℕ) (s : List ℕ) → ((b : ℕ) (r : List ℕ) → s ≡ b ∷ r → 48 ≤ b → b ≤ 55 → P (group (b - 48)) n r) → Q 13 s
      → Each P Q (group_digit n s)
  unfolding group_digit
  each_group_digit n [] f g = denies g
  each_group_digit n (b ∷ r) f g =
      either (Each P Q) (is_group b) _ _ (λ e. let h = group_range b e in gives (f b r refl h.0 h.1)) (λ e. denies g)

  each_over_at : (n : ℕ) (s r : List ℕ) → Spaces s r → ((o : Over) (r : List ℕ) → Group s r o → P o n r) → ((r : List ℕ) → Spaces s (64 ∷ r) → Q 13 r)
      → Each P Q (over_at n s r)
  unfolding over_at
  each_over_at n s [] x f g = gives (f fleet s ungrouped)
  each_over_at n s (b ∷ r) x f g =
      either (Each P Q) (eqb b 64) (group_digit n r) _
      (λ e.
      let y : Spaces s (64 ∷ r) = subst (λ (c : ℕ). Spaces s (c ∷ r)) (eqb-true b 64 e) x in
      each_group_digit n r
      (λ c t i h k. f (group (c - 48)) t (grouped (subst (λ (l : List ℕ). Spaces s (64 ∷ l)) i y) h (omega arith))) (g r y))
      (λ e. gives (f fleet s ungrouped))

  pub each_over : (n : ℕ) (s : List ℕ) → ((o : Over) (r : List ℕ) → Group s r o → P o n r) → ((r : List ℕ) → Spaces s (64 ∷ r) → Q 13 r)
      → Each P Q (overs n s)
  unfolding overs
  each_over n s f g = each_over_at n s (skip s) (skip_spaces s) f g

-- with what stands before r some amount in range goes on, whatever is to stand behind it
abbrev pub AmountOn : List ℕ → List ℕ → Type 0
AmountOn s r = (t : List ℕ) → (v s' : List ℕ) × (x : Amount) × Swap r v s s' × AmountText s' t x × AmountOk x

pub nought_on : (s : List ℕ) → AmountOn s s
nought_on s t = (48 ∷ t, 48 ∷ t, amount 0 false fleet, here, written nought without ungrouped, omega arith)

-- behind its `@` group 0
group_on : {s s₁ s₂ r : List ℕ} {k : ℕ} {p : Bool} → Number s s₁ k → Percent s₁ s₂ p → k ≤ most p → Spaces s₂ (64 ∷ r) → AmountOn s r
group_on {k = k} {p = p} y z i x t =
    let x' = frame_token x (48 ∷ t) in
    let z' = frame_percent z x'.0 in
    let y' = frame_number y z'.0 in (
      48 ∷ t,
      y'.0,
      amount k p (group 0),
      swap_trans y'.1 (swap_trans z'.1 x'.1),
      written y'.2 z'.2 (grouped x'.2 (omega arith) (omega arith)),
      i,
    )

-- an amount; or 15 for a whole number out of range, or 13 where an amount goes on
pub each_amount : {P : Amount → ℕ → List ℕ → Type 0} {Q : ℕ → List ℕ → Type 0} (n : ℕ) (s : List ℕ)
    → ((x : Amount) (r : List ℕ) → AmountText s r x → AmountOk x → P x n r)
    → ((k : ℕ) (p : Bool) (s₁ r : List ℕ) → WholeNumber s s₁ k → WholePercent s₁ r p → most p < k → Q 15 s)
    → ((r : List ℕ) → length r ≤ length s → AmountOn s r → Q 13 r) → Each P Q (amounts n s)
unfolding amounts
each_amount {P} {Q} n s f g h =
    each_bind (limits n s) _
    (each_limit n s
    (λ k p s₁ r y z i.
    each_bind (overs n r) _
    (each_over n r (λ o t x. gives (f (amount k p o) t (written y z x) i))
    (λ t x. let a = group_on y z i x in h t (swap_short (a []).3) a)))
    g (h s (omega arith) (nought_on s)))

-- these count no nodes
pub literal_keeps : {A : Type 0} (w : List ℕ) (a : A) (n : ℕ) (s : List ℕ) → Each (λ a₁ m r. n ≡ m) (λ k r. Unit {0}) (literal w a n s)
literal_keeps w a n s = each_literal w a n s (λ r e. refl) (λ r f. tt)

pub number_keeps : (n : ℕ) (s : List ℕ) → Each (λ k m r. n ≡ m) (λ w r. Unit {0}) (number n s)
number_keeps n s = each_number n s (λ k r x. refl) tt
