-- Behind every `m` and every `,` of a sheet stands the number of a mark or of a count; so a number out of range stays so in every sheet.
use Rattle.std.specs.Prelude.{ℕ, ◌≤◌, ◌<◌, ◌≡◌, refl, ◌⊎◌, Bool, true, false, List, [], ◌∷◌}
use Rattle.std.proofs.Common.{ap, subst, sym, ◌∙◌, inl, inr, ⊎_elim, arith}
use Rattle.grammar.specs.Grammar.{Form, Spaces, none, space, Digits, end, digit, Number, nought, other, Percent, without, sign, Over, Group, ungrouped, grouped, Amount, AmountText, written, Prefix, not, next, finally, globally, prefix_byte, Reach, U, R, reach_byte, Rank, Part, word, parens, prefix, one_small, reach, one_until, one_and, Mark, mark, Counted, Count, count, Clause, Sheet, done, line}
use Rattle.grammar.specs.Limits.{InRange, MarkOk, AmountOk, CountOk, most, Ranged}
use Rattle.grammar.specs.Reader.{skip, is_digit}
use Rattle.grammar.proofs.Ends.{Swap, here, there}
use Rattle.grammar.proofs.Each.{never, is_digit_lem}
use Rattle.grammar.proofs.Agree.{skip_at, skip_space, range_of_prefix, range_of_reach}

-- s ends with u
abbrev pub Tail : List ℕ → List ℕ → Type 0
Tail u [] = ⊥
Tail u (b ∷ s) = (u ≡ b ∷ s) ⊎ Tail u s

pub tail_swap : {b : ℕ} {u v s t : List ℕ} → Swap u (b ∷ v) s t → Tail (b ∷ v) t
tail_swap here = inl refl
tail_swap (there x) = inr (tail_swap x)

-- no digit stands at r
abbrev pub Plain : List ℕ → Type 0
Plain [] = Unit {0}
Plain (b ∷ r) = is_digit b ≡ false

plain : {c : ℕ} {s r : List ℕ} → is_digit c ≡ false → Spaces s (c ∷ r) → Plain s
plain e none = e
plain e (space x) = refl

-- what stands behind an m or a comma of a sheet whose numbers are in range
pub data Fine (u : List ℕ) : Type 0 where
  in_mark : {x r : List ℕ} {n : ℕ} → u ≡ 109 ∷ x → Number x r n → Plain r → n ≤ 31 → Fine u
  in_count : {q x r r₁ : List ℕ} {a : Amount} → u ≡ 44 ∷ q → Spaces q x → AmountText x r a → Spaces r (93 ∷ r₁) → AmountOk a → Fine u

prefix_bytes : (o : Prefix) → (prefix_byte o ≡ 109 → ⊥) × (prefix_byte o ≡ 44 → ⊥)
prefix_bytes not = (λ e. omega arith, λ e. omega arith)
prefix_bytes next = (λ e. omega arith, λ e. omega arith)
prefix_bytes finally = (λ e. omega arith, λ e. omega arith)
prefix_bytes globally = (λ e. omega arith, λ e. omega arith)

reach_bytes : (o : Reach) → (reach_byte o ≡ 109 → ⊥) × (reach_byte o ≡ 44 → ⊥) × (is_digit (reach_byte o) ≡ false)
reach_bytes U = (λ e. omega arith, λ e. omega arith, refl)
reach_bytes R = (λ e. omega arith, λ e. omega arith, refl)

module _ (h : ℕ) (x : List ℕ) (key : (h ≡ 109) ⊎ (h ≡ 44)) where
  abbrev pub Behind : List ℕ → Type 0
  Behind s = Tail (h ∷ x) s

  -- a byte that is neither
  step : {b : ℕ} {s : List ℕ} → (b ≡ 109 → ⊥) → (b ≡ 44 → ⊥) → Behind (b ∷ s) → Behind s
  step {b} {s} n m (inl e) = let i : b ≡ h = cc in absurd (⊎_elim (λ k. n (i ∙ k)) (λ k. m (i ∙ k)) key)
  step n m (inr t) = t

  spaces_past : {s r : List ℕ} → Spaces s r → Behind s → Behind r
  spaces_past none t = t
  spaces_past (space y) t = spaces_past y (step (λ e. omega arith) (λ e. omega arith) t)

  token_past : {c : ℕ} {s r : List ℕ} → (c ≡ 109 → ⊥) → (c ≡ 44 → ⊥) → Spaces s (c ∷ r) → Behind s → Behind r
  token_past n m y t = step n m (spaces_past y t)

  digits_past : {v k : ℕ} {s r : List ℕ} → Digits v s r k → Behind s → Behind r
  digits_past end t = t
  digits_past (digit i j y) t = digits_past y (step (λ e. omega arith) (λ e. omega arith) t)

  number_past : {k : ℕ} {s r : List ℕ} → Number s r k → Behind s → Behind r
  number_past nought t = step (λ e. omega arith) (λ e. omega arith) t
  number_past (other i j y) t = digits_past y (step (λ e. omega arith) (λ e. omega arith) t)

  percent_past : {p : Bool} {s r : List ℕ} → Percent s r p → Behind s → Behind r
  percent_past without t = t
  percent_past sign t = step (λ e. omega arith) (λ e. omega arith) t

  group_past : {o : Over} {s r : List ℕ} → Group s r o → Behind s → Behind r
  group_past ungrouped t = t
  group_past (grouped y i j) t = step (λ e. omega arith) (λ e. omega arith) (token_past (λ e. omega arith) (λ e. omega arith) y t)

  amount_past : {a : Amount} {s r : List ℕ} → AmountText s r a → Behind s → Behind r
  amount_past (written n p o) t = group_past o (percent_past p (number_past n t))

  -- it stands behind the part, or is fine
  abbrev Passes : List ℕ → Type 0
  Passes r = Behind r ⊎ Fine (h ∷ x)

  module _ {L : Type 0} (Leaf : List ℕ → List ℕ → L → Type 0) (Ok : L → Type 0)
      (leaf-fine : (s r : List ℕ) (y : L) → Leaf s r y → Plain r → Ok y → Behind s → Passes r) where
    part_fine : {k : Rank} {s r : List ℕ} {a : Form L} → Part Leaf k s r a → Plain r → InRange Ok a → Behind s → Passes r
    part_fine (word y) d ok t =
        let t₁ = token_past (λ e. omega arith) (λ e. omega arith) y t in
        inl (step (λ e. omega arith) (λ e. omega arith) (step (λ e. omega arith) (λ e. omega arith) (step (λ e. omega arith) (λ e. omega arith) t₁)))
    part_fine (parens y p z) d ok t =
        ⊎_elim (λ t₁. inl (token_past (λ e. omega arith) (λ e. omega arith) z t₁)) (λ f. inr f)
        (part_fine p (plain refl z) ok (token_past (λ e. omega arith) (λ e. omega arith) y t))
    part_fine (prefix {a = a} o y p) d ok t = let n = prefix_bytes o in part_fine p d (range_of_prefix Ok o a ok) (token_past n.0 n.1 y t)
    part_fine (Part.leaf {s = s} {r = r} {x = y} p) d ok t = leaf-fine s r y p d ok t
    part_fine (one_small p) d ok t = part_fine p d ok t
    part_fine (reach {a = a} {b = b} o p y q) d ok t =
        let n = reach_bytes o in
        let i = range_of_reach Ok o a b ok in
        ⊎_elim (λ t₁. part_fine q d i.1 (token_past n.0 n.1 y t₁)) (λ f. inr f) (part_fine p (plain n.2 y) i.0 t)
    part_fine (one_until p) d ok t = part_fine p d ok t
    part_fine (Part.and p y q) d ok t =
        ⊎_elim (λ t₁. part_fine q d ok.1 (token_past (λ e. omega arith) (λ e. omega arith) y t₁)) (λ f. inr f) (part_fine p (plain refl y) ok.0 t)
    part_fine (one_and p) d ok t = part_fine p d ok t
    part_fine (Part.or p y q) d ok t =
        ⊎_elim (λ t₁. part_fine q d ok.1 (token_past (λ e. omega arith) (λ e. omega arith) y t₁)) (λ f. inr f) (part_fine p (plain refl y) ok.0 t)

  mark_fine : (s r : List ℕ) (k : ℕ) → Mark s r k → Plain r → k ≤ 31 → Behind s → Passes r
  mark_fine s r k (mark y n) d ok t = ⊎_elim (λ e. inr (in_mark e n d ok)) (λ t₁. inl (number_past n t₁)) (spaces_past y t)

  count_fine : (s r : List ℕ) (y : Counted) → Count s r y → Plain r → CountOk y → Behind s → Passes r
  count_fine s r y (count o p c a e g) d ok t =
      ⊎_elim
      (λ t₁.
      ⊎_elim (λ i. inr (in_count i a e g ok.1))
      (λ t₂. inl (token_past (λ e. omega arith) (λ e. omega arith) g (amount_past e (spaces_past a t₂)))) (spaces_past c t₁))
      (λ i. inr i)
      (part_fine Mark MarkOk mark_fine p (plain refl c) ok.0 (token_past (λ e. omega arith) (λ e. omega arith) o t))

  pub sheet_fine : {s : List ℕ} {cs : List Clause} (d : Sheet s cs) → Ranged d → Behind s → Fine (h ∷ x)
  sheet_fine done ok t = absurd t
  sheet_fine (line p y rest) ok t =
      ⊎_elim (λ t₁. sheet_fine rest ok.1 (token_past (λ e. omega arith) (λ e. omega arith) y t₁)) (λ f. f)
      (part_fine Count CountOk count_fine p (plain refl y) ok.0 t)

---- What begins with a number out of range is not fine, whatever stands behind the number.
digits_ge : {v k : ℕ} {s r : List ℕ} → Digits v s r k → v ≤ k
digits_ge end = omega arith
digits_ge (digit h i x) = let j = digits_ge x in omega arith

digits_most : {v k k' : ℕ} {s r r' : List ℕ} → Digits v s r k → Plain r → Digits v s r' k' → k' ≤ k
digits_most y d end = digits_ge y
digits_most end d (digit {b = b} i j z) = never (sym d ∙ is_digit_lem b i j)
digits_most (digit h i y) d (digit j k z) = digits_most y d z

number_most : {k k' : ℕ} {s r r' : List ℕ} → Number s r k → Plain r → Number s r' k' → k' ≤ k
number_most nought d nought = omega arith
number_most nought d (other h i z) = absurd (omega arith)
number_most (other h i y) d nought = absurd (omega arith)
number_most (other h i y) d (other j k z) = digits_most y d z

digits_same : {v k k' : ℕ} {s r r' : List ℕ} → Digits v s r k → Plain r → Digits v s r' k' → Plain r' → (r ≡ r') × (k ≡ k')
digits_same end d end d' = (refl, refl)
digits_same (digit {b = b} h i y) d end d' = never (sym d' ∙ is_digit_lem b h i)
digits_same end d (digit {b = b} i j z) d' = never (sym d ∙ is_digit_lem b i j)
digits_same (digit h i y) d (digit j k z) d' = digits_same y d z d'

number_same : {k k' : ℕ} {s r r' : List ℕ} → Number s r k → Plain r → Number s r' k' → Plain r' → (r ≡ r') × (k ≡ k')
number_same nought d nought d' = (refl, refl)
number_same nought d (other h i z) d' = absurd (omega arith)
number_same (other h i y) d nought d' = absurd (omega arith)
number_same (other h i y) d (other j k z) d' = digits_same y d z d'

group_plain : {s t r : List ℕ} {o : Over} → Group s t o → Spaces t (93 ∷ r) → Plain s
group_plain ungrouped g = plain refl g
group_plain (grouped x i j) g = plain refl x

percent_plain : {s t : List ℕ} {p : Bool} → Percent s t p → Plain t → Plain s
percent_plain without g = g
percent_plain sign g = refl

spaces_number : {q x r : List ℕ} {n : ℕ} → Spaces q x → Number x r n → skip q ≡ x
spaces_number none (nought {r = r}) = skip_at 48 r (λ e. omega arith)
spaces_number none (other {b = b} {s = s} h i y) = skip_at b s (λ e. omega arith)
spaces_number (space {s = s} y) n = skip_space s ∙ spaces_number y n

spaces_amount : {q x r : List ℕ} {a : Amount} → Spaces q x → AmountText x r a → skip q ≡ x
spaces_amount y (written n p o) = spaces_number y n

spaces_head : {c : ℕ} {s r : List ℕ} → Spaces s (c ∷ r) → (b : ℕ) (t : List ℕ) → s ≡ b ∷ t → (b ≡ 32) ⊎ (b ≡ c)
spaces_head {c} {s} {r} none b t e = let z : c ∷ r ≡ b ∷ t = e in inr (cc)
spaces_head (space {s = s} x) b t e = let z : 32 ∷ s ≡ b ∷ t = e in inl (cc)

-- no `%` stands behind a number with its `%`
unsigned : {t r r₁ : List ℕ} {o : Over} → Group (37 ∷ t) r o → Spaces r (93 ∷ r₁) → ⊥
unsigned {t} ungrouped g = ⊎_elim (λ e. omega arith) (λ e. omega arith) (spaces_head g 37 t refl)
unsigned {t} (grouped x i j) g = ⊎_elim (λ e. omega arith) (λ e. omega arith) (spaces_head x 37 t refl)

signed : {t r r₁ r₂ : List ℕ} {p : Bool} {o : Over} → Percent (37 ∷ t) r p → Group r r₁ o → Spaces r₁ (93 ∷ r₂) → p ≡ true
signed without d g = absurd (unsigned d g)
signed sign d g = refl

most_least : (p : Bool) → most p ≤ 999
most_least false = omega arith
most_least true = omega arith

pub mark_never : {x t : List ℕ} {n : ℕ} → Number x t n → 31 < n → Fine (109 ∷ x) → ⊥
mark_never {x} y h (in_mark {x = x₁} {r = r} {n = n} e z d l) =
    let i : x₁ ≡ x = cc in
    let k = number_most (subst (λ (w : List ℕ). Number w r n) i z) d y in
    omega arith
mark_never y h (in_count e a z g l) = let i : ◌≡◌ {A = ℕ} 109 44 = cc in omega arith

amount_never : {x t₁ t r r₁ : List ℕ} {n : ℕ} {p : Bool} {a : Amount} → Number x t₁ n → Percent t₁ t p → most p < n → AmountText x r a
    → Spaces r (93 ∷ r₁) → AmountOk a → ⊥
amount_never y without h (written {p = q} z f d) g l = let k = number_most z (percent_plain f (group_plain d g)) y in let o = most_least q in omega arith
amount_never y (sign {s = s}) h (written {s₂ = s₂} {p = q} z f d) g l =
    let e = number_same z (percent_plain f (group_plain d g)) y refl in
    let k = e.1 in
    let o = ap most (signed (subst (λ (w : List ℕ). Percent w s₂ q) e.0 f) d g) in
    omega arith

pub count_never : {q x t₁ t : List ℕ} {n : ℕ} {p : Bool} → Spaces q x → Number x t₁ n → Percent t₁ t p → most p < n → Fine (44 ∷ q) → ⊥
count_never c y f h (in_mark e z d l) = let i : ◌≡◌ {A = ℕ} 44 109 = cc in omega arith
count_never {q} {x} c y f h (in_count {q = q₁} {x = x₁} {r = r} {a = b} e a z g l) =
    let i : q₁ ≡ q = cc in
    let j : x₁ ≡ x = sym (spaces_amount a z) ∙ ap skip i ∙ spaces_number c y in
    amount_never y f h (subst (λ (w : List ℕ). AmountText w r b) j z) g l
