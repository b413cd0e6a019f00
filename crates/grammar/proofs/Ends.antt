-- A text with another end; every relation of the grammar holds whatever stands behind it.
use Rattle.std.specs.Prelude.{ℕ, ◌≤◌, ◌<◌, ◌≡◌, refl, Bool, List, [], ◌∷◌, ◌++◌, length}
use Rattle.std.proofs.Common.{ap, arith}
use Rattle.grammar.specs.Grammar.{Form, Spaces, none, space, Digits, end, digit, Number, nought, other, Percent, without, sign, Over, Group, ungrouped, grouped, AmountText, written, Rank, Part, word, parens, prefix, one_small, reach, one_until, one_and, Mark, mark, Amount, Counted, Count, count}
use Rattle.grammar.specs.Answers.{Token, Large}

-- the second text is the first with its end u replaced by v
pub data Swap (u v : List ℕ) : List ℕ → List ℕ → Type 0 where
  here : Swap u v u v
  there : {c : ℕ} {s t : List ℕ} → Swap u v s t → Swap u v (c ∷ s) (c ∷ t)

pub swap_trans : {p q u v s t : List ℕ} → Swap u v s t → Swap p q u v → Swap p q s t
swap_trans here y = y
swap_trans (there x) y = there (swap_trans x y)

pub swap_short : {u v s t : List ℕ} → Swap u v s t → length u ≤ length s
swap_short here = omega arith
swap_short (there x) = let h = swap_short x in omega arith

pub swap_parts : {u v s t : List ℕ} → Swap u v s t → (p : List ℕ) × (s ≡ p ++ u) × (t ≡ p ++ v)
swap_parts here = ([], refl, refl)
swap_parts (there {c = c} x) = let y = swap_parts x in (c ∷ y.0, ap (λ (l : List ℕ). c ∷ l) y.1, ap (λ (l : List ℕ). c ∷ l) y.2)

abbrev pub Framed : (List ℕ → List ℕ → Type 0) → List ℕ → List ℕ → Type 0
Framed R s r = (t : List ℕ) → (s' : List ℕ) × Swap r t s s' × R s' t

pub frame_spaces : {s r : List ℕ} → Spaces s r → Framed Spaces s r
frame_spaces none t = (t, here, none)
frame_spaces (space x) t = let y = frame_spaces x t in (32 ∷ y.0, there y.1, space y.2)

pub frame_token : {c : ℕ} {s r : List ℕ} → Spaces s (c ∷ r) → Framed (λ s r. Spaces s (c ∷ r)) s r
frame_token {c} x t = let y = frame_spaces x (c ∷ t) in (y.0, swap_trans y.1 (there here), y.2)

pub frame_digits : {v n : ℕ} {s r : List ℕ} → Digits v s r n → Framed (λ s r. Digits v s r n) s r
frame_digits end t = (t, here, end)
frame_digits (digit {b = b} h k x) t = let y = frame_digits x t in (b ∷ y.0, there y.1, digit h k y.2)

pub frame_number : {n : ℕ} {s r : List ℕ} → Number s r n → Framed (λ s r. Number s r n) s r
frame_number nought t = (48 ∷ t, there here, nought)
frame_number (other {b = b} h k x) t = let y = frame_digits x t in (b ∷ y.0, there y.1, other h k y.2)

pub frame_percent : {p : Bool} {s r : List ℕ} → Percent s r p → Framed (λ s r. Percent s r p) s r
frame_percent without t = (t, here, without)
frame_percent sign t = (37 ∷ t, there here, sign)

pub frame_group : {o : Over} {s r : List ℕ} → Group s r o → Framed (λ s r. Group s r o) s r
frame_group ungrouped t = (t, here, ungrouped)
frame_group (grouped {b = b} x h k) t = let y = frame_token x (b ∷ t) in (y.0, swap_trans y.1 (there here), grouped y.2 h k)

pub frame_amount : {x : Amount} {s r : List ℕ} → AmountText s r x → Framed (λ s r. AmountText s r x) s r
frame_amount (written n p o) t =
    let c = frame_group o t in
    let b = frame_percent p c.0 in
    let a = frame_number n b.0 in
    (a.0, swap_trans a.1 (swap_trans b.1 c.1), written a.2 b.2 c.2)

pub amount_short : {x : Amount} {s r : List ℕ} → AmountText s r x → length r ≤ length s
amount_short {r = r} x = swap_short (frame_amount x r).1

-- a token is some bytes
pub token_in : {q t : List ℕ} → Token q t → length t < length q
token_in Token.word = omega arith
token_in {t = t} (Token.mark y) = let h = swap_short (frame_number y.number t).1 in omega arith
token_in Token.paren = omega arith
token_in Token.bracket = omega arith
token_in (Token.prefix o) = omega arith
token_in (Token.reach o) = omega arith
token_in Token.and = omega arith
token_in Token.or = omega arith

-- a text that goes on where another is refused: with its numbers in range, or with the token that is refused
pub data Mode : Type 0 where
  near whole : Mode

pub not_near : {A : Type 0} → whole ≡ near → A
not_near e = let z : ◌≡◌ {A = ℕ} 0 1 = cc in absurd (omega arith)

-- what it keeps of what is refused by w at r; it goes on with v where q stands
pub data Keeps (m : Mode) (w : ℕ) (r : List ℕ) : List ℕ → List ℕ → Type 0 where
  keeps_near : {v : List ℕ} → m ≡ near → Keeps m w r r v
  keeps_13 : {v : List ℕ} → w ≡ 13 → Keeps m w r r v
  keeps_14 : {v r₁ v₁ : List ℕ} → w ≡ 14 → Token r r₁ → Swap r₁ v₁ r v → Keeps m w r r v
  keeps_15 : {q v r₁ v₁ : List ℕ} → m ≡ whole → w ≡ 15 → Large q r r₁ → Swap r₁ v₁ q v → Keeps m w r q v

module _ {L : Type 0} (Leaf : List ℕ → List ℕ → L → Type 0) (frame-leaf : (s r : List ℕ) (x : L) → Leaf s r x → Framed (λ s r. Leaf s r x) s r) where
  unfoldable pub frame : {k : Rank} {s r : List ℕ} {a : Form L} → Part Leaf k s r a → Framed (λ s r. Part Leaf k s r a) s r
  frame (word x) t = let y = frame_spaces x (116 ∷ 114 ∷ 117 ∷ 101 ∷ t) in (y.0, swap_trans y.1 (there (there (there (there here)))), word y.2)
  frame (parens x p y) t =
      let c = frame_token y t in
      let b = frame p c.0 in
      let a = frame_token x b.0 in
      (a.0, swap_trans a.1 (swap_trans b.1 c.1), parens a.2 b.2 c.2)
  frame (prefix o x p) t = let b = frame p t in let a = frame_token x b.0 in (a.0, swap_trans a.1 b.1, prefix o a.2 b.2)
  frame (Part.leaf {s = s} {r = r} {x = x} p) t = let b = frame-leaf s r x p t in (b.0, b.1, Part.leaf b.2)
  frame (one_small p) t = let b = frame p t in (b.0, b.1, one_small b.2)
  frame (reach o p x q) t =
      let c = frame q t in
      let b = frame_token x c.0 in
      let a = frame p b.0 in
      (a.0, swap_trans a.1 (swap_trans b.1 c.1), reach o a.2 b.2 c.2)
  frame (one_until p) t = let b = frame p t in (b.0, b.1, one_until b.2)
  frame (Part.and p x q) t =
      let c = frame q t in
      let b = frame_token x c.0 in
      let a = frame p b.0 in
      (a.0, swap_trans a.1 (swap_trans b.1 c.1), Part.and a.2 b.2 c.2)
  frame (one_and p) t = let b = frame p t in (b.0, b.1, one_and b.2)
  frame (Part.or p x q) t =
      let c = frame q t in
      let b = frame_token x c.0 in
      let a = frame p b.0 in
      (a.0, swap_trans a.1 (swap_trans b.1 c.1), Part.or a.2 b.2 c.2)

unfoldable pub frame_mark : (s r : List ℕ) (k : ℕ) → Mark s r k → Framed (λ s r. Mark s r k) s r
frame_mark s r k (mark x n) t = let b = frame_number n t in let a = frame_token x b.0 in (a.0, swap_trans a.1 b.1, mark a.2 b.2)

unfoldable pub frame_count : (s r : List ℕ) (x : Counted) → Count s r x → Framed (λ s r. Count s r x) s r
frame_count s r x (count o p c d e g) t =
    let g' = frame_token g t in
    let e' = frame_amount e g'.0 in
    let d' = frame_spaces d e'.0 in
    let c' = frame_token c d'.0 in
    let p' = frame Mark frame_mark p c'.0 in
    let o' = frame_token o p'.0 in (
      o'.0,
      swap_trans o'.1 (swap_trans p'.1 (swap_trans c'.1 (swap_trans d'.1 (swap_trans e'.1 g'.1)))),
      count o'.2 p'.2 c'.2 d'.2 e'.2 g'.2,
    )
