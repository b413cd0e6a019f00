-- A sheet of the grammar, line by line: no byte 10 stands inside a clause, so that line k is the k-th clause and, alone, a sheet of it.
use Prim.Native.Nat.{ℕ, zero, suc, ◌+◌, ◌<◌}
use Rattle.std.proofs.Common.{arith, sym, subst, ◌∙◌, ne_eqb}
use Rattle.std.specs.Prelude.{◌≡◌, Bool, true, false, length, take, get_or}
use Rattle.std.proofs.Math.Path.{refl, ap}
use Rattle.std.proofs.Math.Bool.{cond}
use mathlib.Core.List.{List, [], ◌∷◌, ◌++◌}
use Rattle.std.proofs.Math.ListN.{drop}
use Rattle.std.proofs.Math.Seq.{take-append_seam}
use Rattle.grammar.specs.Grammar.{Form, top, Spaces, none, space, Digits, end, digit, Number, nought, other, Percent, without, sign, Over, Group, ungrouped, grouped, Amount, AmountText, written, Prefix, not, next, finally, globally, prefix_byte, Reach, U, R, reach_byte, Rank, ors, Part, word, parens, prefix, one_small, reach, one_until, one_and, Mark, mark, Counted, Count, count, Clause, Sheet, done, line}
use Rattle.grammar.proofs.Ends.{swap_trans, swap_parts, frame_spaces, frame, frame_count}
use Rattle.clause.specs.Clause.{is_end, line_start, line_length}
use Rattle.clause.specs.Meaning.{line_ends}
use Rattle.clause.specs.Lines.{start_zero}

---- No token has a byte 10.
byte_ends : (b : ℕ) (r : List ℕ) → (b ≡ 10 → ⊥) → line_ends (b ∷ r) ≡ line_ends r
unfolding line_ends
byte_ends b r n = let z : ◌≡◌ {A = ℕ} (cond (is_end b) 1 0) 0 = ap (λ (t : Bool). cond t 1 0) (ne_eqb b 10 n) in omega arith

spaces_ends : {s r : List ℕ} → Spaces s r → line_ends s ≡ line_ends r
spaces_ends none = refl
spaces_ends (space {s = s} x) = byte_ends 32 s (omega arith) ∙ spaces_ends x

token_ends : {b : ℕ} {s r : List ℕ} → (b ≡ 10 → ⊥) → Spaces s (b ∷ r) → line_ends s ≡ line_ends r
token_ends {b} {s} {r} n x = spaces_ends x ∙ byte_ends b r n

digits_ends : {v n : ℕ} {s r : List ℕ} → Digits v s r n → line_ends s ≡ line_ends r
digits_ends end = refl
digits_ends (digit {b = b} {s = s} l h x) = byte_ends b s (omega arith) ∙ digits_ends x

number_ends : {n : ℕ} {s r : List ℕ} → Number s r n → line_ends s ≡ line_ends r
number_ends (nought {r = r}) = byte_ends 48 r (omega arith)
number_ends (other {b = b} {s = s} l h x) = byte_ends b s (omega arith) ∙ digits_ends x

percent_ends : {p : Bool} {s r : List ℕ} → Percent s r p → line_ends s ≡ line_ends r
percent_ends without = refl
percent_ends (sign {s = s}) = byte_ends 37 s (omega arith)

group_ends : {o : Over} {s r : List ℕ} → Group s r o → line_ends s ≡ line_ends r
group_ends ungrouped = refl
group_ends (grouped {b = b} {r = r} x l h) = token_ends (omega arith) x ∙ byte_ends b r (omega arith)

amount_ends : {x : Amount} {s r : List ℕ} → AmountText s r x → line_ends s ≡ line_ends r
amount_ends (written n p o) = number_ends n ∙ percent_ends p ∙ group_ends o

true_ends : (r : List ℕ) → line_ends (116 ∷ 114 ∷ 117 ∷ 101 ∷ r) ≡ line_ends r
unfolding line_ends
true_ends r = omega arith

prefix_no : (o : Prefix) → prefix_byte o ≡ 10 → ⊥
prefix_no not = omega arith
prefix_no next = omega arith
prefix_no finally = omega arith
prefix_no globally = omega arith

reach_no : (o : Reach) → reach_byte o ≡ 10 → ⊥
reach_no U = omega arith
reach_no R = omega arith

module _ {L : Type 0} (Leaf : List ℕ → List ℕ → L → Type 0) (leaf_ends : (s r : List ℕ) (x : L) → Leaf s r x → line_ends s ≡ line_ends r) where
  part_ends : {k : Rank} {s r : List ℕ} {a : Form L} → Part Leaf k s r a → line_ends s ≡ line_ends r
  part_ends (word {r = r} x) = spaces_ends x ∙ true_ends r
  part_ends (parens x p y) = token_ends (omega arith) x ∙ part_ends p ∙ token_ends (omega arith) y
  part_ends (prefix o x p) = token_ends (prefix_no o) x ∙ part_ends p
  part_ends (Part.leaf {s = s} {r = r} {x = x} l) = leaf_ends s r x l
  part_ends (one_small p) = part_ends p
  part_ends (reach o p x q) = part_ends p ∙ token_ends (reach_no o) x ∙ part_ends q
  part_ends (one_until p) = part_ends p
  part_ends (Part.and p x q) = part_ends p ∙ token_ends (omega arith) x ∙ part_ends q
  part_ends (one_and p) = part_ends p
  part_ends (Part.or p x q) = part_ends p ∙ token_ends (omega arith) x ∙ part_ends q

mark_ends : (s r : List ℕ) (k : ℕ) → Mark s r k → line_ends s ≡ line_ends r
mark_ends s r k (mark x n) = token_ends (omega arith) x ∙ number_ends n

count_ends : (s r : List ℕ) (x : Counted) → Count s r x → line_ends s ≡ line_ends r
count_ends s r x (count o p c d e g) =
    token_ends (omega arith) o ∙ part_ends Mark mark_ends p ∙ token_ends (omega arith) c ∙ spaces_ends d ∙ amount_ends e
    ∙ token_ends (omega arith) g

---- A line is its bytes, without byte 10, and byte 10.
record FirstLine (s r : List ℕ) (c : Clause) : Type 0 where
  body : List ℕ
  is : s ≡ body ++ (10 ∷ r)
  unbroken : line_ends body ≡ 0
  alone : Sheet (body ++ (10 ∷ [])) (c ∷ [])

ends_append : (s t : List ℕ) → line_ends (s ++ t) ≡ line_ends s + line_ends t
unfolding line_ends
ends_append [] t = omega arith
ends_append (b ∷ s) t = omega (arith, ends_append s t)

first_line : {s s₁ r : List ℕ} {c : Clause} → Part Count ors s s₁ c → Spaces s₁ (10 ∷ r) → FirstLine s r c
unfolding line_ends
first_line {s} {s₁} {r} {c} p x =
    let y = frame_spaces x (10 ∷ []) in
    let q = frame Count frame_count p y.0 in
    let w = swap_parts (swap_trans q.1 y.1) in
    let e : line_ends s ≡ line_ends (10 ∷ r) = part_ends Count count_ends p ∙ spaces_ends x in
    let f : line_ends s ≡ line_ends w.0 + line_ends (10 ∷ r) = ap line_ends w.1 ∙ ends_append w.0 (10 ∷ r) in
    record {
      body = w.0;
      is = w.1;
      unbroken = omega arith;
      alone = subst (λ (t : List ℕ). Sheet t (c ∷ [])) w.2 (line q.2 y.2 done);
    }

-- each clause has its line
pub sheet_ends : {s : List ℕ} {cs : List Clause} → Sheet s cs → line_ends s ≡ length cs
unfolding line_ends
sheet_ends done = refl
sheet_ends (line {r = r} p x rest) = part_ends Count count_ends p ∙ spaces_ends x ∙ omega (arith, sheet_ends rest)

---- The walk from line to line.
not_end : (b : ℕ) (s : List ℕ) → line_ends (b ∷ s) ≡ 0 → (is_end b ≡ false) × (line_ends s ≡ 0)
unfolding line_ends
not_end b s e = go (is_end b) e
  where
    go : (t : Bool) → cond t 1 0 + line_ends s ≡ 0 → (t ≡ false) × (line_ends s ≡ 0)
    go true e = absurd (omega arith)
    go false e = (refl, omega arith)

module _ (r : List ℕ) where
  length_first : (b : List ℕ) → line_ends b ≡ 0 → line_length (b ++ (10 ∷ r)) ≡ length b
  unfolding line_length
  length_first [] e = refl
  length_first (x ∷ b) e =
      let n = not_end x b e in
      ap (λ (t : Bool). cond t 0 (suc (line_length (b ++ (10 ∷ r))))) n.0 ∙ ap suc (length_first b n.1)

  drop_first : (k : ℕ) (b : List ℕ) → line_ends b ≡ 0 → drop (line_start (suc k) (b ++ (10 ∷ r))) (b ++ (10 ∷ r)) ≡ drop (line_start k r) r
  unfolding line_start
  drop_first k [] e = refl
  drop_first k (x ∷ b) e =
      let n = not_end x b e in
      ap (λ (t : Bool). drop (line_start (cond t k (suc k)) (b ++ (10 ∷ r))) (b ++ (10 ∷ r))) n.0 ∙ drop_first k b n.1

-- the text from line k on, and line k
abbrev pub from_line : ℕ → List ℕ → List ℕ
from_line k s = drop (line_start k s) s

abbrev pub line_text : ℕ → List ℕ → List ℕ
line_text k s = take (line_length (from_line k s)) (from_line k s)

abbrev Alone : List ℕ → Clause → Type 0
Alone text c = Sheet (text ++ (10 ∷ [])) (c ∷ [])

pub line_alone : {s : List ℕ} {cs : List Clause} → Sheet s cs → (k : ℕ) → k < length cs → Sheet (line_text k s ++ (10 ∷ [])) (get_or cs k top ∷ [])
line_alone done k l = absurd (omega arith)
line_alone (line {s = s} {r = r} {c = c} p x rest) zero l =
    let w = first_line p x in
    let e : from_line 0 s ≡ w.body ++ (10 ∷ r) = ap (λ (n : ℕ). drop n s) (start_zero s) ∙ w.is in
    let t : line_text 0 s ≡ w.body =
    ap (λ (u : List ℕ). take (line_length u) u) e ∙ ap (λ (n : ℕ). take n (w.body ++ (10 ∷ r))) (length_first r w.body w.unbroken)
    ∙ take-append_seam w.body (10 ∷ r) in
    subst (λ (u : List ℕ). Alone u c) (sym t) w.alone
line_alone (line {s = s} {r = r} {cs = cs} p x rest) (suc k) l =
    let w = first_line p x in
    let e : from_line (suc k) s ≡ from_line k r = ap (from_line (suc k)) w.is ∙ drop_first r k w.body w.unbroken in
    subst (λ (u : List ℕ). Alone (take (line_length u) u) (get_or cs k top)) (sym e) (line_alone rest k (omega arith))
