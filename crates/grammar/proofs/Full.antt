-- 32 lines within the limits and then any byte: 14 there.
use Prim.Native.Nat.{ℕ, suc, ◌-◌, ◌≤◌, ◌<◌, max}
use Rattle.std.specs.Prelude.{◌≡◌, Bool, List, [], ◌∷◌, ◌++◌, length, take, drop}
use Rattle.std.proofs.Math.Path.{refl, ap}
use Rattle.std.proofs.Common.{subst, ◌∙◌, inl, inr, arith, take-append-drop, length-drop, le-ltb}
use Rattle.grammar.specs.Grammar.{Form, Spaces, Rank, Part, word, parens, prefix, one_small, reach, one_until, one_and, Mark, Counted, Count, count, Clause, Sheet, done, line}
use Rattle.grammar.specs.Limits.{level, mark_level, count_level, nodes, count_nodes, InRange, CountOk, Fits, FewBytes}
use Rattle.grammar.specs.Reader.{pick, Got, got, no, bind, expect, clauses, clause_line, lines, refused, outcome, start, read_sheet}
use Rattle.grammar.proofs.Ends.{Swap, here, there, swap_trans, Framed, frame_token, frame, frame_mark, frame_count}
use Rattle.grammar.proofs.Each.{Each, gives, denies}
use Rattle.grammar.proofs.Sound.{spaces_short, part_short}
use Rattle.grammar.proofs.Agree.{neither, Match, Match₁, Fault, expect_agrees}
use Rattle.grammar.proofs.Complete.{clauses_agrees, itself}

both_max : {a b c d : ℕ} → a ≡ b → c ≡ d → max a c ≡ max b d
both_max h k = cc

-- another end leaves a part's level as it is
module _ {L : Type 0} (Leaf : List ℕ → List ℕ → L → Type 0) (leafLevel : (s r : List ℕ) (x : L) → Leaf s r x → ℕ)
    (frame-leaf : (s r : List ℕ) (x : L) → Leaf s r x → Framed (λ s r. Leaf s r x) s r)
    (same : (s r : List ℕ) (x : L) (p : Leaf s r x) (t : List ℕ) → leafLevel (frame-leaf s r x p t).0 t x (frame-leaf s r x p t).2 ≡ leafLevel s r x p) where
  frame-level : {k : Rank} {s r : List ℕ} {a : Form L} (p : Part Leaf k s r a) (t : List ℕ)
      → level Leaf leafLevel (frame Leaf frame-leaf p t).2 ≡ level Leaf leafLevel p
  unfolding frame
  frame-level (word x) t = refl
  frame-level (parens x p y) t = ap suc (frame-level p _)
  frame-level (prefix o x p) t = ap suc (frame-level p t)
  frame-level (Part.leaf {s = s} {r = r} {x = x} p) t = same s r x p t
  frame-level (one_small p) t = frame-level p t
  frame-level (reach o p x q) t = both_max (frame-level p _) (ap suc (frame-level q t))
  frame-level (one_until p) t = frame-level p t
  frame-level (Part.and p x q) t = both_max (frame-level p _) (frame-level q t)
  frame-level (one_and p) t = frame-level p t
  frame-level (Part.or p x q) t = both_max (frame-level p _) (frame-level q t)

mark_level_lem : (s r : List ℕ) (k : ℕ) (m : Mark s r k) (t : List ℕ) → mark_level (frame_mark s r k m t).0 t k (frame_mark s r k m t).2 ≡ mark_level s r k m
mark_level_lem s r k m t = refl

count_level_lem : (s r : List ℕ) (x : Counted) (p : Count s r x) (t : List ℕ)
    → count_level (frame_count s r x p t).0 t x (frame_count s r x p t).2 ≡ count_level s r x p
unfolding frame_count
count_level_lem s r x (count o p c d e g) t = ap suc (frame-level Mark mark_level frame_mark mark_level_lem p _)

-- the text with u behind its end
swap_append_at : {r e s t : List ℕ} (x : Swap r e s t) (u : List ℕ) → e ≡ r ++ u → t ≡ s ++ u
swap_append_at here u h = h
swap_append_at (there {c = c} x) u h = ap (λ (l : List ℕ). c ∷ l) (swap_append_at x u h)

swap_append : {r s t : List ℕ} (u : List ℕ) → Swap r (r ++ u) s t → t ≡ s ++ u
swap_append u x = swap_append_at x u refl

swap_same : {s t : List ℕ} → Swap [] [] s t → s ≡ t
swap_same here = refl
swap_same (there {c = c} x) = ap (λ (l : List ℕ). c ∷ l) (swap_same x)

-- on the text itself, what is within the limits is given
exact : {A : Type 0} {F G : Type 0} {a : A} {t : List ℕ} (n c : ℕ) (g : Got A) → Each (Match [] [] neither n a c t) (Fault [] [] neither F G) g → F → G
    → (m : ℕ) × (g ≡ got a m t)
exact n c g (gives {n = m} (inl v)) f h = (m, let e₁ = v.0 in let e₂ = swap_same v.2 in cc)
exact n c g (gives (inr v)) f h = absurd (omega arith)
exact n c g (denies q) f h = let z = q.only f h in absurd (omega arith)

exact₁ : {A : Type 0} {n : ℕ} {a : A} {t : List ℕ} (g : Got A) → Each (Match₁ [] [] neither n a t) (Fault [] [] neither (Unit {0}) (Unit {0})) g
    → (m : ℕ) × (g ≡ got a m t)
exact₁ g (gives {n = m} (inl v)) = (m, let e₁ = v.0 in let e₂ = swap_same v.2 in cc)
exact₁ g (gives (inr v)) = absurd (omega arith)
exact₁ g (denies q) = let z = q.only tt tt in absurd (omega arith)

lines_on : (k : ℕ) (s r u : List ℕ) (c : Clause) (m : ℕ) → 0 < length s → clause_line 128 s ≡ got c m r → lines k r ≡ no 14 u → lines (suc k) s ≡ no 14 u
unfolding lines bind
lines_on k [] r u c m h e f = absurd (omega arith)
lines_on k (b ∷ s) r u c m h e f =
    ap (λ (g : Got Clause). bind g (λ c m r. bind (lines k r) (λ cs m₁ r₁. got (c ∷ cs) m₁ r₁))) e
    ∙ ap (λ (g : Got (List Clause)). bind g (λ cs m₁ r₁. got (c ∷ cs) m₁ r₁)) f

line_reads : {s s₁ r : List ℕ} {c : Clause} (p : Part Count Rank.ors s s₁ c) → Spaces s₁ (10 ∷ r) → level Count count_level p ≤ 32
    → nodes count_nodes c ≤ 128 → InRange CountOk c → (m : ℕ) × (clause_line 128 s ≡ got c m r)
unfolding clause_line bind
line_reads {s} {s₁} {r} {c} p x low few ok =
    let y = exact 128 (nodes count_nodes c) (clauses 32 128 s)
    (clauses_agrees [] [] neither 32 128 s s s₁ c p (itself s) (record { byte = 10; rest = r; spaces = x; ends = refl; plain = refl })) (low, few) ok in
    let z = exact₁ (expect 10 c y.0 s₁) (expect_agrees [] [] neither 10 (λ e. omega arith) c y.0 s₁ s₁ r (itself s₁) x) in
    (z.0, ap (λ (g : Got Clause). bind g (λ c m r. expect 10 c m r)) y.1 ∙ z.1)

sheet_then : {s : List ℕ} {cs : List Clause} (d : Sheet s cs) → Fits d → (u : List ℕ) → 0 < length u → lines (length cs) (s ++ u) ≡ no 14 u
sheet_then done f [] h = absurd (omega arith)
sheet_then done f (b ∷ u) h = unfold lines in refl
sheet_then {s} (line {s₁ = s₁} {r = r} {c = c} {cs = cs} p x rest) f u h =
    let x' = frame_token x (r ++ u) in
    let p' = frame Count frame_count p x'.0 in
    let e : p'.0 ≡ s ++ u = swap_append u (swap_trans p'.1 x'.1) in
    let i = frame-level Count count_level frame_count count_level_lem p x'.0 in
    let l = spaces_short x'.2 in
    let k = part_short Count count_level count_nodes CountOk frame_count p'.2 in
    let y = line_reads p'.2 x'.2 (omega (arith, f.0.0)) f.0.1 f.1.0 in
    subst (λ (t : List ℕ). lines (suc (length cs)) t ≡ no 14 u) e
    (lines_on (length cs) p'.0 (r ++ u) u c y.0 (omega arith) y.1 (sheet_then rest (f.0.2, f.1.1) u h))

-- "or the first byte of the 33rd line": whatever stands there
start_full : (s r : List ℕ) → 0 < length s → lines 32 s ≡ no 14 r → start s ≡ refused 14 (length s - length r)
unfolding start outcome
start_full [] r h e = absurd (omega arith)
start_full (b ∷ s) r h e = ap (outcome (length (b ∷ s))) e

pub line_33 : (s : List ℕ) (k : ℕ) (cs : List Clause) (d : Sheet (take k s) cs) → Fits d → length cs ≡ 32 → k < length s → FewBytes s
    → read_sheet s ≡ refused 14 k
unfolding read_sheet
line_33 s k cs d f e h b =
    let n = length-drop k s in
    let i : length s - length (drop k s) ≡ k = omega arith in
    let j : lines 32 s ≡ no 14 (drop k s) =
    subst (λ (m : ℕ). lines m s ≡ no 14 (drop k s)) e
    (subst (λ (t : List ℕ). lines (length cs) t ≡ no 14 (drop k s)) (take-append-drop k s) (sheet_then d f (drop k s) (omega arith))) in
    ap (λ (x : Bool). pick x (refused 12 0) (start s)) (le-ltb 16384 (length s) b) ∙ start_full s (drop k s) (omega arith) j ∙ ap (refused 14) i
