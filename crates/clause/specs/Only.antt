-- A sheet has each clause in one place only.
use Rattle.std.specs.Prelude.{ℕ, zero, suc, ◌+◌, ◌-◌, ◌≤◌, ◌<◌, ◌≡◌, refl, Bool, true, false, cond, List, [], ◌∷◌, length, take, drop, get_or}
use Rattle.std.proofs.Common.{arith, sym, ap, ap₂, ◌∙◌, get_or-drop, eq-eqb}
use Rattle.clause.specs.Clause.{is_end, line_start, line_length, clause_in}
use Rattle.clause.specs.Meaning.{line_ends, IsClause}
use Rattle.clause.specs.Lines.{start_zero, byte_before, clause_at}
use Rattle.clause.specs.declared.Span.{Span}

-- a byte 10 counts
some_end : (n : ℕ) (s : List ℕ) → get_or s n 0 ≡ 10 → 0 < line_ends (take (suc n) s)
unfolding line_ends
some_end zero [] h = absurd (omega arith)
some_end (suc n) [] h = absurd (omega arith)
some_end zero (b ∷ s) h = let z : ◌≡◌ {A = ℕ} (cond (is_end b) 1 0) 1 = ap (λ (t : Bool). cond t 1 0) (eq-eqb b 10 h) in omega arith
some_end (suc n) (b ∷ s) h = omega (arith, some_end n s h)

-- where k lines end before a byte that a line begins with, line k begins
start_only : (n : ℕ) (s : List ℕ) → n ≤ length s → (0 < n → get_or s (n - 1) 0 ≡ 10) → line_start (line_ends (take n s)) s ≡ n
unfolding line_start line_ends
start_only zero s h f = start_zero s
start_only (suc n) [] h f = absurd (omega arith)
start_only (suc n) (b ∷ s) h f =
    go (is_end b) refl (line_ends (take n s)) refl
    (start_only n s (omega arith) (λ p. sym (byte_before b s n p) ∙ f (omega arith)))
  where
    go : (t : Bool) → is_end b ≡ t → (m : ℕ) → line_ends (take n s) ≡ m → line_start m s ≡ n → line_start (cond t 1 0 + m) (b ∷ s) ≡ suc n
    go true e m q r =
        let j : 1 + m ≡ suc m = omega arith in
        ap (λ (j : ℕ). line_start j (b ∷ s)) j ∙ ap (λ (t : Bool). suc (line_start (cond t m (suc m)) s)) e ∙ ap suc r
    go false e zero q r =
        let j : n ≡ suc n - 1 = omega arith in
        let z : ◌≡◌ {A = ℕ} (cond (is_end b) 1 0) 0 = ap (λ (t : Bool). cond t 1 0) e in
        absurd (omega (arith, some_end n (b ∷ s) (ap (λ (i : ℕ). get_or (b ∷ s) i 0) j ∙ f (omega arith))))
    go false e (suc m) q r =
        let j : 0 + suc m ≡ suc m = omega arith in
        ap (λ (j : ℕ). line_start j (b ∷ s)) j ∙ ap (λ (t : Bool). suc (line_start (cond t m (suc m)) s)) e ∙ ap suc r

-- a line is as long as what no line end breaks and one stands behind
length_only : (n : ℕ) (s : List ℕ) → line_ends (take n s) ≡ 0 → get_or s n 0 ≡ 10 → line_length s ≡ n
unfolding line_length line_ends
length_only n [] h e = absurd (omega arith)
length_only zero (b ∷ s) h e = ap (λ (t : Bool). cond t 0 (suc (line_length s))) (eq-eqb b 10 e)
length_only (suc n) (b ∷ s) h e = go (is_end b) h (length_only n s (omega arith) e)
  where
    go : (t : Bool) → cond t 1 0 + line_ends (take n s) ≡ 0 → line_length s ≡ n → cond t 0 (suc (line_length s)) ≡ suc n
    go true h r = absurd (omega arith)
    go false h r = ap suc r

-- whatever is clause k is what is found
pub clause_only : (k : ℕ) (s : List ℕ) (p : Span) → IsClause s k p → p ≡ clause_in k s
clause_only k s p c =
    let start : line_start k s ≡ p.offset = ap (λ (j : ℕ). line_start j s) (sym c.before) ∙ start_only p.offset s (omega arith) c.begins in
    let size : line_length (drop (line_start k s) s) ≡ p.length =
    ap (λ (i : ℕ). line_length (drop i s)) start
    ∙ length_only p.length (drop p.offset s) c.unbroken (get_or-drop p.offset s p.length 0 ∙ c.ended) in
    sym (clause_at k s (omega arith) ∙ ap₂ (λ (x y : ℕ). record { offset = x; length = y }) start size)
