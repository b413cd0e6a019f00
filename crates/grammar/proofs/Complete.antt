-- The reader of a sheet is complete: what is in the grammar and within the limits is accepted as it is there; and a byte refused by 13 has no place.
use Prim.Native.Nat.{ℕ, zero, suc, ◌+◌, ◌-◌, ◌≤◌, ◌<◌}
use Rattle.std.specs.Prelude.{◌≡◌, ◌⊎◌, Bool, true, false, length, take, leb, ltb}
use Rattle.std.proofs.Math.Path.{refl, ap, subst}
use Rattle.std.proofs.Common.{sym, ◌∙◌}
use Rattle.std.proofs.Math.Logic.{inl, inr, ⊎_elim}
use mathlib.Core.List.{List, [], ◌∷◌, ◌++◌}
use native.Mathlib.Omega.{arith}
use Rattle.std.proofs.Math.Dec.{eqb}
use borrow.Author.Tests.{ltb-true, leb-false, ne_eqb, le-ltb, lt-ltb}
use Rattle.grammar.specs.Grammar.{Spaces, Number, nought, other, Percent, without, sign, Rank, Part, Mark, mark, Inner, Over, fleet, group, Group, ungrouped, grouped, Amount, AmountText, written, counted, Count, count, Clause, Sheet, done, line}
use Rattle.grammar.specs.Limits.{level, nodes, InRange, mark_level, mark_nodes, MarkOk, count_level, count_nodes, AmountOk, CountOk, most, Sized, Ranged, Fits, FewLines, FewBytes}
use Rattle.grammar.specs.Reader.{pick, Got, got, no, bind, skip, is_digit, number, percent, ors, mark_by, marks, inners, limits, group_digit, over_at, overs, amounts, count_end, count_by, counts, clauses, clause_line, lines, accepted, refused, outcome, start, read_sheet}
use Rattle.grammar.specs.Answers.{RefusedBy, InSheet, Never, Beyond}
use Rattle.grammar.proofs.Ends.{Swap, here, there, whole, not_near, keeps_near, keeps_13, keeps_14, keeps_15, swap_short, token_in, frame_count}
use Rattle.grammar.proofs.Each.{Each, gives, denies, each_bind, each_map, each_both, each_node, either, is_group_lem, number_keeps}
use Rattle.grammar.proofs.Sound.{spaces_short, part_short}
use Rattle.grammar.proofs.Accepts.{GoesOn, on, full, refusal}
use Rattle.grammar.proofs.Short.{skip_short, expect_inside, expect_short, percent_short, group_digit_short, overs_short, marks_short, inners_short, threshold_short, counts_short, lines_short}
use Rattle.grammar.proofs.Agree.{SameHead, neither, both, near_step, near_nil, HeadNot, head_not, follow_digit, Near, Close, token, arrive, Match, Match₁, Fault, limit, range, gone, fault_map, beyond, skipped, expect_agrees, number_agrees, percent_agrees, Agrees, AgreesLeaf, ors_agrees}

number_head : {s t : List ℕ} {k : ℕ} → Number s t k → HeadNot (λ b. eqb b 32) s
number_head (nought {r = r}) = (48, r, refl, refl)
number_head (other {b = b} {s = s} h i x) = (b, s, refl, ne_eqb b 32 (λ e. omega arith))

amount_head : {s t : List ℕ} {x : Amount} → AmountText s t x → HeadNot (λ b. eqb b 32) s
amount_head (written n p o) = number_head n

group_head : (f : ℕ → Bool) {s t r : List ℕ} {o : Over} → f 32 ≡ false → f 64 ≡ false → f 93 ≡ false → Group s t o → Spaces t (93 ∷ r) → HeadNot f s
group_head f h i j ungrouped g = head_not f h j g
group_head f h i j (grouped x k l) g = head_not f h i x

percent_head : {s t : List ℕ} {p : Bool} → Percent s t p → HeadNot is_digit t → HeadNot is_digit s
percent_head without h = h
percent_head (sign {s = s}) h = (37, s, refl, refl)

module _ (u u' : List ℕ) (same : SameHead u u') where
  marks_agrees : (l : ℕ) → AgreesLeaf u u' same Mark mark_level mark_nodes MarkOk l marks
  unfolding marks mark_by
  marks_agrees l n s s' t' k (mark {s₁ = s₁'} x y) near fo =
      ⊎_elim
      (λ z. inl (
        109,
        z.0,
        z.1,
        refl,
        each_bind (number n z.0) _
            (each_map (each_both (number_agrees u u' same n z.0 s₁' t' k y z.2 (follow_digit fo)) (number_keeps n z.0))
            (λ k₁ m r i.
            ⊎_elim
            (λ g.
            each_node (109 ∷ z.0) m _
            (λ m₁ j. either (Each (Match u u' same n k 1 t') (Fault u u' same ((0 ≤ l) × (1 ≤ n)) (k ≤ 31))) (leb k₁ 31) (got k₁ m₁ r) (no 15 z.0)
            (λ e. gives (inl (g.0, omega (arith, g.1), g.2)))
            (λ e. denies (range u u' same (λ v. omega (arith, v, g.0, leb-false k₁ 31 e)))))
            (λ j. limit u u' same (λ v. omega (arith, v.1, g.1))))
            (λ g.
            each_node (109 ∷ z.0) m _
            (λ m₁ j. either (Each (Match u u' same n k 1 t') (Fault u u' same ((0 ≤ l) × (1 ≤ n)) (k ≤ 31))) (leb k₁ 31) (got k₁ m₁ r) (no 15 z.0)
            (λ e. gives (inr (skipped u u' same r g)))
            (λ e. denies (range u u' same (λ v. omega arith))))
            (λ j. limit u u' same (λ v. omega (arith, v.1, i.1))))
            i.0)
            (λ w r i. i.0)),
      ))
      (λ z. inr z)
      (token u u' same (λ e. omega arith) near x)

  inners_agrees : (l : ℕ) → Agrees u u' same Mark mark_level mark_nodes MarkOk Rank.ors l (inners l)
  unfolding inners
  inners_agrees l = ors_agrees u u' same Mark mark_level mark_nodes MarkOk (λ i. marks) marks_agrees (λ i. marks_short) l

  -- a number with its `%`
  limit_agrees : {F G : Type 0} (n : ℕ) (s s' s₁' t' : List ℕ) (k : ℕ) (p : Bool) → Number s' s₁' k → Percent s₁' t' p → HeadNot is_digit t'
      → HeadNot (λ b. eqb b 37) t' → Close u u' same s s' → (G → k ≤ most p) → Each (Match₁ u u' same n (k, p) t') (Fault u u' same F G) (limits n s)
  unfolding limits
  limit_agrees {F} {G} n s s' s₁' t' k p e f d g close ok =
      each_bind (number n s) _
      (each_map (number_agrees u u' same n s s' s₁' k e close (percent_head f d))
      (λ k₁ m r i.
      each_bind (percent m r) _
      (⊎_elim
      (λ j.
      each_map (percent_agrees u u' same m r s₁' t' p f j.2 g)
      (λ p₁ m₁ r₁ y.
      either (Each (Match₁ u u' same n (k, p) t') (Fault u u' same F G)) (leb k₁ (most p₁)) (got (k₁, p₁) m₁ r₁) (no 15 s)
      (λ q. gives (⊎_elim (λ z. inl ((let kk = j.0 in let pp = z.0 in cc), omega (arith, j.1, z.1), z.2)) (λ z. inr z) y))
      (λ q. denies (range u u' same (λ v. ⊎_elim (λ z. omega (arith, ok v, j.0, ap most z.0, leb-false k₁ (most p₁) q)) (λ z. omega arith) y))))
      (λ w r₁ y. y))
      (λ j.
      each_map (percent_short (length r) m r (omega arith))
      (λ p₁ m₁ r₁ y.
      either (Each (Match₁ u u' same n (k, p) t') (Fault u u' same F G)) (leb k₁ (most p₁)) (got (k₁, p₁) m₁ r₁) (no 15 s)
      (λ q. gives (inr (omega arith))) (λ q. denies (range u u' same (λ v. omega arith))))
      (λ w r₁ y. let h = y.0 in gone u u' same (omega arith)))
      i))
      (λ w r i. i))

  group_digit_agrees : {F G : Type 0} (n : ℕ) (s t' : List ℕ) (b : ℕ) → 48 ≤ b → b ≤ 55 → Close u u' same s (b ∷ t')
      → Each (Match u u' same n (group (b - 48)) 0 t') (Fault u u' same F G) (group_digit n s)
  unfolding group_digit
  group_digit_agrees {F} {G} n s t' b h i (inl near) =
      let y = near_step same near b t' refl in
      let P : Got Over → Type 0 = Each (Match u u' same n (group (b - 48)) 0 t') (Fault u u' same F G) in
      subst (λ (r : List ℕ). P (group_digit n r)) (sym y.1)
      (subst (λ (x : Bool). P (pick x (got (group (b - 48)) n y.0) (no 13 (b ∷ y.0)))) (sym (is_group_lem b h i))
      (gives (⊎_elim (λ z. inl (refl, omega arith, z)) (λ z. inr (skipped u u' same y.0 z)) y.2)))
  group_digit_agrees n s t' b h i (inr past) = beyond u u' same 0 (length s) past (group_digit_short (length s) n s (omega arith))

  over_agrees : {F G : Type 0} (n : ℕ) (s s' t' r' : List ℕ) (o : Over) → Group s' t' o → Spaces t' (93 ∷ r') → Near u u' same s s'
      → Each (Match u u' same n o 0 t') (Fault u u' same F G) (overs n s)
  unfolding overs over_at
  over_agrees {F} {G} n s s' t' r' o ungrouped g near =
      ⊎_elim
      (λ z. subst (λ (r : List ℕ). Each (Match u u' same n fleet 0 s') (Fault u u' same F G) (over_at n s r)) (sym z.1)
      (gives (inl (refl, omega arith, near))))
      (λ z. beyond u u' same 0 (length (skip s)) z (overs_short (length (skip s)) n s (omega arith)))
      (token u u' same (λ e. omega arith) near g)
  over_agrees {F} {G} n s s' t' r' o (grouped {b = b} x h i) g near =
      ⊎_elim
      (λ z. subst (λ (r : List ℕ). Each (Match u u' same n (group (b - 48)) 0 t') (Fault u u' same F G) (over_at n s r)) (sym z.1)
      (group_digit_agrees n z.0 t' b h (omega arith) z.2))
      (λ z. beyond u u' same 0 (length (skip s)) z (overs_short (length (skip s)) n s (omega arith)))
      (token u u' same (λ e. omega arith) near x)

  -- an amount, up to the `]` behind it
  amount_agrees : {F G : Type 0} (n : ℕ) (s s' t' r' : List ℕ) (x : Amount) → AmountText s' t' x → Spaces t' (93 ∷ r') → Close u u' same s s'
      → (G → AmountOk x) → Each (Match u u' same n x 0 t') (Fault u u' same F G) (amounts n s)
  unfolding amounts
  amount_agrees {F} {G} n s s' t' r' x (written {s₁ = s₁'} {s₂ = s₂'} {n = k} {p = p} {o = o} e f d) g close ok =
      each_bind (limits n s) _
      (each_map
      (limit_agrees n s s' s₁' s₂' k p e f (group_head is_digit refl refl refl d g) (group_head (λ b. eqb b 37) refl refl refl d g) close ok)
      (λ y m r i.
      each_bind (overs m r) _
      (⊎_elim
      (λ j.
      each_map (over_agrees m r s₂' t' r' o d g j.2)
      (λ o₁ m₁ r₁ z. gives (⊎_elim (λ v. inl ((let yy = j.0 in let oo = v.0 in cc), omega (arith, j.1, v.1), v.2)) (λ v. inr v) z)) (λ w r₁ z. z))
      (λ j. let h = skip_short r in
      each_map (overs_short (length r) m r h) (λ o₁ m₁ r₁ z. gives (inr (omega arith))) (λ w r₁ z. let q = z.0 in gone u u' same (omega arith)))
      i))
      (λ w r i. i))

  -- a count from its amount on
  threshold_agrees : {F G : Type 0} (a : Inner) (n m : ℕ) (s s₄' s₅' t' : List ℕ) (x : Amount) → AmountText s₄' s₅' x → Spaces s₅' (93 ∷ t')
      → Close u u' same s s₄' → n ≡ suc (m + nodes mark_nodes a) → (G → AmountOk x)
      → Each (Match u u' same n (counted a x) (suc (nodes mark_nodes a)) t') (Fault u u' same F G) (count_end a m s)
  unfolding count_end
  threshold_agrees {F} {G} a n m s s₄' s₅' t' x e g close h ok =
      let c : ℕ = suc (nodes mark_nodes a) in
      each_bind (amounts m s) _
      (each_map (amount_agrees m s s₄' s₅' t' x e g close ok)
      (λ x₁ m₁ r i.
      ⊎_elim
      (λ j.
      each_map (expect_agrees u u' same 93 (λ z. omega arith) (counted a x₁) m₁ r s₅' t' j.2 g)
      (λ v m₂ r₂ z. ⊎_elim (λ w. inl ((let xx = j.0 in let vv = w.0 in cc), omega (arith, j.1, w.1), w.2)) (λ w. inr (skipped u u' same r₂ w)) z)
      (λ w r₂ z. z))
      (λ j. beyond u u' same c (length (skip r)) j (expect_short 93 (counted a x₁) (length (skip r)) m₁ r (omega arith)))
      i)
      (λ w r i. i))

  bracket_agrees : (l n : ℕ) (t s₁' s₂' s₃' s₄' s₅' t' : List ℕ) (a : Inner) (y : Amount) (i : Part Mark Rank.ors s₁' s₂' a)
      → Spaces s₂' (44 ∷ s₃') → Spaces s₃' s₄' → AmountText s₄' s₅' y → Spaces s₅' (93 ∷ t') → Close u u' same t s₁'
      → Each (Match u u' same n (counted a y) (suc (nodes mark_nodes a)) t')
      (Fault u u' same ((suc (level Mark mark_level i) ≤ l) × (suc (nodes mark_nodes a) ≤ n)) (InRange MarkOk a × AmountOk y)) (count_by l true n 91 t)
  unfolding count_by
  bracket_agrees zero n t s₁' s₂' s₃' s₄' s₅' t' a y i c d e g close = denies (limit u u' same (λ v. omega (arith, v.0)))
  bracket_agrees (suc l) n t s₁' s₂' s₃' s₄' s₅' t' a y i c d e g (inl near) =
      let cost : ℕ = suc (nodes mark_nodes a) in
      each_node (91 ∷ t) n _
      (λ m j.
      each_bind (bind (inners l m t) _) _
      (each_bind (inners l m t) _
      (each_map (inners_agrees l m t s₁' s₂' a i near (record { byte = 44; rest = s₃'; spaces = c; ends = refl; plain = refl }))
      (λ a₁ m₁ r z.
      ⊎_elim
      (λ v.
      each_map (expect_agrees u u' same 44 (λ q. omega arith) a₁ m₁ r s₂' s₃' v.2 c)
      (λ a₂ m₂ r₂ x.
      ⊎_elim
      (λ w.
      subst
      (λ (b : Inner). Each (Match u u' same n (counted a y) cost t')
      (Fault u u' same ((suc (level Mark mark_level i) ≤ suc l) × (cost ≤ n)) (InRange MarkOk a × AmountOk y)) (count_end b m₂ (skip r₂)))
      (sym (w.0 ∙ v.0))
      (threshold_agrees a n m₂ (skip r₂) s₄' s₅' t' y e g (arrive u u' same (amount_head e) w.2 d) (omega (arith, w.1, v.1)) (λ o. o.1)))
      (λ w. let o = skip_short r₂ in beyond u u' same cost (length r₂) w (threshold_short a₂ (length r₂) m₂ (skip r₂) o))
      x)
      (λ w r₂ x. x))
      (λ v.
      each_map (expect_short 44 a₁ (length (skip r)) m₁ r (omega arith))
      (λ a₂ m₂ r₂ x. beyond u u' same cost (length (skip r)) v (threshold_short a₂ (length (skip r)) m₂ (skip r₂) x))
      (λ w r₂ x. gone u u' same (omega arith)))
      z)
      (λ w r z. fault_map u u' same (λ v. (omega (arith, v.0), omega (arith, v.1))) (λ v. v.0) z))))
      (λ j. limit u u' same (λ v. omega (arith, v.1)))
  bracket_agrees (suc l) n t s₁' s₂' s₃' s₄' s₅' t' a y i c d e g (inr past) =
      let cost : ℕ = suc (nodes mark_nodes a) in
      let h = skip_short t in
      each_node (91 ∷ t) n _
      (λ m j.
      beyond u u' same cost (length t) past
      (each_bind (bind (inners l m t) _) _
      (each_bind (inners l m t) _
      (each_map (inners_short l (length t) m t h)
      (λ a₁ m₁ r z. each_map (expect_short 44 a₁ (length t) m₁ r z) (λ a₂ m₂ r₂ x. threshold_short a₂ (length t) m₂ (skip r₂) x) (λ w r₂ x. x))
      (λ w r z. z)))))
      (λ j. limit u u' same (λ v. omega (arith, v.1)))

  counts_agrees : (l : ℕ) → AgreesLeaf u u' same Count count_level count_nodes CountOk l (counts l)
  unfolding counts
  counts_agrees l n s s' t' x (count {s₁ = s₁'} {s₂ = s₂'} {s₃ = s₃'} {s₄ = s₄'} {s₅ = s₅'} {a = a} {x = y} o i c d e g) near fo =
      ⊎_elim (λ z. inl (91, z.0, z.1, refl, bracket_agrees l n z.0 s₁' s₂' s₃' s₄' s₅' t' a y i c d e g z.2)) (λ z. inr z)
      (token u u' same (λ q. omega arith) near o)

  pub clauses_agrees : (l : ℕ) → Agrees u u' same Count count_level count_nodes CountOk Rank.ors l (clauses l)
  unfolding clauses
  clauses_agrees l = ors_agrees u u' same Count count_level count_nodes CountOk counts counts_agrees counts_short l

  ---- The sheet.
  abbrev Reading : (k : ℕ) (s' : List ℕ) (cs : List Clause) → Sheet s' cs → Got (List Clause) → Type 0
  Reading k s' cs d g = Each (λ cs₁ m r. (cs₁ ≡ cs) ⊎ (0 < length u)) (Fault u u' same (Sized d × (length cs ≤ k)) (Ranged d)) g

  lines_nil : (k : ℕ) → Reading k [] [] done (lines k [])
  unfolding lines
  lines_nil zero = gives (inl refl)
  lines_nil (suc k) = gives (inl refl)

  filled : (s : List ℕ) → 0 < length s → (b : ℕ) × (r : List ℕ) × (s ≡ b ∷ r)
  filled [] h = absurd (omega arith)
  filled (b ∷ r) h = (b, r, refl)

  lines_agrees : (k : ℕ) (s s' : List ℕ) (cs : List Clause) (d : Sheet s' cs) → Near u u' same s s' → Reading k s' cs d (lines k s)
  unfolding lines clause_line
  lines_agrees k s s' cs done near = subst (λ (r : List ℕ). Reading k [] [] done (lines k r)) (sym (near_nil same near refl)) (lines_nil k)
  lines_agrees zero s s' cs (line {r = r'} {c = c} {cs = cs'} p x rest) near =
      let h = part_short Count count_level count_nodes CountOk frame_count p in
      let h₂ = spaces_short x in
      let v = filled s' (omega arith) in
      let y = near_step same near v.0 v.1 v.2 in
      subst (λ (t : List ℕ). Reading zero s' (c ∷ cs') (line p x rest) (lines zero t)) (sym y.1) (denies (limit u u' same (λ o. omega (arith, o.1))))
  lines_agrees (suc k) s s' cs (line {s₁ = s₁'} {r = r'} {c = c} {cs = cs'} p x rest) near =
      let h = part_short Count count_level count_nodes CountOk frame_count p in
      let h₂ = spaces_short x in
      let v = filled s' (omega arith) in
      let y = near_step same near v.0 v.1 v.2 in
      let t : List ℕ = v.0 ∷ y.0 in
      let near₁ : Near u u' same t s' = subst (λ (e : List ℕ). Near u u' same e s') y.1 near in
      subst (λ (e : List ℕ). Reading (suc k) s' (c ∷ cs') (line p x rest) (lines (suc k) e)) (sym y.1)
      (each_bind (bind (clauses 32 128 t) _) _
      (each_bind (clauses 32 128 t) _
      (each_map (clauses_agrees 32 128 t s' s₁' c p near₁ (record { byte = 10; rest = r'; spaces = x; ends = refl; plain = refl }))
      (λ c₁ m r z.
      ⊎_elim
      (λ g.
      each_map (expect_agrees u u' same 10 (λ q. omega arith) c₁ m r s₁' r' g.2 x)
      (λ c₂ m₂ r₂ i.
      each_bind (lines k r₂) _
      (⊎_elim
      (λ w.
      each_map (lines_agrees k r₂ r' cs' rest w.2) (λ cs₁ m₃ r₃ j. gives (⊎_elim (λ e. inl (let e₁ = w.0 in let e₂ = g.0 in cc)) (λ e. inr e) j))
      (λ w₁ r₃ j. fault_map u u' same (λ o. (o.0.2, omega (arith, o.1))) (λ o. o.1) j))
      (λ w. each_map (lines_short k (length r₂) r₂ (omega arith)) (λ cs₁ m₃ r₃ j. gives (inr (omega arith))) (λ w₁ r₃ j. gone u u' same (omega arith)))
      i))
      (λ w r₂ i. i))
      (λ g.
      each_map (expect_inside 10 c₁ (length (skip r)) m r (omega arith))
      (λ c₂ m₂ r₂ i. each_bind (lines k r₂) _
      (each_map (lines_short k (length r₂) r₂ (omega arith)) (λ cs₁ m₃ r₃ j. gives (inr (omega arith))) (λ w₁ r₃ j. gone u u' same (omega arith))))
      (λ w r₂ i. gone u u' same (omega arith)))
      z)
      (λ w r z. fault_map u u' same (λ o. (o.0.0, o.0.1)) (λ o. o.0) z))))

---- (b) A sheet of the grammar that is within the limits is accepted, and as it is there.
pub itself : (s : List ℕ) → Swap [] [] s s
itself [] = here
itself (b ∷ s) = there (itself s)

outcome_complete : (s : List ℕ) (cs : List Clause) (d : Sheet s cs) (len : ℕ) (g : Got (List Clause)) → Reading [] [] neither 32 s cs d g → Fits d
    → FewLines cs → outcome len g ≡ accepted cs
unfolding outcome
outcome_complete s cs d len g (gives {a = x} p) f h = ⊎_elim (λ e. ap accepted e) (λ e. absurd (omega arith)) p
outcome_complete s cs d len g (denies q) f h = let z = q.only (f.0, h) f.1 in absurd (omega arith)

start_complete : (s : List ℕ) (cs : List Clause) (d : Sheet s cs) → Fits d → FewLines cs → 0 < length s → start s ≡ accepted cs
unfolding start
start_complete [] cs d f h i = absurd (omega arith)
start_complete (b ∷ s) cs d f h i =
    outcome_complete (b ∷ s) cs d (length (b ∷ s)) (lines 32 (b ∷ s)) (lines_agrees [] [] neither 32 (b ∷ s) (b ∷ s) cs d (itself (b ∷ s))) f h

pub complete : (s : List ℕ) (cs : List Clause) (d : Sheet s cs) → Fits d → FewLines cs → 0 < length s → FewBytes s → read_sheet s ≡ accepted cs
unfolding read_sheet
complete s cs d f h i j = ap (λ (x : Bool). pick x (refused 12 0) (start s)) (le-ltb 16384 (length s) j) ∙ start_complete s cs d f h i

-- so a sheet within the limits means one thing
pub unambiguous : (s : List ℕ) (cs cs' : List Clause) (d : Sheet s cs) (e : Sheet s cs') → Fits d → Fits e → FewLines cs → FewLines cs' → 0 < length s
    → FewBytes s → cs ≡ cs'
unambiguous s cs cs' d e f g h i j k = let x = complete s cs d f h j k in let y = complete s cs' e g i j k in cc

---- With a byte that is refused by 13 no sheet of the grammar goes on, and with one refused by 14 none within the limits.
swap_on : {b : ℕ} {w v s t : List ℕ} → Swap (b ∷ w) v s t → (x : List ℕ) → Swap (b ∷ w) (b ∷ x) s (take (suc (length s - length (b ∷ w))) s ++ x)
swap_on {b} {w} here x = let e : suc (length w) - suc (length w) ≡ 0 = omega arith in rw e here
swap_on {b} {w} (there {c = c} {s = s} y) x =
    let h = swap_short y in
    let e : suc (length s) - suc (length w) ≡ suc (length s - suc (length w)) = omega arith in
    rw e (there (swap_on y x))

pub record RefusedAt (s : List ℕ) (k w : ℕ) : Type 0 where
  -- no sheet of the grammar begins with the first k bytes and the byte at k; nor is this text one
  pub stuck : w ≡ 13 → k < length s → Never (take (suc k) s)
  pub ends : w ≡ 13 → (cs : List Clause) → Sheet s cs → ⊥
  -- none that is within the limits on levels, nodes and lines does
  pub over : w ≡ 14 → Beyond (take (suc k) s)
  pub there : w ≡ 14 → k < length s

pub denied : {A : Type 0} {P : A → ℕ → List ℕ → Type 0} {Q : ℕ → List ℕ → Type 0} {w : ℕ} {r : List ℕ} → Each P Q (no w r) → Q w r
denied (denies q) = q

none_of : (s : List ℕ) (w : ℕ) (r : List ℕ) → lines 32 s ≡ no w r → w ≡ 13 → (cs : List Clause) → Sheet s cs → ⊥
none_of s w r e i cs d =
    let y : Reading [] [] neither 32 s cs d (no w r) = subst (Reading [] [] neither 32 s cs d) e (lines_agrees [] [] neither 32 s s cs d (itself s)) in
    let z = (denied y).past i in
    omega arith

at_byte : (s : List ℕ) (w : ℕ) (r : List ℕ) → lines 32 s ≡ no w r → (v t : List ℕ) → Swap r v s t → (w ≡ 14 → 0 < length r)
    → RefusedAt s (length s - length r) w
at_byte s w [] e v t x f =
    record { stuck = λ i j. absurd (omega arith); ends = none_of s w [] e; over = λ i. absurd (omega (arith, f i)); there = λ i. absurd (omega (arith, f i)) }
at_byte s w (b ∷ q) e v t x f = record {
  stuck = λ i j y cs d. let h = (denied (reading y cs d)).past i in omega arith;
  ends = none_of s w (b ∷ q) e;
  over = λ i y cs d j k. let h = (denied (reading y cs d)).over i (j, k) in omega arith;
  there = λ i. let h = swap_short x in omega arith;
} where
  reading : (y : List ℕ) (cs : List Clause) (d : Sheet (take (suc (length s - length (b ∷ q))) s ++ y) cs)
      → Reading (b ∷ q) (b ∷ y) both 32 (take (suc (length s - length (b ∷ q))) s ++ y) cs d (no w (b ∷ q))
  reading y cs d =
      let s' : List ℕ = take (suc (length s - length (b ∷ q))) s ++ y in
      subst (Reading (b ∷ q) (b ∷ y) both 32 s' cs d) e (lines_agrees (b ∷ q) (b ∷ y) both 32 s s' cs d (swap_on x y))

goes_refused : (s : List ℕ) (w : ℕ) (r : List ℕ) → (w ≡ 15 → ⊥) → lines 32 s ≡ no w r → GoesOn whole 32 s w r → RefusedAt s (length s - length r) w
goes_refused s w r h e (on x d (keeps_near i) o) = not_near i
goes_refused s w r h e (on {v = v} {s' = t} x d (keeps_13 i) a) = at_byte s w r e v t x (λ j. omega arith)
goes_refused s w r h e (on {v = v} {s' = t} x d (keeps_14 i o y) a) = at_byte s w r e v t x (λ j. let h = token_in o in omega arith)
goes_refused s w r h e (on x d (keeps_15 m i o y) a) = absurd (h i)
goes_refused s w r h e (full {s' = t} x d i j k a) = at_byte s w r e [] t x (λ i. k)

refused_at : (s : List ℕ) (w k : ℕ) → (w ≡ 7 → ⊥) → (w ≡ 12 → ⊥) → (w ≡ 15 → ⊥) → read_sheet s ≡ refused w k → RefusedAt s k w
refused_at s w k h i j e =
    let q = refusal s w k h i e in subst (λ (n : ℕ). RefusedAt s n w) q.at (goes_refused s w q.rest j q.read (q.refuses.goes whole))

-- (c) the other half: no sheet of the grammar begins with the bytes up to one that is refused by 13; at the text's end, the text is none.
pub stuck_13 : (s : List ℕ) (k : ℕ) → read_sheet s ≡ refused 13 k → (k < length s → Never (take (suc k) s)) × ((cs : List Clause) → Sheet s cs → ⊥)
stuck_13 s k e = let r = refused_at s 13 k (λ z. omega arith) (λ z. omega arith) (λ z. omega arith) e in (r.stuck refl, r.ends refl)

-- (d) no sheet within the limits on levels, nodes and lines begins with the bytes up to one that is refused by 14.
pub over_14 : (s : List ℕ) (k : ℕ) → read_sheet s ≡ refused 14 k → (k < length s) × Beyond (take (suc k) s)
over_14 s k e = let r = refused_at s 14 k (λ z. omega arith) (λ z. omega arith) (λ z. omega arith) e in (r.there refl, r.over refl)

---- No other refusals.
outcome_code : (len w k : ℕ) (g : Got (List Clause)) (N : ℕ) → Each (λ cs m r. Unit {0}) (λ v r. (length r ≤ N) × InSheet v) g
    → outcome len g ≡ refused w k → InSheet w
unfolding outcome
outcome_code len w k g N (gives p) e = let z : ◌≡◌ {A = ℕ} 0 1 = cc in absurd (omega arith)
outcome_code len w k g N (denies {w = v} q) e = let i : v ≡ w = cc in subst InSheet i q.1

start_code : (s : List ℕ) (w k : ℕ) → start s ≡ refused w k → RefusedBy s w k
unfolding start
start_code [] w k e = let i : 7 ≡ w = cc in let j : 0 ≡ k = cc in inr (inl (sym i, sym j, refl))
start_code (b ∷ s) w k e =
    inr (inr (outcome_code (length (b ∷ s)) w k (lines 32 (b ∷ s)) (length (b ∷ s)) (lines_short 32 (length (b ∷ s)) (b ∷ s) (omega arith)) e))

pub codes : (s : List ℕ) (w k : ℕ) → read_sheet s ≡ refused w k → RefusedBy s w k
unfolding read_sheet
codes s w k =
    either (λ x. x ≡ refused w k → RefusedBy s w k) (ltb 16384 (length s)) (refused 12 0) (start s)
    (λ h e. let i : 12 ≡ w = cc in let j : 0 ≡ k = cc in let l = ltb-true 16384 (length s) h in inl (sym i, sym j, λ f. omega arith))
    (λ h e. start_code s w k e)

pub long_12 : (s : List ℕ) → (FewBytes s → ⊥) → read_sheet s ≡ refused 12 0
unfolding read_sheet
long_12 s h = ap (λ (x : Bool). pick x (refused 12 0) (start s)) (lt-ltb 16384 (length s) (omega arith))
