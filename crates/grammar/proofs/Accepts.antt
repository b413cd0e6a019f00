-- The reader of a sheet is sound: what it accepts is in the grammar and within the limits; and what it refuses could have gone on up to there,
-- by 14 and 15 with a whole token.
use Rattle.std.specs.Prelude.{ℕ, zero, suc, ◌+◌, ◌-◌, ◌≤◌, ◌<◌, ◌≡◌, ◌⊎◌, Bool, true, false, List, [], ◌∷◌, ◌++◌, length, take, drop, leb, ltb, eqb}
use Rattle.std.proofs.Math.Path.{refl}
use Rattle.std.proofs.Common.{ap, subst, sym, ◌∙◌, inl, inr, ⊎_elim, arith, ltb-false, leb-true, leb-false, eqb-true}
use Rattle.grammar.specs.Grammar.{Form, top, Spaces, none, Number, nought, without, Rank, small, Part, word, one_small, one_until, one_and, Mark, mark, Inner, fleet, ungrouped, Amount, amount, AmountText, written, Counted, counted, Count, count, Clause, Sheet, done, line}
use Rattle.grammar.specs.Limits.{level, nodes, InRange, mark_level, mark_nodes, MarkOk, count_level, count_nodes, CountOk, most, Ranged, Fits}
use Rattle.grammar.specs.Reader.{Got, no, bind, skip, number, ors, mark_by, marks, inners, amounts, count_end, count_by, counts, clauses, clause_line, lines, accepted, refused, outcome, start, read_sheet}
use Rattle.grammar.specs.Answers.{AcceptedSheet, InSheet, Begins, BeginsInRange, WholeNumber, WholePercent, Token, Allowed, Large, OutOfRange}
use Rattle.grammar.proofs.Ends.{Swap, here, there, Mode, near, whole, not_near, Keeps, keeps_near, keeps_13, keeps_14, keeps_15, swap_trans, swap_short, Framed, frame_spaces, frame_token, frame_number, frame_percent, frame_amount, amount_short, frame, frame_mark, frame_count}
use Rattle.grammar.proofs.Each.{Each, gives, denies, each_bind, each_map, each_node, either, never, skip_spaces, each_expect, each_number, AmountOn, nought_on, each_amount}
use Rattle.grammar.proofs.Sound.{spaces_short, Refuses, Completed, modes, Good, LeafReads, GoodLeaf, byte_refuses, true_near, true_refuses, part_short, ors_good}
use Rattle.grammar.proofs.Ranges.{Tail, tail_swap, Fine, sheet_fine, mark_never, count_never}

---- Marks.
number_short : {n : ℕ} {s r : List ℕ} → Number s r n → length r ≤ length s
number_short {r = r} x = swap_short (frame_number x r).1

abbrev LateMark : List ℕ → ℕ → List ℕ → Type 0
LateMark = Refuses Mark mark_level mark_nodes MarkOk small

module _ {s r : List ℕ} (x : Spaces s (109 ∷ r)) where
  -- a mark with the number 0, and with the one that stands there
  nought_there : {w : ℕ} {m : Mode} → ((v : List ℕ) → Keeps m w r r v) → (t : List ℕ) → Completed Mark mark_level mark_nodes MarkOk small s w r t m
  nought_there k t = let y = frame_token x (48 ∷ t) in (r, 48 ∷ t, y.0, Form.leaf 0, y.1, Part.leaf (mark y.2 nought), k (48 ∷ t), λ e. omega arith)

  number_there : {k : ℕ} {r₁ : List ℕ} → Number r r₁ k → (t : List ℕ)
      → (v s' : List ℕ) × Swap (109 ∷ r) v s s' × Swap r₁ t (109 ∷ r) v × Part Mark small s' t (Form.leaf k)
  number_there n t = let w = frame_number n t in let o = frame_spaces x (109 ∷ w.0) in (109 ∷ w.0, o.0, o.1, there w.1, Part.leaf (mark o.2 w.2))

mark_by_lem : (l : ℕ) (q : Bool) (n b : ℕ) (s r : List ℕ) → (q ≡ true → b ≡ 109) → Spaces s (b ∷ r)
    → Each (LeafReads Mark mark_level mark_nodes MarkOk l n s) (Refuses Mark mark_level mark_nodes MarkOk small s) (mark_by q n b r)
unfolding mark_by
mark_by_lem l false n b s r e x = denies (true_refuses Mark mark_level mark_nodes MarkOk x)
mark_by_lem l true n b s r e x =
    let x₁ : Spaces s (109 ∷ r) = subst (λ (c : ℕ). Spaces s (c ∷ r)) (e refl) x in
    let h = spaces_short x in
    each_bind (number n r) _
    (each_number n r
    (λ k r₁ y.
    each_node (b ∷ r) n _
    (λ m j.
    either (Each (LeafReads Mark mark_level mark_nodes MarkOk l n s) (LateMark s)) (leb k 31) _ _
    (λ i. gives (record { leaf = mark x₁ y.number; low = omega arith; used = omega arith; ok = leb-true k 31 i }))
    (λ i. denies (record {
      short = omega arith;
      goes = modes Mark mark_level mark_nodes MarkOk small s 15 r (nought_there x₁ (λ v. keeps_near refl))
          (λ t. let z = number_there x₁ y.number t in
          (109 ∷ r, z.0, z.1, Form.leaf k, z.2, z.4, keeps_15 refl refl (Large.mark y (leb-false k 31 i)) z.3, not_near));
    })))
    (λ j.
    subst (λ (c : ℕ). LateMark s 14 (c ∷ r)) (sym (e refl)) (record {
      short = omega arith;
      goes = modes Mark mark_level mark_nodes MarkOk small s 14 (109 ∷ r) (true_near Mark mark_level mark_nodes MarkOk 14 x₁ near (λ v. keeps_near refl))
          (λ t. let z = number_there x₁ y.number t in (109 ∷ r, z.0, z.1, Form.leaf k, z.2, z.4, keeps_14 refl (Token.mark y) z.3, not_near));
    })))
    (record {
      short = omega arith;
      goes = λ t m. nought_there x₁ (λ v. keeps_13 refl) t;
    }))

marks_good : (l : ℕ) → GoodLeaf Mark mark_level mark_nodes MarkOk l marks
unfolding marks
marks_good l n s [] x = denies (true_refuses Mark mark_level mark_nodes MarkOk x)
marks_good l n s (b ∷ r) x = mark_by_lem l (eqb b 109) n b s r (eqb-true b 109) x

pub inners_good : (l : ℕ) → Good Mark mark_level mark_nodes MarkOk Rank.ors l (inners l)
unfolding inners
inners_good l = ors_good Mark mark_level mark_nodes MarkOk frame_mark (λ i. marks) marks_good l

---- Counts.
abbrev GivesCount : ℕ → ℕ → List ℕ → Counted → ℕ → List ℕ → Type 0
GivesCount = LeafReads Count count_level count_nodes CountOk

abbrev LateCount : List ℕ → ℕ → List ℕ → Type 0
LateCount = Refuses Count count_level count_nodes CountOk small

-- the least text of an amount
abbrev nil : Amount
nil = amount 0 false fleet

nil_text : {r : List ℕ} → AmountText (48 ∷ r) r nil
nil_text = written nought without ungrouped

bracket_refuses : (b : ℕ) {s r : List ℕ} → Spaces s (b ∷ r) → b ≡ 91 → LateCount s 14 (b ∷ r)
bracket_refuses b {r = r} x e =
    byte_refuses Count count_level count_nodes CountOk small b x (subst (λ (c : ℕ). Token (c ∷ r) r) (sym e) Token.bracket)
    (λ t. 116 ∷ 114 ∷ 117 ∷ 101 ∷ 44 ∷ 48 ∷ 93 ∷ t) (Form.leaf (counted top nil)) (tt, omega arith)
    (λ s' t z. Part.leaf (count (subst (λ (c : ℕ). Spaces s' (c ∷ 116 ∷ 114 ∷ 117 ∷ 101 ∷ 44 ∷ 48 ∷ 93 ∷ t)) e z)
    (one_and (one_until (one_small (word none)))) none none nil_text none))

-- a count up to its amount
module _ (a : Inner) (s s₁ s₂ s₃ s₄ : List ℕ) (o : Spaces s (91 ∷ s₁)) (p : Part Mark Rank.ors s₁ s₂ a) (c : Spaces s₂ (44 ∷ s₃)) (d : Spaces s₃ s₄) where
  ahead : Framed (λ s' t. (s₅ r : List ℕ) (x : Amount) → AmountText t s₅ x → Spaces s₅ (93 ∷ r) → Count s' r (counted a x)) s s₄
  ahead t =
      let d' = frame_spaces d t in
      let c' = frame_token c d'.0 in
      let p' = frame Mark frame_mark p c'.0 in
      let o' = frame_token o p'.0 in
      (o'.0, swap_trans o'.1 (swap_trans p'.1 (swap_trans c'.1 d'.1)), λ s₅ r x e g. count o'.2 p'.2 c'.2 d'.2 e g)

  -- some amount goes on
  amount_next : {w : ℕ} {m : Mode} {r : List ℕ} → InRange MarkOk a → AmountOn s₄ r → ((v : List ℕ) → Keeps m w r r v) → (t : List ℕ)
      → Completed Count count_level count_nodes CountOk small s w r t m
  amount_next {r = r} ok f k t =
      let y = f (93 ∷ t) in
      let b = ahead y.1 in
      (r, y.0, b.0, Form.leaf (counted a y.2), swap_trans b.1 y.3, Part.leaf (b.2 (93 ∷ t) t y.2 y.4 none), k y.0, λ e. (ok, y.5))

  -- one out of range stands there
  amount_wide : {k : ℕ} {q : Bool} {s₅ s₆ : List ℕ} → WholeNumber s₄ s₅ k → WholePercent s₅ s₆ q → most q < k → (t : List ℕ)
      → Completed Count count_level count_nodes CountOk small s 15 s₄ t whole
  amount_wide {k} {q} y z i t =
      let z' = frame_percent z.percent (93 ∷ t) in
      let y' = frame_number y.number z'.0 in
      let d' = frame_spaces d y'.0 in
      let c' = frame_spaces c (44 ∷ d'.0) in
      let p' = frame Mark frame_mark p c'.0 in
      let o' = frame_token o p'.0 in (
        44 ∷ s₃,
        44 ∷ d'.0,
        o'.0,
        Form.leaf (counted a (amount k q fleet)),
        swap_trans o'.1 (swap_trans p'.1 c'.1),
        Part.leaf (count o'.2 p'.2 c'.2 d'.2 (written y'.2 z'.2 ungrouped) none),
        keeps_15 refl refl (Large.count d y z i) (there (swap_trans d'.1 (swap_trans y'.1 z'.1))),
        not_near,
      )

  count_rest : (l n m : ℕ) → level Mark mark_level p ≤ l → n ≡ suc (m + nodes mark_nodes a) → InRange MarkOk a
      → Each (GivesCount (suc l) n s) (LateCount s) (count_end a m s₄)
  unfolding count_end
  count_rest l n m h e ok =
      let h₄ = swap_short (ahead []).1 in
      each_bind (amounts m s₄) _
      (each_amount m s₄
      (λ x s₅ y y-ok.
      let h₅ = amount_short y in
      each_expect 93 (counted a x) m s₅
      (λ r g. record { leaf = count o p c d y g; low = omega arith; used = omega arith; ok = (ok, y-ok) })
      (λ r g. record {
        short = let h₆ = spaces_short g in omega arith;
        goes = λ t m.
            let g' = frame_spaces g (93 ∷ t) in
            let y' = frame_amount y g'.0 in
            let b = ahead y'.0 in (
              r,
              93 ∷ t,
              b.0,
              Form.leaf (counted a x),
              swap_trans b.1 (swap_trans y'.1 g'.1),
              Part.leaf (b.2 g'.0 t x y'.2 g'.2),
              keeps_13 refl,
              λ e. (ok, y-ok),
            );
      }))
      (λ k q s₅ s₆ y z i. record {
        short = omega arith;
        goes = modes Count count_level count_nodes CountOk small s 15 s₄ (amount_next ok (nought_on s₄) (λ v. keeps_near refl)) (amount_wide y z i);
      })
      (λ r h f. record {
        short = omega arith;
        goes = λ t m. amount_next ok f (λ v. keeps_13 refl) t;
      }))

count_by_lem : (l : ℕ) (q : Bool) (n b : ℕ) (s r : List ℕ) → (q ≡ true → b ≡ 91) → Spaces s (b ∷ r) → Each (GivesCount l n s) (LateCount s) (count_by l q n b r)
unfolding count_by
count_by_lem l false n b s r e x = denies (true_refuses Count count_level count_nodes CountOk x)
count_by_lem zero true n b s r e x = denies (bracket_refuses b x (e refl))
count_by_lem (suc l) true n b s r e x =
    let o : Spaces s (91 ∷ r) = subst (λ (c : ℕ). Spaces s (c ∷ r)) (e refl) x in
    let h = spaces_short x in
    each_node (b ∷ r) n _
    (λ m j.
    each_bind (bind (inners l m r) _) _
    (each_bind (inners l m r) _
    (each_map (inners_good l m r)
    (λ a m₁ r₁ p.
    let h₁ = part_short Mark mark_level mark_nodes MarkOk frame_mark p.part in
    each_expect 44 a m₁ r₁
    (λ r₂ c. let u = p.used in count_rest a s r r₁ r₂ (skip r₂) o p.part c (skip_spaces r₂) l n m₁ p.low (omega arith) p.ok)
    (λ r₂ c. record {
      short = let h₂ = spaces_short c in omega arith;
      goes = λ t m.
          let c' = frame_spaces c (44 ∷ 48 ∷ 93 ∷ t) in
          let p' = frame Mark frame_mark p.part c'.0 in
          let o' = frame_token o p'.0 in (
            r₂,
            44 ∷ 48 ∷ 93 ∷ t,
            o'.0,
            Form.leaf (counted a nil),
            swap_trans o'.1 (swap_trans p'.1 c'.1),
            Part.leaf
                (count o'.2 p'.2 c'.2 none nil_text none),
            keeps_13 refl,
            λ e. (p.ok, omega arith),
          );
    }))
    (λ w r₁ q. record {
      short = let h₁ = q.short in omega arith;
      goes = λ t m.
          let p' = q.goes (44 ∷ 48 ∷ 93 ∷ t) m in
          let o' = frame_token o p'.2 in (
            p'.0,
            p'.1,
            o'.0,
            Form.leaf (counted p'.3 nil),
            swap_trans o'.1 p'.4,
            Part.leaf
                (count o'.2 p'.5 none none nil_text none),
            p'.6,
            λ e. (p'.7 e, omega arith),
          );
    }))))
    (λ j. bracket_refuses b x (e refl))

counts_good : (l : ℕ) → GoodLeaf Count count_level count_nodes CountOk l (counts l)
unfolding counts
counts_good l n s [] x = denies (true_refuses Count count_level count_nodes CountOk x)
counts_good l n s (b ∷ r) x = count_by_lem l (eqb b 91) n b s r (eqb-true b 91) x

pub clauses_good : (l : ℕ) → Good Count count_level count_nodes CountOk Rank.ors l (clauses l)
unfolding clauses
clauses_good l = ors_good Count count_level count_nodes CountOk frame_count counts counts_good l

---- The sheet.
pub record SheetReads (k : ℕ) (s : List ℕ) (cs : List Clause) : Type 0 where
  pub sheet : Sheet s cs
  pub fits : Fits sheet
  pub few : length cs ≤ k

-- how a text goes on that is refused at r: to a sheet, with as much of r as the refusal leaves; or r is the line too many
pub data GoesOn (m : Mode) (k : ℕ) (s : List ℕ) (w : ℕ) (r : List ℕ) : Type 0 where
  on : {q v s' : List ℕ} {cs : List Clause} → Swap q v s s' → (d : Sheet s' cs) → Keeps m w r q v → (m ≡ near → Ranged d) → GoesOn m k s w r
  full : {s' : List ℕ} {cs : List Clause} → Swap r [] s s' → (d : Sheet s' cs) → length cs ≡ k → w ≡ 14 → 0 < length r → Ranged d → GoesOn m k s w r

pub record SheetRefuses (k : ℕ) (s : List ℕ) (w : ℕ) (r : List ℕ) : Type 0 where
  pub short : length r ≤ length s
  pub goes : (m : Mode) → GoesOn m k s w r

-- one line before
before : {m : Mode} {k : ℕ} {s s₁ r q : List ℕ} {c : Clause} {w : ℕ} → Part Count Rank.ors s s₁ c → InRange CountOk c → Spaces s₁ (10 ∷ r)
    → GoesOn m k r w q → GoesOn m (suc k) s w q
before {c = c} p ok x (on {s' = s'} y d z i) =
    let x' = frame_token x s' in
    let p' = frame Count frame_count p x'.0 in on (swap_trans p'.1 (swap_trans x'.1 y)) (line p'.2 x'.2 d) z (λ e. (ok, i e))
before {c = c} p ok x (full {s' = s'} y d e f h i) =
    let x' = frame_token x s' in
    let p' = frame Count frame_count p x'.0 in full (swap_trans p'.1 (swap_trans x'.1 y)) (line p'.2 x'.2 d) (ap suc e) f h (ok, i)

clause_short : {k : Rank} {s r : List ℕ} {a : Clause} → Part Count k s r a → length r ≤ length s
clause_short p = part_short Count count_level count_nodes CountOk frame_count p

pub lines_good : (k : ℕ) (s : List ℕ) → Each (λ cs m r. SheetReads k s cs) (SheetRefuses k s) (lines k s)
unfolding lines clause_line
lines_good zero [] = gives (record { sheet = done; fits = (tt, tt); few = omega arith })
lines_good zero (b ∷ s) = denies {w = 14} {r = b ∷ s} (record { short = omega arith; goes = λ m. full here done refl refl (omega arith) tt })
lines_good (suc k) [] = gives (record { sheet = done; fits = (tt, tt); few = omega arith })
lines_good (suc k) (b ∷ s) =
    each_bind (bind (clauses 32 128 (b ∷ s)) _) _
    (each_bind (clauses 32 128 (b ∷ s)) _
    (each_map (clauses_good 32 128 (b ∷ s))
    (λ c m r p.
    let h = clause_short p.part in
    each_expect 10 c m r
    (λ r₁ x.
    let h₁ = spaces_short x in
    each_bind (lines k r₁) _
    (each_map (lines_good k r₁)
    (λ cs m₁ r₂ q. gives (record {
      sheet = line p.part x q.sheet;
      fits = ((p.low, (let u = p.used in omega arith), q.fits.0), (p.ok, q.fits.1));
      few = let u = q.few in omega arith;
    }))
    (λ w r₂ q. record {
      short = let u = q.short in omega arith;
      goes = λ i. before p.part p.ok x (q.goes i);
    })))
    (λ r₁ x. record {
      short = let u = spaces_short x in omega arith;
      goes = λ i.
          let x' = frame_spaces x (10 ∷ []) in
          let p' = frame Count frame_count p.part x'.0 in
          on (swap_trans p'.1 x'.1) (line p'.2 x'.2 done) (keeps_13 refl) (λ e. (p.ok, tt));
    }))
    (λ w r q. record {
      short = q.short;
      goes = λ m. let y = q.goes (10 ∷ []) m in on y.4 (line y.5 none done) y.6 (λ e. (y.7 e, tt));
    })))

swap_take : {u v s t : List ℕ} → Swap u v s t → take (length s - length u) s ++ v ≡ t
swap_take {u} {v} here = let e : length u - length u ≡ 0 = omega arith in rw e
swap_take {u} {v} (there {c = c} {s = s} x) =
    let h = swap_short x in
    let e : suc (length s) - length u ≡ suc (length s - length u) = omega arith in
    rw e (ap (λ (l : List ℕ). c ∷ l) (swap_take x))

---- (a) What is accepted is a sheet of the grammar, within the limits.
outcome_sound : (s : List ℕ) (cs : List Clause) (len : ℕ) (g : Got (List Clause)) → Each (λ cs m r. SheetReads 32 s cs) (SheetRefuses 32 s) g
    → outcome len g ≡ accepted cs → SheetReads 32 s cs
unfolding outcome
outcome_sound s cs len g (gives {a = x} p) e = let h : x ≡ cs = cc in subst (λ (y : List Clause). SheetReads 32 s y) h p
outcome_sound s cs len g (denies q) e = let z : ◌≡◌ {A = ℕ} 0 1 = cc in absurd (omega arith)

start_sound : (s : List ℕ) (cs : List Clause) → start s ≡ accepted cs → SheetReads 32 s cs × (0 < length s)
unfolding start
start_sound [] cs e = let z : ◌≡◌ {A = ℕ} 0 1 = cc in absurd (omega arith)
start_sound (b ∷ s) cs e = (outcome_sound (b ∷ s) cs (length (b ∷ s)) (lines 32 (b ∷ s)) (lines_good 32 (b ∷ s)) e, omega arith)

pub sound : (s : List ℕ) (cs : List Clause) → read_sheet s ≡ accepted cs → AcceptedSheet s cs
unfolding read_sheet
sound s cs =
    either (λ x. x ≡ accepted cs → AcceptedSheet s cs) (ltb 16384 (length s)) (refused 12 0) (start s)
    (λ h e. let z : ◌≡◌ {A = ℕ} 0 1 = cc in absurd (omega arith))
    (λ h e. let p = start_sound s cs e in record { sheet = p.0.sheet; fits = p.0.fits; few = p.0.few; some = p.1; short = ltb-false 16384 (length s) h })

---- What is refused, and where: r is what is left from there on.
pub record Refusal (s : List ℕ) (w k : ℕ) : Type 0 where
  pub rest : List ℕ
  pub at : length s - length rest ≡ k
  pub read : lines 32 s ≡ no w rest
  pub refuses : SheetRefuses 32 s w rest

outcome_at : (s : List ℕ) (w k : ℕ) (g : Got (List Clause)) → lines 32 s ≡ g → Each (λ cs m r. SheetReads 32 s cs) (SheetRefuses 32 s) g
    → outcome (length s) g ≡ refused w k → Refusal s w k
unfolding outcome
outcome_at s w k g h (gives p) e = let z : ◌≡◌ {A = ℕ} 0 1 = cc in absurd (omega arith)
outcome_at s w k g h (denies {w = v} {r = r} q) e =
    let i : v ≡ w = cc in
    let j : length s - length r ≡ k = cc in
    record { rest = r; at = j; read = h ∙ ap (λ (n : ℕ). no n r) i; refuses = subst (λ (n : ℕ). SheetRefuses 32 s n r) i q }

start_at : (s : List ℕ) (w k : ℕ) → (w ≡ 7 → ⊥) → start s ≡ refused w k → Refusal s w k
unfolding start
start_at [] w k h e = absurd (h (cc))
start_at (b ∷ s) w k h e = outcome_at (b ∷ s) w k (lines 32 (b ∷ s)) refl (lines_good 32 (b ∷ s)) e

pub refusal : (s : List ℕ) (w k : ℕ) → (w ≡ 7 → ⊥) → (w ≡ 12 → ⊥) → read_sheet s ≡ refused w k → Refusal s w k
unfolding read_sheet
refusal s w k h i =
    either (λ x. x ≡ refused w k → Refusal s w k) (ltb 16384 (length s)) (refused 12 0) (start s) (λ q e. absurd (i (cc))) (λ q e. start_at s w k h e)

pub swap_drop : {u v s t : List ℕ} → Swap u v s t → drop (length s - length u) s ≡ u
swap_drop {u} here = let e : length u - length u ≡ 0 = omega arith in rw e
swap_drop {u} (there {s = s} x) = let h = swap_short x in let e : suc (length s) - length u ≡ suc (length s - length u) = omega arith in rw e (swap_drop x)

begins_at : {u v s t : List ℕ} {cs : List Clause} → Swap u v s t → Sheet t cs → Begins (take (length s - length u) s)
begins_at {v = v} {cs = cs} x d = (v, cs, rw (swap_take x) d)

near_at : {u v s t : List ℕ} {cs : List Clause} → Swap u v s t → (d : Sheet t cs) → Ranged d → BeginsInRange (take (length s - length u) s)
near_at {v = v} {cs = cs} x d ok = let z = subst (λ (y : List ℕ). (c : Sheet y cs) × Ranged c) (sym (swap_take x)) (d, ok) in (v, cs, z.0, z.1)

pub code_not : (n w : ℕ) → (13 ≤ n → n ≤ 15 → ⊥) → InSheet w → w ≡ n → ⊥
code_not n w h c e = ⊎_elim (λ i. h (omega arith) (omega arith)) (⊎_elim (λ i. h (omega arith) (omega arith)) (λ i. h (omega arith) (omega arith))) c

append-nil : (l : List ℕ) → l ++ [] ≡ l
append-nil [] = refl
append-nil (b ∷ l) = ap (λ (x : List ℕ). b ∷ x) (append-nil l)

-- (c), one half: what stands before a byte that is refused by 13, 14 or 15 is the beginning of a sheet whose numbers are in range.
goes_near : (s : List ℕ) (w : ℕ) (r : List ℕ) → GoesOn near 32 s w r → BeginsInRange (take (length s - length r) s)
goes_near s w r (on x d (keeps_near e) i) = near_at x d (i refl)
goes_near s w r (on x d (keeps_13 e) i) = near_at x d (i refl)
goes_near s w r (on x d (keeps_14 e o y) i) = near_at x d (i refl)
goes_near s w r (on x d (keeps_15 e f o y) i) = not_near (sym e)
goes_near s w r (full x d e f h i) = near_at x d i

pub before_in_range : (s : List ℕ) (w k : ℕ) → InSheet w → read_sheet s ≡ refused w k → (k ≤ length s) × BeginsInRange (take k s)
before_in_range s w k c e =
    let q = refusal s w k (λ z. code_not 7 w (λ i j. omega arith) c z) (λ z. code_not 12 w (λ i j. omega arith) c z) e in
    let i = q.at in
    (omega arith, subst (λ (n : ℕ). BeginsInRange (take n s)) i (goes_near s w q.rest (q.refuses.goes near)))

-- (d), one half: a token that is refused by 14 is whole and may stand there in the grammar, or it is the 33rd line's first byte.
abbrev At14 : List ℕ → ℕ → Type 0
At14 s k = Allowed s k ⊎ ((cs : List Clause) × Sheet (take k s) cs × (length cs ≡ 32))

goes_14 : (s r : List ℕ) → GoesOn whole 32 s 14 r → At14 s (length s - length r)
goes_14 s r (on x d (keeps_near e) i) = not_near e
goes_14 s r (on x d (keeps_13 e) i) = absurd (omega arith)
goes_14 s r (on x d (keeps_14 {r₁ = r₁} e o y) i) =
    let z = swap_trans x y in inl (record { last = length s - length r₁; token = rw (swap_drop x, swap_drop z) o; begins = begins_at z d })
goes_14 s r (on x d (keeps_15 e f o y) i) = absurd (omega arith)
goes_14 s r (full {cs = cs} x d e f h i) = inr (cs, subst (λ (y : List ℕ). Sheet y cs) (sym (swap_take x) ∙ append-nil (take (length s - length r) s)) d, e)

pub allowed_14 : (s : List ℕ) (k : ℕ) → read_sheet s ≡ refused 14 k → Allowed s k ⊎ ((cs : List Clause) × Sheet (take k s) cs × (length cs ≡ 32))
allowed_14 s k e = let q = refusal s 14 k (λ z. omega arith) (λ z. omega arith) e in subst (At14 s) q.at (goes_14 s q.rest (q.refuses.goes whole))

---- (e) A number that is refused by 15 is whole, out of range, and may stand there in the grammar; but in no sheet whose numbers are in range.
swap_any : {u v s t : List ℕ} → Swap u v s t → (w : List ℕ) → (t' : List ℕ) × Swap u w s t'
swap_any here w = (w, here)
swap_any (there {c = c} x) w = let y = swap_any x w in (c ∷ y.0, there y.1)

-- the same number with another end, and no sheet is fine with it
record NeverWith (q r₁ t : List ℕ) : Type 0 where
  byte : ℕ
  text : List ℕ
  key : (byte ≡ 109) ⊎ (byte ≡ 44)
  swap : Swap r₁ t q (byte ∷ text)
  never : Fine (byte ∷ text) → ⊥

large_never : {q r r₁ : List ℕ} → Large q r r₁ → (t : List ℕ) → NeverWith q r₁ t
large_never (Large.mark y h) t =
    let w = frame_number y.number t in record { byte = 109; text = w.0; key = inl refl; swap = there w.1; never = mark_never w.2 h }
large_never (Large.count c y z h) t =
    let z' = frame_percent z.percent t in
    let y' = frame_number y.number z'.0 in
    let c' = frame_spaces c y'.0 in
    record
    { byte = 44; text = c'.0; key = inr refl; swap = there (swap_trans c'.1 (swap_trans y'.1 z'.1)); never = count_never c'.2 y'.2 z'.2 h }

large_first : {q r r₁ : List ℕ} → Large q r r₁ → (v : List ℕ) × Swap r r q v
large_first (Large.mark {r = r} y h) = (109 ∷ r, there here)
large_first (Large.count {r = r} c y z h) = let c' = frame_spaces c r in (44 ∷ c'.0, there c'.1)

goes_15 : (s r : List ℕ) → GoesOn whole 32 s 15 r → OutOfRange s (length s - length r)
goes_15 s r (on x d (keeps_near e) i) = not_near e
goes_15 s r (on x d (keeps_13 e) i) = absurd (omega arith)
goes_15 s r (on x d (keeps_14 e o y) i) = absurd (omega arith)
goes_15 s r (on {q = q} x d (keeps_15 {r₁ = r₁} g e o y) i) =
    let f = large_first o in
    let z = swap_trans x y in
    let w = swap_trans (swap_any x f.0).1 f.1 in
    record {
      from = length s - length q;
      last = length s - length r₁;
      number = rw (swap_drop x, swap_drop w, swap_drop z) o;
      begins = begins_at z d;
      wide = λ t cs c ok.
          let n = large_never o t in
          let a = swap_any x (n.byte ∷ n.text) in
          let b = swap_take (swap_trans a.1 n.swap) in
          n.never (sheet_fine n.byte n.text n.key c ok (subst (λ (l : List ℕ). Tail (n.byte ∷ n.text) l) (sym b) (tail_swap a.1)));
    }
goes_15 s r (full x d e f h i) = absurd (omega arith)

pub out_15 : (s : List ℕ) (k : ℕ) → read_sheet s ≡ refused 15 k → OutOfRange s k
out_15 s k e = let q = refusal s 15 k (λ z. omega arith) (λ z. omega arith) e in subst (OutOfRange s) q.at (goes_15 s q.rest (q.refuses.goes whole))
