use Prim.Native.Nat.{ℕ, ◌+◌, ◌<◌}
use mathlib.Core.Path.{◌≡◌, refl, sym, ap, subst, ◌∙◌}
use mathlib.Core.Bool.{Bool, true, false, cond, ◌||◌}
use mathlib.Core.List.{List, []}
use mathlib.Core.Logic.{⊎_elim}
use native.Mathlib.Omega.{arith}
use lib.Dec.{ltb}
use Rattle.std.specs.Prelude.{Some, min}
use Rattle.grammar.specs.Grammar.{Counted}
use Rattle.grammar.specs.Nodes.{Op₂}
use Rattle.cltl.specs.Meaning.{Rows, Proper}
use Rattle.cltl.specs.Rules.{throughout, both, uniform, joint}
use Rattle.mask.specs.Mask.{on, signed, Row}
use Rattle.mask.specs.EachBit.{on_zero}
use Rattle.table.specs.Table.{told, Table}
use Rattle.quorum.specs.Words.{within}
use Rattle.drift.specs.declared.Ground.{Ground}
use Rattle.drift.specs.declared.Joined.{Joined}
use Rattle.drift.specs.Operator.{is_or, two_rule}
use Rattle.drift.specs.OperatorTruth.{two_cong}
use Rattle.drift.specs.OperatorRows.{row_of}
use Rattle.drift.specs.Lent.{Lent}
use Rattle.drift.specs.Decoded.{binary_of, hands_on}
use Rattle.drift.specs.Answer.{rows_on, Gathered}
use Rattle.drift.specs.Gathering.{joint_none, no_counts, alone_gathered, or_gathered, none_gathered, joint-told}
use Rattle.std.proofs.lemmas.Option.{MatchOption-at_none}
use Rattle.drift.proofs.joining.two_judged.Goals as goal

-- the rows of the operands, in the order in which they stand
in_place : (swapped : Bool) (h x y r : ℕ) → x < h → y < h → r ≡ cond swapped y x → r < h
in_place true h x y r p q e = omega arith
in_place false h x y r p q e = omega arith

only_none : (P : Rows) (b : Bool) (xs : List (Bool × Counted)) → uniform P xs ≡ false → uniform P (cond b xs []) ≡ false
unfolding uniform
only_none P true xs e = e
only_none P false xs e = refl

-- a row of the same rule, where the or is also true as f says
rule-row : (h l : ℕ) → l < h → (p : Bool) (o : Op₂) (z a b : ℕ) (f : ℕ → Bool) (a' b' r : ℕ) → a ≡ a' → b ≡ b'
    → ((s : ℕ) → s < h → on z s ≡ f s) → Row h r (two_rule h l p o (on z) (on a) (on b)) → Row h r (two_rule h l p o f (on a') (on b'))
rule-row h l ok p o z a b f a' b' r ea eb e g =
    row_of h r _ _
    (two_cong h l ok p o (on z) (on a) (on b) f (on a') (on b') e (λ s _. ap (λ (x : ℕ). on x s) ea) (λ s _. ap (λ (x : ℕ). on x s) eb)) g

-- the row, and the counts that are handed on, where both sides have counts over the same carts
joined : (g : Ground) (t b : List ℕ) → Lent g t b → (bears : ℕ → ℕ → ℕ → Bool) → let P = rows_on g.carts g.lasso.h g.lasso.l bears b in
    (p swapped : Bool) (o : Op₂) (xs ys : List (Bool × Counted)) (after : List ℕ) (first second r : Joined) (a a' c c' z row : ℕ) → is_or o p ≡ true
    → first.who ≡ second.who → (r.sign ≡ true) × (r.slack ≡ min 32 (first.slack + second.slack)) × (r.who ≡ first.who)
    → a ≡ a' → c ≡ c' → Table (λ i s. signed first.sign (told t first.at i s) || signed second.sign (told t second.at i s)) r.at g.lasso.h t after
    → Row g.lasso.h z (λ s. ltb r.slack (throughout g.lasso.h g.lasso.l g.carts g.drift (within r.who (told after r.at)) s))
    → Row g.lasso.h row (two_rule g.lasso.h g.lasso.l p o (on z) (on a) (on c))
    → Gathered P xs t (cond swapped (Some second) (Some first)) → Gathered P ys t (cond swapped (Some first) (Some second))
    → let zs = cond (is_or o p) (both xs ys) [] in
    Row g.lasso.h row (two_rule g.lasso.h g.lasso.l p o (joint P g.drift zs) (on a') (on c')) × Gathered P zs after (Some r)
joined g t b lent bears p swapped o xs ys after first second r a a' c c' z row is same made ea ec table with by f f' =
    let P = rows_on g.carts g.lasso.h g.lasso.l bears b in
    let proper : Proper P = record { some = g.some; lap = g.lasso.lap } in
    let gathered = or_gathered P g.few swapped xs ys t after first second r (made.0, made.1, same, made.2) f f' table in
    let there = joint-told P g.few proper g.drift (both xs ys) after r gathered z made.0 with in
    let zs : cond (is_or o p) (both xs ys) [] ≡ both xs ys = ap (λ (b : Bool). cond b (both xs ys) []) is in (
      rule-row g.lasso.h g.lasso.l g.lasso.lap p o z _ _ _ _ _ row ea ec (λ j u. there.at j u ∙ ap (λ ys. joint P g.drift ys j) (sym zs)) by,
      subst (λ ys. Gathered P ys after (Some r)) (sym zs) gathered,
    )

-- nothing is joined
pub returns-in_default-clause-by_index : goal.returns-in_default-clause-by_index
returns-in_default-clause-by_index c =
    let a = c.args in
    let g = a.g in
    let sides = MatchOption-at_none _ _ c.in_default.is c.both_sides.ensures in
    λ bears xs ys f f'.
    let P = rows_on g.carts g.lasso.h g.lasso.l bears a.bits.now in
    let none : uniform P (cond (is_or (binary_of a.o) a.p) (both xs ys) []) ≡ false =
    none_gathered P g.few a.swapped _ xs ys a.t.now _ _ f f' (λ x y e. sides x y (c.is_or.ensures ∙ e)) in (
      rule-row g.lasso.h g.lasso.l g.lasso.lap a.p (binary_of a.o) 0 _ _ _ _ _ _ c.chosen-a.ensures c.chosen-b.ensures
          (λ j _. on_zero j ∙ sym (joint_none P g.drift _ j none)) c.two_row.ensures,
      alone_gathered P g.few _ (only_none P (hands_on (binary_of a.o)) _ none) a.t.now,
    )

pub returns-in-And-clause-by_index : goal.returns-in-And-clause-by_index
returns-in-And-clause-by_index c =
    let a = c.args in
    let sides = c.in-Some.ensures in
    λ bears xs ys f f'.
    let made = joined a.g a.t.now a.bits.now c.requires.lent bears a.p a.swapped (binary_of a.o) xs ys _ c.in-Some.x c.in-Some.y
    (record { at = c.place_either-to.result; sign = true; slack = c.added-slack.result; who = c.in-Some.x.who }) _ _ _ _ _ _
    (sym c.is_or.ensures ∙ sides.0) sides.3 (refl, c.added-slack.ensures, refl) c.chosen-a.ensures c.chosen-b.ensures c.place_either-to.ensures.1
    c.together-z.ensures.row c.two_row-row.ensures (rw (sides.1, sides.2) at f) (rw (sides.1, sides.2) at f') in
    let on : hands_on (binary_of a.o) ≡ true = ⊎_elim (λ e. rw e) (λ e. rw e) c.in-And.is in
    (made.0, rw on made.1)

pub returns-in-Until-clause-by_index : goal.returns-in-Until-clause-by_index
returns-in-Until-clause-by_index c =
    let a = c.args in
    let sides = c.in-Some.ensures in
    λ bears xs ys f f'.
    let made = joined a.g a.t.now a.bits.now c.requires.lent bears a.p a.swapped (binary_of a.o) xs ys _ c.in-Some.x c.in-Some.y
    (record { at = c.place_either-to.result; sign = true; slack = c.added-slack.result; who = c.in-Some.x.who }) _ _ _ _ _ _
    (sym c.is_or.ensures ∙ sides.0) sides.3 (refl, c.added-slack.ensures, refl) c.chosen-a.ensures c.chosen-b.ensures c.place_either-to.ensures.1
    c.together-z.ensures.row c.two_row-row.ensures (rw (sides.1, sides.2) at f) (rw (sides.1, sides.2) at f') in
    let off : hands_on (binary_of a.o) ≡ false = ⊎_elim (λ e. rw e) (λ e. rw e) c.in-Until.is in
    (made.0, rw off (alone_gathered _ c.args.g.few [] (no_counts _) _))
