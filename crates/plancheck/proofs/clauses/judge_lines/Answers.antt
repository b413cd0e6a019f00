use Rattle.std.proofs.Common.{◌≡◌, ℕ, suc, ◌-◌, ◌^◌, List, refl, sym, add-one, ap, ap₂, subst, ◌∙◌, le_refl, arith}
use Rattle.refusal.specs.Results.{checked}
use Rattle.refusal.specs.Stages.{and_then}
use Rattle.refusal.specs.declared.Verdict.{Verdict}
use Rattle.refusal.specs.declared.Verdict.TheVariants.{Rules as AboutRules}
use Rattle.grammar.specs.Grammar.{Clause}
use Rattle.grammar.specs.Groups.{groups}
use Rattle.cltl.specs.Meaning.{Rows}
use Rattle.table.specs.Table.{Stored}
use Rattle.table.specs.Keeping.{kept_shown}
use Rattle.marks.specs.Groups.{carts_word}
use Rattle.drift.specs.Answer.{rows_on}
use Rattle.drift.specs.Lacking.{first_lacked}
use Rattle.drift.specs.Lacked.{fewer_nodes}
use Rattle.drift.specs.Tallying.{no_tallies}
use Rattle.drift.specs.Lending.{still_lent}
use Rattle.plancheck.specs.Check.{clause_verdict}
use Rattle.plancheck.specs.Marked.{placed, unborne, shown, bits_kept, fleet_word, few_words, rows_are}
use Rattle.plancheck.specs.Readable.{rows_read}
use Rattle.plancheck.specs.Turns.{next_of}
use Rattle.plancheck.proofs.Lines.{accepted_short, line_reads}
use Rattle.plancheck.proofs.LineHeld.{ready}
use Rattle.plancheck.proofs.Turns.{going_start, going_end, going_21, going_on, checked_and, none_lacked, some_lacked}
use Rattle.plancheck.proofs.clauses.judge_lines.Goals as goal

-- the words of the groups, with the fleet's
fleet_stored : (floor : List ℕ) (carts fleet : ℕ) (before after : List ℕ) → fleet ≡ 2 ^ carts - 1
    → Stored (λ o x. x ≡ carts_word fleet floor o) 32 0 9 before after → Stored (λ o x. x ≡ carts_word (2 ^ carts - 1) floor o) 32 0 9 before after
fleet_stored floor carts fleet before after e w = subst (λ (z : ℕ). Stored (λ o x. x ≡ carts_word z floor o) 32 0 9 before after) e w

pub fill-requires-clause-placed : goal.fill-requires-clause-placed
fill-requires-clause-placed c = let w = c.requires.readable in
    placed _ _ w.accepted_floor c.args.r.now.plan.head _ w.on_floor

pub fill-requires-clause-none_from : goal.fill-requires-clause-none_from
fill-requires-clause-none_from c = let w = c.requires.readable in
    unborne _ _ w.accepted_floor c.args.r.now.plan.head _ w.on_floor _ c.requires.borne.0

pub loop-at-init : goal.loop-at-init
loop-at-init c = let a = c.args in
    let w = c.requires.readable in
    let e = c.ground_of-g.ensures in
    let bits = c.fill_bits.ensures in
    let words = fleet_stored _ a.r.now.floor.carts _ _ _ c.lowest.ensures c.fill_groups.ensures in
    record {
      nodes = refl;
      shown = shown _ _ w.accepted_floor a.r.now.plan.head _ w.on_floor a.marks _ _ c.fill.ensures;
      going = going_start _ a.r.now.plan.head.drift a.r.now.floor.groups a.rules.now c.requires.rules_value;
      lent = record {
        constants = rw (e.4, e.1) c.fill.ensures.constants;
        pairs = rw (e.4, e.1) (omega (arith, c.requires.borne.1, c.fill.ensures.kept));
        bits = bits_kept _ _ w.accepted_floor _ _ bits.size words bits;
        fleet = rw e.0 (fleet_word _ _ w.accepted_floor _ _ bits.size words);
        groups = rw e.0 (few_words _ _ w.accepted_floor _ _ bits.size words);
      };
      tallies = no_tallies _ _;
    }

pub read_clause-requires : goal.read_clause-requires
read_clause-requires c = (omega (arith, c.loop-at-test.true), accepted_short _ c.requires.rules_value)

pub unwrap-part-requires : goal.unwrap-part-requires
unwrap-part-requires c = let v = c.loop-at in
    line_reads _ v.at v.n c.loop-at-test.true _ v.invariant.going.left v.nodes c.read_clause.new.nodes _ c.read_clause.ensures

pub overflow_sub-last : goal.overflow_sub-last
overflow_sub-last c = let v = c.loop-at in
    let w = ready v.invariant.going.left c.loop-at-test.true c.unwrap-part.ensures v.nodes c.read_clause.new.nodes c.read_clause.ensures v.invariant.nodes in
    omega (arith, w.judge.some)

pub lacking_group-requires : goal.lacking_group-requires
lacking_group-requires c = let v = c.loop-at in
    let w = ready v.invariant.going.left c.loop-at-test.true c.unwrap-part.ensures v.nodes c.read_clause.new.nodes c.read_clause.ensures v.invariant.nodes in
    fewer_nodes _ _ _ (omega (arith, w.judge.some)) w.judge.ordered

pub returns-in-Some : goal.returns-in-Some
returns-in-Some c = let v = c.loop-at in
    let w = ready v.invariant.going.left c.loop-at-test.true c.unwrap-part.ensures v.nodes c.read_clause.new.nodes c.read_clause.ensures v.invariant.nodes in
    let a = c.args in
    let x = c.in-Some.group in
    let e : first_lacked a.r.now.floor.groups (groups w.line.clause) ≡ suc x =
    ap (first_lacked a.r.now.floor.groups) (sym w.judge.named) ∙ c.in-Some.ensures.0 ∙ add-one x in
    ap AboutRules c.refuse.ensures
    ∙ going_21 _ a.r.now.plan.head.drift a.r.now.floor.groups a.rules.now v.nodes _ _ v.at v.n _ _ v.invariant.going w.line x
    (some_lacked a.r.now.floor.groups v.n x (groups w.line.clause) e)

pub first_next-next-requires : goal.first_next-next-requires
first_next-next-requires c = let v = c.loop-at in
    let w = ready v.invariant.going.left c.loop-at-test.true c.unwrap-part.ensures v.nodes c.read_clause.new.nodes c.read_clause.ensures v.invariant.nodes in
    w.judge.ordered

pub first_found-found-requires-clause-ordered : goal.first_found-found-requires-clause-ordered
first_found-found-requires-clause-ordered c = let v = c.loop-at in
    let w = ready v.invariant.going.left c.loop-at-test.true c.unwrap-part.ensures v.nodes c.read_clause.new.nodes c.read_clause.ensures v.invariant.nodes in
    let j = w.judge in (j.ordered, omega (arith, j.ordered.room, j.size, j.some), j.small)

pub loop-at-smaller : goal.loop-at-smaller
loop-at-smaller c = let v = c.loop-at in
    let w = ready v.invariant.going.left c.loop-at-test.true c.unwrap-part.ensures v.nodes c.read_clause.new.nodes c.read_clause.ensures v.invariant.nodes in
    omega (arith, w.line.more)

pub loop-at-preserved : goal.loop-at-preserved
loop-at-preserved c = let v = c.loop-at in
    let w = ready v.invariant.going.left c.loop-at-test.true c.unwrap-part.ensures v.nodes c.read_clause.new.nodes c.read_clause.ensures v.invariant.nodes in
    let a = c.args in
    let many = a.r.now.floor.groups in
    let d = a.r.now.plan.head.drift in
    let P : Rows = rows_read a.floor.now a.r.now in
    let words = fleet_stored _ a.r.now.floor.carts _ _ _ c.lowest.ensures c.fill_groups.ensures in
    let same_rows : rows_on a.r.now.floor.carts a.r.now.plan.head.steps a.r.now.plan.head.stem P.bears c.fill_groups.new.words ≡ P =
    rows_are a.floor.now a.r.now.floor c.requires.readable.accepted_floor _ _ c.fill_bits.ensures.size words a.r.now.plan.head a.r.now.plan.block in
    let tree = w.judge.tree _ (le_refl _) in
    let next = c.first_next-next in
    let found = c.first_found-found in
    let f = found.ensures in
    let g = c.ground_of-g.ensures in
    let by_index = rw (g.4, g.0, g.1, g.2, g.3) at f.by_index in
    let e : first_lacked many (groups w.line.clause) ≡ 0 = ap (first_lacked many) (sym w.judge.named) ∙ c.in_default.ensures in
    record {
      nodes = w.judge.size;
      shown = kept_shown a.marks a.r.now.plan.head.steps v.t _ (rw (g.4, g.1) at f.kept.0) a.r.now.floor.carts _ v.invariant.shown;
      going = going_on P d many a.rules.now v.nodes _ _ v.at v.n (checked v.next) (checked v.found) v.invariant.going w.line
          (none_lacked many v.n (groups w.line.clause) e) (checked next.result) (checked found.result)
          (next.ensures _ (le_refl _) ∙ ap (λ (x : Clause). and_then (checked v.next) (next_of d v.n x)) tree)
          (by_index _ v.invariant.shown _ (le_refl _)
          ∙ ap₂ (λ (Q : Rows) (x : Clause). and_then (checked c.and.result) (clause_verdict Q d v.n x)) same_rows tree
          ∙ ap (λ (y : Verdict). and_then y (clause_verdict P d v.n w.line.clause)) (ap checked c.and.ensures ∙ checked_and next.result v.found));
      lent = still_lent _ v.t _ _ v.invariant.lent f.kept.0;
      tallies = f.kept.1;
    }

pub returns : goal.returns
returns c = let a = c.args in
    let v = c.loop-at in
    ap checked c.and-2.ensures ∙ checked_and v.next v.found
    ∙ going_end _ a.r.now.plan.head.drift a.r.now.floor.groups a.rules.now v.at v.n _ _ v.invariant.going (omega (arith, c.loop-at-test.false))
