use Rattle.clause.specs.Picking.{picked}
use Rattle.clause.specs.declared.Span.{Span}
use mathlib.Core.Path.{ap, ◌∙◌}
use native.Mathlib.Nat.{add-sub_cancel_left}
use lib.ListN.{take, drop}
use Prim.Native.Nat.{ℕ}
use Rattle.clause.proofs.clause_part.Goals as goal

pub returns : goal.returns
returns c = let s = c.args.sheet.now in
    let v = c.args.verdict.now in
    let f = c.find_span-p in
    record {
      answer =
          ap (λ (k : ℕ). take k (drop f.result.offset s)) (add-sub_cancel_left f.result.offset f.result.length)
          ∙ ap (λ (p : Span). take p.length (drop p.offset s)) f.ensures.answer;
      place = picked s v;
    }
