use Rattle.token.proofs.Grouping.{no_group, group_bad, group_read}
use Rattle.token.proofs.counts.grouped.Goals as goal

pub returns-then-not-is_at-clause-value : goal.returns-then-not-is_at-clause-value
returns-then-not-is_at-clause-value c =
    no_group c.args.s.now c.args.k c.requires.2 _ c.spaces-i.ensures.0 _ c.is_at.ensures c.requires.3 c.if-not-is_at.true

pub returns-in-None-clause-value : goal.returns-in-None-clause-value
returns-in-None-clause-value c =
    group_bad c.args.s.now c.args.k c.requires.2 _ c.spaces-i.ensures.0 _ c.is_at.ensures c.if-not-is_at.false c.in-None.ensures _ c.refused.ensures

pub returns-in-Some-clause-value : goal.returns-in-Some-clause-value
returns-in-Some-clause-value c =
    group_read c.args.s.now c.args.k c.requires.2 _ c.spaces-i.ensures.0 _ c.is_at.ensures c.if-not-is_at.false _ c.in-Some.ensures
