use Rattle.std.proofs.Common.{rules, ℕ, ◌+◌, ◌*◌, ◌-◌, ◌≡◌, min, arith, subst}
use lib.ListN.{get_or-replicate}
use Rattle.marks.specs.Tables.{Tables}
use Rattle.marks.proofs.Filling.{Built, no_cart, room, four_more, every_cart, some_carts}
use Rattle.marks.proofs.tables.add_carts.Goals as goal

pub loop-four-init : goal.loop-four-init
loop-four-init c = let a = c.args in
    (λ j p q r. get_or-replicate 256 j 0 0 r, no_cart a.floor.now a.block.now a.carts a.h a.marks _ a.t.now (omega arith) c.requires.holds)

pub add_four-requires-clause-holds : goal.add_four-requires-clause-holds
add_four-requires-clause-holds c = let a = c.args in
    let v = c.loop-four in
    let e : 4 * v.four ≡ 4 * (v.four - 1) + 4 = omega arith in
    room a.floor.now a.block.now a.carts a.h a.marks (4 * (v.four - 1)) a.t.now v.t
    (subst (λ (i : ℕ). Tables (Built a.floor.now a.block.now a.carts a.h a.marks i) a.marks a.h a.t.now v.t) e v.invariant.1) (omega arith)

pub loop-four-preserved : goal.loop-four-preserved
loop-four-preserved c = let a = c.args in
    let v = c.loop-four in
    let i = 4 * (v.four - 1) in
    let e : 4 * v.four ≡ i + 4 = omega arith in
    let now = subst (λ (i : ℕ). Tables (Built a.floor.now a.block.now a.carts a.h a.marks i) a.marks a.h a.t.now v.t) e v.invariant.1 in
    let most : c.min.result ≡ min (a.carts - i) 4 = search rules in (
      λ j p q r. absurd (omega arith),
      four_more a.floor.now a.block.now a.carts a.h a.marks i a.t.now v.t now c.min.result v.words _ _ _ (omega arith)
          (some_carts a.carts i _ _ most (omega arith) (omega arith)) (λ j. v.invariant.0 j (omega arith)) (omega arith) c.gather_some.ensures
          c.pack.ensures c.add_four.ensures,
    )

pub returns : goal.returns
returns c = let a = c.args in
    let v = c.loop-four in
    every_cart a.floor.now a.block.now a.carts a.h a.marks (4 * v.four) a.t.now v.t v.invariant.1 (omega arith)
