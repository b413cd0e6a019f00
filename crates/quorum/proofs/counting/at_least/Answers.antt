use Rattle.std.proofs.Common.{rules, ℕ, ◌+◌, ◌-◌, ◌^◌, ◌<◌, ◌≡◌, leb, get_or, arith, subst}
use Rattle.std.specs.Int.Count.{ones}
use Rattle.quorum.proofs.counting.at_least.Goals as goal

pub in_parts-requires-clause-callable : goal.in_parts-requires-clause-callable
in_parts-requires-clause-callable c = λ at n p q few. let s = c in
    let a = c.args in
    let low : (j : ℕ) → j < n → get_or a.w.now (at + j) 0 < 2 ^ a.carts = λ j u.
    let e : a.from + (at - a.from + j) ≡ at + j = omega arith in
    subst (λ (k : ℕ). get_or a.w.now k 0 < 2 ^ a.carts) e (s.requires.by_index (at - a.from + j) (omega arith)) in
    search rules

pub returns : goal.returns
returns c = let a = c.args in
    c.in_parts.ensures (λ k. leb a.m (ones (get_or a.w.now k 0))) (λ at n r p q few e. search rules)
