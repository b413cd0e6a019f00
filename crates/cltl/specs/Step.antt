-- The step at which a clause that is not kept fails.
use Rattle.std.specs.Prelude.{ℕ, Bool}
use Rattle.grammar.specs.Grammar.{top, leaf, neg, and, or, next, until, release, ev, gl, Clause}
use Rattle.row.specs.First.{first_failing}
use Rattle.cltl.specs.Meaning.{Rows}
use Rattle.cltl.specs.Rules.{rules}

-- the lowest of n steps from s on at which the test fails, or s + n
unfoldable pub lowest : (ℕ → Bool) → ℕ → ℕ → ℕ
lowest f n s = first_failing f (λ k. k) (λ end. end) n s

-- "The step is the lowest where the body fails if the clause's outermost operator is G, else 0."
unfoldable pub failing : Rows → ℕ → Clause → ℕ
failing P d top = 0
failing P d (leaf x) = 0
failing P d (neg a) = 0
failing P d (and a b) = 0
failing P d (or a b) = 0
failing P d (next a) = 0
failing P d (until a b) = 0
failing P d (release a b) = 0
failing P d (ev a) = 0
failing P d (gl a) = lowest (λ s. rules P d a s) P.h 0
