-- What one clause says of 16, for the clauses in one pass.
use Rattle.std.specs.Prelude.{ℕ, cond, eqb}
use Rattle.grammar.specs.Grammar.{Clause}
use Rattle.refusal.specs.Codes.{refused}
use Rattle.refusal.specs.declared.Verdict.{Verdict}
use Rattle.refusal.specs.declared.Verdict.TheVariants.{Accepted, Rules as AboutRules}
use Rattle.cltl.specs.Rules.{has_next}

-- 16 for clause n alone, and from clause n on, where there is drift
abbrev pub next_of : ℕ → ℕ → Clause → Verdict
next_of d n c = cond (eqb d 0) Accepted (cond (has_next c) (AboutRules (refused 16 n 0)) Accepted)
