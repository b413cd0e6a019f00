-- What an operation that writes gives: its answer, and the lent buffer afterwards.
use Rattle.std.specs.Prelude.{ℕ, ◌≡◌, cond, List, ◌++◌, ltb, length, drop}
use Rattle.refusal.specs.Codes.{refused}
use Rattle.refusal.specs.declared.Refusal.{Refusal}
use Rattle.refusal.specs.declared.Verdict.{Verdict}
use Rattle.refusal.specs.declared.Verdict.TheVariants.{Written}

-- the answer, and every byte of the buffer
pub record Outcome : Type 0 where
  pub answer : Verdict
  pub out : List ℕ

-- "Lent buffers are unchanged."
abbrev pub unchanged : Verdict → List ℕ → Outcome
unchanged v out = record { answer = v; out = out }

-- "18 if the lent buffer is shorter than the result (needed length, 0)", about the file being written; "bytes past the result stay"
abbrev pub written : (Refusal → Verdict) → List ℕ → List ℕ → Outcome
written about file out =
    cond (ltb (length out) (length file))
    (unchanged (about (refused 18 (length file) 0)) out)
    (record { answer = Written (length file); out = file ++ drop (length file) out })

-- an answer and a buffer afterwards that are those of a definition
pub record Gives (o : Outcome) (v : Verdict) (after : List ℕ) : Type 0 where
  pub answer : v ≡ o.answer
  pub out : after ≡ o.out
