-- Document 01's numbers of each refusal, and the four numbers of a verdict.
use Rattle.std.specs.Prelude.{ℕ, zero, suc, ◌^◌, ◌<◌, Bool, cond, List, [], ◌∷◌, ◌++◌, take, drop}
use Rattle.endian.specs.Little.{bytes, value}
use Rattle.refusal.specs.declared.Refusal.{Refusal}
use Rattle.refusal.specs.declared.Code.{Code}
use Rattle.refusal.specs.declared.Verdict.{Verdict}
use Rattle.refusal.specs.declared.Verdict.TheVariants.{Accepted, Written, Floor, Plan, Rules}

-- "Every refusal carries its number and two further numbers"
abbrev pub refused : ℕ → ℕ → ℕ → Refusal
refused number first second = record { number = number; first = first; second = second }

-- "for files and sheets these are a byte offset and 0"
abbrev pub at_offset : ℕ → ℕ → Refusal
at_offset number at = refused number at 0

-- "At one offset of a file, the refusal named first": the number of the first test that holds, 0 if none does.
abbrev pub first_fault : List (Bool × ℕ) → ℕ
first_fault [] = 0
first_fault (t ∷ ts) = cond t.0 t.1 (first_fault ts)

-- what is given where no test holds, else the refusal of that number
abbrev pub unless_fault : {A : Type 0} → ℕ → A → (ℕ → A) → A
unless_fault zero good fault = good
unless_fault (suc n) good fault = fault (suc n)

-- "A verdict says which file it is about and holds that file's own refusal": 1 floor, 2 plan, 3 rules
abbrev pub code_about : ℕ → Refusal → Code
code_about file r = record { about = file; number = r.number; first = r.first; second = r.second }

-- the numbers of a verdict: about no file, 0 and, where a result was written, its length in bytes
abbrev pub code_of : Verdict → Code
code_of Accepted = record { about = 0; number = 0; first = 0; second = 0 }
code_of (Written n) = record { about = 0; number = 0; first = n; second = 0 }
code_of (Floor r) = code_about 1 r
code_of (Plan r) = code_about 2 r
code_of (Rules r) = code_about 3 r

-- a verdict's 16 bytes: its four numbers, little-endian
abbrev pub bytes_of : Code → List ℕ
bytes_of c = bytes 4 c.about ++ bytes 4 c.number ++ bytes 4 c.first ++ bytes 4 c.second

-- the number in the four bytes from k on
abbrev pub word_at : ℕ → List ℕ → ℕ
word_at k s = value (take 4 (drop k s))

-- the four numbers that 16 bytes stand for
abbrev pub code_in : List ℕ → Code
code_in s = record { about = word_at 0 s; number = word_at 4 s; first = word_at 8 s; second = word_at 12 s }

-- each of the four numbers fits in 32 bits
pub record Fits32 (c : Code) : Type 0 where
  pub about : c.about < 2 ^ 32
  pub number : c.number < 2 ^ 32
  pub first : c.first < 2 ^ 32
  pub second : c.second < 2 ^ 32
