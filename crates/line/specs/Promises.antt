-- What laying out a line promises, and what decimal digits are.
use Rattle.std.specs.Prelude.{ℕ, ◌+◌, ◌≤◌, ◌<◌, ◌≡◌, List, ◌++◌, length, take, drop, get_or}
use Rattle.record.specs.Buffer.{stored}
use Rattle.line.specs.Decimal.{read_tens}

-- a line at the front of a lent buffer: its length, and every byte of the buffer
pub record LaidOut (line before : List ℕ) (n : ℕ) (after : List ℕ) : Type 0 where
  pub size : n ≡ length line
  pub out : after ≡ line ++ drop (length line) before
  -- so what a caller writes, the first n bytes, is the line
  pub front : take n after ≡ line
  pub some : 0 < n
  pub within : n ≤ length after

-- bytes put into a buffer from an offset on: where they end, and every byte of the buffer
pub record PutAt (s before : List ℕ) (at n : ℕ) (after : List ℕ) : Type 0 where
  pub end : n ≡ at + length s
  pub out : after ≡ stored before at s

-- a number's digits: they stand for it in base ten, and a `0` in front stands alone
pub record InDecimal (n : ℕ) (s : List ℕ) : Type 0 where
  pub value : read_tens 0 s ≡ n
  pub digits : (i : ℕ) → i < length s → (48 ≤ get_or s i 0) × (get_or s i 0 ≤ 57)
  pub some : 0 < length s
  pub leading : get_or s 0 0 ≡ 48 → length s ≡ 1
