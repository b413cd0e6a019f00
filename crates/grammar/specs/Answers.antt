-- What an answer means, in the words of the grammar and the limits.
use Rattle.std.specs.Prelude.{ℕ, ◌≤◌, ◌<◌, ◌≡◌, ◌⊎◌, Bool, List, ◌∷◌, ◌++◌, length, take, drop, get_or}
use Prim.Native.Char.{code}
use Rattle.grammar.specs.Grammar.{bytes, Spaces, Number, Percent, Prefix, prefix_byte, Reach, reach_byte, Clause, Sheet}
use Rattle.grammar.specs.Begun.{begun, TooMany}
use Rattle.grammar.specs.Limits.{most, Sized, Ranged, Fits, FewLines, FewBytes}

-- accepted: a sheet of the grammar, within the limits
pub record AcceptedSheet (s : List ℕ) (cs : List Clause) : Type 0 where
  pub sheet : Sheet s cs
  pub fits : Fits sheet
  pub few : FewLines cs
  pub some : 0 < length s
  pub short : FewBytes s

-- the refusals within a sheet
abbrev pub InSheet : ℕ → Type 0
InSheet w = (w ≡ 13) ⊎ ((w ≡ 14) ⊎ (w ≡ 15))

-- 12 for what is too long, before all else; 7 for the empty sheet; else 13, 14 or 15
abbrev pub RefusedBy : List ℕ → ℕ → ℕ → Type 0
RefusedBy s w k = ((w ≡ 12) × (k ≡ 0) × (FewBytes s → ⊥)) ⊎ (((w ≡ 7) × (k ≡ 0) × (length s ≡ 0)) ⊎ InSheet w)

-- a sheet of the grammar begins with this text
abbrev pub Begins : List ℕ → Type 0
Begins p = (t : List ℕ) × (cs : List Clause) × Sheet (p ++ t) cs

-- a sheet whose numbers are in range does
abbrev pub BeginsInRange : List ℕ → Type 0
BeginsInRange p = (t : List ℕ) × (cs : List Clause) × (d : Sheet (p ++ t) cs) × Ranged d

-- no sheet of the grammar does
abbrev pub Never : List ℕ → Type 0
Never p = (t : List ℕ) (cs : List Clause) → Sheet (p ++ t) cs → ⊥

-- none that is within the limits on levels, nodes and lines does
abbrev pub Beyond : List ℕ → Type 0
Beyond p = (t : List ℕ) (cs : List Clause) (d : Sheet (p ++ t) cs) → Sized d → FewLines cs → ⊥

-- "only for whole tokens": no longer number stands there, and its `%` belongs to it
pub record WholeNumber (s r : List ℕ) (n : ℕ) : Type 0 where
  pub number : Number s r n
  pub longest : (r' : List ℕ) (n' : ℕ) → Number s r' n' → length r ≤ length r'

pub record WholePercent (s r : List ℕ) (p : Bool) : Type 0 where
  pub percent : Percent s r p
  pub longest : (r' : List ℕ) (p' : Bool) → Percent s r' p' → length r ≤ length r'

-- a whole token that is a node or makes a level, from its first byte to what is left
pub data Token : List ℕ → List ℕ → Type 0 where
  word : {r : List ℕ} → Token (bytes "true" ++ r) r
  mark : {s r : List ℕ} {n : ℕ} → WholeNumber s r n → Token (code "m" ∷ s) r
  paren : {r : List ℕ} → Token (code "(" ∷ r) r
  bracket : {r : List ℕ} → Token (code "[" ∷ r) r
  prefix : {r : List ℕ} (o : Prefix) → Token (prefix_byte o ∷ r) r
  reach : {r : List ℕ} (o : Reach) → Token (reach_byte o ∷ r) r
  and : {r : List ℕ} → Token (code "&" ∷ r) r
  or : {r : List ℕ} → Token (code "|" ∷ r) r

-- 14: one stands at k, and a sheet of the grammar begins with the bytes up to its end
pub record Allowed (s : List ℕ) (k : ℕ) : Type 0 where
  pub last : ℕ
  pub token : Token (drop k s) (drop last s)
  pub begins : Begins (take last s)

-- "14 a token past a limit, or the first byte of the 33rd line": it would be the 129th node, or open level 33, or 32 lines stand before
abbrev pub PastLimit : List ℕ → ℕ → Type 0
PastLimit s k = ((k < length s) × ((begun s k).lines ≡ 32)) ⊎ (Allowed s k × TooMany (begun s k) (get_or s k 0))

-- a whole number out of range from its first byte r to what is left, behind a mark's `m`, or behind a count's `,` and spaces
pub data Large : List ℕ → List ℕ → List ℕ → Type 0 where
  mark : {r r₁ : List ℕ} {n : ℕ} → WholeNumber r r₁ n → 31 < n → Large (code "m" ∷ r) r r₁
  count : {q r r₁ r₂ : List ℕ} {n : ℕ} {p : Bool} → Spaces q r → WholeNumber r r₁ n → WholePercent r₁ r₂ p → most p < n → Large (code "," ∷ q) r r₂

-- 15: one stands at k, and a sheet of the grammar begins with the bytes up to its end, but none whose numbers are in range
pub record OutOfRange (s : List ℕ) (k : ℕ) : Type 0 where
  pub from : ℕ
  pub last : ℕ
  pub number : Large (drop from s) (drop k s) (drop last s)
  pub begins : Begins (take last s)
  pub wide : (t : List ℕ) (cs : List Clause) (d : Sheet (take last s ++ t) cs) → Ranged d → ⊥
