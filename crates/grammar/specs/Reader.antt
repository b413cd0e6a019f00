-- What reading a sheet means: a definition that runs, by the levels still allowed and the nodes still allowed.
use Rattle.std.specs.Prelude.{ℕ, zero, suc, ◌+◌, ◌*◌, ◌-◌, Bool, true, false, ◌&&◌, List, [], ◌∷◌, length, leb, ltb, eqb}
use Prim.Native.Char.{code}
use Rattle.grammar.specs.Grammar.{bytes, Form, top, leaf, and, or, Prefix, not, next, finally, globally, prefixed, Reach, U, R, reached, Inner, Over, fleet, group, Amount, amount, Counted, counted, Clause}
use Rattle.grammar.specs.Limits.{most}

abbrev pub pick : {A : Type 0} → Bool → A → A → A
pick true a b = a
pick false a b = b

-- What a reading gives: a value, the nodes still allowed and the rest of the text; or a refusal and the text from the refused byte on.
pub data Got (A : Type 0) : Type 0 where
  got : A → ℕ → List ℕ → Got A
  no : ℕ → List ℕ → Got A

-- from the nodes still allowed and a text
abbrev pub Reader : Type 0 → Type 0
Reader A = ℕ → List ℕ → Got A

unfoldable pub bind : {A B : Type 0} → Got A → (A → Reader B) → Got B
bind (got a n r) f = f a n r
bind (no w r) f = no w r

-- one node more, at a token
unfoldable pub node : {A : Type 0} → List ℕ → ℕ → (ℕ → Got A) → Got A
node at zero f = no 14 at
node at (suc n) f = f n

---- Bytes and tokens.
unfoldable pub skip : List ℕ → List ℕ
skip [] = []
skip (b ∷ s) = let r = skip s in pick (eqb b (code " ")) r (b ∷ s)

-- byte c
unfoldable pub expect_at : {A : Type 0} → ℕ → A → Reader A
expect_at c a n [] = no 13 []
expect_at c a n (b ∷ r) = pick (eqb b c) (got a n r) (no 13 (b ∷ r))

-- byte c after spaces
unfoldable pub expect : {A : Type 0} → ℕ → A → Reader A
expect c a n s = expect_at c a n (skip s)

-- the bytes w
unfoldable pub literal : {A : Type 0} → List ℕ → A → Reader A
literal [] a n s = got a n s
literal (c ∷ w) a n [] = no 13 []
literal (c ∷ w) a n (b ∷ s) = pick (eqb b c) (literal w a n s) (no 13 (b ∷ s))

abbrev pub is_digit : ℕ → Bool
is_digit b = leb (code "0") b && leb b (code "9")

unfoldable pub digits : ℕ → Reader ℕ
digits v n [] = got v n []
digits v n (b ∷ s) = let g = digits (v * 10 + (b - code "0")) n s in pick (is_digit b) g (got v n (b ∷ s))

unfoldable pub number : Reader ℕ
number n [] = no 13 []
number n (b ∷ s) = pick (eqb b (code "0")) (got 0 n s) (pick (is_digit b) (digits (b - code "0") n s) (no 13 (b ∷ s)))

unfoldable pub percent : Reader Bool
percent n [] = got false n []
percent n (b ∷ s) = pick (eqb b (code "%")) (got true n s) (got false n (b ∷ s))

---- Parts: smallest parts, until-chains, and-chains, or-chains, over the reader of a leaf.
pub data Kind : Type 0 where
  word paren other : Kind
  prefix : Prefix → Kind

abbrev pub kind : ℕ → Kind
kind b =
    pick (eqb b (code "t")) word
    (pick (eqb b (code "(")) paren
    (pick (eqb b (code "!")) (prefix not)
    (pick (eqb b (code "X")) (prefix next)
    (pick (eqb b (code "F")) (prefix finally) (pick (eqb b (code "G")) (prefix globally) other)))))

pub data Onward : Type 0 where
  stop : Onward
  reach : Reach → Onward

abbrev pub onward : ℕ → Onward
onward b = pick (eqb b (code "U")) (reach U) (pick (eqb b (code "R")) (reach R) stop)

-- the readers one level further in: none, or those of a smallest part and of an until-chain
pub data Deeper (A : Type 0) : Type 0 where
  shut : Deeper A
  open' : Reader A → Reader A → Deeper A

module _ {A : Type 0} (c : ℕ) (join : A → A → A) where
  -- where the chain stands at its operator c: one node more, and on
  unfoldable pub chain_at : A → ℕ → List ℕ → Reader A → List ℕ → Got A
  chain_at a n r go [] = got a n r
  chain_at a n r go (b ∷ r₁) = let g = node (b ∷ r₁) n (λ m. go m r₁) in pick (eqb b c) g (got a n r)

  -- the rest of a chain whose parts so far are a; f is at least the nodes still allowed
  unfoldable pub chain_more : Reader A → ℕ → A → Reader A
  chain_more sub zero a n r = chain_at a n r (λ m r₁. no 14 (c ∷ r₁)) (skip r)
  chain_more sub (suc f) a n r = chain_at a n r (λ m r₁. bind (sub m r₁) (λ b m₂ r₂. chain_more sub f (join a b) m₂ r₂)) (skip r)

  unfoldable pub chain : Reader A → Reader A
  chain sub n s = bind (sub n s) (λ a m r. chain_more sub m a m r)

module _ {L : Type 0} where
  unfoldable pub and_chain : Reader (Form L) → Reader (Form L)
  and_chain sub = chain (code "&") and sub

  unfoldable pub or_chain : Reader (Form L) → Reader (Form L)
  or_chain sub = chain (code "|") or (and_chain sub)

  unfoldable pub by_kind : Reader L → Deeper (Form L) → Kind → ℕ → ℕ → List ℕ → Got (Form L)
  by_kind lf d word n b r = bind (literal {A = Unit {0}} (bytes "rue") tt n r) (λ u m r₁. node (b ∷ r) m (λ m₁. got top m₁ r₁))
  by_kind lf shut paren n b r = no 14 (b ∷ r)
  by_kind lf (open' sm un) paren n b r = bind (or_chain un n r) (λ a m r₁. expect (code ")") a m r₁)
  by_kind lf shut (prefix o) n b r = no 14 (b ∷ r)
  by_kind lf (open' sm un) (prefix o) n b r = node (b ∷ r) n (λ m. bind (sm m r) (λ a m₁ r₁. got (prefixed o a) m₁ r₁))
  by_kind lf d other n b r = bind (lf n (b ∷ r)) (λ x m r₁. got (leaf x) m r₁)

  unfoldable pub small_at : Reader L → Deeper (Form L) → Reader (Form L)
  small_at lf d n [] = no 13 []
  small_at lf d n (b ∷ r) = by_kind lf d (kind b) n b r

  unfoldable pub small_of : Reader L → Deeper (Form L) → Reader (Form L)
  small_of lf d n s = small_at lf d n (skip s)

  unfoldable pub by_onward : Deeper (Form L) → Form L → ℕ → List ℕ → Onward → ℕ → List ℕ → Got (Form L)
  by_onward d a n r stop b r₁ = got a n r
  by_onward shut a n r (reach o) b r₁ = no 14 (b ∷ r₁)
  by_onward (open' sm un) a n r (reach o) b r₁ = node (b ∷ r₁) n (λ m. bind (un m r₁) (λ c m₁ r₂. got (reached o a c) m₁ r₂))

  unfoldable pub until_at : Deeper (Form L) → Form L → ℕ → List ℕ → List ℕ → Got (Form L)
  until_at d a n r [] = got a n r
  until_at d a n r (b ∷ r₁) = by_onward d a n r (onward b) b r₁

  unfoldable pub until_of : Reader (Form L) → Deeper (Form L) → Reader (Form L)
  until_of sm d n s = bind (sm n s) (λ a m r. until_at d a m r (skip r))

-- by the levels still allowed, over the reader of a leaf at each
module _ {L : Type 0} (lf : ℕ → Reader L) where
  unfoldable pub deeper : ℕ → Deeper (Form L)
  deeper zero = shut
  deeper (suc l) = let d = deeper l in let sm = small_of (lf l) d in open' sm (until_of sm d)

  unfoldable pub smalls : ℕ → Reader (Form L)
  smalls l = small_of (lf l) (deeper l)

  unfoldable pub untils : ℕ → Reader (Form L)
  untils l = until_of (smalls l) (deeper l)

  unfoldable pub ands : ℕ → Reader (Form L)
  ands l = and_chain (untils l)

  unfoldable pub ors : ℕ → Reader (Form L)
  ors l = or_chain (untils l)

---- Leaves.
-- a mark, at its first byte
unfoldable pub mark_by : Bool → ℕ → ℕ → List ℕ → Got ℕ
mark_by false n b r = no 13 (b ∷ r)
mark_by true n b r = bind (number n r) (λ k m r₁. node (b ∷ r) m (λ m₁. pick (leb k 31) (got k m₁ r₁) (no 15 r)))

unfoldable pub marks : Reader ℕ
marks n [] = no 13 []
marks n (b ∷ r) = mark_by (eqb b (code "m")) n b r

unfoldable pub inners : ℕ → Reader Inner
inners l = ors (λ i. marks) l

-- a number with its `%`, at its first byte
unfoldable pub limits : Reader (ℕ × Bool)
limits n s = bind (number n s) (λ k m r. bind (percent m r) (λ p m₁ r₁. pick (leb k (most p)) (got (k, p) m₁ r₁) (no 15 s)))

-- a group's digit
abbrev pub is_group : ℕ → Bool
is_group b = leb (code "0") b && leb b (code "7")

unfoldable pub group_digit : Reader Over
group_digit n [] = no 13 []
group_digit n (b ∷ r) = pick (is_group b) (got (group (b - code "0")) n r) (no 13 (b ∷ r))

-- where `@` stands behind the spaces of s, a group; else the fleet
unfoldable pub over_at : ℕ → List ℕ → List ℕ → Got Over
over_at n s [] = got fleet n s
over_at n s (b ∷ r) = pick (eqb b (code "@")) (group_digit n r) (got fleet n s)

unfoldable pub overs : Reader Over
overs n s = over_at n s (skip s)

-- an amount, at its number's first byte
unfoldable pub amounts : Reader Amount
amounts n s = bind (limits n s) (λ x m r. bind (overs m r) (λ o m₁ r₁. got (amount x.0 x.1 o) m₁ r₁))

-- an amount and the `]`
unfoldable pub count_end : Inner → Reader Counted
count_end a n s = bind (amounts n s) (λ x m r. expect (code "]") (counted a x) m r)

-- a count, at its first byte
unfoldable pub count_by : ℕ → Bool → ℕ → ℕ → List ℕ → Got Counted
count_by l false n b r = no 13 (b ∷ r)
count_by zero true n b r = no 14 (b ∷ r)
count_by (suc l) true n b r = node (b ∷ r) n (λ m. bind (bind (inners l m r) (λ a m₁ r₁. expect (code ",") a m₁ r₁)) (λ a m₁ r₁. count_end a m₁ (skip r₁)))

unfoldable pub counts : ℕ → Reader Counted
counts l n [] = no 13 []
counts l n (b ∷ r) = count_by l (eqb b (code "[")) n b r

unfoldable pub clauses : ℕ → Reader Clause
clauses l = ors counts l

---- The sheet.
unfoldable pub clause_line : Reader Clause
clause_line n s = bind (clauses 32 n s) (λ c m r. expect (code "\n") c m r)

-- the lines still allowed
unfoldable pub lines : ℕ → List ℕ → Got (List Clause)
lines zero [] = got [] 0 []
lines zero (b ∷ s) = no 14 (b ∷ s)
lines (suc k) [] = got [] 0 []
lines (suc k) (b ∷ s) = bind (clause_line 128 (b ∷ s)) (λ c m r. bind (lines k r) (λ cs m₁ r₁. got (c ∷ cs) m₁ r₁))

pub data Read : Type 0 where
  accepted : List Clause → Read
  refused : ℕ → ℕ → Read

-- an offset is what stands before the refused byte
unfoldable pub outcome : ℕ → Got (List Clause) → Read
outcome len (got cs n r) = accepted cs
outcome len (no w r) = refused w (len - length r)

unfoldable pub start : List ℕ → Read
start [] = refused 7 0
start (b ∷ s) = outcome (length (b ∷ s)) (lines 32 (b ∷ s))

unfoldable pub read_sheet : List ℕ → Read
read_sheet s = let r = start s in pick (ltb 16384 (length s)) (refused 12 0) r
