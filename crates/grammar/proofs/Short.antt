-- A reader goes on in the text: whatever it gives or refuses stands no further back than the first byte that it sees.
use Prim.Native.Nat.{ℕ, zero, suc, ◌+◌, ◌*◌, ◌-◌, ◌≤◌}
use Rattle.std.specs.Prelude.{refl, Bool, true, false, length, leb, eqb}
use Rattle.std.proofs.Common.{inl, inr, arith}
use mathlib.Core.List.{List, [], ◌∷◌}
use Rattle.grammar.specs.Grammar.{Form, Inner, Over, fleet, group, counted}
use Rattle.grammar.specs.Limits.{most}
use Rattle.grammar.specs.Reader.{Got, got, no, Reader, bind, node, skip, expect_at, expect, literal, is_digit, digits, number, percent, Kind, kind, Onward, stop, onward, Deeper, shut, open', chain_at, chain_more, chain, and_chain, or_chain, by_kind, small_at, small_of, by_onward, until_at, until_of, deeper, smalls, untils, ors, mark_by, marks, inners, limits, is_group, group_digit, over_at, overs, amounts, count_end, count_by, counts, clauses, clause_line, lines}
use Rattle.grammar.specs.Answers.{InSheet}
use Rattle.grammar.proofs.Each.{Each, gives, denies, each_bind, each_map, each_node, either, skip_spaces}
use Rattle.grammar.proofs.Sound.{spaces_short}

pub skip_short : (s : List ℕ) → length (skip s) ≤ length s
skip_short s = spaces_short (skip_spaces s)

c13 : InSheet 13
c13 = inl refl

c14 : InSheet 14
c14 = inr (inl refl)

c15 : InSheet 15
c15 = inr (inr refl)

-- no outcome's text is longer than N: what is left, behind spaces, and what is refused
abbrev pub Within : {A : Type 0} → ℕ → Got A → Type 0
Within {A} N g = Each (λ (a : A) m r. length (skip r) ≤ N) (λ w r. (length r ≤ N) × InSheet w) g

-- and without the spaces
abbrev pub Inside : {A : Type 0} → ℕ → Got A → Type 0
Inside {A} N g = Each (λ (a : A) m r. length r ≤ N) (λ w r. (length r ≤ N) × InSheet w) g

pub inside_within : {A : Type 0} {N : ℕ} {g : Got A} → Inside N g → Within N g
inside_within x = each_map x (λ a m r h. let i = skip_short r in omega arith) (λ w r h. h)

abbrev pub Shrinks : {A : Type 0} → Reader A → Type 0
Shrinks rd = (N n : ℕ) (s : List ℕ) → length (skip s) ≤ N → Within N (rd n s)

-- of a reader that skips no spaces first
abbrev pub Shrinks₁ : {A : Type 0} → Reader A → Type 0
Shrinks₁ rd = (N n : ℕ) (s : List ℕ) → length s ≤ N → Within N (rd n s)

expect_at_short : {A : Type 0} (c : ℕ) (a : A) (N n : ℕ) (s : List ℕ) → length s ≤ N → Inside N (expect_at c a n s)
unfolding expect_at
expect_at_short c a N n [] h = denies (h, c13)
expect_at_short {A} c a N n (b ∷ r) h =
    either (λ (g : Got A). Inside N g) (eqb b c) (got a n r) (no 13 (b ∷ r)) (λ e. gives (omega arith)) (λ e. denies (h, c13))

pub expect_inside : {A : Type 0} (c : ℕ) (a : A) (N n : ℕ) (s : List ℕ) → length (skip s) ≤ N → Inside N (expect c a n s)
unfolding expect
expect_inside c a N n s h = expect_at_short c a N n (skip s) h

pub expect_short : {A : Type 0} (c : ℕ) (a : A) → Shrinks (expect c a)
expect_short c a N n s h = inside_within (expect_inside c a N n s h)

pub literal_short : {A : Type 0} (w : List ℕ) (a : A) (N n : ℕ) (s : List ℕ) → length s ≤ N → Inside N (literal w a n s)
unfolding literal
literal_short [] a N n s h = gives h
literal_short (c ∷ w) a N n [] h = denies (h, c13)
literal_short {A} (c ∷ w) a N n (b ∷ s) h =
    either (λ (g : Got A). Inside N g) (eqb b c) (literal w a n s) (no 13 (b ∷ s)) (λ e. literal_short w a N n s (omega arith)) (λ e. denies (h, c13))

pub digits_short : (v N n : ℕ) (s : List ℕ) → length s ≤ N → Inside N (digits v n s)
unfolding digits
digits_short v N n [] h = gives h
digits_short v N n (b ∷ s) h =
    either (λ (g : Got ℕ). Inside N g) (is_digit b) (digits (v * 10 + (b - 48)) n s) (got v n (b ∷ s))
    (λ e. digits_short (v * 10 + (b - 48)) N n s (omega arith)) (λ e. gives h)

pub number_short : (N n : ℕ) (s : List ℕ) → length s ≤ N → Inside N (number n s)
unfolding number
number_short N n [] h = denies (h, c13)
number_short N n (b ∷ s) h =
    either (λ (g : Got ℕ). Inside N g) (eqb b 48) (got 0 n s) _ (λ e. gives (omega arith))
    (λ e. either (λ (g : Got ℕ). Inside N g) (is_digit b) (digits (b - 48) n s) (no 13 (b ∷ s)) (λ d. digits_short (b - 48) N n s (omega arith))
    (λ d. denies (h, c13)))

pub percent_short : (N n : ℕ) (s : List ℕ) → length s ≤ N → Inside N (percent n s)
unfolding percent
percent_short N n [] h = gives h
percent_short N n (b ∷ s) h = either (λ (g : Got Bool). Inside N g) (eqb b 37) (got true n s) (got false n (b ∷ s)) (λ e. gives (omega arith)) (λ e. gives h)

module _ {A : Type 0} (c : ℕ) (join : A → A → A) where
  chain_at_short : (N : ℕ) (a : A) (n : ℕ) (r : List ℕ) (go : Reader A) (r' : List ℕ) → length (skip r) ≤ N → length r' ≤ N
      → ((m : ℕ) (r₁ : List ℕ) → suc (length r₁) ≤ N → Within N (go m r₁)) → Within N (chain_at c join a n r go r')
  unfolding chain_at
  chain_at_short N a n r go [] h i y = gives h
  chain_at_short N a n r go (b ∷ r₁) h i y =
      either (λ (g : Got A). Within N g) (eqb b c) (node (b ∷ r₁) n (λ m. go m r₁)) (got a n r)
      (λ e. each_node (b ∷ r₁) n _ (λ m j. y m r₁ i) (λ j. (i, c14))) (λ e. gives h)

  pub chain_more_short : (sub : Reader A) → Shrinks sub → (f : ℕ) (a : A) → Shrinks (chain_more c join sub f a)
  unfolding chain_more
  chain_more_short sub g zero a N n s h = chain_at_short N a n s _ (skip s) h h (λ m r₁ i. denies (i, c14))
  chain_more_short sub g (suc f) a N n s h =
      chain_at_short N a n s _ (skip s) h h
      (λ m r₁ i. let k = skip_short r₁ in each_bind (sub m r₁) _
      (each_map (g N m r₁ (omega arith)) (λ b m₂ r₂ j. chain_more_short sub g f (join a b) N m₂ r₂ j) (λ w r₂ j. j)))

  pub chain_short : (sub : Reader A) → Shrinks sub → Shrinks (chain c join sub)
  unfolding chain
  chain_short sub g N n s h = each_bind (sub n s) _ (each_map (g N n s h) (λ a m r i. chain_more_short sub g m a N m r i) (λ w r i. i))

module _ {L : Type 0} where
  abbrev pub ShrinksDeeper : Deeper (Form L) → Type 0
  ShrinksDeeper shut = Unit {0}
  ShrinksDeeper (open' sm un) = Shrinks sm × Shrinks un

  pub and_short : (sub : Reader (Form L)) → Shrinks sub → Shrinks (and_chain sub)
  unfolding and_chain
  and_short sub g = chain_short 38 Form.and sub g

  pub or_short : (sub : Reader (Form L)) → Shrinks sub → Shrinks (or_chain sub)
  unfolding or_chain
  or_short sub g = chain_short 124 Form.or (and_chain sub) (and_short sub g)

  by_kind_short : (lf : Reader L) (d : Deeper (Form L)) → Shrinks₁ lf → ShrinksDeeper d → (q : Kind) (N n b : ℕ) (r : List ℕ) → suc (length r) ≤ N
      → Within N (by_kind lf d q n b r)
  unfolding by_kind
  by_kind_short lf d gl gd Kind.word N n b r h =
      each_bind (literal (114 ∷ 117 ∷ 101 ∷ []) tt n r) _
      (each_map (literal_short (114 ∷ 117 ∷ 101 ∷ []) tt N n r (omega arith))
      (λ u m r₁ i. each_node (b ∷ r) m _ (λ m₁ j. gives (let k = skip_short r₁ in omega arith)) (λ j. (h, c14))) (λ w r₁ i. i))
  by_kind_short lf shut gl gd Kind.paren N n b r h = denies {r = b ∷ r} (h, c14)
  by_kind_short lf (open' sm un) gl gd Kind.paren N n b r h =
      let k = skip_short r in
      each_bind (or_chain un n r) _ (each_map (or_short un gd.1 N n r (omega arith)) (λ a m r₁ i. expect_short 41 a N m r₁ i) (λ w r₁ i. i))
  by_kind_short lf shut gl gd (Kind.prefix o) N n b r h = denies {r = b ∷ r} (h, c14)
  by_kind_short lf (open' sm un) gl gd (Kind.prefix o) N n b r h =
      let k = skip_short r in
      each_node (b ∷ r) n _ (λ m j. each_bind (sm m r) _ (each_map (gd.0 N m r (omega arith)) (λ a m₁ r₁ i. gives i) (λ w r₁ i. i))) (λ j. (h, c14))
  by_kind_short lf d gl gd Kind.other N n b r h = each_bind (lf n (b ∷ r)) _ (each_map (gl N n (b ∷ r) h) (λ x m r₁ i. gives i) (λ w r₁ i. i))

  pub small_at_short : (lf : Reader L) (d : Deeper (Form L)) → Shrinks₁ lf → ShrinksDeeper d → Shrinks₁ (small_at lf d)
  unfolding small_at
  small_at_short lf d gl gd N n [] h = denies (h, c13)
  small_at_short lf d gl gd N n (b ∷ r) h = by_kind_short lf d gl gd (kind b) N n b r h

  pub small_short : (lf : Reader L) (d : Deeper (Form L)) → Shrinks₁ lf → ShrinksDeeper d → Shrinks (small_of lf d)
  unfolding small_of
  small_short lf d gl gd N n s h = small_at_short lf d gl gd N n (skip s) h

  by_onward_short : (d : Deeper (Form L)) → ShrinksDeeper d → (q : Onward) (N : ℕ) (a : Form L) (n : ℕ) (r : List ℕ) (b : ℕ) (r₁ : List ℕ)
      → length (skip r) ≤ N → suc (length r₁) ≤ N
      → Within N (by_onward d a n r q b r₁)
  unfolding by_onward
  by_onward_short d gd stop N a n r b r₁ h i = gives h
  by_onward_short shut gd (Onward.reach o) N a n r b r₁ h i = denies {r = b ∷ r₁} (i, c14)
  by_onward_short (open' sm un) gd (Onward.reach o) N a n r b r₁ h i =
      let k = skip_short r₁ in
      each_node (b ∷ r₁) n _ (λ m j. each_bind (un m r₁) _ (each_map (gd.1 N m r₁ (omega arith)) (λ c m₁ r₂ z. gives z) (λ w r₂ z. z))) (λ j. (i, c14))

  until_at_short : (d : Deeper (Form L)) → ShrinksDeeper d → (N : ℕ) (a : Form L) (n : ℕ) (r r' : List ℕ) → length (skip r) ≤ N → length r' ≤ N
      → Within N (until_at d a n r r')
  unfolding until_at
  until_at_short d gd N a n r [] h i = gives h
  until_at_short d gd N a n r (b ∷ r₁) h i = by_onward_short d gd (onward b) N a n r b r₁ h i

  pub until_more_short : (d : Deeper (Form L)) → ShrinksDeeper d → (N : ℕ) (a : Form L) (n : ℕ) (r : List ℕ) → length (skip r) ≤ N
      → Within N (until_at d a n r (skip r))
  until_more_short d gd N a n r h = until_at_short d gd N a n r (skip r) h h

  pub until_short : (sm : Reader (Form L)) (d : Deeper (Form L)) → Shrinks sm → ShrinksDeeper d → Shrinks (until_of sm d)
  unfolding until_of
  until_short sm d g gd N n s h = each_bind (sm n s) _ (each_map (g N n s h) (λ a m r i. until_more_short d gd N a m r i) (λ w r i. i))

  module _ (lf : ℕ → Reader L) (gl : (l : ℕ) → Shrinks₁ (lf l)) where
    pub deeper_short : (l : ℕ) → ShrinksDeeper (deeper lf l)
    unfolding deeper
    deeper_short zero = tt
    deeper_short (suc l) =
        let d = deeper_short l in
        let sm = small_short (lf l) (deeper lf l) (gl l) d in
        (sm, until_short (small_of (lf l) (deeper lf l)) (deeper lf l) sm d)

    pub untils_short : (l : ℕ) → Shrinks (untils lf l)
    unfolding untils smalls
    untils_short l = until_short (small_of (lf l) (deeper lf l)) (deeper lf l) (small_short (lf l) (deeper lf l) (gl l) (deeper_short l)) (deeper_short l)

    pub ors_short : (l : ℕ) → Shrinks (ors lf l)
    unfolding ors
    ors_short l = or_short (untils lf l) (untils_short l)

---- Leaves.
mark_by_short : (q : Bool) (N n b : ℕ) (r : List ℕ) → suc (length r) ≤ N → Within N (mark_by q n b r)
unfolding mark_by
mark_by_short false N n b r h = denies {r = b ∷ r} (h, c13)
mark_by_short true N n b r h =
    each_bind (number n r) _
    (each_map (number_short N n r (omega arith))
    (λ k m r₁ i.
    each_node (b ∷ r) m _
    (λ m₁ j. either (λ (g : Got ℕ). Within N g) (leb k 31) (got k m₁ r₁) (no 15 r) (λ e. gives (let z = skip_short r₁ in omega arith))
    (λ e. denies {r = r} (omega arith, c15)))
    (λ j. (h, c14)))
    (λ w r₁ i. i))

pub marks_short : Shrinks₁ marks
unfolding marks
marks_short N n [] h = denies (h, c13)
marks_short N n (b ∷ r) h = mark_by_short (eqb b 109) N n b r h

pub inners_short : (l : ℕ) → Shrinks (inners l)
unfolding inners
inners_short l = ors_short (λ i. marks) (λ i. marks_short) l

pub limits_short : (N n : ℕ) (s : List ℕ) → length s ≤ N → Inside N (limits n s)
unfolding limits
limits_short N n s h =
    each_bind (number n s) _
    (each_map (number_short N n s h)
    (λ k m r i.
    each_bind (percent m r) _
    (each_map (percent_short N m r i)
    (λ p m₁ r₁ j.
    either (λ (g : Got (ℕ × Bool)). Inside N g) (leb k (most p)) (got (k, p) m₁ r₁) (no 15 s) (λ e. gives j) (λ e. denies {r = s} (h, c15)))
    (λ w r₁ j. j)))
    (λ w r i. i))

pub group_digit_short : Shrinks₁ group_digit
unfolding group_digit
group_digit_short N n [] h = denies (h, c13)
group_digit_short N n (b ∷ r) h =
    either (λ (g : Got Over). Within N g) (is_group b) (got (group (b - 48)) n r) (no 13 (b ∷ r)) (λ e. gives (let z = skip_short r in omega arith))
    (λ e. denies (h, c13))

over_at_short : (N n : ℕ) (s r : List ℕ) → length (skip s) ≤ N → length r ≤ N → Within N (over_at n s r)
unfolding over_at
over_at_short N n s [] h i = gives h
over_at_short N n s (b ∷ r) h i =
    either (λ (g : Got Over). Within N g) (eqb b 64) (group_digit n r) (got fleet n s) (λ e. group_digit_short N n r (omega arith)) (λ e. gives h)

pub overs_short : Shrinks overs
unfolding overs
overs_short N n s h = over_at_short N n s (skip s) h h

pub amounts_short : Shrinks₁ amounts
unfolding amounts
amounts_short N n s h =
    each_bind (limits n s) _
    (each_map (limits_short N n s h)
    (λ x m r i.
    let z = skip_short r in
    each_bind (overs m r) _ (each_map (overs_short N m r (omega arith)) (λ o m₁ r₁ j. gives j) (λ w r₁ j. j)))
    (λ w r i. i))

pub threshold_short : (a : Inner) → Shrinks₁ (count_end a)
unfolding count_end
threshold_short a N n s h =
    each_bind (amounts n s) _
    (each_map (amounts_short N n s h) (λ x m r i. expect_short 93 (counted a x) N m r i) (λ w r i. i))

count_by_short : (l : ℕ) (q : Bool) (N n b : ℕ) (r : List ℕ) → suc (length r) ≤ N → Within N (count_by l q n b r)
unfolding count_by
count_by_short l false N n b r h = denies {r = b ∷ r} (h, c13)
count_by_short zero true N n b r h = denies {r = b ∷ r} (h, c14)
count_by_short (suc l) true N n b r h =
    let k = skip_short r in
    each_node (b ∷ r) n _
    (λ m j.
    each_bind (bind (inners l m r) _) _
    (each_bind (inners l m r) _
    (each_map (inners_short l N m r (omega arith))
    (λ a m₁ r₁ i. each_map (expect_short 44 a N m₁ r₁ i) (λ a₁ m₂ r₂ z. threshold_short a₁ N m₂ (skip r₂) z) (λ w r₂ z. z)) (λ w r₁ i. i))))
    (λ j. (h, c14))

pub counts_short : (l : ℕ) → Shrinks₁ (counts l)
unfolding counts
counts_short l N n [] h = denies (h, c13)
counts_short l N n (b ∷ r) h = count_by_short l (eqb b 91) N n b r h

pub clauses_short : (l : ℕ) → Shrinks (clauses l)
unfolding clauses
clauses_short l = ors_short counts counts_short l

pub lines_short : (k N : ℕ) (s : List ℕ) → length s ≤ N → Each (λ cs m r. Unit {0}) (λ w r. (length r ≤ N) × InSheet w) (lines k s)
unfolding lines clause_line
lines_short zero N [] h = gives tt
lines_short zero N (b ∷ s) h = denies (h, c14)
lines_short (suc k) N [] h = gives tt
lines_short (suc k) N (b ∷ s) h =
    let z = skip_short (b ∷ s) in
    each_bind (bind (clauses 32 128 (b ∷ s)) _) _
    (each_bind (clauses 32 128 (b ∷ s)) _
    (each_map (clauses_short 32 N 128 (b ∷ s) (omega arith))
    (λ c m r i. each_map (expect_inside 10 c N m r i)
    (λ c₁ m₁ r₁ j. each_bind (lines k r₁) _ (each_map (lines_short k N r₁ j) (λ cs m₂ r₂ x. gives tt) (λ w r₂ x. x))) (λ w r₁ j. j))
    (λ w r i. i)))
