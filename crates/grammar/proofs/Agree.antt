-- The readers follow the grammar: on a text that is a part and goes on as it may, they give that part, or refuse it by a limit.
-- The text that is read, s, need be that of the grammar, s', only up to the first byte of an end u: what is refused by 13 is then past that byte.
use Prim.Native.Nat.{ℕ, zero, suc, ◌+◌, ◌*◌, ◌-◌, ◌≤◌, ◌<◌, max}
use Rattle.std.specs.Prelude.{◌≡◌, ◌⊎◌, Bool, true, false, ◌||◌, length, eqb}
use Rattle.std.proofs.Math.Path.{refl, ap, subst}
use Rattle.std.proofs.Common.{sym, ◌∙◌, arith, eq-eqb, ne_eqb}
use Rattle.std.proofs.Math.Logic.{inl, inr, ⊎_elim}
use mathlib.Core.List.{List, [], ◌∷◌, ◌++◌}
use Rattle.std.proofs.lemmas.Bool.{eqb-false}
use Rattle.grammar.specs.Grammar.{Form, top, Spaces, none, space, Digits, end, digit, Number, nought, other, Percent, without, sign, Prefix, not, next, finally, globally, prefix_byte, prefixed, Reach, U, R, reach_byte, reached, Rank, small, Part, word, parens, prefix, one_small, reach, one_until, one_and}
use Rattle.grammar.specs.Limits.{level, nodes, InRange}
use Rattle.grammar.specs.Reader.{pick, Got, got, no, Reader, bind, node, skip, expect_at, expect, literal, is_digit, digits, number, percent, Kind, kind, Onward, stop, onward, Deeper, shut, open', chain_at, chain_more, chain, and_chain, or_chain, by_kind, small_at, small_of, by_onward, until_at, until_of, deeper, smalls, untils, ors}
use Rattle.grammar.proofs.Ends.{Swap, here, there}
use Rattle.grammar.proofs.Each.{Each, gives, denies, each_bind, each_map, each_both, each_node, never, is_digit_lem, literal_keeps}
use Rattle.grammar.proofs.Sound.{nodes_prefix, nodes_reach}
use Rattle.grammar.proofs.Short.{skip_short, Within, Inside, Shrinks, Shrinks₁, expect_inside, expect_short, literal_short, digits_short, number_short, chain_more_short, ShrinksDeeper, and_short, or_short, small_at_short, until_more_short, deeper_short, untils_short}

---- Two ends with one first byte.
pub data SameHead : List ℕ → List ℕ → Type 0 where
  neither : SameHead [] []
  both : {b : ℕ} {w w' : List ℕ} → SameHead (b ∷ w) (b ∷ w')

pub clash : {A : Type 0} → ◌≡◌ {A = ℕ} 0 1 → A
clash e = absurd (omega arith)

-- the next byte is the same, and may be the end's
pub near_step : {u u' s t : List ℕ} → SameHead u u' → Swap u u' s t → (c : ℕ) (t₁ : List ℕ) → t ≡ c ∷ t₁
    → (s₁ : List ℕ) × (s ≡ c ∷ s₁) × (Swap u u' s₁ t₁ ⊎ (length s₁ < length u))
near_step neither here c t₁ e = clash (cc)
near_step (both {b = b} {w = w} {w' = w'}) here c t₁ e = let h : b ≡ c = cc in (w, ap (λ (x : ℕ). x ∷ w) h, inr (omega arith))
near_step {u} {u'} same (there {c = d} {s = s} {t = t} x) c t₁ e =
    let h : d ≡ c = cc in let i : t ≡ t₁ = cc in (s, ap (λ (y : ℕ). y ∷ s) h, inl (subst (λ (y : List ℕ). Swap u u' s y) i x))

pub near_nil : {u u' s t : List ℕ} → SameHead u u' → Swap u u' s t → t ≡ [] → s ≡ []
near_nil neither here e = refl
near_nil (both {b = b} {w' = w'}) here e = clash (let z : b ∷ w' ≡ [] = e in cc)
near_nil same (there {c = c} {t = t} x) e = clash (let z : c ∷ t ≡ [] = e in cc)

pub skip_at : (b : ℕ) (s : List ℕ) → (b ≡ 32 → ⊥) → skip (b ∷ s) ≡ b ∷ s
unfolding skip
skip_at b s h = simp (ne_eqb b 32 h)

pub skip_space : (s : List ℕ) → skip (32 ∷ s) ≡ skip s
unfolding skip
skip_space s = refl

---- What may stand behind a part: nothing that it could go on with.
or_false_l : (a b : Bool) → (a || b) ≡ false → a ≡ false
or_false_l true b e = e
or_false_l false b e = refl

or_false_r : (a b : Bool) → (a || b) ≡ false → b ≡ false
or_false_r true b e = never (sym e)
or_false_r false b e = e

abbrev pub goes : Rank → ℕ → Bool
goes small b = eqb b 32 || is_digit b
goes Rank.untils b = (eqb b 85 || eqb b 82) || (eqb b 32 || is_digit b)
goes Rank.ands b = eqb b 38 || ((eqb b 85 || eqb b 82) || (eqb b 32 || is_digit b))
goes Rank.ors b = eqb b 124 || (eqb b 38 || ((eqb b 85 || eqb b 82) || (eqb b 32 || is_digit b)))

pub record Follow (k : Rank) (t : List ℕ) : Type 0 where
  pub byte : ℕ
  pub rest : List ℕ
  pub spaces : Spaces t (byte ∷ rest)
  pub ends : goes k byte ≡ false
  pub plain : goes small byte ≡ false

pub follow_and : {t : List ℕ} → Follow Rank.ors t → Follow Rank.ands t
follow_and f = record { byte = f.byte; rest = f.rest; spaces = f.spaces; ends = or_false_r (eqb f.byte 124) _ f.ends; plain = f.plain }

pub follow_until : {t : List ℕ} → Follow Rank.ands t → Follow Rank.untils t
follow_until f = record { byte = f.byte; rest = f.rest; spaces = f.spaces; ends = or_false_r (eqb f.byte 38) _ f.ends; plain = f.plain }

pub follow_small : {t : List ℕ} → Follow Rank.untils t → Follow small t
follow_small f = record { byte = f.byte; rest = f.rest; spaces = f.spaces; ends = f.plain; plain = f.plain }

pub not_space : (c : ℕ) → goes small c ≡ false → c ≡ 32 → ⊥
not_space c h = eqb-false c 32 (or_false_l (eqb c 32) (is_digit c) h)

-- the next byte is none of f
abbrev pub HeadNot : (ℕ → Bool) → List ℕ → Type 0
HeadNot f t = (c : ℕ) × (t₁ : List ℕ) × (t ≡ c ∷ t₁) × (f c ≡ false)

pub head_not : (f : ℕ → Bool) {t t₁ : List ℕ} {c : ℕ} → f 32 ≡ false → f c ≡ false → Spaces t (c ∷ t₁) → HeadNot f t
head_not f {t₁ = t₁} {c = c} h i none = (c, t₁, refl, i)
head_not f h i (space {s = s} x) = (32, s, refl, h)

pub follow_digit : {t : List ℕ} → Follow small t → HeadNot is_digit t
follow_digit f = head_not is_digit refl (or_false_r (eqb f.byte 32) (is_digit f.byte) f.plain) f.spaces

pub digits_stop : (v n c : ℕ) (s : List ℕ) → is_digit c ≡ false → digits v n (c ∷ s) ≡ got v n (c ∷ s)
unfolding digits
digits_stop v n c s h = ap (λ (x : Bool). pick x (digits (v * 10 + (c - 48)) n s) (got v n (c ∷ s))) h

pub digits_on : (v n c : ℕ) (s : List ℕ) → is_digit c ≡ true → digits v n (c ∷ s) ≡ digits (v * 10 + (c - 48)) n s
unfolding digits
digits_on v n c s h = ap (λ (x : Bool). pick x (digits (v * 10 + (c - 48)) n s) (got v n (c ∷ s))) h

pub number_on : (n b : ℕ) (s : List ℕ) → 49 ≤ b → b ≤ 57 → number n (b ∷ s) ≡ digits (b - 48) n s
unfolding number
number_on n b s h i =
    ap (λ (x : Bool). pick x (got 0 n s) (pick (is_digit b) (digits (b - 48) n s) (no 13 (b ∷ s)))) (ne_eqb b 48 (λ e. omega arith))
    ∙ ap (λ (x : Bool). pick x (digits (b - 48) n s) (no 13 (b ∷ s))) (is_digit_lem b (omega arith) i)

pub number_nought : (n : ℕ) (s : List ℕ) → number n (48 ∷ s) ≡ got 0 n s
unfolding number
number_nought n s = refl

-- no digit is no 0
pub number_off : (n b : ℕ) (s : List ℕ) → is_digit b ≡ false → number n (b ∷ s) ≡ no 13 (b ∷ s)
unfolding number
number_off n b s h =
    ap (λ (x : Bool). pick x (got 0 n s) (pick (is_digit b) (digits (b - 48) n s) (no 13 (b ∷ s)))) (ne_eqb b 48 (λ e. never (sym h ∙ ap is_digit e)))
    ∙ ap (λ (x : Bool). pick x (digits (b - 48) n s) (no 13 (b ∷ s))) h

percent_stop : (n c : ℕ) (s : List ℕ) → eqb c 37 ≡ false → percent n (c ∷ s) ≡ got false n (c ∷ s)
unfolding percent
percent_stop n c s h = ap (λ (x : Bool). pick x (got true n s) (got false n (c ∷ s))) h

literal_on : {A : Type 0} (c : ℕ) (w : List ℕ) (a : A) (n : ℕ) (s : List ℕ) → literal (c ∷ w) a n (c ∷ s) ≡ literal w a n s
unfolding literal
literal_on c w a n s = ap (λ (x : Bool). pick x (literal w a n s) (no 13 (c ∷ s))) (eq-eqb c c refl)

expect_on : {A : Type 0} (c : ℕ) (a : A) (n : ℕ) (s : List ℕ) → expect_at c a n (c ∷ s) ≡ got a n s
unfolding expect_at
expect_on c a n s = ap (λ (x : Bool). pick x (got a n s) (no 13 (c ∷ s))) (eq-eqb c c refl)

pub kind-prefix : (o : Prefix) → kind (prefix_byte o) ≡ Kind.prefix o
kind-prefix not = refl
kind-prefix next = refl
kind-prefix finally = refl
kind-prefix globally = refl

prefix_space : (o : Prefix) → prefix_byte o ≡ 32 → ⊥
prefix_space not e = omega arith
prefix_space next e = omega arith
prefix_space finally e = omega arith
prefix_space globally e = omega arith

pub range_of_prefix : {L : Type 0} (P : L → Type 0) (o : Prefix) (a : Form L) → InRange P (prefixed o a) → InRange P a
range_of_prefix P not a x = x
range_of_prefix P next a x = x
range_of_prefix P finally a x = x
range_of_prefix P globally a x = x

pub onward-reach : (o : Reach) → onward (reach_byte o) ≡ Onward.reach o
onward-reach U = refl
onward-reach R = refl

reach_goes : (o : Reach) → goes small (reach_byte o) ≡ false
reach_goes U = refl
reach_goes R = refl

pub range_of_reach : {L : Type 0} (P : L → Type 0) (o : Reach) (a b : Form L) → InRange P (reached o a b) → InRange P a × InRange P b
range_of_reach P U a b x = x
range_of_reach P R a b x = x

onward-stop : (c : ℕ) → goes Rank.untils c ≡ false → onward c ≡ stop
onward-stop c h =
    let i = or_false_l (eqb c 85 || eqb c 82) (eqb c 32 || is_digit c) h in
    ap (λ (x : Bool). pick x (Onward.reach U) (pick (eqb c 82) (Onward.reach R) stop)) (or_false_l (eqb c 85) (eqb c 82) i)
    ∙ ap (λ (x : Bool). pick x (Onward.reach R) stop) (or_false_r (eqb c 85) (eqb c 82) i)

---- A chain from its first part on, grouped to the left; lim is a bound on its parts' levels.
module _ {L : Type 0} (Leaf : List ℕ → List ℕ → L → Type 0) (leafLevel : (s r : List ℕ) (x : L) → Leaf s r x → ℕ) (k : Rank) (c : ℕ)
    (join : Form L → Form L → Form L) where
  data More (lim : ℕ) : Form L → List ℕ → List ℕ → Form L → Type 0 where
    enough : {a : Form L} {s : List ℕ} → More lim a s s a
    on : {a b x : Form L} {s s₁ s₂ r : List ℕ} → Spaces s (c ∷ s₁) → (q : Part Leaf k s₁ s₂ b) → level Leaf leafLevel q ≤ lim
        → More lim (join a b) s₂ r x → More lim a s r x

  more_snoc : {lim : ℕ} {a x b : Form L} {s s₁ s₂ r : List ℕ} → More lim a s s₁ x → Spaces s₁ (c ∷ s₂) → (q : Part Leaf k s₂ r b)
      → level Leaf leafLevel q ≤ lim → More lim a s r (join x b)
  more_snoc enough y q h = on y q h enough
  more_snoc (on x p i m) y q h = on x p i (more_snoc m y q h)

  abbrev Chained : ℕ → List ℕ → List ℕ → Form L → Type 0
  Chained lim s r x = (s₁ : List ℕ) × (a : Form L) × (q : Part Leaf k s s₁ a) × (level Leaf leafLevel q ≤ lim) × More lim a s₁ r x

module _ {L : Type 0} (Leaf : List ℕ → List ℕ → L → Type 0) (leafLevel : (s r : List ℕ) (x : L) → Leaf s r x → ℕ) where
  and_chained : {s r : List ℕ} {x : Form L} (lim : ℕ) (p : Part Leaf Rank.ands s r x) → level Leaf leafLevel p ≤ lim
      → Chained Leaf leafLevel Rank.untils 38 Form.and lim s r x
  and_chained {r = r} {x = x} lim (one_until p) h = (r, x, p, h, enough)
  and_chained lim (Part.and p y q) h =
      let z = and_chained lim p (omega arith) in (z.0, z.1, z.2, z.3, more_snoc Leaf leafLevel Rank.untils 38 Form.and z.4 y q (omega arith))

  or_chained : {s r : List ℕ} {x : Form L} (lim : ℕ) (p : Part Leaf Rank.ors s r x) → level Leaf leafLevel p ≤ lim
      → Chained Leaf leafLevel Rank.ands 124 Form.or lim s r x
  or_chained {r = r} {x = x} lim (one_and p) h = (r, x, p, h, enough)
  or_chained lim (Part.or p y q) h =
      let z = or_chained lim p (omega arith) in (z.0, z.1, z.2, z.3, more_snoc Leaf leafLevel Rank.ands 124 Form.or z.4 y q (omega arith))

module _ {A : Type 0} (c : ℕ) (join : A → A → A) (sub : Reader A) (a : A) (s : List ℕ) where
  chain_stop : (e n : ℕ) (r₁ : List ℕ) (go : Reader A) → eqb e c ≡ false → chain_at c join a n s go (e ∷ r₁) ≡ got a n s
  unfolding chain_at
  chain_stop e n r₁ go h = ap (λ (x : Bool). pick x (node (e ∷ r₁) n (λ m. go m r₁)) (got a n s)) h

  chain_go : (n : ℕ) (r₁ : List ℕ) (go : Reader A) → chain_at c join a n s go (c ∷ r₁) ≡ node (c ∷ r₁) n (λ m. go m r₁)
  unfolding chain_at
  chain_go n r₁ go = ap (λ (x : Bool). pick x (node (c ∷ r₁) n (λ m. go m r₁)) (got a n s)) (eq-eqb c c refl)

  pub more_stop : (f n e : ℕ) (r₁ : List ℕ) → skip s ≡ e ∷ r₁ → eqb e c ≡ false → chain_more c join sub f a n s ≡ got a n s
  unfolding chain_more
  more_stop zero n e r₁ i h = ap (chain_at c join a n s _) i ∙ chain_stop e n r₁ _ h
  more_stop (suc f) n e r₁ i h = ap (chain_at c join a n s _) i ∙ chain_stop e n r₁ _ h

  pub more_out : (f : ℕ) (r₁ : List ℕ) → skip s ≡ c ∷ r₁ → chain_more c join sub f a zero s ≡ no 14 (c ∷ r₁)
  unfolding chain_more node
  more_out zero r₁ i = ap (chain_at c join a zero s _) i ∙ chain_go zero r₁ _
  more_out (suc f) r₁ i = ap (chain_at c join a zero s _) i ∙ chain_go zero r₁ _

  pub more_go : (f n : ℕ) (r₁ : List ℕ) → skip s ≡ c ∷ r₁
      → chain_more c join sub (suc f) a (suc n) s ≡ bind (sub n r₁) (λ b m₂ r₂. chain_more c join sub f (join a b) m₂ r₂)
  unfolding chain_more node
  more_go f n r₁ i = ap (chain_at c join a (suc n) s _) i ∙ chain_go (suc n) r₁ _

module _ {L : Type 0} (lf : Reader L) (d : Deeper (Form L)) where
  by_other : (n b : ℕ) (r : List ℕ) → by_kind lf d Kind.other n b r ≡ bind (lf n (b ∷ r)) (λ x m r₁. got (Form.leaf x) m r₁)
  unfolding by_kind
  by_other n b r = refl

by_stop : {L : Type 0} (d : Deeper (Form L)) (a : Form L) (n : ℕ) (r : List ℕ) (b : ℕ) (r₁ : List ℕ) → by_onward d a n r stop b r₁ ≡ got a n r
unfolding by_onward
by_stop d a n r b r₁ = refl

module _ (u u' : List ℕ) (same : SameHead u u') where
  abbrev pub Near : List ℕ → List ℕ → Type 0
  Near s s' = Swap u u' s s'

  abbrev pub Past : List ℕ → Type 0
  Past r = length r < length u

  abbrev pub Close : List ℕ → List ℕ → Type 0
  Close s s' = Near s s' ⊎ Past s

  pub step : {s s' : List ℕ} {c : ℕ} → Near s (c ∷ s') → (s₁ : List ℕ) × (s ≡ c ∷ s₁) × Close s₁ s'
  step {s' = s'} {c = c} x = near_step same x c s' refl

  -- a token's first byte, behind spaces
  token_at : {s' t' : List ℕ} {c : ℕ} → (c ≡ 32 → ⊥) → Spaces s' (c ∷ t') → {s : List ℕ} → Near s s'
      → ((t : List ℕ) × (skip s ≡ c ∷ t) × Close t t') ⊎ Past (skip s)
  token_at {c = c} h none n = let y = step n in inl (y.0, ap skip y.1 ∙ skip_at c y.0 h, y.2)
  token_at h (space x) n =
      let y = step n in
      let e = ap skip y.1 ∙ skip_space y.0 in
      ⊎_elim
      (λ m. ⊎_elim (λ z. inl (z.0, e ∙ z.1, z.2)) (λ z. inr (subst (λ (r : List ℕ). Past r) (sym e) z)) (token_at h x m))
      (λ p. inr (subst (λ (r : List ℕ). Past r) (sym e) (let z = skip_short y.0 in omega arith)))
      y.2

  pub token : {s s' t' : List ℕ} {c : ℕ} → (c ≡ 32 → ⊥) → Near s s' → Spaces s' (c ∷ t') → ((t : List ℕ) × (skip s ≡ c ∷ t) × Close t t') ⊎ Past (skip s)
  token h n x = token_at h x n

  -- and with no byte but what stands there
  arrive_at : {s' t' : List ℕ} → HeadNot (λ b. eqb b 32) t' → Spaces s' t' → {s : List ℕ} → Near s s' → Close (skip s) t'
  arrive_at {t' = t'} h none {s = s} n =
      let y = near_step same n h.0 h.1 h.2 in
      let e : skip s ≡ s = ap skip y.1 ∙ skip_at h.0 y.0 (eqb-false h.0 32 h.3) ∙ sym y.1 in
      inl (subst (λ (r : List ℕ). Near r t') (sym e) n)
  arrive_at {t' = t'} h (space x) n =
      let y = step n in
      let e = ap skip y.1 ∙ skip_space y.0 in
      ⊎_elim (λ m. subst (λ (r : List ℕ). Close r t') (sym e) (arrive_at h x m))
      (λ p. inr (subst (λ (r : List ℕ). Past r) (sym e) (let z = skip_short y.0 in omega arith))) y.2

  pub arrive : {s s' t' : List ℕ} → HeadNot (λ b. eqb b 32) t' → Near s s' → Spaces s' t' → Close (skip s) t'
  arrive h n x = arrive_at h x n

  -- what is given is a, for c nodes, or the end's first byte is behind
  abbrev pub Match : {A : Type 0} → ℕ → A → ℕ → List ℕ → A → ℕ → List ℕ → Type 0
  Match n a c t' a₁ m t = ((a₁ ≡ a) × (n ≡ m + c) × Near t t') ⊎ Past (skip t)

  abbrev pub Match₁ : {A : Type 0} → ℕ → A → List ℕ → A → ℕ → List ℕ → Type 0
  Match₁ n a t' a₁ m t = ((a₁ ≡ a) × (n ≡ m) × Near t t') ⊎ Past t

  -- what is refused is behind that byte, or is refused by a limit that F (level, nodes) or G (numbers) excludes
  pub record Fault (F G : Type 0) (w : ℕ) (r : List ℕ) : Type 0 where
    pub past : w ≡ 13 → Past r
    pub over : w ≡ 14 → F → Past r
    pub only : F → G → 0 < length u

  pub limit : {F G : Type 0} {r : List ℕ} → (F → ⊥) → Fault F G 14 r
  limit f = record { past = λ e. absurd (omega arith); over = λ e v. absurd (f v); only = λ v x. absurd (f v) }

  pub range : {F G : Type 0} {r : List ℕ} → (G → 0 < length u) → Fault F G 15 r
  range g = record { past = λ e. absurd (omega arith); over = λ e v. absurd (omega arith); only = λ v x. g x }

  pub gone : {F G : Type 0} {w : ℕ} {r : List ℕ} → Past r → Fault F G w r
  gone h = record { past = λ e. h; over = λ e v. h; only = λ f g. omega arith }

  pub fault_map : {F F' G G' : Type 0} {w : ℕ} {r : List ℕ} → (F → F') → (G → G') → Fault F' G' w r → Fault F G w r
  fault_map h k q = record { past = q.past; over = λ e f. q.over e (h f); only = λ f g. q.only (h f) (k g) }

  -- a reader that begins past the byte
  pub beyond : {A : Type 0} {n : ℕ} {a : A} {t' : List ℕ} {F G : Type 0} (c N : ℕ) {g : Got A} → N < length u → Within N g → Each (Match n a c t') (Fault F G) g
  beyond c N h x = each_map x (λ a m r i. inr (omega arith)) (λ w r i. gone (omega arith))

  pub beyond₁ : {A : Type 0} {n : ℕ} {a : A} {t' : List ℕ} {F G : Type 0} (N : ℕ) {g : Got A} → N < length u → Inside N g → Each (Match₁ n a t') (Fault F G) g
  beyond₁ N h x = each_map x (λ a m r i. inr (omega arith)) (λ w r i. gone (omega arith))

  pub skipped : (r : List ℕ) → Past r → Past (skip r)
  skipped r h = let i = skip_short r in omega arith

  pub expect_agrees : {A : Type 0} {F G : Type 0} (c : ℕ) → (c ≡ 32 → ⊥) → (a : A) (n : ℕ) (s s' t' : List ℕ) → Near s s' → Spaces s' (c ∷ t')
      → Each (Match₁ n a t') (Fault F G) (expect c a n s)
  unfolding expect
  expect_agrees {A} {F} {G} c h a n s s' t' x y =
      ⊎_elim
      (λ z. subst (λ (r : List ℕ). Each (Match₁ n a t') (Fault F G) (expect_at c a n r)) (sym z.1)
      (subst (Each (Match₁ n a t') (Fault F G)) (sym (expect_on c a n z.0)) (gives (⊎_elim (λ i. inl (refl, refl, i)) (λ i. inr i) z.2))))
      (λ z. beyond₁ (length (skip s)) z (expect_inside c a (length (skip s)) n s (omega arith)))
      (token h x y)

  literal_agrees : {A : Type 0} {F G : Type 0} (w : List ℕ) (a : A) (n : ℕ) (s t' : List ℕ) → Close s (w ++ t')
      → Each (Match₁ n a t') (Fault F G) (literal w a n s)
  unfolding literal
  literal_agrees [] a n s t' (inl x) = gives (inl (refl, refl, x))
  literal_agrees [] a n s t' (inr h) = gives (inr h)
  literal_agrees {A} {F} {G} (c ∷ w) a n s t' (inl x) =
      let y = step x in
      subst (λ (r : List ℕ). Each (Match₁ n a t') (Fault F G) (literal (c ∷ w) a n r)) (sym y.1)
      (subst (Each (Match₁ n a t') (Fault F G)) (sym (literal_on c w a n y.0)) (literal_agrees w a n y.0 t' y.2))
  literal_agrees (c ∷ w) a n s t' (inr h) = beyond₁ (length s) h (literal_short (c ∷ w) a (length s) n s (omega arith))

  pub digits_agrees : {F G : Type 0} (v n : ℕ) (s s' t' : List ℕ) (k : ℕ) → Digits v s' t' k → Close s s' → HeadNot is_digit t'
      → Each (Match₁ n k t') (Fault F G) (digits v n s)
  digits_agrees {F} {G} v n s s' t' k end (inr h) f = beyond₁ (length s) h (digits_short v (length s) n s (omega arith))
  digits_agrees {F} {G} v n s s' t' k end (inl x) f =
      let y = near_step same x f.0 f.1 f.2 in
      subst (λ (r : List ℕ). Each (Match₁ n v s') (Fault F G) (digits v n r)) (sym y.1)
      (subst (Each (Match₁ n v s') (Fault F G)) (sym (digits_stop v n f.0 y.0 f.3))
      (gives (inl (refl, refl, subst (λ (r : List ℕ). Near r s') y.1 x))))
  digits_agrees {F} {G} v n s s' t' k (digit h i z) (inr p) f = beyond₁ (length s) p (digits_short v (length s) n s (omega arith))
  digits_agrees {F} {G} v n s s' t' k (digit {b = b} {s = s₁'} h i z) (inl x) f =
      let y = step x in
      subst (λ (r : List ℕ). Each (Match₁ n k t') (Fault F G) (digits v n r)) (sym y.1)
      (subst (Each (Match₁ n k t') (Fault F G)) (sym (digits_on v n b y.0 (is_digit_lem b h i)))
      (digits_agrees (v * 10 + (b - 48)) n y.0 s₁' t' k z y.2 f))

  pub number_agrees : {F G : Type 0} (n : ℕ) (s s' t' : List ℕ) (k : ℕ) → Number s' t' k → Close s s' → HeadNot is_digit t'
      → Each (Match₁ n k t') (Fault F G) (number n s)
  number_agrees {F} {G} n s s' t' k z (inr h) f = beyond₁ (length s) h (number_short (length s) n s (omega arith))
  number_agrees {F} {G} n s s' t' k nought (inl x) f =
      let y = step x in
      subst (λ (r : List ℕ). Each (Match₁ n 0 t') (Fault F G) (number n r)) (sym y.1)
      (unfold number in gives (⊎_elim (λ i. inl (refl, refl, i)) (λ i. inr i) y.2))
  number_agrees {F} {G} n s s' t' k (other {b = b} {s = s₁'} h i z) (inl x) f =
      let y = step x in
      subst (λ (r : List ℕ). Each (Match₁ n k t') (Fault F G) (number n r)) (sym y.1)
      (subst (Each (Match₁ n k t') (Fault F G)) (sym (number_on n b y.0 h i)) (digits_agrees (b - 48) n y.0 s₁' t' k z y.2 f))

  pub percent_agrees : {F G : Type 0} (n : ℕ) (s s' t' : List ℕ) (p : Bool) → Percent s' t' p → Near s s' → HeadNot (λ b. eqb b 37) t'
      → Each (Match₁ n p t') (Fault F G) (percent n s)
  percent_agrees {F} {G} n s s' t' p without x f =
      let y = near_step same x f.0 f.1 f.2 in
      subst (λ (r : List ℕ). Each (Match₁ n false s') (Fault F G) (percent n r)) (sym y.1)
      (subst (Each (Match₁ n false s') (Fault F G)) (sym (percent_stop n f.0 y.0 f.3))
      (gives (inl (refl, refl, subst (λ (r : List ℕ). Near r s') y.1 x))))
  percent_agrees {F} {G} n s s' t' p sign x f =
      let y = step x in
      subst (λ (r : List ℕ). Each (Match₁ n true t') (Fault F G) (percent n r)) (sym y.1)
      (unfold percent in gives (⊎_elim (λ i. inl (refl, refl, i)) (λ i. inr i) y.2))

  module _ {L : Type 0} (Leaf : List ℕ → List ℕ → L → Type 0) (leafLevel : (s r : List ℕ) (x : L) → Leaf s r x → ℕ) (leaf_nodes : L → ℕ) (Ok : L → Type 0) where
    abbrev pub Agrees : Rank → ℕ → Reader (Form L) → Type 0
    Agrees k l rd = (n : ℕ) (s s' t' : List ℕ) (a : Form L) (p : Part Leaf k s' t' a) → Near s s' → Follow k t'
        → Each (Match n a (nodes leaf_nodes a) t') (Fault ((level Leaf leafLevel p ≤ l) × (nodes leaf_nodes a ≤ n)) (InRange Ok a)) (rd n s)

    abbrev pub AgreesDeeper : ℕ → Deeper (Form L) → Type 0
    AgreesDeeper l shut = l ≡ 0
    AgreesDeeper l (open' sm un) = (i : ℕ) × (l ≡ suc i) × Agrees small i sm × Agrees Rank.untils i un

    -- a leaf's reader, from the leaf's first byte on
    abbrev pub AgreesLeaf : ℕ → Reader L → Type 0
    AgreesLeaf l lf = (n : ℕ) (s s' t' : List ℕ) (x : L) (p : Leaf s' t' x) → Near s s' → Follow small t'
        → ((b : ℕ) × (r : List ℕ) × (skip s ≡ b ∷ r) × (kind b ≡ Kind.other)
        × Each (Match n x (leaf_nodes x) t') (Fault ((leafLevel s' t' x p ≤ l) × (leaf_nodes x ≤ n)) (Ok x)) (lf n (b ∷ r)))
        ⊎ Past (skip s)

    module _ (k₁ k₂ : Rank) (c : ℕ) (join : Form L → Form L → Form L)
        (join-nodes : (a b : Form L) → nodes leaf_nodes (join a b) ≡ suc (nodes leaf_nodes a + nodes leaf_nodes b))
        (range_of : (a b : Form L) → InRange Ok (join a b) → InRange Ok a × InRange Ok b)
        (not-32 : c ≡ 32 → ⊥) (stops : (e : ℕ) → goes k₂ e ≡ false → eqb e c ≡ false) (follow : (t : List ℕ) → Follow k₂ t → Follow k₁ t)
        (c-ends : goes k₁ c ≡ false) (c-plain : goes small c ≡ false)
        (l : ℕ) (sub : Reader (Form L)) (agrees : Agrees k₁ l sub) (shrinks : Shrinks sub) where
      abbrev Rest : ℕ → Form L → List ℕ → List ℕ → Form L → Type 0
      Rest = More Leaf leafLevel k₁ c join

      rest_nodes : {lim : ℕ} {a x : Form L} {s r : List ℕ} → Rest lim a s r x → nodes leaf_nodes a ≤ nodes leaf_nodes x
      rest_nodes enough = omega arith
      rest_nodes (on {a = a} {b = b} y q h m) = let i = rest_nodes m in let j = join-nodes a b in omega arith

      rest_range : {lim : ℕ} {a x : Form L} {s r : List ℕ} → Rest lim a s r x → InRange Ok x → InRange Ok a
      rest_range enough o = o
      rest_range (on {a = a} {b = b} y q h m) o = (range_of a b (rest_range m o)).0

      rest_follow : {lim : ℕ} {a x : Form L} {s r : List ℕ} → Rest lim a s r x → Follow k₂ r → Follow k₁ s
      rest_follow {s = s} enough f = follow s f
      rest_follow (on {s₁ = s₁} y q h m) f = record { byte = c; rest = s₁; spaces = y; ends = c-ends; plain = c-plain }

      rest_agrees : {lim : ℕ} (a x : Form L) (s' t' : List ℕ) → Rest lim a s' t' x → (n f n₀ : ℕ) (s : List ℕ) → Near s s' → Follow k₂ t' → n ≤ f
          → n₀ ≡ n + nodes leaf_nodes a
          → Each (Match n₀ x (nodes leaf_nodes x) t') (Fault ((lim ≤ l) × (nodes leaf_nodes x ≤ n₀)) (InRange Ok x)) (chain_more c join sub f a n s)
      rest_agrees {lim} a x s' t' enough n f n₀ s near fo h e =
          ⊎_elim
          (λ z. subst (Each (Match n₀ a (nodes leaf_nodes a) s') (Fault ((lim ≤ l) × (nodes leaf_nodes a ≤ n₀)) (InRange Ok a)))
          (sym (more_stop c join sub a s f n fo.byte z.0 z.1 (stops fo.byte fo.ends))) (gives (inl (refl, e, near))))
          (λ z. beyond (nodes leaf_nodes a) (length (skip s)) z (chain_more_short c join sub shrinks f a (length (skip s)) n s (omega arith)))
          (token (not_space fo.byte fo.plain) near fo.spaces)
      rest_agrees {lim} a x s' t' (on {b = b} {s₁ = s₁'} y q i m) zero f n₀ s near fo h e =
          ⊎_elim
          (λ z. subst (Each (Match n₀ x (nodes leaf_nodes x) t') (Fault ((lim ≤ l) × (nodes leaf_nodes x ≤ n₀)) (InRange Ok x)))
          (sym (more_out c join sub a s f z.0 z.1))
          (denies (limit (λ v. let j = rest_nodes m in let j₂ = join-nodes a b in omega arith))))
          (λ z. beyond (nodes leaf_nodes x) (length (skip s)) z (chain_more_short c join sub shrinks f a (length (skip s)) zero s (omega arith)))
          (token not-32 near y)
      rest_agrees {lim} a x s' t' (on {b = b} {s₁ = s₁'} y q i m) (suc n) zero n₀ s near fo h e = absurd (omega arith)
      rest_agrees {lim} a x s' t' (on {b = b} {s₁ = s₁'} {s₂ = s₂'} y q i m) (suc n) (suc f) n₀ s near fo h e =
          ⊎_elim
          (λ z. subst (Each (Match n₀ x (nodes leaf_nodes x) t') (Fault ((lim ≤ l) × (nodes leaf_nodes x ≤ n₀)) (InRange Ok x)))
          (sym (more_go c join sub a s f n z.0 z.1))
          (each_bind (sub n z.0) _
          (⊎_elim
          (λ near₁.
          each_map (agrees n z.0 s₁' s₂' b q near₁ (rest_follow m fo))
          (λ b₁ m₂ r₂ v.
          ⊎_elim
          (λ g. subst (λ (d : Form L). Each (Match n₀ x (nodes leaf_nodes x) t') (Fault ((lim ≤ l) × (nodes leaf_nodes x ≤ n₀)) (InRange Ok x))
          (chain_more c join sub f (join a d) m₂ r₂)) (sym g.0)
          (rest_agrees (join a b) x s₂' t' m m₂ f n₀ r₂ g.2 fo (omega (arith, g.1)) (omega (arith, g.1, join-nodes a b))))
          (λ g. beyond (nodes leaf_nodes x) (length (skip r₂)) g (chain_more_short c join sub shrinks f (join a b₁) (length (skip r₂)) m₂ r₂ (omega arith)))
          v)
          (λ w r₂ v. fault_map (λ o. (omega (arith, o.0), omega (arith, o.1, rest_nodes m, join-nodes a b))) (λ o. (range_of a b (rest_range m o)).1) v))
          (λ past. let v = skip_short z.0 in
          each_map (shrinks (length z.0) n z.0 v)
          (λ b₁ m₂ r₂ g. beyond (nodes leaf_nodes x) (length z.0) past (chain_more_short c join sub shrinks f (join a b₁) (length z.0) m₂ r₂ g))
          (λ w r₂ g. gone (omega arith)))
          z.2)))
          (λ z. beyond (nodes leaf_nodes x) (length (skip s)) z (chain_more_short c join sub shrinks (suc f) a (length (skip s)) (suc n) s (omega arith)))
          (token not-32 near y)

      chain_agrees : (lim n : ℕ) (s s' t' : List ℕ) (x : Form L) → Chained Leaf leafLevel k₁ c join lim s' t' x → Near s s' → Follow k₂ t'
          → Each (Match n x (nodes leaf_nodes x) t') (Fault ((lim ≤ l) × (nodes leaf_nodes x ≤ n)) (InRange Ok x)) (chain c join sub n s)
      unfolding chain
      chain_agrees lim n s s' t' x y near fo =
          let a : Form L = y.1 in
          let m = y.4 in
          each_bind (sub n s) _
          (each_map (agrees n s s' y.0 a y.2 near (rest_follow m fo))
          (λ a₁ m₁ r v.
          ⊎_elim
          (λ g. subst (λ (d : Form L). Each (Match n x (nodes leaf_nodes x) t') (Fault ((lim ≤ l) × (nodes leaf_nodes x ≤ n)) (InRange Ok x))
          (chain_more c join sub m₁ d m₁ r)) (sym g.0)
          (rest_agrees a x y.0 t' m m₁ m₁ n r g.2 fo (omega arith) g.1))
          (λ g. beyond (nodes leaf_nodes x) (length (skip r)) g (chain_more_short c join sub shrinks m₁ a₁ (length (skip r)) m₁ r (omega arith)))
          v)
          (λ w r v. fault_map (λ o. (omega (arith, o.0, y.3), omega (arith, o.1, rest_nodes m))) (λ o. rest_range m o) v))

    and_agrees : (l : ℕ) (sub : Reader (Form L)) → Agrees Rank.untils l sub → Shrinks sub → Agrees Rank.ands l (and_chain sub)
    unfolding and_chain
    and_agrees l sub g h n s s' t' a p near fo =
        chain_agrees Rank.untils Rank.ands 38 Form.and (λ a b. refl) (λ a b o. o) (λ e. omega arith) (λ e i. or_false_l (eqb e 38) _ i)
        (λ t f. follow_until f) refl refl l sub g h
        (level Leaf leafLevel p) n s s' t' a (and_chained Leaf leafLevel (level Leaf leafLevel p) p (omega arith)) near fo

    or_agrees : (l : ℕ) (sub : Reader (Form L)) → Agrees Rank.untils l sub → Shrinks sub → Agrees Rank.ors l (or_chain sub)
    unfolding or_chain
    or_agrees l sub g h n s s' t' a p near fo =
        chain_agrees Rank.ands Rank.ors 124 Form.or (λ a b. refl) (λ a b o. o) (λ e. omega arith) (λ e i. or_false_l (eqb e 124) _ i)
        (λ t f. follow_and f) refl refl l (and_chain sub)
        (and_agrees l sub g h) (and_short sub h) (level Leaf leafLevel p) n s s' t' a
        (or_chained Leaf leafLevel (level Leaf leafLevel p) p (omega arith)) near fo

    ---- Smallest parts.
    word_agrees : {F G : Type 0} (lf : Reader L) (d : Deeper (Form L)) (n : ℕ) (t t' : List ℕ) → (F → 1 ≤ n) → Close t (114 ∷ 117 ∷ 101 ∷ t')
        → Each (Match n top 1 t') (Fault F G) (by_kind lf d Kind.word n 116 t)
    unfolding by_kind
    word_agrees {F} {G} lf d n t t' f close =
        each_bind (literal (114 ∷ 117 ∷ 101 ∷ []) tt n t) _
        (each_map (each_both (literal_agrees {F = F} {G = G} (114 ∷ 117 ∷ 101 ∷ []) tt n t t' close) (literal_keeps (114 ∷ 117 ∷ 101 ∷ []) tt n t))
        (λ a m r q.
        ⊎_elim (λ g. each_node (116 ∷ t) m _ (λ m₁ j. gives (inl (refl, omega (arith, g.1), g.2))) (λ j. limit (λ v. omega (arith, f v, g.1))))
        (λ g. each_node (116 ∷ t) m _ (λ m₁ j. gives (inr (skipped r g))) (λ j. limit (λ v. omega (arith, f v, q.1))))
        q.0)
        (λ w r z. z.0))

    module _ (l : ℕ) (lf : Reader L) where
      paren_agrees : (d : Deeper (Form L)) → AgreesDeeper l d → ShrinksDeeper d
          → (n : ℕ) (t s₁' s₂' t' : List ℕ) (a : Form L) (p : Part Leaf Rank.ors s₁' s₂' a) → Spaces s₂' (41 ∷ t') → Close t s₁'
          → Each (Match n a (nodes leaf_nodes a) t') (Fault ((suc (level Leaf leafLevel p) ≤ l) × (nodes leaf_nodes a ≤ n)) (InRange Ok a))
          (by_kind lf d Kind.paren n 40 t)
      unfolding by_kind
      paren_agrees shut ad sd n t s₁' s₂' t' a p y close = denies (limit (λ v. omega (arith, v.0, ad)))
      paren_agrees (open' sm un) ad sd n t s₁' s₂' t' a p y (inl near) =
          each_bind (or_chain un n t) _
          (each_map (or_agrees ad.0 un ad.3 sd.1 n t s₁' s₂' a p near (record { byte = 41; rest = t'; spaces = y; ends = refl; plain = refl }))
          (λ a₁ m r z.
          ⊎_elim
          (λ g.
          each_map (expect_agrees 41 (λ e. omega arith) a₁ m r s₂' t' g.2 y)
          (λ a₂ m₂ r₂ i. ⊎_elim (λ j. inl (j.0 ∙ g.0, omega (arith, j.1, g.1), j.2)) (λ j. inr (skipped r₂ j)) i)
          (λ w r₂ i. i))
          (λ g. beyond (nodes leaf_nodes a) (length (skip r)) g (expect_short 41 a₁ (length (skip r)) m r (omega arith)))
          z)
          (λ w r z. fault_map (λ v. (omega (arith, v.0, ad.1), v.1)) (λ v. v) z))
      paren_agrees (open' sm un) ad sd n t s₁' s₂' t' a p y (inr past) =
          let h = skip_short t in
          beyond (nodes leaf_nodes a) (length t) past
          (each_bind (or_chain un n t) _ (each_map (or_short un sd.1 (length t) n t h) (λ a₁ m r i. expect_short 41 a₁ (length t) m r i) (λ w r i. i)))

      prefix_agrees : (d : Deeper (Form L)) → AgreesDeeper l d → ShrinksDeeper d
          → (o : Prefix) (b n : ℕ) (t s₁' t' : List ℕ) (a : Form L) (p : Part Leaf small s₁' t' a) → Follow small t' → Close t s₁'
          → Each (Match n (prefixed o a) (nodes leaf_nodes (prefixed o a)) t')
          (Fault ((suc (level Leaf leafLevel p) ≤ l) × (nodes leaf_nodes (prefixed o a) ≤ n)) (InRange Ok (prefixed o a)))
          (by_kind lf d (Kind.prefix o) n b t)
      unfolding by_kind
      prefix_agrees shut ad sd o b n t s₁' t' a p fo close = denies (limit (λ v. omega (arith, v.0, ad)))
      prefix_agrees (open' sm un) ad sd o b n t s₁' t' a p fo (inl near) =
          let np = nodes_prefix leaf_nodes o a in
          each_node (b ∷ t) n _
          (λ m j.
          each_bind (sm m t) _
          (each_map (ad.2 m t s₁' t' a p near fo)
          (λ a₁ m₁ r z. gives (⊎_elim (λ g. inl (ap (prefixed o) g.0, omega (arith, g.1), g.2)) (λ g. inr g) z))
          (λ w r z. fault_map (λ v. (omega (arith, v.0, ad.1), omega (arith, v.1))) (λ v. range_of_prefix Ok o a v) z)))
          (λ j. limit (λ v. omega (arith, v.1)))
      prefix_agrees (open' sm un) ad sd o b n t s₁' t' a p fo (inr past) =
          let h = skip_short t in
          each_node (b ∷ t) n _
          (λ m j. each_bind (sm m t) _ (each_map (sd.0 (length t) m t h) (λ a₁ m₁ r i. gives (inr (omega arith))) (λ w r i. gone (omega arith))))
          (λ j. limit (λ v. omega (arith, v.1, nodes_prefix leaf_nodes o a)))

      module _ (d : Deeper (Form L)) (ad : AgreesDeeper l d) (sd : ShrinksDeeper d) (al : AgreesLeaf l lf) (sl : Shrinks₁ lf) where
        at_past : {F G : Type 0} (n : ℕ) (s t' : List ℕ) (a : Form L) → Past (skip s)
            → Each (Match n a (nodes leaf_nodes a) t') (Fault F G) (small_at lf d n (skip s))
        at_past n s t' a h = beyond (nodes leaf_nodes a) (length (skip s)) h (small_at_short lf d sl sd (length (skip s)) n (skip s) (omega arith))

        small_agrees : Agrees small l (small_of lf d)
        unfolding small_of small_at
        small_agrees n s s' t' a (word x) near fo =
            ⊎_elim
            (λ z. subst (λ (r : List ℕ). Each (Match n top 1 t') (Fault ((0 ≤ l) × (1 ≤ n)) (Unit {0})) (small_at lf d n r)) (sym z.1)
            (word_agrees lf d n z.0 t' (λ v. v.1) z.2))
            (at_past n s t' top)
            (token (λ e. omega arith) near x)
        small_agrees n s s' t' a (parens {s₁ = s₁'} {s₂ = s₂'} x p y) near fo =
            ⊎_elim
            (λ z. subst (λ (r : List ℕ). Each (Match n a (nodes leaf_nodes a) t')
            (Fault ((suc (level Leaf leafLevel p) ≤ l) × (nodes leaf_nodes a ≤ n)) (InRange Ok a)) (small_at lf d n r)) (sym z.1)
            (paren_agrees d ad sd n z.0 s₁' s₂' t' a p y z.2))
            (at_past n s t' a)
            (token (λ e. omega arith) near x)
        small_agrees n s s' t' a (prefix {s₁ = s₁'} {a = b} o x p) near fo =
            let F : Type 0 = (suc (level Leaf leafLevel p) ≤ l) × (nodes leaf_nodes (prefixed o b) ≤ n) in
            let G : Type 0 = InRange Ok (prefixed o b) in
            ⊎_elim
            (λ z. subst (λ (r : List ℕ). Each (Match n (prefixed o b) (nodes leaf_nodes (prefixed o b)) t') (Fault F G) (small_at lf d n r)) (sym z.1)
            (subst
            (λ (q : Kind). Each (Match n (prefixed o b) (nodes leaf_nodes (prefixed o b)) t') (Fault F G) (by_kind lf d q n (prefix_byte o) z.0))
            (sym (kind-prefix o))
            (prefix_agrees d ad sd o (prefix_byte o) n z.0 s₁' t' b p fo z.2)))
            (at_past n s t' (prefixed o b))
            (token (prefix_space o) near x)
        small_agrees n s s' t' a (Part.leaf {x = y} p) near fo =
            let F : Type 0 = (leafLevel s' t' y p ≤ l) × (leaf_nodes y ≤ n) in
            let G : Type 0 = Ok y in
            ⊎_elim
            (λ z. subst (λ (r : List ℕ). Each (Match n (Form.leaf y) (leaf_nodes y) t') (Fault F G) (small_at lf d n r)) (sym z.2)
            (subst (λ (q : Kind). Each (Match n (Form.leaf y) (leaf_nodes y) t') (Fault F G) (by_kind lf d q n z.0 z.1)) (sym z.3)
            (subst (Each (Match n (Form.leaf y) (leaf_nodes y) t') (Fault F G)) (sym (by_other lf d n z.0 z.1))
            (each_bind (lf n (z.0 ∷ z.1)) _
            (each_map z.4 (λ x₁ m r i. gives (⊎_elim (λ g. inl (ap Form.leaf g.0, g.1, g.2)) (λ g. inr g) i)) (λ w r i. i))))))
            (at_past n s t' (Form.leaf y))
            (al n s s' t' y p near fo)

      ---- Until-chains.
      reach_agrees : (d : Deeper (Form L)) → AgreesDeeper l d → ShrinksDeeper d
          → (o : Reach) (a : Form L) (b n n₀ : ℕ) (r t s₁' t' : List ℕ) (c : Form L) (e : ℕ) (q : Part Leaf Rank.untils s₁' t' c)
          → Follow Rank.untils t' → Close t s₁'
          → n₀ ≡ n + nodes leaf_nodes a
          → Each (Match n₀ (reached o a c) (nodes leaf_nodes (reached o a c)) t')
          (Fault ((max e (suc (level Leaf leafLevel q)) ≤ l) × (nodes leaf_nodes (reached o a c) ≤ n₀)) (InRange Ok (reached o a c)))
          (by_onward d a n r (Onward.reach o) b t)
      unfolding by_onward
      reach_agrees shut ad sd o a b n n₀ r t s₁' t' c e q fo close h = denies (limit (λ v. omega (arith, v.0, ad)))
      reach_agrees (open' sm un) ad sd o a b n n₀ r t s₁' t' c e q fo (inl near) h =
          let nr = nodes_reach leaf_nodes o a c in
          each_node (b ∷ t) n _
          (λ m j.
          each_bind (un m t) _
          (each_map (ad.3 m t s₁' t' c q near fo)
          (λ c₁ m₁ r₁ z. gives (⊎_elim (λ g. inl (ap (reached o a) g.0, omega (arith, g.1), g.2)) (λ g. inr g) z))
          (λ w r₁ z. fault_map (λ v. (omega (arith, v.0, ad.1), omega (arith, v.1))) (λ v. (range_of_reach Ok o a c v).1) z)))
          (λ j. limit (λ v. omega (arith, v.1)))
      reach_agrees (open' sm un) ad sd o a b n n₀ r t s₁' t' c e q fo (inr past) h =
          let i = skip_short t in
          each_node (b ∷ t) n _
          (λ m j. each_bind (un m t) _ (each_map (sd.1 (length t) m t i) (λ c₁ m₁ r₁ z. gives (inr (omega arith))) (λ w r₁ z. gone (omega arith))))
          (λ j. limit (λ v. omega (arith, v.1, nodes_reach leaf_nodes o a c)))

      module _ (sm : Reader (Form L)) (d : Deeper (Form L)) (am : Agrees small l sm) (ad : AgreesDeeper l d) (sd : ShrinksDeeper d) where
        until_agrees : Agrees Rank.untils l (until_of sm d)
        unfolding until_of until_at
        until_agrees n s s' t' a (one_small p) near fo =
            let F : Type 0 = (level Leaf leafLevel p ≤ l) × (nodes leaf_nodes a ≤ n) in
            let G : Type 0 = InRange Ok a in
            each_bind (sm n s) _
            (each_map (am n s s' t' a p near (follow_small fo))
            (λ a₁ m r z.
            ⊎_elim
            (λ g.
            ⊎_elim
            (λ i. subst (λ (y : List ℕ). Each (Match n a (nodes leaf_nodes a) t') (Fault F G) (until_at d a₁ m r y)) (sym i.1)
            (subst (λ (q : Onward). Each (Match n a (nodes leaf_nodes a) t') (Fault F G) (by_onward d a₁ m r q fo.byte i.0))
            (sym (onward-stop fo.byte fo.ends))
            (subst (Each (Match n a (nodes leaf_nodes a) t') (Fault F G)) (sym (by_stop d a₁ m r fo.byte i.0)) (gives (inl g)))))
            (λ i. beyond (nodes leaf_nodes a) (length (skip r)) i (until_more_short d sd (length (skip r)) a₁ m r (omega arith)))
            (token (not_space fo.byte fo.plain) g.2 fo.spaces))
            (λ g. beyond (nodes leaf_nodes a) (length (skip r)) g (until_more_short d sd (length (skip r)) a₁ m r (omega arith)))
            z)
            (λ w r z. z))
        until_agrees n s s' t' x (reach {s₁ = s₁'} {s₂ = s₂'} {a = a} {b = b} o p y q) near fo =
            let F : Type 0 = (max (level Leaf leafLevel p) (suc (level Leaf leafLevel q)) ≤ l) × (nodes leaf_nodes (reached o a b) ≤ n) in
            let G : Type 0 = InRange Ok (reached o a b) in
            let nr = nodes_reach leaf_nodes o a b in
            each_bind (sm n s) _
            (each_map (am n s s' s₁' a p near (record { byte = reach_byte o; rest = s₂'; spaces = y; ends = reach_goes o; plain = reach_goes o }))
            (λ a₁ m r z.
            ⊎_elim
            (λ g.
            ⊎_elim
            (λ i. subst (λ (y : List ℕ). Each (Match n (reached o a b) (nodes leaf_nodes (reached o a b)) t') (Fault F G) (until_at d a₁ m r y)) (sym i.1)
            (subst
            (λ (k : Onward). Each (Match n (reached o a b) (nodes leaf_nodes (reached o a b)) t') (Fault F G) (by_onward d a₁ m r k (reach_byte o) i.0))
            (sym (onward-reach o))
            (subst (λ (v : Form L). Each (Match n (reached o a b) (nodes leaf_nodes (reached o a b)) t') (Fault F G)
            (by_onward d v m r (Onward.reach o) (reach_byte o) i.0)) (sym g.0)
            (reach_agrees d ad sd o a (reach_byte o) m n r i.0 s₂' t' b (level Leaf leafLevel p) q fo i.2 g.1))))
            (λ i. beyond (nodes leaf_nodes (reached o a b)) (length (skip r)) i (until_more_short d sd (length (skip r)) a₁ m r (omega arith)))
            (token (not_space (reach_byte o) (reach_goes o)) g.2 y))
            (λ g. beyond (nodes leaf_nodes (reached o a b)) (length (skip r)) g (until_more_short d sd (length (skip r)) a₁ m r (omega arith)))
            z)
            (λ w r z. fault_map (λ v. (omega (arith, v.0), omega (arith, v.1))) (λ v. (range_of_reach Ok o a b v).0) z))

    module _ (lf : ℕ → Reader L) (al : (l : ℕ) → AgreesLeaf l (lf l)) (sl : (l : ℕ) → Shrinks₁ (lf l)) where
      deeper_agrees : (l : ℕ) → AgreesDeeper l (deeper lf l)
      unfolding deeper
      deeper_agrees zero = refl
      deeper_agrees (suc l) =
          let d = deeper_agrees l in
          let sd = deeper_short lf sl l in
          let sm = small_agrees l (lf l) (deeper lf l) d sd (al l) (sl l) in
          (l, refl, sm, until_agrees l (lf l) (small_of (lf l) (deeper lf l)) (deeper lf l) sm d sd)

      untils_agrees : (l : ℕ) → Agrees Rank.untils l (untils lf l)
      unfolding untils smalls
      untils_agrees l =
          let d = deeper_agrees l in
          let sd = deeper_short lf sl l in
          until_agrees l (lf l) (small_of (lf l) (deeper lf l)) (deeper lf l) (small_agrees l (lf l) (deeper lf l) d sd (al l) (sl l)) d sd

      pub ors_agrees : (l : ℕ) → Agrees Rank.ors l (ors lf l)
      unfolding ors
      ors_agrees l = or_agrees l (untils lf l) (untils_agrees l) (untils_short lf sl l)
