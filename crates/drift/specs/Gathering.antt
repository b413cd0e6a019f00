-- The counts of an or, gathered from its sides.
use Rattle.std.specs.Prelude.{ℕ, suc, ◌+◌, ◌-◌, ◌^◌, ◌≤◌, ◌<◌, min, ◌≡◌, Bool, not, cond, ◌&&◌, ◌||◌, Option, None, Some, IfSome}
use Rattle.std.proofs.Math.Path.{refl, sym, ap, ap₂}
use Rattle.std.proofs.Common.{subst, ◌∙◌, leb→le, le→leb}
use Rattle.std.proofs.Math.Bool.{true, false, or-false, or_comm, or_assoc, true≢false}
use Rattle.std.proofs.lemmas.Bool.{false≢true}
use mathlib.Core.List.{List, [], ◌∷◌, ◌++◌}
use native.Mathlib.Omega.{arith}
use Rattle.std.proofs.Math.Dec.{T, ltb}
use Rattle.grammar.specs.Grammar.{Over, Counted}
use Rattle.cltl.specs.Meaning.{Rows, Proper, among}
use Rattle.cltl.specs.Rules.{window, throughout, both, over, asked, text, slack, some_text, all_over, uniform, joint}
use Rattle.cltl.proofs.Basics.{bool_ext}
use Rattle.cltl.proofs.Tally.{tally_le}
use Rattle.cltl.proofs.Agree.{throughout_agrees}
use Rattle.cltl.proofs.Members.{SameCarts}
use Rattle.cltl.proofs.JointWording.{EachOver, each_over}
use Rattle.mask.specs.Mask.{on, Row, signed}
use Rattle.table.specs.Table.{told, Table, Kept}
use Rattle.table.specs.Keeping.{kept_told}
use Rattle.quorum.specs.Words.{within}
use Rattle.quorum.specs.Below.{same_word}
use Rattle.drift.specs.declared.Joined.{Joined}
use Rattle.drift.specs.declared.Judged.{Judged}
use Rattle.drift.specs.Tree.{clause_tree}
use Rattle.drift.specs.Answer.{OverWord, Told, Gathered, joinable, PartRow, ClauseJudged}
use Rattle.drift.specs.OperatorRows.{row_of}

abbrev CountList : Type 0
CountList = List (Bool × Counted)

---- The test of two sides.
pub not_all : (a b c e : Bool) → not (((a && b) && c) && e) ≡ true → (((a && b) && c) && e) ≡ false
not_all a b c e f = go (((a && b) && c) && e) f
  where
    go : (x : Bool) → not x ≡ true → x ≡ false
    go true e = sym e
    go false e = refl

pub all_four : (a b c e : Bool) → not (((a && b) && c) && e) ≡ false → (a ≡ true) × (b ≡ true) × (c ≡ true) × (e ≡ true)
all_four true true true true f = (refl, refl, refl, refl)
all_four true true true false f = absurd (true≢false f)
all_four true true false e f = absurd (true≢false f)
all_four true false c e f = absurd (true≢false f)
all_four false b c e f = absurd (true≢false f)

---- Two lists of counts.
module _ (P : Rows) where
  slack_append : (xs ys : CountList) → slack P (xs ++ ys) ≡ slack P xs + slack P ys
  unfolding slack
  slack_append [] ys = omega arith
  slack_append (x ∷ xs) ys = let e = slack_append xs ys in omega arith

  text_append : (xs ys : CountList) (i s : ℕ) → some_text P (xs ++ ys) i s ≡ (some_text P xs i s || some_text P ys i s)
  unfolding some_text
  text_append [] ys i s = refl
  text_append (x ∷ xs) ys i s =
      ap (λ (b : Bool). text P i x s || b) (text_append xs ys i s) ∙ sym (or_assoc (text P i x s) (some_text P xs i s) (some_text P ys i s))

  word_append : (who : ℕ) (xs ys : CountList) → OverWord P who xs → OverWord P who ys → OverWord P who (xs ++ ys)
  word_append who [] ys a b = b
  word_append who (x ∷ xs) ys a b = (a.0, word_append who xs ys a.1 b)

  -- the counts of both, where each side has some
  both_append : (xs ys : CountList) → uniform P xs ≡ true → uniform P ys ≡ true → both xs ys ≡ xs ++ ys
  unfolding uniform
  both_append [] ys e f = absurd (false≢true e)
  both_append (x ∷ xs) [] e f = absurd (false≢true f)
  both_append (x ∷ xs) (y ∷ ys) e f = refl

  -- counts over the carts of one word are over the same carts
  word_uniform : (who : ℕ) (x : Bool × Counted) (xs : CountList) → OverWord P who (x ∷ xs) → uniform P (x ∷ xs) ≡ true
  unfolding uniform
  word_uniform who x xs (e, w) = bool_ext _ _ (λ _. tt) (λ _. (each_over P (over P x) xs).1 (go xs w))
    where
      go : (ys : CountList) → OverWord P who ys → EachOver P (over P x) ys
      go [] w = tt
      go (y ∷ ys) (f, w) = ((λ i c. sym (e i c) ∙ f i c), go ys w)

  -- all of both sides over the same carts: so are those of each side, and the first of the two sides
  first_over : (o : Over) (xs ys : CountList) → EachOver P o (xs ++ ys) → EachOver P o xs × EachOver P o ys
  first_over o [] ys e = (tt, e)
  first_over o (x ∷ xs) ys e = let r = first_over o xs ys e.1 in ((e.0, r.0), r.1)

  over_other : (o o' : Over) → SameCarts P o o' → (xs : CountList) → EachOver P o xs → EachOver P o' xs
  over_other o o' e [] f = tt
  over_other o o' e (x ∷ xs) f = ((λ i c. sym (e i c) ∙ f.0 i c), over_other o o' e xs f.1)

  sides : (x y : Bool × Counted) (xs ys : CountList) → T (uniform P ((x ∷ xs) ++ (y ∷ ys)))
      → T (uniform P (x ∷ xs)) × T (uniform P (y ∷ ys)) × SameCarts P (over P x) (over P y)
  unfolding uniform
  sides x y xs ys z =
      let e = first_over (over P x) xs (y ∷ ys) ((each_over P (over P x) (xs ++ (y ∷ ys))).0 z) in
      ((each_over P (over P x) xs).1 e.0, (each_over P (over P y) ys).1 (over_other (over P x) (over P y) e.1.0 ys e.1.1), e.1.0)

  pub no_counts : uniform P [] ≡ false
  unfolding uniform
  no_counts = refl

  -- where they are not, nothing is joined
  pub joint_none : (d : ℕ) (zs : CountList) (s : ℕ) → uniform P zs ≡ false → joint P d zs s ≡ false
  unfolding joint
  joint_none d zs s e = ap (λ (b : Bool). b && ltb (slack P zs) (throughout P.h P.l P.carts d (some_text P zs) s)) e

---- Gathered.
module _ (P : Rows) (few : P.carts ≤ 32) where
  -- what has no counts to join
  pub alone_gathered : (xs : CountList) → uniform P xs ≡ false → (t : List ℕ) → Gathered P xs t None
  alone_gathered xs e t = record { joins_is = sym e; told_of = tt }

  -- one count
  pub count_gathered : (x : Bool × Counted) (t : List ℕ) (r : Joined) → r.slack ≡ min 32 (asked P x - 1) → r.who < 2 ^ P.carts
      → ((i : ℕ) → i < P.carts → on r.who i ≡ among P (over P x) i)
      → ((i s : ℕ) → i < P.carts → s < P.h → (on r.who i && signed r.sign (told t r.at i s)) ≡ text P i x s) → Gathered P (x ∷ []) t (Some r)
  unfolding slack some_text uniform all_over
  count_gathered x t r f low w g = record {
    joins_is = refl;
    told_of = record { low = low; word = (w, tt); sum = omega arith; each = λ i s q u. g i s q u ∙ sym (or-false (text P i x s)) };
  }

  -- kept, it is told as before
  pub gathered_kept : (xs : CountList) (n : ℕ) (before after : List ℕ) (r : Option Joined) → Kept n before after → IfSome r (λ j. j.at + P.h ≤ n)
      → Gathered P xs before r → Gathered P xs after r
  gathered_kept xs n before after None kept q g = record { joins_is = g.joins_is; told_of = tt }
  gathered_kept xs n before after (Some r) kept q g =
      let y = g.told_of in record {
        joins_is = g.joins_is;
        told_of = record {
          low = y.low;
          word = y.word;
          sum = y.sum;
          each = λ i s c u.
              ap (λ (b : Bool). on r.who i && signed r.sign b) (kept_told n before after kept r.at P.h i s q u) ∙ y.each i s c u;
        };
      }

  -- an or of two sides whose counts are over the same carts
  module _ (xs ys : CountList) (before after : List ℕ) (first second r : Joined) where
    abbrev pub Joins : Type 0
    Joins =
        (r.sign ≡ true) × (r.slack ≡ min 32 (first.slack + second.slack)) × (first.who ≡ second.who) × (r.who ≡ first.who)

    abbrev pub Made : Type 0
    Made =
        Table (λ i s. signed first.sign (told before first.at i s) || signed second.sign (told before second.at i s)) r.at P.h before after

    -- a list with the counts of both
    abbrev Both : (zs : CountList) → Type 0
    Both zs =
        (slack P zs ≡ slack P xs + slack P ys) × ((i s : ℕ) → some_text P zs i s ≡ (some_text P xs i s || some_text P ys i s)) × (uniform P zs ≡ true)
        × OverWord P r.who zs

    by_both : (zs : CountList) → Both zs → Joins → Gathered P xs before (Some first) → Gathered P ys before (Some second) → Made → Gathered P zs after (Some r)
    by_both zs b j f g m =
        let f' = f.told_of in
        let g' = g.told_of in record {
          joins_is = sym b.2;
          told_of = record {
            low = omega (arith, j.3, f'.low);
            word = b.3;
            sum = omega (arith, b.0, j.1, f'.sum, g'.sum);
            each = λ i s c u.
                ap₂ (λ (w : ℕ) (p : Bool). on w i && signed p (told after r.at i s)) j.3 j.0
                ∙ ap (λ (x : Bool). on first.who i && x) (m.each s (omega arith) u i (omega arith))
                ∙ and_or (on first.who i) (signed first.sign (told before first.at i s)) (signed second.sign (told before second.at i s))
                ∙ ap₂ (λ (x y : Bool). x || y) (f'.each i s c u)
                (ap (λ (w : ℕ). on w i && signed second.sign (told before second.at i s)) j.2 ∙ g'.each i s c u)
                ∙ sym (b.1 i s);
          };
        }
      where
        and_or : (a b c : Bool) → (a && (b || c)) ≡ ((a && b) || (a && c))
        and_or true b c = refl
        and_or false b c = refl

    -- both have some, over the carts of one word
    abbrev Sides : Type 0
    Sides = (uniform P xs ≡ true) × (uniform P ys ≡ true) × OverWord P r.who xs × OverWord P r.who ys

    word_both : (zs ws : CountList) → uniform P zs ≡ true → uniform P ws ≡ true → OverWord P r.who zs → OverWord P r.who ws
        → (uniform P (both zs ws) ≡ true) × OverWord P r.who (both zs ws)
    unfolding uniform
    word_both [] ws e f u v = absurd (false≢true e)
    word_both (z ∷ zs) [] e f u v = absurd (false≢true f)
    word_both (z ∷ zs) (w ∷ ws) e f u v = let y = word_append P r.who (z ∷ zs) (w ∷ ws) u v in (word_uniform P r.who z (zs ++ (w ∷ ws)) y, y)

    -- the counts of both, in either order
    in_order_lem : Sides → Both (both xs ys)
    in_order_lem (hx, hy, wx, wy) =
        let e = both_append P xs ys hx hy in
        let w = word_both xs ys hx hy wx wy in
        (ap (slack P) e ∙ slack_append P xs ys, (λ i s. ap (λ zs. some_text P zs i s) e ∙ text_append P xs ys i s), w.0, w.1)

    turned : Sides → Both (both ys xs)
    turned (hx, hy, wx, wy) =
        let e = both_append P ys xs hy hx in
        let w = word_both ys xs hy hx wy wx in (
          let s = ap (slack P) e ∙ slack_append P ys xs in omega arith,
          (λ i s. ap (λ zs. some_text P zs i s) e ∙ text_append P ys xs i s ∙ or_comm (some_text P ys i s) (some_text P xs i s)),
          w.0,
          w.1,
        )

    -- what was told of the sides
    sides_told : Joins → Gathered P xs before (Some first) → Gathered P ys before (Some second) → Sides
    sides_told j f g = (
      sym f.joins_is,
      sym g.joins_is,
      subst (λ (w : ℕ). OverWord P w xs) (sym j.3) f.told_of.word,
      subst (λ (w : ℕ). OverWord P w ys) (sym (j.3 ∙ j.2)) g.told_of.word,
    )

  -- whichever was judged first
  pub or_gathered : (swapped : Bool) (xs ys : CountList) (before after : List ℕ) (first second r : Joined) → Joins xs ys before after first second r
      → Gathered P xs before (cond swapped (Some second) (Some first)) → Gathered P ys before (cond swapped (Some first) (Some second))
      → Made xs ys before after first second r → Gathered P (both xs ys) after (Some r)
  or_gathered false xs ys before after first second r j f g m =
      by_both xs ys before after first second r _ (in_order_lem xs ys before after first second r (sides_told xs ys before after first second r j f g)) j f g m
  or_gathered true xs ys before after first second r j f g m =
      by_both ys xs before after first second r _ (turned ys xs before after first second r (sides_told ys xs before after first second r j g f)) j g f m

  -- Counts of both sides over the same carts: each side told so, by the same word.
  same_word_of : (x y : Bool × Counted) (xs ys : CountList) (who who' : ℕ) → who < 2 ^ P.carts → who' < 2 ^ P.carts → OverWord P who (x ∷ xs)
      → OverWord P who' (y ∷ ys) → SameCarts P (over P x) (over P y) → who ≡ who'
  same_word_of x y xs ys who who' low low' w w' e = same_word P.carts who who' low low' (λ i c. w.0 i c ∙ e i c ∙ sym (w'.0 i c))

  -- a side with counts to join has told of them
  side_told : (xs : CountList) (t : List ℕ) (r : Option Joined) → Gathered P xs t r → T (uniform P xs) → (j : Joined) × (r ≡ Some j) × Told P xs t j
  side_told xs t None g z = absurd (subst T (sym g.joins_is) z)
  side_told xs t (Some j) g z = (j, refl, g.told_of)

  both_told : (xs ys : CountList) (t : List ℕ) (a b : Option Joined) → Gathered P xs t a → Gathered P ys t b → T (uniform P (both xs ys))
      → (i : Joined) × (j : Joined) × (a ≡ Some i) × (b ≡ Some j) × (i.who ≡ j.who)
  unfolding uniform
  both_told [] ys t a b f g z = absurd z
  both_told (x ∷ xs) [] t a b f g z = absurd z
  both_told (x ∷ xs) (y ∷ ys) t a b f g z =
      let s = sides P x y xs ys z in
      let i = side_told (x ∷ xs) t a f s.0 in
      let j = side_told (y ∷ ys) t b g s.1 in
      (i.0, j.0, i.1, j.1, same_word_of x y xs ys i.0.who j.0.who i.2.low j.2.low i.2.word j.2.word s.2)

  -- where a side has none, or the two are over different carts, there are none to join
  pub none_gathered : (swapped p : Bool) (xs ys : CountList) (t : List ℕ) (first second : Option Joined) → Gathered P xs t (cond swapped second first)
      → Gathered P ys t (cond swapped first second)
      → ((a b : Joined) → p ≡ true → first ≡ Some a → second ≡ Some b → a.who ≡ b.who → ⊥)
      → uniform P (cond p (both xs ys) []) ≡ false
  unfolding uniform
  none_gathered swapped false xs ys t first second f g sides = refl
  none_gathered swapped true xs ys t first second f g sides = bool_ext _ _ (told_both swapped f g) (λ z. absurd z)
    where
      told_both : (swapped : Bool) → Gathered P xs t (cond swapped second first) → Gathered P ys t (cond swapped first second) → T (uniform P (both xs ys)) → ⊥
      told_both false f g z = let j = both_told xs ys t first second f g z in sides j.0 j.1 refl j.2 j.3 j.4
      told_both true f g z = let j = both_told xs ys t second first f g z in sides j.1 j.0 refl j.3 j.2 (sym j.4)

  -- more carts than the slack: 32 stand for any more, since there are no more carts
  module _ (proper : Proper P) (d : ℕ) (zs : CountList) (t : List ℕ) (r : Joined) (g : Gathered P zs t (Some r)) where
    capped : (n m : ℕ) → n ≤ 32 → ltb (min 32 m) n ≡ ltb m n
    capped n m q =
        bool_ext _ _ (λ z. let a = leb→le (suc (min 32 m)) n z in le→leb (suc m) n (omega arith))
        (λ z. let a = leb→le (suc m) n z in le→leb (suc (min 32 m)) n (omega arith))

    pub joint-told : (z : ℕ) → r.sign ≡ true
        → Row P.h z (λ s. ltb r.slack (throughout P.h P.l P.carts d (within r.who (told t r.at)) s)) → Row P.h z (joint P d zs)
    unfolding joint
    joint-told z f row =
        row_of P.h z _ _
        (λ s q. same s
        ∙ ap (λ (b : Bool). b && ltb (slack P zs) (throughout P.h P.l P.carts d (some_text P zs) s)) g.joins_is) row
      where
        same : (s : ℕ) → ltb r.slack (throughout P.h P.l P.carts d (within r.who (told t r.at)) s)
            ≡ ltb (slack P zs) (throughout P.h P.l P.carts d (some_text P zs) s)
        same s =
            let y = g.told_of in
            ap₂ ltb y.sum
            (throughout_agrees P.carts P.h P.l proper.lap d _ _
            (λ i c s u. ap (λ (b : Bool). on r.who i && signed b (told t r.at i s)) (sym f) ∙ y.each i s c u) s)
            ∙ capped _ (slack P zs) (let n = tally_le (λ i. window P.h P.l (some_text P zs i) d s) P.carts in omega arith)

  -- what was told of both operands, in the order in which they stand
  pub in_place : (d : ℕ) (nodes : List ℕ) (p swapped : Bool) (i j x y : ℕ) (before after : List ℕ) (first second : Judged) {n : ℕ}
      → i ≡ cond swapped y x → j ≡ cond swapped x y → Kept n before after → IfSome first.joined (λ j. j.at + P.h ≤ n)
      → ClauseJudged P d nodes p i before first → ClauseJudged P d nodes p j after second
      → PartRow P d nodes p x (cond swapped second.row first.row) × PartRow P d nodes p y (cond swapped first.row second.row)
      × ((m : ℕ) → x < m → Gathered P (joinable d p (clause_tree nodes m x)) after (cond swapped second.joined first.joined))
      × ((m : ℕ) → y < m → Gathered P (joinable d p (clause_tree nodes m y)) after (cond swapped first.joined second.joined))
  in_place d nodes p true i j x y before after first second ei ej kept q f g = (
    rw ej at g.rows,
    rw ei at f.rows,
    rw ej at g.counts,
    λ m z. gathered_kept _ _ before after first.joined kept q ((rw ei at f.counts) m z),
  )
  in_place d nodes p false i j x y before after first second ei ej kept q f g = (
    rw ei at f.rows,
    rw ej at g.rows,
    λ m z. gathered_kept _ _ before after first.joined kept q ((rw ei at f.counts) m z),
    rw ej at g.counts,
  )
