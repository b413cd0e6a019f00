-- Tallies are made one text at a time, and stay.
use Rattle.std.specs.Prelude.{ℕ, ◌+◌, ◌-◌, ◌*◌, ◌^◌, ◌≤◌, ◌<◌, ◌≡◌, refl, Bool, true, false, ◌&&◌, List, ◌⊎◌, get_or, replicate}
use Rattle.std.proofs.Common.{sym, ap, subst, ◌∙◌, inl, inr, ⊎_elim, arith}
use Rattle.std.proofs.lemmas.List.{length-replicate, get_or-replicate}
use Rattle.cltl.specs.Rules.{throughout}
use Rattle.cltl.proofs.Basics.{lt_or_le}
use Rattle.cltl.proofs.Agree.{throughout_agrees}
use Rattle.mask.specs.Mask.{on, signed}
use Rattle.table.specs.Table.{told, Stored, Apart, Kept}
use Rattle.table.specs.Layout.{pairs_at}
use Rattle.table.specs.Storing.{apart_word}
use Rattle.table.specs.Keeping.{kept_told, table_ends}
use Rattle.quorum.specs.Words.{within}
use Rattle.drift.specs.declared.Ground.{Ground}
use Rattle.drift.specs.Tallies.{tally_at, KeptAt, TalliesOf, Tallies}

-- those of different texts share no byte
module _ (g : Ground) (from from' : ℕ) (p p' : Bool) (at at' : ℕ) (here : KeptAt g from p at) (there : KeptAt g from' p' at') where
  abbrev SameOrApart : Bool → Bool → Type 0
  SameOrApart p p' = ((from' ≡ from) × (p' ≡ p)) ⊎ Apart (tally_at g from' p') (tally_at g from p) g.lasso.h

  -- marks are told apart by their tables, and a mark from its negation by its side of the marks' end
  by_sign : (p p' : Bool) → ((from' ≡ from) ⊎ Apart from' from g.lasso.h) → (from + g.lasso.h ≤ g.marks * g.lasso.h)
      → (from' + g.lasso.h ≤ g.marks * g.lasso.h) → SameOrApart p p'
  by_sign true true = λ tables _ _. ⊎_elim (λ e. inl (e, refl)) inr tables
  by_sign false false = λ tables _ _. ⊎_elim (λ e. inl (e, refl)) (λ apart. inr (⊎_elim (λ u. inl (omega arith)) (λ u. inr (omega arith)) apart)) tables
  by_sign true false = λ _ ends ends'. inr (inr (omega arith))
  by_sign false true = λ _ ends ends'. inr (inl (omega arith))

  tables : (from' ≡ from) ⊎ Apart from' from g.lasso.h
  tables =
      ⊎_elim (λ u. inr (inl (omega (arith, here.table, there.table, table_ends g.lasso.h there.mark here.mark u))))
      (λ u. ⊎_elim (λ v. inr (inr (omega (arith, here.table, there.table, table_ends g.lasso.h here.mark there.mark v))))
      (λ v. let e : there.mark ≡ here.mark = omega arith in inl (there.table ∙ ap (λ (k : ℕ). k * g.lasso.h) e ∙ sym here.table))
      (lt_or_le here.mark there.mark))
      (lt_or_le there.mark here.mark)

  same_or_apart : ((from' ≡ from) × (p' ≡ p)) ⊎ Apart at' at g.lasso.h
  same_or_apart =
      ⊎_elim inl
      (λ apart. inr (subst (λ (a : ℕ). Apart a at g.lasso.h) (sym there.place)
      (subst (λ (a : ℕ). Apart (tally_at g from' p') a g.lasso.h) (sym here.place) apart)))
      (by_sign p p' tables (omega (arith, here.table, table_ends g.lasso.h here.mark g.marks here.few))
      (omega (arith, there.table, table_ends g.lasso.h there.mark g.marks there.few)))

-- nothing is kept at the start
pub no_tallies : (g : Ground) (t : List ℕ) → Tallies g t (replicate 2048 255)
no_tallies g t = record {
  size = length-replicate {A = ℕ} 2048 255;
  each = λ from p at here. inl (get_or-replicate 2048 at 255 0 (omega (arith, here.room, g.lasso.lap)));
}

-- the tallies of a text are stored
abbrev MadeOf : Ground → (t : List ℕ) (from : ℕ) → Bool → (at : ℕ) (before after : List ℕ) → Type 0
MadeOf g t from p at before after =
    Stored (λ s x. x ≡ throughout g.lasso.h g.lasso.l g.carts g.drift (within (2 ^ g.carts - 1) (λ i s. signed p (told t from i s))) s)
    at 0 g.lasso.h before after

module _ (g : Ground) where
  -- as long as the tables of the marks do
  pub still_tallied : (t t' tallies : List ℕ) → Kept (pairs_at g.marks g.lasso.h) t t' → Tallies g t tallies → Tallies g t' tallies
  still_tallied t t' tallies kept all = record {
    size = all.size;
    each = λ from p at here. ⊎_elim inl (λ those. inr (λ s u. those s u ∙ same from p (ends from p at here) s)) (all.each from p at here);
  }
    where
      ends : (from : ℕ) (p : Bool) (at : ℕ) → KeptAt g from p at → from + g.lasso.h ≤ pairs_at g.marks g.lasso.h
      ends from p at here =
          let e = here.table in
          let few = here.few in
          omega (arith, table_ends g.lasso.h here.mark (g.marks + 2) (omega arith))

      same : (from : ℕ) (p : Bool) → from + g.lasso.h ≤ pairs_at g.marks g.lasso.h → (s : ℕ)
          → throughout g.lasso.h g.lasso.l g.carts g.drift (within (2 ^ g.carts - 1) (λ i s. signed p (told t from i s))) s
          ≡ throughout g.lasso.h g.lasso.l g.carts g.drift (within (2 ^ g.carts - 1) (λ i s. signed p (told t' from i s))) s
      same from p end s =
          throughout_agrees g.carts g.lasso.h g.lasso.l g.lasso.lap g.drift _ _
          (λ i _ s u. ap (λ (b : Bool). on (2 ^ g.carts - 1) i && signed p b)
          (sym (kept_told (pairs_at g.marks g.lasso.h) t t' kept from g.lasso.h i s end u))) s

  module _ (t : List ℕ) (from : ℕ) (p : Bool) (at : ℕ) (here : KeptAt g from p at) where
    -- what is there already
    pub there : (tallies : List ℕ) → Tallies g t tallies → get_or tallies at 0 < 255 → TalliesOf g t from p at tallies
    there tallies all few = ⊎_elim (λ e. absurd (omega arith)) (λ those. those) (all.each from p at here)

    -- where one text's are made, those of every other stay
    module _ (before after : List ℕ) (made : MadeOf g t from p at before after) where
      abbrev Known : ℕ → Bool → ℕ → List ℕ → Type 0
      Known from p at tallies = (get_or tallies at 0 ≡ 255) ⊎ TalliesOf g t from p at tallies

      other : (from' : ℕ) (p' : Bool) (at' : ℕ) → Apart at' at g.lasso.h → Known from' p' at' before → Known from' p' at' after
      other from' p' at' apart =
          ⊎_elim (λ e. inl (ap (λ (i : ℕ). get_or after i 0) first ∙ same 0 (omega (arith, g.lasso.lap)) ∙ ap (λ (i : ℕ). get_or before i 0) (sym first) ∙ e))
          (λ those. inr (λ s u. same s u ∙ those s u))
        where
          same : (s : ℕ) → s < g.lasso.h → get_or after (at' + s) 0 ≡ get_or before (at' + s) 0
          same s u = apart_word _ at 0 g.lasso.h before after made at' g.lasso.h s (omega arith) u apart

          first : at' ≡ at' + 0
          first = omega arith

      this : (from' : ℕ) (p' : Bool) (at' : ℕ) → KeptAt g from' p' at' → from' ≡ from → p' ≡ p → Known from' p' at' after
      this from' p' at' there e e' =
          let same : at ≡ at' = here.place ∙ ap (λ (x : ℕ). tally_at g x p) (sym e) ∙ ap (tally_at g from') (sym e') ∙ sym there.place in
          inr (subst (λ (a : ℕ). TalliesOf g t from' p' a after) same
          (subst (λ (x : ℕ). TalliesOf g t x p' at after) (sym e)
          (subst (λ (b : Bool). TalliesOf g t from b at after) (sym e') (λ s u. made.each s (omega arith) u))))

      pub tallied_too : Tallies g t before → Tallies g t after
      tallied_too all = record {
        size = made.kept ∙ all.size;
        each = λ from' p' at' there. ⊎_elim (λ same. this from' p' at' there same.0 same.1)
            (λ apart. other from' p' at' apart (all.each from' p' at' there)) (same_or_apart g from from' p p' at at' here there);
      }
