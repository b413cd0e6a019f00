-- Words stored one after the other, upwards or downwards.
use Rattle.std.specs.Prelude.{ℕ, ◌+◌, ◌-◌, ◌≤◌, ◌<◌, ◌≡◌, refl, List, get_or, length, set, replicate}
use Rattle.std.proofs.Common.{sym, ap, subst, ◌∙◌, inl, inr, ⊎_elim, arith, rules, length-set, get_or-set_same, get_or-set_other}
use borrow.Rule.Slice.PartMut.{put_mid}
use Rattle.std.proofs.lemmas.List.{length-replicate, places}
use Rattle.cltl.proofs.Basics.{lt_or_le}
use Rattle.table.specs.Table.{Stored, Apart}

module _ (P : ℕ → ℕ → Type 0) (at : ℕ) where
  pub begun : (n : ℕ) (t : List ℕ) → Stored P at n n t t
  begun n t = record { kept = refl; each = λ s p q. absurd (omega arith); below = λ j p. refl; above = λ j p. refl }

  module _ (from to k x : ℕ) (before after : List ℕ) (r : Stored P at from to before after) (some : from ≤ to) (p : k < length after) where
    other : (j : ℕ) → (j ≡ k → ⊥) → get_or (set after k x) j 0 ≡ get_or after j 0
    other j d = get_or-set_other after k j x 0 d

    same : (j : ℕ) → j ≡ k → get_or (set after k x) j 0 ≡ x
    same j e = ap (λ (m : ℕ). get_or (set after k x) m 0) e ∙ get_or-set_same after k x 0 p

    -- the word above those stored
    pub upward : k ≡ at + to → P to x → Stored P at from (to + 1) before (set after k x)
    upward here q = record {
      kept = simp length-set r.kept;
      each = λ s u v. ⊎_elim (λ w. subst (P s) (sym (other (at + s) (λ e. omega arith))) (r.each s u w))
          (λ w. let e : to ≡ s = omega arith in subst (P s) (sym (same (at + s) (omega arith))) (subst (λ (m : ℕ). P m x) e q)) (lt_or_le s to);
      below = λ j u. other j (λ e. omega arith) ∙ r.below j u;
      above = λ j u. other j (λ e. omega arith) ∙ r.above j (omega arith);
    }

    -- the word below those stored
    pub downward : k + 1 ≡ at + from → 0 < from → P (from - 1) x → Stored P at (from - 1) to before (set after k x)
    downward here left q = record {
      kept = simp length-set r.kept;
      each = λ s u v. ⊎_elim (λ w. let e : from - 1 ≡ s = omega arith in
          subst (P s) (sym (same (at + s) (omega arith))) (subst (λ (m : ℕ). P m x) e q))
          (λ w. subst (P s) (sym (other (at + s) (λ e. omega arith))) (r.each s w v)) (lt_or_le s from);
      below = λ j u. other j (λ e. omega arith) ∙ r.below j (omega arith);
      above = λ j u. other j (λ e. omega arith) ∙ r.above j u;
    }

  -- two parts, the upper one first
  pub parts : (mid to : ℕ) (before between after : List ℕ) → mid ≤ to → Stored P at mid to before between → Stored P at 0 mid between after
      → Stored P at 0 to before after
  parts mid to before between after some r q = record {
    kept = q.kept ∙ r.kept;
    each = λ s u v. ⊎_elim (λ w. q.each s u w) (λ w. subst (P s) (sym (q.above (at + s) (omega arith))) (r.each s w v)) (lt_or_le s mid);
    below = λ j u. q.below j u ∙ r.below j (omega arith);
    above = λ j u. q.above j (omega arith) ∙ r.above j u;
  }

  -- all of it over a part
  pub over : (Q : ℕ → ℕ → Type 0) (from to : ℕ) (before between after : List ℕ) → Stored Q at from to before between → Stored P at 0 to between after
      → Stored P at 0 to before after
  over Q from to before between after r q = record {
    kept = q.kept ∙ r.kept;
    each = q.each;
    below = λ j u. q.below j u ∙ r.below j (omega arith);
    above = λ j u. q.above j u ∙ r.above j u;
  }

-- up to the end
pub ended : {P : ℕ → ℕ → Type 0} {at from to end : ℕ} {before after : List ℕ} → to ≡ end → Stored P at from to before after
    → Stored P at from end before after
ended {P} {at} {from} {to} {end} {before} {after} e r = subst (λ (n : ℕ). Stored P at from n before after) e r

-- a part filled with one word
pub filled : (at from to x start k n : ℕ) (t part : List ℕ) → start ≡ at + from → k ≡ to - from → n ≡ to - from → from ≤ to → at + to ≤ length t
    → part ≡ replicate n x → Stored (λ s y. y ≡ x) at from to t (put_mid start k t part)
filled at from to x start k n t part e f g p room same =
    let size : length part ≡ to - from = ap length same ∙ length-replicate n x ∙ g in record {
      kept = search (rules, places, size);
      each = λ s u v. search (rules, places, size);
      below = λ j u. search (rules, places, size);
      above = λ j u. search (rules, places, size);
    }

-- words with P have Q
pub stored_of : (P Q : ℕ → ℕ → Type 0) (at from to : ℕ) (before after : List ℕ) → ((s x : ℕ) → from ≤ s → s < to → P s x → Q s x)
    → Stored P at from to before after → Stored Q at from to before after
stored_of P Q at from to before after f r = record { kept = r.kept; each = λ s u v. f s _ u v (r.each s u v); below = r.below; above = r.above }

-- fewer words share none either
pub apart_less : (a k n m : ℕ) → n ≤ m → Apart a k m → Apart a k n
apart_less a k n m q = ⊎_elim (λ u. inl (omega arith)) (λ u. inr (omega arith))

-- a table apart from the one that is stored stays as it was
pub apart_word : (P : ℕ → ℕ → Type 0) (k from to : ℕ) (before after : List ℕ) → Stored P k from to before after → (a h s : ℕ) → to ≤ h → s < h
    → Apart a k h → get_or after (a + s) 0 ≡ get_or before (a + s) 0
apart_word P k from to before after r a h s q z = ⊎_elim (λ u. r.below (a + s) (omega arith)) (λ u. r.above (a + s) (omega arith))
