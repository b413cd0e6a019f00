-- A search for the first that fails: what a loop's turn does, and what the answer says.
use Rattle.std.specs.Prelude.{ℕ, zero, suc, ◌+◌, ◌-◌, ◌≤◌, ◌<◌, ◌≡◌, refl, Bool, true, false, cond, ◌⊎◌}
use Rattle.std.proofs.Common.{eq-or-lt_of_le, arith, sym, ap, subst, ◌∙◌, inl, inr, ⊎_elim}
use Rattle.row.specs.First.{first_failing, FailsFirst}

-- every number from s on and below top passes
abbrev pub AllPass : (ℕ → Bool) → ℕ → ℕ → Type 0
AllPass ok s top = (k : ℕ) → s ≤ k → k < top → ok k ≡ true

-- what holds of s and of each number behind it holds from s on
from_on : (ok : ℕ → Bool) (s top : ℕ) → ok s ≡ true → AllPass ok (suc s) top → AllPass ok s top
from_on ok s top here more k p q = ⊎_elim (λ e. ap ok (sym e) ∙ here) (λ l. more k l q) (eq-or-lt_of_le p)

module _ {A : Type 0} (ok : ℕ → Bool) (fault done : ℕ → A) where
  abbrev search_from : ℕ → ℕ → A
  search_from n s = first_failing ok fault done n s

  ---- A turn of the loop that looks from 0 on and stands at i.
  turn : (top i : ℕ) (t : Bool) → i < top → ok i ≡ t → search_from (top - i) i ≡ cond t (search_from (top - suc i) (suc i)) (fault i)
  turn top i t l e =
      let q : top - i ≡ suc (top - suc i) = omega arith in
      ap (λ (n : ℕ). search_from n i) q ∙ ap (λ (b : Bool). cond b (search_from (top - suc i) (suc i)) (fault i)) e

  pub passes_on : (top i : ℕ) → i < top → ok i ≡ true → search_from (top - i) i ≡ search_from (top - suc i) (suc i)
  passes_on top i = turn top i true

  pub stops_at : (top i : ℕ) → i < top → ok i ≡ false → search_from (top - i) i ≡ fault i
  stops_at top i = turn top i false

  pub passed_all : (top i : ℕ) → top - i ≡ 0 → search_from (top - i) i ≡ done i
  passed_all top i e = ap (λ (n : ℕ). search_from n i) e

  ---- The answer.
  -- it is that of the first that fails
  pub record FirstAnswer (s top : ℕ) (a : A) : Type 0 where
    pub at : ℕ
    pub first : FailsFirst ok s top at
    pub is : a ≡ fault at

  -- or all pass
  abbrev pub Searched : ℕ → ℕ → A → Type 0
  Searched s top a = (AllPass ok s top × (a ≡ done top)) ⊎ FirstAnswer s top a

  pub searched : (n s : ℕ) → Searched s (s + n) (search_from n s)
  searched zero s = let z : s ≡ s + 0 = omega arith in inl ((λ k p q. absurd (omega arith)), ap done z)
  searched (suc n) s = go (ok s) refl (searched n (suc s))
    where
      top : suc s + n ≡ s + suc n
      top = omega arith

      go : (b : Bool) → ok s ≡ b → Searched (suc s) (suc s + n) (search_from n (suc s)) → Searched s (s + suc n) (cond b (search_from n (suc s)) (fault s))
      go false e w = inr (record {
        at = s;
        first = record { from = omega arith; below = omega arith; fails = e; before = λ j p q. absurd (omega arith) };
        is = refl;
      })
      go true e (inl w) = inl (from_on ok s (s + suc n) e (λ k p q. w.0 k p (omega arith)), w.1 ∙ ap done top)
      go true e (inr w) =
          let f = w.first in
          inr (record {
            at = w.at;
            first = record {
              from = omega (arith, f.from);
              below = omega (arith, f.below);
              fails = f.fails;
              before = from_on ok s w.at e f.before;
            };
            is = w.is;
          })

  module _ (n s : ℕ) where
    -- if no fault gives what it gives when all pass, that answer says that all pass
    pub all_pass : ((k : ℕ) → ok k ≡ false → fault k ≡ done (s + n) → ⊥) → search_from n s ≡ done (s + n) → AllPass ok s (s + n)
    all_pass apart e = ⊎_elim (λ w. w.0) (λ w. absurd (apart w.at w.first.fails (sym w.is ∙ e))) (searched n s)

    pub none_fails : AllPass ok s (s + n) → search_from n s ≡ done (s + n)
    none_fails all = ⊎_elim (λ w. w.1) clash (searched n s)
      where
        clash : FirstAnswer s (s + n) (search_from n s) → search_from n s ≡ done (s + n)
        clash w =
            let z : true ≡ false = sym (all w.at w.first.from w.first.below) ∙ w.first.fails in
            let y : ◌≡◌ {A = ℕ} 0 1 = cc in
            absurd (omega arith)

    -- any other answer is that of the first that fails
    pub first_fault_lem : (search_from n s ≡ done (s + n) → ⊥) → FirstAnswer s (s + n) (search_from n s)
    first_fault_lem other = ⊎_elim (λ w. absurd (other w.1)) (λ w. w) (searched n s)

    -- what holds of every answer holds of it
    pub each_answer : (P : A → Type 0) → ((k : ℕ) → P (fault k)) → ((k : ℕ) → P (done k)) → P (search_from n s)
    each_answer P faults dones = ⊎_elim (λ w. subst P (sym w.1) (dones (s + n))) (λ w. subst P (sym w.is) (faults w.at)) (searched n s)
