-- The search's test of one cart at one counter: it fails exactly if there is a conflict.
use Rattle.std.specs.Prelude.{ℕ, suc, ◌+◌, ◌-◌, ◌<◌, ◌≡◌, refl, Bool, true, false, ◌||◌}
use Rattle.std.proofs.Common.{arith, sym, ◌∙◌}
use Rattle.std.proofs.Math.Bool.{not}
use Rattle.std.proofs.Math.Dec.{eqb}
use borrow.Author.Tests.{ne_eqb, eqb-false, not-false, not-true}
use Rattle.refusal.specs.Faults.{either_false}
use Rattle.row.specs.First.{FailsFirst}
use Rattle.row.specs.Firsts.{AllPass, all_pass, first_fault_lem}
use Rattle.conflict.specs.Meaning.{Routes, Conflict}
use Rattle.conflict.specs.Search.{all_from, meets, passes, clear}
use Rattle.conflict.specs.Met.{true-T, T_true}
use Rattle.conflict.proofs.Reached.{reached, met}

pub apart : (t : Bool) → t ≡ true → t ≡ false → ⊥
apart t p q = let z : true ≡ false = sym p ∙ q in let y : ◌≡◌ {A = ℕ} 0 1 = cc in omega arith

-- of n numbers from s on, all pass, or the first that does not
module _ (ok : ℕ → Bool) (n s : ℕ) where
  pub all_of : all_from ok n s ≡ true → AllPass ok s (s + n)
  all_of e = all_pass ok (λ k. false) (λ end. true) n s (λ k p q. apart true refl (sym q)) e

  pub some_fails : all_from ok n s ≡ false → (k : ℕ) × FailsFirst ok s (s + n) k
  some_fails e = let w = first_fault_lem ok (λ k. false) (λ end. true) n s (λ q. apart true refl (sym q ∙ e)) in (w.at, w.first)

module _ (P : Routes) (d a v : ℕ) (there : a < P.carts) where
  pub not_clear : clear P d a v ≡ false → Conflict P d a v
  unfolding clear
  not_clear e =
      let f = some_fails (λ b. eqb a b || passes P d a v b) P.carts 0 e in
      let b = f.0 in
      let t = either_false (eqb a b) (passes P d a v b) f.1.fails in
      let g = some_fails (λ w. not (meets P a v b w)) (suc (v + d) - (v - d)) (v - d) t.1 in
      let w = g.0 in
      reached P d a v b w (record {
        cart_there = there;
        other_there = omega (arith, f.1.below);
        two = eqb-false a b t.0;
        behind = omega (arith, g.1.from);
        ahead = omega (arith, g.1.from, g.1.below);
        meeting = true-T (meets P a v b w) (not-false (meets P a v b w) g.1.fails);
      })

or-false : (x y : Bool) → x ≡ false → x || y ≡ true → y ≡ true
or-false true y e h = absurd (apart true refl e)
or-false false y e h = h

module _ (P : Routes) (d a v : ℕ) where
  pub clear_none : clear P d a v ≡ true → Conflict P d a v → ⊥
  unfolding clear
  clear_none e c =
      let m = met P d a v c in
      let b = m.0 in
      let w = m.1 in
      let k = m.2 in
      let x = all_of (λ i. eqb a i || passes P d a v i) P.carts 0 e b (omega arith) (omega (arith, k.other_there)) in
      let y = or-false (eqb a b) (passes P d a v b) (ne_eqb a b k.two) x in
      let z = all_of (λ u. not (meets P a v b u)) (suc (v + d) - (v - d)) (v - d) y w (omega (arith, k.behind)) (omega (arith, k.behind, k.ahead)) in
      apart (meets P a v b w) (T_true (meets P a v b w) k.meeting) (not-true (meets P a v b w) z)
