-- What is told alike is judged alike.
use Rattle.std.specs.Prelude.{ℕ, zero, suc, ◌+◌, ◌≤◌, ◌<◌, ◌≡◌, refl, Bool, ◌&&◌, ◌||◌, leb, eqb}
use Rattle.std.proofs.Common.{ap₂, arith, le_refl}
use Rattle.cltl.specs.Counting.{tally}
use Rattle.cltl.specs.Rules.{throughout, quorum}
use Rattle.cltl.specs.Step.{lowest}
use Rattle.cltl.proofs.Quorum.{window_cong}
use Rattle.cltl.proofs.Tally.{every_agrees}

pub tally_agrees : (f g : ℕ → Bool) (n : ℕ) → ((i : ℕ) → i < n → f i ≡ g i) → tally f n ≡ tally g n
unfolding tally
tally_agrees f g zero e = refl
tally_agrees f g (suc n) e = rw (e n (le_refl (suc n)), tally_agrees f g n (λ i p. e i (omega arith)))

pub lowest_agrees : (f g : ℕ → Bool) (n s e : ℕ) → ((i : ℕ) → i < e → f i ≡ g i) → s + n ≤ e → lowest f n s ≡ lowest g n s
unfolding lowest
lowest_agrees f g zero s e x q = refl
lowest_agrees f g (suc n) s e x q = rw (x s (omega arith), lowest_agrees f g n (suc s) e x (omega arith))

-- what is counted of carts looks at carts and steps alone
pub throughout_agrees : (carts h l : ℕ) → l < h → (d : ℕ) (f g : ℕ → ℕ → Bool) → ((i : ℕ) → i < carts → (s : ℕ) → s < h → f i s ≡ g i s) → (s : ℕ)
    → throughout h l carts d f s ≡ throughout h l carts d g s
throughout_agrees carts h l ok d f g e s = tally_agrees _ _ carts (λ i c. window_cong h l ok (f i) (g i) (e i c) d s)

pub quorum_agrees : (carts h l : ℕ) → l < h → (d m : ℕ) (f g : ℕ → ℕ → Bool) → ((i : ℕ) → i < carts → (s : ℕ) → s < h → f i s ≡ g i s) → (s : ℕ) → s < h
    → quorum h l carts d m f s ≡ quorum h l carts d m g s
unfolding quorum
quorum_agrees carts h l ok d m f g e s q =
    ap₂ (λ (n : ℕ) (every : Bool). leb m n || (eqb m 1 && every)) (throughout_agrees carts h l ok d f g e s) (every_agrees _ _ carts (λ i c. e i c s q))
