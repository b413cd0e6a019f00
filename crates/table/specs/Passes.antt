-- The tables that passes over the steps leave.
use Rattle.std.specs.Prelude.{ℕ, zero, suc, ◌+◌, ◌-◌, ◌≤◌, ◌<◌, ◌≡◌, Bool, not, List}
use Rattle.std.proofs.Common.{ap, ◌∙◌, arith}
use Rattle.cltl.specs.Rules.{fix}
use Rattle.mask.specs.Mask.{on}
use Rattle.table.specs.Table.{told, Word, Stored, Table, Apart}
use Rattle.table.specs.Straight.{straight}
use Rattle.table.specs.Storing.{parts, over, stored_of, apart_word}
use Rattle.table.specs.Lapped.{turn, lapped, lap_long, run_in}

-- only the steps that are gone over count
straight_cong : (p : Bool) (a b a' b' : ℕ → Bool) (x y : Bool) (h : ℕ) → ((s : ℕ) → s < h → a s ≡ a' s) → ((s : ℕ) → s < h → b s ≡ b' s) → x ≡ y
    → (n s : ℕ) → s + n ≤ h → straight p a b x n s ≡ straight p a' b' y n s
unfolding straight
straight_cong p a b a' b' x y h f g e zero s q = e
straight_cong p a b a' b' x y h f g e (suc n) s q =
    rw (f s (omega arith), g s (omega arith), straight_cong p a b a' b' x y h f g e n (suc s) (omega arith))

-- a table apart from the one that is stored says what it said
pub still : (P : ℕ → ℕ → Type 0) (k from h : ℕ) (before after : List ℕ) → Stored P k from h before after → (a i s : ℕ) → Apart a k h → s < h
    → told after a i s ≡ told before a i s
still P k from h before after r a i s q z = ap (λ (x : ℕ). on x i) (apart_word P k from h before after r a h s (omega arith) z q)

module _ (p : Bool) (b k h l v : ℕ) (first between after : List ℕ) (some : l < h) (off-b : Apart b k h) where
  -- "until" or "release": over the lap for its value at the lap's first step, then over all steps
  pub twice : (a none : ℕ) (P : ℕ → ℕ → Type 0) → Apart a k h → Word (λ i. not p) none → Stored P k l h first between
      → Word (λ i. straight p (told first a i) (told first b i) (on none i) (h - l) l) v
      → Stored (λ s. Word (λ i. straight p (told between a i) (told between b i) (on v i) (h - s) s)) k 0 h between after
      → Table (λ i. fix h l p (told first a i) (told first b i) h) k h first after
  twice a none P off-a n r w q = over _ k P l h first between after r (stored_of _ _ k 0 h between after here q)
    where
      at_lap : (i : ℕ) → i < 32 → on v i ≡ fix h l p (told first a i) (told first b i) h l
      at_lap i z =
          w i z ∙ ap (λ (x : Bool). straight p (told first a i) (told first b i) x (h - l) l) (n i z) ∙ turn h l some p (told first a i) (told first b i)

      here : (s x : ℕ) → 0 ≤ s → s < h → Word (λ i. straight p (told between a i) (told between b i) (on v i) (h - s) s) x
          → Word (λ i. fix h l p (told first a i) (told first b i) h s) x
      here s x _ u f i z =
          f i z
          ∙ straight_cong p _ _ _ _ _ _ h (λ s e. still P k l h first between r a i s off-a e) (λ s e. still P k l h first between r b i s off-b e)
          (at_lap i z) (h - s) s (omega arith)
          ∙ lapped h l some p (told first a i) (told first b i) s u

  -- F or G: one word for the lap, then the run_in
  pub lap_and_run_in : (c : ℕ) → Apart c k h → ((i s : ℕ) → i < 32 → s < h → told first c i s ≡ p)
      → Word (λ i. straight p (λ s. p) (told first b i) (not p) (h - l) l) v → Stored (λ s x. x ≡ v) k l h first between
      → Stored (λ s. Word (λ i. straight p (told between c i) (told between b i) (on v i) (l - s) s)) k 0 l between after
      → Table (λ i. fix h l p (λ s. p) (told first b i) h) k h first after
  lap_and_run_in c off-c const w r q =
      parts _ k l h first between after (omega arith) (stored_of _ _ k l h first between lap r) (stored_of _ _ k 0 l between after before_lap q)
    where
      at_lap : (i : ℕ) → i < 32 → on v i ≡ fix h l p (λ s. p) (told first b i) h l
      at_lap i z = w i z ∙ turn h l some p (λ s. p) (told first b i)

      lap : (s x : ℕ) → l ≤ s → s < h → x ≡ v → Word (λ i. fix h l p (λ s. p) (told first b i) h s) x
      lap s x u u' e i z = ap (λ (y : ℕ). on y i) e ∙ at_lap i z ∙ lap_long h l some p (told first b i) s u u'

      before_lap : (s x : ℕ) → 0 ≤ s → s < l → Word (λ i. straight p (told between c i) (told between b i) (on v i) (l - s) s) x
          → Word (λ i. fix h l p (λ s. p) (told first b i) h s) x
      before_lap s x _ u f i z =
          f i z
          ∙ straight_cong p _ _ _ _ _ _ h (λ s e. still _ k l h first between r c i s off-c e ∙ const i s z e)
          (λ s e. still _ k l h first between r b i s off-b e) (at_lap i z) (l - s) s (omega arith)
          ∙ run_in h l some p (told first b i) (l - s) s (omega arith)
