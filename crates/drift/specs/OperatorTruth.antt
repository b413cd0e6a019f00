-- The truth of a node at each step from the truth of its operands.
use Prim.Native.Nat.{ℕ, zero, suc, ◌≤◌, ◌<◌}
use Rattle.std.specs.Prelude.{◌≡◌, Bool, not, ◌||◌, List}
use Rattle.std.proofs.Math.Path.{refl}
use Rattle.std.proofs.Common.{sym, ◌∙◌, arith}
use Rattle.grammar.specs.Grammar.{Form, top, Amount}
use Rattle.grammar.specs.Nodes.{Node, one_n, two_n, Op₁, neg₁, next₁, ev₁, gl₁, Op₂, and₂, or₂, until₂, release₂}
use Rattle.row.specs.Lasso.{next_step}
use Rattle.row.specs.Round.{next_below}
use Rattle.cltl.specs.Rules.{judge}
use Rattle.cltl.proofs.Lap.{fix_cong}
use Rattle.drift.specs.Tree.{node_at, one, two, form_of, tree, Ordered}
use Rattle.drift.specs.Operator.{under, one_rule, two_rule, or_of}

pub ordered_less : (block : List ℕ) (n m : ℕ) → m ≤ n → Ordered block n → Ordered block m
ordered_less block n m q o = record { room = let r = o.room in omega arith; below = λ k p. o.below k (omega arith) }

module _ (h l : ℕ) (ok : l < h) (p : Bool) where
  pub one_cong : (o : Op₁) (f g : ℕ → Bool) → ((s : ℕ) → s < h → f s ≡ g s) → (s : ℕ) → s < h → one_rule h l p o f s ≡ one_rule h l p o g s
  one_cong neg₁ f g e s q = e s q
  one_cong next₁ f g e s q = e (next_step h l s) (next_below h l ok s)
  one_cong ev₁ f g e s q = fix_cong h l ok p (λ s. p) f (λ s. p) g (λ s q. refl) e h s q
  one_cong gl₁ f g e s q = fix_cong h l ok (not p) (λ s. not p) f (λ s. not p) g (λ s q. refl) e h s q

  pub two_cong : (o : Op₂) (z f g z' f' g' : ℕ → Bool) → ((s : ℕ) → s < h → z s ≡ z' s) → ((s : ℕ) → s < h → f s ≡ f' s) → ((s : ℕ) → s < h → g s ≡ g' s)
      → (s : ℕ) → s < h → two_rule h l p o z f g s ≡ two_rule h l p o z' f' g' s
  two_cong and₂ z f g z' f' g' c d e s q = rw (c s q, d s q, e s q)
  two_cong or₂ z f g z' f' g' c d e s q = rw (c s q, d s q, e s q)
  two_cong until₂ z f g z' f' g' c d e s q = fix_cong h l ok p (λ s. z s || f s) g (λ s. z' s || f' s) g' (λ s q. rw (c s q, d s q)) e h s q
  two_cong release₂ z f g z' f' g' c d e s q = fix_cong h l ok (not p) (λ s. z s || f s) g (λ s. z' s || f' s) g' (λ s q. rw (c s q, d s q)) e h s q

  module _ {L : Type 0} (rule : Bool → L → ℕ → Bool) (also : Bool → Form L → ℕ → Bool) where
    one-judge : (o : Op₁) (a : Form L) (s : ℕ) → judge h l rule also p (one o a) s ≡ one_rule h l p o (judge h l rule also (under o p) a) s
    unfolding judge
    one-judge neg₁ a s = refl
    one-judge next₁ a s = refl
    one-judge ev₁ a s = refl
    one-judge gl₁ a s = refl

    two-judge : (o : Op₂) (a b : Form L) (s : ℕ)
        → judge h l rule also p (two o a b) s ≡ two_rule h l p o (also p (or_of o a b)) (judge h l rule also p a) (judge h l rule also p b) s
    unfolding judge
    two-judge and₂ a b s = refl
    two-judge or₂ a b s = refl
    two-judge until₂ a b s = refl
    two-judge release₂ a b s = refl

-- equal at every step
abbrev pub Same : ℕ → (f g : ℕ → Bool) → Type 0
Same h f g = (s : ℕ) → s < h → f s ≡ g s

module _ (h l : ℕ) (ok : l < h) (block : List ℕ) {L : Type 0} (rule : Bool → L → ℕ → Bool) (also : Bool → Form L → ℕ → Bool)
    (mark : ℕ → Form L) (count : ℕ → Amount → Form L) where
  -- f is the truth of node k, or of its negation, however deep the look
  abbrev pub TruthIs : Bool → ℕ → (ℕ → Bool) → Type 0
  TruthIs p k f = (n : ℕ) → k < n → Same h f (judge h l rule also p (tree mark count block n k))

  pub node_truth : (p : Bool) (k : ℕ) (f : ℕ → Bool) (x : Node) → node_at block k ≡ x
      → ((n : ℕ) → k ≤ n → Same h f (judge h l rule also p (form_of mark count (λ i. tree mark count block n i) x))) → TruthIs p k f
  unfolding tree
  node_truth p k f x e g zero q = absurd (omega arith)
  node_truth p k f x e g (suc n) q = rw e (g n (omega arith))

  pub one_truth : (p : Bool) (k : ℕ) (f a : ℕ → Bool) (o : Op₁) (i : ℕ) → node_at block k ≡ one_n o i → i < k → TruthIs (under o p) i a
      → Same h f (one_rule h l p o a) → TruthIs p k f
  one_truth p k f a o i e q ra g =
      node_truth p k f (one_n o i) e
      (λ n m s z. g s z ∙ one_cong h l ok p o _ _ (ra n (omega arith)) s z ∙ sym (one-judge h l ok p rule also o (tree mark count block n i) s))

  pub two_truth : (p : Bool) (k : ℕ) (f a b : ℕ → Bool) (o : Op₂) (i j : ℕ) → node_at block k ≡ two_n o i j → i < k → j < k → TruthIs p i a → TruthIs p j b
      → ((n : ℕ) → i < n → j < n → Same h f (two_rule h l p o (also p (or_of o (tree mark count block n i) (tree mark count block n j))) a b)) → TruthIs p k f
  two_truth p k f a b o i j e q q' ra rb g =
      node_truth p k f (two_n o i j) e
      (λ n m s u. g n (omega arith) (omega arith) s u
      ∙ two_cong h l ok p o _ _ _ _ _ _ (λ s u. refl) (ra n (omega arith)) (rb n (omega arith)) s u
      ∙ sym (two-judge h l ok p rule also o (tree mark count block n i) (tree mark count block n j) s))

  pub top_truth : (p : Bool) (k : ℕ) (f : ℕ → Bool) (x : Node) → node_at block k ≡ x → ((n : ℕ) → form_of mark count (λ i. tree mark count block n i) x ≡ top)
      → Same h f (λ s. p) → TruthIs p k f
  unfolding judge
  top_truth p k f x e t g = node_truth p k f x e (λ n m. rw (t n) g)
