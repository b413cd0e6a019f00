-- The row of an operator, by the tests on its kind.
use Rattle.std.specs.Prelude.{ℕ, ◌^◌, ◌<◌, ◌≡◌, refl, Bool, true, false, not, cond, ◌||◌, T, eqb}
use Rattle.std.proofs.Common.{ap, ◌∙◌, ⊎_elim, eqb→eq, eq-eqb, ne_eqb}
use Rattle.std.specs.Bool.{beq}
use Rattle.std.specs.Int.Bits.{bit_or}
use Rattle.grammar.specs.Nodes.{ev₁, gl₁, and₂, or₂, until₂, release₂}
use Rattle.row.specs.Lasso.{next_step}
use Rattle.cltl.specs.Rules.{join, fix}
use Rattle.cltl.proofs.Basics.{T_or_not}
use Rattle.cltl.proofs.Lap.{fix_cong}
use Rattle.mask.specs.Mask.{on, Row}
use Rattle.mask.specs.EachBit.{on_or}
use Rattle.mask.specs.Combined.{either}
use Rattle.drift.specs.Tree.{one_of, two_of}
use Rattle.drift.specs.Operator.{is_or, one_rule, two_rule}

-- a row of what is equal at each step
pub row_of : (h x : ℕ) (f g : ℕ → Bool) → ((s : ℕ) → s < h → f s ≡ g s) → Row h x f → Row h x g
row_of h x f g e r = record { low = r.low; at = λ s q. r.at s q ∙ e s q }

-- which are ors
pub or_kind : (kind : ℕ) (p : Bool) → beq (eqb kind 7 || eqb kind 8) p ≡ is_or (two_of kind) p
or_kind kind p = ⊎_elim (λ e. let z = eqb→eq kind 6 e in rw z (no p)) (λ e. go (eqb kind 6) (eqb kind 7) (eqb kind 8) p e) (T_or_not (eqb kind 6))
  where
    no : (p : Bool) → beq false p ≡ not p
    no true = refl
    no false = refl

    go : (a b c p : Bool) → T (not a) → beq (b || c) p ≡ is_or (cond a and₂ (cond b or₂ (cond c until₂ release₂))) p
    go true b c p e = absurd e
    go false true c true e = refl
    go false true c false e = refl
    go false false true true e = refl
    go false false true false e = refl
    go false false false true e = refl
    go false false false false e = refl

module _ (h l : ℕ) (ok : l < h) (kind : ℕ) (p : Bool) (a r : ℕ) where
  pub negated_row : kind ≡ 2 → a < 2 ^ h → Row h a (one_rule h l p (one_of kind) (on a))
  negated_row e low = rw (eq-eqb kind 2 e) (record { low = low; at = λ s q. refl })

  pub later_row : (kind ≡ 2 → ⊥) → kind ≡ 3 → Row h r (λ s. on a (next_step h l s)) → Row h r (one_rule h l p (one_of kind) (on a))
  later_row n e g = rw (ne_eqb kind 2 n, eq-eqb kind 3 e) g

  -- F (4) or G
  pub ever_row : (kind ≡ 2 → ⊥) → (kind ≡ 3 → ⊥) → (c : ℕ) → Row h c (λ s. beq (eqb kind 4) p)
      → Row h r (fix h l (beq (eqb kind 4) p) (on c) (on a) h) → Row h r (one_rule h l p (one_of kind) (on a))
  ever_row n n' c k g = rw (ne_eqb kind 2 n, ne_eqb kind 3 n') (go (eqb kind 4) p k g)
    where
      go : (f p : Bool) → Row h c (λ s. beq f p) → Row h r (fix h l (beq f p) (on c) (on a) h) → Row h r (one_rule h l p (cond f ev₁ gl₁) (on a))
      go true true k g = row_of h r _ _ (fix_cong h l ok true _ _ _ _ k.at (λ s q. refl) h) g
      go true false k g = row_of h r _ _ (fix_cong h l ok false _ _ _ _ k.at (λ s q. refl) h) g
      go false true k g = row_of h r _ _ (fix_cong h l ok false _ _ _ _ k.at (λ s q. refl) h) g
      go false false k g = row_of h r _ _ (fix_cong h l ok true _ _ _ _ k.at (λ s q. refl) h) g

  -- z is where the or of the operands is also true
  module _ (z b : ℕ) (low : z < 2 ^ h) where
    also_row : (j : ℕ) (f : ℕ → Bool) → Row h j f → Row h (bit_or z j) (λ s. on z s || f s)
    also_row j f g = row_of h (bit_or z j) _ _ (λ s q. ap (λ (x : Bool). on z s || x) (g.at s q)) (either h z j low g.low)

    pub both_row : kind ≡ 6 → Row h r (λ s. join p (on a s) (on b s)) → Row h (bit_or z r) (two_rule h l p (two_of kind) (on z) (on a) (on b))
    both_row e g = rw (eq-eqb kind 6 e) (also_row r _ g)

    pub either_row : (kind ≡ 6 → ⊥) → kind ≡ 7 → Row h r (λ s. join (not p) (on a s) (on b s))
        → Row h (bit_or z r) (two_rule h l p (two_of kind) (on z) (on a) (on b))
    either_row n e g = rw (ne_eqb kind 6 n, eq-eqb kind 7 e) (also_row r _ g)

    -- U (8) or R
    pub reach_row : (kind ≡ 6 → ⊥) → (kind ≡ 7 → ⊥) → Row h r (fix h l (beq (eqb kind 8) p) (on (bit_or z a)) (on b) h)
        → Row h r (two_rule h l p (two_of kind) (on z) (on a) (on b))
    reach_row n n' g = rw (ne_eqb kind 6 n, ne_eqb kind 7 n') (go (eqb kind 8) p g)
      where
        asks : (q : Bool) → Row h r (fix h l q (on (bit_or z a)) (on b) h) → Row h r (fix h l q (λ s. on z s || on a s) (on b) h)
        asks q g = row_of h r _ _ (fix_cong h l ok q _ _ _ _ (λ s _. on_or z a s) (λ s _. refl) h) g

        go : (u p : Bool) → Row h r (fix h l (beq u p) (on (bit_or z a)) (on b) h) → Row h r (two_rule h l p (cond u until₂ release₂) (on z) (on a) (on b))
        go true true g = asks true g
        go true false g = asks false g
        go false true g = asks false g
        go false false g = asks true g
