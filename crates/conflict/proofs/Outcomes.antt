-- The two answers: no conflict, or the lowest cart in one. Only one of them is right.
use Rattle.std.specs.Prelude.{ℕ, ◌<◌, ◌≡◌, refl, ◌⊎◌}
use Rattle.std.proofs.Common.{arith, sym, ap, ap₂, subst, ◌∙◌, inl, inr}
use Rattle.refusal.specs.Codes.{refused, code_of}
use Rattle.refusal.specs.declared.Verdict.{Verdict}
use Rattle.refusal.specs.declared.Verdict.TheVariants.{Accepted, Plan as AboutPlan}
use Rattle.row.specs.Lasso.{step_of}
use Rattle.row.specs.Round.{pick}
use Rattle.conflict.specs.Meaning.{Routes, Conflict, Free, Earliest}

abbrev pub refusal20 : ℕ → ℕ → Verdict
refusal20 a s = AboutPlan (refused 20 a s)

module _ (P : Routes) (d : ℕ) where
  -- an answer of the second kind
  pub record Told (v : Verdict) : Type 0 where
    pub cart : ℕ
    pub step : ℕ
    pub there : cart < P.carts
    pub below : step < P.h
    pub earliest : Earliest P d cart step
    pub is : v ≡ refusal20 cart step

  abbrev pub Outcome : Verdict → Type 0
  Outcome v = (Free P d × (v ≡ Accepted)) ⊎ Told v

  -- a plan is free exactly if no cart is in a conflict
  pub free_none : Free P d → (a v : ℕ) → Conflict P d a v → ⊥
  free_none f a v c = f c.run c.moment a c.other c.cart_there c.other_there c.two c.conflicting

  pub none_free : ((a v : ℕ) → Conflict P d a v → ⊥) → Free P d
  none_free n r t a b p q two x =
      n a (r.at t a)
      (record {
        run = r;
        moment = t;
        other = b;
        cart_there = p;
        other_there = q;
        two = two;
        counter = refl;
        conflicting = x;
      })

  -- equal, if neither is below the other
  level : (a b : ℕ) → (a < b → ⊥) → (b < a → ⊥) → a ≡ b
  level a b p q = pick a b (a ≡ b) (λ l. absurd (p l)) (λ l. pick b a (a ≡ b) (λ m. absurd (q m)) (λ m. omega arith))

  pub unique : (a s a' s' : ℕ) → Earliest P d a s → Earliest P d a' s' → (a ≡ a') × (s ≡ s')
  unique a s a' s' e e' = (cart, e.step ∙ ap (step_of P.h P.l) counter ∙ sym e'.step)
    where
      cart : a ≡ a'
      cart = level a a' (λ l. e'.lowest a e.counter l e.conflict) (λ l. e.lowest a' e'.counter l e'.conflict)

      mine : Conflict P d a e'.counter
      mine = subst (λ (i : ℕ). Conflict P d i e'.counter) (sym cart) e'.conflict

      theirs : Conflict P d a' e.counter
      theirs = subst (λ (i : ℕ). Conflict P d i e.counter) cart e.conflict

      counter : e.counter ≡ e'.counter
      counter = level e.counter e'.counter (λ l. e'.before e.counter l theirs) (λ l. e.before e'.counter l mine)

  pub not_both : (a s : ℕ) → Free P d → Earliest P d a s → ⊥
  not_both a s f e = free_none f a e.counter e.conflict

  pub same_outcome : (v v' : Verdict) → Outcome v → Outcome v' → v ≡ v'
  same_outcome v v' (inl x) (inl y) = x.1 ∙ sym y.1
  same_outcome v v' (inl x) (inr y) = absurd (not_both y.cart y.step x.0 y.earliest)
  same_outcome v v' (inr x) (inl y) = absurd (not_both x.cart x.step y.0 x.earliest)
  same_outcome v v' (inr x) (inr y) =
      let u = unique x.cart x.step y.cart y.step x.earliest y.earliest in
      x.is ∙ ap₂ refusal20 u.0 u.1 ∙ sym y.is

-- the answers differ
pub not_accepted : (a s : ℕ) → Accepted ≡ refusal20 a s → ⊥
not_accepted a s e = let z = ap (λ (v : Verdict). (code_of v).number) e in omega arith

pub numbers_of_lem : (a s a' s' : ℕ) → refusal20 a s ≡ refusal20 a' s' → (a ≡ a') × (s ≡ s')
numbers_of_lem a s a' s' e = (ap (λ (v : Verdict). (code_of v).first) e, ap (λ (v : Verdict). (code_of v).second) e)
