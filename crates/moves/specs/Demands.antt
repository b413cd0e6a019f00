-- What the promise of checking moves alone gives a caller: a law for each field.
use Rattle.std.specs.Prelude.{ℕ, ◌<◌, ◌≡◌, refl, ◌↔◌, List, [], get_or, Result, Ok, Err}
use Rattle.std.proofs.Common.{sym, subst, subst₂, ◌∙◌}
use Rattle.std.proofs.Math.Path.{ap}
use Rattle.refusal.specs.Results.{told}
use Rattle.refusal.specs.Codes.{refused, code_of}
use Rattle.refusal.specs.Given.{OneOf, Given, floor_numbers, moves_numbers, checking_moves}
use Rattle.refusal.specs.Numbered.{zero_accepts}
use Rattle.refusal.specs.Stages.{is_accepted}
use Rattle.refusal.specs.declared.Refusal.{Refusal}
use Rattle.refusal.specs.declared.Verdict.{Verdict}
use Rattle.refusal.specs.declared.Verdict.TheVariants.{Accepted, Floor as AboutFloor, Plan as AboutPlan, Rules as AboutRules}
use Rattle.floor.specs.Floor.{read_floor}
use Rattle.floor.specs.declared.Floor.{Floor}
use Rattle.plan.specs.Plan.{PlanNumbers, PlanAnswer, accepted, rejected, read_plan, after_plan, after_floor}
use Rattle.plan.specs.After.{after_reading, ReadAs}
use Rattle.row.specs.declared.MoveFault.{MoveFault}
use Rattle.moves.specs.Carts.{start_of, cart_answer, moves_verdict, checked_moves}
use Rattle.moves.specs.Unending.{same_cart}
use Rattle.moves.specs.Promises.{CartUnending, AllUnending, CartDeparts, LowestLeft, FirstRefused, MovesChecked}

-- floor and plan are read in one way
pub read_once : (floor plan : List ℕ) (f g : Floor) (n m : PlanNumbers) → ReadAs floor plan f n → ReadAs floor plan g m → (f ≡ g) × (n ≡ m)
read_once floor plan f g n m a b =
    let e : Ok f ≡ Ok g = sym a.floor_read ∙ b.floor_read in
    let same : f ≡ g = cc in
    let q : accepted n ≡ accepted m = sym a.plan_read_lem ∙ ap (λ (x : Floor). read_plan x plan) same ∙ b.plan_read_lem in
    let numbers : n ≡ m = cc in
    (same, numbers)

-- the moves of cart c's row in a plan, judged
abbrev answer_of : List ℕ → PlanNumbers → ℕ → Result (Unit {0}) MoveFault
answer_of floor p c = cart_answer floor c (get_or p.rows c []) p.head.steps p.head.stem

-- 11: the step is the lowest that its cart leaves by a move that is not open
pub first_11 : (floor : List ℕ) (f : Floor) (p : PlanNumbers) (c k : ℕ) → FirstRefused floor f p (AboutPlan (refused 11 c k)) → LowestLeft floor p c k
first_11 floor f p c k w =
    let q = same_cart w.cart c 11 k (answer_of floor p w.cart) w.refused in
    subst (λ (i : ℕ). LowestLeft floor p i k) q (w.lowest k (ap (λ (i : ℕ). AboutPlan (refused 11 i k)) (sym q)))

-- cart c is one of the floor's, and each before it goes on without end
pub record FirstCart (floor : List ℕ) (f : Floor) (p : PlanNumbers) (c : ℕ) : Type 0 where
  pub there : c < f.carts
  pub before : (i : ℕ) → i < c → CartUnending floor p i

module _ (floor plan : List ℕ) (v : Verdict) (w : MovesChecked floor plan v) where
  -- number 0 is accepted; a refusal is the floor's or the plan's, with one of the numbers listed
  pub zero_accepted : (code_of v).number ≡ 0 → v ≡ Accepted
  zero_accepted z = zero_accepts checking_moves refl refl v w.numbers z

  pub floor_listed : (x : Refusal) → v ≡ AboutFloor x → OneOf floor_numbers x.number
  floor_listed x e = subst (Given checking_moves) e w.numbers

  pub plan_listed : (x : Refusal) → v ≡ AboutPlan x → OneOf moves_numbers x.number
  plan_listed x e = subst (Given checking_moves) e w.numbers

  pub never_rules : (x : Refusal) → v ≡ AboutRules x → ⊥
  never_rules x e = subst (Given checking_moves) e w.numbers

  -- a floor or plan that is refused: with its own refusal
  pub floor_refused : (x : Refusal) → read_floor floor ≡ Err x → v ≡ AboutFloor x
  unfolding checked_moves after_reading
  floor_refused x e = w.answer ∙ ap (λ (a : Result Floor Refusal). after_floor told (moves_verdict floor) a plan) e

  pub plan_refused : (f : Floor) (x : Refusal) → read_floor floor ≡ Ok f → read_plan f plan ≡ rejected x → v ≡ AboutPlan x
  unfolding checked_moves after_reading
  plan_refused f x e q =
      w.answer ∙ ap (λ (a : Result Floor Refusal). after_floor told (moves_verdict floor) a plan) e
      ∙ ap (λ (a : PlanAnswer). after_plan told (moves_verdict floor) f a) q

  module _ (f : Floor) (p : PlanNumbers) (r : ReadAs floor plan f p) where
    -- accepted exactly if every cart goes on without end
    pub accepted_exactly : (v ≡ Accepted) ↔ AllUnending floor f p
    accepted_exactly = (only, λ u. w.complete (record { floor_is = f; numbers = p; read = r; unending = u }))
      where
        only : v ≡ Accepted → AllUnending floor f p
        only e =
            let m = w.sound e in
            let q = read_once floor plan m.floor_is f m.numbers p m.read r in
            subst₂ (AllUnending floor) q.0 q.1 m.unending

    module _ (n c k : ℕ) (e : v ≡ AboutPlan (refused n c k)) where
      first : FirstRefused floor f p v
      first = w.first f p r (ap is_accepted e)

      cart_is : first.cart ≡ c
      cart_is = same_cart first.cart c n k (answer_of floor p first.cart) (first.refused ∙ e)

      -- once floor and plan are read, a refusal names the first cart that is refused
      pub first_cart : FirstCart floor f p c
      first_cart = record {
        there = subst (λ (i : ℕ). i < f.carts) cart_is first.there;
        before = subst (λ (i : ℕ). (j : ℕ) → j < i → CartUnending floor p j) cart_is first.before;
      }

    -- 10: the cart does not begin at its start
    pub not_at_start : (c : ℕ) → v ≡ AboutPlan (refused 10 c 0) → get_or (get_or p.rows c []) 0 0 ≡ start_of floor c → ⊥
    not_at_start c e =
        let q = cart_is 10 c 0 e in
        subst (λ (i : ℕ). get_or (get_or p.rows i []) 0 0 ≡ start_of floor i → ⊥) q
        ((first 10 c 0 e).away (e ∙ ap (λ (i : ℕ). AboutPlan (refused 10 i 0)) (sym q)))

    -- 11: the step is the lowest that the cart leaves by a move that is not open
    pub lowest_left : (c k : ℕ) → v ≡ AboutPlan (refused 11 c k) → LowestLeft floor p c k
    lowest_left c k e = first_11 floor f p c k (subst (FirstRefused floor f p) e (first 11 c k e))

    -- and it is left for another place
    pub left_departs : (c k : ℕ) → v ≡ AboutPlan (refused 11 c k) → CartDeparts p c k
    left_departs c k e = (lowest_left c k e).departs
