-- Moves are accepted exactly if every cart begins at its start and makes open moves only, without end.
use Rattle.std.specs.Prelude.{ℕ, ◌+◌, ◌<◌, refl, List, Result, Ok, Err}
use Rattle.std.proofs.Common.{arith, subst, ◌∙◌}
use Rattle.std.proofs.Math.Path.{◌≡◌, sym, ap}
use Rattle.std.proofs.Math.Bool.{true, false}
use Rattle.refusal.specs.Results.{told}
use Rattle.refusal.specs.Stages.{is_accepted}
use Rattle.refusal.specs.Accepting.{accepted_is}
use Rattle.refusal.specs.Codes.{refused, code_of}
use Rattle.refusal.specs.Given.{Given, checking_moves}
use Rattle.refusal.specs.declared.Verdict.{Verdict}
use Rattle.refusal.specs.declared.Verdict.TheVariants.{Accepted, Plan as AboutPlan}
use Rattle.floor.specs.declared.Floor.{Floor}
use Rattle.plan.specs.Plan.{PlanNumbers, accepted, read_plan}
use Rattle.plan.specs.After.{ReadAs}
use Rattle.plan.specs.RoundTrip.{valid}
use Rattle.plan.specs.Read.{ReadingCases, floor_refused, plan_refused, both_read, reading_cases, read_on_lem}
use Rattle.row.specs.Firsts.{FirstAnswer, all_pass, none_fails, first_fault_lem}
use Rattle.row.specs.Unending.{unending, accepts_all, refused_start, refused_step}
use Rattle.row.specs.declared.MoveFault.{MoveFault}
use Rattle.row.specs.declared.MoveFault.TheVariants.{Elsewhere, Shut}
use Rattle.moves.specs.Carts.{start_of, verdict_of, row_verdict, row_accepted, judged_carts, moves_verdict, checked_moves}
use Rattle.moves.specs.Refusing.{moves_given}
use Rattle.moves.specs.Promises.{CartUnending, AllUnending, Moving, FirstRefused, MovesChecked}

only_open : (c : ℕ) (a : Result (Unit {0}) MoveFault) → verdict_of c a ≡ Accepted → a ≡ Ok tt
only_open c (Ok u) e = refl
only_open c (Err Elsewhere) e = let z : ◌≡◌ {A = ℕ} 0 1 = cc in absurd (omega arith)
only_open c (Err (Shut s)) e = let z : ◌≡◌ {A = ℕ} 0 1 = cc in absurd (omega arith)

pub only_shut : (c k : ℕ) (a : Result (Unit {0}) MoveFault) → verdict_of c a ≡ verdict_of c (Err (Shut k)) → a ≡ Err (Shut k)
only_shut c k (Ok u) e = let z = ap (λ (v : Verdict). (code_of v).number) e in absurd (omega arith)
only_shut c k (Err Elsewhere) e = let z = ap (λ (v : Verdict). (code_of v).number) e in absurd (omega arith)
only_shut c k (Err (Shut s)) e = ap (λ (n : ℕ). Err (Shut n)) (ap (λ (v : Verdict). (code_of v).second) e)

only_elsewhere : (c : ℕ) (a : Result (Unit {0}) MoveFault) → verdict_of c a ≡ verdict_of c (Err Elsewhere) → a ≡ Err Elsewhere
only_elsewhere c (Ok u) e = let z = ap (λ (v : Verdict). (code_of v).number) e in absurd (omega arith)
only_elsewhere c (Err Elsewhere) e = refl
only_elsewhere c (Err (Shut s)) e = let z = ap (λ (v : Verdict). (code_of v).number) e in absurd (omega arith)

-- a refusal names its own cart
pub same_cart : (c d n k : ℕ) (a : Result (Unit {0}) MoveFault) → verdict_of c a ≡ AboutPlan (refused n d k) → c ≡ d
same_cart c d n k (Ok u) e = let z : ◌≡◌ {A = ℕ} 0 1 = cc in absurd (omega arith)
same_cart c d n k (Err Elsewhere) e = ap (λ (v : Verdict). (code_of v).first) e
same_cart c d n k (Err (Shut s)) e = ap (λ (v : Verdict). (code_of v).first) e

module _ (floor : List ℕ) (p : PlanNumbers) where
  -- cart c's row is not refused
  abbrev pub Passes : ℕ → Type 0
  Passes c = row_verdict floor p c ≡ Accepted

  -- of n carts from cart 0 on
  abbrev carts : ℕ → Verdict
  carts n = judged_carts floor p n 0

  pub each_passes : (n : ℕ) → carts n ≡ Accepted → (c : ℕ) → c < n → Passes c
  unfolding judged_carts
  each_passes n e c l =
      accepted_is _ (all_pass (row_accepted floor p) (row_verdict floor p) (λ end. Accepted) n 0
      (λ k f u. let z : true ≡ false = sym (ap is_accepted u) ∙ f in let y : ◌≡◌ {A = ℕ} 0 1 = cc in absurd (omega arith)) e c (omega arith) (omega arith))

  pub none_refused : (n : ℕ) → ((c : ℕ) → c < n → Passes c) → carts n ≡ Accepted
  unfolding judged_carts
  none_refused n f =
      none_fails (row_accepted floor p) (row_verdict floor p) (λ end. Accepted) n 0 (λ c k l. ap is_accepted (f c (omega arith)))

  first_of : (n : ℕ) → is_accepted (carts n) ≡ false → FirstAnswer (row_accepted floor p) (row_verdict floor p) (λ end. Accepted) 0 (0 + n) (carts n)
  unfolding judged_carts
  first_of n e =
      first_fault_lem (row_accepted floor p) (row_verdict floor p) (λ end. Accepted) n 0
      (λ u. let z : true ≡ false = sym (ap is_accepted u) ∙ e in let y : ◌≡◌ {A = ℕ} 0 1 = cc in absurd (omega arith))

  module _ (some : p.head.stem < p.head.steps) where
    cart_unending : (c : ℕ) → Passes c → CartUnending floor p c
    cart_unending c e = unending _ _ _ _ _ (start_of floor c) some (only_open c _ e)

    pub cart_accepted : (c : ℕ) → CartUnending floor p c → Passes c
    cart_accepted c u = ap (verdict_of c) (accepts_all _ _ _ _ _ (start_of floor c) some u)

    module _ (f : Floor) where
      pub all_unending : moves_verdict floor f p ≡ Accepted → AllUnending floor f p
      all_unending e c l = cart_unending c (each_passes f.carts e c l)

      pub all_accepted : AllUnending floor f p → moves_verdict floor f p ≡ Accepted
      all_accepted u = none_refused f.carts (λ c l. cart_accepted c (u c l))

      first_refused : is_accepted (moves_verdict floor f p) ≡ false → FirstRefused floor f p (moves_verdict floor f p)
      first_refused e =
          let w = first_of f.carts e in
          record {
            cart = w.at;
            there = omega (arith, w.first.below);
            refused = sym w.is;
            before = λ c l. cart_unending c
                (accepted_is _ (w.first.before c (omega arith) l));
            away = λ q. refused_start _ _ _ _ _ (start_of floor w.at)
                (only_elsewhere w.at _ (sym w.is ∙ q));
            lowest = λ k q. (refused_step _ _ _ _ _ (start_of floor w.at) k
                (only_shut w.at k _ (sym w.is ∙ q))).1;
          }

stem_low : (f : Floor) (plan : List ℕ) (n : PlanNumbers) → read_plan f plan ≡ accepted n → n.head.stem < n.head.steps
stem_low f plan n e = (valid f plan n e).head.stem

-- with floor and plan read, the moves decide
pub moves_read : (floor plan : List ℕ) (f : Floor) (p : PlanNumbers) → ReadAs floor plan f p → checked_moves floor plan ≡ moves_verdict floor f p
unfolding checked_moves
moves_read floor plan f p w = read_on_lem told (moves_verdict floor) floor plan f p w

pub sound : (floor plan : List ℕ) → checked_moves floor plan ≡ Accepted → Moving floor plan
unfolding checked_moves
sound floor plan e = go (reading_cases told (moves_verdict floor) floor plan)
  where
    go : ReadingCases told (moves_verdict floor) floor plan → Moving floor plan
    go (floor_refused x q) = let z : ◌≡◌ {A = ℕ} 0 1 = cc in absurd (omega arith)
    go (plan_refused x q) = let z : ◌≡◌ {A = ℕ} 0 1 = cc in absurd (omega arith)
    go (both_read f n w r) = record {
      floor_is = f;
      numbers = n;
      read = w;
      unending = all_unending floor n (stem_low f plan n w.plan_read_lem) f (sym r ∙ e);
    }

pub complete : (floor plan : List ℕ) → Moving floor plan → checked_moves floor plan ≡ Accepted
complete floor plan m =
    moves_read floor plan m.floor_is m.numbers m.read
    ∙ all_accepted floor m.numbers (stem_low m.floor_is plan m.numbers m.read.plan_read_lem) m.floor_is m.unending

first : (floor plan : List ℕ) (f : Floor) (p : PlanNumbers) → ReadAs floor plan f p → is_accepted (checked_moves floor plan) ≡ false
    → FirstRefused floor f p (checked_moves floor plan)
first floor plan f p w e =
    let q = moves_read floor plan f p w in
    subst (FirstRefused floor f p) (sym q) (first_refused floor p (stem_low f plan p w.plan_read_lem) f (ap is_accepted (sym q) ∙ e))

pub promise : (floor plan : List ℕ) (v : Verdict) → v ≡ checked_moves floor plan → MovesChecked floor plan v
promise floor plan v e = record {
  answer = e;
  numbers = subst (Given checking_moves) (sym e) (moves_given floor plan);
  sound = λ a. sound floor plan (sym e ∙ a);
  complete = λ m. e ∙ complete floor plan m;
  first = λ f p w a. subst (FirstRefused floor f p) (sym e) (first floor plan f p w (ap is_accepted (sym e) ∙ a));
}
