use Prim.Native.Nat.{ℕ, ◌+◌, ◌<◌}
use native.Mathlib.Omega.{arith}
use mathlib.Core.Path.{◌≡◌, sym, ap, ap₂, subst, ◌∙◌}
use mathlib.Core.List.{List}
use lib.ListN.{length}
use Rattle.std.specs.Prelude.{get_or, Result, Ok, Err}
use Rattle.std.specs.Result.{MatchResult, IsErrAnd}
use Rattle.std.proofs.Common.{rules}
use Rattle.std.proofs.lemmas.Result.{err_from_is_err_and}
use Rattle.refusal.specs.Results.{told, checked}
use Rattle.refusal.specs.declared.Refused.{Refused}
use Rattle.floor.specs.Numbers.{cart_at}
use Rattle.floor.specs.Promises.{AcceptedFloor}
use Rattle.floor.specs.declared.Floor.{Floor}
use Rattle.row.specs.declared.MoveFault.{MoveFault}
use Rattle.row.specs.Unending.{refused_step}
use Rattle.row.specs.Moves.{lanes_in, judged_moves}
use Rattle.row.proofs.FloorBytes.{file_length_lem}
use Rattle.moves.specs.CartBytes.{class_at, start_at, class_low}
use Rattle.moves.specs.Carts.{verdict_of, cart_answer}
use Rattle.moves.proofs.judge_cart_row.Goals as goal

-- by the bytes of the cart's class and start
judged_is : (s : List ℕ) (f : Floor) (w : AcceptedFloor s f) (c : ℕ) (l : c < f.carts) (at : ℕ) → at ≡ cart_at f c → (row : List ℕ) (stem : ℕ)
    (a : Result (Unit {0}) MoveFault)
    → a ≡ judged_moves (lanes_in s) (get_or s (at + 4) 0) (get_or s (at + 4 + 1) 0) row (length row) stem → a ≡ cart_answer s c row (length row) stem
judged_is s f w c l at e row stem a is =
    is ∙ sym (ap₂ (λ (x y : ℕ). judged_moves (lanes_in s) x y row (length row) stem) (class_at s f w c l at e) (start_at s f w c l at e))

-- what a refused move is told as
told_as : (c : ℕ) (W : MoveFault → Refused → Type 0) → ((e : MoveFault) (y : Refused) → W e y → told y ≡ verdict_of c (Err e))
    → (r : Result (Unit {0}) MoveFault) (x : Result (Unit {0}) Refused) → MatchResult r (λ v. x ≡ Ok v) (λ e. IsErrAnd x (W e)) → checked x ≡ verdict_of c r
told_as c W is (Ok v) x w = ap checked w
told_as c W is (Err e) x w = let p = err_from_is_err_and x w in ap checked p.1 ∙ is e p.0 p.2

pub bounds-lanes-at : goal.bounds-lanes-at
bounds-lanes-at c = let l = c.args.lanes.now in
    omega (arith, c.cart_at-at.ensures, file_length_lem _ _ l.accepted_floor, c.requires.0)

pub bounds-lanes-at-2 : goal.bounds-lanes-at-2
bounds-lanes-at-2 c = let l = c.args.lanes.now in
    omega (arith, c.cart_at-at.ensures, file_length_lem _ _ l.accepted_floor, c.requires.0)

pub judge_moves-requires-clause-class_bound : goal.judge_moves-requires-clause-class_bound
judge_moves-requires-clause-class_bound c = let l = c.args.lanes.now in
    subst (λ (x : ℕ). x < 8) (class_at l.floor.now l.counts l.accepted_floor c.args.c c.requires.0 _ c.cart_at-at.ensures)
    (class_low l.floor.now l.counts l.accepted_floor c.args.c c.requires.0)

pub map_err-requires : goal.map_err-requires
map_err-requires c = λ e q k v w f u. let a = c.args in
    let l = a.lanes.now in (
      omega (arith, c.requires.0, l.accepted_floor.valid.few_carts),
      λ s z. omega (
        arith,
        (refused_step (lanes_in l.floor.now) _ a.row.now (length a.row.now) a.stem _ s (sym c.judge_moves.ensures ∙ q ∙ ap Err z)).1.first.below,
        c.requires.2,
      ),
    )

pub returns : goal.returns
returns c = let a = c.args in
    let l = a.lanes.now in
    told_as a.c _ (λ e y p. search rules) _ _ c.map_err.ensures.cases
    ∙ ap (verdict_of a.c) (judged_is l.floor.now l.counts l.accepted_floor a.c c.requires.0 _ c.cart_at-at.ensures a.row.now a.stem _ c.judge_moves.ensures)
