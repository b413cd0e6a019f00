-- Inner text on a row is decided exactly.
use Rattle.std.specs.Prelude.{ℕ, ◌<◌, ◌≡◌, Bool, not, T}
use Rattle.std.proofs.Math.Path.{refl, sym}
use Rattle.std.proofs.Math.Bool.{true, false, not-not}
use Rattle.std.proofs.Math.Dec.{T_not}
use Rattle.grammar.specs.Grammar.{Inner}
use Rattle.row.specs.Lasso.{step_of}
use Rattle.cltl.specs.Meaning.{Rows, Proper, Bears, Satisfies}
use Rattle.cltl.specs.Rules.{mark, inner}
use Rattle.cltl.specs.Broken.{Val}
use Rattle.cltl.proofs.Operators.{dual, exact_sound, exact_complete}

module _ (P : Rows) (proper : Proper P) where
  mark_sound : (i : ℕ) (p : Bool) (k t : ℕ) → T (mark P i p k (step_of P.h P.l t)) → Val p (Bears P i k t)
  unfolding mark
  mark_sound i true k t x = x
  mark_sound i false k t x = T_not (P.bears i (step_of P.h P.l t) k) x

  mark_opp : (i : ℕ) (p : Bool) (k s : ℕ) → s < P.h → mark P i (not p) k s ≡ not (mark P i p k s)
  unfolding mark
  mark_opp i true k s q = refl
  mark_opp i false k s q = sym (not-not (P.bears i s k))

  pub inner_sound : (i : ℕ) (p : Bool) (a : Inner) (v : ℕ) → T (inner P i p a (step_of P.h P.l v)) → Val p (Satisfies P i a v)
  unfolding inner
  inner_sound i p a v x = exact_sound P.h P.l proper.lap (mark P i) (Bears P i) (mark_sound i) (mark_opp i) p a v x

  pub inner_complete : (i : ℕ) (p : Bool) (a : Inner) (v : ℕ) → Val p (Satisfies P i a v) → T (inner P i p a (step_of P.h P.l v))
  unfolding inner
  inner_complete i p a v x = exact_complete P.h P.l proper.lap (mark P i) (Bears P i) (mark_sound i) (mark_opp i) p a v x

  pub inner_opp : (i : ℕ) (a : Inner) (s : ℕ) → s < P.h → inner P i false a s ≡ not (inner P i true a s)
  unfolding inner
  inner_opp i a s q = dual P.h P.l proper.lap (mark P i) (mark_opp i) true a s q
