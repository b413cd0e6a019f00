-- Records written one after the other: what holds before each turn.
use Prim.Native.Nat.{ℕ, ◌+◌, ◌≤◌}
use native.Mathlib.Omega.{arith}
use mathlib.Core.Path.{◌≡◌, refl, sym, ap, ap₂, ◌∙◌}
use mathlib.Core.List.{List, [], ◌∷◌, ◌++◌, append_assoc, append-nil}
use lib.ListN.{length, length-append}
use Rattle.record.specs.Record.{Record, encoded, layout}
use Rattle.record.specs.Buffer.{stored}
use Rattle.record.specs.Stored.{stored_nothing, stored_more, length-stored}
use Rattle.record.specs.RoundTrip.{length-encoded}
use Rattle.record.specs.Laid.{layout_append}

-- all but the records that are left is written, up to offset `next`
pub record Putting (out₀ : List ℕ) (at : ℕ) (all : List Record) (out : List ℕ) (next : ℕ) (left : List Record) : Type 0 where
  pub done : List ℕ
  pub held : out ≡ stored out₀ at done
  pub far : next ≡ at + length done
  pub rest : done ++ layout left ≡ layout all

module _ (out₀ : List ℕ) (at : ℕ) (all : List Record) (room : at + length (layout all) ≤ length out₀) where
  pub begin : Putting out₀ at all out₀ at all
  begin = record { done = []; held = sym (stored_nothing out₀ at); far = omega arith; rest = refl }

  -- further bytes, with which those of the records that are left begin
  module _ (out : List ℕ) (next : ℕ) (front : List ℕ) (left behind : List Record) (e : layout left ≡ front ++ layout behind)
      (w : Putting out₀ at all out next left) where
    through : (w.done ++ front) ++ layout behind ≡ layout all
    through = append_assoc w.done front (layout behind) ∙ ap (λ (x : List ℕ). w.done ++ x) (sym e) ∙ w.rest

    length-done : length w.done + length front ≤ length (layout all)
    length-done =
        let a = sym (ap length through) ∙ length-append (w.done ++ front) (layout behind) in
        omega (arith, length-append w.done front)

    pub front_fits : next + length front ≤ length out
    front_fits =
        let a = length-done in
        let s : length out ≡ length out₀ = ap length w.held ∙ length-stored out₀ at w.done (omega arith) in
        omega (arith, w.far)

    pub front_put : (out' : List ℕ) (next' : ℕ) → next' ≡ next + length front → out' ≡ stored out next front → Putting out₀ at all out' next' behind
    front_put out' next' n q =
        let a = length-done in
        record {
          done = w.done ++ front;
          held = q ∙ ap₂ (λ (x : List ℕ) (k : ℕ). stored x k front) w.held w.far ∙ stored_more out₀ at w.done front (omega arith);
          far = omega (arith, w.far, length-append w.done front);
          rest = through;
        }

  -- records of some kind: those that stand in front of the others
  module _ (out : List ℕ) (next : ℕ) (rs behind : List Record) (w : Putting out₀ at all out next (rs ++ behind)) where
    pub all_fit : next + length (layout rs) ≤ length out
    all_fit = front_fits out next (layout rs) (rs ++ behind) behind (layout_append rs behind) w

    pub all_put : (out' : List ℕ) (next' : ℕ) → next' ≡ next + length (layout rs) → out' ≡ stored out next (layout rs) → Putting out₀ at all out' next' behind
    all_put = front_put out next (layout rs) (rs ++ behind) behind (layout_append rs behind) w

  -- and one record
  module _ (out : List ℕ) (next : ℕ) (r : Record) (behind : List Record) (w : Putting out₀ at all out next (r ∷ behind)) where
    begins : layout (r ∷ behind) ≡ encoded r ++ layout behind
    unfolding layout
    begins = refl

    pub fits : next + 4 + length r.body ≤ length out
    fits = omega (arith, front_fits out next (encoded r) (r ∷ behind) behind begins w, length-encoded r)

    pub again : (out' : List ℕ) (next' : ℕ) → next' ≡ next + (4 + length r.body) → out' ≡ stored out next (encoded r) → Putting out₀ at all out' next' behind
    again out' next' n q = front_put out next (encoded r) (r ∷ behind) behind begins w out' next' (omega (arith, n, length-encoded r)) q

  -- where none is left, everything is written
  pub finish : (out : List ℕ) (next : ℕ) → Putting out₀ at all out next [] → (next ≡ at + length (layout all)) × (out ≡ stored out₀ at (layout all))
  unfolding layout
  finish out next w =
      let d : w.done ≡ layout all = sym (append-nil w.done) ∙ w.rest in
      (w.far ∙ ap (λ (x : List ℕ). at + length x) d, w.held ∙ ap (stored out₀ at) d)
