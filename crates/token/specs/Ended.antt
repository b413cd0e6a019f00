-- A part up to behind the byte that has to follow it.
use Prim.Native.Nat.{ℕ}
use Rattle.std.proofs.Common.{arith, ◌∙◌, eq-eqb, ne_eqb}
use Rattle.std.specs.Prelude.{◌≡◌, Bool, Result, Ok, Err}
use Rattle.std.proofs.Math.Path.{refl, sym, ap, subst}
use mathlib.Core.List.{List, [], ◌∷◌}
use Rattle.std.proofs.Math.ListN.{length, drop}
use Rattle.grammar.specs.Grammar.{Form}
use Rattle.grammar.specs.Nodes.{Node}
use Rattle.grammar.specs.Reader.{Got, got, no, pick, bind, skip, expect_at, expect}
use Rattle.token.specs.Leaves.{PartRefused, Found, Missing, Expected, ExpectedIfRead}
use Rattle.token.specs.Parts.{PartIs}
use Rattle.token.specs.Joined.{stay}
use Rattle.token.specs.declared.Part.{Part}
use Rattle.token.specs.declared.Fault.{Fault}

-- what the definition expects, by what was found behind a part
module _ {A : Type 0} (x : A) (m : ℕ) (s : List ℕ) (r : Part) (t : List ℕ) (is : drop r.at s ≡ t) (c : ℕ) where
  pub expect_found : (q : Part) → Found s r c q → expect c x m t ≡ got x m (drop q.at s)
  unfolding expect expect_at
  expect_found q w =
      ap (expect_at c x m) (ap skip (sym is) ∙ w.there)
      ∙ ap (λ (b : Bool). pick b (got x m (drop q.at s)) (no 13 (c ∷ drop q.at s))) (eq-eqb c c refl)

  pub expect_missing : (f : Fault) → Missing s r c f → expect c x m t ≡ no 13 (drop f.at s)
  unfolding expect expect_at
  expect_missing f w = go (skip t) refl ∙ ap (no 13) (ap skip (sym is) ∙ sym w.behind)
    where
      go : (u : List ℕ) → skip t ≡ u → expect_at c x m u ≡ no 13 u
      go [] e = refl
      go (b ∷ u) e =
          let other : b ≡ c → ⊥ = λ z. w.none u (ap skip is ∙ e ∙ ap (λ (k : ℕ). k ∷ u) z) in
          ap (λ (y : Bool). pick y (got x m u) (no 13 (b ∷ u))) (ne_eqb b c other)

-- a refusal as 13
pub refused_13 : (s before : List ℕ) (r : Part) (c : ℕ) (f : Fault) (block : List ℕ) → Missing s r c f → length block ≡ length before
    → PartRefused s before f block 13 (drop f.at s)
refused_13 s before r c f block w long = record {
  number = w.number;
  some = λ x. let y : ◌≡◌ {A = ℕ} 13 0 = sym w.number ∙ x in omega arith;
  behind = refl;
  inside = w.inside;
  block = long;
}

pub ended_part : {L : Type 0} (leaf_nodes : L → ℕ) (leaf_flat : L → ℕ → List Node) (s : List ℕ) (n left : ℕ) (before : List ℕ) (r : Part) (block : List ℕ)
    (c : ℕ) (q : Result Part Fault) → Expected s r c q → (g : Got (Form L)) → PartIs leaf_nodes leaf_flat s n left before (Ok r) block g
    → length block ≡ length before
    → PartIs leaf_nodes leaf_flat s n left before q block (bind g (λ a m t. expect c a m t))
unfolding bind
ended_part leaf_nodes leaf_flat s n left before r block c q w (no v t) h long = absurd h
ended_part leaf_nodes leaf_flat s n left before r block c (Err f) w (got a m t) h long =
    subst (PartIs leaf_nodes leaf_flat s n left before (Err f) block) (sym (expect_missing a m s r t h.behind c f w)) (refused_13 s before r c f block w long)
ended_part leaf_nodes leaf_flat s n left before r block c (Ok q) w (got a m t) h long =
    subst (PartIs leaf_nodes leaf_flat s n left before (Ok q) block) (sym (expect_found a m s r t h.behind c q w))
    (record {
      behind = refl;
      inside = w.inside;
      allowed = w.allowed ∙ h.allowed;
      slots = w.slots ∙ h.slots;
      kept = omega (arith, w.allowed, w.slots, h.kept);
      block = h.block;
    })

-- a refused part stays refused
pub ended_if_read : {L : Type 0} (leaf_nodes : L → ℕ) (leaf_flat : L → ℕ → List Node) (s : List ℕ) (n left : ℕ) (before : List ℕ) (r : Result Part Fault)
    (block : List ℕ) (c : ℕ) (q : Result Part Fault) → ExpectedIfRead s r c q → (g : Got (Form L)) → PartIs leaf_nodes leaf_flat s n left before r block g
    → length block ≡ length before
    → PartIs leaf_nodes leaf_flat s n left before q block (bind g (λ a m t. expect c a m t))
ended_if_read leaf_nodes leaf_flat s n left before (Ok r) block c q w g h long = ended_part leaf_nodes leaf_flat s n left before r block c q w g h long
ended_if_read leaf_nodes leaf_flat s n left before (Err f) block c q w g h long =
    subst (λ (x : Result Part Fault). PartIs leaf_nodes leaf_flat s n left before x block (bind g (λ a m t. expect c a m t))) (sym w)
    (stay leaf_nodes leaf_flat leaf_nodes leaf_flat s n left n left before before f block g h refl (λ a m t. expect c a m t))
