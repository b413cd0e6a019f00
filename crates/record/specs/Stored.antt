-- Bytes stored in a buffer: what the buffer holds then.
use Rattle.std.specs.Prelude.{ℕ, ◌+◌, ◌-◌, ◌≤◌, ◌≡◌}
use Rattle.std.proofs.Common.{arith, add-zero, zero-add, ◌∙◌, length-take, length-drop, take-append-drop, drop_of_length-le, take_all, take_at}
use Rattle.std.proofs.Math.Path.{sym, ap, ap₂}
use mathlib.Core.List.{List, [], ◌++◌, append_assoc, append-nil}
use Rattle.std.proofs.Math.ListN.{length, take, drop, length-append}
use Rattle.std.proofs.Math.Seq.{take-length, drop-drop, take-append-add, drop-append-add}
use Rattle.record.specs.Buffer.{stored}

-- nothing stored changes nothing
pub stored_nothing : (out : List ℕ) (at : ℕ) → stored out at [] ≡ out
stored_nothing out at = ap (λ (k : ℕ). take at out ++ drop k out) (add-zero at) ∙ take-append-drop at out

-- the length stays
pub length-stored : (out : List ℕ) (at : ℕ) (s : List ℕ) → at + length s ≤ length out → length (stored out at s) ≡ length out
length-stored out at s h = simp (length-append, length-take, length-drop) (omega arith)

-- from the start on, the buffer is the bytes and its own rest
pub stored_front : (out s : List ℕ) → stored out 0 s ≡ s ++ drop (length s) out
stored_front out s = ap (λ (k : ℕ). s ++ drop k out) (zero-add (length s))

-- bytes stored behind a part
pub stored_behind : (p q : List ℕ) (at : ℕ) (s : List ℕ) → stored (p ++ q) (length p + at) s ≡ p ++ stored q at s
stored_behind p q at s =
    let n : length p + at + length s ≡ length p + (at + length s) = omega arith in
    ap₂ (λ (x y : List ℕ). x ++ (s ++ y)) (take-append-add p q at) (ap (λ (k : ℕ). drop k (p ++ q)) n ∙ drop-append-add p q (at + length s))
    ∙ append_assoc p (take at q) (s ++ drop (at + length s) q)

-- bytes stored behind bytes just stored are stored with them
module _ (out : List ℕ) (at : ℕ) (s t : List ℕ) (h : at + length s ≤ length out) where
  head : List ℕ
  head = take at out ++ s

  tail : List ℕ
  tail = drop (at + length s) out

  seam : length head ≡ at + length s
  unfolding head
  seam = simp (length-append, length-take) (omega arith)

  split : stored out at s ≡ head ++ tail
  unfolding head tail
  split = sym (append_assoc (take at out) s (drop (at + length s) out))

  front : take (at + length s) (stored out at s) ≡ head
  front = ap (take (at + length s)) split ∙ take_at head tail (at + length s) seam

  back : drop (at + length s + length t) (stored out at s) ≡ drop (at + length (s ++ t)) out
  unfolding tail
  back =
      let n : at + length s + length t ≡ at + length (s ++ t) = omega (arith, length-append s t) in
      ap₂ drop (ap (λ (k : ℕ). k + length t) (sym seam)) split ∙ drop-append-add head tail (length t)
      ∙ drop-drop (length t) (at + length s) out ∙ ap (λ (k : ℕ). drop k out) n

  pub stored_more : stored (stored out at s) (at + length s) t ≡ stored out at (s ++ t)
  unfolding head
  stored_more =
      ap₂ (λ (x y : List ℕ). x ++ (t ++ y)) front back
      ∙ append_assoc (take at out) s (t ++ drop (at + length (s ++ t)) out)
      ∙ ap (λ (x : List ℕ). take at out ++ x) (sym (append_assoc s t (drop (at + length (s ++ t)) out)))

-- a part of the buffer from an offset to its end, with bytes copied to its front, in the buffer's place
pub stored_part : (out : List ℕ) (at : ℕ) (s : List ℕ) → at + length s ≤ length out
    → take at out ++ ((take (length s) s ++ drop (length s) (take (length out - at) (drop at out))) ++ drop (length out - at) (drop at out)) ≡ stored out at s
stored_part out at s h =
    let n = length-drop at out in
    let rest : take (length out - at) (drop at out) ≡ drop at out = take_all (length out - at) (drop at out) (omega arith) in
    let none : drop (length out - at) (drop at out) ≡ [] = drop_of_length-le (drop at out) {i = length out - at} (omega arith) in
    ap₂ (λ (x y : List ℕ). take at out ++ ((take (length s) s ++ drop (length s) x) ++ y)) rest none
    ∙ ap (λ (x : List ℕ). take at out ++ x) (append-nil (take (length s) s ++ drop (length s) (drop at out))
    ∙ ap₂ ◌++◌ (take-length s) (drop-drop (length s) at out))
