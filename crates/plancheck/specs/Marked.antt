-- The tables of a plan's marks show what its rows bear, and the words of its groups their carts.
use Prim.Native.Nat.{ℕ, zero, suc, ◌*◌, ◌-◌, ◌^◌, ◌≤◌, ◌<◌}
use Rattle.std.proofs.Common.{arith, sym, ◌∙◌, ⊎_elim, pow_pos, get_or-take, get_or-drop}
use Rattle.std.specs.Prelude.{◌≡◌, Bool, List, get_or, drop, length}
use Rattle.std.proofs.Math.Path.{ap, fun_ext}
use Rattle.std.proofs.Math.ListN.{get_or-eq_default}
use Rattle.endian.specs.Little.{value}
use Rattle.floor.specs.Numbers.{numbers_of, place_at, body_at}
use Rattle.floor.specs.Promises.{AcceptedFloor}
use Rattle.floor.specs.declared.Floor.{Floor}
use Rattle.plan.specs.Plan.{place_on_step, held_numbers}
use Rattle.plan.specs.Read.{row_in}
use Rattle.plan.specs.declared.Head.{Head}
use Rattle.row.specs.Moves.{bit}
use Rattle.row.proofs.FloorBytes.{file_length_lem}
use Rattle.mask.specs.Mask.{on}
use Rattle.cltl.proofs.Basics.{lt_or_le}
use Rattle.table.specs.Table.{Stored}
use Rattle.table.specs.Layout.{Shown}
use Rattle.quorum.specs.Words.{Bits}
use Rattle.marks.specs.Bears.{marks_of, block_place, bearing, Placed, Borne, NoneFrom}
use Rattle.marks.specs.Tables.{Filled}
use Rattle.marks.specs.Unborne.{none_from}
use Rattle.marks.specs.Groups.{carts_word}
use Rattle.drift.specs.Lent.{who_of}
use Rattle.drift.specs.Answer.{rows_on}
use Rattle.plancheck.specs.Check.{marks_at, carts_at, plan_rows}

module _ (floor : List ℕ) (f : Floor) (w : AcceptedFloor floor f) (h : Head) (block : List ℕ)
    (places : (c s : ℕ) → c < f.carts → s < h.steps → place_on_step (held_numbers f.carts h block) c s < f.places) where
  -- a step of a row, in the block
  place_is : (i s : ℕ) → i < f.carts → s < h.steps → place_on_step (held_numbers f.carts h block) i s ≡ block_place block i s
  place_is i s p q =
      ap (λ (r : List ℕ). get_or r s 0) (row_in f.carts h.steps block i p) ∙ get_or-take h.steps (drop (64 * i) block) s 0 q ∙ get_or-drop (64 * i) block s 0

  -- every place of a row has its record on the floor
  pub placed : Placed floor block f.carts h.steps
  placed = record {
    row = λ i p. record {
      inside = λ s q. let n = file_length_lem floor f w in let e = place_is i s p q in let l = places i s p q in omega arith;
    };
  }

  bears_is : (i s k : ℕ) → i < f.carts → s < h.steps → bearing floor block i s k ≡ bit k (marks_at floor (place_on_step (held_numbers f.carts h block) i s))
  unfolding on marks_of
  bears_is i s k p q =
      let e = place_is i s p q in
      let l = places i s p q in
      ap (bit k) (ap (λ (j : ℕ). value (body_at 4 (place_at j) floor)) (sym e) ∙ w.place (place_on_step (held_numbers f.carts h block) i s) l)

  -- the places are the floor's, so that a mark without a table is borne by none of them
  pub unborne : (marks : ℕ) → Borne floor f.places marks → NoneFrom floor block f.carts h.steps marks
  unborne marks b =
      none_from floor block f.carts h.steps f.places marks (λ i s p q. let e = place_is i s p q in let l = places i s p q in omega arith) b

  -- what filled tables show is what the plan says
  pub shown : (marks : ℕ) (before after : List ℕ) → Filled floor block f.carts h.steps marks before after
      → Shown marks f.carts h.steps (plan_rows floor f (held_numbers f.carts h block)).bears after
  shown marks before after t i s k p q r = t.shown i s k p q r ∙ bears_is i s k p q

-- The words behind the bits of a table are the fleet's and the groups'.
module _ (floor : List ℕ) (f : Floor) (w : AcceptedFloor floor f) (before after : List ℕ) (size : length before ≡ 41)
    (t : Stored (λ o x. x ≡ carts_word (2 ^ f.carts - 1) floor o) 32 0 9 before after) where
  -- a group that the floor lacks has no cart
  no_group : (g : ℕ) → f.groups ≤ g → carts_at floor g ≡ 0
  no_group g p = get_or-eq_default (numbers_of floor).groups 0 (omega (arith, p, w.valid.groups))

  word_is : (o : ℕ) → who_of after o ≡ carts_word (2 ^ f.carts - 1) floor o
  word_is o = ⊎_elim (λ p. t.each o (omega arith) p) (λ p. behind o p) (lt_or_le o 9)
    where
      behind : (o : ℕ) → 9 ≤ o → who_of after o ≡ carts_word (2 ^ f.carts - 1) floor o
      behind zero p = absurd (omega arith)
      behind (suc g) p =
          get_or-eq_default after 0 (omega (arith, p, t.kept, size)) ∙ sym (no_group g (omega (arith, p, w.valid.few_groups)))

  -- they leave the bits as they are
  pub bits_kept : Bits before → Bits after
  bits_kept b = record { size = t.kept ∙ b.size; each = λ j p. t.below j (omega arith) ∙ b.each j p }

  pub fleet_word : who_of after 0 ≡ 2 ^ f.carts - 1
  fleet_word = word_is 0

  pub few_words : (o : ℕ) → who_of after o < 2 ^ f.carts
  few_words zero = omega (arith, fleet_word, pow_pos f.carts)
  few_words (suc g) =
      ⊎_elim (λ p. omega (arith, word_is (suc g), w.valid.group_there g p)) (λ p. omega (arith, word_is (suc g), no_group g p, pow_pos f.carts))
      (lt_or_le g f.groups)

  -- so the rows that clauses are judged on are the plan's
  pub rows_are : (h : Head) (block : List ℕ) → let p = held_numbers f.carts h block in
      rows_on f.carts h.steps h.stem (plan_rows floor f p).bears after ≡ plan_rows floor f p
  unfolding on
  rows_are h block =
      let p = held_numbers f.carts h block in
      ap (λ (m : ℕ → ℕ → Bool). record { carts = f.carts; h = h.steps; l = h.stem; bears = (plan_rows floor f p).bears; member = m })
      (fun_ext (λ g. fun_ext (λ i. ap (bit i) (word_is (suc g)))))
