-- What each level of the cycle gives, in the terms of inner text or a clause.
use Prim.Native.Nat.{ℕ, suc, ◌+◌, ◌-◌, ◌≤◌, ◌<◌}
use native.Mathlib.Omega.{arith}
use mathlib.Core.Path.{◌≡◌, refl, sym, ap, subst, ◌∙◌}
use mathlib.Core.Bool.{Bool, true, false}
use mathlib.Core.List.{List, [], ◌∷◌}
use lib.ListN.{length, get_or, drop, drop_of_length-le}
use lib.Seq.{drop-cons}
use Rattle.std.specs.Prelude.{None, Some, Result, Ok, Err, IfOk}
use Rattle.grammar.specs.Grammar.{Form}
use Rattle.grammar.specs.Limits.{mark_nodes, count_nodes}
use Rattle.grammar.specs.Nodes.{top_n, mark_n, flat_mark, flat_count}
use Rattle.grammar.specs.Reader.{Got, got, bind, skip, marks, smalls, untils, ors}
use Rattle.token.specs.Block.{unary_byte, binary_byte}
use Rattle.token.specs.Counted.{text_handed_on}
use Rattle.token.specs.Counts.{CountEnds, count_got}
use Rattle.token.specs.Joined.{part_length}
use Rattle.token.specs.Leaves.{LeafIs, Expected, ExpectedIfRead, word_got}
use Rattle.token.specs.More.{WithNode, WithNodeIfRead}
use Rattle.token.specs.Operator.{Reaches}
use Rattle.token.specs.Parts.{PartIs}
use Rattle.sheet.specs.LeafParts.{mark_part, no_count, count_shut, count_spent, count_is}
use Rattle.sheet.specs.Ranks.{LeafOf, LeafReads, leaf_nodes, leaf_flat, leaf_reader}
use Rattle.sheet.specs.Reached.{until_refused, until_ended, until_shut, until_spent, until_broken, until_joined}
use Rattle.sheet.specs.Room.{flat_size, room, refused_part, part_inside}
use Rattle.sheet.specs.Small.{prefix_kind, prefix_of, other_byte, nothing, leaf_is, paren_shut, paren_refused, paren_closed, prefix_shut, prefix_spent, prefix_refused, prefix_over, word_is}
use Rattle.token.specs.declared.Unary.{Unary}
use Rattle.token.specs.declared.Part.{Part}
use Rattle.token.specs.declared.Fault.{Fault}
use Rattle.token.specs.declared.ReachAt.{ReachAt}

module _ (inner : Bool) (s : List ℕ) (level at n left : ℕ) (before : List ℕ) where
  abbrev P : Result Part Fault → List ℕ → Got (Form (LeafOf inner)) → Type 0
  P r after g = PartIs (leaf_nodes inner) (leaf_flat inner) s n left before r after g

  -- a smallest part, by the first byte behind spaces
  abbrev Small : Result Part Fault → List ℕ → Type 0
  Small r after = P r after (smalls (leaf_reader inner) level left (drop at s))

  module _ (i : ℕ) (is : drop i s ≡ skip (drop at s)) where
    pub small_nothing : length s ≤ i → i ≤ length s → (f : Fault) → f ≡ record { number = 13; at = i } → Small (Err f) before
    small_nothing out l f e =
        refused_part inner s n left before f before 13 i _ e (λ z. omega arith) l refl
        (nothing (leaf_nodes inner) (leaf_flat inner) (flat_size inner) (leaf_reader inner) s n left before level (drop at s) i is
        (drop_of_length-le s {i = i} out))

    module _ (low : i < length s) where
      abbrev b : ℕ
      b = get_or s i 0

      here : drop i s ≡ b ∷ drop (suc i) s
      here = drop-cons s i 0 low

      next : i + 1 ≡ suc i
      next = omega arith

      pub small_word : b ≡ 116 → (r : Result Part Fault) (after : List ℕ) → LeafIs (λ (u : Unit {0}). top_n) s n left before r after (word_got s left i)
          → Small r after
      small_word e r after h =
          word_is (leaf_nodes inner) (leaf_flat inner) (flat_size inner) (leaf_reader inner) s n left before level (drop at s) i is b here e r after h

      pub small_shut : b ≡ 40 → level ≡ 0 → (f : Fault) → f ≡ record { number = 14; at = i } → Small (Err f) before
      small_shut e z f q =
          refused_part inner s n left before f before 14 i _ q (λ z. omega arith) (omega arith) refl
          (paren_shut (leaf_nodes inner) (leaf_flat inner) (flat_size inner) (leaf_reader inner) s n left before level (drop at s) i is b here e z)

      -- what stands in parentheses
      module _ (e : b ≡ 40) (deep : level ≡ 0 → ⊥) where
        abbrev Inside : Result Part Fault → List ℕ → ℕ → Type 0
        Inside r after j = P r after (ors (leaf_reader inner) (level - 1) left (drop j s))

        pub small_broken : (f : Fault) (after : List ℕ) → Inside (Err f) after (i + 1) → Small (Err f) after
        small_broken f after h =
            paren_refused (leaf_nodes inner) (leaf_flat inner) (flat_size inner) (leaf_reader inner) s n left before level (drop at s) i is b here e
            (level - 1) (omega (arith, deep)) f after (subst (Inside (Err f) after) next h)

        pub small_closed : length before ≡ 512 → n + left ≤ 128 → (r : Part) (after : List ℕ) → Inside (Ok r) after (i + 1)
            → (q : Result Part Fault) → Expected s r 41 q → Small q after
        small_closed long few r after h q w =
            paren_closed (leaf_nodes inner) (leaf_flat inner) (flat_size inner) (leaf_reader inner) s n left before level (drop at s) i is b here e
            (level - 1) (omega (arith, deep)) r after (subst (Inside (Ok r) after) next h)
            (part_length (leaf_nodes inner) (leaf_flat inner) (flat_size inner) s n left before (Ok r) after
            (ors (leaf_reader inner) (level - 1) left (drop (i + 1) s)) h long few) q w

        pub small_paren : length before ≡ 512 → n + left ≤ 128 → (r : Result Part Fault) (after : List ℕ) → Inside r after (i + 1)
            → (q : Result Part Fault) → ExpectedIfRead s r 41 q → Small q after
        small_paren long few (Ok r) after h q w = small_closed long few r after h q w
        small_paren long few (Err f) after h q w = subst (λ (x : Result Part Fault). Small x after) (sym w) (small_broken f after h)

      pub small_leaf : (b ≡ 116 → ⊥) → (b ≡ 40 → ⊥) → None ≡ prefix_kind b → (r : Result Part Fault) (after : List ℕ)
          → LeafReads inner level s i n left before r after → Small r after
      small_leaf t p k r after h =
          subst (P r after)
          (sym (leaf_is (leaf_nodes inner) (leaf_flat inner) (flat_size inner) (leaf_reader inner) s n left before level (drop at s) i is b here
          (other_byte b t p (sym k)))) h

      -- a prefix operator
      module _ (k : Unary) (o : Some k ≡ prefix_kind b) where
        pub small_no_level : level ≡ 0 → (f : Fault) → f ≡ record { number = 14; at = i } → Small (Err f) before
        small_no_level z f q =
            let p = prefix_of b k (sym o) in
            refused_part inner s n left before f before 14 i _ q (λ z. omega arith) (omega arith) refl
            (prefix_shut (leaf_nodes inner) (leaf_flat inner) (flat_size inner) (leaf_reader inner) s n left before level (drop at s) i is b here
            p.operator p.byte z)

        module _ (deep : level ≡ 0 → ⊥) where
          pub small_no_node : left ≡ 0 → (f : Fault) → f ≡ record { number = 14; at = i } → Small (Err f) before
          small_no_node z f q =
              let p = prefix_of b k (sym o) in
              refused_part inner s n left before f before 14 i _ q (λ z. omega arith) (omega arith) refl
              (prefix_spent (leaf_nodes inner) (leaf_flat inner) (flat_size inner) (leaf_reader inner) s n left before level (drop at s) i is b here
              p.operator p.byte (level - 1) (omega (arith, deep)) z)

          module _ (some : left ≡ 0 → ⊥) where
            abbrev Operand : Result Part Fault → List ℕ → ℕ → Type 0
            Operand r after j =
                PartIs (leaf_nodes inner) (leaf_flat inner) s n (left - 1) before r after (smalls (leaf_reader inner) (level - 1) (left - 1) (drop j s))

            pub operand_refused : (f : Fault) (mid : List ℕ) → Operand (Err f) mid (i + 1) → Small (Err f) mid
            operand_refused f mid h =
                let p = prefix_of b k (sym o) in
                prefix_refused (leaf_nodes inner) (leaf_flat inner) (flat_size inner) (leaf_reader inner) s n left before level (drop at s) i is b here
                p.operator p.byte (level - 1) (omega (arith, deep)) (left - 1) (omega (arith, some)) f mid (subst (Operand (Err f) mid) next h)

            pub operand_read : length before ≡ 512 → n + left ≤ 128 → (r : Part) (mid : List ℕ) → Operand (Ok r) mid (i + 1) → (q : Part) (after : List ℕ)
                → WithNode mid r (unary_byte k ∷ (r.n - 1) ∷ 0 ∷ 0 ∷ []) q after → Small (Ok q) after
            operand_read long few r mid h q after put =
                let p = prefix_of b k (sym o) in
                prefix_over (leaf_nodes inner) (leaf_flat inner) (flat_size inner) (leaf_reader inner) s n left before level (drop at s) i is b here
                p.operator p.byte (level - 1) (omega (arith, deep)) (left - 1) (omega (arith, some)) long few r mid (subst (Operand (Ok r) mid) next h) q after
                (subst (λ (j : ℕ). WithNode mid r (j ∷ (r.n - 1) ∷ 0 ∷ 0 ∷ []) q after) p.node put)

            -- by what the function that puts the operator's node gives
            pub operand_with : length before ≡ 512 → n + left ≤ 128 → (r : Result Part Fault) (mid : List ℕ) → Operand r mid (i + 1)
                → (j : ℕ) → j ≡ unary_byte k → (q : Result Part Fault) (after : List ℕ)
                → WithNodeIfRead mid r (λ p. j ∷ (p.n - 1) ∷ 0 ∷ 0 ∷ []) q after → Small q after
            operand_with long few (Ok r) mid h j e (Ok q) after put =
                operand_read long few r mid h q after (subst (λ (x : ℕ). WithNode mid r (x ∷ (r.n - 1) ∷ 0 ∷ 0 ∷ []) q after) e put)
            operand_with long few (Ok r) mid h j e (Err f) after put = absurd put
            operand_with long few (Err f) mid h j e q after put =
                subst (λ (x : Result Part Fault). Small x after) (sym put.0) (subst (Small (Err f)) (sym put.1) (operand_refused f mid h))

  -- an until-chain, by its smallest part
  abbrev Until : Result Part Fault → List ℕ → Type 0
  Until r after = P r after (untils (leaf_reader inner) level left (drop at s))

  pub first_broken : (f : Fault) (block : List ℕ) → Small (Err f) block → Until (Err f) block
  first_broken f block h =
      until_refused (leaf_nodes inner) (leaf_flat inner) (flat_size inner) (leaf_reader inner) s n left before block (drop at s) level f h

  module _ (r : Part) (block : List ℕ) (h : Small (Ok r) block) where
    pub until_alone : Reaches s r.at None → Until (Ok r) block
    until_alone o =
        until_ended (leaf_nodes inner) (leaf_flat inner) (flat_size inner) (leaf_reader inner) s n left before block (drop at s) r level h o.0 o.1

    module _ (long : length before ≡ 512) (few : n + left ≤ 128) (k : ReachAt) (w : Reaches s r.at (Some k)) where
      size : length block ≡ length before
      size =
          part_length (leaf_nodes inner) (leaf_flat inner) (flat_size inner) s n left before (Ok r) block (smalls (leaf_reader inner) level left (drop at s))
          h long few

      inside : k.at ≤ length s
      inside = let l = w.1.inside in omega arith

      pub until_no_level : level ≡ 0 → (f : Fault) → f ≡ record { number = 14; at = k.at } → Until (Err f) block
      until_no_level z f q =
          refused_part inner s n left before f block 14 k.at _ q (λ z. omega arith) inside size
          (until_shut (leaf_nodes inner) (leaf_flat inner) (flat_size inner) (leaf_reader inner) s n left before block (drop at s) r level h w.0 k.at w.1 z)

      module _ (deep : level ≡ 0 → ⊥) where
        pub until_no_node : r.left ≡ 0 → (f : Fault) → f ≡ record { number = 14; at = k.at } → Until (Err f) block
        until_no_node z f q =
            refused_part inner s n left before f block 14 k.at _ q (λ z. omega arith) inside size
            (until_spent (leaf_nodes inner) (leaf_flat inner) (flat_size inner) (leaf_reader inner) s n left before block (drop at s) r level h w.0 k.at w.1
            (level - 1) (omega (arith, deep)) z)

        module _ (some : r.left ≡ 0 → ⊥) (late : List ℕ) where
          abbrev Rest : Result Part Fault → ℕ → Type 0
          Rest p j =
              PartIs (leaf_nodes inner) (leaf_flat inner) s r.n (r.left - 1) block p late (untils (leaf_reader inner) (level - 1) (r.left - 1) (drop j s))

          next_at : k.at + 1 ≡ suc k.at
          next_at = omega arith

          pub rest_refused : (f : Fault) → Rest (Err f) (k.at + 1) → Until (Err f) late
          rest_refused f next =
              until_broken (leaf_nodes inner) (leaf_flat inner) (flat_size inner) (leaf_reader inner) s n left before block (drop at s) r level h w.0 k.at w.1
              (level - 1) (omega (arith, deep)) (r.left - 1) (omega (arith, some)) late f (subst (Rest (Err f)) next_at next) size

          pub rest_read : (p : Part) → Rest (Ok p) (k.at + 1) → (q : Part) (after : List ℕ)
              → WithNode late p (binary_byte k.operator ∷ (r.n - 1) ∷ (p.n - 1) ∷ 0 ∷ []) q after → Until (Ok q) after
          rest_read p next q after put =
              until_joined (leaf_nodes inner) (leaf_flat inner) (flat_size inner) (leaf_reader inner) s n left before block (drop at s) r level h w.0 k.at w.1
              (level - 1) (omega (arith, deep)) (r.left - 1) (omega (arith, some)) late long few p (subst (Rest (Ok p)) next_at next) q after
              (subst (λ (j : ℕ). WithNode late p (j ∷ (r.n - 1) ∷ (p.n - 1) ∷ 0 ∷ []) q after) w.2 put)

          pub rest_with : (p : Result Part Fault) → Rest p (k.at + 1) → (j : ℕ) → j ≡ binary_byte k.operator → (q : Result Part Fault) (after : List ℕ)
              → WithNodeIfRead late p (λ x. j ∷ (r.n - 1) ∷ (x.n - 1) ∷ 0 ∷ []) q after → Until q after
          rest_with (Ok p) more j e (Ok q) after put =
              rest_read p more q after (subst (λ (x : ℕ). WithNode late p (x ∷ (r.n - 1) ∷ (p.n - 1) ∷ 0 ∷ []) q after) e put)
          rest_with (Ok p) more j e (Err f) after put = absurd put
          rest_with (Err f) more j e q after put =
              subst (λ (x : Result Part Fault). Until x after) (sym put.0) (subst (Until (Err f)) (sym put.1) (rest_refused f more))

-- a leaf at its first byte: in inner text a mark, in a clause a count
module _ (inner : Bool) (s : List ℕ) (level i n left : ℕ) (before : List ℕ) where
  pub leaf_mark : inner ≡ true → (r : Result Part Fault) (after : List ℕ) → LeafIs mark_n s n left before r after (marks left (drop i s))
      → LeafReads inner level s i n left before r after
  leaf_mark e r after h =
      subst (λ (b : Bool). LeafReads b level s i n left before r after) (sym e) (mark_part s n left before r after (marks left (drop i s)) h)

  module _ (e : inner ≡ false) (low : i < length s) where
    abbrev Leaf : Result Part Fault → List ℕ → Type 0
    Leaf r after = LeafReads inner level s i n left before r after

    of_clause : (r : Result Part Fault) (after : List ℕ) → LeafReads false level s i n left before r after → Leaf r after
    of_clause r after h = subst (λ (b : Bool). LeafReads b level s i n left before r after) (sym e) h

    pub leaf_none : (get_or s i 0 ≡ 91 → ⊥) → (f : Fault) → f ≡ record { number = 13; at = i } → Leaf (Err f) before
    leaf_none x f q =
        of_clause (Err f) before
        (refused_part false s n left before f before 13 i _ q (λ z. omega arith) (omega arith) refl (no_count s level left i low x))

    module _ (x : get_or s i 0 ≡ 91) where
      pub leaf_no_level : level ≡ 0 → (f : Fault) → f ≡ record { number = 14; at = i } → Leaf (Err f) before
      leaf_no_level z f q =
          of_clause (Err f) before
          (refused_part false s n left before f before 14 i _ q (λ z. omega arith) (omega arith) refl (count_shut s level left i low x z))

      module _ (deep : level ≡ 0 → ⊥) where
        pub leaf_no_node : left ≡ 0 → (f : Fault) → f ≡ record { number = 14; at = i } → Leaf (Err f) before
        leaf_no_node z f q =
            of_clause (Err f) before
            (refused_part false s n left before f before 14 i _ q (λ z. omega arith) (omega arith) refl
            (count_spent s level left i low x (level - 1) (omega (arith, deep)) z))

        module _ (some : left ≡ 0 → ⊥) where
          abbrev Text : Result Part Fault → List ℕ → Type 0
          Text r block = PartIs mark_nodes flat_mark s n (left - 1) before r block (ors (λ j. marks) (level - 1) (left - 1) (drop (i + 1) s))

          same : count_got (ors (λ j. marks) (level - 1) (left - 1) (drop (i + 1) s))
              ≡ bind (leaf_reader false level left (drop i s)) (λ x m r. got (Form.leaf x) m r)
          same =
              let q : i + 1 ≡ suc i = omega arith in
              ap (λ (j : ℕ). count_got (ors (λ j. marks) (level - 1) (left - 1) (drop j s))) q
              ∙ sym (count_is s level left i low x (level - 1) (omega (arith, deep)) (left - 1) (omega (arith, some)))

          -- where the text ends and its nodes, if it was read
          pub text_fits : n + left ≤ 128 → (r : Result Part Fault) (block : List ℕ) → Text r block → IfOk r (λ p. (p.at ≤ length s) × (0 < p.n) × (p.n < 128))
          text_fits few (Ok r) block h =
              let g = ors (λ j. marks) (level - 1) (left - 1) (drop (i + 1) s) in
              let o = room true s n (left - 1) before r block g h in
              (part_inside true s n (left - 1) before (Ok r) block g h, o.some, omega (arith, o.kept, some, few))
          text_fits few (Err f) block h = tt

          -- refused text refuses the count, whatever length and room the block has
          pub text_refused : (f : Fault) (block : List ℕ) → Text (Err f) block → Leaf (Err f) block
          text_refused f block h =
              of_clause (Err f) block
              (subst (PartIs count_nodes flat_count s n left before (Err f) block) same
              (text_handed_on s n (left - 1) left before f block (ors (λ j. marks) (level - 1) (left - 1) (drop (i + 1) s)) h))

          pub text_read : length before ≡ 512 → n + left ≤ 128 → (r : Result Part Fault) (block : List ℕ) → Text r block
              → (q : Result Part Fault) (after : List ℕ) → CountEnds s r block q after → Leaf q after
          text_read long few r block h q after ends =
              let one : suc (left - 1) ≡ left = omega (arith, some) in
              let g = ors (λ j. marks) (level - 1) (left - 1) (drop (i + 1) s) in
              of_clause q after
              (subst (PartIs count_nodes flat_count s n left before q after) same
              (subst (λ (m : ℕ). PartIs count_nodes flat_count s n m before q after (count_got g)) one
              (ends n (left - 1) before g h long (omega (arith, some, few)))))
