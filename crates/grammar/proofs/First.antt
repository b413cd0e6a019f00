-- 14 is where the first token past a limit stands, or the first byte of the 33rd line.
use Rattle.std.specs.Prelude.{ℕ, zero, suc, ◌+◌, ◌-◌, ◌≤◌, ◌<◌, ◌≡◌, refl, ◌⊎◌, Bool, true, List, [], ◌∷◌, ◌++◌, length, take, drop, get_or, ltb}
use Rattle.std.proofs.Common.{ap, subst, sym, ◌∙◌, inl, inr, ⊎_elim, append_assoc, arith, length-drop}
use Rattle.std.proofs.Math.Seq.{take-length}
use Rattle.grammar.specs.Grammar.{Form, Spaces, none, space, Digits, end, digit, Number, nought, other, Percent, without, sign, Over, Group, ungrouped, grouped, Amount, AmountText, written, prefix_byte, reach_byte, Rank, Part, word, parens, prefix, one_small, reach, one_until, one_and, Mark, mark, Counted, Count, count, Clause, Sheet, done, line}
use Rattle.grammar.specs.Limits.{nodes, mark_nodes, count_nodes}
use Rattle.grammar.specs.Begun.{is_node, opens_level, Begun, on_by, after, begun, TooMany}
use Rattle.grammar.specs.Reader.{Got, lines, accepted, refused, outcome, start, read_sheet}
use Rattle.grammar.specs.Answers.{InSheet, Begins, Never, Token, Allowed, Large, PastLimit}
use Rattle.grammar.proofs.Ends.{token_in}
use Rattle.grammar.proofs.Each.{Each, gives, denies, either, never, is_digit_lem}
use Rattle.grammar.proofs.Sound.{nodes_prefix, nodes_reach}
use Rattle.grammar.proofs.Accepts.{Refusal, refusal, code_not, allowed_14, out_15}
use Rattle.grammar.proofs.Complete.{stuck_13, denied}
use Rattle.grammar.proofs.Tracks.{Quiet, quiet_digit, prefix_facts, reach_facts, Track, here, on, Hits, Stops, Begin, lines_tracked}

---- What is begun, along a derivation: the nodes are those that the limits count, and the lines those of the sheet.
spaces_after : {s r : List ℕ} (x : Begun) → Spaces s r → after x s ≡ after x r
spaces_after x none = refl
spaces_after x (space y) = spaces_after x y

digits_after : {v n : ℕ} {s r : List ℕ} (x : Begun) → Digits v s r n → after x s ≡ after x r
digits_after x end = refl
digits_after x (digit {b = b} {s = s} h k y) = ap (λ (z : Begun). after z s) ((quiet_digit b (is_digit_lem b h k)).same x) ∙ digits_after x y

number_after : {n : ℕ} {s r : List ℕ} (x : Begun) → Number s r n → after x s ≡ after x r
number_after x nought = refl
number_after x (other {b = b} {s = s} h k y) = ap (λ (z : Begun). after z s) ((quiet_digit b (is_digit_lem b (omega arith) k)).same x) ∙ digits_after x y

percent_after : {p : Bool} {s r : List ℕ} (x : Begun) → Percent s r p → after x s ≡ after x r
percent_after x without = refl
percent_after x sign = refl

group_after : {o : Over} {s r : List ℕ} (x : Begun) → Group s r o → after x s ≡ after x r
group_after x ungrouped = refl
group_after x (grouped {b = b} {r = r} y h k) = spaces_after x y ∙ ap (λ (z : Begun). after z r) ((quiet_digit b (is_digit_lem b h (omega arith))).same x)

amount_after : {a : Amount} {s r : List ℕ} (x : Begun) → AmountText s r a → after x s ≡ after x r
amount_after x (written n p o) = number_after x n ∙ percent_after x p ∙ group_after x o

record Adds (x : Begun) (s r : List ℕ) (n : ℕ) : Type 0 where
  to : Begun
  same : after x s ≡ after to r
  lines : to.lines ≡ x.lines
  nodes : to.nodes ≡ x.nodes + n

module _ {L : Type 0} (Leaf : List ℕ → List ℕ → L → Type 0) (leaf_nodes : L → ℕ)
    (leaf-adds : (s r : List ℕ) (y : L) → Leaf s r y → (x : Begun) → Adds x s r (leaf_nodes y)) where
  part_adds : {k : Rank} {s r : List ℕ} {a : Form L} → Part Leaf k s r a → (x : Begun) → Adds x s r (nodes leaf_nodes a)
  part_adds (word y) x = record { to = on_by 116 x; same = spaces_after x y; lines = refl; nodes = omega arith }
  part_adds (parens y p z) x =
      let u = part_adds p (on_by 40 x) in
      record { to = on_by 41 u.to; same = spaces_after x y ∙ u.same ∙ spaces_after u.to z; lines = u.lines; nodes = u.nodes }
  part_adds (prefix {s₁ = s₁} {a = a} o y p) x =
      let u = part_adds p (on_by (prefix_byte o) x) in
      let e = (prefix_facts o).4 x in
      record {
        to = u.to;
        same = spaces_after x y ∙ u.same;
        lines = u.lines ∙ ap (λ (z : Begun). z.lines) e;
        nodes = omega (arith, ap (λ (z : Begun). z.nodes) e, u.nodes, nodes_prefix leaf_nodes o a);
      }
  part_adds (Part.leaf {s = s} {r = r} {x = y} p) x = leaf-adds s r y p x
  part_adds (one_small p) x = part_adds p x
  part_adds (reach {a = a} {b = b} o p y q) x =
      let u = part_adds p x in
      let v = part_adds q (on_by (reach_byte o) u.to) in
      let e = (reach_facts o).4 u.to in
      record {
        to = v.to;
        same = u.same ∙ spaces_after u.to y ∙ v.same;
        lines = v.lines ∙ ap (λ (z : Begun). z.lines) e ∙ u.lines;
        nodes = omega (arith, ap (λ (z : Begun). z.nodes) e, u.nodes, v.nodes, nodes_reach leaf_nodes o a b);
      }
  part_adds (one_until p) x = part_adds p x
  part_adds (Part.and p y q) x =
      let u = part_adds p x in
      let v = part_adds q (on_by 38 u.to) in
      record { to = v.to; same = u.same ∙ spaces_after u.to y ∙ v.same; lines = v.lines ∙ u.lines; nodes = omega (arith, u.nodes, v.nodes) }
  part_adds (one_and p) x = part_adds p x
  part_adds (Part.or p y q) x =
      let u = part_adds p x in
      let v = part_adds q (on_by 124 u.to) in
      record { to = v.to; same = u.same ∙ spaces_after u.to y ∙ v.same; lines = v.lines ∙ u.lines; nodes = omega (arith, u.nodes, v.nodes) }

mark_adds : (s r : List ℕ) (k : ℕ) → Mark s r k → (x : Begun) → Adds x s r (mark_nodes k)
mark_adds s r k (mark y n) x = record { to = on_by 109 x; same = spaces_after x y ∙ number_after (on_by 109 x) n; lines = refl; nodes = omega arith }

count_adds : (s r : List ℕ) (y : Counted) → Count s r y → (x : Begun) → Adds x s r (count_nodes y)
count_adds s r y (count o p c d e g) x =
    let u = part_adds Mark mark_nodes mark_adds p (on_by 91 x) in
    let v : Begun = on_by 44 u.to in
    record {
      to = on_by 93 v;
      same = spaces_after x o ∙ u.same ∙ spaces_after u.to c ∙ spaces_after v d ∙ amount_after v e ∙ spaces_after v g;
      lines = u.lines;
      nodes = let k = u.nodes in omega arith;
    }

sheet_lines : {s : List ℕ} {cs : List Clause} → Sheet s cs → (x : Begun) → (after x s).lines ≡ x.lines + length cs
sheet_lines done x = omega arith
sheet_lines (line {r = r} p y rest) x =
    let u = part_adds Count count_nodes count_adds p x in
    let h = ap (λ (z : Begun). z.lines) (u.same ∙ spaces_after u.to y) in
    let k = sheet_lines rest (on_by 10 u.to) in
    let j = u.lines in
    omega arith

-- so a clause's bytes begin the nodes that the limit counts, and a sheet's its lines
pub begun-nodes : {s : List ℕ} {c : Clause} → Part Count Rank.ors s [] c → (begun s (length s)).nodes ≡ nodes count_nodes c
begun-nodes {s} p =
    let u = part_adds Count count_nodes count_adds p (Begin 0) in
    omega (arith, ap (λ (l : List ℕ). (after (Begin 0) l).nodes) (take-length s), ap (λ (z : Begun). z.nodes) u.same, u.nodes)

pub begun_lines : {s : List ℕ} {cs : List Clause} → Sheet s cs → (begun s (length s)).lines ≡ length cs
begun_lines {s} d = omega (arith, ap (λ (l : List ℕ). (after (Begin 0) l).lines) (take-length s), sheet_lines d (Begin 0))

---- Along a track, by offsets.
track_short : {x y : Begun} {s r : List ℕ} → Track x s r y → length r ≤ length s
track_short here = omega arith
track_short (on h k t) = let j = track_short t in omega arith

track_after : {x y : Begun} {s r : List ℕ} → Track x s r y → after x (take (length s - length r) s) ≡ y
track_after {s = s} here = let e : length s - length s ≡ 0 = omega arith in rw e
track_after {r = r} (on {s = s} h k t) =
    let j = track_short t in let e : suc (length s) - length r ≡ suc (length s - length r) = omega arith in rw e (track_after t)

track_drop : {x y : Begun} {s r : List ℕ} → Track x s r y → drop (length s - length r) s ≡ r
track_drop {s = s} here = let e : length s - length s ≡ 0 = omega arith in rw e
track_drop {r = r} (on {s = s} h k t) =
    let j = track_short t in let e : suc (length s) - length r ≡ suc (length s - length r) = omega arith in rw e (track_drop t)

-- before its end no limit is reached
track_free : {x y : Begun} {s r : List ℕ} → Track x s r y → (j : ℕ) → j < length s - length r
    → ((after x (take j s)).lines ≡ 32 → ⊥) × (TooMany (after x (take j s)) (get_or s j 0) → (t : List ℕ) → Token (drop j s) t → ⊥)
track_free here j h = absurd (omega arith)
track_free (on h k t) zero i = (h, k)
track_free (on h k t) (suc j) i = let z = track_short t in track_free t j (omega arith)

hits_at : (s : List ℕ) (k : ℕ) (y : Begun) → Hits y (drop k s) → (k < length s) × ((y.lines ≡ 32) ⊎ TooMany y (get_or s k 0))
hits_at [] zero y h = absurd h
hits_at [] (suc k) y h = absurd h
hits_at (b ∷ s) zero y h = (omega arith, h)
hits_at (b ∷ s) (suc k) y h = let z = hits_at s k y h in (omega (arith, z.0), z.1)

allowed_in : (s : List ℕ) (k : ℕ) (a : Allowed s k) → (k < length s) × (k < a.last)
allowed_in s k a =
    let h : length s - a.last < length s - k = simp length-drop at (token_in a.token) in
    (omega arith, omega arith)

-- the byte that a token begins with is a node or opens a level
loud : (b c : ℕ) → c ≡ b → is_node c ≡ true → Quiet b → ⊥
loud b c e h q = never (sym q.node ∙ ap is_node (sym e) ∙ h)

pub token_loud : {q t r : List ℕ} {b : ℕ} → Token q t → q ≡ b ∷ r → Quiet b → ⊥
token_loud {b = b} Token.word e q = loud b 116 (cc) refl q
token_loud {b = b} (Token.mark y) e q = loud b 109 (cc) refl q
token_loud {b = b} Token.paren e q = let z : 40 ≡ b = cc in never (sym q.level ∙ ap opens_level (sym z))
token_loud {b = b} Token.bracket e q = loud b 91 (cc) refl q
token_loud {b = b} (Token.prefix o) e q = loud b (prefix_byte o) (cc) (prefix_facts o).0 q
token_loud {b = b} (Token.reach o) e q = loud b (reach_byte o) (cc) (reach_facts o).0 q
token_loud {b = b} Token.and e q = loud b 38 (cc) refl q
token_loud {b = b} Token.or e q = loud b 124 (cc) refl q

token_number : {q r t : List ℕ} {n : ℕ} → Token q t → Number q r n → ⊥
token_number o nought = token_loud o refl (quiet_digit 48 refl)
token_number o (other {b = b} h k y) = token_loud o refl (quiet_digit b (is_digit_lem b (omega arith) k))

large_number : {q r r₁ t : List ℕ} → Large q r r₁ → Token r t → ⊥
large_number (Large.mark y h) o = token_number o y.number
large_number (Large.count c y z h) o = token_number o y.number

-- what begins with more begins with less
take_more : (m n : ℕ) (s : List ℕ) → (n < length s → m ≤ n) → (q : List ℕ) × (take n s ≡ take m s ++ q)
take_more zero n s h = (take n s, refl)
take_more (suc m) zero [] h = ([], refl)
take_more (suc m) zero (b ∷ s) h = let i = h (omega arith) in absurd (omega arith)
take_more (suc m) (suc n) [] h = ([], refl)
take_more (suc m) (suc n) (b ∷ s) h = let z = take_more m n s (λ i. let k = h (omega arith) in omega arith) in (z.0, ap (λ (l : List ℕ). b ∷ l) z.1)

pub take_then : (m n : ℕ) (s t : List ℕ) → (n < length s → m ≤ n) → (q : List ℕ) × (take n s ++ t ≡ take m s ++ q)
take_then m n s t h =
    let z = take_more m n s h in
    (z.0 ++ t, ap (λ (l : List ℕ). l ++ t) z.1 ∙ append_assoc (take m s) z.0 t)

pub never_begins : (m n : ℕ) (s : List ℕ) → m ≤ n → Never (take m s) → Begins (take n s) → ⊥
never_begins m n s h f b = let z = take_then m n s b.0 (λ i. h) in f z.0 b.1 (subst (λ (l : List ℕ). Sheet l b.1) z.1 b.2)

never_allowed : (s : List ℕ) (k : ℕ) → (k < length s → Never (take (suc k) s)) → Allowed s k → ⊥
never_allowed s k f a = let h = allowed_in s k a in never_begins (suc k) a.last s (omega (arith, h.1)) (f h.0) a.begins

-- bytes that begin and end nothing
after_quiet : (s : List ℕ) (k : ℕ) (x : Begun) → Quiet (get_or s k 0) → after x (take (suc k) s) ≡ after x (take k s)
after_quiet [] zero x q = refl
after_quiet [] (suc k) x q = refl
after_quiet (b ∷ s) zero x q = q.same x
after_quiet (b ∷ s) (suc k) x q = after_quiet s k (on_by b x) q

pub begun_on : (s : List ℕ) (k d : ℕ) → ((j : ℕ) → j < d → Quiet (get_or s (k + j) 0)) → begun s (k + d) ≡ begun s k
begun_on s k zero f = let e : k + 0 ≡ k = omega arith in ap (begun s) e
begun_on s k (suc d) f =
    let e : k + suc d ≡ suc (k + d) = omega arith in
    ap (begun s) e ∙ after_quiet s (k + d) (Begin 0) (f d (omega arith)) ∙ begun_on s k d (λ j h. f j (omega arith))

---- The laws.
-- what stands at offset k, where a sheet is refused
record StopsAt (s : List ℕ) (w k : ℕ) : Type 0 where
  hits : w ≡ 14 → Hits (begun s k) (drop k s)
  few : (w ≡ 14 → ⊥) → (begun s k).lines ≡ 32 → ⊥
  free : (j : ℕ) → j < k → PastLimit s j → ⊥

over_free : (s r : List ℕ) (y : Begun) → Track (Begin 0) s r y → (j : ℕ) → j < length s - length r → PastLimit s j → ⊥
over_free s r y t j h (inl o) = (track_free t j h).0 o.1
over_free s r y t j h (inr o) = (track_free t j h).1 o.1 _ o.0.token

stops_at : (s : List ℕ) (w k : ℕ) → Refusal s w k → StopsAt s w k
stops_at s w k q =
    let v : Stops (Begin 0) s w q.rest = denied (subst (Each _ (Stops (Begin 0) s)) q.read (lines_tracked 32 0 s refl)) in
    let e : begun s k ≡ v.at = ap (begun s) (sym q.at) ∙ track_after v.track in
    let d : drop k s ≡ q.rest = ap (λ (n : ℕ). drop n s) (sym q.at) ∙ track_drop v.track in
    record {
      hits = λ i. subst (λ (y : Begun). Hits y (drop k s)) (sym e) (subst (Hits v.at) (sym d) (v.hits i));
      few = λ i j. v.few i (ap (λ (y : Begun). y.lines) (sym e) ∙ j);
      free = λ j h. over_free s q.rest v.at v.track j (let i = q.at in omega arith);
    }

pub past_14 : (s : List ℕ) (k : ℕ) → read_sheet s ≡ refused 14 k → PastLimit s k
past_14 s k e =
    let v = hits_at s k (begun s k) ((stops_at s 14 k (refusal s 14 k (λ z. omega arith) (λ z. omega arith) e)).hits refl) in
    ⊎_elim (λ h. inl (v.0, h))
    (λ h. ⊎_elim (λ a. inr (a, h))
    (λ a. inl (v.0, let i = sheet_lines a.1 (Begin 0) in let j = a.2 in omega arith)) (allowed_14 s k e)) v.1

-- at an equal offset 14 comes first
equal_offset : (s : List ℕ) (w k : ℕ) → InSheet w → read_sheet s ≡ refused w k → StopsAt s w k → PastLimit s k → w ≡ 14
equal_offset s w k (inl i) e q (inl o) = absurd (q.few (λ j. omega arith) o.1)
equal_offset s w k (inl i) e q (inr o) = absurd (never_allowed s k (stuck_13 s k (e ∙ ap (λ (n : ℕ). refused n k) i)).0 o.0)
equal_offset s w k (inr (inl i)) e q o = i
equal_offset s w k (inr (inr i)) e q (inl o) = absurd (q.few (λ j. omega arith) o.1)
equal_offset s w k (inr (inr i)) e q (inr o) = absurd (large_number (out_15 s k (e ∙ ap (λ (n : ℕ). refused n k) i)).number o.0.token)

pub first_14 : (s : List ℕ) (w k j : ℕ) → InSheet w → read_sheet s ≡ refused w k → j ≤ k → PastLimit s j → (w ≡ 14) × (j ≡ k)
first_14 s w k j c e h o =
    let q = stops_at s w k (refusal s w k (λ z. code_not 7 w (λ i j. omega arith) c z) (λ z. code_not 12 w (λ i j. omega arith) c z) e) in
    let f : j < k → ⊥ = λ z. q.free j z o in
    let i : j ≡ k = omega arith in
    (equal_offset s w k c e q (subst (PastLimit s) i o), i)

-- and what is accepted has none
outcome_free : (s : List ℕ) (cs : List Clause) (len : ℕ) (g : Got (List Clause)) → Each (λ cs m r. (y : Begun) × Track (Begin 0) s [] y) (Stops (Begin 0) s) g
    → outcome len g ≡ accepted cs → (y : Begun) × Track (Begin 0) s [] y
unfolding outcome
outcome_free s cs len g (gives p) e = p
outcome_free s cs len g (denies q) e = let z : ◌≡◌ {A = ℕ} 0 1 = cc in absurd (omega arith)

start_free : (s : List ℕ) (cs : List Clause) → start s ≡ accepted cs → (y : Begun) × Track (Begin 0) s [] y
unfolding start
start_free [] cs e = (Begin 0, here)
start_free (b ∷ s) cs e = outcome_free (b ∷ s) cs (length (b ∷ s)) (lines 32 (b ∷ s)) (lines_tracked 32 0 (b ∷ s) refl) e

over_in : (s : List ℕ) (j : ℕ) → PastLimit s j → j < length s
over_in s j (inl o) = o.0
over_in s j (inr o) = (allowed_in s j o.0).0

pub none_over : (s : List ℕ) (cs : List Clause) → read_sheet s ≡ accepted cs → (j : ℕ) → PastLimit s j → ⊥
unfolding read_sheet
none_over s cs =
    either (λ x. x ≡ accepted cs → (j : ℕ) → PastLimit s j → ⊥) (ltb 16384 (length s)) (refused 12 0) (start s)
    (λ h e. let z : ◌≡◌ {A = ℕ} 0 1 = cc in absurd (omega arith))
    (λ h e j o. let t = start_free s cs e in over_free s [] t.0 t.1 j (let i = over_in s j o in omega arith) o)
