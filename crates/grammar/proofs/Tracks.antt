-- The reader keeps to what the bytes have begun: it goes on past a byte only where no limit is reached, and 14 is where one is.
use Prim.Native.Nat.{ℕ, zero, suc, ◌+◌, ◌*◌, ◌-◌, ◌≤◌, ◌<◌}
use Prim.Native.Char.{code}
use Rattle.std.proofs.Math.Path.{◌≡◌, refl, ap, subst}
use Rattle.std.proofs.Common.{sym, ◌∙◌, inl, inr, ⊎_elim}
use Rattle.std.specs.Prelude.{◌⊎◌, Bool, cond, leb, eqb}
use Rattle.std.proofs.Math.Bool.{true, false}
use mathlib.Core.List.{List, [], ◌∷◌, ◌++◌}
use native.Mathlib.Omega.{arith}
use Rattle.std.proofs.Math.ListN.{length}
use borrow.Author.Tests.{leb-true, eqb-true, eqb-false, ne_eqb}
use Rattle.grammar.specs.Grammar.{bytes, Form, Spaces, none, space, Number, nought, other, Prefix, not, next, finally, globally, prefix_byte, Reach, U, R, reach_byte, Inner, Over, Group, ungrouped, grouped, counted}
use Rattle.grammar.specs.Limits.{most}
use Rattle.grammar.specs.Reader.{Got, got, no, Reader, bind, node, skip, expect, literal, is_digit, digits, number, percent, Kind, kind, Onward, stop, onward, Deeper, shut, open', chain_at, chain_more, chain, and_chain, or_chain, by_kind, small_at, small_of, by_onward, until_at, until_of, deeper, smalls, untils, ors, mark_by, marks, inners, limits, overs, amounts, count_end, count_by, counts, clauses, clause_line, lines}
use Rattle.grammar.specs.Begun.{is_node, Open, bracket, operand, side, opens_level, operand_ends, side_ends, bracket_ends, Begun, on_by, TooMany}
use Rattle.grammar.specs.Answers.{Token}
use Rattle.grammar.proofs.Each.{Each, gives, denies, each_bind, each_map, each_node, either, never, both_left, both_right, is_digit_lem, skip_spaces, each_expect, each_over}
use Rattle.grammar.proofs.Sound.{Shows, kind_shows, Leads, onward_leads}

pub prefix_facts : (o : Prefix) → (is_node (prefix_byte o) ≡ true) × (opens_level (prefix_byte o) ≡ true) × (prefix_byte o ≡ 116 → ⊥) × (prefix_byte o ≡ 109 → ⊥)
    × ((x : Begun) → on_by (prefix_byte o) x ≡ record { lines = x.lines; nodes = suc x.nodes; levels = operand ∷ x.levels })
prefix_facts not = (refl, refl, λ e. omega arith, λ e. omega arith, λ x. refl)
prefix_facts next = (refl, refl, λ e. omega arith, λ e. omega arith, λ x. refl)
prefix_facts finally = (refl, refl, λ e. omega arith, λ e. omega arith, λ x. refl)
prefix_facts globally = (refl, refl, λ e. omega arith, λ e. omega arith, λ x. refl)

pub reach_facts : (o : Reach) → (is_node (reach_byte o) ≡ true) × (opens_level (reach_byte o) ≡ true) × (reach_byte o ≡ 116 → ⊥) × (reach_byte o ≡ 109 → ⊥)
    × ((x : Begun) → on_by (reach_byte o) x ≡ record { lines = x.lines; nodes = suc x.nodes; levels = side ∷ x.levels })
reach_facts U = (refl, refl, λ e. omega arith, λ e. omega arith, λ x. refl)
reach_facts R = (refl, refl, λ e. omega arith, λ e. omega arith, λ x. refl)

-- by its first byte a whole token is the word, or a mark
token_first : {q r t : List ℕ} {b : ℕ} → Token q t → q ≡ b ∷ r → (b ≡ 116 → r ≡ 114 ∷ 117 ∷ 101 ∷ t) × (b ≡ 109 → (k : ℕ) × Number r t k)
token_first {b = b} Token.word e = let z : 116 ≡ b = cc in (λ i. cc, λ i. absurd (omega arith))
token_first {r = r} {t = t} {b = b} (Token.mark {s = s} {n = k} y) e =
    let z : 109 ≡ b = cc in let v : s ≡ r = cc in (λ i. absurd (omega arith), λ i. (k, subst (λ (l : List ℕ). Number l t k) v y.number))
token_first {b = b} Token.paren e = let z : 40 ≡ b = cc in (λ i. absurd (omega arith), λ i. absurd (omega arith))
token_first {b = b} Token.bracket e = let z : 91 ≡ b = cc in (λ i. absurd (omega arith), λ i. absurd (omega arith))
token_first {b = b} (Token.prefix o) e =
    let z : prefix_byte o ≡ b = cc in let f = prefix_facts o in (λ i. absurd (f.2 (z ∙ i)), λ i. absurd (f.3 (z ∙ i)))
token_first {b = b} (Token.reach o) e =
    let z : reach_byte o ≡ b = cc in let f = reach_facts o in (λ i. absurd (f.2 (z ∙ i)), λ i. absurd (f.3 (z ∙ i)))
token_first {b = b} Token.and e = let z : 38 ≡ b = cc in (λ i. absurd (omega arith), λ i. absurd (omega arith))
token_first {b = b} Token.or e = let z : 124 ≡ b = cc in (λ i. absurd (omega arith), λ i. absurd (omega arith))

-- from x the bytes of s down to r lead to y, and at none of them stands a token past a limit, nor the first byte of the 33rd line
pub data Track : Begun → List ℕ → List ℕ → Begun → Type 0 where
  here : {x : Begun} {s : List ℕ} → Track x s s x
  on : {x y : Begun} {b : ℕ} {s r : List ℕ} → (x.lines ≡ 32 → ⊥) → (TooMany x b → (t : List ℕ) → Token (b ∷ s) t → ⊥) → Track (on_by b x) s r y
      → Track x (b ∷ s) r y

pub track_trans : {x y z : Begun} {s r q : List ℕ} → Track x s r y → Track y r q z → Track x s q z
track_trans here u = u
track_trans (on h k t) u = on h k (track_trans t u)

-- lines grow, and in a line nodes do
abbrev Grows : Begun → Begun → Type 0
Grows x y = (x.lines < y.lines) ⊎ ((x.lines ≡ y.lines) × (x.nodes ≤ y.nodes))

grown : (p q : Bool) (l n : ℕ) → (l < cond p (suc l) l) ⊎ ((l ≡ cond p (suc l) l) × (n ≤ cond p 0 (cond q (suc n) n)))
grown true q l n = inl (omega arith)
grown false true l n = inr (refl, omega arith)
grown false false l n = inr (refl, omega arith)

grows_trans : (x y z : Begun) → Grows x y → Grows y z → Grows x z
grows_trans x y z (inl h) (inl k) = inl (omega arith)
grows_trans x y z (inl h) (inr k) = inl (omega (arith, k.0))
grows_trans x y z (inr h) (inl k) = inl (omega (arith, h.0))
grows_trans x y z (inr h) (inr k) = inr (h.0 ∙ k.0, omega (arith, h.1, k.1))

track_grows : {x y : Begun} {s r : List ℕ} → Track x s r y → Grows x y
track_grows here = inr (refl, omega arith)
track_grows {x} {y} (on {b = b} h k t) = grows_trans x (on_by b x) y (grown (eqb b 10) (is_node b) x.lines x.nodes) (track_grows t)

-- a byte that begins and ends nothing
pub record Quiet (b : ℕ) : Type 0 where
  pub node : is_node b ≡ false
  pub level : opens_level b ≡ false
  pub same : (x : Begun) → on_by b x ≡ x

quiet_on : {b : ℕ} {x y : Begun} {s r : List ℕ} → Quiet b → (x.lines ≡ 32 → ⊥) → Track x s r y → Track x (b ∷ s) r y
quiet_on {x = x} {y = y} {s = s} {r = r} q h t =
    on h (λ v u k. ⊎_elim (λ z. never (sym q.node ∙ z.0)) (λ z. never (sym q.level ∙ z.0)) v)
    (subst (λ (z : Begun). Track z s r y) (sym (q.same x)) t)

quiet_space : Quiet 32
quiet_space = record { node = refl; level = refl; same = λ x. refl }

pub quiet_digit : (b : ℕ) → is_digit b ≡ true → Quiet b
quiet_digit b d =
    let h = leb-true 48 b (both_left (leb 48 b) (leb b 57) d) in
    let k = leb-true b 57 (both_right (leb 48 b) (leb b 57) d) in
    let e10 = ne_eqb b 10 (λ e. omega arith) in
    let e33 = ne_eqb b 33 (λ e. omega arith) in
    let e38 = ne_eqb b 38 (λ e. omega arith) in
    let e40 = ne_eqb b 40 (λ e. omega arith) in
    let e41 = ne_eqb b 41 (λ e. omega arith) in
    let e44 = ne_eqb b 44 (λ e. omega arith) in
    let e70 = ne_eqb b 70 (λ e. omega arith) in
    let e71 = ne_eqb b 71 (λ e. omega arith) in
    let e82 = ne_eqb b 82 (λ e. omega arith) in
    let e85 = ne_eqb b 85 (λ e. omega arith) in
    let e88 = ne_eqb b 88 (λ e. omega arith) in
    let e91 = ne_eqb b 91 (λ e. omega arith) in
    let e93 = ne_eqb b 93 (λ e. omega arith) in
    let e109 = ne_eqb b 109 (λ e. omega arith) in
    let e116 = ne_eqb b 116 (λ e. omega arith) in
    let e124 = ne_eqb b 124 (λ e. omega arith) in
    record {
      node = simp (e33, e38, e70, e71, e82, e85, e88, e91, e109, e116, e124);
      level = simp (e33, e40, e70, e71, e82, e85, e88, e91);
      same = λ x. simp (e10, e33, e38, e40, e41, e44, e70, e71, e82, e85, e88, e91, e93, e109, e116, e124);
    }

spaces_track : {x : Begun} {s r : List ℕ} → (x.lines ≡ 32 → ⊥) → Spaces s r → Track x s r x
spaces_track h none = here
spaces_track h (space y) = quiet_on quiet_space h (spaces_track h y)

abbrev AllQuiet : List ℕ → Type 0
AllQuiet [] = Unit {0}
AllQuiet (c ∷ w) = Quiet c × AllQuiet w

quiet_rue : AllQuiet (bytes "rue")
quiet_rue =
    let r : Quiet (code "r") = record { node = refl; level = refl; same = λ x. refl } in
    let u : Quiet (code "u") = record { node = refl; level = refl; same = λ x. refl } in
    let e : Quiet (code "e") = record { node = refl; level = refl; same = λ x. refl } in
    (r, (u, (e, tt)))

number_some : {s t : List ℕ} {k : ℕ} → Number s t k → 0 < length s
number_some nought = omega arith
number_some (other h i y) = omega arith

number_cut : {b k : ℕ} {s t : List ℕ} → eqb b 48 ≡ false → is_digit b ≡ false → Number (b ∷ s) t k → ⊥
number_cut e d nought = never (sym e)
number_cut {b} e d (other h i y) = never (sym d ∙ is_digit_lem b (omega arith) i)

module _ (x : Begun) (few : x.lines ≡ 32 → ⊥) where
  literal_track : {A : Type 0} (w : List ℕ) → AllQuiet w → (a : A) (n : ℕ) (s : List ℕ)
      → Each (λ a₁ m r. (n ≡ m) × Track x s r x) (λ k r. (k ≡ 13) × Track x s r x × ((t : List ℕ) → s ≡ w ++ t → ⊥)) (literal w a n s)
  unfolding literal
  literal_track [] q a n s = gives (refl, here)
  literal_track (c ∷ w) q a n [] = denies (refl, here, λ t e. let z : ◌≡◌ {A = ℕ} 0 1 = cc in omega arith)
  literal_track (c ∷ w) q a n (b ∷ s) =
      either (Each (λ a₁ m r. (n ≡ m) × Track x (b ∷ s) r x) (λ k r. (k ≡ 13) × Track x (b ∷ s) r x × ((t : List ℕ) → b ∷ s ≡ c ∷ w ++ t → ⊥)))
      (eqb b c) (literal w a n s) _
      (λ e. let h = eqb-true b c e in
      let q₁ : Quiet b = subst Quiet (sym h) q.0 in
      each_map (literal_track w q.1 a n s) (λ a₁ m r v. (v.0, quiet_on q₁ few v.1))
      (λ k r v. (v.0, quiet_on q₁ few v.1, λ t i. v.2 t (cc))))
      (λ e. denies (refl, here, λ t i. eqb-false b c e (cc)))

  digits_track : (v n : ℕ) (s : List ℕ) → Each (λ k m r. (n ≡ m) × Track x s r x) (λ w r. ⊥) (digits v n s)
  unfolding digits
  digits_track v n [] = gives (refl, here)
  digits_track v n (b ∷ s) =
      either (Each (λ k m r. (n ≡ m) × Track x (b ∷ s) r x) (λ w r. ⊥)) (is_digit b) (digits (v * 10 + (b - 48)) n s) _
      (λ e. each_map (digits_track (v * 10 + (b - 48)) n s) (λ k m r z. (z.0, quiet_on (quiet_digit b e) few z.1)) (λ w r z. z))
      (λ e. gives (refl, here))

  -- refused where no number stands
  number_track : (n : ℕ) (s : List ℕ)
      → Each (λ k m r. (n ≡ m) × Track x s r x) (λ w r. (w ≡ 13) × (r ≡ s) × ((t : List ℕ) (k : ℕ) → Number s t k → ⊥)) (number n s)
  unfolding number
  number_track n [] = denies (refl, refl, λ t k y. let h = number_some y in omega arith)
  number_track n (b ∷ s) =
      let P : Got ℕ → Type 0 =
      Each (λ k m r. (n ≡ m) × Track x (b ∷ s) r x) (λ w r. (w ≡ 13) × (r ≡ b ∷ s) × ((t : List ℕ) (k : ℕ) → Number (b ∷ s) t k → ⊥)) in
      either P (eqb b 48) _ _
      (λ e. gives (refl, quiet_on (subst Quiet (sym (eqb-true b 48 e)) (quiet_digit 48 refl)) few here))
      (λ e. either P (is_digit b) (digits (b - 48) n s) _
      (λ d. each_map (digits_track (b - 48) n s) (λ k m r z. (z.0, quiet_on (quiet_digit b d) few z.1)) (λ w r z. absurd z))
      (λ d. denies (refl, refl, λ t k y. number_cut e d y)))

  percent_track : (n : ℕ) (s : List ℕ) → Each (λ p m r. (n ≡ m) × Track x s r x) (λ w r. ⊥) (percent n s)
  unfolding percent
  percent_track n [] = gives (refl, here)
  percent_track n (b ∷ s) =
      either (Each (λ p m r. (n ≡ m) × Track x (b ∷ s) r x) (λ w r. ⊥)) (eqb b 37) _ _
      (λ e. let q : Quiet 37 = record { node = refl; level = refl; same = λ x. refl } in
      gives (refl, quiet_on (subst Quiet (sym (eqb-true b 37 e)) q) few here)) (λ e. gives (refl, here))

  limits_track : (n : ℕ) (s : List ℕ) → Each (λ a m r. (n ≡ m) × Track x s r x) (λ w r. (w ≡ 14 → ⊥) × Track x s r x) (limits n s)
  unfolding limits
  limits_track n s =
      let P : Got (ℕ × Bool) → Type 0 = Each (λ a m r. (n ≡ m) × Track x s r x) (λ w r. (w ≡ 14 → ⊥) × Track x s r x) in
      each_bind (number n s) _
      (each_map (number_track n s)
      (λ k m r v.
      each_bind (percent m r) _
      (each_map (percent_track m r)
      (λ p m₁ r₁ u.
      either P (leb k (most p)) (got (k, p) m₁ r₁) (no 15 s) (λ h. gives (v.0 ∙ u.0, track_trans v.1 u.1))
      (λ h. denies ((λ e. omega arith), here)))
      (λ w r₁ u. absurd u)))
      (λ w r v. ((λ e. omega (arith, v.0)), subst (λ (q : List ℕ). Track x s q x) (sym v.1) here)))

  quiet_at : Quiet 64
  quiet_at = record { node = refl; level = refl; same = λ x. refl }

  group_track : {o : Over} {s r : List ℕ} → Group s r o → Track x s r x
  group_track ungrouped = here
  group_track (grouped {b = b} y h k) =
      track_trans (spaces_track few y) (quiet_on quiet_at few (quiet_on (quiet_digit b (is_digit_lem b h (omega arith))) few here))

  overs_track : (n : ℕ) (s : List ℕ) → Each (λ o m r. (n ≡ m) × Track x s r x) (λ w r. (w ≡ 14 → ⊥) × Track x s r x) (overs n s)
  overs_track n s =
      each_over n s (λ o r y. (refl, group_track y)) (λ r y. ((λ e. omega arith), track_trans (spaces_track few y) (quiet_on quiet_at few here)))

  amounts_track : (n : ℕ) (s : List ℕ) → Each (λ a m r. (n ≡ m) × Track x s r x) (λ w r. (w ≡ 14 → ⊥) × Track x s r x) (amounts n s)
  unfolding amounts
  amounts_track n s =
      each_bind (limits n s) _
      (each_map (limits_track n s)
      (λ y m r v.
      each_bind (overs m r) _
      (each_map (overs_track m r) (λ o m₁ r₁ u. gives (v.0 ∙ u.0, track_trans v.1 u.1)) (λ w r₁ u. (u.0, track_trans v.1 u.1))))
      (λ w r v. v))

---- In a line, i lines before it: what is known of what is begun, where n nodes are still allowed and P holds of the open levels.
pub record Room (i n : ℕ) (P : List Open → Type 0) (x : Begun) : Type 0 where
  pub lines : x.lines ≡ i
  pub left : x.nodes + n ≡ 128
  pub levels : P x.levels

-- at r the 33rd line begins, or a node or a level too many
abbrev pub Hits : Begun → List ℕ → Type 0
Hits y [] = ⊥
Hits y (b ∷ r) = (y.lines ≡ 32) ⊎ TooMany y b

-- what is refused is refused by 14 if a limit is reached there
pub record Stops (x : Begun) (s : List ℕ) (w : ℕ) (r : List ℕ) : Type 0 where
  pub at : Begun
  pub track : Track x s r at
  pub hits : w ≡ 14 → Hits at r
  pub few : (w ≡ 14 → ⊥) → at.lines ≡ 32 → ⊥

module _ (i : ℕ) (few : i < 32) where
  abbrev pub Tracked : {A : Type 0} → Begun → List ℕ → (List Open → Type 0) → Got A → Type 0
  Tracked {A} x s P g = Each (λ (a : A) m r. (y : Begun) × Track x s r y × Room i m P y) (Stops x s) g

  lead : {A : Type 0} {x x' : Begun} {s s' : List ℕ} {P : List Open → Type 0} {g : Got A} → Track x s s' x' → Tracked x' s' P g → Tracked x s P g
  lead t e = each_map e (λ a m r v. (v.0, track_trans t v.1, v.2))
      (λ w r v. record { at = v.at; track = track_trans t v.track; hits = v.hits; few = v.few })

  on_then : {A B : Type 0} {x : Begun} {s : List ℕ} {P Q : List Open → Type 0} (g : Got A) (f : A → Reader B) → Tracked x s P g
      → ((a : A) (m : ℕ) (r : List ℕ) (y : Begun) → Track x s r y → Room i m P y → Tracked y r Q (f a m r)) → Tracked x s Q (bind g f)
  on_then g f e k = each_bind g f (each_map e (λ a m r v. lead v.1 (k a m r v.0 v.1 v.2)) (λ w r v. v))

  below : {x : Begun} {n : ℕ} {P : List Open → Type 0} → Room i n P x → x.lines ≡ 32 → ⊥
  below a e = let h = a.lines in omega arith

  -- refused by another number
  halts : {x y : Begun} {s r : List ℕ} (w : ℕ) → (w ≡ 14 → ⊥) → y.lines ≡ i → Track x s r y → Stops x s w r
  halts {y = y} w h a t = record { at = y; track = t; hits = λ e. absurd (h e); few = λ e j. omega arith }

  reaches : {x y : Begun} {b : ℕ} {s r : List ℕ} → TooMany y b → Track x s (b ∷ r) y → Stops x s 14 (b ∷ r)
  reaches {y = y} v t = record { at = y; track = t; hits = λ e. inr v; few = λ e j. absurd (e refl) }

  -- a token of one byte within the limits
  roomy : {x : Begun} {n l : ℕ} {P : List Open → Type 0} (b : ℕ) → Room i n P x → length x.levels + l ≡ 32
      → (is_node b ≡ true → 0 < n) → (opens_level b ≡ true → 0 < l) → TooMany x b → ⊥
  roomy b a e h k (inl o) = let j = a.left in omega (arith, h o.0, o.1)
  roomy b a e h k (inr o) = omega (arith, k o.0, o.1)

  fewer : {x y : Begun} {n m : ℕ} {P Q : List Open → Type 0} {s r : List ℕ} → Track x s r y → Room i n P x → Room i m Q y → m ≤ n
  fewer {x} {y} {n} {m} t a e = less (track_grows t)
    where
      less : Grows x y → m ≤ n
      less (inl z) = absurd (omega (arith, a.lines, e.lines))
      less (inr z) = omega (arith, a.left, e.left, z.1)

  roomy_node : {x : Begun} {m : ℕ} {P : List Open → Type 0} (c : ℕ) → Room i (suc m) P x → opens_level c ≡ false → TooMany x c → ⊥
  roomy_node c a h (inl o) = let j = a.left in omega (arith, o.1)
  roomy_node c a h (inr o) = never (sym h ∙ o.0)

  byte : {x : Begun} {n l : ℕ} {P : List Open → Type 0} {s : List ℕ} (b : ℕ) → Room i n P x → length x.levels + l ≡ 32
      → (is_node b ≡ true → 0 < n) → (opens_level b ≡ true → 0 < l) → Track x (b ∷ s) s (on_by b x)
  byte b a e h k = on (below a) (λ v t z. roomy b a e h k v) here

  -- a byte that is no node and opens nothing
  closing : {x : Begun} {n : ℕ} {P : List Open → Type 0} {s : List ℕ} (b : ℕ) → Room i n P x → is_node b ≡ false → opens_level b ≡ false → Track x (b ∷ s) s (on_by b x)
  closing b a h k = on (below a) (λ v t z. ⊎_elim (λ o. never (sym h ∙ o.0)) (λ o. never (sym k ∙ o.0)) v) here

  expects : {A : Type 0} {x : Begun} {P Q : List Open → Type 0} (c : ℕ) (a : A) (n : ℕ) (s : List ℕ) → is_node c ≡ false → opens_level c ≡ false
      → ((y : Begun) → Room i n P y → Room i n Q (on_by c y)) → Room i n P x → Tracked x s Q (expect c a n s)
  expects {x = x} c a n s h k f e =
      each_expect c a n s (λ r y. (on_by c x, track_trans (spaces_track (below e) y) (closing c e h k), f x e))
      (λ r y. halts 13 (λ j. omega arith) e.lines (spaces_track (below e) y))

  ---- Chains: at the first part nothing is open but brackets, or behind the last byte no more than right sides besides.
  abbrev Fresh : ℕ → List Open → Type 0
  Fresh l o = (length o + l ≡ 32) × (operand_ends o ≡ o) × (side_ends o ≡ o)

  abbrev pub Chains : {A : Type 0} → ℕ → Reader A → Type 0
  Chains l rd = (n : ℕ) (s : List ℕ) (x : Begun) → Room i n (Fresh l) x → Tracked x s (λ o. side_ends o ≡ x.levels) (rd n s)

  module _ {A : Type 0} (c : ℕ) (join : A → A → A) (is-node : is_node c ≡ true) (is-level : opens_level c ≡ false)
      (moves : (x : Begun) → ((on_by c x).lines ≡ x.lines) × ((on_by c x).nodes ≡ suc x.nodes) × ((on_by c x).levels ≡ side_ends x.levels))
      (l : ℕ) (sub : Reader A) (runs : Chains l sub) (o₀ : List Open) (fresh : Fresh l o₀) where
    abbrev Closes : List Open → Type 0
    Closes o = side_ends o ≡ o₀

    -- the operator within the limits
    operator : {x : Begun} {m : ℕ} {s : List ℕ} → Room i (suc m) Closes x
        → Track x (c ∷ s) s (on_by c x) × Room i m (Fresh l) (on_by c x) × ((on_by c x).levels ≡ o₀)
    operator {x} {m} a =
        let v = moves x in
        let e : (on_by c x).levels ≡ o₀ = v.2 ∙ a.levels in (
          on (below a) (λ z t k. roomy_node c a is-level z) here,
          record {
            lines = v.0 ∙ a.lines;
            left = omega (arith, v.1, a.left);
            levels = subst (Fresh l) (sym e) fresh;
          },
          e,
        )

    chain_at_tracked : (a : A) (n : ℕ) (r : List ℕ) (go : Reader A) (r' : List ℕ) (x : Begun) → Spaces r r' → Room i n Closes x
        → ((m : ℕ) (r₁ : List ℕ) (y : Begun) → n ≡ suc m → Room i m (Fresh l) y → y.levels ≡ o₀ → Tracked y r₁ Closes (go m r₁))
        → Tracked x r Closes (chain_at c join a n r go r')
    unfolding chain_at
    chain_at_tracked a n r go [] x y e f = gives (x, here, e)
    chain_at_tracked a n r go (b ∷ r₁) x y e f =
        either (Tracked x r Closes) (eqb b c) _ _
        (λ h.
        let k = eqb-true b c h in
        let t = spaces_track (below e) y in
        each_node (b ∷ r₁) n _
        (λ m j.
        let e₁ : Room i (suc m) Closes x = subst (λ (z : ℕ). Room i z Closes x) j e in
        let v = operator {s = r₁} e₁ in
        lead (track_trans t (subst (λ (d : ℕ). Track x (d ∷ r₁) r₁ (on_by c x)) (sym k) v.0)) (f m r₁ (on_by c x) j v.1 v.2))
        (λ j. reaches (inl (ap is_node k ∙ is-node, let q = e.left in omega arith)) t))
        (λ h. gives (x, here, e))

    chain_more_tracked : (f : ℕ) (a : A) (n : ℕ) (r : List ℕ) (x : Begun) → n ≤ f → Room i n Closes x → Tracked x r Closes (chain_more c join sub f a n r)
    unfolding chain_more
    chain_more_tracked zero a n r x h e = chain_at_tracked a n r _ (skip r) x (skip_spaces r) e (λ m r₁ y j. absurd (omega arith))
    chain_more_tracked (suc f) a n r x h e =
        chain_at_tracked a n r _ (skip r) x (skip_spaces r) e
        (λ m r₁ y j e₁ k. let h₁ : m ≤ f = omega arith in on_then (sub m r₁) _ (runs m r₁ y e₁)
        (λ b m₂ r₂ z t e₂. chain_more_tracked f (join a b) m₂ r₂ z (let q = fewer t e₁ e₂ in omega arith)
        (record { lines = e₂.lines; left = e₂.left; levels = e₂.levels ∙ k })))

    pub chain_tracked : (n : ℕ) (s : List ℕ) (x : Begun) → x.levels ≡ o₀ → Room i n (Fresh l) x → Tracked x s Closes (chain c join sub n s)
    unfolding chain
    chain_tracked n s x e a =
        on_then (sub n s) _ (runs n s x a)
        (λ b m r y t e₁. chain_more_tracked m b m r y (omega arith) (record { lines = e₁.lines; left = e₁.left; levels = e₁.levels ∙ e }))

  ---- Smallest parts and until-chains.
  abbrev Low : ℕ → List Open → Type 0
  Low l o = length o + l ≡ 32

  abbrev pub Smalls : {A : Type 0} → ℕ → Reader A → Type 0
  Smalls l rd = (n : ℕ) (s : List ℕ) (x : Begun) → Room i n (Low l) x → Tracked x s (λ o. o ≡ operand_ends x.levels) (rd n s)

  abbrev pub Untils : {A : Type 0} → ℕ → Reader A → Type 0
  Untils l rd = (n : ℕ) (s : List ℕ) (x : Begun) → Room i n (λ o. Low l o × (operand_ends o ≡ o)) x
      → Tracked x s (λ o. side_ends o ≡ side_ends x.levels) (rd n s)

  module _ {L : Type 0} where
    abbrev pub DeeperTracked : ℕ → Deeper (Form L) → Type 0
    DeeperTracked l shut = l ≡ 0
    DeeperTracked l (open' sm un) = (j : ℕ) × (l ≡ suc j) × Smalls j sm × Untils j un

    ands_tracked : (l : ℕ) (sub : Reader (Form L)) → Untils l sub → Chains l (and_chain sub)
    unfolding and_chain
    ands_tracked l sub u n s x a =
        chain_tracked 38 Form.and refl refl (λ y. (refl, refl, refl)) l sub
        (λ m r y e. each_map (u m r y (record { lines = e.lines; left = e.left; levels = (e.levels.0, e.levels.1) }))
        (λ b k q v. (v.0, v.1, record { lines = v.2.lines; left = v.2.left; levels = v.2.levels ∙ e.levels.2 })) (λ w q v. v))
        x.levels a.levels n s x refl a

    ors_tracked : (l : ℕ) (sub : Reader (Form L)) → Untils l sub → Chains l (or_chain sub)
    unfolding or_chain
    ors_tracked l sub u n s x a =
        chain_tracked 124 Form.or refl refl (λ y. (refl, refl, refl)) l (and_chain sub) (ands_tracked l sub u) x.levels a.levels n s x refl a

    module _ (l : ℕ) (lf : Reader L) where
      paren_by : (d : Deeper (Form L)) → DeeperTracked l d → (n : ℕ) (r : List ℕ) (x : Begun) → Room i n (Low l) x
          → Tracked x (40 ∷ r) (λ o. o ≡ operand_ends x.levels) (by_kind lf d Kind.paren n 40 r)
      unfolding by_kind
      paren_by shut gd n r x a = let h = a.levels in denies (reaches (inr (refl, omega arith)) here)
      paren_by (open' sm un) gd n r x a =
          let h = a.levels in
          lead (byte {l = l} 40 a h (λ e. never e) (λ e. omega (arith, gd.1)))
          (on_then (or_chain un n r) _
          (ors_tracked gd.0 un gd.3 n r (on_by 40 x) (record { lines = a.lines; left = a.left; levels = (omega (arith, gd.1), refl, refl) }))
          (λ b m r₁ y t e. expects 41 b m r₁ refl refl
          (λ z e₁. record { lines = e₁.lines; left = e₁.left; levels = ap (λ (o : List Open). operand_ends (bracket_ends o)) e₁.levels }) e))

      prefix_by : (d : Deeper (Form L)) → DeeperTracked l d → (o : Prefix) (n : ℕ) (r : List ℕ) (x : Begun) → Room i n (Low l) x
          → Tracked x (prefix_byte o ∷ r) (λ o. o ≡ operand_ends x.levels) (by_kind lf d (Kind.prefix o) n (prefix_byte o) r)
      unfolding by_kind
      prefix_by shut gd o n r x a = let h = a.levels in denies (reaches (inr ((prefix_facts o).1, omega arith)) here)
      prefix_by (open' sm un) gd o n r x a =
          let h = a.levels in
          let k = a.left in
          let x₁ : Begun = record { lines = x.lines; nodes = suc x.nodes; levels = operand ∷ x.levels } in
          each_node (prefix_byte o ∷ r) n _
          (λ m j.
          lead (subst (Track x (prefix_byte o ∷ r) r) ((prefix_facts o).4 x) (byte {l = l} (prefix_byte o) a h (λ e. omega arith) (λ e. omega (arith, gd.1))))
          (on_then (sm m r) _ (gd.2 m r x₁ (record { lines = a.lines; left = omega arith; levels = omega (arith, gd.1) }))
          (λ b m₁ r₁ y t e. gives (y, here, e))))
          (λ j. reaches (inl ((prefix_facts o).0, omega arith)) here)

    module _ (l : ℕ) (lf : Reader L) (d : Deeper (Form L)) (leaf : Smalls l lf) where
      word_tracked : (n : ℕ) (r : List ℕ) (x : Begun) → Room i n (Low l) x
          → Tracked x (116 ∷ r) (λ o. o ≡ operand_ends x.levels) (by_kind lf d Kind.word n 116 r)
      unfolding by_kind
      word_tracked n r x a =
          each_bind (literal (114 ∷ 117 ∷ 101 ∷ []) tt n r) _
          (each_map (literal_track (on_by 116 x) (below a) (114 ∷ 117 ∷ 101 ∷ []) quiet_rue tt n r)
          (λ u m r₁ v.
          each_node (116 ∷ r) m _
          (λ m₁ j.
          let k = a.left in
          let h = v.0 in
          gives (
            on_by 116 x,
            track_trans (byte 116 a a.levels (λ e. omega arith) (λ e. never e)) v.1,
            record { lines = a.lines; left = omega arith; levels = refl },
          ))
          (λ j. let k = a.left in let h = v.0 in reaches (inl (refl, omega arith)) here))
          (λ w r₁ v. halts w (λ e. omega (arith, v.0)) a.lines (on (below a) (λ z t k. v.2 t ((token_first k refl).0 refl)) v.1)))

      by_kind_tracked : DeeperTracked l d → (q : Kind) (n b : ℕ) (r : List ℕ) (x : Begun) → Shows q b → Room i n (Low l) x
          → Tracked x (b ∷ r) (λ o. o ≡ operand_ends x.levels) (by_kind lf d q n b r)
      unfolding by_kind
      by_kind_tracked gd Kind.word n b r x e a =
          subst (λ (c : ℕ). Tracked x (c ∷ r) (λ o. o ≡ operand_ends x.levels) (by_kind lf d Kind.word n c r)) (sym e) (word_tracked n r x a)
      by_kind_tracked gd Kind.paren n b r x e a =
          subst (λ (c : ℕ). Tracked x (c ∷ r) (λ o. o ≡ operand_ends x.levels) (by_kind lf d Kind.paren n c r)) (sym e) (paren_by l lf d gd n r x a)
      by_kind_tracked gd (Kind.prefix o) n b r x e a =
          subst (λ (c : ℕ). Tracked x (c ∷ r) (λ o. o ≡ operand_ends x.levels) (by_kind lf d (Kind.prefix o) n c r)) (sym e) (prefix_by l lf d gd o n r x a)
      by_kind_tracked gd Kind.other n b r x e a = on_then (lf n (b ∷ r)) _ (leaf n (b ∷ r) x a) (λ v m r₁ y t e₁. gives (y, here, e₁))

      small_at_tracked : DeeperTracked l d → (n : ℕ) (s : List ℕ) (x : Begun) → Room i n (Low l) x
          → Tracked x s (λ o. o ≡ operand_ends x.levels) (small_at lf d n s)
      unfolding small_at
      small_at_tracked gd n [] x a = denies (halts 13 (λ e. omega arith) a.lines here)
      small_at_tracked gd n (b ∷ r) x a = by_kind_tracked gd (kind b) n b r x (kind_shows b) a

      small_tracked : DeeperTracked l d → Smalls l (small_of lf d)
      unfolding small_of
      small_tracked gd n s x a = lead (spaces_track (below a) (skip_spaces s)) (small_at_tracked gd n (skip s) x a)

    by_onward_tracked : (l : ℕ) (d : Deeper (Form L)) → DeeperTracked l d → (o₀ : List Open) → Low l o₀
        → (n : ℕ) (a : Form L) (r : List ℕ) (q : Onward) (b : ℕ) (r₁ : List ℕ) (x : Begun)
        → Leads q b → Spaces r (b ∷ r₁) → Room i n (λ o. o ≡ o₀) x → Tracked x r (λ o. side_ends o ≡ side_ends o₀) (by_onward d a n r q b r₁)
    unfolding by_onward
    by_onward_tracked l d gd o₀ low n a r stop b r₁ x e y v = gives (x, here, record { lines = v.lines; left = v.left; levels = ap side_ends v.levels })
    by_onward_tracked l shut gd o₀ low n a r (Onward.reach o) b r₁ x e y v =
        let h = ap length v.levels in
        denies (reaches (inr (ap opens_level e ∙ (reach_facts o).1, omega arith)) (spaces_track (below v) y))
    by_onward_tracked l (open' sm un) gd o₀ low n a r (Onward.reach o) b r₁ x e y v =
        let h = ap length v.levels in
        let k = v.left in
        let x₁ : Begun = record { lines = x.lines; nodes = suc x.nodes; levels = side ∷ x.levels } in
        each_node (b ∷ r₁) n _
        (λ m j.
        let t : Track x (b ∷ r₁) r₁ (on_by b x) = byte {l = l} b v (omega arith) (λ z. omega arith) (λ z. omega (arith, gd.1)) in
        let t₁ : Track x (b ∷ r₁) r₁ x₁ = subst (Track x (b ∷ r₁) r₁) (ap (λ (c : ℕ). on_by c x) e ∙ (reach_facts o).4 x) t in
        lead (track_trans (spaces_track (below v) y) t₁)
        (on_then (un m r₁) _
        (gd.3 m r₁ x₁ (record { lines = v.lines; left = omega arith; levels = (omega (arith, gd.1), refl) }))
        (λ c m₁ r₂ z u e₁. gives (z, here, record { lines = e₁.lines; left = e₁.left; levels = e₁.levels ∙ ap side_ends v.levels }))))
        (λ j. reaches (inl (ap is_node e ∙ (reach_facts o).0, omega arith)) (spaces_track (below v) y))

    until_at_tracked : (l : ℕ) (d : Deeper (Form L)) → DeeperTracked l d → (o₀ : List Open) → Low l o₀ → (n : ℕ) (a : Form L) (r r' : List ℕ) (x : Begun)
        → Spaces r r' → Room i n (λ o. o ≡ o₀) x → Tracked x r (λ o. side_ends o ≡ side_ends o₀) (until_at d a n r r')
    unfolding until_at
    until_at_tracked l d gd o₀ low n a r [] x y v = gives (x, here, record { lines = v.lines; left = v.left; levels = ap side_ends v.levels })
    until_at_tracked l d gd o₀ low n a r (b ∷ r₁) x y v = by_onward_tracked l d gd o₀ low n a r (onward b) b r₁ x (onward_leads b) y v

    until_tracked : (l : ℕ) (sm : Reader (Form L)) (d : Deeper (Form L)) → Smalls l sm → DeeperTracked l d → Untils l (until_of sm d)
    unfolding until_of
    until_tracked l sm d g gd n s x a =
        on_then (sm n s) _ (g n s x (record { lines = a.lines; left = a.left; levels = a.levels.0 }))
        (λ b m r y t e. until_at_tracked l d gd x.levels a.levels.0 m b r (skip r) y (skip_spaces r)
        (record { lines = e.lines; left = e.left; levels = e.levels ∙ a.levels.1 }))

    module _ (lf : ℕ → Reader L) (leaf : (l : ℕ) → Smalls l (lf l)) where
      deeper_tracked : (l : ℕ) → DeeperTracked l (deeper lf l)
      unfolding deeper
      deeper_tracked zero = refl
      deeper_tracked (suc l) =
          let d = deeper_tracked l in
          let sm = small_tracked l (lf l) (deeper lf l) (leaf l) d in
          (l, refl, sm, until_tracked l (small_of (lf l) (deeper lf l)) (deeper lf l) sm d)

      untils_tracked : (l : ℕ) → Untils l (untils lf l)
      unfolding untils smalls
      untils_tracked l =
          until_tracked l (small_of (lf l) (deeper lf l)) (deeper lf l) (small_tracked l (lf l) (deeper lf l) (leaf l) (deeper_tracked l)) (deeper_tracked l)

      pub all_tracked : (l : ℕ) → Chains l (ors lf l)
      unfolding ors
      all_tracked l = ors_tracked l (untils lf l) (untils_tracked l)

  ---- Leaves.
  mark_by_tracked : (l : ℕ) (q : Bool) (n b : ℕ) (r : List ℕ) (x : Begun) → (q ≡ true → b ≡ 109) → Room i n (Low l) x
      → Tracked x (b ∷ r) (λ o. o ≡ operand_ends x.levels) (mark_by q n b r)
  unfolding mark_by
  mark_by_tracked l false n b r x e a = denies (halts 13 (λ e. omega arith) a.lines here)
  mark_by_tracked l true n b r x e a =
      let Q : List Open → Type 0 = λ o. o ≡ operand_ends x.levels in
      let h = a.left in
      subst (λ (c : ℕ). Tracked x (c ∷ r) Q (mark_by true n c r)) (sym (e refl))
      (each_bind (number n r) _
      (each_map (number_track (on_by 109 x) (below a) n r)
      (λ k m r₁ v.
      let i : n ≡ m = v.0 in
      each_node (109 ∷ r) m _
      (λ m₁ j.
      let t : Track x (109 ∷ r) r (on_by 109 x) = byte 109 a a.levels (λ e. omega arith) (λ e. never e) in
      either (Tracked x (109 ∷ r) Q) (leb k 31) (got k m₁ r₁) (no 15 r)
      (λ e. gives (on_by 109 x, track_trans t v.1, record { lines = a.lines; left = omega arith; levels = refl }))
      (λ e. denies (halts 15 (λ z. omega arith) a.lines t)))
      (λ j. reaches (inl (refl, omega arith)) here))
      (λ w r₁ v. subst (Stops x (109 ∷ r) w) (sym v.1)
      (halts w (λ e. omega (arith, v.0)) a.lines (on (below a) (λ z t k. let y = (token_first k refl).1 refl in v.2 t y.0 y.1) here)))))

  marks_tracked : (l : ℕ) → Smalls l marks
  unfolding marks
  marks_tracked l n [] x a = denies (halts 13 (λ e. omega arith) a.lines here)
  marks_tracked l n (b ∷ r) x a = mark_by_tracked l (eqb b 109) n b r x (eqb-true b 109) a

  inners_tracked : (l : ℕ) → Chains l (inners l)
  unfolding inners
  inners_tracked l = all_tracked (λ j. marks) marks_tracked l

  -- a count from its amount on
  count_end_tracked : (a : Inner) (n : ℕ) (s : List ℕ) (x : Begun) (o₀ : List Open) → Room i n (λ o. o ≡ bracket ∷ o₀) x
      → Tracked x s (λ o. o ≡ operand_ends o₀) (count_end a n s)
  unfolding count_end
  count_end_tracked a n s x o₀ e =
      let P : List Open → Type 0 = λ o. o ≡ bracket ∷ o₀ in
      each_bind (amounts n s) _
      (each_map (amounts_track x (below e) n s)
      (λ y m r v.
      lead v.1
      (expects {P = P} 93 (counted a y) m r refl refl
      (λ z e₁. record { lines = e₁.lines; left = e₁.left; levels = ap (λ (o : List Open). operand_ends (bracket_ends (side_ends o))) e₁.levels })
      (subst (λ (z : ℕ). Room i z P x) v.0 e)))
      (λ w r v. halts w v.0 e.lines v.1))

  bracket_tracked : (l n : ℕ) (r : List ℕ) (x : Begun) → Room i n (Low l) x → Tracked x (91 ∷ r) (λ o. o ≡ operand_ends x.levels) (count_by l true n 91 r)
  unfolding count_by
  bracket_tracked zero n r x a = let h = a.levels in denies (reaches (inr (refl, omega arith)) here)
  bracket_tracked (suc l) n r x a =
      let h = a.levels in
      let k = a.left in
      each_node (91 ∷ r) n _
      (λ m j.
      lead (byte {l = suc l} 91 a h (λ e. omega arith) (λ e. omega arith))
      (on_then (bind (inners l m r) _) _
      (on_then (inners l m r) _ (inners_tracked l m r (on_by 91 x) (record { lines = a.lines; left = omega arith; levels = (omega arith, refl, refl) }))
      (λ b m₁ r₁ y t e. expects 44 b m₁ r₁ refl refl (λ z e₁. record { lines = e₁.lines; left = e₁.left; levels = e₁.levels }) e))
      (λ b m₁ r₁ y t e. lead (spaces_track (below e) (skip_spaces r₁)) (count_end_tracked b m₁ (skip r₁) y x.levels e))))
      (λ j. reaches (inl (refl, omega arith)) here)

  count_by_tracked : (l : ℕ) (q : Bool) (n b : ℕ) (r : List ℕ) (x : Begun) → (q ≡ true → b ≡ 91) → Room i n (Low l) x
      → Tracked x (b ∷ r) (λ o. o ≡ operand_ends x.levels) (count_by l q n b r)
  count_by_tracked l false n b r x e a = unfold count_by in denies (halts 13 (λ e. omega arith) a.lines here)
  count_by_tracked l true n b r x e a =
      subst (λ (c : ℕ). Tracked x (c ∷ r) (λ o. o ≡ operand_ends x.levels) (count_by l true n c r)) (sym (e refl)) (bracket_tracked l n r x a)

  counts_tracked : (l : ℕ) → Smalls l (counts l)
  unfolding counts
  counts_tracked l n [] x a = denies (halts 13 (λ e. omega arith) a.lines here)
  counts_tracked l n (b ∷ r) x a = count_by_tracked l (eqb b 91) n b r x (eqb-true b 91) a

  clauses_tracked : (l : ℕ) → Chains l (clauses l)
  unfolding clauses
  clauses_tracked l = all_tracked counts counts_tracked l

---- The sheet.
abbrev pub Begin : ℕ → Begun
Begin i = record { lines = i; nodes = 0; levels = [] }

pub lines_tracked : (k i : ℕ) (s : List ℕ) → i + k ≡ 32 → Each (λ cs m r. (y : Begun) × Track (Begin i) s [] y) (Stops (Begin i) s) (lines k s)
unfolding lines clause_line
lines_tracked zero i [] h = gives (Begin i, here)
lines_tracked zero i (b ∷ s) h =
    let z : i ≡ 32 = omega arith in denies (record { at = Begin i; track = here; hits = λ e. inl z; few = λ e. absurd (e refl) })
lines_tracked (suc k) i [] h = gives (Begin i, here)
lines_tracked (suc k) i (b ∷ s) h =
    let few : i < 32 = omega arith in
    each_bind (bind (clauses 32 128 (b ∷ s)) _) _
    (each_bind (clauses 32 128 (b ∷ s)) _
    (each_map (clauses_tracked i few 32 128 (b ∷ s) (Begin i) (record { lines = refl; left = refl; levels = (refl, refl, refl) }))
    (λ c m r v.
    let x : Begun = v.0 in
    each_expect 10 c m r
    (λ r₁ y.
    let t : Track (Begin i) (b ∷ s) r₁ (on_by 10 x) =
    track_trans v.1 (track_trans (spaces_track (below i few v.2) y) (closing i few 10 v.2 refl refl)) in
    let t₁ : Track (Begin i) (b ∷ s) r₁ (Begin (suc i)) = subst (λ (n : ℕ). Track (Begin i) (b ∷ s) r₁ (Begin (suc n))) v.2.lines t in
    each_bind (lines k r₁) _
    (each_map (lines_tracked k (suc i) r₁ (omega arith)) (λ cs m₂ r₂ u. gives (u.0, track_trans t₁ u.1))
    (λ w r₂ u. record { at = u.at; track = track_trans t₁ u.track; hits = u.hits; few = u.few })))
    (λ r₁ y. halts i few 13 (λ e. omega arith) v.2.lines (track_trans v.1 (spaces_track (below i few v.2) y))))
    (λ w r v. v)))
