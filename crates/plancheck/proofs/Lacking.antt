-- Groups that a floor lacks: the first that is named, and there is only one such; and no sheet names a group above 7.
use Rattle.std.specs.Prelude.{ℕ, zero, suc, ◌<◌, ◌≡◌, refl, Bool, true, false, cond, List, [], ◌∷◌, ◌++◌, ltb, length, get_or}
use Rattle.std.proofs.Common.{arith, sym, ap, ◌∙◌, ltb-true, ltb-false}
use Rattle.record.specs.All.{All, each}
use Rattle.grammar.specs.Grammar.{top, not, next, finally, globally, U, R, Rank, Part, word, parens, prefix, one_small, reach, one_until, one_and, ungrouped, grouped, Amount, AmountText, written, Counted, Count, count, Clause, Sheet, done, line}
use Rattle.grammar.specs.Groups.{amount_groups, count_groups, groups}
use Rattle.plancheck.specs.Check.{lacked}
use Rattle.plancheck.specs.Meaning.{HasGroups, FirstLacking}

-- two numbers of which neither is less
pub neither_less : (i k : ℕ) → (i < k → ⊥) → (k < i → ⊥) → i ≡ k
neither_less i k low high = go (ltb i k) (ltb k i) refl refl
  where
    go : (a b : Bool) → ltb i k ≡ a → ltb k i ≡ b → i ≡ k
    go true b e q = absurd (low (ltb-true i k e))
    go false true e q = absurd (high (ltb-true k i q))
    go false false e q = omega (arith, ltb-false i k e, ltb-false k i q)

module _ (many : ℕ) where
  -- of the groups gs these are lacked: none, or some, of which the first is the first in gs
  pub data Lacked (gs : List ℕ) : List ℕ → Type 0 where
    none : All (λ (g : ℕ). g < many) gs → Lacked gs []
    some : {g : ℕ} {rest : List ℕ} → FirstLacking many gs g → Lacked gs (g ∷ rest)

  pub lacks : (gs : List ℕ) → Lacked gs (lacked many gs)
  lacks [] = none tt
  lacks (g ∷ gs) = go (ltb g many) refl (lacks gs)
    where
      go : {ls : List ℕ} (b : Bool) → ltb g many ≡ b → Lacked gs ls → Lacked (g ∷ gs) (cond b ls (g ∷ ls))
      go true e (none a) = none (ltb-true g many e, a)
      go true e (some w) =
          let here : g < many = ltb-true g many e in
          let lower : (j : ℕ) → j < suc w.index → get_or (g ∷ gs) j 0 < many = elim [ zero ↦ λ q. here | suc j ↦ λ q. w.before j (omega arith) ] in
          some (record { index = suc w.index; there = let x = w.there in omega arith; group = w.group; lacking = w.lacking; before = lower })
      go false e h = some (record { index = 0; there = omega arith; group = refl; lacking = ltb-false g many e; before = λ j q. absurd (omega arith) })

  pub not_lacking : {gs : List ℕ} {g : ℕ} → FirstLacking many gs g → All (λ (g : ℕ). g < many) gs → ⊥
  not_lacking {gs} w all = let x = each (λ (g : ℕ). g < many) 0 gs w.index all w.there in omega (arith, w.group, w.lacking)

  pub one_first : {gs : List ℕ} {g g' : ℕ} → FirstLacking many gs g → FirstLacking many gs g' → g ≡ g'
  one_first {gs} {g} {g'} w u =
      let same : w.index ≡ u.index =
      neither_less w.index u.index (λ l. omega (arith, u.before w.index l, w.group, w.lacking))
      (λ l. omega (arith, w.before u.index l, u.group, u.lacking)) in
      sym w.group ∙ ap (λ (i : ℕ). get_or gs i 0) same ∙ u.group

---- "`@0` to `@7`": no sheet of the grammar names another group.
abbrev Low : List ℕ → Type 0
Low gs = All (λ (g : ℕ). g < 8) gs

low_append : (xs ys : List ℕ) → Low xs → Low ys → Low (xs ++ ys)
low_append [] ys h k = k
low_append (x ∷ xs) ys h k = (h.0, low_append xs ys h.1 k)

amount_low : {x : Amount} {s r : List ℕ} → AmountText s r x → Low (amount_groups x)
amount_low (written n p ungrouped) = tt
amount_low (written n p (grouped x l h)) = (omega arith, tt)

count_low : {x : Counted} {s r : List ℕ} → Count s r x → Low (count_groups x)
count_low (count o p c d e g) = amount_low e

part_low : {k : Rank} {s r : List ℕ} {a : Clause} → Part Count k s r a → Low (groups a)
part_low (word x) = tt
part_low (parens x p y) = part_low p
part_low (prefix not x p) = part_low p
part_low (prefix next x p) = part_low p
part_low (prefix finally x p) = part_low p
part_low (prefix globally x p) = part_low p
part_low (Part.leaf c) = count_low c
part_low (one_small p) = part_low p
part_low (reach {a = a} {b = b} U p x q) = low_append (groups a) (groups b) (part_low p) (part_low q)
part_low (reach {a = a} {b = b} R p x q) = low_append (groups a) (groups b) (part_low p) (part_low q)
part_low (one_until p) = part_low p
part_low (Part.and {a = a} {b = b} p x q) = low_append (groups a) (groups b) (part_low p) (part_low q)
part_low (one_and p) = part_low p
part_low (Part.or {a = a} {b = b} p x q) = low_append (groups a) (groups b) (part_low p) (part_low q)

pub sheet_low : {s : List ℕ} {cs : List Clause} → Sheet s cs → All (HasGroups 8) cs
sheet_low done = tt
sheet_low (line p x rest) = (part_low p, sheet_low rest)

-- so the first that a clause of a sheet names and the floor lacks is one of these
pub first_low : (many : ℕ) {s : List ℕ} {cs : List Clause} → Sheet s cs → (k g : ℕ) → k < length cs → FirstLacking many (groups (get_or cs k top)) g → g < 8
first_low many {cs = cs} d k g l w =
    let gs = groups (get_or cs k top) in
    let x = each (λ (g : ℕ). g < 8) 0 gs w.index (each (HasGroups 8) top cs k (sheet_low d) l) w.there in
    omega (arith, w.group)
