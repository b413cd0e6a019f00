-- An amount: a number, digit by digit, and its `%`.
use Prim.Native.Nat.{ℕ, suc, ◌+◌, ◌≤◌, ◌<◌, min}
use native.Mathlib.Omega.{arith}
use native.Mathlib.Numerals.{add-one}
use mathlib.Core.Path.{◌≡◌, refl, sym, ap, subst, ◌∙◌}
use mathlib.Core.Bool.{Bool, true, false, cond}
use mathlib.Core.List.{List, [], ◌∷◌}
use lib.Dec.{leb}
use lib.ListN.{drop}
use borrow.Author.Tests.{eq-eqb, ne_eqb, le-leb, lt-leb}
use Rattle.std.specs.Prelude.{None, Result, Ok, Err}
use Rattle.grammar.specs.Grammar.{Over, Amount, amount}
use Rattle.grammar.specs.Limits.{most}
use Rattle.grammar.specs.Reader.{Got, got, no, pick, bind, number, percent, limits, overs, amounts}
use Rattle.token.specs.Leaves.{ByteAt, LimitIs, grouped_got, AmountIs}
use Rattle.token.specs.Tokens.{NumIs}
use Rattle.token.specs.declared.Num.{Num}
use Rattle.token.specs.declared.Amount.{Amount as Read}
use Rattle.token.specs.declared.Fault.{Fault}
use Rattle.token.specs.Digits.{relabel, overs_any, Only13, number_13}

-- the `%`, if it is there
percent_off : (m : ℕ) (t : List ℕ) → ((u : List ℕ) → t ≡ 37 ∷ u → ⊥) → percent m t ≡ got false m t
unfolding percent
percent_off m [] f = refl
percent_off m (b ∷ t) f = ap (λ (x : Bool). pick x (got true m t) (got false m (b ∷ t))) (ne_eqb b 37 (λ e. f t (ap (λ (k : ℕ). k ∷ t) e)))

percent_on : (m : ℕ) (t u : List ℕ) → t ≡ 37 ∷ u → percent m t ≡ got true m u
unfolding percent
percent_on m t u e = ap (percent m) e ∙ ap (λ (x : Bool). pick x (got true m u) (got false m (37 ∷ u))) (eq-eqb 37 37 refl)

percented : (s : List ℕ) (at m : ℕ) (b : Bool) → ByteAt s at 37 b → percent m (drop at s) ≡ got b m (drop (cond b (at + 1) at) s)
percented s at m true w = percent_on m (drop at s) (drop (suc at) s) (w.yes refl) ∙ ap (λ (k : ℕ). got true m (drop k s)) (sym (add-one at))
percented s at m false w = percent_off m (drop at s) (w.no refl)

few : (b : Bool) → most b ≤ 999
few true = omega arith
few false = omega arith

module _ (s : List ℕ) (i : ℕ) where
  abbrev then : Got ℕ → Got (ℕ × Bool)
  then g = bind g (λ v m r. bind (percent m r) (λ p m₁ r₁. pick (leb v (most p)) (got (v, p) m₁ r₁) (no 15 (drop i s))))

  -- the number is refused
  pub limit_bad : (f : Fault) → NumIs s (Err f) (number 0 (drop i s)) → LimitIs s (Err f) (limits 0 (drop i s))
  unfolding bind limits
  limit_bad f w = go (number 0 (drop i s)) w (number_13 0 (drop i s))
    where
      go : (g : Got ℕ) → NumIs s (Err f) g → Only13 g → LimitIs s (Err f) (then g)
      go (no v t) h o = (h.0 ∙ sym o, h.1, λ z. omega (arith, o))
      go (got v m t) h o = absurd h

  module _ (k : Num) (w : NumIs s (Ok k) (number 0 (drop i s))) (b : Bool) (p : ByteAt s k.at 37 b) where
    by : (P : Got (ℕ × Bool) → Type 0)
        → ((v m : ℕ) → k.value ≡ min v 1000 → P (pick (leb v (most b)) (got (v, b) m (drop (cond b (k.at + 1) k.at) s)) (no 15 (drop i s))))
        → P (limits 0 (drop i s))
    unfolding bind limits
    by P f = go (number 0 (drop i s)) w
      where
        go : (g : Got ℕ) → NumIs s (Ok k) g → P (then g)
        go (no v t) h = absurd h
        go (got v m t) h =
            let q : percent m t ≡ got b m (drop (cond b (k.at + 1) k.at) s) = ap (percent m) (sym h.0) ∙ percented s k.at m b p in
            subst (λ (g : Got Bool). P (bind g (λ p m₁ r₁. pick (leb v (most p)) (got (v, p) m₁ r₁) (no 15 (drop i s))))) (sym q) (f v m h.1)

    pub limit_wide : most b < k.value → (f : Fault) → f ≡ record { number = 15; at = i } → LimitIs s (Err f) (limits 0 (drop i s))
    limit_wide far f q =
        by (LimitIs s (Err f))
        (λ v m z.
        subst (λ (x : Bool). LimitIs s (Err f) (pick x (got (v, b) m (drop (cond b (k.at + 1) k.at) s)) (no 15 (drop i s))))
        (sym (lt-leb v (most b) (omega arith)))
        (ap (λ (x : Fault). x.number) q, ap (λ (x : Fault). drop x.at s) q, λ y. omega arith))

    pub limit_read : k.value ≤ most b → (at : ℕ) → at ≡ cond b (k.at + 1) k.at
        → LimitIs s (Ok (record { at = at; value = k.value; percent = b; over = None })) (limits 0 (drop i s))
    limit_read near at q =
        by (LimitIs s (Ok (record { at = at; value = k.value; percent = b; over = None })))
        (λ v m z.
        let f = few b in
        let same : k.value ≡ v = omega arith in
        subst
        (λ (x : Bool). LimitIs s (Ok (record { at = at; value = k.value; percent = b; over = None }))
        (pick x (got (v, b) m (drop (cond b (k.at + 1) k.at) s)) (no 15 (drop i s))))
        (sym (le-leb v (most b) (omega arith))) (ap (λ (j : ℕ). drop j s) q, same, refl, omega arith, refl))

-- a number with its `%`, and then its group
module _ (s : List ℕ) (i : ℕ) where
  abbrev over : Got (ℕ × Bool) → Got Amount
  over g = bind g (λ x m r. bind (overs m r) (λ o m₁ r₁. got (amount x.0 x.1 o) m₁ r₁))

  pub amount_bad : (f : Fault) → LimitIs s (Err f) (limits 0 (drop i s)) → AmountIs s (Err f) (amounts 0 (drop i s))
  unfolding amounts bind
  amount_bad f h = go (limits 0 (drop i s)) h
    where
      go : (g : Got (ℕ × Bool)) → LimitIs s (Err f) g → AmountIs s (Err f) (over g)
      go (got x m t) z = absurd z
      go (no w t) z = z

  module _ (k : Read) (h : LimitIs s (Ok k) (limits 0 (drop i s))) where
    pub amount_read : (r : Result Read Fault) → AmountIs s r (grouped_got s k) → AmountIs s r (amounts 0 (drop i s))
    unfolding amounts bind
    amount_read r f = go (limits 0 (drop i s)) h
      where
        any : (m : ℕ) (v : ℕ) (b : Bool) (g : Got Over) (r : Result Read Fault) → AmountIs s r (bind g (λ o m₁ r₁. got (amount v b o) m₁ r₁))
            → AmountIs s r (bind (relabel m g) (λ o m₁ r₁. got (amount v b o) m₁ r₁))
        any m v b (got o m₁ t) (Ok q) z = z
        any m v b (got o m₁ t) (Err q) z = absurd z
        any m v b (no w t) (Ok q) z = absurd z
        any m v b (no w t) (Err q) z = z

        go : (g : Got (ℕ × Bool)) → LimitIs s (Ok k) g → AmountIs s r (over g)
        go (no w t) z = absurd z
        go (got (v, b) m t) z =
            subst (λ (g : Got Over). AmountIs s r (bind g (λ o m₁ r₁. got (amount v b o) m₁ r₁))) (sym (overs_any m 0 t))
            (any m v b (overs 0 t) r
            (subst (λ (l : List ℕ). AmountIs s r (bind (overs 0 l) (λ o m₁ r₁. got (amount v b o) m₁ r₁))) z.0
            (subst (λ (c : Bool). AmountIs s r (bind (overs 0 (drop k.at s)) (λ o m₁ r₁. got (amount v c o) m₁ r₁))) z.2
            (subst (λ (n : ℕ). AmountIs s r (bind (overs 0 (drop k.at s)) (λ o m₁ r₁. got (amount n k.percent o) m₁ r₁))) z.1 f))))
