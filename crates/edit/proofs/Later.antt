-- Moved on by s, a row's place at counter v is the place at counter s + v, for every v.
use Rattle.std.specs.Prelude.{ℕ, ◌+◌, ◌-◌, ◌%◌, ◌≤◌, ◌<◌, ◌≡◌, Bool, List, length, take, drop, get_or}
use Rattle.std.proofs.Common.{mod-lt, mod-eq_of_lt, arith, sym, ap₂, ◌∙◌, length-append, length-drop, length-take-le, get_or-take, get_or-drop, get_or-append-add, le-leb}
use Rattle.std.proofs.Math.Nat.{mod-eq-sub-mod, add-mod}
use Rattle.std.proofs.Math.Path.{ap}
use Rattle.std.proofs.Math.Bool.{cond}
use Rattle.std.proofs.Math.ListN.{get_or-append}
use Rattle.std.proofs.lemmas.Bool.{lt-leb}
use Rattle.plan.specs.Numbers.{head_of}
use Rattle.plan.specs.declared.Head.{Head}
use Rattle.row.specs.Lasso.{step_of}
use Rattle.row.specs.Meaning.{place_at_counter}
use Rattle.row.specs.Round.{pick, step_below, step_from, step_shift}
use Rattle.edit.specs.Moved.{turned, moved_row, moved_head}

pub length-turned : (lap : List ℕ) (k : ℕ) → k < length lap → length (turned k lap) ≡ length lap
length-turned lap k l =
    let a = length-append (drop k lap) (take k lap) in
    let b = length-take-le k lap (omega arith) in
    let c = length-drop k lap in
    omega arith

-- step j of a lap that is turned by k
turned_at : (lap : List ℕ) (k j : ℕ) → k < length lap → j < length lap → get_or (turned k lap) j 0 ≡ get_or lap ((k + j) % length lap) 0
turned_at lap k j a b = pick j (length lap - k) (get_or (turned k lap) j 0 ≡ get_or lap ((k + j) % length lap) 0) low high
  where
    low : j < length lap - k → get_or (turned k lap) j 0 ≡ get_or lap ((k + j) % length lap) 0
    low q =
        get_or-append (drop k lap) (take k lap) 0 j (omega (arith, length-drop k lap)) ∙ get_or-drop k lap j 0
        ∙ ap (λ (i : ℕ). get_or lap i 0) (sym (mod-eq_of_lt {n = k + j} {m = length lap} (omega arith)))

    high : length lap - k ≤ j → get_or (turned k lap) j 0 ≡ get_or lap ((k + j) % length lap) 0
    high q =
        let i : ℕ = k + j - length lap in
        let e : j ≡ length (drop k lap) + i = omega (arith, length-drop k lap) in
        let m : (k + j) % length lap ≡ i = mod-eq-sub-mod {n = k + j} {m = length lap} (omega arith) ∙ mod-eq_of_lt {n = i} {m = length lap} (omega arith) in
        ap (λ (n : ℕ). get_or (turned k lap) n 0) e ∙ get_or-append-add (drop k lap) (take k lap) i 0 ∙ get_or-take k lap i 0 (omega arith)
        ∙ ap (λ (n : ℕ). get_or lap n 0) (sym m)

module _ (h l s : ℕ) (row : List ℕ) where
  pub row_early : s ≤ l → moved_row h l s row ≡ drop s row
  unfolding moved_row
  row_early p = ap (λ (b : Bool). cond b (drop s row) (turned ((s - l) % (h - l)) (drop l row))) (le-leb s l p)

  pub row_late : l < s → moved_row h l s row ≡ turned ((s - l) % (h - l)) (drop l row)
  unfolding moved_row
  row_late p = ap (λ (b : Bool). cond b (drop s row) (turned ((s - l) % (h - l)) (drop l row))) (lt-leb s l p)

module _ (s : ℕ) (h : Head) where
  pub head_early : s ≤ h.stem → moved_head s h ≡ head_of (h.steps - s) (h.stem - s) h.drift
  unfolding moved_head
  head_early p = ap (λ (b : Bool). cond b (head_of (h.steps - s) (h.stem - s) h.drift) (head_of (h.steps - h.stem) 0 h.drift)) (le-leb s h.stem p)

  pub head_late : h.stem < s → moved_head s h ≡ head_of (h.steps - h.stem) 0 h.drift
  unfolding moved_head
  head_late p = ap (λ (b : Bool). cond b (head_of (h.steps - s) (h.stem - s) h.drift) (head_of (h.steps - h.stem) 0 h.drift)) (lt-leb s h.stem p)

  pub drift_stays : (moved_head s h).drift ≡ h.drift
  drift_stays =
      pick h.stem s ((moved_head s h).drift ≡ h.drift) (λ p. ap (λ (x : Head). x.drift) (head_late p)) (λ p. ap (λ (x : Head). x.drift) (head_early p))

  module _ (some : h.stem < h.steps) (row : List ℕ) (size : length row ≡ h.steps) where
    -- the lap's length, and how far it is turned
    abbrev lap : ℕ
    lap = h.steps - h.stem

    abbrev turn : ℕ
    turn = (s - h.stem) % lap

    turn_low : turn < lap
    turn_low = mod-lt (s - h.stem) (omega arith)

    lap_length : length (drop h.stem row) ≡ lap
    lap_length = length-drop h.stem row ∙ ap (λ (n : ℕ). n - h.stem) size

    pub row-length : length (moved_row h.steps h.stem s row) ≡ (moved_head s h).steps
    row-length =
        pick h.stem s (length (moved_row h.steps h.stem s row) ≡ (moved_head s h).steps)
        (λ p.
        ap length (row_late h.steps h.stem s row p) ∙ length-turned (drop h.stem row) turn (omega (arith, turn_low, lap_length)) ∙ lap_length
        ∙ ap (λ (x : Head). x.steps) (sym (head_late p)))
        (λ p. ap length (row_early h.steps h.stem s row p) ∙ length-drop s row ∙ ap (λ (n : ℕ). n - s) size ∙ ap (λ (x : Head). x.steps)
        (sym (head_early p)))

    -- the place at counter v is that at counter s + v
    abbrev pub SameAt : ℕ → Type 0
    SameAt v =
        place_at_counter (moved_row h.steps h.stem s row) (moved_head s h).steps (moved_head s h).stem v ≡ place_at_counter row h.steps h.stem (s + v)

    pub place_later : (v : ℕ) → SameAt v
    place_later v = pick h.stem s (SameAt v) late early
      where
        early : s ≤ h.stem → SameAt v
        early p =
            ap₂ (λ (x : List ℕ) (g : Head). get_or x (step_of g.steps g.stem v) 0) (row_early h.steps h.stem s row p) (head_early p)
            ∙ get_or-drop s row (step_of (h.steps - s) (h.stem - s) v) 0 ∙ ap (λ (i : ℕ). get_or row i 0) (step_shift h.steps h.stem s v some p)

        late : h.stem < s → SameAt v
        late p =
            let w : ℕ = step_of lap 0 v in
            let low : w < lap = step_below lap 0 (omega arith) v in
            let same : v - 0 ≡ v = omega arith in
            let whole : lap - 0 ≡ lap = omega arith in
            let around : w ≡ 0 + v % lap = step_from lap 0 (omega arith) v (omega arith) ∙ ap₂ (λ (x y : ℕ). 0 + x % y) same whole in
            let plain : w ≡ v % lap = omega arith in
            let sum : s - h.stem + v ≡ s + v - h.stem = omega arith in
            let e : (turn + w) % lap ≡ (s + v - h.stem) % lap =
            ap (λ (x : ℕ). (turn + x) % lap) plain ∙ sym (add-mod (s - h.stem) v lap) ∙ ap (λ (x : ℕ). x % lap) sum in
            ap₂ (λ (x : List ℕ) (g : Head). get_or x (step_of g.steps g.stem v) 0) (row_late h.steps h.stem s row p) (head_late p)
            ∙ turned_at (drop h.stem row) turn w (omega (arith, turn_low, lap_length)) (omega (arith, low, lap_length))
            ∙ ap (λ (n : ℕ). get_or (drop h.stem row) ((turn + w) % n) 0) lap_length ∙ get_or-drop h.stem row ((turn + w) % lap) 0
            ∙ ap (λ (n : ℕ). get_or row (h.stem + n) 0) e ∙ ap (λ (n : ℕ). get_or row n 0) (sym (step_from h.steps h.stem some (s + v) (omega arith)))
