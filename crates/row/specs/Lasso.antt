-- The lasso: a run-in of l steps and a lap of h − l.
use Rattle.std.specs.Prelude.{ℕ, suc, ◌+◌, ◌-◌, ◌%◌, cond, ltb}

-- "After step h − 1 comes step l"
unfoldable pub next_step : ℕ → ℕ → ℕ → ℕ
next_step h l s = cond (ltb (suc s) h) (suc s) l

-- "Counter v stands on step v if v < h, else on l + ((v − l) mod (h − l))."
unfoldable pub step_of : ℕ → ℕ → ℕ → ℕ
step_of h l v = cond (ltb v h) v (l + (v - l) % (h - l))
