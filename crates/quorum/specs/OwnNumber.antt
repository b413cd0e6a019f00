-- Words stored from number 0 on are found by their own numbers.
use Rattle.std.specs.Prelude.{ℕ, ◌+◌, ◌≤◌, ◌<◌, ◌≡◌, List, get_or}
use Rattle.std.proofs.Common.{subst, arith}
use Rattle.table.specs.Table.{Stored}

pub own : (P : ℕ → ℕ → Type 0) (from to : ℕ) (before after : List ℕ) → Stored P 0 from to before after → (s : ℕ) → from ≤ s → s < to → P s (get_or after s 0)
own P from to before after r s p q =
    let e : 0 + s ≡ s = omega arith in
    subst (λ (j : ℕ). P s (get_or after j 0)) e (r.each s p q)
