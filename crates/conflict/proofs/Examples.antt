-- Small plans judged for conflicts, by computation.
use Rattle.std.specs.Prelude.{ℕ, ◌≡◌, refl, Bool, not, List, [], ◌∷◌, eqb, length, get_or}
use Rattle.refusal.specs.declared.Verdict.{Verdict}
use Rattle.refusal.specs.declared.Verdict.TheVariants.{Accepted}
use Rattle.row.specs.Lasso.{next_step, step_of}
use Rattle.conflict.specs.Meaning.{Routes}
use Rattle.conflict.proofs.Outcomes.{refusal20}
use Rattle.conflict.specs.Search.{all_from, clear, earliest_verdict, narrow_verdict}

-- is a number among these
abbrev among : List ℕ → ℕ → Bool
among ns p = not (all_from (λ i. not (eqb (get_or ns i 0) p)) (length ns) 0)

-- rows of h steps with the lap from l on, these places narrow
abbrev routes : List (List ℕ) → ℕ → ℕ → List ℕ → Routes
routes rows h l ns = record { carts = length rows; h = h; l = l; place = λ i s. get_or (get_or rows i []) s 0; narrow = among ns }

computing : List (List ℕ) → ℕ → ℕ → List ℕ → ℕ → Verdict
unfolding next_step step_of clear earliest_verdict narrow_verdict
computing rows h l ns d = narrow_verdict (routes rows h l ns) d

-- rows of two carts, the last those of document 01's cases
abbrev late : List (List ℕ)
late = (1 ∷ 0 ∷ 0 ∷ []) ∷ (0 ∷ 0 ∷ 1 ∷ []) ∷ []

abbrev early : List (List ℕ)
early = (0 ∷ 0 ∷ 1 ∷ []) ∷ (1 ∷ 0 ∷ 0 ∷ []) ∷ []

abbrev turned : List (List ℕ)
turned = (0 ∷ 0 ∷ 0 ∷ 1 ∷ []) ∷ (1 ∷ 1 ∷ 1 ∷ 0 ∷ []) ∷ []

abbrev crossing : List (List ℕ)
crossing = (1 ∷ 0 ∷ 2 ∷ 2 ∷ []) ∷ (3 ∷ 0 ∷ 1 ∷ 3 ∷ []) ∷ []

abbrev swapping : List (List ℕ)
swapping = (0 ∷ 1 ∷ []) ∷ (1 ∷ 0 ∷ []) ∷ []

abbrev cases : List (List ℕ)
cases = (0 ∷ 1 ∷ 1 ∷ 0 ∷ []) ∷ (0 ∷ 0 ∷ 1 ∷ 1 ∷ []) ∷ []

-- three carts, the first always elsewhere
abbrev three : List (List ℕ)
three = (2 ∷ 2 ∷ []) ∷ (0 ∷ 1 ∷ []) ∷ (1 ∷ 0 ∷ []) ∷ []

-- two that exchange places by the move from the last step to the lap's first
abbrev closing : List (List ℕ)
closing = (1 ∷ 2 ∷ 0 ∷ []) ∷ (0 ∷ 3 ∷ 1 ∷ []) ∷ []

-- one that follows another
abbrev following : List (List ℕ)
following = (0 ∷ 1 ∷ []) ∷ (1 ∷ 2 ∷ []) ∷ []

-- place 1 at counters 0 and 2 alone
abbrev ahead : List (List ℕ)
ahead = (1 ∷ 0 ∷ 0 ∷ 0 ∷ []) ∷ (2 ∷ 2 ∷ 1 ∷ 2 ∷ []) ∷ []

abbrev behind : List (List ℕ)
behind = (0 ∷ 0 ∷ 1 ∷ 0 ∷ []) ∷ (1 ∷ 2 ∷ 2 ∷ 2 ∷ []) ∷ []

-- an exchange of counters 0 and 2
abbrev apart : List (List ℕ)
apart = (1 ∷ 0 ∷ 4 ∷ 4 ∷ []) ∷ (5 ∷ 5 ∷ 0 ∷ 1 ∷ []) ∷ []

pub worked :
    -- met at counters 3 and 2 alone: counters below h are not enough, and the lowest cart is told
    (narrow_verdict (routes late 3 0 (1 ∷ [])) 1 ≡ refusal20 0 0)
    × (narrow_verdict (routes early 3 0 (1 ∷ [])) 1 ≡ refusal20 0 2)
    × (narrow_verdict (routes late 3 0 (1 ∷ [])) 0 ≡ Accepted)
    -- the step of the earliest counter, not the lowest step
    × (narrow_verdict (routes turned 4 0 (0 ∷ [])) 2 ≡ refusal20 0 1)
    -- an exchange comes before the meeting; both its places must be narrow
    × (narrow_verdict (routes crossing 4 3 (0 ∷ 1 ∷ [])) 1 ≡ refusal20 0 0)
    × (narrow_verdict (routes crossing 4 3 (0 ∷ [])) 1 ≡ refusal20 0 1)
    × (narrow_verdict (routes swapping 2 0 (0 ∷ 1 ∷ [])) 0 ≡ refusal20 0 0)
    × (narrow_verdict (routes swapping 2 0 (0 ∷ [])) 0 ≡ Accepted)
    × (narrow_verdict (routes swapping 2 0 (1 ∷ [])) 0 ≡ Accepted)
    -- document 01's case plan
    × (narrow_verdict (routes cases 4 0 (1 ∷ [])) 0 ≡ refusal20 0 2)
    × (narrow_verdict (routes cases 4 0 (1 ∷ [])) 1 ≡ refusal20 0 1)
    × (narrow_verdict (routes cases 4 0 (2 ∷ [])) 1 ≡ Accepted)
unfolding computing
worked = (refl, refl, refl, refl, refl, refl, refl, refl, refl, refl, refl, refl)

pub edges :
    -- the lowest cart in a conflict need not be cart 0
    (narrow_verdict (routes three 2 0 (1 ∷ [])) 1 ≡ refusal20 1 1)
    × (narrow_verdict (routes three 2 0 (1 ∷ [])) 0 ≡ Accepted)
    -- the move from the last step to the lap's first counts
    × (narrow_verdict (routes closing 3 0 (0 ∷ 1 ∷ [])) 0 ≡ refusal20 0 2)
    -- one that follows another exchanges nothing with it
    × (narrow_verdict (routes following 2 1 (0 ∷ 1 ∷ [])) 0 ≡ Accepted)
    × (narrow_verdict (routes following 2 1 (0 ∷ 1 ∷ [])) 1 ≡ refusal20 0 1)
    -- d counters ahead and d behind, and no more
    × (narrow_verdict (routes ahead 4 3 (1 ∷ [])) 1 ≡ Accepted)
    × (narrow_verdict (routes ahead 4 3 (1 ∷ [])) 2 ≡ refusal20 0 0)
    × (narrow_verdict (routes behind 4 3 (1 ∷ [])) 1 ≡ Accepted)
    × (narrow_verdict (routes behind 4 3 (1 ∷ [])) 2 ≡ refusal20 0 2)
    × (narrow_verdict (routes apart 4 3 (0 ∷ 1 ∷ [])) 1 ≡ refusal20 0 1)
    × (narrow_verdict (routes apart 4 3 (0 ∷ 1 ∷ [])) 2 ≡ refusal20 0 0)
    -- the lap from step 1 on: step 0 does not come again
    × (narrow_verdict (routes late 3 1 (1 ∷ [])) 1 ≡ Accepted)
    -- not the next cart only
    × (narrow_verdict (routes ((0 ∷ []) ∷ (1 ∷ []) ∷ (0 ∷ []) ∷ []) 1 0 (0 ∷ [])) 0 ≡ refusal20 0 0)
    -- one step, parked in one place or in two; one cart alone
    × (narrow_verdict (routes ((0 ∷ []) ∷ (0 ∷ []) ∷ []) 1 0 (0 ∷ [])) 0 ≡ refusal20 0 0)
    × (narrow_verdict (routes ((0 ∷ []) ∷ (1 ∷ []) ∷ []) 1 0 (0 ∷ 1 ∷ [])) 16 ≡ Accepted)
    × (narrow_verdict (routes ((0 ∷ []) ∷ []) 1 0 (0 ∷ [])) 3 ≡ Accepted)
unfolding computing
edges = (refl, refl, refl, refl, refl, refl, refl, refl, refl, refl, refl, refl, refl, refl, refl, refl)
