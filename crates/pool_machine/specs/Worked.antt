-- What worked runs say.
use Rattle.std.specs.Prelude.{ℕ, List, map}
use Rattle.pool_machine.specs.declared.request.Request.{Request}
use Rattle.pool_machine.specs.State.{State, opening}
use Rattle.pool_machine.specs.Steps.{Answer, Run}

-- how a pool of each profile begins, with digits of so many bits and caches of 4,096 bytes
abbrev pub pool : (desks chunks width : ℕ) → State
pool desks chunks width = opening desks chunks (record { width = width; bits = 6 }) 4096

abbrev pub pool2 : (desks chunks width : ℕ) → State
pool2 desks chunks width = opening desks chunks (record { width = width; bits = 12 }) 4096

-- the requests and the answers of a list of both
abbrev pub asked : List (Request × Answer) → List Request
asked told = map (λ (t : Request × Answer). t.0) told

abbrev pub answered : List (Request × Answer) → List Answer
answered told = map (λ (t : Request × Answer). t.1) told

-- the requests, one after the other, may be answered so; they cannot be
unfoldable pub Allows : State → List (Request × Answer) → Type 0
Allows st told = (new : State) × Run st (asked told) (answered told) new

unfoldable pub Forbids : State → List (Request × Answer) → Type 0
Forbids st told = (new : State) → Run st (asked told) (answered told) new → ⊥
