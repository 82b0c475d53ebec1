use Rattle.std.proofs.Common.{◌≡◌, ◌+◌, ◌%◌, ◌⊎◌, ℕ, List, [], ◌++◌, map, length, get_or}
use mathlib.Core.Option.{some}
use lib.ListN.{get_elem?}
use Rattle.link_inbox.specs.States.{SendState}
use Rattle.link_inbox.specs.declared.rule.Role.TheVariants.{Ready}
use Rattle.link_inbox.proofs.drain.gathered.Given as goal

abbrev pub invariant-loop-seat : goal.invariant-loop-seat
invariant-loop-seat l =
    (l.token.table_id ≡ l.initial.token.table_id)
    × (l.token.me.0.role ≡ Ready)
    × (l.token.me.1 ≡ [])
    × (l.token.me.0.list ≡ l.initial.token.me.0.list)
    × (l.token.me.0.made ≡ l.initial.token.me.0.made)
    × ((gone : List SendState)
    × (l.initial.seats.items ≡ l.seats.items ++ gone)
    × (l.token.me.0.known ≡ map (λ (s : SendState). s.sent) gone)
    × ((gone ≡ []) ⊎ (l.token.me.0.sender ≡ length l.seats.items))
    × ((i : ℕ) (seat : SendState) → get_elem? gone i ≡ some seat
    → get_or l.turns (length l.seats.items + i) 0 ≡ length seat.sent % 16))
    × (length l.turns ≡ 64)

abbrev pub decreases-loop-seat : goal.decreases-loop-seat
decreases-loop-seat l = length l.seats.items
