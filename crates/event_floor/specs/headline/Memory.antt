-- What a floor may be refused for want of memory.
use Rattle.std.specs.Prelude.{◌≡◌, List, [], ◌∷◌, Err, ⊤}
use Rattle.pool_desk.specs.Desks.{DeskState}
use Rattle.pool_desk.specs.Steps.{AllocFault}
use Rattle.pool_desk.specs.declared.error.DeskError.TheVariants.{NoMemory}
use Rattle.pool_machine.specs.declared.request.Request.{Request}
use Rattle.pool_machine.specs.declared.request.Request.TheVariants.{Alloc, Send}
use Rattle.pool_machine.specs.declared.refusal.Refusal.TheVariants.{NoMemory as Refused}
use Rattle.pool_machine.specs.Steps.{Answer}
use Rattle.event_floor.specs.Floors.{FloorState, IsHeld}
use Rattle.event_floor.specs.Steps.{Answers}

-- a buffer, where all slots of its class at home with the desk were never handed out; and a batch that is sent
abbrev pub MayLackMemory : FloorState → Request → Type 0
MayLackMemory v (Alloc a size) = (d : DeskState) × IsHeld v a d × AllocFault d size NoMemory
MayLackMemory v (Send a t) = ⊤
MayLackMemory v request = ⊥

-- The answers to the requests in order, each by the floor that the one before it left; want of memory is answered only
-- where that floor may lack it.
abbrev pub LacksOnlyWhereItMay : FloorState → List Request → List Answer → FloorState → Type 0
LacksOnlyWhereItMay old [] [] new = new ≡ old
LacksOnlyWhereItMay old (q ∷ qs) (y ∷ ys) new = (v : FloorState) × Answers old q y v
    × (y ≡ Err Refused → MayLackMemory old q) × LacksOnlyWhereItMay v qs ys new
LacksOnlyWhereItMay old _ _ new = ⊥
