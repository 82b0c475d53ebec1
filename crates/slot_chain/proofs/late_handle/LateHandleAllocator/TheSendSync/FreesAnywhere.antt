-- A block that a late handle frees may be freed by any thread, where a block of the handle itself may.
use mathlib.Core.List.{List, [], ◌∷◌}
use mir.Syntax.{Ty, Dict}
use base.Shift.{Keyless}
use denote.Param.Send.{Frees}
use denote.RattleType.{RattleType}
use denote.RawPtr.{Ptr}
use Rattle.std.specs.declared.alloc.Allocator.{Ghosts}
use Rattle.slot_chain.specs.LateHandles.{frees_late}
use Rattle.slot_chain.specs.contracts.late_handle.LateHandleAllocator.TheImpl.{ghosts}

module _ (A : RattleType) (g : Ghosts A.Denot) (anywhere : Frees g g.dealloc_token) where
  of_each : (hs : List A.Denot) (ty : Ty) (p : Ptr) → Keyless (frees_late g.dealloc_token hs ty p)
  of_each [] ty p = tt
  of_each (h ∷ _) ty p = anywhere.frees h ty p

pub frees : (A : RattleType) (g : Ghosts A.Denot) (d e : Dict) → Frees g g.dealloc_token → Frees (ghosts A g d e) (ghosts A g d e).dealloc_token
frees A g d e anywhere = record { frees = of_each A g anywhere }
