-- What a link owns: where it leads to a value, that value in a block of the heap and the right to free the block. Else
-- it owns nothing, whatever its pointer is.
use Rattle.std.specs.Prelude.{Option, Some, None}
use base.Fml.{Lft, Fml, ftrue, fex, fsep}
use denote.RattleType.{RattleType}
use denote.RawPtr.{Ptr, Testable}
use denote.Sharing.{said, beside}
use denote.Struct.Lending.{lent_at}
use mir.Syntax.{Ty}
use Rattle.std.specs.contracts.impls.GlobalAllocator.TheImpl.{ghosts}
use Rattle.std.specs.Box.Ownership.{box_owns}

-- the right to free a block of the heap, which every handle of it knows by the same name
abbrev pub frees : Ty → Ptr → Fml
frees = ghosts.dealloc_token (record { memory = record { seal = tt } })

-- that it may be compared with null
abbrev pub testable : Ptr → Fml
testable p = fex (Testable p) (λ _. ftrue)

abbrev pub link_owns : (R : RattleType) → Ptr → Option R.Denot → Fml
link_owns R p None = ftrue
link_owns R p (Some x) = fsep (testable p) (box_owns frees R p x)

-- what a `&` to it holds
abbrev pub link_lent : (R : RattleType) → Ptr → Option R.Denot → Lft → Fml
link_lent R p None = said ftrue
link_lent R p (Some x) = beside (said (testable p)) (lent_at R p x)
