-- The numbers of a desk's refusals.
use Rattle.std.specs.Prelude.{ℕ}
use Rattle.pool_desk.specs.declared.error.DeskError.{DeskError}
use Rattle.pool_desk.specs.declared.error.DeskError.TheVariants.{TooLarge, NeedChunk, NotNeeded, Unsettled, NoMemory}

-- they are told apart by these numbers
abbrev pub refusal_number : DeskError → ℕ
refusal_number TooLarge = 1
refusal_number (NeedChunk c) = 2
refusal_number NotNeeded = 3
refusal_number Unsettled = 4
refusal_number NoMemory = 5
