-- What programs in C are answered.
use Rattle.std.specs.Prelude.{ℕ, Result, Ok, Err}
use Rattle.seated_desk.specs.declared.refusal.Refusal.{Refusal}
use Rattle.seated_desk.specs.declared.refusal.Refusal.TheVariants.{TooLarge, UsedUp, NoMemory, Holds, Empty, Stranger, Full, BadArgument, NoChunk}

abbrev pub refusal_number : Refusal → ℕ
refusal_number TooLarge = 1
refusal_number UsedUp = 2
refusal_number NoMemory = 3
refusal_number Holds = 4
refusal_number Empty = 5
refusal_number Stranger = 6
refusal_number Full = 7
refusal_number BadArgument = 8
refusal_number NoChunk = 9

-- 0, or the refusal's number
abbrev pub answer_of : Result (Unit {0}) Refusal → ℕ
answer_of (Ok u) = 0
answer_of (Err e) = refusal_number e
