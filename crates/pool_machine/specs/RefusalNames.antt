-- The numbers and the names of the refusals.
use Rattle.std.specs.Prelude.{ℕ, List, codes}
use Rattle.pool_machine.specs.declared.refusal.Refusal.{Refusal}
use Rattle.pool_machine.specs.declared.refusal.Refusal.TheVariants.{NoDesk, Idle, TooLarge, NeedChunk, NotNeeded}
use Rattle.pool_machine.specs.declared.refusal.Refusal.TheVariants.{NoChunk, NotLent, NothingFor, NotAnOwner, ToSelf}
use Rattle.pool_machine.specs.declared.refusal.Refusal.TheVariants.{NoBatch, Nothing, Unsettled, Held, NoMemory}
use Rattle.pool_machine.specs.declared.refusal.Refusal.TheVariants.{BadClass, Spent}

-- the number of a refusal, and its name
abbrev pub refusal_row : Refusal → ℕ × List ℕ
refusal_row NoDesk = (1, codes "NoDesk")
refusal_row Idle = (2, codes "Idle")
refusal_row TooLarge = (3, codes "TooLarge")
refusal_row NeedChunk = (4, codes "NeedChunk")
refusal_row NotNeeded = (5, codes "NotNeeded")
refusal_row NoChunk = (6, codes "NoChunk")
refusal_row NotLent = (7, codes "NotLent")
refusal_row NothingFor = (8, codes "NothingFor")
refusal_row NotAnOwner = (9, codes "NotAnOwner")
refusal_row ToSelf = (10, codes "ToSelf")
refusal_row NoBatch = (11, codes "NoBatch")
refusal_row Nothing = (12, codes "Nothing")
refusal_row Unsettled = (13, codes "Unsettled")
refusal_row Held = (14, codes "Held")
refusal_row NoMemory = (15, codes "NoMemory")
refusal_row BadClass = (16, codes "BadClass")
refusal_row Spent = (18, codes "Spent")

abbrev pub refusal_number : Refusal → ℕ
refusal_number r = (refusal_row r).0

abbrev pub refusal_name : Refusal → List ℕ
refusal_name r = (refusal_row r).1
