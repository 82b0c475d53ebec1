-- The numbers of a queue's refusals.
use Rattle.std.specs.Prelude.{ℕ}
use Rattle.batch_inbox.specs.declared.error.PostError.{PostError}
use Rattle.batch_inbox.specs.declared.error.PostError.TheVariants.{NoRoom, NoNode}

-- they are told apart by these numbers
abbrev pub refusal_number : PostError → ℕ
refusal_number NoRoom = 1
refusal_number NoNode = 2
