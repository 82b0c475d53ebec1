-- The exit status of each outcome, its words, and how a replay ends.
use Rattle.std.specs.Prelude.{ℕ, List, [], ◌∷◌, ◌++◌, Option, Some, None, Result, Ok, Err, codes, string_bytes}
use Rattle.trace_audit.specs.Report.{Verdict}
use Rattle.trace_audit.specs.declared.replaying.ending.End.{End}
use Rattle.trace_audit.specs.declared.replaying.ending.End.TheVariants.{Whole, BadLine, NoRoom}
use Rattle.trace_audit.specs.declared.replaying.ending.ReplayError.{ReplayError}
use Rattle.trace_audit.specs.declared.replaying.ending.ReplayError.TheVariants.{Read, Write}
use Rattle.poolctl.specs.declared.outcome.Outcome.{Outcome}
use Rattle.poolctl.specs.declared.outcome.Outcome.TheVariants.{Done, Stopped, AuditFailed, NoMemory, NoThread, Refused}
use Rattle.poolctl.specs.declared.outcome.Outcome.TheVariants.{ReadFailed, WriteFailed}

-- the exit status
abbrev pub status_of : Outcome → ℕ
status_of Done = 0
status_of Stopped = 1
status_of AuditFailed = 1
status_of NoMemory = 1
status_of NoThread = 1
status_of (Refused text) = 2
status_of ReadFailed = 3
status_of WriteFailed = 3

-- a line; 10 is the line feed
abbrev pub line_of : List ℕ → List ℕ
line_of text = text ++ 10 ∷ []

-- what goes to standard error
abbrev pub words_of : Outcome → List ℕ
words_of Done = []
words_of Stopped = []
words_of AuditFailed = []
words_of NoMemory = line_of (codes "poolctl: no memory")
words_of NoThread = line_of (codes "poolctl: no thread")
words_of (Refused text) = string_bytes text
words_of ReadFailed = line_of (codes "poolctl: read failed")
words_of WriteFailed = line_of (codes "poolctl: write failed")

-- how `replay` ends
abbrev pub outcome_of : Result End ReplayError → Outcome
outcome_of (Ok Whole) = Done
outcome_of (Ok (BadLine k)) = Stopped
outcome_of (Ok NoRoom) = Stopped
outcome_of (Err Read) = ReadFailed
outcome_of (Err Write) = WriteFailed

-- with an audit: what it answers comes first
abbrev pub audited_outcome_of : Result (End × Option Verdict) ReplayError → Outcome
audited_outcome_of (Ok (end, None)) = outcome_of (Ok end)
audited_outcome_of (Ok (end, Some (Ok u))) = outcome_of (Ok end)
audited_outcome_of (Ok (end, Some (Err fault))) = AuditFailed
audited_outcome_of (Err e) = outcome_of (Err e)
