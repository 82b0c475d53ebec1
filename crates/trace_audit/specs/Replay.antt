-- What a replay reads, how it ends, and what it writes.
use Rattle.std.specs.Prelude.{ℕ, ◌≡◌, ◌≢◌, ◌⊎◌, ◌<◌, ◌≤◌, List, [], ◌∷◌, ◌++◌, length, slice_index, codes, Option, Some}
use Rattle.std.specs.Prelude.{None, Result, Ok, Err, Bool, true, false, ⊤}
use Rattle.std.specs.List.{flat_map}
use Rattle.std.specs.Io.KnownBytes.{Appends, Consumes, IsAtEnd}
use Rattle.pool_machine.specs.State.{State}
use Rattle.pool_machine.specs.Steps.{Answer, Run}
use Rattle.pool_machine.specs.declared.request.Request.{Request}
use Rattle.trace_audit.specs.Limits.{line_limit, request_limit}
use Rattle.trace_audit.specs.Machine.{opening_of, closing}
use Rattle.trace_audit.specs.Trace.{BeginsWithHeader, IsTrace}
use Rattle.trace_audit.specs.Report.{answer_line, bad_line, Verdict, audit_line}
use Rattle.trace_audit.specs.Wire.{Begins}
use Rattle.slot_audit.specs.declared.fault.Fault.TheVariants.{NoMemory}
use Rattle.trace_audit.specs.declared.grammar.header.Header.{Header}
use Rattle.trace_audit.specs.declared.replaying.ending.End.{End}
use Rattle.trace_audit.specs.declared.replaying.ending.End.TheVariants.{Whole, BadLine, NoRoom}
use Rattle.trace_audit.specs.declared.replaying.ending.ReplayError.{ReplayError}
use Rattle.trace_audit.specs.declared.replaying.ending.ReplayError.TheVariants.{Read, Write}

-- ---- the report of a trace

-- the bytes are a trace with this end, and P holds of its requests, of the lines of the pool's answers and of the pool
-- afterwards
pub record Answered (bytes : List ℕ) (end : End) (P : List Request → List ℕ → State → Type 0) : Type 0 where
  pub header : Header
  pub requests : List Request
  pub answers : List Answer
  pub now : State
  pub trace : IsTrace bytes header requests end
  pub run : Run (opening_of header) requests answers now
  pub holds : P requests (flat_map answer_line answers) now

-- The bytes have this end, and P holds of their report and of nothing else: of the lines of the answers, that of a bad
-- line and the closing lines; or of one line alone where no good header line stands first, or where there is no room.
abbrev pub ReportsTrace : List ℕ → (List ℕ → Type 0) → End → Type 0
ReportsTrace bytes P Whole = Answered bytes Whole (λ requests lines now. P (lines ++ closing now))
ReportsTrace bytes P (BadLine k) =
    Answered bytes (BadLine k) (λ requests lines now. P (lines ++ (bad_line k ++ closing now)))
    ⊎ ((k ≡ 1) × (BeginsWithHeader bytes → ⊥) × P (bad_line 1))
ReportsTrace bytes P NoRoom = BeginsWithHeader bytes × P (codes "R15 NoMemory" ++ 10 ∷ [])

-- ---- a replay

-- Q holds of all of the reader's bytes: of what it gave with whatever stands behind it, which is nothing where the
-- reader is at its end. So it holds of the bytes that the reader had, where they are known.
abbrev pub HoldsOfAll : Option (List ℕ) → Option (List ℕ) → (List ℕ → Type 0) → Type 0
HoldsOfAll left0 left Q = (given : List ℕ) × Consumes left0 left given
    × ((more : List ℕ) → (IsAtEnd left → more ≡ []) → Q (given ++ more))

-- the beginning of a line of which it is not yet known that it is bad: it has no line feed, and at most 64 bytes
abbrev pub IsPartial : List ℕ → Type 0
IsPartial bytes = ((k : ℕ) → k < length bytes → slice_index bytes k ≢ 10) × (length bytes ≤ line_limit)

-- No bad line is known in the bytes, and the lines of the answers to all whole request lines were written; none where
-- not even a header line is whole.
abbrev pub AnswersLines : List ℕ → (old new : Option (List ℕ)) → Type 0
AnswersLines bytes old new = (IsPartial bytes × Appends old new [])
    ⊎ ((whole : List ℕ) × (rest : List ℕ) × (bytes ≡ whole ++ rest) × IsPartial rest
    × Answered whole Whole (λ requests lines _. (length requests ≡ request_limit → rest ≡ []) × Appends old new lines))

-- What a replay comes to, by its answer. Ok: all bytes have this end, and their report was written. Read: the lines of
-- these answers were, and no closing line. Write: a beginning of the report of all bytes was. And nothing else.
abbrev pub Replays : (left0 left old new : Option (List ℕ)) → Result End ReplayError → Type 0
Replays left0 left old new (Ok end) = HoldsOfAll left0 left (λ bytes. ReportsTrace bytes (Appends old new) end)
Replays left0 left old new (Err Read) = (given : List ℕ) × Consumes left0 left given × AnswersLines given old new
Replays left0 left old new (Err Write) =
    HoldsOfAll left0 left (λ bytes. (end : End) × ReportsTrace bytes (Begins old new) end)

abbrev pub error_number : ReplayError → ℕ
error_number Read = 1
error_number Write = 2

-- which of the two failed
abbrev pub Failures : {A : Type 0} → Bool → Bool → Result A ReplayError → Type 0
Failures reader writer (Ok x) = (reader ≡ false) × (writer ≡ false)
Failures reader writer (Err Read) = (reader ≡ true) × (writer ≡ false)
Failures reader writer (Err Write) = (reader ≡ false) × (writer ≡ true)

-- ---- with the line of an audit

-- P holds of the report with the line of the audit behind it, where there is one
abbrev pub with_audit : Option Verdict → (List ℕ → Type 0) → List ℕ → Type 0
with_audit None P = P
with_audit (Some verdict) P = λ report. P (report ++ audit_line verdict)

-- there was an audit: it found nothing wrong, or there was no memory for it
abbrev pub FindsNothing : Option Verdict → Type 0
FindsNothing None = ⊥
FindsNothing (Some (Ok u)) = ⊤
FindsNothing (Some (Err fault)) = fault ≡ NoMemory

-- so it is behind closing lines; behind one line alone there is no audit
abbrev pub IsAudited : End → Option Verdict → Type 0
IsAudited Whole audit = FindsNothing audit
IsAudited (BadLine k) audit = ((k ≡ 1) × (audit ≡ None)) ⊎ ((1 < k) × FindsNothing audit)
IsAudited NoRoom audit = audit ≡ None

-- What a replay with an audit comes to: the same, with the line of such an audit behind the report.
abbrev pub ReplaysAudited : (left0 left old new : Option (List ℕ)) → Result (End × Option Verdict) ReplayError → Type 0
ReplaysAudited left0 left old new (Ok r) = IsAudited r.0 r.1
    × HoldsOfAll left0 left (λ bytes. ReportsTrace bytes (with_audit r.1 (Appends old new)) r.0)
ReplaysAudited left0 left old new (Err Read) = (given : List ℕ) × Consumes left0 left given × AnswersLines given old new
ReplaysAudited left0 left old new (Err Write) = HoldsOfAll left0 left (λ bytes. (end : End) × (audit : Option Verdict)
    × IsAudited end audit × ReportsTrace bytes (with_audit audit (Begins old new)) end)
