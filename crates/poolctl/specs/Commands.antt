-- What a command has written, by what was asked for.
use Rattle.std.specs.Prelude.{ℕ, ◌≡◌, ◌≢◌, List, Option, Some, None, Ok, Err, IsOk, IsErr, ⊤}
use Rattle.std.specs.Io.KnownBytes.{Appends}
use Rattle.region_cut.specs.Classes.{classes_of}
use Rattle.trace_audit.specs.Replay.{Replays, ReplaysAudited}
use Rattle.trace_audit.specs.Report.{Verdict}
use Rattle.trace_audit.specs.Wire.{Begins}
use Rattle.slot_audit.specs.declared.fault.Fault.TheVariants.{NoMemory}
use Rattle.trace_audit.specs.declared.replaying.ending.End.{End}
use Rattle.trace_audit.specs.declared.replaying.ending.End.TheVariants.{Whole}
use Rattle.trace_audit.specs.declared.replaying.ending.ReplayError.{ReplayError}
use Rattle.trace_audit.specs.declared.replaying.ending.ReplayError.TheVariants.{Write}
use Rattle.poolctl_words.specs.Asked.{Asks}
use Rattle.poolctl.specs.Classes.{class_lines}
use Rattle.pool_jobs.specs.declared.tally.Tally.{Tally}
use Rattle.poolctl.specs.Routes.{route_text}
use Rattle.poolctl.specs.Works.{work_text}
use Rattle.poolctl_words.specs.declared.asked.Asked.{Asked}
use Rattle.poolctl_words.specs.declared.asked.Asked.TheVariants.{Classes, Route, Replay, AuditedReplay, Work}

-- the audit says yes, where there is one
abbrev pub SaysYes : Option Verdict → Type 0
SaysYes None = ⊤
SaysYes (Some (Ok u)) = ⊤
SaysYes (Some (Err fault)) = ⊥

-- the report of a trace with this end was written: alone, or with `audit yes` behind it wherever an audit has a line
abbrev pub WritesReport : Asked → Option (List ℕ) → Option (List ℕ) → Option (List ℕ) → Option (List ℕ) → End
    → Type 0
WritesReport Replay left0 left out0 out end = Replays left0 left out0 out (Ok end)
WritesReport AuditedReplay left0 left out0 out end =
    (audit : Option Verdict) × SaysYes audit × ReplaysAudited left0 left out0 out (Ok (end, audit))
WritesReport _ left0 left out0 out end = ⊥

-- all that was asked for was written: the classes of a profile, a route, the report of a whole trace, or what a
-- workload counted and that its audit says yes; and only a replay reads
abbrev pub WritesAll : Asked → Option (List ℕ) → Option (List ℕ) → Option (List ℕ) → Option (List ℕ) → Type 0
WritesAll (Classes p) left0 left out0 out = (left ≡ left0) × Appends out0 out (class_lines (classes_of p))
WritesAll (Route r) left0 left out0 out = (left ≡ left0) × Appends out0 out (route_text r.digits r.from r.owner)
WritesAll (Work w) left0 left out0 out =
    (left ≡ left0) × (t : Tally) × IsOk t.audit × Appends out0 out (work_text w t)
WritesAll replay left0 left out0 out = WritesReport replay left0 left out0 out Whole

-- the report of a trace that isn't whole was written
abbrev pub WritesUpTo : Asked → Option (List ℕ) → Option (List ℕ) → Option (List ℕ) → Option (List ℕ) → Type 0
WritesUpTo asked left0 left out0 out = (end : End) × (end ≢ Whole) × WritesReport asked left0 left out0 out end

-- a report was written, and behind its closing lines that there was no memory for its audit; or what a workload
-- counted, and behind it what its audit found
abbrev pub TellsFault : Asked → Option (List ℕ) → Option (List ℕ) → Option (List ℕ) → Option (List ℕ) → Type 0
TellsFault AuditedReplay left0 left out0 out =
    (end : End) × ReplaysAudited left0 left out0 out (Ok (end, Some (Err NoMemory)))
TellsFault (Work w) left0 left out0 out =
    (left ≡ left0) × (t : Tally) × IsErr t.audit × Appends out0 out (work_text w t)
TellsFault _ left0 left out0 out = ⊥

-- a replay broke off at this error: what it had written by then
abbrev pub BreaksOff : Asked → Option (List ℕ) → Option (List ℕ) → Option (List ℕ) → Option (List ℕ) → ReplayError
    → Type 0
BreaksOff Replay left0 left out0 out e = Replays left0 left out0 out (Err e)
BreaksOff AuditedReplay left0 left out0 out e = ReplaysAudited left0 left out0 out (Err e)
BreaksOff _ left0 left out0 out e = ⊥

-- a beginning of what was asked for was written, and nothing else; only a replay reads
abbrev pub BeginsAll : Asked → Option (List ℕ) → Option (List ℕ) → Option (List ℕ) → Option (List ℕ) → Type 0
BeginsAll (Classes p) left0 left out0 out = (left ≡ left0) × Begins out0 out (class_lines (classes_of p))
BeginsAll (Route r) left0 left out0 out = (left ≡ left0) × Begins out0 out (route_text r.digits r.from r.owner)
BeginsAll (Work w) left0 left out0 out = (left ≡ left0) × (t : Tally) × Begins out0 out (work_text w t)
BeginsAll replay left0 left out0 out = BreaksOff replay left0 left out0 out Write

-- a beginning of the lines of the classes was written
abbrev pub BeginsClasses : Asked → Option (List ℕ) → Option (List ℕ) → Type 0
BeginsClasses (Classes p) out0 out = Begins out0 out (class_lines (classes_of p))
BeginsClasses _ out0 out = ⊥

abbrev pub IsWorkload : Asked → Type 0
IsWorkload (Work w) = ⊤
IsWorkload _ = ⊥

-- the words ask for what P holds of
abbrev pub AsksFor : List (List ℕ) → (Asked → Type 0) → Type 0
AsksFor words P = (asked : Asked) × Asks words asked × P asked
