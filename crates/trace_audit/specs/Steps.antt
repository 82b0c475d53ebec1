-- What the parts of a replay come to. Only contracts of private functions speak of these.
use Rattle.std.specs.Prelude.{ℕ, ◌≡◌, ◌≢◌, ◌⊎◌, ◌+◌, ◌<◌, ◌≤◌, List, [], ◌∷◌, ◌++◌, length, take, drop}
use Rattle.std.specs.Prelude.{Option, Some, None}
use Rattle.std.specs.Prelude.{Result, Ok, Err, Bool, true, false}
use Rattle.std.specs.List.{flat_map, AllByRecursion}
use Rattle.std.specs.Io.KnownBytes.{Appends, Consumes, IsAtEnd}
use Rattle.event_floor.specs.Floors.{FloorState}
use Rattle.pool_machine.specs.declared.request.Request.{Request}
use Rattle.trace_audit.specs.Grammar.{IsRequest}
use Rattle.event_floor.specs.headline.Headline.{Applies}
use Rattle.event_floor.specs.headline.Listing.{listing_of}
use Rattle.pool_machine.specs.State.{State}
use Rattle.pool_machine.specs.Steps.{Answer, Run}
use Rattle.pool_machine.specs.Listing.{Shown}
use Rattle.region_cut.specs.declared.slot.Slot.{Slot}
use Rattle.trace_audit.specs.Limits.{held_limit, request_limit}
use Rattle.trace_audit.specs.FloorCounts.{Tally, tally_lines, told}
use Rattle.trace_audit.specs.FloorSlots.{IsVerdictOn}
use Rattle.trace_audit.specs.Report.{answer_line, audit_line, bad_line, Verdict}
use Rattle.trace_audit.specs.Trace.{BeginsWithRequest}
use Rattle.trace_audit.specs.Replay.{FindsNothing, IsAudited, IsPartial, Replays, ReplaysAudited}
use Rattle.trace_audit.specs.Words.{Lacks, request_line}
use Rattle.trace_audit.specs.Wire.{Begins}
use Rattle.trace_audit.specs.declared.lines.Next.{Next}
use Rattle.trace_audit.specs.declared.lines.Next.TheVariants.{Text, Over, Bad}
use Rattle.trace_audit.specs.declared.replaying.turn.Turn.{Turn}
use Rattle.trace_audit.specs.declared.replaying.turn.Turn.TheVariants as turns
use Rattle.trace_audit.specs.declared.replaying.ending.End.{End}
use Rattle.trace_audit.specs.declared.replaying.ending.End.TheVariants.{Whole, BadLine, NoRoom}
use Rattle.trace_audit.specs.declared.replaying.ending.ReplayError.{ReplayError}
use Rattle.trace_audit.specs.declared.replaying.ending.ReplayError.TheVariants.{Read, Write}

-- the lines behind the answers
abbrev pub tail_text : Tally → End → List ℕ
tail_text tally Whole = tally_lines tally
tail_text tally (BadLine k) = bad_line k ++ tally_lines tally
tail_text tally NoRoom = []

-- the first line of these bytes has so many before its line feed
abbrev pub IsFirstLine : List ℕ → ℕ → Type 0
IsFirstLine bytes count = (bytes ≡ take count bytes ++ 10 ∷ drop (count + 1) bytes) × Lacks 10 (take count bytes)

-- what the next line is: bytes is what was held and what was read, held is what is held then
abbrev pub Took : List ℕ → List ℕ → Type 0 → Next → Type 0
Took bytes held at_end (Text count) = (bytes ≡ held) × IsFirstLine held count
Took bytes held at_end Over = (bytes ≡ []) × (held ≡ []) × at_end
Took bytes held at_end Bad = (bytes ≡ held) × Lacks 10 held
    × ((held_limit ≤ length held) ⊎ ((0 < length held) × at_end))

-- no good line stands at the front, however the input goes on, or as it ends here
abbrev pub IsBadFront : (Good : List ℕ → Type 0) → List ℕ → Type 0 → Type 0
IsBadFront Good bytes at_end = ((more : List ℕ) → Good (bytes ++ more) → ⊥) ⊎ (at_end × (Good bytes → ⊥))

-- What one line came to, or where the reader or the writer failed within it: the floor goes from old to new, the
-- writer's bytes from out0 to out.
abbrev pub Turned : List ℕ → List ℕ → Type 0 → (old new : FloorState) → (out0 out : Option (List ℕ))
    → Result Turn ReplayError → Type 0
Turned bytes held at_end old new out0 out (Ok turns.Answered) = (r : Request) × (x : Answer) × IsRequest r
    × (bytes ≡ request_line r ++ held) × Applies old r x new × Appends out0 out (answer_line x)
Turned bytes held at_end old new out0 out (Ok turns.Over) =
    (bytes ≡ []) × (held ≡ []) × at_end × (new ≡ old) × (out ≡ out0)
Turned bytes held at_end old new out0 out (Ok turns.Bad) =
    (bytes ≢ []) × IsBadFront BeginsWithRequest bytes at_end × (new ≡ old) × (out ≡ out0)
Turned bytes held at_end old new out0 out (Err Read) = (bytes ≡ held) × IsPartial held × (new ≡ old) × (out ≡ out0)
Turned bytes held at_end old new out0 out (Err Write) = (r : Request) × (x : Answer) × IsRequest r
    × (bytes ≡ request_line r ++ held) × Applies old r x new × Begins out0 out (answer_line x)

-- from each state that the first floor shows, the requests with these answers are a run to one that the other shows
abbrev pub Follows : FloorState → List Request → List Answer → FloorState → Type 0
Follows start requests answers now = (st : State) (count : Slot → ℕ) → Shown (listing_of start) st count
    → (end : State) × (count' : Slot → ℕ) × Run st requests answers end × Shown (listing_of now) end count'

-- What was held and what was read are n request lines and a rest; the floor was driven by them, and P holds of the
-- lines of its answers, with the tail behind them.
pub record Played (left0 left : Option (List ℕ)) (held0 rest : List ℕ) (start now : FloorState) (n : ℕ) (tail : List ℕ)
    (P : List ℕ → Type 0) : Type 0 where
  pub given : List ℕ
  pub requests : List Request
  pub answers : List Answer
  pub read : Consumes left0 left given
  pub lines : held0 ++ given ≡ flat_map request_line requests ++ rest
  pub good : AllByRecursion IsRequest requests
  pub number : length requests ≡ n
  pub run : Follows start requests answers now
  pub wrote : P (flat_map answer_line answers ++ tail)

-- how the bytes given end behind a header and n request lines
abbrev pub EndsSo : ℕ → List ℕ → Type 0 → End → Type 0
EndsSo n rest at_end Whole = (n ≤ request_limit) × (rest ≡ []) × at_end
EndsSo n rest at_end (BadLine k) = (n ≤ request_limit) × (rest ≢ []) × (k ≡ n + 2)
    × (IsBadFront BeginsWithRequest rest at_end ⊎ (n ≡ request_limit))
EndsSo n rest at_end NoRoom = ⊥

-- all request lines were read and answered, and how they end was found; or the reader or the writer failed before
abbrev pub Driven : (left0 left : Option (List ℕ)) → List ℕ → (start now : FloorState) → (out0 out : Option (List ℕ))
    → Result End ReplayError → Type 0
Driven left0 left held0 start now out0 out (Ok end) = (n : ℕ) × (rest : List ℕ)
    × Played left0 left held0 rest start now n [] (Appends out0 out) × EndsSo n rest (IsAtEnd left) end
Driven left0 left held0 start now out0 out (Err Read) = (n : ℕ) × (rest : List ℕ)
    × Played left0 left held0 rest start now n [] (Appends out0 out) × (n ≤ request_limit) × IsPartial rest
    × (n ≡ request_limit → rest ≡ [])
Driven left0 left held0 start now out0 out (Err Write) = (n : ℕ) × (rest : List ℕ)
    × Played left0 left held0 rest start now n [] (Begins out0 out) × (n ≤ request_limit)

-- what is answered of an audit that is asked for; nothing where none is
abbrev pub IsTold : Bool → Option Verdict → Type 0
IsTold true audit = FindsNothing audit
IsTold false audit = audit ≡ None

-- the same, behind each end
abbrev pub IsAsked : Bool → End → Option Verdict → Type 0
IsAsked true end audit = IsAudited end audit
IsAsked false end audit = audit ≡ None

-- the line of the audit, where there is one
abbrev pub audit_lines : Option Verdict → List ℕ
audit_lines None = []
audit_lines (Some verdict) = audit_line verdict

-- what an audit of this floor answers, where one is asked for: what is so of the floor's lists
abbrev pub IsFound : Bool → FloorState → Option Verdict → Type 0
IsFound true floor (Some verdict) = IsVerdictOn floor verdict
IsFound true floor None = ⊥
IsFound false floor audit = audit ≡ None

-- the line of the audit of this floor was written where it is asked for, or a beginning of it
abbrev pub TellsAudit : {E : Type 0} → Bool → FloorState → Option (List ℕ) → Option (List ℕ) → Bool
    → Result (Option Verdict) E → Type 0
TellsAudit audits floor old new failed (Ok audit) = IsFound audits floor audit × Appends old new (audit_lines audit)
    × (failed ≡ false)
TellsAudit audits floor old new failed (Err e) = ((audit : Option Verdict) × IsFound audits floor audit
    × Begins old new (audit_lines audit)) × (failed ≡ true)

-- what stands behind the answers was written, or a beginning of it
abbrev pub Finishes : Bool → FloorState → End → (old new : Option (List ℕ))
    → Result (End × Option Verdict) ReplayError → Type 0
Finishes audits floor end old new (Ok r) = (r.0 ≡ end) × IsFound audits floor r.1 × IsTold audits r.1
    × Appends old new (tail_text (told floor) end ++ audit_lines r.1)
Finishes audits floor end old new (Err Read) = ⊥
Finishes audits floor end old new (Err Write) = (audit : Option Verdict) × IsTold audits audit
    × Begins old new (tail_text (told floor) end ++ audit_lines audit)

-- one line was written and no other, or a beginning of it
abbrev pub WritesOnly : List ℕ → End → (old new : Option (List ℕ)) → Result (End × Option Verdict) ReplayError → Type 0
WritesOnly text end old new (Ok r) = (r.0 ≡ end) × (r.1 ≡ None) × Appends old new text
WritesOnly text end old new (Err Read) = ⊥
WritesOnly text end old new (Err Write) = Begins old new text

-- what a replay comes to, with an audit where that is asked for
abbrev pub Replayed : Bool → (left0 left old new : Option (List ℕ)) → Result (End × Option Verdict) ReplayError → Type 0
Replayed true left0 left old new r = ReplaysAudited left0 left old new r
Replayed false left0 left old new (Ok r) = (r.1 ≡ None) × Replays left0 left old new (Ok r.0)
Replayed false left0 left old new (Err e) = Replays left0 left old new (Err e)

-- the same of a reader's bytes from the first on, of which `before` was read already
abbrev pub ReplayedBehind : Bool → List ℕ → (left0 left old new : Option (List ℕ))
    → Result (End × Option Verdict) ReplayError → Type 0
ReplayedBehind audits before left0 left old new r =
    (first : Option (List ℕ)) → Consumes first left0 before → Replayed audits first left old new r
