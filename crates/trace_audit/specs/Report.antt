-- The lines of a report; 10 is the line feed.
use Rattle.std.specs.Prelude.{ℕ, ◌==◌, ◌&&◌, sum_by, nat_lt, List, [], ◌∷◌, ◌++◌, codes, decimal, Result}
use Rattle.std.specs.Prelude.{Ok, Err, if◌then◌else◌}
use Rattle.region_cut.specs.Slots.{printed}
use Rattle.slot_chain.specs.Counts.{capped}
use Rattle.pool_machine.specs.declared.reply.Reply.{Reply}
use Rattle.pool_machine.specs.declared.reply.Reply.TheVariants.{Done, Chunk, Slot, Home, Cached, Due, Batch}
use Rattle.pool_machine.specs.declared.reply.Reply.TheVariants.{Counts as Handled}
use Rattle.pool_machine.specs.Steps.{Answer}
use Rattle.pool_machine.specs.RefusalNames.{refusal_row}
use Rattle.slot_audit.specs.declared.fault.Fault.{Fault}
use Rattle.slot_audit.specs.declared.fault.Fault.TheVariants.{Stranger, Doubled, Missing, NoMemory}
use Rattle.trace_audit.specs.declared.report.closing.DeskCounts.{DeskCounts}

abbrev pub reply_text : Reply → List ℕ
reply_text Done = codes "ok"
reply_text (Chunk k) = codes "chunk " ++ decimal k
reply_text (Slot s) = codes "slot " ++ printed s
reply_text Home = codes "home"
reply_text Cached = codes "cached"
reply_text Due = codes "due"
reply_text (Batch number count) = codes "batch " ++ decimal number ++ codes " " ++ decimal count
reply_text (Handled home on) = codes "home " ++ decimal home ++ codes " on " ++ decimal on

-- a number below 100, with two digits
abbrev pub two_digits : ℕ → List ℕ
two_digits n = (if nat_lt n 10 then codes "0" else []) ++ decimal n

-- the line of an answer: of a reply, or of a refusal, as `R04 NeedChunk`
abbrev pub answer_line : Answer → List ℕ
answer_line (Ok reply) = reply_text reply ++ 10 ∷ []
answer_line (Err r) = codes "R" ++ two_digits (refusal_row r).0 ++ codes " " ++ (refusal_row r).1 ++ 10 ∷ []

-- the line of a bad line
abbrev pub bad_line : ℕ → List ℕ
bad_line n = codes "R17 BadLine " ++ decimal n ++ 10 ∷ []

abbrev pub fault_text : Fault → List ℕ
fault_text (Stranger s) = codes "stranger " ++ printed s
fault_text (Doubled s) = codes "doubled " ++ printed s
fault_text (Missing s) = codes "missing " ++ printed s
fault_text NoMemory = codes "no memory"

-- what an audit answers
abbrev pub Verdict : Type 0
Verdict = Result (Unit {0}) Fault

-- the line of an audit
abbrev pub audit_line : Verdict → List ℕ
audit_line (Ok u) = codes "audit yes" ++ 10 ∷ []
audit_line (Err fault) = codes "audit " ++ fault_text fault ++ 10 ∷ []

-- the three counts, and the line's end
abbrev pub counts_text : DeskCounts → List ℕ
counts_text c = codes " home " ++ decimal c.home ++ codes " cached " ++ decimal c.cached ++ codes " queued "
    ++ decimal c.queued ++ 10 ∷ []

-- the line of desk a; nothing where it has nothing
abbrev pub desk_line : ℕ → DeskCounts → List ℕ
desk_line a c =
    if (c.home == 0) && (c.cached == 0) && (c.queued == 0) then [] else codes "desk " ++ decimal a ++ counts_text c

-- the sums over the desks; a sum stops at the greatest u64
abbrev pub total : List DeskCounts → DeskCounts
total cs = record {
  home = capped (sum_by (λ c. c.home) cs);
  cached = capped (sum_by (λ c. c.cached) cs);
  queued = capped (sum_by (λ c. c.queued) cs);
}
