-- What a replay has written, by how it ends.
use Rattle.std.proofs.Common.{◌≡◌, ℕ, List, Option, Some, None, Result, Ok, Err, refl, sym, ◌∙◌, subst, inl, inr}
use Rattle.trace_audit.specs.Replay.{Replays, ReplaysAudited}
use Rattle.trace_audit.specs.Report.{Verdict}
use Rattle.trace_audit.specs.declared.replaying.ending.End.{End}
use Rattle.trace_audit.specs.declared.replaying.ending.End.TheVariants.{Whole, BadLine, NoRoom}
use Rattle.trace_audit.specs.declared.replaying.ending.ReplayError.{ReplayError}
use Rattle.trace_audit.specs.declared.replaying.ending.ReplayError.TheVariants.{Read, Write}
use Rattle.poolctl.specs.Commands.{BeginsAll, BreaksOff, TellsFault, WritesAll, WritesUpTo}
use Rattle.poolctl.specs.Outcomes.{audited_outcome_of, outcome_of}
use Rattle.poolctl_words.specs.declared.asked.Asked.TheVariants.{Replay, AuditedReplay}
use Rattle.poolctl.specs.declared.outcome.Outcome.{Outcome}
use Rattle.poolctl.specs.declared.outcome.Outcome.TheVariants.{Done, Stopped, AuditFailed, ReadFailed, WriteFailed}

-- done: the report is whole, and the audit behind it says yes
pub all_written : (left0 left out0 out : Option (List ℕ)) (o : Outcome) (r : Result (End × Option Verdict) ReplayError) → o ≡ audited_outcome_of r
    → ReplaysAudited left0 left out0 out r
    → o ≡ Done → WritesAll AuditedReplay left0 left out0 out
all_written a b c d o (Ok (Whole, None)) is report done = elim report.0 [ ]
all_written a b c d o (Ok (Whole, Some (Ok u))) is report done = (Some (Ok u), tt, report)
all_written a b c d o (Ok (Whole, Some (Err e))) is report done = let q : AuditFailed ≡ Done = sym is ∙ done in cc
all_written a b c d o (Ok (BadLine k, None)) is report done = let q : Stopped ≡ Done = sym is ∙ done in cc
all_written a b c d o (Ok (BadLine k, Some (Ok u))) is report done = let q : Stopped ≡ Done = sym is ∙ done in cc
all_written a b c d o (Ok (BadLine k, Some (Err e))) is report done = let q : AuditFailed ≡ Done = sym is ∙ done in cc
all_written a b c d o (Ok (NoRoom, None)) is report done = let q : Stopped ≡ Done = sym is ∙ done in cc
all_written a b c d o (Ok (NoRoom, Some (Ok u))) is report done = let q : Stopped ≡ Done = sym is ∙ done in cc
all_written a b c d o (Ok (NoRoom, Some (Err e))) is report done = let q : AuditFailed ≡ Done = sym is ∙ done in cc
all_written a b c d o (Err Read) is report done = let q : ReadFailed ≡ Done = sym is ∙ done in cc
all_written a b c d o (Err Write) is report done = let q : WriteFailed ≡ Done = sym is ∙ done in cc

-- stopped: the report is that of a trace that isn't whole, and the audit says yes, where there is one
pub written_up_to : (left0 left out0 out : Option (List ℕ)) (o : Outcome) (r : Result (End × Option Verdict) ReplayError) → o ≡ audited_outcome_of r
    → ReplaysAudited left0 left out0 out r
    → o ≡ Stopped → WritesUpTo AuditedReplay left0 left out0 out
written_up_to a b c d o (Ok (Whole, None)) is report stopped = elim report.0 [ ]
written_up_to a b c d o (Ok (Whole, Some (Ok u))) is report stopped = let q : Done ≡ Stopped = sym is ∙ stopped in cc
written_up_to a b c d o (Ok (BadLine k, None)) is report stopped = (BadLine k, (λ q. cc), (None, tt, report))
written_up_to a b c d o (Ok (BadLine k, Some (Ok u))) is report stopped = (BadLine k, (λ q. cc), (Some (Ok u), tt, report))
written_up_to a b c d o (Ok (NoRoom, None)) is report stopped = (NoRoom, (λ q. cc), (None, tt, report))
written_up_to a b c d o (Ok (NoRoom, Some (Ok u))) is report stopped = (NoRoom, (λ q. cc), (Some (Ok u), tt, report))
written_up_to a b c d o (Ok (end, Some (Err e))) is report stopped = let q : AuditFailed ≡ Stopped = sym is ∙ stopped in cc
written_up_to a b c d o (Err Read) is report stopped = let q : ReadFailed ≡ Stopped = sym is ∙ stopped in cc
written_up_to a b c d o (Err Write) is report stopped = let q : WriteFailed ≡ Stopped = sym is ∙ stopped in cc

-- the audit failed: there was no memory for it
pub no_memory_told : (left0 left out0 out : Option (List ℕ)) (o : Outcome) (r : Result (End × Option Verdict) ReplayError) → o ≡ audited_outcome_of r
    → ReplaysAudited left0 left out0 out r
    → o ≡ AuditFailed → TellsFault AuditedReplay left0 left out0 out
no_memory_told a b c d o (Ok (Whole, None)) is report failed = elim report.0 [ ]
no_memory_told a b c d o (Ok (Whole, Some (Ok u))) is report failed = let q : Done ≡ AuditFailed = sym is ∙ failed in cc
no_memory_told a b c d o (Ok (Whole, Some (Err e))) is report failed =
    (Whole, subst (λ f. ReplaysAudited a b c d (Ok (Whole, Some (Err f)))) report.0 report)
no_memory_told a b c d o (Ok (BadLine k, None)) is report failed = let q : Stopped ≡ AuditFailed = sym is ∙ failed in cc
no_memory_told a b c d o (Ok (BadLine k, Some (Ok u))) is report failed = let q : Stopped ≡ AuditFailed = sym is ∙ failed in cc
no_memory_told a b c d o (Ok (BadLine k, Some (Err e))) is (inl h, report) failed = let q : Some (Err e) ≡ None = h.1 in cc
no_memory_told a b c d o (Ok (BadLine k, Some (Err e))) is (inr h, report) failed =
    (BadLine k, subst (λ f. ReplaysAudited a b c d (Ok (BadLine k, Some (Err f)))) h.1 (inr h, report))
no_memory_told a b c d o (Ok (NoRoom, None)) is report failed = let q : Stopped ≡ AuditFailed = sym is ∙ failed in cc
no_memory_told a b c d o (Ok (NoRoom, Some v)) is report failed = let q : Some v ≡ None = report.0 in cc
no_memory_told a b c d o (Err Read) is report failed = let q : ReadFailed ≡ AuditFailed = sym is ∙ failed in cc
no_memory_told a b c d o (Err Write) is report failed = let q : WriteFailed ≡ AuditFailed = sym is ∙ failed in cc

-- the same without an audit
pub plain_all : (left0 left out0 out : Option (List ℕ)) (o : Outcome) (r : Result End ReplayError) → o ≡ outcome_of r → Replays left0 left out0 out r
    → o ≡ Done → WritesAll Replay left0 left out0 out
plain_all a b c d o (Ok Whole) is report done = report
plain_all a b c d o (Ok (BadLine k)) is report done = let q : Stopped ≡ Done = sym is ∙ done in cc
plain_all a b c d o (Ok NoRoom) is report done = let q : Stopped ≡ Done = sym is ∙ done in cc
plain_all a b c d o (Err Read) is report done = let q : ReadFailed ≡ Done = sym is ∙ done in cc
plain_all a b c d o (Err Write) is report done = let q : WriteFailed ≡ Done = sym is ∙ done in cc

pub plain_up_to : (left0 left out0 out : Option (List ℕ)) (o : Outcome) (r : Result End ReplayError) → o ≡ outcome_of r → Replays left0 left out0 out r
    → o ≡ Stopped → WritesUpTo Replay left0 left out0 out
plain_up_to a b c d o (Ok Whole) is report stopped = let q : Done ≡ Stopped = sym is ∙ stopped in cc
plain_up_to a b c d o (Ok (BadLine k)) is report stopped = (BadLine k, (λ q. cc), report)
plain_up_to a b c d o (Ok NoRoom) is report stopped = (NoRoom, (λ q. cc), report)
plain_up_to a b c d o (Err Read) is report stopped = let q : ReadFailed ≡ Stopped = sym is ∙ stopped in cc
plain_up_to a b c d o (Err Write) is report stopped = let q : WriteFailed ≡ Stopped = sym is ∙ stopped in cc

-- a write failed only where the replay says so, and so did a read
pub plain_begun : (left0 left out0 out : Option (List ℕ)) (o : Outcome) (r : Result End ReplayError) → o ≡ outcome_of r → Replays left0 left out0 out r → o ≡ WriteFailed → BeginsAll Replay left0 left out0 out
plain_begun a b c d o (Ok Whole) is report failed = let q : Done ≡ WriteFailed = sym is ∙ failed in cc
plain_begun a b c d o (Ok (BadLine k)) is report failed = let q : Stopped ≡ WriteFailed = sym is ∙ failed in cc
plain_begun a b c d o (Ok NoRoom) is report failed = let q : Stopped ≡ WriteFailed = sym is ∙ failed in cc
plain_begun a b c d o (Err Read) is report failed = let q : ReadFailed ≡ WriteFailed = sym is ∙ failed in cc
plain_begun a b c d o (Err Write) is report failed = report

pub plain_broken_off : (left0 left out0 out : Option (List ℕ)) (o : Outcome) (r : Result End ReplayError) → o ≡ outcome_of r → Replays left0 left out0 out r → o ≡ ReadFailed → BreaksOff Replay left0 left out0 out Read
plain_broken_off a b c d o (Ok Whole) is report failed = let q : Done ≡ ReadFailed = sym is ∙ failed in cc
plain_broken_off a b c d o (Ok (BadLine k)) is report failed = let q : Stopped ≡ ReadFailed = sym is ∙ failed in cc
plain_broken_off a b c d o (Ok NoRoom) is report failed = let q : Stopped ≡ ReadFailed = sym is ∙ failed in cc
plain_broken_off a b c d o (Err Read) is report failed = report
plain_broken_off a b c d o (Err Write) is report failed = let q : WriteFailed ≡ ReadFailed = sym is ∙ failed in cc

-- no Ok of a replay with an audit is one of these
no_failure : (o : Outcome) (end : End) (audit : Option Verdict) → o ≡ audited_outcome_of (Ok (end, audit)) → (o ≡ WriteFailed → ⊥) × (o ≡ ReadFailed → ⊥)
no_failure o end (Some (Err e)) is = ((λ f. let q : AuditFailed ≡ WriteFailed = sym is ∙ f in cc), λ f. let q : AuditFailed ≡ ReadFailed = sym is ∙ f in cc)
no_failure o Whole None is = ((λ f. let q : Done ≡ WriteFailed = sym is ∙ f in cc), λ f. let q : Done ≡ ReadFailed = sym is ∙ f in cc)
no_failure o Whole (Some (Ok u)) is = ((λ f. let q : Done ≡ WriteFailed = sym is ∙ f in cc), λ f. let q : Done ≡ ReadFailed = sym is ∙ f in cc)
no_failure o (BadLine k) None is = ((λ f. let q : Stopped ≡ WriteFailed = sym is ∙ f in cc), λ f. let q : Stopped ≡ ReadFailed = sym is ∙ f in cc)
no_failure o (BadLine k) (Some (Ok u)) is = ((λ f. let q : Stopped ≡ WriteFailed = sym is ∙ f in cc), λ f. let q : Stopped ≡ ReadFailed = sym is ∙ f in cc)
no_failure o NoRoom None is = ((λ f. let q : Stopped ≡ WriteFailed = sym is ∙ f in cc), λ f. let q : Stopped ≡ ReadFailed = sym is ∙ f in cc)
no_failure o NoRoom (Some (Ok u)) is = ((λ f. let q : Stopped ≡ WriteFailed = sym is ∙ f in cc), λ f. let q : Stopped ≡ ReadFailed = sym is ∙ f in cc)

pub all_begun : (left0 left out0 out : Option (List ℕ)) (o : Outcome) (r : Result (End × Option Verdict) ReplayError) → o ≡ audited_outcome_of r → ReplaysAudited left0 left out0 out r
    → o ≡ WriteFailed → BeginsAll AuditedReplay left0 left out0 out
all_begun a b c d o (Ok (end, audit)) is report failed = absurd ((no_failure o end audit is).0 failed)
all_begun a b c d o (Err Read) is report failed = let q : ReadFailed ≡ WriteFailed = sym is ∙ failed in cc
all_begun a b c d o (Err Write) is report failed = report

pub all_broken_off : (left0 left out0 out : Option (List ℕ)) (o : Outcome) (r : Result (End × Option Verdict) ReplayError) → o ≡ audited_outcome_of r → ReplaysAudited left0 left out0 out r
    → o ≡ ReadFailed → BreaksOff AuditedReplay left0 left out0 out Read
all_broken_off a b c d o (Ok (end, audit)) is report failed = absurd ((no_failure o end audit is).1 failed)
all_broken_off a b c d o (Err Read) is report failed = report
all_broken_off a b c d o (Err Write) is report failed = let q : WriteFailed ≡ ReadFailed = sym is ∙ failed in cc
