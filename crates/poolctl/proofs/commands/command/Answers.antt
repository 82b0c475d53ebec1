use Rattle.poolctl_words.proofs.Spelled.{asked_can_run}
use Rattle.poolctl.proofs.Written.{all_begun, all_broken_off, all_written, no_memory_told, plain_all, plain_begun, plain_broken_off, plain_up_to, written_up_to}
use Rattle.poolctl_words.specs.declared.asked.Asked.TheVariants.{Replay, AuditedReplay}
use Rattle.poolctl.proofs.commands.command.Goals as goal

pub returns-in-Ok-Replay-clause-done : goal.returns-in-Ok-Replay-clause-done
returns-in-Ok-Replay-clause-done g c = λ done. (
  Replay,
  (rw c.in-Ok-Replay.field-0-is at c.in-Ok-Replay.ensures.asked),
  plain_all _ _ _ _ _ _ c.replayed.ensures c.replay.ensures.replayed done,
)

pub returns-in-Ok-Replay-clause-stopped : goal.returns-in-Ok-Replay-clause-stopped
returns-in-Ok-Replay-clause-stopped g c = λ stopped. (
  Replay,
  (rw c.in-Ok-Replay.field-0-is at c.in-Ok-Replay.ensures.asked),
  plain_up_to _ _ _ _ _ _ c.replayed.ensures c.replay.ensures.replayed stopped,
)

pub returns-in-Ok-AuditedReplay-clause-done : goal.returns-in-Ok-AuditedReplay-clause-done
returns-in-Ok-AuditedReplay-clause-done g c = λ done. (
  AuditedReplay,
  (rw c.in-Ok-AuditedReplay.field-0-is at c.in-Ok-AuditedReplay.ensures.asked),
  all_written _ _ _ _ _ _ c.audited.ensures c.replay_audited.ensures.replayed done,
)

pub returns-in-Ok-AuditedReplay-clause-stopped : goal.returns-in-Ok-AuditedReplay-clause-stopped
returns-in-Ok-AuditedReplay-clause-stopped g c = λ stopped. (
  AuditedReplay,
  (rw c.in-Ok-AuditedReplay.field-0-is at c.in-Ok-AuditedReplay.ensures.asked),
  written_up_to _ _ _ _ _ _ c.audited.ensures c.replay_audited.ensures.replayed stopped,
)

pub returns-in-Ok-AuditedReplay-clause-audit : goal.returns-in-Ok-AuditedReplay-clause-audit
returns-in-Ok-AuditedReplay-clause-audit g c = λ failed. (
  AuditedReplay,
  (rw c.in-Ok-AuditedReplay.field-0-is at c.in-Ok-AuditedReplay.ensures.asked),
  no_memory_told _ _ _ _ _ _ c.audited.ensures c.replay_audited.ensures.replayed failed,
)

pub run_work-requires-clause-runs : goal.run_work-requires-clause-runs
run_work-requires-clause-runs g c κs within =
    asked_can_run _ c.in-Ok-Work.work (rw c.in-Ok-Work.field-0-is at c.in-Ok-Work.ensures.asked)

pub returns-in-Ok-Replay-clause-begun : goal.returns-in-Ok-Replay-clause-begun
returns-in-Ok-Replay-clause-begun g c = λ failed. (
  Replay,
  (rw c.in-Ok-Replay.field-0-is at c.in-Ok-Replay.ensures.asked),
  plain_begun _ _ _ _ _ _ c.replayed.ensures c.replay.ensures.replayed failed,
)

pub returns-in-Ok-AuditedReplay-clause-begun : goal.returns-in-Ok-AuditedReplay-clause-begun
returns-in-Ok-AuditedReplay-clause-begun g c = λ failed. (
  AuditedReplay,
  (rw c.in-Ok-AuditedReplay.field-0-is at c.in-Ok-AuditedReplay.ensures.asked),
  all_begun _ _ _ _ _ _ c.audited.ensures c.replay_audited.ensures.replayed failed,
)

pub returns-in-Ok-Replay-clause-broken_off : goal.returns-in-Ok-Replay-clause-broken_off
returns-in-Ok-Replay-clause-broken_off g c = λ failed. (
  Replay,
  (rw c.in-Ok-Replay.field-0-is at c.in-Ok-Replay.ensures.asked),
  plain_broken_off _ _ _ _ _ _ c.replayed.ensures c.replay.ensures.replayed failed,
)

pub returns-in-Ok-AuditedReplay-clause-broken_off : goal.returns-in-Ok-AuditedReplay-clause-broken_off
returns-in-Ok-AuditedReplay-clause-broken_off g c = λ failed. (
  AuditedReplay,
  (rw c.in-Ok-AuditedReplay.field-0-is at c.in-Ok-AuditedReplay.ensures.asked),
  all_broken_off _ _ _ _ _ _ c.audited.ensures c.replay_audited.ensures.replayed failed,
)
