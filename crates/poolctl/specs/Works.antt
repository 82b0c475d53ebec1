-- What the subcommand `work` prints.
use Rattle.std.specs.Prelude.{ℕ, List, ◌++◌, codes}
use Rattle.trace_audit.specs.Report.{audit_line}
use Rattle.pool_jobs.specs.declared.tally.BufferCounts.{BufferCounts}
use Rattle.pool_jobs.specs.declared.tally.Tally.{Tally}
use Rattle.pool_fabric.specs.declared.found.Found.{Found}
use Rattle.pool_jobs.specs.Ends.{IsAccounted}
use Rattle.poolctl_words.specs.Asked.{workload_name}
use Rattle.poolctl.specs.Lines.{number_line, word_line}
use Rattle.poolctl_words.specs.declared.asked.Work.{Work}

-- the workload, its threads, and what was counted
abbrev pub tally_text : Work → BufferCounts → List ℕ
tally_text w c =
    word_line (codes "workload") (workload_name w.workload) ++ number_line (codes "threads") w.threads
    ++ number_line (codes "allocated") c.allocated ++ number_line (codes "freed") c.freed
    ++ number_line (codes "starved") c.starved ++ number_line (codes "lost") c.lost

-- with the line of the audit
abbrev pub work_text : Work → Tally → List ℕ
work_text w t = tally_text w t.counts ++ audit_line t.audit

-- the tally of a run of the workload, with a desk for each thread, that is accounted for
abbrev pub IsTallyOf : Work → Tally → Type 0
IsTallyOf w t = (chunks : List ℕ) × (found : Found) × IsAccounted chunks w.threads found t
