-- What is written behind the answers.
use Rattle.std.proofs.Common.{inr, ℕ, ◌≤◌, List, Option, Some, None, Ok, Err, refl, sym, ◌∙◌, subst, arith, Bool, true, false}
use Rattle.event_floor.specs.Floors.{FloorState}
use Rattle.pool_machine.specs.Laws.{RunsKeepNumbers}
use Rattle.trace_audit.specs.FloorSlots.{ShowsPool}
use Rattle.trace_audit.specs.Grammar.{IsHeader}
use Rattle.trace_audit.specs.FloorCounts.{Opens, told}
use Rattle.trace_audit.specs.Machine.{opening_of}
use Rattle.trace_audit.specs.Report.{Verdict}
use Rattle.trace_audit.specs.Steps.{tail_text, Driven, EndsSo, Finishes, IsAsked, IsTold, audit_lines}
use Rattle.trace_audit.specs.Wire.{Begins}
use Rattle.trace_audit.specs.declared.grammar.header.Header.{Header}
use Rattle.trace_audit.specs.declared.replaying.ending.End.{End}
use Rattle.trace_audit.specs.declared.replaying.ending.End.TheVariants.{Whole, BadLine, NoRoom}
use Rattle.trace_audit.specs.declared.replaying.ending.ReplayError.TheVariants.{Write}
use Rattle.trace_audit.proofs.Closings.{begins_longer}

-- ---- audits

-- whether an audit is asked for or not, something may be told
some_told : (audits : Bool) → (audit : Option Verdict) × IsTold audits audit
some_told true = (Some (Ok tt), tt)
some_told false = (None, refl)

-- behind request lines there are closing lines
pub asked : (audits : Bool) (n : ℕ) (rest : List ℕ) (at_end : Type 0) (end : End) (audit : Option Verdict) → EndsSo n rest at_end end → IsTold audits audit → IsAsked audits end audit
asked true n rest at_end Whole audit e t = t
asked true n rest at_end (BadLine k) audit e t = let z = e.2 in inr (omega (arith, z), t)
asked true n rest at_end NoRoom audit e t = absurd e
asked false n rest at_end end audit e t = t

-- the closing lines could not all be written
pub not_closed : (audits : Bool) (floor : FloorState) (end : End) (old new : Option (List ℕ)) → Begins old new (tail_text (told floor) end) → Finishes audits floor end old new (Err Write)
not_closed audits floor end old new h =
    let t = some_told audits in
    (t.0, t.1, begins_longer old new (tail_text (told floor) end) (audit_lines t.0) h)

-- ---- a floor that was driven

-- it shows a pool at first
pub opened_shows : (h : Header) (start : FloorState) → IsHeader h → Opens h start → ShowsPool start
opened_shows h start fits opens = record {
  state = opening_of h;
  passed = λ s. 0;
  shown = opens;
  few_chunks = subst (λ n. n ≤ 1024) (sym opens.frame.chunks) fits.few_chunks;
}

-- and afterwards
pub driven_shows : RunsKeepNumbers → (left0 left out0 out : Option (List ℕ)) (held0 : List ℕ) (start now : FloorState) (end : End)
    → ShowsPool start → Driven left0 left held0 start now out0 out (Ok end) → ShowsPool now
driven_shows numbers left0 left out0 out held0 start now end shows (n, rest, p, ends) =
    let r = p.run shows.state shows.passed shows.shown in
    let kept = numbers p.requests p.answers shows.state r.0 r.2 in
    record {
      state = r.0;
      passed = r.1;
      shown = r.3;
      few_chunks = subst (λ n. n ≤ 1024) (sym (r.3.frame.chunks ∙ (kept.chunks ∙ sym shows.shown.frame.chunks))) shows.few_chunks;
    }
