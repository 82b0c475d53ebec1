-- What a replay comes to behind its header.
use Rattle.std.proofs.Common.{◌≡◌, inr, ℕ, ◌+◌, ◌≤◌, List, [], ◌∷◌, ◌++◌, length, Option, Some, None, Result, Ok, Err, Bool, true, false, refl, sym, ◌∙◌, ap, subst, arith, append_assoc, append-nil, length-append}
use Rattle.std.specs.List.{flat_map}
use Rattle.std.specs.Io.KnownBytes.{Appends, Consumes, IsAtEnd}
use Rattle.std.proofs.KnownBytes.{Appends-trans, Consumes-nil, Consumes-trans}
use Rattle.std.proofs.lemmas.Grind.{flat_map-append}
use Rattle.event_floor.specs.Floors.{FloorState}
use Rattle.pool_machine.specs.Laws.{RequestsAreAnswered}
use Rattle.trace_audit.specs.Grammar.{IsHeader, header_text}
use Rattle.trace_audit.specs.FloorCounts.{Opens, told}
use Rattle.trace_audit.specs.Machine.{opening_of}
use Rattle.trace_audit.specs.Report.{Verdict, answer_line}
use Rattle.trace_audit.specs.Trace.{EndsTrace}
use Rattle.trace_audit.specs.Words.{header_line, request_line}
use Rattle.trace_audit.specs.Replay.{AnswersLines, HoldsOfAll, IsAudited, ReportsTrace, with_audit}
use Rattle.trace_audit.specs.Steps.{tail_text, Driven, EndsSo, Finishes, IsAsked, Played, Replayed, ReplayedBehind, WritesOnly, audit_lines}
use Rattle.trace_audit.specs.Wire.{Begins}
use Rattle.trace_audit.specs.declared.grammar.header.Header.{Header}
use Rattle.trace_audit.specs.declared.replaying.ending.End.{End}
use Rattle.trace_audit.specs.declared.replaying.ending.End.TheVariants.{Whole, BadLine, NoRoom}
use Rattle.trace_audit.specs.declared.replaying.ending.ReplayError.{ReplayError}
use Rattle.trace_audit.specs.declared.replaying.ending.ReplayError.TheVariants.{Read, Write}
use Rattle.trace_audit.proofs.Closings.{begins_longer}
use Rattle.trace_audit.proofs.Finishes.{asked}
use Rattle.trace_audit.proofs.Goings.{goes_on}
use Rattle.trace_audit.proofs.Plays.{begins_more, played_tail}
use Rattle.trace_audit.proofs.Runs.{all_both, longer_text, run_on, some_run}
use Rattle.trace_audit.proofs.Tallies.{MachineLaws, reached, told_tail}
use Rattle.trace_audit.proofs.WholeTraces.{ReportsLines, as_report, behind, few_lines, tail_of, trace_ends}

-- ---- the line of an audit

as_audited : (audit : Option Verdict) (P : List ℕ → Type 0) (report : List ℕ) → P (report ++ audit_lines audit) → with_audit audit P report
as_audited None P report h = subst P (append-nil report) h
as_audited (Some verdict) P report h = h

-- a beginning of the report of the bytes was written, and of the line of an audit where that is asked for
abbrev BeginsReport : Bool → (old new : Option (List ℕ)) → List ℕ → Type 0
BeginsReport audits old new bytes =
    (end : End) × (audit : Option Verdict) × IsAsked audits end audit × ReportsTrace bytes (with_audit audit (Begins old new)) end

-- from a report with the line of its audit, where there is one, to what a replay comes to
came_to : (audits : Bool) (left0 left old new : Option (List ℕ)) (r : End × Option Verdict) → IsAsked audits r.0 r.1
    → HoldsOfAll left0 left (λ bytes. ReportsTrace bytes (with_audit r.1 (Appends old new)) r.0) → Replayed audits left0 left old new (Ok r)
came_to true left0 left old new r told h = (told, h)
came_to false left0 left old new r none h =
    (none, subst (λ (a : Option Verdict). HoldsOfAll left0 left (λ bytes. ReportsTrace bytes (with_audit a (Appends old new)) r.0)) none h)

write_failed : (audits : Bool) (left0 left old new : Option (List ℕ)) → HoldsOfAll left0 left (BeginsReport audits old new) → Replayed audits left0 left old new (Err Write)
write_failed true left0 left old new h = h
write_failed false left0 left old new (given, read, h) = (given, read, λ more none. plain (given ++ more) (h more none))
  where
    plain : (bytes : List ℕ) → BeginsReport false old new bytes → (end : End) × ReportsTrace bytes (Begins old new) end
    plain bytes (end, audit, none, report) = (end, subst (λ (a : Option Verdict). ReportsTrace bytes (with_audit a (Begins old new)) end) none report)

pub read_failed : (audits : Bool) (left0 left old new : Option (List ℕ)) (given : List ℕ) → Consumes left0 left given → AnswersLines given old new → Replayed audits left0 left old new (Err Read)
read_failed true left0 left old new given read lines = (given, read, lines)
read_failed false left0 left old new given read lines = (given, read, lines)

-- behind request lines each end may have an audit
some_audit : (n : ℕ) (rest : List ℕ) (end : End) → EndsTrace n rest end → (audit : Option Verdict) × IsAudited end audit
some_audit n rest Whole e = (Some (Ok tt), tt)
some_audit n rest (BadLine k) e = let z = e.1 in (Some (Ok tt), inr (omega (arith, z), tt))
some_audit n rest NoRoom e = absurd e

some_asked : (audits : Bool) (n : ℕ) (rest : List ℕ) (end : End) → EndsTrace n rest end → (audit : Option Verdict) × IsAsked audits end audit
some_asked true n rest end e = some_audit n rest end e
some_asked false n rest end e = (None, refl)

-- ---- one line, and no other

pub only_line : (audits : Bool) (left0 left old new : Option (List ℕ)) (text text' : List ℕ) (end : End) (r : Result (End × Option Verdict) ReplayError)
    → text' ≡ text → IsAsked audits end None → ((P : List ℕ → Type 0) → P text → HoldsOfAll left0 left (λ bytes. ReportsTrace bytes P end))
    → WritesOnly text' end old new r → Replayed audits left0 left old new r
only_line audits left0 left old new text text' end (Ok x) same told all (is, none, wrote) =
    came_to audits left0 left old new x
    (subst (λ (e : End). IsAsked audits e x.1) (sym is) (subst (λ (a : Option Verdict). IsAsked audits end a) (sym none) told))
    (subst (λ (e : End). HoldsOfAll left0 left (λ bytes. ReportsTrace bytes (with_audit x.1 (Appends old new)) e)) (sym is)
    (subst (λ (a : Option Verdict). HoldsOfAll left0 left (λ bytes. ReportsTrace bytes (with_audit a (Appends old new)) end)) (sym none)
    (all (Appends old new) (subst (λ (w : List ℕ). Appends old new w) same wrote))))
only_line audits left0 left old new text text' end (Err Read) same told all none = absurd none
only_line audits left0 left old new text text' end (Err Write) same told all wrote =
    let b = all (Begins old new) (subst (λ (w : List ℕ). Begins old new w) same wrote) in
    write_failed audits left0 left old new (b.0, b.1, λ more none. (end, None, told, b.2 more none))

-- ---- a floor of the header was driven

module _ (h : Header) (fits : IsHeader h) (start : FloorState) (opens : Opens h start) where
  all_lines : (held0 given more lines rest : List ℕ) → held0 ++ given ≡ lines ++ rest → (header_line h ++ held0) ++ (given ++ more) ≡ header_text h ++ 10 ∷ (lines ++ (rest ++ more))
  all_lines held0 given more lines rest e =
      append_assoc (header_line h) held0 (given ++ more)
      ∙ ap (λ w. header_line h ++ w) (sym (append_assoc held0 given more) ∙ (ap (λ w. w ++ more) e ∙ append_assoc lines rest more))
      ∙ append_assoc (header_text h) (10 ∷ []) (lines ++ (rest ++ more))

  -- P holds of the report
  settled : MachineLaws → (first left0 left : Option (List ℕ)) (held0 rest : List ℕ) (now : FloorState) (n : ℕ) (end : End) (P : List ℕ → Type 0)
      → Played left0 left held0 rest start now n (tail_text (told now) end) P → EndsSo n rest (IsAtEnd left) end
      → Consumes first left0 (header_line h ++ held0) → HoldsOfAll first left (λ bytes. ReportsTrace bytes P end)
  settled laws first left0 left held0 rest now n end P p ends read =
      behind first left0 left (header_line h ++ held0) p.given (λ bytes. ReportsTrace bytes P end) read p.read
      (λ more none. as_report _ P n (rest ++ more) end (trace_ends n rest more (IsAtEnd left) end none ends) (lines more none))
    where
      lines : (more : List ℕ) → (IsAtEnd left → more ≡ []) → ReportsLines ((header_line h ++ held0) ++ (p.given ++ more)) P end
      lines more none = record {
        header = h;
        requests = p.requests;
        answers = p.answers;
        now = reached h start now p.requests p.answers opens p.run;
        trace = record {
          header = fits;
          rest = rest ++ more;
          lines = all_lines held0 p.given more (flat_map request_line p.requests) rest p.lines;
          good = p.good;
          few = rw p.number (few_lines n rest (IsAtEnd left) end ends);
          ends = rw p.number (trace_ends n rest more (IsAtEnd left) end none ends);
        };
        run = (p.run (opening_of h) (λ s. 0) opens).2;
        holds = subst (λ (w : List ℕ). P (flat_map answer_line p.answers ++ w)) (told_tail laws h start now p.requests p.answers end fits opens p.run) p.wrote;
      }

  -- what was written is a beginning of the report of what was answered so far, and of what would be answered to the rest
  begun : RequestsAreAnswered → (audits : Bool) (first left0 left out0 out : Option (List ℕ)) (held0 rest : List ℕ) (now : FloorState) (n : ℕ)
      → Played left0 left held0 rest start now n [] (Begins out0 out) → n ≤ 999999 → Consumes first left0 (header_line h ++ held0)
      → HoldsOfAll first left (BeginsReport audits out0 out)
  begun law audits first left0 left out0 out held0 rest now n p low read =
      behind first left0 left (header_line h ++ held0) p.given (BeginsReport audits out0 out) read p.read (λ more none. whole more)
    where
      whole : (more : List ℕ) → BeginsReport audits out0 out ((header_line h ++ held0) ++ (p.given ++ more))
      whole more =
          let reached_state = reached h start now p.requests p.answers opens p.run in
          let g = goes_on n (rest ++ more) low in
          let u = some_run law reached_state g.requests in
          let a = some_asked audits (n + length g.requests) g.rest g.end g.ends in
          let count : n + length g.requests ≡ length (p.requests ++ g.requests) = ap (λ k. k + length g.requests) (sym p.number) ∙ sym (length-append p.requests g.requests) in (
            g.end,
            a.0,
            a.1,
            as_report _ (with_audit a.0 (Begins out0 out)) (n + length g.requests) g.rest g.end g.ends (record {
              header = h;
              requests = p.requests ++ g.requests;
              answers = p.answers ++ u.0;
              now = u.1;
              trace = record {
                header = fits;
                rest = g.rest;
                lines = all_lines held0 p.given more (flat_map request_line p.requests) rest p.lines
                    ∙ ap (λ w. header_text h ++ 10 ∷ w) (ap (λ w. flat_map request_line p.requests ++ w) g.lines
                    ∙ (sym (append_assoc (flat_map request_line p.requests) (flat_map request_line g.requests) g.rest)
                    ∙ ap (λ w. w ++ g.rest) (sym (flat_map-append request_line p.requests g.requests))));
                good = all_both p.requests g.requests p.good g.good;
                few = subst (λ k. k ≤ 999999) count g.few;
                ends = subst (λ k. EndsTrace k g.rest g.end) count g.ends;
              };
              run = run_on (opening_of h) reached_state u.1 p.requests g.requests p.answers u.0 (p.run (opening_of h) (λ s. 0) opens).2 u.2;
              holds = as_audited a.0 (Begins out0 out) (flat_map answer_line (p.answers ++ u.0) ++ tail_of u.1 g.end)
                  (begins_longer out0 out (flat_map answer_line (p.answers ++ u.0) ++ tail_of u.1 g.end) (audit_lines a.0)
                  (subst (Begins out0 out) (longer_text p.answers u.0 (tail_of u.1 g.end))
                  (begins_longer out0 out (flat_map answer_line p.answers ++ []) (flat_map answer_line u.0 ++ tail_of u.1 g.end) p.wrote)));
            }),
          )

  -- P holds of the report with the line of its audit, where there is one
  ended : MachineLaws → (first left0 left out0 out : Option (List ℕ)) (held0 rest : List ℕ) (now : FloorState) (n : ℕ) (end : End) (audit : Option Verdict) (P : List ℕ → Type 0)
      → Played left0 left held0 rest start now n [] (Appends out0 out) → EndsSo n rest (IsAtEnd left) end
      → ((text : List ℕ) → Appends out0 out text → P (text ++ (tail_text (told now) end ++ audit_lines audit)))
      → Consumes first left0 (header_line h ++ held0) → HoldsOfAll first left (λ bytes. ReportsTrace bytes (with_audit audit P) end)
  ended laws first left0 left out0 out held0 rest now n end audit P p ends wrote read =
      settled laws first left0 left held0 rest now n end (with_audit audit P)
      (played_tail left0 left left held0 rest rest start now now n (tail_text (told now) end) (Appends out0 out) (with_audit audit P) p [] (Consumes-nil left) (append-nil rest) refl
      (λ text k. as_audited audit P (text ++ tail_text (told now) end)
      (subst P (sym (append_assoc text (tail_text (told now) end) (audit_lines audit))) (wrote text k)))) ends read

  -- the end of the trace was found, and what stands behind the answers was written, or a beginning of it
  pub finished : MachineLaws → (audits : Bool) (left0 left out0 out out' : Option (List ℕ)) (held0 : List ℕ) (now : FloorState) (end : End) (r : Result (End × Option Verdict) ReplayError)
      → Driven left0 left held0 start now out0 out (Ok end) → Finishes audits now end out out' r → ReplayedBehind audits (header_line h ++ held0) left0 left out0 out' r
  finished laws audits left0 left out0 out out' held0 now end (Ok x) (n, rest, p, ends) (is, found, t, wrote) first read =
      came_to audits first left out0 out' x
      (subst (λ (e : End). IsAsked audits e x.1) (sym is) (asked audits n rest (IsAtEnd left) end x.1 ends t))
      (subst (λ (e : End). HoldsOfAll first left (λ bytes. ReportsTrace bytes (with_audit x.1 (Appends out0 out')) e)) (sym is)
      (ended laws first left0 left out0 out held0 rest now n end x.1 (Appends out0 out') p ends
      (λ text k. Appends-trans out0 out out' text (tail_text (told now) end ++ audit_lines x.1) k wrote) read))
  finished laws audits left0 left out0 out out' held0 now end (Err Read) driven none first read = absurd none
  finished laws audits left0 left out0 out out' held0 now end (Err Write) (n, rest, p, ends) (audit, t, wrote) first read =
      let b = ended laws first left0 left out0 out held0 rest now n end audit (Begins out0 out') p ends
      (λ text k. begins_more out0 out out' text (tail_text (told now) end ++ audit_lines audit) k wrote) read in
      write_failed audits first left out0 out' (b.0, b.1, λ more none. (end, audit, asked audits n rest (IsAtEnd left) end audit ends t, b.2 more none))

  -- the reader or the writer failed before
  pub stopped : RequestsAreAnswered → (audits : Bool) (left0 left out0 out : Option (List ℕ)) (held0 : List ℕ) (now : FloorState) (e : ReplayError)
      → Driven left0 left held0 start now out0 out (Err e) → ReplayedBehind audits (header_line h ++ held0) left0 left out0 out (Err e)
  stopped law audits left0 left out0 out held0 now Read (n, rest, p, low, partial, full) first read = read_failed audits first left out0 out
      ((header_line h ++ held0) ++ p.given)
      (Consumes-trans first left0 left (header_line h ++ held0) p.given read p.read)
      (inr (
        header_line h ++ flat_map request_line p.requests,
        rest,
        append_assoc (header_line h) held0 p.given ∙ (ap (λ w. header_line h ++ w) p.lines ∙ sym (append_assoc (header_line h) (flat_map request_line p.requests) rest)),
        partial,
        record {
          header = h;
          requests = p.requests;
          answers = p.answers;
          now = reached h start now p.requests p.answers opens p.run;
          trace = record {
            header = fits;
            rest = [];
            lines = ap (λ w. header_line h ++ w) (sym (append-nil (flat_map request_line p.requests)))
                ∙ append_assoc (header_text h) (10 ∷ []) (flat_map request_line p.requests ++ []);
            good = p.good;
            few = rw p.number low;
            ends = refl;
          };
          run = (p.run (opening_of h) (λ s. 0) opens).2;
          holds = ((λ (e : length p.requests ≡ 999999). full (sym p.number ∙ e)), subst (λ (w : List ℕ). Appends out0 out w) (append-nil (flat_map answer_line p.answers)) p.wrote);
        },
      ))
  stopped law audits left0 left out0 out held0 now Write (n, rest, p, low) first read =
      write_failed audits first left out0 out (begun law audits first left0 left out0 out held0 rest now n p low read)
