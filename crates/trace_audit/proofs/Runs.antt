-- Any text behind a header is a trace, and any requests have a run.
use Rattle.std.proofs.Common.{◌≡◌, ℕ, ◌+◌, ◌≤◌, List, [], ◌∷◌, ◌++◌, length, refl, sym, ◌∙◌, ap, subst, arith, append_assoc, append-nil}
use Rattle.std.specs.List.{flat_map, AllByRecursion}
use Rattle.std.proofs.lemmas.Grind.{flat_map-append}
use Rattle.pool_machine.specs.declared.request.Request.{Request}
use Rattle.pool_machine.specs.Laws.{RequestsAreAnswered}
use Rattle.pool_machine.specs.State.{State}
use Rattle.pool_machine.specs.Steps.{Run, after}
use Rattle.trace_audit.specs.Grammar.{IsRequest, header_text}
use Rattle.trace_audit.specs.Laws.{TextsAreTraces}
use Rattle.pool_machine.specs.Steps.{Answer}
use Rattle.trace_audit.specs.Report.{answer_line}
use Rattle.trace_audit.specs.Trace.{EndsTrace}
use Rattle.trace_audit.proofs.Goings.{goes_on}

-- ---- texts

pub texts : TextsAreTraces
texts h more fits =
    let g = goes_on 0 more (omega arith) in
    let zero : 0 + length g.requests ≡ length g.requests = omega arith in (
      g.requests,
      g.end,
      record {
        header = fits;
        rest = g.rest;
        lines = ap (λ w. header_text h ++ 10 ∷ w) g.lines;
        good = g.good;
        few = subst (λ n. n ≤ 999999) zero g.few;
        ends = subst (λ n. EndsTrace n g.rest g.end) zero g.ends;
      },
    )

-- ---- runs

pub run_on : (a b c : State) (rs qs : List Request) (xs ys : List Answer) → Run a rs xs b → Run b qs ys c → Run a (rs ++ qs) (xs ++ ys) c
run_on a b c [] qs [] ys h k = subst (λ (w : State). Run w qs ys c) h k
run_on a b c [] qs (x ∷ xs) ys h k = absurd h
run_on a b c (r ∷ rs) qs [] ys h k = absurd h
run_on a b c (r ∷ rs) qs (x ∷ xs) ys (one, more) k = (one, run_on (after a r x) b c rs qs xs ys more k)

pub some_run : RequestsAreAnswered → (st : State) (qs : List Request) → (ys : List Answer) × (end : State) × Run st qs ys end
some_run law st [] = ([], st, refl)
some_run law st (q ∷ qs) =
    let h = law st q in
    let t = some_run law (after st q h.0) qs in
    (h.0 ∷ t.0, t.1, (h.1, t.2))

-- ---- lines

pub all_both : (rs qs : List Request) → AllByRecursion IsRequest rs → AllByRecursion IsRequest qs → AllByRecursion IsRequest (rs ++ qs)
all_both [] qs h k = k
all_both (r ∷ rs) qs h k = (h.0, all_both rs qs h.1 k)

pub longer_text : (xs ys : List Answer) (tail : List ℕ) → (flat_map answer_line xs ++ []) ++ (flat_map answer_line ys ++ tail) ≡ flat_map answer_line (xs ++ ys) ++ tail
longer_text xs ys tail =
    ap (λ w. w ++ (flat_map answer_line ys ++ tail)) (append-nil (flat_map answer_line xs))
    ∙ (sym (append_assoc (flat_map answer_line xs) (flat_map answer_line ys) tail) ∙ ap (λ w. w ++ tail) (sym (flat_map-append answer_line xs ys)))
