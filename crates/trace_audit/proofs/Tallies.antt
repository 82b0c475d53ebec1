-- What a floor counts is what is told of the state that it shows.
use Rattle.std.proofs.Common.{refl, ◌≡◌, ℕ, zero, suc, ◌+◌, ◌≤◌, List, ◌++◌, length, map, sym, ap, ◌∙◌, subst, add-one, append_assoc, codes, decimal}
use Rattle.std.specs.List.{flat_map, range_with_len}
use Rattle.std.proofs.lemmas.List.{length-map}
use Rattle.event_floor.specs.Floors.{FloorState, desk_count}
use Rattle.pool_machine.specs.declared.request.Request.{Request}
use Rattle.event_floor.specs.headline.TellsCounts.{TellsCounts, FloorsTellCounts}
use Rattle.event_floor.specs.headline.Listing.{desk_of}
use Rattle.pool_machine.specs.Laws.{RunsKeepNumbers}
use Rattle.pool_machine.specs.State.{State, OnLoan, slots_at}
use Rattle.trace_audit.specs.Grammar.{IsHeader}
use Rattle.pool_machine.specs.Steps.{Answer}
use Rattle.pool_machine.specs.SlotLists.{drawn_count}
use Rattle.trace_audit.specs.FloorCounts.{Opens, Tally, counts_at, desk_lines, end_line, tally_lines, told}
use Rattle.trace_audit.specs.Machine.{closing, counts_in, opening_of}
use Rattle.trace_audit.specs.Report.{bad_line, counts_text, desk_line, total}
use Rattle.trace_audit.specs.Steps.{Follows, tail_text}
use Rattle.trace_audit.specs.declared.replaying.ending.End.{End}
use Rattle.trace_audit.specs.declared.replaying.ending.End.TheVariants.{Whole, BadLine, NoRoom}
use Rattle.trace_audit.proofs.WholeTraces.{tail_of}
use Rattle.trace_audit.specs.declared.grammar.header.Header.{Header}
use Rattle.trace_audit.specs.declared.report.closing.DeskCounts.{DeskCounts}

-- the laws of the floor that are called
pub record MachineLaws : Type 0 where
  pub counts : FloorsTellCounts
  pub numbers : RunsKeepNumbers

-- the state that the requests lead to
abbrev pub reached : (h : Header) (start now : FloorState) (requests : List Request) (answers : List Answer) → Opens h start → Follows start requests answers now → State
reached h start now requests answers opens run = (run (opening_of h) (λ s. 0) opens).0

same_counts : (v : FloorState) (st : State) → TellsCounts v st → (a : ℕ) → counts_at v a ≡ counts_in st a
same_counts v st t a = λ i. record { home = t.home a i; cached = t.cached a i; queued = t.queued a i }

same_desks : (v : FloorState) (st : State) → TellsCounts v st → desk_count v ≡ st.desks → map (counts_at v) (range_with_len 0 (desk_count v)) ≡ map (counts_in st) (range_with_len 0 st.desks)
same_desks v st t e = ap (λ n. map (counts_at v) (range_with_len 0 n)) e ∙ ap (λ (f : ℕ → DeskCounts). map f (range_with_len 0 st.desks)) (λ i a. same_counts v st t a i)

-- what is told of a state
abbrev told_of : State → Tally
told_of st = record {
  chunks = drawn_count st;
  lent = length (slots_at st OnLoan);
  desks = map (counts_in st) (range_with_len 0 st.desks);
}

-- the lines of some desks in order of their numbers
lines_of_desks : (f : ℕ → DeskCounts) (a n : ℕ) → desk_lines a (map f (range_with_len a n)) ≡ flat_map (λ k. desk_line k (f k)) (range_with_len a n)
lines_of_desks f a zero = refl
lines_of_desks f a (suc n) = ap (λ l. desk_line a (f a) ++ l)
    (ap (λ k. desk_lines k (map f (range_with_len (a + 1) n))) (sym (add-one a)) ∙ lines_of_desks f (a + 1) n)

in_line : (a b c d e f : List ℕ) → a ++ (b ++ c ++ d ++ e ++ f) ≡ a ++ b ++ c ++ d ++ e ++ f
in_line a b c d e f = simp append_assoc

-- the lines of what is told of a state are its closing lines
closing_is : (st : State) → tally_lines (told_of st) ≡ closing st
closing_is st = ap (λ l. l ++ end_line (told_of st)) (lines_of_desks (counts_in st) 0 st.desks)
    ∙ in_line (flat_map (λ a. desk_line a (counts_in st a)) (range_with_len 0 st.desks)) (codes "end chunks ") (decimal (drawn_count st)) (codes " lent ") (decimal (length (slots_at st OnLoan)))
    (counts_text (total (map (counts_in st) (range_with_len 0 st.desks))))

told_is : MachineLaws → (h : Header) (start now : FloorState) (requests : List Request) (answers : List Answer) → IsHeader h → (opens : Opens h start)
    → (run : Follows start requests answers now) → told now ≡ told_of (reached h start now requests answers opens run)
told_is laws h start now requests answers fits opens run =
    let r = run (opening_of h) (λ s. 0) opens in
    let kept = laws.numbers requests answers (opening_of h) r.0 r.2 in
    let few : now.chunks ≤ 1024 = subst (λ n. n ≤ 1024) (sym (r.3.frame.chunks ∙ kept.chunks)) fits.few_chunks in
    let t = laws.counts now r.0 r.1 few r.3 in
    let desks = same_desks now r.0 t (sym (length-map now.desks desk_of) ∙ r.3.frame.desks) in
    λ i. record { chunks = t.drawn i; lent = t.lent i; desks = desks i }

-- what is written of a floor behind the answers is that of the state that it shows
tail_is : (t : Tally) (st : State) (end : End) → tally_lines t ≡ closing st → tail_text t end ≡ tail_of st end
tail_is t st Whole e = e
tail_is t st (BadLine k) e = ap (λ l. bad_line k ++ l) e
tail_is t st NoRoom e = refl

pub told_tail : MachineLaws → (h : Header) (start now : FloorState) (requests : List Request) (answers : List Answer) (end : End) → IsHeader h → (opens : Opens h start)
    → (run : Follows start requests answers now) → tail_text (told now) end ≡ tail_of (reached h start now requests answers opens run) end
told_tail laws h start now requests answers end fits opens run =
    let st = reached h start now requests answers opens run in
    tail_is (told now) st end (ap tally_lines (told_is laws h start now requests answers fits opens run) ∙ closing_is st)
