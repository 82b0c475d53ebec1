-- The pool that a trace drives: how it opens, and what is told of it at the end.
use Rattle.std.specs.Prelude.{ℕ, List, ◌++◌, length, map, codes, decimal}
use Rattle.std.specs.List.{flat_map, range_with_len}
use Rattle.region_cut.specs.Classes.{bits_of}
use Rattle.pool_machine.specs.State.{State, OnLoan, InCache, opening, slots_at}
use Rattle.pool_machine.specs.SlotLists.{home_slots, queued_slots, drawn_count}
use Rattle.trace_audit.specs.Report.{counts_text, desk_line, total}
use Rattle.trace_audit.specs.declared.grammar.header.Header.{Header}
use Rattle.trace_audit.specs.declared.report.closing.DeskCounts.{DeskCounts}

-- the bytes above which a cache of a trace's pool is due
abbrev pub trace_limit : ℕ
trace_limit = 4096

-- the pool behind its header: the numbers of its desks have the profile's bits and digits of the header's width
abbrev pub opening_of : Header → State
opening_of h = opening h.desks h.chunks (record { width = h.width; bits = bits_of h.profile }) trace_limit

-- how many slots are at home with a desk, in its cache, and in the batches that wait for it
abbrev pub counts_in : State → ℕ → DeskCounts
counts_in st a = record {
  home = length (home_slots st a);
  cached = length (slots_at st (InCache a));
  queued = length (queued_slots st a);
}

-- the closing lines: that of each desk in order of its number; then how many chunks are drawn, how many buffers are
-- lent, and the sums over the desks
abbrev pub closing : State → List ℕ
closing st = flat_map (λ a. desk_line a (counts_in st a)) (range_with_len 0 st.desks)
    ++ codes "end chunks " ++ decimal (drawn_count st) ++ codes " lent " ++ decimal (length (slots_at st OnLoan))
    ++ counts_text (total (map (counts_in st) (range_with_len 0 st.desks)))
