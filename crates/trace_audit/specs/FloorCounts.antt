-- The floor of a header, and what it tells at the end. Only contracts of private functions speak of these.
use Rattle.std.specs.Prelude.{ℕ, ◌+◌, ◌==◌, ◌&&◌, Bool, List, [], ◌∷◌, ◌++◌, length, map, suc}
use Rattle.std.specs.Prelude.{codes, decimal}
use Rattle.std.specs.List.{range_with_len}
use Rattle.region_cut.specs.Classes.{bits_of}
use Rattle.slot_chain.specs.Counts.{capped}
use Rattle.digit_route.specs.Digits.{Scheme}
use Rattle.event_floor.specs.Floors.{FloorState, desk_count, desk_at}
use Rattle.event_floor.specs.headline.Listing.{listing_of}
use Rattle.event_floor.specs.Inboxes.{buffers_in, inbox_at}
use Rattle.event_floor.specs.Lent.{buffers_lent}
use Rattle.event_floor.specs.Desks.{home_of, cached_of}
use Rattle.pool_machine.specs.Listing.{Shown}
use Rattle.trace_audit.specs.Machine.{opening_of}
use Rattle.trace_audit.specs.Report.{counts_text, desk_line, total}
use Rattle.trace_audit.specs.declared.grammar.header.Header.{Header}
use Rattle.trace_audit.specs.declared.report.closing.DeskCounts.{DeskCounts}

-- the numbers of desks have the profile's bits, and digits of the header's width
abbrev pub scheme_of : Header → Scheme
scheme_of h = record { width = h.width; bits = bits_of h.profile }

-- the floor shows the pool behind its header
abbrev pub Opens : Header → FloorState → Type 0
Opens h start = Shown (listing_of start) (opening_of h) (λ slot. 0)

abbrev pub are_zero : DeskCounts → Bool
are_zero c = (c.home == 0) && (c.cached == 0) && (c.queued == 0)

-- two desks together; a sum stops at the greatest u64
abbrev pub plus : DeskCounts → DeskCounts → DeskCounts
plus c d = record {
  home = capped (c.home + d.home);
  cached = capped (c.cached + d.cached);
  queued = capped (c.queued + d.queued);
}

-- how many slots are at home with a desk, in its cache, and in the batches that wait for it, as the floor counts them
abbrev pub counts_at : FloorState → ℕ → DeskCounts
counts_at v a = record {
  home = capped (length (home_of (desk_at v a)));
  cached = capped (length (cached_of (desk_at v a)));
  queued = capped (length (buffers_in (inbox_at v.inboxes a)));
}

-- how many chunks are drawn, how many buffers are lent, and the counts of each desk, in order of its number
pub record Tally : Type 0 where
  pub chunks : ℕ
  pub lent : ℕ
  pub desks : List DeskCounts

-- what the floor tells
abbrev pub told : FloorState → Tally
told v = record {
  chunks = length v.drawn;
  lent = length (buffers_lent v.lent);
  desks = map (counts_at v) (range_with_len 0 (desk_count v));
}

-- the lines of the desks from a on
abbrev pub desk_lines : ℕ → List DeskCounts → List ℕ
desk_lines a [] = []
desk_lines a (c ∷ cs) = desk_line a c ++ desk_lines (suc a) cs

abbrev pub end_line : Tally → List ℕ
end_line t = codes "end chunks " ++ decimal t.chunks ++ codes " lent " ++ decimal t.lent ++ counts_text (total t.desks)

-- the closing lines
abbrev pub tally_lines : Tally → List ℕ
tally_lines t = desk_lines 0 t.desks ++ end_line t
