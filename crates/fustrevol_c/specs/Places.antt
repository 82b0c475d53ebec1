-- What lies where a program in C keeps a pool, an allocator, a buffer's handle, a burst and a span.
use Rattle.std.specs.Prelude.{[]}
use Rattle.std.specs.Borrow.{full_share, Fml}
use Rattle.std.specs.Ptr.{lies_at}
use base.Fml.{fex}
use denote.RattleType.{RattleType}
use denote.RawPtr.{Ptr, room_at}
use mir.Syntax.{named}
use Rattle.seated_desk.specs.contracts.pool.Pool as pool
use Rattle.seated_desk.specs.contracts.allocator_handle.AllocatorHandle as allocator
use Rattle.seated_desk.specs.contracts.buf_handle.BufHandle as buf
use Rattle.seated_desk.specs.contracts.burst_handle.BurstHandle as burst
use Rattle.seated_desk.specs.contracts.span.Span as span

-- the types, over a region that is lent for good
abbrev pub pool_row : RattleType
pool_row = pool.the_row (record { mir = named 1; lft = [] })

abbrev pub allocator_row : RattleType
allocator_row = allocator.the_row (record { mir = named 1; lft = [] })

abbrev pub buf_row : RattleType
buf_row = buf.the_row (record { mir = named 1; lft = [] })

abbrev pub burst_row : RattleType
burst_row = burst.the_row (record { mir = named 1; lft = [] })

abbrev pub span_row : RattleType
span_row = span.the_row

-- their values
abbrev pub PoolValue : Type 0
PoolValue = pool_row.Denot

abbrev pub AllocatorValue : Type 0
AllocatorValue = allocator_row.Denot

abbrev pub BufValue : Type 0
BufValue = buf_row.Denot

abbrev pub BurstValue : Type 0
BurstValue = burst_row.Denot

abbrev pub SpanValue : Type 0
SpanValue = span_row.Denot

-- some value of the type lies at p
abbrev pub pool_at : Ptr → Fml
pool_at p = fex pool_row.Denot (λ s. lies_at pool_row full_share p s)

abbrev pub allocator_at : Ptr → Fml
allocator_at p = fex allocator_row.Denot (λ s. lies_at allocator_row full_share p s)

abbrev pub buf_at : Ptr → Fml
buf_at p = fex buf_row.Denot (λ s. lies_at buf_row full_share p s)

abbrev pub burst_at : Ptr → Fml
burst_at p = fex burst_row.Denot (λ s. lies_at burst_row full_share p s)

abbrev pub span_at : Ptr → Fml
span_at p = fex span_row.Denot (λ s. lies_at span_row full_share p s)

-- room for one at p, whatever lies there
abbrev pub pool_room : Ptr → Fml
pool_room p = room_at pool_row p

abbrev pub allocator_room : Ptr → Fml
allocator_room p = room_at allocator_row p

abbrev pub buf_room : Ptr → Fml
buf_room p = room_at buf_row p

abbrev pub burst_room : Ptr → Fml
burst_room p = room_at burst_row p
