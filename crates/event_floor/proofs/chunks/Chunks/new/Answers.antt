use Rattle.std.proofs.Common.{◌≡◌, [], refl, rules}
use Rattle.event_floor.proofs.ChunkLaws.{none_drawn, turned_bytes}
use Rattle.event_floor.proofs.chunks.Chunks.new.Goals as goal

pub invariant_of-result : goal.invariant_of-result
invariant_of-result c =
    let none : c.in-Ok.drawn.items ≡ [] = c.in-Ok.ensures.items in (
      rw (none, c.reverse.ensures.items, c.names_of-names.ensures, c.deref.ensures.value) (none_drawn c.args.parts.items c.requires),
      search (rules, none, c.reverse.ensures.len, c.len.ensures, c.in-Ok.ensures.exact),
    )

pub returns-clause-undrawn : goal.returns-clause-undrawn
returns-clause-undrawn c =
    let none : c.in-Ok.drawn.items ≡ [] = c.in-Ok.ensures.items in
    rw (none, c.reverse.ensures.items, c.names_of-names.ensures, c.deref.ensures.value, turned_bytes c.args.parts.items) refl
