use Rattle.std.proofs.Common.{◌≡◌, arith, length, rules}
use Rattle.std.proofs.lemmas.List.{length-map}
use Rattle.region_cut.specs.Parts.{name_of}
use Rattle.region_cut.proofs.Numbered.{numbered_few}
use Rattle.event_floor.proofs.FloorLaws.{floor_settled, opening_is_floor}
use Rattle.event_floor.proofs.lists.Lists.new.Goals as goal

pub new-requires-clause-chunks : goal.new-requires-clause-chunks
new-requires-clause-chunks c = let few = numbered_few c.args.parts.items c.requires.parts in search (rules, few, c.len.ensures)

pub invariant_of-result : goal.invariant_of-result
invariant_of-result c =
    let parts : c.len.result ≡ length c.args.parts.items = omega (arith, c.len.ensures, c.args.parts.ok) in
    let empty = c.in-Ok.ensures in
    rw (empty.lent, c.in_ok-chunks.ensures.undrawn, empty.desks, empty.inboxes, parts, length-map c.args.parts.items name_of)
    (floor_settled (opening_is_floor _ _ _ _ c.requires.few empty.fewer))
