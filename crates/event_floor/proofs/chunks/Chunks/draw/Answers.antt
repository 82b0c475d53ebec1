use Rattle.std.proofs.Common.{◌≡◌, ◌+◌, ◌∷◌, ◌++◌, [], length, map, reverse, sym, ap, ◌∙◌, subst, arith}
use Rattle.std.proofs.lemmas.List.{length_push}
use Rattle.region_cut.specs.Parts.{bytes_of}
use Rattle.event_floor.specs.Chunks.{ChunksState, AreUndrawn}
use Rattle.event_floor.proofs.ChunkLaws.{drawn_next, drawn_number, drawn_name, drawn_below, last_bytes}
use Rattle.event_floor.proofs.chunks.Chunks.draw.Goals as goal

pub invariant_of-self-2 : goal.invariant_of-self-2
invariant_of-self-2 c =
    let before = c.self.inside.drawn.items in
    let names = c.self.inside.names.all in
    let rest = c.pop.new.self.items in
    let p = c.in_ok-part.part in
    let h : AreUndrawn (length before) names (rest ++ p ∷ []) = subst (AreUndrawn (length before) names) c.in_ok-part.ensures.items c.self.invariant.0 in
    let more : length c.push_reserved.new.self.items ≡ length before + 1 = ap length c.push_reserved.ensures.items ∙ length_push before _ in
    let left : length c.self.inside.undrawn.items ≡ length rest + 1 = ap length c.in_ok-part.ensures.items ∙ length_push rest p in
    let room = c.self.invariant.1 in
    let same = c.push_reserved.ensures.capacity in
    (subst (λ n. AreUndrawn n names rest) (sym more) (drawn_next (length before) names rest p h), omega (arith, more, left, room, same))

pub returns : goal.returns
returns c =
    let before = c.self.inside.drawn.items in
    let names = c.self.inside.names.all in
    let rest = c.pop.new.self.items in
    let p = c.in_ok-part.part in
    let h : AreUndrawn (length before) names (rest ++ p ∷ []) = subst (AreUndrawn (length before) names) c.in_ok-part.ensures.items c.self.invariant.0 in
    rw (← c.self.view_is) (
      drawn_number (length before) names rest p h,
      drawn_name (length before) names rest p h,
      drawn_below (length before) names rest p h,
      ap (λ xs. reverse (map bytes_of xs)) c.in_ok-part.ensures.items ∙ last_bytes rest p,
      ap (λ xs. let r : ChunksState = record { parts = names; drawn = xs; undrawn = reverse (map bytes_of rest) } in r) c.push_reserved.ensures.items,
    )
