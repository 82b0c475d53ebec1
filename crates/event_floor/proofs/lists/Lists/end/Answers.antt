use Rattle.std.proofs.Common.{◌≡◌, ◌++◌, List, length, drop, map, flat_map, IsPermutation, ap, ◌∙◌, subst}
use Rattle.std.proofs.lemmas.List.{append-nil}
use Rattle.region_cut.specs.Endings.{Ended, EndingsState}
use Rattle.slot_chain.specs.Buffer.{Buffer, ended_of}
use Rattle.event_floor.specs.Chunks.{ended_parts}
use Rattle.event_floor.specs.Floors.{FloorState}
use Rattle.event_floor.specs.Inboxes.{buffers_in}
use Rattle.event_floor.specs.Lent.{buffers_lent}
use Rattle.event_floor.specs.headline.EndsKnown.{buffers_with, buffers_of, undrawn_parts}
use Rattle.event_floor.proofs.EndLaws.{three_joined}
use Rattle.event_floor.proofs.lists.Lists.end.Goals as goal

-- what is known is put together: of the parts, of the batches, of the lent buffers and of the desks'
pub returns-clause-known : goal.returns-clause-known
returns-clause-known c =
    let l = c.self.inside in
    let known : EndingsState → List Ended = λ s. s.known in
    let parts : List Ended = ended_parts (drop (length l.chunks.drawn) l.chunks.parts) l.chunks.undrawn in
    let with_desks : List Buffer = flat_map buffers_with l.desks.items in
    let same : c.end-2.new.endings.known ≡ map ended_of (buffers_lent l.lent) ++ (map ended_of (flat_map buffers_in l.inboxes) ++ parts) =
    ap known c.end-2.ensures ∙ ap (λ es. map ended_of (buffers_lent l.lent) ++ es) (ap known c.end_inboxes.ensures
    ∙ ap (λ es. map ended_of (flat_map buffers_in l.inboxes) ++ es) (ap known c.end.ensures ∙ ap (λ es. parts ++ es) (ap known c.new-endings.ensures) ∙ append-nil parts)) in
    subst (λ (v : FloorState). IsPermutation (map ended_of (buffers_of v) ++ ended_parts (undrawn_parts v) v.undrawn) c.end_desks.new.endings.known) c.self.view_is
    (subst (λ es. IsPermutation es c.end_desks.new.endings.known)
    (ap (λ es. map ended_of with_desks ++ es) same ∙ three_joined with_desks (buffers_lent l.lent) (flat_map buffers_in l.inboxes) parts) c.end_desks.ensures.known)
