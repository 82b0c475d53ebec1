-- What the calls of the parts of a floor come to, in the words of its steps.
use Rattle.std.proofs.Common.{◌≡◌, ℕ, ◌<◌, [], ◌∷◌, ◌++◌, length, refl, sym, ap, ◌∙◌, subst}
use Rattle.std.specs.Prelude.{Some, Result, Ok, Err, IfOk, IfErr, OnErr}
use Rattle.std.specs.List.{slice_get}
use Rattle.region_cut.specs.Parts.{name_of, bytes_of}
use Rattle.region_cut.specs.declared.part.Part.{Part}
use Rattle.pool_desk.specs.Desks.{IdleState, DeskState}
use Rattle.pool_desk.specs.Steps.{Claims}
use Rattle.event_floor.specs.Desks.AnyDeskState.{Held}
use Rattle.event_floor.specs.Chunks.{ChunksState}
use Rattle.event_floor.specs.Desks.{AnyDeskState, adopted}
use Rattle.event_floor.specs.Floors.{FloorState, IsIdle, IsHeld, with_any_desk, with_desk}
use Rattle.event_floor.specs.Steps.{Answers, Refuses, Does, DrawsChunk, class_limit}
use Rattle.pool_machine.specs.declared.request.Request.{Request}
use Rattle.pool_machine.specs.declared.request.Request.TheVariants.{Adopt}
use Rattle.pool_machine.specs.declared.reply.Reply.{Reply}
use Rattle.pool_machine.specs.declared.reply.Reply.TheVariants.{Done}
use Rattle.pool_machine.specs.declared.refusal.Refusal.{Refusal}

pub adopts : (v w : FloorState) (a worker : ℕ) (d : IdleState) (s : AnyDeskState) → v ≡ w → IsIdle v a d → s ≡ Held (adopted worker d)
    → Does w (Adopt a worker) Done (with_any_desk v a s)
adopts v w a worker d s same idle is =
    subst (λ (z : FloorState). Does z (Adopt a worker) Done (with_any_desk v a s)) same (d, idle, ap (with_any_desk v a) is)

pub draws_chunk : (v w : FloorState) (a class k n : ℕ) (d d' : DeskState) (p : Part) (old new : ChunksState)
    → v ≡ w → IsHeld v a d → n ≡ class → class < class_limit v → v.chunks ≡ length old.parts → v.parts ≡ old.parts → v.drawn ≡ old.drawn
    → p.chunk ≡ length old.drawn → slice_get old.parts p.chunk ≡ Some (name_of p) → length old.drawn < length old.parts → v.undrawn ≡ old.undrawn
    → old.undrawn ≡ bytes_of p ∷ new.undrawn → new ≡ record old { drawn = old.drawn ++ record { owner = a; class = n } ∷ []; undrawn = new.undrawn }
    → Claims d p n d' → k ≡ p.chunk → DrawsChunk w a class k (record (with_desk v a d') { chunks = length new.parts; parts = new.parts; drawn = new.drawn; undrawn = new.undrawn })
draws_chunk v w a class k n d d' p old new same held same_class few chunks parts drawn next name left undrawn first is claims k_is =
    subst (λ (z : FloorState). DrawsChunk z a class k (record (with_desk v a d') { chunks = length new.parts; parts = new.parts; drawn = new.drawn; undrawn = new.undrawn })) same (record {
      before = d;
      after = d';
      part = p;
      held = held;
      is_class = few;
      is_next = rw drawn (k_is ∙ next);
      undrawn = rw (chunks, k_is, next) left;
      is_part = sym k_is;
      has_name = rw (k_is, parts) name;
      first = undrawn ∙ first;
      claims = rw same_class at claims;
      same = rw (is, same_class, drawn, parts, chunks) refl;
    })

-- the clauses of a step, told together
pub answers_of : (v w : FloorState) (q : Request) (y : Result Reply Refusal) → IfOk y (λ reply. Does v q reply w) → IfErr y (λ refusal. Refuses v q refusal)
    → OnErr y (w ≡ v) → Answers v q y w
answers_of v w q (Ok reply) does refuses unchanged = does
answers_of v w q (Err refusal) does refuses unchanged = (refuses, unchanged)
