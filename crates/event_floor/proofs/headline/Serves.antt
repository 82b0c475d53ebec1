-- What a floor answers is a step of the machine.
use Rattle.std.proofs.Common.{◌≡◌, true, None, Ok, Err, refl, sym, subst, ◌⊎◌, inl, inr}
use Rattle.pool_desk.specs.declared.freed.Freed.TheVariants.{Home as FreedHome, Cached as FreedCached, Due as FreedDue}
use Rattle.pool_machine.specs.declared.request.Request.{Request}
use Rattle.pool_machine.specs.declared.request.Request.TheVariants.{Adopt, Retire, Claim, Alloc, Free, Send, Link, Take}
use Rattle.pool_machine.specs.declared.reply.Reply.{Reply}
use Rattle.pool_machine.specs.declared.reply.Reply.TheVariants.{Done, Chunk, Slot as Lent, Home, Cached, Due, Batch, Counts}
use Rattle.pool_machine.specs.declared.refusal.Refusal.{Refusal}
use Rattle.pool_machine.specs.declared.refusal.Refusal.TheVariants.{NoMemory}
use Rattle.event_floor.specs.Floors.{FloorState}
use Rattle.event_floor.specs.Steps.{Does, Refuses}
use Rattle.event_floor.specs.Steps.{Answers}
use Rattle.pool_machine.specs.Refusals.{may_grow}
use Rattle.pool_machine.specs.Steps.{Answer}
use Rattle.pool_machine.proofs.Located.{LocatedStep}
use Rattle.event_floor.specs.headline.Listing.{listing_of}
use Rattle.event_floor.specs.headline.Whole.{IsWhole}
use Rattle.pool_machine.proofs.Refusals.{refusal_seen, refused, no_memory}
use Rattle.event_floor.proofs.headline.Refused.{Says, adopt_refused, retire_refused, claim_refused, alloc_refused, free_refused, send_refused, link_refused, take_refused}
use Rattle.event_floor.proofs.headline.Holders.{numbered_held, adopt_done, retire_done}
use Rattle.event_floor.proofs.headline.Claims.{claim_done}
use Rattle.event_floor.proofs.headline.Lends.{alloc_done, free_done}
use Rattle.event_floor.proofs.headline.Posts.{send_done, link_done, take_done}

-- a refusal, or a want of memory where the request may grow
either : (v : FloorState) (q : Request) (r : Refusal) → may_grow q ≡ true → (Says v q r) ⊎ ((refusal_seen (listing_of v) q ≡ None) × (r ≡ NoMemory))
    → LocatedStep (listing_of v) q (Err r) (listing_of v)
either v q r g (inl e) = refused (listing_of v) q r e
either v q r g (inr h) = subst (λ x. LocatedStep (listing_of v) q (Err x) (listing_of v)) (sym h.1) (no_memory (listing_of v) q h.0 g)

refuses_is : (v : FloorState) (q : Request) (r : Refusal) → IsWhole v → Refuses v q r → LocatedStep (listing_of v) q (Err r) (listing_of v)
refuses_is v (Adopt a x) r f h = refused (listing_of v) (Adopt a x) r (adopt_refused v a x r h)
refuses_is v (Retire a) r f h = refused (listing_of v) (Retire a) r (retire_refused v a r h)
refuses_is v (Claim a c) r f h = refused (listing_of v) (Claim a c) r (claim_refused v a c r h)
refuses_is v (Alloc a n) r f h = either v (Alloc a n) r refl (alloc_refused v a n r (λ d l. (numbered_held v a d f l).2) h)
refuses_is v (Free a pair) r f h = refused (listing_of v) (Free a pair) r (free_refused v a pair r f.in_place h)
refuses_is v (Send a t) r f h = either v (Send a t) r refl (send_refused v a t r h)
refuses_is v (Link n) r f h = refused (listing_of v) (Link n) r (link_refused v n r h)
refuses_is v (Take b) r f h = refused (listing_of v) (Take b) r (take_refused v b r h)

does_is : (v w : FloorState) (q : Request) (r : Reply) → IsWhole v → Does v q r w → LocatedStep (listing_of v) q (Ok r) (listing_of w)
does_is v w (Adopt a x) Done f h = adopt_done v w a x h.0 h.1 h.2
does_is v w (Adopt a x) _ f h = elim h [ ]
does_is v w (Retire a) Done f h = retire_done v w a h.0 h.1 h.2 h.3 h.4
does_is v w (Retire a) _ f h = elim h [ ]
does_is v w (Claim a c) (Chunk k) f h = claim_done v w a c k f h
does_is v w (Claim a c) _ f h = elim h [ ]
does_is v w (Alloc a n) (Lent slot) f h = alloc_done v w a n slot f h
does_is v w (Alloc a n) _ f h = elim h [ ]
does_is v w (Free a pair) Home f h = free_done v w a pair FreedHome f h
does_is v w (Free a pair) Cached f h = free_done v w a pair FreedCached f h
does_is v w (Free a pair) Due f h = free_done v w a pair FreedDue f h
does_is v w (Free a pair) _ f h = elim h [ ]
does_is v w (Send a t) (Batch number count) f h = send_done v w a t number count f h
does_is v w (Send a t) _ f h = elim h [ ]
does_is v w (Link n) Done f h = link_done v w n h
does_is v w (Link n) _ f h = elim h [ ]
does_is v w (Take b) (Counts home on) f h = take_done v w b home on f h
does_is v w (Take b) _ f h = elim h [ ]

-- one answer is one step
pub serves : (v w : FloorState) (q : Request) (y : Answer) → IsWhole v → Answers v q y w → LocatedStep (listing_of v) q y (listing_of w)
serves v w q (Ok r) f h = does_is v w q r f h
serves v w q (Err r) f h = subst (λ x. LocatedStep (listing_of v) q (Err r) (listing_of x)) (sym h.1) (refuses_is v q r f h.0)
