-- What a request does to a floor, and why it is refused.
use Rattle.std.specs.Prelude.{ℕ, ◌≡◌, ◌≢◌, ◌<◌, ◌≤◌, ◌+◌, ◌∷◌, ◌++◌, ◌⊎◌, [], true, List, length, slice_get}
use Rattle.std.specs.Prelude.{slice_index_or, slice_set, Option, Some, None, Result, Ok, Err}
use Rattle.region_cut.specs.declared.part.Part.{Part}
use Rattle.region_cut.specs.declared.slot.Slot.{Slot}
use Rattle.region_cut.specs.Classes.{classes_of, largest_of}
use Rattle.region_cut.specs.Parts.{name_of, bytes_of}
use Rattle.slot_chain.specs.Buffer.{Buffer}
use Rattle.slot_chain.specs.Counts.{capped}
use Rattle.digit_route.specs.Route.{RouteFault}
use Rattle.digit_route.specs.States.{BatchState}
use Rattle.digit_route.specs.Route.{GivesBucket}
use Rattle.digit_route.specs.declared.error.RouteError.{RouteError}
use Rattle.digit_route.specs.declared.error.RouteError.TheVariants.{ToSelf as RouteToSelf}
use Rattle.digit_route.specs.declared.error.RouteError.TheVariants.{NothingFor as RouteNothingFor}
use Rattle.digit_route.specs.declared.error.RouteError.TheVariants.{NotAnOwner as RouteNotAnOwner}
use Rattle.pool_desk.specs.HomesState.{HasClass}
use Rattle.pool_desk.specs.Desks.{IdleState, DeskState}
use Rattle.pool_desk.specs.Steps.{Claims, Allocs, AllocFault, Frees, Handles, CountsOf}
use Rattle.pool_desk.specs.declared.error.DeskError.TheVariants.{NeedChunk as DeskNeedChunk, NoMemory as DeskNoMemory}
use Rattle.pool_desk.specs.declared.freed.Freed.{Freed}
use Rattle.pool_desk.specs.declared.freed.Freed.TheVariants.{Home as FreedHome, Cached as FreedCached, Due as FreedDue}
use Rattle.pool_machine.specs.declared.request.Request.{Request}
use Rattle.pool_machine.specs.declared.request.Request.TheVariants.{Adopt, Retire, Claim, Alloc, Free, Send, Link, Take}
use Rattle.pool_machine.specs.declared.reply.Reply.{Reply}
use Rattle.pool_machine.specs.declared.reply.Reply.TheVariants.{Done, Chunk, Slot as Lent, Home, Cached, Due, Batch}
use Rattle.pool_machine.specs.declared.reply.Reply.TheVariants.{Counts}
use Rattle.pool_machine.specs.declared.refusal.Refusal.{Refusal}
use Rattle.pool_machine.specs.declared.refusal.Refusal.TheVariants.{NoDesk, Idle, TooLarge, NeedChunk, NotNeeded}
use Rattle.pool_machine.specs.declared.refusal.Refusal.TheVariants.{NoChunk, NotLent, NothingFor, NotAnOwner, ToSelf}
use Rattle.pool_machine.specs.declared.refusal.Refusal.TheVariants.{NoBatch, Nothing, Unsettled, Held, NoMemory}
use Rattle.pool_machine.specs.declared.refusal.Refusal.TheVariants.{BadClass, Spent}
use Rattle.event_floor.specs.Desks.AnyDeskState.{Idle as IdleDesk}
use Rattle.event_floor.specs.Desks.{adopted, retired}
use Rattle.event_floor.specs.Lent.{lent_at, index_of}
use Rattle.event_floor.specs.Inboxes.{QueuedState, inbox_at, sent_as, as_linked, no_batch, IsUnlinked, IsUnlinkedOf}
use Rattle.event_floor.specs.Inboxes.{IsUnlinkedAt}
use Rattle.event_floor.specs.Inboxes.{SomeQueued, NoneQueued, HasNoFront}
use Rattle.event_floor.specs.Floors.{FloorState, desk_count, profile_seen, IsIdle, IsHeld, with_any_desk, with_desk}
use Rattle.event_floor.specs.Floors.{with_inbox, last_number}

-- ---- refusals, each with all that was looked at before

abbrev pub MeetsIdle : FloorState → ℕ → Type 0
MeetsIdle v a = (d : IdleState) × IsIdle v a d

abbrev pub MeetsHeld : FloorState → ℕ → Type 0
MeetsHeld v a = (d : DeskState) × IsHeld v a d

-- a slot of the class is at home
abbrev pub HasHome : DeskState → ℕ → Type 0
HasHome d class = HasClass class d.home

-- the classes that a claim may name are below this number
abbrev pub class_limit : FloorState → ℕ
class_limit v = classes_of (profile_seen v)

-- the largest number of bytes that a request may ask for
abbrev pub size_limit : FloorState → ℕ
size_limit v = largest_of (profile_seen v)

-- both desks are there, a is held and is d, and this is why it has no batch for t; None: it has one
abbrev pub Routes : FloorState → ℕ → ℕ → DeskState → Option RouteError → Type 0
Routes v a t d fault = IsHeld v a d × (t < desk_count v) × RouteFault v.digits a t d.cached fault

abbrev pub MeetsFault : FloorState → ℕ → ℕ → Option RouteError → Type 0
MeetsFault v a t fault = (d : DeskState) × Routes v a t d fault

-- a batch that waits in some inbox still has to be linked: one of this sender
abbrev pub HasUnlinkedOf : FloorState → ℕ → Type 0
HasUnlinkedOf v sender = SomeQueued (IsUnlinkedOf sender) v.inboxes

-- there is none: of this number, of this sender
abbrev pub LacksUnlinked : FloorState → ℕ → Type 0
LacksUnlinked v number = NoneQueued (IsUnlinked number) v.inboxes

abbrev pub LacksUnlinkedOf : FloorState → ℕ → Type 0
LacksUnlinkedOf v sender = NoneQueued (IsUnlinkedOf sender) v.inboxes

abbrev pub Refuses : FloorState → Request → Refusal → Type 0
Refuses v (Adopt a worker) NoDesk = desk_count v ≤ a
Refuses v (Adopt a worker) Held = MeetsHeld v a
Refuses v (Retire a) NoDesk = desk_count v ≤ a
Refuses v (Retire a) Idle = MeetsIdle v a
Refuses v (Retire a) Unsettled = (d : DeskState) × IsHeld v a d × ((d.cached ≢ []) ⊎ HasUnlinkedOf v a)
Refuses v (Claim a class) NoDesk = desk_count v ≤ a
Refuses v (Claim a class) Idle = MeetsIdle v a
Refuses v (Claim a class) BadClass = MeetsHeld v a × (class_limit v ≤ class)
Refuses v (Claim a class) NotNeeded = (d : DeskState) × IsHeld v a d × (class < class_limit v) × HasHome d class
Refuses v (Claim a class) NoChunk = (d : DeskState) × IsHeld v a d × (class < class_limit v) × (HasHome d class → ⊥)
    × (length v.drawn ≡ v.chunks)
Refuses v (Alloc a size) NoDesk = desk_count v ≤ a
Refuses v (Alloc a size) Idle = MeetsIdle v a
Refuses v (Alloc a size) TooLarge = MeetsHeld v a × (size_limit v < size)
Refuses v (Alloc a size) NeedChunk = (d : DeskState) × (class : ℕ) × IsHeld v a d
    × AllocFault d size (DeskNeedChunk class)
Refuses v (Alloc a size) NoMemory = (d : DeskState) × IsHeld v a d × AllocFault d size DeskNoMemory
Refuses v (Free a slot) NoDesk = desk_count v ≤ a
Refuses v (Free a slot) Idle = MeetsIdle v a
Refuses v (Free a slot) NotLent = MeetsHeld v a × (lent_at v.lent slot.0 slot.1 ≡ None)
Refuses v (Send a t) NoDesk = (desk_count v ≤ a) ⊎ (desk_count v ≤ t)
Refuses v (Send a t) Idle = MeetsIdle v a × (t < desk_count v)
Refuses v (Send a t) ToSelf = MeetsFault v a t (Some RouteToSelf)
Refuses v (Send a t) NothingFor = MeetsFault v a t (Some RouteNothingFor)
Refuses v (Send a t) NotAnOwner = MeetsFault v a t (Some RouteNotAnOwner)
Refuses v (Send a t) Spent = MeetsFault v a t None × (last_number < v.next)
Refuses v (Send a t) NoMemory = MeetsFault v a t None × (v.next ≤ last_number)
Refuses v (Link number) NoBatch = LacksUnlinked v number
Refuses v (Take b) NoDesk = desk_count v ≤ b
Refuses v (Take b) Idle = MeetsIdle v b
Refuses v (Take b) Nothing = MeetsHeld v b × HasNoFront (inbox_at v.inboxes b)
Refuses v request refusal = ⊥

-- ---- accepted requests

-- the chunk drawn is the next one, its part has the name at its number, and its slots are at home with the desk
pub record DrawsChunk (old : FloorState) (a class chunk : ℕ) (new : FloorState) : Type 0 where
  pub before : DeskState
  pub after : DeskState
  pub part : Part
  pub held : IsHeld old a before
  pub is_class : class < class_limit old
  pub is_next : chunk ≡ length old.drawn
  pub undrawn : chunk < old.chunks
  pub is_part : part.chunk ≡ chunk
  pub has_name : slice_get old.parts chunk ≡ Some (name_of part)
  pub first : old.undrawn ≡ bytes_of part ∷ new.undrawn
  pub claims : Claims before part class after
  pub same : new ≡ record (with_desk old a after) {
    drawn = old.drawn ++ record { owner = a; class = class } ∷ [];
    undrawn = new.undrawn;
  }

-- the desk gave out the buffer of a slot at home, and it lies in its place in the table
pub record LendsSlot (old : FloorState) (a size : ℕ) (slot : Slot) (new : FloorState) : Type 0 where
  pub before : DeskState
  pub after : DeskState
  pub buffer : Buffer
  pub held : IsHeld old a before
  pub allocs : Allocs before size (Ok buffer) after
  pub is_slot : buffer.slot ≡ slot
  pub same : new ≡ record (with_desk old a after) { lent = slice_set old.lent (index_of slot) (Some buffer) }

-- the desk was handed the lent buffer of the slot
pub record TakesBack (old : FloorState) (a chunk index : ℕ) (freed : Freed) (new : FloorState) : Type 0 where
  pub before : DeskState
  pub after : DeskState
  pub buffer : Buffer
  pub held : IsHeld old a before
  pub was_lent : lent_at old.lent chunk index ≡ Some buffer
  pub is_slot : buffer.slot ≡ record { chunk = chunk; index = index }
  pub frees : Frees before buffer freed after
  pub same : new ≡ record (with_desk old a after) { lent = slice_set old.lent (index_of buffer.slot) None }

-- the desk's bucket for t left its cache, and waits in the inbox of t, behind all others, as a batch with the next
-- number
pub record SendsBatch (old : FloorState) (a t number count : ℕ) (new : FloorState) : Type 0 where
  pub before : DeskState
  pub after : DeskState
  pub batch : BatchState
  pub routes : Routes old a t before None
  pub unspent : old.next ≤ last_number
  pub is_next : number ≡ old.next
  pub address : batch.address ≡ t
  pub gives : GivesBucket old.digits a before.cached batch after.cached
  pub same_desk : after ≡ record before { cached = after.cached }
  pub counted : count ≡ capped (length batch.items)
  pub same : new ≡ record (with_inbox (with_desk old a after) t (inbox_at old.inboxes t ++ sent_as number batch ∷ [])) {
    next = old.next + 1;
  }

-- the batch of this number, which still had to be linked, is linked
pub record LinksBatch (old : FloorState) (number : ℕ) (new : FloorState) : Type 0 where
  pub inbox : ℕ
  pub place : ℕ
  pub unlinked : IsUnlinkedAt old.inboxes number inbox place
  pub same : new ≡ with_inbox old inbox
      (slice_set (inbox_at old.inboxes inbox) place
      (as_linked (slice_index_or (inbox_at old.inboxes inbox) place no_batch)))

-- the front of the inbox of b, a linked batch, left it, and the desk was handed its buffers
pub record TakesFront (old : FloorState) (b home on : ℕ) (new : FloorState) : Type 0 where
  pub before : DeskState
  pub after : DeskState
  pub front : QueuedState
  pub rest : List QueuedState
  pub held : IsHeld old b before
  pub is_front : inbox_at old.inboxes b ≡ front ∷ rest
  pub linked : front.batch.linked ≡ true
  pub handles : Handles before front.buffers after
  pub counted : CountsOf before.number front.buffers (record { home = home; on = on })
  pub same : new ≡ with_inbox (with_desk old b after) b rest

abbrev pub Does : FloorState → Request → Reply → FloorState → Type 0
Does old (Adopt a worker) Done new = (d : IdleState) × IsIdle old a d × (new ≡ with_desk old a (adopted worker d))
Does old (Retire a) Done new = (d : DeskState) × IsHeld old a d × (d.cached ≡ []) × LacksUnlinkedOf old a
    × (new ≡ with_any_desk old a (IdleDesk (retired d)))
Does old (Claim a class) (Chunk k) new = DrawsChunk old a class k new
Does old (Alloc a size) (Lent slot) new = LendsSlot old a size slot new
Does old (Free a slot) Home new = TakesBack old a slot.0 slot.1 FreedHome new
Does old (Free a slot) Cached new = TakesBack old a slot.0 slot.1 FreedCached new
Does old (Free a slot) Due new = TakesBack old a slot.0 slot.1 FreedDue new
Does old (Send a t) (Batch number count) new = SendsBatch old a t number count new
Does old (Link number) Done new = LinksBatch old number new
Does old (Take b) (Counts home on) new = TakesFront old b home on new
Does old request reply new = ⊥

-- the request did what its reply says, or it was refused for this reason and changed nothing
abbrev pub Answers : FloorState → Request → Result Reply Refusal → FloorState → Type 0
Answers old request (Ok reply) new = Does old request reply new
Answers old request (Err refusal) new = Refuses old request refusal × (new ≡ old)
