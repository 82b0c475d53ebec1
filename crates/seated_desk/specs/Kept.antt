-- What a call keeps of an allocator.
use Rattle.std.specs.Prelude.{◌≡◌, ℕ, List, [], ◌++◌, Option, Some, None, map}
use Rattle.slot_chain.specs.Buffer.{Buffer}
use Rattle.slot_chain.specs.Parcels.{ParcelState}
use Rattle.slot_chain.specs.Slots.{slot_of}
use Rattle.digit_route.specs.States.{RefusedState}
use Rattle.pool_desk.specs.Desks.{DeskState}
use Rattle.slot_balance.specs.Posts.{Posts}
use Rattle.seated_desk.specs.Answers.{refusal_number}
use Rattle.seated_desk.specs.Claims.{IsSameDesk}
use Rattle.seated_desk.specs.Ways.{seats_at}
use Rattle.seated_desk.specs.declared.refusal.Refusal.TheVariants.{Empty}
use Rattle.seated_desk.specs.declared.station.Station.{Station}

-- the number of its desk, how numbers are read, and its pool
pub record IsOfOne (old new : Station) : Type 0 where
  pub number : new.desk.number ≡ old.desk.number
  pub digits : new.desk.digits ≡ old.desk.digits
  pub pool : new.pool ≡ old.pool

-- nothing was lent or freed there
pub record IsSameStation (old new : Station) : Type 0 where
  pub one : IsOfOne old new
  pub lent : new.lent ≡ old.lent
  pub freed : new.freed ≡ old.freed

-- just these buffers were lent there, and none was freed
pub record LendsThere (bs : List Buffer) (old new : Station) : Type 0 where
  pub one : IsOfOne old new
  pub lent : new.lent ≡ old.lent ++ bs
  pub freed : new.freed ≡ old.freed

-- just these buffers were freed there, and none was lent
pub record FreesThere (bs : List Buffer) (old new : Station) : Type 0 where
  pub one : IsOfOne old new
  pub lent : new.lent ≡ old.lent
  pub freed : new.freed ≡ old.freed ++ bs

-- nothing was lent or freed there, and its chunks are the same
pub record KeepsStation (old new : Station) : Type 0 where
  pub desk : IsSameDesk old.desk new.desk
  pub pool : new.pool ≡ old.pool
  pub lent : new.lent ≡ old.lent
  pub freed : new.freed ≡ old.freed

-- All that was cached was given to the inboxes, in whole buckets, each to its address. What an inbox refused is cached
-- again, and nothing else is.
abbrev pub PostsAll : Station → Station → Type 0
PostsAll old new =
    Posts old.desk.digits old.desk.number old.desk.cached (seats_at old.seats.items) [] new.desk.cached (seats_at new.seats.items)

-- what was refused is of this desk
pub record IsRefusedOf (desk : DeskState) (refused : RefusedState) : Type 0 where
  pub number : refused.number ≡ desk.number
  pub digits : refused.digits ≡ desk.digits

-- the buffers that came to the end of a parcel are those that were lent, by their slots, and its owner stays
pub record LendsOnto (p q : ParcelState) (old new : Station) : Type 0 where
  pub added : List Buffer
  pub lent : List Buffer
  pub appended : q.items ≡ p.items ++ added
  pub slots : map slot_of added ≡ map slot_of lent
  pub owner : q.owner ≡ p.owner
  pub station : LendsThere lent old new

-- the same of what a burst's handle holds; where no burst is open, nothing was lent
abbrev pub LendsBurst : Option ParcelState → Option ParcelState → Station → Station → Type 0
LendsBurst None None old new = IsSameStation old new
LendsBurst (Some p) (Some q) old new = LendsOnto p q old new
LendsBurst p q old new = ⊥

-- at an allocator that is attached, which stays so, P holds; else the answer is Empty, and all is as before
abbrev pub AtStation : {H : Type 0} → Option Station → Option Station → ℕ → H → H → (Station → Station → Type 0) → Type 0
AtStation None None answer old new P = (answer ≡ refusal_number Empty) × (new ≡ old)
AtStation (Some s) (Some t) answer old new P = P s t
AtStation s t answer old new P = ⊥
