-- What was gathered from the stations.
use Rattle.std.specs.Prelude.{◌≡◌, ℕ, ◌+◌, List, [], ◌∷◌, ◌++◌, length, Some, slice_get}
use Rattle.region_cut.specs.declared.slot.Slot.{Slot}
use Rattle.slot_chain.specs.Buffer.{Buffer}
use Rattle.digit_route.specs.States.{BatchState}
use Rattle.pool_desk.specs.Desks.{DeskState}
use Rattle.batch_inbox.specs.States.{InboxId, TakeState}
use Rattle.slot_balance.specs.Weights.{weigh}
pub use Rattle.slot_balance.specs.Seats.{taking_of}
use Rattle.pool_fabric.specs.Names.{Names, box_at}
use Rattle.pool_fabric.specs.Pages.{PageState}
use Rattle.pool_fabric.specs.Seats.{SeatState, AreSeatsBy}
use Rattle.pool_fabric.specs.declared.ledger.DrawnChunk.{DrawnChunk}
use Rattle.pool_fabric.specs.Whole.{IsEachDesk}
use Rattle.pool_fabric.specs.Accounts.{of_buffer, of_batch, of_seats, of_taking, held, owed, drew}
use Rattle.pool_fabric.specs.Stations.{StationState, KeepsLoans}

-- these are the seats at the inbox, of the senders in order
pub record AreOf (inbox : InboxId) (seats : List SeatState) : Type 0 where
  pub each : (a : ℕ) (x : SeatState) → slice_get seats a ≡ Some x → (x.inbox ≡ inbox) × (x.sender ≡ a)

-- `columns` is the number of inboxes that are not ended yet; each row has the seats of one sender at these
pub record GatheredState : Type 0 where
  pub columns : ℕ
  pub desks : List DeskState
  pub takes : List TakeState
  pub rows : List (List SeatState)
  pub page : PageState
  pub lent : List Buffer
  pub freed : List Buffer
  pub batches : List BatchState

-- each row has the seats of the sender of its place, one at each open inbox
pub record AreRows (n : Names) (columns : ℕ) (rows : List (List SeatState)) : Type 0 where
  pub each : (a : ℕ) (r : List SeatState) → slice_get rows a ≡ Some r → AreSeatsBy n a r × (length r ≡ columns)

-- these are the seats at the inbox k, of the senders in order
abbrev pub AreAt : Names → ℕ → List SeatState → Type 0
AreAt n k seats = AreOf (box_at n k) seats

-- the receivers' seats, each of the inbox of its place
pub record AreTakes (n : Names) (takes : List TakeState) : Type 0 where
  pub each : (k : ℕ) (t : TakeState) → slice_get takes k ≡ Some t → (t.inbox ≡ box_at n k) × (t.senders ≡ n.count)

pub record IsGathered (n : Names) (s : GatheredState) : Type 0 where
  pub slots : (h : Slot → ℕ)
      → weigh (held h) s.desks + weigh (of_seats h) s.rows + weigh (of_buffer h) s.lent + weigh (of_batch h) s.batches
      ≡ weigh (owed h) s.desks + weigh (of_taking h) s.takes + weigh (of_buffer h) s.freed
  pub chunks : (g : DrawnChunk → ℕ) → weigh (drew g) s.desks ≡ weigh g s.page.got
  pub desks : IsEachDesk (length s.rows) s.desks
  pub rows : AreRows n s.columns s.rows
  pub takes : AreTakes n s.takes
  pub page : s.page.key ≡ n.ledger
  pub ledger : s.page.loans ≡ n.loans
  pub loans : KeepsLoans s.page s.lent s.freed

-- a station was added: its desk is the last, its page was taken in
pub record AddsStation (t : StationState) (old new : GatheredState) : Type 0 where
  pub columns : new.columns ≡ old.columns
  pub desks : new.desks ≡ old.desks ++ t.desk ∷ []
  pub takes : length new.takes ≡ length old.takes + 1
  pub rows : length new.rows ≡ length old.rows + 1
  pub parts : new.page.parts ≡ old.page.parts + 1
  pub gave : new.page.gave ≡ old.page.gave
  pub lent : new.lent ≡ old.lent ++ t.lent
  pub freed : new.freed ≡ old.freed ++ t.freed

-- to what was gathered, these stations' desks are added, what they lent and what was freed to them, however each is weighed
pub record AddsEach (stations : List StationState) (old : GatheredState) (desks : List DeskState) (lent freed : List Buffer)
    : Type 0 where
  pub every_desk : (h : DeskState → ℕ) → weigh h desks ≡ weigh h old.desks + weigh (λ (s : StationState). h s.desk) stations
  pub all_lent : (h : Buffer → ℕ)
      → weigh h lent ≡ weigh h old.lent + weigh (λ (s : StationState). weigh h s.lent) stations
  pub all_freed : (h : Buffer → ℕ)
      → weigh h freed ≡ weigh h old.freed + weigh (λ (s : StationState). weigh h s.freed) stations

-- an inbox was ended
pub record Closes (old new : GatheredState) : Type 0 where
  pub columns : new.columns + 1 ≡ old.columns
  pub desks : new.desks ≡ old.desks
  pub takes : length new.takes + 1 ≡ length old.takes
  pub rows : length new.rows ≡ length old.rows
  pub page : new.page ≡ old.page
  pub lent : new.lent ≡ old.lent
  pub freed : new.freed ≡ old.freed
