-- What a contract sees of a station, and what its type keeps.
use Rattle.std.specs.Prelude.{◌≡◌, ℕ, ◌^◌, ◌<◌, List, [], length, map}
use Rattle.slot_chain.specs.Buffer.{Buffer}
use Rattle.slot_chain.specs.Slots.{slot_of}
use Rattle.pool_desk.specs.Desks.{DeskState, IdleState}
use Rattle.batch_inbox.specs.States.{TakeState}
use Rattle.slot_balance.specs.Weights.{weigh}
use Rattle.pool_fabric.specs.Names.{Names, box_at}
use Rattle.pool_fabric.specs.Pages.{PageState}
use Rattle.pool_fabric.specs.Seats.{SeatState, AreSeatsBy, NoneSent}
use Rattle.pool_fabric.specs.declared.ledger.DrawnChunk.{DrawnChunk}
use Rattle.slot_balance.specs.Balances.{Balances}
use Rattle.pool_fabric.specs.Accounts.{drew}

-- the desk, its seats, its page of the ledger, and the buffers that it lent out and that were freed to it
pub record StationState : Type 0 where
  pub desk : DeskState
  pub take : TakeState
  pub seats : List SeatState
  pub page : PageState
  pub lent : List Buffer
  pub freed : List Buffer

-- an idle desk, as one whose cache is empty
abbrev pub resting : IdleState → DeskState
resting d = record {
  number = d.number;
  digits = d.digits;
  limit = d.limit;
  worker = 0;
  home = d.home;
  drawn = d.drawn;
  cached = [];
}

-- nothing is lost at its desk, and nothing is there twice
abbrev pub KeepsSlots : StationState → Type 0
KeepsSlots s = Balances s.desk s.seats s.take.taken s.lent s.freed

-- However chunks and their classes are weighed: those that it drew are those that it got.
abbrev pub KeepsChunks : StationState → Type 0
KeepsChunks s = (g : DrawnChunk → ℕ) → drew g s.desk ≡ weigh g s.page.got

pub record IsSeated (n : Names) (s : StationState) : Type 0 where
  pub in_range : s.desk.number < 2 ^ n.digits.bits
  pub digits : s.desk.digits ≡ n.digits
  pub limit : s.desk.limit ≡ n.limit
  pub take : s.take.inbox ≡ box_at n s.desk.number
  pub senders : s.take.senders ≡ n.count
  pub seats : AreSeatsBy n s.desk.number s.seats
  pub number : length s.seats ≡ n.count
  pub page : s.page.key ≡ n.ledger
  pub loans : s.page.loans ≡ n.loans
  pub part : s.page.parts ≡ 1
  pub none_given : s.page.gave ≡ []

-- The slots that its page lent and took back are those of the buffers that it lent and that were freed to it.
abbrev pub KeepsLoans : PageState → List Buffer → List Buffer → Type 0
KeepsLoans p lent freed = (p.lent ≡ map slot_of lent) × (p.freed ≡ map slot_of freed)

pub record IsStation (n : Names) (s : StationState) : Type 0 where
  pub slots : KeepsSlots s
  pub chunks : KeepsChunks s
  pub loans : KeepsLoans s.page s.lent s.freed
  pub seated : IsSeated n s

-- nothing was drawn, sent, taken, lent or freed
pub record IsFresh (s : StationState) : Type 0 where
  pub home : s.desk.home ≡ []
  pub cached : s.desk.cached ≡ []
  pub drawn : s.desk.drawn ≡ []
  pub taken : s.take.taken ≡ []
  pub seats : NoneSent s.seats
  pub got : s.page.got ≡ []
  pub page_lent : s.page.lent ≡ []
  pub page_freed : s.page.freed ≡ []
  pub lent : s.lent ≡ []
  pub freed : s.freed ≡ []
