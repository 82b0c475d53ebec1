-- Inboxes that were opened, and their seats.
use Rattle.std.specs.Prelude.{◌≡◌, ℕ, ◌≤◌, ◌^◌, true, List, [], length, map, reverse, Some, slice_get}
use Rattle.region_cut.specs.Parts.{number_of}
use Rattle.region_cut.specs.declared.part.Part.{Part}
use Rattle.digit_route.specs.Digits.{Scheme}
use Rattle.digit_route.specs.Limits.{largest_limit}
use Rattle.batch_inbox.specs.States.{InboxId, TakeState}
pub use Rattle.slot_balance.specs.Opened.{AreOpened}
use Rattle.pool_fabric.specs.Ledgers.{whole}
use Rattle.pool_fabric.specs.Names.{Names, box_at}
use Rattle.pool_fabric.specs.Pages.{PageState, new_page}
use Rattle.pool_fabric.specs.Seats.{SeatState, NoneSent, AreBoxes}
use Rattle.pool_fabric.specs.Stocks.{StockState, IsFull}

-- the most desks that a fabric has
abbrev pub most_desks : ℕ
most_desks = 64

-- the seats at the inbox k, of this many senders in order: at rest, and nothing was sent
abbrev pub IsColumn : Names → ℕ → ℕ → List SeatState → Type 0
IsColumn n many k c =
    (length c ≡ many) × NoneSent c
    × ((a : ℕ) (s : SeatState) → slice_get c a ≡ Some s → (s.inbox ≡ box_at n k) × (s.sender ≡ a) × (s.resting ≡ true))

-- such seats at each named inbox, in order
pub record AreColumns (n : Names) (many : ℕ) (columns : List (List SeatState)) : Type 0 where
  pub each : (k : ℕ) (c : List SeatState) → slice_get columns k ≡ Some c → IsColumn n many k c

-- the take seats of the named inboxes, in order: nothing was taken
pub record AreNewTakes (n : Names) (takes : List TakeState) : Type 0 where
  pub each : (k : ℕ) (t : TakeState) → slice_get takes k ≡ Some t
      → (t.inbox ≡ box_at n k) × (t.senders ≡ n.count) × (t.taken ≡ [])

-- what the stations of a fabric agree on that is made of these inboxes, these ledgers, and a stock with these parts left,
-- with caches of this limit
abbrev pub names_of : List InboxId → Scheme → ℕ → List ℕ → ℕ → List Part → Names
names_of boxes digits limit ledger loans left = record {
  boxes = boxes;
  digits = digits;
  limit = limit;
  count = length boxes;
  ledger = ledger;
  loans = loans;
  chunks = map number_of (reverse left);
}

-- What a fabric of these names is made of: its inboxes, a new take seat and new send seats at each, the page with
-- every part of its ledger, and a full stock.
pub record IsOpening (n : Names) (boxes : List InboxId) (takes : List TakeState) (columns : List (List SeatState))
    (book : PageState) (stock : StockState) : Type 0 where
  pub are_boxes : AreBoxes n boxes
  pub are_takes : AreNewTakes n takes × (length takes ≡ n.count)
  pub are_columns : AreColumns n n.count columns × (length columns ≡ n.count)
  pub few : (n.count ≤ most_desks) × (n.count ≤ 2 ^ n.digits.bits)
  pub low : n.limit ≤ largest_limit
  pub full : IsFull stock
  pub whole_book : book ≡ new_page n.ledger n.loans whole
