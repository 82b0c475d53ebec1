-- What all stations of one fabric agree on.
use Rattle.std.specs.Prelude.{ℕ, List, [], slice_index_or}
use Rattle.digit_route.specs.Digits.{Scheme}
use Rattle.batch_inbox.specs.States.{InboxId}
use Rattle.batch_inbox.specs.Views.{nowhere}

-- the inbox of each desk, in order of their numbers from 0, how the desks' numbers are read, the limit of each desk's
-- cache in bytes, how many desks there are, the ledgers of chunks and of loans, and the chunks that the stock began with
pub record Names : Type 0 where
  pub boxes : List InboxId
  pub digits : Scheme
  pub limit : ℕ
  pub count : ℕ
  pub ledger : List ℕ
  pub loans : ℕ
  pub chunks : List ℕ

-- the names of no fabric
abbrev pub nothing : Names
nothing = record {
  boxes = [];
  digits = nowhere.digits;
  limit = 0;
  count = 0;
  ledger = [];
  loans = 0;
  chunks = [];
}

-- the inbox of the desk k
abbrev pub box_at : Names → ℕ → InboxId
box_at n k = slice_index_or n.boxes k (record { key = []; place = nowhere })
