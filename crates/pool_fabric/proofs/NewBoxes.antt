-- What a fabric is opened from.
use Rattle.std.proofs.Common.{◌≡◌, ℕ, ◌≤◌, List, length, map, reverse, refl, sym, ◌∙◌, Some, ◌^◌, subst}
use Rattle.std.specs.Prelude.{slice_get}
use Rattle.std.proofs.lemmas.List.Sorted.{IsPermutation-reverse}
use Rattle.std.proofs.lemmas.Option.{get_or_from_slice_get}
use Rattle.region_cut.specs.declared.part.Part.{Part}
use Rattle.region_cut.specs.Parts.{number_of}
use Rattle.digit_route.specs.Digits.{Scheme}
use Rattle.batch_inbox.specs.States.{InboxId, TakeState}
use Rattle.pool_fabric.specs.Names.{box_at}
use Rattle.digit_route.specs.Limits.{largest_limit}
use Rattle.pool_fabric.specs.Ledgers.{whole}
use Rattle.pool_fabric.specs.Pages.{PageState, new_page}
use Rattle.slot_balance.specs.Weights.{weigh}
use Rattle.pool_fabric.specs.Accounts.{of_part}
use Rattle.pool_fabric.specs.Seats.{SeatState, AreBoxes}
use Rattle.pool_fabric.specs.Stocks.{StockState, IsFull}
use Rattle.pool_fabric.specs.Opened.{AreColumns, AreNewTakes, AreOpened, IsOpening, names_of, most_desks}
use Rattle.slot_balance.proofs.Sums.{weigh-map, weigh-permutation}

-- inboxes and seats by their names
module _ (d : Scheme) (limit : ℕ) (ledger : List ℕ) (loans : ℕ) (left : List Part) (is : List InboxId) (ts : List TakeState) (cs : List (List SeatState)) (o : AreOpened d (length is) is ts cs) where
  at : (k : ℕ) (i : InboxId) → slice_get is k ≡ Some i → i ≡ box_at (names_of is d limit ledger loans left) k
  at k i e = sym (get_or_from_slice_get is k i _ e)

  pub named_boxes : AreBoxes (names_of is d limit ledger loans left) is
  named_boxes = record { count = refl; each = λ k i e. (at k i e, o.inbox k i e) }

  pub named_takes : AreNewTakes (names_of is d limit ledger loans left) ts
  named_takes = record { each = λ k t e. let q = o.take k t e in (at k t.inbox q.0, q.1, q.2) }

  pub named_columns : AreColumns (names_of is d limit ledger loans left) (length is) cs
  named_columns = record { each = λ k c e. let q = o.column k c e in (q.0, q.1, λ a s f. let r = q.2 a s f in (at k s.inbox r.0, r.1, r.2)) }

-- the chunks of a stock
pub named_chunks : (g : ℕ → ℕ) (left : List Part) → weigh (of_part g) left ≡ weigh g (map number_of (reverse left))
named_chunks g left = sym (weigh-map g number_of (reverse left) ∙ weigh-permutation (of_part g) left (reverse left) (IsPermutation-reverse left))

-- so many inboxes, with their seats
pub opening_of : (d : Scheme) (limit : ℕ) (ledger : List ℕ) (loans : ℕ) (stock : StockState) (is : List InboxId) (ts : List TakeState) (cs : List (List SeatState)) (n : ℕ) (book : PageState)
    → AreOpened d n is ts cs → length is ≡ n → length ts ≡ n → length cs ≡ n → (n ≤ most_desks) × (n ≤ 2 ^ d.bits) → limit ≤ largest_limit → IsFull stock
    → book ≡ new_page ledger loans whole → IsOpening (names_of is d limit ledger loans stock.left) is ts cs book stock
opening_of d limit ledger loans stock is ts cs n book o many takes columns few low full whole_book =
    let all = subst (λ k. AreOpened d k is ts cs) (sym many) o in record {
      are_boxes = named_boxes d limit ledger loans stock.left is ts cs all;
      are_takes = (named_takes d limit ledger loans stock.left is ts cs all, takes ∙ sym many);
      are_columns = (named_columns d limit ledger loans stock.left is ts cs all, columns ∙ sym many);
      few = subst (λ k. (k ≤ most_desks) × (k ≤ 2 ^ d.bits)) (sym many) few;
      low = low;
      full = full;
      whole_book = whole_book;
    }
