-- A new station keeps what its type says, and seats are taken out of columns.
use Rattle.std.proofs.Common.{◌≡◌, ℕ, ◌+◌, List, [], ◌∷◌, ◌++◌, length, sym, ap, ◌∙◌, arith, map}
use Rattle.slot_chain.specs.Slots.{slot_of}
use Rattle.std.specs.Prelude.{slice_get}
use Rattle.batch_inbox.specs.States.{TakeState}
use Rattle.slot_balance.specs.Weights.{weigh}
use Rattle.pool_fabric.specs.Names.{Names, box_at}
use Rattle.slot_balance.specs.Seats.{AreParted}
use Rattle.pool_fabric.specs.Seats.{SeatState, AreSeatsBy, NoneSent}
use Rattle.pool_fabric.specs.Accounts.{of_drawn}
use Rattle.slot_balance.proofs.Balanced.{new_balances}
use Rattle.pool_fabric.specs.Stations.{StationState, IsSeated, IsStation, IsFresh}
use Rattle.pool_fabric.specs.Opened.{AreColumns, AreNewTakes}
use Rattle.slot_balance.proofs.Opened.{last_are, others_are}
use Rattle.slot_balance.proofs.Rows.{get_front, get_seam}

nothing : {A : Type 0} (f : A → ℕ) (xs : List A) → xs ≡ [] → weigh f xs ≡ 0
nothing f xs e = ap (weigh f) e

pub fresh_keeps : (n : Names) (s : StationState) → IsFresh s → IsSeated n s → IsStation n s
fresh_keeps n s f i = record {
  slots = new_balances s.desk s.seats s.take.taken s.lent s.freed f.home f.cached f.drawn f.seats f.taken f.lent f.freed;
  chunks = λ g.
      let drawn = nothing (of_drawn g) s.desk.drawn f.drawn in
      let got = nothing g s.page.got f.got in omega arith;
  loans = (f.page_lent ∙ ap (map slot_of) (sym f.lent), f.page_freed ∙ ap (map slot_of) (sym f.freed));
  seated = i;
}

-- the seats at each inbox without those of the last sender, and these seats
pub columns_parted : (n : Names) (m : ℕ) (columns others : List (List SeatState)) (last : List SeatState) → AreParted columns others last → AreColumns n (m + 1) columns
    → AreColumns n m others × AreSeatsBy n m last × NoneSent last
columns_parted n m columns others last p r =
    let of = last_are (λ k i. i ≡ box_at n k) m columns others last p r.each in (
      record { each = others_are (λ k i. i ≡ box_at n k) m columns others last p r.each },
      record { each = λ k x e. let q = of k x e in (q.0, q.1, q.2) },
      (λ k x e. (of k x e).3),
    )

-- the last take seat, and the others
pub take_popped : (n : Names) (ts rest : List TakeState) (t : TakeState) → AreNewTakes n ts → ts ≡ rest ++ t ∷ []
    → AreNewTakes n rest × ((t.inbox ≡ box_at n (length rest)) × (t.senders ≡ n.count) × (t.taken ≡ []))
take_popped n ts rest t i is = (
  record { each = λ k x e. i.each k x (ap (λ l. slice_get l k) is ∙ get_front rest (t ∷ []) k x e) },
  i.each (length rest) t (ap (λ l. slice_get l (length rest)) is ∙ get_seam rest t []),
)
