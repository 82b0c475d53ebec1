-- What is gathered keeps its sums.
use Rattle.std.proofs.Common.{◌≡◌, ℕ, suc, ◌+◌, ◌-◌, List, [], ◌∷◌, ◌++◌, ◌≤◌, length, map, refl, sym, ap, ◌∙◌, arith, subst, Some, length-append}
use Rattle.std.specs.Prelude.{slice_get}
use Rattle.region_cut.specs.declared.slot.Slot.{Slot}
use Rattle.region_cut.specs.declared.part.Part.{Part}
use Rattle.slot_chain.specs.Buffer.{Buffer}
use Rattle.digit_route.specs.States.{BatchState}
use Rattle.batch_inbox.specs.States.{InboxId, TakeState}
use Rattle.slot_balance.specs.Weights.{weigh}
use Rattle.pool_fabric.specs.Names.{Names, box_at}
use Rattle.pool_fabric.specs.Pages.{PageState}
use Rattle.pool_fabric.specs.Seats.{SeatState, AreSeatsBy}
use Rattle.pool_desk.specs.Desks.{DeskState}
use Rattle.pool_fabric.specs.declared.ledger.DrawnChunk.{DrawnChunk}
use Rattle.pool_fabric.specs.Accounts.{of_buffer, of_batch, of_seats, of_part, of_taking, of_entry, held, owed, drew}
use Rattle.pool_fabric.specs.Stations.{StationState, KeepsLoans, IsStation}
use Rattle.pool_fabric.specs.Gathered.{GatheredState, AreRows, AreTakes, AreOf, IsGathered}
use Rattle.pool_fabric.specs.Whole.{IsWhole, FreesNoMore, IsEachDesk}
use Rattle.slot_balance.proofs.Sums.{weigh-append, weigh-snoc, weigh-map}
use Rattle.slot_chain.specs.Slots.{slot_of}
use Rattle.std.proofs.lemmas.List.{map-append}
use Rattle.slot_balance.proofs.Rows.{each_more, get_front, get_seam}

-- both pages in one
abbrev pub both : PageState → PageState → PageState
both p q = record {
  key = p.key;
  loans = p.loans;
  parts = p.parts + q.parts;
  gave = p.gave ++ q.gave;
  got = p.got ++ q.got;
  lent = p.lent ++ q.lent;
  freed = p.freed ++ q.freed;
}

-- what two holders lent and took back
both_loans : (p q r : PageState) (lent freed more_lent more_freed all_lent all_freed : List Buffer) → KeepsLoans p lent freed → KeepsLoans q more_lent more_freed → r ≡ both p q
    → all_lent ≡ lent ++ more_lent → all_freed ≡ freed ++ more_freed → KeepsLoans r all_lent all_freed
both_loans p q r lent freed more_lent more_freed all_lent all_freed i k e l f = (
  ap (λ (x : PageState). x.lent) e ∙ ap (λ xs. xs ++ q.lent) i.0 ∙ ap (λ xs. map slot_of lent ++ xs) k.0 ∙ sym (map-append slot_of lent more_lent) ∙ ap (map slot_of) (sym l),
  ap (λ (x : PageState). x.freed) e ∙ ap (λ xs. xs ++ q.freed) i.1 ∙ ap (λ xs. map slot_of freed ++ xs) k.1 ∙ sym (map-append slot_of freed more_freed) ∙ ap (map slot_of) (sym f),
)

pub adds_keeps : (n : Names) (s : GatheredState) (t : StationState) (takes : List TakeState) (page : PageState) (lent freed : List Buffer)
    → IsGathered n s → IsStation n t → t.desk.number ≡ length s.rows → t.desk.number ≡ length s.takes → s.columns ≡ n.count
    → takes ≡ s.takes ++ t.take ∷ [] → page ≡ both s.page t.page → lent ≡ s.lent ++ t.lent → freed ≡ s.freed ++ t.freed
    → IsGathered n (record s { desks = s.desks ++ t.desk ∷ []; takes = takes; rows = s.rows ++ t.seats ∷ []; page = page; lent = lent; freed = freed })
adds_keeps n s t takes page lent freed i k at_row at_take columns m e l f = record {
  slots = λ h.
      let p = i.slots h in
      let q = k.slots h in
      let a = weigh-snoc (held h) s.desks t.desk in
      let b = weigh-snoc (of_seats h) s.rows t.seats in
      let c = weigh-snoc (owed h) s.desks t.desk in
      let d = weigh-snoc (of_taking h) s.takes t.take in
      let d' = ap (weigh (of_taking h)) m in
      let x = weigh-append (of_buffer h) s.lent t.lent in
      let x' = ap (weigh (of_buffer h)) l in
      let y = weigh-append (of_buffer h) s.freed t.freed in
      let y' = ap (weigh (of_buffer h)) f in
      omega arith;
  chunks = λ g.
      let p = i.chunks g in
      let q = k.chunks g in
      let a = weigh-snoc (drew g) s.desks t.desk in
      let y = weigh-append g s.page.got t.page.got in
      let y' = ap (λ (z : PageState). weigh g z.got) e in
      omega arith;
  desks = record {
    many = length-append s.desks (t.desk ∷ []) ∙ ap (λ k. k + 1) i.desks.many ∙ sym (length-append s.rows (t.seats ∷ []));
    each = each_more (λ k (d : DeskState). d.number ≡ k) s.desks t.desk i.desks.each (at_row ∙ sym i.desks.many);
  };
  rows = record { each = each_more (λ a r. AreSeatsBy n a r × (length r ≡ s.columns)) s.rows t.seats i.rows.each (subst (λ a. AreSeatsBy n a t.seats × (length t.seats ≡ s.columns)) at_row (k.seated.seats, k.seated.number ∙ sym columns)) };
  takes = record {
    each = subst (λ ts. (j : ℕ) (x : TakeState) → slice_get ts j ≡ Some x → (x.inbox ≡ box_at n j) × (x.senders ≡ n.count)) (sym m)
        (each_more (λ j (x : TakeState). (x.inbox ≡ box_at n j) × (x.senders ≡ n.count)) s.takes t.take i.takes.each (k.seated.take ∙ ap (box_at n) at_take, k.seated.senders));
  };
  page = ap (λ (z : PageState). z.key) e ∙ i.page;
  ledger = ap (λ (z : PageState). z.loans) e ∙ i.ledger;
  loans = both_loans s.page t.page page s.lent s.freed t.lent t.freed lent freed i.loans k.loans e l f;
}

-- the last receiver's seat, and the others
pub last_take : (n : Names) (takes rest : List TakeState) (t : TakeState) (columns : ℕ) (box : InboxId) → AreTakes n takes → takes ≡ rest ++ t ∷ [] → columns ≡ length takes → box ≡ box_at n (columns - 1)
    → (t.inbox ≡ box) × (t.senders ≡ n.count) × AreTakes n rest
last_take n takes rest t columns box i is len at =
    let here = i.each (length rest) t (ap (λ l. slice_get l (length rest)) is ∙ get_seam rest t []) in
    let place : length rest ≡ columns - 1 = let e = ap length is in let f = length-append rest (t ∷ []) in omega arith in
    (here.0 ∙ ap (box_at n) place ∙ sym at, here.1, record { each = λ k x e. i.each k x (ap (λ l. slice_get l k) is ∙ get_front rest (t ∷ []) k x e) })

pub seats_of : (n : Names) (k : ℕ) (box : InboxId) (seats : List SeatState) → AreOf (box_at n k) seats → box ≡ box_at n k → AreOf box seats
seats_of n k box seats i at = subst (λ b. AreOf b seats) (sym at) i

pub closes_keeps : (n : Names) (s : GatheredState) (take : TakeState) (takes : List TakeState) (seats : List SeatState) (rows : List (List SeatState)) (more batches : List BatchState) (columns : ℕ)
    → IsGathered n s → s.takes ≡ takes ++ take ∷ [] → AreTakes n takes → AreRows n columns rows → length rows ≡ length s.rows
    → ((h : Slot → ℕ) → of_seats h seats + weigh (of_seats h) rows ≡ weigh (of_seats h) s.rows)
    → ((h : Slot → ℕ) → of_seats h seats ≡ of_taking h take + weigh (of_batch h) more)
    → batches ≡ s.batches ++ more
    → IsGathered n (record s { columns = columns; takes = takes; rows = rows; batches = batches })
closes_keeps n s take takes seats rows more batches columns i is kept at many slots closed b = record {
  slots = λ h.
      let p = i.slots h in
      let q = slots h in
      let r = closed h in
      let x = weigh-snoc (of_taking h) takes take in
      let x' = ap (weigh (of_taking h)) is in
      let y = weigh-append (of_batch h) s.batches more in
      let y' = ap (weigh (of_batch h)) b in
      omega arith;
  chunks = i.chunks;
  desks = subst (λ k. IsEachDesk k s.desks) (sym many) i.desks;
  rows = at;
  takes = kept;
  page = i.page;
  ledger = i.ledger;
  loans = i.loans;
}

-- with no inbox left, the rows are empty
no_rows : (h : Slot → ℕ) (rows : List (List SeatState)) → ((a : ℕ) (r : List SeatState) → slice_get rows a ≡ Some r → length r ≡ 0) → weigh (of_seats h) rows ≡ 0
no_rows h [] e = refl
no_rows h ([] ∷ rs) e = let i = no_rows h rs (λ a r at. e (suc a) r at) in omega arith
no_rows h ((x ∷ xs) ∷ rs) e = let f = e 0 (x ∷ xs) refl in absurd (omega arith)

no_takes : (h : Slot → ℕ) (takes : List TakeState) → length takes ≡ 0 → weigh (of_taking h) takes ≡ 0
no_takes h [] e = refl
no_takes h (x ∷ xs) e = absurd (omega arith)

-- the pages of all stations say so of the slots, and so of the buffers
pub frees_no_more : (old page : PageState) (lent freed : List Buffer) → KeepsLoans old lent freed → page ≡ old → ((h : Slot → ℕ) → weigh h page.freed ≤ weigh h page.lent)
    → FreesNoMore lent freed
frees_no_more old page lent freed i same bound h =
    let b = bound h in
    let l = ap (λ (x : PageState). weigh h x.lent) same ∙ ap (weigh h) i.0 ∙ weigh-map h slot_of lent in
    let f = ap (λ (x : PageState). weigh h x.freed) same ∙ ap (weigh h) i.1 ∙ weigh-map h slot_of freed in
    omega arith

pub finishes : (n : Names) (s : GatheredState) (page : PageState) (parts : List Part)
    → IsGathered n s → s.columns ≡ 0 → length s.takes ≡ 0
    → page ≡ s.page → ((g : DrawnChunk → ℕ) → weigh g page.gave ≡ weigh g page.got)
    → ((g : ℕ → ℕ) → weigh (of_entry g) s.page.gave + weigh (of_part g) parts ≡ weigh g n.chunks)
    → IsWhole s.desks s.batches s.lent s.freed parts n.chunks
finishes n s page parts i columns takes same all left = record {
  slots = λ h.
      let p = i.slots h in
      let a = no_rows h s.rows (λ a r at. (i.rows.each a r at).1 ∙ columns) in
      let b = no_takes h s.takes takes in
      omega arith;
  chunks = λ g.
      let p = i.chunks (of_entry g) in
      let a = all (of_entry g) in
      let b = left g in
      let d = ap (λ (x : PageState). weigh (of_entry g) x.gave) same in
      let e = ap (λ (x : PageState). weigh (of_entry g) x.got) same in
      omega arith;
}
