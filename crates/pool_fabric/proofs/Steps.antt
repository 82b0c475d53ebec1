-- Each call of a station keeps what its type says.
use Rattle.std.proofs.Common.{◌≡◌, ℕ, ◌^◌, ◌<◌, List, [], ◌∷◌, ◌++◌, length, map, refl, sym, ap, ◌∙◌, arith, subst}
use Rattle.std.specs.Prelude.{Ok}
use Rattle.region_cut.specs.declared.slot.Slot.{Slot}
use Rattle.region_cut.specs.declared.part.Part.{Part}
use Rattle.slot_chain.specs.Buffer.{Buffer}
use Rattle.pool_desk.specs.Desks.{DeskState}
use Rattle.slot_chain.specs.Parcels.{ParcelState}
use Rattle.pool_desk.specs.Steps.{Claims, AllocsClass, Frees, FreesAll, LendsWhole}
use Rattle.pool_desk.specs.declared.freed.Freed.{Freed}
use Rattle.slot_balance.specs.Weights.{weigh}
use Rattle.pool_fabric.specs.Names.{Names, box_at}
use Rattle.pool_fabric.specs.Pages.{PageState, drawn_for, lent_on, lent_all_on, freed_on}
use Rattle.pool_fabric.specs.Seats.{SeatState, AreSeatsBy}
use Rattle.batch_inbox.specs.States.{TakeState}
use Rattle.pool_fabric.specs.Accounts.{of_drawn}
use Rattle.slot_balance.specs.Posts.{Posts, TakesSome}
use Rattle.pool_fabric.specs.Calls.{ClaimsPart}
use Rattle.pool_fabric.specs.Stations.{StationState, KeepsLoans, IsSeated, IsStation}
use Rattle.slot_chain.specs.Slots.{slot_of}
use Rattle.slot_balance.proofs.Sums.{weigh-snoc}
use Rattle.slot_balance.proofs.Rows.{map-snoc}
use Rattle.std.proofs.lemmas.List.{map-append}
use Rattle.pool_fabric.proofs.DeskSums.{claimed_chunk, gave_chunks}
use Rattle.slot_balance.proofs.DeskSums.{got_all_back_drawn, got_back_drawn}
use Rattle.slot_balance.proofs.Balanced.{lends_balances, lends_whole_balances, frees_balances, frees_all_balances, takes_balances, posts_balances, claims_balances}
use Rattle.slot_balance.proofs.Posting.{length-sent_all, handled_stays}

-- the pages are of the same holder
pub record AreOfOne (p q : PageState) : Type 0 where
  pub key : q.key ≡ p.key
  pub loans : q.loans ≡ p.loans
  pub parts : q.parts ≡ p.parts
  pub gave : q.gave ≡ p.gave

pub same_holder : (p : PageState) → AreOfOne p p
same_holder p = record { key = refl; loans = refl; parts = refl; gave = refl }

-- what was lent and freed stands on the page, too
pub keeps_lent : (p q : PageState) (lent more freed : List Buffer) (b : Buffer) → KeepsLoans p lent freed → q ≡ lent_on p b.slot → more ≡ lent ++ b ∷ [] → KeepsLoans q more freed
keeps_lent p q lent more freed b i e f = (
  ap (λ (x : PageState). x.lent) e ∙ ap (λ l. l ++ b.slot ∷ []) i.0 ∙ sym (map-snoc slot_of lent b) ∙ ap (map slot_of) (sym f),
  ap (λ (x : PageState). x.freed) e ∙ i.1,
)

pub keeps_freed : (p q : PageState) (lent freed more bs : List Buffer) → KeepsLoans p lent freed → q ≡ freed_on p (map slot_of bs) → more ≡ freed ++ bs → KeepsLoans q lent more
keeps_freed p q lent freed more bs i e f = (
  ap (λ (x : PageState). x.lent) e ∙ i.0,
  ap (λ (x : PageState). x.freed) e ∙ ap (λ l. l ++ map slot_of bs) i.1 ∙ sym (map-append slot_of freed bs) ∙ ap (map slot_of) (sym f),
)

-- another desk of the same number, lent and freed other buffers
pub reseat : (n : Names) (s : StationState) (d : DeskState) (page : PageState) (lent freed : List Buffer) → d.number ≡ s.desk.number → d.digits ≡ s.desk.digits → d.limit ≡ s.desk.limit → AreOfOne s.page page
    → IsSeated n s → IsSeated n (record s { desk = d; page = page; lent = lent; freed = freed })
reseat n s d page lent freed number digits limit same i = record {
  in_range = subst (λ k. k < 2 ^ n.digits.bits) (sym number) i.in_range;
  digits = digits ∙ i.digits;
  limit = limit ∙ i.limit;
  take = i.take ∙ ap (box_at n) (sym number);
  senders = i.senders;
  seats = subst (λ a. AreSeatsBy n a s.seats) (sym number) i.seats;
  number = i.number;
  page = same.key ∙ i.page;
  loans = same.loans ∙ i.loans;
  part = same.parts ∙ i.part;
  none_given = same.gave ∙ i.none_given;
}

-- a buffer is lent
pub lends_keeps : (n : Names) (s : StationState) (class : ℕ) (b : Buffer) (d : DeskState) (page : PageState) (lent : List Buffer) → IsStation n s → AllocsClass s.desk class (Ok b) d
    → page ≡ lent_on s.page b.slot → lent ≡ s.lent ++ b ∷ [] → IsStation n (record s { desk = d; page = page; lent = lent })
lends_keeps n s class b d page lent i a on more = record {
  slots = lends_balances s.desk s.seats s.take.taken s.lent s.freed lent class b d i.slots a more;
  chunks = λ g. gave_chunks g s.desk class b d a ∙ i.chunks g ∙ ap (λ (p : PageState). weigh g p.got) (sym on);
  loans = keeps_lent s.page page s.lent lent s.freed b i.loans on more;
  seated = reseat n s d page lent s.freed (ap (λ (x : DeskState). x.number) a.1) (ap (λ (x : DeskState). x.digits) a.1) (ap (λ (x : DeskState). x.limit) a.1)
      (record { key = ap (λ (p : PageState). p.key) on; loans = ap (λ (p : PageState). p.loans) on; parts = ap (λ (p : PageState). p.parts) on; gave = ap (λ (p : PageState). p.gave) on }) i.seated;
}

keeps_lent_all : (p q : PageState) (lent more freed bs : List Buffer) → KeepsLoans p lent freed → q ≡ lent_all_on p (map slot_of bs) → more ≡ lent ++ bs → KeepsLoans q more freed
keeps_lent_all p q lent more freed bs i e f = (
  ap (λ (x : PageState). x.lent) e ∙ ap (λ l. l ++ map slot_of bs) i.0 ∙ sym (map-append slot_of lent bs) ∙ ap (map slot_of) (sym f),
  ap (λ (x : PageState). x.freed) e ∙ i.1,
)

-- buffers are lent together
pub lends_whole_keeps : (n : Names) (s : StationState) (class : ℕ) (bs : List Buffer) (d : DeskState) (page : PageState) (lent : List Buffer) → IsStation n s → LendsWhole s.desk class bs d
    → page ≡ lent_all_on s.page (map slot_of bs) → lent ≡ s.lent ++ bs → IsStation n (record s { desk = d; page = page; lent = lent })
lends_whole_keeps n s class bs d page lent i a on more = record {
  slots = lends_whole_balances s.desk s.seats s.take.taken s.lent s.freed lent class bs d i.slots a more;
  chunks = λ g. ap (λ (x : DeskState). weigh (of_drawn g) x.drawn) a.same ∙ i.chunks g ∙ ap (λ (p : PageState). weigh g p.got) (sym on);
  loans = keeps_lent_all s.page page s.lent lent s.freed bs i.loans on more;
  seated = reseat n s d page lent s.freed (ap (λ (x : DeskState). x.number) a.same) (ap (λ (x : DeskState). x.digits) a.same) (ap (λ (x : DeskState). x.limit) a.same)
      (record { key = ap (λ (p : PageState). p.key) on; loans = ap (λ (p : PageState). p.loans) on; parts = ap (λ (p : PageState). p.parts) on; gave = ap (λ (p : PageState). p.gave) on }) i.seated;
}

freed_holder : (p q : PageState) (ss : List Slot) → q ≡ freed_on p ss → AreOfOne p q
freed_holder p q ss e =
    record { key = ap (λ (x : PageState). x.key) e; loans = ap (λ (x : PageState). x.loans) e; parts = ap (λ (x : PageState). x.parts) e; gave = ap (λ (x : PageState). x.gave) e }

-- a buffer is freed
pub frees_keeps : (n : Names) (s : StationState) (b : Buffer) (f : Freed) (d : DeskState) (page : PageState) (freed : List Buffer) → IsStation n s → page ≡ freed_on s.page (b.slot ∷ [])
    → freed ≡ s.freed ++ b ∷ [] → Frees s.desk b f d → IsStation n (record s { desk = d; page = page; freed = freed })
frees_keeps n s b f d page freed i on more a =
    let same = got_back_drawn s.desk b f d a in
    record {
      slots = frees_balances s.desk s.seats s.take.taken s.lent s.freed freed b f d i.slots a more;
      chunks = λ g. ap (λ l. weigh (of_drawn g) l) same.0 ∙ i.chunks g ∙ ap (λ (p : PageState). weigh g p.got) (sym on);
      loans = keeps_freed s.page page s.lent s.freed freed (b ∷ []) i.loans on more;
      seated = reseat n s d page s.lent freed same.1 same.2 same.3 (freed_holder s.page page _ on) i.seated;
    }

-- a parcel is freed
pub frees_all_keeps : (n : Names) (s : StationState) (p : ParcelState) (f : Freed) (d : DeskState) (page : PageState) (freed : List Buffer) → IsStation n s → page ≡ freed_on s.page (map slot_of p.items)
    → freed ≡ s.freed ++ p.items → FreesAll s.desk p f d → IsStation n (record s { desk = d; page = page; freed = freed })
frees_all_keeps n s p f d page freed i on more a =
    let same = got_all_back_drawn s.desk p f d a in
    record {
      slots = frees_all_balances s.desk s.seats s.take.taken s.lent s.freed freed p f d i.slots a more;
      chunks = λ g. ap (λ l. weigh (of_drawn g) l) same.0 ∙ i.chunks g ∙ ap (λ (x : PageState). weigh g x.got) (sym on);
      loans = keeps_freed s.page page s.lent s.freed freed p.items i.loans on more;
      seated = reseat n s d page s.lent freed same.1 same.2 same.3 (freed_holder s.page page _ on) i.seated;
    }

-- batches are taken and handled
pub takes_keeps : (n : Names) (s : StationState) (k : ℕ) (d : DeskState) (t : TakeState) → IsStation n s → TakesSome s.desk s.take k d t → IsStation n (record s { desk = d; take = t })
takes_keeps n s k d t i a =
    let same = handled_stays s.desk a.batches d a.handled in
    let r = reseat n s d s.page s.lent s.freed same.number same.digits same.limit (same_holder s.page) i.seated in
    record {
      slots = takes_balances s.desk s.seats s.take s.lent s.freed k d t i.slots a;
      chunks = λ g. ap (weigh (of_drawn g)) same.drawn ∙ i.chunks g;
      loans = i.loans;
      seated = record {
        in_range = r.in_range;
        digits = r.digits;
        limit = r.limit;
        take = ap (λ (x : TakeState). x.inbox) a.taken ∙ r.take;
        senders = ap (λ (x : TakeState). x.senders) a.taken ∙ i.seated.senders;
        seats = r.seats;
        number = r.number;
        page = r.page;
        loans = r.loans;
        part = r.part;
        none_given = r.none_given;
      };
    }

-- the cache is posted
pub posts_keeps : (n : Names) (s : StationState) (d : DeskState) (seats : List SeatState) → IsStation n s → d ≡ record s.desk { cached = d.cached } → AreSeatsBy n s.desk.number seats
    → Posts s.desk.digits s.desk.number s.desk.cached s.seats [] d.cached seats → IsStation n (record s { desk = d; seats = seats })
posts_keeps n s d seats i same are a =
    let r = reseat n s d s.page s.lent s.freed (ap (λ (x : DeskState). x.number) same) (ap (λ (x : DeskState). x.digits) same) (ap (λ (x : DeskState). x.limit) same) (same_holder s.page) i.seated in
    record {
      slots = posts_balances s.desk s.seats s.take.taken s.lent s.freed d seats i.slots same a;
      chunks = λ g. ap (λ (x : DeskState). weigh (of_drawn g) x.drawn) same ∙ i.chunks g;
      loans = i.loans;
      seated = record {
        in_range = r.in_range;
        digits = r.digits;
        limit = r.limit;
        take = r.take;
        senders = r.senders;
        seats = subst (λ k. AreSeatsBy n k seats) (sym (ap (λ (x : DeskState). x.number) same)) are;
        number = ap length a.seats_are ∙ length-sent_all s.seats a.posted ∙ i.seated.number;
        page = r.page;
        loans = r.loans;
        part = r.part;
        none_given = r.none_given;
      };
    }

-- a part of the stock is claimed
pub claims_keeps : (n : Names) (s : StationState) (p : Part) (class : ℕ) (d : DeskState) (page : PageState) → IsStation n s
    → Claims s.desk p class d → page ≡ record s.page { got = s.page.got ++ drawn_for p.chunk class ∷ [] } → IsStation n (record s { desk = d; page = page })
claims_keeps n s p class d page i a more =
    let r = reseat n s d s.page s.lent s.freed (ap (λ (z : DeskState). z.number) a.same) (ap (λ (z : DeskState). z.digits) a.same) (ap (λ (z : DeskState). z.limit) a.same) (same_holder s.page) i.seated in
    record {
      slots = claims_balances s.desk s.seats s.take.taken s.lent s.freed p class d i.slots a;
      chunks = λ g.
          let q = i.chunks g in
          let e = claimed_chunk g s.desk p class d a in
          let w = weigh-snoc g s.page.got (drawn_for p.chunk class) in
          let z = ap (λ (x : PageState). weigh g x.got) more in
          omega arith;
      loans = (ap (λ (x : PageState). x.lent) more ∙ i.loans.0, ap (λ (x : PageState). x.freed) more ∙ i.loans.1);
      seated = record {
        in_range = r.in_range;
        digits = r.digits;
        limit = r.limit;
        take = r.take;
        senders = r.senders;
        seats = r.seats;
        number = r.number;
        page = ap (λ (x : PageState). x.key) more ∙ r.page;
        loans = ap (λ (x : PageState). x.loans) more ∙ r.loans;
        part = ap (λ (x : PageState). x.parts) more ∙ r.part;
        none_given = ap (λ (x : PageState). x.gave) more ∙ r.none_given;
      };
    }

-- nothing was got
pub same_page : (n : Names) (s : StationState) (page : PageState) → IsStation n s → page ≡ s.page → IsStation n (record s { page = page })
same_page n s page i e = subst (λ p. IsStation n (record s { page = p })) (sym e) i

pub claims_part : (s : StationState) (class : ℕ) (p : Part) (d : DeskState) (page : PageState) → Claims s.desk p class d → page ≡ record s.page { got = s.page.got ++ drawn_for p.chunk class ∷ [] }
    → ClaimsPart s class (record s { desk = d; page = page })
claims_part s class p d page a more = record { part = p; desk = a; same = ap (λ q. record s { desk = d; page = q }) more }

-- the same, where the seats are written back
pub posts_written : (n : Names) (s : StationState) (d : DeskState) (seats back : List SeatState) → back ≡ seats → IsStation n s → d ≡ record s.desk { cached = d.cached } → AreSeatsBy n s.desk.number seats
    → Posts s.desk.digits s.desk.number s.desk.cached s.seats [] d.cached seats → IsStation n (record s { desk = d; seats = back })
posts_written n s d seats back e i same are a = subst (λ l. IsStation n (record s { desk = d; seats = l })) (sym e) (posts_keeps n s d seats i same are a)
