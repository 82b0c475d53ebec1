-- Each call of a desk keeps the balance.
use Rattle.std.proofs.Common.{◌≡◌, ℕ, suc, List, [], ◌∷◌, ◌++◌, Some, refl, sym, ap, subst, arith, IsPermutation}
use Rattle.std.specs.Prelude.{Ok, slice_get}
use Rattle.std.proofs.lemmas.List.Sorted.{IsPermutation-refl}
use Rattle.region_cut.specs.declared.slot.Slot.{Slot}
use Rattle.region_cut.specs.declared.part.Part.{Part}
use Rattle.slot_chain.specs.Buffer.{Buffer}
use Rattle.slot_chain.specs.Parcels.{ParcelState}
use Rattle.digit_route.specs.States.{BatchState}
use Rattle.pool_desk.specs.Desks.{DeskState}
use Rattle.pool_desk.specs.Steps.{Claims, AllocsClass, Frees, FreesAll, LendsWhole}
use Rattle.pool_desk.specs.declared.freed.Freed.{Freed}
use Rattle.batch_inbox.specs.States.{TakeState}
use Rattle.slot_balance.specs.Weights.{weigh}
use Rattle.slot_balance.specs.Seats.{SeatState}
use Rattle.slot_balance.specs.Accounts.{of_buffer, of_batch, of_home, of_chunk, of_seats}
use Rattle.slot_balance.specs.Balances.{Balances}
use Rattle.slot_balance.specs.Posts.{Posts, TakesSome}
use Rattle.slot_balance.proofs.Sums.{weigh-append, weigh-permutation, weigh-snoc}
use Rattle.slot_balance.proofs.DeskSums.{claimed, gave, gave_owed, gave_whole, got_all_back, got_all_back_drawn, got_back, got_back_drawn}
use Rattle.slot_balance.proofs.Posting.{handled_stays, handled_sum, posted_sum}

-- the desk stays
pub same_balances : (s : DeskState) (seats : List SeatState) (taken : List BatchState) (lent freed : List Buffer) (d : DeskState) → Balances s seats taken lent freed → d ≡ s → Balances d seats taken lent freed
same_balances s seats taken lent freed d i e = subst (λ x. Balances x seats taken lent freed) (sym e) i

-- a buffer is lent
pub lends_balances : (s : DeskState) (seats : List SeatState) (taken : List BatchState) (lent freed more : List Buffer) (class : ℕ) (b : Buffer) (d : DeskState) → Balances s seats taken lent freed
    → AllocsClass s class (Ok b) d → more ≡ lent ++ b ∷ [] → Balances d seats taken more freed
lends_balances s seats taken lent freed more class b d i a e h =
    let p = i h in
    let g = gave h s class b d a in
    let o = gave_owed h s class b d a in
    let q = weigh-snoc (of_buffer h) lent b in
    let z = ap (weigh (of_buffer h)) e in
    omega arith

-- buffers are lent together
pub lends_whole_balances : (s : DeskState) (seats : List SeatState) (taken : List BatchState) (lent freed more : List Buffer) (class : ℕ) (bs : List Buffer) (d : DeskState) → Balances s seats taken lent freed
    → LendsWhole s class bs d → more ≡ lent ++ bs → Balances d seats taken more freed
lends_whole_balances s seats taken lent freed more class bs d i a e h =
    let p = i h in
    let g = gave_whole h s class bs d a in
    let o = ap (λ (x : DeskState). weigh (of_chunk h) x.drawn) a.same in
    let q = weigh-append (of_buffer h) lent bs in
    let z = ap (weigh (of_buffer h)) e in
    omega arith

-- a buffer is freed
pub frees_balances : (s : DeskState) (seats : List SeatState) (taken : List BatchState) (lent freed more : List Buffer) (b : Buffer) (f : Freed) (d : DeskState) → Balances s seats taken lent freed
    → Frees s b f d → more ≡ freed ++ b ∷ [] → Balances d seats taken lent more
frees_balances s seats taken lent freed more b f d i a e h =
    let p = i h in
    let g = got_back h s b f d a in
    let o = ap (λ l. weigh (of_chunk h) l) (got_back_drawn s b f d a).0 in
    let q = weigh-snoc (of_buffer h) freed b in
    let z = ap (weigh (of_buffer h)) e in
    omega arith

-- a parcel is freed
pub frees_all_balances : (s : DeskState) (seats : List SeatState) (taken : List BatchState) (lent freed more : List Buffer) (p : ParcelState) (f : Freed) (d : DeskState) → Balances s seats taken lent freed
    → FreesAll s p f d → more ≡ freed ++ p.items → Balances d seats taken lent more
frees_all_balances s seats taken lent freed more p f d i a e h =
    let w = i h in
    let g = got_all_back h s p f d a in
    let o = ap (λ l. weigh (of_chunk h) l) (got_all_back_drawn s p f d a).0 in
    let q = weigh-append (of_buffer h) freed p.items in
    let z = ap (weigh (of_buffer h)) e in
    omega arith

-- batches are taken and handled
pub takes_balances : (s : DeskState) (seats : List SeatState) (t : TakeState) (lent freed : List Buffer) (k : ℕ) (d : DeskState) (t' : TakeState) → Balances s seats t.taken lent freed
    → TakesSome s t k d t' → Balances d seats t'.taken lent freed
takes_balances s seats t lent freed k d t' i a h =
    let p = i h in
    let e = handled_sum h s a.batches d a.handled in
    let o = ap (weigh (of_chunk h)) (handled_stays s a.batches d a.handled).drawn in
    let q = weigh-append (of_batch h) t.taken a.batches in
    let z = ap (λ (x : TakeState). weigh (of_batch h) x.taken) a.taken in
    omega arith

-- the cache is posted: what is left of it, and what was refused, is there again
pub posts_back_balances : (s : DeskState) (seats : List SeatState) (taken : List BatchState) (lent freed l x : List Buffer) (d : DeskState) (seats' : List SeatState) → Balances s seats taken lent freed
    → d ≡ record s { cached = d.cached } → Posts s.digits s.number s.cached seats l x seats' → IsPermutation (l ++ x) d.cached → Balances d seats' taken lent freed
posts_back_balances s seats taken lent freed l x d seats' i same a back h =
    let p = i h in
    let e = posted_sum h s.digits s.number s.cached seats l x seats' a in
    let w = weigh-permutation (of_buffer h) (l ++ x) d.cached back in
    let v = weigh-append (of_buffer h) l x in
    let o = ap (λ (z : DeskState). weigh (of_chunk h) z.drawn) same in
    let q = ap (λ (z : DeskState). weigh (of_home h) z.home) same in
    omega arith

-- the same where all is posted or refused
pub posts_balances : (s : DeskState) (seats : List SeatState) (taken : List BatchState) (lent freed : List Buffer) (d : DeskState) (seats' : List SeatState) → Balances s seats taken lent freed
    → d ≡ record s { cached = d.cached } → Posts s.digits s.number s.cached seats [] d.cached seats' → Balances d seats' taken lent freed
posts_balances s seats taken lent freed d seats' i same a = posts_back_balances s seats taken lent freed [] d.cached d seats' i same a (IsPermutation-refl d.cached)

-- a part of the stock is claimed
pub claims_balances : (s : DeskState) (seats : List SeatState) (taken : List BatchState) (lent freed : List Buffer) (p : Part) (class : ℕ) (d : DeskState) → Balances s seats taken lent freed
    → Claims s p class d → Balances d seats taken lent freed
claims_balances s seats taken lent freed p class d i a h =
    let q = i h in
    let e = claimed h s p class d a in
    omega arith

-- nothing was drawn, cached, sent, taken, lent or freed yet
none_sent : (h : Slot → ℕ) (seats : List SeatState) → ((k : ℕ) (x : SeatState) → slice_get seats k ≡ Some x → x.sent ≡ []) → of_seats h seats ≡ 0
none_sent h [] none = refl
none_sent h (x ∷ xs) none =
    let e = ap (weigh (of_batch h)) (none 0 x refl) in
    let i = none_sent h xs (λ k y at. none (suc k) y at) in
    omega arith

pub new_balances : (d : DeskState) (seats : List SeatState) (taken : List BatchState) (lent freed : List Buffer) → d.home ≡ [] → d.cached ≡ [] → d.drawn ≡ []
    → ((k : ℕ) (x : SeatState) → slice_get seats k ≡ Some x → x.sent ≡ []) → taken ≡ [] → lent ≡ [] → freed ≡ [] → Balances d seats taken lent freed
new_balances d seats taken lent freed home cached drawn none took l f h =
    let a = ap (weigh (of_home h)) home in
    let b = ap (weigh (of_buffer h)) cached in
    let c = ap (weigh (of_chunk h)) drawn in
    let e = none_sent h seats none in
    let g = ap (weigh (of_batch h)) took in
    let m = ap (weigh (of_buffer h)) l in
    let n = ap (weigh (of_buffer h)) f in
    omega arith
