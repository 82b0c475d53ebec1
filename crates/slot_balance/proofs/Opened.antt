-- One more inbox is opened, and seats are dealt out.
use Rattle.std.proofs.Common.{◌≡◌, ℕ, ◌+◌, ◌<◌, List, [], ◌∷◌, ◌++◌, length, map, sym, ap, ◌∙◌, arith, subst, Some, Bool, length-append}
use Rattle.std.specs.Prelude.{slice_get, true}
use Rattle.digit_route.specs.Digits.{Scheme}
use Rattle.digit_route.specs.States.{BatchState}
use Rattle.batch_inbox.specs.States.{InboxId, TakeState}
use Rattle.slot_balance.specs.Seats.{SeatState, seat_of, AreParted, AreSeatsAt}
use Rattle.slot_balance.specs.Opened.{AreOpened, NoneSent}
use Rattle.slot_balance.proofs.Rows.{each_more, get_front, get_mapped, get_seam, parted_last, parted_other}

pub opened_none : (d : Scheme) (n : ℕ) → AreOpened d n [] [] []
opened_none d n = record { inbox = λ k i e. absurd (cc); take = λ k t e. absurd (cc); column = λ k c e. absurd (cc) }

pub opened_more : (d : Scheme) (n : ℕ) (is : List InboxId) (ts : List TakeState) (cs : List (List SeatState)) (i : InboxId) (t : TakeState) (c : List SeatState)
    → AreOpened d n is ts cs → length ts ≡ length is → length cs ≡ length is → i.place ≡ record { address = length is; digits = d }
    → (t.inbox ≡ i) × (t.senders ≡ n) × (t.taken ≡ [])
    → (length c ≡ n) × NoneSent c × ((a : ℕ) (s : SeatState) → slice_get c a ≡ Some s → (s.inbox ≡ i) × (s.sender ≡ a) × (s.resting ≡ true))
    → AreOpened d n (is ++ i ∷ []) (ts ++ t ∷ []) (cs ++ c ∷ [])
opened_more d n is ts cs i t c o tn cn place new seats =
    let here : (k : ℕ) → k ≡ length is → slice_get (is ++ i ∷ []) k ≡ Some i = λ k e. ap (slice_get (is ++ i ∷ [])) e ∙ get_seam is i [] in record {
      inbox = each_more (λ k (x : InboxId). x.place ≡ record { address = k; digits = d }) is i o.inbox place;
      take = each_more (λ k (x : TakeState). (slice_get (is ++ i ∷ []) k ≡ Some x.inbox) × (x.senders ≡ n) × (x.taken ≡ [])) ts t
          (λ k x e. let q = o.take k x e in (get_front is (i ∷ []) k x.inbox q.0, q.1, q.2))
          (here (length ts) tn ∙ ap Some (sym new.0), new.1, new.2);
      column = each_more (λ k (x : List SeatState). (length x ≡ n) × NoneSent x × ((a : ℕ) (s : SeatState) → slice_get x a ≡ Some s → (slice_get (is ++ i ∷ []) k ≡ Some s.inbox) × (s.sender ≡ a) × (s.resting ≡ true))) cs c
          (λ k x e. let q = o.column k x e in (q.0, q.1, λ a s at. let r = q.2 a s at in (get_front is (i ∷ []) k s.inbox r.0, r.1, r.2)))
          (seats.0, seats.1, λ a s at. let r = seats.2 a s at in (here (length cs) cn ∙ ap Some (sym r.0), r.1, r.2));
    }

-- a new inbox's seats, as a contract sees them
pub new_seats : {S : Type 0} (inbox : S → InboxId) (number : S → ℕ) (sent : S → List BatchState) (resting : S → Bool) (i : InboxId) (seats : List S)
    → ((k : ℕ) (s : S) → slice_get seats k ≡ Some s → (inbox s ≡ i) × (number s ≡ k) × (sent s ≡ []) × (resting s ≡ true))
    → NoneSent (map (seat_of inbox number sent resting) seats)
    × ((a : ℕ) (s : SeatState) → slice_get (map (seat_of inbox number sent resting) seats) a ≡ Some s → (s.inbox ≡ i) × (s.sender ≡ a) × (s.resting ≡ true))
new_seats inbox number sent resting i seats new =
    let as_seat = seat_of inbox number sent resting in (
      (λ k x e. let m = get_mapped as_seat seats k x e in ap (λ (z : SeatState). z.sent) (sym m.2) ∙ (new k m.0 m.1).2),
      (λ k x e.
          let m = get_mapped as_seat seats k x e in
          let n = new k m.0 m.1 in
          (ap (λ (z : SeatState). z.inbox) (sym m.2) ∙ n.0, ap (λ (z : SeatState). z.sender) (sym m.2) ∙ n.1, ap (λ (z : SeatState). z.resting) (sym m.2) ∙ n.3)),
    )

pub one_inbox : (i j : InboxId) → Some i ≡ Some j → i ≡ j
one_inbox i j e = cc

-- At each inbox the seats of the first senders, in order, at rest, and nothing was sent. P tells which inbox stands at which
-- place.
abbrev pub AreColumnsOf : (ℕ → InboxId → Type 0) → ℕ → List (List SeatState) → Type 0
AreColumnsOf P many columns = (k : ℕ) (c : List SeatState) → slice_get columns k ≡ Some c
    → (length c ≡ many) × NoneSent c × ((a : ℕ) (s : SeatState) → slice_get c a ≡ Some s → P k s.inbox × (s.sender ≡ a) × (s.resting ≡ true))

module _ (P : ℕ → InboxId → Type 0) (m : ℕ) (columns others : List (List SeatState)) (last : List SeatState) (p : AreParted columns others last) (are : AreColumnsOf P (m + 1) columns) where
  -- the seats of the senders before the last
  pub others_are : AreColumnsOf P m others
  others_are k o e =
      let q = parted_other columns others last p k o e in
      let c = are k (o ++ q.0 ∷ []) q.1 in
      let f = length-append o (q.0 ∷ []) in
      let g = c.0 in
      (omega arith, (λ a s at. c.1 a s (get_front o (q.0 ∷ []) a s at)), (λ a s at. c.2 a s (get_front o (q.0 ∷ []) a s at)))

  -- those of the last sender
  pub last_are : (k : ℕ) (x : SeatState) → slice_get last k ≡ Some x → P k x.inbox × (x.sender ≡ m) × (x.resting ≡ true) × (x.sent ≡ [])
  last_are k x e =
      let q = parted_last columns others last p k x e in
      let c = are k (q.0 ++ x ∷ []) q.1 in
      let f = length-append q.0 (x ∷ []) in
      let g = c.0 in
      let len : length q.0 ≡ m = omega arith in
      let s = c.2 (length q.0) x (get_seam q.0 x []) in
      (s.0, s.1 ∙ len, s.2, c.1 (length q.0) x (get_seam q.0 x []))

-- no row is empty
pub none_empty : (P : ℕ → InboxId → Type 0) (m : ℕ) (columns : List (List SeatState)) → AreColumnsOf P (m + 1) columns → (k : ℕ) (c : List SeatState) → slice_get columns k ≡ Some c → 0 < length c
none_empty P m columns are k c e = let f = (are k c e).0 in omega arith

-- what of opened inboxes is not dealt out yet: the take seats of the first desks, and their send seats
pub record AreLeft (digits : Scheme) (many : ℕ) (boxes : List InboxId) (takes : List TakeState) (columns : List (List SeatState)) : Type 0 where
  pub inbox : (k : ℕ) (i : InboxId) → slice_get boxes k ≡ Some i → i.place ≡ record { address = k; digits = digits }
  pub count : length takes ≡ many
  pub take : (k : ℕ) (t : TakeState) → slice_get takes k ≡ Some t → (slice_get boxes k ≡ Some t.inbox) × (t.taken ≡ [])
  pub column : AreColumnsOf (λ k i. slice_get boxes k ≡ Some i) many columns

pub all_left : (d : Scheme) (n : ℕ) (boxes : List InboxId) (takes : List TakeState) (columns : List (List SeatState)) → AreOpened d n boxes takes columns → length takes ≡ n
    → AreLeft d n boxes takes columns
all_left d n boxes takes columns o c = record { inbox = o.inbox; count = c; take = λ k t e. let q = o.take k t e in (q.0, q.2); column = λ k x e. o.column k x e }

-- the seats of the last desk are dealt out
module _ (d : Scheme) (m : ℕ) (boxes : List InboxId) (takes rest : List TakeState) (t : TakeState) (columns others : List (List SeatState)) (last : List SeatState)
    (l : AreLeft d (m + 1) boxes takes columns) (popped : takes ≡ rest ++ t ∷ []) (p : AreParted columns others last) where
  pub rest_count : length rest ≡ m
  rest_count = let e = ap length popped in let f = length-append rest (t ∷ []) in let g = l.count in omega arith

  pub left_still : AreLeft d m boxes rest others
  left_still = record {
    inbox = l.inbox;
    count = rest_count;
    take = λ k x e. l.take k x (ap (λ z. slice_get z k) popped ∙ get_front rest (t ∷ []) k x e);
    column = others_are (λ k i. slice_get boxes k ≡ Some i) m columns others last p l.column;
  }

  pub take_dealt : (slice_get boxes m ≡ Some t.inbox) × (t.taken ≡ [])
  take_dealt = subst (λ k. (slice_get boxes k ≡ Some t.inbox) × (t.taken ≡ [])) rest_count
      (l.take (length rest) t (ap (λ z. slice_get z (length rest)) popped ∙ get_seam rest t []))

  pub seats_dealt : AreSeatsAt d m boxes last
  seats_dealt =
      let of = last_are (λ k i. slice_get boxes k ≡ Some i) m columns others last p l.column in
      record { each = λ k x e. let q = of k x e in (q.0, l.inbox k x.inbox q.0, q.1, q.2) }

  pub none_dealt : NoneSent last
  none_dealt k x e = (last_are (λ k i. slice_get boxes k ≡ Some i) m columns others last p l.column k x e).3
