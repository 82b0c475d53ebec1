-- The seats of one sender stay so, whatever is sent from them.
use Rattle.std.proofs.Common.{◌≡◌, ℕ, zero, suc, ◌<◌, List, [], ◌∷◌, ◌++◌, length, refl, sym, ap, ◌∙◌, subst, Some, IsPermutation, ⊎_elim}
use Rattle.std.specs.Prelude.{slice_get}
use Rattle.slot_chain.specs.Buffer.{Buffer}
use Rattle.digit_route.specs.Digits.{Scheme}
use Rattle.digit_route.specs.States.{BatchState}
use Rattle.batch_inbox.specs.States.{InboxId}
use Rattle.slot_balance.specs.Posts.{Posts, SendsOrKeeps, sent_all, sent_at}
use Rattle.slot_balance.specs.Seats.{SeatState, AreSeatsAt}

-- the seats are of the same inboxes and of the same sender, at rest
abbrev pub Same : SeatState → SeatState → Type 0
Same x y = (x.inbox ≡ y.inbox) × (x.sender ≡ y.sender) × (x.resting ≡ y.resting)

get_sent : (k : ℕ) (b : BatchState) (ss : List SeatState) (j : ℕ) (x : SeatState) → slice_get (sent_at k b ss) j ≡ Some x → (y : SeatState) × (slice_get ss j ≡ Some y) × Same x y
get_sent k b [] j x e = absurd (cc)
get_sent zero b (s ∷ ss) zero x e =
    let same : record s { sent = s.sent ++ b ∷ [] } ≡ x = cc in
    (s, refl, (ap (λ (w : SeatState). w.inbox) (sym same), ap (λ (w : SeatState). w.sender) (sym same), ap (λ (w : SeatState). w.resting) (sym same)))
get_sent zero b (s ∷ ss) (suc j) x e = (x, e, (refl, refl, refl))
get_sent (suc k) b (s ∷ ss) zero x e = (x, e, (refl, refl, refl))
get_sent (suc k) b (s ∷ ss) (suc j) x e = get_sent k b ss j x e

-- a seat behind the post of one batch is one before it
pub get_kept : (b : BatchState) (ss ss' : List SeatState) (x y : List Buffer) → SendsOrKeeps b ss x ss' y
    → (j : ℕ) (z : SeatState) → slice_get ss' j ≡ Some z → (w : SeatState) × (slice_get ss j ≡ Some w) × Same z w
get_kept b ss ss' x y h j z e = ⊎_elim
    (λ (q : (b.address < length ss) × (ss' ≡ sent_at b.address b ss) × (y ≡ x)). get_sent b.address b ss j z (ap (λ l. slice_get l j) (sym q.1) ∙ e))
    (λ (q : (ss' ≡ ss) × IsPermutation (x ++ b.items) y). (z, ap (λ l. slice_get l j) (sym q.0) ∙ e, (refl, refl, refl)))
    h

get_sent_all : (bs : List BatchState) (ss : List SeatState) (j : ℕ) (x : SeatState) → slice_get (sent_all ss bs) j ≡ Some x → (y : SeatState) × (slice_get ss j ≡ Some y) × Same x y
get_sent_all [] ss j x e = (x, e, (refl, refl, refl))
get_sent_all (b ∷ bs) ss j x e =
    let y = get_sent_all bs (sent_at b.address b ss) j x e in
    let z = get_sent b.address b ss j y.0 y.1 in
    (z.0, z.1, (y.2.0 ∙ z.2.0, y.2.1 ∙ z.2.1, y.2.2 ∙ z.2.2))

-- a seat behind a post is one before it
pub get_posted : (s : Scheme) (a : ℕ) (c : List Buffer) (ss : List SeatState) (l x : List Buffer) (ss' : List SeatState) → Posts s a c ss l x ss'
    → (j : ℕ) (z : SeatState) → slice_get ss' j ≡ Some z → (y : SeatState) × (slice_get ss j ≡ Some y) × Same z y
get_posted s a c ss l x ss' p j z e = get_sent_all p.posted ss j z (ap (λ q. slice_get q j) (sym p.seats_are) ∙ e)

pub posted_at : (s : Scheme) (a : ℕ) (boxes : List InboxId) (c : List Buffer) (ss : List SeatState) (l x : List Buffer) (ss' : List SeatState)
    → AreSeatsAt s a boxes ss → Posts s a c ss l x ss' → AreSeatsAt s a boxes ss'
posted_at s a boxes c ss l x ss' i p = record {
  each = λ j z e.
      let y = get_posted s a c ss l x ss' p j z e in
      let o = i.each j y.0 y.1 in
      (o.0 ∙ ap Some (sym y.2.0), ap (λ (b : InboxId). b.place) y.2.0 ∙ o.1, y.2.1 ∙ o.2, y.2.2 ∙ o.3);
}

-- the seats of the same sender, told by other words
pub seats_of : (s t : Scheme) (a b : ℕ) (boxes : List InboxId) (ss : List SeatState) → t ≡ s → b ≡ a → AreSeatsAt s a boxes ss → AreSeatsAt t b boxes ss
seats_of s t a b boxes ss d n i = subst (λ (z : Scheme). AreSeatsAt z b boxes ss) (sym d) (subst (λ k. AreSeatsAt s k boxes ss) (sym n) i)
