-- A desk's seats stay its own.
use Rattle.std.proofs.Common.{◌≡◌, ℕ, zero, suc, ◌+◌, ◌<◌, true, List, [], ◌∷◌, ◌++◌, Option, Some, None, length, get_or, refl, sym, ◌∙◌, subst, arith}
use Rattle.std.specs.Prelude.{is_none, slice_get}
use Rattle.std.proofs.lemmas.Option.{slice_get_read}
use Rattle.slot_chain.specs.Buffer.{Buffer}
use Rattle.digit_route.specs.Digits.{Scheme}
use Rattle.batch_inbox.specs.States.{InboxId, TakeState}
use Rattle.slot_balance.specs.Posts.{Posts}
use Rattle.slot_balance.specs.Seats.{SeatState, AreParted}
use Rattle.slot_balance.proofs.Opened.{AreLeft, one_inbox, seats_dealt, take_dealt}
use Rattle.slot_balance.proofs.Seated.{posted_at}
use Rattle.seated_desk.specs.Ways.{IsSeated}

-- the same desk and the same inbox, told by other words
pub seated_same : (s t : Scheme) (a b : ℕ) (boxes : List InboxId) (i j : InboxId) (ss : List SeatState) → t ≡ s → b ≡ a → j ≡ i → IsSeated s a boxes i ss → IsSeated t b boxes j ss
seated_same s t a b boxes i j ss d n e h =
    subst (λ (z : Scheme). IsSeated z b boxes j ss) (sym d) (subst (λ k. IsSeated s k boxes j ss) (sym n) (subst (λ (x : InboxId). IsSeated s a boxes x ss) (sym e) h))

-- batches were posted
pub seated_posted : (s : Scheme) (a : ℕ) (boxes : List InboxId) (i : InboxId) (c : List Buffer) (ss : List SeatState) (l x : List Buffer) (ss' : List SeatState)
    → IsSeated s a boxes i ss → Posts s a c ss l x ss' → IsSeated s a boxes i ss'
seated_posted s a boxes i c ss l x ss' h p = record { own = h.own; place = h.place; posts = posted_at s a boxes c ss l x ss' h.posts p }

-- the seats of the last desk are dealt out
pub seated_dealt : (d : Scheme) (m : ℕ) (boxes : List InboxId) (takes rest : List TakeState) (t : TakeState) (columns others : List (List SeatState)) (last : List SeatState)
    → AreLeft d (m + 1) boxes takes columns → takes ≡ rest ++ t ∷ [] → AreParted columns others last → IsSeated d m boxes t.inbox last
seated_dealt d m boxes takes rest t columns others last l popped p = record {
  own = (take_dealt d m boxes takes rest t columns others last l popped p).0;
  place = l.inbox m t.inbox (take_dealt d m boxes takes rest t columns others last l popped p).0;
  posts = seats_dealt d m boxes takes rest t columns others last l popped p;
}

-- what stands in a list stands before its end
pub before_end : (boxes : List InboxId) (k : ℕ) (i : InboxId) → slice_get boxes k ≡ Some i → k < length boxes
before_end [] k i e = absurd (cc)
before_end (b ∷ bs) zero i e = omega arith
before_end (b ∷ bs) (suc k) i e = let h = before_end bs k i e in omega arith

-- before the end there is something
pub some_there : {X : Type 0} (xs : List X) (k : ℕ) → k < length xs → (x : X) × (slice_get xs k ≡ Some x)
some_there [] k l = absurd (omega arith)
some_there (x ∷ xs) zero l = (x, refl)
some_there (x ∷ xs) (suc k) l = some_there xs k (omega arith)

-- what was read there is that inbox
pub read_inbox : (boxes : List InboxId) (k : ℕ) (i j : InboxId) → slice_get boxes k ≡ Some i → j ≡ get_or boxes k j → i ≡ j
read_inbox boxes k i j at is = one_inbox i j (sym at ∙ slice_get_read boxes (length boxes) k j refl (before_end boxes k i at) is)

-- a seat at rest
pub rests : {X : Type 0} (o : Option X) → is_none o ≡ true → o ≡ None
rests None e = refl
rests (Some x) e = absurd (cc)
