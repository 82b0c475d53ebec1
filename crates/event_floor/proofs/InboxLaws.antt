-- The batches that wait in an inbox.
use Rattle.std.proofs.Common.{◌≡◌, ℕ, ◌<◌, List, [], ◌∷◌, sym, ◌∙◌, subst, All}
use Rattle.std.proofs.lemmas.List.Elements.{All-append, All-cons, All-nil}
use Rattle.digit_route.specs.Digits.{Scheme}
use Rattle.digit_route.specs.States.{BatchState}
use Rattle.pool_desk.specs.Desks.{DeskState}
use Rattle.event_floor.specs.Desks.AnyDeskState.{Held}
use Rattle.event_floor.specs.Inboxes.{QueuedState, SendsInto, LeavesFront, sent_as}
use Rattle.event_floor.specs.Floors.{FitsFloor, IsDeskOf, IsQueuedAt}
use Rattle.event_floor.proofs.DeskLaws.{batch_known, head_of, tail_of}

-- a desk's batch comes to those that wait
pub sent_queued : (digits : Scheme) (limit n chunks next a t number count : ℕ) (d d' : DeskState) (old new : List QueuedState) → All (IsQueuedAt digits n chunks next t) old
    → IsDeskOf digits limit n chunks a (Held d) → a < n → number < next → SendsInto d t number count old d' new → All (IsQueuedAt digits n chunks next t) new
sent_queued digits limit n chunks next a t number count d d' old new h own_desk l m s =
    subst (λ z. All (IsQueuedAt digits n chunks next t) z) (sym s.queued)
    (All-append (IsQueuedAt digits n chunks next t) old (sent_as number s.batch ∷ []) h
    (All-cons (IsQueuedAt digits n chunks next t) (sent_as number s.batch) [] (record {
      numbered = m;
      address = s.address;
      sender = rw (s.gives.sender ∙ own_desk.numbered.0) l;
      digits_are = s.gives.digits ∙ own_desk.numbered.2;
      known = batch_known n chunks d.digits d.number d.cached s.batch d'.cached own_desk.known s.gives;
    }) (All-nil (IsQueuedAt digits n chunks next t))))

-- the front of an inbox, and those behind it
pub front_queued : (digits : Scheme) (n chunks next b : ℕ) (batch : BatchState) (x rest : List QueuedState) (s : LeavesFront batch x rest) → All (IsQueuedAt digits n chunks next b) x
    → IsQueuedAt digits n chunks next b s.front
front_queued digits n chunks next b batch x rest s h =
    head_of (IsQueuedAt digits n chunks next b) s.front rest (subst (λ z. All (IsQueuedAt digits n chunks next b) z) s.is_front h)

pub rest_queued : (digits : Scheme) (n chunks next b : ℕ) (batch : BatchState) (x rest : List QueuedState) → LeavesFront batch x rest → All (IsQueuedAt digits n chunks next b) x
    → All (IsQueuedAt digits n chunks next b) rest
rest_queued digits n chunks next b batch x rest s h =
    tail_of (IsQueuedAt digits n chunks next b) s.front rest (subst (λ z. All (IsQueuedAt digits n chunks next b) z) s.is_front h)

-- a batch taken from the inbox of a desk is addressed to it, has its digits, and its buffers are known
pub taken_address : (digits : Scheme) (limit n chunks next b : ℕ) (d : DeskState) (batch : BatchState) (x rest : List QueuedState) → IsDeskOf digits limit n chunks b (Held d)
    → LeavesFront batch x rest → All (IsQueuedAt digits n chunks next b) x → batch.address ≡ d.number
taken_address digits limit n chunks next b d batch x rest own_desk s h =
    s.address ∙ ((front_queued digits n chunks next b batch x rest s h).address ∙ sym own_desk.numbered.0)

pub taken_digits : (digits : Scheme) (limit n chunks next b : ℕ) (d : DeskState) (batch : BatchState) (x rest : List QueuedState) → IsDeskOf digits limit n chunks b (Held d)
    → LeavesFront batch x rest → All (IsQueuedAt digits n chunks next b) x → batch.digits ≡ d.digits
taken_digits digits limit n chunks next b d batch x rest own_desk s h =
    s.digits ∙ ((front_queued digits n chunks next b batch x rest s h).digits_are ∙ sym own_desk.numbered.2)

pub taken_known : (digits : Scheme) (n chunks next b : ℕ) (batch : BatchState) (x rest : List QueuedState) → LeavesFront batch x rest → All (IsQueuedAt digits n chunks next b) x
    → All (FitsFloor n chunks) batch.items
taken_known digits n chunks next b batch x rest s h =
    subst (λ z. All (FitsFloor n chunks) z) (sym s.items) (front_queued digits n chunks next b batch x rest s h).known
