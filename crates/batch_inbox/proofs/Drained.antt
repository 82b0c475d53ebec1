-- What a receiver knows once it took in all senders.
use Rattle.std.proofs.Common.{◌≡◌, ℕ, zero, suc, ◌<◌, ◌≤◌, List, [], ◌∷◌, ◌++◌, length, map, drop, refl, sym, ap, ◌∙◌, subst, arith, length-append, get_or}
use Rattle.std.specs.Prelude.{Option, Some, None, slice_get, slice_index_or}
use Rattle.std.proofs.lemmas.List.{get_or_past}
use Rattle.std.proofs.lemmas.Option.{slice_get_read}
use Rattle.std.proofs.Math.Seq.{get_or-append_seam}
use Rattle.std.proofs.Math.ListN.{drop_of_length-le}
use Rattle.crossbeam_queue.specs.Fifo.{Held}
use Rattle.digit_route.specs.States.{BatchState}
use Rattle.batch_inbox.specs.declared.rule.View.{View}
use Rattle.batch_inbox.specs.declared.place.Place.{Place}
use Rattle.batch_inbox.specs.Views.{batches_of, taker, lefts, left_of}
use Rattle.batch_inbox.specs.States.{SendState, left}
use Rattle.batch_inbox.proofs.KeepsRule.{left_at, left_is}

abbrev pub sent_by : SendState → List BatchState
sent_by s = s.sent

pub taker_is : (v : View) (a : Place) (m : ℕ) (t : List BatchState) (k : List (List BatchState)) → v ≡ taker a m t k → v ≡ taker v.place v.made v.taken v.known
taker_is v a m t k is = is ∙ ap (λ (u : View). taker u.place u.made u.taken u.known) (sym is)

pub length-map : (f : SendState → List BatchState) (xs : List SendState) → length (map f xs) ≡ length xs
length-map f [] = refl
length-map f (x ∷ xs) = ap suc (length-map f xs)

pub map-snoc : (f : SendState → List BatchState) (xs : List SendState) (x : SendState) → map f (xs ++ x ∷ []) ≡ map f xs ++ f x ∷ []
map-snoc f [] x = refl
map-snoc f (y ∷ ys) x = λ i. f y ∷ map-snoc f ys x i

-- the seat at hand is the next one
pub turn : (seats done rest : List SendState) (s : SendState) → done ++ s ∷ rest ≡ seats → (length done < length seats) × (slice_get seats (length done) ≡ Some s)
turn seats done rest s is =
    let less : length done < length seats = subst (λ (l : List SendState). length done < length l) is (subst (λ n. length done < n) (sym (length-append done (s ∷ rest))) (omega arith)) in
    (less, slice_get_read seats (length seats) (length done) s refl less (sym (ap (λ l. get_or l (length done) s) (sym is) ∙ get_or-append_seam done s rest s)))

abbrev sent_or : Option SendState → List BatchState
sent_or None = []
sent_or (Some y) = y.sent

sent_at : (seats : List SendState) (k : ℕ) (s : SendState) → slice_get seats k ≡ Some s → slice_index_or (map sent_by seats) k [] ≡ s.sent
sent_at [] k s e = absurd (cc)
sent_at (x ∷ xs) zero s e = ap sent_or e
sent_at (x ∷ xs) (suc k) s e = sent_at xs k s e

pub drained : (seats : List SendState) (taken : List BatchState) (n : ℕ) (v w : View) → w ≡ v → v.known ≡ map sent_by seats → v.taken ≡ taken → Held n (λ items. (s : ℕ) → slice_index_or v.known s [] ≡ batches_of s v.taken ++ batches_of s items)
    → (k : ℕ) (s : SendState) → slice_get seats k ≡ Some s → s.sent ≡ batches_of k taken ++ left (lefts w.taken 0 w.known) k
drained seats taken n v w same known took held k s at =
    let all = held.2 k in
    let rest : left (lefts w.taken 0 w.known) k ≡ batches_of k held.0 = left_at w k ∙ ap (λ (u : View). left_of u k) same ∙ left_is (slice_index_or v.known k []) (batches_of k v.taken) (batches_of k held.0) all in
    sym (sent_at seats k s at) ∙ ap (λ l. slice_index_or l k []) (sym known) ∙ all ∙ (λ i. batches_of k (took i) ++ sym rest i)

-- no batch is before nothing
none_before : (xs ys : List BatchState) → [] ≡ xs ++ ys → xs ≡ []
none_before [] ys e = refl
none_before (x ∷ xs) ys e = absurd (cc)

pub drained_only : (seats : List SendState) (taken : List BatchState) (n : ℕ) (v w : View) → w ≡ v → v.known ≡ map sent_by seats → v.taken ≡ taken
    → Held n (λ items. (s : ℕ) → slice_index_or v.known s [] ≡ batches_of s v.taken ++ batches_of s items)
    → (k : ℕ) → length seats ≤ k → (batches_of k taken ≡ []) × (left (lefts w.taken 0 w.known) k ≡ [])
drained_only seats taken n v w same known took held k le =
    let past : slice_index_or (map sent_by seats) k [] ≡ [] = get_or_past (map sent_by seats) k [] (subst (λ n. n ≤ k) (sym (length-map sent_by seats)) le) in
    let here : slice_index_or v.known k [] ≡ [] = ap (λ l. slice_index_or l k []) known ∙ past in
    let none : slice_index_or w.known k [] ≡ [] = ap (λ l. slice_index_or l k []) (ap (λ (u : View). u.known) same ∙ known) ∙ past in
    (ap (batches_of k) (sym took) ∙ none_before (batches_of k v.taken) (batches_of k held.0) (sym here ∙ held.2 k), left_at w k ∙ ap (λ l. drop (length (batches_of k w.taken)) l) none ∙ drop_of_length-le [] (omega arith))
