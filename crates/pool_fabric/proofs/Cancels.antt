-- What the senders sent, in all, is what the receiver took and what was left.
use Rattle.std.proofs.Common.{◌≡◌, ◌≢◌, ℕ, zero, suc, ◌+◌, ◌<◌, ◌≤◌, List, [], ◌∷◌, ◌++◌, length, refl, sym, ap, ◌∙◌, arith, subst, Some, ⊎_elim, cond, eq-eqb, ne_eqb}
use Rattle.std.specs.Prelude.{slice_get}
use Rattle.slot_balance.specs.Weights.{weigh}
use Rattle.slot_balance.proofs.Sums.{weigh-append}
use Rattle.region_cut.specs.declared.slot.Slot.{Slot}
use Rattle.digit_route.specs.States.{BatchState}
use Rattle.batch_inbox.specs.Views.{batches_of}
use Rattle.pool_fabric.specs.Seats.{SeatState}
use Rattle.pool_fabric.specs.Accounts.{of_batch, of_seat, of_seats}

up_to : (ℕ → ℕ) → ℕ → ℕ
up_to f zero = 0
up_to f (suc n) = up_to f n + f n

up_to_front : (f : ℕ → ℕ) (n : ℕ) → up_to f (suc n) ≡ f 0 + up_to (λ k. f (suc k)) n
unfolding up_to
up_to_front f zero = omega arith
up_to_front f (suc n) = let i = up_to_front f n in omega arith

up_to_add : (f g : ℕ → ℕ) (n : ℕ) → up_to (λ k. f k + g k) n ≡ up_to f n + up_to g n
unfolding up_to
up_to_add f g zero = refl
up_to_add f g (suc n) = let i = up_to_add f g n in omega arith

up_to_same : (f g : ℕ → ℕ) (n : ℕ) → ((k : ℕ) → k < n → f k ≡ g k) → up_to f n ≡ up_to g n
unfolding up_to
up_to_same f g zero e = refl
up_to_same f g (suc n) e = let i = up_to_same f g n (λ k l. e k (omega arith)) in let j = e n (omega arith) in omega arith

up_to_none : (f : ℕ → ℕ) (n : ℕ) → ((k : ℕ) → f k ≡ 0) → up_to f n ≡ 0
unfolding up_to
up_to_none f zero e = refl
up_to_none f (suc n) e = let i = up_to_none f n e in let j = e n in omega arith

-- two that differ at one place
up_to_one : (f g : ℕ → ℕ) (c j n : ℕ) → j < n → ((k : ℕ) → k ≢ j → f k ≡ g k) → f j ≡ c + g j → up_to f n ≡ c + up_to g n
unfolding up_to
up_to_one f g c j zero l e d = absurd (omega arith)
up_to_one f g c j (suc n) l e d =
    ⊎_elim
    (λ (here : j ≡ n).
    let i = up_to_same f g n (λ k less. e k (λ q. omega arith)) in
    let m : f n ≡ c + g n = subst (λ k. f k ≡ c + g k) here d in
    omega arith)
    (λ (less : j < n). let i = up_to_one f g c j n less e d in let m = e n (λ q. omega arith) in omega arith)
    (grind arith)

weigh_up : {A : Type 0} (f : A → ℕ) (xs : List A) (G : ℕ → ℕ) → ((k : ℕ) (x : A) → slice_get xs k ≡ Some x → f x ≡ G k) → weigh f xs ≡ up_to G (length xs)
unfolding up_to
weigh_up f [] G e = refl
weigh_up f (x ∷ xs) G e =
    let i = weigh_up f xs (λ k. G (suc k)) (λ k y at. e (suc k) y at) in
    let j = e 0 x refl in
    let k = up_to_front G (length xs) in
    omega arith

batches-here : (k : ℕ) (x : BatchState) (xs : List BatchState) → x.sender ≡ k → batches_of k (x ∷ xs) ≡ x ∷ batches_of k xs
batches-here k x xs e = ap (λ b. cond b (x ∷ batches_of k xs) (batches_of k xs)) (eq-eqb x.sender k e)

batches-there : (k : ℕ) (x : BatchState) (xs : List BatchState) → x.sender ≢ k → batches_of k (x ∷ xs) ≡ batches_of k xs
batches-there k x xs n = ap (λ b. cond b (x ∷ batches_of k xs) (batches_of k xs)) (ne_eqb x.sender k n)

-- the batches of all senders below n, where there are no others
spread : (w : BatchState → ℕ) (n : ℕ) (xs : List BatchState) → ((k : ℕ) → n ≤ k → batches_of k xs ≡ []) → up_to (λ k. weigh w (batches_of k xs)) n ≡ weigh w xs
spread w n [] past = up_to_none (λ k. 0) n (λ k. refl)
spread w n (x ∷ xs) past =
    let below : x.sender < n = ⊎_elim (λ (l : x.sender < n). l) (λ (le : n ≤ x.sender). let e = sym (batches-here x.sender x xs refl) ∙ past x.sender le in absurd (cc)) (grind arith) in
    let i = spread w n xs (λ k le. sym (batches-there k x xs (λ q. omega arith)) ∙ past k le) in
    let one = up_to_one (λ k. weigh w (batches_of k (x ∷ xs))) (λ k. weigh w (batches_of k xs)) (w x) x.sender n below
    (λ k apart. ap (weigh w) (batches-there k x xs (λ q. apart (sym q)))) (ap (weigh w) (batches-here x.sender x xs refl)) in
    one ∙ ap (λ k. w x + k) i

pub cancels : (h : Slot → ℕ) (seats : List SeatState) (taken rest : List BatchState)
    → ((k : ℕ) (s : SeatState) → slice_get seats k ≡ Some s → s.sent ≡ batches_of k taken ++ batches_of k rest)
    → ((k : ℕ) → length seats ≤ k → batches_of k taken ≡ []) → ((k : ℕ) → length seats ≤ k → batches_of k rest ≡ [])
    → of_seats h seats ≡ weigh (of_batch h) taken + weigh (of_batch h) rest
cancels h seats taken rest each none_taken none_left =
    let w : BatchState → ℕ = of_batch h in
    let n = length seats in
    let a : of_seats h seats ≡ up_to (λ k. weigh w (batches_of k taken) + weigh w (batches_of k rest)) n
    = weigh_up (of_seat h) seats (λ k. weigh w (batches_of k taken) + weigh w (batches_of k rest)) (λ k s at. ap (weigh w) (each k s at) ∙ weigh-append w (batches_of k taken) (batches_of k rest)) in
    let b = up_to_add (λ k. weigh w (batches_of k taken)) (λ k. weigh w (batches_of k rest)) n in
    let d = spread w n taken none_taken in
    let e = spread w n rest none_left in
    a ∙ b ∙ (λ i. d i + e i)
