-- A cache that is posted to the end.
use Rattle.std.proofs.Common.{◌≡◌, ℕ, ◌+◌, inl, inr, ◌-◌, ◌*◌, ◌^◌, ◌<◌, ◌≤◌, List, [], ◌∷◌, ◌++◌, length, refl, sym, ap, ◌∙◌, arith, ⊎_elim, append_assoc, append-nil, All, IsPermutation}
use Rattle.std.specs.Prelude.{Any, sum_by}
use Rattle.std.proofs.lemmas.Bool.{cases_lt}
use Rattle.std.proofs.lemmas.List.Concat.{flat_map-append}
use Rattle.std.proofs.lemmas.List.Elements.{All-nil, All-append, All-weaker, All-head, All-tail, All-contains, Contains-append_right}
use Rattle.std.proofs.lemmas.List.Sums.{sum_by-cons, sum_by-append}
use Rattle.std.proofs.lemmas.List.Sorted.{IsPermutation-refl, IsPermutation-trans, IsPermutation-append_right, IsPermutation-append_comm, All-permutation, length_permutation, sum_by-IsPermutation}
use Rattle.std.proofs.Common.{length-append}
use Rattle.std.proofs.Math.Nat.{mul-suc}
use Rattle.slot_chain.specs.Buffer.{Buffer}
use Rattle.digit_route.specs.Digits.{Scheme, IsScheme, count, common}
use Rattle.digit_route.specs.Posts.{GivesAll, Moved, Posts, buffers_of, shared}
use Rattle.digit_route.specs.Route.{IsCached}
use Rattle.digit_route.specs.States.{BatchState, PostingState, ahead, all_moves}
use Rattle.digit_route.specs.Route.{GivesBucket}
use Rattle.digit_route.proofs.DigitLaws.{common-lt}
use Rattle.digit_route.proofs.PostingLaws.{TakesBucket-before, ahead_none}
use Rattle.digit_route.proofs.Joined.{Any-permutation}
use Rattle.digit_route.proofs.Loops.{Posted}

-- in round 0 all moves are still to be made
pub ahead_first : (s : Scheme) (a : ℕ) (xs : List Buffer) → sum_by (ahead s a 0) xs ≡ shared s a xs
ahead_first s a [] = refl
ahead_first s a (x ∷ xs) =
    let rest = ahead_first s a xs in
    omega (arith, sum_by-cons (ahead s a 0) x xs, sum_by-cons (λ (b : Buffer). common s b.owner a) x xs, rest)

-- no owner shares all digits with the desk
pub shared-le : (s : Scheme) (a : ℕ) (xs : List Buffer) → IsScheme s → a < 2 ^ s.bits → All (IsCached s a) xs
    → shared s a xs ≤ (count s - 1) * length xs
shared-le s a [] i la h = omega arith
shared-le s a (x ∷ xs) i la h =
    let here = All-head (IsCached s a) x xs h in
    let rest = shared-le s a xs i la (All-tail (IsCached s a) x xs h) in
    let less = common-lt s i x.owner a here.in_range la here.apart in
    omega (arith, sum_by-cons (λ (b : Buffer). common s b.owner a) x xs, mul-suc (count s - 1) (length xs), rest, less)

-- the same from a list in another order
pub Gives-before : (s : Scheme) (a : ℕ) (older old : List Buffer) (b : BatchState) (new : List Buffer) → IsPermutation older old
    → GivesBucket s a old b new → GivesBucket s a older b new
Gives-before s a older old b new p h = record {
  sender = h.sender;
  digits = h.digits;
  routed = h.routed;
  taken = TakesBucket-before s a b.address older old b.items new p h.taken;
}

-- one batch more
GivesAll-push : (s : Scheme) (a : ℕ) (items : List Buffer) (bs : List BatchState) (mid : List Buffer) (b : BatchState) (new : List Buffer)
    → GivesAll s a items bs mid → GivesBucket s a mid b new → GivesAll s a items (bs ++ b ∷ []) new
GivesAll-push s a items [] mid b new h g = (new, Gives-before s a items mid b new h g, IsPermutation-refl new)
GivesAll-push s a items (x ∷ bs) mid b new h g = (h.0, h.1, GivesAll-push s a h.0 bs mid b new h.2 g)

-- what is left may stand in another order
GivesAll-end : (s : Scheme) (a : ℕ) (items : List Buffer) (bs : List BatchState) (mid left : List Buffer)
    → GivesAll s a items bs mid → IsPermutation mid left → GivesAll s a items bs left
GivesAll-end s a items [] mid left h p = IsPermutation-trans _ _ _ h p
GivesAll-end s a items (x ∷ bs) mid left h p = (h.0, h.1, GivesAll-end s a h.0 bs mid left h.2 p)

pub Posted-start : (s : Scheme) (a limit : ℕ) (items : List Buffer) (old : List BatchState)
    → Posted s a limit items old old (record { number = a; digits = s; limit = limit; round = 0; moves = 0; items = items })
Posted-start s a limit items old = record {
  number = refl;
  digits = refl;
  limited = refl;
  added = [];
  appended = sym (append-nil old);
  together = IsPermutation-refl items;
  whole = IsPermutation-refl items;
  counted = λ _. omega (arith, ahead_first s a items);
}

-- one batch more is given away
pub Posted-more : (s : Scheme) (a limit : ℕ) (items : List Buffer) (old given next : List BatchState) (p q : PostingState) (b : BatchState)
    → Posted s a limit items old given p → q.number ≡ p.number → q.digits ≡ p.digits → q.limit ≡ p.limit → GivesBucket p.digits p.number p.items b q.items
    → (all_moves p < 2 ^ 64 → all_moves q ≡ all_moves p) → next ≡ given ++ b ∷ [] → Posted s a limit items old next q
Posted-more s a limit items old given next p q b h number digits same_limit gives counted e =
    let own : GivesBucket s a p.items b q.items = rw (h.number, h.digits) at gives in
    let out : buffers_of (h.added ++ b ∷ []) ≡ buffers_of h.added ++ b.items =
    flat_map-append (λ (x : BatchState). x.items) h.added (b ∷ []) ∙ ap (λ x. buffers_of h.added ++ x) (append-nil b.items) in
    let apart : IsPermutation (buffers_of h.added ++ p.items) (buffers_of h.added ++ (b.items ++ q.items)) =
    IsPermutation-append_right (buffers_of h.added) _ _ own.taken.together in
    record {
      number = number ∙ h.number;
      digits = digits ∙ h.digits;
      limited = same_limit ∙ h.limited;
      added = h.added ++ b ∷ [];
      appended = e ∙ (ap (λ x. x ++ b ∷ []) h.appended ∙ append_assoc old h.added (b ∷ []));
      together = rw (out, append_assoc) (IsPermutation-trans _ _ _ h.together apart);
      whole = GivesAll-push s a items h.added p.items b q.items h.whole own;
      counted = λ fits. let before = h.counted fits in counted (omega arith) ∙ before;
    }

-- each batch has a buffer
pub Gives-fewer : (s : Scheme) (a : ℕ) (old : List Buffer) (b : BatchState) (new : List Buffer) → GivesBucket s a old b new → length new < length old
Gives-fewer s a old b new h =
    let len = length_permutation old (b.items ++ new) h.taken.together in
    let some = h.routed.owned in
    omega (arith, len, length-append b.items new, some.2)

-- what is left may stand in another order
pub Posted-end : (s : Scheme) (a limit : ℕ) (items : List Buffer) (old given : List BatchState) (p : PostingState) (left : List Buffer)
    → Posted s a limit items old given p → IsPermutation p.items left → Posts s a items old given left
Posted-end s a limit items old given p left h back = record {
  added = h.added;
  appended = h.appended;
  together = IsPermutation-trans _ _ _ h.together (IsPermutation-append_right (buffers_of h.added) _ _ back);
  whole = GivesAll-end s a items h.added p.items left h.whole back;
}

-- a batch was handed back
pub Posted-back : (s : Scheme) (a limit : ℕ) (items : List Buffer) (old given new : List BatchState) (p q : PostingState) (b : BatchState) (left : List Buffer)
    → Posted s a limit items old given p → GivesBucket p.digits p.number p.items b q.items → new ≡ given → IsPermutation (q.items ++ b.items) left
    → Posts s a items old new left
Posted-back s a limit items old given new p q b left h gives e back =
    let turn = IsPermutation-append_comm b.items q.items in
    let here = IsPermutation-trans _ _ _ gives.taken.together (IsPermutation-trans _ _ _ turn back) in
    rw e (Posted-end s a limit items old given p left h here)

pub Posted-moves : (s : Scheme) (a limit : ℕ) (items : List Buffer) (old given : List BatchState) (p q : PostingState)
    → Posted s a limit items old given p → (all_moves p < 2 ^ 64 → all_moves q ≡ all_moves p) → q.items ≡ []
    → shared s a items < 2 ^ 64 → q.moves ≡ shared s a items
Posted-moves s a limit items old given p q h counted e fits =
    let before = h.counted fits in
    let after = counted (omega arith) in
    let none : sum_by (ahead q.digits q.number q.round) q.items ≡ 0 = rw e refl in
    omega arith

pub Posted-few : (s : Scheme) (a limit : ℕ) (items : List Buffer) (old given : List BatchState) (p q : PostingState) → IsScheme s → a < 2 ^ s.bits
    → All (IsCached s a) items → Posted s a limit items old given p → (all_moves p < 2 ^ 64 → all_moves q ≡ all_moves p) → q.moves < 2 ^ 64
    → q.moves ≤ (count s - 1) * length items
Posted-few s a limit items old given p q i la h posted counted small =
    let most = shared-le s a items i la h in
    ⊎_elim
    (λ (l : shared s a items < 2 ^ 64).
    let before = posted.counted l in
    let after = counted (omega arith) in
    omega arith)
    (λ (g : 2 ^ 64 ≤ shared s a items). omega arith)
    (cases_lt (shared s a items) (2 ^ 64))

-- some element of the second list, where each has the property
Any-last : {X : Type 0} (P Q : X → Type 0) (xs ys : List X) → All P ys → Any Q ys → Any P (xs ++ ys)
Any-last P Q xs ys all h =
    let c = Contains-append_right xs ys h.1 (h.0, h.2, h.3) in (c.0, h.1, c.1, c.2, All-contains P ys h.1 all (h.0, h.2, h.3))

-- the moves of a posting that came to its end
pub Moved-end : (s : Scheme) (a limit : ℕ) (items : List Buffer) (old given : List BatchState) (p q : PostingState) (left : List Buffer)
    → Posted s a limit items old given p → q.number ≡ p.number → q.digits ≡ p.digits → (all_moves p < 2 ^ 64 → all_moves q ≡ all_moves p)
    → q.items ≡ [] → left ≡ [] → shared s a items < 2 ^ 64 → Moved s a items left q.moves
Moved-end s a limit items old given p q left h number digits counted none empty fits =
    let moves = Posted-moves s a limit items old given p q h counted none fits in
    rw empty (record {
      round = 0;
      reached = All-nil (λ (b : Buffer). 0 ≤ common s b.owner a);
      stopped = inl refl;
      counted = omega (arith, moves);
    })

-- the moves of a posting that stopped before it could give the batch b
pub Moved-back : (s : Scheme) (a limit : ℕ) (items : List Buffer) (old given : List BatchState) (p q : PostingState) (b : BatchState) (left : List Buffer)
    → Posted s a limit items old given p → q.number ≡ p.number → q.digits ≡ p.digits → GivesBucket p.digits p.number p.items b q.items
    → All (λ (x : Buffer). common p.digits x.owner p.number ≡ q.round) b.items → All (λ (x : Buffer). q.round ≤ common p.digits x.owner p.number) q.items
    → (all_moves p < 2 ^ 64 → all_moves q ≡ all_moves p) → IsPermutation (q.items ++ b.items) left → shared s a items < 2 ^ 64
    → Moved s a items left q.moves
Moved-back s a limit items old given p q b left h number digits gives here after counted back fits =
    let before = h.counted fits in
    let all : all_moves q ≡ all_moves p = counted (omega arith) in
    let turns : q.moves + sum_by (ahead s a q.round) q.items ≡ shared s a items = rw (number, digits, h.number, h.digits) at (all ∙ before) in
    let now : All (λ (x : Buffer). common s x.owner a ≡ q.round) b.items = rw (h.number, h.digits) at here in
    let later : All (λ (x : Buffer). q.round ≤ common s x.owner a) q.items = rw (h.number, h.digits) at after in
    let none = ahead_none s a q.round b.items now in
    let same = sum_by-IsPermutation (ahead s a q.round) (q.items ++ b.items) left back in
    let parts = sum_by-append (ahead s a q.round) q.items b.items in
    let some = gives.routed.owned in
    record {
      round = q.round;
      reached = All-permutation (λ (x : Buffer). q.round ≤ common s x.owner a) _ _ back
          (All-append (λ (x : Buffer). q.round ≤ common s x.owner a) q.items b.items later
          (All-weaker (λ (x : Buffer). common s x.owner a ≡ q.round) (λ (x : Buffer). q.round ≤ common s x.owner a) (λ x e. omega (arith, e)) b.items now));
      stopped = inr (Any-permutation (λ (x : Buffer). common s x.owner a ≡ q.round) _ _ back
          (Any-last (λ (x : Buffer). common s x.owner a ≡ q.round) (λ (x : Buffer). x.owner ≡ b.address) q.items b.items now some));
      counted = omega (arith, turns, none, same, parts);
    }
