-- How often the buffers of a cache were passed on.
use Rattle.std.proofs.Common.{◌≡◌, ◌≢◌, ℕ, ◌+◌, ◌<◌, ◌≤◌, ◌^◌, ◌++◌, List, All, true≢false, eq-eqb, not, sym, ap, ◌∙◌, map, IsPermutation, arith, rules}
use Rattle.std.specs.Prelude.{◌==◌}
use Rattle.std.proofs.lemmas.List.Elements.{All-append, All-filter, All-map, filter_passes}
use Rattle.std.proofs.lemmas.List.Sorted.{All-permutation}
use Rattle.slot_chain.specs.Buffer.{Buffer}
use Rattle.digit_route.specs.Digits.{Scheme, IsScheme, common, count}
use Rattle.digit_route.specs.Route.{IsCached, IsWellRouted}
use Rattle.digit_route.proofs.SharedLaws.{shared_by_others}
use Rattle.digit_route.specs.States.{BatchState}
use Rattle.pool_desk.specs.Desks.{DeskState}
use Rattle.pool_desk.specs.Steps.{Handles, passed_on, others}
use Rattle.batch_inbox.specs.declared.place.Place.{Place}
use Rattle.batch_inbox.specs.Views.{place_of}
use Rattle.inbox_uses.specs.Handled.{IsPlaceOf}

-- the buffers of a batch to a that a doesn't own are nearer their owners at a than where they came from
pub cached_after : (s : Scheme) (a from : ℕ) (items old new : List Buffer) → IsWellRouted s from a items → All (IsCached s a) old
    → IsPermutation (map passed_on (others a items) ++ old) new → All (IsCached s a) new
cached_after s a from items old new r all moved =
    let test = λ (b : Buffer). not (b.owner == a) in
    All-permutation (IsCached s a) (map passed_on (others a items) ++ old) new moved
    (All-append (IsCached s a) (map passed_on (others a items)) old
    (All-map (IsCached s a) passed_on (others a items) (λ k d lt.
    let before = All-filter test (λ (b : Buffer). b.forwards ≤ common s b.owner from) items r.forwards k d lt in
    let nearer = All-filter test (λ (b : Buffer). common s b.owner from < common s b.owner a) items r.nearer k d lt in
    record {
      apart = λ e. true≢false (sym (filter_passes test items k d lt) ∙ ap not (eq-eqb _ a e));
      in_range = All-filter test (λ (b : Buffer). b.owner < 2 ^ s.bits) items r.in_range k d lt;
      forwards = omega arith;
    }))
    all)

-- what may be in the cache of a was passed on less often than a number has digits
pub few : (s : Scheme) (a : ℕ) (items : List Buffer) → IsScheme s → a < 2 ^ s.bits → All (IsCached s a) items → All (λ (b : Buffer). b.forwards < count s) items
few s a items scheme in_range all k d lt =
    let is = all k d lt in
    let less = shared_by_others s _ a scheme is.in_range in_range is.apart in
    let most = is.forwards in
    omega arith

-- a desk that handles a batch to it
pub handled : (place : Place) (old new : DeskState) (x : BatchState) → IsPlaceOf old place → place_of x ≡ place
    → IsWellRouted x.digits x.sender x.address x.items → Handles old x.items new
    → All (IsCached old.digits old.number) old.cached → All (IsCached new.digits new.number) new.cached
handled place old new x at to r h all =
    let address : x.address ≡ old.number = ap (λ (p : Place). p.address) (to ∙ at) in
    let digits : x.digits ≡ old.digits = ap (λ (p : Place). p.digits) (to ∙ at) in
    let routed : IsWellRouted old.digits x.sender old.number x.items = rw (digits, address) at r in
    let number : new.number ≡ old.number = ap (λ (d : DeskState). d.number) h.same in
    let same : new.digits ≡ old.digits = ap (λ (d : DeskState). d.digits) h.same in
    rw (same, number) (cached_after old.digits old.number x.sender x.items old.cached new.cached routed all h.cached)
