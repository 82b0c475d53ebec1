-- The floor of a header.
use Rattle.std.proofs.Common.{◌≡◌, ℕ, ◌*◌, ◌/◌, List, length, Result, Ok, Err, IfOk, ◌∙◌, ap, subst, arith}
use Rattle.std.proofs.Math.Nat.{mul-div_cancel}
use Rattle.region_cut.specs.declared.part.Part.{Part}
use Rattle.digit_route.specs.Digits.{Scheme}
use Rattle.event_floor.specs.Floors.{FloorState}
use Rattle.event_floor.specs.headline.Listing.{listing_of}
use Rattle.pool_machine.specs.Listing.{Shown}
use Rattle.pool_machine.specs.State.{State, opening}
use Rattle.trace_audit.specs.FloorCounts.{Opens, scheme_of}
use Rattle.trace_audit.specs.declared.grammar.header.Header.{Header}

pub opens : {E : Type 0} → (h : Header) (bs : List ℕ) (ps : List Part) (digits : Scheme) (r : Result FloorState E) → length bs ≡ h.chunks * 4096 → length ps ≡ length bs / 4096
    → digits ≡ scheme_of h
    → IfOk r (λ f. Shown (listing_of f) (opening h.desks (length ps) digits 4096) (λ s. 0)) → IfOk r (λ f. Opens h f)
opens h bs ps digits (Ok f) size count reads shown =
    subst (λ (st : State). Shown (listing_of f) st (λ s. 0))
    (ap (λ s. opening h.desks (length ps) s 4096) reads
    ∙ ap (λ n. opening h.desks n (scheme_of h) 4096) (count ∙ ap (λ n. n / 4096) size ∙ mul-div_cancel h.chunks (omega arith))) shown
opens h bs ps digits (Err e) size count reads k = tt
