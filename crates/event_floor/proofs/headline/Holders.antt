-- Desks that are taken into hands, and let go.
use Rattle.std.proofs.Common.{◌≡◌, ℕ, Bool, true, false, ◌||◌, [], ◌∷◌, map, set, Ok, is_some, refl, sym, ap, ◌∙◌, subst}
use Rattle.std.specs.List.{list_any}
use Rattle.pool_desk.specs.Desks.{IdleState, DeskState}
use Rattle.event_floor.specs.Desks.AnyDeskState.{Idle as IdleDesk, Held as HeldDesk}
use Rattle.pool_machine.specs.declared.request.Request.TheVariants.{Adopt, Retire}
use Rattle.pool_machine.specs.declared.reply.Reply.TheVariants.{Done}
use Rattle.pool_machine.specs.declared.refusal.Refusal.TheVariants.{NoDesk, Held, Unsettled}
use Rattle.event_floor.specs.Desks.{AnyDeskState, adopted, retired, IsNumbered}
use Rattle.event_floor.specs.Floors.{FloorState, with_any_desk, with_desk, IsIdle, IsHeld}
use Rattle.event_floor.specs.Steps.{LacksUnlinkedOf}
use Rattle.pool_machine.specs.Listing.{Entry, DeskListing, desk_listing}
use Rattle.pool_machine.proofs.Located.{LocatedStep}
use Rattle.event_floor.specs.headline.Listing.{entry_of, desk_of, listing_of}
use Rattle.event_floor.specs.headline.Whole.{IsWhole}
use Rattle.pool_machine.proofs.Applied.{adopt_applies, retire_applies}
use Rattle.event_floor.proofs.headline.Views.{passes, held_seen, idle_seen, is_desk_seen, held_first, with_any_desk_seen}
use Rattle.event_floor.proofs.headline.Refused.{unsettled, unsettled_rows, neither_row, none_unlinked_of}

-- the listing of a floor with another desk
pub any_desk_listing : (v : FloorState) (a : ℕ) (s : AnyDeskState) → listing_of (with_any_desk v a s) ≡ record (listing_of v) { desks = set (listing_of v).desks a (desk_of s) }
any_desk_listing v a s = ap (λ xs. record (listing_of v) { desks = xs }) (with_any_desk_seen v a s)

-- the desk has its number, and the floor's digits
pub numbered_held : (v : FloorState) (a : ℕ) (d : DeskState) → IsWhole v → IsHeld v a d → (d.number ≡ a) × (d.limit ≡ v.limit) × (d.digits ≡ v.digits)
numbered_held v a d f h = subst (λ s. IsNumbered v.digits v.limit a s) h.1 (f.floor.each_desk a h.0).numbered

-- ---- Adopt

pub adopt_done : (v w : FloorState) (a x : ℕ) (d : IdleState) → IsIdle v a d → w ≡ with_desk v a (adopted x d) → LocatedStep (listing_of v) (Adopt a x) (Ok Done) (listing_of w)
adopt_done v w a x d h e =
    let l = listing_of v in
    let new = desk_of (HeldDesk (adopted x d)) in
    let seen = idle_seen v a d h in
    subst (λ z. LocatedStep l (Adopt a x) (Ok Done) z) (sym (ap listing_of e ∙ any_desk_listing v a (HeldDesk (adopted x d))))
    (adopt_applies l a x new
    (passes _ NoDesk ((is_some (desk_listing l a).worker, Held) ∷ []) (is_desk_seen v a h.0) ∙ passes (is_some (desk_listing l a).worker) Held [] (ap (λ (z : DeskListing). is_some z.worker) seen))
    refl (ap (λ (z : DeskListing). z.home) (sym seen)) (ap (λ (z : DeskListing). z.cache) (sym seen)))

-- ---- Retire

or_none : (x y : Bool) → x ≡ false → y ≡ false → (x || y) ≡ false
or_none x y e f = ap (λ b. b || y) e ∙ f

settled : (v : FloorState) (a : ℕ) (d : DeskState) → IsHeld v a d → d.cached ≡ [] → LacksUnlinkedOf v a → unsettled v a ≡ false
settled v a d h e f =
    or_none _ _ (ap (λ (x : DeskListing). list_any (λ (e : Entry). true) x.cache) (held_seen v a d h) ∙ ap (λ bs. list_any (λ (e : Entry). true) (map entry_of bs)) e)
    (none_unlinked_of v a f)

pub retire_done : (v w : FloorState) (a : ℕ) (d : DeskState) → IsHeld v a d → d.cached ≡ [] → LacksUnlinkedOf v a → w ≡ with_any_desk v a (IdleDesk (retired d))
    → LocatedStep (listing_of v) (Retire a) (Ok Done) (listing_of w)
retire_done v w a d h none lacks e =
    let l = listing_of v in
    let new = desk_of (IdleDesk (retired d)) in
    let seen = held_seen v a d h in
    subst (λ z. LocatedStep l (Retire a) (Ok Done) z) (sym (ap listing_of e ∙ any_desk_listing v a (IdleDesk (retired d))))
    (retire_applies l a new
    (held_first v a (unsettled_rows v a) d h ∙ neither_row _ _ Unsettled (settled v a d h none lacks))
    refl (ap (λ (z : DeskListing). z.home) (sym seen)) (sym (ap (λ (z : DeskListing). z.cache) seen ∙ ap (map entry_of) none)))
