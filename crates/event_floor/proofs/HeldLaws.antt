-- Desks that workers hold, and what a request that looked at one knows of it.
use Rattle.std.proofs.Common.{◌≡◌, refl, ℕ, ◌<◌, List, length, get_or, ◌∙◌, subst}
use Rattle.std.proofs.lemmas.List.{get_or_read}
use Rattle.std.specs.Prelude.{Result, Ok, Err, OnErr, Bool, true, IsTrue, false}
use Rattle.pool_desk.specs.Desks.{IdleState, DeskState}
use Rattle.event_floor.specs.Desks.{AnyDeskState, IsInHands, Works}
use Rattle.event_floor.specs.Desks.AnyDeskState.{Idle, Held}
use Rattle.event_floor.specs.HeldDesks.{HoldsDesk}
use Rattle.event_floor.specs.Floors.{no_desk}

pub held_here : (s : AnyDeskState) → IsInHands s → (d : DeskState) × (s ≡ Held d)
held_here (Idle d) h = absurd h
held_here (Held d) h = (d, refl)

pub idle_here : (s : AnyDeskState) → (IsInHands s → ⊥) → (d : IdleState) × (s ≡ Idle d)
idle_here (Idle d) h = (d, refl)
idle_here (Held d) h = absurd (h tt)

-- what the desk is once its worker did something to it
pub worked : (does : DeskState → DeskState → Type 0) (s s' : AnyDeskState) (d : DeskState) → s ≡ Held d → Works does s s' → (d' : DeskState) × (s' ≡ Held d') × does d d'
worked does s s' d is h = after s' (subst (λ z. Works does z s') is h)
  where
    after : (z : AnyDeskState) → Works does (Held d) z → (d' : DeskState) × (z ≡ Held d') × does d d'
    after (Idle i) w = absurd w
    after (Held d') w = (d', refl, w)

-- a number that was compared with a length
pub within : (a n m k : ℕ) → a < n → n ≡ m → m ≡ k → a < k
within a n m k l e f = subst (λ z. a < z) (e ∙ f) l

-- the desk of the number is there, and held
abbrev pub HeldThere : List AnyDeskState → ℕ → DeskState → Type 0
HeldThere desks a d = (a < length desks) × (get_or desks a no_desk ≡ Held d)

-- what a request that found its desk held knows of it, by the slice that it looked at
pub is_there : (desks seen : List AnyDeskState) (a : ℕ) → seen ≡ desks → HoldsDesk seen a → a < length desks
is_there desks seen a same h = subst (λ z. a < length z) same h.0

pub held_there : (desks seen : List AnyDeskState) (a : ℕ) → seen ≡ desks → (h : HoldsDesk seen a) → HeldThere desks a h.1
held_there desks seen a same h = subst (λ z. HeldThere z a h.1) same (h.0, h.2)

-- and where it is read, it is that desk
pub held_read : (desks seen : List AnyDeskState) (a : ℕ) (x : AnyDeskState) → seen ≡ desks → (h : HoldsDesk seen a) → x ≡ get_or desks a x → x ≡ Held h.1
held_read desks seen a x same h read =
    let held = held_there desks seen a same h in
    get_or_read desks a x held.0 read no_desk ∙ held.1

-- a test that failed
pub not_so : {P : Type 0} (test : Bool) → (P → IsTrue test) → test ≡ false → P → ⊥
not_so test means failed p = let t : test ≡ true = means p in cc

-- what holds, holds of a refusal
pub on_err : {T E : Type 0} {P : Type 0} (r : Result T E) → P → OnErr r P
on_err (Ok x) p = tt
on_err (Err e) p = p
