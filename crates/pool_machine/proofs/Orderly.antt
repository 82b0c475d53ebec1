-- Sound states are orderly.
use Rattle.std.proofs.Common.{ℕ, ◌^◌, ◌<◌, ◌≤◌, zero, suc, List, [], ◌∷◌, length, get_or, Option, Some, refl, subst, arith, inl, inr}
use Rattle.region_cut.specs.declared.slot.Slot.{Slot}
use Rattle.digit_route.specs.Digits.{Scheme, IsScheme}
use Rattle.pool_machine.specs.declared.request.Request.{Request}
use Rattle.pool_machine.specs.State.{State, Place, InBatch, Waiting, owner_of, opening}
use Rattle.pool_machine.specs.Steps.{Answer, Run}
use Rattle.pool_machine.specs.Forwards.{forwards}
use Rattle.pool_machine.specs.Sound.{Member, GoesNearer, Fits, IsRouted, IsOrderly, Sound}
use Rattle.pool_machine.proofs.Keeps.{sound_run}
use Rattle.pool_machine.proofs.Openings.{opening_sound}

Member_at : (ws : List Waiting) (k : ℕ) (d : Waiting) → k < length ws → Member (get_or ws k d) ws
Member_at [] k d l = absurd (omega arith)
Member_at (w ∷ ws) zero d l = inl refl
Member_at (w ∷ ws) (suc k) d l = inr (Member_at ws k d (omega arith))

pub sound_routed : (st : State) (count : Slot → ℕ) → Sound st count → (w : Waiting) → Member w st.waiting → IsRouted st count w
sound_routed st count h w m = record {
  apart = (h.waits w m).leaves;
  owned = (h.waits w m).reaches;
  nearer = λ s e. nearer_at s (subst (λ (p : Option Place). Fits st (owner_of st s) (count s) p) e (h.fits s));
}
  where
    nearer_at : (s : Slot) → Fits st (owner_of st s) (count s) (Some (InBatch w.number)) → GoesNearer st (owner_of st s) (count s) w
    nearer_at s f = f.1.2 w m refl

pub sound_orderly : (st : State) (count : Slot → ℕ) → Sound st count → IsOrderly st count
sound_orderly st count h = record {
  placed = h.placed;
  routed = λ k d l. sound_routed st count h (get_or st.waiting k d) (Member_at st.waiting k d l);
  few = h.few;
}

pub run_orderly : (desks chunks : ℕ) (digits : Scheme) (limit : ℕ) → IsScheme digits → desks ≤ 2 ^ digits.bits
    → (requests : List Request) (answers : List Answer) (new : State) → Run (opening desks chunks digits limit) requests answers new
    → IsOrderly new (λ s. forwards (opening desks chunks digits limit) requests answers s 0)
run_orderly desks chunks digits limit i l requests answers new g =
    sound_orderly new (λ s. forwards (opening desks chunks digits limit) requests answers s 0)
    (sound_run requests answers (opening desks chunks digits limit) new (λ s. 0) (opening_sound desks chunks digits limit i l) g)
