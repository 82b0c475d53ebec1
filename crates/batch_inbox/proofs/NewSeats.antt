-- The seats of a new inbox.
use Rattle.std.proofs.Common.{◌≡◌, ◌⊎◌, ℕ, zero, suc, List, [], ◌∷◌, ◌++◌, length, Some, refl, sym, ap, ◌∙◌, inl, inr, ⊎_elim}
use Rattle.std.specs.Prelude.{slice_get}
use Rattle.batch_inbox.specs.States.{InboxId, SendState, AreSeatsOf, AreNew}

get_snoc : (xs : List SendState) (x s : SendState) (k : ℕ) → slice_get (xs ++ x ∷ []) k ≡ Some s → (slice_get xs k ≡ Some s) ⊎ ((k ≡ length xs) × (x ≡ s))
get_snoc [] x s zero e = inr (refl, cc)
get_snoc [] x s (suc k) e = absurd (cc)
get_snoc (y ∷ ys) x s zero e = inl e
get_snoc (y ∷ ys) x s (suc k) e = ⊎_elim (λ h. inl h) (λ h. inr (ap suc h.0, h.1)) (get_snoc ys x s k e)

pub seats_more : (inbox : InboxId) (xs : List SendState) (x : SendState) → AreSeatsOf inbox xs → x.inbox ≡ inbox → x.sender ≡ length xs → AreSeatsOf inbox (xs ++ x ∷ [])
seats_more inbox xs x old at number k s e =
    ⊎_elim (λ h. old k s h) (λ (h : (k ≡ length xs) × (x ≡ s)). (ap (λ (y : SendState). y.inbox) (sym h.1) ∙ at, ap (λ (y : SendState). y.sender) (sym h.1) ∙ number ∙ sym h.0)) (get_snoc xs x s k e)

pub new_more : (xs : List SendState) (x : SendState) → AreNew xs → x.sent ≡ [] → AreNew (xs ++ x ∷ [])
new_more xs x old none k s e = ⊎_elim (λ h. old k s h) (λ (h : (k ≡ length xs) × (x ≡ s)). ap (λ (y : SendState). y.sent) (sym h.1) ∙ none) (get_snoc xs x s k e)
