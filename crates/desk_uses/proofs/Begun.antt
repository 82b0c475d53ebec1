-- A look at the front of a region tells whether it was filled.
use Rattle.std.proofs.Common.{◌≡◌, ◌↔◌, ℕ, ◌≤◌, Bool, true, false, true≢false, List, [], ◌∷◌, ◌++◌, take, drop, length, replicate, All, IsTrue, refl, sym, ap, ◌∙◌, subst}
use Rattle.std.proofs.lemmas.List.{take-append-drop, length-take-le}
use Rattle.std.proofs.lemmas.List.Elements.{All-replicate, All-head, All-tail}
use Rattle.desk_uses.specs.Used.{filled}

-- a list of which each element is x
alike : (x : ℕ) (xs : List ℕ) → All (λ b. b ≡ x) xs → xs ≡ replicate (length xs) x
alike x [] h = refl
alike x (y ∷ ys) h = ap (λ z. z ∷ ys) (All-head (λ b. b ≡ x) y ys h) ∙ ap (λ zs. x ∷ zs) (alike x ys (All-tail (λ b. b ≡ x) y ys h))

front_filled : (x : ℕ) (bytes : List ℕ) → All (λ b. b ≡ x) (take 16 (filled true x bytes))
front_filled x bytes = All-replicate (λ b. b ≡ x) 16 x refl

-- where the front is so already, to fill it changes nothing
same_filled : (x : ℕ) (bytes : List ℕ) → 16 ≤ length bytes → All (λ b. b ≡ x) (take 16 bytes) → bytes ≡ filled true x bytes
same_filled x bytes long h =
    sym (take-append-drop 16 bytes)
    ∙ ap (λ z. z ++ drop 16 bytes) (alike x (take 16 bytes) h ∙ ap (λ n. replicate n x) (length-take-le 16 bytes long))

-- what the look says is what was done
pub front_tells : (x : ℕ) (bytes new : List ℕ) (done told : Bool) → 16 ≤ length bytes → new ≡ filled done x bytes
    → (IsTrue told ↔ All (λ b. b ≡ x) (take 16 new)) → new ≡ filled told x bytes
front_tells x bytes new true true long is tells = is
front_tells x bytes new false false long is tells = is
front_tells x bytes new true false long is tells =
    absurd (true≢false (sym (tells.1 (subst (λ ys. All (λ b. b ≡ x) (take 16 ys)) (sym is) (front_filled x bytes)))))
front_tells x bytes new false true long is tells =
    is ∙ same_filled x bytes long (subst (λ ys. All (λ b. b ≡ x) (take 16 ys)) is (tells.0 refl))
