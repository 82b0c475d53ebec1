-- Two halves are let go, the second first.
use Rattle.std.proofs.Common.{◌≡◌, ℕ, ◌<◌, ◌≤◌, List, [], ◌∷◌, ◌++◌, length, take, drop, slice_set, refl, sym, ap, ◌∙◌, subst, arith, append_assoc, append-nil}
use Rattle.std.specs.Borrow.{GName}
use Rattle.std.specs.List.{All, Contains, flat_map}
use Rattle.std.proofs.lemmas.List.{set-append_left, set-append_right, length-take-le, take-append-drop, length-drop}
use Rattle.std.proofs.lemmas.List.Elements.{All-cons, All-nil}
use Rattle.region_cut.specs.declared.endings.front.Front.{Front}
use Rattle.region_cut.specs.Fronts.{whole_of, lent_of, rest_of}
use Rattle.region_cut.specs.Endings.{Ended, Agrees, IsKnown, end_in, ended_front}

abbrev pub two : GName → List ℕ → GName → List ℕ → List Ended
two γ b δ d = record { name = γ; bytes = b } ∷ record { name = δ; bytes = d } ∷ []

pub front_end : (K : List Ended) (f : Front) (γ : GName) (b : List ℕ) → lent_of f ≡ [] → whole_of f ≡ γ → rest_of f ≡ b → ended_front K f ≡ record { name = γ; bytes = b }
front_end K f γ b lent whole rest =
    ap (λ (xs : List GName). record { name = f.tie.whole; bytes = flat_map (end_in K) xs ++ f.rest.now }) lent
    ∙ (ap (λ (n : GName). record { name = n; bytes = f.rest.now }) whole ∙ ap (λ (w : List ℕ). record { name = γ; bytes = w }) rest)

pub both_known : (γ : GName) (b : List ℕ) (δ : GName) (d : List ℕ) → All (IsKnown (two γ b δ d)) (γ ∷ δ ∷ [])
both_known γ b δ d =
    let P : GName → Type 0 = IsKnown (two γ b δ d) in
    All-cons P γ (δ ∷ []) (0, omega arith, refl) (All-cons P δ [] (1, omega arith, refl) (All-nil P))

joined : (xs : List ℕ) (x : ℕ) → 8 ≤ length xs → (take 4 xs ++ (slice_set (take 4 (drop 4 xs)) 0 x ++ [])) ++ drop 4 (drop 4 xs) ≡ slice_set xs 4 x
joined xs x long =
    let f : List ℕ = take 4 xs in let h : List ℕ = drop 4 xs in let s : List ℕ = take 4 h in let t : List ℕ = drop 4 h in
    let four : length f ≡ 4 = length-take-le 4 xs (omega (arith, long)) in
    let left = length-drop 4 xs in
    let enough : 4 ≤ length h = omega (arith, long, left) in
    let more : length s ≡ 4 = length-take-le 4 h enough in
    let some : 0 < length s = omega (arith, more) in
    ap (λ z. (f ++ z) ++ t) (append-nil (slice_set s 0 x)) ∙ (append_assoc f (slice_set s 0 x) t
    ∙ (ap (λ z. f ++ z) (sym (set-append_left s t 0 x some))
    ∙ (ap (λ z. f ++ slice_set z 0 x) (take-append-drop 4 h)
    ∙ (sym (set-append_right f h 4 4 x four (omega arith)) ∙ ap (λ z. slice_set z 4 x) (take-append-drop 4 xs)))))

pub whole_end : (γ δ ρ : GName) (xs : List ℕ) (x : ℕ) (f : Front) → 8 ≤ length xs
    → let K : List Ended = two γ (take 4 xs) δ (slice_set (take 4 (drop 4 xs)) 0 x) in
    Agrees K → lent_of f ≡ γ ∷ δ ∷ [] → whole_of f ≡ ρ → rest_of f ≡ drop 4 (drop 4 xs) → ended_front K f ≡ record { name = ρ; bytes = slice_set xs 4 x }
whole_end γ δ ρ xs x f long one lent whole rest =
    let b : List ℕ = take 4 xs in let d : List ℕ = slice_set (take 4 (drop 4 xs)) 0 x in
    let K : List Ended = two γ b δ d in
    let e : Ended = record { name = γ; bytes = b } in
    let first : end_in K γ ≡ b = one 0 e (omega arith) in
    let second : end_in K δ ≡ d = one 1 e (omega arith) in
    ap (λ (ns : List GName). record { name = f.tie.whole; bytes = flat_map (end_in K) ns ++ f.rest.now }) lent
    ∙ (ap (λ (n : GName). record { name = n; bytes = (end_in K γ ++ (end_in K δ ++ [])) ++ f.rest.now }) whole
    ∙ (ap (λ (w : List ℕ). record { name = ρ; bytes = (end_in K γ ++ (end_in K δ ++ [])) ++ w }) rest
    ∙ (ap (λ (w : List ℕ). record { name = ρ; bytes = (w ++ (end_in K δ ++ [])) ++ drop 4 (drop 4 xs) }) first
    ∙ (ap (λ (w : List ℕ). record { name = ρ; bytes = (b ++ (w ++ [])) ++ drop 4 (drop 4 xs) }) second
    ∙ ap (λ (w : List ℕ). record { name = ρ; bytes = w }) (joined xs x long)))))

pub two_closed : (K₀ K₁ K₂ : List Ended) (f g : Front) (γ δ : GName) (b d : List ℕ) → K₀ ≡ [] → K₁ ≡ ended_front K₀ g ∷ K₀ → K₂ ≡ ended_front K₁ f ∷ K₁
    → lent_of f ≡ [] → whole_of f ≡ γ → rest_of f ≡ b → lent_of g ≡ [] → whole_of g ≡ δ → rest_of g ≡ d → K₂ ≡ two γ b δ d
two_closed K₀ K₁ K₂ f g γ δ b d none one both fl fw fr gl gw gr =
    let first : K₁ ≡ record { name = δ; bytes = d } ∷ [] =
    one ∙ (ap (λ (e : Ended). e ∷ K₀) (front_end K₀ g δ d gl gw gr) ∙ ap (λ (K : List Ended). record { name = δ; bytes = d } ∷ K) none) in
    both ∙ (ap (λ (e : Ended). e ∷ K₁) (front_end K₁ f γ b fl fw fr) ∙ ap (λ (K : List Ended). record { name = γ; bytes = b } ∷ K) first)

pub here : (ks es : List Ended) (e : Ended) → ks ≡ e ∷ es → Contains ks e
here ks es e is = subst (λ (z : List Ended). Contains z e) (sym is) (0, omega arith, refl)
