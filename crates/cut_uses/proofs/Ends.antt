-- What a chunk ends as, of which two slots were given back, and a region whose first chunk is written.
use Rattle.std.proofs.Common.{◌≡◌, ℕ, ◌+◌, ◌<◌, ◌≤◌, List, [], ◌∷◌, ◌++◌, length, take, drop, remove, slice_set, slice_index_or, sym, ap, ◌∙◌, append_assoc, arith}
use Rattle.std.specs.List.{flat_map}
use Rattle.std.proofs.lemmas.List.{set-append_left, set-append_right, length-take-le, take-append-drop, length-append}
use Rattle.region_cut.specs.Limits.{chunk_size}
use Rattle.region_cut.specs.declared.part.Part.{Part}
use Rattle.region_cut.specs.Parts.{bytes_of}

-- two parts are settled, the one after the other
pub settled_two : (s₀ s₁ s₂ a₀ a b₀ b : List ℕ) → s₁ ≡ s₀ ++ (a₀ ++ a) → s₂ ≡ s₁ ++ (b₀ ++ b) → s₀ ≡ [] → a₀ ≡ [] → b₀ ≡ [] → s₂ ≡ a ++ b
settled_two s₀ s₁ s₂ a₀ a b₀ b e₁ e₂ n₀ na nb =
    e₂ ∙ ap (λ z. s₁ ++ (z ++ b)) nb ∙ ap (λ z. z ++ b) (e₁ ∙ ap (λ z. z ++ (a₀ ++ a)) n₀ ∙ ap (λ z. z ++ a) na)

-- one part is settled, the first
pub end_settled : (s₀ s e p r t : List ℕ) → s ≡ s₀ ++ e → s₀ ≡ [] → e ≡ p → r ≡ t → s ++ r ≡ p ++ t
end_settled s₀ s e p r t settled none part rest =
    ap (λ z. z ++ r) (settled ∙ ap (λ z. z ++ e) none ∙ part) ∙ ap (λ z. p ++ z) rest

-- the first byte of the second slot is written
pub write_second : (p f h s t : List ℕ) (x : ℕ) → p ≡ f ++ h → h ≡ s ++ t → length f ≡ 64 → length s ≡ 64 → (f ++ slice_set s 0 x) ++ t ≡ slice_set p 64 x
write_second p f h s t x whole rest first second =
    let some : 0 < length s = omega (arith, second) in
    append_assoc f (slice_set s 0 x) t
    ∙ ap (λ z. f ++ z) (sym (set-append_left s t 0 x some))
    ∙ ap (λ z. f ++ slice_set z 0 x) (sym rest)
    ∙ sym (set-append_right f h 64 64 x first (omega arith))
    ∙ ap (λ z. slice_set z 64 x) (sym whole)

-- the byte is written in the first chunk
pub write_front : (bytes : List ℕ) (at x : ℕ) → at < chunk_size → chunk_size ≤ length bytes
    → slice_set (take chunk_size bytes) at x ++ drop chunk_size bytes ≡ slice_set bytes at x
write_front bytes at x within long =
    let size : length (take chunk_size bytes) ≡ chunk_size = length-take-le chunk_size bytes long in
    let inside : at < length (take chunk_size bytes) = omega (arith, size) in
    sym (set-append_left (take chunk_size bytes) (drop chunk_size bytes) at x inside) ∙ ap (λ z. slice_set z at x) (take-append-drop chunk_size bytes)

pub removed_first : (ps qs : List Part) (p : Part) → 0 < length ps → p ≡ slice_index_or ps 0 p → qs ≡ remove ps 0 → ps ≡ p ∷ qs
removed_first [] qs p some value items = absurd (omega (arith, some))
removed_first (y ∷ ys) qs p some value items = ap (λ z. z ∷ ys) (sym value) ∙ ap (λ zs. p ∷ zs) (sym items)

pub write_part : (bytes : List ℕ) (ps qs : List Part) (p : Part) (s r t : List ℕ) (at x : ℕ) → at < chunk_size → ps ≡ p ∷ qs → flat_map bytes_of ps ++ t ≡ bytes
    → s ≡ slice_set (bytes_of p) at x ++ flat_map bytes_of qs → r ≡ t → s ++ r ≡ slice_set bytes at x
write_part bytes ps qs p s r t at x low first whole settled rest =
    let f : List ℕ = bytes_of p in let g : List ℕ = flat_map bytes_of qs in
    let size : length f ≡ chunk_size = p.is_whole in
    let inside : at < length f = omega (arith, size, low) in
    let long : length (f ++ g) ≡ length f + length g = length-append f g in
    let within : at < length (f ++ g) = omega (arith, size, long) in
    ap (λ z. z ++ r) settled ∙ ap (λ z. (slice_set f at x ++ g) ++ z) rest
    ∙ ap (λ z. z ++ t) (sym (set-append_left f g at x inside))
    ∙ sym (set-append_left (f ++ g) t at x within)
    ∙ ap (λ z. slice_set z at x) (ap (λ l. flat_map bytes_of l ++ t) (sym first) ∙ whole)
