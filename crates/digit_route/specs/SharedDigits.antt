-- The laws of shared digits, for all numbers.
use Rattle.std.specs.Prelude.{◌≡◌, ◌≢◌, ℕ, ◌^◌, ◌<◌, ◌≤◌, ◌↔◌}
use Rattle.digit_route.specs.Digits.{Scheme, IsScheme, count, common}

-- how many digits two numbers share doesn't depend on their order
abbrev pub SharedBothWays : Type 0
SharedBothWays = (s : Scheme) (x y : ℕ) → common s x y ≡ common s y x

-- two numbers share no more digits than a number has
abbrev pub SharedAtMostAll : Type 0
SharedAtMostAll = (s : Scheme) (x y : ℕ) → common s x y ≤ count s

-- two numbers of the scheme share all digits exactly where they are equal
abbrev pub SharedByEquals : Type 0
SharedByEquals =
    (s : Scheme) (x y : ℕ) → IsScheme s → x < 2 ^ s.bits → y < 2 ^ s.bits → (common s x y ≡ count s) ↔ (x ≡ y)

-- numbers of the scheme that differ share fewer digits than a number has
abbrev pub SharedByOthers : Type 0
SharedByOthers =
    (s : Scheme) (x y : ℕ) → IsScheme s → x < 2 ^ s.bits → y < 2 ^ s.bits → x ≢ y → common s x y < count s

-- an owner o that is nearer t than a is shares with a just what a shares with t
abbrev pub SharedOnTheWay : Type 0
SharedOnTheWay = (s : Scheme) (o a t : ℕ) → common s a t < common s o t → common s o a ≡ common s a t
