-- The opening state is sound.
use Rattle.std.proofs.Common.{ℕ, ◌+◌, ◌-◌, ◌^◌, ◌<◌, ◌≤◌, is_some, refl, sym, ap, arith}
use Rattle.std.proofs.lemmas.Nat.{le-div}
use Rattle.std.proofs.lemmas.Bool.{true≢false}
use Rattle.digit_route.specs.Digits.{Scheme, IsScheme, count}
use Rattle.pool_machine.specs.State.{opening}
use Rattle.pool_machine.specs.Sound.{Sound}

-- a number has a digit
some_digit : (s : Scheme) → IsScheme s → 0 < count s
unfolding count
some_digit s i =
    let low : 0 < s.width = i.width_low in
    let some : 0 < s.bits = i.bits_low in
    le-div 1 (s.bits + s.width - 1) s.width low (omega arith)

pub opening_sound : (desks chunks : ℕ) (digits : Scheme) (limit : ℕ) → IsScheme digits → desks ≤ 2 ^ digits.bits →
    Sound (opening desks chunks digits limit) (λ s. 0)
opening_sound desks chunks digits limit i l = record {
  desks_fit = l;
  digits_fit = i;
  chunks_fit = λ k d e. absurd (true≢false (sym (ap is_some e)));
  placed = λ s. refl;
  fits = λ s. tt;
  waits = λ w m. elim m [ ];
  rising = tt;
  few = λ s. some_digit digits i;
}
