use Rattle.std.proofs.Common.{◌≡◌, ◌≢◌, ℕ, zero, suc, ◌+◌, ◌-◌, ◌*◌, ◌<◌, ◌≤◌, ◌^◌, List, [], ◌∷◌, length, get_or, take, refl, sym, ap, subst, arith, decimal}
use Rattle.std.specs.Char.{digit_value}
use Rattle.std.specs.Int.{IsInRange}
use Rattle.std.specs.Str.Parse.{digits_value, AllDigits}
use Rattle.std.proofs.lemmas.Int.Digits.{digits_more, digits_value_more}
use Rattle.std.proofs.lemmas.List.{length-take}
use Rattle.std.proofs.lemmas.Str.{digit_value_digit}
use Rattle.std.proofs.lemmas.Str.Parse.{IsNumeralModel, numerals_by_value, tells_digits, not_in_digits, digits_value_short}
use Rattle.std.proofs.lemmas.Fmt.{decimal-digits_value, digits_decimal, digits_value-decimal, decimal_digit, first_decimal, decimal_nonempty, length-decimal-le}
use Rattle.trace_audit.specs.Grammar.{IsWord}
use Rattle.trace_audit.specs.Words.{Lacks}

own : IsNumeralModel (AllDigits 10) (digits_value 10)
own = numerals_by_value _ tells_digits

pub no_zero : (bs : List ℕ) → get_or bs 0 0 ≡ 48 → (length bs ≡ 1 → ⊥) → (n : ℕ) → IsWord n → bs ≡ decimal n → ⊥
no_zero bs first more zero small is = more (rw (is, decimal_digit 0 (omega arith)) refl)
no_zero bs first more (suc m) small is =
    let above : 48 < get_or (decimal (suc m)) 0 0 = first_decimal (suc m) (omega arith) (omega arith) in
    let same : get_or (decimal (suc m)) 0 0 ≡ 48 = subst (λ (w : List ℕ). get_or w 0 0 ≡ 48) is first in
    omega arith

pub no_nothing : (bs : List ℕ) → length bs ≡ 0 → (n : ℕ) → IsWord n → bs ≡ decimal n → ⊥
no_nothing bs none n small is = let some : 0 < length (decimal n) = decimal_nonempty n (omega arith) in omega (arith, ap length is)

pub decimal_zero : (bs : List ℕ) → get_or bs 0 0 ≡ 48 → length bs ≡ 1 → bs ≡ decimal 0
decimal_zero [] z l = absurd (omega arith)
decimal_zero (x ∷ []) z l = rw (z, decimal_digit 0 (omega arith)) refl
decimal_zero (x ∷ y ∷ bs) z l = absurd (omega arith)

-- a number's text has neither mark
pub decimal_lacks : (mark n : ℕ) → mark < 48 → IsWord n → Lacks mark (decimal n)
decimal_lacks mark n low small k h = not_in_digits own (decimal n) mark (digits_decimal own n (omega arith)) (λ r. omega (arith, r.0, r.1)) k h

-- The digits that were read so far.

abbrev pub IsRead : List ℕ → ℕ → Type 0
IsRead bs v = AllDigits 10 bs × (v ≡ digits_value 10 bs)

pub read_more : (bs : List ℕ) (i v : ℕ) → i < length bs → IsRead (take i bs) v → IsInRange 48 57 (get_or bs i 0) → IsRead (take (i + 1) bs) (v * 10 + (get_or bs i 0 - 48))
read_more bs i v l h k =
    let d : digit_value (get_or bs i 0) + 48 ≡ get_or bs i 0 = digit_value_digit (get_or bs i 0) k in
    (digits_more 10 bs i l h.0 (omega (arith, d, k.1)), omega (arith, digits_value_more 10 bs i l, d, h.1))

pub read_few : (bs : List ℕ) (i v : ℕ) → i < length bs → length bs ≤ 10 → IsRead (take i bs) v → v < 1000000000
read_few bs i v l few h = omega (arith, digits_value_short own (take i bs) 9 h.0 (omega (arith, length-take i bs)), h.1)

pub read_found : (bs : List ℕ) (v : ℕ) → IsRead bs v → 0 < length bs → get_or bs 0 0 ≢ 48 → v < 2 ^ 32 → IsWord v × (bs ≡ decimal v)
read_found bs v h some first small = (small, sym (rw h.1 (decimal-digits_value own bs h.0 some (λ e. absurd (first e)) (omega (arith, h.1)))))

pub read_wide : (bs : List ℕ) (v : ℕ) → IsRead bs v → 2 ^ 32 ≤ v → (n : ℕ) → IsWord n → bs ≡ decimal n → ⊥
read_wide bs v h wide n small is = omega (arith, digits_value-decimal own n (omega arith), h.1, ap (digits_value 10) is)

pub no_other : (bs : List ℕ) (i : ℕ) → i < length bs → ¬ (IsInRange 48 57 (get_or bs i 0)) → (n : ℕ) → IsWord n → bs ≡ decimal n → ⊥
no_other bs i l other n small is =
    not_in_digits own (decimal n) (get_or bs i 0) (digits_decimal own n (omega arith)) other i (subst (λ (w : List ℕ). i < length w) is l) (ap (λ (w : List ℕ). get_or w i 0) (sym is))

pub no_long : (bs : List ℕ) → 10 < length bs → (n : ℕ) → IsWord n → bs ≡ decimal n → ⊥
no_long bs long n small is = omega (arith, length-decimal-le 10 n (omega arith) (omega arith) (omega arith), ap length is)
