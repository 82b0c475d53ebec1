-- What is lost of what was lent, counted modulo some number.
use Rattle.std.proofs.Common.{◌≡◌, ℕ, suc, ◌+◌, ◌-◌, ◌*◌, ◌/◌, ◌%◌, ◌<◌, ◌≤◌, ap, ap₂, ◌∙◌, suc-mul, List, length, arith}
use Rattle.slot_chain.specs.Buffer.{Buffer}
use Rattle.pool_fabric.specs.Whole.{FreesNoMore}
use Rattle.slot_balance.proofs.Sums.{weigh-ones}
use Rattle.std.proofs.Math.Nat.{mod-add-mod, mod-add-div', mod-lt, add-mul-mod_self_right}

shape : (w a f r q m : ℕ) → r + q ≡ f → m ≡ q + w → r < w → f ≤ a → a + (w - r) ≡ (a - f) + m
shape w a f r q m split more below le = omega arith

lost_mod : (w a f : ℕ) → 0 < w → f ≤ a → (a % w + (w - f % w)) % w ≡ (a - f) % w
lost_mod w a f pos le =
    mod-add-mod a w (w - f % w)
    ∙ ap (λ n. n % w) (shape w a f (f % w) (f / w * w) (suc (f / w) * w) (mod-add-div' f w) (suc-mul (f / w) w) (mod-lt f pos) le)
    ∙ add-mul-mod_self_right (a - f) (suc (f / w)) w

-- the same of counts that are taken modulo that number
pub lost_counted : (w x y a f : ℕ) → 0 < w → f ≤ a → x ≡ a % w → y ≡ f % w → (x + (w - y)) % w ≡ (a - f) % w
lost_counted w x y a f pos le lent freed = ap₂ (λ p q. (p + (w - q)) % w) lent freed ∙ lost_mod w a f pos le

pub no_longer : (lent freed : List Buffer) → FreesNoMore lent freed → length freed ≤ length lent
no_longer lent freed bounded = let b = bounded (λ _. 1) in let l = weigh-ones lent in let f = weigh-ones freed in omega arith
