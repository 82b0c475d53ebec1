use Rattle.std.proofs.Common.{◌≡◌, ◌++◌, string_bytes}
use Rattle.poolctl.specs.Routes.{digit_words}
use Rattle.poolctl.proofs.route.push_digits.Given as goal

abbrev pub invariant-loop-place : goal.invariant-loop-place
invariant-loop-place l = string_bytes l.text ≡ string_bytes l.initial.text ++ digit_words l.digits l.number l.place
