-- The header line.
use Rattle.std.proofs.Common.{◌≡◌, inl, ℕ, List, [], ◌∷◌, ◌++◌, None, Bool, true, false, refl, sym, ◌∙◌, ap, arith, codes}
use Rattle.std.proofs.lemmas.Fmt.{decimal_digit}
use Rattle.trace_audit.specs.Report.{bad_line}
use Rattle.trace_audit.specs.Steps.{IsAsked}
use Rattle.trace_audit.specs.declared.replaying.ending.End.TheVariants.{BadLine, NoRoom}

-- nothing was held
pub first_is : (held0 given x : List ℕ) → held0 ≡ [] → held0 ++ given ≡ x → given ≡ x
first_is held0 given x e k = sym (ap (λ w. w ++ given) e) ∙ k

pub bad_line_one : codes "R17 BadLine 1" ++ 10 ∷ [] ≡ bad_line 1
bad_line_one = rw (decimal_digit 1 (omega arith)) refl

-- behind one line alone there is no audit
pub none_asked : (audits : Bool) → IsAsked audits (BadLine 1) None
none_asked true = inl (refl, refl)
none_asked false = refl

pub none_for_no_room : (audits : Bool) → IsAsked audits NoRoom None
none_for_no_room true = refl
none_for_no_room false = refl
