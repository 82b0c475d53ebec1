-- Beginnings of a text.
use Rattle.std.proofs.Common.{◌≡◌, ℕ, List, [], ◌++◌, Option, Bool, Result, Ok, Err, sym, ◌∙◌, ap, subst, append_assoc, append-nil}
use Rattle.std.specs.Io.KnownBytes.{Appends}
use Rattle.std.proofs.KnownBytes.{Appends-trans}
use Rattle.trace_audit.specs.Wire.{Begins, Writes}

-- the whole text is one
pub begins_whole : (old new : Option (List ℕ)) (text : List ℕ) → Appends old new text → Begins old new text
begins_whole old new text wrote = (text, [], sym (append-nil text), wrote)

-- and one of a longer text
pub begins_longer : (old new : Option (List ℕ)) (text more : List ℕ) → Begins old new text → Begins old new (text ++ more)
begins_longer old new text more (front, back, is, wrote) =
    (front, back ++ more, ap (λ w. w ++ more) is ∙ append_assoc front back more, wrote)

-- a text, and a beginning of what stands behind it
pub begins_behind : (old mid new : Option (List ℕ)) (text more : List ℕ) → Appends old mid text → Begins mid new more → Begins old new (text ++ more)
begins_behind old mid new text more before (front, back, is, wrote) =
    (text ++ front, back, ap (λ w. text ++ w) is ∙ sym (append_assoc text front back), Appends-trans old mid new text front before wrote)

-- a beginning, where more was to be written behind the text
pub begun_before : (old new : Option (List ℕ)) (text whole more : List ℕ) → text ≡ whole → Begins old new text → Begins old new (whole ++ more)
begun_before old new text whole more is h = begins_longer old new whole more (subst (λ (w : List ℕ). Begins old new w) is h)

-- a text was written, and what is behind it comes to this
pub writes_behind : {E : Type 0} (old mid new : Option (List ℕ)) (failed : Bool) (text whole more : List ℕ) (r : Result (Unit {0}) E) → text ≡ whole → Appends old mid text
    → Writes mid new failed more r → Writes old new failed (whole ++ more) r
writes_behind old mid new failed text whole more (Ok u) is before after =
    (subst (λ (w : List ℕ). Appends old new (w ++ more)) is (Appends-trans old mid new text more before after.0), after.1)
writes_behind old mid new failed text whole more (Err e) is before after =
    (subst (λ (w : List ℕ). Begins old new (w ++ more)) is (begins_behind old mid new text more before after.0), after.1)
