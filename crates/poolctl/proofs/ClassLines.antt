-- The lines of the classes.
use Rattle.std.proofs.Common.{◌≡◌, ◌≤◌, ◌<◌, ℕ, zero, suc, ◌+◌, ◌-◌, ◌++◌, List, [], Option, sym, ◌∙◌, ap, subst, refl, add-one, append_assoc, append-nil, arith}
use Rattle.std.specs.Io.KnownBytes.{Appends}
use Rattle.std.proofs.KnownBytes.{Appends-trans}
use Rattle.trace_audit.specs.Wire.{Begins}
use Rattle.poolctl.proofs.Begun.{begins_behind, begins_longer, begins_whole}
use Rattle.poolctl.specs.Classes.{class_line, class_lines}

-- one line more was written
pub lines_more : (old mid new : Option (List ℕ)) (n k : ℕ) (text : List ℕ) → k ≡ n → text ≡ class_line k → Appends old mid (class_lines n) → Appends mid new text → Appends old new (class_lines (n + 1))
lines_more old mid new n k text same is before after =
    subst (λ (w : List ℕ). Appends old new w) (ap (λ w. class_lines n ++ w) (is ∙ ap class_line same) ∙ sym (ap class_lines (add-one n))) (Appends-trans old mid new (class_lines n) text before after)

-- those of more classes go on
lines_go_on : (n k m : ℕ) → m ≡ k + n → (more : List ℕ) × (class_lines m ≡ class_lines n ++ more)
lines_go_on n zero m is = let e : m ≡ n = omega (arith, is) in ([], ap class_lines e ∙ sym (append-nil (class_lines n)))
lines_go_on n (suc k) m is =
    let r = lines_go_on n k (k + n) refl in
    let e : m ≡ suc (k + n) = omega (arith, is) in
    (r.0 ++ class_line (k + n), ap class_lines e ∙ ap (λ w. w ++ class_line (k + n)) r.1 ∙ append_assoc (class_lines n) r.0 (class_line (k + n)))

lines_longer : (old new : Option (List ℕ)) (n m : ℕ) → n ≤ m → Begins old new (class_lines n) → Begins old new (class_lines m)
lines_longer old new n m within h =
    let is : m ≡ (m - n) + n = omega (arith, within) in
    let r = lines_go_on n (m - n) m is in
    subst (λ (w : List ℕ). Begins old new w) (sym r.1) (begins_longer old new (class_lines n) r.0 h)

-- those of the first classes are a beginning
pub lines_begun : (old new : Option (List ℕ)) (n m : ℕ) → n ≤ m → Appends old new (class_lines n) → Begins old new (class_lines m)
lines_begun old new n m within h = lines_longer old new n m within (begins_whole old new (class_lines n) h)

-- and with a beginning of the next line behind them
pub line_begun : (old mid new : Option (List ℕ)) (n k m : ℕ) (text : List ℕ) → k ≡ n → n < m → text ≡ class_line k → Appends old mid (class_lines n) → Begins mid new text → Begins old new (class_lines m)
line_begun old mid new n k m text same within is before after =
    let next : suc n ≤ m = omega (arith, within) in
    lines_longer old new (suc n) m next (begins_behind old mid new (class_lines n) (class_line n) before (subst (λ (w : List ℕ). Begins mid new w) (is ∙ ap class_line same) after))
