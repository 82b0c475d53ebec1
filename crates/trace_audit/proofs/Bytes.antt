-- What writes and reads do to known bytes.
use Rattle.std.proofs.Common.{◌≡◌, ◌⊎◌, inl, inr, ℕ, ◌+◌, ◌<◌, ◌≤◌, List, [], ◌++◌, length, ◌∙◌, ap, append_assoc, take, drop, Option, sym, subst, arith, length-drop, append-nil, Bool, true, false}
use Rattle.std.proofs.lemmas.List.{take-append-drop}
use Rattle.std.proofs.Math.Seq.{take-add}
use Rattle.std.specs.Io.KnownBytes.{Appends, Keeps, Consumes, IsAtEnd}
use Rattle.std.proofs.KnownBytes.{Appends-nil, Appends-trans, Appends-kept, Consumes-nil, Consumes-trans, Consumes-kept}
use Rattle.std.proofs.Common.{◌||◌, ◌&&◌, ◌==◌, not, ◌-◌}
use Rattle.std.proofs.lemmas.Bool.Decides.{nat_tests}
use Rattle.std.proofs.lemmas.List.{take_rest}
use Rattle.trace_audit.specs.Words.{Lacks}
use Rattle.trace_audit.specs.Replay.{IsPartial}
use Rattle.trace_audit.specs.Steps.{Took}
use Rattle.trace_audit.specs.Wire.{Begins}
use Rattle.trace_audit.specs.declared.lines.Next.{Next}
use Rattle.trace_audit.specs.declared.lines.Next.TheVariants.{Over, Bad}

pub appends_kept : (a b : Option (List ℕ)) → Keeps a b → Appends a b []
appends_kept a b h = Appends-kept a a b [] (Appends-nil a) h

pub consumes_kept : (a b : Option (List ℕ)) → Keeps a b → Consumes a b []
consumes_kept a b h = Consumes-kept a a b [] (Consumes-nil a) h

-- a writer that gave up behind the first `at` bytes
pub put_stops : (old mid new : Option (List ℕ)) (text : List ℕ) (at : ℕ) (up : Bool) → Appends old mid (take at text) → Appends mid new [] → up ≡ true → Begins old new text × (up ≡ true)
put_stops old mid new text at up h k e = ((take at text, drop at text, sym (take-append-drop at text), subst (λ (w : List ℕ). Appends old new w) (append-nil (take at text)) (Appends-trans old mid new (take at text) [] h k)), e)

pub put_goes_on : (old mid new : Option (List ℕ)) (text : List ℕ) (at n : ℕ) → Appends old mid (take at text) → Appends mid new (take n (drop at text)) → Appends old new (take (at + n) text)
put_goes_on old mid new text at n h k = rw (take-add at n text) (Appends-trans old mid new (take at text) (take n (drop at text)) h k)

pub flag_stays : (old new : Bool) (n len : ℕ) → new ≡ (old || ((n == 0) && not (len == 0))) → old ≡ false → (n ≡ 0 → ⊥) → new ≡ false
flag_stays old new n len e down more = grind (arith, nat_tests)

pub flag_rises : (old new : Bool) (n len : ℕ) → new ≡ (old || ((n == 0) && not (len == 0))) → n ≡ 0 → 0 < len → new ≡ true
flag_rises old new n len e none some = grind (arith, nat_tests)

pub length_rest : (text : List ℕ) (at : ℕ) → at < length text → 0 < length (take (length text - at) (drop at text))
length_rest text at h = rw (take_rest text at) (omega (arith, length-drop at text))

pub put_goes_on' : (old mid new : Option (List ℕ)) (text : List ℕ) (at n : ℕ) → Appends old mid (take at text) → Appends mid new (take n (take (length text - at) (drop at text))) → Appends old new (take (at + n) text)
put_goes_on' old mid new text at n h k = put_goes_on old mid new text at n h (subst (λ (w : List ℕ). Appends mid new (take n w)) (take_rest text at) k)

-- more was read behind what is held
pub read_more : (left0 left left' : Option (List ℕ)) (held0 held mid held' given more : List ℕ) → Consumes left0 left given → held ≡ held0 ++ given → mid ≡ held
    → Consumes left left' more → held' ≡ mid ++ more → (all : List ℕ) × Consumes left0 left' all × (held' ≡ held0 ++ all)
read_more left0 left left' held0 held mid held' given more h e same k f =
    (given ++ more, Consumes-trans left0 left left' given more h k, f ∙ (ap (λ (w : List ℕ). w ++ more) (same ∙ e) ∙ append_assoc held0 given more))

-- a read failed behind what is held
pub read_fails : (left0 left left' : Option (List ℕ)) (held0 held mid held' given : List ℕ) → Consumes left0 left given → held ≡ held0 ++ given → mid ≡ held → Lacks 10 held → length mid ≤ 64
    → Keeps left left' → held' ≡ mid → (all : List ℕ) × Consumes left0 left' all × (held' ≡ held0 ++ all) × IsPartial held'
read_fails left0 left left' held0 held mid held' given h e same lacks few k f = (
  given,
  Consumes-kept left0 left left' given h k,
  f ∙ (same ∙ e),
  (subst (λ (w : List ℕ). Lacks 10 w) (sym (f ∙ same)) lacks, subst (λ (w : List ℕ). length w ≤ 64) (sym f) few),
)

-- nothing is left to read
pub read_over : (left0 left left' : Option (List ℕ)) (held0 held mid held' given : List ℕ) (next : Next) → Consumes left0 left given → held ≡ held0 ++ given → mid ≡ held → Lacks 10 held
    → Consumes left left' [] → IsAtEnd left' → held' ≡ mid → ((next ≡ Over) × (held' ≡ [])) ⊎ ((next ≡ Bad) × (0 < length held'))
    → (all : List ℕ) × Consumes left0 left' all × Took (held0 ++ all) held' (IsAtEnd left') next
read_over left0 left left' held0 held mid held' given next h e same lacks k ends f (inl (is, none)) = (
  given,
  subst (λ (w : List ℕ). Consumes left0 left' w) (append-nil given) (Consumes-trans left0 left left' given [] h k),
  subst (λ (n : Next). Took (held0 ++ given) held' (IsAtEnd left') n) (sym is) (sym e ∙ (sym same ∙ (sym f ∙ none)), none, ends),
)
read_over left0 left left' held0 held mid held' given next h e same lacks k ends f (inr (is, some)) = (
  given,
  subst (λ (w : List ℕ). Consumes left0 left' w) (append-nil given) (Consumes-trans left0 left left' given [] h k),
  subst (λ (n : Next). Took (held0 ++ given) held' (IsAtEnd left') n) (sym is)
      (sym e ∙ (sym same ∙ sym f), subst (λ (w : List ℕ). Lacks 10 w) (sym (f ∙ same)) lacks, inr (some, ends)),
)
