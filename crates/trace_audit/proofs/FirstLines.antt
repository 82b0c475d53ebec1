-- The line that stands first, a request's or a header's.
use Rattle.std.proofs.Common.{◌≡◌, ◌⊎◌, inl, inr, ℕ, ◌+◌, ◌≤◌, ◌<◌, List, [], ◌∷◌, ◌++◌, length, take, drop, get_or, sym, ◌∙◌, ap, subst, arith, append_assoc, append-nil, length-append}
use Rattle.std.proofs.Math.Seq.{get_or-append_seam}
use Rattle.std.proofs.Math.ListN.{get_or-append}
use Rattle.trace_audit.specs.Words.{Lacks}
use Rattle.trace_audit.specs.Steps.{IsBadFront}
use Rattle.trace_audit.proofs.Cuts.{cut_once, marked}

-- ---- a good one

-- the first line was taken out of what is held
pub taken_line : (bytes held rest : List ℕ) (n : ℕ) → bytes ≡ held → held ≡ take n held ++ 10 ∷ drop (n + 1) held → rest ≡ drop (n + 1) held
    → bytes ≡ take n held ++ 10 ∷ rest
taken_line bytes held rest n e first same = e ∙ first ∙ ap (λ w. take n held ++ 10 ∷ w) (sym same)

-- the line is this text, with its line feed
pub line_taken : (bytes text line held whole : List ℕ) → bytes ≡ text ++ 10 ∷ held → line ≡ text → line ≡ whole → bytes ≡ (whole ++ 10 ∷ []) ++ held
line_taken bytes text line held whole e same is = e ∙ ap (λ w. w ++ 10 ∷ held) (sym same ∙ is) ∙ sym (append_assoc whole (10 ∷ []) held)

pub not_empty : (bytes : List ℕ) → 0 < length bytes → bytes ≡ [] → ⊥
not_empty bytes h e = omega (arith, ap length e)

pub longer : (text held : List ℕ) → 0 < length (text ++ 10 ∷ held)
longer text held = omega (arith, length-append text (10 ∷ held))

-- ---- none

-- the texts of good lines, none of which has a line feed or more than 64 bytes
module _ {X : Type 0} (Is : X → Type 0) (text_of : X → List ℕ)
    (lacks_feed : (x : X) → Is x → Lacks 10 (text_of x)) (short : (x : X) → Is x → length (text_of x) ≤ 64) where
  abbrev BeginsGood : List ℕ → Type 0
  BeginsGood bytes = (x : X) × (more : List ℕ) × Is x × (bytes ≡ text_of x ++ 10 ∷ more)

  -- a whole line that is none of these
  pub bad_text : (bytes text held : List ℕ) (at_end : Type 0) → bytes ≡ text ++ 10 ∷ held → Lacks 10 text → ((x : X) → Is x → text ≡ text_of x → ⊥)
      → IsBadFront BeginsGood bytes at_end
  bad_text bytes text held at_end e lacks none = inl (λ more (x, rest, fits, is).
      let joined : text ++ 10 ∷ (held ++ more) ≡ text_of x ++ 10 ∷ rest = sym (append_assoc text (10 ∷ held) more) ∙ ap (λ w. w ++ more) (sym e) ∙ is in
      none x fits (cut_once 10 text (held ++ more) (text_of x) rest lacks (lacks_feed x fits) joined).0)

  -- 65 bytes and no line feed
  bad_long : (bytes : List ℕ) (at_end : Type 0) → Lacks 10 bytes → 65 ≤ length bytes → IsBadFront BeginsGood bytes at_end
  bad_long bytes at_end lacks long = inl (λ more (x, rest, fits, is).
      let low : length (text_of x) ≤ 64 = short x fits in
      let here : get_or (text_of x ++ 10 ∷ rest) (length (text_of x)) 0 ≡ 10 = get_or-append_seam (text_of x) 10 rest 0 in
      let there : get_or (bytes ++ more) (length (text_of x)) 0 ≡ get_or bytes (length (text_of x)) 0 = get_or-append bytes more 0 (length (text_of x)) (omega arith) in
      lacks (length (text_of x)) (omega arith) (sym there ∙ ap (λ w. get_or w (length (text_of x)) 0) is ∙ here))

  -- the input ends within a line
  bad_end : (bytes : List ℕ) (at_end : Type 0) → Lacks 10 bytes → at_end → IsBadFront BeginsGood bytes at_end
  bad_end bytes at_end lacks ends = inr (ends, λ (x, rest, fits, is). marked 10 (text_of x) rest (subst (λ (w : List ℕ). Lacks 10 w) is lacks))

  -- what is held is no line
  pub bad_front : (bytes held : List ℕ) (at_end : Type 0) → bytes ≡ held → Lacks 10 held → (65 ≤ length held) ⊎ ((0 < length held) × at_end)
      → IsBadFront BeginsGood bytes at_end
  bad_front bytes held at_end e lacks (inl long) = rw e (bad_long held at_end lacks long)
  bad_front bytes held at_end e lacks (inr h) = rw e (bad_end held at_end lacks h.1)

  -- there is nothing
  pub bad_over : (bytes : List ℕ) (at_end : Type 0) → bytes ≡ [] → at_end → IsBadFront BeginsGood bytes at_end
  bad_over bytes at_end e ends = bad_end bytes at_end (rw e (λ i h. absurd (omega arith))) ends

-- what is not empty is not
pub some_held : (bytes held : List ℕ) (at_end : Type 0) → bytes ≡ held → (65 ≤ length held) ⊎ ((0 < length held) × at_end) → bytes ≡ [] → ⊥
some_held bytes held at_end e (inl long) = λ n. not_empty bytes (rw e (omega arith)) n
some_held bytes held at_end e (inr h) = λ n. not_empty bytes (rw e h.0) n

-- no good line begins all the bytes either
pub bad_whole : (Good : List ℕ → Type 0) (bytes more : List ℕ) (at_end : Type 0) → (at_end → more ≡ []) → IsBadFront Good bytes at_end → Good (bytes ++ more) → ⊥
bad_whole Good bytes more at_end none (inl f) b = f more b
bad_whole Good bytes more at_end none (inr (ends, f)) b = f (subst Good (ap (λ w. bytes ++ w) (none ends) ∙ append-nil bytes) b)
