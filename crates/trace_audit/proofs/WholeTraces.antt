-- From what was read to all bytes, whatever stands behind it.
use Rattle.std.proofs.Common.{◌≡◌, inl, inr, ℕ, ◌≤◌, List, [], ◌∷◌, ◌++◌, Option, refl, sym, ◌∙◌, ap₂, subst, append_assoc, codes}
use Rattle.std.specs.Io.KnownBytes.{Consumes, IsAtEnd}
use Rattle.std.proofs.KnownBytes.{Consumes-trans}
use Rattle.trace_audit.specs.Grammar.{header_text, IsHeader}
use Rattle.trace_audit.specs.Words.{header_line}
use Rattle.trace_audit.specs.Machine.{closing}
use Rattle.pool_machine.specs.State.{State}
use Rattle.trace_audit.specs.Trace.{EndsTrace, BeginsWithRequest, BeginsWithHeader}
use Rattle.trace_audit.specs.Report.{bad_line}
use Rattle.trace_audit.specs.Replay.{Answered, HoldsOfAll, ReportsTrace}
use Rattle.trace_audit.specs.Steps.{EndsSo, IsBadFront}
use Rattle.trace_audit.specs.declared.grammar.header.Header.{Header}
use Rattle.trace_audit.specs.declared.replaying.ending.End.{End}
use Rattle.trace_audit.specs.declared.replaying.ending.End.TheVariants.{Whole, BadLine, NoRoom}
use Rattle.trace_audit.proofs.FirstLines.{bad_whole}

some_more : (xs ys : List ℕ) → (xs ≡ [] → ⊥) → xs ++ ys ≡ [] → ⊥
some_more [] ys h e = h refl
some_more (x ∷ xs) ys h e = cc

-- how a trace ends, from how what was read ends
pub trace_ends : (n : ℕ) (rest more : List ℕ) (at_end : Type 0) (end : End) → (at_end → more ≡ []) → EndsSo n rest at_end end → EndsTrace n (rest ++ more) end
trace_ends n rest more at_end Whole none (low, over, ends) = ap₂ (λ (x y : List ℕ). x ++ y) over (none ends)
trace_ends n rest more at_end (BadLine k) none (low, some, number, inl bad) = (some_more rest more some, number, inl (bad_whole BeginsWithRequest rest more at_end none bad))
trace_ends n rest more at_end (BadLine k) none (low, some, number, inr full) = (some_more rest more some, number, inr full)
trace_ends n rest more at_end NoRoom none h = h

pub few_lines : (n : ℕ) (rest : List ℕ) (at_end : Type 0) (end : End) → EndsSo n rest at_end end → n ≤ 999999
few_lines n rest at_end Whole h = h.0
few_lines n rest at_end (BadLine k) h = h.0
few_lines n rest at_end NoRoom h = absurd h

-- what stands behind the answers, of the state that they lead to
abbrev pub tail_of : State → End → List ℕ
tail_of st Whole = closing st
tail_of st (BadLine k) = bad_line k ++ closing st
tail_of st NoRoom = []

-- P holds of the lines of the answers and of those behind them
abbrev pub ReportsLines : List ℕ → (List ℕ → Type 0) → End → Type 0
ReportsLines bytes P end = Answered bytes end (λ requests lines now. P (lines ++ tail_of now end))

-- the report of lines that end so is the report of the bytes
pub as_report : (bytes : List ℕ) (P : List ℕ → Type 0) (n : ℕ) (rest : List ℕ) (end : End) → EndsTrace n rest end → ReportsLines bytes P end → ReportsTrace bytes P end
as_report bytes P n rest Whole e r = r
as_report bytes P n rest (BadLine k) e r = inl r
as_report bytes P n rest NoRoom e r = absurd e

-- no good header line stands first
pub bad_header : (left0 left : Option (List ℕ)) (given : List ℕ) → Consumes left0 left given → IsBadFront BeginsWithHeader given (IsAtEnd left) → (P : List ℕ → Type 0) → P (bad_line 1)
    → HoldsOfAll left0 left (λ bytes. ReportsTrace bytes P (BadLine 1))
bad_header left0 left given read bad P p = (given, read, λ more none. inr (refl, (λ b. bad_whole BeginsWithHeader given more (IsAtEnd left) none bad b), p))

-- a good one does, and there is no room for the pool
pub no_room : (first left : Option (List ℕ)) (h : Header) (held : List ℕ) → IsHeader h → Consumes first left (header_line h ++ held) → (P : List ℕ → Type 0) → P (codes "R15 NoMemory" ++ 10 ∷ [])
    → HoldsOfAll first left (λ bytes. ReportsTrace bytes P NoRoom)
no_room first left h held fits read P p = (
  header_line h ++ held,
  read,
  λ more none. ((h, held ++ more, fits, append_assoc (header_line h) held more ∙ append_assoc (header_text h) (10 ∷ []) (held ++ more)), p),
)

-- what was read first stands before what was read then
pub behind : (first left0 left : Option (List ℕ)) (before given : List ℕ) (Q : List ℕ → Type 0) → Consumes first left0 before → Consumes left0 left given
    → ((more : List ℕ) → (IsAtEnd left → more ≡ []) → Q (before ++ (given ++ more))) → HoldsOfAll first left Q
behind first left0 left before given Q read more_read q = (
  before ++ given,
  Consumes-trans first left0 left before given read more_read,
  λ more none. subst Q (sym (append_assoc before given more)) (q more none),
)
