-- What the laws of this crate say.
use Rattle.std.specs.Prelude.{ℕ, ◌≡◌, ◌∷◌, ◌++◌, List}
use Rattle.pool_machine.specs.declared.request.Request.{Request}
use Rattle.trace_audit.specs.declared.grammar.header.Header.{Header}
use Rattle.trace_audit.specs.declared.replaying.ending.End.{End}
use Rattle.trace_audit.specs.Grammar.{IsHeader, header_text}
use Rattle.trace_audit.specs.Trace.{IsTrace}

-- two readings of the same bytes agree
abbrev pub ReadInOneWay : Type 0
ReadInOneWay = (bytes : List ℕ) (h k : Header) (rs qs : List Request) (d e : End)
    → IsTrace bytes h rs d → IsTrace bytes k qs e → (h ≡ k) × (rs ≡ qs) × (d ≡ e)

-- behind a good header line, whatever follows is a trace
abbrev pub TextsAreTraces : Type 0
TextsAreTraces = (h : Header) (more : List ℕ) → IsHeader h → (requests : List Request) × (end : End)
    × IsTrace (header_text h ++ 10 ∷ more) h requests end
