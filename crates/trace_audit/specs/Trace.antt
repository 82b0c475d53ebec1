-- What a trace is: a good header line, good request lines, and how it ends. A line ends with a line feed, which is 10.
use Rattle.std.specs.Prelude.{ℕ, ◌≡◌, ◌≢◌, ◌⊎◌, ◌+◌, ◌≤◌, List, [], ◌∷◌, ◌++◌, length}
use Rattle.std.specs.List.{flat_map, AllByRecursion}
use Rattle.pool_machine.specs.declared.request.Request.{Request}
use Rattle.trace_audit.specs.Grammar.{spelling, IsRequest, header_text, IsHeader}
use Rattle.trace_audit.specs.Limits.{request_limit}
use Rattle.trace_audit.specs.declared.grammar.header.Header.{Header}
use Rattle.trace_audit.specs.declared.replaying.ending.End.{End}
use Rattle.trace_audit.specs.declared.replaying.ending.End.TheVariants.{Whole, BadLine, NoRoom}

-- a good header line stands at the front
abbrev pub BeginsWithHeader : List ℕ → Type 0
BeginsWithHeader bytes = (h : Header) × (more : List ℕ) × IsHeader h × (bytes ≡ header_text h ++ 10 ∷ more)

-- a good request line stands at the front
abbrev pub BeginsWithRequest : List ℕ → Type 0
BeginsWithRequest bytes = (r : Request) × (more : List ℕ) × IsRequest r × (bytes ≡ spelling r ++ 10 ∷ more)

-- A trace: a good header line, good request lines, 1,000,000 lines at most, and a rest. Nothing is left; or no good
-- line stands at the front of what is left, or as many lines as there may be stand before it: then the next line is
-- bad.

abbrev pub EndsTrace : ℕ → List ℕ → End → Type 0
EndsTrace n rest Whole = rest ≡ []
EndsTrace n rest (BadLine k) = (rest ≢ []) × (k ≡ n + 2) × ((BeginsWithRequest rest → ⊥) ⊎ (n ≡ request_limit))
EndsTrace n rest NoRoom = ⊥

pub record IsTrace (bytes : List ℕ) (h : Header) (requests : List Request) (end : End) : Type 0 where
  pub header : IsHeader h
  pub rest : List ℕ
  pub lines : bytes ≡ header_text h ++ 10 ∷ (flat_map (λ r. spelling r ++ 10 ∷ []) requests ++ rest)
  pub good : AllByRecursion IsRequest requests
  pub few : length requests ≤ request_limit
  pub ends : EndsTrace (length requests) rest end
