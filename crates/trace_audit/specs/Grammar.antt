-- Which bytes spell a header and which a request, both without their line feed.
use Rattle.std.specs.Prelude.{ℕ, ◌<◌, ◌≤◌, ◌^◌, List, ◌∷◌, ◌++◌, codes, decimal}
use Rattle.region_cut.specs.Limits.{chunk_limit}
use Rattle.digit_route.specs.Limits.{width_limit}
use Rattle.region_cut.specs.Classes.{bits_of}
use Rattle.region_cut.specs.declared.profile.Profile.{Profile}
use Rattle.region_cut.specs.declared.profile.Profile.TheVariants.{Pool, Pool2}
use Rattle.pool_machine.specs.declared.request.Request.{Request}
use Rattle.pool_machine.specs.declared.request.Request.TheVariants.{Adopt, Retire, Claim, Alloc, Free, Send, Link, Take}
use Rattle.trace_audit.specs.declared.grammar.header.Header.{Header}

-- a number of a trace
abbrev pub IsWord : ℕ → Type 0
IsWord n = n < 2 ^ 32

-- two numbers with a mark between them: 32 is a space, 46 a dot
abbrev pub pair : ℕ → ℕ → ℕ → List ℕ
pair mark a b = decimal a ++ mark ∷ decimal b

-- the one line of a request
abbrev pub spelling : Request → List ℕ
spelling (Adopt desk worker) = codes "adopt " ++ pair 32 desk worker
spelling (Retire desk) = codes "retire " ++ decimal desk
spelling (Claim desk class) = codes "claim " ++ pair 32 desk class
spelling (Alloc desk size) = codes "alloc " ++ pair 32 desk size
spelling (Free desk slot) = codes "free " ++ decimal desk ++ 32 ∷ pair 46 slot.0 slot.1
spelling (Send desk to) = codes "send " ++ pair 32 desk to
spelling (Link batch) = codes "link " ++ decimal batch
spelling (Take desk) = codes "take " ++ decimal desk

-- each number of the request is a number of a trace
abbrev pub IsRequest : Request → Type 0
IsRequest (Adopt desk worker) = IsWord desk × IsWord worker
IsRequest (Retire desk) = IsWord desk
IsRequest (Claim desk class) = IsWord desk × IsWord class
IsRequest (Alloc desk size) = IsWord desk × IsWord size
IsRequest (Free desk slot) = IsWord desk × IsWord slot.0 × IsWord slot.1
IsRequest (Send desk to) = IsWord desk × IsWord to
IsRequest (Link batch) = IsWord batch
IsRequest (Take desk) = IsWord desk

-- the first word of a header's line
abbrev pub profile_text : Profile → List ℕ
profile_text Pool = codes "pool"
profile_text Pool2 = codes "pool2"

-- the one line of a header
abbrev pub header_text : Header → List ℕ
header_text h = profile_text h.profile ++ 32 ∷ decimal h.desks ++ 32 ∷ pair 32 h.chunks h.width

-- each number of the header is in its range; each desk needs a number of the profile's bits
pub record IsHeader (h : Header) : Type 0 where
  pub some_desk : 1 ≤ h.desks
  pub few_desks : h.desks ≤ 2 ^ bits_of h.profile
  pub few_chunks : h.chunks ≤ chunk_limit
  pub some_width : 1 ≤ h.width
  pub small_width : h.width ≤ width_limit
