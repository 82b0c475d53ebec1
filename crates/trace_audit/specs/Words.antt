-- The lines of a trace as they are read, word by word. Only contracts of private functions speak of these.
use Rattle.std.specs.Prelude.{ℕ, ◌≢◌, ◌<◌, List, [], ◌∷◌, ◌++◌, length, slice_index, codes, decimal}
use Rattle.pool_machine.specs.declared.request.Request.{Request}
use Rattle.pool_machine.specs.declared.request.Request.TheVariants.{Adopt, Retire, Claim, Alloc, Free, Send, Link, Take}
use Rattle.trace_audit.specs.Grammar.{IsWord, pair, spelling, header_text}
use Rattle.trace_audit.specs.declared.grammar.request.Verb.{Verb}
use Rattle.trace_audit.specs.declared.grammar.request.Verb.TheVariants.{Adopts, Retires, Claims, Allocs, Frees}
use Rattle.trace_audit.specs.declared.grammar.request.Verb.TheVariants.{Sends, Links, Takes}
use Rattle.trace_audit.specs.declared.grammar.header.Header.{Header}

-- no byte of the text is the mark
abbrev pub Lacks : ℕ → List ℕ → Type 0
Lacks mark text = (k : ℕ) → k < length text → slice_index text k ≢ mark

-- the first word of a request's line
abbrev pub verb_text : Verb → List ℕ
verb_text Adopts = codes "adopt"
verb_text Retires = codes "retire"
verb_text Claims = codes "claim"
verb_text Allocs = codes "alloc"
verb_text Frees = codes "free"
verb_text Sends = codes "send"
verb_text Links = codes "link"
verb_text Takes = codes "take"

abbrev pub verb_of : Request → Verb
verb_of (Adopt desk worker) = Adopts
verb_of (Retire desk) = Retires
verb_of (Claim desk class) = Claims
verb_of (Alloc desk size) = Allocs
verb_of (Free desk slot) = Frees
verb_of (Send desk to) = Sends
verb_of (Link batch) = Links
verb_of (Take desk) = Takes

-- the words behind the first: 32 is a space, 46 a dot
abbrev pub words_of : Request → List ℕ
words_of (Adopt desk worker) = pair 32 desk worker
words_of (Retire desk) = decimal desk
words_of (Claim desk class) = pair 32 desk class
words_of (Alloc desk size) = pair 32 desk size
words_of (Free desk slot) = decimal desk ++ 32 ∷ pair 46 slot.0 slot.1
words_of (Send desk to) = pair 32 desk to
words_of (Link batch) = decimal batch
words_of (Take desk) = decimal desk

-- the words of a header's line behind the first
abbrev pub header_words : Header → List ℕ
header_words h = decimal h.desks ++ 32 ∷ pair 32 h.chunks h.width

-- each number of the header is a number of a trace
abbrev pub AreWords : Header → Type 0
AreWords h = IsWord h.desks × IsWord h.chunks × IsWord h.width

-- the lines with their line feed, which is 10

abbrev pub header_line : Header → List ℕ
header_line h = header_text h ++ 10 ∷ []

abbrev pub request_line : Request → List ℕ
request_line r = spelling r ++ 10 ∷ []
