use Rattle.std.proofs.Common.{◌≡◌, ℕ, zero, suc, ◌≤◌, List, [], ◌∷◌, ◌++◌, length, Option, refl, ap, subst, arith, decimal, length-append}
use Rattle.std.proofs.lemmas.Fmt.{length-decimal-le}
use Rattle.trace_audit.specs.Grammar.{IsWord, pair, spelling, IsRequest, profile_text, header_text, IsHeader}
use Rattle.trace_audit.specs.Words.{Lacks, verb_text, verb_of, words_of, header_words}
use Rattle.trace_audit.specs.Wire.{Begins}
use Rattle.trace_audit.proofs.Numbers.{decimal_lacks}
use Rattle.trace_audit.proofs.Cuts.{lacks_tested, header_words_fit, spelled, titled}
use Rattle.region_cut.specs.declared.profile.Profile.{Profile}
use Rattle.region_cut.specs.declared.profile.Profile.TheVariants.{Pool, Pool2}
use Rattle.trace_audit.specs.declared.grammar.header.Header.{Header}
use Rattle.pool_machine.specs.declared.request.Request.{Request}
use Rattle.pool_machine.specs.declared.request.Request.TheVariants.{Adopt, Retire, Claim, Alloc, Free, Send, Link, Take}
use Rattle.trace_audit.specs.declared.grammar.request.Verb.{Verb}
use Rattle.trace_audit.specs.declared.grammar.request.Verb.TheVariants.{Adopts, Retires, Claims, Allocs, Frees, Sends, Links, Takes}

pub lacks_head : (mark x : ℕ) (xs : List ℕ) → (x ≡ mark → ⊥) → Lacks mark xs → Lacks mark (x ∷ xs)
lacks_head mark x xs other h zero k = other
lacks_head mark x xs other h (suc i) k = h i (omega arith)

pub lacks_both : (mark : ℕ) (xs ys : List ℕ) → Lacks mark xs → Lacks mark ys → Lacks mark (xs ++ ys)
lacks_both mark [] ys h k = k
lacks_both mark (x ∷ xs) ys h k = lacks_head mark x (xs ++ ys) (h 0 (omega arith)) (lacks_both mark xs ys (λ i l. h (suc i) (omega arith)) k)

pub pair_lacks : (mark a b : ℕ) → (mark ≡ 10 → ⊥) → IsWord a → IsWord b → Lacks 10 (pair mark a b)
pair_lacks mark a b other fa fb = lacks_both 10 (decimal a) (mark ∷ decimal b) (decimal_lacks 10 a (omega arith) fa) (lacks_head 10 mark (decimal b) other (decimal_lacks 10 b (omega arith) fb))

words_lack : (r : Request) → IsRequest r → Lacks 10 (words_of r)
words_lack (Adopt a b) h = pair_lacks 32 a b (λ e. omega (arith, e)) h.0 h.1
words_lack (Claim a b) h = pair_lacks 32 a b (λ e. omega (arith, e)) h.0 h.1
words_lack (Alloc a b) h = pair_lacks 32 a b (λ e. omega (arith, e)) h.0 h.1
words_lack (Free a s) h = lacks_both 10 (decimal a) (32 ∷ pair 46 s.0 s.1) (decimal_lacks 10 a (omega arith) h.0) (lacks_head 10 32 (pair 46 s.0 s.1) (λ e. omega (arith, e)) (pair_lacks 46 s.0 s.1 (λ e. omega (arith, e)) h.1 h.2))
words_lack (Retire a) h = decimal_lacks 10 a (omega arith) h
words_lack (Send a b) h = pair_lacks 32 a b (λ e. omega (arith, e)) h.0 h.1
words_lack (Link a) h = decimal_lacks 10 a (omega arith) h
words_lack (Take a) h = decimal_lacks 10 a (omega arith) h

verb_lack : (v : Verb) → Lacks 10 (verb_text v)
verb_lack Adopts = lacks_tested 10 (verb_text Adopts) refl
verb_lack Claims = lacks_tested 10 (verb_text Claims) refl
verb_lack Allocs = lacks_tested 10 (verb_text Allocs) refl
verb_lack Frees = lacks_tested 10 (verb_text Frees) refl
verb_lack Retires = lacks_tested 10 (verb_text Retires) refl
verb_lack Sends = lacks_tested 10 (verb_text Sends) refl
verb_lack Links = lacks_tested 10 (verb_text Links) refl
verb_lack Takes = lacks_tested 10 (verb_text Takes) refl

-- no spelling has a line feed
pub spelling_lacks : (r : Request) → IsRequest r → Lacks 10 (spelling r)
spelling_lacks r h = rw (spelled r) (lacks_both 10 (verb_text (verb_of r)) (32 ∷ words_of r) (verb_lack (verb_of r)) (lacks_head 10 32 (words_of r) (λ e. omega (arith, e)) (words_lack r h)))

pub short : (n : ℕ) → IsWord n → length (decimal n) ≤ 10
short n h = length-decimal-le 10 n (omega arith) (omega arith) (omega arith)

pub short_pair : (mark a b : ℕ) → IsWord a → IsWord b → length (pair mark a b) ≤ 21
short_pair mark a b fa fb = omega (arith, length-append (decimal a) (mark ∷ decimal b), short a fa, short b fb)

words_short : (r : Request) → IsRequest r → length (words_of r) ≤ 32
words_short (Adopt a b) h = omega (arith, short_pair 32 a b h.0 h.1)
words_short (Claim a b) h = omega (arith, short_pair 32 a b h.0 h.1)
words_short (Alloc a b) h = omega (arith, short_pair 32 a b h.0 h.1)
words_short (Free a s) h = omega (arith, length-append (decimal a) (32 ∷ pair 46 s.0 s.1), short a h.0, short_pair 46 s.0 s.1 h.1 h.2)
words_short (Retire a) h = omega (arith, short a h)
words_short (Send a b) h = omega (arith, short_pair 32 a b h.0 h.1)
words_short (Link a) h = omega (arith, short a h)
words_short (Take a) h = omega (arith, short a h)

verb_short : (v : Verb) → length (verb_text v) ≤ 6
verb_short Adopts = omega arith
verb_short Claims = omega arith
verb_short Allocs = omega arith
verb_short Frees = omega arith
verb_short Retires = omega arith
verb_short Sends = omega arith
verb_short Links = omega arith
verb_short Takes = omega arith

-- a line of 65 bytes or more is no spelling
pub spelling_short : (r : Request) → IsRequest r → length (spelling r) ≤ 64
spelling_short r h = rw (spelled r) (omega (arith, length-append (verb_text (verb_of r)) (32 ∷ words_of r), verb_short (verb_of r), words_short r h))

profile_lack : (p : Profile) → Lacks 10 (profile_text p)
profile_lack Pool = lacks_tested 10 (profile_text Pool) refl
profile_lack Pool2 = lacks_tested 10 (profile_text Pool2) refl

profile_short : (p : Profile) → length (profile_text p) ≤ 5
profile_short Pool = omega arith
profile_short Pool2 = omega arith

-- nor has a header's text
pub header_lacks : (h : Header) → IsHeader h → Lacks 10 (header_text h)
header_lacks h fits = let w = header_words_fit h fits in
    rw (titled h) (lacks_both 10 (profile_text h.profile) (32 ∷ header_words h) (profile_lack h.profile)
    (lacks_head 10 32 (header_words h) (λ e. omega (arith, e))
    (lacks_both 10 (decimal h.desks) (32 ∷ pair 32 h.chunks h.width) (decimal_lacks 10 h.desks (omega arith) w.0)
    (lacks_head 10 32 (pair 32 h.chunks h.width) (λ e. omega (arith, e)) (pair_lacks 32 h.chunks h.width (λ e. omega (arith, e)) w.1 w.2)))))

pub header_short : (h : Header) → IsHeader h → length (header_text h) ≤ 64
header_short h fits = let w = header_words_fit h fits in
    omega (arith, ap length (titled h), length-append (profile_text h.profile) (32 ∷ header_words h), profile_short h.profile, length-append (decimal h.desks) (32 ∷ pair 32 h.chunks h.width), short h.desks w.0, short_pair 32 h.chunks h.width w.1 w.2)

pub begins_same : (old new : Option (List ℕ)) (text line : List ℕ) → text ≡ line → Begins old new text → Begins old new line
begins_same old new text line e h = subst (λ (w : List ℕ). Begins old new w) e h
