use Rattle.std.proofs.Common.{length, ◌≤◌, ◌≡◌, ◌^◌, ℕ, zero, suc, ◌<◌, ◌==◌, List, [], ◌∷◌, ◌++◌, Option, Some, None, IfSome, IfNone, refl, sym, ◌∙◌, ap, ap₂, arith, Bool, true, false, cond, decimal, append_assoc}
use Rattle.std.proofs.lemmas.Bool.Decides.{nat_tests}
use Rattle.trace_audit.specs.Grammar.{IsWord, pair, spelling, IsRequest, profile_text, header_text, IsHeader}
use Rattle.trace_audit.specs.Words.{Lacks, verb_text, verb_of, words_of, header_words, AreWords}
use Rattle.region_cut.specs.Classes.{bits_of}
use Rattle.region_cut.specs.declared.profile.Profile.{Profile}
use Rattle.region_cut.specs.declared.profile.Profile.TheVariants.{Pool, Pool2}
use Rattle.trace_audit.specs.declared.grammar.header.Header.{Header}
use Rattle.std.proofs.lemmas.Fmt.{decimal_injective}
use Rattle.trace_audit.proofs.Numbers.{decimal_lacks}
use Rattle.pool_machine.specs.declared.request.Request.{Request}
use Rattle.pool_machine.specs.declared.request.Request.TheVariants.{Adopt, Retire, Claim, Alloc, Free, Send, Link, Take}
use Rattle.trace_audit.specs.declared.grammar.request.Verb.{Verb}
use Rattle.trace_audit.specs.declared.grammar.request.Verb.TheVariants.{Adopts, Retires, Claims, Allocs, Frees, Sends, Links, Takes}

abbrev pub lacks : ℕ → List ℕ → Bool
lacks mark [] = true
lacks mark (x ∷ xs) = cond (x == mark) false (lacks mark xs)

pub lacks_tested : (mark : ℕ) (xs : List ℕ) → lacks mark xs ≡ true → Lacks mark xs
lacks_tested mark [] e k h = absurd (omega arith)
lacks_tested mark (x ∷ xs) e zero h = grind (arith, nat_tests)
lacks_tested mark (x ∷ xs) e (suc k) h = lacks_tested mark xs (grind (arith, nat_tests)) k (omega arith)

pub lacks_tail : (mark x : ℕ) (xs : List ℕ) → Lacks mark (x ∷ xs) → Lacks mark xs
lacks_tail mark x xs h k in_range = h (suc k) (omega arith)

-- a text is cut at its first mark in one way
pub cut_once : (mark : ℕ) (a b x y : List ℕ) → Lacks mark a → Lacks mark x → a ++ mark ∷ b ≡ x ++ mark ∷ y → (a ≡ x) × (b ≡ y)
cut_once mark [] b [] y h k e = (refl, cc)
cut_once mark [] b (x ∷ xs) y h k e = absurd (k 0 (omega arith) (sym (let q : mark ≡ x = cc in q)))
cut_once mark (a ∷ tail) b [] y h k e = absurd (h 0 (omega arith) (let q : a ≡ mark = cc in q))
cut_once mark (a ∷ tail) b (x ∷ xs) y h k e =
    let head : a ≡ x = cc in
    let rest : tail ++ mark ∷ b ≡ xs ++ mark ∷ y = cc in
    let both = cut_once mark tail b xs y (lacks_tail mark a tail h) (lacks_tail mark x xs k) rest in
    (let q : tail ≡ xs = both.0 in cc, both.1)

pub marked : (mark : ℕ) (a b : List ℕ) → Lacks mark (a ++ mark ∷ b) → ⊥
marked mark [] b h = h 0 (omega arith) refl
marked mark (a ∷ tail) b h = marked mark tail b (lacks_tail mark a (tail ++ mark ∷ b) h)

pub pair_cut : (mark : ℕ) (bytes front back : List ℕ) → mark < 48 → bytes ≡ front ++ mark ∷ back → Lacks mark front → (a b : ℕ) → IsWord a → bytes ≡ pair mark a b → (front ≡ decimal a) × (back ≡ decimal b)
pair_cut mark bytes front back low e h a b small is = cut_once mark front back (decimal a) (decimal b) h (decimal_lacks mark a low small) (sym e ∙ is)

pub verb_lacks : (v : Verb) → Lacks 32 (verb_text v)
verb_lacks Adopts = lacks_tested 32 (verb_text Adopts) refl
verb_lacks Claims = lacks_tested 32 (verb_text Claims) refl
verb_lacks Allocs = lacks_tested 32 (verb_text Allocs) refl
verb_lacks Frees = lacks_tested 32 (verb_text Frees) refl
verb_lacks Retires = lacks_tested 32 (verb_text Retires) refl
verb_lacks Sends = lacks_tested 32 (verb_text Sends) refl
verb_lacks Links = lacks_tested 32 (verb_text Links) refl
verb_lacks Takes = lacks_tested 32 (verb_text Takes) refl

-- the verb, by its first two letters
abbrev pub verb_at : ℕ → ℕ → Option Verb
verb_at x y = cond (x == 97) (cond (y == 100) (Some Adopts) (Some Allocs)) (cond (x == 99) (Some Claims) (cond (x == 102) (Some Frees)
    (cond (x == 114) (Some Retires) (cond (x == 115) (Some Sends) (cond (x == 108) (Some Links) (Some Takes))))))

abbrev pub verb_from : List ℕ → Option Verb
verb_from [] = None
verb_from (x ∷ []) = None
verb_from (x ∷ y ∷ xs) = verb_at x y

pub verb_again : (v : Verb) → verb_from (verb_text v) ≡ Some v
verb_again Adopts = refl
verb_again Claims = refl
verb_again Allocs = refl
verb_again Frees = refl
verb_again Retires = refl
verb_again Sends = refl
verb_again Links = refl
verb_again Takes = refl

pub same_verb : (v w : Verb) → verb_text v ≡ verb_text w → v ≡ w
same_verb v w e = let both : Some v ≡ Some w = sym (verb_again v) ∙ ap verb_from e ∙ verb_again w in cc

-- a request's line is its verb, a space and its words
pub spelled : (r : Request) → spelling r ≡ verb_text (verb_of r) ++ 32 ∷ words_of r
spelled (Adopt a b) = refl
spelled (Retire a) = refl
spelled (Claim a b) = refl
spelled (Alloc a b) = refl
spelled (Free a s) = refl
spelled (Send a b) = refl
spelled (Link a) = refl
spelled (Take a) = refl

pub line_cut : (line word rest : List ℕ) (r : Request) → line ≡ word ++ 32 ∷ rest → Lacks 32 word → line ≡ spelling r → (word ≡ verb_text (verb_of r)) × (rest ≡ words_of r)
line_cut line word rest r e h is = cut_once 32 word rest (verb_text (verb_of r)) (words_of r) h (verb_lacks (verb_of r)) (sym e ∙ (is ∙ spelled r))

abbrev pub HasOne : List ℕ → Type 0
HasOne w = (n : ℕ) × IsWord n × (w ≡ decimal n)

abbrev pub HasTwo : ℕ → List ℕ → Type 0
HasTwo mark w = (a : ℕ) × (b : ℕ) × IsWord a × IsWord b × (w ≡ pair mark a b)

abbrev pub HasThree : List ℕ → Type 0
HasThree w = (a : ℕ) × (s : List ℕ) × IsWord a × HasTwo 46 s × (w ≡ decimal a ++ 32 ∷ s)

-- the words behind the verb are good ones
abbrev pub HasWords : Verb → List ℕ → Type 0
HasWords Adopts w = HasTwo 32 w
HasWords Claims w = HasTwo 32 w
HasWords Allocs w = HasTwo 32 w
HasWords Frees w = HasThree w
HasWords Retires w = HasOne w
HasWords Sends w = HasTwo 32 w
HasWords Links w = HasOne w
HasWords Takes w = HasOne w

words_fit : (r : Request) → IsRequest r → HasWords (verb_of r) (words_of r)
words_fit (Adopt a b) h = (a, b, h.0, h.1, refl)
words_fit (Claim a b) h = (a, b, h.0, h.1, refl)
words_fit (Alloc a b) h = (a, b, h.0, h.1, refl)
words_fit (Free a s) h = (a, pair 46 s.0 s.1, h.0, (s.0, s.1, h.1, h.2, refl), refl)
words_fit (Retire a) h = (a, h, refl)
words_fit (Send a b) h = (a, b, h.0, h.1, refl)
words_fit (Link a) h = (a, h, refl)
words_fit (Take a) h = (a, h, refl)

pub free_cut : (words front back : List ℕ) → words ≡ front ++ 32 ∷ back → Lacks 32 front → (a : ℕ) (s : ℕ × ℕ) → IsRequest (Free a s) → words ≡ words_of (Free a s)
    → (front ≡ decimal a) × (back ≡ pair 46 s.0 s.1)
free_cut words front back e h a s fits is = cut_once 32 front back (decimal a) (pair 46 s.0 s.1) h (decimal_lacks 32 a (omega arith) fits.0) (sym e ∙ is)

pub header_cut : (bytes front back : List ℕ) (h : Header) → bytes ≡ front ++ 32 ∷ back → Lacks 32 front → AreWords h → bytes ≡ header_words h → (front ≡ decimal h.desks) × (back ≡ pair 32 h.chunks h.width)
header_cut bytes front back h e lacks fits is = cut_once 32 front back (decimal h.desks) (pair 32 h.chunks h.width) lacks (decimal_lacks 32 h.desks (omega arith) fits.0) (sym e ∙ is)

pub same_header : (h k : Header) → AreWords h → AreWords k → header_words h ≡ header_words k → (h.desks ≡ k.desks) × (h.chunks ≡ k.chunks) × (h.width ≡ k.width)
same_header h k fh fk e =
    let outer = cut_once 32 (decimal h.desks) (pair 32 h.chunks h.width) (decimal k.desks) (pair 32 k.chunks k.width) (decimal_lacks 32 h.desks (omega arith) fh.0) (decimal_lacks 32 k.desks (omega arith) fk.0) e in
    let inner = cut_once 32 (decimal h.chunks) (decimal h.width) (decimal k.chunks) (decimal k.width) (decimal_lacks 32 h.chunks (omega arith) fh.1) (decimal_lacks 32 k.chunks (omega arith) fk.1) outer.1 in (
      decimal_injective h.desks k.desks (omega (arith, fh.0)) (omega (arith, fk.0)) outer.0,
      decimal_injective h.chunks k.chunks (omega (arith, fh.1)) (omega (arith, fk.1)) inner.0,
      decimal_injective h.width k.width (omega (arith, fh.2)) (omega (arith, fk.2)) inner.1,
    )

few_desks : (p : Profile) (n : ℕ) → n ≤ 2 ^ bits_of p → IsWord n
few_desks Pool n h = omega (arith, h)
few_desks Pool2 n h = omega (arith, h)

pub header_words_fit : (h : Header) → IsHeader h → AreWords h
header_words_fit h r = (few_desks h.profile h.desks r.few_desks, omega (arith, r.few_chunks), omega (arith, r.small_width))

pub in_range_again : (h k : Header) → h.profile ≡ k.profile → (h.desks ≡ k.desks) × (h.chunks ≡ k.chunks) × (h.width ≡ k.width) → IsHeader k → IsHeader h
in_range_again h k same e r = record {
  some_desk = omega (arith, e.0, r.some_desk);
  few_desks = rw (same, e.0) r.few_desks;
  few_chunks = omega (arith, e.1, r.few_chunks);
  some_width = omega (arith, e.2, r.some_width);
  small_width = omega (arith, e.2, r.small_width);
}

pub profile_lacks : (p : Profile) → Lacks 32 (profile_text p)
profile_lacks Pool = lacks_tested 32 (profile_text Pool) refl
profile_lacks Pool2 = lacks_tested 32 (profile_text Pool2) refl

pub same_profile : (p q : Profile) → profile_text p ≡ profile_text q → p ≡ q
same_profile Pool Pool e = refl
same_profile Pool Pool2 e = absurd (let l = ap length e in omega (arith, l))
same_profile Pool2 Pool e = absurd (let l = ap length e in omega (arith, l))
same_profile Pool2 Pool2 e = refl

-- a header's line is its profile, a space and its words
pub titled : (h : Header) → header_text h ≡ profile_text h.profile ++ 32 ∷ header_words h
titled h = append_assoc (profile_text h.profile) (32 ∷ decimal h.desks) (32 ∷ pair 32 h.chunks h.width)

pub header_line_cut : (line word rest : List ℕ) (h : Header) → line ≡ word ++ 32 ∷ rest → Lacks 32 word → line ≡ header_text h → (word ≡ profile_text h.profile) × (rest ≡ header_words h)
header_line_cut line word rest h e lacks is = cut_once 32 word rest (profile_text h.profile) (header_words h) lacks (profile_lacks h.profile) (sym e ∙ (is ∙ titled h))

-- ---- what a reader of verbs and words answers

-- a word that is none of these is no verb
pub no_verb : (word : List ℕ) → (word ≡ verb_text Adopts → ⊥) → (word ≡ verb_text Retires → ⊥) → (word ≡ verb_text Claims → ⊥) → (word ≡ verb_text Allocs → ⊥)
    → (word ≡ verb_text Frees → ⊥) → (word ≡ verb_text Sends → ⊥) → (word ≡ verb_text Links → ⊥) → (word ≡ verb_text Takes → ⊥) → (v : Verb) → word ≡ verb_text v → ⊥
no_verb word a r c l f s k t Adopts e = a e
no_verb word a r c l f s k t Retires e = r e
no_verb word a r c l f s k t Claims e = c e
no_verb word a r c l f s k t Allocs e = l e
no_verb word a r c l f s k t Frees e = f e
no_verb word a r c l f s k t Sends e = s e
no_verb word a r c l f s k t Links e = k e
no_verb word a r c l f s k t Takes e = t e

-- the words of a request of the verb
pub has_words : (words : List ℕ) (v : Verb) (r : Request) → IsRequest r → verb_of r ≡ v → words ≡ words_of r → HasWords v words
has_words words v r fits same is = rw (sym same, is) (words_fit r fits)

pub read_found : (line word rest : List ℕ) (v : Verb) (o : Option Request) → line ≡ word ++ 32 ∷ rest → word ≡ verb_text v
    → IfSome o (λ r. IsRequest r × (verb_of r ≡ v) × (rest ≡ words_of r)) → IfSome o (λ r. IsRequest r × (line ≡ spelling r))
read_found line word rest v None e is h = tt
read_found line word rest v (Some r) e is h = (h.0, e ∙ (ap₂ (λ (a b : List ℕ). a ++ 32 ∷ b) (is ∙ ap verb_text (sym h.1)) h.2 ∙ sym (spelled r)))

pub read_none : (line word rest : List ℕ) (v : Verb) (o : Option Request) → line ≡ word ++ 32 ∷ rest → Lacks 32 word → word ≡ verb_text v
    → IfNone o ((r : Request) → IsRequest r → verb_of r ≡ v → rest ≡ words_of r → ⊥) → IfNone o ((r : Request) → IsRequest r → line ≡ spelling r → ⊥)
read_none line word rest v (Some r) e lacks is h = tt
read_none line word rest v None e lacks is h = λ r fits spelled.
    let both = line_cut line word rest r e lacks spelled in
    h r fits (sym (same_verb v (verb_of r) (sym is ∙ both.0))) both.1
