-- A text is a trace in one way.
use Rattle.std.proofs.Common.{◌≡◌, ◌≢◌, ◌⊎◌, inl, inr, ℕ, suc, ◌+◌, ◌≤◌, ◌<◌, List, [], ◌∷◌, ◌++◌, length, refl, sym, ◌∙◌, ap, ap₂, subst, arith, decimal, append_assoc}
use Rattle.std.specs.List.{flat_map, AllByRecursion}
use Rattle.std.proofs.lemmas.Fmt.{decimal_injective}
use Rattle.trace_audit.specs.Grammar.{IsWord, pair, spelling, IsRequest, header_text, IsHeader, profile_text}
use Rattle.trace_audit.specs.Words.{verb_text, verb_of, words_of, header_words}
use Rattle.trace_audit.specs.Words.{request_line}
use Rattle.trace_audit.specs.Trace.{BeginsWithRequest, EndsTrace}
use Rattle.trace_audit.specs.Laws.{ReadInOneWay}
use Rattle.trace_audit.specs.declared.replaying.ending.End.{End}
use Rattle.trace_audit.specs.declared.replaying.ending.End.TheVariants.{Whole, BadLine, NoRoom}
use Rattle.trace_audit.specs.declared.grammar.header.Header.{Header}
use Rattle.trace_audit.specs.declared.grammar.request.Verb.{Verb}
use Rattle.trace_audit.specs.declared.grammar.request.Verb.TheVariants.{Adopts, Retires, Claims, Allocs, Frees, Sends, Links, Takes}
use Rattle.pool_machine.specs.declared.request.Request.{Request}
use Rattle.pool_machine.specs.declared.request.Request.TheVariants.{Adopt, Retire, Claim, Alloc, Free, Send, Link, Take}
use Rattle.trace_audit.proofs.Numbers.{decimal_lacks}
use Rattle.trace_audit.proofs.Cuts.{cut_once, spelled, titled, verb_lacks, same_verb, profile_lacks, same_profile, same_header, header_words_fit}
use Rattle.trace_audit.proofs.Fronts.{spelling_lacks, header_lacks}

one_same : (m n : ℕ) → IsWord m → IsWord n → decimal m ≡ decimal n → m ≡ n
one_same m n f g e = decimal_injective m n (omega (arith, f)) (omega (arith, g)) e

two_same : (mark : ℕ) → mark < 48 → (m n k i : ℕ) → IsWord m → IsWord n → IsWord k → IsWord i → pair mark m n ≡ pair mark k i → (m ≡ k) × (n ≡ i)
two_same mark low m n k i f g h j e =
    let cut = cut_once mark (decimal m) (decimal n) (decimal k) (decimal i) (decimal_lacks mark m low f) (decimal_lacks mark k low h) e in
    (one_same m k f h cut.0, one_same n i g j cut.1)

slot_same : (a b : ℕ) (s t : ℕ × ℕ) → IsRequest (Free a s) → IsRequest (Free b t) → words_of (Free a s) ≡ words_of (Free b t) → (a ≡ b) × (s.0 ≡ t.0) × (s.1 ≡ t.1)
slot_same a b s t f g e =
    let cut = cut_once 32 (decimal a) (pair 46 s.0 s.1) (decimal b) (pair 46 t.0 t.1) (decimal_lacks 32 a (omega arith) f.0) (decimal_lacks 32 b (omega arith) g.0) e in
    let slot = two_same 46 (omega arith) s.0 s.1 t.0 t.1 f.1 f.2 g.1 g.2 cut.1 in
    (one_same a b f.0 g.0 cut.0, slot.0, slot.1)

place : Verb → ℕ
place Adopts = 0
place Retires = 1
place Claims = 2
place Allocs = 3
place Frees = 4
place Sends = 5
place Links = 6
place Takes = 7

-- the words behind the verb tell the request
by_words : (p q : Request) → IsRequest p → IsRequest q → verb_of p ≡ verb_of q → words_of p ≡ words_of q → p ≡ q
unfolding place
by_words (Adopt a x) (Adopt b y) f g v e = let h = two_same 32 (omega arith) a x b y f.0 f.1 g.0 g.1 e in ap₂ Adopt h.0 h.1
by_words (Retire a) (Retire b) f g v e = ap Retire (one_same a b f g e)
by_words (Claim a x) (Claim b y) f g v e = let h = two_same 32 (omega arith) a x b y f.0 f.1 g.0 g.1 e in ap₂ Claim h.0 h.1
by_words (Alloc a x) (Alloc b y) f g v e = let h = two_same 32 (omega arith) a x b y f.0 f.1 g.0 g.1 e in ap₂ Alloc h.0 h.1
by_words (Free a s) (Free b t) f g v e = let h = slot_same a b s t f g e in (λ z. Free (h.0 z) (h.1 z, h.2 z))
by_words (Send a x) (Send b y) f g v e = let h = two_same 32 (omega arith) a x b y f.0 f.1 g.0 g.1 e in ap₂ Send h.0 h.1
by_words (Link a) (Link b) f g v e = ap Link (one_same a b f g e)
by_words (Take a) (Take b) f g v e = ap Take (one_same a b f g e)
by_words _ _ f g v e = absurd (let k = ap place v in omega arith)

-- a line spells one request
one_request : (p q : Request) → IsRequest p → IsRequest q → spelling p ≡ spelling q → p ≡ q
one_request p q f g e =
    let cut = cut_once 32 (verb_text (verb_of p)) (words_of p) (verb_text (verb_of q)) (words_of q) (verb_lacks (verb_of p)) (verb_lacks (verb_of q)) (sym (spelled p) ∙ (e ∙ spelled q)) in
    by_words p q f g (same_verb (verb_of p) (verb_of q) cut.0) cut.1

-- one good request line stands at the front
one_line : (p q : Request) (rs ss : List ℕ) → IsRequest p → IsRequest q → request_line p ++ rs ≡ request_line q ++ ss → (p ≡ q) × (rs ≡ ss)
one_line p q rs ss f g e =
    let cut = cut_once 10 (spelling p) rs (spelling q) ss (spelling_lacks p f) (spelling_lacks q g)
    (sym (append_assoc (spelling p) (10 ∷ []) rs) ∙ (e ∙ append_assoc (spelling q) (10 ∷ []) ss)) in
    (one_request p q f g cut.0, cut.1)

-- one good header line stands at the front
one_header : (h k : Header) (rs ss : List ℕ) → IsHeader h → IsHeader k → header_text h ++ 10 ∷ rs ≡ header_text k ++ 10 ∷ ss → (h ≡ k) × (rs ≡ ss)
one_header h k rs ss f g e =
    let cut = cut_once 10 (header_text h) rs (header_text k) ss (header_lacks h f) (header_lacks k g) e in
    let word = cut_once 32 (profile_text h.profile) (header_words h) (profile_text k.profile) (header_words k) (profile_lacks h.profile) (profile_lacks k.profile) (sym (titled h) ∙ (cut.0 ∙ titled k)) in
    let kind = same_profile h.profile k.profile word.0 in
    let same = same_header h k (header_words_fit h f) (header_words_fit k g) word.1 in
    ((λ z. record { profile = kind z; desks = same.0 z; chunks = same.1 z; width = same.2 z }), cut.1)

some_left : (p : Request) (ss : List ℕ) → request_line p ++ ss ≢ []
some_left p ss e = grind arith

-- where the lines end, no further good line stands
no_more : (n : ℕ) (p : Request) (rs ss : List ℕ) (e : End) → IsRequest p → n < 999999 → EndsTrace n rs e → rs ≡ request_line p ++ ss → ⊥
no_more n p rs ss Whole f low h e = some_left p ss (sym e ∙ h)
no_more n p rs ss (BadLine k) f low h e = none_of h.2
  where
    none_of : (BeginsWithRequest rs → ⊥) ⊎ (n ≡ 999999) → ⊥
    none_of (inl none) = none (p, ss, f, e ∙ append_assoc (spelling p) (10 ∷ []) ss)
    none_of (inr full) = absurd (omega arith)
no_more n p rs ss NoRoom f low h e = h

one_end : (n : ℕ) (rs : List ℕ) (d e : End) → EndsTrace n rs d → EndsTrace n rs e → d ≡ e
one_end n rs Whole Whole h k = refl
one_end n rs Whole (BadLine b) h k = absurd (k.0 h)
one_end n rs (BadLine a) Whole h k = absurd (h.0 k)
one_end n rs (BadLine a) (BadLine b) h k = ap BadLine (h.1 ∙ sym k.1)
one_end n rs NoRoom e h k = absurd h
one_end n rs Whole NoRoom h k = absurd k
one_end n rs (BadLine a) NoRoom h k = absurd k

one_list : (n : ℕ) (ps qs : List Request) (rs ss : List ℕ) (d e : End) → AllByRecursion IsRequest ps → AllByRecursion IsRequest qs
    → n + length ps ≤ 999999 → n + length qs ≤ 999999 → flat_map request_line ps ++ rs ≡ flat_map request_line qs ++ ss
    → EndsTrace (n + length ps) rs d → EndsTrace (n + length qs) ss e → (ps ≡ qs) × (d ≡ e)
one_list n [] [] rs ss d e f g l m same h k =
    (refl, one_end (n + 0) ss d e (subst (λ (w : List ℕ). EndsTrace (n + 0) w d) same h) k)
one_list n [] (q ∷ qs) rs ss d e f g l m same h k =
    absurd (no_more (n + 0) q rs (flat_map request_line qs ++ ss) d g.0 (omega arith) h (same ∙ append_assoc (request_line q) (flat_map request_line qs) ss))
one_list n (p ∷ ps) [] rs ss d e f g l m same h k =
    absurd (no_more (n + 0) p ss (flat_map request_line ps ++ rs) e f.0 (omega arith) k (sym same ∙ append_assoc (request_line p) (flat_map request_line ps) rs))
one_list n (p ∷ ps) (q ∷ qs) rs ss d e f g l m same h k =
    let first = one_line p q (flat_map request_line ps ++ rs) (flat_map request_line qs ++ ss) f.0 g.0
    (sym (append_assoc (request_line p) (flat_map request_line ps) rs) ∙ (same ∙ append_assoc (request_line q) (flat_map request_line qs) ss)) in
    let a : n + suc (length ps) ≡ suc n + length ps = omega arith in
    let b : n + suc (length qs) ≡ suc n + length qs = omega arith in
    let more = one_list (suc n) ps qs rs ss d e f.1 g.1 (omega arith) (omega arith) first.1
    (subst (λ z. EndsTrace z rs d) a h) (subst (λ z. EndsTrace z ss e) b k) in
    (ap₂ ◌∷◌ first.0 more.0, more.1)

pub read_in_one_way : ReadInOneWay
read_in_one_way bytes h k rs qs d e t u =
    let first = one_header h k (flat_map request_line rs ++ t.rest) (flat_map request_line qs ++ u.rest) t.header u.header (sym t.lines ∙ u.lines) in
    let a : length rs ≡ 0 + length rs = omega arith in
    let b : length qs ≡ 0 + length qs = omega arith in
    let more = one_list 0 rs qs t.rest u.rest d e t.good u.good (omega (arith, t.few)) (omega (arith, u.few)) first.1
    (subst (λ n. EndsTrace n t.rest d) a t.ends) (subst (λ n. EndsTrace n u.rest e) b u.ends) in
    (first.0, more.0, more.1)
