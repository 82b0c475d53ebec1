-- Behind a good header every text is a trace.
use Rattle.std.proofs.Common.{◌≡◌, ◌≢◌, ◌⊎◌, inl, inr, ℕ, zero, suc, ◌+◌, ◌^◌, ◌≤◌, ◌<◌, List, [], ◌∷◌, ◌++◌, length, refl, sym, ◌∙◌, ap, subst, arith, append_assoc, length-append, ⊎_elim}
use Rattle.std.specs.List.{flat_map, AllByRecursion}
use Rattle.std.proofs.lemmas.Bool.{cases_lt}
use Rattle.std.proofs.lemmas.Bool.Decides.{eqb_tells}
use Rattle.pool_machine.specs.declared.request.Request.{Request}
use Rattle.pool_machine.specs.declared.request.Request.TheVariants.{Adopt, Retire, Claim, Alloc, Free, Send, Link, Take}
use Rattle.trace_audit.specs.Grammar.{spelling, IsRequest}
use Rattle.trace_audit.specs.Words.{request_line}
use Rattle.trace_audit.specs.Trace.{BeginsWithRequest, EndsTrace}
use Rattle.trace_audit.specs.declared.replaying.ending.End.{End}
use Rattle.trace_audit.specs.declared.replaying.ending.End.TheVariants.{Whole, BadLine}

-- ---- what can be decided

abbrev Decided : Type 0 → Type 0
Decided A = A ⊎ (A → ⊥)

-- whether xs stands at the front of ys
at_front : (xs ys : List ℕ) → Decided ((rest : List ℕ) × (ys ≡ xs ++ rest))
at_front [] ys = inl (ys, refl)
at_front (x ∷ xs) [] = inr (λ h. let e : [] ≡ x ∷ (xs ++ h.0) = h.1 in cc)
at_front (x ∷ xs) (y ∷ ys) =
    ⊎_elim (λ (same : _ × (x ≡ y)). more same.1 (at_front xs ys)) (λ (other : _ × (x ≢ y)). inr (λ h. other.1 (let e : y ∷ ys ≡ x ∷ (xs ++ h.0) = h.1 in cc))) (eqb_tells x y)
  where
    more : x ≡ y → Decided ((rest : List ℕ) × (ys ≡ xs ++ rest)) → Decided ((rest : List ℕ) × (y ∷ ys ≡ x ∷ (xs ++ rest)))
    more same (inl h) = inl (h.0, (let e : ys ≡ xs ++ h.0 = h.1 in cc))
    more same (inr f) = inr (λ h. f (h.0, (let e : y ∷ ys ≡ x ∷ (xs ++ h.0) = h.1 in cc)))

-- whether a number below n has what can be decided of each
some_below : (P : ℕ → Type 0) → ((k : ℕ) → Decided (P k)) → (n : ℕ) → Decided ((k : ℕ) × (k < n) × P k)
some_below P d zero = inr (λ h. let l : h.0 < 0 = h.1 in absurd (omega arith))
some_below P d (suc n) = go (some_below P d n) (d n)
  where
    up : (k : ℕ) × (k < n) × P k → (k : ℕ) × (k < suc n) × P k
    up h = let l : h.0 < n = h.1 in (h.0, omega arith, h.2)

    none : ((k : ℕ) × (k < n) × P k → ⊥) → (P n → ⊥) → (k : ℕ) × (k < suc n) × P k → ⊥
    none f g h = ⊎_elim (λ (l : h.0 < n). f (h.0, l, h.2)) (λ (m : n ≤ h.0). g (subst P (let l : h.0 < suc n = h.1 in omega arith) h.2)) (cases_lt h.0 n)

    go : Decided ((k : ℕ) × (k < n) × P k) → Decided (P n) → Decided ((k : ℕ) × (k < suc n) × P k)
    go (inl h) e = inl (up h)
    go (inr f) (inl p) = inl (n, omega arith, p)
    go (inr f) (inr g) = inr (none f g)

-- ---- lines

-- the request's line stands at the front
abbrev Stands : List ℕ → Request → Type 0
Stands bytes r = (more : List ℕ) × (bytes ≡ spelling r ++ 10 ∷ more)

stands : (bytes : List ℕ) (r : Request) → Decided (Stands bytes r)
stands bytes r = go (at_front (request_line r) bytes)
  where
    go : Decided ((rest : List ℕ) × (bytes ≡ request_line r ++ rest)) → Decided ((more : List ℕ) × (bytes ≡ spelling r ++ 10 ∷ more))
    go (inl h) = inl (h.0, h.1 ∙ append_assoc (spelling r) (10 ∷ []) h.0)
    go (inr f) = inr (λ h. f (h.0, h.1 ∙ sym (append_assoc (spelling r) (10 ∷ []) h.0)))

-- of requests with one number, or two, or three
abbrev One : List ℕ → (ℕ → Request) → ℕ → Type 0
One bytes f n = (a : ℕ) × (a < n) × Stands bytes (f a)

abbrev Two : List ℕ → (ℕ → ℕ → Request) → ℕ → Type 0
Two bytes f n = (a : ℕ) × (a < n) × ((b : ℕ) × (b < n) × Stands bytes (f a b))

abbrev Three : List ℕ → (ℕ → ℕ → ℕ → Request) → ℕ → Type 0
Three bytes f n = (a : ℕ) × (a < n) × ((b : ℕ) × (b < n) × ((c : ℕ) × (c < n) × Stands bytes (f a b c)))

one : (bytes : List ℕ) (f : ℕ → Request) (n : ℕ) → Decided (One bytes f n)
one bytes f n = some_below (λ a. Stands bytes (f a)) (λ a. stands bytes (f a)) n

two : (bytes : List ℕ) (f : ℕ → ℕ → Request) (n : ℕ) → Decided (Two bytes f n)
two bytes f n = some_below (λ a. (b : ℕ) × (b < n) × Stands bytes (f a b)) (λ a. some_below (λ b. Stands bytes (f a b)) (λ b. stands bytes (f a b)) n) n

three : (bytes : List ℕ) (f : ℕ → ℕ → ℕ → Request) (n : ℕ) → Decided (Three bytes f n)
three bytes f n = some_below (λ a. (b : ℕ) × (b < n) × ((c : ℕ) × (c < n) × Stands bytes (f a b c)))
    (λ a. some_below (λ b. (c : ℕ) × (c < n) × Stands bytes (f a b c)) (λ b. some_below (λ c. Stands bytes (f a b c)) (λ c. stands bytes (f a b c)) n) n) n

-- no line of any kind stands at the front
none_stands : (bytes : List ℕ) → (Two bytes Adopt (2 ^ 32) → ⊥) → (One bytes Retire (2 ^ 32) → ⊥) → (Two bytes Claim (2 ^ 32) → ⊥) → (Two bytes Alloc (2 ^ 32) → ⊥)
    → (Three bytes (λ a b c. Free a (b, c)) (2 ^ 32) → ⊥) → (Two bytes Send (2 ^ 32) → ⊥) → (One bytes Link (2 ^ 32) → ⊥) → (One bytes Take (2 ^ 32) → ⊥)
    → (r : Request) → IsRequest r → Stands bytes r → ⊥
none_stands bytes f1 f2 f3 f4 f5 f6 f7 f8 (Adopt a b) i s = f1 (a, i.0, (b, i.1, s))
none_stands bytes f1 f2 f3 f4 f5 f6 f7 f8 (Retire a) i s = f2 (a, i, s)
none_stands bytes f1 f2 f3 f4 f5 f6 f7 f8 (Claim a b) i s = f3 (a, i.0, (b, i.1, s))
none_stands bytes f1 f2 f3 f4 f5 f6 f7 f8 (Alloc a b) i s = f4 (a, i.0, (b, i.1, s))
none_stands bytes f1 f2 f3 f4 f5 f6 f7 f8 (Free a (b, c)) i s = f5 (a, i.0, (b, i.1, (c, i.2, s)))
none_stands bytes f1 f2 f3 f4 f5 f6 f7 f8 (Send a b) i s = f6 (a, i.0, (b, i.1, s))
none_stands bytes f1 f2 f3 f4 f5 f6 f7 f8 (Link a) i s = f7 (a, i, s)
none_stands bytes f1 f2 f3 f4 f5 f6 f7 f8 (Take a) i s = f8 (a, i, s)

gathered : (bytes : List ℕ) → Decided (Two bytes Adopt (2 ^ 32)) → Decided (One bytes Retire (2 ^ 32)) → Decided (Two bytes Claim (2 ^ 32)) → Decided (Two bytes Alloc (2 ^ 32))
    → Decided (Three bytes (λ a b c. Free a (b, c)) (2 ^ 32)) → Decided (Two bytes Send (2 ^ 32)) → Decided (One bytes Link (2 ^ 32)) → Decided (One bytes Take (2 ^ 32))
    → Decided (BeginsWithRequest bytes)
gathered bytes (inl (a, l, (b, m, (more, e)))) d2 d3 d4 d5 d6 d7 d8 = inl (Adopt a b, more, (l, m), e)
gathered bytes (inr f1) (inl (a, l, (more, e))) d3 d4 d5 d6 d7 d8 = inl (Retire a, more, l, e)
gathered bytes (inr f1) (inr f2) (inl (a, l, (b, m, (more, e)))) d4 d5 d6 d7 d8 = inl (Claim a b, more, (l, m), e)
gathered bytes (inr f1) (inr f2) (inr f3) (inl (a, l, (b, m, (more, e)))) d5 d6 d7 d8 = inl (Alloc a b, more, (l, m), e)
gathered bytes (inr f1) (inr f2) (inr f3) (inr f4) (inl (a, l, (b, m, (c, k, (more, e))))) d6 d7 d8 = inl (Free a (b, c), more, (l, m, k), e)
gathered bytes (inr f1) (inr f2) (inr f3) (inr f4) (inr f5) (inl (a, l, (b, m, (more, e)))) d7 d8 = inl (Send a b, more, (l, m), e)
gathered bytes (inr f1) (inr f2) (inr f3) (inr f4) (inr f5) (inr f6) (inl (a, l, (more, e))) d8 = inl (Link a, more, l, e)
gathered bytes (inr f1) (inr f2) (inr f3) (inr f4) (inr f5) (inr f6) (inr f7) (inl (a, l, (more, e))) = inl (Take a, more, l, e)
gathered bytes (inr f1) (inr f2) (inr f3) (inr f4) (inr f5) (inr f6) (inr f7) (inr f8) =
    inr (λ (h : BeginsWithRequest bytes). none_stands bytes f1 f2 f3 f4 f5 f6 f7 f8 h.0 h.2 (h.1, h.3))

-- whether a good line stands at the front
begins : (bytes : List ℕ) → Decided (BeginsWithRequest bytes)
begins bytes = gathered bytes (two bytes Adopt (2 ^ 32)) (one bytes Retire (2 ^ 32)) (two bytes Claim (2 ^ 32)) (two bytes Alloc (2 ^ 32))
    (three bytes (λ a b c. Free a (b, c)) (2 ^ 32)) (two bytes Send (2 ^ 32)) (one bytes Link (2 ^ 32)) (one bytes Take (2 ^ 32))

-- ---- texts

-- how bytes go on behind n lines
pub record GoesOn (n : ℕ) (bytes : List ℕ) : Type 0 where
  pub requests : List Request
  pub rest : List ℕ
  pub end : End
  pub lines : bytes ≡ flat_map request_line requests ++ rest
  pub good : AllByRecursion IsRequest requests
  pub few : n + length requests ≤ 999999
  pub ends : EndsTrace (n + length requests) rest end

goes_over : (n : ℕ) → n ≤ 999999 → GoesOn n []
goes_over n l = record { requests = []; rest = []; end = Whole; lines = refl; good = tt; few = omega arith; ends = refl }

goes_bad : (n x : ℕ) (xs : List ℕ) → n ≤ 999999 → (BeginsWithRequest (x ∷ xs) → ⊥) ⊎ (n ≡ 999999) → GoesOn n (x ∷ xs)
goes_bad n x xs l why = record {
  requests = [];
  rest = x ∷ xs;
  end = BadLine (n + 2);
  lines = refl;
  good = tt;
  few = omega arith;
  ends = ((λ (e : x ∷ xs ≡ []). cc), (let z : n + 2 ≡ n + 0 + 2 = omega arith in z), kept why);
}
  where
    kept : (BeginsWithRequest (x ∷ xs) → ⊥) ⊎ (n ≡ 999999) → (BeginsWithRequest (x ∷ xs) → ⊥) ⊎ (n + 0 ≡ 999999)
    kept (inl f) = inl f
    kept (inr e) = inr (omega arith)

goes_further : (n : ℕ) (bytes more : List ℕ) (r : Request) → n < 999999 → IsRequest r → bytes ≡ spelling r ++ 10 ∷ more → GoesOn (n + 1) more → GoesOn n bytes
goes_further n bytes more r l fits e g = record {
  requests = r ∷ g.requests;
  rest = g.rest;
  end = g.end;
  lines = e ∙ (sym (append_assoc (spelling r) (10 ∷ []) more) ∙ (ap (λ w. request_line r ++ w) g.lines ∙ sym (append_assoc (request_line r) (flat_map request_line g.requests) g.rest)));
  good = (fits, g.good);
  few = let z = g.few in omega (arith, z);
  ends = subst (λ m. EndsTrace m g.rest g.end) (let z : (n + 1) + length g.requests ≡ n + suc (length g.requests) = omega arith in z) g.ends;
}

shorter : (bytes more : List ℕ) (r : Request) → bytes ≡ spelling r ++ 10 ∷ more → length more < length bytes
shorter bytes more r e = let z = ap length e ∙ length-append (spelling r) (10 ∷ more) in omega (arith, z)

goes_step : (fuel n x : ℕ) (xs : List ℕ) → length (x ∷ xs) ≤ suc fuel → n ≤ 999999
    → ((more : List ℕ) → length more ≤ fuel → n + 1 ≤ 999999 → GoesOn (n + 1) more) → GoesOn n (x ∷ xs)
goes_step fuel n x xs l m rec = full (cases_lt n 999999)
  where
    next : n < 999999 → Decided (BeginsWithRequest (x ∷ xs)) → GoesOn n (x ∷ xs)
    next k (inl h) = goes_further n (x ∷ xs) h.1 h.0 k h.2 h.3 (rec h.1 (let s = shorter (x ∷ xs) h.1 h.0 h.3 in omega (arith, s)) (omega arith))
    next k (inr f) = goes_bad n x xs m (inl f)

    full : (n < 999999) ⊎ (999999 ≤ n) → GoesOn n (x ∷ xs)
    full (inl k) = next k (begins (x ∷ xs))
    full (inr k) = goes_bad n x xs m (inr (omega arith))

goes : (fuel n : ℕ) (bytes : List ℕ) → length bytes ≤ fuel → n ≤ 999999 → GoesOn n bytes
goes fuel n [] l m = goes_over n m
goes zero n (x ∷ xs) l m = absurd (omega arith)
goes (suc fuel) n (x ∷ xs) l m = goes_step fuel n x xs l m (λ more k j. goes fuel (n + 1) more k j)

pub goes_on : (n : ℕ) (bytes : List ℕ) → n ≤ 999999 → GoesOn n bytes
goes_on n bytes l = goes (length bytes) n bytes (omega arith) l
