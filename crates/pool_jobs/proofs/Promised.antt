-- What tasks promise of their answers goes through the jobs and the joins of their threads.
use Rattle.std.proofs.Common.{◌≡◌, ℕ, zero, suc, ◌+◌, ◌-◌, ◌<◌, ◌≤◌, List, [], ◌∷◌, ◌++◌, map, length, refl, sym, ap, ◌∙◌, subst, None, Some, Ok, Err, arith}
use Rattle.std.specs.Prelude.{Option, Result, IfOk, IfSome, IsSome, IsSomeAnd, MatchOption}
use Rattle.pool_jobs.specs.Promises.{FirstHave}
use Rattle.std.proofs.lemmas.List.{append-nil}
use Rattle.std.proofs.lemmas.Slice.Zip.{AllZip-long}
use Rattle.std.specs.List.{AllZip}

pub through : {A B C : Type 0} (R : A → B → Type 0) (Q : B → C → Type 0) (P : A → C → Type 0) → ((x : A) (y : B) (z : C) → R x y → Q y z → P x z)
    → (xs : List A) (ys : List B) (zs : List C) → AllZip R xs ys → AllZip Q ys zs → AllZip P xs zs
through R Q P f [] [] [] r q = tt
through R Q P f [] [] (z ∷ zs) r q = absurd q
through R Q P f [] (y ∷ ys) zs r q = absurd r
through R Q P f (x ∷ xs) [] zs r q = absurd r
through R Q P f (x ∷ xs) (y ∷ ys) [] r q = absurd q
through R Q P f (x ∷ xs) (y ∷ ys) (z ∷ zs) r q = (f x y z r.0 q.0, through R Q P f xs ys zs r.1 q.1)

-- What jobs promised is kept by what their joins gave, where no fault was met on the way.
pub kept : {J H O V E F : Type 0} (r : Result V E) (gives : J → O → Type 0) (job : H → J) (outs : V → List O)
    (yielded jobs : List J) (handles : List H) (fault : Option F) → yielded ≡ jobs
    → (fault ≡ None → AllZip (λ j h. job h ≡ j) yielded handles)
    → IfOk r (λ v. AllZip (λ h o. gives (job h) o) handles (outs v)) → IfOk r (λ _. fault ≡ None)
    → IfOk r (λ v. AllZip gives jobs (outs v))
kept (Err e) gives job outs yielded jobs handles fault all begun given none = tt
kept {J} {H} {O} (Ok v) gives job outs yielded jobs handles fault all begun given none =
    subst (λ js. AllZip gives js (outs v)) all
    (through (λ (j : J) (h : H). job h ≡ j) (λ (h : H) (o : O). gives (job h) o) gives (λ j h o is g. subst (λ x. gives x o) is g) yielded handles (outs v) (begun none) given)

-- one more was taken from the rest
pub taken_one : {P T : Type 0} (f : P → T) (taken : List P) (p : P) (rest left all : List T) → map f taken ++ rest ≡ all → rest ≡ f p ∷ left
    → map f (taken ++ p ∷ []) ++ left ≡ all
taken_one {P} {T} f taken p rest left all were is = shifts taken ∙ ap (λ r. map f taken ++ r) (sym is) ∙ were
  where
    shifts : (ys : List P) → map f (ys ++ p ∷ []) ++ left ≡ map f ys ++ f p ∷ left
    shifts [] = refl
    shifts (y ∷ ys) = ap (λ r. f y ∷ r) (shifts ys)

-- a relation to what a function gives is one to the function's list
pub mapped : {P T J : Type 0} (f : P → T) (R : T → J → Type 0) (ps : List P) (js : List J) → AllZip (λ p j. R (f p) j) ps js → AllZip R (map f ps) js
mapped f R [] [] r = tt
mapped f R [] (j ∷ js) r = absurd r
mapped f R (p ∷ ps) [] r = absurd r
mapped f R (p ∷ ps) (j ∷ js) r = (r.0, mapped f R ps js r.1)

-- one job more, with a worker as long as there is one
pub one_more_job : {J W : Type 0} (worker : J → Option W) (n : ℕ) (jobs : List J) (j : J) → FirstHave worker n jobs
    → (length jobs < n → IsSome (worker j)) → (n ≤ length jobs → worker j ≡ None) → FirstHave worker n (jobs ++ j ∷ [])
one_more_job worker zero [] j h some none = (none (omega arith), tt)
one_more_job worker (suc n) [] j h some none = (some (omega arith), tt)
one_more_job worker zero (x ∷ jobs) j h some none = (h.0, one_more_job worker zero jobs j h.1 (λ l. absurd (omega arith)) (λ l. none (omega arith)))
one_more_job worker (suc n) (x ∷ jobs) j h some none = (h.0, one_more_job worker n jobs j h.1 (λ l. some (omega arith)) (λ l. none (omega arith)))

pub none_unless : {W : Type 0} (o : Option W) → (IsSome o → ⊥) → o ≡ None
none_unless None never = refl
none_unless (Some w) never = absurd (never refl)

-- one fewer is left, as long as any is
pub one_fewer : {W : Type 0} (o : Option W) (Q : W → Type 0) (before after n k : ℕ) → MatchOption o ((before ≡ 0) × (after ≡ 0)) (λ w. Q w × (after + 1 ≡ before))
    → before ≡ n - k → after ≡ n - (k + 1)
one_fewer None Q before after n k m is = let a = m.0 in let b = m.1 in omega arith
one_fewer (Some w) Q before after n k m is = let a = m.1 in omega arith

-- all were taken where none is left
pub all_taken : {T : Type 0} (taken rest all : List T) → taken ++ rest ≡ all → length rest ≡ 0 → taken ≡ all
all_taken taken [] all is none = sym (append-nil taken) ∙ is
all_taken taken (x ∷ rest) all is none = absurd (omega arith)

-- as many were joined as there are jobs
pub each_kept : {J O V E : Type 0} (r : Result V E) (gives : J → O → Type 0) (outs : V → List O) (jobs : List J)
    → IfOk r (λ v. AllZip gives jobs (outs v)) → IfOk r (λ v. length (outs v) ≡ length jobs)
each_kept (Err e) gives outs jobs h = tt
each_kept (Ok v) gives outs jobs h = AllZip-long gives jobs (outs v) h

-- what holds of what a call passed on
pub passed_on : {V X E : Type 0} (r : Result V E) (part : V → X) (P : X → Type 0) (x : X) → P x → IfOk r (λ v. part v ≡ x) → IfOk r (λ v. P (part v))
passed_on (Err e) part P x p is = tt
passed_on (Ok v) part P x p is = subst P (sym is) p

-- A job with a worker gives an answer as promised, and one without gives none.
abbrev pub AsPromised : {T A W : Type 0} → (T → A → Type 0) → T → Option W → Option A → Type 0
AsPromised gives t worker answer = MatchOption worker (answer ≡ None) (λ _. IsSomeAnd answer (gives t))

module _ {T J R A W : Type 0} (gives : T → A → Type 0) (task : J → T) (worker : J → Option W) (answer : R → Option A) where
  kept_by_one : (t : T) (w : Option W) (a : Option A) → AsPromised gives t w a → IfSome a (gives t)
  kept_by_one t None a m = subst (λ o. IfSome o (gives t)) (sym m) tt
  kept_by_one t (Some w) None m = tt
  kept_by_one t (Some w) (Some x) m = m

  has_one : (t : T) (w : Option W) (a : Option A) → AsPromised gives t w a → IsSome w → IsSome a
  has_one t None a m some = absurd (cc)
  has_one t (Some w) None m some = absurd m
  has_one t (Some w) (Some x) m some = refl

  has_none : (t : T) (w : Option W) (a : Option A) → AsPromised gives t w a → w ≡ None → a ≡ None
  has_none t None a m none = m
  has_none t (Some w) a m none = absurd (cc)

  -- each answer is what its task promises
  pub promised_by : (tasks : List T) (jobs : List J) (results : List R) → AllZip (λ t j. task j ≡ t) tasks jobs
      → AllZip (λ j r. AsPromised gives (task j) (worker j) (answer r)) jobs results → AllZip (λ t r. IfSome (answer r) (gives t)) tasks results
  promised_by tasks jobs results =
      through (λ (t : T) (j : J). task j ≡ t) (λ (j : J) (r : R). AsPromised gives (task j) (worker j) (answer r)) (λ t r. IfSome (answer r) (gives t))
      (λ t j r is h. subst (λ x. IfSome (answer r) (gives x)) is (kept_by_one (task j) (worker j) (answer r) h)) tasks jobs results

  -- those with a worker have an answer
  pub begun_by : (n : ℕ) (jobs : List J) (results : List R) → FirstHave worker n jobs
      → AllZip (λ j r. AsPromised gives (task j) (worker j) (answer r)) jobs results → FirstHave answer n results
  begun_by n [] [] w h = tt
  begun_by n [] (r ∷ rs) w h = absurd h
  begun_by n (j ∷ js) [] w h = absurd h
  begun_by zero (j ∷ js) (r ∷ rs) w h = (has_none (task j) (worker j) (answer r) h.0 w.0, begun_by zero js rs w.1 h.1)
  begun_by (suc n) (j ∷ js) (r ∷ rs) w h = (has_one (task j) (worker j) (answer r) h.0 w.0, begun_by n js rs w.1 h.1)

-- the answers alone

pub promised_answers : {T R A : Type 0} (gives : T → A → Type 0) (answer : R → Option A) (tasks : List T) (results : List R)
    → AllZip (λ t r. IfSome (answer r) (gives t)) tasks results → AllZip (λ t a. IfSome a (gives t)) tasks (map answer results)
promised_answers gives answer [] [] h = tt
promised_answers gives answer [] (r ∷ rs) h = absurd h
promised_answers gives answer (t ∷ ts) [] h = absurd h
promised_answers gives answer (t ∷ ts) (r ∷ rs) h = (h.0, promised_answers gives answer ts rs h.1)

pub begun_answers : {R A : Type 0} (answer : R → Option A) (n : ℕ) (results : List R) → FirstHave answer n results → FirstHave (λ a. a) n (map answer results)
begun_answers answer n [] h = tt
begun_answers answer zero (r ∷ rs) h = (h.0, begun_answers answer zero rs h.1)
begun_answers answer (suc n) (r ∷ rs) h = (h.0, begun_answers answer n rs h.1)
