-- The steps of handling a batch.
use Rattle.std.proofs.Common.{◌≡◌, ℕ, suc, ◌+◌, ◌-◌, ◌^◌, true, false, eqb, List, [], ◌∷◌, ◌++◌, refl, sym, ap, subst, ◌∙◌, arith, append_assoc, append-nil, All, IsPermutation, map}
use Rattle.std.specs.Prelude.{Bool, Contains, ◌<◌, ◌≤◌, length}
use Rattle.std.proofs.lemmas.Bool.{eq-eqb, ne_eqb}
use Rattle.std.proofs.lemmas.List.{length-append, map-append}
use Rattle.std.proofs.lemmas.List.Elements.{All-cons, All-nil, All-weaker, All-contains, All-contains_itself, Contains-append_left, Contains-append_right, Contains-push, filter-append}
use Rattle.std.proofs.lemmas.List.Sorted.{IsPermutation-refl, IsPermutation-trans, IsPermutation-append_right}
use Rattle.slot_chain.specs.Buffer.{Buffer}
use Rattle.slot_chain.specs.Counts.{capped}
use Rattle.digit_route.specs.Digits.{IsScheme, Scheme, count}
use Rattle.digit_route.specs.SharedDigits.{SharedAtMostAll, SharedByEquals}
use Rattle.digit_route.specs.Route.{IsWellRouted}
use Rattle.pool_desk.specs.declared.counts.Counts.{Counts}
use Rattle.pool_desk.specs.Homes.{comes_home}
use Rattle.pool_desk.specs.Desks.{DeskState}
use Rattle.pool_desk.specs.Steps.{Handles, CountsOf, own, others, passed_on}
use Rattle.pool_desk.specs.Handling.{Adds, IsPassed, GoesHome, GoesOn}

-- what of a batch is handled, what was counted, and what is left of it
pub record Handled (old : DeskState) (before : Counts) (batch rest : List Buffer) (new : DeskState) (after : Counts) : Type 0 where
  pub done : List Buffer
  pub parts : batch ≡ rest ++ done
  pub handled : Handles old done new
  pub counted : Adds old.number done before after
  pub passed : All (IsPassed old.digits old.number) rest

pub IsPassed-routed : (s : Scheme) (from a : ℕ) (items : List Buffer) → IsWellRouted s from a items → All (IsPassed s a) items
IsPassed-routed s from a items h = λ k d l.
    let low = h.forwards k d l in
    let more = h.nearer k d l in
    record { in_range = h.in_range k d l; forwards = omega arith }

pub All-append_left : {X : Type 0} (P : X → Type 0) (xs ys : List X) → All P (xs ++ ys) → All P xs
All-append_left P xs ys h =
    All-weaker (Contains xs) P (λ x c. All-contains P (xs ++ ys) x h (Contains-append_left xs ys x c)) xs (All-contains_itself xs)

pub All-last : {X : Type 0} (P : X → Type 0) (xs : List X) (x : X) → All P (xs ++ x ∷ []) → P x
All-last P xs x h = All-contains P (xs ++ x ∷ []) x h (Contains-push xs x)

-- one more in front
pub more : {X : Type 0} (x : X) (xs old mid new : List X) → IsPermutation (xs ++ old) mid → IsPermutation (x ∷ mid) new → IsPermutation (x ∷ (xs ++ old)) new
more x xs old mid new p q = IsPermutation-trans _ _ _ (IsPermutation-append_right (x ∷ []) _ _ p) q

pub Handles-none : (d : DeskState) → Handles d [] d
Handles-none d = record { same = refl; home = IsPermutation-refl d.home; cached = IsPermutation-refl d.cached }

pub Handles-own : (old mid new : DeskState) (done : List Buffer) (b : Buffer) → Handles old done mid → GoesHome mid b new → Handles old (b ∷ done) new
Handles-own old mid new done b h g =
    let number : mid.number ≡ old.number = ap (λ (d : DeskState). d.number) h.same in
    let cached : new.cached ≡ mid.cached = ap (λ (d : DeskState). d.cached) g.same in
    let test : eqb b.owner old.number ≡ true = eq-eqb _ _ (g.own ∙ number) in
    record {
      same = g.same ∙ (ap (λ (d : DeskState). record d { home = new.home }) h.same ∙ ap (λ c. record old { home = new.home; cached = c }) (sym cached));
      home = rw test (more (comes_home b) _ old.home mid.home new.home h.home g.home);
      cached = rw (test, cached) h.cached;
    }

pub Handles-other : (old mid new : DeskState) (done : List Buffer) (b : Buffer) → Handles old done mid → GoesOn mid b new → Handles old (b ∷ done) new
Handles-other old mid new done b h g =
    let number : mid.number ≡ old.number = ap (λ (d : DeskState). d.number) h.same in
    let home : new.home ≡ mid.home = ap (λ (d : DeskState). d.home) g.same in
    let test : eqb b.owner old.number ≡ false = ne_eqb _ _ (λ e. g.other (e ∙ sym number)) in
    record {
      same = g.same ∙ (ap (λ (d : DeskState). record d { cached = new.cached }) h.same ∙ ap (λ c. record old { home = c; cached = new.cached }) (sym home));
      home = rw (test, home) h.home;
      cached = rw test (more (passed_on b) _ old.cached mid.cached new.cached h.cached g.cached);
    }

pub Adds-none : (a : ℕ) (c : Counts) → c.home < 2 ^ 64 → c.on < 2 ^ 64 → Adds a [] c c
Adds-none a c h o = record { home = omega arith; on = omega arith }

-- some, and then those before them
pub Handles-join : (old mid new : DeskState) (xs ys : List Buffer) → Handles old xs mid → Handles mid ys new → Handles old (ys ++ xs) new
Handles-join old mid new xs ys h g =
    let number : mid.number ≡ old.number = ap (λ (d : DeskState). d.number) h.same in
    let mine = rw number at g.home in
    let theirs = rw number at g.cached in
    record {
      same = rw h.same at g.same;
      home = rw (filter-append, map-append, append_assoc) (IsPermutation-trans _ _ _ (IsPermutation-append_right _ _ _ h.home) mine);
      cached = rw (filter-append, map-append, append_assoc) (IsPermutation-trans _ _ _ (IsPermutation-append_right _ _ _ h.cached) theirs);
    }

pub Adds-join : (a : ℕ) (xs ys : List Buffer) (c d e : Counts) → Adds a xs c d → Adds a ys d e → Adds a (ys ++ xs) c e
Adds-join a xs ys c d e h g =
    let mine = length-append (own a ys) (own a xs) in
    let theirs = length-append (others a ys) (others a xs) in
    let m = h.home in let n = g.home in let o = h.on in let p = g.on in
    record { home = rw filter-append (omega arith); on = rw filter-append (omega arith) }

-- the last of what is left is handled
pub Handled-more : (old mid new : DeskState) (batch rest bs : List Buffer) (c d e : Counts) → Handled old c batch (rest ++ bs) mid d
    → Handles mid bs new → Adds mid.number bs d e → Handled old c batch rest new e
Handled-more old mid new batch rest bs c d e h g a =
    let number : mid.number ≡ old.number = ap (λ (d : DeskState). d.number) h.handled.same in
    record {
      done = bs ++ h.done;
      parts = h.parts ∙ append_assoc rest bs h.done;
      handled = Handles-join old mid new h.done bs h.handled g;
      counted = Adds-join old.number h.done bs c d e h.counted (rw number at a);
      passed = All-append_left (IsPassed old.digits old.number) rest bs h.passed;
    }

-- what of an array is handled, and how much of it is passed on
pub record HandledOf (old : DeskState) (array rest : List Buffer) (new : DeskState) (on : ℕ) : Type 0 where
  pub done : List Buffer
  pub parts : array ≡ rest ++ done
  pub handled : Handles old done new
  pub on_is : on ≡ length (others old.number done)
  pub most : on + length rest ≤ length array
  pub passed : All (IsPassed old.digits old.number) rest

pub HandledOf-none : (d : DeskState) (array : List Buffer) → All (IsPassed d.digits d.number) array → HandledOf d array array d 0
HandledOf-none d array p = record { done = []; parts = sym (append-nil array); handled = Handles-none d; on_is = refl; most = omega arith; passed = p }

-- one buffer more, of which it is known whether it is passed on
HandledOf-more : (old mid new : DeskState) (array left rest : List Buffer) (b : Buffer) (on on' : ℕ) (h : HandledOf old array left mid on) → left ≡ rest ++ b ∷ []
    → Handles old (b ∷ h.done) new → on' ≡ length (others old.number (b ∷ h.done)) → on' ≤ on + 1 → HandledOf old array rest new on'
HandledOf-more old mid new array left rest b on on' h is handled on_is le =
    let len = length-append rest (b ∷ []) in let most = rw is at h.most in
    record {
      done = b ∷ h.done;
      parts = h.parts ∙ (ap (λ l. l ++ h.done) is ∙ append_assoc rest (b ∷ []) h.done);
      handled = handled;
      on_is = on_is;
      most = omega (arith, len, most, le);
      passed = All-append_left (IsPassed old.digits old.number) rest (b ∷ []) (rw is at h.passed);
    }

-- one buffer more came home
pub HandledOf-home : (old mid new : DeskState) (array left rest : List Buffer) (b : Buffer) (on : ℕ) → HandledOf old array left mid on → left ≡ rest ++ b ∷ []
    → GoesHome mid b new → HandledOf old array rest new on
HandledOf-home old mid new array left rest b on h is g =
    let test : eqb b.owner old.number ≡ true = eq-eqb _ _ (g.own ∙ ap (λ (d : DeskState). d.number) h.handled.same) in
    HandledOf-more old mid new array left rest b on on h is (Handles-own old mid new h.done b h.handled g) (rw test h.on_is) (omega arith)

-- one buffer more is passed on
pub HandledOf-on : (old mid new : DeskState) (array left rest : List Buffer) (b : Buffer) (on : ℕ) → HandledOf old array left mid on → left ≡ rest ++ b ∷ []
    → GoesOn mid b new → HandledOf old array rest new (on + 1)
HandledOf-on old mid new array left rest b on h is g =
    let test : eqb b.owner old.number ≡ false = ne_eqb _ _ (λ e. g.other (e ∙ sym (ap (λ (d : DeskState). d.number) h.handled.same))) in
    let on_is = h.on_is in
    HandledOf-more old mid new array left rest b on (on + 1) h is (Handles-other old mid new h.done b h.handled g) (rw test (omega (arith, on_is))) (omega arith)

-- where the last of what is left is another's, it may be passed on
pub last_passed_of : (old mid : DeskState) (array left rest : List Buffer) (b : Buffer) (on : ℕ) → HandledOf old array left mid on → left ≡ rest ++ b ∷ []
    → IsPassed mid.digits mid.number b
last_passed_of old mid array left rest b on h is =
    let number : mid.number ≡ old.number = ap (λ (d : DeskState). d.number) h.handled.same in
    let digits : mid.digits ≡ old.digits = ap (λ (d : DeskState). d.digits) h.handled.same in
    rw (number, digits) (All-last (IsPassed old.digits old.number) rest b (rw is at h.passed))

-- each buffer is a's own, or it isn't
own_or_not_one : (a : ℕ) (b : Buffer) (bs : List Buffer) (r : Bool) → eqb b.owner a ≡ r → length (own a bs) + length (others a bs) ≡ length bs
    → length (own a (b ∷ bs)) + length (others a (b ∷ bs)) ≡ length (b ∷ bs)
own_or_not_one a b bs true e h = rw e (omega (arith, h))
own_or_not_one a b bs false e h = rw e (omega (arith, h))

pub own_or_not : (a : ℕ) (bs : List Buffer) → length (own a bs) + length (others a bs) ≡ length bs
own_or_not a [] = refl
own_or_not a (b ∷ bs) = own_or_not_one a b bs (eqb b.owner a) refl (own_or_not a bs)

none_left : (bs : List Buffer) → length bs ≡ 0 → bs ≡ []
none_left [] e = refl
none_left (b ∷ bs) e = absurd (omega (arith, e))

-- an array is handled: what is no other's came home
pub Adds-array : (old new : DeskState) (array left : List Buffer) (on : ℕ) (c e : Counts) → HandledOf old array left new on → length left ≡ 0
    → e.home ≡ capped (c.home + (length array - on)) → e.on ≡ capped (c.on + on) → Handles old array new × Adds old.number array c e
Adds-array old new array left on c e g none home passed =
    let h = subst (λ bs. HandledOf old array bs new on) (none_left left none) g in
    let all = own_or_not old.number h.done in
    let most = h.on_is in
    rw h.parts (h.handled, record { home = rw h.parts at home ∙ ap (λ n. capped (c.home + n)) (omega (arith, all, most)); on = passed ∙ ap (λ n. capped (c.on + n)) h.on_is })

pub all_own : (a : ℕ) (bs : List Buffer) → All (λ (b : Buffer). b.owner ≡ a) bs → (own a bs ≡ bs) × (others a bs ≡ [])
all_own a [] h = (refl, refl)
all_own a (b ∷ bs) h =
    let test : eqb b.owner a ≡ true = eq-eqb _ _ (h 0 b (omega arith)) in
    let rest = all_own a bs (λ k d l. h (suc k) d (omega (arith, l))) in
    (rw test (ap (λ xs. b ∷ xs) rest.0), rw test rest.1)

-- own buffers alone come home
pub Handles-all_own : (old new : DeskState) (bs : List Buffer) → All (λ (b : Buffer). b.owner ≡ old.number) bs → new ≡ record old { home = new.home }
    → IsPermutation (map comes_home bs ++ old.home) new.home → Handles old bs new
Handles-all_own old new bs h same p =
    let parts = all_own old.number bs h in
    let cached : new.cached ≡ old.cached = ap (λ (d : DeskState). d.cached) same in
    record {
      same = same ∙ ap (λ c. record old { home = new.home; cached = c }) (sym cached);
      home = rw parts.0 p;
      cached = rw (parts.1, cached) (IsPermutation-refl old.cached);
    }

-- where a number has one digit, what may be passed to a is a's own
pub passed_own : (s : Scheme) (a : ℕ) (bs : List Buffer) → count s ≡ 1 → IsScheme s → a < 2 ^ s.bits → SharedAtMostAll → SharedByEquals
    → All (IsPassed s a) bs → All (λ (b : Buffer). b.owner ≡ a) bs
passed_own s a bs one scheme within most equal h =
    All-weaker (IsPassed s a) (λ (b : Buffer). b.owner ≡ a)
    (λ b p. let le = most s b.owner a in let below = p.forwards in (equal s b.owner a scheme p.in_range within).0 (omega (arith, one, le, below))) bs h

pub Adds-own : (a : ℕ) (bs : List Buffer) (c e : Counts) → All (λ (b : Buffer). b.owner ≡ a) bs → e.home ≡ capped (c.home + length bs) → e.on ≡ capped (c.on + 0) → Adds a bs c e
Adds-own a bs c e h home on = let parts = all_own a bs h in record { home = rw parts.0 home; on = rw parts.1 on }

-- what is left may still be handled by the desk as it is now
pub still_passed : (old mid : DeskState) (batch rest : List Buffer) (c d : Counts) → Handled old c batch rest mid d → All (IsPassed mid.digits mid.number) rest
still_passed old mid batch rest c d h =
    let number : mid.number ≡ old.number = ap (λ (x : DeskState). x.number) h.handled.same in
    let digits : mid.digits ≡ old.digits = ap (λ (x : DeskState). x.digits) h.handled.same in
    rw (number, digits) h.passed

pub Handled-none : (d : DeskState) (c : Counts) (batch : List Buffer) → c.home < 2 ^ 64 → c.on < 2 ^ 64 → All (IsPassed d.digits d.number) batch → Handled d c batch batch d c
Handled-none d c batch h o p = record {
  done = [];
  parts = sym (append-nil batch);
  handled = Handles-none d;
  counted = Adds-none d.number c h o;
  passed = p;
}

-- one buffer more, the last of what is left, came home
pub Handled-home : (old mid new : DeskState) (batch left rest : List Buffer) (b : Buffer) (c d e : Counts) → Handled old c batch left mid d → left ≡ rest ++ b ∷ []
    → GoesHome mid b new → e.home ≡ capped (d.home + 1) → e.on ≡ capped (d.on + 0) → Handled old c batch rest new e
Handled-home old mid new batch left rest b c d e h is g home on =
    Handled-more old mid new batch rest (b ∷ []) c d e (rw is at h) (Handles-own mid mid new [] b (Handles-none mid) g)
    (Adds-own mid.number (b ∷ []) d e (All-cons (λ (x : Buffer). x.owner ≡ mid.number) b [] g.own (All-nil _)) home on)

-- one buffer more, the last of what is left, is passed on
pub Handled-on : (old mid new : DeskState) (batch left rest : List Buffer) (b : Buffer) (c d e : Counts) → Handled old c batch left mid d → left ≡ rest ++ b ∷ []
    → GoesOn mid b new → e.home ≡ capped (d.home + 0) → e.on ≡ capped (d.on + 1) → Handled old c batch rest new e
Handled-on old mid new batch left rest b c d e h is g home on =
    let test : eqb b.owner mid.number ≡ false = ne_eqb _ _ g.other in
    Handled-more old mid new batch rest (b ∷ []) c d e (rw is at h) (Handles-other mid mid new [] b (Handles-none mid) g)
    (record { home = rw test home; on = rw test on })

-- the last of what is left may be handled by the desk as it is now
pub last_passed : (old mid : DeskState) (batch left rest : List Buffer) (b : Buffer) (c d : Counts) → Handled old c batch left mid d → left ≡ rest ++ b ∷ [] → IsPassed mid.digits mid.number b
last_passed old mid batch left rest b c d h is =
    All-last (IsPassed mid.digits mid.number) rest b (rw is at (still_passed old mid batch left c d h))

pub last_all_passed : (old mid : DeskState) (batch left rest bs : List Buffer) (c d : Counts) → Handled old c batch left mid d → left ≡ rest ++ bs → All (IsPassed mid.digits mid.number) bs
last_all_passed old mid batch left rest bs c d h is =
    let all : All (IsPassed mid.digits mid.number) (rest ++ bs) = rw is at (still_passed old mid batch left c d h) in
    All-weaker (Contains bs) (IsPassed mid.digits mid.number) (λ x k. All-contains (IsPassed mid.digits mid.number) (rest ++ bs) x all (Contains-append_right rest bs x k)) bs (All-contains_itself bs)

-- all that was left is handled
pub Handled-all : (old new : DeskState) (batch : List Buffer) (c e : Counts) → Handled old c batch [] new e → Handles old batch new × Adds old.number batch c e
Handled-all old new batch c e h = rw h.parts (h.handled, h.counted)

-- counted from none on
pub CountsOf-added : (a : ℕ) (bs : List Buffer) (c : Counts) → Adds a bs (record { home = 0; on = 0 }) c → CountsOf a bs c
CountsOf-added a bs c h =
    let m = h.home in
    let o = h.on in
    record { home = omega arith; on = omega arith }

-- a chain without its last buffer is shorter
pub fewer_in : (list rest : List Buffer) (b : Buffer) → list ≡ rest ++ b ∷ [] → length rest < length list
fewer_in list rest b is = let l = length-append rest (b ∷ []) in rw is (omega (arith, l))
