-- One home among the homes of the classes is taken up and put back.
use Rattle.std.proofs.Common.{◌≡◌, ℕ, ◌<◌, List, ◌++◌, IsPermutation, length, get_or, set, take, drop, sym, ap, ◌∙◌, subst}
use Rattle.std.specs.Prelude.{All, Option, Some, None, MatchOption, Result, Ok, Err, MatchResult, map}
use Rattle.std.specs.List.{refill}
use Rattle.std.proofs.lemmas.List.{get_or-set_same, get_or_default, length-set, set-get_or}
use Rattle.std.proofs.Math.Seq.{take-append_seam}
use Rattle.slot_chain.specs.Buffer.{Buffer}
use Rattle.slot_chain.specs.Parcels.{ParcelState}
use Rattle.pool_desk.specs.declared.error.DeskError.{DeskError}
use Rattle.region_cut.specs.declared.part.Part.{Part}
use Rattle.pool_desk.specs.Homes.{AtHome, HomeState, Draws, GivesOne, IsReady, IsRefused}
use Rattle.pool_desk.specs.Homes.AtHome.{Kept}
use Rattle.pool_desk.specs.HomesState.{home_at, no_home}
use Rattle.pool_desk.specs.Spares.{IsFitting}
use Rattle.pool_desk.proofs.ByClassLaws.{claimed, TakesAt}

-- the homes after n took the place of the home k
abbrev pub put_back : List HomeState → List HomeState → ℕ → HomeState → List HomeState
put_back hs ds k n = refill (length hs) hs (set ds k n)

pub put_is : (hs ds : List HomeState) (k : ℕ) (n : HomeState) → ds ≡ hs → put_back hs ds k n ≡ set hs k n
put_is hs ds k n e =
    let same : length (set ds k n) ≡ length hs = length-set ds k n ∙ ap length e in
    subst (λ (m : ℕ). take m (set ds k n ++ drop (length (set ds k n)) hs) ≡ set ds k n) same (take-append_seam (set ds k n) _)
    ∙ ap (λ (z : List HomeState). set z k n) e

pub put_at : (hs ds : List HomeState) (k : ℕ) (n : HomeState) → ds ≡ hs → k < length hs → home_at (put_back hs ds k n) k ≡ n
put_at hs ds k n e l = ap (λ (z : List HomeState). home_at z k) (put_is hs ds k n e) ∙ get_or-set_same hs k n no_home l

-- the home that was taken up
pub taken_up : (hs ds : List HomeState) (k : ℕ) (r : HomeState) → ds ≡ hs → k < length hs → get_or ds k r ≡ home_at hs k
taken_up hs ds k r e l = ap (λ (z : List HomeState). get_or z k r) e ∙ get_or_default hs k r no_home l

pub put_same : (hs ds : List HomeState) (k : ℕ) (n m : HomeState) → ds ≡ hs → n ≡ m → put_back hs ds k n ≡ set hs k m
put_same hs ds k n m e same = put_is hs ds k n e ∙ ap (set hs k) same

-- a home that gave a slot
pub put_given : (hs ds : List HomeState) (k : ℕ) (g n : HomeState) → ds ≡ hs → k < length hs → g ≡ home_at hs k
    → n ≡ record g { slots = n.slots; drawn = n.drawn }
    → put_back hs ds k n ≡ set hs k (record (home_at hs k) { slots = (home_at (put_back hs ds k n) k).slots; drawn = (home_at (put_back hs ds k n) k).drawn })
put_given hs ds k g n e l is same =
    put_same hs ds k n _ e (same ∙ (ap (λ (z : HomeState). record z { slots = n.slots; drawn = n.drawn }) is
    ∙ ap (λ (z : HomeState). record (home_at hs k) { slots = z.slots; drawn = z.drawn }) (sym (put_at hs ds k n e l))))

-- a home that a buffer came to
pub put_kept : (hs ds : List HomeState) (k : ℕ) (g n : HomeState) → ds ≡ hs → k < length hs → g ≡ home_at hs k
    → n ≡ record g { slots = n.slots } → put_back hs ds k n ≡ set hs k (record (home_at hs k) { slots = (home_at (put_back hs ds k n) k).slots })
put_kept hs ds k g n e l is same =
    put_same hs ds k n _ e (same ∙ (ap (λ (z : HomeState). record z { slots = n.slots }) is
    ∙ ap (λ (z : HomeState). record (home_at hs k) { slots = z.slots }) (sym (put_at hs ds k n e l))))

pub put_keeps : (hs ds : List HomeState) (k : ℕ) (g n : HomeState) (come : List AtHome) → ds ≡ hs → k < length hs → g ≡ home_at hs k
    → IsPermutation (come ++ g.slots) n.slots → IsPermutation (come ++ (home_at hs k).slots) (home_at (put_back hs ds k n) k).slots
put_keeps hs ds k g n come e l is p =
    subst (λ (z : HomeState). IsPermutation (come ++ (home_at hs k).slots) z.slots) (sym (put_at hs ds k n e l))
    (subst (λ (z : HomeState). IsPermutation (come ++ z.slots) n.slots) is p)

-- a home that gave an array
pub put_takes : (hs ds : List HomeState) (k most places : ℕ) (g n : HomeState) (o : Option ParcelState) → ds ≡ hs → k < length hs → g ≡ home_at hs k
    → MatchOption o (n ≡ g) (λ a. IsFitting most places a × All (IsReady g.owner g.class) a.items
    × IsPermutation g.slots (map {A = Buffer} {B = AtHome} (λ x. Kept x) a.items ++ n.slots))
    → TakesAt most places k hs o (put_back hs ds k n)
put_takes hs ds k most places g n None e l is h = put_same hs ds k n (home_at hs k) e (h ∙ is) ∙ set-get_or hs k no_home
put_takes hs ds k most places g n (Some a) e l is h = (
  h.0,
  subst (λ (z : HomeState). All (IsReady z.owner z.class) a.items) is h.1,
  subst (λ (z : HomeState). IsPermutation (home_at hs k).slots (map {A = Buffer} {B = AtHome} (λ x. Kept x) a.items ++ z.slots)) (sym (put_at hs ds k n e l))
      (subst (λ (z : HomeState). IsPermutation z.slots (map {A = Buffer} {B = AtHome} (λ x. Kept x) a.items ++ n.slots)) is h.2),
)

-- a home that stays as it is
pub put_none : (hs ds : List HomeState) (k : ℕ) (g n : HomeState) → ds ≡ hs → g ≡ home_at hs k → n ≡ g → put_back hs ds k n ≡ hs
put_none hs ds k g n e is same = put_same hs ds k n (home_at hs k) e (same ∙ is) ∙ set-get_or hs k no_home

-- a home that took a part
pub put_claimed : (hs ds : List HomeState) (k : ℕ) (g n : HomeState) (part : Part) → ds ≡ hs → k < length hs → g ≡ home_at hs k
    → n ≡ record g { slots = claimed part g.class; drawn = n.drawn }
    → put_back hs ds k n ≡ set hs k (record (home_at hs k) { slots = claimed part (home_at hs k).class; drawn = (home_at (put_back hs ds k n) k).drawn })
put_claimed hs ds k g n part e l is same =
    put_same hs ds k n _ e (same ∙ (ap (λ (z : HomeState). record z { slots = claimed part z.class; drawn = n.drawn }) is
    ∙ ap (λ (z : HomeState). record (home_at hs k) { slots = claimed part (home_at hs k).class; drawn = z.drawn }) (sym (put_at hs ds k n e l))))

pub put_drawn : (hs ds : List HomeState) (k : ℕ) (g n : HomeState) (part : Part) → ds ≡ hs → k < length hs → g ≡ home_at hs k
    → Draws part g.class g.drawn n.drawn → Draws part (home_at hs k).class (home_at hs k).drawn (home_at (put_back hs ds k n) k).drawn
put_drawn hs ds k g n part e l is d =
    subst (λ (z : HomeState). Draws part (home_at hs k).class (home_at hs k).drawn z.drawn) (sym (put_at hs ds k n e l))
    (subst (λ (z : HomeState). Draws part z.class z.drawn n.drawn) is d)

-- what the home gave or refused, told of the homes
pub put_gives : (hs ds : List HomeState) (k : ℕ) (g n : HomeState) (r : Result Buffer DeskError) → ds ≡ hs → k < length hs → g ≡ home_at hs k
    → MatchResult r (λ b. GivesOne g.owner g.class g.slots b n.slots g.drawn n.drawn) (λ e. IsRefused g.class g.slots e × (n ≡ g))
    → MatchResult r (λ b. GivesOne (home_at hs k).owner (home_at hs k).class (home_at hs k).slots b (home_at (put_back hs ds k n) k).slots
    (home_at hs k).drawn (home_at (put_back hs ds k n) k).drawn)
    (λ e. IsRefused (home_at hs k).class (home_at hs k).slots e × (put_back hs ds k n ≡ hs))
put_gives hs ds k g n (Ok b) e l is h =
    subst (λ (z : HomeState). GivesOne (home_at hs k).owner (home_at hs k).class (home_at hs k).slots b z.slots (home_at hs k).drawn z.drawn) (sym (put_at hs ds k n e l))
    (subst (λ (z : HomeState). GivesOne z.owner z.class z.slots b n.slots z.drawn n.drawn) is h)
put_gives hs ds k g n (Err x) e l is h =
    (subst (λ (z : HomeState). IsRefused z.class z.slots x) is h.0, put_same hs ds k n (home_at hs k) e (h.1 ∙ is) ∙ set-get_or hs k no_home)
