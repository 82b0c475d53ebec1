-- What the loops of this crate keep.
use Rattle.std.specs.Prelude.{◌≡◌, ◌≢◌, ℕ, ◌-◌, ◌^◌, ◌<◌, ◌≤◌, ◌++◌, List, Bool, length, min, All, Any, MatchBool, IsPermutation}
use Rattle.std.specs.List.{flat_map}
use Rattle.slot_chain.specs.Buffer.{Buffer}
use Rattle.digit_route.specs.Digits.{Scheme, common}
use Rattle.digit_route.specs.Route.{IsInBucket}
use Rattle.digit_route.specs.Rows.{Row, IsByDigit}
use Rattle.digit_route.specs.Posts.{GivesAll, buffers_of, shared}
use Rattle.digit_route.specs.States.{BatchState, PostingState, all_moves}

-- a loop that moves the buffers of a magazine into a row
pub record Scatters (s : Scheme) (j : ℕ) (old : List (List Buffer)) (whole : List Buffer) (new : List (List Buffer)) (rest : List Buffer) (moved : ℕ) : Type 0 where
  pub len : length new ≡ length old
  pub by_digit : IsByDigit s j old → IsByDigit s j new
  pub items : IsPermutation (flat_map (λ x. x) old ++ whole) (flat_map (λ x. x) new ++ rest)
  pub fewer : length rest ≤ length whole
  pub count : moved ≡ min (length whole - length rest) (2 ^ 64 - 1)

-- a loop that moves all of a row's buffers into another row
pub record Pours (s : Scheme) (j : ℕ) (old from new rest : List (List Buffer)) : Type 0 where
  pub len : length new ≡ length old
  pub by_digit : IsByDigit s j old → IsByDigit s j new
  pub items : IsPermutation (flat_map (λ x. x) old ++ flat_map (λ x. x) from) (flat_map (λ x. x) new ++ flat_map (λ x. x) rest)

-- a loop that looks for an owner, from the end of a magazine
pub record Looked (s : Scheme) (a t : ℕ) (whole rest : List Buffer) (found : Bool) : Type 0 where
  pub seen : List Buffer
  pub parts : whole ≡ rest ++ seen
  pub none : All (λ (b : Buffer). IsInBucket s a t b → b.owner ≢ t) seen
  pub some : MatchBool found (Any (IsInBucket s a t) seen) (All (λ b. IsInBucket s a t b → ⊥) seen)

-- what is not parted yet
pub record Parts (s : Scheme) (near t : ℕ) (whole rest nearer others : List Buffer) : Type 0 where
  pub items : IsPermutation whole (rest ++ (nearer ++ others))
  pub above : All (λ (b : Buffer). near < common s b.owner t) nearer
  pub below : All (λ (b : Buffer). common s b.owner t ≤ near) others

-- a row as a posting
abbrev pub posting_of : Row → ℕ → ℕ → PostingState
posting_of r limit moves = record { number = r.number; digits = r.digits; limit = limit; round = r.round; moves = moves; items = r.items }

-- rounds that went on
pub record Turns (old new : PostingState) : Type 0 where
  pub number : new.number ≡ old.number
  pub digits : new.digits ≡ old.digits
  pub limit : new.limit ≡ old.limit
  pub later : old.round ≤ new.round
  pub items : IsPermutation old.items new.items
  pub counted : all_moves old < 2 ^ 64 → all_moves new ≡ all_moves old

-- a loop that gives batches of desk a away, until nothing is left of the items
pub record Posted (s : Scheme) (a limit : ℕ) (items : List Buffer) (old given : List BatchState) (left : PostingState) : Type 0 where
  pub number : left.number ≡ a
  pub digits : left.digits ≡ s
  pub limited : left.limit ≡ limit
  pub added : List BatchState
  pub appended : given ≡ old ++ added
  pub together : IsPermutation items (buffers_of added ++ left.items)
  pub whole : GivesAll s a items added left.items
  pub counted : shared s a items < 2 ^ 64 → all_moves left ≡ shared s a items
