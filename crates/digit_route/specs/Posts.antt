-- What a posting to the end gives away.
use Rattle.std.specs.Prelude.{◌≡◌, ℕ, ◌+◌, ◌≤◌, ◌⊎◌, List, [], ◌∷◌, ◌++◌, All, Any, IsPermutation, sum_by}
use Rattle.std.specs.List.{flat_map}
use Rattle.slot_chain.specs.Buffer.{Buffer}
use Rattle.digit_route.specs.Digits.{Scheme, common}
use Rattle.digit_route.specs.States.{BatchState, ahead}
use Rattle.digit_route.specs.Route.{GivesBucket}

-- the buffers of the batches, one batch after another
abbrev pub buffers_of : List BatchState → List Buffer
buffers_of bs = flat_map (λ (b : BatchState). b.items) bs

-- these batches of a were taken out one after the other, each the whole bucket for its address of what was there then
abbrev pub GivesAll : Scheme → ℕ → List Buffer → List BatchState → List Buffer → Type 0
GivesAll s a items [] left = IsPermutation items left
GivesAll s a items (b ∷ bs) left = (rest : List Buffer) × GivesBucket s a items b rest × GivesAll s a rest bs left

-- batches of a were given that have, together with what is left, each buffer as often as it is there
pub record Posts (s : Scheme) (a : ℕ) (items : List Buffer) (old new : List BatchState) (left : List Buffer)
    : Type 0 where
  pub added : List BatchState
  pub appended : new ≡ old ++ added
  pub together : IsPermutation items (buffers_of added ++ left)
  pub whole : GivesAll s a items added left

-- how many digits the owners share with a, all buffers together
abbrev pub shared : Scheme → ℕ → List Buffer → ℕ
shared s a items = sum_by (λ (b : Buffer). common s b.owner a) items

-- so many moves were made where these are left of the items: all but those of the rounds after the one that a posting
-- stopped in, which is the least of those that the buffers left belong to
pub record Moved (s : Scheme) (a : ℕ) (items left : List Buffer) (moves : ℕ) : Type 0 where
  pub round : ℕ
  pub reached : All (λ (b : Buffer). round ≤ common s b.owner a) left
  pub stopped : (left ≡ []) ⊎ Any (λ (b : Buffer). common s b.owner a ≡ round) left
  pub counted : moves + sum_by (ahead s a round) left ≡ shared s a items
