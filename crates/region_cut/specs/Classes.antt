-- The size classes, and the two profiles.
use Rattle.std.specs.Prelude.{ℕ, ◌≤◌, ◌<◌, ◌/◌, List, [], ◌∷◌, slice_index}
use Rattle.region_cut.specs.Limits.{chunk_size}
use Rattle.region_cut.specs.declared.profile.Profile.{Profile}
use Rattle.region_cut.specs.declared.profile.Profile.TheVariants.{Pool, Pool2}

-- how many classes there are
abbrev pub class_count : ℕ
class_count = 20

-- their sizes in bytes, four to a doubling from 64 on
abbrev pub class_sizes : List ℕ
class_sizes =
    16 ∷ 32 ∷ 48 ∷ 64 ∷ 80 ∷ 96 ∷ 112 ∷ 128 ∷ 160 ∷ 192 ∷ 224 ∷ 256 ∷ 320 ∷ 384 ∷ 448 ∷ 512
    ∷ 640 ∷ 768 ∷ 896 ∷ 1024 ∷ []

-- the size of the class of this number
abbrev pub size_of : ℕ → ℕ
size_of k = slice_index class_sizes k

-- how many slots of that size a chunk has
abbrev pub slots_of : ℕ → ℕ
slots_of k = chunk_size / size_of k

-- how many bits the number of an allocator has
abbrev pub bits_of : Profile → ℕ
bits_of Pool = 6
bits_of Pool2 = 12

-- how many classes the profile uses: those of a number below it
abbrev pub classes_of : Profile → ℕ
classes_of Pool = 16
classes_of Pool2 = 20

-- c is the least class of the profile whose size is at least n
pub record IsLeastFor (p : Profile) (n c : ℕ) : Type 0 where
  pub is_used : c < classes_of p
  pub holds : n ≤ size_of c
  pub is_least : (k : ℕ) → n ≤ size_of k → k < classes_of p → c ≤ k

-- no class of the profile has a size of at least n
abbrev pub NoClassFor : Profile → ℕ → Type 0
NoClassFor p n = (k : ℕ) → k < classes_of p → size_of k < n

-- the greatest size of a class that the profile uses
abbrev pub largest_of : Profile → ℕ
largest_of Pool = 512
largest_of Pool2 = 1024
