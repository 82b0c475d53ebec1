-- How many numbers there are for allocators.
use Rattle.std.proofs.Common.{◌≤◌, ◌^◌, lit≤}
use Rattle.region_cut.specs.Classes.{bits_of}
use Rattle.region_cut.specs.declared.profile.Profile.{Profile}
use Rattle.region_cut.specs.declared.profile.Profile.TheVariants.{Pool, Pool2}

-- each profile has numbers for 64 allocators
pub numbers_enough : (p : Profile) → 64 ≤ 2 ^ bits_of p
numbers_enough Pool = lit≤ tt
numbers_enough Pool2 = lit≤ tt
