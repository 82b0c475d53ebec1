-- The profile of numbers of so many bits.
use Rattle.std.specs.Prelude.{◌≡◌, ℕ, ◌==◌, if◌then◌else◌, refl}
use Rattle.region_cut.specs.Classes.{bits_of}
use Rattle.region_cut.specs.declared.profile.Profile.{Profile}
use Rattle.region_cut.specs.declared.profile.Profile.TheVariants.{Pool, Pool2}

abbrev pub profile_of : ℕ → Profile
profile_of bits = if bits == 6 then Pool else Pool2

pub profile_of-bits_of : (p : Profile) → profile_of (bits_of p) ≡ p
profile_of-bits_of Pool = refl
profile_of-bits_of Pool2 = refl
