-- Which sizes are too large.
use Rattle.std.proofs.Common.{◌≡◌, ℕ, zero, suc, ◌<◌, ◌≤◌, ◌&&◌, Bool, true, false, List, [], ◌∷◌, nat_le, get_or, get_or-take, take, refl, subst, arith}
use Rattle.std.specs.Prelude.{◌↔◌, Result, Ok, Err}
use Rattle.std.specs.List.{list_all}
use Rattle.std.proofs.lemmas.Bool.{false≢true, leb-true}
use Rattle.region_cut.specs.Classes.{class_sizes, size_of, classes_of, largest_of, IsLeastFor, NoClassFor}
use Rattle.region_cut.specs.declared.profile.Profile.{Profile}
use Rattle.region_cut.specs.declared.profile.Profile.TheVariants.{Pool, Pool2}
use Rattle.slot_chain.specs.Buffer.{Buffer}
use Rattle.slot_chain.specs.Parcels.{ParcelState}
use Rattle.digit_route.specs.Profiles.{profile_of}
use Rattle.pool_fabric.specs.Names.{Names}
use Rattle.pool_fabric.specs.Stations.{StationState}
use Rattle.pool_jobs.specs.declared.error.PoolError.{PoolError}
use Rattle.pool_jobs.specs.declared.error.PoolError.TheVariants.{TooLarge, UsedUp, NoMemory, NoChunk}
use Rattle.pool_jobs.specs.Bursts.{Fills}
use Rattle.pool_jobs.specs.Serving.{Serves}

both : (a b : Bool) → (a && b) ≡ true → (a ≡ true) × (b ≡ true)
both true b e = (refl, e)
both false b e = absurd (false≢true e)

-- none of the list is greater than m
none_greater : (m : ℕ) (xs : List ℕ) → list_all (λ x. nat_le x m) xs ≡ true → (k : ℕ) → get_or xs k 0 ≤ m
none_greater m [] t k = omega arith
none_greater m (x ∷ xs) t zero = leb-true x m (both (nat_le x m) (list_all (λ y. nat_le y m) xs) t).0
none_greater m (x ∷ xs) t (suc k) = none_greater m xs (both (nat_le x m) (list_all (λ y. nat_le y m) xs) t).1 k

size_at_most : (p : Profile) (c : ℕ) → c < classes_of p → size_of c ≤ largest_of p
size_at_most Pool c l = subst (λ n. n ≤ 512) (get_or-take 16 class_sizes c 0 l) (none_greater 512 (take 16 class_sizes) refl c)
size_at_most Pool2 c l = none_greater 1024 class_sizes refl c

fits : (p : Profile) (n c : ℕ) → IsLeastFor p n c → n ≤ largest_of p
fits p n c h = let most = size_at_most p c h.is_used in let holds = h.holds in omega arith

too_large : (p : Profile) (n : ℕ) → NoClassFor p n → largest_of p < n
too_large Pool n h = h 15 (omega arith)
too_large Pool2 n h = h 19 (omega arith)

-- an answer that says `too large` does so where no class has as many bytes, and only there
pub served_largest : (names : Names) (old new : StationState) (n : ℕ) (r : Result Buffer PoolError) → Serves names old n r new
    → (r ≡ Err TooLarge) ↔ (largest_of (profile_of names.digits.bits) < n)
served_largest names old new n (Ok b) h = (λ e. absurd (cc), λ l. let f = fits (profile_of names.digits.bits) n b.class h.0 in absurd (omega arith))
served_largest names old new n (Err TooLarge) h = (λ e. too_large (profile_of names.digits.bits) n h.0, λ l. refl)
served_largest names old new n (Err UsedUp) h = (λ e. absurd (cc), λ l. let f = fits (profile_of names.digits.bits) n h.0.0 h.0.1 in absurd (omega arith))
served_largest names old new n (Err NoMemory) h = (λ e. absurd (cc), λ l. let f = fits (profile_of names.digits.bits) n h.0.0 h.0.1 in absurd (omega arith))
served_largest names old new n (Err NoChunk) h = (λ e. absurd (cc), λ l. let f = fits (profile_of names.digits.bits) n h.0.0 h.0.1 in absurd (omega arith))

-- the same where a parcel is filled
pub filled_largest : (names : Names) (old : StationState) (n count : ℕ) (p : ParcelState) (r : Result ℕ PoolError) (new : StationState) (p' : ParcelState)
    → Fills names old n count p r new p' → (r ≡ Err TooLarge) ↔ (largest_of (profile_of names.digits.bits) < n)
filled_largest names old n count p (Ok k) new p' h = (λ e. absurd (cc), λ l. let f = fits (profile_of names.digits.bits) n h.0.0 h.0.1 in absurd (omega arith))
filled_largest names old n count p (Err TooLarge) new p' h = (λ e. too_large (profile_of names.digits.bits) n h.0.0, λ l. refl)
filled_largest names old n count p (Err UsedUp) new p' h = (λ e. absurd (cc), λ l. let f = fits (profile_of names.digits.bits) n h.0.0.0 h.0.0.1 in absurd (omega arith))
filled_largest names old n count p (Err NoMemory) new p' h = (λ e. absurd (cc), λ l. let f = fits (profile_of names.digits.bits) n h.0.0.0 h.0.0.1 in absurd (omega arith))
filled_largest names old n count p (Err NoChunk) new p' h = (λ e. absurd (cc), λ l. let f = fits (profile_of names.digits.bits) n h.0.0.0 h.0.0.1 in absurd (omega arith))
