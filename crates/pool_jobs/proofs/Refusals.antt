-- Why no buffer is lent.
use Rattle.std.proofs.Common.{inl, inr, ⊎_elim, ℕ, Err, ap, ◌∙◌}
use Rattle.pool_desk.specs.Homes.{class_at}
use Rattle.pool_desk.specs.HomesState.{HasClass, IsWanting, LacksClass}
use Rattle.pool_desk.specs.declared.error.DeskError.{DeskError}
use Rattle.pool_desk.specs.declared.error.DeskError.TheVariants as Desk
use Rattle.pool_fabric.specs.Names.{Names}
use Rattle.pool_fabric.specs.Stations.{StationState}
use Rattle.pool_jobs.specs.Serving.{HasNoMore, HasOnlyUnused, IsClassFor, Keeps, RefusesClass, Serves}
use Rattle.pool_jobs.specs.declared.error.PoolError.{PoolError}
use Rattle.pool_jobs.specs.declared.error.PoolError.TheVariants.{TooLarge, UsedUp, NoMemory, NoChunk}

-- a desk refuses a buffer of a class for no other reason
pub has_no_more : (c : ℕ) (s : StationState) (e : DeskError) → IsWanting c s.desk.home e → HasNoMore c s
has_no_more c s Desk.TooLarge h = absurd h
has_no_more c s (Desk.NeedChunk k) h = inl h.1
has_no_more c s Desk.NotNeeded h = absurd h
has_no_more c s Desk.Unsettled h = absurd h
has_no_more c s Desk.NoMemory h = inr h

-- no slot of the class is at home, and one is
not_both : (c : ℕ) (s : StationState) → HasClass c s.desk.home → LacksClass c s.desk.home → ⊥
not_both c s h l = l h.0 h.1 h.2 (ap class_at h.3 ∙ h.4)

pub no_memory : (c : ℕ) (s : StationState) → HasNoMore c s → HasClass c s.desk.home → HasOnlyUnused c s
no_memory c s h has = ⊎_elim (λ (l : LacksClass c s.desk.home). absurd (not_both c s has l)) (λ (u : HasOnlyUnused c s). u) h

pub lacking : (c : ℕ) (s : StationState) → HasNoMore c s → (HasClass c s.desk.home → ⊥) → LacksClass c s.desk.home
lacking c s h lacks = ⊎_elim (λ (l : LacksClass c s.desk.home). l) (λ (u : HasOnlyUnused c s). absurd (lacks u.0)) h

-- a class that is refused is that of a size
pub refused : (names : Names) (n c : ℕ) (old : StationState) (e : PoolError) (new : StationState) → IsClassFor names n c
    → RefusesClass c e new → Keeps names old new → Serves names old n (Err e) new
refused names n c old TooLarge new is h k = absurd h
refused names n c old UsedUp new is h k = ((c, is, h), k)
refused names n c old NoMemory new is h k = ((c, is, h), k)
refused names n c old NoChunk new is h k = ((c, is, h), k)
