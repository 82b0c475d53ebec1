-- A buffer is served after a wait as it is without one.
use Rattle.std.proofs.Common.{ℕ, [], ◌∷◌, ◌++◌, Result, Ok, Err, ap, ◌∙◌}
use Rattle.slot_chain.specs.Buffer.{Buffer}
use Rattle.pool_fabric.specs.Names.{Names}
use Rattle.pool_fabric.specs.Stations.{StationState}
use Rattle.pool_jobs.specs.Serving.{Keeps, Serves}
use Rattle.pool_jobs.specs.declared.error.PoolError.{PoolError}
use Rattle.pool_jobs.specs.declared.error.PoolError.TheVariants.{TooLarge, UsedUp, NoMemory, NoChunk}
use Rattle.pool_jobs.proofs.Looking.{Step}

-- nothing was lent or freed since an earlier state
pub keeps_since : (names : Names) (old mid new : StationState) → Step old mid → Keeps names mid new → Keeps names old new
keeps_since names old mid new s k = record {
  desk = record { number = k.desk.number ∙ s.number; digits = k.desk.digits };
  lent = k.lent ∙ s.lent;
  freed = k.freed ∙ s.freed;
}

pub serves_since : (names : Names) (old mid : StationState) (n : ℕ) (r : Result Buffer PoolError) (new : StationState) → Step old mid → Serves names mid n r new → Serves names old n r new
serves_since names old mid n (Ok b) new s h = (
  h.0,
  record {
    desk = record { number = h.1.desk.number ∙ s.number; digits = h.1.desk.digits };
    owner = h.1.owner ∙ s.number;
    empty = h.1.empty;
    lent = h.1.lent ∙ ap (λ bs. bs ++ b ∷ []) s.lent;
    freed = h.1.freed ∙ s.freed;
  },
)
serves_since names old mid n (Err TooLarge) new s h = (h.0, keeps_since names old mid new s h.1)
serves_since names old mid n (Err UsedUp) new s h = (h.0, keeps_since names old mid new s h.1)
serves_since names old mid n (Err NoMemory) new s h = (h.0, keeps_since names old mid new s h.1)
serves_since names old mid n (Err NoChunk) new s h = (h.0, keeps_since names old mid new s h.1)
