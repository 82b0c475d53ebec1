-- What a look into the inbox leaves as it was.
use Rattle.std.proofs.Common.{◌≡◌, ℕ, ap, ◌∙◌}
use Rattle.slot_balance.proofs.Posting.{handled_stays}
use Rattle.slot_balance.specs.Posts.{TakesSome}
use Rattle.pool_fabric.specs.Stations.{StationState}

-- a step that lent and freed nothing
pub record Step (old new : StationState) : Type 0 where
  pub number : new.desk.number ≡ old.desk.number
  pub lent : new.lent ≡ old.lent
  pub freed : new.freed ≡ old.freed

-- batches were taken
pub took : (old inside mid : StationState) (k : ℕ) → inside ≡ old → mid ≡ record inside { desk = mid.desk; take = mid.take }
    → TakesSome inside.desk inside.take k mid.desk mid.take → Step old mid
took old inside mid k is same takes = record {
  number = (handled_stays inside.desk takes.batches mid.desk takes.handled).number ∙ ap (λ (s : StationState). s.desk.number) is;
  lent = ap (λ (s : StationState). s.lent) same ∙ ap (λ (s : StationState). s.lent) is;
  freed = ap (λ (s : StationState). s.freed) same ∙ ap (λ (s : StationState). s.freed) is;
}
