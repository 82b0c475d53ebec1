-- An inbox that counts its posts is shared.
use denote.RattleType.{RattleType}
use denote.Param.Send.{IsSync, sendable}
use Rattle.std.proofs.Crossing.{crosses}
use Rattle.pool_fabric.proofs.Travels.{sync_fields}
use Rattle.inbox_uses.specs.contracts.counting.Counting as Counting

-- where the inbox inside is
pub counting_sync : (M : RattleType) → IsSync M → IsSync (Counting.the_row M)
counting_sync M i = sync_fields (Counting.the_type M) (i, (search (sendable, crosses) depth 40 fits 6000, tt))
