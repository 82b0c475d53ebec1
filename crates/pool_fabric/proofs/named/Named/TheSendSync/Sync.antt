-- It owns nothing, so threads may share it.
use denote.RattleType.{RattleType}
use denote.Param.Send.{IsSync, part_keyless}
use Rattle.pool_fabric.specs.contracts.named.Named.{the_row}
use Rattle.pool_fabric.proofs.named.Named.TheSendSync.Send.{send}

pub sync : (J : RattleType) → IsSync (the_row J)
sync J = record { shared = λ d b o κ q. part_keyless (the_row J) (send J) q d b o }
