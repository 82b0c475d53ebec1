-- It owns nothing, so it may go to another thread.
use denote.RattleType.{RattleType}
use denote.Param.Send.{IsSend}
use Rattle.pool_fabric.specs.contracts.named.Named.{the_row}

pub send : (J : RattleType) → IsSend (the_row J)
send J = record { owned = λ d vs. ((λ vss. (tt, ((λ uss. (tt, tt)), tt))), tt); leaving = λ k f vs. tt }
