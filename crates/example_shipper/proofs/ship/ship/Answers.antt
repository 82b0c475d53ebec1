-- The stages cross to threads, by the lemmas of what they hold.
use denote.Exit.{no}
use denote.Param.Send.{IsSend, sendable, param_send, arg_send}
use Rattle.std.proofs.Crossing.{crosses}
use Rattle.example_shipper.proofs.ship.ship.Goals as goal

pub run-requires-send-K : goal.run-requires-send-K
run-requires-send-K g c κs within = search (sendable, crosses) depth 60 fits 20000
