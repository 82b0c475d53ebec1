use Rattle.std.proofs.Common.{refl}
use Rattle.pool_desk.proofs.DeskLaws.{not_both}
use Rattle.pool_desk.proofs.desk.Desk.claim.Goals as goal

pub returns-then-has_home : goal.returns-then-has_home
returns-then-has_home c = (refl, (refl, c.has_home.ensures.0 c.if-has_home.true), refl)

pub claim_needed-requires-clause-needed : goal.claim_needed-requires-clause-needed
claim_needed-requires-clause-needed c = λ some. not_both c.has_home.result (c.has_home.ensures.1 some) c.if-has_home.false
