use Rattle.std.proofs.Common.{rules, refl}
use Rattle.seated_desk.proofs.pool.Pool.attach.Goals as goal

pub returns-in-Some : goal.returns-in-Some
returns-in-Some c = record {
  moved = λ _. (c.in-Some.station, search rules, refl, search rules);
  refused = λ ne. absurd (ne refl);
  pool = record { number = refl; allocators = refl; fault = refl };
}
