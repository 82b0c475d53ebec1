use Rattle.std.proofs.Common.{rules, refl}
use Rattle.seated_desk.proofs.Shelved.{keeps_again}
use Rattle.seated_desk.proofs.pool.Pool.detach.Goals as goal

pub returns-in-Ok : goal.returns-in-Ok
returns-in-Ok c = record {
  moved = λ _. (c.in-Some-replace.station, c.post.new.self, search rules, search rules, search rules, search rules, keeps_again _ _ _ c.take.ensures.keeps c.post.ensures.keeps);
  refused = λ ne. absurd (ne refl);
  pool = record { number = refl; allocators = refl; fault = refl };
  stranger = λ s e ne. search rules;
}
