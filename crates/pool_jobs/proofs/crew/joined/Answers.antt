use Rattle.std.proofs.Common.{rules, ◌≡◌, [], ◌∷◌, ◌++◌, subst, sym}
use Rattle.std.proofs.lemmas.Slice.Zip.{all_zipped_more}
use Rattle.std.specs.List.{AllZip}
use Rattle.pool_jobs.proofs.crew.joined.Goals as goal

pub loop-handle-preserved : goal.loop-handle-preserved
loop-handle-preserved g c none =
    let was = c.loop-handle.invariant none in
    let grown : c.push.new.self.items ≡ c.loop-handle.outs.items ++ c.join.result ∷ [] = search rules in
    (was.0, subst (AllZip _ (c.loop-handle.yielded ++ c.in-Some.handle ∷ [])) (sym grown) (all_zipped_more _ c.loop-handle.yielded c.loop-handle.outs.items c.in-Some.handle c.join.result was.1 c.join.ensures))
