use Rattle.std.proofs.Common.{rules, ◌≡◌, [], ◌∷◌, ◌++◌, subst, sym, ◌∙◌, map-id}
use Rattle.std.proofs.lemmas.Slice.Zip.{all_zipped_more}
use Rattle.std.proofs.lemmas.Iterator.Adapters.{YieldsList-from_vec}
use Rattle.std.proofs.lemmas.Iterator.Consumers.{YieldsList-end}
use Rattle.std.specs.List.{AllZip}
use Rattle.pool_jobs.proofs.Promised.{each_kept, kept}
use Rattle.pool_jobs.proofs.crew.fn.crew.scope.Goals as goal

pub loop-job-preserved-in_default : goal.loop-job-preserved-in_default
loop-job-preserved-in_default g c none =
    let is : c.in-Ok.handle.promise.0.value ≡ c.in-Some.job = search rules in
    subst (AllZip _ (c.loop-job.yielded ++ c.in-Some.job ∷ [])) (sym c.in_default.ensures.items)
    (all_zipped_more _ c.loop-job.yielded c.loop-job.handles.items c.in-Some.job c.in-Ok.handle (c.loop-job.invariant none) is)

pub returns : goal.returns
returns g c =
    let given = YieldsList-from_vec c.captures.jobs.items (search rules) (search rules) in
    let all = YieldsList-end given c.loop-job.yielded c.loop-job.job-iterator c.loop-job.yielded_by _ c.next.new.self c.in-None.is c.next.ensures.steps in
    let promised = kept c.joined.result g.J.Job.gives (λ h. h.promise.0.value) (λ v. v.items) c.loop-job.yielded c.captures.jobs.items c.loop-job.handles.items c.loop-job.fault
    (sym (map-id c.loop-job.yielded) ∙ all.0) c.loop-job.invariant c.joined.ensures.promised c.joined.ensures.fault in
    record { promised = promised; each = each_kept c.joined.result g.J.Job.gives (λ v. v.items) c.captures.jobs.items promised }
