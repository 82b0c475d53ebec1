use Rattle.std.proofs.Common.{◌≡◌, length, ◌++◌, [], ◌∷◌, refl, sym, ap, subst, arith, ◌∙◌, ◌-◌, ⊎_elim}
use Rattle.std.proofs.lemmas.List.{length_push}
use Rattle.std.proofs.lemmas.Slice.Zip.{all_zipped_more}
use Rattle.std.specs.List.{AllZip}
use Rattle.std.specs.Vec.Iter.{into_iter_items}
use Rattle.std.specs.Iterator.Adapters.{zip_first}
use Rattle.pool_jobs.specs.Promises.{FirstHave}
use Rattle.pool_jobs.proofs.Promised.{all_taken, taken_one, mapped, none_unless, one_fewer, one_more_job}
use Rattle.pool_jobs.proofs.tasks.worker.jobs_of.Goals as goal

pub loop-task-preserved : goal.loop-task-preserved
loop-task-preserved g c =
    let steps = c.in-Some.ensures.steps in
    let grown = c.in_ok-push.ensures.items in record {
      tasks = subst (AllZip _ (c.loop-task.yielded ++ (c.in-Some.task, c.in-Some.channels) ∷ [])) (sym grown)
          (all_zipped_more _ c.loop-task.yielded c.loop-task.jobs.items (c.in-Some.task, c.in-Some.channels) _ c.loop-task.invariant.tasks refl);
      rest = taken_one (λ p. p.0) c.loop-task.yielded (c.in-Some.task, c.in-Some.channels) (into_iter_items (zip_first c.loop-task.task-iterator)) _ c.args.tasks.items
          c.loop-task.invariant.rest steps.0.0;
      even = let a = ap length steps.0.0 in let b = ap length steps.1.0 in let e = c.loop-task.invariant.even in omega arith;
      workers = subst (FirstHave (λ j. j.worker) (length c.args.workers.items)) (sym grown)
          (one_more_job (λ j. j.worker) (length c.args.workers.items) c.loop-task.jobs.items _ c.loop-task.invariant.workers
          (λ less. c.next-in-loop-task.ensures.variant.1 (let l = c.loop-task.invariant.left in omega arith))
          (λ more. none_unless c.next-in-loop-task.result (λ some. let l = c.loop-task.invariant.left in let p = c.next-in-loop-task.ensures.variant.0 some in absurd (omega arith))));
      left =
          let l = ap length grown in
          let m = one_fewer c.next-in-loop-task.result _ _ _ _ (length c.loop-task.jobs.items) c.next-in-loop-task.ensures.cases c.loop-task.invariant.left in
          m ∙ ap (λ k. length c.args.workers.items - k) (sym (length_push c.loop-task.jobs.items _) ∙ sym l);
    }

pub returns-clause-tasks : goal.returns-clause-tasks
returns-clause-tasks g c =
    let inv = c.loop-task.invariant in
    let first = c.loop-task.task-iterator.a.rest.ok.0 in
    let second = c.loop-task.task-iterator.b.rest.ok.0 in
    let none = ⊎_elim (λ e. let l = e.1.0 in omega arith) (λ e. let l = e.1.0 in let v = inv.even in omega arith) c.in-None.ensures.steps in
    subst (λ ts. AllZip (λ t j. j.task ≡ t) ts c.loop-task.jobs.items) (all_taken _ (into_iter_items (zip_first c.loop-task.task-iterator)) c.args.tasks.items inv.rest none)
    (mapped (λ p. p.0) (λ t j. j.task ≡ t) c.loop-task.yielded c.loop-task.jobs.items inv.tasks)
