use Rattle.std.proofs.Common.{◌+◌, [], ◌∷◌, ◌++◌, take, take_all, refl, sym, ap, ◌∙◌, subst, arith, get_or}
use Rattle.std.proofs.lemmas.List.{take_more}
use Rattle.pool_machine.specs.declared.request.Request.TheVariants.{Adopt}
use Rattle.event_floor.specs.headline.Memory.{LacksOnlyWhereItMay}
use Rattle.event_floor.proofs.headline.Lacks.{lacks_push}
use Rattle.event_floor.proofs.headline.Kept.{start_kept, stays_kept, stays_held, keeps_bytes}
use Rattle.event_floor.proofs.headline.Runs.{AppliesAll, run_none, run_push, run_headline}
use Rattle.event_floor.proofs.floor.Floor.run.Goals as goal

pub loop-request-init : goal.loop-request-init
loop-request-init c = record {
  applied = subst (λ ys. AppliesAll c.args.self.now [] ys c.args.self.now) (sym c.in_ok-answers.ensures.items) (run_none c.args.self.now);
  lacked = subst (λ ys. LacksOnlyWhereItMay c.args.self.now [] ys c.args.self.now) (sym c.in_ok-answers.ensures.items) refl;
  named = c.keeps.ensures.named;
  kept = start_kept c.args.self.now c.keeps.ensures.named;
  held = λ region h. h;
  count = c.in_ok-answers.ensures.len;
  room = c.in_ok-answers.ensures.capacity;
  desks = refl;
  parts = refl;
}

pub loop-request-preserved : goal.loop-request-preserved
loop-request-preserved c = record {
  applied = (
      let q = get_or c.args.requests.now c.loop-request.request-index (Adopt 0 0) in
      let y = c.step-answer.result in
      let w = c.step-answer.new.self in
      subst (λ qs. AppliesAll c.args.self.now qs c.push_reserved.new.self.items w) (sym (take_more c.args.requests.now c.loop-request.request-index (Adopt 0 0) c.loop-request-test.true))
      (subst (λ ys. AppliesAll c.args.self.now (take c.loop-request.request-index c.args.requests.now ++ q ∷ []) ys w) (sym c.push_reserved.ensures.items)
      (run_push c.args.self.now c.loop-request.self w (take c.loop-request.request-index c.args.requests.now) c.loop-request.answers.items q y c.loop-request.invariant.applied
      c.step-answer.ensures.applies)));
  lacked = (
      let q = get_or c.args.requests.now c.loop-request.request-index (Adopt 0 0) in
      let y = c.step-answer.result in
      let w = c.step-answer.new.self in
      subst (λ qs. LacksOnlyWhereItMay c.args.self.now qs c.push_reserved.new.self.items w) (sym (take_more c.args.requests.now c.loop-request.request-index (Adopt 0 0) c.loop-request-test.true))
      (subst (λ ys. LacksOnlyWhereItMay c.args.self.now (take c.loop-request.request-index c.args.requests.now ++ q ∷ []) ys w) (sym c.push_reserved.ensures.items)
      (lacks_push c.args.self.now c.loop-request.self w (take c.loop-request.request-index c.args.requests.now) c.loop-request.answers.items q y c.loop-request.invariant.lacked
      c.step-answer.ensures.answers)));
  named = c.step-answer.ensures.named;
  kept = (
      let q = get_or c.args.requests.now c.loop-request.request-index (Adopt 0 0) in
      stays_kept c.args.self.now c.loop-request.self c.step-answer.new.self q c.step-answer.result c.loop-request.invariant.named c.loop-request.invariant.kept
      c.step-answer.ensures.answers);
  held = λ region h.
      (let q = get_or c.args.requests.now c.loop-request.request-index (Adopt 0 0) in
      stays_held c.loop-request.self c.step-answer.new.self q c.step-answer.result region c.loop-request.invariant.named c.step-answer.ensures.answers
      (c.loop-request.invariant.held region h));
  count = (let e = c.push_reserved.ensures.len in let g = c.loop-request.invariant.count in e ∙ ap (λ n. n + 1) g);
  room = (let r = c.loop-request.invariant.room in let e = c.push_reserved.ensures.capacity in omega (arith, r, e));
  desks = c.step-answer.ensures.desks ∙ c.loop-request.invariant.desks;
  parts = c.step-answer.ensures.parts ∙ c.loop-request.invariant.parts;
}

pub returns-clause-headline : goal.returns-clause-headline
returns-clause-headline c =
    run_headline c.args.self.now c.loop-request.self c.args.requests.now c.loop-request.answers.items
    (subst (λ qs. AppliesAll c.args.self.now qs c.loop-request.answers.items c.loop-request.self) (take_all c.loop-request.request-index c.args.requests.now c.loop-request-test.false) c.loop-request.invariant.applied)

pub returns-clause-memory : goal.returns-clause-memory
returns-clause-memory c =
    subst (λ qs. LacksOnlyWhereItMay c.args.self.now qs c.loop-request.answers.items c.loop-request.self) (take_all c.loop-request.request-index c.args.requests.now c.loop-request-test.false)
    c.loop-request.invariant.lacked

pub returns-clause-bytes : goal.returns-clause-bytes
returns-clause-bytes c = keeps_bytes c.args.self.now c.loop-request.self c.loop-request.invariant.kept c.keeps.ensures.held c.loop-request.invariant.held

pub returns-in_err-answers-clause-bytes : goal.returns-in_err-answers-clause-bytes
returns-in_err-answers-clause-bytes c = keeps_bytes c.args.self.now c.args.self.now (start_kept c.args.self.now c.keeps.ensures.named) c.keeps.ensures.held (λ region h. h)
