use Rattle.std.proofs.Common.{◌∙◌, ◌<◌, ◌≤◌, arith}
use Rattle.region_cut.specs.Classes.{classes_of}
use Rattle.poolctl.proofs.ClassLines.{line_begun, lines_begun, lines_more}
use Rattle.poolctl.proofs.classes.write_classes.Goals as goal

pub loop-number-preserved : goal.loop-number-preserved
loop-number-preserved g c = (
  lines_more _ _ _ c.loop-number.number c.in-Some.class _ c.in-Some.ensures (c.as_bytes.ensures.value ∙ c.as_str.ensures.value ∙ c.in-Ok.ensures) c.loop-number.invariant.0 c.in-Ok-write_all.ensures.0,
  c.in-Ok-write_all.ensures.1,
)

pub returns-in_default-class_line-clause-begun : goal.returns-in_default-class_line-clause-begun
returns-in_default-class_line-clause-begun g c =
    let within : c.loop-number.number ≤ classes_of c.args.profile = omega (arith, c.loop-number-test.true, c.classes-number-end.ensures) in
    lines_begun _ _ c.loop-number.number (classes_of c.args.profile) within c.loop-number.invariant.0

pub returns-in-Err-clause-begun : goal.returns-in-Err-clause-begun
returns-in-Err-clause-begun g c =
    let within : c.loop-number.number < classes_of c.args.profile = omega (arith, c.loop-number-test.true, c.classes-number-end.ensures) in
    line_begun _ _ _ c.loop-number.number c.in-Some.class (classes_of c.args.profile) _ c.in-Some.ensures within (c.as_bytes.ensures.value ∙ c.as_str.ensures.value ∙ c.in-Ok.ensures) c.loop-number.invariant.0 c.in-Err.ensures.0
