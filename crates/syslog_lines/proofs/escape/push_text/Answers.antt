use Rattle.std.proofs.Common.{rules, ◌++◌, ap, ◌∙◌}
use Rattle.syslog_lines.specs.Texts.{byte_text, text_of}
use Rattle.syslog_lines.proofs.Escapes.{last_run, run_and_escape}
use Rattle.syslog_lines.proofs.escape.push_text.Goals as goal

pub returns-in_default : goal.returns-in_default
returns-in_default c =
    c.in_ok-extend_from_slice.ensures.items
    ∙ (last_run c.args.coding c.loop-byte.out.items c.loop-byte.rest.now c.split_at.result.0.now c.split_at.result.1.now
    c.plain_len.result c.plain_len.ensures.within c.plain_len.ensures.plain c.split_at.ensures.front
    c.split_at.ensures.back c.in_default.ensures.cases
    ∙ c.loop-byte.invariant)

pub loop-byte-preserved : goal.loop-byte-preserved
loop-byte-preserved c =
    ap (λ t. t ++ text_of c.args.coding c.in-Some.behind.now)
    (c.in_ok-push_escape.ensures
    ∙ ap (λ t. t ++ byte_text c.args.coding c.in-Some.byte.now) c.in_ok-extend_from_slice.ensures.items)
    ∙ (run_and_escape c.args.coding c.loop-byte.out.items c.loop-byte.rest.now c.split_at.result.0.now
    c.split_at.result.1.now c.in-Some.behind.now c.in-Some.byte.now
    c.plain_len.result c.plain_len.ensures.within c.plain_len.ensures.plain c.split_at.ensures.front
    c.split_at.ensures.back c.in-Some.ensures.cases.0
    ∙ c.loop-byte.invariant)
