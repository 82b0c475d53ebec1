use Rattle.std.proofs.Common.{rules, ℕ, length, drop, take, ◌-◌, subst}
use Rattle.std.proofs.lemmas.Result.{err_from_is_err_and}
use Rattle.std.specs.Io.KnownBytes.{Appends}
use Rattle.trace_audit.proofs.Bytes.{put_stops, put_goes_on', appends_kept, flag_stays, flag_rises, length_rest}
use Rattle.trace_audit.proofs.wire.write_all.Goals as goal

pub returns-in-0 : goal.returns-in-0
returns-in-0 g c = put_stops _ _ _ c.args.text.now c.loop-at.at _ c.loop-at.invariant.bytes
    (let P : ℕ → Type 0 = λ n. Appends (g.W.Sink.contents c.loop-at.writer) (g.W.Sink.contents c.write.new.self) (take n (take (length c.args.text.now - c.loop-at.at) (drop c.loop-at.at c.args.text.now))) in
    subst P c.in-0.is c.in_ok-count.ensures.bytes)
    (flag_rises _ _ _ _ c.in_ok-count.ensures.flag c.in-0.is (length_rest c.args.text.now c.loop-at.at c.loop-at-test.true))

pub loop-at-preserved : goal.loop-at-preserved
loop-at-preserved g c = record {
  bytes = put_goes_on' _ _ _ c.args.text.now c.loop-at.at c.in_ok-count.count c.loop-at.invariant.bytes c.in_ok-count.ensures.bytes;
  within = search rules;
  down = flag_stays _ _ c.in_ok-count.count _ c.in_ok-count.ensures.flag c.loop-at.invariant.down (search rules);
}

pub returns-in_err-count : goal.returns-in_err-count
returns-in_err-count g c =
    let p = err_from_is_err_and c.from_residual.result c.from_residual.ensures.1 in
    rw p.1 (put_stops _ _ _ c.args.text.now c.loop-at.at _ c.loop-at.invariant.bytes (appends_kept _ _ c.in_err-count.ensures.bytes) (search rules))
