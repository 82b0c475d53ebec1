use Rattle.std.proofs.Common.{◌≡◌, ℕ, List, take, subst, rules, arith}
use Rattle.std.proofs.lemmas.Grind.{common_steps}
use Rattle.std.proofs.lemmas.List.{take_all}
use Rattle.trace_audit.proofs.Numbers.{IsRead, no_zero, no_nothing, decimal_zero, no_long, no_other, read_more, read_few, read_found, read_wide}
use Rattle.trace_audit.proofs.grammar.words.number.Goals as goal
use Rattle.trace_audit.proofs.grammar.words.number.Goals.{then-byte-lt48-via-then-byte-lt48, then-byte-lt48-via-else-byte-lt48+then-byte-gt57}

pub returns-then-is_empty-clause-none : goal.returns-then-is_empty-clause-none
returns-then-is_empty-clause-none c = no_nothing _ (search rules)

pub returns-then-bytes-eq1-clause-found : goal.returns-then-bytes-eq1-clause-found
returns-then-bytes-eq1-clause-found c = (omega arith, decimal_zero _ c.if-bytes-eq48.true c.if-bytes-eq1.true)

pub returns-else-bytes-eq1-clause-none : goal.returns-else-bytes-eq1-clause-none
returns-else-bytes-eq1-clause-none c = no_zero _ c.if-bytes-eq48.true c.if-bytes-eq1.false

pub returns-then-bytes-gt10-clause-none : goal.returns-then-bytes-gt10-clause-none
returns-then-bytes-gt10-clause-none c = no_long _ c.if-bytes-gt10.true

pub returns-then-byte-lt48-clause-none : goal.returns-then-byte-lt48-clause-none
returns-then-byte-lt48-clause-none c = no_other c.args.bytes.now c.loop-at.at c.loop-at-test.true (λ r.
    elim c.then-byte-lt48.branch [
      | then-byte-lt48-via-then-byte-lt48 w ↦ omega (arith, r.0, w.if-byte-lt48.true)
      | then-byte-lt48-via-else-byte-lt48+then-byte-gt57 w ↦ omega (arith, r.1, w.if-byte-gt57.true)
    ])

pub overflow_mul-value : goal.overflow_mul-value
overflow_mul-value c =
    let few = read_few c.args.bytes.now c.loop-at.at c.loop-at.value c.loop-at-test.true (omega (arith, c.if-bytes-gt10.false)) c.loop-at.invariant in
    record { fits = omega (arith, few) }

pub overflow_add-value : goal.overflow_add-value
overflow_add-value c =
    let few = read_few c.args.bytes.now c.loop-at.at c.loop-at.value c.loop-at-test.true (omega (arith, c.if-bytes-gt10.false)) c.loop-at.invariant in
    record { fits = omega (arith, few, c.if-byte-gt57.false) }

pub loop-at-preserved : goal.loop-at-preserved
loop-at-preserved c = read_more c.args.bytes.now c.loop-at.at c.loop-at.value c.loop-at-test.true c.loop-at.invariant (omega (arith, c.if-byte-lt48.false), omega (arith, c.if-byte-gt57.false))

pub returns-then-value-clause-none : goal.returns-then-value-clause-none
returns-then-value-clause-none c =
    let all : take c.loop-at.at c.args.bytes.now ≡ c.args.bytes.now = take_all c.loop-at.at c.args.bytes.now (omega (arith, c.loop-at-test.false)) in
    read_wide c.args.bytes.now c.loop-at.value (subst (λ (w : List ℕ). IsRead w c.loop-at.value) all c.loop-at.invariant) (omega (arith, c.if-value.true))

pub returns-clause-found : goal.returns-clause-found
returns-clause-found c =
    let all : take c.loop-at.at c.args.bytes.now ≡ c.args.bytes.now = take_all c.loop-at.at c.args.bytes.now (omega (arith, c.loop-at-test.false)) in
    read_found c.args.bytes.now c.loop-at.value (subst (λ (w : List ℕ). IsRead w c.loop-at.value) all c.loop-at.invariant) (grind (arith, common_steps)) c.if-bytes-eq48.false (omega (arith, c.if-value.false))
