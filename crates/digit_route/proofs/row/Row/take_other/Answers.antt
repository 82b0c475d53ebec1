use Rattle.std.proofs.Common.{◌≡◌, ap}
use Rattle.digit_route.specs.Rows.{Row}
use Rattle.digit_route.proofs.Loops.{posting_of}
use Rattle.digit_route.proofs.PostingLaws.{Turns-none, Taken-from, taken_some, later_rounds}
use Rattle.digit_route.proofs.row.Row.take_other.Goals as goal

pub some_owner-address-requires : goal.some_owner-address-requires
some_owner-address-requires c =
    taken_some _ _ _ _ _ _ c.take-magazine.ensures.items c.take-magazine.ensures.all c.in-Some.ensures.value.2

pub batch-requires : goal.batch-requires
batch-requires c =
    let taken =
    Taken-from (posting_of c.args.self.now 0 0) c.args.self.now c.take-magazine.new.self 0 0 _ _ _ (Turns-none _) c.in-Some.ensures.keeps c.take-magazine.ensures.same
    c.take-magazine.ensures.items c.take-magazine.ensures.only c.take-magazine.ensures.all c.in-Some.ensures.value.1 c.some_owner-address.ensures in
    let number : c.take-magazine.new.self.number ≡ c.args.self.now.number = ap (λ (r : Row). r.number) c.take-magazine.ensures.same in
    let digits : c.take-magazine.new.self.digits ≡ c.args.self.now.digits = ap (λ (r : Row). r.digits) c.take-magazine.ensures.same in
    rw (number, digits) taken.gives.routed

pub returns-in-Some-clause-value : goal.returns-in-Some-clause-value
returns-in-Some-clause-value c =
    let taken =
    Taken-from (posting_of c.args.self.now 0 0) c.args.self.now c.take-magazine.new.self 0 0 _ _ _ (Turns-none _) c.in-Some.ensures.keeps c.take-magazine.ensures.same
    c.take-magazine.ensures.items c.take-magazine.ensures.only c.take-magazine.ensures.all c.in-Some.ensures.value.1 c.some_owner-address.ensures in
    let number : c.take-magazine.new.self.number ≡ c.args.self.now.number = ap (λ (r : Row). r.number) c.take-magazine.ensures.same in
    let digits : c.take-magazine.new.self.digits ≡ c.args.self.now.digits = ap (λ (r : Row). r.digits) c.take-magazine.ensures.same in
    rw (c.batch.ensures, number, digits) taken.gives

pub returns-in-Some-clause-round : goal.returns-in-Some-clause-round
returns-in-Some-clause-round c =
    let taken =
    Taken-from (posting_of c.args.self.now 0 0) c.args.self.now c.take-magazine.new.self 0 0 _ _ _ (Turns-none _) c.in-Some.ensures.keeps c.take-magazine.ensures.same
    c.take-magazine.ensures.items c.take-magazine.ensures.only c.take-magazine.ensures.all c.in-Some.ensures.value.1 c.some_owner-address.ensures in
    let round : c.take-magazine.new.self.round ≡ c.args.self.now.round = ap (λ (r : Row). r.round) c.take-magazine.ensures.same in
    rw c.batch.ensures (rw round at taken.here)

pub returns-in-None-clause-round : goal.returns-in-None-clause-round
returns-in-None-clause-round c = later_rounds c.args.self.now c.in-None.ensures.keeps c.in-None.ensures.value
