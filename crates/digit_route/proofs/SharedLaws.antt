-- The laws of shared digits, which other crates may cite.
use Rattle.digit_route.specs.SharedDigits.{SharedAtMostAll, SharedBothWays, SharedByEquals, SharedByOthers, SharedOnTheWay}
use Rattle.digit_route.proofs.DigitLaws.{common_comm, common-le, common-iff, common-lt, common_nearer}

pub shared_both_ways : SharedBothWays
shared_both_ways = common_comm

pub shared_at_most_all : SharedAtMostAll
shared_at_most_all = common-le

pub shared_by_equals : SharedByEquals
shared_by_equals s x y i = common-iff s i x y

pub shared_by_others : SharedByOthers
shared_by_others s x y i = common-lt s i x y

pub shared_on_the_way : SharedOnTheWay
shared_on_the_way = common_nearer
