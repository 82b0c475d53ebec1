use Rattle.event_floor.proofs.FloorLaws.{few_numbers}
use Rattle.event_floor.proofs.lists.EmptyLists.new.Goals as goal

pub idle_desks-requires-clause-few : goal.idle_desks-requires-clause-few
idle_desks-requires-clause-few c = few_numbers c.profile-profile.result c.args.digits.bits c.args.desks c.profile-profile.ensures.bits c.requires.few

pub returns-clause-fewer : goal.returns-clause-fewer
returns-clause-fewer c = few_numbers c.profile-profile.result c.args.digits.bits c.args.desks c.profile-profile.ensures.bits c.requires.few
