use Rattle.std.proofs.Common.{◌≡◌, ℕ, ◌≤◌, List, length, take, vec_len, vec_capacity}
use Rattle.event_floor.specs.Floors.{desk_count}
use Rattle.event_floor.specs.headline.Bytes.{Holds}
use Rattle.event_floor.specs.headline.Memory.{LacksOnlyWhereItMay}
use Rattle.event_floor.specs.headline.Names.{IsNamed}
use Rattle.event_floor.proofs.headline.Kept.{KeptSince}
use Rattle.event_floor.proofs.headline.Runs.{AppliesAll}
use Rattle.event_floor.proofs.floor.Floor.run.Given as goal

abbrev pub invariant-loop-request : goal.invariant-loop-request
invariant-loop-request l = record {
  applied : AppliesAll l.fn.self (take l.request-index l.requests) l.answers.items l.self;
  lacked : LacksOnlyWhereItMay l.fn.self (take l.request-index l.requests) l.answers.items l.self;
  named : IsNamed l.self;
  kept : KeptSince l.fn.self l.self;
  held : (region : List ℕ) → Holds l.fn.self region → Holds l.self region;
  count : vec_len l.answers ≡ l.request-index;
  room : length l.requests ≤ vec_capacity l.answers;
  desks : desk_count l.self ≡ desk_count l.fn.self;
  parts : l.self.parts ≡ l.fn.self.parts;
}
