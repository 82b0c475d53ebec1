-- What workers gave back, and what they counted together.
use Rattle.std.specs.Prelude.{◌≡◌, ℕ, ◌+◌, ◌<◌, ◌≤◌, List, Option, Some, None, length, slice_index_or, sum_by, filter_map, Result, Ok, Err}
use Rattle.slot_chain.specs.Counts.{capped}
use Rattle.pool_fabric.specs.Stations.{StationState}
use Rattle.pool_jobs.specs.declared.counting_heap.WorkerResult.{WorkerResult}
use Rattle.pool_jobs.specs.declared.tally.WorkerCounts.{WorkerCounts}

-- nothing was counted
abbrev pub none_counted : WorkerCounts
none_counted = record { starved = 0; dropped = 0 }

-- who got no allocator gave back no station and counted nothing
abbrev pub station_of : {T S J : Type 0} → Option (WorkerResult T S J) → Option StationState
station_of None = None
station_of (Some d) = d.station

abbrev pub counts_of : {T S J : Type 0} → Option (WorkerResult T S J) → WorkerCounts
counts_of None = none_counted
counts_of (Some d) = d.counts

abbrev pub stations_of : {T S J : Type 0} → List (Option (WorkerResult T S J)) → List StationState
stations_of outcomes = filter_map station_of outcomes

-- the station at this place has the least number of a desk
abbrev pub IsLeastAt : List StationState → ℕ → Type 0
IsLeastAt stations at = (k : ℕ) (d : StationState) → k < length stations
    → (slice_index_or stations at d).desk.number ≤ (slice_index_or stations k d).desk.number

-- that no buffer was to be had is counted
abbrev pub Counts : {B E : Type 0} → WorkerCounts → Result B E → WorkerCounts → Type 0
Counts old (Ok b) new = new ≡ old
Counts old (Err e) new = new ≡ record old { starved = capped (old.starved + 1) }

-- two counts added up, none beyond the greatest u64
abbrev pub both : WorkerCounts → WorkerCounts → WorkerCounts
both a b = record {
  starved = capped (a.starved + b.starved);
  dropped = capped (a.dropped + b.dropped);
}

-- what all of these counted
abbrev pub counted_by : {T S J : Type 0} → List (Option (WorkerResult T S J)) → WorkerCounts
counted_by outcomes = record {
  starved = capped (sum_by (λ o. (counts_of o).starved) outcomes);
  dropped = capped (sum_by (λ o. (counts_of o).dropped) outcomes);
}
