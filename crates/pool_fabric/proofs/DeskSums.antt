-- What the calls of a desk do to the chunks that it drew.
use Rattle.std.proofs.Common.{◌≡◌, ℕ, ◌+◌, refl}
use Rattle.std.specs.Prelude.{Ok}
use Rattle.region_cut.specs.declared.part.Part.{Part}
use Rattle.slot_chain.specs.Buffer.{Buffer}
use Rattle.pool_desk.specs.Desks.{DeskState}
use Rattle.pool_desk.specs.Steps.{Claims, AllocsClass}
use Rattle.pool_fabric.specs.declared.ledger.DrawnChunk.{DrawnChunk}
use Rattle.pool_fabric.specs.Pages.{drawn_for}
use Rattle.pool_fabric.specs.Accounts.{of_drawn, drew}
use Rattle.slot_balance.proofs.DeskSums.{draws, given_drawn}

pub claimed_chunk : (g : DrawnChunk → ℕ) (old : DeskState) (part : Part) (class : ℕ) (new : DeskState) → Claims old part class new → drew g new ≡ g (drawn_for part.chunk class) + drew g old
claimed_chunk g old part class new c = draws (of_drawn g) part class (g (drawn_for part.chunk class)) old.drawn new.drawn (λ x e k i. g (drawn_for (e i) (k i))) c.drawn

pub gave_chunks : (g : DrawnChunk → ℕ) (old : DeskState) (class : ℕ) (b : Buffer) (new : DeskState) → AllocsClass old class (Ok b) new → drew g new ≡ drew g old
gave_chunks g old class b new a = given_drawn (of_drawn g) a.0.from b old.drawn new.drawn (λ c n rest. refl) a.0.names
