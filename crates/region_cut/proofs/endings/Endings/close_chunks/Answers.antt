use Rattle.std.proofs.Common.{sym, subst}
use Rattle.std.specs.List.{All}
use Rattle.region_cut.specs.Endings.{EndingsState, HasKnownSlots}
use Rattle.region_cut.proofs.endings.Endings.close_chunks.Goals as goal

pub resolve-requires : goal.resolve-requires
resolve-requires c = subst (λ (s : EndingsState). All (HasKnownSlots s.known) s.chunks) (sym c.self.view_is) c.requires
