-- The right to free a block where the handle came late: there is none where no handle has come, else that of the handle.
use Rattle.std.specs.Prelude.{List, [], ◌∷◌}
use mir.Syntax.{Ty}
use base.Fml.{Fml, ffalse}
use denote.RawPtr.{Ptr}

abbrev pub frees_late : {H : Type 0} → (H → Ty → Ptr → Fml) → List H → Ty → Ptr → Fml
frees_late right [] ty ptr = ffalse
frees_late right (h ∷ _) ty ptr = right h ty ptr
