use Rattle.std.proofs.Common.{◌≡◌, length}
use Rattle.example_shipper.proofs.parsing.Parser.parse.Given as goal

abbrev pub invariant-loop-at : goal.invariant-loop-at
invariant-loop-at g l = length (g.P.Burst.fillings l.parcel) ≡ l.at-end
