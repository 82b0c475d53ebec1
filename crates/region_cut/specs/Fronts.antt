-- What a front shows: a slice, of which parts were lent one after the other from its front.
use Rattle.std.specs.Prelude.{ℕ, List, ◌++◌}
use Rattle.std.specs.Borrow.{GName}
use Rattle.region_cut.specs.declared.endings.front.Front.{Front}

-- the name of the slice
abbrev pub whole_of : Front → GName
whole_of f = f.tie.whole

-- the bytes of the parts that were given back, joined in order
abbrev pub settled_of : Front → List ℕ
settled_of f = f.tie.settled

-- the names of the parts that are still lent, in order
abbrev pub lent_of : Front → List GName
lent_of f = f.tie.taken

-- the bytes of what was not lent
abbrev pub rest_of : Front → List ℕ
rest_of f = f.rest.now

-- What the slice ends as, where nothing of it is lent any more.
abbrev pub end_of : Front → List ℕ
end_of f = settled_of f ++ rest_of f
