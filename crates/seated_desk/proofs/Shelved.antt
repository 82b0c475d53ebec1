-- A shelf of stations gets one more, and one of its stations moves batches.
use Rattle.std.proofs.Common.{◌≡◌, ℕ, suc, ◌+◌, List, [], ◌∷◌, ◌++◌, length, get_or, set, Some, sym, subst, ◌∙◌, arith}
use Rattle.std.specs.Prelude.{All, slice_get}
use Rattle.std.proofs.Math.Seq.{map-set_same}
use Rattle.pool_desk.specs.Desks.{DeskState}
use Rattle.chunk_stock.specs.Notes.{NotesNone}
use Rattle.chunk_stock.specs.declared.drawer.Drawer.{Drawer}
use Rattle.slot_balance.proofs.Rows.{each_more}
use Rattle.seated_desk.specs.Claims.{IsSameDesk}
use Rattle.seated_desk.specs.Kept.{IsOfOne, IsSameStation, KeepsStation}
use Rattle.seated_desk.specs.Settled.{AreSettled, desk_of}
use Rattle.seated_desk.specs.Shelves.{AreNumbered}
use Rattle.seated_desk.specs.declared.station.Station.{Station}

-- one more, with the number before
pub numbered_next : (pool many : ℕ) (xs ys : List Station) (x : Station) → AreNumbered pool many xs → x.desk.number + length xs + 1 ≡ many → x.pool ≡ pool → ys ≡ xs ++ x ∷ [] → AreNumbered pool many ys
numbered_next pool many xs ys x old number of e k s at =
    each_more (λ j (y : Station). (y.desk.number + j + 1 ≡ many) × (y.pool ≡ pool)) xs x old (number, of) k s (subst (λ (l : List Station). slice_get l k ≡ Some s) e at)

pub none_numbered : (pool many : ℕ) (xs : List Station) → xs ≡ [] → AreNumbered pool many xs
none_numbered pool many xs e = subst (λ (l : List Station). AreNumbered pool many l) (sym e) (λ k s at. absurd (cc))

-- drawers that noted nothing are taken one by one
pub new_same : (xs ys : List Drawer) → xs ≡ ys → All (λ (d : Drawer). NotesNone d.drawn) ys → All (λ (d : Drawer). NotesNone d.drawn) xs
new_same xs ys e all = subst (λ l. All (λ (d : Drawer). NotesNone d.drawn) l) (sym e) all

pub new_first : (d : Drawer) (rest xs : List Drawer) → xs ≡ d ∷ rest → All (λ (d : Drawer). NotesNone d.drawn) xs → NotesNone d.drawn
new_first d rest xs e all = subst (λ l. All (λ (d : Drawer). NotesNone d.drawn) l) e all 0 d (omega arith)

pub new_rest : (d : Drawer) (rest xs : List Drawer) → xs ≡ d ∷ rest → All (λ (d : Drawer). NotesNone d.drawn) xs → All (λ (d : Drawer). NotesNone d.drawn) rest
new_rest d rest xs e all k x low = subst (λ l. All (λ (d : Drawer). NotesNone d.drawn) l) e all (suc k) x (omega arith)

-- what a desk is, through two calls
pub same_again : (a b c : DeskState) → IsSameDesk a b → IsSameDesk b c → IsSameDesk a c
same_again a b c p q = record { number = q.number ∙ p.number; digits = q.digits ∙ p.digits; drawn = q.drawn ∙ p.drawn }

-- what a station is, through two calls
pub keeps_again : (a b c : Station) → KeepsStation a b → KeepsStation b c → KeepsStation a c
keeps_again a b c p q = record { desk = same_again a.desk b.desk c.desk p.desk q.desk; pool = q.pool ∙ p.pool; lent = q.lent ∙ p.lent; freed = q.freed ∙ p.freed }

pub one_again : (a b c : Station) → IsOfOne a b → IsOfOne b c → IsOfOne a c
one_again a b c p q = record { number = q.number ∙ p.number; digits = q.digits ∙ p.digits; pool = q.pool ∙ p.pool }

pub same_station_again : (a b c : Station) → IsSameStation a b → IsSameStation b c → IsSameStation a c
same_station_again a b c p q = record { one = one_again a b c p.one q.one; lent = q.lent ∙ p.lent; freed = q.freed ∙ p.freed }

-- the station at place i moved batches
pub settled_next : (old now : List Station) (i : ℕ) (d y z : Station) → KeepsStation (get_or now i d) y → KeepsStation y z → AreSettled old now → AreSettled old (set now i z)
settled_next old now i d y z p q before =
    let w = get_or now i d in
    let k = keeps_again w y z p q in
    let e : desk_of z ≡ desk_of w = (λ j. (k.desk.number j, k.desk.drawn j, k.lent j, k.freed j)) in
    map-set_same desk_of now i z d e ∙ before
