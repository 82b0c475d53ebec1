-- Lists of the slots of stations are joined, and stations are settled one by one.
use Rattle.std.proofs.Common.{◌≡◌, ℕ, zero, suc, ◌+◌, ◌<◌, List, [], ◌∷◌, ◌++◌, length, get_or, take, drop, sym, ap, ◌∙◌, subst, arith, append_assoc, append-nil, IsPermutation}
use Rattle.std.specs.Prelude.{Option}
use Rattle.std.proofs.lemmas.List.{length-map, take_all, drop_all}
use Rattle.std.proofs.lemmas.List.Sorted.{IsPermutation-append}
use Rattle.region_cut.specs.declared.slot.Slot.{Slot}
use Rattle.slot_chain.specs.Slots.{AddsSlots}
use Rattle.slot_audit.specs.Audit.{FindsEachSlot}
use Rattle.seated_desk.specs.declared.station.Station.{Station}
use Rattle.seated_desk.specs.Claims.{AreNoted}
use Rattle.seated_desk.specs.Settled.{AreSettled, AreWhole, IsAudited, claimed, desk_of, listed, station_slots}
use Rattle.seated_desk.proofs.Claimed.{settled_claims}

adds_more : (xs ys old mid new : List Slot) → AddsSlots xs old mid → AddsSlots ys mid new → AddsSlots (xs ++ ys) old new
adds_more xs ys old mid new a b = record {
  added = a.added ++ b.added;
  appended = b.appended ∙ ap (λ l. l ++ b.added) a.appended ∙ append_assoc old a.added b.added;
  each = IsPermutation-append xs a.added ys b.added a.each b.each;
}

listed-next : (xs : List Station) (k : ℕ) (x : Station) → k < length xs → x ≡ get_or xs k x → listed (take (suc k) xs) ≡ listed (take k xs) ++ station_slots x
listed-next [] k x l e = absurd (omega arith)
listed-next (y ∷ ys) zero x l e = ap (λ z. station_slots z ++ []) (sym e) ∙ append-nil (station_slots x)
listed-next (y ∷ ys) (suc k) x l e = ap (λ r. station_slots y ++ r) (listed-next ys k x (omega arith) e) ∙ sym (append_assoc (station_slots y) (listed (take k ys)) (station_slots x))

-- one more was listed
pub adds_next : (xs : List Station) (k : ℕ) (x : Station) (old mid new : List Slot) → k < length xs → x ≡ get_or xs k x
    → AddsSlots (listed (take k xs)) old mid → AddsSlots (station_slots x) mid new → AddsSlots (listed (take (k + 1) xs)) old new
adds_next xs k x old mid new l e a b =
    subst (λ (s : List Slot). AddsSlots s old new) (sym (ap (λ n. listed (take n xs)) (let same : k + 1 ≡ suc k = omega arith in same) ∙ listed-next xs k x l e)) (adds_more (listed (take k xs)) (station_slots x) old mid new a b)

-- what was listed from nothing, with an audit's Ok
pub are_whole : (stations : List Station) (found : List Slot) (drawn : List (Option ℕ)) → AddsSlots (listed stations) [] found → FindsEachSlot drawn found → AreWhole drawn stations
are_whole stations found drawn a ok = record { found = found; each = subst (λ l. IsPermutation (listed stations) l) (sym a.appended) a.each; once = ok }

-- the audit of stations that were settled
pub audited : (old lent new seen : List Station) (drawn : List (Option ℕ)) → lent ≡ old → AreSettled lent new → seen ≡ new → AreNoted drawn (claimed seen) → AreWhole drawn seen → IsAudited old
audited old lent new seen drawn e settled same noted whole =
    let s : AreSettled old seen = subst (λ xs. AreSettled xs seen) e (subst (λ xs. AreSettled lent xs) (sym same) settled) in
    record { settled = seen; drawn = drawn; same = s; noted = subst (λ cs. AreNoted drawn cs) (settled_claims old seen s) noted; whole = whole }

-- as many stations were put back as there were
pub put_front : (n : ℕ) (lent new old : List Station) → lent ≡ old → AreSettled lent new → length old ≡ n → take n (new ++ drop (length new) old) ≡ new
put_front n lent new old e settled l =
    let m : length new ≡ length lent = sym (length-map new desk_of) ∙ ap length settled ∙ length-map lent desk_of in
    let k = ap length e in
    let none : drop (length new) old ≡ [] = drop_all (length new) old (omega arith) in
    ap (λ r. take n (new ++ r)) none ∙ ap (take n) (append-nil new) ∙ take_all n new (omega arith)
