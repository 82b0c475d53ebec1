-- Batches come and go, and buffers come into a burst.
use Rattle.std.proofs.Common.{◌≡◌, ℕ, List, [], ◌∷◌, ◌++◌, length, refl, sym, ap, ◌∙◌, subst, append_assoc, append-nil, arith}
use Rattle.std.proofs.lemmas.List.{map-append}
use Rattle.slot_chain.specs.Buffer.{Buffer}
use Rattle.slot_chain.specs.Parcels.{ParcelState, Packs, unforwarded}
use Rattle.slot_chain.specs.Slots.{slot_of}
use Rattle.digit_route.specs.States.{BatchState}
use Rattle.batch_inbox.specs.States.{TakeState}
use Rattle.pool_desk.specs.Desks.{DeskState}
use Rattle.pool_desk.specs.Steps.{IsFilledUp}
use Rattle.slot_balance.specs.Posts.{HandlesAll, TakesSome}
use Rattle.seated_desk.specs.Kept.{IsSameStation, LendsOnto, LendsThere}
use Rattle.seated_desk.specs.declared.station.Station.{Station}
use Rattle.seated_desk.proofs.Shelved.{one_again}

none_of : (old : DeskState) (bs : List BatchState) (new : DeskState) → length bs ≡ 0 → HandlesAll old bs new → new ≡ old
none_of old [] new e h = h
none_of old (b ∷ bs) new e h = absurd (omega arith)

-- no batch was taken
pub takes_nothing : (old : DeskState) (t : TakeState) (n : ℕ) (new : DeskState) (t' : TakeState) → TakesSome old t n new t' → n ≡ 0 → new ≡ old
takes_nothing old t n new t' a e = none_of old a.batches new (a.count ∙ e) a.handled

-- nothing came into the burst
pub onto_none : (p : ParcelState) (s t : Station) → IsSameStation s t → LendsOnto p p s t
onto_none p s t i = record {
  added = [];
  lent = [];
  appended = sym (append-nil p.items);
  slots = refl;
  owner = refl;
  station = record { one = i.one; lent = i.lent ∙ sym (append-nil s.lent); freed = i.freed };
}

pub onto_same : (p q : ParcelState) (s t : Station) → q ≡ p → t.desk ≡ s.desk → t.pool ≡ s.pool → t.lent ≡ s.lent → t.freed ≡ s.freed → LendsOnto p q s t
onto_same p q s t e desk pool lent freed =
    subst (λ x. LendsOnto p x s t) (sym e) (onto_none p s t (record {
      one = record { number = ap (λ (d : DeskState). d.number) desk; digits = ap (λ (d : DeskState). d.digits) desk; pool = pool };
      lent = lent;
      freed = freed;
    }))

-- one more came
pub onto_one : (p q r : ParcelState) (s t u : Station) (b : Buffer) → LendsOnto p q s t → LendsThere (b ∷ []) t u → Packs q b r → LendsOnto p r s u
onto_one p q r s t u b a l packed = record {
  added = a.added ++ unforwarded b ∷ [];
  lent = a.lent ++ b ∷ [];
  appended = ap (λ (x : ParcelState). x.items) packed.2 ∙ ap (λ l. l ++ unforwarded b ∷ []) a.appended ∙ append_assoc p.items a.added (unforwarded b ∷ []);
  slots = map-append slot_of a.added (unforwarded b ∷ []) ∙ ap (λ l. l ++ b.slot ∷ []) a.slots ∙ sym (map-append slot_of a.lent (b ∷ []));
  owner = ap (λ (x : ParcelState). x.owner) packed.2 ∙ a.owner;
  station = record {
    one = one_again s t u a.station.one l.one;
    lent = l.lent ∙ ap (λ x. x ++ b ∷ []) a.station.lent ∙ append_assoc s.lent a.lent (b ∷ []);
    freed = l.freed ∙ a.station.freed;
  };
}

-- nothing was lent before it, nor behind it
onto_around : (p q : ParcelState) (r s t u : Station) → IsSameStation r s → LendsOnto p q s t → IsSameStation t u → LendsOnto p q r u
onto_around p q r s t u before a behind = record {
  added = a.added;
  lent = a.lent;
  appended = a.appended;
  slots = a.slots;
  owner = a.owner;
  station = record {
    one = one_again r s u before.one (one_again s t u a.station.one behind.one);
    lent = behind.lent ∙ a.station.lent ∙ ap (λ x. x ++ a.lent) before.lent;
    freed = behind.freed ∙ a.station.freed ∙ before.freed;
  };
}

the_same : (s : Station) → IsSameStation s s
the_same s = record { one = record { number = refl; digits = refl; pool = refl }; lent = refl; freed = refl }

pub onto_later : (p q : ParcelState) (s t u : Station) → IsSameStation s t → LendsOnto p q t u → LendsOnto p q s u
onto_later p q s t u i a = onto_around p q s t u u i a (the_same u)

pub onto_still : (p q : ParcelState) (s t u : Station) → LendsOnto p q s t → IsSameStation t u → LendsOnto p q s u
onto_still p q s t u a i = onto_around p q s s t u (the_same s) a i

-- buffers came together
pub onto_whole : (n : ℕ) (p q : ParcelState) (s t : Station) → IsFilledUp n p q → LendsThere q.items s t → LendsOnto p q s t
onto_whole n p q s t f l = record {
  added = q.items;
  lent = q.items;
  appended = sym (ap (λ x. x ++ q.items) f.none);
  slots = refl;
  owner = ap (λ (x : ParcelState). x.owner) f.same;
  station = l;
}
