-- All that stations have is gathered, one after the other.
use Rattle.std.proofs.Common.{◌≡◌, ℕ, ◌+◌, List, [], ◌∷◌, ◌++◌, sym, ap, ◌∙◌, arith, append-nil, IsPermutation}
use Rattle.slot_chain.specs.Buffer.{Buffer}
use Rattle.pool_desk.specs.Desks.{DeskState}
use Rattle.slot_balance.specs.Weights.{weigh}
use Rattle.pool_fabric.specs.Stations.{StationState}
use Rattle.pool_fabric.specs.Gathered.{GatheredState, AddsEach, AddsStation}
use Rattle.pool_fabric.specs.Whole.{IsAllOf}
use Rattle.slot_balance.proofs.Sums.{weigh-append, weigh-snoc, weigh-permutation}

-- what was gathered is all of the stations but of those that are left
pub record IsAllBut (stations left : List StationState) (desks : List DeskState) (lent freed : List Buffer) : Type 0 where
  pub every_desk : (h : DeskState → ℕ)
      → weigh h desks + weigh (λ (s : StationState). h s.desk) left ≡ weigh (λ (s : StationState). h s.desk) stations
  pub all_lent : (h : Buffer → ℕ)
      → weigh h lent + weigh (λ (s : StationState). weigh h s.lent) left ≡ weigh (λ (s : StationState). weigh h s.lent) stations
  pub all_freed : (h : Buffer → ℕ)
      → weigh h freed + weigh (λ (s : StationState). weigh h s.freed) left ≡ weigh (λ (s : StationState). weigh h s.freed) stations

-- of these stations all but those that are left were added to what was gathered
pub record AddsBut (stations left : List StationState) (old : GatheredState) (desks : List DeskState) (lent freed : List Buffer) : Type 0 where
  pub every_desk : (h : DeskState → ℕ)
      → weigh h desks + weigh (λ (s : StationState). h s.desk) left ≡ weigh h old.desks + weigh (λ (s : StationState). h s.desk) stations
  pub all_lent : (h : Buffer → ℕ)
      → weigh h lent + weigh (λ (s : StationState). weigh h s.lent) left ≡ weigh h old.lent + weigh (λ (s : StationState). weigh h s.lent) stations
  pub all_freed : (h : Buffer → ℕ)
      → weigh h freed + weigh (λ (s : StationState). weigh h s.freed) left ≡ weigh h old.freed + weigh (λ (s : StationState). weigh h s.freed) stations

-- nothing was gathered yet
pub none_yet : (stations : List StationState) → IsAllBut stations stations [] [] []
none_yet stations = record { every_desk = λ h. omega arith; all_lent = λ h. omega arith; all_freed = λ h. omega arith }

-- one more station was gathered
pub one_more : (stations old new : List StationState) (t : StationState) (a b : GatheredState) → IsPermutation old (t ∷ new) → AddsStation t a b
    → IsAllBut stations old a.desks a.lent a.freed → IsAllBut stations new b.desks b.lent b.freed
one_more stations old new t a b p adds i = record {
  every_desk = λ h.
      let e = ap (weigh h) adds.desks in
      let m = weigh-snoc h a.desks t.desk in
      let q = weigh-permutation (λ (s : StationState). h s.desk) old (t ∷ new) p in
      let j = i.every_desk h in
      omega arith;
  all_lent = λ h.
      let e = ap (weigh h) adds.lent in
      let m = weigh-append h a.lent t.lent in
      let q = weigh-permutation (λ (s : StationState). weigh h s.lent) old (t ∷ new) p in
      let j = i.all_lent h in
      omega arith;
  all_freed = λ h.
      let e = ap (weigh h) adds.freed in
      let m = weigh-append h a.freed t.freed in
      let q = weigh-permutation (λ (s : StationState). weigh h s.freed) old (t ∷ new) p in
      let j = i.all_freed h in
      omega arith;
}

-- none is left
pub none_left : (stations left : List StationState) (desks : List DeskState) (lent freed : List Buffer) → left ≡ [] → IsAllBut stations left desks lent freed
    → IsAllOf stations desks lent freed
none_left stations left desks lent freed none i = record {
  every_desk = λ h. let e = ap (weigh (λ (s : StationState). h s.desk)) none in let j = i.every_desk h in omega arith;
  all_lent = λ h. let e = ap (weigh (λ (s : StationState). weigh h s.lent)) none in let j = i.all_lent h in omega arith;
  all_freed = λ h. let e = ap (weigh (λ (s : StationState). weigh h s.freed)) none in let j = i.all_freed h in omega arith;
}

-- the stations that are left were added as they are
pub with_the_rest : (stations left : List StationState) (g : GatheredState) (desks : List DeskState) (lent freed : List Buffer)
    → IsAllBut stations left g.desks g.lent g.freed → AddsEach left g desks lent freed → IsAllOf (stations ++ []) desks lent freed
with_the_rest stations left g desks lent freed i adds = rw (append-nil stations) (record {
  every_desk = λ h. adds.every_desk h ∙ i.every_desk h;
  all_lent = λ h. adds.all_lent h ∙ i.all_lent h;
  all_freed = λ h. adds.all_freed h ∙ i.all_freed h;
})

-- one more station was added
pub adds_one : (left new : List StationState) (t : StationState) (g : GatheredState) (desks : List DeskState) (lent freed : List Buffer)
    (initial : List StationState) → left ≡ new ++ t ∷ [] → AddsBut initial left g desks lent freed
    → AddsBut initial new g (desks ++ t.desk ∷ []) (lent ++ t.lent) (freed ++ t.freed)
adds_one left new t g desks lent freed initial e i = record {
  every_desk = λ h.
      let j = i.every_desk h in
      let a = weigh-snoc h desks t.desk in
      let w = ap (weigh (λ (s : StationState). h s.desk)) e in
      let b = weigh-snoc (λ (s : StationState). h s.desk) new t in
      omega arith;
  all_lent = λ h.
      let j = i.all_lent h in
      let a = weigh-append h lent t.lent in
      let w = ap (weigh (λ (s : StationState). weigh h s.lent)) e in
      let b = weigh-snoc (λ (s : StationState). weigh h s.lent) new t in
      omega arith;
  all_freed = λ h.
      let j = i.all_freed h in
      let a = weigh-append h freed t.freed in
      let w = ap (weigh (λ (s : StationState). weigh h s.freed)) e in
      let b = weigh-snoc (λ (s : StationState). weigh h s.freed) new t in
      omega arith;
}

-- none is left to be added
pub added_all : (initial left : List StationState) (g : GatheredState) (desks : List DeskState) (lent freed : List Buffer) → left ≡ []
    → AddsBut initial left g desks lent freed → AddsEach initial g desks lent freed
added_all initial left g desks lent freed e i = record {
  every_desk = λ h. let j = i.every_desk h in let w = ap (weigh (λ (s : StationState). h s.desk)) e in omega arith;
  all_lent = λ h. let j = i.all_lent h in let w = ap (weigh (λ (s : StationState). weigh h s.lent)) e in omega arith;
  all_freed = λ h. let j = i.all_freed h in let w = ap (weigh (λ (s : StationState). weigh h s.freed)) e in omega arith;
}

-- the same lists, under other names
pub same_all : (stations stations' : List StationState) (desks desks' : List DeskState) (lent lent' freed freed' : List Buffer)
    → stations ≡ stations' → desks ≡ desks' → lent ≡ lent' → freed ≡ freed' → IsAllOf stations desks lent freed → IsAllOf stations' desks' lent' freed'
same_all stations stations' desks desks' lent lent' freed freed' a b c d all = rw (sym a, sym b, sym c, sym d) all
