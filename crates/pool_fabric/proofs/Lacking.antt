-- Which desk's station is not among some.
use Rattle.std.proofs.Common.{◌≡◌, ◌≢◌, ℕ, ◌<◌, List, [], ◌∷◌, ◌++◌, IsPermutation, Some, get_or, refl, sym, ap, ◌∙◌, subst, append_assoc}
use Rattle.std.specs.Prelude.{slice_get, Result, Ok, Err, IsErr, IsErrAnd, IfErr}
use Rattle.std.specs.List.{swap_remove}
use Rattle.std.proofs.lemmas.Option.{get_or_from_slice_get, slice_get_within}
use Rattle.std.proofs.lemmas.List.Elements.{All-cons, All-push, All-pop}
use Rattle.std.proofs.lemmas.List.Sorted.{All-permutation, IsPermutation-sym, IsPermutation-swap_remove}
use Rattle.pool_fabric.specs.Stations.{StationState}
use Rattle.pool_fabric.specs.declared.error.GatherError.{GatherError}
use Rattle.pool_fabric.specs.declared.error.GatherError.TheVariants.{NoMemory, Missing}
use Rattle.pool_fabric.specs.Faults.{LacksNumber, IsGatherFault}
use Rattle.pool_fabric.proofs.AllOf.{same_all}

-- the station at a place was taken out
pub taken_out : (old new : List StationState) (at number : ℕ) (here s : StationState) → slice_get old at ≡ Some here → here.desk.number ≡ number
    → s ≡ get_or old at s → new ≡ swap_remove old at s → (s.desk.number ≡ number) × IsPermutation old (s ∷ new)
taken_out old new at number here s is of value items = (
  ap (λ (x : StationState). x.desk.number) (value ∙ get_or_from_slice_get old at here s is) ∙ of,
  subst (λ l. IsPermutation old (s ∷ l)) (sym items) (IsPermutation-swap_remove old at s (slice_get_within old at here is) value),
)

-- a station of another number was taken out
pub lacks_before : (a : ℕ) (old new : List StationState) (s : StationState) → IsPermutation old (s ∷ new) → s.desk.number ≢ a → LacksNumber a new → LacksNumber a old
lacks_before a old new s p other lacks = All-permutation (λ (x : StationState). x.desk.number ≢ a) (s ∷ new) old (IsPermutation-sym old (s ∷ new) p)
    (All-cons (λ (x : StationState). x.desk.number ≢ a) s new other lacks)

-- what is missing of all is missing of the first of them
pub lacks_of : (k n : ℕ) (all some others : List StationState) (e : GatherError) → k ≡ n → all ≡ some ++ others → ((a : ℕ) → LacksNumber a all → LacksNumber a some)
    → IsGatherFault k all e → IsGatherFault n some e
lacks_of k n all some others NoMemory same parts within f = tt
lacks_of k n all some others (Missing x) same parts within f = record {
  below = subst (λ m. x.missing < m) same f.below;
  lacks = within x.missing f.lacks;
  others = others ++ f.others;
  found = same_all _ _ _ _ _ _ _ _ (ap (λ l. l ++ f.others) parts ∙ append_assoc some others f.others) refl refl refl f.found;
}

-- a station went from the shelf to the others
pub lacks_moved : (a : ℕ) (stations shelf : List StationState) (s t : StationState) → t.desk.number ≡ s.desk.number
    → LacksNumber a (stations ++ t ∷ []) → LacksNumber a shelf → LacksNumber a stations × LacksNumber a (shelf ++ s ∷ [])
lacks_moved a stations shelf s t same l m =
    let P : StationState → Type 0 = λ (x : StationState). x.desk.number ≢ a in
    let both = All-pop P (stations ++ t ∷ []) stations (Some t) refl l in
    (both.0, All-push P shelf s m (λ e. both.1 (same ∙ e)))

-- what holds of an error holds where it is passed on
pub passed_on : {X E : Type 0} (P : E → Type 0) (r : Result X E) (e : E) → IsErr r × IsErrAnd r (λ y. y ≡ e) → P e → IfErr r P
passed_on P (Ok x) e i p = tt
passed_on P (Err y) e i p = subst P (sym i.1) p
