-- What the top of a chain tells of it, and what is left where the chain was moved out.
use Rattle.std.proofs.Common.{◌≡◌, ◌≢◌, List, [], ◌∷◌, ◌++◌, Option, Some, None, refl, ap, subst}
use denote.RawPtr.{Ptr, null_ptr, block_ptr}
use Rattle.slot_chain.specs.declared.link.Link.{Link}
use Rattle.slot_chain.specs.declared.node.Node.{Node}
use Rattle.slot_chain.specs.Buffer.{Buffer}
use Rattle.slot_chain.specs.Chains.{buffer_of, buffers_at, buffers_of, below_at, below_of, held, is_list}

abbrev is_cons : List Buffer → Type 0
is_cons [] = ⊥
is_cons (_ ∷ _) = Unit {0}

abbrev is_some : Option Node → Type 0
is_some None = ⊥
is_some (Some _) = Unit {0}

not_empty : (bs : List Buffer) (b : Buffer) (cs : List Buffer) → bs ++ b ∷ cs ≡ [] → ⊥
not_empty [] b cs e = subst is_cons e tt
not_empty (a ∷ bs) b cs e = subst is_cons e tt

none_at : (m : Option Node) → buffers_at m ≡ [] → m ≡ None
none_at None e = refl
none_at (Some n) e = absurd (not_empty (held n.below) (buffer_of n) [] e)

pub empty_is_none : (l : Link Node) → buffers_of l ≡ [] → l.value ≡ None
empty_is_none l e = none_at l.value e

moved_at : (m : Option Node) (p : Ptr) → held (below_at m p) ≡ [] → m ≡ None
moved_at None p e = refl
moved_at (Some n) p e = absurd (not_empty (held n.below) (buffer_of n) [] e)

-- nothing is held where nothing is below
pub unheld_is_none : (l : Link Node) → held (below_of l) ≡ [] → l.value ≡ None
unheld_is_none l e = moved_at l.value l.at e

left_at : (m : Option Node) (p : Ptr) → m ≡ None → held (below_at m p) ≡ []
left_at None null_ptr e = refl
left_at None (block_ptr b o) e = refl
left_at (Some n) p e = absurd (subst is_some e tt)

pub none_is_unheld : (l : Link Node) → l.value ≡ None → held (below_of l) ≡ []
none_is_unheld l e = left_at l.value l.at e

there_at : (m : Option Node) (p : Ptr) → below_at m p ≢ None → (m ≡ None → p ≡ null_ptr) × (below_at m p ≡ Some (buffers_at m))
there_at None null_ptr h = (λ _. refl, refl)
there_at None (block_ptr b o) h = absurd (h refl)
there_at (Some n) p h = (λ e. absurd (subst is_some e tt), refl)

-- a chain that was not moved out is the list of its top, and ends with null
pub is_list_there : (l : Link Node) → below_of l ≢ None → (l.value ≡ None → l.at ≡ null_ptr) × (below_of l ≡ Some (buffers_of l))
is_list_there l h = there_at l.value l.at h

list_at : (m : Option Node) (p : Ptr) → ((m ≡ None) → (p ≡ null_ptr)) → below_at m p ≡ Some (buffers_at m)
list_at None p h = ap (below_at None) (h refl)
list_at (Some n) p h = refl

pub list_is_there : (l : Link Node) → is_list l → below_of l ≡ Some (buffers_of l)
list_is_there l h = list_at l.value l.at h.0

-- nothing stands before the end of an empty list
pub front_is_none : (bs cs : List Buffer) → bs ++ cs ≡ [] → bs ≡ []
front_is_none [] cs e = refl
front_is_none (b ∷ bs) cs e = absurd (subst is_cons e tt)

-- of three lists that name nothing together, the first two name nothing
pub fronts_are_none : (xs ys zs : List Buffer) → xs ++ (ys ++ zs) ≡ [] → (xs ≡ []) × (ys ≡ [])
fronts_are_none [] ys zs e = (refl, front_is_none ys zs e)
fronts_are_none (x ∷ xs) ys zs e = absurd (subst is_cons e tt)
