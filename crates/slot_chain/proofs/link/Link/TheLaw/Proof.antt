-- A `&` to a link is made where one to its value is. Assumes `Logic`.
use Rattle.slot_chain.proofs.Names.{Option, Some, None, [], ◌++◌, Ura, Logic, RattleType, Ptr, Incl-trans, meet_⊑_left, Shares-less, ShrLaws, said, said_shr_laws, beside_shr_laws, copy_shared, RawPtr-field, RawPtr-copy, lent_at, lent_at_shr_laws, Lends, Lends-said, Lends-both, Lends-lies, Lends-first, of_Lends}
use Rattle.slot_chain.proofs.LinkSteps.{Laws, testable, link_owns, link_lent}
use Rattle.slot_chain.specs.contracts.link.Link as C
use Rattle.slot_chain.proofs.link.Link.TheLaw.Statement.{statement}

module _ (T : RattleType) (L : Laws T) where
  laws : (p : Ptr) (o : Option T.Denot) → ShrLaws (link_lent T p o)
  laws p None = said_shr_laws _ tt
  laws p (Some x) = beside_shr_laws _ _ (said_shr_laws (testable p) (λ _. tt)) (lent_at_shr_laws T L.shr_laws p x)

  lends : {M : Type 1} {𝓤 : Ura M} (𝓛 : Logic 𝓤) (p : Ptr) (o : Option T.Denot) → Lends 𝓛 (link_owns T p o) (link_lent T p o) (C.the_row T).lives
  lends 𝓛 p None = Lends-said 𝓛 _ tt _
  lends 𝓛 p (Some x) =
      let l = (C.the_row T).lives in let less = Incl-trans (meet_⊑_left (T.lives ++ []) _) (meet_⊑_left T.lives []) in
      Lends-both 𝓛 _ _ (said (testable p)) (lent_at T p x) l (Lends-said 𝓛 (testable p) (λ _. tt) l) (Lends-first 𝓛 _ _ (lent_at T p x) l (Lends-lies 𝓛 T l p x (Shares-less 𝓛 T T.lives l less (L.shares 𝓛) x)))

pub shares : (T : RattleType) (L : Laws T) → statement T L
shares T L = of_Lends (C.struct T) (C.the_codes T.Denot T.coded) (C.the_heap T) (C.the_lent T) (λ d p. laws T L d.at d.value) (copy_shared RawPtr-field RawPtr-copy, tt) (λ M 𝓤 𝓛 d p. lends T L 𝓛 d.at d.value)
