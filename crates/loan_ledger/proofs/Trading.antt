-- Which changes of two tokens the rule allows.
use Rattle.std.proofs.Common.{◌≡◌, ◌+◌, ◌<◌, List, [], ◌∷◌, ◌++◌, refl, ap, arith}
use Rattle.region_cut.specs.declared.slot.Slot.{Slot}
use Rattle.loan_ledger.specs.Weights.{weigh}
use Rattle.loan_ledger.specs.Accounts.{Account, account, nothing, IsBacked, Trades}
use Rattle.loan_ledger.proofs.Sums.{weigh-append, weigh-snoc}

-- the first takes in all that the second has
pub joins : (v w : Account) → IsBacked (account (v.parts + w.parts) (v.lent ++ w.lent) (v.freed ++ w.freed) (v.out ++ w.out))
    → Trades v w (account (v.parts + w.parts) (v.lent ++ w.lent) (v.freed ++ w.freed) (v.out ++ w.out)) nothing
joins v w backed = record {
  parts = omega arith;
  slots = λ h. let a = weigh-append h v.lent w.lent in let b = weigh-append h v.freed w.freed in let c = weigh-append h v.out w.out in omega arith;
  mine = backed;
  theirs = λ none. (refl, refl);
}

-- the first lends a slot, and the second stands for it
pub lends : (v w : Account) (s : Slot) → 0 < v.parts → IsBacked w
    → Trades v w (account v.parts (v.lent ++ s ∷ []) v.freed v.out) (account w.parts w.lent w.freed (w.out ++ s ∷ []))
lends v w s part backed = record {
  parts = refl;
  slots = λ h. let a = weigh-snoc h v.lent s in let b = weigh-snoc h w.out s in omega arith;
  mine = λ none. absurd (omega arith);
  theirs = backed;
}

-- the first takes back what the second stands for
pub takes_back : (v w : Account) → 0 < v.parts → IsBacked w
    → Trades v w (account v.parts v.lent (v.freed ++ w.out) v.out) (account w.parts w.lent w.freed [])
takes_back v w part backed = record {
  parts = refl;
  slots = λ h. let a = weigh-append h v.freed w.out in omega arith;
  mine = λ none. absurd (omega arith);
  theirs = backed;
}

-- the first hands on the last slot that it stands for
pub hands_on : (v w : Account) (kept : List Slot) (s : Slot) → v.out ≡ kept ++ s ∷ [] → IsBacked v → IsBacked w
    → Trades v w (account v.parts v.lent v.freed kept) (account w.parts w.lent w.freed (w.out ++ s ∷ []))
hands_on v w kept s last mine theirs = record {
  parts = refl;
  slots = λ h. let a = weigh-snoc h kept s in let b = weigh-snoc h w.out s in let c = ap (weigh h) last in omega arith;
  mine = mine;
  theirs = theirs;
}
