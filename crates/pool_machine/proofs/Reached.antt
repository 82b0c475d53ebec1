-- States that a run of a new pool leads to.
use Rattle.std.proofs.Common.{◌≡◌, ℕ, ◌^◌, ◌≤◌, List, [], ◌∷◌, ◌++◌, refl, sym, ap, ◌∙◌, subst}
use Rattle.region_cut.specs.declared.slot.Slot.{Slot}
use Rattle.digit_route.specs.Digits.{Scheme, IsScheme}
use Rattle.pool_machine.specs.declared.request.Request.{Request}
use Rattle.pool_machine.specs.State.{State, opening}
use Rattle.pool_machine.specs.Steps.{Answer, Answers, Step, Run, after}
use Rattle.pool_machine.specs.Forwards.{counted, forwards}
use Rattle.pool_machine.specs.Reached.{IsReached}
use Rattle.pool_machine.specs.Sound.{Sound}
use Rattle.pool_machine.proofs.Keeps.{sound_run}
use Rattle.pool_machine.proofs.Numbers.{after_numbers}
use Rattle.pool_machine.proofs.Openings.{opening_sound}

-- one more request at the end
pub run_push : (qs : List Request) (ys : List Answer) (old mid : State) (q : Request) (y : Answer) → Run old qs ys mid → Answers mid q y →
    Run old (qs ++ q ∷ []) (ys ++ y ∷ []) (after mid q y)
run_push [] [] old mid q y g h = subst (λ st. Answers st q y × (after mid q y ≡ after st q y)) g (h, refl)
run_push (p ∷ qs) (x ∷ ys) old mid q y g h = (g.0, run_push qs ys (after old p x) mid q y g.1 h)
run_push [] (x ∷ ys) old mid q y g h = elim g [ ]
run_push (p ∷ qs) [] old mid q y g h = elim g [ ]

pub forwards_push : (qs : List Request) (ys : List Answer) (old mid : State) (q : Request) (y : Answer) → Run old qs ys mid → (s : Slot) (c : ℕ) →
    forwards old (qs ++ q ∷ []) (ys ++ y ∷ []) s c ≡ counted mid q y s (forwards old qs ys s c)
forwards_push [] [] old mid q y g s c = ap (λ st. counted st q y s c) (sym g)
forwards_push (p ∷ qs) (x ∷ ys) old mid q y g s c = forwards_push qs ys (after old p x) mid q y g.1 s (counted old p x s c)
forwards_push [] (x ∷ ys) old mid q y g s c = elim g [ ]
forwards_push (p ∷ qs) [] old mid q y g s c = elim g [ ]

-- how a pool with the numbers of this one begins
abbrev new_pool : State → State
new_pool st = opening st.desks st.chunks st.digits st.limit

pub opening_reached : (desks chunks : ℕ) (digits : Scheme) (limit : ℕ) → IsScheme digits → desks ≤ 2 ^ digits.bits →
    IsReached (opening desks chunks digits limit) (λ s. 0)
opening_reached desks chunks digits limit i l =
    record { digits = i; desks = l; requests = []; answers = []; run = refl; counts = λ s. refl }

same_pool : (st : State) (q : Request) (y : Answer) → new_pool st ≡ new_pool (after st q y)
same_pool st q y =
    let n = after_numbers st q y in
    λ i. opening (sym n.desks i) (sym n.chunks i) (sym n.digits i) (sym n.limit i)

pub step_reached : (old new : State) (count : Slot → ℕ) (q : Request) (y : Answer) → IsReached old count → Step old q y new →
    IsReached new (λ s. counted old q y s (count s))
step_reached old new count q y h g =
    let n = after_numbers old q y in
    let p = same_pool old q y in
    subst (λ st. IsReached st (λ s. counted old q y s (count s))) (sym g.1) (record {
      digits = subst IsScheme (sym n.digits) h.digits;
      desks = subst (λ m. m ≤ 2 ^ (after old q y).digits.bits) (sym n.desks)
          (subst (λ (d : Scheme). old.desks ≤ 2 ^ d.bits) (sym n.digits) h.desks);
      requests = h.requests ++ q ∷ [];
      answers = h.answers ++ y ∷ [];
      run = subst (λ st. Run st (h.requests ++ q ∷ []) (h.answers ++ y ∷ []) (after old q y)) p
          (run_push h.requests h.answers (new_pool old) old q y h.run g.0);
      counts = λ s. ap (counted old q y s) (h.counts s)
          ∙ (sym (forwards_push h.requests h.answers (new_pool old) old q y h.run s 0)
          ∙ ap (λ st. forwards st (h.requests ++ q ∷ []) (h.answers ++ y ∷ []) s 0) p);
    })

-- what each step keeps holds in each of them
pub reached_sound : (st : State) (count : Slot → ℕ) → IsReached st count → Sound st count
reached_sound st count h =
    subst (λ c. Sound st c) (λ i s. sym (h.counts s) i)
    (sound_run h.requests h.answers (new_pool st) st (λ s. 0) (opening_sound st.desks st.chunks st.digits st.limit h.digits h.desks) h.run)
