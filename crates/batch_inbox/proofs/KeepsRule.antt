-- Each step keeps the rule of the inbox.
use Rattle.std.proofs.Common.{◌≡◌, ◌≢◌, ◌⊎◌, ℕ, zero, suc, ◌+◌, ◌<◌, ◌≤◌, Bool, true, false, true≢false, cond, eqb, eq-eqb, ne_eqb, List, [], ◌∷◌, ◌++◌, length, set, drop, refl, sym, ap, ◌∙◌, subst, inl, inr, ⊎_elim, arith, length-append, append_assoc}
use Rattle.std.specs.Prelude.{◌==◌, slice_index_or}
use Rattle.std.proofs.lemmas.List.{append-nil, get_or_append_left, get_or_past}
use Rattle.std.proofs.Math.Seq.{get_or-append_seam, drop-append_seam}
use Rattle.std.proofs.Math.ListN.{drop_of_length-le}
use Rattle.std.specs.Prelude.{Some, None, MatchOption}
use Rattle.std.specs.Prelude as std
use Rattle.batch_inbox.specs.States.{left}
use Rattle.std.proofs.lemmas.List.Elements.{filter-append, All-append, All-nil}
use mathlib.Core.Option.{Option, some, none, some-ne-none, some-injective}
use lib.ListN.{get_elem?}
use Rattle.crossbeam_queue.specs.Fifo.{Pushes, Pops, Forks, Merges, Learns}
use Rattle.crossbeam_queue.proofs.Lists.{at_set}
use Rattle.digit_route.specs.States.{BatchState}
use Rattle.batch_inbox.specs.declared.rule.View.{View}
use Rattle.batch_inbox.specs.declared.place.Place.{Place}
use Rattle.batch_inbox.specs.Views.{place_of, batches_of, opener, spent, taker, poster, left_of, lefts}
use Rattle.batch_inbox.specs.Order.{AllGoTo, FitsSender, FitsReceiver, IsOpen, IsUnopened, IsInOrder, KeepsOrder}

off : false ≡ true → ⊥
off e = true≢false (sym e)

-- the views after a change of one pass, and after a new one
at_set' : (F : ℕ → View → Type 0) (views : List View) (pass : ℕ) (w : View) → F pass w → ((j : ℕ) (u : View) → j ≢ pass → get_elem? views j ≡ some u → F j u) → (j : ℕ) (u : View) → get_elem? (set views pass w) j ≡ some u → F j u
at_set' F views pass w mine others j u e =
    ⊎_elim (λ (x : (j ≡ pass) × (w ≡ u)). subst (λ (y : ℕ × View). F y.0 y.1) (λ i. (sym x.0 i, x.1 i)) mine)
    (λ (x : (j ≢ pass) × (get_elem? views j ≡ some u)). others j u x.0 x.1)
    (at_set views pass j w u e)

last_at : (l : List View) (a b : View) (j : ℕ) → get_elem? (l ++ a ∷ []) j ≡ some b → (get_elem? l j ≡ some b) ⊎ ((j ≡ length l) × (a ≡ b))
last_at [] a b zero e = inr (refl, some-injective a b e)
last_at [] a b (suc j) e = absurd (some-ne-none b (sym e))
last_at (x ∷ xs) a b zero e = inl e
last_at (x ∷ xs) a b (suc j) e = ⊎_elim (λ h. inl h) (λ h. inr (ap suc h.0, h.1)) (last_at xs a b j e)

at_new : (F : ℕ → View → Type 0) (views : List View) (w : View) → F (length views) w → ((j : ℕ) (u : View) → get_elem? views j ≡ some u → F j u) → (j : ℕ) (u : View) → get_elem? (views ++ w ∷ []) j ≡ some u → F j u
at_new F views w mine others j u e =
    ⊎_elim (λ (x : get_elem? views j ≡ some u). others j u x)
    (λ (x : (j ≡ length views) × (w ≡ u)). subst (λ (y : ℕ × View). F y.0 y.1) (λ i. (sym x.0 i, x.1 i)) mine)
    (last_at views w u j e)

-- the one pass of an inbox that isn't open yet
opening_at : (views : List View) (pass : ℕ) (v : View) → views ≡ opener ∷ [] → get_elem? views pass ≡ some v → (pass ≡ 0) × (v ≡ opener)
opening_at views pass v is at = one pass (ap (λ l. get_elem? l pass) (sym is) ∙ at)
  where
    one : (pass : ℕ) → get_elem? (opener ∷ []) pass ≡ some v → (pass ≡ 0) × (v ≡ opener)
    one zero e = (refl, sym (some-injective _ _ e))
    one (suc pass) e = absurd (some-ne-none v (sym e))

-- a pass that doesn't open knows that the inbox is open
is_open : (items : List BatchState) (views : List View) (pass : ℕ) (v : View) → v.opens ≡ false → IsInOrder items views → get_elem? views pass ≡ some v → IsOpen items views
is_open items views pass v closed h at =
    ⊎_elim (λ (o : IsUnopened items views). absurd (true≢false (sym (ap (λ (u : View). u.opens) (opening_at views pass v o.1 at).1) ∙ closed))) (λ r. r) h

batches_of-one : (s : ℕ) (x : BatchState) → x.sender ≡ s → batches_of s (x ∷ []) ≡ x ∷ []
batches_of-one s x e = ap (λ b. cond b (x ∷ []) []) (eq-eqb x.sender s e)

batches_of-other : (s : ℕ) (x : BatchState) → x.sender ≢ s → batches_of s (x ∷ []) ≡ []
batches_of-other s x n = ap (λ b. cond b (x ∷ []) []) (ne_eqb x.sender s n)

one_goes : (a : Place) (x : BatchState) → place_of x ≡ a → AllGoTo a (x ∷ [])
one_goes a x e zero d lt = e
one_goes a x e (suc k) d lt = absurd (omega arith)

all_go_more : (a : Place) (xs : List BatchState) (x : BatchState) → AllGoTo a xs → place_of x ≡ a → AllGoTo a (xs ++ x ∷ [])
all_go_more a xs x h e = All-append (λ y. place_of y ≡ a) xs (x ∷ []) h (one_goes a x e)

-- all but the first
others_go : (a : Place) (x : BatchState) (xs : List BatchState) → AllGoTo a (x ∷ xs) → AllGoTo a xs
others_go a x xs h k d lt = h (suc k) d (omega arith)

pub begins : IsInOrder [] (opener ∷ [])
begins = inl (refl, refl)

-- a sender posts
pub posts : (n pass : ℕ) (v : View) (x : BatchState) → v ≡ poster v.place v.sender v.sent → x.sender ≡ v.sender → place_of x ≡ v.place
    → Pushes IsInOrder n pass v x (λ w. w ≡ poster v.place v.sender (v.sent ++ x ∷ []))
posts n pass v x is from to items views room h at =
    let r = is_open items views pass v (ap (λ (u : View). u.opens) is) h at in
    let w = poster v.place v.sender (v.sent ++ x ∷ []) in
    let mine = r.senders pass v at (ap (λ (u : View). u.sends) is) in
    let sent : ℕ → List BatchState = λ s. r.sent s ++ batches_of s (x ∷ []) in
    let same : (s : ℕ) → s ≢ v.sender → sent s ≡ r.sent s = λ s n. ap (λ l. r.sent s ++ l) (batches_of-other s x (λ e. n (sym e ∙ from))) ∙ append-nil (r.sent s) in
    let apart : (s j : ℕ) → j ≢ pass → r.seat s ≡ some j → s ≢ v.sender = λ s j n e q. n (some-injective j pass (sym e ∙ ap r.seat q ∙ mine.0)) in
    let empty : (s : ℕ) → r.seat s ≡ none → s ≢ v.sender = λ s e q. some-ne-none pass (sym mine.0 ∙ ap r.seat (sym q) ∙ e) in (
      w,
      inr
          record {
            receiver = r.receiver;
            seat = r.seat;
            sent = sent;
            taken = r.taken;
            place = r.place;
            adds_up = λ s. ap (batches_of s) (sym (append_assoc r.taken items (x ∷ []))) ∙ filter-append (λ (y : BatchState). y.sender == s) (r.taken ++ items) (x ∷ []) ∙ ap (λ l. l ++ batches_of s (x ∷ [])) (r.adds_up s);
            placed = all_go_more r.place items x r.placed (to ∙ mine.2);
            opened = at_set' (λ j u. u.opens ≡ false) views pass w refl (λ j u _ e. r.opened j u e);
            senders = at_set' (FitsSender r.seat sent r.place) views pass w (λ _. (mine.0, (λ i. mine.1 i ++ batches_of-one v.sender x from i), mine.2))
                (λ j u n e sends. let f = r.senders j u e sends in (f.0, same u.sender (apart u.sender j n f.0) ∙ f.1, f.2));
            receivers = at_set' (FitsReceiver r.receiver r.seat sent r.taken r.place) views pass w (λ t. absurd (off t))
                (λ j u n e takes. let f = r.receivers j u e takes in (
                  f.0,
                  f.1,
                  f.2,
                  (λ s le. let g = f.3 s le in (g.0, same s (empty s g.0) ∙ g.1)),
                  (λ k lt. let g = f.4 k lt in (g.0, g.1 ∙ sym (same k (empty k g.0)))),
                  f.5,
                ));
          },
      refl,
    )

-- the rule after the receiver took the front batch
took : (x : BatchState) (items : List BatchState) (views : List View) (pass : ℕ) (v : View) → v.takes ≡ true → (r : IsOpen (x ∷ items) views) → get_elem? views pass ≡ some v
    → IsOpen items (set views pass (taker v.place v.made (v.taken ++ x ∷ []) v.known)) × (place_of x ≡ v.place)
took x items views pass v takes r at =
    let w = taker v.place v.made (v.taken ++ x ∷ []) v.known in
    let mine = r.receivers pass v at takes in
    let taken = r.taken ++ x ∷ [] in (
      record {
        receiver = r.receiver;
        seat = r.seat;
        sent = r.sent;
        taken = taken;
        place = r.place;
        adds_up = λ s. ap (batches_of s) (append_assoc r.taken (x ∷ []) items) ∙ r.adds_up s;
        placed = others_go r.place x items r.placed;
        opened = at_set' (λ j u. u.opens ≡ false) views pass w refl (λ j u _ e. r.opened j u e);
        senders = at_set' (FitsSender r.seat r.sent r.place) views pass w (λ t. absurd (off t)) (λ j u _ e. r.senders j u e);
        receivers = at_set' (FitsReceiver r.receiver r.seat r.sent taken r.place) views pass w (λ _. (mine.0, ap (λ l. l ++ x ∷ []) mine.1, mine.2, mine.3, mine.4, mine.5))
            (λ j u n e t. absurd (n ((r.receivers j u e t).0 ∙ sym mine.0)));
      },
      r.placed 0 x (omega arith) ∙ sym mine.2,
    )

pub takes : (pass : ℕ) (v : View) → v ≡ taker v.place v.made v.taken v.known
    → Pops IsInOrder pass v (λ x w. (w ≡ taker v.place v.made (v.taken ++ x ∷ []) v.known) × (place_of x ≡ v.place))
takes pass v is x items views h at =
    let t = took x items views pass v (ap (λ (u : View). u.takes) is) (is_open (x ∷ items) views pass v (ap (λ (u : View). u.opens) is) h at) at in
    (taker v.place v.made (v.taken ++ x ∷ []) v.known, inr t.0, (refl, t.1))

-- the inbox opens
pub opens : (pass : ℕ) (v : View) (place : Place) → v ≡ opener → Forks IsInOrder pass v (taker place 0 [] []) spent
opens pass v place is items views h at =
    ⊎_elim
    (λ (o : IsUnopened items views).
    let zero_is = opening_at views pass v o.1 at in
    let w = taker place 0 [] [] in
    let vs : List View = set views pass w in
    inr
    record {
      receiver = pass;
      seat = λ _. none;
      sent = λ _. [];
      taken = [];
      place = place;
      adds_up = λ s. ap (batches_of s) o.0;
      placed = subst (AllGoTo place) (sym o.0) (All-nil (λ y. place_of y ≡ place));
      opened = at_new (λ j u. u.opens ≡ false) vs spent refl (at_set' (λ j u. u.opens ≡ false) views pass w refl (λ j u n e. absurd (n ((opening_at views j u o.1 e).0 ∙ sym zero_is.0))));
      senders = at_new (FitsSender (λ _. none) (λ _. []) place) vs spent (λ t. absurd (off t))
          (at_set' (FitsSender (λ _. none) (λ _. []) place) views pass w (λ t. absurd (off t)) (λ j u n e. absurd (n ((opening_at views j u o.1 e).0 ∙ sym zero_is.0))));
      receivers = at_new (FitsReceiver pass (λ _. none) (λ _. []) [] place) vs spent (λ t. absurd (off t))
          (at_set' (FitsReceiver pass (λ _. none) (λ _. []) [] place) views pass w
          (λ _. (refl, refl, refl, (λ s _. (refl, refl)), (λ k lt. absurd (omega arith)), omega arith))
          (λ j u n e. absurd (n ((opening_at views j u o.1 e).0 ∙ sym zero_is.0))));
    })
    (λ (r : IsOpen items views). absurd (true≢false (sym (ap (λ (u : View). u.opens) is) ∙ r.opened pass v at)))
    h

reseat : (ℕ → Option ℕ) → ℕ → Option ℕ → ℕ → Option ℕ
reseat seat s o p = cond (eqb p s) o (seat p)

reseat_same : (seat : ℕ → Option ℕ) (s : ℕ) (o : Option ℕ) (p : ℕ) → p ≡ s → reseat seat s o p ≡ o
unfolding reseat
reseat_same seat s o p e = ap (λ b. cond b o (seat p)) (eq-eqb p s e)

reseat_other : (seat : ℕ → Option ℕ) (s : ℕ) (o : Option ℕ) (p : ℕ) → p ≢ s → reseat seat s o p ≡ seat p
unfolding reseat
reseat_other seat s o p n = ap (λ b. cond b o (seat p)) (ne_eqb p s n)

-- the receiver makes the next sender
pub makes : (pass : ℕ) (v : View) → v ≡ taker v.place v.made v.taken v.known → Forks IsInOrder pass v (taker v.place (v.made + 1) v.taken v.known) (poster v.place v.made [])
makes pass v is items views h at =
    let r = is_open items views pass v (ap (λ (u : View). u.opens) is) h at in
    let w = taker v.place (v.made + 1) v.taken v.known in
    let vs : List View = set views pass w in
    let mine = r.receivers pass v at (ap (λ (u : View). u.takes) is) in
    let fresh = mine.3 v.made (omega arith) in
    let seat = reseat r.seat v.made (some (length vs)) in
    let kept : (s j : ℕ) → r.seat s ≡ some j → seat s ≡ some j = λ s j e. reseat_other r.seat v.made (some (length vs)) s (λ q. some-ne-none j (sym e ∙ ap r.seat q ∙ fresh.0)) ∙ e in
    inr
    record {
      receiver = r.receiver;
      seat = seat;
      sent = r.sent;
      taken = r.taken;
      place = r.place;
      adds_up = r.adds_up;
      placed = r.placed;
      opened = at_new (λ j u. u.opens ≡ false) vs (poster v.place v.made []) refl (at_set' (λ j u. u.opens ≡ false) views pass w refl (λ j u _ e. r.opened j u e));
      senders = at_new (FitsSender seat r.sent r.place) vs (poster v.place v.made []) (λ _. (reseat_same r.seat v.made (some (length vs)) v.made refl, fresh.1, mine.2))
          (at_set' (FitsSender seat r.sent r.place) views pass w (λ t. absurd (off t)) (λ j u _ e t. let f = r.senders j u e t in (kept u.sender j f.0, f.1, f.2)));
      receivers = at_new (FitsReceiver r.receiver seat r.sent r.taken r.place) vs (poster v.place v.made []) (λ t. absurd (off t))
          (at_set' (FitsReceiver r.receiver seat r.sent r.taken r.place) views pass w
          (λ _. (
            mine.0,
            mine.1,
            mine.2,
            (λ s le. let f = mine.3 s (omega arith) in (reseat_other r.seat v.made (some (length vs)) s (λ q. omega arith) ∙ f.0, f.1)),
            (λ k lt. let f = mine.4 k lt in let le = mine.5 in (reseat_other r.seat v.made (some (length vs)) k (λ q. omega arith) ∙ f.0, f.1)),
            (let le = mine.5 in omega arith),
          ))
          (λ j u n e t. absurd (n ((r.receivers j u e t).0 ∙ sym mine.0))));
    }

reseat_none : (seat : ℕ → Option ℕ) (s p : ℕ) → seat p ≡ none → reseat seat s none p ≡ none
unfolding reseat
reseat_none seat s p e = either_none (eqb p s)
  where
    either_none : (b : Bool) → cond b none (seat p) ≡ none
    either_none true = refl
    either_none false = e

-- the receiver takes in the next sender, which has ended
pub absorbs : (pass : ℕ) (v : View) (other : ℕ) (u : View) → v ≡ taker v.place v.made v.taken v.known → u ≡ poster u.place u.sender u.sent → u.sender ≡ length v.known → length v.known < v.made
    → Merges IsInOrder pass v other u (taker v.place v.made v.taken (v.known ++ u.sent ∷ [])) spent
absorbs pass v other u is is' next more items views h at apart there =
    let known = v.known ++ u.sent ∷ [] in
    let w = taker v.place v.made v.taken known in
    let vs : List View = set views pass w in
    let was : get_elem? views other ≡ some u = ⊎_elim (λ (x : (other ≡ pass) × (w ≡ u)). absurd (apart x.0)) (λ (x : (other ≢ pass) × (get_elem? views other ≡ some u)). x.1) (at_set views pass other w u there) in
    let r = is_open items views pass v (ap (λ (y : View). y.opens) is) h at in
    let mine = r.receivers pass v at (ap (λ (y : View). y.takes) is) in
    let theirs = r.senders other u was (ap (λ (y : View). y.sends) is') in
    let seat = reseat r.seat u.sender none in
    let Sender : ℕ → View → Type 0 = λ j x. j ≢ other → FitsSender seat r.sent r.place j x in
    let Taker = FitsReceiver r.receiver seat r.sent r.taken r.place in
    let senders = at_set' Sender views pass w (λ _ t. absurd (off t))
    (λ j x _ e n t. let f = r.senders j x e t in (reseat_other r.seat u.sender none x.sender (λ q. n (some-injective j other (sym f.0 ∙ ap r.seat q ∙ theirs.0))) ∙ f.0, f.1, f.2)) in
    inr
    record {
      receiver = r.receiver;
      seat = seat;
      sent = r.sent;
      taken = r.taken;
      place = r.place;
      adds_up = r.adds_up;
      placed = r.placed;
      opened = at_set' (λ j x. x.opens ≡ false) vs other spent refl (λ j x _ e. at_set' (λ j x. x.opens ≡ false) views pass w refl (λ i y _ e'. r.opened i y e') j x e);
      senders = at_set' (FitsSender seat r.sent r.place) vs other spent (λ t. absurd (off t)) (λ j x n e. senders j x e n);
      receivers = at_set' Taker vs other spent (λ t. absurd (off t))
          (λ j x _ e. at_set' Taker views pass w
          (λ _. (
            mine.0,
            mine.1,
            mine.2,
            (λ s le. let f = mine.3 s le in (reseat_none r.seat u.sender s f.0, f.1)),
            (λ k lt. known_at r.seat r.sent v.known u mine.4 theirs.1 next k (subst (λ n. k < n) (length-append v.known (u.sent ∷ [])) lt)),
            subst (λ n. n ≤ v.made) (sym (length-append v.known (u.sent ∷ []))) (omega arith),
          ))
          (λ i y n e' t. absurd (n ((r.receivers i y e' t).0 ∙ sym mine.0)))
          j x e);
    }
  where
    known_at : (seat : ℕ → Option ℕ) (sent : ℕ → List BatchState) (known : List (List BatchState)) (u : View)
        → ((k : ℕ) → k < length known → (seat k ≡ none) × (slice_index_or known k [] ≡ sent k)) → sent u.sender ≡ u.sent → u.sender ≡ length known
        → (k : ℕ) → k < length known + 1 → (reseat seat u.sender none k ≡ none) × (slice_index_or (known ++ u.sent ∷ []) k [] ≡ sent k)
    known_at seat sent known u old new next k lt =
        ⊎_elim
        (λ (less : k < length known). let f = old k less in (reseat_none seat u.sender k f.0, get_or_append_left known (u.sent ∷ []) [] k less ∙ f.1))
        (λ (here : k ≡ length known). (reseat_same seat u.sender none k (here ∙ sym next), ap (λ n. slice_index_or (known ++ u.sent ∷ []) n []) here ∙ get_or-append_seam known u.sent [] [] ∙ sym new ∙ ap sent (next ∙ sym here)))
        (grind arith)

-- what a receiver that was told of all senders knows of the queue
whole : (items : List BatchState) (views : List View) (pass : ℕ) (v : View) → v ≡ taker v.place (length v.known) v.taken v.known → IsOpen items views → get_elem? views pass ≡ some v
    → (s : ℕ) → slice_index_or v.known s [] ≡ batches_of s v.taken ++ batches_of s items
whole items views pass v is r at s =
    let mine = r.receivers pass v at (ap (λ (u : View). u.takes) is) in
    let made : v.made ≡ length v.known = ap (λ (u : View). u.made) is in
    let known : slice_index_or v.known s [] ≡ r.sent s =
    ⊎_elim
    (λ (lt : s < length v.known). (mine.4 s lt).1)
    (λ (le : length v.known ≤ s). get_or_past v.known s [] le ∙ sym (mine.3 s (subst (λ n. n ≤ s) (sym made) le)).1)
    (grind arith) in
    known ∙ sym (r.adds_up s) ∙ filter-append (λ (y : BatchState). y.sender == s) r.taken items ∙ ap (λ l. batches_of s l ++ batches_of s items) mine.1

pub learns : (pass : ℕ) (v : View) → v ≡ taker v.place (length v.known) v.taken v.known → Learns IsInOrder pass v (λ items. (s : ℕ) → slice_index_or v.known s [] ≡ batches_of s v.taken ++ batches_of s items)
learns pass v is items views h at = whole items views pass v is (is_open items views pass v (ap (λ (u : View). u.opens) is) h at) at

-- what is left, where what was sent is what was taken and then these
pub left_is : (sent taken rest : List BatchState) → sent ≡ taken ++ rest → drop (length taken) sent ≡ rest
left_is sent taken rest e = ap (λ l. drop (length taken) l) e ∙ drop-append_seam taken rest

pub rests : (pass : ℕ) (v : View) → v ≡ taker v.place (length v.known) v.taken v.known
    → Pops IsInOrder pass v (λ x w. (w ≡ taker v.place v.made (v.taken ++ x ∷ []) v.known) × (place_of x ≡ v.place) × ((s : ℕ) → left_of v s ≡ batches_of s (x ∷ []) ++ left_of w s))
rests pass v is x items views h at =
    let r = is_open (x ∷ items) views pass v (ap (λ (u : View). u.opens) is) h at in
    let t = took x items views pass v (ap (λ (u : View). u.takes) is) r at in
    let all = whole (x ∷ items) views pass v is r at in
    let split : (s : ℕ) → batches_of s (x ∷ items) ≡ batches_of s (x ∷ []) ++ batches_of s items = λ s. filter-append (λ (y : BatchState). y.sender == s) (x ∷ []) items in
    let more : (s : ℕ) → slice_index_or v.known s [] ≡ batches_of s (v.taken ++ x ∷ []) ++ batches_of s items = λ s.
    all s ∙ ap (λ l. batches_of s v.taken ++ l) (split s) ∙ sym (append_assoc (batches_of s v.taken) (batches_of s (x ∷ [])) (batches_of s items)) ∙ ap (λ l. l ++ batches_of s items) (sym (filter-append (λ (y : BatchState). y.sender == s) v.taken (x ∷ []))) in (
      taker v.place v.made (v.taken ++ x ∷ []) v.known,
      inr t.0,
      (
        refl,
        t.1,
        λ s. left_is (slice_index_or v.known s []) (batches_of s v.taken) (batches_of s (x ∷ items)) (all s) ∙ split s ∙ ap (λ l. batches_of s (x ∷ []) ++ l) (sym (left_is (slice_index_or v.known s []) (batches_of s (v.taken ++ x ∷ [])) (batches_of s items) (more s))),
      ),
    )

lefts_at : (taken : List BatchState) (s k : ℕ) (known : List (List BatchState)) → slice_index_or (lefts taken s known) k [] ≡ drop (length (batches_of (s + k) taken)) (slice_index_or known k [])
lefts_at taken s k [] = sym (drop_of_length-le [] (omega arith))
lefts_at taken s zero (l ∷ ls) = let e : s ≡ s + 0 = omega arith in ap (λ n. drop (length (batches_of n taken)) l) e
lefts_at taken s (suc k) (l ∷ ls) = let e : s + 1 + k ≡ s + suc k = omega arith in lefts_at taken (s + 1) k ls ∙ ap (λ n. drop (length (batches_of n taken)) (slice_index_or ls k [])) e

pub left_at : (v : View) (k : ℕ) → left (lefts v.taken 0 v.known) k ≡ left_of v k
left_at v k = let e : 0 + k ≡ k = omega arith in lefts_at v.taken 0 k v.known ∙ ap (λ n. drop (length (batches_of n v.taken)) (slice_index_or v.known k [])) e

-- what a pop tells a receiver that was told of all that was sent
pub next_of : (S : Type 0) (o : std.Option BatchState) (v w : View)
    → MatchOption o ((w ≡ v) × ((s : ℕ) → slice_index_or v.known s [] ≡ batches_of s v.taken ++ batches_of s []))
    (λ x. ((w ≡ taker v.place v.made (v.taken ++ x ∷ []) v.known) × (place_of x ≡ v.place) × ((s : ℕ) → left_of v s ≡ batches_of s (x ∷ []) ++ left_of w s)) × S)
    → MatchOption o ((k : ℕ) → left (lefts v.taken 0 v.known) k ≡ []) (λ x. (k : ℕ) → left (lefts v.taken 0 v.known) k ≡ batches_of k (x ∷ []) ++ left (lefts w.taken 0 w.known) k)
next_of S None v w h = λ k. left_at v k ∙ left_is (slice_index_or v.known k []) (batches_of k v.taken) (batches_of k []) (h.1 k)
next_of S (Some x) v w h = λ k. left_at v k ∙ h.0.2 k ∙ ap (λ l. batches_of k (x ∷ []) ++ l) (sym (left_at w k))

-- a pass that sends or takes knows that the inbox is open
open_by : (f : View → Bool) → f opener ≡ false → (items : List BatchState) (views : List View) → IsInOrder items views
    → (a : ℕ) (u : View) → get_elem? views a ≡ some u → f u ≡ true → IsOpen items views
open_by f no_opener items views h a u at says =
    ⊎_elim (λ (o : IsUnopened items views). absurd (true≢false (sym says ∙ ap f (opening_at views a u o.1 at).1 ∙ no_opener))) (λ r. r) h

pub keeps_order : KeepsOrder
keeps_order items views h =
    record {
      one_receiver = λ a b u v at at' takes takes'.
          let r = open_by (λ (y : View). y.takes) refl items views h a u at takes in
          (r.receivers a u at takes).0 ∙ sym (r.receivers b v at' takes').0;
      one_seat = λ a b u v at at' sends sends' same.
          let r = open_by (λ (y : View). y.sends) refl items views h a u at sends in
          some-injective a b (sym (r.senders a u at sends).0 ∙ ap r.seat same ∙ (r.senders b v at' sends').0);
      sent = λ a b u v at at' takes sends.
          let r = open_by (λ (y : View). y.takes) refl items views h a u at takes in
          let mine = r.receivers a u at takes in
          let theirs = r.senders b v at' sends in
          record {
            in_order = sym theirs.1 ∙ sym (r.adds_up v.sender) ∙ filter-append (λ (y : BatchState). y.sender == v.sender) r.taken items
                ∙ ap (λ l. batches_of v.sender l ++ batches_of v.sender items) mine.1;
            place = theirs.2 ∙ sym mine.2;
          };
      placed = λ a u at takes.
          let r = open_by (λ (y : View). y.takes) refl items views h a u at takes in
          subst (λ (p : Place). AllGoTo p items) (sym (r.receivers a u at takes).2) r.placed;
    }
