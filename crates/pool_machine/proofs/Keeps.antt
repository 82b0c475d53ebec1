-- Each step leads from a sound state to a sound state.
use Rattle.std.proofs.Common.{◌≡◌, ◌≢◌, ℕ, suc, ◌^◌, ◌<◌, ◌≤◌, Bool, true, false, ◌&&◌, ◌||◌, not, ◌==◌, nat_lt, cond, List, [], ◌∷◌, ◌++◌, map, filter, Option, Some, None, Ok, Err, is_some, if◌then◌else◌, option_map, refl, sym, ap, ◌∙◌, subst, arith, ◌⊎◌, inl, inr, true≢false, lt_of_lt_of_le, lt_of_le_of_lt, zero-le}
use Rattle.std.proofs.lemmas.Bool.{eqb-true, eqb-false, and_parts, or_parts, false≢true, ltb-true, leb-false, not-false, not-true}
use Rattle.std.specs.List.{list_any}
use Rattle.region_cut.specs.declared.slot.Slot.{Slot}
use Rattle.pool_machine.specs.declared.request.Request.{Request}
use Rattle.pool_machine.specs.declared.request.Request.TheVariants.{Adopt, Retire, Claim, Alloc, Free, Send, Link, Take}
use Rattle.pool_machine.specs.declared.reply.Reply.TheVariants.{Chunk, Slot as Lent}
use Rattle.region_cut.specs.Classes.{slots_of}
use Rattle.region_cut.specs.Slots.{same_slot}
use Rattle.pool_machine.specs.Slots.{has_index}
use Rattle.pool_machine.specs.State.{Place, AtHome, OnLoan, InCache, InBatch, Waiting, State, owner_of, class_of, slots, home_with, in_bucket, inbox, digits_of, same_place, is_at}
use Rattle.pool_machine.specs.Refusals.{refusal, lacks_desk, slot_named}
use Rattle.pool_machine.specs.Steps.{Answer, kept_place, with_holder, with_chunk, front_of, after_send, after_take, after_free, after, Answers, Run}
use Rattle.pool_machine.specs.Forwards.{counted, forwards}
use Rattle.pool_machine.specs.Sound.{Member, GoesNearer, FitsIn, Fits, FitsWaiting, Rising, Sound}
use Rattle.pool_machine.specs.declared.chunk.DrawnChunk.{DrawnChunk}
use Rattle.pool_machine.proofs.Basics.{same_slot_eq, none_holds, Member-append_left, Member_last, Member-push_cases, Member-filter, filter_member, Member-map, map_member, FrontOf, front_is, link_keeps, any_witness}
use Rattle.digit_route.proofs.SharedLaws.{shared_by_others, shared_on_the_way}
use Rattle.pool_machine.proofs.Words.{with_moved, link_one, owner_or, near, front_ready}

pub Rising-filter : (p : Waiting → Bool) (ws : List Waiting) → Rising ws → Rising (filter p ws)
Rising-filter p [] r = tt
Rising-filter p (w ∷ ws) r = go (p w) (Rising-filter p ws r.1)
  where
    go : (b : Bool) → Rising (filter p ws) → Rising (cond b (w ∷ filter p ws) (filter p ws))
    go true k = ((λ v m. r.0 v (filter_member p v ws m).0), k)
    go false k = k

Rising-push : (u : Waiting) (ws : List Waiting) → ((w : Waiting) → Member w ws → w.number < u.number) → Rising ws → Rising (ws ++ u ∷ [])
Rising-push u [] l r = ((λ v m. elim m [ ]), tt)
Rising-push u (w ∷ ws) l r = (
  (λ v m. elim (Member-push_cases v u ws m) as (λ _. w.number < v.number) [
    | inl k ↦ r.0 v k
    | inr e ↦ subst (λ z. w.number < z.number) (sym e) (l w (inl refl))
  ]),
  Rising-push u ws (λ v m. l v (inr m)) r.1,
)

Rising-link : (n : ℕ) (ws : List Waiting) → Rising ws → Rising (map (link_one n) ws)
Rising-link n [] r = tt
Rising-link n (w ∷ ws) r = (
  (λ v m. (let g = map_member (link_one n) v ws m in
      subst (λ z. (link_one n w).number < z.number) (sym g.2)
      (subst (λ z. z < (link_one n g.0).number) (sym (link_keeps n w).0) (subst (λ z. w.number < z) (sym (link_keeps n g.0).0) (r.0 g.0 g.1))))),
  Rising-link n ws r.1,
)

placed_same : (f : Place → Place) (p : Option Place) → is_some (option_map f p) ≡ is_some p
placed_same f None = refl
placed_same f (Some p) = refl

-- the numbers of two desks share fewer digits than all
desks_apart : (st : State) (c : Slot → ℕ) → Sound st c → (x y : ℕ) → x < st.desks → y < st.desks → x ≢ y → near st x y < digits_of st
desks_apart st c h x y l m n =
    let d : st.desks ≤ 2 ^ st.digits.bits = h.desks_fit in
    shared_by_others st.digits x y h.digits_fit (lt_of_lt_of_le l d) (lt_of_lt_of_le m d) n

-- ---- Adopt and Retire

pub holder_sound : (st : State) (c : Slot → ℕ) (a : ℕ) (x : Option ℕ) → Sound st c → Sound (with_holder a x st) c
holder_sound st c a x h = record {
  desks_fit = h.desks_fit;
  digits_fit = h.digits_fit;
  chunks_fit = h.chunks_fit;
  placed = h.placed;
  fits = h.fits;
  waits = λ w m. (let k = h.waits w m in record { numbered = k.numbered; a_desk = k.a_desk; leaves = k.leaves; reaches = k.reaches });
  rising = h.rising;
  few = h.few;
}

-- ---- Free

-- one slot goes to another place; it was in no batch
moved_sound : (st : State) (c : Slot → ℕ) (r : Slot) (q : Place) (n : ℕ) → Sound st c →
    (same_place AtHome (st.place r) ≡ true) ⊎ (same_place OnLoan (st.place r) ≡ true) →
    FitsIn st (owner_of st r) n q → n < digits_of st →
    Sound (with_moved r q st) (λ s. if same_slot r s then n else c s)
moved_sound st c r q n h was fit l = record {
  desks_fit = h.desks_fit;
  digits_fit = h.digits_fit;
  chunks_fit = h.chunks_fit;
  placed = λ s. placed_same (λ p. if same_slot r s then q else p) (st.place s) ∙ h.placed s;
  fits = λ s. fits_at s (same_slot r s) refl (st.place s) (h.fits s);
  waits = λ w m. (let k = h.waits w m in record {
    numbered = k.numbered;
    a_desk = k.a_desk;
    leaves = k.leaves;
    reaches = (k.reaches.0, stays k.reaches.0 w.number (same_slot r k.reaches.0) refl k.reaches.1, k.reaches.2);
  });
  rising = h.rising;
  few = λ s. few_at s (same_slot r s);
}
  where
    fits_at : (s : Slot) (b : Bool) → same_slot r s ≡ b → (p : Option Place) → Fits st (owner_of st s) (c s) p →
        Fits st (owner_of st s) (if b then n else c s) (option_map (λ old. if b then q else old) p)
    fits_at s true e None f = tt
    fits_at s true e (Some p) f = (f.0, subst (λ z. FitsIn st (owner_of st z) n q) (same_slot_eq r s e) fit)
    fits_at s false e None f = tt
    fits_at s false e (Some p) f = f

    none_queued : (p : Option Place) (m : ℕ) → p ≡ Some (InBatch m) → (same_place AtHome p ≡ true) ⊎ (same_place OnLoan p ≡ true) → ⊥
    none_queued p m e (inl k) = false≢true (sym (ap (same_place AtHome) e) ∙ k)
    none_queued p m e (inr k) = false≢true (sym (ap (same_place OnLoan) e) ∙ k)

    stays : (s : Slot) (m : ℕ) (b : Bool) → same_slot r s ≡ b → st.place s ≡ Some (InBatch m) →
        option_map (λ old. if b then q else old) (st.place s) ≡ Some (InBatch m)
    stays s m true e k = absurd (none_queued (st.place r) m (ap st.place (same_slot_eq r s e) ∙ k) was)
    stays s m false e k = ap (option_map (λ old. old)) k

    few_at : (s : Slot) (b : Bool) → (if b then n else c s) < digits_of st
    few_at s true = l
    few_at s false = h.few s

-- the count may be given in another form
same_counts : (st : State) (c e : Slot → ℕ) → ((s : Slot) → c s ≡ e s) → Sound st c → Sound st e
same_counts st c e k h = subst (λ f. Sound st f) (λ i s. k s i) h

-- ---- Claim

claim_sound : (st : State) (c : Slot → ℕ) (k a z : ℕ) → Sound st c → k < st.chunks → a < st.desks → st.drawn k ≡ None → Sound (with_chunk k a z st) c
claim_sound st c k a z h kl al un = record {
  desks_fit = h.desks_fit;
  digits_fit = h.digits_fit;
  chunks_fit = λ m d e. chunks_at m d (k == m) refl e;
  placed = λ s. placed_at s (k == s.chunk) refl (nat_lt s.index (slots_of z)) refl;
  fits = λ s. fits_at s (k == s.chunk) refl (nat_lt s.index (slots_of z));
  waits = λ w m. (let g = h.waits w m in record {
    numbered = g.numbered;
    a_desk = g.a_desk;
    leaves = g.leaves;
    reaches = reaches_at w g.reaches.0 (k == g.reaches.0.chunk) refl g.reaches.1 g.reaches.2;
  });
  rising = h.rising;
  few = h.few;
}
  where
    chunks_at : (m : ℕ) (d : DrawnChunk) (b : Bool) → (k == m) ≡ b → (if b then Some (record { owner = a; class = z }) else st.drawn m) ≡ Some d →
        (m < st.chunks) × (d.owner < st.desks)
    chunks_at m d true e g = (subst (λ n. n < st.chunks) (eqb-true k m e) kl, subst (λ n. n < st.desks) (ap owner_or g) al)
    chunks_at m d false e g = h.chunks_fit m d g

    -- no slot of the chunk has a place
    unplaced : (s : Slot) → (k == s.chunk) ≡ true → is_some (st.place s) ≡ false
    unplaced s e = h.placed s ∙ (ap (λ n. has_index s.index (st.drawn n)) (sym (eqb-true k s.chunk e)) ∙ ap (has_index s.index) un)

    placed_at : (s : Slot) (b : Bool) → (k == s.chunk) ≡ b → (e : Bool) → nat_lt s.index (slots_of z) ≡ e →
        is_some (if b && e then Some AtHome else st.place s) ≡ has_index s.index
        (if b then Some (record { owner = a; class = z }) else st.drawn s.chunk)
    placed_at s true p true q = sym q
    placed_at s true p false q = unplaced s p ∙ sym q
    placed_at s false p e q = h.placed s

    no_place : (st' : State) (o n : ℕ) (p : Option Place) → is_some p ≡ false → Fits st' o n p
    no_place st' o n None e = tt
    no_place st' o n (Some p) e = absurd (true≢false e)

    fits_at : (s : Slot) (b : Bool) → (k == s.chunk) ≡ b → (e : Bool) →
        Fits st (owner_or (if b then Some (record { owner = a; class = z }) else st.drawn s.chunk)) (c s) (if b && e then Some AtHome else st.place s)
    fits_at s true p true = (al, tt)
    fits_at s true p false = no_place st a (c s) (st.place s) (unplaced s p)
    fits_at s false p e = h.fits s

    reaches_at : (w : Waiting) (s : Slot) (b : Bool) → (k == s.chunk) ≡ b → st.place s ≡ Some (InBatch w.number) → owner_of st s ≡ w.address →
        (r : Slot) × ((with_chunk k a z st).place r ≡ Some (InBatch w.number)) × (owner_of (with_chunk k a z st) r ≡ w.address)
    reaches_at w s true e p o = absurd (true≢false (sym (ap is_some p) ∙ unplaced s e))
    reaches_at w s false e p o = (
      s,
      ap (λ b. if b && nat_lt s.index (slots_of z) then Some AtHome else st.place s) e ∙ p,
      ap (λ b. owner_or (if b then Some (record { owner = a; class = z }) else st.drawn s.chunk)) e ∙ o,
    )

-- ---- Link

pub link_sound : (st : State) (c : Slot → ℕ) (n : ℕ) → Sound st c → Sound (record st { waiting = map (link_one n) st.waiting }) c
link_sound st c n h = record {
  desks_fit = h.desks_fit;
  digits_fit = h.digits_fit;
  chunks_fit = h.chunks_fit;
  placed = h.placed;
  fits = λ s. fits_at s (st.place s) (h.fits s);
  waits = λ w m. waits_at w (map_member (link_one n) w st.waiting m);
  rising = Rising-link n st.waiting h.rising;
  few = h.few;
}
  where
    in_batch : (s : Slot) (m : ℕ) → FitsIn st (owner_of st s) (c s) (InBatch m) →
        FitsIn (record st { waiting = map (link_one n) st.waiting }) (owner_of st s) (c s) (InBatch m)
    in_batch s m f = (
      f.0,
      (let g = f.1 in (link_one n g.0, Member-map (link_one n) g.0 st.waiting g.1, (link_keeps n g.0).0 ∙ g.2)),
      λ w k e. (let g = map_member (link_one n) w st.waiting k in
          let t = link_keeps n g.0 in
          let r = f.2 g.0 g.1 (sym t.0 ∙ (ap (λ v. v.number) (sym g.2) ∙ e)) in
          subst (λ v. GoesNearer st (owner_of st s) (c s) v) (sym g.2) (
            subst (λ x. c s ≤ near st (owner_of st s) x) (sym t.1) r.0,
            subst (λ x. x < near st (owner_of st s) (link_one n g.0).address) (ap (near st (owner_of st s)) (sym t.1))
                (subst (λ x. near st (owner_of st s) g.0.sender < near st (owner_of st s) x) (sym t.2) r.1),
          )),
    )

    fits_at : (s : Slot) (p : Option Place) → Fits st (owner_of st s) (c s) p →
        Fits (record st { waiting = map (link_one n) st.waiting }) (owner_of st s) (c s) p
    fits_at s None f = tt
    fits_at s (Some AtHome) f = f
    fits_at s (Some OnLoan) f = f
    fits_at s (Some (InCache a)) f = f
    fits_at s (Some (InBatch m)) f = (f.0, in_batch s m f.1)

    waits_at : (w : Waiting) → (v : Waiting) × Member v st.waiting × (w ≡ link_one n v) →
        FitsWaiting (record st { waiting = map (link_one n) st.waiting }) w
    waits_at w g =
        let k = h.waits g.0 g.1 in
        let t = link_keeps n g.0 in
        subst (λ u. FitsWaiting (record st { waiting = map (link_one n) st.waiting }) u) (sym g.2) (record {
          numbered = subst (λ x. x < st.next) (sym t.0) k.numbered;
          a_desk = subst (λ x. x < st.desks) (sym t.2) k.a_desk;
          leaves = λ e. k.leaves (sym t.1 ∙ (e ∙ t.2));
          reaches = (k.reaches.0, k.reaches.1 ∙ ap (λ x. Some (InBatch x)) (sym t.0), k.reaches.2 ∙ sym t.2);
        })

-- ---- Send

send_sound : (st : State) (c : Slot → ℕ) (a t : ℕ) → Sound st c → a < st.desks → t < st.desks → a ≢ t →
    (s : Slot) × ((in_bucket st a t s && (owner_of st s == t)) ≡ true) → Sound (after_send st a t) c
send_sound st c a t h al tl ne found = record {
  desks_fit = h.desks_fit;
  digits_fit = h.digits_fit;
  chunks_fit = h.chunks_fit;
  placed = λ s. placed_same (λ p. if in_bucket st a t s then InBatch st.next else p) (st.place s) ∙ h.placed s;
  fits = λ s. fits_at s (nat_lt (near st a t) (near st (owner_of st s) t)) refl (st.place s) (h.fits s);
  waits = λ w m. waits_at w (Member-push_cases w sent st.waiting m);
  rising = Rising-push sent st.waiting (λ w m. (h.waits w m).numbered) h.rising;
  few = h.few;
}
  where
    sent : Waiting
    sent = record { number = st.next; sender = a; address = t; linked = false }

    new : State
    new = after_send st a t

    old_batch : (s : Slot) (n : ℕ) → FitsIn st (owner_of st s) (c s) (InBatch n) → FitsIn new (owner_of st s) (c s) (InBatch n)
    old_batch s n f = (
      omega (arith, f.0),
      (f.1.0, Member-append_left f.1.0 st.waiting (sent ∷ []) f.1.1, f.1.2),
      λ w m e. elim (Member-push_cases w sent st.waiting m) as (λ _. GoesNearer st (owner_of st s) (c s) w) [
        | inl k ↦ f.2 w k e
        | inr q ↦ absurd (let l : n < st.next = f.0 in let e2 : st.next ≡ n = ap (λ v. v.number) (sym q) ∙ e in omega arith)
      ],
    )

    new_batch : (s : Slot) → nat_lt (near st a t) (near st (owner_of st s) t) ≡ true → c s ≤ near st (owner_of st s) a →
        FitsIn new (owner_of st s) (c s) (InBatch st.next)
    new_batch s e k = (
      omega arith,
      (sent, Member_last sent st.waiting, refl),
      λ w m q. elim (Member-push_cases w sent st.waiting m) as (λ _. GoesNearer st (owner_of st s) (c s) w) [
        | inl g ↦ absurd (let l = (h.waits w g).numbered in omega arith)
        | inr g ↦ subst (λ v. GoesNearer st (owner_of st s) (c s) v) (sym g) (k, goes s e)
      ],
    )
      where
        goes : (s : Slot) → nat_lt (near st a t) (near st (owner_of st s) t) ≡ true → near st (owner_of st s) a < near st (owner_of st s) t
        goes s e =
            let l = ltb-true (near st a t) (near st (owner_of st s) t) e in
            let k = shared_on_the_way st.digits (owner_of st s) a t l in
            subst (λ x. x < near st (owner_of st s) t) (sym k) l

    fits_at : (s : Slot) (b : Bool) → nat_lt (near st a t) (near st (owner_of st s) t) ≡ b → (p : Option Place) → Fits st (owner_of st s) (c s) p →
        Fits new (owner_of st s) (c s) (option_map (λ old. if same_place (InCache a) p && b then InBatch st.next else old) p)
    fits_at s b e None f = tt
    fits_at s b e (Some AtHome) f = f
    fits_at s b e (Some OnLoan) f = f
    fits_at s b e (Some (InBatch n)) f = (f.0, old_batch s n f.1)
    fits_at s b e (Some (InCache d)) f = cached (a == d) refl b e
      where
        cached : (x : Bool) → (a == d) ≡ x → (b : Bool) → nat_lt (near st a t) (near st (owner_of st s) t) ≡ b →
            Fits new (owner_of st s) (c s) (Some (if x && b then InBatch st.next else InCache d))
        cached true q true e = (f.0, new_batch s e (subst (λ z. c s ≤ near st (owner_of st s) z) (sym (eqb-true a d q)) f.1.2))
        cached true q false e = f
        cached false q b e = f

    -- where a slot goes that was at p
    sent_from : Slot → Option Place → Option Place
    sent_from s p = option_map (λ q. if same_place (InCache a) p && nat_lt (near st a t) (near st (owner_of st s) t) then InBatch st.next else q) p

    bucket_parts : (x : Bool) (p : Option Place) (y z : Bool) → same_place (InCache a) p ≡ x → ((x && y) && z) ≡ true →
        (option_map (λ old. if same_place (InCache a) p && y then InBatch st.next else old) p ≡ Some (InBatch st.next)) × (z ≡ true)
    bucket_parts true None y z e g = absurd (false≢true e)
    bucket_parts true (Some p) true true e g = (ap (λ b. Some (if b && true then InBatch st.next else p)) e, refl)
    bucket_parts true (Some p) true false e g = absurd (false≢true g)
    bucket_parts true (Some p) false z e g = absurd (false≢true g)
    bucket_parts false p y z e g = absurd (false≢true g)

    waits_at : (w : Waiting) → Member w st.waiting ⊎ (w ≡ sent) → FitsWaiting new w
    waits_at w (inl m) = (let k = h.waits w m in record {
      numbered = (let l = k.numbered in omega arith);
      a_desk = k.a_desk;
      leaves = k.leaves;
      reaches = (k.reaches.0, ap (sent_from k.reaches.0) k.reaches.1, k.reaches.2);
    })
    waits_at w (inr e) = subst (λ v. FitsWaiting new v) (sym e) (
        let s = found.0 in
        let g = bucket_parts (is_at st (InCache a) s) (st.place s) (nat_lt (near st a t) (near st (owner_of st s) t)) (owner_of st s == t) refl found.1 in
        record { numbered = omega arith; a_desk = tl; leaves = ne; reaches = (s, g.0, eqb-true (owner_of st s) t g.1) })

-- ---- Take

take_sound : (st : State) (c : Slot → ℕ) (b : ℕ) → Sound st c → b < st.desks → FrontOf (λ w. b == w.address) st.waiting (inbox st b) →
    Sound (after_take st b) (λ s. if same_place (InBatch (front_of st b)) (st.place s) && not (owner_of st s == b) then suc (c s) else c s)
take_sound st c b h bl front = record {
  desks_fit = h.desks_fit;
  digits_fit = h.digits_fit;
  chunks_fit = h.chunks_fit;
  placed = λ s. placed_same (λ p. if is_at st (InBatch (front_of st b)) s then kept_place st b s else p) (st.place s) ∙ h.placed s;
  fits = λ s. fits_at s (owner_of st s == b) refl (st.place s) (h.fits s);
  waits = λ w m. (let k = filter_member (λ v. not (front_of st b == v.number)) w st.waiting m in waits_at w k.1 (h.waits w k.0));
  rising = Rising-filter (λ v. not (front_of st b == v.number)) st.waiting h.rising;
  few = λ s. few_at s (owner_of st s == b) refl (st.place s) (h.fits s);
}
  where
    comes : (s : Slot) (n : ℕ) → (front_of st b == n) ≡ true → FitsIn st (owner_of st s) (c s) (InBatch n) → suc (c s) ≤ near st (owner_of st s) b
    comes s n e f =
        let g = f.2 front.0 front.1 (front.3 ∙ eqb-true (front_of st b) n e) in
        let k : near st (owner_of st s) front.0.sender < near st (owner_of st s) b =
        subst (λ x. near st (owner_of st s) front.0.sender < near st (owner_of st s) x) (sym (eqb-true b front.0.address front.2)) g.1 in
        lt_of_le_of_lt g.0 k

    stays : (s : Slot) (n : ℕ) → (front_of st b == n) ≡ false → FitsIn st (owner_of st s) (c s) (InBatch n) →
        FitsIn (after_take st b) (owner_of st s) (c s) (InBatch n)
    stays s n e f = (
      f.0,
      (let g = f.1 in (
        g.0,
        Member-filter (λ v. not (front_of st b == v.number)) g.0 st.waiting g.1
            (ap not (ap (λ x. front_of st b == x) g.2 ∙ e)),
        g.2,
      )),
      λ w m q. f.2 w (filter_member (λ v. not (front_of st b == v.number)) w st.waiting m).0 q,
    )

    batch_at : (s : Slot) (n : ℕ) (x : Bool) → (front_of st b == n) ≡ x → (y : Bool) → (owner_of st s == b) ≡ y →
        Fits st (owner_of st s) (c s) (Some (InBatch n)) →
        Fits (after_take st b) (owner_of st s) (if x && not y then suc (c s) else c s)
        (Some (if x then (if y then AtHome else InCache b) else InBatch n))
    batch_at s n true e true q f = (f.0, tt)
    batch_at s n true e false q f = (f.0, (bl, eqb-false (owner_of st s) b q, comes s n e f.1))
    batch_at s n false e y q f = (f.0, stays s n e f.1)

    fits_at : (s : Slot) (y : Bool) → (owner_of st s == b) ≡ y → (p : Option Place) → Fits st (owner_of st s) (c s) p →
        Fits (after_take st b) (owner_of st s) (if same_place (InBatch (front_of st b)) p && not y then suc (c s) else c s)
        (option_map (λ old. if same_place (InBatch (front_of st b)) p then (if y then AtHome else InCache b) else old) p)
    fits_at s y q None f = tt
    fits_at s y q (Some AtHome) f = f
    fits_at s y q (Some OnLoan) f = f
    fits_at s y q (Some (InCache d)) f = f
    fits_at s y q (Some (InBatch n)) f = batch_at s n (front_of st b == n) refl y q f

    few_in : (s : Slot) (n : ℕ) (x : Bool) → (front_of st b == n) ≡ x → (y : Bool) → (owner_of st s == b) ≡ y →
        Fits st (owner_of st s) (c s) (Some (InBatch n)) → (if x && not y then suc (c s) else c s) < digits_of st
    few_in s n true e true q f = h.few s
    few_in s n true e false q f =
        lt_of_le_of_lt (comes s n e f.1) (desks_apart st c h (owner_of st s) b f.0 bl (eqb-false (owner_of st s) b q))
    few_in s n false e y q f = h.few s

    few_at : (s : Slot) (y : Bool) → (owner_of st s == b) ≡ y → (p : Option Place) → Fits st (owner_of st s) (c s) p →
        (if same_place (InBatch (front_of st b)) p && not y then suc (c s) else c s) < digits_of st
    few_at s y q None f = h.few s
    few_at s y q (Some AtHome) f = h.few s
    few_at s y q (Some OnLoan) f = h.few s
    few_at s y q (Some (InCache d)) f = h.few s
    few_at s y q (Some (InBatch n)) f = few_in s n (front_of st b == n) refl y q f

    -- where a slot goes that was at p
    taken_from : Slot → Option Place → Option Place
    taken_from s p = option_map (λ q. if same_place (InBatch (front_of st b)) p then kept_place st b s else q) p

    waits_at : (w : Waiting) → not (front_of st b == w.number) ≡ true → FitsWaiting st w → FitsWaiting (after_take st b) w
    waits_at w e k = record {
      numbered = k.numbered;
      a_desk = k.a_desk;
      leaves = k.leaves;
      reaches = (
        k.reaches.0,
        ap (taken_from k.reaches.0) k.reaches.1
            ∙ ap (λ x. Some (if x then (if owner_of st k.reaches.0 == b then AtHome else InCache b) else InBatch w.number))
            (not-true (front_of st b == w.number) e),
        k.reaches.2,
      );
    }

-- ---- any step

a_desk_from : (st : State) (a : ℕ) → lacks_desk st a ≡ false → a < st.desks
a_desk_from st a e = leb-false st.desks a e

home_is : (st : State) (a z : ℕ) (s : Slot) → home_with st a z s ≡ true → same_place AtHome (st.place s) ≡ true
home_is st a z s e = (and_parts (same_place AtHome (st.place s)) ((owner_of st s == a) && (class_of st s == z)) e).0

pub alloc_step : (st : State) (c : Slot → ℕ) (a z : ℕ) (s : Slot) → Sound st c → home_with st a z s ≡ true → Sound (with_moved s OnLoan st) c
alloc_step st c a z s h e =
    same_counts (with_moved s OnLoan st) (λ r. if same_slot s r then c s else c r) c (λ r. agree r (same_slot s r) refl)
    (moved_sound st c s OnLoan (c s) h (inl (home_is st a z s e)) tt (h.few s))
  where
    agree : (r : Slot) (b : Bool) → same_slot s r ≡ b → (if b then c s else c r) ≡ c r
    agree r true q = ap c (same_slot_eq s r q)
    agree r false q = refl

pub free_step : (st : State) (c : Slot → ℕ) (a : ℕ) (pair : ℕ × ℕ) → Sound st c → refusal st (Free a pair) ≡ None →
    Sound (after_free st a (slot_named pair)) (λ s. if same_slot (slot_named pair) s then 0 else c s)
free_step st c a pair h e =
    let e1 = none_holds (lacks_desk st a) _ _ e in
    let e2 = none_holds _ _ _ e1.1 in
    let e3 = none_holds (not (same_place OnLoan (st.place (slot_named pair)))) _ _ e2.1 in
    moved_sound st c (slot_named pair) (kept_place st a (slot_named pair)) 0 h (inr (not-false (same_place OnLoan (st.place (slot_named pair))) e3.0))
    (fit (owner_of st (slot_named pair) == a) refl) (lt_of_le_of_lt zero-le (h.few (slot_named pair)))
  where
    fit : (b : Bool) → (owner_of st (slot_named pair) == a) ≡ b → FitsIn st (owner_of st (slot_named pair)) 0 (if b then AtHome else InCache a)
    fit true q = tt
    fit false q = (a_desk_from st a (none_holds (lacks_desk st a) _ _ e).0, eqb-false (owner_of st (slot_named pair)) a q, zero-le)

pub send_step : (st : State) (c : Slot → ℕ) (a t : ℕ) → Sound st c → refusal st (Send a t) ≡ None → Sound (after_send st a t) c
send_step st c a t h e =
    let e1 = none_holds (lacks_desk st a || lacks_desk st t) _ _ e in
    let e2 = none_holds _ _ _ e1.1 in
    let e3 = none_holds (a == t) _ _ e2.1 in
    let e4 = none_holds _ _ _ e3.1 in
    let e5 = none_holds (not (list_any (λ s. in_bucket st a t s && (owner_of st s == t)) (slots st))) _ _ e4.1 in
    let d = or_parts (lacks_desk st a) (lacks_desk st t) e1.0 in
    send_sound st c a t h (a_desk_from st a d.0) (a_desk_from st t d.1) (eqb-false a t e3.0)
    (any_witness (λ s. in_bucket st a t s && (owner_of st s == t)) (slots st)
    (not-false (list_any (λ s. in_bucket st a t s && (owner_of st s == t)) (slots st)) e5.0))

pub take_step : (st : State) (c : Slot → ℕ) (b : ℕ) → Sound st c → refusal st (Take b) ≡ None →
    Sound (after_take st b) (λ s. if same_place (InBatch (front_of st b)) (st.place s) && not (owner_of st s == b) then suc (c s) else c s)
take_step st c b h e =
    let e1 = none_holds (lacks_desk st b) _ _ e in
    let e2 = none_holds _ _ _ e1.1 in
    let e3 = none_holds (not (front_ready (inbox st b))) _ _ e2.1 in
    take_sound st c b h (a_desk_from st b e1.0) (front_is (λ w. b == w.address) st.waiting (not-false (front_ready (inbox st b)) e3.0))

pub claim_step : (st : State) (c : Slot → ℕ) (a z k : ℕ) → Sound st c → refusal st (Claim a z) ≡ None → (k < st.chunks) × (st.drawn k ≡ None) →
    Sound (with_chunk k a z st) c
claim_step st c a z k h e r = claim_sound st c k a z h r.0 (a_desk_from st a (none_holds (lacks_desk st a) _ _ e).0) r.1

pub sound_step : (st : State) (c : Slot → ℕ) (q : Request) (y : Answer) → Sound st c → Answers st q y →
    Sound (after st q y) (λ s. counted st q y s (c s))
sound_step st c q (Err r) h g = h
sound_step st c (Adopt a x) (Ok r) h g = holder_sound st c a (Some x) h
sound_step st c (Retire a) (Ok r) h g = holder_sound st c a None h
sound_step st c (Claim a z) (Ok (Chunk k)) h g = claim_step st c a z k h g.0 g.1
sound_step st c (Claim a z) (Ok _) h g = elim g.1 [ ]
sound_step st c (Alloc a n) (Ok (Lent s)) h g = alloc_step st c a _ s h g.1
sound_step st c (Alloc a n) (Ok _) h g = elim g.1 [ ]
sound_step st c (Free a pair) (Ok r) h g = free_step st c a pair h g.0
sound_step st c (Send a t) (Ok r) h g = send_step st c a t h g.0
sound_step st c (Link n) (Ok r) h g = link_sound st c n h
sound_step st c (Take b) (Ok r) h g = take_step st c b h g.0

-- every run leads from a sound state to a sound state
pub sound_run : (qs : List Request) (ys : List Answer) (old new : State) (c : Slot → ℕ) → Sound old c → Run old qs ys new →
    Sound new (λ s. forwards old qs ys s (c s))
sound_run [] [] old new c h g = subst (λ st. Sound st c) (sym g) h
sound_run (q ∷ qs) (y ∷ ys) old new c h g =
    sound_run qs ys (after old q y) new (λ s. counted old q y s (c s)) (sound_step old c q y h g.0) g.1
sound_run [] (y ∷ ys) old new c h g = elim g [ ]
sound_run (q ∷ qs) [] old new c h g = elim g [ ]
