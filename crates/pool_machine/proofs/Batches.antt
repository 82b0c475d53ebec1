-- Batches by their numbers: each number stands once, in the inbox of its address.
use Rattle.std.proofs.Common.{◌≡◌, ◌≢◌, ℕ, zero, suc, ◌<◌, true, ◌==◌, List, [], ◌∷◌, ◌++◌, map, length, get_or, flat_map, if◌then◌else◌, Bool, refl, sym, ap, ap₂, ◌∙◌, subst, arith, inl, inr}
use Rattle.std.proofs.lemmas.Bool.{eqb-true, eq-eqb, ne_eqb}
use Rattle.pool_machine.specs.State.{State, Waiting}
use Rattle.pool_machine.specs.Sound.{Member, Rising}
use Rattle.pool_machine.specs.Listing.{Listing, BatchListing, slots_seen, ShowsFrame}
use Rattle.pool_machine.proofs.Words.{as_waiting}
use Rattle.pool_machine.proofs.Located.{inbox_listing, BatchOf, slots_in, if_numbered}
use Rattle.pool_machine.proofs.Basics.{filter_member, Member-filter}
use Rattle.pool_machine.proofs.Keeps.{Rising-filter}

-- two batches with one number are one
pub same_number : (xs : List Waiting) (w u : Waiting) → Rising xs → Member w xs → Member u xs → w.number ≡ u.number → w ≡ u
same_number [] w u r m n e = elim m [ ]
same_number (x ∷ xs) w u r (inl p) (inl q) e = p ∙ sym q
same_number (x ∷ xs) w u r (inl p) (inr n) e =
    absurd (let l = r.0 u n in let z : w.number ≡ x.number = ap (λ (y : Waiting). y.number) p in omega arith)
same_number (x ∷ xs) w u r (inr m) (inl q) e =
    absurd (let l = r.0 w m in let z : u.number ≡ x.number = ap (λ (y : Waiting). y.number) q in omega arith)
same_number (x ∷ xs) w u r (inr m) (inr n) e = same_number xs w u r.1 m n e

pub row_member : (ws : List BatchListing) (j : ℕ) (d : BatchListing) → j < length ws → Member (as_waiting (get_or ws j d)) (map as_waiting ws)
row_member [] j d l = absurd (omega arith)
row_member (w ∷ ws) zero d l = inl refl
row_member (w ∷ ws) (suc j) d l = inr (row_member ws j d (omega arith))

-- a batch that waits stands at a place of its inbox
abbrev pub StandsIn : Waiting → List BatchListing → Type 0
StandsIn u ws = (j : ℕ) × (j < length ws) × ((d : BatchListing) → u ≡ as_waiting (get_or ws j d))

pub member_row : (u : Waiting) (ws : List BatchListing) → Member u (map as_waiting ws) → StandsIn u ws
member_row u [] m = elim m [ ]
member_row u (w ∷ ws) (inl e) = (zero, omega arith, λ d. e)
member_row u (w ∷ ws) (inr m) = let h = member_row u ws m in (suc h.0, (let l = h.1 in omega (arith, l)), h.2)

-- the numbers of an inbox rise, so a number stands at one place
one_place : (ws : List BatchListing) → Rising (map as_waiting ws) → (i j : ℕ) (d : BatchListing) → i < length ws → j < length ws
    → (get_or ws i d).batch.number ≡ (get_or ws j d).batch.number → i ≡ j
one_place [] r i j d l m e = absurd (omega arith)
one_place (w ∷ ws) r zero zero d l m e = refl
one_place (w ∷ ws) r zero (suc j) d l m e = absurd (let k : w.batch.number < (get_or ws j d).batch.number = r.0 _ (row_member ws j d (omega arith)) in let z : w.batch.number ≡ (get_or ws j d).batch.number = e in omega arith)
one_place (w ∷ ws) r (suc i) zero d l m e = absurd (let k : w.batch.number < (get_or ws i d).batch.number = r.0 _ (row_member ws i d (omega arith)) in let z : (get_or ws i d).batch.number ≡ w.batch.number = e in omega arith)
one_place (w ∷ ws) r (suc i) (suc j) d l m e = ap suc (one_place ws r.1 i j d (omega arith) (omega arith) e)

-- of all lists only one has something
append_nil : {Y : Type 0} (ys : List Y) → ys ++ [] ≡ ys
append_nil [] = refl
append_nil (y ∷ ys) = ap (λ zs. y ∷ zs) (append_nil ys)

flat_none : {X Y : Type 0} (f : X → List Y) (xs : List X) (d : X) → ((i : ℕ) → i < length xs → f (get_or xs i d) ≡ []) → flat_map f xs ≡ []
flat_none f [] d e = refl
flat_none f (x ∷ xs) d e = ap₂ (λ ys zs. ys ++ zs) (e zero (omega arith)) (flat_none f xs d (λ i l. e (suc i) (omega arith)))

flat_only : {X Y : Type 0} (f : X → List Y) (xs : List X) (j : ℕ) (d : X) → j < length xs
    → ((i : ℕ) → i < length xs → i ≢ j → f (get_or xs i d) ≡ []) → flat_map f xs ≡ f (get_or xs j d)
flat_only f [] j d l e = absurd (omega arith)
flat_only f (x ∷ xs) zero d l e =
    ap (λ ys. f x ++ ys) (flat_none f xs d (λ i m. e (suc i) (omega arith) (λ q. let z : suc i ≡ 0 = q in absurd (omega arith)))) ∙ append_nil (f x)
flat_only f (x ∷ xs) (suc j) d l e =
    ap₂ (λ ys zs. ys ++ zs) (e zero (omega arith) (λ q. let z : 0 ≡ suc j = q in absurd (omega arith)))
    (flat_only f xs j d (omega arith) (λ i m n. e (suc i) (omega arith) (λ q. n (let z : suc i ≡ suc j = q in omega arith))))

module _ (v : Listing) (st : State) (f : ShowsFrame v st) (r : Rising st.waiting) where
  -- a batch of an inbox waits for its desk, and the other way round
  pub waits_there : (b j : ℕ) (d : BatchListing) → j < length (inbox_listing v b) →
      Member (as_waiting (get_or (inbox_listing v b) j d)) st.waiting × ((b == (get_or (inbox_listing v b) j d).batch.address) ≡ true)
  waits_there b j d l = filter_member (λ w. b == w.address) (as_waiting (get_or (inbox_listing v b) j d)) st.waiting
      (subst (λ ws. Member (as_waiting (get_or (inbox_listing v b) j d)) ws) (f.inboxes b) (row_member (inbox_listing v b) j d l))

  pub stands_there : (u : Waiting) → Member u st.waiting → StandsIn u (inbox_listing v u.address)
  stands_there u m = member_row u (inbox_listing v u.address) (subst (λ ws. Member u ws) (sym (f.inboxes u.address))
      (Member-filter (λ w. u.address == w.address) u st.waiting m (eq-eqb u.address u.address refl)))

  pub row_rises : (b : ℕ) → Rising (map as_waiting (inbox_listing v b))
  row_rises b = subst (λ ws. Rising ws) (sym (f.inboxes b)) (Rising-filter (λ w. b == w.address) st.waiting r)

  -- a number stands in one inbox
  one_inbox : (a b i j : ℕ) (d e : BatchListing) → i < length (inbox_listing v a) → j < length (inbox_listing v b)
      → (get_or (inbox_listing v a) i d).batch.number ≡ (get_or (inbox_listing v b) j e).batch.number → a ≡ b
  one_inbox a b i j d e l m q =
      let x = waits_there a i d l in
      let y = waits_there b j e m in
      let z = same_number st.waiting _ _ r x.0 y.0 q in
      eqb-true a _ x.1 ∙ (ap (λ (w : Waiting). w.address) z ∙ sym (eqb-true b _ y.1))

  module _ (b j : ℕ) (d : BatchListing) (l : b < length v.inboxes) (m : j < length (inbox_listing v b)) where
    abbrev w : BatchListing
    w = get_or (inbox_listing v b) j d

    row_only : flat_map (if_numbered w.batch.number) (inbox_listing v b) ≡ slots_seen w.buffers
    row_only = flat_only (if_numbered w.batch.number) (inbox_listing v b) j d m
        (λ i k n. ap (λ (t : Bool). if t then slots_seen (get_or (inbox_listing v b) i d).buffers else [])
        (ne_eqb w.batch.number (get_or (inbox_listing v b) i d).batch.number (λ q. n (sym (one_place (inbox_listing v b) (row_rises b) j i d m k q)))))
        ∙ ap (λ (t : Bool). if t then slots_seen w.buffers else []) (eq-eqb w.batch.number w.batch.number refl)

    -- the batch is all that has its number
    pub batch_only : slots_in v (BatchOf w.batch.number) ≡ slots_seen w.buffers
    batch_only = flat_only (λ ws. flat_map (if_numbered w.batch.number) ws) v.inboxes b [] l
        (λ a k n. flat_none (if_numbered w.batch.number) (get_or v.inboxes a []) d
        (λ i k'. ap (λ (t : Bool). if t then slots_seen (get_or (inbox_listing v a) i d).buffers else [])
        (ne_eqb w.batch.number (get_or (inbox_listing v a) i d).batch.number (λ q. n (sym (one_inbox b a j i d d m k' q))))))
        ∙ row_only
