-- Accepted requests, each as one step of the machine.
use Rattle.std.proofs.Common.{◌≡◌, ◌≢◌, ℕ, ◌<◌, ◌≤◌, not, List, ◌∷◌, filter, length, sum_by, Some, None, Ok, if◌then◌else◌, IsPermutation, refl, sym, ap, ◌∙◌, subst}
use Rattle.std.proofs.lemmas.Bool.{leb-false, or_parts}
use Rattle.std.proofs.lemmas.List.Elements.{All-head}
use Rattle.std.proofs.lemmas.List.Sorted.{All-permutation, IsPermutation-sym, length_permutation}
use Rattle.pool_machine.specs.declared.request.Request.TheVariants.{Adopt, Retire, Free, Send}
use Rattle.pool_machine.specs.declared.reply.Reply.{Reply}
use Rattle.pool_machine.specs.declared.reply.Reply.TheVariants.{Done, Chunk, Slot as Lent, Home, Cached, Due, Batch, Counts}
use Rattle.region_cut.specs.Classes.{size_of}
use Rattle.region_cut.specs.Slots.{same_slot}
use Rattle.pool_machine.specs.State.{owner_of}
use Rattle.pool_machine.specs.Refusals.{refusal, slot_named}
use Rattle.pool_machine.specs.Steps.{Replies, with_holder, after_free, after_send}
use Rattle.pool_machine.specs.Listing.{Listing, DeskListing, Entry, desk_listing, Labelled}
use Rattle.pool_machine.proofs.Located.{Located, LocatedStep}
use Rattle.pool_machine.proofs.Basics.{none_holds}
use Rattle.pool_machine.proofs.FloorSteps.{with_desk, desk_here, holder_shown}
use Rattle.pool_machine.proofs.FreeStep.{FreeEdits, after_edits, free_shown}
use Rattle.pool_machine.proofs.SendStep.{SendEdits, after_sending, send_shown}
use Rattle.pool_machine.proofs.Parts.{bytes_seen, bucket_length}
use Rattle.pool_machine.proofs.Refusals.{refusal_seen, refusal_agrees, goes_by}
use Rattle.pool_machine.proofs.Words.{bytes_with}

pub adopt_applies : (v : Listing) (a x : ℕ) (d : DeskListing) → refusal_seen v (Adopt a x) ≡ None →
    d.worker ≡ Some x → d.home ≡ (desk_listing v a).home → d.cache ≡ (desk_listing v a).cache → LocatedStep v (Adopt a x) (Ok Done) (with_desk v a d)
adopt_applies v a x d z e f g st count h = (
  with_holder a (Some x) st,
  ((refusal_agrees v st count h (Adopt a x) ∙ z, tt), refl),
  holder_shown v st count a (Some x) d h (leb-false (length v.desks) a (none_holds _ _ _ z).0) e f g,
)

pub retire_applies : (v : Listing) (a : ℕ) (d : DeskListing) → refusal_seen v (Retire a) ≡ None →
    d.worker ≡ None → d.home ≡ (desk_listing v a).home → d.cache ≡ (desk_listing v a).cache → LocatedStep v (Retire a) (Ok Done) (with_desk v a d)
retire_applies v a d z e f g st count h = (
  with_holder a None st,
  ((refusal_agrees v st count h (Retire a) ∙ z, tt), refl),
  holder_shown v st count a None d h (leb-false (length v.desks) a (none_holds _ _ _ z).0) e f g,
)

abbrev pub seen_bytes : DeskListing → ℕ
seen_bytes d = sum_by (λ (e : Entry). size_of e.class) d.cache

-- what a free answers
abbrev pub FreeReplies : Listing → ℕ → Entry → DeskListing → Reply → Type 0
FreeReplies v a e d Home = e.owner ≡ a
FreeReplies v a e d Cached = (e.owner ≢ a) × (seen_bytes d ≤ v.limit)
FreeReplies v a e d Due = (e.owner ≢ a) × (v.limit < seen_bytes d)
FreeReplies v a e d _ = ⊥

pub free_applies : (v : Listing) (a : ℕ) (pair : ℕ × ℕ) (e : Entry) (lent : List Entry) (d : DeskListing) (r : Reply) →
    refusal_seen v (Free a pair) ≡ None →
    e.slot ≡ slot_named pair → FreeEdits v a e lent d → FreeReplies v a e d r → LocatedStep v (Free a pair) (Ok r) (after_edits v a lent d)
free_applies v a pair e lent d r z s f p st count h =
    (after_free st a (slot_named pair), ((n, replies r p), refl), shown)
  where
    n : refusal st (Free a pair) ≡ None
    n = refusal_agrees v st count h (Free a pair) ∙ z

    l : a < length v.desks
    l = leb-false (length v.desks) a (none_holds _ _ _ z).0

    shown : Located (after_edits v a lent d) (after_free st a (slot_named pair)) (λ s. if same_slot (slot_named pair) s then 0 else count s)
    shown = free_shown v st count a pair e lent d h l n s f

    owner : e.owner ≡ owner_of st (slot_named pair)
    owner = (All-head (Labelled st) e lent (All-permutation (Labelled st) v.lent (e ∷ lent)
        (IsPermutation-sym (e ∷ lent) v.lent f.leaves) h.lent)).0 ∙ ap (owner_of st) s

    bytes : bytes_with st a (slot_named pair) ≡ seen_bytes d
    bytes = bytes_seen (after_edits v a lent d) (after_free st a (slot_named pair)) (λ s. if same_slot (slot_named pair) s then 0 else count s) a shown
        ∙ ap seen_bytes (desk_here v a d l)

    replies : (r : Reply) → FreeReplies v a e d r → Replies st (Free a pair) r
    replies Home p = sym owner ∙ p
    replies Cached p = (
      (λ q. p.0 (owner ∙ q)),
      subst (λ m. bytes_with st a (slot_named pair) ≤ m) h.frame.limit
          (subst (λ m. m ≤ v.limit) (sym bytes) p.1),
    )
    replies Due p = ((λ q. p.0 (owner ∙ q)), subst (λ m. m < bytes_with st a (slot_named pair)) h.frame.limit (subst (λ m. v.limit < m) (sym bytes) p.1))
    replies Done p = elim p [ ]
    replies (Chunk m) p = elim p [ ]
    replies (Lent m) p = elim p [ ]
    replies (Batch m o) p = elim p [ ]
    replies (Counts m o) p = elim p [ ]

-- what a send does to the floor's lists, in the floor's own numbers
pub record SendMoves (v : Listing) (a t : ℕ) (bs : List Entry) (d : DeskListing) : Type 0 where
  pub worker : d.worker ≡ (desk_listing v a).worker
  pub home : d.home ≡ (desk_listing v a).home
  pub taken : IsPermutation (filter (λ (e : Entry). goes_by v.digits a t e.owner) (desk_listing v a).cache) bs
  pub left : IsPermutation (filter (λ (e : Entry). not (goes_by v.digits a t e.owner)) (desk_listing v a).cache) d.cache

pub send_applies : (v : Listing) (a t : ℕ) (bs : List Entry) (d : DeskListing) → length v.inboxes ≡ length v.desks →
    refusal_seen v (Send a t) ≡ None → SendMoves v a t bs d →
    LocatedStep v (Send a t) (Ok (Batch v.next (length bs))) (after_sending v a t bs d)
send_applies v a t bs d k z f st count h =
    let p = or_parts _ _ (none_holds _ _ _ z).0 in
    let l = leb-false (length v.desks) a p.0 in
    let m : t < length v.inboxes = subst (λ n. t < n) (sym k) (leb-false (length v.desks) t p.1) in
    let n = refusal_agrees v st count h (Send a t) ∙ z in
    let g : SendEdits v st a t bs d = record {
      worker = f.worker;
      home = f.home;
      taken = subst (λ w. IsPermutation (filter (λ (e : Entry). goes_by w a t e.owner) (desk_listing v a).cache) bs) h.frame.digits f.taken;
      left = subst (λ w. IsPermutation (filter (λ (e : Entry). not (goes_by w a t e.owner)) (desk_listing v a).cache) d.cache) h.frame.digits f.left;
    } in (
      after_send st a t,
      (
        (
          n,
          (
            h.frame.next,
            length_permutation (filter (λ (e : Entry). goes_by st.digits a t e.owner) (desk_listing v a).cache) bs g.taken
                ∙ sym (bucket_length v st count a t h),
          ),
        ),
        refl,
      ),
      send_shown v st count a t bs d h l m g n,
    )
