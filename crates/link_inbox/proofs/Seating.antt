-- What a clause says of an inbox and its seats, of the table.
use Rattle.std.proofs.Common.{◌≡◌, ℕ, List, [], ◌∷◌, sym, refl, ap, true}
use Rattle.std.specs.Prelude.{Option, Some, None}
use Rattle.atomic_table.specs.Seated.{TableId}
use Rattle.batch_inbox.specs.States.{InboxId}
use Rattle.batch_inbox.specs.declared.place.Place.{Place}
use Rattle.link_inbox.specs.declared.rule.Role.{Role}
use Rattle.link_inbox.specs.declared.rule.Role.TheVariants.{Idle, Prepared, Attached, Ready, Lifted, Spent}
use Rattle.link_inbox.specs.States.{HalfLink, key_of, inbox_of, is_sender, half_of}

abbrev head_or : List ℕ → ℕ
head_or [] = 0
head_or (x ∷ xs) = x

abbrev tail_of : List ℕ → List ℕ
tail_of [] = []
tail_of (x ∷ xs) = xs

same_table : (t u : TableId) → key_of t ≡ key_of u → t ≡ u
same_table t u e i = record {
  words = head_or (e i);
  slots = head_or (tail_of (e i));
  views_name = head_or (tail_of (tail_of (e i)));
  atom = head_or (tail_of (tail_of (tail_of (e i))));
  block = head_or (tail_of (tail_of (tail_of (tail_of (e i)))));
  offset = head_or (tail_of (tail_of (tail_of (tail_of (tail_of (e i))))));
  slot_names = tail_of (tail_of (tail_of (tail_of (tail_of (tail_of (e i))))));
}

pub same_inbox : (t u : TableId) (a b : Place) → inbox_of t a ≡ inbox_of u b → (t ≡ u) × (a ≡ b)
same_inbox t u a b e = (same_table t u (ap (λ (m : InboxId). m.key) e), ap (λ (m : InboxId). m.place) e)

pub is_at_rest : (ro : Role) (n m : ℕ) → is_sender ro ≡ true → half_of ro n m ≡ None → ro ≡ Idle
is_at_rest Idle n m s h = refl
is_at_rest Prepared n m s h = absurd (cc)
is_at_rest Attached n m s h = absurd (cc)
is_at_rest Ready n m s h = absurd (cc)
is_at_rest Lifted n m s h = absurd (cc)
is_at_rest Spent n m s h = absurd (cc)

abbrev link_or : HalfLink → Option HalfLink → HalfLink
link_or d None = d
link_or d (Some x) = x

pub is_half : (ro : Role) (n m : ℕ) (a : HalfLink) → half_of ro n m ≡ Some a → (ro ≡ Attached) × (n ≡ a.node) × (m ≡ a.before)
is_half Idle n m a h = absurd (cc)
is_half Prepared n m a h = absurd (cc)
is_half Attached n m a h = (refl, ap (λ (x : Option HalfLink). (link_or a x).node) h, ap (λ (x : Option HalfLink). (link_or a x).before) h)
is_half Ready n m a h = absurd (cc)
is_half Lifted n m a h = absurd (cc)
is_half Spent n m a h = absurd (cc)
