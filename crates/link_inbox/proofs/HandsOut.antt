-- What is left of each sender, once one batch more was handed out.
use Rattle.std.proofs.Common.{◌≡◌, ℕ, ◌+◌, ◌<◌, ◌≤◌, ◌≢◌, List, [], ◌∷◌, ◌++◌, cond, Bool, eqb, eq-eqb, ne_eqb, sym, refl, ap, ◌∙◌, arith}
use mathlib.Core.Logic.{dite}
use native.Mathlib.Decide.{ℕ_discrete, dec_le}
use Rattle.std.specs.Prelude.{Option, Some, None, IfSome, IfNone, MatchOption}
use Rattle.digit_route.specs.States.{BatchState}
use Rattle.batch_inbox.specs.States.{left}
use Rattle.batch_inbox.specs.Views.{batches_of}
use Rattle.link_inbox.specs.Remains.{row_of, rows}
use Rattle.link_inbox.proofs.Rounds.{left_rows, left_past}

module _ (slots slots' : List (Option BatchState)) (turns turns' : List ℕ) (next next' n : ℕ) where
  Handed : BatchState → Type 0
  Handed b = (b.sender < n) × (row_of slots turns next b.sender ≡ b ∷ row_of slots' turns' next' b.sender)
      × ((k : ℕ) → k ≢ b.sender → row_of slots' turns' next' k ≡ row_of slots turns next k)

  others : (b : BatchState) (k : ℕ) → k ≢ b.sender → batches_of k (b ∷ []) ≡ []
  others b k ne = ap (λ (t : Bool). cond t (b ∷ []) []) (ne_eqb b.sender k (λ e. ne (sym e)))

  mine : (b : BatchState) (k : ℕ) → k ≡ b.sender → batches_of k (b ∷ []) ≡ b ∷ []
  mine b k e = ap (λ (t : Bool). cond t (b ∷ []) []) (eq-eqb b.sender k (sym e))

  one : (b : BatchState) → Handed b → (k : ℕ) → left (rows slots turns next 0 n) k ≡ batches_of k (b ∷ []) ++ left (rows slots' turns' next' 0 n) k
  unfolding Handed
  one b h k = dite (dec_le n k)
      (λ past. let low : b.sender < n = h.0 in left_past slots turns next 0 n k past
      ∙ (ap (λ (l : List BatchState). l ++ []) (sym (others b k (λ e. omega arith)))
      ∙ ap (λ (l : List BatchState). batches_of k (b ∷ []) ++ l) (sym (left_past slots' turns' next' 0 n k past))))
      (λ near. let lt : k < n = omega arith in left_rows slots turns next 0 n k k lt (omega arith)
      ∙ (dite (ℕ_discrete k b.sender)
      (λ e. ap (row_of slots turns next) e ∙ (h.1 ∙ (ap (λ (j : ℕ). b ∷ row_of slots' turns' next' j) (sym e) ∙ ap (λ (l : List BatchState). l ++ row_of slots' turns' next' k) (sym (mine b k e)))))
      (λ ne. sym (h.2 k ne) ∙ ap (λ (l : List BatchState). l ++ row_of slots' turns' next' k) (sym (others b k ne)))
      ∙ ap (λ (l : List BatchState). batches_of k (b ∷ []) ++ l) (sym (left_rows slots' turns' next' 0 n k k lt (omega arith)))))

  pub hands_out : (x : Option BatchState)
      → IfSome x (λ b. (b.sender < n) × (row_of slots turns next b.sender ≡ b ∷ row_of slots' turns' next' b.sender) × ((k : ℕ) → k ≢ b.sender → row_of slots' turns' next' k ≡ row_of slots turns next k))
      → IfNone x ((s : ℕ) → s < n → row_of slots turns next s ≡ [])
      → MatchOption x ((k : ℕ) → left (rows slots turns next 0 n) k ≡ [])
      (λ b. (k : ℕ) → left (rows slots turns next 0 n) k ≡ batches_of k (b ∷ []) ++ left (rows slots' turns' next' 0 n) k)
  unfolding Handed
  hands_out None some none = λ k. dite (dec_le n k) (left_past slots turns next 0 n k) (λ near. let lt : k < n = omega arith in left_rows slots turns next 0 n k k lt (omega arith) ∙ none k lt)
  hands_out (Some b) some none = λ k. one b some k
