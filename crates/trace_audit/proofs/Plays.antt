-- What one line adds to what was played, and how it ends.
use Rattle.std.proofs.Common.{◌≡◌, ℕ, ◌+◌, ◌≤◌, ◌<◌, List, [], ◌∷◌, ◌++◌, Option, Ok, Err, refl, sym, ◌∙◌, ap, subst, arith, length-append, append_assoc, append-nil}
use Rattle.std.specs.List.{flat_map, AllByRecursion}
use Rattle.std.proofs.lemmas.List.{flat_map_more}
use Rattle.std.specs.Io.KnownBytes.{Appends, Consumes, Keeps, IsAtEnd}
use Rattle.std.proofs.KnownBytes.{Appends-nil, Appends-trans, Consumes-nil, Consumes-trans}
use Rattle.event_floor.specs.Floors.{FloorState}
use Rattle.pool_machine.specs.declared.request.Request.{Request}
use Rattle.trace_audit.specs.Grammar.{IsRequest}
use Rattle.event_floor.specs.headline.Headline.{Applies}
use Rattle.pool_machine.specs.State.{State}
use Rattle.pool_machine.specs.Steps.{Answers, Run, after}
use Rattle.pool_machine.specs.Steps.{Answer}
use Rattle.trace_audit.specs.Report.{answer_line}
use Rattle.trace_audit.specs.Words.{request_line}
use Rattle.trace_audit.specs.Steps.{EndsSo, Follows, Played, Turned, Driven}
use Rattle.trace_audit.specs.Wire.{Begins}
use Rattle.trace_audit.specs.declared.replaying.ending.End.{End}
use Rattle.trace_audit.specs.declared.replaying.ending.ReplayError.{ReplayError}
use Rattle.trace_audit.specs.declared.replaying.ending.ReplayError.TheVariants.{Read, Write}
use Rattle.trace_audit.proofs.Bytes.{consumes_kept}

-- a run goes on by one step
run_more : (a b c : State) (rs : List Request) (xs : List Answer) (r : Request) (x : Answer) → Run a rs xs b → Answers b r x × (c ≡ after b r x) → Run a (rs ++ r ∷ []) (xs ++ x ∷ []) c
run_more a b c [] [] r x h s = subst (λ (w : State). Answers w r x × (c ≡ after w r x)) h s
run_more a b c [] (y ∷ xs) r x h s = absurd h
run_more a b c (q ∷ rs) [] r x h s = absurd h
run_more a b c (q ∷ rs) (y ∷ xs) r x (one, more) s = (one, run_more (after a q y) b c rs xs r x more s)

follows_more : (start now new : FloorState) (rs : List Request) (xs : List Answer) (r : Request) (x : Answer) → Follows start rs xs now → Applies now r x new → Follows start (rs ++ r ∷ []) (xs ++ x ∷ []) new
unfolding Applies
follows_more start now new rs xs r x h s st count shown =
    let before = h st count shown in
    let step = s before.0 before.1 before.3 in
    (step.0, _, run_more st before.0 step.0 rs xs r x before.2 step.1.step, step.1.shown)

all_more : (rs : List Request) (r : Request) → AllByRecursion IsRequest rs → IsRequest r → AllByRecursion IsRequest (rs ++ r ∷ [])
all_more [] r h k = (k, tt)
all_more (q ∷ rs) r h k = (h.0, all_more rs r h.1 k)

flat_more : {X : Type 0} (f : X → List ℕ) (xs : List X) (x : X) → flat_map f (xs ++ x ∷ []) ≡ flat_map f xs ++ f x
flat_more f xs x = sym (flat_map_more f [] xs x)

-- two reads in a row
regroup : (held0 given more front held rest : List ℕ) → held0 ++ given ≡ front ++ held → held ++ more ≡ rest → held0 ++ (given ++ more) ≡ front ++ rest
regroup held0 given more front held rest e k =
    sym (append_assoc held0 given more) ∙ ap (λ w. w ++ more) e ∙ append_assoc front held more ∙ ap (λ w. front ++ w) k

pub played_start : (left0 : Option (List ℕ)) (held0 : List ℕ) (start : FloorState) (out0 : Option (List ℕ)) → Played left0 left0 held0 held0 start start 0 [] (Appends out0 out0)
played_start left0 held0 start out0 = record {
  given = [];
  requests = [];
  answers = [];
  read = Consumes-nil left0;
  lines = append-nil held0;
  good = tt;
  number = refl;
  run = λ st count shown. (st, count, refl, shown);
  wrote = Appends-nil out0;
}

-- one line more
pub played_more : (left0 left left' : Option (List ℕ)) (held0 held held' : List ℕ) (start now new : FloorState) (n m : ℕ) (P P' : List ℕ → Type 0)
    → Played left0 left held0 held start now n [] P → n + 1 ≡ m → (more : List ℕ) (r : Request) (x : Answer) → Consumes left left' more
    → held ++ more ≡ request_line r ++ held' → IsRequest r → Applies now r x new → ((text : List ℕ) → P text → P' (text ++ answer_line x))
    → Played left0 left' held0 held' start new m [] P'
played_more left0 left left' held0 held held' start now new n m P P' p e more r x read lines fits step wrote = record {
  given = p.given ++ more;
  requests = p.requests ++ r ∷ [];
  answers = p.answers ++ x ∷ [];
  read = Consumes-trans left0 left left' p.given more p.read read;
  lines = regroup held0 p.given more (flat_map request_line p.requests) held (request_line r ++ held') p.lines lines
      ∙ sym (append_assoc (flat_map request_line p.requests) (request_line r) held') ∙ ap (λ w. w ++ held') (sym (flat_more request_line p.requests r));
  good = all_more p.requests r p.good fits;
  number = length-append p.requests (r ∷ []) ∙ ap (λ k. k + 1) p.number ∙ e;
  run = follows_more start now new p.requests p.answers r x p.run step;
  wrote = subst P' (text_more p.answers x) (wrote (flat_map answer_line p.answers ++ []) p.wrote);
}
  where
    text_more : (xs : List Answer) (y : Answer) → (flat_map answer_line xs ++ []) ++ answer_line y ≡ flat_map answer_line (xs ++ y ∷ []) ++ []
    text_more xs y = ap (λ w. w ++ answer_line y) (append-nil (flat_map answer_line xs)) ∙ sym (flat_more answer_line xs y) ∙ sym (append-nil (flat_map answer_line (xs ++ y ∷ [])))

-- more was read, and no line of it is answered; the tail is written
pub played_tail : (left0 left left' : Option (List ℕ)) (held0 held rest : List ℕ) (start now new : FloorState) (n : ℕ) (tail : List ℕ) (P P' : List ℕ → Type 0)
    → Played left0 left held0 held start now n [] P → (more : List ℕ) → Consumes left left' more → held ++ more ≡ rest → new ≡ now
    → ((text : List ℕ) → P text → P' (text ++ tail)) → Played left0 left' held0 rest start new n tail P'
played_tail left0 left left' held0 held rest start now new n tail P P' p more read lines same wrote = record {
  given = p.given ++ more;
  requests = p.requests;
  answers = p.answers;
  read = Consumes-trans left0 left left' p.given more p.read read;
  lines = regroup held0 p.given more (flat_map request_line p.requests) held rest p.lines lines;
  good = p.good;
  number = p.number;
  run = subst (λ (w : FloorState). Follows start p.requests p.answers w) (sym same) p.run;
  wrote = subst (λ (w : List ℕ). P' (w ++ tail)) (append-nil (flat_map answer_line p.answers)) (wrote (flat_map answer_line p.answers ++ []) p.wrote);
}

pub begins_more : (out0 out out' : Option (List ℕ)) (text tail : List ℕ) → Appends out0 out text → Begins out out' tail → Begins out0 out' (text ++ tail)
begins_more out0 out out' text tail h (front, back, e, k) = (text ++ front, back, ap (λ w. text ++ w) e ∙ sym (append_assoc text front back), Appends-trans out0 out out' text front h k)

-- the end of the request lines was found
pub driven_end : (left0 left left' out0 out out' : Option (List ℕ)) (held0 held rest : List ℕ) (start now new : FloorState) (n : ℕ) (end : End)
    → Played left0 left held0 held start now n [] (Appends out0 out) → (more : List ℕ) → Consumes left left' more → held ++ more ≡ rest → new ≡ now → out' ≡ out
    → EndsSo n rest (IsAtEnd left') end → Driven left0 left' held0 start new out0 out' (Ok end)
driven_end left0 left left' out0 out out' held0 held rest start now new n end p more read lines same kept ends = (
  n,
  rest,
  played_tail left0 left left' held0 held rest start now new n [] (Appends out0 out) (Appends out0 out') p more read lines same
      (λ text h. subst (λ (w : Option (List ℕ)). Appends out0 w (text ++ [])) (sym kept) (subst (λ (w : List ℕ). Appends out0 out w) (sym (append-nil text)) h)),
  ends,
)

-- the reader or the writer failed within a line
pub stopped_by : (left0 left left' out0 out out' : Option (List ℕ)) (held0 held held' : List ℕ) (at_end : Type 0) (start now new : FloorState) (n : ℕ) (e : ReplayError)
    → Played left0 left held0 held start now n [] (Appends out0 out) → n < 999999 → (more : List ℕ) → Consumes left left' more
    → Turned (held ++ more) held' at_end now new out out' (Err e) → Driven left0 left' held0 start new out0 out' (Err e)
stopped_by left0 left left' out0 out out' held0 held held' at_end start now new n Read p low more read b = (
  n,
  held',
  played_tail left0 left left' held0 held held' start now new n [] (Appends out0 out) (Appends out0 out') p more read b.0 b.2
      (λ text h. subst (λ (w : Option (List ℕ)). Appends out0 w (text ++ [])) (sym b.3) (subst (λ (w : List ℕ). Appends out0 out w) (sym (append-nil text)) h)),
  omega arith,
  b.1,
  λ full. absurd (omega arith),
)
stopped_by left0 left left' out0 out out' held0 held held' at_end start now new n Write p low more read (r, x, fits, lines, step, wrote) = (
  n + 1,
  held',
  played_more left0 left left' held0 held held' start now new n (n + 1) (Appends out0 out) (Begins out0 out') p refl more r x read lines fits step
      (λ text h. begins_more out0 out out' text (answer_line x) h wrote),
  omega arith,
)

-- the reader failed behind the last line that a trace may have
pub stopped_last : (left0 left left' out0 out : Option (List ℕ)) (held0 held : List ℕ) (start now : FloorState) (n : ℕ)
    → Played left0 left held0 held start now n [] (Appends out0 out) → n ≤ 999999 → Keeps left left' → held ≡ [] → Driven left0 left' held0 start now out0 out (Err Read)
stopped_last left0 left left' out0 out held0 held start now n p low kept none = (
  n,
  [],
  played_tail left0 left left' held0 held [] start now now n [] (Appends out0 out) (Appends out0 out) p [] (consumes_kept left left' kept) (append-nil held ∙ none) refl
      (λ text h. subst (λ (w : List ℕ). Appends out0 out w) (sym (append-nil text)) h),
  low,
  (λ k h. absurd (omega arith), omega arith),
  λ full. refl,
)
