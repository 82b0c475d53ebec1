-- Bytes that stand for themselves.
use Rattle.std.proofs.Common.{◌≡◌, ℕ, zero, suc, ◌+◌, ◌<◌, ◌≤◌, Bool, true, List, [], ◌∷◌, ◌++◌, length, get_or, take, drop, refl, ap, sym, ◌∙◌, arith, cond, append_assoc}
use Rattle.std.proofs.lemmas.List.{append-nil, get_or-take, length-take-le, take-append-drop}
use Rattle.std.proofs.lemmas.Grind.{flat_map-append}
use Rattle.syslog_lines.specs.Texts.{byte_text, is_plain, text_of}
use Rattle.syslog_lines.specs.declared.escape.Coding.{Coding}

byte_text-plain : (c : Coding) (b : ℕ) → is_plain c b ≡ true → byte_text c b ≡ b ∷ []
byte_text-plain c b h = rw h refl

-- bytes that all stand for themselves
pub text_of-plain : (c : Coding) (xs : List ℕ) → ((k : ℕ) → k < length xs → is_plain c (get_or xs k 0) ≡ true) → text_of c xs ≡ xs
text_of-plain c [] h = refl
text_of-plain c (x ∷ xs) h =
    let first : byte_text c x ≡ x ∷ [] = byte_text-plain c x (h 0 (omega arith)) in
    let later : text_of c xs ≡ xs = text_of-plain c xs (λ k lt. h (suc k) (omega arith)) in
    ap (λ t. t ++ text_of c xs) first ∙ ap (λ t. x ∷ t) later

-- a run of them, and what follows it
pub text_of-run : (c : Coding) (xs : List ℕ) (n : ℕ) → text_of c (take n xs) ≡ take n xs → text_of c xs ≡ take n xs ++ text_of c (drop n xs)
text_of-run c xs n h =
    ap (text_of c) (sym (take-append-drop n xs)) ∙ (flat_map-append (byte_text c) (take n xs) (drop n xs) ∙ ap (λ t. t ++ text_of c (drop n xs)) h)

run_of : (c : Coding) (xs : List ℕ) (n : ℕ) → n ≤ length xs → ((k : ℕ) → k < n → is_plain c (get_or xs k 0) ≡ true)
    → text_of c xs ≡ take n xs ++ text_of c (drop n xs)
run_of c xs n within plain =
    let len : length (take n xs) ≡ n = length-take-le n xs within in
    text_of-run c xs n (text_of-plain c (take n xs)
    (λ k lt. let less : k < n = omega (arith, len) in ap (is_plain c) (get_or-take n xs k 0 less) ∙ plain k less))

text_of-none : (c : Coding) (xs : List ℕ) → length xs ≡ 0 → text_of c xs ≡ []
text_of-none c [] h = refl
text_of-none c (x ∷ xs) h = absurd (omega arith)

-- all that is left stands for itself
pub last_run : (c : Coding) (out rest ahead behind : List ℕ) (n : ℕ) → n ≤ length rest
    → ((k : ℕ) → k < n → is_plain c (get_or rest k 0) ≡ true)
    → ahead ≡ take n rest → behind ≡ drop n rest → length behind ≡ 0 → out ++ ahead ≡ out ++ text_of c rest
last_run c out rest ahead behind n within plain front back empty =
    let none : text_of c (drop n rest) ≡ [] = ap (text_of c) (sym back) ∙ text_of-none c behind empty in
    ap (λ t. out ++ t) (front ∙ sym (run_of c rest n within plain ∙ (ap (λ t. take n rest ++ t) none ∙ append-nil (take n rest))))

-- a run that stands for itself, and a byte that doesn't
pub run_and_escape : (c : Coding) (out rest ahead behind later : List ℕ) (b n : ℕ) → n ≤ length rest
    → ((k : ℕ) → k < n → is_plain c (get_or rest k 0) ≡ true)
    → ahead ≡ take n rest → behind ≡ drop n rest → behind ≡ b ∷ later
    → ((out ++ ahead) ++ byte_text c b) ++ text_of c later ≡ out ++ text_of c rest
run_and_escape c out rest ahead behind later b n within plain front back cons =
    let tail : text_of c (drop n rest) ≡ byte_text c b ++ text_of c later = ap (text_of c) (sym back ∙ cons) in
    let whole : text_of c rest ≡ ahead ++ (byte_text c b ++ text_of c later) =
    run_of c rest n within plain ∙ (ap (λ t. take n rest ++ t) tail ∙ ap (λ t. t ++ (byte_text c b ++ text_of c later)) (sym front)) in
    append_assoc (out ++ ahead) (byte_text c b) (text_of c later)
    ∙ (append_assoc out ahead (byte_text c b ++ text_of c later) ∙ ap (λ t. out ++ t) (sym whole))
