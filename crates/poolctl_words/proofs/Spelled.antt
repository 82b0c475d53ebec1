-- What a value of the command line reads as.
use Rattle.std.proofs.Common.{◌≡◌, ℕ, List, Option, Some, None, Result, Ok, IfSome, Bool, true, false, codes, refl, sym, ◌∙◌}
use Rattle.std.specs.Str.Parse.{ParsesUnsigned}
use Rattle.clap.specs.Words.{ReadsOne, Row, Text, found_of, one_text, rows_of}
use Rattle.clap.specs.declared.ArgMatches.{ArgMatches}
use Rattle.clap.proofs.WalkLemmas.{one_text-rows}
use Rattle.poolctl_words.specs.Asked.{AskedBy, CanRun, HasFlag, Reads, workload_name}
use Rattle.poolctl_words.specs.declared.asked.Work as declared_work
use Rattle.poolctl_words.specs.declared.asked.Asked.TheVariants.{Work}
use Rattle.pool_jobs.specs.declared.workloads.workload.Workload.{Workload}
use Rattle.pool_jobs.specs.declared.workloads.workload.Workload.TheVariants.{ProdCons, Ring, Replace}

pub reads : (E : Type 0) (G : List ℕ → Result ℕ E → Type 0) (m : ArgMatches) (name : Text) (o : Option Text) (r : Option ℕ) → one_text (found_of m) name ≡ o
    → (o ≡ None → r ≡ None) → ((t : Text) → o ≡ Some t → ReadsOne G t r) → ((u : Text) (x : Result ℕ E) → G u x → ParsesUnsigned 32 10 u x)
    → IfSome r (λ n. Reads (rows_of (found_of m)) name n)
reads E G m name o None is none value parses = tt
reads E G m name None (Some n) is none value parses = let e : Some n ≡ None = none refl in absurd (let f : ⊥ = cc in f)
reads E G m name (Some t) (Some n) is none value parses =
    let p = parses t (Ok n) (value t refl) in
    (t, sym (one_text-rows (found_of m) name) ∙ is, p.0.0, sym p.1)

-- a flag, by what its getter tells
pub has_flag : (m : ArgMatches) (name : Text) (b : Bool) → (one_text (found_of m) name ≡ None → b ≡ false)
    → (one_text (found_of m) name ≡ Some (codes "false") → b ≡ false)
    → (one_text (found_of m) name ≡ Some (codes "true") → b ≡ true) → HasFlag (rows_of (found_of m)) name b
has_flag m name true none other value = (
  λ e. let off : true ≡ false = other (one_text-rows (found_of m) name ∙ e) in cc,
  λ e. let off : true ≡ false = none (one_text-rows (found_of m) name ∙ e) in cc,
)
has_flag m name false none other value = λ e. let on : false ≡ true = value (one_text-rows (found_of m) name ∙ e) in cc

-- a text that is the name of no workload
pub no_workload_is : (text : List ℕ) → (text ≡ codes "prodcons" → ⊥) → (text ≡ codes "ring" → ⊥) → (text ≡ codes "replace" → ⊥)
    → (w : Workload) → Some text ≡ Some (workload_name w) → ⊥
no_workload_is text a b c ProdCons is = a (let e : text ≡ codes "prodcons" = cc in e)
no_workload_is text a b c Ring is = b (let e : text ≡ codes "ring" = cc in e)
no_workload_is text a b c Replace is = c (let e : text ≡ codes "replace" = cc in e)

-- a workload that is asked for can be run
pub asked_can_run : (o : Option (Text × List Row)) (w : declared_work.Work) → AskedBy o (Work w) → CanRun w
asked_can_run None w is = absurd is
asked_can_run (Some (name, rows)) w is = is.1.runs
