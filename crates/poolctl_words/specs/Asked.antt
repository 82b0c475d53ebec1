-- What the words of the command line ask for, as `clap` reads them: by the name of a subcommand and by its values.
use Rattle.std.specs.Prelude.{ℕ, ◌≡◌, ◌≢◌, ◌≤◌, Bool, true, false, List, Option, Some, None, codes}
use Rattle.std.specs.Str.Parse.{IsNumeral, digits_value, without_leading_plus}
use Rattle.region_cut.specs.Classes.{bits_of}
use Rattle.region_cut.specs.declared.profile.Profile.{Profile}
use Rattle.region_cut.specs.declared.profile.Profile.TheVariants.{Pool, Pool2}
use Rattle.clap.specs.Words.{Row, Text, first_of, one_of, subcommand_of, takes}
use Rattle.poolctl_words.specs.CommandLine.{command_line}
use Rattle.poolctl_words.specs.declared.asked.Asked.{Asked}
use Rattle.poolctl_words.specs.declared.asked.Asked.TheVariants.{Classes, Route, Replay, AuditedReplay, Work}
use Rattle.poolctl_words.specs.declared.asked.Route as declared_route
use Rattle.poolctl_words.specs.declared.asked.Work as declared_work
use Rattle.pool_jobs.specs.declared.workloads.workload.Workload.{Workload}
use Rattle.pool_jobs.specs.declared.workloads.workload.Workload.TheVariants.{ProdCons, Ring, Replace}

-- the value of this name reads as the number: decimal digits, before which a plus may stand
abbrev pub Reads : List Row → Text → ℕ → Type 0
Reads rows name n = (text : Text) × (one_of name rows ≡ Some text)
    × IsNumeral 10 (without_leading_plus text) × (digits_value 10 (without_leading_plus text) ≡ n)

-- the two desks of the profile, and the width of the digits that their numbers are read in
pub record IsRoute (rows : List Row) (p : Profile) (r : declared_route.Route) : Type 0 where
  pub bits : r.digits.bits ≡ bits_of p
  pub width : Reads rows (codes "WIDTH") r.digits.width
  pub from : Reads rows (codes "FROM") r.from
  pub owner : Reads rows (codes "OWNER") r.owner

-- the flag is there, or it isn't
abbrev pub HasFlag : List Row → Text → Bool → Type 0
HasFlag rows name true = (one_of name rows ≢ Some (codes "false")) × (one_of name rows ≢ None)
HasFlag rows name false = one_of name rows ≢ Some (codes "true")

-- the flag is there where an audit is asked for, and only there
abbrev pub IsReplay : List Row → Asked → Type 0
IsReplay rows Replay = HasFlag rows (codes "audit") false
IsReplay rows AuditedReplay = HasFlag rows (codes "audit") true
IsReplay rows _ = ⊥

-- the name of a workload
abbrev pub workload_name : Workload → Text
workload_name ProdCons = codes "prodcons"
workload_name Ring = codes "ring"
workload_name Replace = codes "replace"

-- a workload that can be run: 2 to 64 workers, 1 to 100,000 buffers each, 1 to 1,000 rounds, at most 1,024 chunks,
-- numbers of desks in 6 bits, and at most 1,048,576 bytes in a cache that isn't due
pub record CanRun (w : declared_work.Work) : Type 0 where
  pub two_threads : 2 ≤ w.threads
  pub threads : w.threads ≤ 64
  pub one_buffer : 1 ≤ w.count
  pub buffers : w.count ≤ 100000
  pub one_round : 1 ≤ w.rounds
  pub rounds : w.rounds ≤ 1000
  pub chunks : w.chunks ≤ 1024
  pub bits : w.digits.bits ≡ 6
  pub limit : w.limit ≤ 1048576

-- the workload of this name, and what its options say
pub record IsWork (rows : List Row) (w : declared_work.Work) : Type 0 where
  pub name : first_of (codes "NAME") rows ≡ Some (workload_name w.workload)
  pub threads : Reads rows (codes "threads") w.threads
  pub count : Reads rows (codes "count") w.count
  pub rounds : Reads rows (codes "rounds") w.rounds
  pub chunks : Reads rows (codes "chunks") w.chunks
  pub width : Reads rows (codes "width") w.digits.width
  pub limit : Reads rows (codes "limit") w.limit
  pub seed : Reads rows (codes "seed") w.seed
  pub drop : HasFlag rows (codes "drop") w.drop_first
  pub runs : CanRun w

abbrev pub classes_name : Profile → Text
classes_name Pool = codes "classes"
classes_name Pool2 = codes "classes2"

abbrev pub route_name : Profile → Text
route_name Pool = codes "route"
route_name Pool2 = codes "route2"

-- what a subcommand asks for, by its name and its values
abbrev pub AskedBy : Option (Text × List Row) → Asked → Type 0
AskedBy None asked = ⊥
AskedBy (Some (name, rows)) (Classes p) = name ≡ classes_name p
AskedBy (Some (name, rows)) (Route r) = (p : Profile) × (name ≡ route_name p) × IsRoute rows p r
AskedBy (Some (name, rows)) (Work w) = (name ≡ codes "work") × IsWork rows w
AskedBy (Some (name, rows)) replay = (name ≡ codes "replay") × IsReplay rows replay

-- the words ask for it; the program's own name stands first among them
abbrev pub Asks : List Text → Asked → Type 0
Asks words asked = AskedBy (subcommand_of command_line words) asked

-- where the words ask for a workload, there is one of this name
abbrev pub NamesWorkload : Option (Text × List Row) → Type 0
NamesWorkload asked = (rows : List Row) → asked ≡ Some (codes "work", rows)
    → (w : Workload) × (first_of (codes "NAME") rows ≡ Some (workload_name w))

-- the words are good: `clap` takes them, and they name a workload wherever they ask for one
abbrev pub AreGood : List Text → Type 0
AreGood words = (takes command_line words ≡ true) × NamesWorkload (subcommand_of command_line words)
