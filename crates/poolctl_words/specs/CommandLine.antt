-- The command line that `clap` is told to read.
use Rattle.std.specs.Prelude.{ℕ, [], ◌∷◌, Some, true, codes, pos}
use Rattle.std.specs.Int.{int_max, int_min}
use Rattle.clap.specs.Simple.{on_top}
use Rattle.clap.specs.Values.{signed_between}
use Rattle.clap.specs.Words.{App, Rule, Text, new_app, new_rule, with_rule, with_subcommand}
use Rattle.clap.specs.declared.builder.action.ArgAction.TheVariants.{Set, SetTrue}

-- a number that has to be given, from low to high: a u32, narrowed
abbrev pub number_rule : Text → ℕ → ℕ → Rule
number_rule name low high = record (new_rule name) {
  required = true;
  action = Some Set;
  parser = Some (signed_between (int_max (pos 0) (pos low)) (int_min (pos 4294967295) (pos high)));
}

-- three numbers, of which the last two are desks' numbers
abbrev pub route_app : Text → ℕ → App
route_app name greatest =
    with_rule (with_rule (with_rule (new_app name) (number_rule (codes "WIDTH") 1 6))
    (number_rule (codes "FROM") 0 greatest)) (number_rule (codes "OWNER") 0 greatest)

-- an option with a number from low to high, and what it reads as where it isn't given
abbrev pub option_rule : Text → ℕ → ℕ → Text → Rule
option_rule name low high default = record (new_rule name) {
  long = Some name;
  action = Some Set;
  defaults = default ∷ [];
  parser = Some (signed_between (int_max (pos 0) (pos low)) (int_min (pos 4294967295) (pos high)));
}

-- a text that has to be given
abbrev pub text_rule : Text → Rule
text_rule name = record (new_rule name) { required = true; action = Some Set }

-- a flag
abbrev pub flag_rule : Text → Rule
flag_rule name = record (new_rule name) { long = Some name; action = Some SetTrue }

abbrev pub replay_app : App
replay_app = with_rule (new_app (codes "replay")) (flag_rule (codes "audit"))

-- a workload, its options with their ranges and what they are by themselves, and the flag `--drop`
abbrev pub work_app : App
work_app =
    with_rule (with_rule (with_rule (with_rule (with_rule (with_rule (with_rule (with_rule (with_rule
    (new_app (codes "work"))
    (text_rule (codes "NAME")))
    (option_rule (codes "threads") 2 64 (codes "4")))
    (option_rule (codes "count") 1 100000 (codes "1000")))
    (option_rule (codes "rounds") 1 1000 (codes "1")))
    (option_rule (codes "chunks") 0 1024 (codes "1024")))
    (option_rule (codes "width") 1 6 (codes "2")))
    (option_rule (codes "limit") 0 1048576 (codes "4096")))
    (option_rule (codes "seed") 0 4294967295 (codes "1")))
    (flag_rule (codes "drop"))

-- a command that wants a subcommand
abbrev pub wants_subcommand : App → App
wants_subcommand = on_top (λ s. record s { subcommand_required = true })

-- the program, and its subcommands
abbrev pub command_line : App
command_line =
    with_subcommand (with_subcommand (with_subcommand (with_subcommand (with_subcommand (with_subcommand
    (wants_subcommand (new_app (codes "poolctl")))
    (new_app (codes "classes")).top)
    (new_app (codes "classes2")).top)
    (route_app (codes "route") 63).top)
    (route_app (codes "route2") 4095).top)
    replay_app.top)
    work_app.top
