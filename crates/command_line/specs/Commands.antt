-- The command that words mean.
use Rattle.std.specs.Prelude.{◌≡◌, ◌≤◌, ℕ, Bool, true, false, List, Option, Some, None, codes}
use Rattle.std.specs.Str.Parse.{IsNumeral, digits_value}
use Rattle.armus_base.specs.declared.run_limits.TheConstants.{MAX_SITES, MAX_WORKERS}
use Rattle.program_io.specs.Texts.{Text}
use Rattle.command_line.specs.Words.{Use, AreWords, is_used, value_of}
use Rattle.command_line.specs.declared.table.FirstWord.{FirstWord}
use Rattle.command_line.specs.declared.table.FirstWord.TheVariants as first
use Rattle.command_line.specs.declared.table.OptionWord.TheVariants as option
use Rattle.command_line.specs.declared.command.Graph.{Graph}
use Rattle.command_line.specs.declared.command.Graph.TheVariants.{Auto, Wfg, Sg, Grg}
use Rattle.command_line.specs.declared.command.Command.{Command}
use Rattle.command_line.specs.declared.command.Command.TheVariants.{Check, Run, Avoid, Record, Replay, Gen, Clock, Pool}
use Rattle.command_line.specs.declared.command.RunKind.{RunKind}
use Rattle.command_line.specs.declared.command.RunKind.TheVariants.{Plain, Live, Sites}
use Rattle.command_line.specs.declared.table.TheConstants.{DEFAULT_WORKERS, MAX_GENERATED}

-- the first word of a command
abbrev pub first_of : Command → FirstWord
first_of (Check print) = first.Check
first_of (Run workers graph kind) = first.Run
first_of (Avoid workers graph kept) = first.Avoid
first_of (Record workers) = first.Record
first_of Replay = first.Replay
first_of (Gen count) = first.Gen
first_of (Clock workers graph live) = first.Clock
first_of (Pool workers graph) = first.Pool

-- the text writes this number in decimal digits, which is at least 1 and at most the given one
pub record IsNumber (text : Text) (most number : ℕ) : Type 0 where
  pub digits : IsNumeral 10 text
  pub value : digits_value 10 text ≡ number
  pub from_one : 1 ≤ number
  pub to_most : number ≤ most

-- the word for a graph
abbrev pub graph_word : Graph → Text
graph_word Auto = codes "auto"
graph_word Wfg = codes "wfg"
graph_word Sg = codes "sg"
graph_word Grg = codes "grg"

-- what the words give: the flags, and the values as they are written
pub record Given : Type 0 where
  pub print : Bool
  pub workers : Option Text
  pub graph : Option Text
  pub live : Bool
  pub kept : Bool
  pub sites : Option Text
  pub alone : Option Text

-- what uses and a value that stands by itself give
abbrev pub given_by : List Use → Option Text → Given
given_by uses alone = record {
  print = is_used option.Print uses;
  workers = value_of option.Workers uses;
  graph = value_of option.Graph uses;
  live = is_used option.Live uses;
  kept = is_used option.Kept uses;
  sites = value_of option.Sites uses;
  alone = alone;
}

-- the number of workers: the one that is written, or the default
abbrev pub AreWorkers : Option Text → ℕ → Type 0
AreWorkers (Some text) workers = IsNumber text MAX_WORKERS workers
AreWorkers None workers = workers ≡ DEFAULT_WORKERS

-- the wanted graph: the one that is written, or the choice of the program
abbrev pub IsWantedGraph : Option Text → Graph → Type 0
IsWantedGraph (Some text) graph = text ≡ graph_word graph
IsWantedGraph None graph = graph ≡ Auto

-- the number of workers in a generated text
abbrev pub IsGenerated : Option Text → ℕ → Type 0
IsGenerated (Some text) count = IsNumber text MAX_GENERATED count
IsGenerated None count = ⊥

-- what goes beside the tasks of a run: nothing, live lines where they are asked for, or passes over as many sites as are written, and never both
abbrev pub IsRunKind : Bool → Option Text → RunKind → Type 0
IsRunKind false None kind = kind ≡ Plain
IsRunKind true None kind = kind ≡ Live
IsRunKind false (Some text) kind = (sites : ℕ) × (kind ≡ Sites sites) × IsNumber text MAX_SITES sites
IsRunKind true (Some text) kind = ⊥

-- what is given is what the command says
abbrev pub Reads : Command → Given → Type 0
Reads (Check print) given = print ≡ given.print
Reads (Run workers graph kind) given = AreWorkers given.workers workers × IsWantedGraph given.graph graph × IsRunKind given.live given.sites kind
Reads (Avoid workers graph kept) given = AreWorkers given.workers workers × IsWantedGraph given.graph graph × (kept ≡ given.kept)
Reads (Record workers) given = AreWorkers given.workers workers
Reads Replay given = Unit {0}
Reads (Gen count) given = IsGenerated given.alone count
Reads (Clock workers graph live) given = AreWorkers given.workers workers × IsWantedGraph given.graph graph × (live ≡ given.live)
Reads (Pool workers graph) given = AreWorkers given.workers workers × IsWantedGraph given.graph graph

-- the words are this command
pub record IsCommand (words : List Text) (c : Command) : Type 0 where
  pub uses : List Use
  pub alone : Option Text
  pub form : AreWords words (first_of c) uses alone
  pub values : Reads c (given_by uses alone)

-- what the words mean: this command, or none
abbrev pub Means : List Text → Option Command → Type 0
Means words (Some c) = IsCommand words c
Means words None = (c : Command) → IsCommand words c → ⊥
