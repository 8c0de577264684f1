-- The command that is handed to clap for a first word, and what its matches give.
use Rattle.std.specs.Prelude.{Bool, true, false, if◌then◌else◌, List, [], ◌∷◌, ◌++◌, map, fold, Some, None, option_map}
use Rattle.clap.specs.Words.{App, Rule, new_app, new_rule, with_rule}
use Rattle.clap.specs.declared.builder.ArgAction.TheVariants.{SetTrue}
use Rattle.command_line.specs.Words.{first_word, name_of, options_of, wants_value, has_value_alone}
use Rattle.command_line.specs.Commands.{Given}
use Rattle.command_line.specs.declared.table.FirstWord.{FirstWord}
use Rattle.command_line.specs.declared.table.OptionWord.{OptionWord}
use Rattle.command_line.specs.declared.table.TheConstants.{ALONE}
use Rattle.command_line.specs.declared.values.Values.{Values}

-- the rule of an option
abbrev pub rule_for : OptionWord → Rule
rule_for o = record (new_rule (name_of o)) { long = Some (name_of o); action = if wants_value o then None else Some SetTrue }

-- the rule of a value that stands by itself
abbrev pub alone_rules : Bool → List Rule
alone_rules true = new_rule ALONE.now ∷ []
alone_rules false = []

-- the simple command of a first word
abbrev pub app_for : FirstWord → App
app_for first = fold with_rule (new_app (first_word first)) (map rule_for (options_of first) ++ alone_rules (has_value_alone first))

-- the texts of the values
abbrev pub given_of : Values → Given
given_of v = record {
  print = v.print;
  workers = option_map (λ s. s.now) v.workers;
  graph = option_map (λ s. s.now) v.graph;
  live = v.live;
  kept = v.kept;
  sites = option_map (λ s. s.now) v.sites;
  alone = option_map (λ s. s.now) v.alone;
}
