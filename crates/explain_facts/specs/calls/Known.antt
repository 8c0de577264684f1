-- What is kept of a text alone.
use Rattle.std.specs.Prelude.{◌≡◌, ◌+◌, ◌<◌, ◌^◌}
use Rattle.pl_syntax.specs.Grammar.{IsText}
use Rattle.pl_syntax.specs.Tree.{count}
use Rattle.source_map.specs.calls.OriginTables.{AreOrigins}
use Rattle.explain_facts.specs.Accounts.{IsLayout, Layout}
use Rattle.explain_facts.specs.Names.{program_names}
use Rattle.explain_facts.specs.declared.facts.TextFacts.{TextFacts}

-- the layout that is kept
abbrev pub kept_layout : TextFacts → Layout
kept_layout f = record { text = f.places.now; offsets = f.offsets; ends = f.ends }

-- what is kept is known of the program
pub record AreKnownFacts (f : TextFacts) : Type 0 where
  pub reads : IsText f.places.now f.program.now
  pub layout : IsLayout f.program.now (kept_layout f)
  pub origins : AreOrigins f.program.now f.origins
  pub few : count f.program.now.body + 1 < 2 ^ 32
  pub names : f.names ≡ program_names f.program.now
