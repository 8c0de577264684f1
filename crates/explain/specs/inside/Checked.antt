-- What is known of a text that is not refused.
use Rattle.std.specs.Prelude.{◌≡◌, ◌+◌, ◌<◌, ◌^◌, Ok}
use Rattle.clock_semantics.specs.Unfolding.{clock_plan_of}
use Rattle.clock_syntax.specs.Grammar.{IsClockText}
use Rattle.clock_syntax.specs.Trees.{clock_count}
use Rattle.pl_plan.specs.Forks.{fork_statements}
use Rattle.pl_plan.specs.Unfolding.{plan_of}
use Rattle.pl_syntax.specs.Grammar.{IsText}
use Rattle.pl_syntax.specs.Tree.{count}
use Rattle.explain_facts.specs.calls.Known.{AreKnownFacts}
use Rattle.explain_facts.specs.declared.facts.TextFacts.{TextFacts}
use Rattle.explain.specs.declared.checked_clocks.CheckedClocks.{CheckedClocks}
use Rattle.explain.specs.declared.checked_text.CheckedText.{CheckedText}

-- these are the places, program, plan and forks of one text of PL
pub record IsCheckedText (t : CheckedText) : Type 0 where
  pub few : count t.program.now.body + 1 < 2 ^ 32
  pub reads : IsText t.places.now t.program.now
  pub plan : plan_of t.program.now ≡ Ok t.unfolded.plan
  pub forks : t.unfolded.forks.items ≡ fork_statements t.program.now

-- this is known of its text
pub record AreFactsOf (t : CheckedText) (f : TextFacts) : Type 0 where
  pub known : AreKnownFacts f
  pub text : f.places.now ≡ t.places.now
  pub program : f.program.now ≡ t.program.now

-- these are the places, program and plan of one clock text
pub record IsCheckedClocks (t : CheckedClocks) : Type 0 where
  pub few : clock_count t.program.now.body + 1 < 2 ^ 32
  pub reads : IsClockText t.places.now t.program.now.body
  pub plan : clock_plan_of t.program.now.body ≡ Ok t.plan
