-- The serial avoided run of a text, with the paragraphs of its refusals, and its explanation.
use Rattle.std.specs.Prelude.{◌≡◌, ℕ, List, Option}
use Rattle.armus_base.specs.Deadlocks.{IsDeadBy}
use Rattle.armus_base.specs.Finals.{final_of}
use Rattle.armus_base.specs.Plans.{Plan}
use Rattle.armus_base.specs.Runs.{places}
use Rattle.armus_base.specs.Serial.{IsSerialAvoidedEnd}
use Rattle.armus_base.specs.States.{Step}
use Rattle.pl_core.specs.calls.Worlds.{places_of, state_of}
use Rattle.pl_syntax.specs.declared.tree.Program.{Program}
use Rattle.explain_facts.specs.declared.account.Account.{Account}
use Rattle.report.specs.Standings.{AreStandings}
use Rattle.report.specs.declared.standing.Standing.{Standing}
use Rattle.explain_tasks.specs.Facts.{facts_of}
use Rattle.explain_avoid.specs.AvoidedExplanations.{AreRefusalsOf}
use Rattle.explain_avoid.specs.AvoidedWords.{avoided_words, somebody_stays}
use Rattle.explain_avoid.specs.declared.avoiding.AvoidedRun.{AvoidedRun}
use Rattle.explain_avoid.specs.declared.explaining.AvoidedExplanation.{AvoidedExplanation}

-- the paragraphs are those of the serial avoided run of the text's plan, which leads to this world and ends there, with this value of its state
pub record IsRunWithRefusals (file : Option (List ℕ)) (text : List ℕ) (p : Program) (plan : Plan) (r : AvoidedRun) : Type 0 where
  pub steps : List Step
  pub ended : IsSerialAvoidedEnd plan steps
  pub told : AreRefusalsOf file text p plan steps r.refusals
  pub plan_is : r.world.plan ≡ plan
  pub there : places_of r.world ≡ places steps
  pub end_is : r.end ≡ final_of plan (state_of r.world)

-- this explains a run that has ended in its world, of the text with this account there
pub record IsExplainedRun (file : Option (List ℕ)) (text : List ℕ) (account : Account) (r : AvoidedRun) (x : AvoidedExplanation) : Type 0 where
  pub standings : List Standing
  pub stand : AreStandings (IsDeadBy (final_of r.world.plan (state_of r.world)).blocked) (final_of r.world.plan (state_of r.world)).ends standings
  pub lines_are : x.lines ≡ avoided_words (facts_of text file account standings) (state_of r.world).phases r.refusals
  pub tells : x.somebody_stays ≡ somebody_stays standings
