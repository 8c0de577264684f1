-- The explanation of a run that avoids deadlock.
use Rattle.std.specs.Prelude.{◌≡◌, ℕ, Bool, List, Option}
use Rattle.armus_base.specs.Deadlocks.{IsDeadBy}
use Rattle.armus_base.specs.Finals.{final_of}
use Rattle.armus_base.specs.Plans.{Plan}
use Rattle.armus_base.specs.Runs.{state_after}
use Rattle.armus_base.specs.Serial.{IsSerialAvoidedEnd}
use Rattle.armus_base.specs.States.{Step}
use Rattle.pl_syntax.specs.Grammar.{IsText}
use Rattle.pl_syntax.specs.declared.tree.Program.{Program}
use Rattle.explain_facts.specs.Accounts.{IsLayout, Layout}
use Rattle.explain_facts.specs.RunStates.{done_after}
use Rattle.explain_facts.specs.declared.account.Account.{Account}
use Rattle.explain_deadlock.specs.RunEnds.{IsAccountOf}
use Rattle.report.specs.Standings.{AreStandings}
use Rattle.report.specs.declared.standing.Standing.{Standing}
use Rattle.explain_tasks.specs.Facts.{facts_of}
use Rattle.explain_avoid.specs.AvoidedWords.{avoided_words, somebody_stays}
use Rattle.explain_avoid.specs.Refusals.{AreRefusals}

-- the paragraphs of the refusals in this run of a text's plan
pub record AreRefusalsOf (file : Option (List ℕ)) (text : List ℕ) (p : Program) (plan : Plan) (steps : List Step) (refusals : List ℕ) : Type 0 where
  pub reads : IsText text p
  pub layout : Layout
  pub of_text : layout.text ≡ text
  pub is_layout : IsLayout p layout
  pub each : AreRefusals file layout p plan steps refusals

-- The lines explain this serial avoided run of the plan of a text, of the file with this name or of none, which has ended: its refusals, and how its tasks stand
-- at its end; and they tell whether somebody was refused or waits for ever.
pub record IsAvoidedExplanation (file : Option (List ℕ)) (text : List ℕ) (plan : Plan) (steps : List Step) (lines : List ℕ) (stays : Bool) : Type 0 where
  pub ended : IsSerialAvoidedEnd plan steps
  pub program : Program
  pub refusals : List ℕ
  pub are_refusals : AreRefusalsOf file text program plan steps refusals
  pub account : Account
  pub is_account : IsAccountOf text plan (state_after steps) (done_after steps) account
  pub standings : List Standing
  pub stand : AreStandings (IsDeadBy (final_of plan (state_after steps)).blocked) (final_of plan (state_after steps)).ends standings
  pub lines_are : lines ≡ avoided_words (facts_of text file account standings) (state_after steps).phases refusals
  pub tells : stays ≡ somebody_stays standings
