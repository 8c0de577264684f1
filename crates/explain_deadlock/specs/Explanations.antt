-- The explanation of the state in which a run has ended.
use Rattle.std.specs.Prelude.{◌≡◌, ℕ, Bool, List, Option, ◌++◌}
use Rattle.explain_facts.specs.declared.account.Account.{Account}
use Rattle.armus_base.specs.Deadlocks.{IsDeadBy}
use Rattle.armus_base.specs.declared.ending.Final.{Final}
use Rattle.armus_base.specs.Finals.{final_of}
use Rattle.armus_base.specs.Plans.{Plan}
use Rattle.armus_base.specs.States.{Phases, State}
use Rattle.report.specs.Counts.{counts_of}
use Rattle.report.specs.Lines.{counts_line}
use Rattle.report.specs.Standings.{AreStandings}
use Rattle.report.specs.declared.standing.Standing.{Standing}
use Rattle.explain_deadlock.specs.declared.outcome.WaitVerdict.{WaitVerdict}
use Rattle.explain_tasks.specs.Facts.{FactsValue, facts_of}
use Rattle.explain_deadlock.specs.Notes.{verdict_end}
use Rattle.explain_deadlock.specs.Paragraphs.{paragraphs}
use Rattle.explain_deadlock.specs.RunEnds.{IsAccountOf}
use Rattle.explain_deadlock.specs.VerdictWords.{verdict_line}
use Rattle.explain_deadlock.specs.Verdicts.{IsVerdict, shown_of, somebody_waits}

-- the lines with this verdict: how many tasks stand in each way, the verdict, the paragraphs, and the hint or the notes
abbrev pub explained_by : FactsValue → Plan → (ℕ → Phases) → List ℕ → WaitVerdict → List ℕ
explained_by f plan phases counts v = counts ++ verdict_line f v ++ paragraphs f phases (shown_of v) ++ verdict_end f plan phases v

-- these lines explain what is known of this plan in a state with these phases, behind this line of counts, and tell whether somebody waits for ever
pub record Explains (f : FactsValue) (plan : Plan) (phases : ℕ → Phases) (counts : List ℕ) (lines : List ℕ) (waits : Bool) : Type 0 where
  pub verdict : WaitVerdict
  pub found : IsVerdict f phases verdict
  pub is_it : lines ≡ explained_by f plan phases counts verdict
  pub tells : waits ≡ somebody_waits verdict

-- The lines explain how a run of the plan has ended, in a state with these phases, and tell whether somebody waits for ever: the standings and the line that counts them
-- are those of the report.
pub record IsExplanation (text : List ℕ) (file : Option (List ℕ)) (account : Account) (plan : Plan) (end : Final) (phases : ℕ → Phases) (lines : List ℕ) (waits : Bool) : Type 0 where
  pub standings : List Standing
  pub stand : AreStandings (IsDeadBy end.blocked) end.ends standings
  pub explains : Explains (facts_of text file account standings) plan phases (counts_line (counts_of standings)) lines waits

-- the lines explain how the tasks of the text's plan stand in this state, to which a run has come, and tell whether somebody waits for ever
pub record IsExplanationAt (file : Option (List ℕ)) (text : List ℕ) (plan : Plan) (s : State) (done : ℕ → ℕ) (lines : List ℕ) (waits : Bool) : Type 0 where
  pub account : Account
  pub is_account : IsAccountOf text plan s done account
  pub explains : IsExplanation text file account plan (final_of plan s) s.phases lines waits
