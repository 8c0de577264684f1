-- Where a run of a text's plan has ended.
use Rattle.std.specs.Prelude.{◌≡◌, ℕ, List, Ok}
use Rattle.armus_base.specs.Deadlocks.{IsDeadBy}
use Rattle.armus_base.specs.Finals.{final_of}
use Rattle.armus_base.specs.Plans.{Plan}
use Rattle.armus_base.specs.States.{State}
use Rattle.pl_plan.specs.Unfolding.{plan_of}
use Rattle.pl_syntax.specs.declared.tree.Program.{Program}
use Rattle.explain_facts.specs.Accounts.{IsAccount}
use Rattle.explain_facts.specs.RunStates.{IsReachedState}
use Rattle.explain_facts.specs.declared.account.Account.{Account}
use Rattle.report.specs.Standings.{AreStandings}
use Rattle.explain_tasks.specs.Facts.{FactsValue}

-- this is the account of the text, whose plan this is, where the plan has been run up to this state
pub record IsAccountOf (text : List ℕ) (plan : Plan) (s : State) (done : ℕ → ℕ) (account : Account) : Type 0 where
  pub program : Program
  pub unfolds : plan_of program ≡ Ok plan
  pub known : IsAccount text program plan s done account

-- this is known of a run of a text's plan that has come to this state: its account, and how its tasks stand in the report
pub record AreFactsAt (plan : Plan) (s : State) (done : ℕ → ℕ) (f : FactsValue) : Type 0 where
  pub account : IsAccountOf f.text plan s done f.account
  pub reached : IsReachedState plan s done
  pub stand : AreStandings (IsDeadBy (final_of plan s).blocked) (final_of plan s).ends f.standings
