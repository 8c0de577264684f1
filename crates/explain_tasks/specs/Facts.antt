-- What an explanation is made of, and how tasks stand by it.
use Rattle.std.specs.Prelude.{ℕ, ◌==◌, Bool, true, false, List, Option, Some, None, slice_get, slice_index_or, option_and_then, length, filter}
use Rattle.std.specs.List.{find}
use Rattle.armus_base.specs.declared.ids.TaskId.{TaskId}
use Rattle.armus_base.specs.Finals.{list_below}
use Rattle.report.specs.declared.standing.Standing.{Standing}
use Rattle.report.specs.declared.standing.Standing.TheVariants.{Done, Dead, Held as WaitsAlive, Refused, Unforked}
use Rattle.explain_facts.specs.declared.account.Account.{Account}
use Rattle.explain_facts.specs.declared.account.Drawn.{Drawn}
use Rattle.explain_facts.specs.declared.account.CodeEnd.{CodeEnd}
use Rattle.explain_facts.specs.declared.account.Forked.{Forked}
use Rattle.explain_facts.specs.declared.account.NextOp.{NextOp}
use Rattle.explain_facts.specs.declared.account.TaskAccount.{TaskAccount}
use Rattle.explain_facts.specs.declared.account.Waiting.{Waiting}
use Rattle.explain_tasks.specs.declared.situation.Situation.{Situation}
use Rattle.explain_tasks.specs.declared.situation.Situation.TheVariants.{Deadlocked, Held, HasEnded, NotForkedYet, NeverForked}

-- what is known where a run has ended: the text, the name of its file, its account, and how each task stands in the report
pub record FactsValue : Type 0 where
  pub text : List ℕ
  pub file : Option (List ℕ)
  pub account : Account
  pub standings : List Standing

-- what is known of a text with this account, of a file with this name, where its tasks stand so
abbrev pub facts_of : List ℕ → Option (List ℕ) → Account → List Standing → FactsValue
facts_of text file account standings = record { text = text; file = file; account = account; standings = standings }

-- where task t was drawn, if it was
abbrev pub drawing_of : FactsValue → ℕ → Option Drawn
drawing_of f t = option_and_then (λ (a : TaskAccount). a.drawn) (slice_get f.account.tasks t)

-- the op that forks task t, if there is one
abbrev pub forking_of : FactsValue → ℕ → Option Forked
forking_of f t = option_and_then (λ (a : TaskAccount). a.fork) (slice_get f.account.tasks t)

-- where the code of task t ends, if it can be forked
abbrev pub ending_of : FactsValue → ℕ → Option CodeEnd
ending_of f t = option_and_then (λ (a : TaskAccount). a.ended) (slice_get f.account.tasks t)

-- where task t waits, if it waits
abbrev pub wait_of : FactsValue → ℕ → Option Waiting
wait_of f t = option_and_then (λ (a : TaskAccount). a.wait) (slice_get f.account.tasks t)

-- what task t does next to phaser q, if anything
abbrev pub next_op_of : FactsValue → ℕ → ℕ → Option NextOp
next_op_of f t q = option_and_then (λ (a : TaskAccount). find (λ (x : NextOp). x.p.0 == q) a.nexts) (slice_get f.account.tasks t)

-- how a task stands that the report says to stand so, and that this op forks; nobody is refused where nobody avoids
abbrev pub situation_by : Standing → Option Forked → Situation
situation_by Done fork = HasEnded
situation_by (Dead e) fork = Deadlocked
situation_by (WaitsAlive e) fork = Held
situation_by (Refused e) fork = HasEnded
situation_by Unforked (Some x) = NotForkedYet
situation_by Unforked None = NeverForked

-- how task t stands
abbrev pub situation_of : FactsValue → ℕ → Situation
situation_of f t = situation_by (slice_index_or f.standings t Done) (forking_of f t)

-- it waits: it is deadlocked or held
abbrev pub is_waiting : Situation → Bool
is_waiting Deadlocked = true
is_waiting Held = true
is_waiting _ = false

-- it was not forked: it is not forked yet or never forked
abbrev pub stands_unforked : Situation → Bool
stands_unforked NotForkedYet = true
stands_unforked NeverForked = true
stands_unforked _ = false

-- it is deadlocked
abbrev pub is_deadlocked : Situation → Bool
is_deadlocked Deadlocked = true
is_deadlocked _ = false

-- it is held
abbrev pub stands_held : Situation → Bool
stands_held Held = true
stands_held _ = false

-- the tasks that stand so, in order of number
abbrev pub tasks_that : (Situation → Bool) → FactsValue → List TaskId
tasks_that test f = filter (λ (t : TaskId). test (situation_of f t.0)) (list_below (λ t. record { 0 = t }) (length f.standings))
