-- What is proved of accounts.
use Rattle.std.specs.Prelude.{◌≡◌, ℕ, suc, ◌<◌, Some, Ok, List, MatchOption, length, slice_index_or}
use Rattle.std.specs.List.{slice_get}
use Rattle.armus_base.specs.declared.ending.TaskEnd.TheVariants.{Blocked}
use Rattle.armus_base.specs.declared.event.Event.{Event}
use Rattle.armus_base.specs.declared.offset.Offset.{Offset}
use Rattle.armus_base.specs.CheckedPlans.{HasFork}
use Rattle.armus_base.specs.Finals.{end_of}
use Rattle.armus_base.specs.Plans.{Plan, parent_of}
use Rattle.armus_base.specs.States.{State}
use Rattle.pl_plan.specs.Unfolding.{a_plain, plan_of}
use Rattle.pl_syntax.specs.Grammar.{IsText}
use Rattle.pl_syntax.specs.Tree.{await, count, new_task}
use Rattle.pl_syntax.specs.declared.tree.Program.{Program}
use Rattle.source_map.specs.Origins.{written_statements}
use Rattle.explain_facts.specs.Accounts.{IsAccount, IsLayout, Layout, statement_place}
use Rattle.explain_facts.specs.AwaitWords.{await_text}
use Rattle.explain_facts.specs.RunStates.{IsReachedState}
use Rattle.explain_facts.specs.declared.account.Account.{Account}
use Rattle.explain_facts.specs.declared.account.Drawn.{Drawn}
use Rattle.explain_facts.specs.declared.account.TaskAccount.{TaskAccount}
use Rattle.explain_facts.specs.declared.account.Waiting.{Waiting}

-- there is one account at most of a state of a text's plan
abbrev pub OneAccount : Type 0
OneAccount =
    (text : List ℕ) (p : Program) (plan : Plan) (s : State) (done : ℕ → ℕ) (account other : Account) → IsAccount text p plan s done account → IsAccount text p plan s done other →
    account ≡ other

-- and there is one, of each state to which a run of its plan leads
abbrev pub AccountExists : Type 0
AccountExists =
    (text : List ℕ) (p : Program) (plan : Plan) (s : State) (done : ℕ → ℕ) → IsText text p → plan_of p ≡ Ok plan → IsReachedState plan s done →
    (account : Account) × IsAccount text p plan s done account

-- a layout has an offset for each statement, and one answer for each where its body ends
abbrev pub StatementsHavePlaces : Type 0
StatementsHavePlaces = (p : Program) (l : Layout) → IsLayout p l → (length l.offsets ≡ count p.body) × (length l.ends ≡ count p.body)

-- a task of a text's plan that waits in a state to which a run leads has a wait, and its words are those of an await of the text, at the place of this await
abbrev pub WaitersHaveAwaits : Type 0
WaitersHaveAwaits =
    (text : List ℕ) (p : Program) (plan : Plan) (s : State) (done : ℕ → ℕ) (account : Account) → plan_of p ≡ Ok plan → IsReachedState plan s done → (known : IsAccount text p plan s done account) →
    (t : ℕ) (d : TaskAccount) → t < length plan.parents → (e : Event) → end_of s t ≡ Blocked e →
    (w : Waiting) × (n : ℕ) × (x : List ℕ) × (off : Offset) × ((slice_index_or account.tasks t d).wait ≡ Some w)
    × (slice_get (written_statements p.body) n ≡ Some (a_plain (await x off))) × (w.words ≡ await_text x off) × (w.at ≡ statement_place known.layout (suc n))

-- each task but task 0 is drawn, and its name is that of a `newTid` of the text, at the place of this
abbrev pub DrawnHaveNames : Type 0
DrawnHaveNames =
    (text : List ℕ) (p : Program) (plan : Plan) (s : State) (done : ℕ → ℕ) (account : Account) → plan_of p ≡ Ok plan → (known : IsAccount text p plan s done account) →
    (t : ℕ) (d : TaskAccount) → suc t < length plan.parents →
    (drawn : Drawn) × (n : ℕ) × (x : List ℕ) × ((slice_index_or account.tasks (suc t) d).drawn ≡ Some drawn)
    × (slice_get (written_statements p.body) n ≡ Some (a_plain (new_task x))) × (drawn.name ≡ x) × (drawn.at ≡ statement_place known.layout (suc n))

-- a task from 1 on is told to be forked just where the code of its parent forks it, and by this parent
abbrev pub ForkersFork : Type 0
ForkersFork =
    (text : List ℕ) (p : Program) (plan : Plan) (s : State) (done : ℕ → ℕ) (account : Account) → plan_of p ≡ Ok plan → IsAccount text p plan s done account →
    (t : ℕ) (d : TaskAccount) → 0 < t → t < length plan.parents →
    MatchOption (slice_index_or account.tasks t d).fork (HasFork plan t → ⊥) (λ f. HasFork plan t × (f.by.0 ≡ parent_of plan t))
