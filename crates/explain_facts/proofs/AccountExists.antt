-- The state to which a run of a text's plan leads has an account.
use Rattle.std.proofs.Common.{◌≡◌, ℕ, suc, ◌<◌, Option, Some, None, Ok, List, drop, length, map, refl, sym, subst}
use Rattle.std.specs.Prelude.{slice_index_or}
use Rattle.armus_base.specs.declared.ending.TaskEnd.{TaskEnd}
use Rattle.armus_base.specs.declared.ending.TaskEnd.TheVariants.{Blocked, Done, Refused, Unforked}
use Rattle.armus_base.specs.CheckedPlans.{IsCheckedPlan}
use Rattle.armus_base.specs.Finals.{end_of, given_below, list_below}
use Rattle.armus_base.specs.Places.{done_by, state_at}
use Rattle.armus_base.specs.Plans.{Plan, code_of}
use Rattle.armus_base.specs.Runs.{IsReachable, Place, places}
use Rattle.armus_base.proofs.Below.{length-list_below}
use Rattle.pl_plan.specs.Unfolding.{plan_of}
use Rattle.pl_syntax.specs.Grammar.{IsText}
use Rattle.pl_syntax.specs.declared.tree.Program.{Program}
use Rattle.source_map.specs.Origins.{phaser_origins, statement_in, written_statements}
use Rattle.source_map.specs.Turns.{op_turns}
use Rattle.explain_facts.specs.Accounts.{IsAccount, IsTaskAccount, HasWait, Layout, drawn_of, ended_of, first_on, forked_of, immediate_awaits, next_op, placed_turns, statement_place, words_of}
use Rattle.explain_facts.specs.Names.{program_names}
use Rattle.explain_facts.specs.calls.Laws.{AccountExists}
use Rattle.explain_facts.specs.declared.account.Account.{Account}
use Rattle.explain_facts.specs.declared.account.NextOp.{NextOp}
use Rattle.explain_facts.specs.declared.account.TaskAccount.{TaskAccount}
use Rattle.explain_facts.specs.declared.account.Waiting.{Waiting}
use Rattle.pl_core.specs.Tasks.{IsAtOp}
use Rattle.explain_facts.proofs.AtPlaces.{from_places, places_reached, reached_there}
use Rattle.explain_facts.proofs.AtSomeOp.{at_some_op}
use Rattle.explain_facts.proofs.Awaiting.{waiter_is_member, waits_at_await}
use Rattle.explain_facts.proofs.LayoutExists.{layout_exists}
use Rattle.pl_plan.proofs.TextsAreNear.{text_is_checked}
use Rattle.explain_facts.proofs.Told.{list_at}

module _ (l : Layout) (p : Program) (plan : Plan) (a : ℕ → Place) (unfolds : plan_of p ≡ Ok plan) (checked : IsCheckedPlan plan) (reach : IsReachable plan a) where
  wait_by : (t : ℕ) (end : TaskEnd) → end_of (state_at plan a) t ≡ end → (w : Option Waiting) × HasWait l p plan (state_at plan a) (done_by a) t end w
  wait_by t (Blocked e) ended =
      let (op, at) = at_some_op (code_of plan t) (a t).done in
      let (n, x, off, origin, statement) = waits_at_await p plan a t op e unfolds ended at in
      let (phase, member) = waiter_is_member plan (state_at plan a) (done_by a) (reached_there plan a checked reach) t e ended in
      let words = words_of (statement_in (written_statements p.body) (suc n)) in
      let turns = placed_turns l (op_turns p t op) in
      let w : Waiting = record { at = statement_place l (suc n); words = words; event = e; phase = phase; turns = turns } in
      (Some w, record { op = op; stands = at; n = suc n; origin = origin; at = refl; words = refl; event = refl; phase = member; turns = refl })
  wait_by t Done ended = (None, refl)
  wait_by t (Refused e) ended = (None, refl)
  wait_by t Unforked ended = (None, refl)

  op_by : (t : ℕ) → (op : ℕ) × IsAtOp (code_of plan t) (a t).done op
  op_by t = at_some_op (code_of plan t) (a t).done

  nexts_by : ℕ → List NextOp
  nexts_by t = given_below (λ q. next_op l p t q (first_on q (op_by t).0 (drop (op_by t).0 (code_of plan t)))) (length plan.makers)

  task_by : ℕ → TaskAccount
  task_by t = record {
    drawn = drawn_of l p t;
    fork = forked_of l p plan t;
    ended = ended_of l p t;
    wait = (wait_by t (end_of (state_at plan a) t) refl).0;
    nexts = nexts_by t;
  }

  task_is : (t : ℕ) → IsTaskAccount l p plan (state_at plan a) (done_by a) t (task_by t)
  unfolding task_by nexts_by
  task_is t = record {
    drawn = refl;
    fork = refl;
    ended = refl;
    wait = (wait_by t (end_of (state_at plan a) t) refl).1;
    nexts = record { op = (op_by t).0; stands = (op_by t).1; are = refl };
  }

account_there : (text : List ℕ) (p : Program) (plan : Plan) (a : ℕ → Place) → IsText text p → plan_of p ≡ Ok plan → IsReachable plan a →
    (account : Account) × IsAccount text p plan (state_at plan a) (done_by a) account
account_there text p plan a is unfolds reach =
    let checked = text_is_checked text p plan is unfolds in
    let (l, of_text, is_layout) = layout_exists text p is in
    let task = task_by l p plan a unfolds checked reach in
    let n = length plan.parents in
    let each : (t : ℕ) (d : TaskAccount) → t < n → IsTaskAccount l p plan (state_at plan a) (done_by a) t (slice_index_or (list_below task n) t d) =
    λ t d lt. subst (IsTaskAccount l p plan (state_at plan a) (done_by a) t) (sym (list_at task n t (list_below task n) d refl lt)) (task_is l p plan a unfolds checked reach t) in (
      record { tasks = list_below task n; phasers = map (statement_place l) (phaser_origins p); names = program_names p; immediate = immediate_awaits l p plan },
      record { reads = is; layout = l; of_text = of_text; is_layout = is_layout; all_told = length-list_below task n; each = each; phasers = refl; names = refl; immediate = refl },
    )

pub account_exists : AccountExists
account_exists text p plan s done is unfolds there =
    let checked = text_is_checked text p plan is unfolds in
    from_places plan s done checked there (λ x d. (account : Account) × IsAccount text p plan x d account)
    (account_there text p plan (places there.steps) is unfolds (places_reached plan s done checked there))
