-- What is kept after each kind of step.
use Rattle.std.proofs.Common.{◌≡◌, ℕ, ◌<◌, ◌≤◌, ◌+◌, ◌*◌, true, false, List, [], ◌∷◌, Option, Some, None, length, set, add-one, arith, sym, ◌∙◌, ap, refl}
use Rattle.std.specs.Prelude.{slice_get}
use Rattle.std.proofs.lemmas.Option.{slice_get_within}
use Rattle.armus_base.specs.declared.event.Event.{Event}
use Rattle.armus_base.specs.declared.offset.Offset.{Offset}
use Rattle.armus_base.specs.declared.op.Op.{Op}
use Rattle.armus_base.specs.declared.op.Op.TheVariants.{Make, Reg, Fork, Adv, Drop, Await}
use Rattle.armus_base.specs.Plans.{Plan, Action, Aim, Blocks, Passes, actions, actions_of, code_of}
use Rattle.armus_base.specs.States.{IsActive, IsLegal, IsReached, Phases, after, awaited}
use Rattle.armus_base.specs.Limits.{max_ops}
use Rattle.armus_base.specs.Places.{refused_at}
use Rattle.armus_base.specs.CheckedPlans.{IsCheckedPlan}
use Rattle.armus_base.proofs.Fixed.{action_within}
use Rattle.armus_base.proofs.Published.{published_after_is, published_passes}
use Rattle.armus_base.proofs.PhasesFit.{actions_fit}
use Rattle.armus_base.proofs.NextIsLegal.{next_legal}
use Rattle.armus_base.proofs.Steps.{updated_same}
use Rattle.pl_core.specs.declared.task.TaskRecord.{TaskRecord}
use Rattle.pl_core.specs.declared.phase_table.MemberTable.{MemberTable}
use Rattle.pl_core.specs.inside.Changes.{after_block, after_op}
use Rattle.pl_core.specs.calls.Moves.{IsWorldStep}
use Rattle.pl_core.specs.inside.KeptTasks.{IsKeptOf, event_in}
use Rattle.pl_core.specs.Tasks.{actions_before}
use Rattle.pl_core.specs.inside.Kept.{KeepsState}
use Rattle.pl_core.specs.calls.Tables.{world_from}
use Rattle.pl_core.specs.calls.Stands.{IsAtAwaitOf}
use Rattle.pl_core.specs.calls.Worlds.{WorldValue, action_by_code, places_of, state_of}
use Rattle.pl_core.proofs.OpCounts.{actions_before-suc, await_is_two}
use Rattle.pl_core.proofs.Standing.{await_of_waiting, begun_none, begun_some, consistent, done_is, idle, of_task, undropped_waiting}
use Rattle.pl_core.proofs.OneStep.{flag, stepped_set}

-- no code has more ops than actions
ops_at_most : (ops : List Op) → length ops ≤ length (actions_of ops)
ops_at_most [] = omega arith
ops_at_most (Make p ∷ ops) = (let r = ops_at_most ops in omega arith)
ops_at_most (Reg c p ∷ ops) = (let r = ops_at_most ops in omega arith)
ops_at_most (Fork c ∷ ops) = (let r = ops_at_most ops in omega arith)
ops_at_most (Adv p ∷ ops) = (let r = ops_at_most ops in omega arith)
ops_at_most (Drop p ∷ ops) = (let r = ops_at_most ops in omega arith)
ops_at_most (Await p off ∷ ops) = (let r = ops_at_most ops in omega arith)

pub few_actions : (plan : Plan) (t : ℕ) → IsCheckedPlan plan → length (actions plan t) ≤ 2 * max_ops
few_actions plan t checked = (let a = actions_fit plan t in let l = checked.limits.few_ops in omega arith)

pub few_own_ops : (plan : Plan) (t : ℕ) → IsCheckedPlan plan → length (code_of plan t) ≤ 2 * max_ops
unfolding actions
few_own_ops plan t checked = (let a = ops_at_most (code_of plan t) in let l = few_actions plan t checked in omega arith)

-- a task that awaits an event has a block next, whose event this is
pub awaits_block :
    (o : Option Action) (m : Phases) (e : Event) → awaited o m ≡ Some e → (aim : Aim) × (o ≡ Some (Blocks aim)) × awaited (Some (Blocks aim)) m ≡ Some e
awaits_block (Some (Blocks aim)) m e h = (aim, refl, h)
awaits_block o m e h = absurd (cc)

module _ (plan : Plan) (tasks : List TaskRecord) (table : MemberTable) (kept : KeepsState plan tasks table) (t : ℕ) (task : TaskRecord) (read : slice_get tasks t ≡ Some task) where
  abbrev old : WorldValue
  old = world_from plan tasks

  pub events_fit : (x : Action) → action_by_code old t ≡ Some x → task.place.events + 1 < 4294967296
  events_fit x next =
      let l = action_within plan kept.checked t (places_of old t).done x next in
      let d = done_is plan tasks table kept t task read in
      let few = few_actions plan t kept.checked in
      omega arith

  pub op_fits : task.op + 1 < 4294967296
  op_fits = (let w = (of_task plan tasks table kept t task read).within in let few = few_own_ops plan t kept.checked in omega arith)

  pub legal_next : (x : Action) → IsActive (state_of old) t → action_by_code old t ≡ Some x → IsLegal plan (state_of old) t x
  unfolding state_of
  legal_next x active next = next_legal plan kept.checked (places_of old) (consistent plan tasks table kept) t x active next

  -- a block
  module _ (e : Event) (before : IsAtAwaitOf old t e) where
    blocks : (aim : Aim) × (action_by_code old t ≡ Some (Blocks aim)) × awaited (Some (Blocks aim)) ((state_of old).phases t) ≡ Some e
    blocks = awaits_block (action_by_code old t) ((state_of old).phases t) e before.1

    pub events_fit_block : task.place.events + 1 < 4294967296
    events_fit_block = events_fit (Blocks blocks.0) blocks.1

    block_legal : IsLegal plan (state_of old) t (Blocks blocks.0)
    block_legal = legal_next (Blocks blocks.0) before.0 blocks.1

    not_refused : task.place.refused ≡ false
    not_refused = flag plan tasks table kept t task read (Blocks blocks.0) blocks.1 block_legal

    own_block : IsKeptOf plan (after (state_of old) t (Blocks blocks.0)) t (after_block task e)
    own_block =
        let k = of_task plan tasks table kept t task read in
        let none = idle plan tasks table kept t task read before.0.unpublished before.0.unrefused in
        record {
          forked = k.forked;
          event =
              sym blocks.2 ∙ sym (updated_same (state_of old).published t t (awaited (Some (Blocks blocks.0)) ((state_of old).phases t)) refl)
              ∙ ap (event_in (after (state_of old) t (Blocks blocks.0)) t) (sym not_refused);
          within = k.within;
          events = (let b = begun_none task none in let b' = begun_some (after_block task e) e refl not_refused in let n = k.events in omega arith);
        }

    pub block_stepped : KeepsState plan (set tasks t (after_block task e)) table × IsWorldStep old (world_from plan (set tasks t (after_block task e))) t
    block_stepped =
        stepped_set plan tasks table kept t task read (Blocks blocks.0) blocks.1 block_legal (after_block task e) refl own_block (λ u e. absurd (cc))
        table (λ u q h. h) refl kept.phases

  -- a pass
  module _ (e : Event) (waits : (state_of old).published t ≡ Some e) (reached : IsReached (state_of old) e) where
    await_op : (q : _) × (off : Offset) × slice_get (code_of plan t) task.op ≡ Some (Await q off) × q.0 ≡ e.p.0 × task.place.events ≡ actions_before (code_of plan t) task.op + 1
    await_op = await_of_waiting plan tasks table kept t task read e waits

    pub passes_after : action_by_code old t ≡ Some (Passes e.p.0)
    unfolding state_of
    passes_after =
        published_passes plan t (places_of old t).done e waits

    forked_waiting : (state_of old).forked t ≡ true
    unfolding state_of
    forked_waiting =
        let is = published_after_is plan t (places_of old t).done e waits in
        (consistent plan tasks table kept).begun t (let s = is.1 in omega arith)

    unrefused_waiting : (state_of old).refused t ≡ None
    unfolding state_of
    unrefused_waiting =
        ap (refused_at plan t (places_of old t).done) (undropped_waiting plan tasks table kept t task read e waits)

    pass_legal : IsLegal plan (state_of old) t (Passes e.p.0)
    pass_legal = (forked_waiting, e.n, waits, reached, unrefused_waiting)

    own_pass : IsKeptOf plan (after (state_of old) t (Passes e.p.0)) t (after_op task)
    own_pass =
        let k = of_task plan tasks table kept t task read in
        let flag_is = flag plan tasks table kept t task read (Passes e.p.0) passes_after pass_legal in
        let here = slice_get_within (code_of plan t) task.op (Await await_op.0 await_op.1) await_op.2 in
        record {
          forked = k.forked;
          event = sym (updated_same (state_of old).published t t None refl) ∙ ap (event_in (after (state_of old) t (Passes e.p.0)) t) (sym flag_is);
          within = omega arith;
          events =
              (let b = begun_none (after_op task) refl in
              let more = actions_before-suc (code_of plan t) task.op (Await await_op.0 await_op.1) await_op.2 in
              let two = await_is_two await_op.0 await_op.1 in
              let n = await_op.4 in
              let one = ap (actions_before (code_of plan t)) (add-one task.op) in
              omega arith);
        }

    pub events_fit_pass : task.place.events + 1 < 4294967296
    events_fit_pass = events_fit (Passes e.p.0) passes_after

    pub pass_stepped : KeepsState plan (set tasks t (after_op task)) table × IsWorldStep old (world_from plan (set tasks t (after_op task))) t
    pass_stepped =
        stepped_set plan tasks table kept t task read (Passes e.p.0) passes_after pass_legal (after_op task) refl own_pass (λ u e. absurd (cc))
        table (λ u q h. h) refl kept.phases
