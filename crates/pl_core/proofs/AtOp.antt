-- At which op a task stands.
use Rattle.std.proofs.Common.{◌≡◌, ℕ, suc, ◌<◌, Bool, true, false, List, Option, Some, None, length, add-one, arith, ◌∙◌, ap, refl}
use Rattle.std.specs.Prelude.{slice_get, is_some, if◌then◌else◌}
use Rattle.std.proofs.lemmas.Option.{slice_get-get_or}
use Rattle.armus_base.specs.declared.event.Event.{Event}
use Rattle.armus_base.specs.declared.op.Op.{Op}
use Rattle.armus_base.specs.declared.offset.Offset.TheVariants.{Here}
use Rattle.armus_base.specs.declared.op.Op.TheVariants.{Await}
use Rattle.armus_base.specs.Plans.{Plan, code_of}
use Rattle.pl_core.specs.declared.task.TaskRecord.{TaskRecord}
use Rattle.pl_core.specs.declared.phase_table.MemberTable.{MemberTable}
use Rattle.pl_core.specs.inside.Kept.{KeepsState}
use Rattle.pl_core.specs.calls.Tables.{world_from}
use Rattle.pl_core.specs.Tasks.{IsAtOp, actions_before}
use Rattle.pl_core.specs.inside.KeptTasks.{begun}
use Rattle.pl_core.specs.calls.Worlds.{places_of}
use Rattle.pl_core.proofs.OpCounts.{actions_before-suc, at_least_one, await_is_two}
use Rattle.pl_core.proofs.Standing.{await_of_waiting, done_is, of_task, published_kept}

module _ (plan : Plan) (tasks : List TaskRecord) (table : MemberTable) (kept : KeepsState plan tasks table) (t : ℕ) (task : TaskRecord) (read : slice_get tasks t ≡ Some task) where
  op_here : task.op < length (code_of plan t) → (op : Op) × slice_get (code_of plan t) task.op ≡ Some op
  op_here l = go (slice_get (code_of plan t) task.op) refl
    where
      go : (o : Option Op) → slice_get (code_of plan t) task.op ≡ o → (op : Op) × slice_get (code_of plan t) task.op ≡ Some op
      go None e = absurd (let some = slice_get-get_or (code_of plan t) task.op (Await (record { 0 = 0 }) Here) l in cc)
      go (Some op) e = (op, e)

  below_next : (b : Bool) (o : Option Event) → task.place.refused ≡ b → task.event ≡ o → task.op < length (code_of plan t) →
      task.place.events < actions_before (code_of plan t) (suc task.op)
  below_next true o r e l =
      let op = op_here l in
      let more = actions_before-suc (code_of plan t) task.op op.0 op.1 in
      let one = at_least_one op.0 in
      let n = (of_task plan tasks table kept t task read).events in
      let b : begun task ≡ 0 = ap (λ x. if x then 0 else (if is_some task.event then 1 else 0)) r in
      omega arith
  below_next false None r e l =
      let op = op_here l in
      let more = actions_before-suc (code_of plan t) task.op op.0 op.1 in
      let one = at_least_one op.0 in
      let n = (of_task plan tasks table kept t task read).events in
      let b : begun task ≡ 0 = ap (λ x. if x then 0 else (if is_some task.event then 1 else 0)) r ∙ ap (λ x. if is_some x then 1 else 0) e in
      omega arith
  below_next false (Some event) r e l =
      let at = await_of_waiting plan tasks table kept t task read event (published_kept plan tasks table kept t task read r ∙ e) in
      let more = actions_before-suc (code_of plan t) task.op (Await at.0 at.1) at.2 in
      let two = await_is_two at.0 at.1 in
      let n = at.4 in
      omega arith

  pub at_op : IsAtOp (code_of plan t) (places_of (world_from plan tasks) t).done task.op
  at_op =
      let d = done_is plan tasks table kept t task read in
      let k = of_task plan tasks table kept t task read in
      record {
        within = k.within;
        from = (let n = k.events in omega arith);
        below = λ l. (let b = below_next task.place.refused task.event refl refl l in let one = ap (actions_before (code_of plan t)) (add-one task.op) in omega arith);
      }
