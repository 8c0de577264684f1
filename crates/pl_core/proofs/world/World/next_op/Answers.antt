use Rattle.std.proofs.Common.{◌≡◌, ◌<◌, ◌∙◌, [], Some, ap, arith, get_or, length, subst, sym}
use Rattle.std.specs.Prelude.{option_map, slice_get}
use Rattle.std.proofs.lemmas.Option.{slice_get-get_or}
use Rattle.armus_base.specs.States.{IsActive}
use Rattle.pl_core.specs.inside.Changes.{unbegun}
use Rattle.pl_core.specs.inside.Ops.{action_of}
use Rattle.pl_core.specs.calls.Worlds.{WorldValue, action_by_code, state_of}
use Rattle.pl_core.proofs.KeptCursors.{op_of_cursor}
use Rattle.pl_core.proofs.Standing.{idle, next_of_idle}
use Rattle.pl_core.proofs.world.World.next_op.Goals as goal

pub returns-clause-next : goal.returns-clause-next
returns-clause-next c =
    let t = c.args.t.0 in
    let plan = c.self.inside.plan.now in
    let tasks = c.self.inside.tasks.items in
    let kept = c.self.invariant.kept in
    let here : t < length plan.parents = subst (λ (w : WorldValue). t < length w.plan.parents) (sym c.self.view_is) c.requires.task in
    let within : t < length tasks = (let one = kept.one_each in omega arith) in
    let task = get_or tasks t unbegun in
    let read : slice_get tasks t ≡ Some task = slice_get-get_or tasks t unbegun within in
    let active = subst (λ (w : WorldValue). IsActive (state_of w) t) (sym c.self.view_is) c.requires.active in
    let none = idle plan tasks c.self.inside.phases kept t task read active.unpublished active.unrefused in
    subst (λ w. action_by_code w t ≡ option_map action_of c.op_at_cursor.result) c.self.view_is
    (next_of_idle plan tasks c.self.inside.phases kept t task read none
    ∙ ap (option_map action_of)
    (sym (op_of_cursor plan (length plan.parents) tasks c.self.inside.cursors.items c.self.invariant.cursors t here task read)
    ∙ ap (λ cs. slice_get (get_or cs t []) 0) (sym c.deref.ensures.value)
    ∙ sym c.op_at_cursor.ensures))
