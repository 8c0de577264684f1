use Rattle.std.proofs.Common.{◌≡◌, ◌*◌, length}
use Rattle.std.specs.Prelude.{Contains, ◌⊎◌}
use Rattle.std.proofs.lemmas.Result.{IfOk-weaker}
use Rattle.armus_base.specs.declared.ids.TaskId.{TaskId}
use Rattle.order_graph.specs.inside.Bits.{bit_less, tasks_by, tasks_by_bits}
use Rattle.order_graph.proofs.RowBits.{less_all, less_within}
use Rattle.order_graph.proofs.row.TaskSet.tasks_less.Goals as goal

pub returns-clause-within : goal.returns-clause-within
returns-clause-within c =
    let words = c.self.inside.words.items in
    let other = c.other.inside.words.items in
    let is = rw (c.deref.ensures.value, c.deref-2.ensures.value) at c.tasks_less.ensures in
    rw (← c.self.view_is, ← c.other.view_is) (
    IfOk-weaker c.tasks_less.result (λ list. list.items ≡ tasks_by (bit_less words other) (64 * length words))
    (λ list. (u : TaskId) → Contains list.items u → Contains (tasks_by_bits words) u × (Contains (tasks_by_bits other) u → ⊥))
    (λ list e u. rw e (less_within words other u)) is)

pub returns-clause-all : goal.returns-clause-all
returns-clause-all c =
    let words = c.self.inside.words.items in
    let other = c.other.inside.words.items in
    let is = rw (c.deref.ensures.value, c.deref-2.ensures.value) at c.tasks_less.ensures in
    rw (← c.self.view_is, ← c.other.view_is) (
    IfOk-weaker c.tasks_less.result (λ list. list.items ≡ tasks_by (bit_less words other) (64 * length words))
    (λ list. (u : TaskId) → Contains (tasks_by_bits words) u → Contains list.items u ⊎ Contains (tasks_by_bits other) u)
    (λ list e u. rw e (less_all words other u)) is)
