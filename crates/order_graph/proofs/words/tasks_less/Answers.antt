use Rattle.std.proofs.Common.{◌≡◌, ℕ, ◌+◌, ◌*◌, ◌<◌, ◌∙◌, ap, arith, sym}
use Rattle.std.specs.Prelude.{Vec}
use Rattle.std.specs.Global.{Global}
use Rattle.std.specs.Int.{bit_at}
use Rattle.armus_base.specs.declared.ids.TaskId.{TaskId}
use Rattle.order_graph.specs.inside.Bits.{bit_less, tasks_by}
use Rattle.order_graph.proofs.WordBits.{less_word, skip_word}
use Rattle.order_graph.proofs.words.tasks_less.Goals as goal
use Rattle.order_graph.proofs.words.tasks_less.Goals.{then-word-ne0+in_ok-push_tasks, else-word-ne0}

pub loop-k-preserved : goal.loop-k-preserved
loop-k-preserved c =
    let k = c.loop-k.k in
    let bits : ℕ → ℕ = bit_less c.args.words.now c.args.other.now in
    let are : (i : ℕ) → i < 64 → bits (64 * k + i) ≡ bit_at c.less-word.result i =
    less_word c.args.words.now c.args.other.now k c.less-word.result (rw c.word_at.ensures at c.less-word.ensures) in
    let turn : 64 * (k + 1) ≡ 64 * k + 64 = omega arith in
    elim c.if-word-ne0.branch [
      | then-word-ne0+in_ok-push_tasks w ↦
          ap (λ (v : Vec TaskId Global). v.items) w.list-is ∙ w.in_ok-push_tasks.ensures bits c.loop-k.invariant are ∙ ap (tasks_by bits) (sym turn)
      | else-word-ne0 w ↦
          ap (λ (v : Vec TaskId Global). v.items) w.list-is ∙ c.loop-k.invariant ∙ sym (skip_word bits k c.less-word.result w.if-word-ne0.false are) ∙ ap (tasks_by bits) (sym turn)
    ]
