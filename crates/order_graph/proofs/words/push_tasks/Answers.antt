use Rattle.std.proofs.Common.{◌≡◌, ◌+◌, ◌*◌, ◌∙◌, ap, arith, sym}
use Rattle.std.specs.Prelude.{Vec}
use Rattle.std.specs.Global.{Global}
use Rattle.std.specs.Int.{bit_at}
use Rattle.std.proofs.lemmas.Nat.Bits.{shr_and_one}
use Rattle.armus_base.specs.declared.ids.TaskId.{TaskId}
use Rattle.order_graph.specs.inside.Bits.{tasks_by}
use Rattle.order_graph.proofs.TaskBits.{not_one}
use Rattle.order_graph.proofs.WordBits.{push_none, push_one}
use Rattle.order_graph.proofs.words.push_tasks.Goals as goal
use Rattle.order_graph.proofs.words.push_tasks.Goals.{then-word-k-eq1+in_ok-push, else-word-k-eq1}

pub loop-k-preserved : goal.loop-k-preserved
loop-k-preserved c =
    let at = c.args.at in
    let k = c.loop-k.k in
    record {
      few = omega (arith, c.loop-k-test.true);
      list = λ bits is are.
          let before = c.loop-k.invariant.list bits is are in
          let turn : 64 * at + (k + 1) ≡ 64 * at + k + 1 = omega arith in
          let bit : bits (64 * at + k) ≡ bit_at c.args.word k = are k (omega (arith, c.loop-k-test.true)) in
          elim c.if-word-k-eq1.branch [
            | then-word-k-eq1+in_ok-push w ↦
                let on = sym (shr_and_one c.args.word k) ∙ w.if-word-k-eq1.true in
                let turned : at * 64 + k ≡ 64 * at + k = omega arith in
                ap (λ (v : Vec TaskId Global). v.items) w.list-is ∙ w.in_ok-push.ensures.items ∙
                rw (turned, before) (sym (push_one bits (64 * at + k) (bit ∙ on))) ∙ ap (tasks_by bits) (sym turn)
            | else-word-k-eq1 w ↦
                let off = not_one c.args.word k (λ on. w.if-word-k-eq1.false (shr_and_one c.args.word k ∙ on)) in
                ap (λ (v : Vec TaskId Global). v.items) w.list-is ∙ before ∙ sym (push_none bits (64 * at + k) (bit ∙ off)) ∙ ap (tasks_by bits) (sym turn)
          ];
    }
