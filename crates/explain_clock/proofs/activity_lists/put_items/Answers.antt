use Rattle.std.proofs.Common.{◌++◌, ap, ◌∙◌, length}
use Rattle.explain_clock.specs.ActivityLists.{number_item}
use Rattle.explain_tasks.specs.TaskLists.{separator}
use Rattle.report.proofs.Texts.{texts_all, texts_more}
use Rattle.explain_clock.proofs.activity_lists.put_items.Goals as goal

pub loop-k-preserved : goal.loop-k-preserved
loop-k-preserved c =
    c.in_ok-put_item_at.ensures
    ∙ texts_more (λ k run. separator (length c.args.items.now) k ++ number_item run) (record { from = 0; to = 0 }) c.args.items.now c.loop-k.k c.loop-k-test.true
    c.args.out.now.items c.loop-k.out.items c.loop-k.invariant

pub returns : goal.returns
returns c =
    c.loop-k.invariant
    ∙ ap (λ xs. c.args.out.now.items ++ xs)
    (texts_all (λ k run. separator (length c.args.items.now) k ++ number_item run) c.args.items.now c.loop-k.k c.loop-k-test.false)
