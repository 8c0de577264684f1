use Rattle.std.proofs.Common.{◌++◌, ap, ◌∙◌, length}
use Rattle.explain_tasks.specs.TaskLists.{separator}
use Rattle.explain_steps.specs.StepWords.{made_phaser_words}
use Rattle.report.proofs.Texts.{texts_all, texts_more}
use Rattle.explain_avoid.proofs.refusal.put_phasers.Goals as goal

pub loop-k-preserved : goal.loop-k-preserved
loop-k-preserved c =
    c.in_ok-put_phaser_at.ensures
    ∙ texts_more (λ k q. separator (length c.args.phasers.now) k ++ made_phaser_words c.args.facts.now.program.now q) 0 c.args.phasers.now c.loop-k.k c.loop-k-test.true
    c.args.out.now.items c.loop-k.out.items c.loop-k.invariant

pub returns : goal.returns
returns c =
    c.loop-k.invariant
    ∙ ap (λ xs. c.args.out.now.items ++ xs)
    (texts_all (λ k q. separator (length c.args.phasers.now) k ++ made_phaser_words c.args.facts.now.program.now q) c.args.phasers.now c.loop-k.k c.loop-k-test.false)
