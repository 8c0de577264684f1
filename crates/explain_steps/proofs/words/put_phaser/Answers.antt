use Rattle.std.proofs.Common.{◌∙◌, ◌++◌, ap}
use Rattle.std.proofs.lemmas.Result.{on_ok_weaker}
use Rattle.explain_tasks.specs.Names.{named_phaser_words}
use Rattle.explain_steps.proofs.words.put_phaser.Goals as goal

pub returns : goal.returns
returns c =
    on_ok_weaker c.put_phaser_words.result (λ e. e ∙ ap (λ names. c.args.out.now.items ++ named_phaser_words names c.args.p.0) c.requires.known.names)
    c.put_phaser_words.ensures
