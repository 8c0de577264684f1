use Rattle.std.proofs.Common.{◌∙◌, ◌++◌, ap, sym}
use Rattle.std.proofs.lemmas.Result.{on_ok_weaker}
use Rattle.explain_deadlock.specs.Notes.{immediate_notes}
use Rattle.explain_deadlock.proofs.Pieces.{two_pieces}
use Rattle.explain_deadlock.proofs.notes.put_notes.Goals as goal

pub returns : goal.returns
returns c =
    on_ok_weaker c.put_immediate_notes.result
    (λ e. two_pieces _ _ _ _ _ c.in_ok-put_phaser_notes.ensures
    (e ∙ ap (λ told. c.put_phaser_notes.new.out.items ++ immediate_notes c.args.facts.now told) (c.as_slice.ensures.items ∙ ap (λ a. a.immediate) (sym c.requires.text.account))))
    c.put_immediate_notes.ensures
