use Rattle.std.proofs.Common.{◌++◌, ap, sym, ◌∙◌, length}
use Rattle.std.proofs.lemmas.Result.{on_ok_weaker}
use Rattle.pl_core.specs.calls.Worlds.{state_of}
use Rattle.explain_deadlock.specs.inside.GroupTexts.{paragraph_text, texts_in}
use Rattle.explain_deadlock.proofs.GroupsAre.{paragraphs_are, sized_of}
use Rattle.explain_deadlock.proofs.paragraphs.put_paragraphs.Goals as goal

pub put_grouped-requires-clause-sized : goal.put_grouped-requires-clause-sized
put_grouped-requires-clause-sized c =
    ap length c.deref-2.ensures.value ∙ sized_of _ _ c.in_ok-grouping.grouping c.in_ok-grouping.ensures ∙ sym (ap length c.as_slice.ensures.keys)

pub returns : goal.returns
returns c =
    let f = c.args.facts.now in
    let phases = (state_of c.args.world.now).phases in
    let g = c.in_ok-grouping.grouping in
    on_ok_weaker c.put_grouped.result
    (λ e. e ∙ ap (λ zs. c.args.out.now.items ++ zs)
    (ap (λ ks. texts_in (paragraph_text f phases) ks c.deref-2.result.now) c.as_slice.ensures.keys
    ∙ ap (λ gs. texts_in (paragraph_text f phases) g.sayings.keys gs) c.deref-2.ensures.value ∙ paragraphs_are f phases c.args.shown.now g c.in_ok-grouping.ensures))
    c.put_grouped.ensures
