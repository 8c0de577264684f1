use Rattle.std.proofs.Common.{length, subst, sym, ◌∙◌}
use Rattle.pl_core.specs.calls.Worlds.{state_of}
use Rattle.explain_tasks.specs.Impeders.{impeders_by_facts}
use Rattle.explain_deadlock.specs.inside.Numbered.{AreWithin}
use Rattle.explain_deadlock.proofs.Numbered.{impeders_within}
use Rattle.explain_deadlock.proofs.impeder_lines.put_impeders.Goals as goal

pub put_lines_by-requires-clause-impeders : goal.put_lines_by-requires-clause-impeders
put_lines_by-requires-clause-impeders c =
    let f = c.args.facts.now in
    let phases = (state_of c.args.world.now).phases in
    subst (AreWithin (length c.args.numbers.now)) (sym (c.deref-2.ensures.value ∙ c.in_ok-impeders.ensures))
    (subst (λ n. AreWithin n (impeders_by_facts f phases c.args.t.0)) (sym c.requires.numbers.sized) (impeders_within f phases c.args.t.0))
