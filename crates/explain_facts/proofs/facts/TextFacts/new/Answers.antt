use Rattle.std.proofs.Common.{◌∙◌, ap, length, subst, suc, sym}
use Rattle.pl_syntax.specs.BodyEnds.{AreEnds}
use Rattle.pl_syntax.specs.StatementOffsets.{AreOffsets}
use Rattle.explain_facts.proofs.DrawnTasks.{drawn_many}
use Rattle.explain_facts.proofs.facts.TextFacts.new.Goals as goal

pub program_names-requires-clause-tasks : goal.program_names-requires-clause-tasks
program_names-requires-clause-tasks c =
    c.tasks.ensures.counted ∙ drawn_many c.args.program.now c.args.plan.now c.requires.unfolds ∙ ap (λ xs. suc (length xs)) (sym c.in_ok-origins.ensures.tasks)

pub returns-clause-known : goal.returns-clause-known
returns-clause-known c = record {
  reads = c.requires.reads;
  layout = record {
    offsets = subst (λ t. AreOffsets t c.args.program.now c.in_ok-offsets.offsets) c.text.ensures.text c.in_ok-offsets.ensures.offsets;
    ends = subst (λ t. AreEnds t c.args.program.now c.in_ok-ends.ends) c.text-2.ensures.text c.in_ok-ends.ensures.ends;
  };
  origins = c.in_ok-origins.ensures;
  few = c.requires.few;
  names = c.in_ok-names.ensures;
}
