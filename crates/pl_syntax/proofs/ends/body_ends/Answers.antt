use Rattle.std.proofs.Common.{◌++◌, ◌∙◌, ap}
use Rattle.pl_syntax.specs.inside.Closings.{ends_by}
use Rattle.pl_syntax.proofs.EndsByBraces.{ends_of_all}
use Rattle.pl_syntax.proofs.ends.body_ends.Goals as goal

pub returns : goal.returns
returns c = record {
  ends = ends_of_all c.args.text.now c.args.program.now c.in_ok-braces.braces.items c.from_vec.result c.in_ok-braces.ensures.braces
      (c.from_vec.ensures.items ∙ (c.in_ok-note_body.ensures.ends ∙ (ap (λ xs. xs ++ ends_by c.args.program.now.body c.deref.result.now) c.in_ok-ends.ensures.items
      ∙ ap (ends_by c.args.program.now.body) c.deref.ensures.value)));
}
