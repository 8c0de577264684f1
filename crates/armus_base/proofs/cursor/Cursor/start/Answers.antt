use Rattle.std.proofs.Common.{◌∙◌}
use Rattle.armus_base.proofs.Nesting.{pieces_fit}
use Rattle.armus_base.proofs.Positions.{first_inside, first_left, first_stands}
use Rattle.armus_base.proofs.cursor.Cursor.start.Goals as goal

pub open-requires-clause-stands : goal.open-requires-clause-stands
open-requires-clause-stands c = first_stands c.args.pieces.now c.first-position.result c.requires.folded c.first-position.ensures

pub open-requires-clause-inside : goal.open-requires-clause-inside
open-requires-clause-inside c = first_inside c.first-position.result c.first-position.ensures

pub open-requires-clause-fits : goal.open-requires-clause-fits
open-requires-clause-fits c = pieces_fit c.args.pieces.now c.requires.folded

pub invariant_of-result : goal.invariant_of-result
invariant_of-result c = record {
  stands = c.open.ensures.same.stands;
  inside = c.open.ensures.inside;
  op = c.open.ensures.op;
  short = pieces_fit c.args.pieces.now c.requires.folded;
}

pub returns : goal.returns
returns c = record { all = c.open.ensures.same.same ∙ first_left c.args.pieces.now c.first-position.result c.first-position.ensures }
