use Rattle.pl_plan.proofs.CodePieces.{one_list_of_pieces, pieces_of_texts, pieces_unfold_to_code}
use Rattle.pl_plan.proofs.PlanPieces.{plan_has_pieces, plans_of_texts}
use Rattle.pl_plan.proofs.laws.pieces_of_codes.Goals as goal

pub returns : goal.returns
returns c = record {
  have = plan_has_pieces;
  one = one_list_of_pieces;
  folded = pieces_unfold_to_code;
  texts = pieces_of_texts;
  plans = plans_of_texts;
}
