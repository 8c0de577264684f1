use Rattle.armus_base.proofs.laws.texts.worked_texts.Goals as goal
use Rattle.armus_base.proofs.WorkedTexts.{averaging_ends_in, awaits_ahead_ends_in, looks_back_ends_in, behind_a_cycle_ends_in, ended_member_ends_in, three_tasks_ends_in, two_tasks_ends_in, unforked_member_ends_in}

pub returns : goal.returns
returns c = record {
  averaging = averaging_ends_in;
  two_tasks = two_tasks_ends_in;
  three_tasks = three_tasks_ends_in;
  behind_a_cycle = behind_a_cycle_ends_in;
  ended_member = ended_member_ends_in;
  unforked_member = unforked_member_ends_in;
  awaits_ahead = awaits_ahead_ends_in;
  looks_back = looks_back_ends_in;
}
