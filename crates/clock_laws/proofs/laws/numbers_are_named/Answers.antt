use Rattle.clock_laws.proofs.Numbers.{each_made_is_named, each_number_is_named, made_have_one_name}
use Rattle.clock_laws.proofs.laws.numbers_are_named.Goals as goal

pub returns : goal.returns
returns c = record { activities = each_number_is_named; named = each_made_is_named; made = made_have_one_name }
