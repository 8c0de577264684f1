use Rattle.pl_generator.proofs.Accepted.{accepted, no_syntax_fault, no_check_fault}
use Rattle.pl_generator.proofs.laws.gen_is_accepted.Goals as goal

pub returns : goal.returns
returns c = record { accepted = accepted; no_syntax_fault = no_syntax_fault; no_check_fault = no_check_fault }
