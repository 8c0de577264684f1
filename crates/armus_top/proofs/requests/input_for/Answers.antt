use Rattle.std.proofs.Common.{◌∙◌, sym}
use Rattle.armus_top.proofs.Served.{ends_read}
use Rattle.armus_top.proofs.requests.input_for.Goals as goal

pub returns-in-Some-clause-ends : goal.returns-in-Some-clause-ends
returns-in-Some-clause-ends g c = ends_read c.args.command.now c.in-Some.limit _ _ c.input_of.result (sym c.limit_of.ensures ∙ c.in-Some.is) c.input_of.ensures.ends
