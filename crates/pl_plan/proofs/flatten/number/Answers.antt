use Rattle.pl_plan.proofs.Distinct.{spelling_at, numbering}
use Rattle.pl_plan.proofs.flatten.number.Goals as goal

pub returns-clause-spelled : goal.returns-clause-spelled
returns-clause-spelled c =
    let s = c.in_ok-i.ensures.stored in
    spelling_at c.insert_full.new.self.keys c.in_ok-i.i s.0 c.args.name.now c.in_ok-i.ensures.within s.1 s.2

pub returns-clause-distinct : goal.returns-clause-distinct
returns-clause-distinct c = numbering c.insert_full.new.self.keys c.in_ok-i.ensures.unique
