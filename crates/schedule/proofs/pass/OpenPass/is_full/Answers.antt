use Rattle.std.proofs.Common.{◌≡◌, ◌∙◌, eqb-true, eq-eqb, arith}
use Rattle.schedule.proofs.Passing.{full_is, full_rows}
use Rattle.schedule.proofs.pass.OpenPass.is_full.Goals as goal

pub returns-then-self-tasks : goal.returns-then-self-tasks
returns-then-self-tasks c =
    let pass = c.args.self.now in
    record {
      full = λ plan loads tasks of. (
        λ h. full_is plan loads pass of (c.if-self-tasks.true ∙ tasks) (let rows : pass.row ≡ c.len.result = eqb-true pass.row c.len.result h in omega arith),
        λ full. eq-eqb pass.row c.len.result (let rows = full_rows plan loads pass of full in omega arith),
      );
    }
