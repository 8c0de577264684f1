use Rattle.std.proofs.Common.{◌≡◌, ◌∙◌, None, Some, arith, refl, sym}
use Rattle.std.proofs.lemmas.Bool.{le-leb, leb-true}
use Rattle.pl_core.proofs.Cells.{in_some_cell, of_some_task}
use Rattle.pl_core.proofs.members.Members.is_reached.Goals as goal

pub returns-in-None : goal.returns-in-None
returns-in-None c =
    let row = c.args.self.now in (
      λ yes u m e.
          let there = in_some_cell row.cells.items u m e in
          absurd (let no : None ≡ Some m = sym (row.least_kept.none there.0 c.in-None.is there.1) ∙ there.2 in cc),
      λ each. refl,
    )

pub returns-in-Some : goal.returns-in-Some
returns-in-Some c =
    let row = c.args.self.now in
    let l = c.in-Some.member in (
      λ yes u m e.
          let there = in_some_cell row.cells.items u m e in
          (let low = row.least_kept.bound l there.0 m c.in-Some.is there.1 there.2 in let most = leb-true c.args.n l.phase yes in omega arith),
      λ each.
          let some = of_some_task row.cells.items l.at l.phase row.ascend (row.least_kept.there l c.in-Some.is) in
          le-leb c.args.n l.phase (each some.0 l.phase some.1),
    )
