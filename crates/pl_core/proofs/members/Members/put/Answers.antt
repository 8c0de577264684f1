use Rattle.std.proofs.Common.{◌≡◌, ◌≢◌, ℕ, Option, length, set, subst, sym}
use Rattle.std.proofs.lemmas.List.{length-set}
use Rattle.pl_core.specs.declared.cell.Cell.{Cell}
use Rattle.pl_core.specs.inside.Cells.{phase_in_cell}
use Rattle.pl_core.specs.inside.LeastPhases.{IsLeastBelow}
use Rattle.pl_core.proofs.Cells.{among_set_here, among_set_other, phase_at_set_other, stands_set, stays_ascending}
use Rattle.pl_core.proofs.LeastMembers.{below_kept, kept_below}
use Rattle.pl_core.proofs.members.Members.put.Goals as goal

pub least_after-self-requires-clause-before : goal.least_after-self-requires-clause-before
least_after-self-requires-clause-before c =
    let row = c.args.self.now in
    let d : Cell = record { task = c.args.t; phase = c.args.phase } in
    subst (λ xs. (f : ℕ → Option ℕ) × IsLeastBelow f (length xs) row.least × ((u : ℕ) → u ≢ c.args.at → f u ≡ phase_in_cell xs u)) (sym c.deref.ensures.value) (
      phase_in_cell row.cells.items,
      subst (λ n. IsLeastBelow (phase_in_cell row.cells.items) n row.least) (sym (length-set row.cells.items c.args.at d))
          (kept_below row.cells.items row.least row.least_kept),
      λ u n. sym (phase_at_set_other row.cells.items c.args.at u d n),
    )

pub invariant_of-self : goal.invariant_of-self
invariant_of-self c =
    let row = c.args.self.now in
    let d : Cell = record { task = c.args.t; phase = c.args.phase } in
    let there = c.requires.cell in
    record {
      ascend = stays_ascending row.cells.items c.args.at there.0 d row.ascend there.1 (sym there.2);
      least_kept =
          below_kept (set row.cells.items c.args.at d) c.least_after-self.result
          (subst (λ xs. IsLeastBelow (phase_in_cell xs) (length xs) c.least_after-self.result) c.deref.ensures.value c.least_after-self.ensures);
    }

pub returns-clause-here : goal.returns-clause-here
returns-clause-here c =
    let there = c.requires.cell in
    among_set_here c.args.self.now.cells.items c.args.at there.0 (record { task = c.args.t; phase = c.args.phase }) c.args.self.now.ascend there.1 (sym there.2)

pub returns-clause-others : goal.returns-clause-others
returns-clause-others c =
    let there = c.requires.cell in
    λ u n. among_set_other c.args.self.now.cells.items c.args.at there.0 (record { task = c.args.t; phase = c.args.phase }) u there.1 (sym there.2) n

pub returns-clause-cells : goal.returns-clause-cells
returns-clause-cells c =
    let there = c.requires.cell in
    λ u h. stands_set c.args.self.now.cells.items c.args.at there.0 (record { task = c.args.t; phase = c.args.phase }) u there.1 (sym there.2) h
