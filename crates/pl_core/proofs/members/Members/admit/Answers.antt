use Rattle.std.proofs.Common.{◌≡◌, ◌+◌, ℕ, None, refl, length, arith, subst, sym, ap, ◌∙◌}
use Rattle.std.specs.Prelude.{is_ok}
use Rattle.pl_core.specs.declared.cell.Cell.{Cell}
use Rattle.pl_core.specs.inside.Cells.{AreBelow, StandsInCell, StandsIn, phase_among}
use Rattle.pl_core.proofs.Admitted.{kept_pushed}
use Rattle.pl_core.proofs.Cells.{among_more, below_more, slice_get-end, stands_more}
use Rattle.pl_core.proofs.members.Members.admit.Goals as goal

pub invariant_of-self : goal.invariant_of-self
invariant_of-self c =
    let row = c.args.self.now in
    let other = subst (λ xs. (k : ℕ) → k + 1 ≡ length xs → StandsInCell xs k c.args.t → ⊥) c.deref.ensures.value (c.if-not-ends_with.ensures.other refl) in
    let kept = kept_pushed row.cells.items c.args.t row.least row.ascend row.least_kept c.requires.below other (is_ok c.push.result) c.push.new.self.items c.push.ensures.items in
    record { ascend = kept.0; least_kept = kept.1 }

pub returns-in_ok-push-clause-below : goal.returns-in_ok-push-clause-below
returns-in_ok-push-clause-below c =
    subst (AreBelow (c.args.t + 1)) (sym c.in_ok-push.ensures.items)
    (below_more (c.args.t + 1) c.args.self.now.cells.items (record { task = c.args.t; phase = None }) c.requires.below (omega arith))

pub returns-in_ok-push-clause-there : goal.returns-in_ok-push-clause-there
returns-in_ok-push-clause-there c =
    let d : Cell = record { task = c.args.t; phase = None } in
    subst (λ xs. StandsIn xs c.args.t) (sym c.in_ok-push.ensures.items)
    (length c.args.self.now.cells.items, (d, slice_get-end c.args.self.now.cells.items d, refl))

pub returns-in_ok-push-clause-keeps : goal.returns-in_ok-push-clause-keeps
returns-in_ok-push-clause-keeps c =
    λ u h. subst (λ xs. StandsIn xs u) (sym c.in_ok-push.ensures.items) (stands_more c.args.self.now.cells.items (record { task = c.args.t; phase = None }) u h)

pub returns-in_ok-push-clause-phases : goal.returns-in_ok-push-clause-phases
returns-in_ok-push-clause-phases c =
    λ u. ap (λ xs. phase_among xs u) c.in_ok-push.ensures.items ∙ among_more c.args.self.now.cells.items (record { task = c.args.t; phase = None }) u refl
