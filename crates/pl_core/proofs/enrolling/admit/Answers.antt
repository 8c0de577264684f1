use Rattle.std.proofs.Common.{◌≡◌, ◌∙◌, ◌+◌, ◌<◌, Some, ap, arith, length, refl, subst, sym}
use Rattle.std.specs.Prelude.{slice_get}
use Rattle.std.proofs.lemmas.Option.{slice_get_read}
use Rattle.pl_core.specs.inside.Cells.{AreBelow, phase_among}
use Rattle.pl_core.specs.inside.PhaseTables.{cells_from}
use Rattle.pl_core.proofs.NewMembers.{admits_one, new_set}
use Rattle.pl_core.proofs.enrolling.admit.Goals as goal

pub admit-requires : goal.admit-requires
admit-requires c =
    let rows = c.args.rows.now.items in
    let within : c.args.p < length rows = omega arith in
    let read : slice_get rows c.args.p ≡ Some c.index_mut.result.now =
    slice_get_read rows (length rows) c.args.p c.index_mut.result.now refl within c.index_mut.ensures.value in
    record { below = subst (AreBelow (c.args.t + 1)) (ap cells_from read) (c.requires.kept.below c.args.p) }

pub returns-in_ok-admit-clause-kept : goal.returns-in_ok-admit-clause-kept
returns-in_ok-admit-clause-kept c =
    let rows = c.args.rows.now.items in
    let within : c.args.p < length rows = omega arith in
    let read : slice_get rows c.args.p ≡ Some c.index_mut.result.now =
    slice_get_read rows (length rows) c.args.p c.index_mut.result.now refl within c.index_mut.ensures.value in
    new_set c.args.phasers (c.args.t + 1) rows c.args.p c.admit.new.self c.requires.kept within c.in_ok-admit.ensures.below
    (λ u. c.in_ok-admit.ensures.phases u ∙ ap (λ cs. phase_among cs u) (sym (ap cells_from read)) ∙ c.requires.kept.empty c.args.p u)

pub returns-in_ok-admit-clause-admits : goal.returns-in_ok-admit-clause-admits
returns-in_ok-admit-clause-admits c =
    let rows = c.args.rows.now.items in
    let within : c.args.p < length rows = omega arith in
    let read : slice_get rows c.args.p ≡ Some c.index_mut.result.now =
    slice_get_read rows (length rows) c.args.p c.index_mut.result.now refl within c.index_mut.ensures.value in
    admits_one rows c.args.p c.args.t c.index_mut.result.now c.admit.new.self read within c.in_ok-admit.ensures.there c.in_ok-admit.ensures.keeps
