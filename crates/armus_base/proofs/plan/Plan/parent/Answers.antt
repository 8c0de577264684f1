use Rattle.std.proofs.Common.{◌≡◌, ℕ, zero, suc, ◌<◌, Option, Some, None, length, slice_get, arith, sym, ◌∙◌, ap, subst, refl, get_or}
use Rattle.std.proofs.lemmas.Option.{slice_get-get_or}
use Rattle.armus_base.specs.declared.ids.TaskId.{TaskId}
use Rattle.armus_base.specs.CheckedPlans.{HasTables}
use Rattle.armus_base.specs.Plans.{Plan}
use Rattle.armus_base.proofs.plan.Plan.parent.Goals as goal

-- only task 0 has no parent
root_alone : (plan : Plan) (t : ℕ) (o : Option TaskId) → HasTables plan → t < length plan.parents → slice_get plan.parents t ≡ Some o → o ≡ None → t ≡ 0
root_alone plan zero o tables l is none = refl
root_alone plan (suc t) o tables l is none = absurd (let drawn = tables.drawn (suc t) (omega arith) l in let there = drawn.1 in cc)

-- and it has none
no_parent : (plan : Plan) (t : ℕ) (o : Option TaskId) → HasTables plan → slice_get plan.parents t ≡ Some o → t ≡ 0 → o ≡ None
no_parent plan t o tables is first = (let root = tables.root in let same = ap (λ u. slice_get plan.parents u) first in cc)

pub returns-clause-root : goal.returns-clause-root
returns-clause-root c =
    let parents = c.as_slice.result.now in
    let o = get_or parents c.args.t.0 None in
    let tables : HasTables c.args.self.now = subst (λ (p : Plan). HasTables p) c.self.view_is c.self.invariant.tables in
    let same : parents ≡ c.args.self.now.parents = c.as_slice.ensures.items ∙ ap (λ (p : Plan). p.parents) c.self.view_is in
    let there : slice_get c.args.self.now.parents c.args.t.0 ≡ Some o =
    subst (λ ps. slice_get ps c.args.t.0 ≡ Some o) same (slice_get-get_or parents c.args.t.0 None (subst (λ ps. c.args.t.0 < length ps) (sym same) c.requires.task)) in
    (root_alone c.args.self.now c.args.t.0 o tables c.requires.task there, no_parent c.args.self.now c.args.t.0 o tables there)
