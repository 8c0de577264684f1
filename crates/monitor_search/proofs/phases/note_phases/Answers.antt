use Rattle.std.proofs.Common.{◌≡◌, ◌<◌, ℕ, List, length, get_or, sym, ◌∙◌, ap, if◌then◌else◌, rules}
use Rattle.std.specs.Prelude.{bytes_eq}
use Rattle.monitor_search.specs.inside.LeastPhases.{least_of, noted_phase}
use Rattle.monitor_search.proofs.LeastPhases.{noted_more}
use Rattle.monitor_search.proofs.phases.note_phases.Goals as goal

pub loop-membership-preserved : goal.loop-membership-preserved
loop-membership-preserved c = λ q.
    let ms = c.args.u.now.phases in
    let i = c.loop-membership.membership-index in
    let m : List ℕ × ℕ = c.membership-item.result in
    let items = c.as_slice-membership-items.ensures ∙ c.memberships.ensures in
    let is : m ≡ get_or ms i m = c.membership-item.is ∙ ap (λ (l : List (List ℕ × ℕ)). get_or l i m) items in
    let within : i < length ms = search rules in
    let known = least_of c.loop-membership.least q in
    c.in_ok-note_phase.ensures q
    ∙ ap (λ p. if bytes_eq q p then noted_phase known c.phase.result c.args.who else known) c.phaser.ensures
    ∙ ap (λ n. if bytes_eq q m.0 then noted_phase known n c.args.who else known) c.phase.ensures
    ∙ ap (λ o. if bytes_eq q m.0 then noted_phase o m.1 c.args.who else o) (c.loop-membership.invariant q)
    ∙ sym (noted_more ms i m q c.args.who (least_of c.args.least.now q) within is)
