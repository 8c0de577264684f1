use Rattle.std.proofs.Common.{◌≡◌, ◌<◌, ◌≤◌, ◌&&◌, ◌||◌, ℕ, List, length, get_or, ◌∙◌, ap, rules}
use Rattle.std.specs.Prelude.{bytes_eq}
use Rattle.std.specs.List.{list_any}
use Rattle.std.proofs.lemmas.List.{take_all}
use Rattle.monitor_laws.specs.Stuck.{has_phase_below}
use Rattle.monitor_rows.specs.inside.LeastPhases.{is_noted_below}
use Rattle.monitor_rows.proofs.LeastPhases.{named_more, noted_all}
use Rattle.monitor_rows.proofs.least_phases.note_phases.Goals as goal

pub loop-membership-init : goal.loop-membership-init
loop-membership-init c = λ q n. search rules

pub loop-membership-preserved : goal.loop-membership-preserved
loop-membership-preserved c = λ q n.
    let ms = c.args.u.now.phases in
    let i = c.loop-membership.membership-index in
    let m : List ℕ × ℕ = c.membership-item.result in
    let items = c.as_slice-membership-items.ensures ∙ c.memberships.ensures in
    let is : m ≡ get_or ms i m = c.membership-item.is ∙ ap (λ (l : List (List ℕ × ℕ)). get_or l i m) items in
    let within : i < length ms = search rules in
    let below = has_phase_below c.args.u.now q n in
    c.in_ok-note_own_phase.ensures q n
    ∙ ap (λ p. is_noted_below c.loop-membership.least q n || (bytes_eq q p && below)) c.phaser.ensures
    ∙ ap (λ b. b || (bytes_eq q m.0 && below)) (c.loop-membership.invariant q n)
    ∙ named_more (is_noted_below c.args.least.now q n) ms i m q below within is

pub returns : goal.returns
returns c = λ q n.
    let ms = c.args.u.now.phases in
    let past : length ms ≤ c.loop-membership.membership-index = search rules in
    c.loop-membership.invariant q n
    ∙ ap (λ (l : List (List ℕ × ℕ)). is_noted_below c.args.least.now q n || (list_any (λ (m : List ℕ × ℕ). bytes_eq q m.0) l && has_phase_below c.args.u.now q n)) (take_all c.loop-membership.membership-index ms past)
    ∙ noted_all (is_noted_below c.args.least.now q n) ms q n
