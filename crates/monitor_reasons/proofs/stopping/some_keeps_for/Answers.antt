use Rattle.std.proofs.Common.{rules, ◌≡◌, ◌<◌, ◌≤◌, ◌&&◌, false, length, sym, subst, inl, inr}
use Rattle.std.specs.Prelude.{Contains}
use Rattle.std.proofs.lemmas.List.{take_all}
use Rattle.armus_base.proofs.Elements.{nothing_in_nil}
use Rattle.monitor_words.specs.Stops.{keeps_waiting, stands_for}
use Rattle.monitor_reasons.specs.Found.{participant_at}
use Rattle.monitor_reasons.proofs.Placing.{place_more}
use Rattle.monitor_reasons.proofs.stopping.some_keeps_for.Goals as goal

pub loop-place-init : goal.loop-place-init
loop-place-init c = λ i within listed. absurd (nothing_in_nil i within)

pub loop-place-preserved : goal.loop-place-preserved
loop-place-preserved c = λ j there listed.
    let list = c.args.list.now in
    let these = c.args.places.now in
    let i = c.loop-place.place-index in
    let within : i < length these = search rules in
    elim (place_more these i j within there) [
      | inl before ↦ c.loop-place.invariant j before listed
      | inr here ↦
          subst (λ k. k < length list → (stands_for (participant_at list k) (participant_at list c.args.u) && keeps_waiting (participant_at list k) (participant_at list c.args.t)) ≡ false) here
          (c.keeps_at.ensures.off c.if-keeps_at.false) listed
    ]

pub returns-clause-off : goal.returns-clause-off
returns-clause-off c = λ e i within listed.
    let these = c.args.places.now in
    let past : length these ≤ c.loop-place.place-index = search rules in
    c.loop-place.invariant i (subst (λ l. Contains l i) (sym (take_all c.loop-place.place-index these past)) within) listed
