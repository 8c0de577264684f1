use Rattle.std.proofs.Common.{◌<◌, ◌≤◌, [], length, sym, ◌∙◌, ap, subst, inl, inr, rules, arith}
use Rattle.std.specs.Prelude.{Contains}
use Rattle.std.proofs.lemmas.List.{get_or_read}
use Rattle.monitor_laws.specs.States.{Participant, new_participant}
use Rattle.monitor_reasons.specs.Found.{participant_at}
use Rattle.monitor_reasons.specs.inside.PhaserPlaces.{places_named}
use Rattle.monitor_reasons.proofs.Placing.{below_next}
use Rattle.monitor_reasons.proofs.phaser_places.waiting_places.Goals as goal

pub loop-place-preserved : goal.loop-place-preserved
loop-place-preserved c = λ i q n lt waits.
    let list = c.args.list.now in
    let place = c.loop-place.place in
    let within : place < length list = search rules in
    let read = get_or_read list place c.index-list-place.result within c.index-list-place.is (new_participant 0 []) in
    elim (below_next i place lt) [
      | inl less ↦ c.in_ok-add_waiting.ensures.others q i (c.loop-place.invariant i q n less waits)
      | inr here ↦
          subst (λ k. Contains (places_named c.add_waiting.new.groups q) k) (sym here)
          (c.in_ok-add_waiting.ensures.own q n (c.condition.ensures ∙ ap (λ (u : Participant). u.condition) read ∙ ap (λ k. (participant_at list k).condition) (sym here) ∙ waits))
    ]

pub returns : goal.returns
returns c = λ i q n within waits.
    let past : length c.args.list.now ≤ c.loop-place.place = search rules in
    c.loop-place.invariant i q n (omega arith) waits
