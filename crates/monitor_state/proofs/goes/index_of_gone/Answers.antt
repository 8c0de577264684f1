use Rattle.std.proofs.Common.{◌<◌, ◌≤◌, List, length, map, rules, subst}
use Rattle.std.proofs.lemmas.List.{take_all}
use Rattle.monitor_laws.specs.States.{Participant, gone_by}
use Rattle.monitor_state.specs.Indexes.{IsIndexOf, rests_at, awaits_phase}
use Rattle.monitor_state.proofs.IndexChanges.{index_kept, one_more_gone}
use Rattle.monitor_state.proofs.goes.index_of_gone.Goals as goal

pub loop-participant-preserved : goal.loop-participant-preserved
loop-participant-preserved c =
    let us = c.args.list.now in
    let i = c.loop-participant.participant-index in
    let u = c.participant-item.result in
    let within : i < length us = search rules in
    record {
      resting = λ q n j. one_more_gone (rests_at q n) c.args.beginning.now us i u within c.participant-item.is j _ _ (c.loop-participant.invariant.resting q n j) (c.in_ok-note_gone.ensures.resting q n j);
      waiting = λ q n j. one_more_gone (awaits_phase q n) c.args.beginning.now us i u within c.participant-item.is j _ _ (c.loop-participant.invariant.waiting q n j) (c.in_ok-note_gone.ensures.waiting q n j);
    }

pub returns : goal.returns
returns c =
    let us = c.args.list.now in
    let past : length us ≤ c.loop-participant.participant-index = search rules in
    index_kept (map (gone_by c.args.beginning.now) us) c.loop-participant.index
    (subst (λ (l : List Participant). IsIndexOf (map (gone_by c.args.beginning.now) l) c.loop-participant.index) (take_all c.loop-participant.participant-index us past) c.loop-participant.invariant)
