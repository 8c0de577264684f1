use Rattle.std.proofs.Common.{◌<◌, length, sym, subst, rules}
use Rattle.monitor_search.specs.inside.Cascades.{AreOfList, named_group}
use Rattle.monitor_search.proofs.Groups.{of_list_added}
use Rattle.monitor_search.proofs.grouping.waiting_groups.Goals as goal
use Rattle.monitor_search.proofs.grouping.waiting_groups.Goals.{in-Waiting+in_ok-add_to_group, in_default}

pub loop-u-preserved : goal.loop-u-preserved
loop-u-preserved c =
    let list = c.args.list.now in
    let within : c.loop-u.u-index < length list = search rules in
    elim c.match-condition.branch [
      | in-Waiting+in_ok-add_to_group w ↦
          subst (λ groups. AreOfList list (named_group groups)) (sym w.groups-is)
          (of_list_added (named_group c.loop-u.groups) (named_group w.add_to_group.new.groups) w.deref.result.now c.u-item.result w.in_ok-add_to_group.ensures.own w.in_ok-add_to_group.ensures.others
          list (c.loop-u.u-index, within, sym c.u-item.is) c.loop-u.invariant)
      | in_default w ↦ subst (λ groups. AreOfList list (named_group groups)) (sym w.groups-is) c.loop-u.invariant
    ]
