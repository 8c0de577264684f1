use Rattle.std.proofs.Common.{◌≤◌, ◌<◌, length, List, subst, rules}
use Rattle.std.proofs.lemmas.List.{take_all}
use Rattle.monitor_laws.specs.States.{Participant}
use Rattle.monitor_search.specs.inside.Cascades.{HaveMembers, named_group}
use Rattle.monitor_search.proofs.Groups.{members_more}
use Rattle.monitor_search.proofs.grouping.member_groups.Goals as goal

pub loop-u-preserved : goal.loop-u-preserved
loop-u-preserved c =
    let list = c.args.list.now in
    let within : c.loop-u.u-index < length list = search rules in
    members_more list c.loop-u.u-index c.u-item.result (named_group c.loop-u.groups) (named_group c.add_member.new.groups) within c.u-item.is c.loop-u.invariant c.in_ok-add_member.ensures.own c.in_ok-add_member.ensures.others

pub returns : goal.returns
returns c =
    let list = c.args.list.now in
    let past : length list ≤ c.loop-u.u-index = search rules in
    subst (λ (l : List Participant). HaveMembers l (named_group c.loop-u.groups)) (take_all c.loop-u.u-index list past) c.loop-u.invariant
