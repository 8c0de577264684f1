use Rattle.std.proofs.Common.{◌≡◌, ◌<◌, ◌+◌, ◌∙◌, ap, arith, length, sym}
use Rattle.armus_base.specs.Finals.{given_below, listed_phase}
use Rattle.armus_base.specs.calls.StatusLists.{is_marked}
use Rattle.armus_base.proofs.StatusLists.{listed_to_next, member_more, no_member_more}
use Rattle.armus_base.proofs.status_list.members.Goals.{in-Some+in_ok-push-in-Some, in-None}
use Rattle.armus_base.proofs.status_list.members.Goals as goal

pub row-init : goal.row-init
row-init g c =
    let marked = is_marked c.args.marks.now in
    let phases = (g.S.ShowsTasks.state c.args.shown.now).phases c.args.t.0 in
    let next = c.requires.nexts 0 (omega arith) in
    record {
      within = next.within;
      marked = next.is_marked;
      listed = listed_to_next marked phases (length c.args.marks.now) 0 _ c.new-members.result.items c.new-members.ensures.items next;
    }

pub row-preserved : goal.row-preserved
row-preserved g c =
    let marked = is_marked c.args.marks.now in
    let phases = (g.S.ShowsTasks.state c.args.shown.now).phases c.args.t.0 in
    let p = c.row.number in
    let i = c.row.invariant in
    let inside : p < length c.args.marks.now =
    (let few = c.row-test.true in let all = c.requires.phasers in let many = c.phasers-phasers.ensures.count in omega arith) in
    let is = i.marked inside in
    let next = c.requires.nexts (p + 1) (omega arith) in
    let more : c.match-phase.members.items ≡ given_below (listed_phase (is_marked c.args.marks.now) ((g.S.ShowsTasks.state c.args.shown.now).phases c.args.t.0)) (p + 1) =
    elim c.match-phase.branch [
      | in-Some+in_ok-push-in-Some w ↦
          ap (λ v. v.items) w.members-is ∙ w.in_ok-push-in-Some.ensures.items
          ∙ member_more marked phases p is w.in-Some.n c.row.members.items (sym c.phase.ensures.phase ∙ w.in-Some.is) i.listed
      | in-None w ↦ ap (λ v. v.items) w.members-is ∙ no_member_more marked phases p is c.row.members.items (sym c.phase.ensures.phase ∙ w.in-None.is) i.listed
    ] in
    record {
      within = next.within;
      marked = next.is_marked;
      listed = listed_to_next marked phases (length c.args.marks.now) (p + 1) _ c.match-phase.members.items more next;
    }
