use Rattle.std.proofs.Common.{◌≡◌, ℕ, List, map, sym, ◌∙◌, ap}
use Rattle.std.specs.Prelude.{filter}
use Rattle.monitor_laws.specs.States.{Participant}
use Rattle.monitor_words.specs.Stops.{keeps_waiting}
use Rattle.monitor_words.specs.Words.{keep_alike, keepers_of, waited_event}
use Rattle.monitor_words.specs.calls.Values.{group_shown}
use Rattle.monitor_search.specs.Known.{has_stuck_number}
use Rattle.monitor_rows.specs.inside.Lent.{lent_ones}
use Rattle.monitor_rows.specs.inside.Turns.{turn_groups, turns_leave}
use Rattle.monitor_rows.proofs.Alike.{keep_alike_laws}
use Rattle.monitor_rows.proofs.Groups.{turns_find, turns_left}
use Rattle.monitor_rows.proofs.keepers.shown_keepers.Goals as goal

pub returns-clause-groups : goal.returns-clause-groups
returns-clause-groups c =
    let stuck = has_stuck_number c.args.stuck.now in
    let t = c.args.t.now in
    let all = keepers_of c.args.state.now t in
    let lent : lent_ones c.in_ok-keepers.keepers.items ≡ all = c.in_ok-keepers.ensures ∙ ap (filter (λ u. keeps_waiting u t)) c.participants.ensures.list in
    c.in_ok-shown.ensures.groups
    ∙ ap (λ (l : List Participant). map (group_shown stuck c.args.p.now) (turn_groups (keep_alike stuck c.args.p.now) 3 l)) lent
    ∙ ap (λ (q : List ℕ). map (group_shown stuck q) (turn_groups (keep_alike stuck q) 3 all)) c.requires
    ∙ ap (map (group_shown stuck (waited_event t).0)) (sym (turns_find (keep_alike stuck (waited_event t).0) (keep_alike_laws stuck (waited_event t).0) 3 all))

pub returns-clause-left : goal.returns-clause-left
returns-clause-left c =
    let stuck = has_stuck_number c.args.stuck.now in
    let t = c.args.t.now in
    let all = keepers_of c.args.state.now t in
    let lent : lent_ones c.in_ok-keepers.keepers.items ≡ all = c.in_ok-keepers.ensures ∙ ap (filter (λ u. keeps_waiting u t)) c.participants.ensures.list in
    c.in_ok-shown.ensures.left
    ∙ ap (λ (l : List Participant). turns_leave (keep_alike stuck c.args.p.now) 3 l) lent
    ∙ ap (λ (q : List ℕ). turns_leave (keep_alike stuck q) 3 all) c.requires
    ∙ sym (turns_left (keep_alike stuck (waited_event t).0) (keep_alike_laws stuck (waited_event t).0) 3 all)
