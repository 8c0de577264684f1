use Rattle.std.proofs.Common.{◌≡◌, ◌+◌, ◌-◌, ◌++◌, ℕ, suc, List, map, ◌∙◌, ap, arith}
use Rattle.std.specs.Borrow.{Bor}
use Rattle.monitor_laws.specs.States.{Participant}
use Rattle.monitor_words.specs.Words.{keep_alike}
use Rattle.monitor_words.specs.calls.Values.{group_shown}
use Rattle.monitor_search.specs.Known.{has_stuck_number}
use Rattle.monitor_rows.specs.inside.Lent.{lent_ones}
use Rattle.monitor_rows.specs.inside.Turns.{turn_groups, turns_leave}
use Rattle.monitor_rows.proofs.keepers.group_keepers.Goals as goal

pub loop-turn-preserved : goal.loop-turn-preserved
loop-turn-preserved c =
    let stuck = has_stuck_number c.args.stuck.now in
    let p = c.args.p.now in
    let alike = keep_alike stuck p in
    let k = 3 - (c.loop-turn._turn + 1) in
    let one : suc k ≡ 3 - c.loop-turn._turn = omega arith in
    let before = c.loop-turn.groups in (
      c.in_ok-rest.ensures.groups k
          ∙ ap (λ (l : List (Bor Participant)). before ++ map (group_shown stuck p) (turn_groups alike (suc k) (lent_ones l))) c.deref.ensures.value
          ∙ ap (λ (n : ℕ). before ++ map (group_shown stuck p) (turn_groups alike n (lent_ones c.loop-turn.rest.items))) one
          ∙ c.loop-turn.invariant.0,
      c.in_ok-rest.ensures.left k
          ∙ ap (λ (l : List (Bor Participant)). turns_leave alike (suc k) (lent_ones l)) c.deref.ensures.value
          ∙ ap (λ (n : ℕ). turns_leave alike n (lent_ones c.loop-turn.rest.items)) one
          ∙ c.loop-turn.invariant.1,
    )
