use Rattle.std.proofs.Common.{◌≡◌, ◌+◌, ◌-◌, ◌++◌, ℕ, suc, List, map, ◌∙◌, ap, arith}
use Rattle.std.specs.Borrow.{Bor}
use Rattle.monitor_laws.specs.States.{Participant}
use Rattle.monitor_words.specs.Words.{wait_alike}
use Rattle.monitor_words.specs.calls.Values.{row_shown}
use Rattle.monitor_search.specs.Known.{has_stuck_number}
use Rattle.monitor_rows.specs.inside.Lent.{lent_ones}
use Rattle.monitor_rows.specs.inside.Turns.{turn_groups, turns_leave}
use Rattle.monitor_rows.proofs.rows.rows_by_turns.Goals as goal

pub loop-turn-preserved : goal.loop-turn-preserved
loop-turn-preserved c =
    let row = row_shown c.args.state.now (has_stuck_number c.args.stuck.now) in
    let k = c.args.turns - (c.loop-turn._turn + 1) in
    let one : suc k ≡ c.args.turns - c.loop-turn._turn = omega arith in
    let before = c.loop-turn.rows in (
      c.in_ok-rest.ensures.rows k
          ∙ ap (λ (l : List (Bor Participant)). before ++ map row (turn_groups wait_alike (suc k) (lent_ones l))) c.deref.ensures.value
          ∙ ap (λ (n : ℕ). before ++ map row (turn_groups wait_alike n (lent_ones c.loop-turn.rest.items))) one
          ∙ c.loop-turn.invariant.0,
      c.in_ok-rest.ensures.left k
          ∙ ap (λ (l : List (Bor Participant)). turns_leave wait_alike (suc k) (lent_ones l)) c.deref.ensures.value
          ∙ ap (λ (n : ℕ). turns_leave wait_alike n (lent_ones c.loop-turn.rest.items)) one
          ∙ c.loop-turn.invariant.1,
    )
