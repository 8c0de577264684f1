use Rattle.std.proofs.Common.{◌≡◌, ◌≢◌, ◌++◌, List, [], All, length, drop, map, Ok, true, sym, subst, rules}
use Rattle.std.specs.Prelude.{◌↔◌}
use Rattle.std.specs.List.{flat_map}
use Rattle.std.specs.List.Sorted.{IsPermutation}
use Rattle.armus_base.specs.Plans.{Plan}
use Rattle.board_runs.specs.calls.Turns.{EachActs, EachEndsTurn, MayTakeTurn, Working}
use Rattle.board_runs.specs.calls.Rounds.{all_forked, emptied, fresh_of}
use Rattle.board_runs.specs.inside.Rounds.{IsAtStart, IsChildIn}
use Rattle.board_runs.proofs.Between.{take_front, to_each}
use Rattle.board_runs.proofs.TaskSeatsKept.{starts}
use Rattle.board_runs.proofs.Forking.{forks_counted, same_forked}
use Rattle.board_runs.proofs.Rounding.{of_itself, ready_itself}
use Rattle.board_runs.proofs.board_tasks.go_round.Goals as goal

pub take_on-requires : goal.take_on-requires
take_on-requires g c =
    let turns = of_itself c.args.setting.now.bound c.args.setting.now.board.now c.as_mut_slice-turned.result.now c.take_turns.new.tasks (Ok c.in_ok-actions.actions) c.in_ok-actions.ensures.turns in
    let olds : c.as_mut_slice-turned.result.now ≡ c.args.tasks.now.items = c.as_mut_slice-turned.ensures.value in
    let none = subst (λ (ws : List Working). All (λ (w : Working). w.children ≡ []) ws) (sym olds) c.requires.no_child in
    let whole = take_front c.take_turns.new.tasks (drop (length c.take_turns.new.tasks) c.args.tasks.now.items) c.args.tasks.now.len (search rules) in record {
      start = λ seat at.
          subst (λ (q : Plan). IsAtStart q seat) c.requires.plan
          (starts c.args.setting.now.board.now turns.owns c.as_mut_slice-turned.result.now c.take_turns.new.tasks turns.each (to_each (λ (w : Working). w.children ≡ []) c.as_mut_slice-turned.result.now none) seat
          (subst (λ (ws : List Working). IsChildIn ws seat) whole at));
    }

pub returns : goal.returns
returns g c =
    let bound = c.args.setting.now.bound in
    let board = c.args.setting.now.board.now in
    let turned = c.take_turns.new.tasks in
    let olds : c.as_mut_slice-turned.result.now ≡ c.args.tasks.now.items = c.as_mut_slice-turned.ensures.value in
    let turns = of_itself bound board c.as_mut_slice-turned.result.now turned (Ok c.in_ok-actions.actions) c.in_ok-actions.ensures.turns in
    let each = subst (λ (ws : List Working). EachActs board turns.owns ws turned) olds turns.each in
    let whole = take_front turned (drop (length turned) c.args.tasks.now.items) c.args.tasks.now.len (search rules) in
    record {
      round = record {
        owns = turns.owns;
        turned = turned;
        each = each;
        ends = subst (λ (ws : List Working). EachEndsTurn bound ws turned) olds turns.ends;
        joined = subst (λ (ws : List Working). IsPermutation (map emptied ws ++ flat_map fresh_of ws) c.take_on.new.tasks.items) whole c.in_ok-forked.ensures.joined;
        actions = turns.actions;
        forked =
            same_forked c.in_ok-forked.forked (flat_map fresh_of turned) (all_forked turns.owns)
            (forks_counted each (to_each (λ (w : Working). w.children ≡ []) c.args.tasks.now.items c.requires.no_child))
            (subst (λ (ws : List Working). c.in_ok-forked.forked ≡ true ↔ (flat_map fresh_of ws ≢ [])) whole c.in_ok-forked.ensures.forked);
      };
    }

pub take_turns-requires-clause-ready : goal.take_turns-requires-clause-ready
take_turns-requires-clause-ready g c κs within =
    ready_itself c.args.setting.now.board.now c.as_mut_slice-turned.result.now
    (subst (λ (ws : List Working). All (MayTakeTurn c.args.setting.now.board.now) ws) (sym c.as_mut_slice-turned.ensures.value) c.requires.ready)
