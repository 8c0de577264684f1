use Rattle.std.proofs.Common.{◌≡◌, ◌∙◌, ◌+◌, ◌-◌, ◌<◌, ap, sum_by, [], ◌∷◌, ◌++◌, IfOk, List, map, rules, add-one, length, set, get_or, suc, sym, refl, subst, arith}
use Rattle.std.proofs.lemmas.List.{length-map}
use Rattle.std.proofs.lemmas.List.Sums.{sum_by_push}
use Rattle.board_runs.specs.calls.Turns.{MakesActions, CountsLoadsOf, EachActs, EndsTurnWithin, MayTakeTurn, Working, by_one_worker, in_32_bits, in_64_bits}
use Rattle.board_runs.proofs.Rounding.{IsSoFar, all_each, all_end, at_rest, count_more, ends_by_made, map_get, map_set, next_done, next_is, next_stops, stopped}
use Rattle.board_runs.proofs.rounds.take_turns_in_order.Goals as goal

pub loop-task-init : goal.loop-task-init
loop-task-init g c = record { owns = []; total = 0; so_far = at_rest; counted = omega arith; actions = refl }

pub turn-requires : goal.turn-requires
turn-requires g c =
    let working = g.T.TakeTurn.working in
    let n = c.loop-task.task-index in
    let less : n < length (map working c.loop-task.tasks) = (let t = c.loop-task-test.true in let s = c.loop-task.auto.tasks in let m = length-map c.loop-task.tasks working in omega arith) in
    let may = subst (MayTakeTurn c.args.setting.now.board.now) (map_get working c.loop-task.tasks n c.task-item.result) (next_is (MayTakeTurn c.args.setting.now.board.now) (working c.task-item.result) c.loop-task.invariant.so_far c.requires.ready less) in
    record { made = may.of_board; free = may.free }

pub returns-in_err-turn : goal.returns-in_err-turn
returns-in_err-turn g c =
    let working = g.T.TakeTurn.working in
    let n = c.loop-task.task-index in
    let f = c.args.setting.now.board.now in
    let d = c.task-item.result in
    let less : n < length (map working c.loop-task.tasks) = (let t = c.loop-task-test.true in let s = c.loop-task.auto.tasks in let m = length-map c.loop-task.tasks working in omega arith) in
    let acts = c.in_err-turn.ensures.acts in
    let bad : IfOk c.from_residual.result (λ n. ⊥) = search rules in
    let now = subst (λ (w : Working). MakesActions f acts.0 w (working c.turn.new.self)) (sym (map_get working c.loop-task.tasks n d)) acts.1 in
    let stops = next_stops acts.0 (working d) (working c.turn.new.self) c.loop-task.invariant.so_far c.requires.ready less now in
    record {
      turns =
          stopped c.args.setting.now.bound f (map working c.args.tasks.now) (map working (set c.loop-task.tasks n c.turn.new.self)) c.from_residual.result bad
          (stops.0, subst (λ (ws : List Working). EachActs f stops.0 (map working c.args.tasks.now) ws) (sym (map_set working c.loop-task.tasks n c.turn.new.self)) stops.1);
    }

pub loop-task-preserved : goal.loop-task-preserved
loop-task-preserved g c =
    let working = g.T.TakeTurn.working in
    let n = c.loop-task.task-index in
    let f = c.args.setting.now.board.now in
    let d = c.task-item.result in
    let less : n < length (map working c.loop-task.tasks) = (let t = c.loop-task-test.true in let s = c.loop-task.auto.tasks in let m = length-map c.loop-task.tasks working in omega arith) in
    let i = c.loop-task.invariant in
    let acts = c.in_ok-turn.ensures.acts in
    let now = subst (λ (w : Working). MakesActions f acts.0 w (working c.turn.new.self)) (sym (map_get working c.loop-task.tasks n d)) acts.1 in
    let was = working (get_or c.loop-task.tasks n d) in
    let is = working c.turn.new.self in
    let acted : MakesActions f acts.0 was is = acts.1 in
    let counts : CountsLoadsOf was.seat is.seat c.loop-task.cells c.turn.new.cells = search rules in
    let made = is.seat.view.loads - was.seat.view.loads in
    let more : is.seat.view.loads ≡ was.seat.view.loads + made = (let l = acted.goes.loads in omega arith) in
    let start : c.saturating_add-bound.result ≡ in_64_bits (c.args.cells.now.loads + c.args.setting.now.bound) =
    (let had = c.loads.ensures in let most = c.saturating_add-bound.ensures in omega arith) in
    let ends =
    ends_by_made c.args.setting.now.bound c.saturating_add-bound.result c.args.cells.now.loads i.total made c.loop-task.cells.loads c.turn.new.cells.loads was.seat is.seat
    start i.counted counts more c.in_ok-turn.ensures.ends in
    record {
      owns = i.owns ++ acts.0 ∷ [];
      total = i.total + made;
      counted = (let had = i.counted in let noted = counts in omega arith);
      so_far =
          subst (λ k. IsSoFar c.args.setting.now.bound f k 0 (i.total + made) (i.owns ++ acts.0 ∷ []) (map working c.args.tasks.now) (map working (set c.loop-task.tasks n c.turn.new.self))) (sym (add-one n))
          (subst (λ (ws : List Working). IsSoFar c.args.setting.now.bound f (suc n) 0 (i.total + made) (i.owns ++ acts.0 ∷ []) (map working c.args.tasks.now) ws) (sym (map_set working c.loop-task.tasks n c.turn.new.self))
          (next_done made acts.0 (working d) is i.so_far less now
          (subst (λ (w : Working). is.seat.view.loads ≡ w.seat.view.loads + made) (sym (map_get working c.loop-task.tasks n d)) more)
          (subst (λ (w : Working). EndsTurnWithin c.args.setting.now.bound (i.total + made) w.seat is.seat) (sym (map_get working c.loop-task.tasks n d)) ends)));
      actions =
          c.saturating_add-made.ensures ∙ ap (λ a. in_32_bits (a + c.in_ok-turn.field-0)) i.actions ∙ count_more (sum_by length i.owns) c.in_ok-turn.field-0
          ∙ ap (λ k. in_32_bits (sum_by length i.owns + k)) acts.2 ∙ ap in_32_bits (sym (sum_by_push length i.owns acts.0));
    }

pub returns : goal.returns
returns g c =
    let working = g.T.TakeTurn.working in
    let i = c.loop-task.invariant in
    let all : c.loop-task.task-index ≡ length (map working c.loop-task.tasks) =
    (let l = c.loop-task-test.false in let m = c.loop-task.auto.task-index-end in let k = length-map c.loop-task.tasks working in omega arith) in
    record {
      turns = record {
        owns = i.owns;
        each = all_each i.so_far all;
        actions = i.actions;
        ends = by_one_worker (all_end i.so_far all);
      };
    }
