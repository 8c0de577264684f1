use Rattle.std.proofs.Common.{◌+◌, [], ◌++◌, rules, subst, arith}
use Rattle.board.specs.calls.Seats.{IsSeat}
use Rattle.board_runs.specs.declared.task.Pause.{Pause}
use Rattle.board_runs.specs.calls.Turns.{PausesAt, Working}
use Rattle.board_runs.proofs.Counting.{counts_nothing, few_in_turn, forked_some, leaves_by}
use Rattle.board_runs.proofs.Goings.{acted_not, acted_on, acts_on}
use Rattle.board_runs.proofs.Halting.{ends_since_within}
use Rattle.board_runs.proofs.task.TaskTakeTurn.turn.Goals as goal

pub turn-init : goal.turn-init
turn-init g c = record {
  own = [];
  acted =
      acted_not c.args.setting.now.board.now c.args.self.now (subst (λ (x : Working). IsSeat x.seat) c.self.view_is c.id.ensures.seat) c.requires.made
      c.requires.free;
  counts = counts_nothing c.args.self.now;
  loads = omega arith;
}

pub returns-in_err-acted-clause-acts : goal.returns-in_err-acted-clause-acts
returns-in_err-acted-clause-acts g c =
    let i = c.turn.invariant in
    let a = c.in_err-acted.ensures.acts in (
      i.own ++ a.0,
      acts_on c.args.setting.now.board.now c.args.self.now c.turn.self c.act.new.self i.own a.0 i.acted.acts a.1,
      search rules,
    )

pub overflow_add-made : goal.overflow_add-made
overflow_add-made g c =
    let i = c.turn.invariant in
    let a = c.in_ok-acted.ensures.acts in
    let l = few_in_turn (c.turn.made + c.in_ok-acted.acted.actions) c.act.new.self a.1.goes.kept.checked (c.in_ok-acted.ensures.few c.turn.made i.counts) in
    omega arith

pub turn-smaller : goal.turn-smaller
turn-smaller g c =
    let a = c.in_ok-acted.ensures.acts in
    let forked = subst (λ (p : Pause). PausesAt c.args.setting.now.bound c.act.new.cells.loads p c.turn.self c.act.new.self) c.in-Forked.is c.in_ok-acted.ensures.pause in
    leaves_by c.args.setting.now.board.now a.0 c.turn.self c.act.new.self a.1 (forked_some c.args.setting.now.board.now a.0 c.turn.self c.act.new.self forked.0 a.1 forked.1)

pub turn-preserved : goal.turn-preserved
turn-preserved g c =
    let i = c.turn.invariant in
    let a = c.in_ok-acted.ensures.acts in record {
      own = i.own ++ a.0;
      acted = acted_on c.args.setting.now.board.now i.own a.0 c.turn.made c.in_ok-acted.acted.actions c.args.self.now c.turn.self c.act.new.self i.acted a.1 a.2;
      counts = c.in_ok-acted.ensures.few c.turn.made i.counts;
      loads = (let was = i.loads in let more = c.act.ensures.counted in omega arith);
    }

pub returns-in-TurnOver-clause-acts : goal.returns-in-TurnOver-clause-acts
returns-in-TurnOver-clause-acts g c =
    let i = c.turn.invariant in
    let a = c.in_ok-acted.ensures.acts in
    let f = c.args.setting.now.board.now in
    let all = acted_on f i.own a.0 c.turn.made c.in_ok-acted.acted.actions c.args.self.now c.turn.self c.act.new.self i.acted a.1 a.2 in
    (i.own ++ a.0, all.acts, all.counted)

pub returns-in-TurnOver-clause-few : goal.returns-in-TurnOver-clause-few
returns-in-TurnOver-clause-few g c =
    let i = c.turn.invariant in
    let a = c.in_ok-acted.ensures.acts in
    let l = few_in_turn (c.turn.made + c.in_ok-acted.acted.actions) c.act.new.self a.1.goes.kept.checked (c.in_ok-acted.ensures.few c.turn.made i.counts) in
    omega arith

pub returns-in-TurnOver-clause-ends : goal.returns-in-TurnOver-clause-ends
returns-in-TurnOver-clause-ends g c =
    let over = subst (λ (p : Pause). PausesAt c.args.setting.now.bound c.act.new.cells.loads p c.turn.self c.act.new.self) c.in-TurnOver.is c.in_ok-acted.ensures.pause in
    let loads = c.turn.invariant.acted.acts.goes.loads in
    ends_since_within c.args.setting.now.bound c.act.new.cells.loads c.args.self.now.seat c.turn.self.seat c.act.new.self.seat loads over.0

pub returns-in_err-acted-clause-counted : goal.returns-in_err-acted-clause-counted
returns-in_err-acted-clause-counted g c = (let was = c.turn.invariant.loads in let more = c.act.ensures.counted in omega arith)

pub returns-in-TurnOver-clause-counted : goal.returns-in-TurnOver-clause-counted
returns-in-TurnOver-clause-counted g c = (let was = c.turn.invariant.loads in let more = c.act.ensures.counted in omega arith)
