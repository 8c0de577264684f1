use Rattle.std.proofs.Common.{◌≡◌, ℕ, ◌<◌, ◌≤◌, ◌+◌, ◌∙◌, [], ◌++◌, rules, length, length-append, sym, refl, ap, subst, arith, append-nil}
use Rattle.board.specs.calls.Seats.{IsSeat}
use Rattle.std.specs.Prelude.{IfSome}
use Rattle.board_runs.specs.calls.Turns.{CountsActions, Working}
use Rattle.board_runs.specs.inside.Tasks.{MakesSome}
use Rattle.board_runs.proofs.Counting.{counts_nothing, counts_on, counts_still, few_in_turn, leaves_less}
use Rattle.board_runs.proofs.Goings.{HasActed, acted_not, acted_on, acts_on, no_child_made, none_in, one_in}
use Rattle.board_runs.proofs.Halting.{ends_since_within}
use Rattle.board_runs.proofs.task.Task.act.Goals as goal
use Rattle.board_runs.proofs.task.Task.act.Goals.{In-Some}

pub act-init : goal.act-init
act-init g c =
    let w = c.args.self.now in record {
      own = [];
      acted =
          acted_not c.args.setting.now.board.now w (subst (λ (x : Working). IsSeat x.seat) c.self.view_is c.id.ensures.seat) c.requires.made c.requires.free;
      counts = λ n h. subst (λ k. CountsActions k w) (let z : n ≡ n + 0 = omega arith in z) h;
      nobody = refl;
      had = (let v = c.len-had.ensures in let l = ap (λ (x : Working). length x.children) c.self.view_is in omega arith);
      loads = omega arith;
    }

pub returns-in_err-more-clause-acts : goal.returns-in_err-more-clause-acts
returns-in_err-more-clause-acts g c =
    let i = c.act.invariant in (
      i.own ++ [],
      acts_on c.args.setting.now.board.now c.args.self.now c.act.self c.go_on.new.self i.own [] i.acted.acts c.in_err-more.ensures.err,
      search rules,
    )

pub returns-in_err-more-clause-nobody : goal.returns-in_err-more-clause-nobody
returns-in_err-more-clause-nobody g c =
    let i = c.act.invariant in
    let same : c.go_on.new.self.children ≡ c.args.self.now.children = no_child_made c.args.setting.now.board.now c.act.self c.go_on.new.self c.in_err-more.ensures.err ∙ i.nobody in
    search rules

module _ (g : _) (c : In-Some g) where
  -- what this stretch has made
  made : MakesSome c.args.setting.now.board.now c.in-Some.more c.act.self c.go_on.new.self
  made = subst (λ o. IfSome o (λ n. MakesSome c.args.setting.now.board.now n c.act.self c.go_on.new.self)) c.in-Some.is c.in_ok-more.ensures.some

  all : HasActed c.args.setting.now.board.now (c.act.invariant.own ++ made.own) (c.act.actions + c.in-Some.more) c.args.self.now c.go_on.new.self
  all =
      acted_on c.args.setting.now.board.now c.act.invariant.own made.own c.act.actions c.in-Some.more c.args.self.now c.act.self c.go_on.new.self
      c.act.invariant.acted made.acts made.counted

  counts : (n : ℕ) → CountsActions n c.args.self.now → CountsActions (n + (c.act.actions + c.in-Some.more)) c.go_on.new.self
  counts n h =
      subst (λ k. CountsActions k c.go_on.new.self) (let z : (n + c.act.actions) + c.in-Some.more ≡ n + (c.act.actions + c.in-Some.more) = omega arith in z)
      (counts_on c.args.setting.now.board.now (n + c.act.actions) c.in-Some.more c.act.self c.go_on.new.self (c.act.invariant.counts n h) made)

  grown : c.go_on.new.self.children ≡ c.args.self.now.children ++ made.acts.new
  grown = made.acts.children ∙ ap (λ ks. ks ++ made.acts.new) c.act.invariant.nobody

pub overflow_add-actions : goal.overflow_add-actions
overflow_add-actions g c =
    let at = (goal.at.overflow_add-actions g c).In-Some in
    let counted = counts g at 0 (counts_nothing c.args.self.now) in
    let l = few_in_turn (0 + (c.act.actions + c.in-Some.more)) c.go_on.new.self (made g at).acts.goes.kept.checked counted in
    omega arith

pub returns-then-len-had-clause-acts : goal.returns-then-len-had-clause-acts
returns-then-len-had-clause-acts g c =
    let at = (goal.at.returns-then-len-had-clause-acts g c).In-Some in
    (c.act.invariant.own ++ (made g at).own, (all g at).acts, (all g at).counted)

pub returns-then-len-had-clause-few : goal.returns-then-len-had-clause-few
returns-then-len-had-clause-few g c = counts g (goal.at.returns-then-len-had-clause-few g c).In-Some

pub returns-then-len-had-clause-pause : goal.returns-then-len-had-clause-pause
returns-then-len-had-clause-pause g c =
    let at = (goal.at.returns-then-len-had-clause-pause g c).In-Some in
    let m = made g at in
    let more : 0 < length m.acts.new =
    (let l = ap (λ (x : Working). length x.children) c.self-in-act.view_is in let k = ap length (grown g at) in
    let a = length-append c.args.self.now.children m.acts.new in
    let n = c.len.ensures in let t = c.if-len-had.true in let h = c.act.invariant.had in omega arith) in
    let one = one_in m.acts.new m.one_child more in
    (one.0, grown g at ∙ ap (λ ks. c.args.self.now.children ++ ks) one.1)

pub act-smaller : goal.act-smaller
act-smaller g c = leaves_less c.args.setting.now.board.now c.in-Some.more c.act.self c.go_on.new.self (made g (goal.at.act-smaller g c).In-Some)

pub act-preserved : goal.act-preserved
act-preserved g c =
    let i = c.act.invariant in
    let at = (goal.at.act-preserved g c).In-Some in
    let m = made g at in record {
      own = i.own ++ m.own;
      acted = all g at;
      counts = counts g at;
      nobody = (
          let few : length m.acts.new ≤ 0 =
          (let l = ap (λ (x : Working). length x.children) c.self-in-act.view_is in let k = ap length (grown g at) in
          let a = length-append c.args.self.now.children m.acts.new in let n = c.len.ensures in let t = c.if-len-had.false in let h = i.had in omega arith) in
          grown g at ∙ ap (λ ks. c.args.self.now.children ++ ks) (none_in m.acts.new few) ∙ append-nil c.args.self.now.children);
      had = i.had;
      loads = (let was = i.loads in let more = c.go_on.ensures.counted in omega arith);
    }

pub returns-clause-acts : goal.returns-clause-acts
returns-clause-acts g c =
    let i = c.act.invariant in
    let none = c.in_ok-more.ensures.none c.in_default.is in (
      i.own ++ [],
      acts_on c.args.setting.now.board.now c.args.self.now c.act.self c.go_on.new.self i.own [] i.acted.acts none.0,
      i.acted.counted ∙ ap length (sym (append-nil i.own)),
    )

pub returns-clause-few : goal.returns-clause-few
returns-clause-few g c = λ n h.
    let i = c.act.invariant in
    counts_still c.args.setting.now.board.now (n + c.act.actions) c.act.self c.go_on.new.self (i.counts n h) (c.in_ok-more.ensures.none c.in_default.is).0

pub returns-clause-pause : goal.returns-clause-pause
returns-clause-pause g c =
    let i = c.act.invariant in
    let none = c.in_ok-more.ensures.none c.in_default.is in
    let same = no_child_made c.args.setting.now.board.now c.act.self c.go_on.new.self none.0 ∙ i.nobody in (
      ends_since_within c.args.setting.now.bound c.go_on.new.cells.loads c.args.self.now.seat c.act.self.seat c.go_on.new.self.seat
          i.acted.acts.goes.loads none.1,
      same,
    )

pub returns-in_err-more-clause-counted : goal.returns-in_err-more-clause-counted
returns-in_err-more-clause-counted g c = (let was = c.act.invariant.loads in let more = c.go_on.ensures.counted in omega arith)

pub returns-then-len-had-clause-counted : goal.returns-then-len-had-clause-counted
returns-then-len-had-clause-counted g c = (let was = c.act.invariant.loads in let more = c.go_on.ensures.counted in omega arith)

pub returns-clause-counted : goal.returns-clause-counted
returns-clause-counted g c = (let was = c.act.invariant.loads in let more = c.go_on.ensures.counted in omega arith)
