use Rattle.std.proofs.Common.{rules, ◌≡◌, ◌<◌, ◌≤◌, ℕ, Bool, true, length, get_or, sym, subst, inl, inr}
use Rattle.std.specs.Prelude.{Contains}
use Rattle.std.specs.List.{list_any}
use Rattle.std.proofs.lemmas.List.{take_all}
use Rattle.std.proofs.lemmas.List.Folds.{list_any_at}
use Rattle.armus_base.proofs.Elements.{nothing_in_nil}
use Rattle.monitor_search.specs.Known.{has_stuck_number}
use Rattle.monitor_reasons.specs.inside.Distances.{stops_at}
use Rattle.monitor_reasons.specs.inside.Listings.{listing}
use Rattle.monitor_reasons.specs.inside.Reaching.{HasDistance}
use Rattle.monitor_reasons.proofs.Filling.{fills_more, fills_nothing, fills_then, reached_then}
use Rattle.monitor_reasons.proofs.Placing.{place_more}
use Rattle.monitor_reasons.proofs.reaching.reach_level.Goals as goal

pub loop-u-init : goal.loop-u-init
loop-u-init c = record {
  fills = fills_nothing c.args.search.now c.args.d (λ t. list_any (λ u. stops_at (listing c.args.list.now) (has_stuck_number c.args.stuck.now) u t) c.args.behind.now);
  reached = λ t u listed within. absurd (nothing_in_nil u within);
  passed = c.requires.passed;
}

pub loop-u-preserved : goal.loop-u-preserved
loop-u-preserved c =
    let stops = stops_at (listing c.args.list.now) (has_stuck_number c.args.stuck.now) in
    let behind = c.args.behind.now in
    let p : ℕ → Bool = λ t. list_any (λ u. stops u t) behind in
    let i = c.loop-u.u-index in
    let within : i < length behind = search rules in
    let now = c.in_ok-reach_stopped.ensures in
    let fills = fills_more c.loop-u.search c.reach_stopped.new.search c.args.d (stops (get_or behind i 0)) p (λ t goes. list_any_at (λ u. stops u t) behind i 0 within goes) now.fills in
    record {
      fills = fills_then c.args.search.now c.loop-u.search c.reach_stopped.new.search c.args.d p c.loop-u.invariant.fills fills;
      reached = λ t u listed there. elim (place_more behind i u within there) [
        | inl before ↦ λ goes. reached_then c.loop-u.search c.reach_stopped.new.search c.args.d p t fills (c.loop-u.invariant.reached t u listed before goes)
        | inr here ↦ subst (λ k. stops k t ≡ true → HasDistance c.reach_stopped.new.search t) here (now.reached t listed)
      ];
      passed = now.passed;
    }

pub returns-clause-reached : goal.returns-clause-reached
returns-clause-reached c = λ t u listed within.
    let behind = c.args.behind.now in
    let past : length behind ≤ c.loop-u.u-index = search rules in
    c.loop-u.invariant.reached t u listed (subst (λ l. Contains l u) (sym (take_all c.loop-u.u-index behind past)) within)
