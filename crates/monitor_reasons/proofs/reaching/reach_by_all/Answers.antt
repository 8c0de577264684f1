use Rattle.std.proofs.Common.{rules, ◌≡◌, ◌<◌, ◌≤◌, ◌&&◌, ℕ, Bool, true, length, sym, subst, inl, inr}
use Rattle.std.specs.Prelude.{Contains}
use Rattle.std.specs.List.{list_any}
use Rattle.std.proofs.lemmas.List.{take_all}
use Rattle.armus_base.proofs.Elements.{nothing_in_nil}
use Rattle.monitor_words.specs.Stops.{keeps_waiting, stands_for}
use Rattle.monitor_reasons.specs.Found.{participant_at}
use Rattle.monitor_reasons.specs.inside.Reaching.{HasDistance}
use Rattle.monitor_reasons.proofs.Filling.{fills_nothing, fills_then, reached_then}
use Rattle.monitor_reasons.proofs.Placing.{place_more}
use Rattle.monitor_reasons.proofs.reaching.reach_by_all.Goals as goal

pub loop-place-init : goal.loop-place-init
loop-place-init c = record {
  fills = fills_nothing c.args.search.now c.args.d (λ t. list_any (λ w. stands_for w c.args.u.now && keeps_waiting w (participant_at c.args.list.now t)) c.args.list.now);
  reached = λ t i listed within. absurd (nothing_in_nil i within);
  passed = c.requires.passed;
}

pub loop-place-preserved : goal.loop-place-preserved
loop-place-preserved c =
    let list = c.args.list.now in
    let u = c.args.u.now in
    let p : ℕ → Bool = λ t. list_any (λ w. stands_for w u && keeps_waiting w (participant_at list t)) list in
    let these = c.args.these.now in
    let i = c.loop-place.place-index in
    let within : i < length these = search rules in
    let now = c.in_ok-reach_for.ensures in
    record {
      fills = fills_then c.args.search.now c.loop-place.search c.reach_for.new.search c.args.d p c.loop-place.invariant.fills now.fills;
      reached = λ t j listed there. elim (place_more these i j within there) [
        | inl before ↦ λ inside stands keeps. reached_then c.loop-place.search c.reach_for.new.search c.args.d p t now.fills (c.loop-place.invariant.reached t j listed before inside stands keeps)
        | inr here ↦
            subst (λ k. k < length list → stands_for (participant_at list k) u ≡ true → keeps_waiting (participant_at list k) (participant_at list t) ≡ true → HasDistance c.reach_for.new.search t) here (now.reached t listed)
      ];
      passed = now.passed;
    }

pub returns-clause-reached : goal.returns-clause-reached
returns-clause-reached c = λ t i listed within.
    let these = c.args.these.now in
    let past : length these ≤ c.loop-place.place-index = search rules in
    c.loop-place.invariant.reached t i listed (subst (λ l. Contains l i) (sym (take_all c.loop-place.place-index these past)) within)
