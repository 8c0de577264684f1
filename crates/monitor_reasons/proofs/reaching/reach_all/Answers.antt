use Rattle.std.proofs.Common.{◌≡◌, ◌<◌, ◌≤◌, ℕ, Bool, true, length, refl, sym, ◌∙◌, subst, inl, inr, rules}
use Rattle.std.specs.Prelude.{Contains}
use Rattle.std.proofs.lemmas.List.{take_all}
use Rattle.armus_base.proofs.Elements.{nothing_in_nil}
use Rattle.monitor_words.specs.Stops.{keeps_waiting}
use Rattle.monitor_reasons.specs.Found.{participant_at}
use Rattle.monitor_reasons.specs.inside.Reaching.{HasDistance}
use Rattle.monitor_reasons.proofs.Placing.{place_more}
use Rattle.monitor_reasons.proofs.Filling.{fills_nothing, fills_then, reached_then}
use Rattle.monitor_reasons.proofs.reaching.reach_all.Goals as goal

pub loop-place-init : goal.loop-place-init
loop-place-init c = record {
  fills = fills_nothing c.args.search.now c.args.d (λ t. keeps_waiting c.args.w.now (participant_at c.args.list.now t));
  reached = λ t within. absurd (nothing_in_nil t within);
  passed = refl;
}

pub loop-place-preserved : goal.loop-place-preserved
loop-place-preserved c =
    let p : ℕ → Bool = λ t. keeps_waiting c.args.w.now (participant_at c.args.list.now t) in
    let places = c.args.places.now in
    let i = c.loop-place.place-index in
    let within : i < length places = search rules in
    let now = c.in_ok-reach.ensures in
    record {
      fills = fills_then c.args.search.now c.loop-place.search c.reach.new.search c.args.d p c.loop-place.invariant.fills now.fills;
      reached = λ t there. elim (place_more places i t within there) [
        | inl before ↦ λ listed keeps. reached_then c.loop-place.search c.reach.new.search c.args.d p t now.fills (c.loop-place.invariant.reached t before listed keeps)
        | inr here ↦ subst (λ k. k < length c.args.list.now → keeps_waiting c.args.w.now (participant_at c.args.list.now k) ≡ true → HasDistance c.reach.new.search k) here now.reached
      ];
      passed = now.passed ∙ c.loop-place.invariant.passed;
    }

pub returns-clause-reached : goal.returns-clause-reached
returns-clause-reached c = λ t within.
    let places = c.args.places.now in
    let past : length places ≤ c.loop-place.place-index = search rules in
    c.loop-place.invariant.reached t (subst (λ l. Contains l t) (sym (take_all c.loop-place.place-index places past)) within)
