use Rattle.std.proofs.Common.{rules, ◌≡◌, ◌<◌, ◌≤◌, ℕ, Bool, List, length, get_or, sym, ◌∙◌, ap, subst, inl, inr}
use Rattle.std.specs.Prelude.{Contains}
use Rattle.std.proofs.lemmas.Bool.{ltb-true}
use Rattle.std.proofs.lemmas.List.{take_all}
use Rattle.std.proofs.lemmas.Slice.Eq.{bytes_eq-Decides}
use Rattle.armus_base.proofs.Elements.{nothing_in_nil}
use Rattle.monitor_laws.specs.States.{Waiting}
use Rattle.monitor_laws.specs.Stuck.{has_phase_below}
use Rattle.monitor_words.specs.Stops.{keeps_waiting}
use Rattle.monitor_search.proofs.ByIndex.{phase_is_one}
use Rattle.monitor_reasons.specs.Found.{participant_at}
use Rattle.monitor_reasons.proofs.Filling.{fills_nothing, fills_then, reached_then}
use Rattle.monitor_reasons.proofs.Passing.{waits_if_kept}
use Rattle.monitor_reasons.proofs.Placing.{one_more_of}
use Rattle.monitor_reasons.proofs.reaching.reach_by.Goals as goal

pub loop-membership-init : goal.loop-membership-init
loop-membership-init c = record {
  fills = fills_nothing c.args.search.now c.args.d (λ t. keeps_waiting c.args.w.now (participant_at c.args.list.now t));
  reached = λ t m n within waits listed below less. absurd (nothing_in_nil m listed);
  passed = c.requires.passed;
}

pub loop-membership-preserved : goal.loop-membership-preserved
loop-membership-preserved c =
    let ms = c.args.w.now.phases in
    let i = c.loop-membership.membership-index in
    let m : List ℕ × ℕ = c.membership-item.result in
    let items = c.as_slice-membership-items.ensures ∙ c.memberships.ensures in
    let is : m ≡ get_or ms i m = c.membership-item.is ∙ ap (λ (l : List (List ℕ × ℕ)). get_or l i m) items in
    let within : i < length ms = search rules in
    let p : ℕ → Bool = λ t. keeps_waiting c.args.w.now (participant_at c.args.list.now t) in
    let now = c.in_ok-reach_on.ensures in
    record {
      fills = fills_then c.args.search.now c.loop-membership.search c.reach_on.new.search c.args.d p c.loop-membership.invariant.fills now.fills;
      reached = λ t k n listed waits member below less. elim (one_more_of ms i m k within is member) [
        | inl old ↦ reached_then c.loop-membership.search c.reach_on.new.search c.args.d p t now.fills (c.loop-membership.invariant.reached t k n listed waits old below less)
        | inr new ↦
            now.reached t n listed (waits ∙ ap (λ (x : List ℕ × ℕ). Waiting x.0 n) (sym new)) (ap (λ (x : List ℕ × ℕ). has_phase_below c.args.w.now x.0 n) new ∙ below)
            (subst (λ (x : List ℕ × ℕ). x.1 < n) (sym new) less)
      ];
      passed = now.passed;
    }

pub returns-clause-reached : goal.returns-clause-reached
returns-clause-reached c = λ t within keeps.
    let ms = c.args.w.now.phases in
    let past : length ms ≤ c.loop-membership.membership-index = search rules in
    let e = waits_if_kept c.args.w.now (participant_at c.args.list.now t).condition keeps in
    let m = phase_is_one ms e.0 e.1 e.3 in
    let same : e.0 ≡ m.0.0 = (bytes_eq-Decides e.0 m.0.0).0 m.2 in
    c.loop-membership.invariant.reached t m.0 e.1 within (e.2 ∙ ap (λ x. Waiting x e.1) same)
    (subst (λ (l : List (List ℕ × ℕ)). Contains l m.0) (sym (take_all c.loop-membership.membership-index ms past)) m.1)
    (ap (λ x. has_phase_below c.args.w.now x e.1) (sym same) ∙ e.3) (ltb-true m.0.1 e.1 m.3)
