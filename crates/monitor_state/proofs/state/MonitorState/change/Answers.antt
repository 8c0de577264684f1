use Rattle.std.proofs.Common.{rules, ◌≡◌, ◌+◌, ◌≤◌, ◌-◌, false, refl, sym, ◌∙◌, ap, subst, arith}
use Rattle.std.specs.List.{list_any}
use Rattle.monitor_laws.specs.Faults.{most_memberships}
use Rattle.monitor_laws.specs.States.{is_there_as, new_participant}
use Rattle.monitor_state.specs.inside.FirstPlaces.{IsFirstAt}
use Rattle.monitor_state.specs.inside.States.{IsMonitorState}
use Rattle.monitor_state.specs.inside.Changes.{MayChange, changed_value, memberships_had, put_at, put_behind}
use Rattle.monitor_state.proofs.KeptStates.{IsStep, changed_is, few_before, few_changed, few_new, first_in, had_before, in_order, holds_new, holds_there, kept_changed, kept_pushed, nobody_in, pushed_is}
use Rattle.monitor_state.proofs.state.MonitorState.change.Goals as goal

pub one_at-requires : goal.one_at-requires
one_at-requires c = (first_in c.args.self.now c.self.inside.listing c.self.inside.named c.args.t.now c.args.at c.self.view_is c.requires.place c.in-Some.at c.in-Some.is).within

pub memberships_had-before-requires : goal.memberships_had-before-requires
memberships_had-before-requires c =
    let step : IsStep c.args.self.now c.self.inside.listing c.self.inside.named c.self.inside.memberships c.args.t.now (changed_value c.args.change) = record { is = c.self.view_is; kept = c.self.invariant; line = c.requires.line; room = c.requires.few; space = c.requires.space } in
    let first : IsFirstAt (is_there_as c.args.t.now) c.self.inside.listing c.in-Some.at = (first_in c.args.self.now c.self.inside.listing c.self.inside.named c.args.t.now c.args.at c.self.view_is c.requires.place c.in-Some.at c.in-Some.is) in
    few_before c.args.self.now c.self.inside.listing c.self.inside.named c.self.inside.memberships c.args.t.now (changed_value c.args.change) step c.in-Some.at c.one_at.result.now first c.one_at.ensures

pub change_at-requires-clause-first : goal.change_at-requires-clause-first
change_at-requires-clause-first c =
    let first : IsFirstAt (is_there_as c.args.t.now) c.self.inside.listing c.in-Some.at = (first_in c.args.self.now c.self.inside.listing c.self.inside.named c.args.t.now c.args.at c.self.view_is c.requires.place c.in-Some.at c.in-Some.is) in
    first

pub change_at-requires-clause-may : goal.change_at-requires-clause-may
change_at-requires-clause-may c =
    let step : IsStep c.args.self.now c.self.inside.listing c.self.inside.named c.self.inside.memberships c.args.t.now (changed_value c.args.change) = record { is = c.self.view_is; kept = c.self.invariant; line = c.requires.line; room = c.requires.few; space = c.requires.space } in
    let first : IsFirstAt (is_there_as c.args.t.now) c.self.inside.listing c.in-Some.at = (first_in c.args.self.now c.self.inside.listing c.self.inside.named c.args.t.now c.args.at c.self.view_is c.requires.place c.in-Some.at c.in-Some.is) in
    λ u read. holds_there c.args.self.now c.self.inside.listing c.self.inside.named c.self.inside.memberships c.args.t.now (changed_value c.args.change) step c.in-Some.at u first read (MayChange c.args.change) c.requires.may

pub change_at-requires-clause-few : goal.change_at-requires-clause-few
change_at-requires-clause-few c =
    let step : IsStep c.args.self.now c.self.inside.listing c.self.inside.named c.self.inside.memberships c.args.t.now (changed_value c.args.change) = record { is = c.self.view_is; kept = c.self.invariant; line = c.requires.line; room = c.requires.few; space = c.requires.space } in
    let first : IsFirstAt (is_there_as c.args.t.now) c.self.inside.listing c.in-Some.at = (first_in c.args.self.now c.self.inside.listing c.self.inside.named c.args.t.now c.args.at c.self.view_is c.requires.place c.in-Some.at c.in-Some.is) in
    λ u read. few_changed c.args.self.now c.self.inside.listing c.self.inside.named c.self.inside.memberships c.args.t.now (changed_value c.args.change) step c.in-Some.at u first read

pub invariant_of-self : goal.invariant_of-self
invariant_of-self c =
    subst (λ l. IsMonitorState (record { list = l; named = c.self.inside.named }) c.self.inside.memberships) (sym c.in_err-after-in-Some.ensures.kept) c.self.invariant

pub returns-in_err-after-in-Some-clause-changed : goal.returns-in_err-after-in-Some-clause-changed
returns-in_err-after-in-Some-clause-changed c =
    search rules

pub returns-in_err-after-in-Some-clause-kept : goal.returns-in_err-after-in-Some-clause-kept
returns-in_err-after-in-Some-clause-kept c =
    let same : record { list = c.change_at.new.self; named = c.self.inside.named } ≡ c.args.self.now = ap (λ l. record { list = l; named = c.self.inside.named }) c.in_err-after-in-Some.ensures.kept ∙ c.self.view_is in
    search rules

pub overflow_sub-self : goal.overflow_sub-self
overflow_sub-self c =
    let step : IsStep c.args.self.now c.self.inside.listing c.self.inside.named c.self.inside.memberships c.args.t.now (changed_value c.args.change) = record { is = c.self.view_is; kept = c.self.invariant; line = c.requires.line; room = c.requires.few; space = c.requires.space } in
    let first : IsFirstAt (is_there_as c.args.t.now) c.self.inside.listing c.in-Some.at = (first_in c.args.self.now c.self.inside.listing c.self.inside.named c.args.t.now c.args.at c.self.view_is c.requires.place c.in-Some.at c.in-Some.is) in
    let part = had_before c.args.self.now c.self.inside.listing c.self.inside.named c.self.inside.memberships c.args.t.now (changed_value c.args.change) step c.in-Some.at c.one_at.result.now first c.one_at.ensures in
    let before = c.memberships_had-before.ensures in
    omega arith

pub overflow_add-self : goal.overflow_add-self
overflow_add-self c =
    let step : IsStep c.args.self.now c.self.inside.listing c.self.inside.named c.self.inside.memberships c.args.t.now (changed_value c.args.change) = record { is = c.self.view_is; kept = c.self.invariant; line = c.requires.line; room = c.requires.few; space = c.requires.space } in
    let first : IsFirstAt (is_there_as c.args.t.now) c.self.inside.listing c.in-Some.at = (first_in c.args.self.now c.self.inside.listing c.self.inside.named c.args.t.now c.args.at c.self.view_is c.requires.place c.in-Some.at c.in-Some.is) in
    let before = c.memberships_had-before.ensures in
    let after = c.in_ok-after-in-Some.ensures.count c.one_at.result.now c.one_at.ensures in
    let kept = kept_changed c.args.self.now c.self.inside.listing c.self.inside.named c.self.inside.memberships c.args.t.now (changed_value c.args.change) step c.in-Some.at c.one_at.result.now first c.one_at.ensures in
    let few : c.self.inside.memberships - memberships_had c.one_at.result.now + memberships_had (changed_value c.args.change c.one_at.result.now) ≤ most_memberships = kept.few in
    omega arith

pub invariant_of-self-in-Some : goal.invariant_of-self-in-Some
invariant_of-self-in-Some c =
    let step : IsStep c.args.self.now c.self.inside.listing c.self.inside.named c.self.inside.memberships c.args.t.now (changed_value c.args.change) = record { is = c.self.view_is; kept = c.self.invariant; line = c.requires.line; room = c.requires.few; space = c.requires.space } in
    let first : IsFirstAt (is_there_as c.args.t.now) c.self.inside.listing c.in-Some.at = (first_in c.args.self.now c.self.inside.listing c.self.inside.named c.args.t.now c.args.at c.self.view_is c.requires.place c.in-Some.at c.in-Some.is) in
    let before = c.memberships_had-before.ensures in
    let after = c.in_ok-after-in-Some.ensures.count c.one_at.result.now c.one_at.ensures in
    let kept = kept_changed c.args.self.now c.self.inside.listing c.self.inside.named c.self.inside.memberships c.args.t.now (changed_value c.args.change) step c.in-Some.at c.one_at.result.now first c.one_at.ensures in
    subst (λ l. IsMonitorState (record { list = l; named = c.self.inside.named }) (c.self.inside.memberships - c.memberships_had-before.result + c.in_ok-after-in-Some.after))
    (sym (c.in_ok-after-in-Some.ensures.changed c.one_at.result.now c.one_at.ensures))
    (subst (λ b. IsMonitorState (record { list = put_at c.self.inside.listing c.in-Some.at (changed_value c.args.change c.one_at.result.now); named = c.self.inside.named }) (c.self.inside.memberships - b + c.in_ok-after-in-Some.after)) (sym before)
    (subst (λ a. IsMonitorState (record { list = put_at c.self.inside.listing c.in-Some.at (changed_value c.args.change c.one_at.result.now); named = c.self.inside.named }) (c.self.inside.memberships - memberships_had c.one_at.result.now + a)) (sym after) kept))

pub same-self : goal.same-self
same-self c =
    refl

pub returns-in_err-named-in-None-clause-changed : goal.returns-in_err-named-in-None-clause-changed
returns-in_err-named-in-None-clause-changed c =
    search rules

pub returns-in_err-named-in-None-clause-kept : goal.returns-in_err-named-in-None-clause-kept
returns-in_err-named-in-None-clause-kept c =
    search rules

pub change_behind-requires-clause-order : goal.change_behind-requires-clause-order
change_behind-requires-clause-order c = in_order _ c.self.inside.memberships c.self.invariant

pub change_behind-requires-clause-above : goal.change_behind-requires-clause-above
change_behind-requires-clause-above c = λ u listed. c.self.invariant.lawful.numbers u listed

pub change_behind-requires-clause-may : goal.change_behind-requires-clause-may
change_behind-requires-clause-may c =
    let step : IsStep c.args.self.now c.self.inside.listing c.self.inside.named c.self.inside.memberships c.args.t.now (changed_value c.args.change) = record { is = c.self.view_is; kept = c.self.invariant; line = c.requires.line; room = c.requires.few; space = c.requires.space } in
    let none : list_any (is_there_as c.args.t.now) c.self.inside.listing ≡ false = (nobody_in c.args.self.now c.self.inside.listing c.self.inside.named c.args.t.now c.args.at c.self.view_is c.requires.place c.in-None.is) in
    holds_new c.args.self.now c.self.inside.listing c.self.inside.named c.self.inside.memberships c.args.t.now (changed_value c.args.change) step none (MayChange c.args.change) c.requires.may

pub change_behind-requires-clause-few : goal.change_behind-requires-clause-few
change_behind-requires-clause-few c =
    let step : IsStep c.args.self.now c.self.inside.listing c.self.inside.named c.self.inside.memberships c.args.t.now (changed_value c.args.change) = record { is = c.self.view_is; kept = c.self.invariant; line = c.requires.line; room = c.requires.few; space = c.requires.space } in
    let none : list_any (is_there_as c.args.t.now) c.self.inside.listing ≡ false = (nobody_in c.args.self.now c.self.inside.listing c.self.inside.named c.args.t.now c.args.at c.self.view_is c.requires.place c.in-None.is) in
    few_new c.args.self.now c.self.inside.listing c.self.inside.named c.self.inside.memberships c.args.t.now (changed_value c.args.change) step none

pub invariant_of-self-in_err-after-in-None : goal.invariant_of-self-in_err-after-in-None
invariant_of-self-in_err-after-in-None c =
    subst (λ l. IsMonitorState (record { list = l; named = c.self.inside.named }) c.self.inside.memberships) (sym c.in_err-after-in-None.ensures.kept) c.self.invariant

pub returns-in_err-after-in-None-clause-changed : goal.returns-in_err-after-in-None-clause-changed
returns-in_err-after-in-None-clause-changed c =
    search rules

pub returns-in_err-after-in-None-clause-kept : goal.returns-in_err-after-in-None-clause-kept
returns-in_err-after-in-None-clause-kept c =
    let same : record { list = c.change_behind.new.self; named = c.self.inside.named } ≡ c.args.self.now = ap (λ l. record { list = l; named = c.self.inside.named }) c.in_err-after-in-None.ensures.kept ∙ c.self.view_is in
    search rules

pub overflow_add-self-in-None : goal.overflow_add-self-in-None
overflow_add-self-in-None c =
    let step : IsStep c.args.self.now c.self.inside.listing c.self.inside.named c.self.inside.memberships c.args.t.now (changed_value c.args.change) = record { is = c.self.view_is; kept = c.self.invariant; line = c.requires.line; room = c.requires.few; space = c.requires.space } in
    let none : list_any (is_there_as c.args.t.now) c.self.inside.listing ≡ false = (nobody_in c.args.self.now c.self.inside.listing c.self.inside.named c.args.t.now c.args.at c.self.view_is c.requires.place c.in-None.is) in
    let after = c.in_ok-after-in-None.ensures.count in
    let kept = kept_pushed c.args.self.now c.self.inside.listing c.self.inside.named c.self.inside.memberships c.args.t.now (changed_value c.args.change) step none in
    let few : c.self.inside.memberships + memberships_had (changed_value c.args.change (new_participant c.self.inside.named c.args.t.now)) ≤ most_memberships = kept.few in
    omega arith

pub invariant_of-self-in-None : goal.invariant_of-self-in-None
invariant_of-self-in-None c =
    let step : IsStep c.args.self.now c.self.inside.listing c.self.inside.named c.self.inside.memberships c.args.t.now (changed_value c.args.change) = record { is = c.self.view_is; kept = c.self.invariant; line = c.requires.line; room = c.requires.few; space = c.requires.space } in
    let none : list_any (is_there_as c.args.t.now) c.self.inside.listing ≡ false = (nobody_in c.args.self.now c.self.inside.listing c.self.inside.named c.args.t.now c.args.at c.self.view_is c.requires.place c.in-None.is) in
    let after = c.in_ok-after-in-None.ensures.count in
    let kept = kept_pushed c.args.self.now c.self.inside.listing c.self.inside.named c.self.inside.memberships c.args.t.now (changed_value c.args.change) step none in
    let named : c.in_ok-named-in-None.named ≡ c.self.inside.named + 1 = search rules in
    subst (λ l. IsMonitorState (record { list = l; named = c.in_ok-named-in-None.named }) (c.self.inside.memberships + c.in_ok-after-in-None.after)) (sym c.in_ok-after-in-None.ensures.changed)
    (subst (λ n. IsMonitorState (record { list = put_behind c.self.inside.listing (changed_value c.args.change (new_participant c.self.inside.named c.args.t.now)); named = n }) (c.self.inside.memberships + c.in_ok-after-in-None.after)) (sym named)
    (subst (λ a. IsMonitorState (record { list = put_behind c.self.inside.listing (changed_value c.args.change (new_participant c.self.inside.named c.args.t.now)); named = c.self.inside.named + 1 }) (c.self.inside.memberships + a)) (sym after) kept))

pub returns-in_ok-after-in-Some-clause-changed : goal.returns-in_ok-after-in-Some-clause-changed
returns-in_ok-after-in-Some-clause-changed c =
    let step : IsStep c.args.self.now c.self.inside.listing c.self.inside.named c.self.inside.memberships c.args.t.now (changed_value c.args.change) = record { is = c.self.view_is; kept = c.self.invariant; line = c.requires.line; room = c.requires.few; space = c.requires.space } in
    let first : IsFirstAt (is_there_as c.args.t.now) c.self.inside.listing c.in-Some.at = (first_in c.args.self.now c.self.inside.listing c.self.inside.named c.args.t.now c.args.at c.self.view_is c.requires.place c.in-Some.at c.in-Some.is) in
    ap (λ l. record { list = l; named = c.self.inside.named }) (c.in_ok-after-in-Some.ensures.changed c.one_at.result.now c.one_at.ensures) ∙ changed_is c.args.self.now c.self.inside.listing c.self.inside.named c.self.inside.memberships c.args.t.now (changed_value c.args.change) step c.in-Some.at c.one_at.result.now first c.one_at.ensures

pub returns-in_ok-after-in-None-clause-changed : goal.returns-in_ok-after-in-None-clause-changed
returns-in_ok-after-in-None-clause-changed c =
    let step : IsStep c.args.self.now c.self.inside.listing c.self.inside.named c.self.inside.memberships c.args.t.now (changed_value c.args.change) = record { is = c.self.view_is; kept = c.self.invariant; line = c.requires.line; room = c.requires.few; space = c.requires.space } in
    let none : list_any (is_there_as c.args.t.now) c.self.inside.listing ≡ false = (nobody_in c.args.self.now c.self.inside.listing c.self.inside.named c.args.t.now c.args.at c.self.view_is c.requires.place c.in-None.is) in
    let named : c.in_ok-named-in-None.named ≡ c.self.inside.named + 1 = search rules in
    ap (λ l. record { list = l; named = c.in_ok-named-in-None.named }) c.in_ok-after-in-None.ensures.changed
    ∙ ap (λ n. record { list = put_behind c.self.inside.listing (changed_value c.args.change (new_participant c.self.inside.named c.args.t.now)); named = n }) named ∙ pushed_is c.args.self.now c.self.inside.listing c.self.inside.named c.self.inside.memberships c.args.t.now (changed_value c.args.change) step none

pub change_at-requires-clause-order : goal.change_at-requires-clause-order
change_at-requires-clause-order c = in_order _ c.self.inside.memberships c.self.invariant

pub change_behind-requires-clause-nobody : goal.change_behind-requires-clause-nobody
change_behind-requires-clause-nobody c = (nobody_in c.args.self.now c.self.inside.listing c.self.inside.named c.args.t.now c.args.at c.self.view_is c.requires.place c.in-None.is)
