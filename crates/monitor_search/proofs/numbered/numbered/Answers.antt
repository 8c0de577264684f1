use Rattle.std.proofs.Common.{sym, subst, ◌∙◌, inl, inr, List}
use Rattle.std.specs.Prelude.{Contains}
use Rattle.monitor_laws.specs.Lawful.{AreAscending}
use Rattle.monitor_laws.specs.States.{Participant}
use Rattle.monitor_search.proofs.NumberSearch.{none_numbered, numbers_never_fall}
use Rattle.monitor_search.proofs.numbered.numbered.Goals as goal

pub returns-then-at-list-clause-none : goal.returns-then-at-list-clause-none
returns-then-at-list-clause-none c = λ u within same.
    let list = c.participants-list.result.now in
    let up = subst AreAscending (sym c.participants-list.ensures.list) c.participants-list.ensures.ascending in
    none_numbered list c.args.number c.first_listed-at.result (numbers_never_fall list up) c.first_listed-at.ensures (inl c.if-at-list.true)
    u (subst (λ (l : List Participant). Contains l u) (sym c.participants-list.ensures.list) within) same

pub returns-then-number-clause-none : goal.returns-then-number-clause-none
returns-then-number-clause-none c = λ u within same.
    let list = c.participants-list.result.now in
    let up = subst AreAscending (sym c.participants-list.ensures.list) c.participants-list.ensures.ascending in
    none_numbered list c.args.number c.first_listed-at.result (numbers_never_fall list up) c.first_listed-at.ensures
    (inr (c.index-list-at.result, c.if-at-list.false, c.index-list-at.is, λ e. c.if-number.true (c.number.ensures ∙ e)))
    u (subst (λ (l : List Participant). Contains l u) (sym c.participants-list.ensures.list) within) same

pub returns-clause-one : goal.returns-clause-one
returns-clause-one c = λ v within same.
    let here : Contains c.args.state.now.list c.index-list-at.result =
    subst (λ (l : List Participant). Contains l c.index-list-at.result) c.participants-list.ensures.list (c.first_listed-at.result, c.if-at-list.false, sym c.index-list-at.is) in
    c.participants-list.ensures.lawful.one_number v c.index-list-at.result within here (same ∙ sym c.if-number.false ∙ c.number.ensures)
