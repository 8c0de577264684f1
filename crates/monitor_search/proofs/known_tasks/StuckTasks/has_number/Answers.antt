use Rattle.std.proofs.Common.{Bool, ◌∙◌, ap, subst, ℕ, List}
use Rattle.std.specs.Prelude.{MatchBool}
use Rattle.monitor_search.specs.Known.{has_stuck_number}
use Rattle.monitor_search.specs.inside.Numbers.{HasNumberAt, IsPlaceOfNumber}
use Rattle.monitor_search.proofs.NumberSearch.{number_seen, number_told}
use Rattle.monitor_search.proofs.known_tasks.StuckTasks.has_number.Goals as goal

pub returns-then-is_at : goal.returns-then-is_at
returns-then-is_at c =
    let items = c.self.inside.tasks.items in
    let at = c.likely_place-likely.result in
    let number = c.args.number in
    let here : HasNumberAt items number at =
    subst (λ (b : Bool). MatchBool b (HasNumberAt items number at) (HasNumberAt items number at → ⊥)) c.if-is_at.true
    (subst (λ (l : List (ℕ × List ℕ)). MatchBool c.is_at.result (HasNumberAt l number at) (HasNumberAt l number at → ⊥)) c.deref-2.ensures.value c.is_at.ensures) in
    number_seen items number at here ∙ ap (λ (l : List (ℕ × List ℕ)). has_stuck_number l number) c.self.view_is

pub returns : goal.returns
returns c =
    let items = c.self.inside.tasks.items in
    let at = c.first_from.result in
    let number = c.args.number in
    number_told items number at c.is_at-2.result c.self.invariant
    (subst (λ (l : List (ℕ × List ℕ)). IsPlaceOfNumber l number at) c.deref-4.ensures.value c.first_from.ensures)
    (subst (λ (l : List (ℕ × List ℕ)). MatchBool c.is_at-2.result (HasNumberAt l number at) (HasNumberAt l number at → ⊥)) c.deref-3.ensures.value c.is_at-2.ensures)
    ∙ ap (λ (l : List (ℕ × List ℕ)). has_stuck_number l number) c.self.view_is
