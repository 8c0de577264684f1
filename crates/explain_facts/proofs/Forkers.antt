-- Who is told to be forked is forked by the task that drew it.
use Rattle.std.proofs.Common.{◌≡◌, ℕ, Option, Some, None, refl, sym, ap, subst, ◌∙◌}
use Rattle.std.specs.Prelude.{MatchOption, slice_get, slice_index_or}
use Rattle.std.proofs.lemmas.Option.{get_or_from_slice_get}
use Rattle.armus_base.specs.CheckedPlans.{HasFork}
use Rattle.armus_base.specs.Plans.{Plan, number_or_zero, parent_of}
use Rattle.armus_base.specs.declared.ids.TaskId.{TaskId}
use Rattle.pl_plan.specs.Forks.{fork_of}
use Rattle.pl_plan.specs.Unfolding.{Start}
use Rattle.pl_plan.proofs.ForkedByParents.{forked_is_started, started_is_forked}
use Rattle.source_map.specs.Origins.{start_of}
use Rattle.source_map.proofs.TasksVisits.{fork_by_start}
use Rattle.explain_facts.specs.Accounts.{Layout, forked_by}
use Rattle.explain_facts.specs.calls.Laws.{ForkersFork}
use Rattle.explain_facts.specs.declared.account.Forked.{Forked}
use Rattle.pl_plan.proofs.TextsAreNear.{text_is_checked, text_is_near}

-- what is told, by its start and its parent
told :
    (l : Layout) (plan : Plan) (t : ℕ) (o : Option Start) (u : TaskId) → ((start : Start) → o ≡ Some start → HasFork plan t) →
    (HasFork plan t → o ≡ None → ⊥) → u.0 ≡ parent_of plan t →
    MatchOption (forked_by l (fork_of o) (Some u)) (HasFork plan t → ⊥) (λ f. HasFork plan t × (f.by.0 ≡ parent_of plan t))
told l plan t None u forked started parent = λ fork. started fork refl
told l plan t (Some start) u forked started parent = (forked start refl, parent)

pub parent_is : (plan : Plan) (t : ℕ) (u : TaskId) → slice_get plan.parents t ≡ Some (Some u) → u.0 ≡ parent_of plan t
unfolding parent_of
parent_is plan t u is = sym (ap number_or_zero is)

pub forkers_fork : ForkersFork
forkers_fork text p plan s done account unfolds known t d pos lt =
    let near = text_is_near text p known.reads in
    let checked = text_is_checked text p plan known.reads unfolds in
    let (u, drawn) = checked.tables.drawn t pos lt in
    let parent : slice_index_or plan.parents t None ≡ Some u = get_or_from_slice_get plan.parents t (Some u) None drawn in
    let here : (slice_index_or account.tasks t d).fork ≡ forked_by known.layout (fork_of (start_of p t)) (Some u) =
    (known.each t d lt).fork ∙ (ap (λ o. forked_by known.layout o (slice_index_or plan.parents t None)) (fork_by_start p t)
    ∙ ap (forked_by known.layout (fork_of (start_of p t))) parent) in
    subst (λ (o : Option Forked). MatchOption o (HasFork plan t → ⊥) (λ f. HasFork plan t × (f.by.0 ≡ parent_of plan t))) (sym here)
    (told known.layout plan t (start_of p t) u (started_is_forked p plan near unfolds t pos) (forked_is_started p plan near unfolds t pos) (parent_is plan t u drawn))
