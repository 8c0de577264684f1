use Rattle.std.proofs.Common.{◌≡◌, ◌∙◌, ◌++◌, List, ℕ, ap, map, subst}
use Rattle.source_map.specs.Origins.{phaser_origins, statement_in, task_origins}
use Rattle.pl_plan.specs.Unfolding.{Coming}
use Rattle.explain_facts.specs.Names.{all_names, given_name, names_given}
use Rattle.explain_facts.specs.inside.Spelled.{AreShared, name_by_shared, spellings}
use Rattle.explain_facts.proofs.NamesSeen.{drawn_all, named_by_shared}
use Rattle.explain_facts.proofs.names.program_names.Goals as goal

pub returns : goal.returns
returns c =
    let p = c.args.program.now in
    let o = c.args.origins.now in
    let given : List Coming → List ℕ → List (List ℕ) = λ written statements. map (λ n. given_name (statement_in written n)) statements in
    let drawn_from : c.deref.result.now ≡ task_origins p =
    c.deref.ensures.value ∙ c.in_ok-statements.ensures ∙ drawn_all o.tasks c.args.tasks c.requires.tasks ∙ c.requires.origins.tasks in
    let drawn : spellings c.in_ok-drawn.drawn.items ≡ names_given p (task_origins p) =
    c.in_ok-drawn.ensures ∙ ap (given o.statements) drawn_from ∙ ap (λ written. given written (task_origins p)) c.requires.origins.statements in
    let made : spellings c.in_ok-made.made.items ≡ names_given p (phaser_origins p) =
    c.in_ok-made.ensures ∙ ap (given o.statements) (c.phasers.ensures ∙ c.requires.origins.phasers)
    ∙ ap (λ written. given written (phaser_origins p)) c.requires.origins.statements in
    let all : spellings c.deref-2.result.now ++ spellings c.deref-3.result.now ≡ all_names p =
    ap (λ xs. spellings xs ++ spellings c.deref-3.result.now) c.deref-2.ensures.value
    ∙ ap (λ xs. spellings c.in_ok-drawn.drawn.items ++ spellings xs) c.deref-3.ensures.value
    ∙ ap (λ xs. xs ++ spellings c.in_ok-made.made.items) drawn ∙ ap (λ xs. names_given p (task_origins p) ++ xs) made in
    let shared = spellings c.in_ok-shared.shared.keys in
    let are : AreShared (all_names p) shared = subst (λ xs. AreShared xs shared) all c.in_ok-shared.ensures in
    let tasks = c.in_ok-all_named.ensures ∙ ap (λ xs. map (name_by_shared shared) (spellings xs)) c.deref-4.ensures.value ∙ ap (map (name_by_shared shared)) drawn
    ∙ named_by_shared (all_names p) shared are (names_given p (task_origins p)) in
    let phasers = c.in_ok-all_named-2.ensures ∙ ap (λ xs. map (name_by_shared shared) (spellings xs)) c.deref-5.ensures.value
    ∙ ap (map (name_by_shared shared)) made ∙ named_by_shared (all_names p) shared are (names_given p (phaser_origins p)) in
    λ i. record { tasks = tasks i; phasers = phasers i }
