use Rattle.std.proofs.Common.{◌≡◌, ◌++◌, [], List, map, subst, sym, ap, ◌∙◌}
use Rattle.std.proofs.lemmas.List.{map-append}
use Rattle.armus_base.specs.declared.ids.TaskId.{TaskId}
use Rattle.explain_deadlock.specs.Paragraphs.{explained_tasks, shown_waiting}
use Rattle.explain_tasks.specs.Sayings.{Said, own_said}
use Rattle.explain_tasks.specs.calls.Grouped.{IsGrouped}
use Rattle.explain_deadlock.specs.inside.Grouped.{own_told, said_in}
use Rattle.explain_deadlock.proofs.MembersAre.{said_of_told}
use Rattle.explain_deadlock.proofs.paragraphs.own_groups.Goals as goal

pub returns : goal.returns
returns c =
    let f = c.args.facts.now in
    let g = c.put_each.new.groups in
    let first : c.deref.result.now ≡ shown_waiting f c.args.shown.now = c.deref.ensures.value ∙ c.in_ok-first.ensures in
    let all : c.deref-2.result.now ≡ explained_tasks f = c.deref-2.ensures.value ∙ c.in_ok-all.ensures in
    let whole : IsGrouped (said_in (map (own_told f) c.deref.result.now) ++ said_in (map (own_told f) c.deref-2.result.now)) (map (own_told f) c.deref-2.result.now) g =
    c.in_ok-put_each.ensures (said_in (map (own_told f) c.deref.result.now)) [] (c.in_ok-note_each.ensures.noted [] [] c.new-groups.ensures) in
    let order : said_in (map (own_told f) (shown_waiting f c.args.shown.now)) ++ said_in (map (own_told f) (explained_tasks f)) ≡ map (λ (t : TaskId). own_said f t.0) (shown_waiting f c.args.shown.now ++ explained_tasks f) =
    ap (λ xs. xs ++ said_in (map (own_told f) (explained_tasks f))) (said_of_told f (shown_waiting f c.args.shown.now))
    ∙ ap (λ xs. map (λ (t : TaskId). own_said f t.0) (shown_waiting f c.args.shown.now) ++ xs) (said_of_told f (explained_tasks f))
    ∙ sym (map-append (λ (t : TaskId). own_said f t.0) (shown_waiting f c.args.shown.now) (explained_tasks f)) in
    subst (λ (o : List Said). IsGrouped o (map (own_told f) (explained_tasks f)) g) order
    (subst (λ (xs : List TaskId). IsGrouped (said_in (map (own_told f) xs) ++ said_in (map (own_told f) (explained_tasks f))) (map (own_told f) (explained_tasks f)) g) first
    (subst (λ (xs : List TaskId). IsGrouped (said_in (map (own_told f) c.deref.result.now) ++ said_in (map (own_told f) xs)) (map (own_told f) xs) g) all whole))
