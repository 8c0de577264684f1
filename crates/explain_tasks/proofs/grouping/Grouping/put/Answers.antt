use Rattle.std.proofs.Common.{◌≡◌, ◌∷◌, [], ◌++◌, map, length, refl, ap, ◌∙◌, set, Vec, Global, length-set}
use Rattle.std.specs.Vec.{with_item}
use Rattle.std.proofs.lemmas.List.{map-set}
use Rattle.std.proofs.lemmas.Option.{slice_get_read}
use Rattle.std.proofs.lemmas.List.Elements.{Contains-push}
use Rattle.armus_base.specs.declared.ids.TaskId.{TaskId}
use Rattle.explain_tasks.specs.calls.Grouped.{members_of}
use Rattle.explain_tasks.specs.calls.SayingValues.{said_by}
use Rattle.explain_tasks.proofs.Noted.{group_at, put_told}
use Rattle.explain_tasks.proofs.grouping.Grouping.put.Goals as goal

pub returns-clause-put : goal.returns-clause-put
returns-clause-put c order put was =
    let n = c.in_ok-at.ensures.noted order put was in
    let s = said_by c.args.saying in
    let mid = c.note.new.self in
    let own : c.index_mut.result.now.items ≡ members_of put s = group_at (order ++ s ∷ []) put mid s c.in_ok-at.at c.index_mut.result.now n.0 n.2
    (slice_get_read mid.groups.items (length mid.groups.items) c.in_ok-at.at c.index_mut.result.now refl (c.in_ok-at.ensures.inside c.requires.sized) c.index_mut.ensures.value) in
    put_told (order ++ s ∷ []) put mid (record { sayings = mid.sayings; groups = with_item mid.groups c.in_ok-at.at c.push.new.self }) s c.args.t c.in_ok-at.at n.0
    (Contains-push order s) n.2 refl
    (map-set (λ (w : Vec TaskId Global). w.items) mid.groups.items c.in_ok-at.at c.push.new.self
    ∙ ap (λ x. set (map (λ (w : Vec TaskId Global). w.items) mid.groups.items) c.in_ok-at.at x) (c.in_ok-push.ensures.items ∙ ap (λ xs. xs ++ c.args.t ∷ []) own))

pub returns-clause-sized : goal.returns-clause-sized
returns-clause-sized c = length-set c.note.new.self.groups.items c.in_ok-at.at c.push.new.self ∙ c.in_ok-at.ensures.sized c.requires.sized
