use Rattle.std.proofs.Common.{◌≡◌, ◌∙◌, List, ◌∷◌, ◌++◌, [], ◌<◌, length, get_or, set, take, sym, ap, subst}
use Rattle.std.specs.Prelude.{unwrap_or}
use Rattle.std.proofs.lemmas.List.{take_more}
use Rattle.board_runs.specs.calls.Turns.{Working}
use Rattle.board_runs.specs.calls.TaskSeats.{own_number}
use Rattle.board_runs.specs.calls.Endings.{NotesPlaces}
use Rattle.board_runs.proofs.Noting.{one_noted}
use Rattle.board_runs.proofs.endings.note_places.Goals as goal

pub loop-task-preserved : goal.loop-task-preserved
loop-task-preserved c =
    let w : Working = c.task-item.result in
    let n = c.loop-task.task-index in
    let l : n < length c.args.tasks.now = c.loop-task-test.true in
    let here : own_number w ≡ c.id.result.0 = ap (λ o. unwrap_or o 0) c.id.ensures in
    let grown = take_more c.args.tasks.now n w l in
    let is : w ≡ get_or c.args.tasks.now n w = c.task-item.is in
    let within : own_number w < length c.args.places.now.items = subst (λ (v : Working). own_number v < length c.args.places.now.items) (sym is) (c.requires n w l) in
    subst (λ (ws : List Working). NotesPlaces ws c.args.places.now.items (set c.loop-task.places.items c.id.result.0 c.place.result)) (sym (grown ∙ ap (λ (v : Working). take n c.args.tasks.now ++ v ∷ []) (sym is)))
    (subst (λ t. NotesPlaces (take n c.args.tasks.now ++ w ∷ []) c.args.places.now.items (set c.loop-task.places.items t c.place.result)) here
    (one_noted (take n c.args.tasks.now) w c.args.places.now.items c.loop-task.places.items c.place.result c.loop-task.invariant within c.place.ensures))
