use Rattle.std.proofs.Common.{◌≡◌, ◌∙◌, ◌<◌, All, [], List, length, ap, sym, subst}
use Rattle.armus_base.specs.Plans.{Plan}
use Rattle.pl_core.specs.declared.place.Place.{Place as KeptPlace}
use Rattle.board_runs.specs.calls.Turns.{Working}
use Rattle.board_runs.specs.calls.TaskSeats.{ArePlacesOf, AreTasksOf, Tasks, all_of, own_number}
use Rattle.board_runs.specs.calls.Endings.{NotesPlaces}
use Rattle.board_runs.proofs.Noting.{noted_more}
use Rattle.board_runs.proofs.Rejoining.{both_within}
use Rattle.board_runs.proofs.board_tasks.BoardTasks.places.Goals as goal

pub note_places-requires : goal.note_places-requires
note_places-requires c =
    let count : length c.args.board.now.plan.parents ≡ length c.in_ok-places.places.items =
    ap (λ (q : Plan). length q.parents) c.requires.plan ∙ sym c.in_ok-places.ensures.places.one_each in
    subst (λ (ws : List Working). All (λ (w : Working). own_number w < length c.in_ok-places.places.items) ws) (sym c.as_slice.ensures.value)
    (both_within c.args.board.now (record { live = c.self.inside.live.items; ended = c.self.inside.ended.items }) (subst (AreTasksOf c.args.board.now) (sym c.self.view_is) c.requires.tasks) (length c.in_ok-places.places.items) count).0

pub note_places-requires-2 : goal.note_places-requires-2
note_places-requires-2 c =
    let count : length c.args.board.now.plan.parents ≡ length c.note_places.new.places.items =
    ap (λ (q : Plan). length q.parents) c.requires.plan ∙ sym (c.note_places.ensures.count ∙ c.in_ok-places.ensures.places.one_each) in
    subst (λ (ws : List Working). All (λ (w : Working). own_number w < length c.note_places.new.places.items) ws) (sym c.as_slice-2.ensures.value)
    (both_within c.args.board.now (record { live = c.self.inside.live.items; ended = c.self.inside.ended.items }) (subst (AreTasksOf c.args.board.now) (sym c.self.view_is) c.requires.tasks) (length c.note_places.new.places.items) count).1

pub returns : goal.returns
returns c =
    let plan = c.args.plan.now in
    let now : Tasks = (record { live = c.self.inside.live.items; ended = c.self.inside.ended.items }) in
    let first = c.in_ok-places.places.items in
    let between = c.note_places.new.places.items in
    let last = c.note_places-2.new.places.items in
    let live = subst (λ (ws : List Working). NotesPlaces ws first between) c.as_slice.ensures.value c.note_places.ensures in
    let ended = subst (λ (ws : List Working). NotesPlaces ws between last) c.as_slice-2.ensures.value c.note_places-2.ensures in
    let places : ArePlacesOf plan (all_of now) last =
    noted_more plan now.live now.ended between last (noted_more plan [] now.live first between c.in_ok-places.ensures.places live) ended in
    record {
      places =
          subst (λ (w : Tasks). ArePlacesOf plan (all_of w) c.from_vec.result) c.self.view_is
          (subst (λ (ps : List KeptPlace). ArePlacesOf plan (all_of now) ps) (sym c.from_vec.ensures.items) places);
    }
