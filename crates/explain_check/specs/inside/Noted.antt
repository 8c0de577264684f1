-- What is noted of the stages that passed, and what the notes tell.
use Rattle.std.specs.Prelude.{◌≡◌, ℕ, ◌+◌, ◌<◌, ◌≤◌, ◌==◌, Bool, ◌&&◌, if◌then◌else◌, List, [], ◌∷◌, ◌++◌, length, slice_set, slice_index_or, Option, Some, None}
use Rattle.pl_plan.specs.declared.step.NameId.{NameId}
use Rattle.pl_plan.specs.declared.step.FlatStep.{FlatStep}
use Rattle.pl_plan.specs.declared.step.FlatStep.TheVariants as a_step
use Rattle.pl_plan.specs.declared.step.Thing as code
use Rattle.pl_plan.specs.declared.step.Thing.TheVariants as a_thing
use Rattle.pl_plan.specs.Unfolding.{UnfoldingState}
use Rattle.pl_plan.specs.Stages.{Stage}
use Rattle.explain_check.specs.Deeds as deeds
use Rattle.explain_check.specs.Deeds.{did_draw, did_fork, last_that, did_leave, did_make, name_given, or_else, did_register, stage_statement}
use Rattle.explain_check.specs.Turns.{turn_in, visits_among}
use Rattle.explain_check.specs.declared.notes.Deed.{Deed}
use Rattle.explain_check.specs.declared.notes.LastTurn.{LastTurn}
use Rattle.explain_check.specs.declared.notes.Note.{Note}
use Rattle.explain_check.specs.declared.sight.StepSight.{StepSight}

-- ---- notes

-- a deed of this kind, on one or two things
abbrev pub a_deed : ℕ → ℕ → ℕ → Deed
a_deed kind first second = record { kind = kind; first = first; second = second }

-- two deeds are one
abbrev pub same_deed : Deed → Deed → Bool
same_deed a b = (a.kind == b.kind) && ((a.first == b.first) && (a.second == b.second))

-- the last note of this deed
abbrev pub last_noted : Deed → List Note → Option Note
last_noted deed [] = None
last_noted deed (x ∷ xs) = or_else (if same_deed x.deed deed then Some x else None) (last_noted deed xs)

-- the number of a task, and 0 of what is none
abbrev pub task_in : code.Thing → ℕ
task_in a_thing.Nothing = 0
task_in (a_thing.Task c) = c.0
task_in (a_thing.Phaser p) = 0

-- the number of a phaser, and 0 of what is none
abbrev pub phaser_in : code.Thing → ℕ
phaser_in a_thing.Nothing = 0
phaser_in (a_thing.Task c) = 0
phaser_in (a_thing.Phaser p) = p.0

-- the notes of a visit that passes, which are one or none, by its step
abbrev pub notes_at : StepSight → FlatStep → List Note
notes_at v (a_step.NewTask x) = record { deed = a_deed 0 v.tasks 0; statement = v.item.at + 1; name = Some x } ∷ []
notes_at v (a_step.NewPhaser x) = record { deed = a_deed 1 v.phasers 0; statement = v.item.at + 1; name = Some x } ∷ []
notes_at v (a_step.Fork x after) = record { deed = a_deed 2 (task_in v.x) 0; statement = v.item.at + 1; name = None } ∷ []
notes_at v (a_step.Reg x y) = record { deed = a_deed 3 (task_in v.x) (phaser_in v.y); statement = v.item.at + 1; name = None } ∷ []
notes_at v (a_step.Dereg x) = record { deed = a_deed 4 v.t.0 (phaser_in v.x); statement = v.item.at + 1; name = None } ∷ []
notes_at v (a_step.Adv x) = []
notes_at v (a_step.Await x off) = []
notes_at v a_step.Skip = []
notes_at v (a_step.Loop k after steady) = []

-- the notes with those of this visit
abbrev pub with_notes : StepSight → List Note → List Note
with_notes v notes = notes ++ notes_at v v.item.step

-- ---- last turns

-- before the first turn
abbrev pub no_turn : LastTurn
no_turn = record { task = record { 0 = 0 }; turn = 0 }

-- the number of a last turn, where it is one of task t, and else 0
abbrev pub turn_by : ℕ → LastTurn → ℕ
turn_by t last = if last.task.0 == t then last.turn else 0

-- in which turn task t is of the loop whose step has this index
abbrev pub turn_at : List LastTurn → ℕ → ℕ → ℕ
turn_at last_turns t at = turn_by t (slice_index_or last_turns at no_turn)

-- the last turns with this visit, by its step
abbrev pub last_turns_at : StepSight → FlatStep → List LastTurn → List LastTurn
last_turns_at v (a_step.Loop k after steady) last_turns = slice_set last_turns v.item.at (record { task = v.t; turn = 0 })
last_turns_at v (a_step.NewTask x) last_turns = last_turns
last_turns_at v (a_step.NewPhaser x) last_turns = last_turns
last_turns_at v (a_step.Fork x after) last_turns = last_turns
last_turns_at v (a_step.Reg x y) last_turns = last_turns
last_turns_at v (a_step.Dereg x) last_turns = last_turns
last_turns_at v (a_step.Adv x) last_turns = last_turns
last_turns_at v (a_step.Await x off) last_turns = last_turns
last_turns_at v a_step.Skip last_turns = last_turns

-- the last turns with this visit
abbrev pub with_last_turn : StepSight → List LastTurn → List LastTurn
with_last_turn v last_turns =
    if v.item.turn then slice_set last_turns v.item.at (record { task = v.t; turn = turn_at last_turns v.t.0 v.item.at + 1 }) else last_turns_at v v.item.step last_turns

-- ---- what they tell

-- the bytes of a name, if there is one
abbrev pub name_by : (ℕ → List ℕ) → Option NameId → List ℕ
name_by names None = []
name_by names (Some x) = names x.0

-- a note tells of this stage
abbrev pub MarkTells : (ℕ → List ℕ) → Option Note → Option Stage → Type 0
MarkTells names None None = Unit {0}
MarkTells names (Some note) (Some v) = (stage_statement (Some v) ≡ note.statement) × (name_given (Some v) ≡ name_by names note.name)
MarkTells names None (Some v) = ⊥
MarkTells names (Some note) None = ⊥

-- the deed that is noted, and the one of the definitions
pub data MeansDeed : Deed → deeds.Deed → Type 0 where
  means_drew : {c : ℕ} → MeansDeed (a_deed 0 c 0) (did_draw c)
  means_made : {p : ℕ} → MeansDeed (a_deed 1 p 0) (did_make p)
  means_forked : {c : ℕ} → MeansDeed (a_deed 2 c 0) (did_fork c)
  means_registered : {c p : ℕ} → MeansDeed (a_deed 3 c p) (did_register c p)
  means_left : {u p : ℕ} → MeansDeed (a_deed 4 u p) (did_leave u p)

-- the notes tell the last stage that did a thing, of these stages behind this state
abbrev pub NotesTell : (ℕ → List ℕ) → UnfoldingState → List Stage → List Note → Type 0
NotesTell names first stages notes = (d : Deed) (did : deeds.Deed) → MeansDeed d did → MarkTells names (last_noted d notes) (last_that did first stages)

-- the last turns tell the turns in which task t is
abbrev pub TurnsTold : ℕ → List Stage → List LastTurn → Type 0
TurnsTold t stages last_turns = (at : ℕ) → turn_at last_turns t at ≡ turn_in (at + 1) (visits_among t stages)

-- the last turns while task t is unfolded, of so many steps and behind so many visits: none is of a later task, and no visit is one of a later task
pub record LastTurnsTell (t steps visits : ℕ) (stages : List Stage) (last_turns : List LastTurn) : Type 0 where
  pub many : length last_turns ≡ steps
  pub earlier : (at : ℕ) → (slice_index_or last_turns at no_turn).task.0 ≤ t
  pub few : (at : ℕ) → (slice_index_or last_turns at no_turn).turn ≤ visits
  pub later : (u : ℕ) → t < u → visits_among u stages ≡ []
  pub turns : TurnsTold t stages last_turns
