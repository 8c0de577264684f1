-- Texts of one plan are replayed and recorded alike.
use Rattle.std.specs.Prelude.{◌≡◌, ◌↔◌, ℕ, []}
use Rattle.armus_base.specs.Plans.{Plan}
use Rattle.schedule.specs.Split.{IsSplit}
use Rattle.program_io.specs.Texts.{Text}
use Rattle.program_io.specs.Programs.{IsPlanOf}
use Rattle.armus_top.specs.Records.{IsRecordOf}
use Rattle.armus_top.specs.Replays.{IsReplayOf, IsShort}

-- both texts have the same plan, or neither has one
abbrev pub HaveOnePlan : Text → Text → Type 0
HaveOnePlan a b = (plan : Plan) → IsPlanOf a plan ↔ IsPlanOf b plan

-- a replay goes by the plan of its text and by its schedule alone: two inputs of texts that are not too long, with one plan and one schedule, have the same answers
abbrev pub ReplayGoesByPlan : Type 0
ReplayGoesByPlan =
    (x y a b schedule : Text) (status : ℕ) (report : Text) → IsSplit x a schedule → IsSplit y b schedule → IsShort a → IsShort b → HaveOnePlan a b →
    IsReplayOf x status report ↔ IsReplayOf y status report

-- a text that has a plan is, as an input of `replay`, all text, and its schedule is empty
abbrev pub TextsHaveNoSchedule : Type 0
TextsHaveNoSchedule = (text : Text) (plan : Plan) → IsPlanOf text plan → IsSplit text text []

-- for each record of a text there is one of another text of the same plan, with the same journal and the same status
abbrev pub RecordGoesByPlan : Type 0
RecordGoesByPlan =
    (a b : Text) (status : ℕ) (text : Text) (r : IsRecordOf a status text) → HaveOnePlan a b →
    (other : Text) × (s : IsRecordOf b status other) × (s.journal ≡ r.journal)
