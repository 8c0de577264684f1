-- Where a task is in its statements: the visits that are left.
use Rattle.std.specs.Prelude.{◌≡◌, ℕ, ◌+◌, ◌-◌, ◌<◌, ◌≤◌, ◌^◌, ◌==◌, if◌then◌else◌, List, [], ◌∷◌, ◌++◌, length, nat_lt, Bool, true, false, Option, Some, None}
use Rattle.armus_base.specs.Pieces.{times}
use Rattle.armus_base.specs.Offsets.{IsNear}
use Rattle.armus_base.specs.declared.offset.Offset.{Offset}
use Rattle.pl_syntax.specs.Tree.{Tree, new_task, new_phaser, reg, dereg, adv, await, skip}
use Rattle.pl_plan.specs.declared.step.NameId.{NameId}
use Rattle.pl_plan.specs.declared.step.FlatStep.{FlatStep}
use Rattle.pl_plan.specs.declared.step.FlatStep.TheVariants as a_step
use Rattle.pl_plan.specs.inside.Steps.{IsSpelled, step_at}
use Rattle.pl_plan.specs.Unfolding.{Visit, a_fork, a_loop, a_plain, a_turn, visit, visits_of}
use Rattle.explain_check.specs.declared.frames.OpenBody.{OpenBody}
use Rattle.explain_check.specs.declared.frames.Item.{Item}

-- a coming to the step with this index
abbrev pub an_item : ℕ → Bool → FlatStep → Item
an_item at turn step = record { at = at; turn = turn; step = step }

-- the frames behind a coming to a step
abbrev pub frames_at : OpenBody → FlatStep → List OpenBody → List OpenBody
frames_at f (a_step.Loop k after steady) frames =
    (frames ++ record f { at = after } ∷ []) ++ record { at = after; to = after; of_loop = f.at; left = k } ∷ []
frames_at f (a_step.Fork x after) frames = frames ++ record f { at = after } ∷ []
frames_at f (a_step.NewTask x) frames = frames ++ record f { at = f.at + 1 } ∷ []
frames_at f (a_step.NewPhaser x) frames = frames ++ record f { at = f.at + 1 } ∷ []
frames_at f (a_step.Reg x y) frames = frames ++ record f { at = f.at + 1 } ∷ []
frames_at f (a_step.Dereg x) frames = frames ++ record f { at = f.at + 1 } ∷ []
frames_at f (a_step.Adv x) frames = frames ++ record f { at = f.at + 1 } ∷ []
frames_at f (a_step.Await x off) frames = frames ++ record f { at = f.at + 1 } ∷ []
frames_at f a_step.Skip frames = frames ++ record f { at = f.at + 1 } ∷ []

-- the frames when the innermost one, which was taken away, goes on
abbrev pub frames_after : List FlatStep → OpenBody → List OpenBody → List OpenBody
frames_after steps f frames =
    if nat_lt f.at f.to then frames_at f (step_at steps f.at) frames
    else (if f.left == 0 then frames else frames ++ record f { at = f.of_loop + 1; left = f.left - 1 } ∷ [])

-- the coming with which it goes on, if there is one
abbrev pub next_item : List FlatStep → OpenBody → Option Item
next_item steps f =
    if nat_lt f.at f.to then Some (an_item f.at false (step_at steps f.at)) else (if f.left == 0 then None else Some (an_item f.of_loop true a_step.Skip))

-- the visits that a frame has left: those of its statements from one on, and the turns of its loop
pub record FrameIs (n : ℕ) (names : ℕ → List ℕ) (steps : List FlatStep) (f : OpenBody) (ms : List Visit) : Type 0 where
  pub rest : Tree
  pub rest_there : IsSpelled n names steps f.at rest f.to
  pub body : Tree
  pub body_there : 0 < f.left → IsSpelled n names steps (f.of_loop + 1) body f.to
  pub within : f.to ≤ length steps
  pub small : f.of_loop + 1 < 2 ^ 32
  pub visits_are : ms ≡ visits_of (f.at + 1) rest ++ times f.left (visit (f.of_loop + 1) a_turn ∷ visits_of (f.of_loop + 1 + 1) body)

-- the visits that frames have left, from outside in: the innermost one is first to go on
abbrev pub FramesAre : ℕ → (ℕ → List ℕ) → List FlatStep → List OpenBody → List Visit → Type 0
FramesAre n names steps [] ms = ms ≡ []
FramesAre n names steps (f ∷ fs) ms =
    (inner : List Visit) × (own : List Visit) × FrameIs n names steps f own × FramesAre n names steps fs inner × (ms ≡ inner ++ own)

-- a coming to a step is this visit
pub data Comes (n : ℕ) (names : ℕ → List ℕ) (steps : List FlatStep) : Item → Visit → Type 0 where
  to_new_task : {at : ℕ} (x : NameId) → x.0 < n → Comes n names steps (an_item at false (a_step.NewTask x)) (visit (at + 1) (a_plain (new_task (names x.0))))
  to_new_phaser : {at : ℕ} (x : NameId) → x.0 < n → Comes n names steps (an_item at false (a_step.NewPhaser x)) (visit (at + 1) (a_plain (new_phaser (names x.0))))
  to_reg :
      {at : ℕ} (x y : NameId) → x.0 < n → y.0 < n →
      Comes n names steps (an_item at false (a_step.Reg x y)) (visit (at + 1) (a_plain (reg (names x.0) (names y.0))))
  to_dereg : {at : ℕ} (x : NameId) → x.0 < n → Comes n names steps (an_item at false (a_step.Dereg x)) (visit (at + 1) (a_plain (dereg (names x.0))))
  to_adv : {at : ℕ} (x : NameId) → x.0 < n → Comes n names steps (an_item at false (a_step.Adv x)) (visit (at + 1) (a_plain (adv (names x.0))))
  to_await :
      {at : ℕ} (x : NameId) (off : Offset) → x.0 < n → IsNear off →
      Comes n names steps (an_item at false (a_step.Await x off)) (visit (at + 1) (a_plain (await (names x.0) off)))
  to_skip : {at : ℕ} → Comes n names steps (an_item at false a_step.Skip) (visit (at + 1) (a_plain skip))
  to_fork :
      {at : ℕ} (x : NameId) (after : ℕ) (body : Tree) → x.0 < n → after ≤ length steps → IsSpelled n names steps (at + 1) body after →
      Comes n names steps (an_item at false (a_step.Fork x after)) (visit (at + 1) (a_fork (names x.0) body))
  to_loop : {at : ℕ} (k after : ℕ) (steady : Bool) → Comes n names steps (an_item at false (a_step.Loop k after steady)) (visit (at + 1) a_loop)
  to_turn : {at : ℕ} → Comes n names steps (an_item at true a_step.Skip) (visit (at + 1) a_turn)
