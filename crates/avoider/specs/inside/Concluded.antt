-- What is done on a board once an await is judged.
use Rattle.std.specs.Prelude.{◌≡◌, Option, None, Some, Result, Ok, Err, length, option_map}
use Rattle.armus_base.specs.declared.errors.NoMemory.{NoMemory}
use Rattle.armus_base.specs.declared.event.Event.{Event}
use Rattle.armus_base.specs.Offsets.{target}
use Rattle.armus_base.specs.Plans.{Aim, Blocks, Refuses}
use Rattle.board.specs.calls.Locking.{FreesLock, MayRefuse}
use Rattle.board.specs.calls.Seats.{Known, MakesStep, MayPublish}
use Rattle.board.specs.calls.Steps.{own_phase}
use Rattle.verdict.specs.declared.found.Cycle.{Cycle}
use Rattle.avoider.specs.calls.OnBoard.{DropsBelow, IsPossibleByLock}
use Rattle.avoider.specs.declared.decision.Decision.{Decision}
use Rattle.avoider.specs.declared.decision.Decision.TheVariants.{Published, Refused}

-- the seat may publish its await with this aim where no cycle was found, and may refuse it where one was
abbrev pub MayConclude : Aim → Known → Option Cycle → Type 0
MayConclude aim store None = MayPublish store aim
MayConclude aim store (Some c) = MayRefuse store aim

-- the event of the await with this aim was published, and then the lock was freed
pub record PublishesAndFrees (aim : Aim) (e : Event) (store now : Known) : Type 0 where
  pub phaser : e.p.0 ≡ aim.phaser
  pub phase : option_map (target aim.off) (own_phase store.view aim.phaser) ≡ Some e.n
  pub possible : IsPossibleByLock store
  pub stored : Known
  pub step : MakesStep (Blocks aim) store stored
  pub freed : FreesLock stored now

-- the await with this aim was refused, then the lock was freed, and then the task has dropped all its phasers, in order of number
pub record RefusesAndLeaves (aim : Aim) (store now : Known) : Type 0 where
  pub possible : IsPossibleByLock store
  pub stored : Known
  pub step : MakesStep (Refuses aim) store stored
  pub free : Known
  pub freed : FreesLock stored free
  pub drops : DropsBelow (own_phase free.view) (length store.view.plan.makers) free now

-- what was done where this was found
abbrev pub IsConcluded : Aim → Option Cycle → Known → Known → Decision → Type 0
IsConcluded aim found store now (Published e) = (found ≡ None) × PublishesAndFrees aim e store now
IsConcluded aim found store now (Refused c) = (found ≡ Some c) × RefusesAndLeaves aim store now

-- what was done, and answered, where this was answered by the judge; without an answer the lock was freed
abbrev pub Concludes : Aim → Result (Option Cycle) NoMemory → Known → Known → Result Decision NoMemory → Type 0
Concludes aim (Ok found) store now (Ok d) = IsConcluded aim found store now d
Concludes aim (Ok found) store now (Err e) = ⊥
Concludes aim (Err e) store now (Ok d) = ⊥
Concludes aim (Err e) store now (Err f) = FreesLock store now
