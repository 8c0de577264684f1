-- Rounds of avoided runs in a world: how each run that leads there goes on.
use Rattle.std.specs.Prelude.{◌≡◌, ℕ, Bool, false, List, [], ◌++◌, MatchBool}
use Rattle.armus_base.specs.Plans.{Plan}
use Rattle.armus_base.specs.Runs.{IsLegalRun, places}
use Rattle.armus_base.specs.Serial.{GoesOn, IsTurn, RoundBelow}
use Rattle.armus_base.specs.States.{Step}
use Rattle.pl_core.specs.calls.Worlds.{WorldValue, places_of}

-- the run leads to the world: it is legal, and its places are those of the world
pub record LeadsTo (plan : Plan) (h : List Step) (w : WorldValue) : Type 0 where
  pub plan_is : w.plan ≡ plan
  pub run : IsLegalRun plan h
  pub there : places h ≡ places_of w

-- each run that leads to the old world goes on by steps of task t alone to one that leads to the new world; by none where it has not moved
abbrev pub GoesOnTo : WorldValue → WorldValue → ℕ → Bool → Type 0
GoesOnTo old new t moved =
    (h : List Step) → LeadsTo old.plan h old →
    (own : List Step) × LeadsTo old.plan (own ++ h) new × GoesOn old.plan t h own × (moved ≡ false → own ≡ [])

-- each run that leads to the old world leads, through the turn of task t if it has one, to the new world
abbrev pub HasPart : WorldValue → WorldValue → ℕ → Bool → Bool → Type 0
HasPart old new t has moved =
    (h : List Step) → LeadsTo old.plan h old →
    (g : List Step) × LeadsTo old.plan g new × MatchBool has (IsTurn old.plan t h g) (g ≡ h) × (moved ≡ false → g ≡ h)

-- each run that leads to the old world leads, through the turns of a round of the tasks below k, to the new world
abbrev pub HasRoundBelow : WorldValue → WorldValue → ℕ → Bool → Type 0
HasRoundBelow old new k moved =
    (h : List Step) → LeadsTo old.plan h old →
    (g : List Step) × LeadsTo old.plan g new × RoundBelow old.plan k h g × (moved ≡ false → g ≡ h)
