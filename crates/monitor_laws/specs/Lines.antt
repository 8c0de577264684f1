-- Lines of a trace, as values. Names of tasks, wildcards and phasers are lists of bytes, and so are places.
use Rattle.std.specs.Prelude.{ℕ, List, Option}

-- what a line says of its task or wildcard, with the name of a phaser and a phase
pub data Announcement : Type 0 where
  Joins : (p : List ℕ) (n : ℕ) → Announcement
  Arrives : (p : List ℕ) → Announcement
  Leaves : (p : List ℕ) → Announcement
  Waits : (p : List ℕ) (n : ℕ) → Announcement
  Goes : Announcement
  Ends : Announcement
  Stands : Announcement  -- nothing but where it is

-- a line: it says nothing, asks for a report or a list, says that all with this beginning are gone, announces something with or without a place, or says who
-- may play a wildcard: any task, or one of these
pub data TraceLine : Type 0 where
  SaysNothing : TraceLine
  AsksReport : TraceLine
  AsksList : TraceLine
  AreGone : (beginning : List ℕ) → TraceLine
  Announces : (t : List ℕ) (what : Announcement) (place : Option (List ℕ)) → TraceLine
  PlaysAny : (w : List ℕ) → TraceLine
  PlaysOneOf : (w : List ℕ) (names : List (List ℕ)) → TraceLine
