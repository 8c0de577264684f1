-- What changes by a line: who becomes stuck, and who is stuck no more.
use Rattle.std.specs.Prelude.{◌≡◌, ℕ, Bool, true, List, [], ◌++◌, ◌↔◌}
use Rattle.monitor_laws.specs.Faults.{faults_of}
use Rattle.monitor_laws.specs.Lines.{TraceLine}
use Rattle.monitor_laws.specs.States.{TraceState, after_line}
use Rattle.monitor_laws.specs.Lawful.{IsLawfulState}
use Rattle.monitor_search.specs.Known.{AreStuckTasks, has_stuck_number}
use Rattle.monitor_words.specs.Messages.{IsToldOf, resolved_words, those_only_in}
use Rattle.monitor_messages.specs.Runs.{MakesStuck}

-- a legal line leads from a state to another, of both of which the stuck tasks are known
pub record TakesTo (s : TraceState) (l : TraceLine) (was : List (ℕ × List ℕ)) (after : TraceState) (stuck : List (ℕ × List ℕ)) : Type 0 where
  pub lawful : IsLawfulState s
  pub legal : faults_of s l ≡ []
  pub leads : after ≡ after_line s l
  pub before : AreStuckTasks s was
  pub behind : AreStuckTasks after stuck

-- these bytes, which were appended, tell who is stuck no more, and who becomes stuck; and whether somebody does
abbrev pub TellsChange : TraceState → TraceLine → List (ℕ × List ℕ) → TraceState → List (ℕ × List ℕ) → List ℕ → List ℕ → Bool → Type 0
TellsChange s l was after stuck old new told =
    (words : List ℕ)
    × IsToldOf s after (has_stuck_number was) (has_stuck_number stuck) (those_only_in after (has_stuck_number stuck) (has_stuck_number was)) words
    × (new ≡ old ++ (resolved_words (those_only_in s (has_stuck_number was) (has_stuck_number stuck)) ++ words))
    × ((told ≡ true) ↔ MakesStuck s l)

-- a legal line leads from a state of which the stuck tasks are known to another
pub record IsKnownBefore (s : TraceState) (l : TraceLine) (was : List (ℕ × List ℕ)) (after : TraceState) : Type 0 where
  pub lawful : IsLawfulState s
  pub legal : faults_of s l ≡ []
  pub leads : after ≡ after_line s l
  pub before : AreStuckTasks s was
