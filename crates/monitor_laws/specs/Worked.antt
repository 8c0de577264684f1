-- What no law fixes, by worked traces, and what the premises of the laws are for. The last line of a trace stands first.
use Rattle.std.specs.Prelude.{◌≡◌, ℕ, List, [], ◌∷◌, Option, Some, None, codes, replicate}
use Rattle.monitor_laws.specs.Lines.{Announcement, Joins, Arrives, Leaves, Waits, Goes, Ends, Stands, TraceLine, AreGone, Announces, PlaysAny, PlaysOneOf}
use Rattle.monitor_laws.specs.States.{Condition, Running, Waiting, Ended, OneOf, Participant, TraceState, after_lines}
use Rattle.monitor_laws.specs.Faults.{Malformed, NamesTask, NamesWildcard, StillWaits, DoesNotWait, IsMemberAlready, IsNoMember, IsAtLastPhase, TooManyListed, TooManyMemberships, first_fault}
use Rattle.monitor_laws.specs.Stuck.{IsStuck}
use Rattle.monitor_laws.specs.Traces.{HasNoWildcard, HasOrderedJoins, HasTrueGoes, IsHonest, IsLasting, IsLegalTrace, IsMixedFrom}
use Rattle.monitor_laws.specs.Laws.{unnumbered}

-- without a place
abbrev pub says : List ℕ → Announcement → TraceLine
says t what = Announces t what None

-- a task or wildcard as it stands in a list
abbrev pub listed : ℕ → List ℕ → List (List ℕ × ℕ) → Condition → Option (List ℕ) → Participant
listed number name phases condition place = record { number = number; name = name; phases = phases; condition = condition; place = place }

-- an arrival is one phase more, a place stays until another comes, and who leaves is no member
abbrev pub WorkedMembers : Type 0
WorkedMembers =
    (after_lines
    (says (codes "a") (Arrives (codes "p"))
    ∷ says (codes "a") (Leaves (codes "q"))
    ∷ says (codes "a") (Joins (codes "q") 0)
    ∷ Announces (codes "a") (Joins (codes "p") 3) (Some (codes "X.java:7"))
    ∷ [])
    ≡ record { list = listed 0 (codes "a") ((codes "p", 4) ∷ []) Running (Some (codes "X.java:7")) ∷ []; named = 1 })

-- an ended member stays, its name is free, and the next task of the name stands behind all others; a member of nothing is taken out
abbrev pub WorkedEnds : Type 0
WorkedEnds =
    (after_lines
    (says (codes "a") (Joins (codes "p") 3)
    ∷ says (codes "b") (Waits (codes "p") 1)
    ∷ says (codes "a") Ends
    ∷ says (codes "a") (Joins (codes "p") 0)
    ∷ [])
    ≡ record {
      list =
          listed 0 (codes "a") ((codes "p", 0) ∷ []) Ended None
          ∷ listed 1 (codes "b") [] (Waiting (codes "p") 1) None
          ∷ listed 2 (codes "a") ((codes "p", 3) ∷ []) Running None
          ∷ [];
      named = 3;
    })
    × (after_lines
    (says (codes "a") Ends
    ∷ says (codes "a") (Leaves (codes "p"))
    ∷ says (codes "a") (Joins (codes "p") 0)
    ∷ [])
    ≡ record { list = []; named = 1 })

-- a wildcard has the tasks that are there with the names of its line, and none that comes later; one that ends is taken out with its memberships
abbrev pub WorkedWildcards : Type 0
WorkedWildcards =
    (after_lines
    (says (codes "a") Stands
    ∷ says (codes "a") Ends
    ∷ says (codes "w") (Joins (codes "p") 0)
    ∷ PlaysOneOf (codes "w") (codes "z" ∷ codes "a" ∷ [])
    ∷ says (codes "a") Stands
    ∷ [])
    ≡ record {
      list =
          listed 1 (codes "w") ((codes "p", 0) ∷ []) (OneOf (codes "z" ∷ codes "a" ∷ []) (0 ∷ [])) None
          ∷ listed 2 (codes "a") [] Running None
          ∷ [];
      named = 3;
    })
    × (after_lines
    (says (codes "w") Ends
    ∷ says (codes "w") (Joins (codes "p") 0)
    ∷ PlaysAny (codes "w")
    ∷ [])
    ≡ record { list = []; named = 1 })

-- who is gone has ended: tasks, also such as wait, and wildcards stay where they are members of something
abbrev pub WorkedGone : Type 0
WorkedGone =
    after_lines
    (AreGone (codes "1/")
    ∷ says (codes "1/w") (Joins (codes "p") 0)
    ∷ PlaysAny (codes "1/w")
    ∷ says (codes "1/b") Stands
    ∷ says (codes "2/a") Stands
    ∷ says (codes "1/a") (Waits (codes "p") 1)
    ∷ says (codes "1/a") (Joins (codes "q") 5)
    ∷ [])
    ≡ record {
      list =
          listed 0 (codes "1/a") ((codes "q", 5) ∷ []) Ended None
          ∷ listed 1 (codes "2/a") [] Running None
          ∷ listed 3 (codes "1/w") ((codes "p", 0) ∷ []) Ended None
          ∷ [];
      named = 4;
    }

-- a waits, w and v are wildcards, b runs
abbrev pub some_state : TraceState
some_state =
    after_lines
    (says (codes "a") (Waits (codes "p") 1)
    ∷ says (codes "b") (Joins (codes "p") 4294967295)
    ∷ PlaysAny (codes "v")
    ∷ PlaysAny (codes "w")
    ∷ [])

-- the first fault of a line
abbrev pub WorkedFaults : Type 0
WorkedFaults =
    (first_fault some_state None ≡ Some Malformed)
    × (first_fault some_state (Some (PlaysAny (codes "a"))) ≡ Some (NamesTask (codes "a")))
    × (first_fault some_state (Some (PlaysOneOf (codes "b") (codes "b" ∷ []))) ≡ Some (NamesTask (codes "b")))
    × (first_fault some_state (Some (PlaysOneOf (codes "w") (codes "a" ∷ codes "v" ∷ codes "w" ∷ []))) ≡ Some (NamesWildcard (codes "v")))
    × (first_fault some_state (Some (PlaysOneOf (codes "u") (codes "a" ∷ codes "u" ∷ []))) ≡ Some (NamesWildcard (codes "u")))
    × (first_fault some_state (Some (says (codes "w") Goes)) ≡ Some (NamesWildcard (codes "w")))
    × (first_fault some_state (Some (Announces (codes "w") (Joins (codes "q") 0) (Some (codes "X")))) ≡ Some (NamesWildcard (codes "w")))
    × (first_fault some_state (Some (says (codes "a") Ends)) ≡ Some (StillWaits (codes "a")))
    × (first_fault some_state (Some (says (codes "b") Goes)) ≡ Some (DoesNotWait (codes "b")))
    × (first_fault some_state (Some (says (codes "b") (Joins (codes "p") 0))) ≡ Some (IsMemberAlready (codes "b") (codes "p")))
    × (first_fault some_state (Some (says (codes "c") (Leaves (codes "p")))) ≡ Some (IsNoMember (codes "c") (codes "p")))
    × (first_fault some_state (Some (says (codes "b") (Arrives (codes "q")))) ≡ Some (IsNoMember (codes "b") (codes "q")))
    × (first_fault some_state (Some (says (codes "b") (Arrives (codes "p")))) ≡ Some (IsAtLastPhase (codes "b") (codes "p")))
    × (first_fault some_state (Some (says (codes "a") Goes)) ≡ None)

-- so many running tasks
abbrev pub crowd : ℕ → TraceState
crowd k = record { list = replicate k (listed 0 [] [] Running None); named = k }

-- a wildcard that so many tasks may play
abbrev pub wildcard_of_many : ℕ → Participant
wildcard_of_many k = listed 0 (codes "v") [] (OneOf [] (replicate k 0)) None

-- b runs, and so many tasks and 1023 times 1024 may play wildcards
abbrev pub many_players : ℕ → TraceState
many_players k = record { list = listed 0 (codes "b") [] Running None ∷ wildcard_of_many k ∷ replicate 1023 (wildcard_of_many 1024); named = 0 }

-- the last task and the last membership that a list may have, and one more
abbrev pub WorkedLimits : Type 0
WorkedLimits =
    (first_fault (crowd 65535) (Some (says (codes "a") (Joins (codes "p") 0))) ≡ None)
    × (first_fault (crowd 65536) (Some (says (codes "a") (Joins (codes "p") 0))) ≡ Some TooManyListed)
    × (first_fault (many_players 1023) (Some (says (codes "b") (Joins (codes "p") 0))) ≡ None)
    × (first_fault (many_players 1024) (Some (says (codes "b") (Joins (codes "p") 0))) ≡ Some TooManyMemberships)
    × (first_fault (many_players 1024) (Some (PlaysOneOf (codes "u") (codes "z" ∷ []))) ≡ None)
    × (first_fault (many_players 1024) (Some (PlaysOneOf (codes "u") (codes "b" ∷ []))) ≡ Some TooManyMemberships)

-- by this line behind honest ones of a legal trace somebody is stuck no more
abbrev pub IsTakenBack : List TraceLine → TraceLine → Participant → Type 0
IsTakenBack h l t = IsLegalTrace (l ∷ h) × IsHonest h × IsStuck (after_lines h) t × (IsStuck (after_lines (l ∷ h)) t → ⊥)

-- a go while its task is kept waiting, a wildcard that ends while nobody runs, and a new task while nobody runs and somebody waits take a stuck task back
abbrev pub HonestIsNeeded : Type 0
HonestIsNeeded =
    IsTakenBack (says (codes "c") (Waits (codes "p") 2) ∷ says (codes "c") (Joins (codes "p") 1) ∷ []) (says (codes "c") Goes)
    (listed 0 (codes "c") ((codes "p", 1) ∷ []) (Waiting (codes "p") 2) None)
    × IsTakenBack (says (codes "w") (Joins (codes "p") 0) ∷ PlaysAny (codes "w") ∷ says (codes "d") (Waits (codes "p") 1) ∷ []) (says (codes "w") Ends)
    (listed 0 (codes "d") [] (Waiting (codes "p") 1) None)
    × IsTakenBack (says (codes "a") (Waits (codes "p") 1) ∷ says (codes "w") (Joins (codes "p") 0) ∷ PlaysAny (codes "w") ∷ []) (says (codes "b") (Joins (codes "q") 0))
    (listed 1 (codes "a") [] (Waiting (codes "p") 1) None)

-- without lasting, who is stuck in a mix of first lines need not be so in the trace
abbrev pub LastingIsNeeded : Type 0
LastingIsNeeded =
    ((h c : List TraceLine) (t : Participant) → IsLegalTrace h → HasNoWildcard h → HasNoWildcard c → IsMixedFrom c h → IsStuck (after_lines c) t →
    (u : Participant) × IsStuck (after_lines h) u × (unnumbered u ≡ unnumbered t)) → ⊥

-- a legal trace with a go that is not true, and one with a join that is not ordered, need not be lasting
abbrev pub TrueGoesAreNeeded : Type 0
TrueGoesAreNeeded = ((h : List TraceLine) → IsLegalTrace h → HasOrderedJoins h → IsLasting h) → ⊥

-- true goes alone do not make a trace lasting
abbrev pub OrderedJoinsAreNeeded : Type 0
OrderedJoinsAreNeeded = ((h : List TraceLine) → IsLegalTrace h → HasTrueGoes h → IsLasting h) → ⊥
