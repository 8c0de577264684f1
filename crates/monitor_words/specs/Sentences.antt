-- SENTENCE: why a task is stuck.
use Rattle.std.specs.Prelude.{ℕ, ◌-◌, if◌then◌else◌, List, [], ◌∷◌, ◌++◌, codes, decimal, flat_map, length, nat_le, take}
use Rattle.monitor_laws.specs.States.{Participant}
use Rattle.monitor_words.specs.Reasons.{EndedKeeps, InCircle, SomebodyMissing, StuckBecause, StuckStops}
use Rattle.monitor_words.specs.Words.{waited_event, waited_words, who_words}

-- tasks of a circle, behind each of which another stands
abbrev pub links_words : List Participant → List ℕ
links_words others = flat_map (λ u. who_words u ++ codes ", which waits for ") others

-- the circle of f, behind its verb: of eight tasks at most whole, and of more the first seven
abbrev pub circle_behind : Participant → List Participant → List ℕ
circle_behind f [] = codes "itself"
circle_behind f (u ∷ others) =
    if nat_le (length (u ∷ others)) 7 then links_words (u ∷ others) ++ f.name
    else links_words (take 6 (u ∷ others)) ++ decimal (length (u ∷ others) - 6) ++ codes " more, the last of which waits for " ++ f.name

-- whom or what f waits for
abbrev pub reason_words : Participant → StuckBecause → List ℕ
reason_words f (InCircle others) = circle_behind f others
reason_words f (EndedKeeps u) = who_words u ++ codes ", which has ended"
reason_words f (StuckStops u) = who_words u ++ codes ", which is stuck"
reason_words f SomebodyMissing = waited_words (waited_event f) ++ codes ", for which somebody is missing who cannot come any more"

-- SENTENCE on f, with this verb
abbrev pub sentence_words : List ℕ → Participant → StuckBecause → List ℕ
sentence_words verb f because = who_words f ++ verb ++ reason_words f because

-- with which a message on f begins
abbrev pub told_verdict : StuckBecause → List ℕ
told_verdict (InCircle others) = codes "deadlock: "
told_verdict _ = codes "stuck: "
