-- What is said of a task, but for its own number and that of its forker.
use Rattle.std.specs.Prelude.{ℕ, Bool, true, false, List, [], ◌++◌, ◌==◌, ◌&&◌, Option, Some, None, codes, decimal, flat_map, if◌then◌else◌, option_map, slice_get}
use Rattle.std.specs.Str.{bytes_eq}
use Rattle.armus_base.specs.declared.event.Event.{Event}
use Rattle.explain_facts.specs.declared.account.Drawn.{Drawn}
use Rattle.explain_facts.specs.declared.account.CodeEnd.{CodeEnd}
use Rattle.explain_facts.specs.declared.account.Doing.{Doing}
use Rattle.explain_facts.specs.declared.account.Doing.TheVariants.{Advances, Leaves}
use Rattle.explain_facts.specs.declared.account.Forked.{Forked}
use Rattle.explain_facts.specs.declared.account.NextOp.{NextOp}
use Rattle.explain_facts.specs.declared.account.Turn.{Turn}
use Rattle.explain_facts.specs.declared.account.Waiting.{Waiting}
use Rattle.source_map.specs.declared.place.TextPlace.{TextPlace}
use Rattle.explain_tasks.specs.declared.impeders.Impeder.{Impeder}
use Rattle.explain_tasks.specs.declared.situation.Situation.{Situation}
use Rattle.explain_tasks.specs.declared.situation.Situation.TheVariants.{Deadlocked, Held, HasEnded, NotForkedYet, NeverForked}
use Rattle.explain_tasks.specs.Facts.{FactsValue, drawing_of, ending_of, forking_of, next_op_of, situation_of, wait_of}
use Rattle.explain_tasks.specs.Places.{drawn_place, end_words, fork_place, front_in, drawn_name, named_phaser, place_in_line, said_of, wait_place}

-- who would fork a task: the name that its `newTid` gives the forker, the place of the fork where it is told, and how the forker stands
pub record Forking : Type 0 where
  pub name : List ℕ
  pub at : List ℕ
  pub stands : List ℕ

-- What is said of a task: in its own paragraph the place with which this begins, and in the line of an impeder its phase; then the name that its `newTid` gives
-- it, what is said behind it, the event that it awaits, who would fork it, and what it does next to the phaser of the event that it impedes.
pub record Said : Type 0 where
  pub front : List ℕ
  pub name : List ℕ
  pub phase : Option ℕ
  pub words : List ℕ
  pub event : Option Event
  pub forking : Option Forking
  pub next : List ℕ

-- ---- a task that waits

-- its own phase, where this is not that of the event:  at phase 5
abbrev pub phase_words : Waiting → List ℕ
phase_words w = if w.phase == w.event.n then [] else codes " at phase " ++ decimal w.phase

-- what it waits for: await(pb) waits for phase 1 of pb
abbrev pub awaited_words : FactsValue → Waiting → List ℕ
awaited_words f w = w.words ++ phase_words w ++ codes " waits for phase " ++ decimal w.event.n ++ codes " of " ++ named_phaser f w.event.p.0

-- a turn of a loop: ; turn 3 of the loop at 17:5
abbrev pub turn_words : FactsValue → Turn → List ℕ
turn_words f u = codes "; turn " ++ decimal u.turn ++ codes " of the loop at " ++ place_in_line f u.at

-- where it was forked: forked at 16:3; and a blank; nothing for task 0
abbrev pub forked_words : FactsValue → Option Forked → List ℕ
forked_words f fork = said_of (λ (x : Forked). codes "forked at " ++ place_in_line f x.at ++ codes "; ") fork

-- the phaser for which it waits: pb made at 11:1
abbrev pub made_words : FactsValue → Waiting → List ℕ
made_words f w =
    named_phaser f w.event.p.0 ++ codes " made at " ++ said_of (λ (at : TextPlace). place_in_line f at) (slice_get f.account.phasers w.event.p.0)

-- the second line: forked at 16:3; pb made at 11:1; turn 3 of the loop at 17:5
abbrev pub second_line : FactsValue → Option Forked → Waiting → List ℕ
second_line f fork w = codes "\n  " ++ forked_words f fork ++ made_words f w ++ flat_map (turn_words f) w.turns

-- what is said of a task that waits and is deadlocked or held
abbrev pub waiting_said : FactsValue → ℕ → List ℕ → Said
waiting_said f t stands =
    record {
      front = said_of (λ (w : Waiting). front_in f w.at) (wait_of f t);
      name = drawn_name f t;
      phase = None;
      words = stands ++ said_of (λ (w : Waiting). awaited_words f w ++ second_line f (forking_of f t) w) (wait_of f t);
      event = option_map (λ (w : Waiting). w.event) (wait_of f t);
      forking = None;
      next = [];
    }

-- ---- a task that was not forked

-- how a forker stands: deadlocked at 5:1, held at 5:1, refused (one that has ended without its fork was), or not forked yet
abbrev pub forker_words : FactsValue → ℕ → Situation → List ℕ
forker_words f t Deadlocked = codes "deadlocked at " ++ wait_place f t
forker_words f t Held = codes "held at " ++ wait_place f t
forker_words f t HasEnded = codes "refused"
forker_words f t NotForkedYet = codes "not forked yet"
forker_words f t NeverForked = codes "not forked yet"

-- who would fork a task, with these words for the place
abbrev pub forking_by : FactsValue → List ℕ → Option Forked → Option Forking
forking_by f at fork =
    option_map (λ (x : Forked). record { name = drawn_name f x.by.0; at = at; stands = forker_words f x.by.0 (situation_of f x.by.0) }) fork

-- ---- what is said

-- what the paragraph of task t says of it, where it stands so; of a task that has ended there is none
abbrev pub said_as : FactsValue → ℕ → Situation → Said
said_as f t Deadlocked = waiting_said f t (codes "deadlocked: ")
said_as f t Held = waiting_said f t (codes "held: ")
said_as f t HasEnded = record { front = []; name = drawn_name f t; phase = None; words = []; event = None; forking = None; next = [] }
said_as f t NotForkedYet =
    record {
      front = said_of (λ (x : Forked). front_in f x.at) (forking_of f t);
      name = drawn_name f t;
      phase = None;
      words = codes "not forked yet: ";
      event = None;
      forking = forking_by f [] (forking_of f t);
      next = [];
    }
said_as f t NeverForked =
    record {
      front = said_of (λ (d : Drawn). front_in f d.at) (drawing_of f t);
      name = drawn_name f t;
      phase = None;
      words = codes "never forked";
      event = None;
      forking = None;
      next = [];
    }

-- what the paragraph of task t says of it
abbrev pub own_said : FactsValue → ℕ → Said
own_said f t = said_as f t (situation_of f t)

-- the statement of a last visit, where there was one: , last statement at 13:3
abbrev pub last_words : FactsValue → CodeEnd → List ℕ
last_words f e = said_of (λ (at : TextPlace). codes ", last statement at " ++ place_in_line f at) e.last

-- what is said of an impeder that stands so, behind its phase
abbrev pub impeder_words : FactsValue → ℕ → Situation → List ℕ
impeder_words f t Deadlocked = codes "deadlocked at " ++ wait_place f t ++ codes ": " ++ said_of (λ (w : Waiting). w.words) (wait_of f t)
impeder_words f t Held = codes "held at " ++ wait_place f t ++ codes ": " ++ said_of (λ (w : Waiting). w.words) (wait_of f t)
impeder_words f t HasEnded = codes "ended at " ++ end_words f t ++ codes " without leaving" ++ said_of (last_words f) (ending_of f t)
impeder_words f t NotForkedYet = codes "not forked yet: "
impeder_words f t NeverForked = codes "never forked, drawn at " ++ drawn_place f t

-- who would fork an impeder that stands so
abbrev pub impeder_forking : FactsValue → ℕ → Situation → Option Forking
impeder_forking f t NotForkedYet = forking_by f (codes " at " ++ fork_place f t) (forking_of f t)
impeder_forking f t _ = None

-- that a task does this next to phaser q, up to the place where
abbrev pub doing_words : FactsValue → ℕ → Doing → List ℕ
doing_words f q Advances = codes "; next adv of " ++ named_phaser f q ++ codes " at "
doing_words f q Leaves = codes "; " ++ named_phaser f q ++ codes " is left at "

-- what a task does next to phaser q, with these words behind it: ; next adv of pb at 12:3, behind this wait
abbrev pub next_op_words : FactsValue → ℕ → List ℕ → Option NextOp → List ℕ
next_op_words f q behind None = codes "; no adv of " ++ named_phaser f q ++ codes " follows"
next_op_words f q behind (Some x) = doing_words f q x.does ++ place_in_line f x.at ++ behind

-- what an impeder that stands so does next to the event's phaser, by what its code has
abbrev pub next_by_situation : FactsValue → ℕ → Option NextOp → Situation → List ℕ
next_by_situation f q next Deadlocked = next_op_words f q (codes ", behind this wait") next
next_by_situation f q next Held = next_op_words f q (codes ", behind this wait") next
next_by_situation f q next HasEnded = []
next_by_situation f q next NotForkedYet = next_op_words f q [] next
next_by_situation f q next NeverForked = []

-- what an impeder does next to the event's phaser; nothing of one that has ended or is never forked
abbrev pub impeder_next : FactsValue → Impeder → List ℕ
impeder_next f i = next_by_situation f i.p.0 (next_op_of f i.t.0 i.p.0) (situation_of f i.t.0)

-- what is said of task t where it impedes an event with this phase, and does this next
abbrev pub impeding_said : FactsValue → ℕ → ℕ → List ℕ → Said
impeding_said f t phase next =
    record {
      front = [];
      name = drawn_name f t;
      phase = Some phase;
      words = impeder_words f t (situation_of f t);
      event = None;
      forking = impeder_forking f t (situation_of f t);
      next = next;
    }

-- what the line of an impeder says of it
abbrev pub impeder_said : FactsValue → Impeder → Said
impeder_said f i = impeding_said f i.t.0 i.phase (impeder_next f i)

-- ---- the same is said

-- both say the same of a forker
abbrev pub same_forking : Option Forking → Option Forking → Bool
same_forking None None = true
same_forking (Some a) (Some b) = bytes_eq a.name b.name && (bytes_eq a.at b.at && bytes_eq a.stands b.stands)
same_forking _ _ = false

-- both name the same event
abbrev pub same_event : Option Event → Option Event → Bool
same_event None None = true
same_event (Some a) (Some b) = (a.p.0 == b.p.0) && (a.n == b.n)
same_event _ _ = false

-- both tell the same phase
abbrev pub same_phase : Option ℕ → Option ℕ → Bool
same_phase None None = true
same_phase (Some a) (Some b) = a == b
same_phase _ _ = false

-- both say the same
abbrev pub same_said : Said → Said → Bool
same_said a b =
    bytes_eq a.front b.front
    && (bytes_eq a.name b.name
    && (same_phase a.phase b.phase
    && (bytes_eq a.words b.words && (same_event a.event b.event && (same_forking a.forking b.forking && bytes_eq a.next b.next)))))
