-- Small programs on the machine on the text, with how their activities stand at the end; and with a statement at fault.
use Rattle.std.specs.Prelude.{◌≡◌, ℕ, zero, suc, codes, List, [], ◌∷◌}
use Rattle.clock_syntax.specs.Trees.{ClockTree, clock, advance, resume, drop, skip, done, plain, async, finish, loop}
use Rattle.clock_laws.specs.TextMachine.{Activity, Made, ActivityStand, TextState, TextStep, at_advance, at_end, ended, fails, goes, stand_of, text_opening, text_step, unstarted, waits}

-- ---- names

abbrev c : List ℕ
c = codes "c"

abbrev d : List ℕ
d = codes "d"

-- the first activity, the first and the second that it starts, and the first that its first one starts
abbrev root : Activity
root = []

abbrev first : Activity
first = 0 ∷ []

abbrev second : Activity
second = 1 ∷ []

abbrev grandchild_activity : Activity
grandchild_activity = 0 ∷ second

-- what activity a makes behind k others
abbrev made_behind : Activity → ℕ → Made
made_behind a k = record { maker = a; before = k }

-- ---- examples

-- the state after a step, or the one before it where the activity cannot go
abbrev pub after_step : TextState → TextStep → TextState
after_step s (goes r) = r
after_step s waits = s
after_step s (fails k) = s

-- activity a makes up to n steps
abbrev pub steps_on : ℕ → Activity → TextState → TextState
steps_on zero a s = s
steps_on (suc n) a s = steps_on n a (after_step s (text_step a s))

-- these activities, one after the other, the first one first, each makes up to n steps
abbrev pub in_turn : ℕ → List Activity → TextState → TextState
in_turn n [] s = s
in_turn n (a ∷ later) s = in_turn n later (steps_on n a s)

-- a program; the activities that go in turn, each up to so many steps; and how activities stand then, each of which cannot go
pub record TextExample : Type 0 where
  pub program : ClockTree
  pub far : ℕ
  pub turns : List Activity
  pub stands : List (Activity × ActivityStand)

-- each of these activities cannot go and stands so
abbrev pub StandSo : TextState → List (Activity × ActivityStand) → Type 0
StandSo s [] = Unit {0}
StandSo s (x ∷ xs) = (text_step x.0 s ≡ waits × stand_of s x.0 ≡ x.1) × StandSo s xs

-- each of these programs comes to that
abbrev pub ComeToEnds : List TextExample → Type 0
ComeToEnds [] = Unit {0}
ComeToEnds (e ∷ es) = StandSo (in_turn e.far e.turns (text_opening e.program)) e.stands × ComeToEnds es

-- clock c; finish { async(c) { advance(c); } } drop(c);
abbrev deadlocked_text : TextExample
deadlocked_text = record {
  program = plain (clock c) (finish (async (c ∷ []) (plain (advance c) done) done) (plain (drop c) done));
  far = 8;
  turns = root ∷ first ∷ [];
  stands = (root, at_end (made_behind root 1)) ∷ (first, at_advance (made_behind root 0) 0) ∷ [];
}

-- clock c; finish { async(c) { advance(c); } drop(c); }
abbrev dropped_in_time_text : TextExample
dropped_in_time_text = record {
  program = plain (clock c) (finish (async (c ∷ []) (plain (advance c) done) (plain (drop c) done)) done);
  far = 8;
  turns = root ∷ first ∷ root ∷ [];
  stands = (root, ended) ∷ (first, ended) ∷ [];
}

-- clock c; resume(c); advance(c);
abbrev resumed_text : TextExample
resumed_text = record {
  program = plain (clock c) (plain (resume c) (plain (advance c) done));
  far = 8;
  turns = root ∷ [];
  stands = (root, ended) ∷ (first, unstarted) ∷ [];
}

-- The name c is bound in a turn and used in the next; the child sees the clock that its parent had bound before, not the one bound behind the async:
-- clock c; loop 2 { advance(c); clock c; } clock d; async(c) { advance(c); } clock c; advance(c); advance(d);
abbrev bound_again : TextExample
bound_again = record {
  program =
      plain (clock c) (loop 2 (plain (advance c) (plain (clock c) done))
      (plain (clock d) (async (c ∷ []) (plain (advance c) done) (plain (clock c) (plain (advance c) (plain (advance d) done))))));
  far = 24;
  turns = first ∷ root ∷ first ∷ [];
  stands = (root, ended) ∷ (first, ended) ∷ [];
}

-- the inner of two finishes waits for the grandchild, whose clock the root holds; the outer one would wait for it too, behind:
-- clock c; finish { async() { } finish { async(c) { async(c) { advance(c); } } } drop(c); }
abbrev under_two_finishes : TextExample
under_two_finishes = record {
  program =
      plain (clock c) (finish (async [] done (finish (async (c ∷ []) (async (c ∷ []) (plain (advance c) done) done) done) (plain (drop c) done))) done);
  far = 10;
  turns = root ∷ first ∷ second ∷ grandchild_activity ∷ root ∷ [];
  stands =
      (root, at_end (made_behind root 2)) ∷ (first, ended) ∷ (second, ended) ∷ (grandchild_activity, at_advance (made_behind root 0) 0) ∷ (0 ∷ first, unstarted) ∷ [];
}

-- what comes behind a deadlock is never started:
-- clock c; finish { async(c) { advance(c); } } async() { skip; }
abbrev never_started : TextExample
never_started = record {
  program = plain (clock c) (finish (async (c ∷ []) (plain (advance c) done) done) (async [] (plain skip done) done));
  far = 8;
  turns = root ∷ first ∷ root ∷ [];
  stands = (root, at_end (made_behind root 1)) ∷ (first, at_advance (made_behind root 0) 0) ∷ (second, unstarted) ∷ [];
}

-- A name that is bound in a turn stands for that clock in the next: the second turn advances a clock of the root alone, and the first one is kept waiting:
-- clock c; finish { async(c) { loop 2 { advance(c); } } loop 2 { advance(c); clock c; } }
abbrev bound_in_a_turn : TextExample
bound_in_a_turn = record {
  program =
      plain (clock c) (finish (async (c ∷ []) (loop 2 (plain (advance c) done) done)
      (loop 2 (plain (advance c) (plain (clock c) done)) done)) done);
  far = 12;
  turns = root ∷ first ∷ root ∷ first ∷ [];
  stands = (root, at_end (made_behind root 1)) ∷ (first, at_advance (made_behind root 0) 1) ∷ [];
}

-- an advance behind a resume signals no second time:
-- clock c; finish { async(c) { resume(c); advance(c); } advance(c); }
abbrev signalled_once : TextExample
signalled_once = record {
  program = plain (clock c) (finish (async (c ∷ []) (plain (resume c) (plain (advance c) done)) (plain (advance c) done)) done);
  far = 10;
  turns = root ∷ first ∷ root ∷ [];
  stands = (root, ended) ∷ (first, ended) ∷ [];
}

-- what is pending is a clock and no name:
-- clock c; resume(c); drop(c); clock c; resume(c); clock c; resume(c); advance(c);
abbrev pending_by_clock : TextExample
pending_by_clock = record {
  program =
      plain (clock c) (plain (resume c) (plain (drop c) (plain (clock c) (plain (resume c) (plain (clock c) (plain (resume c) (plain (advance c) done)))))));
  far = 12;
  turns = root ∷ [];
  stands = (root, ended) ∷ [];
}

-- programs with how their activities stand at the end
abbrev pub worked_texts : List TextExample
worked_texts = deadlocked_text ∷ dropped_in_time_text ∷ resumed_text ∷ bound_again ∷ under_two_finishes ∷ never_started ∷ bound_in_a_turn ∷ signalled_once ∷ pending_by_clock ∷ []

-- a program; the activities that go in turn; and one whose statement is at fault then, with its kind
pub record FaultyText : Type 0 where
  pub program : ClockTree
  pub turns : List Activity
  pub activity : Activity
  pub kind : ℕ

-- each of these comes to its fault
abbrev pub ComeToFaults : List FaultyText → Type 0
ComeToFaults [] = Unit {0}
ComeToFaults (e ∷ es) = text_step e.activity (in_turn 8 e.turns (text_opening e.program)) ≡ fails e.kind × ComeToFaults es

abbrev at_root : ClockTree → ℕ → FaultyText
at_root p k = record { program = p; turns = root ∷ []; activity = root; kind = k }

-- faults of each kind that is one of a name
abbrev pub faulty_texts : List FaultyText
faulty_texts =
    -- skip; advance(d);
    at_root (plain skip (plain (advance d) done)) 1
    -- clock c; drop(c); resume(c);
    ∷ at_root (plain (clock c) (plain (drop c) (plain (resume c) done))) 2
    -- clock c; async(c, c) { }
    ∷ at_root (plain (clock c) (async (c ∷ c ∷ []) done done)) 3
    -- clock c; resume(c); resume(c);
    ∷ at_root (plain (clock c) (plain (resume c) (plain (resume c) done))) 4
    -- clock c; resume(c); clock d; async(d, c) { }
    ∷ at_root (plain (clock c) (plain (resume c) (plain (clock d) (async (d ∷ c ∷ []) done done)))) 4
    -- async() { skip; advance(d); } clock d;
    ∷ record {
      program = async [] (plain skip (plain (advance d) done)) (plain (clock d) done);
      turns = root ∷ first ∷ [];
      activity = first;
      kind = 1;
    }
    -- clock c; async() { drop(c); }
    ∷ record { program = plain (clock c) (async [] (plain (drop c) done) done); turns = root ∷ first ∷ []; activity = first; kind = 2 }
    ∷ []
