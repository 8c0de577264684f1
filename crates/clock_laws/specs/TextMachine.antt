-- The machine on the text: activities that go through the statements of a clock program, one step after the other, with clocks and finishes.
-- It has no moves, no plan and no number that an unfolding gives.
use Rattle.std.specs.Prelude.{◌≡◌, ℕ, zero, suc, ◌+◌, Bool, true, false, not, ◌&&◌, ◌==◌, if◌then◌else◌, is_some, nat_lt, List, [], ◌∷◌, Option, Some, None, Result, Ok, Err}
use Rattle.std.specs.List.{list_any}
use Rattle.std.specs.Str.{bytes_eq}
use Rattle.clock_syntax.specs.Trees.{ClockPlain, ClockTree, clock, advance, resume, drop, skip, done, plain, async, finish, loop}

-- ---- names

-- An activity is named by where it comes from: [] is the first one, and k ∷ a the one that activity a started after k others.
abbrev pub Activity : Type 0
Activity = List ℕ

-- a clock or a finish is named by the activity that made it, and by how many clocks and finishes that one had made before
pub record Made : Type 0 where
  pub maker : Activity
  pub before : ℕ

-- the two are one
abbrev pub is_made : Made → Made → Bool
is_made p q = bytes_eq p.maker q.maker && (p.before == q.before)

-- ---- where an activity stands

-- what an activity has still to do
pub data Continuation : Type 0 where
  reads : ClockTree → Continuation → Continuation  -- these statements, and then the rest
  turns : ℕ → ClockTree → Continuation → Continuation  -- so many turns of the body of a loop, and then the rest
  closes : Made → Continuation → Continuation  -- the end of this finish, and then the rest
  leaves : Option Made → Continuation  -- to end; this finish governs it, if one does
  over : Continuation  -- nothing: it has ended, or is not started

-- the finish that governs what is started there: the first whose end is still to come, and else the one that governs the activity itself
abbrev pub governing : Continuation → Option Made
governing (reads body rest) = governing rest
governing (turns k body rest) = governing rest
governing (closes f rest) = Some f
governing (leaves f) = f
governing over = None

-- an activity: what it has still to do; the clock for which each name stands, if it does; of a clock, the phase of a signal after which it has not yet
-- waited; and how many activities it has started, and how many clocks and finishes it has made
pub record Acting : Type 0 where
  pub rest : Continuation
  pub names : List ℕ → Option Made
  pub remembers : Made → Option ℕ
  pub started : ℕ
  pub made : ℕ

-- an activity that begins with this to do, and with these names
abbrev pub beginning : Continuation → (List ℕ → Option Made) → Acting
beginning rest names = record { rest = rest; names = names; remembers = λ p. None; started = 0; made = 0 }

-- a clock: its phase number, its registered activities, and those of them that have not signalled in this phase
pub record Clock : Type 0 where
  pub phase : ℕ
  pub enrolled : List Activity
  pub unsignalled : List Activity

-- a state of the machine
pub record TextState : Type 0 where
  pub there : List Activity  -- the activities that have been started
  pub acting : Activity → Acting
  pub clock_of : Made → Clock
  pub open_set : Made → List Activity  -- of a finish: the activities for which it waits

-- before the first step there is one activity, with the whole program, which nothing governs; and no clock
abbrev pub text_opening : ClockTree → TextState
text_opening program = record {
  there = [] ∷ [];
  acting = λ a. beginning (if bytes_eq [] a then reads program (leaves None) else over) (λ x. None);
  clock_of = λ p. record { phase = 0; enrolled = []; unsignalled = [] };
  open_set = λ f. [];
}

-- ---- changes of a state

-- there are none
abbrev pub is_empty : List Activity → Bool
is_empty [] = true
is_empty (a ∷ as_well) = false

-- these activities without activity a
abbrev pub without_activity : Activity → List Activity → List Activity
without_activity a [] = []
without_activity a (b ∷ bs) = if bytes_eq a b then without_activity a bs else (b ∷ without_activity a bs)

-- activity a stands so
abbrev pub acts : Activity → Acting → TextState → TextState
acts a x s = record s { acting = λ b. if bytes_eq a b then x else s.acting b }

-- activity a has this still to do
abbrev pub goes_to : Activity → Continuation → TextState → TextState
goes_to a rest s = acts a (record (s.acting a) { rest = rest }) s

-- activity a remembers this phase of clock p, or none
abbrev pub remembering : Activity → Made → Option ℕ → TextState → TextState
remembering a p v s = acts a (record (s.acting a) { remembers = λ q. if is_made p q then v else (s.acting a).remembers q }) s

-- clock p is so
abbrev pub with_clock : Made → Clock → TextState → TextState
with_clock p k s = record s { clock_of = λ q. if is_made p q then k else s.clock_of q }

-- a clock with activity a in both sets: it is registered, and has not signalled in this phase
abbrev pub enrolled_with : Activity → Clock → Clock
enrolled_with a k = record k { enrolled = a ∷ k.enrolled; unsignalled = a ∷ k.unsignalled }

-- without it among those that have not signalled
abbrev pub signalled_by : Activity → Clock → Clock
signalled_by a k = record k { unsignalled = without_activity a k.unsignalled }

-- without it in both sets
abbrev pub left_by : Activity → Clock → Clock
left_by a k = record k { enrolled = without_activity a k.enrolled; unsignalled = without_activity a k.unsignalled }

-- activity a is registered on each of these clocks
abbrev pub enrols_on : Activity → List Made → TextState → TextState
enrols_on a [] s = s
enrols_on a (p ∷ ps) s = enrols_on a ps (with_clock p (enrolled_with a (s.clock_of p)) s)

-- activity a signals on clock p, and remembers the phase
abbrev pub signals : Activity → Made → TextState → TextState
signals a p s = remembering a p (Some (s.clock_of p).phase) (with_clock p (signalled_by a (s.clock_of p)) s)

-- activity a leaves clock p
abbrev pub departs : Activity → Made → TextState → TextState
departs a p s = remembering a p None (with_clock p (left_by a (s.clock_of p)) s)

-- activity a leaves every clock
abbrev pub departs_from_all : Activity → TextState → TextState
departs_from_all a s = acts a (record (s.acting a) { remembers = λ p. None }) (record s { clock_of = λ p. left_by a (s.clock_of p) })

-- the open set of this finish, if it is one, is so
abbrev pub with_open_set : Option Made → (List Activity → List Activity) → TextState → TextState
with_open_set None change s = s
with_open_set (Some f) change s = record s { open_set = λ g. if is_made f g then change (s.open_set f) else s.open_set g }

-- the clock or finish that activity a makes next
abbrev pub next_made : Activity → TextState → Made
next_made a s = record { maker = a; before = (s.acting a).made }

-- activity a has made one more
abbrev pub has_made : Activity → TextState → TextState
has_made a s = acts a (record (s.acting a) { made = (s.acting a).made + 1 }) s

-- activity a makes clock p, and calls it x: it has phase 0, and its maker in both sets
abbrev pub opens_clock : Activity → List ℕ → Made → TextState → TextState
opens_clock a x p s =
    acts a (record (s.acting a) { names = λ y. if bytes_eq x y then Some p else (s.acting a).names y; made = (s.acting a).made + 1 })
    (with_clock p (record { phase = 0; enrolled = a ∷ []; unsignalled = a ∷ [] }) s)

-- Activity a, which goes on with this rest, starts one more with this body on these clocks: with a copy of its names, under the finish that governs there.
abbrev pub starts_one : Activity → ClockTree → List Made → Continuation → TextState → TextState
starts_one a body ps rest s =
    let c = (s.acting a).started ∷ a in
    let f = governing rest in
    let v = acts a (record (s.acting a) { rest = rest; started = (s.acting a).started + 1 }) s in
    with_open_set f (λ cs. c ∷ cs) (enrols_on c ps (acts c (beginning (reads body (leaves f)) (s.acting a).names) (record v { there = c ∷ s.there })))

-- ---- steps

-- what comes of a step: a state; or it cannot be made now; or the statement is at fault, with this kind of the table
pub data TextStep : Type 0 where
  goes : TextState → TextStep
  waits : TextStep
  fails : ℕ → TextStep

-- the clock of name x, or the kind of the fault: it stands for none; activity a is not registered on it; the name stands earlier in the list; the activity
-- remembers a signal on it, and an idle clock is wanted
abbrev pub clock_or_kind : Bool → List (List ℕ) → List ℕ → Activity → TextState → Option Made → Result Made ℕ
clock_or_kind idle earlier x a s None = Err 1
clock_or_kind idle earlier x a s (Some p) =
    if not (list_any (bytes_eq a) (s.clock_of p).enrolled) then Err 2
    else (if list_any (bytes_eq x) earlier then Err 3 else (if idle && is_some ((s.acting a).remembers p) then Err 4 else Ok p))

-- the clock for which name x stands now
abbrev pub clock_here : Bool → List (List ℕ) → List ℕ → Activity → TextState → Result Made ℕ
clock_here idle earlier x a s = clock_or_kind idle earlier x a s ((s.acting a).names x)

-- a clock before these others
abbrev pub and_clocks : Result Made ℕ → Result (List Made) ℕ → Result (List Made) ℕ
and_clocks (Err k) ps = Err k
and_clocks (Ok p) (Err k) = Err k
and_clocks (Ok p) (Ok ps) = Ok (p ∷ ps)

-- the clocks of the names of an async behind these earlier ones: each is idle, and none is named twice
abbrev pub clocks_here : List (List ℕ) → List (List ℕ) → Activity → TextState → Result (List Made) ℕ
clocks_here earlier [] a s = Ok []
clocks_here earlier (x ∷ xs) a s = and_clocks (clock_here true earlier x a s) (clocks_here (x ∷ earlier) xs a s)

-- a step with what was found, unless there is a fault
abbrev pub or_fails : {A : Type 0} → (A → TextStep) → Result A ℕ → TextStep
or_fails f (Ok x) = f x
or_fails f (Err k) = fails k

-- an advance of clock p, behind which this is still to do: a signal where none is remembered; else it waits until the clock's phase is above that one
abbrev pub advance_on : Activity → Continuation → TextState → Made → Option ℕ → TextStep
advance_on a rest s p None = goes (signals a p s)
advance_on a rest s p (Some k) = if nat_lt k (s.clock_of p).phase then goes (goes_to a rest (remembering a p None s)) else waits

-- activity a at a statement without a body, behind which this is still to do
abbrev pub does_plain : Activity → ClockPlain → Continuation → TextState → TextStep
does_plain a (clock x) rest s = goes (opens_clock a x (next_made a s) (goes_to a rest s))
does_plain a (advance x) rest s = or_fails (λ p. advance_on a rest s p ((s.acting a).remembers p)) (clock_here false [] x a s)
does_plain a (resume x) rest s = or_fails (λ p. goes (goes_to a rest (signals a p s))) (clock_here true [] x a s)
does_plain a (drop x) rest s = or_fails (λ p. goes (goes_to a rest (departs a p s))) (clock_here false [] x a s)
does_plain a skip rest s = goes (goes_to a rest s)

-- activity a, which has this still to do
abbrev pub does_next : Activity → Continuation → TextState → TextStep
does_next a (reads done rest) s = goes (goes_to a rest s)
does_next a (reads (plain p more) rest) s = does_plain a p (reads more rest) s
does_next a (reads (async xs body more) rest) s = or_fails (λ ps. goes (starts_one a body ps (reads more rest) s)) (clocks_here [] xs a s)
does_next a (reads (finish body more) rest) s = goes (goes_to a (reads body (closes (next_made a s) (reads more rest))) (has_made a s))
does_next a (reads (loop k body more) rest) s = goes (goes_to a (turns k body (reads more rest)) s)
does_next a (turns zero body rest) s = goes (goes_to a rest s)
does_next a (turns (suc k) body rest) s = goes (goes_to a (reads body (turns k body rest)) s)
does_next a (closes f rest) s = if is_empty (s.open_set f) then goes (goes_to a rest s) else waits
does_next a (leaves f) s = goes (goes_to a over (with_open_set f (without_activity a) (departs_from_all a s)))
does_next a over s = waits

-- a clock that has a registered activity, and of which each has signalled, goes to the next phase, in which none has
abbrev pub goes_on : Clock → Clock
goes_on k = if not (is_empty k.enrolled) && is_empty k.unsignalled then record k { phase = k.phase + 1; unsignalled = k.enrolled } else k

-- so does each clock
abbrev pub clocks_go_on : TextState → TextState
clocks_go_on s = record s { clock_of = λ p. goes_on (s.clock_of p) }

-- after a step the clocks go on
abbrev pub then_clocks : TextStep → TextStep
then_clocks (goes s) = goes (clocks_go_on s)
then_clocks waits = waits
then_clocks (fails k) = fails k

-- a step of activity a
abbrev pub text_step : Activity → TextState → TextStep
text_step a s = then_clocks (does_next a (s.acting a).rest s)

-- and one behind another
abbrev pub and_step : Activity → TextStep → TextStep
and_step a (goes s) = text_step a s
and_step a waits = waits
and_step a (fails k) = fails k

-- steps of these activities, the last one first
abbrev pub text_run : TextState → List Activity → TextStep
text_run s [] = goes s
text_run s (a ∷ as_before) = and_step a (text_run s as_before)

-- ---- runs and ends

-- a run of the machine on a program
abbrev pub IsTextRun : ClockTree → List Activity → TextState → Type 0
IsTextRun program steps s = text_run (text_opening program) steps ≡ goes s

-- no activity goes
abbrev pub IsAtRest : TextState → Type 0
IsAtRest s = (a : Activity) (r : TextState) → text_step a s ≡ goes r → ⊥

-- a state in which a run ends that cannot go on
pub record IsTextEnd (program : ClockTree) (s : TextState) : Type 0 where
  pub steps : List Activity
  pub run : IsTextRun program steps s
  pub at_rest : IsAtRest s

-- activity a has been started
abbrev pub is_there : TextState → Activity → Bool
is_there s a = list_any (bytes_eq a) s.there

-- how an activity stands: it is not started; it has ended; at an advance of this clock, whose signal it remembers with this phase; at the end of this finish;
-- or elsewhere
pub data ActivityStand : Type 0 where
  unstarted : ActivityStand
  ended : ActivityStand
  at_advance : Made → ℕ → ActivityStand
  at_end : Made → ActivityStand
  elsewhere : ActivityStand

-- at an advance of clock p, by what is remembered
abbrev pub stand_on : Made → Option ℕ → ActivityStand
stand_on p None = elsewhere
stand_on p (Some k) = at_advance p k

-- at an advance of a name, by what it stands for
abbrev pub stand_at : Acting → Option Made → ActivityStand
stand_at x None = elsewhere
stand_at x (Some p) = stand_on p (x.remembers p)

-- how an activity stands with this still to do
abbrev pub stand_with : Bool → Acting → Continuation → ActivityStand
stand_with true x over = ended
stand_with false x over = unstarted
stand_with b x (reads (plain (advance y) more) rest) = stand_at x (x.names y)
stand_with b x (closes f rest) = at_end f
stand_with b x rest = elsewhere

-- how activity a stands
abbrev pub stand_of : TextState → Activity → ActivityStand
stand_of s a = stand_with (is_there s a) (s.acting a) (s.acting a).rest
