-- The hint: what to mend, by where the walk of the verdict leads.
use Rattle.std.specs.Prelude.{ℕ, ◌-◌, ◌==◌, ◌&&◌, not, nat_lt, Bool, true, false, List, [], ◌∷◌, ◌++◌, Option, Some, None, codes, decimal, if◌then◌else◌, is_none, length, option_map, slice_get}
use Rattle.std.specs.List.{find}
use Rattle.armus_base.specs.declared.ids.TaskId.{TaskId}
use Rattle.armus_base.specs.States.{Phases}
use Rattle.pl_syntax.specs.Printed.{line}
use Rattle.source_map.specs.declared.place.TextPlace.{TextPlace}
use Rattle.source_map.specs.declared.place.TextPlace.TheVariants.{Here, Elsewhere}
use Rattle.explain_facts.specs.declared.account.Drawn.{Drawn}
use Rattle.explain_facts.specs.declared.account.Forked.{Forked}
use Rattle.explain_facts.specs.declared.account.Waiting.{Waiting}
use Rattle.explain_tasks.specs.declared.impeders.Impeder.{Impeder}
use Rattle.explain_tasks.specs.declared.situation.Situation.{Situation}
use Rattle.explain_tasks.specs.declared.situation.Situation.TheVariants.{HasEnded, NeverForked, NotForkedYet}
use Rattle.explain_tasks.specs.Facts.{FactsValue, drawing_of, forking_of, is_waiting, next_op_of, situation_of, wait_of}
use Rattle.explain_tasks.specs.Impeders.{impeders_by_facts}
use Rattle.explain_tasks.specs.Places.{end_words, fork_place, named_phaser, named_task, said_of, wait_place}
use Rattle.explain_deadlock.specs.declared.outcome.WaitVerdict.{WaitVerdict}
use Rattle.explain_deadlock.specs.declared.outcome.WaitVerdict.TheVariants.{Nobody, Circle, Chain}

-- the phaser for which task t waits: left
abbrev pub awaited_phaser_words : FactsValue → ℕ → List ℕ
awaited_phaser_words f t = said_of (λ (w : Waiting). named_phaser f w.event.p.0) (wait_of f t)

-- ---- the walk comes to an end

-- the place is one of the text itself, and not of another program
abbrev pub is_of_text : TextPlace → Bool
is_of_text (Here line column) = true
is_of_text (Elsewhere from to) = false

-- a task that is drawn so is none of the other program of which this await is: its `newTid` has no place there
abbrev pub is_outside : Option Drawn → Option Waiting → Bool
is_outside (Some d) (Some w) = is_of_text d.at && not (is_of_text w.at)
is_outside _ _ = false

-- hint: fourth is never forked: fork it, or let it be no member of left
abbrev pub never_forked_hint : FactsValue → ℕ → ℕ → List ℕ
never_forked_hint f held last =
    line (codes "hint: " ++ named_task f last ++ codes " is never forked: fork it, or let it be no member of " ++ awaited_phaser_words f held)

-- so many arrivals: once more, or 2 more times
abbrev pub arrivals_words : ℕ → List ℕ
arrivals_words n = if n == 1 then codes "once more" else decimal n ++ codes " more times"

-- how often a member with this phase would have to arrive for the event that is awaited so
abbrev pub missing_arrivals : Option Waiting → Option ℕ → List ℕ
missing_arrivals (Some w) (Some phase) = arrivals_words (w.event.n - phase)
missing_arrivals _ _ = []

-- what a task that has ended, and has this phase, would have to do before:  leave left before 15:1, or arrive there 2 more times
abbrev pub leaving_words : FactsValue → ℕ → ℕ → Option ℕ → List ℕ
leaving_words f held last phase =
    codes " leave " ++ awaited_phaser_words f held ++ codes " before " ++ end_words f last ++ codes ", or arrive there " ++ missing_arrivals (wait_of f held) phase

-- hint: t0 made left, and so is a member of it: let it
abbrev pub let_maker_words : FactsValue → ℕ → List ℕ
let_maker_words f held = codes "hint: t0 made " ++ awaited_phaser_words f held ++ codes ", and so is a member of it: let it"

-- hint: let other
abbrev pub let_task_words : FactsValue → ℕ → List ℕ
let_task_words f last = codes "hint: let " ++ named_task f last

-- whom the hint tells to do so; task 0 is a member just where it made the phaser
abbrev pub let_words : FactsValue → ℕ → ℕ → List ℕ
let_words f held last = if last == 0 then let_maker_words f held else let_task_words f last

-- hint: let other leave left before 15:1, or arrive there 2 more times
abbrev pub ended_hint : FactsValue → ℕ → ℕ → Option ℕ → List ℕ
ended_hint f held last phase = line (let_words f held last ++ leaving_words f held last phase)

-- the phase of an impeder of task t on the phaser for which t waits
abbrev pub impeding_phase : List Impeder → ℕ → Option ℕ
impeding_phase impeders u = option_map (λ (i : Impeder). i.phase) (find (λ (i : Impeder). i.t.0 == u) impeders)

-- the hint where the last task of a walk that comes to its end is never forked, and this one waits for it
abbrev pub unforked_hint : FactsValue → ℕ → ℕ → List ℕ
unforked_hint f held last = if is_outside (drawing_of f last) (wait_of f held) then [] else never_forked_hint f held last

-- the hint where the walk comes to its end in a task that stands so, and this one waits for it
abbrev pub chain_hint : FactsValue → (ℕ → Phases) → ℕ → ℕ → Situation → List ℕ
chain_hint f phases held last HasEnded = ended_hint f held last (impeding_phase (impeders_by_facts f phases held) last)
chain_hint f phases held last NeverForked = unforked_hint f held last
chain_hint f phases held last _ = []

-- ---- the walk closes

-- a task that stands so is not forked yet, and who forks it waits
abbrev pub is_behind_a_wait : FactsValue → Situation → Option Forked → Bool
is_behind_a_wait f NotForkedYet (Some x) = is_waiting (situation_of f x.by.0)
is_behind_a_wait f _ _ = false

-- task t is not forked yet, and its forker waits
abbrev pub waits_before_fork : FactsValue → TaskId → Bool
waits_before_fork f t = is_behind_a_wait f (situation_of f t.0) (forking_of f t.0)

-- hint: t0 waits at 12:1
abbrev pub waits_at_words : FactsValue → ℕ → List ℕ
waits_at_words f t = codes "hint: " ++ named_task f t ++ codes " waits at " ++ wait_place f t

-- what it does behind its wait:  before it forks other at 13:1: let it fork first
abbrev pub before_fork_words : FactsValue → ℕ → List ℕ
before_fork_words f t = codes " before it forks " ++ named_task f t ++ codes " at " ++ fork_place f t ++ codes ": let it fork first"

-- hint: t0 waits at 12:1 before it forks other at 13:1: let it fork first
abbrev pub fork_hint : FactsValue → ℕ → Forked → List ℕ
fork_hint f t x = line (waits_at_words f x.by.0 ++ before_fork_words f t)

-- who waits so awaits a phase that it has not itself
abbrev pub is_ahead_of_itself : Option Waiting → Bool
is_ahead_of_itself None = false
is_ahead_of_itself (Some w) = nat_lt w.phase w.event.n

-- task t is its own impeder
abbrev pub waits_for_itself : FactsValue → TaskId → Bool
waits_for_itself f t = is_ahead_of_itself (wait_of f t.0)

-- for which event:  for phase 2 of left
abbrev pub for_event_words : FactsValue → Waiting → List ℕ
for_event_words f w = codes " for phase " ++ decimal w.event.n ++ codes " of " ++ named_phaser f w.event.p.0

-- which phase it has: , and has phase 1 itself: let it arrive first, or look less far ahead
abbrev pub own_phase_words : Waiting → List ℕ
own_phase_words w = codes ", and has phase " ++ decimal w.phase ++ codes " itself: let it arrive first, or look less far ahead"

-- hint: consumer waits at 11:22 for phase 2 of full, and has phase 1 itself: let it arrive first, or look less far ahead
abbrev pub itself_hint : FactsValue → ℕ → Waiting → List ℕ
itself_hint f t w = line (waits_at_words f t ++ for_event_words f w ++ own_phase_words w)

-- what one task of a circle would have to do before it waits, where this one waits for it: t0 at right before 19:1
abbrev pub before_words : FactsValue → TaskId → TaskId → List ℕ
before_words f waiter t = named_task f t.0 ++ codes " at " ++ awaited_phaser_words f waiter.0 ++ codes " before " ++ wait_place f t.0

-- the same of two tasks, if they are there
abbrev pub pair_words : FactsValue → Option TaskId → Option TaskId → List ℕ
pair_words f (Some waiter) (Some t) = before_words f waiter t
pair_words f _ _ = []

-- that the others of a circle of so many may do it too
abbrev pub others_words : ℕ → List ℕ
others_words n = if nat_lt 2 n then codes ", or another one likewise" else []

-- hint: one of them has to arrive, or leave, before it waits: t0 at right before 19:1, or other at left before 14:3
abbrev pub circle_hint_words : FactsValue → List TaskId → List ℕ
circle_hint_words f shown =
    line
    (codes "hint: one of them has to arrive, or leave, before it waits: "
    ++ pair_words f (slice_get shown (length shown - 1)) (slice_get shown 0)
    ++ codes ", or "
    ++ pair_words f (slice_get shown 0) (slice_get shown 1)
    ++ others_words (length shown))

-- task t does nothing any more to the phaser that is awaited so
abbrev pub is_done_with : FactsValue → ℕ → Option Waiting → Bool
is_done_with f t None = false
is_done_with f t (Some w) = is_none (next_op_of f t w.event.p.0)

-- who waits so waits at a place of the text itself
abbrev pub waits_in_text : Option Waiting → Bool
waits_in_text None = false
waits_in_text (Some w) = is_of_text w.at

-- task t waits at a place of the text itself, and does nothing any more to the phaser for which this one waits
abbrev pub comes_no_more : FactsValue → TaskId → TaskId → Bool
comes_no_more f waiter t = waits_in_text (wait_of f t.0) && is_done_with f t.0 (wait_of f waiter.0)

-- the first of these tasks that comes no more to the phaser for which the one before it waits, with that one; before the first stands this one
abbrev pub first_no_more : FactsValue → TaskId → List TaskId → Option (TaskId × TaskId)
first_no_more f waiter [] = None
first_no_more f waiter (t ∷ rest) = if comes_no_more f waiter t then Some (waiter, t) else first_no_more f t rest

-- the same, where the last one stands before the first, if there is one
abbrev pub no_more_behind : FactsValue → Option TaskId → List TaskId → Option (TaskId × TaskId)
no_more_behind f None shown = None
no_more_behind f (Some last) shown = first_no_more f last shown

-- hint: v has no adv of left any more: let it arrive there, or leave, before it waits at 4:55
abbrev pub no_more_hint : FactsValue → TaskId → TaskId → List ℕ
no_more_hint f waiter t =
    line
    (codes "hint: " ++ named_task f t.0 ++ codes " has no adv of " ++ awaited_phaser_words f waiter.0
    ++ codes " any more: let it arrive there, or leave, before it waits at " ++ wait_place f t.0)

-- the hint on a circle of two or more: of one of its tasks that comes no more, if one does not, with the one before it; or else of its first two tasks, likewise
abbrev pub no_more_or_circle : FactsValue → List TaskId → Option (TaskId × TaskId) → List ℕ
no_more_or_circle f shown (Some (waiter, t)) = no_more_hint f waiter t
no_more_or_circle f shown None = circle_hint_words f shown

-- the hint on a circle
abbrev pub circle_hint : FactsValue → List TaskId → List ℕ
circle_hint f shown =
    if nat_lt (length shown) 2 then [] else no_more_or_circle f shown (no_more_behind f (slice_get shown (length shown - 1)) shown)

-- the hint where this task waits for itself, if one does, and else that of the circle
abbrev pub itself_or_circle : FactsValue → List TaskId → Option TaskId → List ℕ
itself_or_circle f shown (Some t) = said_of (itself_hint f t.0) (wait_of f t.0)
itself_or_circle f shown None = circle_hint f shown

-- the hint where this task is not forked before its forker waits, if one is
abbrev pub fork_or_others : FactsValue → List TaskId → Option TaskId → List ℕ
fork_or_others f shown (Some t) = said_of (fork_hint f t.0) (forking_of f t.0)
fork_or_others f shown None = itself_or_circle f shown (find (waits_for_itself f) shown)

-- the hint where the walk closes in these tasks
abbrev pub closed_hint : FactsValue → List TaskId → List ℕ
closed_hint f shown = fork_or_others f shown (find (waits_before_fork f) shown)

-- ---- the whole

-- the line of the hint, if one fits
abbrev pub verdict_hint : FactsValue → (ℕ → Phases) → WaitVerdict → List ℕ
verdict_hint f phases Nobody = []
verdict_hint f phases (Circle shown) = closed_hint f shown
verdict_hint f phases (Chain held last) = chain_hint f phases held.0 last.0 (situation_of f last.0)
