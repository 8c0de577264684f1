-- The values of a state that the code writes.
use Rattle.std.specs.Prelude.{ℕ, ◌-◌, Bool, not, ◌&&◌, ◌==◌, if◌then◌else◌, List, [], ◌∷◌, count_by, length, map, nat_le, take, unwrap_or}
use Rattle.std.specs.List.{list_any}
use Rattle.monitor_laws.specs.Faults.{phase_on, waits_now}
use Rattle.monitor_laws.specs.States.{Condition, Running, Waiting, Ended, AnyTask, OneOf, Participant, TraceState, is_live_task}
use Rattle.monitor_words.specs.Messages.{is_kept_waiting, others_told}
use Rattle.monitor_words.specs.Reasons.{EndedKeeps, InCircle, SomebodyMissing, StuckBecause, StuckStops, has_ended}
use Rattle.monitor_words.specs.Words.{count_behind, waited_event, groups_by, keeper_groups, wait_alike}
use Rattle.monitor_words.specs.declared.keepers.KeeperCondition.{KeeperCondition}
use Rattle.monitor_words.specs.declared.keepers.KeeperCondition.TheVariants as c
use Rattle.monitor_words.specs.declared.keepers.KeeperGroup.{KeeperGroup}
use Rattle.monitor_words.specs.declared.names.ShownNames.{ShownNames}
use Rattle.monitor_words.specs.declared.placed.PlacedTask.{PlacedTask}
use Rattle.monitor_words.specs.declared.reports.StateCounts.{StateCounts}
use Rattle.monitor_words.specs.declared.reports.WaitStanding.{WaitStanding}
use Rattle.monitor_words.specs.declared.reports.WaitStanding.TheVariants as w
use Rattle.monitor_words.specs.declared.rows.ShownRows.{ShownRows}
use Rattle.monitor_words.specs.declared.rows.WaitRow.{WaitRow}
use Rattle.monitor_words.specs.declared.sentences.StuckReason.{StuckReason}
use Rattle.monitor_words.specs.declared.sentences.StuckReason.TheVariants as r
use Rattle.monitor_words.specs.declared.sentences.StuckSentence.{StuckSentence}

-- ---- names and sentences

-- three names at most
abbrev pub first_names : List (List ℕ) → ShownNames
first_names names = record { shown = take 3 names; left = length names - 3 }

-- the names that are shown of these, and how many are left
abbrev pub names_shown : List Participant → ShownNames
names_shown us = first_names (map (λ u. u.name) us)

-- a task with its place, as a value
abbrev pub placed_task : Participant → PlacedTask
placed_task u = record { name = u.name; place = u.place }

-- a circle of eight at most is shown whole, and of a longer one the first seven
abbrev pub shown_circle : List Participant → StuckReason
shown_circle others =
    if nat_le (length others) 7 then r.InCircle (map placed_task others) 0
    else r.InCircle (map placed_task (take 6 others)) (length others - 6)

-- why f is stuck, as a value
abbrev pub reason_shown : Participant → StuckBecause → StuckReason
reason_shown f (InCircle others) = shown_circle others
reason_shown f (EndedKeeps u) = r.EndedKeeps (placed_task u)
reason_shown f (StuckStops u) = r.StuckStops (placed_task u)
reason_shown f SomebodyMissing = r.SomebodyMissing (waited_event f).0 (waited_event f).1

-- the sentence on f
abbrev pub sentence_shown : Participant → StuckBecause → StuckSentence
sentence_shown f because = record { task = placed_task f; reason = reason_shown f because }

-- ---- rows

-- the condition of who keeps others waiting, as a value
abbrev pub condition_shown : Bool → Condition → KeeperCondition
condition_shown stuck Running = c.Running
condition_shown stuck (Waiting p n) = if stuck then c.Stuck else c.Waiting
condition_shown stuck Ended = c.Ended
condition_shown stuck AnyTask = c.AnyTask
condition_shown stuck (OneOf names tasks) = c.OneOf (first_names names)

-- a group of them, as a value
abbrev pub group_shown : (ℕ → Bool) → List ℕ → Participant × List Participant → KeeperGroup
group_shown stuck p g =
    record {
      names = names_shown g.1;
      phase = unwrap_or (phase_on g.0 p) 0;
      condition = condition_shown (stuck g.0.number) g.0.condition;
      place = g.0.place;
    }

-- the row of tasks that wait alike, of which this is one
abbrev pub row_shown : TraceState → (ℕ → Bool) → Participant × List Participant → WaitRow
row_shown s stuck g =
    record {
      tasks = names_shown g.1;
      place = g.0.place;
      phaser = (waited_event g.0).0;
      phase = (waited_event g.0).1;
      keepers = map (group_shown stuck (waited_event g.0).0) (take 3 (keeper_groups s stuck g.0));
      left = count_behind 3 (keeper_groups s stuck g.0);
    }

-- the rows of groups of tasks
abbrev pub rows_shown : TraceState → (ℕ → Bool) → List (Participant × List Participant) → ShownRows
rows_shown s stuck groups = record { rows = map (row_shown s stuck) (take 10 groups); left = count_behind 10 groups }

-- the rows of those that are newly stuck
abbrev pub told_rows_shown : TraceState → (ℕ → Bool) → (ℕ → Bool) → Participant → List Participant → StuckBecause → ShownRows
told_rows_shown s was stuck f newly because =
    if (length newly == 1) && list_any (λ u. was u.number) (others_told because) then record { rows = []; left = 0 }
    else rows_shown s stuck (groups_by wait_alike (f ∷ newly) newly)

-- ---- reports and lists

-- how many run, wait, are stuck and have ended
abbrev pub state_counts : TraceState → (ℕ → Bool) → StateCounts
state_counts s stuck =
    record {
      tasks = count_by (λ u. is_live_task u.condition) s.list;
      running = count_by (λ u. is_live_task u.condition && not (waits_now u.condition)) s.list;
      waiting = count_by (λ u. waits_now u.condition) s.list;
      stuck = count_by (λ u. stuck u.number) s.list;
      ended = count_by (λ u. has_ended u.condition) s.list;
    }

-- how a waiting task stands
abbrev pub wait_standing : TraceState → (ℕ → Bool) → Participant → WaitStanding
wait_standing s stuck t = if stuck t.number then w.Stuck else if is_kept_waiting s t then w.Held else w.Free
