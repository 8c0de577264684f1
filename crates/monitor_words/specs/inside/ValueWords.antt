-- What the code writes of its values: names, places, conditions, rows and sentences.
use Rattle.std.specs.Prelude.{ℕ, zero, suc, Bool, ◌&&◌, ◌==◌, if◌then◌else◌, List, [], ◌∷◌, ◌++◌, Option, codes, decimal, flat_map, length}
use Rattle.std.specs.List.{join_by}
use Rattle.monitor_words.specs.Words.{at_words, waited_words, more_line, more_words}
use Rattle.monitor_words.specs.declared.keepers.KeeperCondition.{KeeperCondition}
use Rattle.monitor_words.specs.declared.keepers.KeeperCondition.TheVariants as c
use Rattle.monitor_words.specs.declared.keepers.KeeperGroup.{KeeperGroup}
use Rattle.monitor_words.specs.declared.names.ShownNames.{ShownNames}
use Rattle.monitor_words.specs.declared.placed.PlacedTask.{PlacedTask}
use Rattle.monitor_words.specs.declared.rows.ShownRows.{ShownRows}
use Rattle.monitor_words.specs.declared.rows.WaitRow.{WaitRow}
use Rattle.monitor_words.specs.declared.sentences.StuckReason.{StuckReason}
use Rattle.monitor_words.specs.declared.sentences.StuckReason.TheVariants as r
use Rattle.monitor_words.specs.declared.sentences.StuckSentence.{StuckSentence}

-- the names that are shown, and how many are left: a, b, c and 3 more
abbrev pub shown_names_words : ShownNames → List ℕ
shown_names_words names = join_by (λ x. x) (codes ", ") names.shown ++ more_words names.left

-- it is one name
abbrev pub is_one : ShownNames → Bool
is_one names = (length names.shown == 1) && (names.left == 0)

-- WHO: main at Averaging.java:21
abbrev pub placed_words : PlacedTask → List ℕ
placed_words t = t.name ++ at_words (codes " at ") t.place

-- the words of a condition
abbrev pub keeper_condition_words : KeeperCondition → List ℕ
keeper_condition_words c.Stuck = codes "stuck"
keeper_condition_words c.Waiting = codes "waiting"
keeper_condition_words c.Running = codes "running"
keeper_condition_words c.Ended = codes "ended"
keeper_condition_words c.AnyTask = codes "any task"
keeper_condition_words (c.OneOf names) = (if is_one names then codes "only " else codes "one of ") ++ shown_names_words names

-- where somebody is who is in this condition; of a wildcard nothing
abbrev pub seen_words : KeeperCondition → Option (List ℕ) → List ℕ
seen_words c.Stuck place = at_words (codes " at ") place
seen_words c.Waiting place = at_words (codes " at ") place
seen_words c.Running place = at_words (codes ", last seen at ") place
seen_words c.Ended place = at_words (codes ", last seen at ") place
seen_words c.AnyTask place = []
seen_words (c.OneOf names) place = []

-- a group of keepers up to its condition: w1, w2 have phase 0 (
abbrev pub group_front : KeeperGroup → List ℕ
group_front g =
    shown_names_words g.names ++ (if is_one g.names then codes " has phase " else codes " have phase ") ++ decimal g.phase ++ codes " ("

-- the rest of it
abbrev pub group_end : KeeperGroup → List ℕ
group_end g = keeper_condition_words g.condition ++ seen_words g.condition g.place ++ codes ")"

-- the bytes of a group of keepers
abbrev pub shown_group_words : KeeperGroup → List ℕ
shown_group_words g = group_front g ++ group_end g

-- KEEPERS: the groups that are shown, and how many keepers are left
abbrev pub shown_keepers_words : WaitRow → List ℕ
shown_keepers_words row = join_by shown_group_words (codes ", ") row.keepers ++ more_words row.left

-- a row up to what its tasks wait for, and the rest of it
abbrev pub row_tasks : WaitRow → List ℕ
row_tasks row = codes "  " ++ shown_names_words row.tasks ++ at_words (codes " at ") row.place

-- for what those of a row wait
abbrev pub row_waited : WaitRow → List ℕ
row_waited row = (if is_one row.tasks then codes " waits for " else codes " wait for ") ++ waited_words (row.phaser, row.phase)

-- who keeps them waiting, up to the end of the line
abbrev pub row_end : WaitRow → List ℕ
row_end row = codes "; " ++ shown_keepers_words row ++ codes "\n"

-- the bytes of a row
abbrev pub shown_row_words : WaitRow → List ℕ
shown_row_words row = (row_tasks row ++ row_waited row) ++ row_end row

-- ROWS: those that are shown, and how many tasks are left
abbrev pub shown_rows_words : ShownRows → List ℕ
shown_rows_words rows = flat_map shown_row_words rows.rows ++ more_line rows.left

-- between two tasks of a circle
abbrev pub next_words : List ℕ
next_words = codes ", which waits for "

-- how many of a circle are left, where some are
abbrev pub circle_left : ℕ → List ℕ
circle_left zero = []
circle_left (suc k) = decimal (suc k) ++ codes " more, the last of which waits for "

-- the end of a circle, of which so many are left, with the name of its first task
abbrev pub circle_end : ℕ → List ℕ → List ℕ
circle_end k first = circle_left k ++ first

-- a circle of the task of this name, with these others shown
abbrev pub told_circle : List ℕ → List PlacedTask → ℕ → List ℕ
told_circle first [] left = codes "itself"
told_circle first (u ∷ others) left = flat_map (λ x. placed_words x ++ next_words) (u ∷ others) ++ circle_end left first

-- whom or what the task of this name waits for
abbrev pub shown_reason_words : List ℕ → StuckReason → List ℕ
shown_reason_words first (r.InCircle others left) = told_circle first others left
shown_reason_words first (r.EndedKeeps u) = placed_words u ++ codes ", which has ended"
shown_reason_words first (r.StuckStops u) = placed_words u ++ codes ", which is stuck"
shown_reason_words first (r.SomebodyMissing p n) =
    waited_words (p, n) ++ codes ", for which somebody is missing who cannot come any more"

-- SENTENCE, with this verb of the task
abbrev pub shown_sentence_words : List ℕ → StuckSentence → List ℕ
shown_sentence_words verb s = placed_words s.task ++ verb ++ shown_reason_words s.task.name s.reason
