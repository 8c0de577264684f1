-- What becomes of what is kept of a task.
use Rattle.std.specs.Prelude.{ℕ, ◌+◌, true, false, List, Some, None, replicate, slice_set}
use Rattle.armus_base.specs.declared.event.Event.{Event}
use Rattle.pl_core.specs.declared.task.TaskRecord.{TaskRecord}

-- it has made no event, and is not forked
abbrev pub unbegun : TaskRecord
unbegun = record { place = record { events = 0; refused = false }; op = 0; event = None; forked = false }

-- what is kept of n tasks of which only task 0 is forked, and which have made no event
abbrev pub opening_tasks : ℕ → List TaskRecord
opening_tasks n = slice_set (replicate n unbegun) 0 (record unbegun { forked = true })

-- it has published the event
abbrev pub after_block : TaskRecord → Event → TaskRecord
after_block task e = record task { place = record task.place { events = task.place.events + 1 }; event = Some e }

-- it has made the last event of its op
abbrev pub after_op : TaskRecord → TaskRecord
after_op task = record task { place = record task.place { events = task.place.events + 1 }; op = task.op + 1; event = None }

-- it is forked
abbrev pub after_fork : TaskRecord → TaskRecord
after_fork task = record task { forked = true }

-- its await of the event is refused
abbrev pub after_refusal : TaskRecord → Event → TaskRecord
after_refusal task e = record task { place = record task.place { refused = true }; event = Some e }
