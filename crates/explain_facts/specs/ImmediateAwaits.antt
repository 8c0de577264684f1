-- The awaits of a text at which nobody ever has to wait: each task that comes to one awaits phase 0 there, which each member of a phaser has.
use Rattle.std.specs.Prelude.{ℕ, ◌==◌, ◌&&◌, Bool, false, not, Option, Some, None, length, nat_lt}
use Rattle.armus_base.specs.declared.event.Event.{Event}
use Rattle.armus_base.specs.Places.{awaited_at, some_before}
use Rattle.armus_base.specs.Plans.{Plan, code_of}
use Rattle.pl_core.specs.Tasks.{actions_before}
use Rattle.pl_syntax.specs.declared.tree.Program.{Program}
use Rattle.source_map.specs.Origins.{op_origin}
use Rattle.explain_facts.specs.PhaserUses.{is_used_so}
use Rattle.explain_facts.specs.declared.uses.PhaserUse.TheVariants.{Registers}

-- ---- what an op awaits

-- the event that op i of task t awaits, if it awaits one
abbrev pub event_at_op : Plan → ℕ → ℕ → Option Event
event_at_op plan t i = awaited_at plan t (actions_before (code_of plan t) i)

-- it is an event of a later phase than 0
abbrev pub is_late : Option Event → Bool
is_late None = false
is_late (Some e) = nat_lt 0 e.n

-- it is an event of a phaser on which an op registers a task: others than its maker are members there
abbrev pub is_shared : Plan → Option Event → Bool
is_shared plan None = false
is_shared plan (Some e) = is_used_so Registers plan e.p.0

-- ---- statements

-- it is number n
abbrev pub is_that_number : ℕ → Option ℕ → Bool
is_that_number n None = false
is_that_number n (Some m) = m == n

-- op i of task t comes from statement n, and what it awaits passes the test
abbrev pub comes_and_awaits : (Option Event → Bool) → Program → Plan → ℕ → ℕ → ℕ → Bool
comes_and_awaits test p plan n t i = is_that_number n (op_origin p t i) && test (event_at_op plan t i)

-- one of the first ops of task t, so many, does
abbrev pub some_op_awaits : (Option Event → Bool) → Program → Plan → ℕ → ℕ → ℕ → Bool
some_op_awaits test p plan n t ops = some_before (comes_and_awaits test p plan n t) ops

-- a task comes to statement n, and what it awaits there passes the test
abbrev pub some_task_awaits : (Option Event → Bool) → Program → Plan → ℕ → Bool
some_task_awaits test p plan n = some_before (λ t. some_op_awaits test p plan n t (length (code_of plan t))) (length plan.parents)

-- nobody ever has to wait at statement n: tasks come to it, all await phase 0, and one does so on a phaser that has others than its maker as members
abbrev pub is_immediate : Program → Plan → ℕ → Bool
is_immediate p plan n = some_task_awaits (is_shared plan) p plan n && not (some_task_awaits is_late p plan n)
