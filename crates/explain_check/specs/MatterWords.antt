-- What is wrong at a check fault.
use Rattle.std.specs.Prelude.{ℕ, List, ◌++◌, codes, decimal}
use Rattle.explain_check.specs.declared.scene.Matter.{Matter}
use Rattle.explain_check.specs.declared.scene.Matter.TheVariants as m
use Rattle.explain_check.specs.declared.scene.NamedTask.{NamedTask}
use Rattle.explain_check.specs.declared.scene.Verb.{Verb}
use Rattle.explain_check.specs.declared.scene.Verb.TheVariants as v
use Rattle.explain_syntax.specs.QuotedWords.{quoted}
use Rattle.explain_check.specs.NameWords.{phaser_words, task_words}

-- a task is wanted by fork and by reg, which says that it is its first name
abbrev pub task_wanted_words : Verb → List ℕ
task_wanted_words v.Fork = codes " is a phaser, and fork wants a task"
task_wanted_words v.Reg = codes " is a phaser, and reg wants a task first"
task_wanted_words v.Dereg = codes " is a phaser, and dereg wants a task"
task_wanted_words v.Adv = codes " is a phaser, and adv wants a task"
task_wanted_words v.Await = codes " is a phaser, and await wants a task"

-- a phaser is wanted by dereg, adv and await, and by reg, which says that it is its second name
abbrev pub phaser_wanted_words : Verb → List ℕ
phaser_wanted_words v.Fork = codes " is a task, and fork wants a phaser"
phaser_wanted_words v.Reg = codes " is a task, and reg wants a phaser second"
phaser_wanted_words v.Dereg = codes " is a task, and dereg wants a phaser"
phaser_wanted_words v.Adv = codes " is a task, and adv wants a phaser"
phaser_wanted_words v.Await = codes " is a task, and await wants a phaser"

-- the sentence, where this is the current task
abbrev pub matter_words : NamedTask → Matter → List ℕ
matter_words current (m.UnknownName name) = quoted name ++ codes " is not known here: no newTid or newPhaser names it before"
matter_words current (m.TaskWanted name verb phaser made) = quoted name ++ task_wanted_words verb
matter_words current (m.PhaserWanted name verb task drawn) = quoted name ++ phaser_wanted_words verb
matter_words current (m.HasLeft phaser left) = task_words current ++ codes " is no member of " ++ phaser_words phaser
matter_words current (m.NeverMember phaser) = task_words current ++ codes " is no member of " ++ phaser_words phaser
matter_words current (m.AlreadyMember task phaser registered) = (task_words task ++ codes " is a member of " ++ phaser_words phaser) ++ codes " already"
matter_words current (m.NotDrawnHere task by drawn) = task_words current ++ codes " did not draw " ++ task_words task
matter_words current (m.AlreadyForked task forked) = task_words task ++ codes " is forked already"
matter_words current m.TooManyTasks = codes "4096 tasks are there already: no more may be"
matter_words current m.TooManyPhasers = codes "1024 phasers are there already: no more may be"
matter_words current m.TooManyOps = codes "1048576 ops are there already: no more may be"
matter_words current (m.TooManyOpsAtEnd phaser) =
    codes "1048576 ops are there already: at its end " ++ (task_words current ++ codes " cannot leave " ++ phaser_words phaser)
matter_words current m.TooManyVisits = codes "4194304 visits were made already: no more may be"
matter_words current (m.TooManyCells tasks phasers) =
    (decimal tasks ++ codes " tasks and " ++ decimal phasers ++ codes " phasers would be there")
    ++ codes ": the tasks times one more than the phasers may be at most 1048576"
