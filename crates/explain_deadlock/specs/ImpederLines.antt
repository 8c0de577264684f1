-- The lines of the impeders of a paragraph's tasks.
use Rattle.std.specs.Prelude.{ℕ, ◌==◌, Bool, false, List, [], ◌∷◌, ◌++◌, Option, Some, None, codes, decimal, filter, flat_map, length, map, not, take}
use Rattle.std.specs.List.{list_any}
use Rattle.armus_base.specs.declared.ids.TaskId.{TaskId}
use Rattle.armus_base.specs.Finals.{list_below}
use Rattle.armus_base.specs.States.{Phases}
use Rattle.pl_syntax.specs.Printed.{line}
use Rattle.explain_facts.specs.declared.account.Forked.{Forked}
use Rattle.explain_tasks.specs.declared.impeders.Impeder.{Impeder}
use Rattle.explain_tasks.specs.Facts.{FactsValue, forking_of}
use Rattle.explain_tasks.specs.Groups.{each_once}
use Rattle.explain_tasks.specs.Impeders.{impeders_by_facts}
use Rattle.explain_tasks.specs.Nexts.{next_of}
use Rattle.explain_tasks.specs.Places.{named_tasks, said_of}
use Rattle.explain_tasks.specs.Sayings.{Forking, Said, impeder_said, same_said}
use Rattle.explain_tasks.specs.TaskLists.{by_number}

-- u is the forker of a task with this fork
abbrev pub is_forked_by : ℕ → Option Forked → Bool
is_forked_by u None = false
is_forked_by u (Some x) = x.by.0 == u

-- u is the forker of one of these tasks
abbrev pub is_forker_of : FactsValue → List TaskId → ℕ → Bool
is_forker_of f tasks u = list_any (λ (t : TaskId). is_forked_by u (forking_of f t.0)) tasks

-- the forkers of these tasks, in order of number
abbrev pub forkers_of : FactsValue → List TaskId → List TaskId
forkers_of f tasks = filter (λ (u : TaskId). is_forker_of f tasks u.0) (list_below (λ u. record { 0 = u }) (length f.standings))

-- who would fork these so many tasks: t0 would fork it at 6:1 and is held at 5:1
abbrev pub forking_words : FactsValue → Option Forking → ℕ → List TaskId → List ℕ
forking_words f None n forkers = []
forking_words f (Some g) n forkers =
    named_tasks f forkers ++ codes " would fork " ++ by_number n (codes "it") (codes "them") ++ g.at ++ codes " and "
    ++ by_number (length forkers) (codes "is ") (codes "are ")
    ++ g.stands

-- whom these impeders, of whom this is said, keep waiting in a paragraph of so many tasks:   t (t1 to t3) keep it waiting with phase 0, and a blank
abbrev pub keeping_words : FactsValue → ℕ → Said → List TaskId → List ℕ
keeping_words f n said tasks =
    codes "  " ++ named_tasks f tasks ++ by_number (length tasks) (codes " keeps ") (codes " keep ") ++ by_number n (codes "it") (codes "them")
    ++ codes " waiting with phase "
    ++ said_of decimal said.phase
    ++ codes ", "

-- the line of these impeders:   t (t1 to t3) keep it waiting with phase 0, deadlocked at 11:7: await(pc); no adv of pb follows
abbrev pub group_line : FactsValue → ℕ → Said → List TaskId → List ℕ
group_line f n said tasks =
    line (keeping_words f n said tasks ++ said.words ++ forking_words f said.forking (length tasks) (forkers_of f tasks) ++ said.next)

-- the impeders of whom this is said
abbrev pub group_of : FactsValue → List Impeder → Said → List TaskId
group_of f impeders said = map (λ (i : Impeder). i.t) (filter (λ (i : Impeder). same_said said (impeder_said f i)) impeders)

-- the impeders of whom none of these things is said
abbrev pub rest_of : FactsValue → List Impeder → List Said → List TaskId
rest_of f impeders told = map (λ (i : Impeder). i.t) (filter (λ (i : Impeder). not (list_any (λ said. same_said said (impeder_said f i)) told)) impeders)

-- the line of the rest:   and t (t5 and t6)
abbrev pub rest_line : FactsValue → List TaskId → List ℕ
rest_line f [] = []
rest_line f (t ∷ rest) = line (codes "  and " ++ named_tasks f (t ∷ rest))

-- the impeder with this number
abbrev pub is_this_impeder : Option TaskId → Impeder → Bool
is_this_impeder None i = false
is_this_impeder (Some t) i = i.t.0 == t.0

-- what is said of the impeders: of the next first, and else in the order of their numbers
abbrev pub told_of : FactsValue → Option TaskId → List Impeder → List Said
told_of f next impeders = each_once same_said (map (impeder_said f) (filter (is_this_impeder next) impeders ++ impeders))

-- the lines of impeders in a paragraph of so many tasks: the first three groups, and the rest
abbrev pub lines_by : FactsValue → ℕ → Option TaskId → List Impeder → List ℕ
lines_by f n next impeders =
    let told = take 3 (told_of f next impeders) in
    flat_map (λ said. group_line f n said (group_of f impeders said)) told ++ rest_line f (rest_of f impeders told)

-- the lines of the impeders of task t in its paragraph of so many tasks
abbrev pub impeder_lines : FactsValue → (ℕ → Phases) → ℕ → ℕ → List ℕ
impeder_lines f phases n t = lines_by f n (next_of f phases t) (impeders_by_facts f phases t)
