-- What the tables of origins hold.
use Rattle.std.specs.Prelude.{ℕ, ◌+◌, if◌then◌else◌, nat_le, ◌==◌, Bool, List, [], map, Option, Some, None}
use Rattle.pl_syntax.specs.declared.tree.Program.{Program}
use Rattle.std.specs.Borrow.{Bor}
use Rattle.pl_syntax.specs.declared.tree.Stmt.{Stmt}
use Rattle.pl_syntax.specs.declared.tree.Stmt.TheVariants as s
use Rattle.pl_syntax.specs.Tree.{Tree, done, plain, fork, loop, count, new_task, new_phaser, reg, dereg, adv, await, skip}
use Rattle.pl_plan.specs.Unfolding.{Coming, Visit, a_fork, a_loop, a_plain, visits_of}
use Rattle.pl_plan.specs.Tests.{of_new_phaser, of_new_task}
use Rattle.source_map.specs.declared.making.MadeKind.{MadeKind}
use Rattle.source_map.specs.declared.making.MadeKind.TheVariants.{APhaser, ATask, AnOp}
use Rattle.source_map.specs.Origins.{comes_to_op}

-- coming to this makes such a thing
abbrev pub makes_it : MadeKind → Coming → Bool
makes_it APhaser = of_new_phaser
makes_it ATask = of_new_task
makes_it AnOp = comes_to_op

-- the body of the fork with this number, among statements of which the first has number n
abbrev pub fork_body : ℕ → Tree → ℕ → Option Tree
fork_body n done f = None
fork_body n (plain s rest) f = fork_body (n + 1) rest f
fork_body n (fork x body rest) f =
    if n == f then Some body else (if nat_le f (n + count body) then fork_body (n + 1) body f else fork_body (n + 1 + count body) rest f)
fork_body n (loop k body rest) f = if nat_le f (n + count body) then fork_body (n + 1) body f else fork_body (n + 1 + count body) rest f

-- the body of the fork with this number; for 0 the whole program
abbrev pub forked_body : Tree → ℕ → Option Tree
forked_body program f = if f == 0 then Some program else fork_body 1 program f

-- the visits of this body, of which the first statement has number n
abbrev pub visits_at : ℕ → Option Tree → List Visit
visits_at n None = []
visits_at n (Some body) = visits_of n body

-- the visits of a task, by its fork
abbrev pub visits_by_fork : Program → Option ℕ → List Visit
visits_by_fork program None = []
visits_by_fork program (Some f) = visits_at (f + 1) (forked_body program.body f)

-- ---- statements by their numbers

-- a statement as it is come to
abbrev pub coming_of : Stmt → Coming
coming_of (s.NewTask x) = a_plain (new_task x)
coming_of (s.NewPhaser x) = a_plain (new_phaser x)
coming_of (s.Reg x y) = a_plain (reg x y)
coming_of (s.Dereg x) = a_plain (dereg x)
coming_of (s.Adv x) = a_plain (adv x)
coming_of (s.Await x off) = a_plain (await x off)
coming_of s.Skip = a_plain skip
coming_of (s.Fork x body) = a_fork x body
coming_of (s.Loop k body) = a_loop

-- statements that are kept, as they are come to
abbrev pub kept_comings : List (Bor Stmt) → List Coming
kept_comings rows = map (λ (row : Bor Stmt). coming_of row.now) rows

-- the body of a statement, where it is a fork
abbrev pub body_of : Option Coming → Option Tree
body_of (Some (a_fork x body)) = Some body
body_of _ = None
