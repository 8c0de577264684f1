-- Small programs with the pieces of their codes.
use Rattle.std.specs.Prelude.{ℕ, ◌+◌, codes, true, false, List, [], ◌∷◌}
use Rattle.armus_base.specs.declared.offset.Offset.TheVariants.{Back, Here}
use Rattle.armus_base.specs.declared.op.Op.TheVariants.{Make, Reg, Fork, Adv, Drop, Await}
use Rattle.armus_base.specs.declared.piece.Piece.{Piece}
use Rattle.armus_base.specs.declared.piece.Piece.TheVariants.{Op as Single, Repeat}
use Rattle.pl_syntax.specs.declared.tree.Program.{Program}
use Rattle.pl_syntax.specs.Tree.{Tree, done, plain, fork, loop, new_task, new_phaser, reg, dereg, adv, await, skip}
use Rattle.armus_base.specs.Numbers.{phaser, task}
use Rattle.pl_plan.specs.calls.Folding.{HasPieces}

-- a program, and the pieces of its tasks' codes, from task 0 on
pub record FoldedExample : Type 0 where
  pub program : Program
  pub pieces : List (List Piece)

-- ---- programs, written backwards from what follows a statement

abbrev p : List ℕ
p = codes "p"

abbrev q : List ℕ
q = codes "q"

abbrev t : List ℕ
t = codes "t"

-- p = newPhaser(); and then these statements
abbrev with_phaser : Tree → Tree
with_phaser rest = plain (new_phaser p) rest

-- pieces with one op on phaser n
abbrev one_op_on : ℕ → Piece
one_op_on n = Single (Make (phaser n))

abbrev advances : ℕ → Piece
advances n = Single (Adv (phaser n))

abbrev awaits : ℕ → Piece
awaits n = Single (Await (phaser n) Here)

abbrev drops : ℕ → Piece
drops n = Single (Drop (phaser n))

-- task c is registered with phaser 0, and then forked
abbrev registers : ℕ → Piece
registers c = Single (Reg (task c) (phaser 0))

abbrev forks_task : ℕ → Piece
forks_task c = Single (Fork (task c))

-- a program of PL 1 whose one task has these pieces
abbrev one_task_of : Tree → List Piece → FoldedExample
one_task_of body pieces = record { program = record { two = false; body = body }; pieces = pieces ∷ [] }

-- ---- steady loops that leave a Repeat

-- p = newPhaser(); loop 3 { adv(p); await(p); }
abbrev steady_loop : FoldedExample
steady_loop = one_task_of (with_phaser (loop 3 (plain (adv p) (plain (await p Here) done)) done)) (one_op_on 0 ∷ Repeat 3 2 ∷ advances 0 ∷ awaits 0 ∷ [])

-- one turn is enough: p = newPhaser(); loop 1 { adv(p); }
abbrev one_turn : FoldedExample
one_turn = one_task_of (with_phaser (loop 1 (plain (adv p) done) done)) (one_op_on 0 ∷ Repeat 1 1 ∷ advances 0 ∷ [])

-- one in another: p = newPhaser(); loop 2 { loop 3 { adv(p); skip; } await(p); }
abbrev nested_loops : FoldedExample
nested_loops =
    one_task_of
    (with_phaser (loop 2 (loop 3 (plain (adv p) (plain skip done)) (plain (await p Here) done)) done))
    (one_op_on 0 ∷ Repeat 2 3 ∷ Repeat 3 1 ∷ advances 0 ∷ awaits 0 ∷ [])

-- one of no turn in another: p = newPhaser(); loop 5 { loop 0 { adv(q); } adv(p); }
abbrev no_turn_inside : FoldedExample
no_turn_inside = one_task_of (with_phaser (loop 5 (loop 0 (plain (adv q) done) (plain (adv p) done)) done)) (one_op_on 0 ∷ Repeat 5 1 ∷ advances 0 ∷ [])

-- ---- steady loops that leave nothing

-- an empty one, one that makes no op, and one of no turn: p = newPhaser(); loop 3 { } loop 3 { skip; } loop 0 { adv(q); }
abbrev without_pieces : FoldedExample
without_pieces = one_task_of (with_phaser (loop 3 done (loop 3 (plain skip done) (loop 0 (plain (adv q) done) done)))) (one_op_on 0 ∷ [])

-- one of which a turn leaves none: p = newPhaser(); loop 5 { loop 0 { adv(p); } }
abbrev no_piece_in_a_turn : FoldedExample
no_piece_in_a_turn = one_task_of (with_phaser (loop 5 (loop 0 (plain (adv p) done) done) done)) (one_op_on 0 ∷ [])

-- ---- loops that are not steady

-- one that forks, in whose children there are steady loops:
-- p = newPhaser(); loop 2 { t = newTid(); reg(t, p); fork(t) { loop 2 { adv(p); } } }
abbrev forking_loop : FoldedExample
forking_loop =
    record {
      program =
          record { two = false; body = with_phaser (loop 2 (plain (new_task t) (plain (reg t p) (fork t (loop 2 (plain (adv p) done) done) done))) done) };
      pieces =
          (one_op_on 0 ∷ registers 1 ∷ forks_task 1 ∷ registers 2 ∷ forks_task 2 ∷ []) ∷ (Repeat 2 1 ∷ advances 0 ∷ []) ∷ (Repeat 2 1 ∷ advances 0 ∷ []) ∷ [];
    }

-- one that makes its phaser each turn, with a steady loop inside: p = newPhaser(); loop 2 { p = newPhaser(); loop 2 { adv(p); } }
abbrev phaser_each_turn : FoldedExample
phaser_each_turn =
    one_task_of
    (with_phaser (loop 2 (with_phaser (loop 2 (plain (adv p) done) done)) done))
    (one_op_on 0 ∷ one_op_on 1 ∷ Repeat 2 1 ∷ advances 1 ∷ one_op_on 2 ∷ Repeat 2 1 ∷ advances 2 ∷ [])

-- one that draws a task, though it makes no op for it: p = newPhaser(); loop 2 { t = newTid(); adv(p); }
abbrev drawing_loop : FoldedExample
drawing_loop =
    record {
      program = record { two = false; body = with_phaser (loop 2 (plain (new_task t) (plain (adv p) done)) done) };
      pieces = (one_op_on 0 ∷ advances 0 ∷ advances 0 ∷ []) ∷ [] ∷ [] ∷ [];
    }

-- one with a statement that it never comes to: p = newPhaser(); loop 2 { adv(p); loop 0 { dereg(p); } }
abbrev never_come_to : FoldedExample
never_come_to = one_task_of (with_phaser (loop 2 (plain (adv p) (loop 0 (plain (dereg p) done) done)) done)) (one_op_on 0 ∷ advances 0 ∷ advances 0 ∷ [])

-- ---- Drops of the end

-- pl 2; p = newPhaser(); t = newTid(); reg(t, p); fork(t) { loop 2 { adv(p); await(p - 1); } } loop 2 { adv(p); await(p); }
abbrev drops_behind : FoldedExample
drops_behind =
    record {
      program =
          record {
            two = true;
            body =
                with_phaser (plain (new_task t) (plain (reg t p) (fork t (loop 2 (plain (adv p) (plain (await p (Back 1)) done)) done)
                (loop 2 (plain (adv p) (plain (await p Here) done)) done))));
          };
      pieces =
          (one_op_on 0 ∷ registers 1 ∷ forks_task 1 ∷ Repeat 2 2 ∷ advances 0 ∷ awaits 0 ∷ drops 0 ∷ [])
          ∷ (Repeat 2 2 ∷ advances 0 ∷ Single (Await (phaser 0) (Back 1)) ∷ drops 0 ∷ []) ∷ [];
    }

-- programs with loops that leave a Repeat
abbrev pub folded_loops : List FoldedExample
folded_loops = steady_loop ∷ one_turn ∷ nested_loops ∷ no_turn_inside ∷ drops_behind ∷ []

-- programs with loops that leave none
abbrev pub other_loops : List FoldedExample
other_loops = without_pieces ∷ no_piece_in_a_turn ∷ forking_loop ∷ phaser_each_turn ∷ drawing_loop ∷ never_come_to ∷ []

-- the tasks from u on have these lists of pieces, in order
abbrev pub HaveInOrder : Program → ℕ → List (List Piece) → Type 0
HaveInOrder program u [] = Unit {0}
HaveInOrder program u (ps ∷ lists) = HasPieces program u ps × HaveInOrder program (u + 1) lists

-- each example's tasks have its pieces
abbrev pub HaveTheirPieces : List FoldedExample → Type 0
HaveTheirPieces [] = Unit {0}
HaveTheirPieces (e ∷ examples) = HaveInOrder e.program 0 e.pieces × HaveTheirPieces examples
