-- What a call on the seat of a task gives its proof: the seat and the board as their fields have them, by what the call asks.
use Rattle.std.proofs.Common.{◌≡◌, ℕ, ◌<◌, false, Option, Some, length, sym, ap, ◌∙◌, subst, subst₂}
use Rattle.armus_base.specs.declared.event.Event.{Event}
use Rattle.armus_base.specs.Plans.{Action, Plan}
use Rattle.board.specs.calls.Views.{next_action}
use Rattle.board.specs.calls.Words.{phase_index}
use Rattle.board.specs.calls.Seats.{Frame, IsOf, Known}
use Rattle.board.specs.inside.Sitting.{IsSitting}
use Rattle.board.proofs.Stores.{IsFree}

-- the seat is of the board
pub of_board : {here now : Known} {frame board : Frame} → here ≡ now → frame ≡ board → IsOf now board → IsOf here frame
of_board s b made = subst₂ IsOf (sym s) (sym b) made

-- its task is one of the board's plan
pub own_small : {here now : Known} {board : Frame} {t n : ℕ} {o : Option Event} → IsSitting t n o here → here ≡ now → IsOf now board →
    t < length board.plan.parents
own_small {here} {now} {board} {t} i s made =
    let of : IsOf here board = subst (λ k. IsOf k board) (sym s) made in
    subst (λ (q : Plan). t < length q.parents) of.plan (i.seat.own t i.task).0

-- and so is another one that the call names
pub task_small : {u : ℕ} {here now : Known} {board : Frame} → here ≡ now → IsOf now board → u < length board.plan.parents → u < length here.view.plan.parents
task_small {u} s made small = subst (λ (q : Plan). u < length q.parents) (sym made.plan ∙ sym (ap (λ (k : Known). k.view.plan) s)) small

-- it does not hold the lock
pub is_free : {here now : Known} {t n : ℕ} {o : Option Event} → IsSitting t n o here → here ≡ now → now.view.holds ≡ false → IsFree here.view t
is_free i s unlocked = record { own = i.task; live = i.seat.live; free = ap (λ (k : Known). k.view.holds) s ∙ unlocked }

-- what comes next by its code
pub next_here : {here now : Known} {x : Action} → here ≡ now → next_action now.view ≡ Some x → next_action here.view ≡ Some x
next_here s next = ap (λ (k : Known). next_action k.view) s ∙ next

-- a word of the board's table
pub in_table : {index : ℕ} {frame board : Frame} → frame ≡ board → index < board.table.words → index < frame.table.words
in_table {index} b inside = subst (λ (f : Frame). index < f.table.words) (sym b) inside

-- the phase word of a task on a phaser of the board's plan
pub record IsPhaseWord (frame : Frame) (t p index : ℕ) : Type 0 where
  pub few : p < length frame.plan.makers
  pub inside : index < frame.table.words
  pub is : index ≡ phase_index frame.plan t p

pub phase_word : (t p : ℕ) {index : ℕ} {frame board : Frame} → frame ≡ board → p < length board.plan.makers → index < board.table.words →
    index ≡ phase_index board.plan t p →
    IsPhaseWord frame t p index
phase_word t p {index} b few inside is = subst (λ (f : Frame). IsPhaseWord f t p index) (sym b) (record { few = few; inside = inside; is = is })
