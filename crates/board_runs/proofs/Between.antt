-- The board_tasks from round to round.
use Rattle.std.proofs.Common.{◌≡◌, ℕ, zero, suc, List, [], ◌∷◌, ◌++◌, Some, length, map, take, get_or, sym, refl, ap, ◌∙◌, subst, arith, inl, inr, ◌⊎◌, eqb-true}
use Rattle.std.specs.List.{flat_map}
use Rattle.std.specs.Prelude.{All, Contains}
use Rattle.std.proofs.lemmas.List.Elements.{Contains-append_cases, Contains-append_left, Contains-append_right, Contains-get_or}
use Rattle.armus_base.proofs.Elements.{Contains-cons_cases, Contains-head, Contains-tail, from_map, in_map, nothing_in_nil}
use Rattle.armus_base.specs.Plans.{Action}
use Rattle.board.specs.calls.Views.{own_place}
use Rattle.armus_base.specs.Runs.{Place}
use Rattle.armus_base.specs.calls.Seats.{SeenBy, seen_by_child}
use Rattle.board.specs.calls.Seats.{Frame, IsNewSeat, Known, nothing_seen}
use Rattle.board.proofs.Walking.{new_first}
use Rattle.board_runs.specs.calls.Turns.{EachActs, MayTakeTurn, Working}
use Rattle.board_runs.proofs.TaskSeatsKept.{task_seats_after, starts}
use Rattle.board_runs.specs.calls.TaskSeats.{AreTaskSeats, IsTaskSeat, IsSeatIn}
use Rattle.board_runs.specs.calls.Rounds.{emptied, fresh, fresh_of}
use Rattle.board_runs.specs.inside.Rounds.{IsAtStart, IsChildIn}

-- a board_tasks by other words
pub task_seats_same : (f : Frame) (P Q : Known → Type 0) → ((k : Known) → P k → Q k) → ((k : Known) → Q k → P k) → AreTaskSeats f P → AreTaskSeats f Q
task_seats_same f P Q to from board_tasks =
    record {
      each = λ k q. board_tasks.each k (from k q);
      root = (board_tasks.root.0, to board_tasks.root.0 board_tasks.root.1, board_tasks.root.2);
      forked = λ k q j c l is. let r = board_tasks.forked k (from k q) j c l is in (r.0, to r.0 r.1, r.2);
    }

in_fresh : (ws : List Working) (w : Working) (k : Known) → Contains ws w → Contains w.children k → Contains (flat_map fresh_of ws) (fresh k)
in_fresh [] w k i at = absurd (nothing_in_nil w i)
in_fresh (v ∷ ws) w k i at = elim (Contains-cons_cases v ws w i) [
  | inl here ↦
      Contains-append_left (fresh_of v) (flat_map fresh_of ws) (fresh k)
      (subst (λ (z : Working). Contains (fresh_of z) (fresh k)) (sym here) (in_map fresh w.children k at))
  | inr there ↦ Contains-append_right (fresh_of v) (flat_map fresh_of ws) (fresh k) (in_fresh ws w k there at)
]

pub from_fresh : (ws : List Working) (x : Working) → Contains (flat_map fresh_of ws) x → (w : Working) × (k : Known) × Contains ws w × Contains w.children k × (fresh k ≡ x)
from_fresh [] x i = absurd (nothing_in_nil x i)
from_fresh (v ∷ ws) x i = elim (Contains-append_cases (fresh_of v) (flat_map fresh_of ws) x i) [
  | inl here ↦ (let r = from_map fresh v.children x here in (v, r.0, Contains-head v ws, r.1, r.2))
  | inr there ↦ (let r = from_fresh ws x there in (r.0, r.1, Contains-tail v ws r.0 r.2, r.3, r.4))
]

-- the children were taken on as tasks of their own
pub taken_on : (ws : List Working) (k : Known) → (IsSeatIn ws k ⊎ IsChildIn ws k) → IsSeatIn (map emptied ws ++ flat_map fresh_of ws) k
taken_on ws k at = elim at [
  | inl seat ↦ (emptied seat.0, Contains-append_left (map emptied ws) (flat_map fresh_of ws) (emptied seat.0) (in_map emptied ws seat.0 seat.1), seat.2)
  | inr child ↦ (fresh k, Contains-append_right (map emptied ws) (flat_map fresh_of ws) (fresh k) (in_fresh ws child.0 k child.1 child.2), refl)
]

pub taken_from : (ws : List Working) (k : Known) → IsSeatIn (map emptied ws ++ flat_map fresh_of ws) k → IsSeatIn ws k ⊎ IsChildIn ws k
taken_from ws k at = elim (Contains-append_cases (map emptied ws) (flat_map fresh_of ws) at.0 at.1) [
  | inl old ↦ (let r = from_map emptied ws at.0 old in inl (r.0, r.1, at.2 ∙ ap (λ (w : Working). w.seat) (sym r.2)))
  | inr new ↦
      (let r = from_fresh ws at.0 new in
      let same : r.1 ≡ k = ap (λ (w : Working). w.seat) r.4 ∙ sym at.2 in
      inr (r.0, r.2, subst (λ z. Contains r.0.children z) same r.3))
]

pub none_left : (ws : List Working) (w : Working) → Contains (map emptied ws ++ flat_map fresh_of ws) w → w.children ≡ []
none_left ws w i = elim (Contains-append_cases (map emptied ws) (flat_map fresh_of ws) w i) [
  | inl old ↦ (let r = from_map emptied ws w old in ap (λ (x : Working). x.children) (sym r.2))
  | inr new ↦ (let r = from_fresh ws w new in ap (λ (x : Working). x.children) (sym r.4))
]

pub all_from : {X : Type 0} (P : X → Type 0) (xs : List X) → ((x : X) → Contains xs x → P x) → All P xs
all_from P xs each k d l = each (get_or xs k d) (Contains-get_or xs k d l)

pub to_each : (P : Working → Type 0) (ws : List Working) → All P ws → (w : Working) → Contains ws w → P w
to_each P ws all w i = subst P i.2 (all i.0 w i.1)

pub take_front : (ws rest : List Working) (n : ℕ) → n ≡ length ws → take n (ws ++ rest) ≡ ws
take_front [] rest n e = ap (λ k. take k rest) e
take_front (w ∷ ws) rest zero e = absurd (omega arith)
take_front (w ∷ ws) rest (suc n) e = ap (λ vs. w ∷ vs) (take_front ws rest n (omega arith))

-- each task of a board_tasks may take its turn
pub task_seats_ready : (f : Frame) (ws : List Working) → AreTaskSeats f (IsSeatIn ws) → All (MayTakeTurn f) ws
task_seats_ready f ws board_tasks = all_from (MayTakeTurn f) ws (λ w i. let s = board_tasks.each w.seat (w, i, refl) in record { of_board = s.of_board; kept = s.kept; free = s.free })

-- a whole round: the turns, and then the children are taken on
module _ (f : Frame) (owns : List (List Action)) (olds news : List Working) (each : EachActs f owns olds news) (board_tasks : AreTaskSeats f (IsSeatIn olds)) (none : All (λ (w : Working). w.children ≡ []) olds) where
  each_none : (w : Working) → Contains olds w → w.children ≡ []
  each_none = to_each (λ (w : Working). w.children ≡ []) olds none

  pub then_starts : (k : Known) → IsChildIn news k → IsAtStart f.plan k
  then_starts = starts f owns olds news each each_none

  abbrev next : List Working
  next = map emptied news ++ flat_map fresh_of news

  pub then_task_seats : AreTaskSeats f (IsSeatIn next)
  then_task_seats =
      task_seats_same f (λ k. (IsSeatIn news k ⊎ IsChildIn news k) ⊎ ⊥) (IsSeatIn next)
      (λ k p. elim p [ inl at ↦ taken_on news k at | inr no_way ↦ absurd no_way ])
      (λ k q. inl (taken_from news k q))
      (task_seats_after f owns olds news (λ k. ⊥) each each_none
      (task_seats_same f (IsSeatIn olds) (λ k. IsSeatIn olds k ⊎ ⊥) (λ k p. inl p) (λ k q. elim q [ inl p ↦ p | inr no_way ↦ absurd no_way ]) board_tasks))

  pub then_none : All (λ (w : Working). w.children ≡ []) next
  then_none = all_from (λ (w : Working). w.children ≡ []) next (none_left news)

-- task 0 alone is a board_tasks
pub first_task_seats : (f : Frame) (w : Working) → IsNewSeat f (Some 0) (seen_by_child 0 nothing_seen) w.seat → AreTaskSeats f (IsSeatIn (w ∷ []))
first_task_seats f w new =
    record {
      each = λ k at. subst (IsTaskSeat f) (sym (only k at)) (record {
        of_board = new.of_board;
        kept = new.kept;
        free = new.free;
        task = 0;
        own = new.own_is;
        alone = λ u is. eqb-true u 0 (sym (ap (λ (s : SeenBy). s.exact u) new.seen_is) ∙ is);
        within = (let z : (own_place w.seat.view).done ≡ 0 = ap (λ (b : Place). b.done) (new_first f w.seat new) in omega arith);
      });
      root = (w.seat, (w, Contains-head w [], refl), new.own_is);
      forked = λ k at j c l is. absurd (let z : (own_place k.view).done ≡ 0 = ap (λ (m : Known). (own_place m.view).done) (only k at) ∙ ap (λ (b : Place). b.done) (new_first f w.seat new) in omega arith);
    }
  where
    only : (k : Known) → IsSeatIn (w ∷ []) k → k ≡ w.seat
    only k at = at.2 ∙ elim (Contains-cons_cases w [] at.0 at.1) [
      | inl here ↦ ap (λ (v : Working). v.seat) (sym here)
      | inr there ↦ absurd (nothing_in_nil at.0 there)
    ]

-- the board_tasks by its seats alone
pub seat_there : (ws : List Working) (k : Known) → IsSeatIn ws k → Contains (map (λ (w : Working). w.seat) ws) k
seat_there ws k at = subst (λ z. Contains (map (λ (w : Working). w.seat) ws) z) (sym at.2) (in_map (λ (w : Working). w.seat) ws at.0 at.1)

pub seat_from : (ws : List Working) (k : Known) → Contains (map (λ (w : Working). w.seat) ws) k → IsSeatIn ws k
seat_from ws k i = let r = from_map (λ (w : Working). w.seat) ws k i in (r.0, r.1, sym r.2)

pub seats_of_tasks : (f : Frame) (ws : List Working) (ks : List Known) → ks ≡ map (λ (w : Working). w.seat) ws → AreTaskSeats f (IsSeatIn ws) → AreTaskSeats f (λ k. Contains ks k)
seats_of_tasks f ws ks is board_tasks =
    task_seats_same f (IsSeatIn ws) (λ k. Contains ks k) (λ k p. subst (λ zs. Contains zs k) (sym is) (seat_there ws k p)) (λ k q. seat_from ws k (subst (λ zs. Contains zs k) is q)) board_tasks
