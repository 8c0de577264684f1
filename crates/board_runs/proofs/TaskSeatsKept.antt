-- A round keeps the board_tasks: whoever is forked in it has a seat after it.
use Rattle.std.proofs.Common.{◌≡◌, ℕ, suc, ◌<◌, ◌≤◌, List, [], ◌∷◌, ◌++◌, Option, Some, None, length, sym, refl, ap, ◌∙◌, subst, arith, inl, inr, ◌⊎◌}
use Rattle.std.specs.Prelude.{Contains}
use Rattle.std.proofs.lemmas.Bool.{cases_lt, cases_eq}
use Rattle.std.proofs.lemmas.Option.{slice_get_within}
use Rattle.armus_base.specs.Plans.{Action, Advances, Blocks, Drops, Forks, Makes, Passes, Plan, Refuses, Registers, action_at, actions, in_code}
use Rattle.armus_base.specs.Runs.{IsByCode, Place, next_place}
use Rattle.armus_base.proofs.Elements.{Contains-cons_cases, Contains-head, Contains-tail, nothing_in_nil}
use Rattle.board.specs.calls.Views.{own_place, task_of}
use Rattle.board.specs.calls.Seats.{Frame, Known}
use Rattle.board_runs.specs.calls.Turns.{MakesActions, AreChildSeats, EachActs, Goes, IsChildSeat, LeadsByCode, Working, tasks_forked, no_child, no_task, one_child, one_task}
use Rattle.board_runs.specs.calls.TaskSeats.{HasSeatOf, AreTaskSeats, IsTaskSeat, IsSeatIn}
use Rattle.board_runs.specs.inside.Rounds.{IsAtStart, IsChildIn}
use Rattle.board_runs.proofs.Goings.{of_on, same_task}

-- a fork between two places is one of the steps that lead from one to the other
fork_first : (x : Action) (xs : List Action) (c : ℕ) → x ≡ Forks c → Contains (tasks_forked (x ∷ xs)) c
fork_first x xs c is = subst (λ (y : Action). Contains (tasks_forked (y ∷ xs)) c) (sym is) (Contains-head c (tasks_forked xs))

fork_rest : (x : Action) (xs : List Action) (c : ℕ) → Contains (tasks_forked xs) c → Contains (tasks_forked (x ∷ xs)) c
fork_rest (Makes p) xs c i = i
fork_rest (Registers d p) xs c i = i
fork_rest (Forks d) xs c i = Contains-tail d (tasks_forked xs) c i
fork_rest (Advances p) xs c i = i
fork_rest (Drops p) xs c i = i
fork_rest (Blocks p) xs c i = i
fork_rest (Passes p) xs c i = i
fork_rest (Refuses p) xs c i = i

some_same : (x : Action) (c : ℕ) → Some (in_code x) ≡ Some (Forks c) → x ≡ Forks c
some_same (Makes p) c e = absurd (cc)
some_same (Registers d p) c e = absurd (cc)
some_same (Forks d) c e = cc
some_same (Advances p) c e = absurd (cc)
some_same (Drops p) c e = absurd (cc)
some_same (Blocks p) c e = absurd (cc)
some_same (Passes p) c e = absurd (cc)
some_same (Refuses p) c e = absurd (cc)

-- a task that has a next action has done fewer than it has
pub has_left : (plan : Plan) (t k : ℕ) (x : Action) → action_at plan t k ≡ Some x → k < length (actions plan t)
unfolding action_at
has_left plan t k x e = slice_get_within (actions plan t) k x e

-- the place after a step: one further, or no further
pub step_done : (k : ℕ) (o : Option ℕ) (x : Action) → ((next_place k o x).done ≡ k) ⊎ (((next_place k o x).done ≡ suc k) × (o ≡ None))
step_done k None (Makes p) = inr (refl, refl)
step_done k None (Registers c p) = inr (refl, refl)
step_done k None (Forks c) = inr (refl, refl)
step_done k None (Advances p) = inr (refl, refl)
step_done k None (Drops p) = inr (refl, refl)
step_done k None (Blocks p) = inr (refl, refl)
step_done k None (Passes p) = inr (refl, refl)
step_done k None (Refuses p) = inl refl
step_done k (Some d) (Makes p) = inl refl
step_done k (Some d) (Registers c p) = inl refl
step_done k (Some d) (Forks c) = inl refl
step_done k (Some d) (Advances p) = inl refl
step_done k (Some d) (Drops p) = inl refl
step_done k (Some d) (Blocks p) = inl refl
step_done k (Some d) (Passes p) = inl refl
step_done k (Some d) (Refuses p) = inl refl

pub by_code_is : (plan : Plan) (t k : ℕ) (o : Option ℕ) (x : Action) → o ≡ None → IsByCode plan t k o x → action_at plan t k ≡ Some (in_code x)
by_code_is plan t k None x e is = is
by_code_is plan t k (Some d) x e is = absurd (cc)

forked_between :
    (plan : Plan) (t : ℕ) (a : Place) (own : List Action) (b : Place) (j c : ℕ) → LeadsByCode plan t a own b → a.done ≤ j → j < b.done → action_at plan t j ≡ Some (Forks c) →
    Contains (tasks_forked own) c
forked_between plan t a [] b j c same l m is = absurd (let e : b.done ≡ a.done = ap (λ (x : Place). x.done) same in omega arith)
forked_between plan t a (x ∷ own) b j c steps l m is = elim (step_done a.done a.dropped x) [
  | inl stays ↦ fork_rest x own c (forked_between plan t (next_place a.done a.dropped x) own b j c steps.1 (omega arith) m is)
  | inr goes ↦ elim (cases_eq j a.done) [
    | inl here ↦
        fork_first x own c
        (some_same x c (sym (by_code_is plan t a.done a.dropped x goes.1 steps.0) ∙ ap (action_at plan t) (sym here) ∙ is))
    | inr later ↦ fork_rest x own c (forked_between plan t (next_place a.done a.dropped x) own b j c steps.1 (let e = goes.0 in omega arith) m is)
  ]
]

-- and has its seat
pub child_of : {f : Frame} {cs : List ℕ} {ks : List Known} (c : ℕ) → AreChildSeats f cs ks → Contains cs c → (k : Known) × Contains ks k × (k.view.own ≡ Some c)
child_of c no_child i = absurd (nothing_in_nil c i)
child_of c (one_child {c = d} {cs = cs} {seat = k} {seats = ks} child p) i = elim (Contains-cons_cases d cs c i) [
  | inl here ↦ (k, Contains-head k ks, child.own ∙ ap Some here)
  | inr there ↦ (let r = child_of c p there in (r.0, Contains-tail k ks r.0 r.1, r.2))
]

pub child_is : {f : Frame} {cs : List ℕ} {ks : List Known} (k : Known) → AreChildSeats f cs ks → Contains ks k → (c : ℕ) × IsChildSeat f c k
child_is k no_child i = absurd (nothing_in_nil k i)
child_is {f = f} k (one_child {c = d} {cs = cs} {seat = m} {seats = ks} child p) i = elim (Contains-cons_cases m ks k i) [
  | inl here ↦ (d, subst (IsChildSeat f d) here child)
  | inr there ↦ child_is k p there
]

-- what became of each task, and what each task was
pub became : {f : Frame} {owns : List (List Action)} {olds news : List Working} (w : Working) → EachActs f owns olds news → Contains olds w → (v : Working) × (own : List Action) × Contains news v × MakesActions f own w v
became w no_task i = absurd (nothing_in_nil w i)
became {f = f} w (one_task {own = own} {before = a} {now = b} {befores = olds} {nows = news} acts p) i = elim (Contains-cons_cases a olds w i) [
  | inl here ↦ (b, own, Contains-head b news, subst (λ (x : Working). MakesActions f own x b) here acts)
  | inr there ↦ (let r = became w p there in (r.0, r.1, Contains-tail b news r.0 r.2, r.3))
]

pub was : {f : Frame} {owns : List (List Action)} {olds news : List Working} (v : Working) → EachActs f owns olds news → Contains news v → (w : Working) × (own : List Action) × Contains olds w × MakesActions f own w v
was v no_task i = absurd (nothing_in_nil v i)
was {f = f} v (one_task {own = own} {before = a} {now = b} {befores = olds} {nows = news} acts p) i = elim (Contains-cons_cases b news v i) [
  | inl here ↦ (a, own, Contains-head a olds, subst (λ (x : Working). MakesActions f own a x) here acts)
  | inr there ↦ (let r = was v p there in (r.0, r.1, Contains-tail a olds r.0 r.2, r.3))
]

-- no step is made that the code has not
pub within_next : (plan : Plan) (t k : ℕ) (o : Option ℕ) (x : Action) → IsByCode plan t k o x → k ≤ length (actions plan t) → (next_place k o x).done ≤ length (actions plan t)
within_next plan t k o x is l = elim (step_done k o x) [
  | inl stays ↦ omega arith
  | inr goes ↦ (let e = goes.0 in let w = has_left plan t k (in_code x) (by_code_is plan t k o x goes.1 is) in omega arith)
]

pub still_within : (plan : Plan) (t : ℕ) (a : Place) (own : List Action) (b : Place) → LeadsByCode plan t a own b → a.done ≤ length (actions plan t) → b.done ≤ length (actions plan t)
still_within plan t a [] b same l = (let e : b.done ≡ a.done = ap (λ (x : Place). x.done) same in omega arith)
still_within plan t a (x ∷ own) b steps l =
    still_within plan t (next_place a.done a.dropped x) own b steps.1 (within_next plan t a.done a.dropped x steps.0 l)

pub goes_with_seats : (f : Frame) (own : List Action) (k m : Known) → IsTaskSeat f k → Goes own k m → IsTaskSeat f m
goes_with_seats f own k m s goes =
    record {
      of_board = of_on f own k m s.of_board goes;
      kept = goes.kept;
      free = goes.same.holds ∙ s.free;
      task = s.task;
      own = goes.same.own ∙ s.own;
      alone = λ u is. s.alone u (sym (goes.exact u) ∙ is);
      within =
          subst (λ t. (own_place m.view).done ≤ length (actions f.plan t)) (sym (same_task k m goes.same))
          (still_within f.plan (task_of k.view) (own_place k.view) own (own_place m.view)
          (subst (λ (q : Plan). LeadsByCode q (task_of k.view) (own_place k.view) own (own_place m.view)) s.of_board.plan goes.place) s.within);
    }

-- the seats before a round, and those after it
module _ (f : Frame) (owns : List (List Action)) (olds news : List Working) (Others : Known → Type 0) (each : EachActs f owns olds news) (none : (w : Working) → Contains olds w → w.children ≡ []) (board_tasks : AreTaskSeats f (λ k. IsSeatIn olds k ⊎ Others k)) where
  abbrev After : Known → Type 0
  After = λ k. (IsSeatIn news k ⊎ IsChildIn news k) ⊎ Others k

  -- who had a seat has one
  still : (c : ℕ) → HasSeatOf (λ k. IsSeatIn olds k ⊎ Others k) c → HasSeatOf After c
  still c has = elim has.1 [
    | inl old ↦
        (let r = became old.0 each old.1 in
        (r.0.seat, inl (inl (r.0, r.2, refl)), r.3.goes.same.own ∙ sym (ap (λ (k : Known). k.view.own) old.2) ∙ has.2))
    | inr other ↦ (has.0, inr other, has.2)
  ]

  new_children : (w v : Working) (own : List Action) → Contains olds w → MakesActions f own w v → AreChildSeats f (tasks_forked own) v.children
  new_children w v own i acts = subst (AreChildSeats f (tasks_forked own)) (sym (acts.children ∙ ap (λ ks. ks ++ acts.new) (none w i))) acts.seats

  each_after : (k : Known) → After k → IsTaskSeat f k
  each_after k at = elim at [
    | inl mine ↦ elim mine [
      | inl seat ↦
          (let r = was seat.0 each seat.1 in
          subst (IsTaskSeat f) (sym seat.2) (goes_with_seats f r.1 r.0.seat seat.0.seat (board_tasks.each r.0.seat (inl (r.0, r.2, refl))) r.3.goes))
      | inr child ↦
          (let r = was child.0 each child.1 in
          let s = child_is k (new_children r.0 child.0 r.1 r.2 r.3) child.2 in
          record {
            of_board = s.1.of_board;
            kept = s.1.kept;
            free = s.1.free;
            task = s.0;
            own = s.1.own;
            alone = s.1.alone;
            within = (let z : (own_place k.view).done ≡ 0 = ap (λ (x : Place). x.done) s.1.first in omega arith);
          })
    ]
    | inr other ↦ board_tasks.each k (inr other)
  ]

  forked_after : (k : Known) → After k → (j c : ℕ) → j < (own_place k.view).done → action_at f.plan (task_of k.view) j ≡ Some (Forks c) → HasSeatOf After c
  forked_after k at j c l is = elim at [
    | inl mine ↦ elim mine [
      | inl seat ↦ moved_on seat
      | inr child ↦
          (let r = was child.0 each child.1 in
          let s = child_is k (new_children r.0 child.0 r.1 r.2 r.3) child.2 in
          let z : (own_place k.view).done ≡ 0 = ap (λ (x : Place). x.done) s.1.first in
          absurd (omega arith))
    ]
    | inr other ↦ still c (board_tasks.forked k (inr other) j c l is)
  ]
    where
      moved_on : IsSeatIn news k → HasSeatOf After c
      moved_on seat =
          let r = was seat.0 each seat.1 in
          let a : Known = r.0.seat in
          let b : Known = seat.0.seat in
          let task : task_of b.view ≡ task_of a.view = same_task a b r.3.goes.same in
          let there : action_at f.plan (task_of a.view) j ≡ Some (Forks c) = ap (λ t. action_at f.plan t j) (sym task ∙ ap (λ (m : Known). task_of m.view) (sym seat.2)) ∙ is in
          let plan : a.view.plan ≡ f.plan = (board_tasks.each a (inl (r.0, r.2, refl))).of_board.plan in
          let far : j < (own_place b.view).done = subst (λ (m : Known). j < (own_place m.view).done) seat.2 l in
          elim (cases_lt j (own_place a.view).done) [
            | inl before ↦ still c (board_tasks.forked a (inl (r.0, r.2, refl)) j c before there)
            | inr between ↦
                (let own = forked_between a.view.plan (task_of a.view) (own_place a.view) r.1 (own_place b.view) j c r.3.goes.place between far
                (ap (λ (q : Plan). action_at q (task_of a.view) j) plan ∙ there) in
                let s = child_of c (new_children r.0 seat.0 r.1 r.2 r.3) own in
                (s.0, inl (inr (seat.0, seat.1, s.1)), s.2))
          ]

  pub task_seats_after : AreTaskSeats f After
  task_seats_after = record { each = each_after; root = still 0 board_tasks.root; forked = forked_after }

-- a child that was forked in a round has made no step
module _ (f : Frame) (owns : List (List Action)) (olds news : List Working) (each : EachActs f owns olds news) (none : (w : Working) → Contains olds w → w.children ≡ []) where
  pub starts : (k : Known) → IsChildIn news k → IsAtStart f.plan k
  starts k child =
      let r = was child.0 each child.1 in
      let seats : AreChildSeats f (tasks_forked r.1) child.0.children = subst (AreChildSeats f (tasks_forked r.1)) (sym (r.3.children ∙ ap (λ ks. ks ++ r.3.new) (none r.0 r.2))) r.3.seats in
      let s = child_is k seats child.2 in
      (s.1.first, s.1.of_board.plan)
