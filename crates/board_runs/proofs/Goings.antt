-- What steps and loads make of a task, one after the other.
use Rattle.std.proofs.Common.{◌≡◌, ◌≢◌, ℕ, ◌<◌, ◌≤◌, List, [], ◌∷◌, ◌++◌, Option, Some, None, length, sym, refl, ap, ◌∙◌, subst, append-nil, append_assoc, inl, inr, ◌+◌, arith, false, length-append}
use Rattle.std.specs.Prelude.{IsSome, unwrap_or}
use Rattle.std.proofs.lemmas.Bool.{cases_eq, false≢true}
use Rattle.armus_base.specs.Limits.{max_phasers}
use Rattle.armus_base.specs.Plans.{Action, Advances, Blocks, Drops, Forks, Makes, Passes, Plan, Refuses, Registers, action_at, Aim}
use Rattle.armus_base.specs.Runs.{IsByCode, Place, moved, next_place}
use Rattle.armus_base.specs.calls.Runs.{IsPrefix}
use Rattle.armus_base.specs.calls.Seats.{SeenBy, seen_after_step}
use Rattle.armus_base.proofs.Fixed.{action_within}
use Rattle.armus_base.proofs.Places.{next_later, precedes_itself}
use Rattle.armus_base.proofs.Steps.{updated_other, updated_same}
use Rattle.board.specs.calls.Views.{action_after, next_action, own_place, seen, task_of}
use Rattle.board.specs.calls.Steps.{IsSameSeat}
use Rattle.board.specs.calls.Seats.{Frame, IsOf, IsSeat, Known, MakesStep}
use Rattle.board.proofs.Seated.{next_there}
use Rattle.board.proofs.Walking.{moved_here}
use Rattle.phase_scan.specs.calls.Looks.{LoadsAlone}
use Rattle.phase_scan.proofs.Loads.{prefix_both}
use Rattle.board_runs.specs.calls.Turns.{MakesActions, AreChildSeats, Goes, LeadsByCode, Working, tasks_forked, no_child, one_child}
use Rattle.board_runs.specs.inside.Tasks.{MakesSome}

-- steps after steps
pub leads_on : (plan : Plan) (t : ℕ) (a : Place) (xs : List Action) (b : Place) (ys : List Action) (c : Place) → LeadsByCode plan t a xs b → LeadsByCode plan t b ys c → LeadsByCode plan t a (xs ++ ys) c
leads_on plan t a [] b ys c e q = subst (λ (z : Place). LeadsByCode plan t z ys c) e q
leads_on plan t a (x ∷ xs) b ys c p q = (p.0, leads_on plan t (next_place a.done a.dropped x) xs b ys c p.1 q)

pub forks_on : (xs ys : List Action) → tasks_forked (xs ++ ys) ≡ tasks_forked xs ++ tasks_forked ys
forks_on [] ys = refl
forks_on (Makes p ∷ xs) ys = forks_on xs ys
forks_on (Registers c p ∷ xs) ys = forks_on xs ys
forks_on (Forks c ∷ xs) ys = ap (λ cs. c ∷ cs) (forks_on xs ys)
forks_on (Advances p ∷ xs) ys = forks_on xs ys
forks_on (Drops p ∷ xs) ys = forks_on xs ys
forks_on (Blocks p ∷ xs) ys = forks_on xs ys
forks_on (Passes p ∷ xs) ys = forks_on xs ys
forks_on (Refuses p ∷ xs) ys = forks_on xs ys

pub children_on : {f : Frame} {cs : List ℕ} {ks : List Known} (ds : List ℕ) (js : List Known) → AreChildSeats f cs ks → AreChildSeats f ds js → AreChildSeats f (cs ++ ds) (ks ++ js)
children_on ds js no_child q = q
children_on ds js (one_child c p) q = one_child c (children_on ds js p q)

-- there is a seat for each child
pub seats_counted : {f : Frame} {cs : List ℕ} {ks : List Known} → AreChildSeats f cs ks → length ks ≡ length cs
seats_counted no_child = refl
seats_counted (one_child c p) = (let n = seats_counted p in omega arith)

pub no_seats : {f : Frame} {ks : List Known} → AreChildSeats f [] ks → ks ≡ []
no_seats no_child = refl

-- a list of one element at most
pub none_in : {A : Type 0} (xs : List A) → length xs ≤ 0 → xs ≡ []
none_in [] few = refl
none_in (x ∷ xs) few = absurd (omega arith)

pub one_in : {A : Type 0} (xs : List A) → length xs ≤ 1 → 0 < length xs → (x : A) × xs ≡ x ∷ []
one_in [] few some = absurd (omega arith)
one_in (x ∷ xs) few some = (x, ap (λ ys. x ∷ ys) (none_in xs (omega arith)))

pub same_itself : (k : Known) → IsSameSeat k.view k.view
same_itself k = record { plan = refl; mode = refl; own = refl; holds = refl; spent = refl; count = refl }

pub same_on : (k m n : Known) → IsSameSeat k.view m.view → IsSameSeat m.view n.view → IsSameSeat k.view n.view
same_on k m n p q = record { plan = q.plan ∙ p.plan; mode = q.mode ∙ p.mode; own = q.own ∙ p.own; holds = q.holds ∙ p.holds; spent = q.spent ∙ p.spent; count = q.count ∙ p.count }

pub same_task : (k m : Known) → IsSameSeat k.view m.view → task_of m.view ≡ task_of k.view
same_task k m same = ap (λ o. unwrap_or o 0) same.own

pub task_is : (k : Known) (t : ℕ) → k.view.own ≡ Some t → task_of k.view ≡ t
task_is k t own = ap (λ o. unwrap_or o 0) own

-- nothing at all
pub goes_itself : (k : Known) → IsSeat k → Goes [] k k
goes_itself k seat =
    record {
      table = refl;
      same = same_itself k;
      place = refl;
      later = λ u. let x : Place = (seen k.view).places u in precedes_itself x.done x.dropped;
      exact = λ u. refl;
      loads = omega arith;
      kept = seat;
    }

pub own_stays : (k m : Known) (t : ℕ) → k.view.own ≡ Some t → IsSeat k → LoadsAlone k m → own_place m.view ≡ own_place k.view
own_stays k m t own seat goes =
    ap (seen m.view).places (same_task k m goes.same ∙ task_is k t own) ∙ goes.seen_now.here t (seat.own t own).1 ∙ ap (seen k.view).places (sym (task_is k t own))

-- loads alone
pub goes_loads : (k m : Known) (t : ℕ) → k.view.own ≡ Some t → IsSeat k → LoadsAlone k m → Goes [] k m
goes_loads k m t own seat goes =
    record {
      table = goes.table;
      same = goes.same;
      place = own_stays k m t own seat goes;
      later = goes.seen_now.later;
      exact = goes.seen_now.exact;
      loads = goes.loads;
      kept = goes.kept;
    }

-- one step
by_code : (plan : Plan) (t k : ℕ) (o : Option ℕ) (x : Action) → o ≡ None → action_at plan t k ≡ Some x → ((aim : Aim) → x ≢ Refuses aim) → IsByCode plan t k o x
by_code plan t k None (Makes p) e is n = is
by_code plan t k None (Registers c p) e is n = is
by_code plan t k None (Forks c) e is n = is
by_code plan t k None (Advances p) e is n = is
by_code plan t k None (Drops p) e is n = is
by_code plan t k None (Blocks p) e is n = is
by_code plan t k None (Passes p) e is n = is
by_code plan t k None (Refuses p) e is n = absurd (n p refl)
by_code plan t k (Some d) x e is n = absurd (cc)

moved_later : (a : ℕ → Place) (t : ℕ) (x : Action) (u : ℕ) → IsPrefix (a u) (moved a t x u)
moved_later a t x u = elim (cases_eq u t) [
  | inl same ↦
      subst (λ (v : ℕ). IsPrefix (a v) (moved a t x v)) (sym same)
      (subst (λ (b : Place). IsPrefix (a t) b) (sym (updated_same a t t (next_place (a t).done (a t).dropped x) refl)) (next_later (a t).done (a t).dropped x))
  | inr other ↦
      subst (λ (b : Place). IsPrefix (a u) b) (sym (updated_other a t u (next_place (a t).done (a t).dropped x) other)) (precedes_itself (a u).done (a u).dropped)
]

step_later : (t : ℕ) (x : Action) (s : SeenBy) (u : ℕ) → IsPrefix (s.places u) ((seen_after_step t x s).places u)
step_later t (Makes p) s u = moved_later s.places t (Makes p) u
step_later t (Registers c p) s u = moved_later s.places t (Registers c p) u
step_later t (Forks c) s u = moved_later s.places t (Forks c) u
step_later t (Advances p) s u = moved_later s.places t (Advances p) u
step_later t (Drops p) s u = moved_later s.places t (Drops p) u
step_later t (Blocks p) s u = moved_later s.places t (Blocks p) u
step_later t (Passes p) s u = moved_later s.places t (Passes p) u
step_later t (Refuses p) s u = moved_later s.places t (Refuses p) u

step_exact : (t : ℕ) (x : Action) (s : SeenBy) (u : ℕ) → (seen_after_step t x s).exact u ≡ s.exact u
step_exact t (Makes p) s u = refl
step_exact t (Registers c p) s u = refl
step_exact t (Forks c) s u = refl
step_exact t (Advances p) s u = refl
step_exact t (Drops p) s u = refl
step_exact t (Blocks p) s u = refl
step_exact t (Passes p) s u = refl
step_exact t (Refuses p) s u = refl

pub stepped_place : (k m : Known) (x : Action) → MakesStep x k m → own_place m.view ≡ next_place (own_place k.view).done (own_place k.view).dropped x
stepped_place k m x step =
    ap (seen m.view).places (same_task k m step.same) ∙ ap (λ (s : SeenBy). s.places (task_of k.view)) step.seen_now ∙ moved_here (task_of k.view) x (seen k.view)

-- a step that is next by the code
pub goes_made : (k m : Known) (x : Action) → IsByCode k.view.plan (task_of k.view) (own_place k.view).done (own_place k.view).dropped x → MakesStep x k m → Goes (x ∷ []) k m
goes_made k m x next step =
    record {
      table = step.table;
      same = step.same;
      place = (next, stepped_place k m x step);
      later = λ u. subst (λ (s : SeenBy). IsPrefix ((seen k.view).places u) (s.places u)) (sym step.seen_now) (step_later (task_of k.view) x (seen k.view) u);
      exact = λ u. ap (λ (s : SeenBy). s.exact u) step.seen_now ∙ step_exact (task_of k.view) x (seen k.view) u;
      loads = (let same = step.loads in omega arith);
      kept = step.kept;
    }

pub goes_step : (k m : Known) (x : Action) → next_action k.view ≡ Some x → ((aim : Aim) → x ≢ Refuses aim) → MakesStep x k m → Goes (x ∷ []) k m
goes_step k m x next n step =
    let there = next_there k.view x next in
    goes_made k m x (by_code k.view.plan (task_of k.view) (own_place k.view).done (own_place k.view).dropped x there.0 there.1 n) step

-- one after the other
pub goes_on : (k m n : Known) (xs ys : List Action) → Goes xs k m → Goes ys m n → Goes (xs ++ ys) k n
goes_on k m n xs ys p q =
    record {
      table = q.table ∙ p.table;
      same = same_on k m n p.same q.same;
      place =
          leads_on k.view.plan (task_of k.view) (own_place k.view) xs (own_place m.view) ys (own_place n.view) p.place
          (subst (λ (t : ℕ). LeadsByCode k.view.plan t (own_place m.view) ys (own_place n.view)) (same_task k m p.same)
          (subst (λ (z : Plan). LeadsByCode z (task_of m.view) (own_place m.view) ys (own_place n.view)) p.same.plan q.place));
      later = λ u. prefix_both ((seen k.view).places u) ((seen m.view).places u) ((seen n.view).places u) (p.later u) (q.later u);
      exact = λ u. q.exact u ∙ p.exact u;
      loads = (let first = p.loads in let then = q.loads in omega arith);
      kept = q.kept;
    }

-- without a step nobody goes anywhere
nowhere : (plan : Plan) (t : ℕ) (a : Place) (xs : List Action) (b : Place) → xs ≡ [] → LeadsByCode plan t a xs b → b ≡ a
nowhere plan t a xs b none steps = subst (λ ys. LeadsByCode plan t a ys b) none steps

-- who goes on by its code is not refused
unrefused_next : (plan : Plan) (t k : ℕ) (o : Option ℕ) (xs : List Action) → o ≡ None → IsSome o → xs ≡ []
unrefused_next plan t k None xs e some = absurd (false≢true some)
unrefused_next plan t k (Some d) xs e some = absurd (cc)

-- and the children with them
pub acts_alone : (f : Frame) (own : List Action) (k m : Known) (cs : List Known) → tasks_forked own ≡ [] → Goes own k m → (IsSome (own_place k.view).dropped → own ≡ []) → MakesActions f own (record { seat = k; children = cs }) (record { seat = m; children = cs })
acts_alone f own k m cs none goes refused =
    record { goes = goes; refused = refused; new = []; children = sym (append-nil cs); seats = subst (λ ds. AreChildSeats f ds []) (sym none) no_child }

pub acts_itself : (f : Frame) (w : Working) → IsSeat w.seat → MakesActions f [] w w
acts_itself f w seat = acts_alone f [] w.seat w.seat w.children refl (goes_itself w.seat seat) (λ _. refl)

-- who has made no step has forked nobody
pub no_child_made : (f : Frame) (w v : Working) → MakesActions f [] w v → v.children ≡ w.children
no_child_made f w v acts = acts.children ∙ ap (λ ks. w.children ++ ks) (no_seats acts.seats) ∙ append-nil w.children

pub acts_on : (f : Frame) (a b c : Working) (xs ys : List Action) → MakesActions f xs a b → MakesActions f ys b c → MakesActions f (xs ++ ys) a c
acts_on f a b c xs ys p q =
    record {
      refused = λ was.
          let none = p.refused was in
          let here : own_place b.seat.view ≡ own_place a.seat.view = nowhere a.seat.view.plan (task_of a.seat.view) (own_place a.seat.view) xs (own_place b.seat.view) none p.goes.place in
          (λ i. none i ++ q.refused (subst (λ (x : Place). IsSome x.dropped) (sym here) was) i);
      goes = goes_on a.seat b.seat c.seat xs ys p.goes q.goes;
      new = p.new ++ q.new;
      children = q.children ∙ ap (λ ks. ks ++ q.new) p.children ∙ append_assoc a.children p.new q.new;
      seats = subst (λ ds. AreChildSeats f ds (p.new ++ q.new)) (sym (forks_on xs ys)) (children_on (tasks_forked ys) q.new p.seats q.seats);
    }

-- steps that begin with one of the code of a task that is not refused, and the seats of the children that it forks by them
pub some_steps :
    (f : Frame) (own : List Action) (k m : Known) (cs ds new : List Known) (made : ℕ) (x : Action) → IsSeat k → next_action k.view ≡ Some x → Goes own k m →
    ds ≡ cs ++ new → AreChildSeats f (tasks_forked own) new → length (tasks_forked own) ≤ 1 → made ≡ length own → 0 < made → made ≤ max_phasers + 1 →
    MakesSome f made (record { seat = k; children = cs }) (record { seat = m; children = ds })
some_steps f own k m cs ds new made x seat next goes grown seats one counted some few =
    let there = next_there k.view x next in
    record {
      own = own;
      acts = record { goes = goes; refused = unrefused_next k.view.plan (task_of k.view) (own_place k.view).done (own_place k.view).dropped own there.0; new = new; children = grown; seats = seats };
      counted = counted;
      some = some;
      few = few;
      within = action_within k.view.plan seat.checked (task_of k.view) (own_place k.view).done x there.1;
      one_child = (let n = seats_counted seats in omega arith);
    }

-- steps that fork nobody
pub some_alone :
    (f : Frame) (own : List Action) (k m : Known) (cs : List Known) (made : ℕ) (x : Action) → IsSeat k → next_action k.view ≡ Some x → Goes own k m →
    tasks_forked own ≡ [] → made ≡ length own → 0 < made → made ≤ max_phasers + 1 →
    MakesSome f made (record { seat = k; children = cs }) (record { seat = m; children = cs })
some_alone f own k m cs made x seat next goes none counted some few =
    some_steps f own k m cs cs [] made x seat next goes (sym (append-nil cs)) (subst (λ ds. AreChildSeats f ds []) (sym none) no_child) (let n = ap length none in omega arith) counted some few

-- loads, and then one step
pub goes_then : (k m n : Known) (t : ℕ) (x : Action) → k.view.own ≡ Some t → IsSeat k → LoadsAlone k m → Goes (x ∷ []) m n → Goes (x ∷ []) k n
goes_then k m n t x own seat goes step = goes_on k m n [] (x ∷ []) (goes_loads k m t own seat goes) step

-- what comes next stays so while a seat makes loads alone, or nothing
pub next_still : (k m : Known) → IsSameSeat k.view m.view → own_place m.view ≡ own_place k.view → next_action m.view ≡ next_action k.view
next_still k m same place = λ i. action_after (same.plan i) (same_task k m same i) (place i).done (place i).dropped

-- a seat is of its board after its steps
pub of_on : (f : Frame) (own : List Action) (k m : Known) → IsOf k f → Goes own k m → IsOf m f
of_on f own k m of goes = record { table = goes.table ∙ of.table; plan = goes.same.plan ∙ of.plan; mode = goes.same.mode ∙ of.mode }

-- a task has made these steps, so many, and is one of this board, without its lock
pub record HasActed (f : Frame) (own : List Action) (n : ℕ) (was is : Working) : Type 0 where
  pub acts : MakesActions f own was is
  pub made : IsOf is.seat f
  pub free : is.seat.view.holds ≡ false
  pub counted : n ≡ length own

pub acted_not : (f : Frame) (w : Working) → IsSeat w.seat → IsOf w.seat f → w.seat.view.holds ≡ false → HasActed f [] 0 w w
acted_not f w seat made free = record { acts = acts_itself f w seat; made = made; free = free; counted = refl }

pub acted_on :
    (f : Frame) (own more : List Action) (n k : ℕ) (a b c : Working) → HasActed f own n a b → MakesActions f more b c → k ≡ length more →
    HasActed f (own ++ more) (n + k) a c
acted_on f own more n k a b c first acts count =
    record {
      acts = acts_on f a b c own more first.acts acts;
      made = of_on f more b.seat c.seat first.made acts.goes;
      free = acts.goes.same.holds ∙ first.free;
      counted = (let l = length-append own more in let m = first.counted in omega arith);
    }
