-- Tasks begin, one after the other.
use Rattle.std.proofs.Common.{◌≡◌, ℕ, zero, suc, ◌+◌, ◌-◌, Bool, true, false, ◌<◌, ◌≤◌, List, length, Ok, Err, Result, Option, Some, None, arith, sym, ◌∙◌, ap, subst, refl}
use Rattle.std.specs.Prelude.{slice_index_or}
use Rattle.std.proofs.lemmas.List.{get_or_past}
use Rattle.armus_base.specs.Limits.{max_tasks, max_phasers}
use Rattle.pl_syntax.specs.Tree.{Tree}
use Rattle.pl_plan.specs.declared.fault.PlanEnd.{PlanEnd}
use Rattle.pl_plan.specs.declared.fault.PlanEnd.TheVariants as ends
use Rattle.pl_plan.specs.inside.Steps.{IsSpelled, IsList}
use Rattle.pl_plan.specs.inside.Checker.{Checker, CheckerStart, IsChecker, StartFits, Keeps, with_start_things, padded, range_of}
use Rattle.pl_plan.specs.Unfolding.{UnfoldingState, Start, Outcome, ◌>>=◌, visits_of, make_visits, unfold_task, unfold_tasks, with_names, leave, leave_below, ended}
use Rattle.pl_plan.specs.inside.Shows.{ShowsState, MaybeStartShows, WhereUnfolded}
use Rattle.pl_plan.specs.inside.Simulates.{Simulates, KeepsAll}
use Rattle.pl_plan.specs.declared.fault.CheckFault.{CheckFault}
use Rattle.pl_plan.specs.inside.CheckerSteps.{thing_of, GivesChecker, checker_leave, checker_leave_below}
use Rattle.pl_plan.proofs.Keeping.{length_padded, padded_same, things_same}
use Rattle.pl_plan.proofs.Simulating as simulating

keeps_begun_by : (k : Checker) → IsChecker k → (o : Option CheckerStart) →
    StartFits (length k.parents) (length k.makers) k.bindings.slot_count (length k.bindings.slots) k.steps o → Keeps k (with_start_things o k)
keeps_begun_by k f None h = simulating.keeps_itself k f
keeps_begun_by k f (Some s) h = record {
  fits = record {
    starts_many = f.starts_many;
    codes_many = f.codes_many;
    few = f.few;
    few_makers = f.few_makers;
    members_many = f.members_many;
    slots = record { below = f.slots.below; apart = f.slots.apart; room = f.slots.room; long = length_padded s.things h.short };
    now = things_same (length k.parents) (length k.makers) k.bindings.slot_count s.things (padded s.things) (padded_same s.things) h.things;
    later = f.later;
  };
  more = omega arith;
  steps = refl;
  slots = refl;
}

pub keeps_begun : (k : Checker) (t : ℕ) → IsChecker k → Keeps k (with_start_things (slice_index_or k.starts t None) k)
keeps_begun k t f = keeps_begun_by k f (slice_index_or k.starts t None) (f.later t)

-- the start in hand
pub record Ready (k : Checker) (first after : ℕ) : Type 0 where
  pub within : after ≤ length k.steps
  pub list : IsList (length k.bindings.slots) k.steps first after

pub range_is : (first after : ℕ) (s : CheckerStart) → Some (first, after) ≡ range_of (Some s) → (first ≡ s.first) × (after ≡ s.after)
range_is first after s e =
    let p : ◌≡◌ {A = ℕ × ℕ} (first, after) (s.first, s.after) = cc in
    (ap (λ x. x.0) p, ap (λ x. x.1) p)

ready_by : (k : Checker) (o : Option CheckerStart) (first after : ℕ) → StartFits (length k.parents) (length k.makers) k.bindings.slot_count (length k.bindings.slots) k.steps o →
    Some (first, after) ≡ range_of o → Ready (with_start_things o k) first after
ready_by k None first after h e = absurd cc
ready_by k (Some s) first after h e =
    let p = range_is first after s e in
    record {
      within = (let q = p.1 in omega (arith, h.within));
      list = (
        h.list.0,
        h.list.1,
        subst (λ a. IsSpelled (length k.bindings.slots) h.list.0 k.steps first h.list.1 a) (sym p.1)
            (subst (λ a. IsSpelled (length k.bindings.slots) h.list.0 k.steps a h.list.1 s.after) (sym p.0) h.list.2),
      );
    }

pub ready : (k new : Checker) (t first after : ℕ) → IsChecker k → Some (first, after) ≡ range_of (slice_index_or k.starts t None) →
    new ≡ with_start_things (slice_index_or k.starts t None) k → Ready new first after
ready k new t first after f e is = subst (λ z. Ready z first after) (sym is) (ready_by k (slice_index_or k.starts t None) first after (f.later t) e)

pub kept_begun : (k new : Checker) (t : ℕ) → IsChecker k → new ≡ with_start_things (slice_index_or k.starts t None) k → Keeps k new
kept_begun k new t f is = subst (Keeps k) (sym is) (keeps_begun k t f)

-- ---- the end of a task

-- a fault before the end is the fault
pub ends_err :
    (two : Bool) (t n : ℕ) (e : PlanEnd) (o : Outcome UnfoldingState) (shows shows' : UnfoldingState → Type 0) (r : Result (Unit {0}) PlanEnd) → r ≡ Err e →
    WhereUnfolded {A = Unit {0}} (Err e) o shows → WhereUnfolded r (ended two t n o) shows'
ends_err two t n ends.NoMemory o shows shows' r is h = subst (λ z. WhereUnfolded z (ended two t n o) shows') (sym is) tt
ends_err two t n (ends.Check f) o shows shows' r is h = subst (λ z. WhereUnfolded z (ended two t n o) shows') (sym is) (by two)
  where
    by : (two : Bool) → ended two t n o ≡ Err f
    by false = h
    by true = ap (λ z. z >>= leave_below t n max_phasers) h

-- in PL 1 a task just ends
pub ends_plainly :
    (two : Bool) (t n : ℕ) (o : Outcome UnfoldingState) (shows : UnfoldingState → Type 0) (r : Result (Unit {0}) PlanEnd) → two ≡ false → WhereUnfolded r o shows →
    WhereUnfolded r (ended two t n o) shows
ends_plainly two t n o shows r one h = subst (λ b. WhereUnfolded r (ended b t n o) shows) (sym one) h

module _ (names : ℕ → List ℕ) (k : Checker) (s : UnfoldingState) (f : IsChecker k) (t n : ℕ) (running : t < length k.parents) where
  -- what leaving keeps
  pub keeps_left : (p : ℕ) → KeepsAll k (checker_leave_below t n p k)
  unfolding checker_leave_below
  keeps_left zero = simulating.keeps_itself k f
  keeps_left (suc p) = on (checker_leave_below t n p k) (keeps_left p)
    where
      more : (m : Checker) → Keeps k m → (o : Outcome Checker) → KeepsAll m o → KeepsAll k o
      more m a (Ok new) b = simulating.keeps_through k m new a b
      more m a (Err e) b = tt

      on : (o : Outcome Checker) → KeepsAll k o → KeepsAll k (o >>= checker_leave t n p)
      on (Ok m) a = more m a (checker_leave t n p m) (simulating.keeps_leave m a.fits t n p)
      on (Err e) a = tt

  simulates_left : ShowsState names k s → (p : ℕ) → p ≤ max_phasers → Simulates names (checker_leave_below t n p k) (leave_below t n p s)
  unfolding checker_leave_below leave_below
  simulates_left h zero l = (s, refl, h)
  simulates_left h (suc p) l =
      on (checker_leave_below t n p k) (keeps_left p) (leave_below t n p s) (simulates_left h p (omega arith))
    where
      on : (o : Outcome Checker) → KeepsAll k o → (g : Outcome UnfoldingState) → Simulates names o g → Simulates names (o >>= checker_leave t n p) (g >>= leave t n p)
      on (Ok m) a g shows =
          subst (λ z. Simulates names (checker_leave t n p m) (z >>= leave t n p)) (sym shows.1)
          (simulating.simulates_leave names m shows.0 a.fits shows.2 t n (omega (arith, a.more)) p (omega arith))
      on (Err e) a g shows = ap (λ z. z >>= leave t n p) shows

-- in PL 2 it leaves its phasers
pub ends_by_leaving :
    (two : Bool) (names : ℕ → List ℕ) (k new : Checker) (t n : ℕ) (o : Outcome UnfoldingState) (u v : Unit {0}) → two ≡ true → IsChecker k → t < length k.parents →
    WhereUnfolded (Ok u) o (ShowsState names k) → checker_leave_below t n max_phasers k ≡ Ok new → WhereUnfolded (Ok v) (ended two t n o) (ShowsState names new)
ends_by_leaving two names k new t n o u v on f running h left =
    let left_so : Simulates names (Ok new) (leave_below t n max_phasers h.0) =
    subst (λ z. Simulates names z (leave_below t n max_phasers h.0)) left (simulates_left names k h.0 f t n running h.2 max_phasers (omega arith)) in
    (left_so.0, ap (λ b. ended b t n o) on ∙ ap (λ z. z >>= leave_below t n max_phasers) h.1 ∙ left_so.1, left_so.2)

-- or finds no op left
pub ends_full :
    (two : Bool) (names : ℕ → List ℕ) (k new : Checker) (t n : ℕ) (o : Outcome UnfoldingState) (u : Unit {0}) (e : PlanEnd) (r : Result (Unit {0}) PlanEnd) → r ≡ Err e →
    two ≡ true → IsChecker k → t < length k.parents → WhereUnfolded (Ok u) o (ShowsState names k) → GivesChecker {A = Unit {0}} (Err e) (checker_leave_below t n max_phasers k) new →
    (shows : UnfoldingState → Type 0) → WhereUnfolded r (ended two t n o) shows
ends_full two names k new t n o u ends.NoMemory r is on f running h left shows = subst (λ z. WhereUnfolded z (ended two t n o) shows) (sym is) tt
ends_full two names k new t n o u (ends.Check g) r is on f running h left shows =
    let left_so : Simulates names (Err g) (leave_below t n max_phasers h.0) =
    subst (λ z. Simulates names z (leave_below t n max_phasers h.0)) left (simulates_left names k h.0 f t n running h.2 max_phasers (omega arith)) in
    subst (λ z. WhereUnfolded z (ended two t n o) shows) (sym is)
    (ap (λ b. ended b t n o) on ∙ ap (λ z. z >>= leave_below t n max_phasers) h.1 ∙ left_so)

-- one phaser after the other
pub record Leaving (old : Checker) (t n p : ℕ) (k : Checker) : Type 0 where
  pub left : checker_leave_below t n p old ≡ Ok k
  pub keeps : Keeps old k
  pub within : p ≤ max_phasers

pub leaving_starts : (old : Checker) (t n : ℕ) → IsChecker old → Leaving old t n 0 old
unfolding checker_leave_below
leaving_starts old t n f = record { left = refl; keeps = simulating.keeps_itself old f; within = omega arith }

module _ (old : Checker) (t n p : ℕ) (k : Checker) (inv : Leaving old t n p k) where
  next_is : checker_leave_below t n (suc p) old ≡ checker_leave t n p k
  unfolding checker_leave_below
  next_is = ap (λ o. o >>= checker_leave t n p) inv.left

  pub leaving_on : (new : Checker) → p < max_phasers → checker_leave t n p k ≡ Ok new → Leaving old t n (p + 1) new
  leaving_on new few is =
      record {
        left = ap (λ q. checker_leave_below t n q old) (let z : p + 1 ≡ suc p = omega arith in z) ∙ next_is ∙ is;
        keeps =
            simulating.keeps_through old k new inv.keeps
            (subst (KeepsAll k) is (simulating.keeps_leave k inv.keeps.fits t n p));
        within = omega arith;
      }

  later_err : (f : CheckFault) (d : ℕ) → checker_leave t n p k ≡ Err f → checker_leave_below t n (suc p + d) old ≡ Err f
  unfolding checker_leave_below
  later_err f zero is = ap (λ q. checker_leave_below t n q old) (let z : suc p + 0 ≡ suc p = omega arith in z) ∙ next_is ∙ is
  later_err f (suc d) is =
      ap (λ q. checker_leave_below t n q old) (let z : suc p + suc d ≡ suc (suc p + d) = omega arith in z)
      ∙ ap (λ o. o >>= checker_leave t n (suc p + d)) (later_err f d is)

  pub leaving_fails :
      (e : PlanEnd) (new new' : Checker) (r : Result (Unit {0}) PlanEnd) → p < max_phasers → GivesChecker {A = Unit {0}} (Err e) (checker_leave t n p k) new → r ≡ Err e →
      GivesChecker r (checker_leave_below t n max_phasers old) new'
  leaving_fails ends.NoMemory new new' r few gives is = subst (λ z. GivesChecker z (checker_leave_below t n max_phasers old) new') (sym is) tt
  leaving_fails (ends.Check f) new new' r few gives is =
      subst (λ z. GivesChecker z (checker_leave_below t n max_phasers old) new') (sym is)
      (ap (λ q. checker_leave_below t n q old) (let z : max_phasers ≡ suc p + (max_phasers - suc p) = omega arith in z)
      ∙ later_err f (max_phasers - suc p) gives)

module _ (names : ℕ → List ℕ) (k : Checker) (a : Start) (b : CheckerStart) (m : MaybeStartShows names k.bindings.slots k.steps (Some a) (Some b)) where
  -- the body of a start is spelled where it stands
  pub spelled_there : (first after : ℕ) → (first ≡ b.first) × (after ≡ b.after) → IsSpelled (length k.bindings.slots) names k.steps first a.body after
  spelled_there first after p =
      subst (λ i. IsSpelled (length k.bindings.slots) names k.steps i a.body after) (sym p.0)
      (subst (λ i. IsSpelled (length k.bindings.slots) names k.steps b.first a.body i) (sym p.1) m.spelled)

  -- and its names are those with which its task begins
  pub shows_begun : (s : UnfoldingState) → ShowsState names k s → ShowsState names (with_start_things (Some b) k) (with_names a.names s)
  shows_begun s h = record {
    distinct = h.distinct;
    plan = h.plan;
    starts_many = h.starts_many;
    starts = h.starts;
    members = h.members;
    named = λ x lt. m.named x lt ∙ ap thing_of (sym (padded_same b.things (slice_index_or k.bindings.slots x 0)));
    visits = h.visits;
  }

module _ (two : Bool) where
  -- no start
  idle_by : (names : ℕ → List ℕ) (k : Checker) (s : UnfoldingState) (t : ℕ) (o : Option Start) (o' : Option CheckerStart) →
      MaybeStartShows names k.bindings.slots k.steps o o' → None ≡ range_of o' → ShowsState names k s →
      (s' : UnfoldingState) × (unfold_task two t o s ≡ Ok s') × ShowsState names (with_start_things o' k) s'
  idle_by names k s t None None m e h = (s, refl, h)
  idle_by names k s t (Some a) (Some b) m e h = absurd cc
  idle_by names k s t None (Some b) m e h = absurd m
  idle_by names k s t (Some a) None m e h = absurd m

  pub idle : (names : ℕ → List ℕ) (k new : Checker) (s : UnfoldingState) (t : ℕ) → None ≡ range_of (slice_index_or k.starts t None) →
      new ≡ with_start_things (slice_index_or k.starts t None) k → ShowsState names k s →
      (s' : UnfoldingState) × (unfold_task two t (slice_index_or s.starts t None) s ≡ Ok s') × ShowsState names new s'
  idle names k new s t e is h = subst (λ z. (s' : UnfoldingState) × (unfold_task two t (slice_index_or s.starts t None) s ≡ Ok s') × ShowsState names z s') (sym is)
      (idle_by names k s t (slice_index_or s.starts t None) (slice_index_or k.starts t None) (h.starts t) e h)

  -- a start
  abbrev pub Walked : (ℕ → List ℕ) → ℕ → Result (Unit {0}) PlanEnd → Checker → ℕ → ℕ → Checker → Type 0
  Walked names t r k first after new =
      (s : UnfoldingState) (tree : Tree) → IsSpelled (length k.bindings.slots) names k.steps first tree after → ShowsState names k s →
      WhereUnfolded r (ended two t first (make_visits t (visits_of (first + 1) tree) s)) (ShowsState names new)

  busy_by : (names : ℕ → List ℕ) (k new : Checker) (s : UnfoldingState) (t first after : ℕ) (r : Result (Unit {0}) PlanEnd) (o : Option Start)
      (o' : Option CheckerStart) → MaybeStartShows names k.bindings.slots k.steps o o' → Some (first, after) ≡ range_of o' → ShowsState names k s →
      Walked names t r (with_start_things o' k) first after new → WhereUnfolded r (unfold_task two t o s) (ShowsState names new)
  busy_by names k new s t first after r None None m e h w = absurd cc
  busy_by names k new s t first after r None (Some b) m e h w = absurd m
  busy_by names k new s t first after r (Some a) None m e h w = absurd m
  busy_by names k new s t first after r (Some a) (Some b) m e h w =
      let p = range_is first after b e in
      let sp = spelled_there names k a b m first after p in
      let h' = shows_begun names k a b m s h in
      let n : first + 1 ≡ a.first = ap (λ i. i + 1) p.0 ∙ sym m.first in
      let before : first ≡ a.first - 1 = omega arith in
      subst (λ i. WhereUnfolded r (ended two t i (make_visits t (visits_of a.first a.body) (with_names a.names s))) (ShowsState names new)) before
      (subst (λ i. WhereUnfolded r (ended two t first (make_visits t (visits_of i a.body) (with_names a.names s))) (ShowsState names new)) n (w (with_names a.names s) a.body sp h'))

  pub busy : (names : ℕ → List ℕ) (k k1 new : Checker) (s : UnfoldingState) (t first after : ℕ) (r : Result (Unit {0}) PlanEnd) →
      Some (first, after) ≡ range_of (slice_index_or k.starts t None) → k1 ≡ with_start_things (slice_index_or k.starts t None) k → ShowsState names k s →
      Walked names t r k1 first after new → WhereUnfolded r (unfold_task two t (slice_index_or s.starts t None) s) (ShowsState names new)
  busy names k k1 new s t first after r e is h w =
      busy_by names k new s t first after r (slice_index_or s.starts t None) (slice_index_or k.starts t None) (h.starts t) e h
      (subst (λ z. Walked names t r z first after new) is w)

  -- ---- all tasks

  none_left : (n u : ℕ) (s : UnfoldingState) → length s.starts ≤ u → unfold_tasks two n u s ≡ Ok s
  unfolding unfold_tasks
  none_left zero u s le = refl
  none_left (suc n) u s le = ap (λ o. unfold_task two u o s >>= unfold_tasks two n (u + 1)) (get_or_past s.starts u None le) ∙ none_left n (u + 1) s (omega arith)

  pub record TasksLeft (names : ℕ → List ℕ) (t : ℕ) (all : Outcome UnfoldingState) (k : Checker) : Type 0 where
    pub state : UnfoldingState
    pub shows : ShowsState names k state
    pub same : unfold_tasks two (max_tasks - t) t state ≡ all

  -- the tasks below t are unfolded
  pub record Tasked (old : Checker) (t : ℕ) (k : Checker) : Type 0 where
    pub keeps : Keeps old k
    pub within : t ≤ length k.parents
    pub all : (names : ℕ → List ℕ) (s : UnfoldingState) → ShowsState names old s → TasksLeft names t (unfold_tasks two max_tasks 0 s) k

  module _ (old : Checker) (t : ℕ) (k : Checker) (inv : Tasked old t k) where
    pub tasks_done : length k.parents ≤ t → (names : ℕ → List ℕ) (s : UnfoldingState) → ShowsState names old s →
        (s' : UnfoldingState) × (unfold_tasks two max_tasks 0 s ≡ Ok s') × ShowsState names k s'
    tasks_done le names s h =
        let l = inv.all names s h in
        (l.state, sym l.same ∙ none_left (max_tasks - t) t l.state (omega (arith, l.shows.starts_many, inv.keeps.fits.starts_many)), l.shows)

    module _ (lt : t < length k.parents) where
      left_is : (s : UnfoldingState) → unfold_tasks two (max_tasks - t) t
          s ≡ (unfold_task two t (slice_index_or s.starts t None) s >>= unfold_tasks two (max_tasks - (t + 1)) (t + 1))
      unfolding unfold_tasks
      left_is s = ap (λ n. unfold_tasks two n t s) (let e : max_tasks - t ≡ suc (max_tasks - (t + 1)) = omega (arith, inv.keeps.fits.few) in e)

      pub tasks_on : (k2 : Checker) → Keeps k k2 → ((names : ℕ → List ℕ) (s : UnfoldingState) → ShowsState names k s →
          (s' : UnfoldingState) × (unfold_task two t (slice_index_or s.starts t None) s ≡ Ok s') × ShowsState names k2 s') → Tasked old (t + 1) k2
      tasks_on k2 keeps went = record {
        keeps = simulating.keeps_through old k k2 inv.keeps keeps;
        within = omega (arith, keeps.more);
        all = λ names s h.
            let l = inv.all names s h in
            let w = went names l.state l.shows in
            record { state = w.0; shows = w.2; same = sym (ap (λ o. o >>= unfold_tasks two (max_tasks - (t + 1)) (t + 1)) w.1) ∙ sym (left_is l.state) ∙ l.same };
      }

      pub tasks_fail : (e : PlanEnd) (k2 kk : Checker) →
          ((names : ℕ → List ℕ) (s : UnfoldingState) → ShowsState names k s →
          WhereUnfolded {A = Unit {0}} (Err e) (unfold_task two t (slice_index_or s.starts t None) s) (ShowsState names k2)) →
          (r : Result (Unit {0}) PlanEnd) → r ≡ Err e → (names : ℕ → List ℕ) (s : UnfoldingState) → ShowsState names old s →
          WhereUnfolded r (unfold_tasks two max_tasks 0 s) (ShowsState names kk)
      tasks_fail ends.NoMemory k2 kk went r is names s h = subst (λ z. WhereUnfolded z (unfold_tasks two max_tasks 0 s) (ShowsState names kk)) (sym is) tt
      tasks_fail (ends.Check f) k2 kk went r is names s h =
          let l = inv.all names s h in
          subst (λ z. WhereUnfolded z (unfold_tasks two max_tasks 0 s) (ShowsState names kk)) (sym is)
          (sym l.same ∙ left_is l.state ∙ ap (λ o. o >>= unfold_tasks two (max_tasks - (t + 1)) (t + 1)) (went names l.state l.shows))
