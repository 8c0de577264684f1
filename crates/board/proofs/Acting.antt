-- Each store makes the next action of the task whose seat makes it, and keeps the rule.
use Rattle.std.proofs.Common.{◌≡◌, ◌≢◌, ℕ, ◌<◌, true, false, List, Option, Some, None, length, set, sym, refl, ap, ◌∙◌, subst, inl, inr}
use Rattle.std.specs.Prelude.{unwrap_or}
use Rattle.std.proofs.lemmas.Bool.{true_from_ne_false}
use mathlib.Core.Option.{some}
use lib.ListN.{get_elem?}
use Rattle.atomic_table.specs.Table.{State as TableState, keeps, stepped}
use Rattle.atomic_table.proofs.Lists.{at_set}
use Rattle.armus_base.specs.declared.event.Event.{Event}
use Rattle.armus_base.specs.Plans.{Aim, Action, Advances, Blocks, Drops, Forks, Makes, Passes, Plan, Refuses, Registers, action_at, in_code}
use Rattle.armus_base.specs.States.{IsActive, IsLegal, State, after}
use Rattle.armus_base.specs.Runs.{IsByCode, Place, moved}
use Rattle.armus_base.specs.Places.{done_by, forked_at, kept, published_after, refused_at, state_at}
use Rattle.armus_base.specs.calls.Places.{phases_at_place}
use Rattle.armus_base.specs.Avoidance.{Avoids}
use Rattle.armus_base.specs.calls.Boards.{MayDo, steps_of}
use Rattle.armus_base.proofs.Codes.{no_refusal}
use Rattle.armus_base.proofs.Fixed.{phases_forked}
use Rattle.armus_base.proofs.Published.{published_passes}
use Rattle.armus_base.proofs.NextIsLegal.{next_is_legal}
use Rattle.armus_base.proofs.BoardRuns.{board_legal, lawful_state}
use Rattle.board.specs.declared.mode.Mode.{Mode}
use Rattle.board.specs.declared.view.View.{View}
use Rattle.board.specs.calls.Words.{IsShown}
use Rattle.board.specs.calls.Views.{action_after, avoids, next_action, own_place, place_in, task_of}
use Rattle.board.specs.calls.Rule.{SeatFits, IsKeptBy, by_seat, not_yet}
use Rattle.board.specs.calls.Steps.{after_action, next_view}
use Rattle.board.proofs.Seating.{one_goes_on, seated_stays}
use Rattle.board.proofs.Fitting.{IsStep, other_fits, own_fits, state_next, step_lawful}

abbrev T : Type 0
T = TableState (Unit {0}) View

-- the seat of task t, in a table that keeps the rule
pub record Sits (plan : Plan) (mode : Mode) (s : T) (l : IsKeptBy plan mode s) (id : ℕ) (v : View) (t : ℕ) : Type 0 where
  pub fits : SeatFits plan mode l.places l.lock l.steppers id v
  pub within : t < length plan.parents
  pub alone : l.steppers t ≡ by_seat id
  pub task : task_of v ≡ t
  pub place : own_place v ≡ l.places t
  pub forked : forked_at plan (done_by l.places) t ≡ true

seat_steps : (i : ℕ) → by_seat i ≡ not_yet → ⊥
seat_steps i e = cc

pub sits : (plan : Plan) (mode : Mode) (s : T) (l : IsKeptBy plan mode s) (id : ℕ) (v : View) (t : ℕ) → v.own ≡ Some t → v.spent ≡ false →
    get_elem? s.views id ≡ some v → Sits plan mode s l id v t
sits plan mode s l id v t own live found =
    let f = l.views id v found live in
    let o = f.own t own in
    let task : task_of v ≡ t = ap (λ o. unwrap_or o 0) own in
    record {
      fits = f;
      within = o.within;
      alone = o.alone;
      task = task;
      place = ap (place_in v.sight.places) task ∙ sym (f.far.equal t o.within o.exact);
      forked = true_from_ne_false (forked_at plan (done_by l.places) t) (λ e. seat_steps id (sym o.alone ∙ (l.seated.forks t).0 e));
    }

-- what comes next by the code, at the place of the seat's task
pub action_there : (plan : Plan) (t k : ℕ) (o : Option ℕ) (x : Action) → action_after plan t k o ≡ Some x → (o ≡ None) × (action_at plan t k ≡ Some x)
action_there plan t k None x e = (refl, e)
action_there plan t k (Some d) x e = absurd (cc)

pub comes_next :
    (plan : Plan) (mode : Mode) (s : T) (l : IsKeptBy plan mode s) (id : ℕ) (v : View) (t : ℕ) (x : Action) → Sits plan mode s l id v t → next_action v ≡ Some x →
    ((l.places t).dropped ≡ None) × (action_at plan t (l.places t).done ≡ Some x)
comes_next plan mode s l id v t x si e =
    let there : action_after v.plan (task_of v) (l.places t).done (l.places t).dropped ≡ Some x = subst
    (λ (p : Place). action_after v.plan (task_of v) p.done p.dropped ≡ Some x) si.place e in
    action_there plan t (l.places t).done (l.places t).dropped x
    (subst (λ (q : Plan). action_after q t (l.places t).done (l.places t).dropped ≡ Some x) si.fits.plan_is
    (subst (λ u. action_after v.plan u (l.places t).done (l.places t).dropped ≡ Some x) si.task there))

here_comes : (plan : Plan) (t k : ℕ) (o : Option ℕ) (x : Action) → o ≡ None → action_at plan t k ≡ Some x → action_after plan t k o ≡ Some x
here_comes plan t k None x e next = next
here_comes plan t k (Some d) x e next = absurd (cc)

-- and what comes next in the state comes next in the view
pub comes_so :
    (plan : Plan) (mode : Mode) (s : T) (l : IsKeptBy plan mode s) (id : ℕ) (v : View) (t : ℕ) (x : Action) → Sits plan mode s l id v t → (l.places t).dropped ≡ None →
    action_at plan t (l.places t).done ≡ Some x → next_action v ≡ Some x
comes_so plan mode s l id v t x si dropped next =
    subst (λ (p : Place). action_after v.plan (task_of v) p.done p.dropped ≡ Some x) (sym si.place)
    (subst (λ u. action_after v.plan u (l.places t).done (l.places t).dropped ≡ Some x) (sym si.task)
    (subst (λ (q : Plan). action_after q t (l.places t).done (l.places t).dropped ≡ Some x) (sym si.fits.plan_is)
    (here_comes plan t (l.places t).done (l.places t).dropped x dropped next)))

-- the own phases of a seat's task are exact
pub own_phases_so :
    (plan : Plan) (mode : Mode) (s : T) (l : IsKeptBy plan mode s) (id : ℕ) (v : View) (t p : ℕ) → Sits plan mode s l id v t →
    (state_at plan l.places).phases t p ≡ phases_at_place v.plan (task_of v) (own_place v) p
own_phases_so plan mode s l id v t p si =
    ap (λ m. kept (l.places t).dropped m p) (phases_forked plan l.checked (done_by l.places) t si.forked)
    ∙ ap (λ (b : Place). phases_at_place plan t b p) (sym si.place)
    ∙ ap (λ u. phases_at_place plan u (own_place v) p) (sym si.task)
    ∙ ap (λ (q : Plan). phases_at_place q (task_of v) (own_place v) p) (sym si.fits.plan_is)

some_same : (u w : Action) → Some u ≡ Some w → u ≡ w
some_same u w e = cc

-- where another action than a pass comes next, nothing is published
pub nothing_published : (plan : Plan) (t k : ℕ) (x : Action) → action_at plan t k ≡ Some x → ((p : ℕ) → x ≢ Passes p) → published_after plan t k ≡ None
nothing_published plan t k x next n = by_case (published_after plan t k) refl
  where
    by_case : (o : Option Event) → published_after plan t k ≡ o → o ≡ None
    by_case None is = refl
    by_case (Some e) is =
        absurd (n e.p.0 (some_same x (Passes e.p.0) (sym next ∙ published_passes plan t k e is)))

code_itself : (plan : Plan) (t k : ℕ) (x : Action) → action_at plan t k ≡ Some x → action_at plan t k ≡ Some (in_code x)
code_itself plan t k (Makes p) e = e
code_itself plan t k (Registers c p) e = e
code_itself plan t k (Forks c) e = e
code_itself plan t k (Advances p) e = e
code_itself plan t k (Drops p) e = e
code_itself plan t k (Blocks p) e = e
code_itself plan t k (Passes p) e = e
code_itself plan t k (Refuses p) e = absurd (no_refusal plan t k p e)

pub by_code_so : (plan : Plan) (t k : ℕ) (o : Option ℕ) (x : Action) → o ≡ None → action_at plan t k ≡ Some x → IsByCode plan t k o x
by_code_so plan t k None x e next = code_itself plan t k x next
by_code_so plan t k (Some d) x e next = absurd (cc)

-- an action other than a pass
pub steps_by_code :
    (plan : Plan) (mode : Mode) (s : T) (l : IsKeptBy plan mode s) (id : ℕ) (v : View) (t : ℕ) (x : Action) → Sits plan mode s l id v t → next_action v ≡ Some x →
    ((p : ℕ) → x ≢ Passes p) → (avoids mode ≡ true → Avoids (state_at plan l.places) t x × MayDo l.lock t x) → IsStep plan mode l.places l.lock t x
steps_by_code plan mode s l id v t x si next n avoided =
    let there = comes_next plan mode s l id v t x si next in
    let h = steps_of l.lawful.entries in
    let same = lawful_state (avoids mode) plan l.places l.lock l.checked l.lawful in
    let active : IsActive (state_at plan l.places) t = record {
      forked = si.forked;
      unpublished = nothing_published plan t (l.places t).done x there.1 n;
      unrefused = ap (refused_at plan t (l.places t).done) there.0;
    } in record {
      code = by_code_so plan t (l.places t).done (l.places t).dropped x there.0 there.1;
      legal = subst (λ st. IsLegal plan st t x) same
          (next_is_legal plan h t x l.checked (board_legal (avoids mode) plan l.lawful.entries l.lawful.run) (subst (λ st. IsActive st t) (sym same) active)
          (ap (λ (b : Place). action_at plan t b.done) (l.lawful.there t) ∙ there.1));
      plain = λ _ p is. no_refusal plan t (l.places t).done p (there.1 ∙ ap Some is);
      avoided = avoided;
    }

-- who does not hold the lock may do what is no block and no refusal
pub may_do : (lock : Option ℕ) (t : ℕ) (x : Action) → (lock ≡ Some t → ⊥) → ((aim : Aim) → x ≢ Blocks aim) → ((aim : Aim) → x ≢ Refuses aim) → MayDo lock t x
may_do lock t (Makes p) n b r = n
may_do lock t (Registers c p) n b r = n
may_do lock t (Forks c) n b r = n
may_do lock t (Advances p) n b r = n
may_do lock t (Drops p) n b r = n
may_do lock t (Blocks p) n b r = absurd (b p refl)
may_do lock t (Passes p) n b r = n
may_do lock t (Refuses p) n b r = absurd (r p refl)

pub avoids_else : (s : State) (t : ℕ) (x : Action) → ((aim : Aim) → x ≢ Blocks aim) → ((aim : Aim) → x ≢ Refuses aim) → Avoids s t x
avoids_else s t (Makes p) b r = tt
avoids_else s t (Registers c p) b r = tt
avoids_else s t (Forks c) b r = tt
avoids_else s t (Advances p) b r = tt
avoids_else s t (Drops p) b r = tt
avoids_else s t (Blocks p) b r = absurd (b p refl)
avoids_else s t (Passes p) b r = tt
avoids_else s t (Refuses p) b r = absurd (r p refl)

pub not_held :
    (plan : Plan) (mode : Mode) (s : T) (l : IsKeptBy plan mode s) (id : ℕ) (v : View) (t : ℕ) → Sits plan mode s l id v t → v.own ≡ Some t → v.holds ≡ false → l.lock ≡ Some t → ⊥
not_held plan mode s l id v t si own free e = let held = (si.fits.holding t own).held e in cc

-- the rule after an own action that is no fork
pub acts_kept :
    (plan : Plan) (mode : Mode) (s : T) (l : IsKeptBy plan mode s) (id i n : ℕ) (c : List (ℕ × Unit {0})) (v : View) (t : ℕ) (x : Action) → v.own ≡ Some t → v.spent ≡ false →
    get_elem? s.views id ≡ some v → IsStep plan mode l.places l.lock t x → ((u : ℕ) → (after (state_at plan l.places) t x).forked u ≡ (state_at plan l.places).forked u) →
    IsShown plan (after (state_at plan l.places) t x) l.lock (set s.words i n) → IsKeptBy plan mode (stepped s i n id c (after_action x v) keeps)
acts_kept plan mode s l id i n c v t x own live found is_step forked shown =
    let si = sits plan mode s l id v t own live found in
    let next = state_next plan mode l.places l.lock t x l.checked l.lawful is_step in
    let a' : ℕ → Place = moved l.places t x in
    record {
      places = a';
      lock = l.lock;
      steppers = l.steppers;
      checked = l.checked;
      lawful = step_lawful plan mode l.places l.lock t x l.checked l.lawful is_step;
      shown = subst (λ st. IsShown plan st l.lock (set s.words i n)) next shown;
      seated = seated_stays plan l.places a' l.steppers s.views (set s.views id (after_action x v))
          (one_goes_on s.views id v (after_action x v) found (record { own = refl; spent = refl; exact = λ u is. is }))
          (λ u. sym (ap (λ st. st.forked u) next) ∙ forked u) l.seated;
      views = λ j u e unspent. elim (at_set s.views id j (after_action x v) u e) [
        | inl w ↦
            subst (λ (z : ℕ × View). SeatFits plan mode a' l.lock l.steppers z.0 z.1) (λ k. (sym w.0 k, w.1 k))
            (own_fits plan mode l.places l.lock t x l.checked l.lawful is_step l.steppers id v own si.fits)
        | inr w ↦
            other_fits plan mode l.places l.lock t x l.checked l.lawful is_step l.steppers id j u si.alone w.0 (l.views j u w.1 unspent)
      ];
    }

-- the action that comes next is the one of the view after
pub next_view_is : (v : View) (x : Action) → next_action v ≡ Some x → after_action x v ≡ next_view v
next_view_is v x e = ap (λ o. after_action (unwrap_or o (Drops 0)) v) (sym e)
