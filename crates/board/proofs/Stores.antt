-- The stores: each says in its word what the action changes.
use Rattle.std.proofs.Common.{◌≡◌, ◌≢◌, ℕ, ◌+◌, ◌<◌, true, false, Option, Some, None, length, set, sym, refl, ap, ◌∙◌, subst, subst₂, arith}
use Rattle.std.specs.Prelude.{option_map, unwrap_or}
use Rattle.std.proofs.lemmas.Bool.{false≢true}
use mathlib.Core.Option.{some, none}
use lib.ListN.{get_elem?}
use Rattle.atomic_table.specs.Table.{Allows, Me, State as TableState, keeps, step, stepped}
use Rattle.armus_base.specs.declared.event.Event.{Event}
use Rattle.armus_base.specs.Plans.{Aim, Action, Advances, Blocks, Drops, Makes, Passes, Plan, Refuses, Registers, action_at}
use Rattle.armus_base.specs.Offsets.{target}
use Rattle.armus_base.specs.States.{State, after, awaited, event_at, event_on, next_phase, updated}
use Rattle.armus_base.specs.Runs.{IsByCode, Place, next_place}
use Rattle.armus_base.specs.calls.Places.{phases_at_place}
use Rattle.armus_base.specs.Places.{published_after, refused_at, state_at}
use Rattle.armus_base.specs.calls.Boards.{IsLawful, MayDo}
use Rattle.armus_base.specs.Avoidance.{Avoids}
use Rattle.armus_base.specs.calls.Seats.{AvoidsByWhatIsSeen, FoundRefused, IsAsFarOn, found_by, own_event}
use Rattle.armus_base.proofs.Steps.{updated_other, updated_same, with_phase_other, with_phase_same}
use Rattle.armus_base.proofs.Codes.{mapped_is}
use Rattle.armus_base.proofs.Published.{published_passes, published_undropped}
use Rattle.armus_base.proofs.Reachable.{reachable_is_fixed}
use Rattle.armus_base.proofs.BoardRuns.{lawful_is_reachable}
use Rattle.armus_base.proofs.AllScannedIsReached.{all_scanned_is_reached}
use Rattle.board.specs.declared.mode.Mode.{Mode}
use Rattle.board.specs.declared.view.View.{View}
use Rattle.board.specs.calls.Words.{IsShown, await_index, await_number, event_number, found_in, phase_index, phase_number}
use Rattle.board.specs.calls.Views.{action_after, avoids, next_action, own_place, place_in, seen, task_of}
use Rattle.board.specs.calls.Rule.{IsKeptBy}
use Rattle.board.specs.calls.Locking.{IsWithLock, Published, Refused}
use Rattle.board.specs.calls.Steps.{Acted, Withdrawn, after_action, next_view, own_phase}
use Rattle.board.proofs.Showing.{shows_await, shows_phase}
use Rattle.board.proofs.Fitting.{IsStep}
use Rattle.board.proofs.Acting.{Sits, acts_kept, avoids_else, by_code_so, comes_next, comes_so, may_do, nothing_published, next_view_is, not_held, own_phases_so, sits, steps_by_code}

abbrev T : Type 0
T = TableState (Unit {0}) View

-- one phase is another one, and nothing else of what the words say
pub record ChangesPhase (st st' : State) (u p n : ℕ) : Type 0 where
  pub here : n ≡ phase_number (st'.phases u p)
  pub others : (w q : ℕ) → (w ≡ u → q ≢ p) → st'.phases w q ≡ st.phases w q
  pub same : (w : ℕ) → found_in st' w ≡ found_in st w
  pub forked : (w : ℕ) → st'.forked w ≡ st.forked w

-- the action is none that needs the lock, and no pass
pub record IsPhaseAction (x : Action) : Type 0 where
  pub no_pass : (p : ℕ) → x ≢ Passes p
  pub no_block : (aim : Aim) → x ≢ Blocks aim
  pub no_refusal : (aim : Aim) → x ≢ Refuses aim

-- the seat of task t, which is not taken in and does not hold the lock
pub record IsFree (v : View) (t : ℕ) : Type 0 where
  pub own : v.own ≡ Some t
  pub live : v.spent ≡ false
  pub free : v.holds ≡ false

-- a store to a phase word
stores_phase :
    (plan : Plan) (mode : Mode) (slots id : ℕ) (me : Me (Unit {0}) View) (t : ℕ) (x : Action) (u p n index : ℕ) → IsFree me.0 t →
    next_action me.0 ≡ Some x → IsPhaseAction x → u < length plan.parents → p < length plan.makers → index ≡ phase_index plan u p →
    ((s : T) (l : IsKeptBy plan mode s) → Sits plan mode s l id me.0 t → ChangesPhase (state_at plan l.places) (after (state_at plan l.places) t x) u p n) →
    Allows (IsKeptBy plan mode) slots id me index (λ _. n) (λ _. Acted (step slots index n 0 none) me n)
stores_phase plan mode slots id me t x u p n index has next kind a b at change s l _ found _ =
    let si = sits plan mode s l id me.0 t has.own has.live found in
    let st : State = state_at plan l.places in
    let is_step = steps_by_code plan mode s l id me.0 t x si next kind.no_pass
    (λ _. let unheld = not_held plan mode s l id me.0 t si has.own has.free in
    (avoids_else st t x kind.no_block kind.no_refusal, may_do l.lock t x unheld kind.no_block kind.no_refusal)) in
    let ch = change s l si in (
      after_action x me.0,
      keeps,
      tt,
      acts_kept plan mode s l id index n me.1 me.0 t x has.own has.live found is_step ch.forked
          (subst₂ (λ (i k : ℕ). IsShown plan (after st t x) l.lock (set s.words i k)) (sym at) (sym ch.here)
          (shows_phase plan st (after st t x) l.lock s.words u p ((after st t x).phases u p) l.shown a b refl ch.others ch.same)),
      (next_view_is me.0 x next, refl),
    )

-- a phaser is made
pub makes_phaser :
    (plan : Plan) (mode : Mode) (slots id : ℕ) (me : Me (Unit {0}) View) (t p index : ℕ) → IsFree me.0 t →
    next_action me.0 ≡ Some (Makes p) → t < length plan.parents → p < length plan.makers →
    index ≡ phase_index plan t p → Allows (IsKeptBy plan mode) slots id me index (λ _. 1) (λ _. Acted (step slots index 1 0 none) me 1)
makes_phaser plan mode slots id me t p index has next a b at =
    stores_phase plan mode slots id me t (Makes p) t p 1 index has next (record { no_pass = λ q e. cc; no_block = λ q e. cc; no_refusal = λ q e. cc }) a b at
    (λ s l si. record {
      here = ap phase_number (sym (with_phase_same (state_at plan l.places).phases t p (Some 0)));
      others = λ w q n. with_phase_other (state_at plan l.places).phases t p (Some 0) w q n;
      same = λ w. refl;
      forked = λ w. refl;
    })

-- a child is registered at the own phase
pub registers_child :
    (plan : Plan) (mode : Mode) (slots id : ℕ) (me : Me (Unit {0}) View) (t c p n m index : ℕ) → IsFree me.0 t →
    next_action me.0 ≡ Some (Registers c p) → c < length plan.parents → p < length plan.makers → phases_at_place me.0.plan (task_of me.0) (own_place me.0) p ≡ Some m →
    n ≡ m + 1 → index ≡ phase_index plan c p → Allows (IsKeptBy plan mode) slots id me index (λ _. n) (λ _. Acted (step slots index n 0 none) me n)
registers_child plan mode slots id me t c p n m index has next a b phase is at =
    stores_phase plan mode slots id me t (Registers c p) c p n index has next (record { no_pass = λ q e. cc; no_block = λ q e. cc; no_refusal = λ q e. cc }) a
    b at
    (λ s l si. record {
      here = is ∙ ap phase_number (sym phase ∙ sym (own_phases_so plan mode s l id me.0 t p si) ∙
          sym (with_phase_same (state_at plan l.places).phases c p ((state_at plan l.places).phases t p)));
      others = λ w q n. with_phase_other (state_at plan l.places).phases c p ((state_at plan l.places).phases t p) w q n;
      same = λ w. refl;
      forked = λ w. refl;
    })

-- one phase more
pub advances :
    (plan : Plan) (mode : Mode) (slots id : ℕ) (me : Me (Unit {0}) View) (t p n m index : ℕ) → IsFree me.0 t →
    next_action me.0 ≡ Some (Advances p) → t < length plan.parents → p < length plan.makers → phases_at_place me.0.plan (task_of me.0) (own_place me.0) p ≡ Some m →
    n ≡ m + 2 → index ≡ phase_index plan t p → Allows (IsKeptBy plan mode) slots id me index (λ _. n) (λ _. Acted (step slots index n 0 none) me n)
advances plan mode slots id me t p n m index has next a b phase is at =
    stores_phase plan mode slots id me t (Advances p) t p n index has next (record { no_pass = λ q e. cc; no_block = λ q e. cc; no_refusal = λ q e. cc }) a b at
    (λ s l si. let here : (state_at plan l.places).phases t p ≡ Some m = own_phases_so plan mode s l id me.0 t p si ∙ phase in record {
      here = is ∙ two m ∙ ap phase_number (ap next_phase (sym here) ∙ sym (with_phase_same (state_at plan l.places).phases t p (next_phase ((state_at plan l.places).phases t p))));
      others = λ w q n. with_phase_other (state_at plan l.places).phases t p (next_phase ((state_at plan l.places).phases t p)) w q n;
      same = λ w. refl;
      forked = λ w. refl;
    })
  where
    two : (m : ℕ) → m + 2 ≡ phase_number (next_phase (Some m))
    two m = omega arith

-- a phaser is left
pub drops :
    (plan : Plan) (mode : Mode) (slots id : ℕ) (me : Me (Unit {0}) View) (t p index : ℕ) → IsFree me.0 t →
    next_action me.0 ≡ Some (Drops p) → t < length plan.parents → p < length plan.makers →
    index ≡ phase_index plan t p → Allows (IsKeptBy plan mode) slots id me index (λ _. 0) (λ _. Acted (step slots index 0 0 none) me 0)
drops plan mode slots id me t p index has next a b at =
    stores_phase plan mode slots id me t (Drops p) t p 0 index has next (record { no_pass = λ q e. cc; no_block = λ q e. cc; no_refusal = λ q e. cc }) a b at
    (λ s l si. record {
      here = ap phase_number (sym (with_phase_same (state_at plan l.places).phases t p None));
      others = λ w q n. with_phase_other (state_at plan l.places).phases t p None w q n;
      same = λ w. refl;
      forked = λ w. refl;
    })

-- what a task awaits changes
stores_await :
    (plan : Plan) (mode : Mode) (slots id : ℕ) (me : Me (Unit {0}) View) (t : ℕ) (x : Action) (n : ℕ) (s : T) (l : IsKeptBy plan mode s) → me.0.own ≡ Some t → me.0.spent ≡ false →
    get_elem? s.views id ≡ some me.0 → IsStep plan mode l.places l.lock t x →
    ((w : ℕ) → (after (state_at plan l.places) t x).forked w ≡ (state_at plan l.places).forked w) →
    ((u q : ℕ) → (after (state_at plan l.places) t x).phases u q ≡ (state_at plan l.places).phases u q) →
    ((u : ℕ) → u ≢ t → found_in (after (state_at plan l.places) t x) u ≡ found_in (state_at plan l.places) u) →
    n ≡ await_number (found_in (after (state_at plan l.places) t x) t) →
    IsKeptBy plan mode (stepped s (await_index t) n id me.1 (after_action x me.0) keeps)
stores_await plan mode slots id me t x n s l own live found is_step forked phases others is =
    let si = sits plan mode s l id me.0 t own live found in
    let st : State = state_at plan l.places in
    acts_kept plan mode s l id (await_index t) n me.1 me.0 t x own live found is_step forked
    (subst (λ (k : ℕ). IsShown plan (after st t x) l.lock (set s.words (await_index t) k)) (sym is)
    (shows_await plan st (after st t x) l.lock s.words t l.shown si.within phases others))

actions_same : (a b : Aim) → Some (Blocks a) ≡ Some (Blocks b) → a ≡ b
actions_same a b e = cc

-- a state that has the lock with a seat that holds it
with_lock_now :
    (plan : Plan) (mode : Mode) (s : T) (l : IsKeptBy plan mode s) (id : ℕ) (v : View) (t : ℕ) → Sits plan mode s l id v t → v.own ≡ Some t → v.holds ≡ true →
    avoids mode ≡ true → IsWithLock plan t (seen v)
with_lock_now plan mode s l id v t si own has avoiding =
    record {
      places = l.places;
      lock = l.lock;
      lawful = subst (λ b. IsLawful b plan l.places l.lock) avoiding l.lawful;
      with_seat = (si.fits.holding t own).holds has;
      far = subst (λ o. IsAsFarOn plan o l.places (seen v)) own si.fits.far;
    }

-- as the seat itself says it
with_lock_so :
    (plan : Plan) (mode : Mode) (s : T) (l : IsKeptBy plan mode s) (id : ℕ) (v : View) (t : ℕ) → Sits plan mode s l id v t → IsWithLock plan t (seen v) →
    IsWithLock v.plan (task_of v) (seen v)
with_lock_so plan mode s l id v t si w =
    subst (λ (q : Plan). IsWithLock q (task_of v) (seen v)) (sym si.fits.plan_is) (subst (λ u. IsWithLock plan u (seen v)) (sym si.task) w)

-- an await is published
pub publishes :
    (plan : Plan) (mode : Mode) (slots id : ℕ) (me : Me (Unit {0}) View) (t n : ℕ) (aim : Aim) (e : Event) → me.0.own ≡ Some t → me.0.spent ≡ false →
    (avoids mode ≡ true → (me.0.holds ≡ true) × AvoidsByWhatIsSeen plan t (seen me.0) (Blocks aim)) →
    next_action me.0 ≡ Some (Blocks aim) → option_map (target aim.off) (phases_at_place me.0.plan (task_of me.0) (own_place me.0) aim.phaser) ≡ Some e.n →
    e.p.0 ≡ aim.phaser → n ≡ event_number e →
    Allows (IsKeptBy plan mode) slots id me (await_index t) (λ _. n) (λ _. Published (step slots (await_index t) n 0 none) me n)
publishes plan mode slots id me t n aim e own live avoiding next phase here is s l _ found _ =
    let si = sits plan mode s l id me.0 t own live found in
    let st : State = state_at plan l.places in
    let is_step = steps_by_code plan mode s l id me.0 t (Blocks aim) si next (λ q e. cc) (by_mode mode refl si) in
    let event : awaited (Some (Blocks aim)) (st.phases t) ≡ Some e =
    ap (event_on aim.phaser) (ap (option_map (target aim.off)) (own_phases_so plan mode s l id me.0 t aim.phaser si) ∙ phase) ∙ ap (λ q. Some (event_at q e.n)) (sym here) in (
      after_action (Blocks aim) me.0,
      keeps,
      tt,
      stores_await plan mode slots id me t (Blocks aim) n s l own live found is_step (λ w. refl) (λ u q. refl)
          (λ u ne. ap (λ o. found_by o (st.refused u)) (updated_other st.published t u (awaited (Some (Blocks aim)) (st.phases t)) ne))
          (is ∙ ap (λ o. await_number (found_by o (st.refused t))) (sym (updated_same st.published t t (awaited (Some (Blocks aim)) (st.phases t)) refl ∙ event))),
      (
        refl,
        (λ q next_too. ap (λ r. after_action (Blocks r) me.0) (actions_same aim q (sym next ∙ next_too))),
        (λ is_avoiding.
            let avoids_too = ap avoids (sym si.fits.mode_is) ∙ is_avoiding in
            with_lock_so plan mode s l id me.0 t si (with_lock_now plan mode s l id me.0 t si own (avoiding avoids_too).0 avoids_too)),
      ),
    )
  where
    by_mode : (m : Mode) → m ≡ mode → Sits plan mode s l id me.0 t → avoids mode ≡ true → Avoids (state_at plan l.places) t (Blocks aim) × MayDo l.lock t (Blocks aim)
    by_mode m same si is_avoiding =
        let c = avoiding is_avoiding in
        let lock = (si.fits.holding t own).holds c.0 in (
          c.1 l.places l.lock (subst (λ b. IsLawful b plan l.places l.lock) is_avoiding l.lawful) lock (subst (λ o. IsAsFarOn plan o l.places (seen me.0)) own si.fits.far),
          lock.holds,
        )

-- an await is refused
pub refuses :
    (plan : Plan) (mode : Mode) (slots id : ℕ) (me : Me (Unit {0}) View) (t n : ℕ) (aim : Aim) (e : Event) → me.0.own ≡ Some t → me.0.spent ≡ false →
    me.0.holds ≡ true → avoids mode ≡ true →
    AvoidsByWhatIsSeen plan t (seen me.0) (Refuses aim) → next_action me.0 ≡ Some (Blocks aim) →
    option_map (target aim.off) (phases_at_place me.0.plan (task_of me.0) (own_place me.0) aim.phaser) ≡ Some e.n → e.p.0 ≡ aim.phaser →
    n ≡ await_number (FoundRefused e) → Allows (IsKeptBy plan mode) slots id me (await_index t) (λ _. n) (λ _. Refused (step slots (await_index t) n 0 none) me n)
unfolding with_lock_now
refuses plan mode slots id me t n aim e own live has avoiding dead next phase here is s l _ found _ =
    let si = sits plan mode s l id me.0 t own live found in
    let st : State = state_at plan l.places in
    let there = comes_next plan mode s l id me.0 t (Blocks aim) si next in
    let w = with_lock_now plan mode s l id me.0 t si own has avoiding in
    let idle : st.published t ≡ None = nothing_published plan t (l.places t).done (Blocks aim) there.1 (λ q f. cc) in
    let aimed : option_map (target aim.off) (st.phases t aim.phaser) ≡ Some e.n = ap (option_map (target aim.off)) (own_phases_so plan mode s l id me.0 t aim.phaser si) ∙ phase in
    let member = mapped_is (target aim.off) (st.phases t aim.phaser) e.n aimed in
    let event : awaited (Some (Blocks aim)) (st.phases t) ≡ Some e = ap (event_on aim.phaser) aimed ∙ ap (λ q. Some (event_at q e.n)) (sym here) in
    let is_step : IsStep plan mode l.places l.lock t (Refuses aim) = record {
      code = refused_so plan t (l.places t).done (l.places t).dropped aim there.0 there.1;
      legal = (
        record { forked = si.forked; unpublished = idle; unrefused = ap (refused_at plan t (l.places t).done) there.0 },
        (member.0, member.1),
      );
      plain = λ detects q f. absurd (false≢true (sym detects ∙ avoiding));
      avoided = λ _. (dead w.places w.lock w.lawful w.with_seat w.far, w.with_seat.holds);
    } in (
      after_action (Refuses aim) me.0,
      keeps,
      tt,
      stores_await plan mode slots id me t (Refuses aim) n s l own live found is_step (λ w. refl) (λ u q. refl)
          (λ u ne. ap (found_by (st.published u)) (updated_other st.refused t u (awaited (Some (Blocks aim)) (st.phases t)) ne))
          (is
          ∙ ap await_number (sym (ap (λ o. found_by o (updated st.refused t (awaited (Some (Blocks aim)) (st.phases t)) t)) idle
          ∙ ap (found_by None) (updated_same st.refused t t (awaited (Some (Blocks aim)) (st.phases t)) refl ∙ event)))),
      (
        refl,
        (λ q next_too. ap (λ r. after_action (Refuses r) me.0) (actions_same aim q (sym next ∙ next_too))),
        with_lock_so plan mode s l id me.0 t si w,
      ),
    )
  where
    refused_so : (plan : Plan) (t k : ℕ) (o : Option ℕ) (aim : Aim) → o ≡ None → action_at plan t k ≡ Some (Blocks aim) → IsByCode plan t k o (Refuses aim)
    refused_so plan t k None aim e next = next
    refused_so plan t k (Some d) aim e next = absurd (cc)

-- the event is reached, and the task goes on
pub passes :
    (plan : Plan) (mode : Mode) (slots id : ℕ) (me : Me (Unit {0}) View) (t : ℕ) (e : Event) → IsFree me.0 t → me.0.plan ≡ plan →
    own_event me.0.plan me.0.own (seen me.0) ≡ Some e → me.0.sight.scanned ≡ length plan.parents →
    Allows (IsKeptBy plan mode) slots id me (await_index t) (λ _. 0) (λ _. Withdrawn (step slots (await_index t) 0 0 none) me 0)
passes plan mode slots id me t e has same event all s l _ found _ =
    let si = sits plan mode s l id me.0 t has.own has.live found in
    let st : State = state_at plan l.places in
    let far : IsAsFarOn plan (Some t) l.places (seen me.0) = subst (λ o. IsAsFarOn plan o l.places (seen me.0)) has.own si.fits.far in
    let seen_event : published_after plan t ((seen me.0).places t).done ≡ Some e =
    subst (λ o. own_event plan o (seen me.0) ≡ Some e) has.own (subst (λ q. own_event q me.0.own (seen me.0) ≡ Some e) same event) in
    let published : published_after plan t (l.places t).done ≡ Some e =
    ap (λ (b : Place). published_after plan t b.done) (sym (sym (ap (place_in me.0.sight.places) si.task) ∙ si.place)) ∙ seen_event in
    let next : action_at plan t (l.places t).done ≡ Some (Passes e.p.0) = published_passes plan t (l.places t).done e published in
    let reached = all_scanned_is_reached plan t (seen me.0) l.places e l.checked (lawful_is_reachable (avoids mode) plan l.places l.lock l.lawful) far seen_event all in
    let dropped : (l.places t).dropped ≡ None = published_undropped plan l.places
    (reachable_is_fixed plan l.places l.checked (lawful_is_reachable (avoids mode) plan l.places l.lock l.lawful)).1 t e published in
    let is_step : IsStep plan mode l.places l.lock t (Passes e.p.0) = record {
      code = by_code_so plan t (l.places t).done (l.places t).dropped (Passes e.p.0) dropped next;
      legal = (si.forked, e.n, published, reached, ap (refused_at plan t (l.places t).done) dropped);
      plain = λ _ p is. cc;
      avoided = λ _. (tt, not_held plan mode s l id me.0 t si has.own has.free);
    } in
    let next_is : next_action me.0 ≡ Some (Passes e.p.0) = comes_so plan mode s l id me.0 t (Passes e.p.0) si dropped next in (
      after_action (Passes e.p.0) me.0,
      keeps,
      tt,
      stores_await plan mode slots id me t (Passes e.p.0) 0 s l has.own has.live found is_step (λ w. refl) (λ u q. refl)
          (λ u ne. ap (λ o. found_by o (st.refused u)) (updated_other st.published t u None ne))
          (ap await_number (sym (ap (λ o. found_by o (st.refused t)) (updated_same st.published t t None refl) ∙
          ap (found_by None) (ap (refused_at plan t (l.places t).done) dropped)))),
      (
        refl,
        λ f is. (
          next_view_is me.0 (Passes e.p.0) next_is,
          next_is ∙ ap (λ (g : Event). Some (Passes g.p.0)) (events_same e f (sym event ∙ is)),
        ),
      ),
    )
  where
    events_same : (e f : Event) → Some e ≡ Some f → e ≡ f
    events_same e f h = cc

-- the view after a refused task's drop
pub drop_view : (v : View) (p d : ℕ) → (own_place v).dropped ≡ Some d → after_action (Drops p) v ≡ next_view v
drop_view v p d e = sym (ap (λ o. after_action (unwrap_or (action_after v.plan (task_of v) (own_place v).done o) (Drops 0)) v) e ∙
    ap (λ o. with_dropped (next_place (own_place v).done o (Drops 0))) e ∙ sym (ap (λ o. with_dropped (next_place (own_place v).done o (Drops p))) e))
  where
    with_dropped : Place → View
    with_dropped c = record v { sight = record v.sight { places = set v.sight.places (task_of v) c } }

-- a refused task leaves the least phaser of which it is a member
pub drops_refused :
    (plan : Plan) (mode : Mode) (slots id : ℕ) (me : Me (Unit {0}) View) (t p d n index : ℕ) → IsFree me.0 t →
    (own_place me.0).dropped ≡ Some d → own_phase me.0 p ≡ Some n → ((q : ℕ) → q < p → own_phase me.0 q ≡ None) → t < length plan.parents → p < length plan.makers →
    index ≡ phase_index plan t p → Allows (IsKeptBy plan mode) slots id me index (λ _. 0) (λ _. Acted (step slots index 0 0 none) me 0)
drops_refused plan mode slots id me t p d n index has dropped member least a b at s l _ found _ =
    let si = sits plan mode s l id me.0 t has.own has.live found in
    let st : State = state_at plan l.places in
    let there : (l.places t).dropped ≡ Some d = ap (λ (x : Place). x.dropped) (sym si.place) ∙ dropped in
    let stands = (reachable_is_fixed plan l.places l.checked (lawful_is_reachable (avoids mode) plan l.places l.lock l.lawful)).1.refused t d there in
    let idle : published_after plan t (l.places t).done ≡ None = nothing_published plan t (l.places t).done (Blocks stands.1.0) stands.1.1 (λ q e. cc) in
    let is_step : IsStep plan mode l.places l.lock t (Drops p) = record {
      code = subst (λ o. IsByCode plan t (l.places t).done o (Drops p)) (sym there) tt;
      legal = (
        si.forked,
        idle,
        (n, own_phases_so plan mode s l id me.0 t p si ∙ member),
        λ _ q less. own_phases_so plan mode s l id me.0 t q si ∙ least q less,
      );
      plain = λ _ q is. cc;
      avoided = λ _. (tt, not_held plan mode s l id me.0 t si has.own has.free);
    } in (
      after_action (Drops p) me.0,
      keeps,
      tt,
      acts_kept plan mode s l id index 0 me.1 me.0 t (Drops p) has.own has.live found is_step (λ _. refl)
          (subst₂ (λ (i k : ℕ). IsShown plan (after st t (Drops p)) l.lock (set s.words i k)) (sym at) (ap phase_number (with_phase_same st.phases t p None))
          (shows_phase plan st (after st t (Drops p)) l.lock s.words t p ((after st t (Drops p)).phases t p) l.shown a b refl
          (λ w q m. with_phase_other st.phases t p None w q m) (λ _. refl))),
      (drop_view me.0 p d dropped, refl),
    )
