-- The statuses of a collect, with that of the holder's own task, decide on its await in each state that it may be in.
use Rattle.std.proofs.Common.{◌≡◌, ◌≢◌, ℕ, ◌<◌, Bool, true, false, List, Option, get_or, Some, None, length, sym, refl, ap, ◌∙◌, subst, arith, inl, inr, ◌⊎◌, eq-eqb}
use Rattle.std.specs.Prelude.{is_some, nat_lt, option_map, unwrap_or, Contains, IsSome, if◌then◌else◌}
use Rattle.std.proofs.lemmas.Bool.{cases_Bool, cases_eq, cases_lt, eqb-true, false≢true}
use Rattle.std.proofs.lemmas.List.{get_or_default}
use Rattle.armus_base.specs.declared.event.Event.{Event}
use Rattle.armus_base.specs.declared.ids.TaskId.{TaskId}
use Rattle.armus_base.specs.declared.status.Status.{Status}
use Rattle.armus_base.specs.Plans.{Aim, Blocks, Plan, action_at}
use Rattle.armus_base.specs.Offsets.{target}
use Rattle.armus_base.specs.States.{State, awaited, event_on, if_published, updated}
use Rattle.armus_base.specs.calls.Runs.{IsPrefix}
use Rattle.armus_base.specs.Runs.{Place, first_place}
use Rattle.armus_base.specs.Places.{done_by, forked_at, kept, published_after, refused_at, state_at}
use Rattle.armus_base.specs.calls.Places.{phases_at_place}
use Rattle.armus_base.specs.CheckedPlans.{IsCheckedPlan}
use Rattle.armus_base.specs.calls.Boards.{IsLawful}
use Rattle.armus_base.specs.calls.Seats.{Found, FoundWaiting, HasLockWith, IsAsFarOn}
use Rattle.armus_base.specs.Deadlocks.{IsListedAt, IsListedOn}
use Rattle.armus_base.specs.calls.Decisions.{Decides, HasAllFound, HasFound, HasOtherStatuses, HasOwnStatus, StandsBefore}
use Rattle.armus_base.specs.calls.FinalLaws.{AreStatuses}
use Rattle.armus_base.specs.Finals.{is_awaited, is_event_of}
use Rattle.armus_base.specs.Statuses.{Impedes, IsAwaited}
use Rattle.armus_base.proofs.Codes.{awaited_is}
use Rattle.armus_base.proofs.KeepsFar.{prefixes_both}
use Rattle.armus_base.proofs.FoundArePublished.{found_are_published}
use Rattle.armus_base.proofs.Fixed.{phases_forked, some_before_from, some_before_is}
use Rattle.armus_base.proofs.ListDecides.{list_in_hand_decides}
use Rattle.armus_base.proofs.ReachedLater.{later_done}
use Rattle.armus_base.proofs.StatusesAre.{statuses_are}
use Rattle.armus_base.proofs.Steps.{updated_other, updated_same}
use Rattle.pl_core.specs.calls.HighestPhases.{ImpedesNobody}
use Rattle.board.specs.declared.mode.Mode.TheVariants.{Avoid}
use Rattle.board.specs.calls.Views.{avoids, next_action, own_place, place_in, seen, task_of}
use Rattle.board.specs.calls.Steps.{own_phase}
use Rattle.board.specs.calls.Seats.{IsSeat, Known}
use Rattle.board.proofs.Acting.{nothing_published}
use Rattle.board.proofs.Forking.{lock_forked}
use Rattle.armus_base.proofs.MemberPhasers.{phaser_of_member}
use Rattle.board.proofs.Seated.{next_there, phase_here}
use Rattle.phase_scan.specs.calls.Looks.{LoadsAlone}
use Rattle.phase_scan.specs.calls.Collected.{HasFinds, IsCollected}
use Rattle.phase_scan.specs.calls.Supposed.{IsSupposed, phase_used}
use Rattle.phase_scan.specs.calls.Tables.{state_supposed}
use Rattle.phase_scan.proofs.Columns.{column_goes, column_of}
use Rattle.phase_scan.proofs.Farther.{far_before}
use Rattle.phase_scan.proofs.Loads.{PhaseLoad, phase_load, prefix_both}
use Rattle.phase_scan.proofs.Standing.{phases_begun_at, published_begun}
use Rattle.phase_scan.proofs.Supposes.{own_phase_stays}
use Rattle.phase_scan.proofs.Telling.{found_there}
use Rattle.phase_scan.specs.calls.OffCycle.{ImpedesSome}
use Rattle.verdict.specs.calls.Cycles.{IsCycle}
use Rattle.avoider.proofs.CycleDead.{cycle_deadlocked}
use Rattle.avoider.proofs.FoundAlive.{among_or_not, no_deadlocked_list}

is_lt : (a b : ℕ) → a < b → nat_lt a b ≡ true
is_lt a b h = grind arith

-- an event of a phaser
event_of_phaser : (q : ℕ) (o : Option Event) → is_event_of q o ≡ true → (e : Event) × (o ≡ Some e) × (e.p.0 ≡ q)
event_of_phaser q None is = absurd (false≢true is)
event_of_phaser q (Some e) is = (e, refl, eqb-true e.p.0 q is)

not_first : (b : Place) → 0 < b.done → b ≢ first_place
not_first b begun same = (let none : b.done ≡ 0 = ap (λ (v : Place). v.done) same in omega arith)

-- what the seat knew before the collect, after it, and after the loads of the column
module _ (list supposed : List Status) (aim : Aim) (event : Event) (before mid store : Known) (t : ℕ) (seat : IsSeat before) (own : before.view.own ≡ Some t)
    (next : next_action before.view ≡ Some (Blocks aim)) (event_is : awaited (Some (Blocks aim)) (own_phase before.view) ≡ Some event) (goes : LoadsAlone before mid)
    (collected : IsCollected list before mid) (finds : HasFinds list mid) (sup : IsSupposed before.view.plan list event supposed mid store) where
  abbrev plan : Plan
  plan = before.view.plan

  abbrev p : ℕ
  p = event.p.0

  abbrev tasks : ℕ
  tasks = length plan.parents

  checked : IsCheckedPlan plan
  checked = seat.checked

  small : t < tasks
  small = (seat.own t own).0

  task : task_of before.view ≡ t
  task = ap (λ o. unwrap_or o 0) own

  own_mid : mid.view.own ≡ Some t
  own_mid = goes.same.own ∙ own

  task_mid : t ≡ task_of mid.view
  task_mid = sym (ap (λ o. unwrap_or o 0) own_mid)

  down : LoadsAlone mid store
  down = (column_goes sup.found.published p plan sup.column tasks mid store goes.same.plan (omega arith) goes.kept sup.loads).goes

  finds_stay : (u : ℕ) → (seen store.view).found u ≡ (seen mid.view).found u
  finds_stay = (column_goes sup.found.published p plan sup.column tasks mid store goes.same.plan (omega arith) goes.kept sup.loads).finds

  abbrev asked : ℕ → Bool
  asked = is_awaited plan sup.found

  abbrev asked_too : ℕ → Bool
  asked_too = updated asked p true

  -- the phases on the event's phaser that count
  abbrev used : ℕ → Option ℕ
  used = phase_used (asked p) sup.found p sup.column

  abbrev found_too : State
  found_too = state_supposed sup.found (task_of mid.view) event (own_phase mid.view) used

  are : AreStatuses plan sup.found asked list
  are = subst (AreStatuses plan sup.found asked) (sym sup.statuses) (statuses_are plan sup.found asked checked)

  are_too : AreStatuses plan found_too asked_too supposed
  are_too = subst (AreStatuses plan found_too asked_too) (sym sup.supposed_are) (statuses_are plan found_too asked_too checked)

  pub supposed_in_order : AreStatuses plan found_too asked_too supposed
  supposed_in_order = are_too

  apart_mid : (u : ℕ) → u ≢ t → u ≢ task_of mid.view
  apart_mid u n e = n (e ∙ sym task_mid)

  -- the own phases are on phasers of the plan
  own_within : (q n : ℕ) → own_phase before.view q ≡ Some n → q < length plan.makers
  own_within q n is =
      phaser_of_member plan checked (task_of before.view) (own_place before.view).done q n
      (sym (phase_here before.view q (next_there before.view (Blocks aim) next).0) ∙ is)

  event_inside : p < length plan.makers
  event_inside =
      let is = awaited_is aim (own_phase before.view) event event_is in
      subst (λ q. q < length plan.makers) (sym is.0) (own_within aim.phaser is.1.0 is.1.1)

  -- who is listed
  pub own_listed : IsListedOn supposed t event
  own_listed = (are_too.events t event).1 (small, updated_same sup.found.published (task_of mid.view) t (Some event) task_mid)

  pub own_only : (e : Event) → IsListedOn supposed t e → e ≡ event
  own_only e is = some_same event e (sym (updated_same sup.found.published (task_of mid.view) t (Some event) task_mid) ∙ ((are_too.events t e).0 is).1)
    where
      some_same : (x y : Event) → Some x ≡ Some y → y ≡ x
      some_same x y h = cc

  pub on_other : (u : ℕ) (e : Event) → u ≢ t → IsListedOn supposed u e → IsListedOn list u e
  on_other u e n is =
      let at = (are_too.events u e).0 is in
      (are.events u e).1 (at.0, sym (updated_other sup.found.published (task_of mid.view) u (Some event) (apart_mid u n)) ∙ at.1)

  pub other_on : (u : ℕ) (e : Event) → u ≢ t → IsListedOn list u e → IsListedOn supposed u e
  other_on u e n is =
      let at = (are.events u e).0 is in
      (are_too.events u e).1 (at.0, updated_other sup.found.published (task_of mid.view) u (Some event) (apart_mid u n) ∙ at.1)

  -- which phases of whom
  phases_own : (q : ℕ) → found_too.phases t q ≡ own_phase before.view q
  phases_own q =
      ap (λ m. m q) (updated_same (λ w. updated (sup.found.phases w) p (used w)) (task_of mid.view) t (own_phase mid.view) task_mid)
      ∙ ap (λ m. m q) (own_phase_stays before mid t seat own goes)

  phases_other : (u q : ℕ) → u ≢ t → found_too.phases u q ≡ updated (sup.found.phases u) p (used u) q
  phases_other u q n = ap (λ m. m q) (updated_other (λ w. updated (sup.found.phases w) p (used w)) (task_of mid.view) u (own_phase mid.view) (apart_mid u n))

  -- of a task found waiting: the phase found where p was found awaited, and else the one loaded later
  used_waiting : (u : ℕ) (e : Event) → sup.found.published u ≡ Some e → used u ≡ (if asked p then sup.found.phases u p else sup.column u)
  used_waiting u e on = ap (λ o. if is_some o then (if asked p then sup.found.phases u p else sup.column u) else None) on

  used_found : (u : ℕ) (e : Event) → sup.found.published u ≡ Some e → asked p ≡ true → used u ≡ sup.found.phases u p
  used_found u e on is = used_waiting u e on ∙ ap (λ b. if b then sup.found.phases u p else sup.column u) is

  used_loaded : (u : ℕ) (e : Event) → sup.found.published u ≡ Some e → asked p ≡ false → used u ≡ sup.column u
  used_loaded u e on is = used_waiting u e on ∙ ap (λ b. if b then sup.found.phases u p else sup.column u) is

  published_too : (u : ℕ) → u ≢ t → found_too.published u ≡ sup.found.published u
  published_too u apart = updated_other sup.found.published (task_of mid.view) u (Some event) (apart_mid u apart)

  -- on a phaser found awaited another task has the phases that were found
  same_phase : (u q : ℕ) (e : Event) → u ≢ t → sup.found.published u ≡ Some e → asked q ≡ true → found_too.phases u q ≡ sup.found.phases u q
  same_phase u q e apart on is = phases_other u q apart ∙ elim (cases_eq q p) [
    | inl same ↦
        updated_same (sup.found.phases u) p q (used u) same ∙ used_found u e on (ap asked (sym same) ∙ is) ∙ ap (sup.found.phases u) (sym same)
    | inr other ↦ updated_other (sup.found.phases u) p q (used u) other
  ]

  asked_more : (q : ℕ) → asked q ≡ true → asked_too q ≡ true
  asked_more q is = elim (cases_eq q p) [
    | inl same ↦ updated_same asked p q true same
    | inr other ↦ updated_other asked p q true other ∙ is
  ]

  -- so it is listed with them in both lists
  pub listed_before : (u q n : ℕ) → u ≢ t → asked q ≡ true → IsListedAt supposed u q n → IsListedAt list u q n
  listed_before u q n apart is at =
      let h = (are_too.phases u q n).0 at in
      let on : sup.found.published u ≡ Some h.event = sym (published_too u apart) ∙ h.published in
      (are.phases u q n).1 (record {
        task = h.task;
        event = h.event;
        published = on;
        phaser = h.phaser;
        asked_for = is;
        phase = sym (same_phase u q h.event apart on is) ∙ h.phase;
      })

  pub listed_too : (u q n : ℕ) → u ≢ t → IsListedAt list u q n → IsListedAt supposed u q n
  listed_too u q n apart at =
      let h = (are.phases u q n).0 at in
      (are_too.phases u q n).1 (record {
        task = h.task;
        event = h.event;
        published = published_too u apart ∙ h.published;
        phaser = h.phaser;
        asked_for = asked_more q h.asked_for;
        phase = same_phase u q h.event apart h.published h.asked_for ∙ h.phase;
      })

  -- the phaser on which another task waits was found awaited
  pub asked_before : (v : ℕ) (e : Event) → v ≢ t → IsListedOn supposed v e → asked e.p.0 ≡ true
  asked_before v e apart is =
      let w = (are.events v e).0 (on_other v e apart is) in
      some_before_from (λ x. is_event_of e.p.0 (sup.found.published x)) tasks v w.0 (ap (is_event_of e.p.0) w.1 ∙ eq-eqb e.p.0 e.p.0 refl)

  on_waits : (u : ℕ) (e : Event) → u ≢ t → IsListedOn supposed u e → (u < tasks) × (sup.found.published u ≡ Some e)
  on_waits u e n is = (are.events u e).0 (on_other u e n is)

  -- the place seen of a task after the load of the column
  Waits : ℕ → Type 0
  Waits u = (u < tasks) × (is_some (sup.found.published u) ≡ true)

  waits_or_not : (u : ℕ) → Waits u ⊎ (Waits u → ⊥)
  unfolding Waits
  waits_or_not u = elim (cases_lt u tasks) [
    | inr l ↦ inr (λ w. absurd (let a = w.0 in omega arith))
    | inl l ↦ elim (cases_Bool (is_some (sup.found.published u))) [
      | inl w ↦ inl (l, w)
      | inr idle ↦ inr (λ w. false≢true (sym idle ∙ w.1))
    ]
  ]

  column : (u : ℕ) → Waits u → PhaseLoad u p (sup.column u) mid store
  unfolding Waits
  column u w = column_of sup.found.published p plan sup.column tasks mid store goes.same.plan (omega arith) goes.kept sup.loads u w.0 w.1

  place_by : (u : ℕ) → (Waits u ⊎ (Waits u → ⊥)) → Place
  place_by u (inl w) = (seen (column u w).to.view).places u
  place_by u (inr none) = first_place

  place_down : ℕ → Place
  place_down u = place_by u (waits_or_not u)

  down_at : (u : ℕ) → Waits u → (y : PhaseLoad u p (sup.column u) mid store) × place_down u ≡ (seen y.to.view).places u
  unfolding place_down place_by
  down_at u w = by_cases (waits_or_not u)
    where
      by_cases : (d : Waits u ⊎ (Waits u → ⊥)) → (y : PhaseLoad u p (sup.column u) mid store) × place_by u d ≡ (seen y.to.view).places u
      by_cases (inl v) = (column u v, refl)
      by_cases (inr none) = absurd (none w)

  abbrev at : ℕ → Place
  at = collected.at

  waiting_at : (u : ℕ) (e : Event) → IsListedOn list u e → published_after plan u (at u).done ≡ Some e
  waiting_at u e is = collected.places.waiting u e tt is

  at_mid : (u : ℕ) (e : Event) → IsListedOn list u e → IsPrefix (at u) ((seen mid.view).places u)
  at_mid u e is = collected.places.before u e tt is

  -- the place of the load in the column lies between
  between : (u : ℕ) (e : Event) → IsListedOn list u e → (y : PhaseLoad u p (sup.column u) mid store) →
      IsPrefix (at u) ((seen y.from.view).places u) × IsPrefix (at u) ((seen y.to.view).places u)
  between u e is y =
      let load = phase_load y.from y.to u p (sup.column u) y.small y.load in
      let first : IsPrefix (at u) ((seen y.from.view).places u) =
      prefix_both (at u) ((seen mid.view).places u) ((seen y.from.view).places u) (at_mid u e is) (y.goes_from.seen_now.later u) in
      (first, prefix_both (at u) ((seen y.from.view).places u) ((seen y.to.view).places u) first (load.goes.seen_now.later u))

  begun : (u : ℕ) (e : Event) (b : Place) → IsListedOn list u e → IsPrefix (at u) b → 0 < b.done
  begun u e b is later =
      let first = published_begun plan checked u (at u).done e (waiting_at u e is) in
      let more = later_done (at u).done b.done (at u).dropped b.dropped later in
      omega arith

  plan_at : (u : ℕ) (y : PhaseLoad u p (sup.column u) mid store) → y.from.view.plan ≡ plan
  plan_at u y = y.goes_from.same.plan ∙ goes.same.plan

  -- a phase that the column has is the task's at the place seen then
  column_found : (u n : ℕ) (e : Event) → IsListedOn list u e → (y : PhaseLoad u p (sup.column u) mid store) → sup.column u ≡ Some n →
      phases_at_place plan u ((seen y.to.view).places u) p ≡ Some n
  column_found u n e is y has =
      let b = (seen y.to.view).places u in
      subst (λ (q : Plan). phases_at_place q u b p ≡ sup.column u) (plan_at u y) (y.load.load.there n has (not_first b (begun u e b is (between u e is y).1))) ∙ has

  -- where the task still stands where it was found waiting, what the column has is so there
  column_exact : (u : ℕ) (e : Event) → IsListedOn list u e → (y : PhaseLoad u p (sup.column u) mid store) → (seen y.to.view).places u ≡ at u →
      phases_at_place plan u (at u) p ≡ sup.column u
  column_exact u e is y here =
      let b = (seen y.to.view).places u in
      let q = y.from.view.plan in
      let a = (seen y.from.view).places u in
      let longest = (y.load.load.seen_now.place (not_first a (begun u e a is (between u e is y).0))).here in
      let on : published_after q u b.done ≡ Some e =
      ap (λ (v : Place). published_after q u v.done) here
      ∙ subst (λ (r : Plan). published_after r u (at u).done ≡ Some e) (sym (plan_at u y)) (waiting_at u e is) in
      let means = found_there q (subst IsCheckedPlan (sym (plan_at u y)) checked) (avoids y.from.view.mode) u p (sup.column u) a b e longest on in
      ap (λ v. phases_at_place plan u v p) (sym here) ∙ subst (λ (r : Plan). phases_at_place r u b p ≡ sup.column u) (plan_at u y) means

  -- a state that has the lock with the seat
  module _ (a : ℕ → Place) (lock : Option ℕ) (avoiding : avoids before.view.mode ≡ true) (lawful : IsLawful true plan a lock) (has : HasLockWith plan t a lock (seen store.view))
      (far : IsAsFarOn plan (Some t) a (seen store.view)) where
    abbrev s : State
    s = state_at plan a

    exact_store : (seen store.view).exact t ≡ true
    exact_store = down.seen_now.exact t ∙ goes.seen_now.exact t ∙ (seat.own t own).1

    here : a t ≡ own_place before.view
    here =
        far.equal t small exact_store
        ∙ down.seen_now.here t (goes.seen_now.exact t ∙ (seat.own t own).1)
        ∙ goes.seen_now.here t (seat.own t own).1
        ∙ ap (place_in before.view.sight.places) (sym task)

    dropped : (a t).dropped ≡ None
    dropped = ap (λ (v : Place). v.dropped) here ∙ (next_there before.view (Blocks aim) next).0

    code : action_at plan t (a t).done ≡ Some (Blocks aim)
    code =
        ap (λ (v : Place). action_at plan t v.done) here
        ∙ ap (λ u. action_at plan u (own_place before.view).done) (sym task)
        ∙ (next_there before.view (Blocks aim) next).1

    forked : forked_at plan (done_by a) t ≡ true
    forked = lock_forked plan Avoid a lock checked lawful t has.holds

    phases_now : (q : ℕ) → s.phases t q ≡ own_phase before.view q
    phases_now q =
        ap (λ m. kept (a t).dropped m q) (phases_forked plan checked (done_by a) t forked)
        ∙ ap (λ (v : Place). phases_at_place plan t v q) here
        ∙ ap (λ u. phases_at_place plan u (own_place before.view) q) (sym task)

    pub stands : StandsBefore plan s a t aim event
    stands = record {
      active = record {
        forked = forked;
        unpublished = nothing_published plan t (a t).done (Blocks aim) code (λ q e. cc);
        unrefused = ap (refused_at plan t (a t).done) dropped;
      };
      next = code;
      awaits = ap (λ o. event_on aim.phaser (option_map (target aim.off) o)) (phases_now aim.phaser) ∙ event_is;
    }

    -- an awaited phaser of which a task is a member is one of the plan, and asked for
    asked_for : (v : ℕ) (e : Event) → IsListedOn supposed v e → asked_too e.p.0 ≡ true
    asked_for v e is = elim (cases_eq e.p.0 p) [
      | inl same ↦ updated_same asked p e.p.0 true same
      | inr other ↦
          updated_other asked p e.p.0 true other
          ∙ asked_before v e (λ own_too. other (ap (λ (x : Event). x.p.0) (own_only e (subst (λ w. IsListedOn supposed w e) own_too is)))) is
    ]

    own_status : HasOwnStatus s t event supposed
    own_status = record {
      listed = own_listed;
      only = own_only;
      phases = λ q n is. phases_now q ∙ sym (phases_own q) ∙ ((are_too.phases t q n).0 is).phase;
      all = λ v n e is phase_is.
          let at_own : own_phase before.view e.p.0 ≡ Some n = sym (phases_now e.p.0) ∙ phase_is in
          (are_too.phases t e.p.0 n).1 (record {
            task = small;
            event = event;
            published = updated_same sup.found.published (task_of mid.view) t (Some event) task_mid;
            phaser = own_within e.p.0 n at_own;
            asked_for = asked_for v e is;
            phase = phases_own e.p.0 ∙ at_own;
          });
    }

    found' : ℕ → ℕ → Place
    found' u = if asked p then collected.found u else updated (collected.found u) p (place_down u)

    found_where_asked : (u q : ℕ) → asked q ≡ true → found' u q ≡ collected.found u q
    unfolding found'
    found_where_asked u q is = elim (cases_Bool (asked p)) [
      | inl on ↦ ap (λ b. (if b then collected.found u else updated (collected.found u) p (place_down u)) q) on
      | inr off ↦
          ap (λ b. (if b then collected.found u else updated (collected.found u) p (place_down u)) q) off
          ∙ updated_other (collected.found u) p q (place_down u) (λ same. false≢true (sym off ∙ ap asked (sym same) ∙ is))
    ]

    found_where_loaded : (u : ℕ) → asked p ≡ false → found' u p ≡ place_down u
    unfolding found'
    found_where_loaded u off =
        ap (λ b. (if b then collected.found u else updated (collected.found u) p (place_down u)) p) off ∙ updated_same (collected.found u) p p (place_down u) refl

    later_mid : (u : ℕ) → u < tasks → IsPrefix ((seen mid.view).places u) (a u)
    later_mid u l = prefix_both ((seen mid.view).places u) ((seen store.view).places u) (a u) (down.seen_now.later u) (far.later u l)

    -- a phase of another task that was loaded later
    record IsLoaded (u n : ℕ) : Type 0 where
      pub off : asked p ≡ false
      pub waits : Waits u
      pub loaded : sup.column u ≡ Some n
      pub its_event : Event
      pub on : IsListedOn list u its_event

    -- each phase listed of another task was found by the collect, or was loaded later
    listed_by : (u q n : ℕ) → u ≢ t → IsListedAt supposed u q n → (IsListedAt list u q n × asked q ≡ true) ⊎ ((q ≡ p) × IsLoaded u n)
    unfolding Waits
    listed_by u q n apart is = elim (cases_Bool (asked q)) [
      | inl on ↦ inl (listed_before u q n apart on is, on)
      | inr off ↦
          let h = (are_too.phases u q n).0 is in
          let on : sup.found.published u ≡ Some h.event = sym (published_too u apart) ∙ h.published in
          elim (cases_eq q p) [
            | inl same ↦
                let off_p : asked p ≡ false = ap asked (sym same) ∙ off in
                inr (
                  same,
                  record {
                    off = off_p;
                    waits = (h.task, ap is_some on);
                    loaded = sym (used_loaded u h.event on off_p) ∙ sym (updated_same (sup.found.phases u) p q (used u) same) ∙ sym (phases_other u q apart) ∙ h.phase;
                    its_event = h.event;
                    on = (are.events u h.event).1 (h.task, on);
                  },
                )
            | inr other ↦ absurd (false≢true (sym off ∙ sym (updated_other asked p q true other) ∙ h.asked_for))
          ]
    ]

    all_found : HasFound plan (λ u. u ≢ t) supposed at found' a
    all_found = record {
      waiting = λ u e n is. waiting_at u e (on_other u e n is);
      before = λ u e n is.
          let l = on_other u e n is in
          prefix_both (at u) ((seen mid.view).places u) (a u) (at_mid u e l) (later_mid u (on_waits u e n is).0);
      phases = λ u q m n is. elim (listed_by u q m n is) [
        | inl (l, on) ↦
            let old = collected.places.phases u q m tt l in
            let place = found_where_asked u q on in
            (subst (IsPrefix (at u)) (sym place) old.0, ap (λ v. phases_at_place plan u v q) place ∙ old.1)
        | inr (same, w) ↦
            let y = down_at u w.waits in
            let place : found' u q ≡ (seen y.0.to.view).places u = ap (found' u) same ∙ found_where_loaded u w.off ∙ y.1 in (
              subst (IsPrefix (at u)) (sym place) (between u w.its_event w.on y.0).1,
              ap (λ v. phases_at_place plan u v q) place ∙ ap (phases_at_place plan u ((seen y.0.to.view).places u)) same ∙ column_found u m w.its_event w.on y.0 w.loaded,
            )
      ];
      phases_before = λ u q m n is. elim (listed_by u q m n is) [
        | inl (l, on) ↦
            let small_u : u < tasks = ((are.phases u q m).0 l).task in
            subst (λ v. IsPrefix v (a u)) (sym (found_where_asked u q on))
            (prefix_both (collected.found u q) ((seen mid.view).places u) (a u) (collected.places.phases_before u q m tt l) (later_mid u small_u))
        | inr (same, w) ↦
            let y = down_at u w.waits in
            let place : found' u q ≡ (seen y.0.to.view).places u = ap (found' u) same ∙ found_where_loaded u w.off ∙ y.1 in
            let small_u : u < tasks = ((are.events u w.its_event).0 w.on).0 in
            subst (λ v. IsPrefix v (a u)) (sym place)
            (prefix_both ((seen y.0.to.view).places u) ((seen store.view).places u) (a u) (y.0.goes_to.seen_now.later u) (far.later u small_u))
      ];
    }

    far_mid : IsAsFarOn plan before.view.own a (seen mid.view)
    far_mid =
        let at_store : IsAsFarOn store.view.plan store.view.own a (seen store.view) =
        subst (λ (q : Plan). IsAsFarOn q store.view.own a (seen store.view)) (sym (down.same.plan ∙ goes.same.plan))
        (subst (λ o. IsAsFarOn plan o a (seen store.view)) (sym (down.same.own ∙ own_mid)) far) in
        subst (λ (q : Plan). IsAsFarOn q before.view.own a (seen mid.view)) goes.same.plan
        (subst (λ o. IsAsFarOn mid.view.plan o a (seen mid.view)) goes.same.own (far_before mid store a goes.kept down at_store))

    -- where another task still stands where it was found waiting, the column has its phase
    column_now : (u : ℕ) (e : Event) → u ≢ t → IsListedOn list u e → a u ≡ at u → s.phases u p ≡ sup.column u
    unfolding Waits
    column_now u e n is still =
        let w = (are.events u e).0 is in
        let y = column u (w.0, ap is_some w.1) in
        let b = (seen y.to.view).places u in
        let last : IsPrefix b (at u) = subst (IsPrefix b) still (prefix_both b ((seen store.view).places u) (a u) (y.goes_to.seen_now.later u) (far.later u w.0)) in
        let here : b ≡ at u = prefixes_both b (at u) last (between u e is y).1 in
        let begun_now : 0 < (a u).done = subst (λ (v : Place). 0 < v.done) (sym still) (published_begun plan checked u (at u).done e (waiting_at u e is)) in
        ap (λ m. m p) (phases_begun_at plan checked true a lock lawful u begun_now)
        ∙ ap (λ v. phases_at_place plan u v p) still
        ∙ column_exact u e is y here

    -- where another task still stands where it was found waiting, its phase on a phaser found awaited is listed
    phase_now : (u q n : ℕ) (f : Event) → u ≢ t → IsListedOn list u f → a u ≡ at u → asked q ≡ true → s.phases u q ≡ Some n → IsListedAt supposed u q n
    phase_now u q n f apart l still on has_phase =
        let (v, small_v, waits) = some_before_is (λ x. is_event_of q (sup.found.published x)) tasks on in
        let (e, on_e, same) = event_of_phaser q (sup.found.published v) waits in
        let (x, inside, of, event_is) = (are.events v e).1 (small_v, on_e) in
        let awaited_too : IsAwaited list e = (x, inside, event_is) in
        let exact = collected.exact a lock (subst (λ b. IsLawful b plan a lock) (sym avoiding) lawful) far_mid u f l still in
        listed_too u q n apart (subst (λ r. IsListedAt list u r n) same ((exact e n awaited_too).0 (ap (s.phases u) same ∙ has_phase)))

    others : HasOtherStatuses plan s a t supposed
    others = record {
      at = at;
      found = found';
      found_there = all_found;
      all = λ u v n e f apart is still on has_phase.
          let l = on_other u f apart is in
          elim (cases_Bool (asked e.p.0)) [
            | inl found_on ↦ phase_now u e.p.0 n f apart l still found_on has_phase
            | inr off ↦ elim (cases_eq e.p.0 p) [
              | inl same ↦
                  let w = (are.events u f).0 l in
                  let column_is : sup.column u ≡ Some n = sym (column_now u f apart l still) ∙ ap (s.phases u) (sym same) ∙ has_phase in
                  subst (λ r. IsListedAt supposed u r n) (sym same)
                  ((are_too.phases u p n).1 (record {
                    task = w.0;
                    event = f;
                    published = published_too u apart ∙ w.1;
                    phaser = event_inside;
                    asked_for = updated_same asked p p true refl;
                    phase = phases_other u p apart ∙ updated_same (sup.found.phases u) p p (used u) refl
                        ∙ used_loaded u f w.1 (ap asked (sym same) ∙ off) ∙ column_is;
                  }))
              | inr other ↦ absurd (false≢true (sym off ∙ sym (updated_other asked p e.p.0 true other) ∙ asked_for v e on))
            ]
          ];
    }

    found_of : (u : ℕ) → u < tasks → (f : Found) × ((seen store.view).found u ≡ Some f) × ((e : Event) → f ≡ FoundWaiting e → IsListedOn list u e)
    found_of u l =
        let f = finds u (subst (λ (q : Plan). u < length q.parents) (sym goes.same.plan) l) in
        (f.0, finds_stay u ∙ f.1, λ e. (f.2 e).0)

    has_all : HasAllFound plan t (seen store.view) supposed
    has_all = record {
      all = λ u l n. let f = found_of u l in subst IsSome (sym f.1) refl;
      listed = λ u e l n is.
          let f = found_of u l in
          let same : f.0 ≡ FoundWaiting e = some_same f.0 (FoundWaiting e) (sym f.1 ∙ is) in
          other_on u e n (f.2 e same);
    }
      where
        some_same : (x y : Found) → Some x ≡ Some y → x ≡ y
        some_same x y h = cc

    -- each cycle of the statuses has the own task in it
    pub stands_in_cycle : (tasks_of_cycle : List TaskId) (events : List Event) → IsCycle supposed tasks_of_cycle events → Contains tasks_of_cycle (record { 0 = t })
    stands_in_cycle ts events cycle = elim (among_or_not ts (record { 0 = t })) [
      | inl m ↦ m
      | inr absent ↦
          let first = get_or ts 0 (record { 0 = t }) in
          absurd (no_deadlocked_list plan checked a lock lawful (λ u. u ≢ t) supposed at found' all_found ts first
          (λ v m same. absent (subst (λ w. Contains ts w) (ap (λ k. record { 0 = k }) same) m))
          (0, cycle.some, get_or_default ts 0 first (record { 0 = t }) cycle.some)
          (cycle_deadlocked supposed supposed ts events event cycle (λ x v inside same among. inside)))
    ]

    pub decides : Decides s t event supposed
    decides = list_in_hand_decides plan t aim event (seen store.view) supposed a lock checked has_all lawful has stands own_status others

    -- whoever would be published is listed
    would_be_listed : (u : ℕ) (e : Event) → (if_published s t event).published u ≡ Some e → IsListedOn supposed u e
    would_be_listed u e is = elim (cases_eq u t) [
      | inl same ↦
          let own_event : event ≡ e = some_event event e (sym (updated_same s.published t u (Some event) same) ∙ is) in
          subst (λ v. IsListedOn supposed v e) (sym same) (subst (IsListedOn supposed t) own_event own_listed)
      | inr other ↦
          (found_are_published plan t a lock (seen store.view) supposed checked lawful has stands.active.unpublished has_all).1 u e
          (sym (updated_other s.published t u (Some event) other) ∙ is)
    ]
      where
        some_event : (x y : Event) → Some x ≡ Some y → x ≡ y
        some_event x y h = cc

    -- a task that by the statuses impedes no awaited event would impede none
    pub would_impede_nobody : (ImpedesSome supposed t → ⊥) → ImpedesNobody (if_published s t event) t
    would_impede_nobody none u m e on phase_is =
        let listed = would_be_listed u e on in
        let (own, own_in, own_is, (k, few, member)) = own_status.all u m e listed phase_is in
        let (other, (j, within, here), task_of_other, event_of_other) = listed in
        elim (cases_lt m e.n) [
          | inl low ↦
              let same : e.p ≡ other.event.p = ap (λ (x : Event). x.p) (sym event_of_other) in
              let below : m < other.event.n = (let n = ap (λ (x : Event). x.n) event_of_other in omega arith) in
              let impedes : Impedes own other.event = (k, record { p = record { 0 = e.p.0 }; n = m }, few, member, (same, below)) in
              absurd (none (own_in.0, own, own_in.1, own_in.2, (own_is, (j, other, within, here, impedes))))
          | inr high ↦ high
        ]
