-- The lock is taken, found taken, and freed.
use Rattle.std.proofs.Common.{◌≡◌, ◌≢◌, ℕ, zero, suc, ◌+◌, ◌<◌, Bool, true, false, List, Option, Some, None, length, get_or, set, sym, refl, ap, ◌∙◌, subst, arith, inl, inr, ◌⊎◌, eqb, length-set, get_or-set_same, get_or-set_other}
use Rattle.std.proofs.lemmas.Bool.{false≢true}
use prog.Atomic.{either}
use mathlib.Core.Option.{some, none}
use lib.ListN.{get_elem?}
use Rattle.atomic_table.specs.Table.{Act, Allows, Me, State as TableState, Valid, carried_after, keeps, step, stepped}
use Rattle.atomic_table.proofs.Lists.{at_set, exchanged}
use Rattle.armus_base.specs.declared.event.Event.{Event}
use Rattle.armus_base.specs.Plans.{Aim, Blocks, Plan}
use Rattle.armus_base.specs.States.{IsActive, State}
use Rattle.armus_base.specs.calls.Runs.{IsAtAwait}
use Rattle.armus_base.specs.Runs.{Place}
use Rattle.armus_base.specs.Places.{published_after, refused_at, state_at}
use Rattle.armus_base.specs.calls.Boards.{IsLawful}
use Rattle.armus_base.specs.calls.Seats.{IsAsFarOn, IsLongestPrefix, IsPlaceOf, IsScanned, MayHold, has_blocked, has_refused, stands_before}
use Rattle.armus_base.proofs.Published.{published_after_is}
use Rattle.armus_base.proofs.Tasks.{action_of_task}
use Rattle.armus_base.proofs.HolderMayHold.{holder_may_hold}
use Rattle.armus_base.proofs.LawfulPlaces.{lawful_places_are_of}
use Rattle.armus_base.proofs.BoardRuns.{freeing_is_lawful, lawful_is_reachable, taking_is_lawful}
use Rattle.armus_base.proofs.Reachable.{reachable_is_fixed}
use Rattle.board.specs.declared.mode.Mode.{Mode}
use Rattle.board.specs.declared.view.View.{View}
use Rattle.board.specs.calls.Words.{IsShown, await_index, holder_number, phase_index}
use Rattle.board.specs.calls.Views.{avoids, next_action, seen, task_of}
use Rattle.board.specs.calls.Rule.{SeatFits, IsKeptBy, Stepper, by_seat}
use Rattle.board.specs.calls.Locking.{Freed, IsWithLock, MeetsHolder, Tried, with_lock}
use Rattle.board.proofs.Seating.{one_goes_on, seated_stays}
use Rattle.board.proofs.Fitting.{seats_same, unheld}
use Rattle.board.proofs.Acting.{comes_next, not_held, nothing_published, sits}
use Rattle.board.proofs.Longest.{await_or_not, longest_exists, undropped}
use Rattle.board.proofs.Loading.{after_load, load_fits, loaded_here, loaded_there, longest_is, looks_kept}

abbrev T : Type 0
T = TableState (Unit {0}) View

some_same : (u w : ℕ) → Some u ≡ Some w → u ≡ w
some_same u w e = cc

no_number : (o : Option ℕ) → holder_number o ≡ 0 → o ≡ None
no_number None e = refl
no_number (Some t) e = absurd (omega arith)

a_number : (o : Option ℕ) (n : ℕ) → n ≡ holder_number o → n ≢ 0 → (h : ℕ) × (n ≡ h + 1) × (o ≡ Some h)
a_number None n is some_number = absurd (some_number is)
a_number (Some h) n is some_number = (h, is, refl)

-- the lock word changes
shows_lock : (plan : Plan) (s : State) (lock lock' : Option ℕ) (words : List ℕ) → IsShown plan s lock words → IsShown plan s lock' (set words 0 (holder_number lock'))
shows_lock plan s lock lock' words sh =
    let n : ℕ = holder_number lock' in
    record {
      count = length-set words 0 n ∙ sh.count;
      holder = get_or-set_same words 0 n 0 (let w = sh.count in omega arith);
      awaits = λ t lt. get_or-set_other words 0 (await_index t) n 0 (λ e. omega arith) ∙ sh.awaits t lt;
      phases = λ t p lt lp. get_or-set_other words 0 (phase_index plan t p) n 0 (λ e. omega arith) ∙ sh.phases t p lt lp;
    }

-- another view fits as before where the lock is or becomes that of task t, or nobody's
other_holds :
    (plan : Plan) (mode : Mode) (a : ℕ → Place) (lock lock' : Option ℕ) (steppers : ℕ → Stepper) (t id j : ℕ) (v : View) → steppers t ≡ by_seat id → j ≢ id →
    ((u : ℕ) → u ≢ t → lock ≢ Some u) → ((u : ℕ) → u ≢ t → lock' ≢ Some u) → SeatFits plan mode a lock steppers j v → SeatFits plan mode a lock' steppers j v
other_holds plan mode a lock lock' steppers t id j v owner apart before now f =
    record {
      plan_is = f.plan_is;
      mode_is = f.mode_is;
      count = f.count;
      far = f.far;
      own = f.own;
      exact = f.exact;
      holding = λ u own.
          let other : u ≢ t = λ same. apart (seats_same j id (sym (f.own u own).alone ∙ ap steppers same ∙ owner)) in
          record {
            holds = λ has. absurd (before u other ((f.holding u own).holds has).holds);
            held = λ lock_is. absurd (now u other lock_is);
          };
      viewer = f.viewer;
    }

-- the view of the seat that takes or frees the lock
own_holds :
    (plan : Plan) (mode : Mode) (a : ℕ → Place) (lock lock' : Option ℕ) (steppers : ℕ → Stepper) (t id : ℕ) (v : View) (held : Bool) → v.own ≡ Some t →
    (held ≡ true → lock' ≡ Some t) → (lock' ≡ Some t → held ≡ true) → SeatFits plan mode a lock steppers id v → SeatFits plan mode a lock' steppers id (with_lock held v)
own_holds plan mode a lock lock' steppers t id v held own to from f =
    record {
      plan_is = f.plan_is;
      mode_is = f.mode_is;
      count = f.count;
      far = record { later = f.far.later; equal = f.far.equal; scanned = f.far.scanned };
      own = λ u is. let o = f.own u is in record { within = o.within; exact = o.exact; alone = o.alone };
      exact = f.exact;
      holding = λ u is.
          let same : t ≡ u = some_same t u (sym own ∙ is) in record {
            holds = λ has. record { holds = to has ∙ ap Some same; agrees = λ w n. tt };
            held = λ lock_is. from (lock_is ∙ ap Some (sym same));
          };
      viewer = λ none. absurd (none_some v.own t none own);
    }
  where
    none_some : (o : Option ℕ) (u : ℕ) → o ≡ None → o ≡ Some u → ⊥
    none_some o u a b = cc

-- the rule after the lock was taken or freed
lock_kept :
    (plan : Plan) (mode : Mode) (s : T) (l : IsKeptBy plan mode s) (id : ℕ) (c : List (ℕ × Unit {0})) (v : View) (t : ℕ) (lock' : Option ℕ) (held : Bool) →
    v.own ≡ Some t → v.spent ≡ false → get_elem? s.views id ≡ some v → ((u : ℕ) → u ≢ t → l.lock ≢ Some u) → ((u : ℕ) → u ≢ t → lock' ≢ Some u) →
    (held ≡ true → lock' ≡ Some t) → (lock' ≡ Some t → held ≡ true) → IsLawful (avoids mode) plan l.places lock' →
    IsKeptBy plan mode (stepped s 0 (holder_number lock') id c (with_lock held v) keeps)
lock_kept plan mode s l id c v t lock' held own live found before now to from lawful =
    let si = sits plan mode s l id v t own live found in
    record {
      places = l.places;
      lock = lock';
      steppers = l.steppers;
      checked = l.checked;
      lawful = lawful;
      shown = shows_lock plan (state_at plan l.places) l.lock lock' s.words l.shown;
      seated = seated_stays plan l.places l.places l.steppers s.views (set s.views id (with_lock held v))
          (one_goes_on s.views id v (with_lock held v) found (record { own = refl; spent = refl; exact = λ u is. is })) (λ u. refl) l.seated;
      views = λ j u e unspent. elim (at_set s.views id j (with_lock held v) u e) [
        | inl w ↦
            subst (λ (z : ℕ × View). SeatFits plan mode l.places lock' l.steppers z.0 z.1) (λ k. (sym w.0 k, w.1 k))
            (own_holds plan mode l.places l.lock lock' l.steppers t id v held own to from si.fits)
        | inr w ↦
            other_holds plan mode l.places l.lock lock' l.steppers t id j u si.alone w.0 before now (l.views j u w.1 unspent)
      ];
    }

-- whether a task may hold the lock at a place
may_hold_or_not : (plan : Plan) (t : ℕ) (b : Place) → MayHold plan t b ⊎ (MayHold plan t b → ⊥)
may_hold_or_not plan t b = by_event (published_after plan t b.done) refl
  where
    none_some : (o : Option Event) (e : Event) → o ≡ None → o ≡ Some e → ⊥
    none_some o e a b = cc

    neither : published_after plan t b.done ≡ None → (b.dropped ≡ None → IsAtAwait plan t b → ⊥) → b.dropped ≢ Some 0 → MayHold plan t b → ⊥
    neither idle away here may = elim may [
      | stands_before undropped stands ↦ away undropped stands
      | has_blocked e is ↦ none_some (published_after plan t b.done) e idle is
      | has_refused is ↦ here is
    ]

    by_dropped : published_after plan t b.done ≡ None → (o : Option ℕ) → b.dropped ≡ o → MayHold plan t b ⊎ (MayHold plan t b → ⊥)
    by_dropped idle None is = elim (await_or_not plan t b.done) [
      | inl stands ↦ inl (stands_before is stands)
      | inr away ↦ inr (neither idle (λ _ h. away h) (λ e. cc))
    ]
    by_dropped idle (Some zero) is = inl (has_refused is)
    by_dropped idle (Some (suc d)) is = inr (neither idle (λ e _. cc) (λ e. cc))

    by_event : (o : Option Event) → published_after plan t b.done ≡ o → MayHold plan t b ⊎ (MayHold plan t b → ⊥)
    by_event (Some e) is = inl (has_blocked e is)
    by_event None is = by_dropped is b.dropped refl

-- it may hold it there also where it was not yet refused
undrops_holder : (avoids : Bool) (plan : Plan) (t : ℕ) (b : Place) → IsPlaceOf avoids plan t b → MayHold plan t b → MayHold plan t (undropped b)
undrops_holder avoids plan t b place may = elim may [
  | stands_before undropped stands ↦ stands_before refl stands
  | has_blocked e is ↦ has_blocked e is
  | has_refused is ↦ stands_before refl (place.before_await 0 is)
]

-- the holder of the lock is a task of the plan
holder_within :
    (plan : Plan) (mode : Mode) (s : T) (l : IsKeptBy plan mode s) (h : ℕ) → MayHold plan h (l.places h) → h < length plan.parents
holder_within plan mode s l h may = elim may [
  | stands_before undropped stands ↦ action_of_task plan l.checked h (l.places h).done (Blocks stands.0) stands.1
  | has_blocked e is ↦ let by = published_after_is plan h (l.places h).done e is in action_of_task plan l.checked h by.0 (Blocks by.2) by.4
  | has_refused is ↦
      let stands = ((reachable_is_fixed plan l.places l.checked (lawful_is_reachable (avoids mode) plan l.places l.lock l.lawful)).1.refused h 0 is).1 in
      action_of_task plan l.checked h (l.places h).done (Blocks stands.0) stands.1
]

-- the compare-and-exchange of a try
module _ (plan : Plan) (mode : Mode) (slots id : ℕ) (me : Me (Unit {0}) View) (t : ℕ) (own : me.0.own ≡ Some t) (live : me.0.spent ≡ false)
    (free : me.0.holds ≡ false) (avoiding : avoids mode ≡ true) (same : me.0.plan ≡ plan) where
  abbrev v : View
  v = me.0

  -- the holder that was met
  meets :
      (s : T) (l : IsKeptBy plan mode s) → get_elem? s.views id ≡ some v → (h : ℕ) → l.lock ≡ Some h →
      (w : View) × SeatFits plan mode l.places l.lock l.steppers id w × MeetsHolder v.plan v.mode h v w
  meets s l found h held =
      let f = l.views id v found live in
      let si = sits plan mode s l id v t own live found in
      let lawful : IsLawful true plan l.places (Some h) = subst (λ o. IsLawful true plan l.places o) held (subst (λ b. IsLawful b plan l.places l.lock) avoiding l.lawful) in
      let may : MayHold plan h (l.places h) = holder_may_hold plan l.places h l.checked lawful in
      let small : h < length plan.parents = holder_within plan mode s l h may in
      let before : Place = (seen v).places h in
      let of = lawful_places_are_of (avoids mode) plan l.places l.lock h l.checked l.lawful in
      let r = longest_exists (avoids mode) plan h (MayHold plan h) (may_hold_or_not plan h) before (l.places h) (record { place = of; later = f.far.later h small; means = may }) in
      let is = longest_is plan mode s l h (MayHold plan h) before r.0 r.1 (f.far.later h small) may in
      let inside : h < length v.sight.places = (let e = f.count in omega arith) in
      let loaded = load_fits plan mode s l id v f h small r.0 v.sight.scanned v.sight.found is.0 (λ e. is.1 (sym (f.far.equal h small e)))
      (λ u owned. let o = f.own u owned in subst (λ (p : Place). IsScanned (state_at plan l.places) v.sight.scanned (published_after plan u p.done))
      (sym (f.far.equal u o.within o.exact)) (f.far.scanned u owned))
      (λ x owned has. absurd (false≢true (sym free ∙ has))) in
      let w : View = after_load h r.0 v.sight.scanned v.sight.found v in
      let here = loaded_here h r.0 v.sight.scanned v.sight.found v inside in (
        w,
        loaded,
        subst (λ (z : Plan × Mode). MeetsHolder z.0 z.1 h v w) (λ i. (sym same i, sym f.mode_is i))
            (record {
              within = small;
              other = λ e. not_held plan mode s l id v t si own free (held ∙ sym e ∙ own);
              seen_now = record {
                place = record {
                  here = subst (λ b. IsLongestPrefix b plan h (MayHold plan h) before ((seen w).places h)) avoiding
                      (subst (IsLongestPrefix (avoids mode) plan h (MayHold plan h) before) (sym here) r.1);
                  others = loaded_there h r.0 v.sight.scanned v.sight.found v inside;
                  exact = λ _. refl;
                };
                scanned = refl;
                found = λ _. refl;
              };
              was = record {
                was = record { places = l.places; lock = l.lock; lawful = l.lawful; before_far = f.far; now_far = loaded.far; holds = tt };
                held = held;
              };
              there = subst (MayHold plan h) (sym here) (r.2 (undrops_holder (avoids mode) plan h));
              same = record { plan = refl; mode = refl; own = refl; holds = refl; spent = refl; count = length-set v.sight.places h r.0 };
              loads = refl;
            }),
      )

  -- the state has the lock with the seat now
  takes_it : (s : T) (l : IsKeptBy plan mode s) (aim : Aim) → get_elem? s.views id ≡ some v → next_action v ≡ Some (Blocks aim) → l.lock ≡ None →
      IsLawful true plan l.places (Some t)
  takes_it s l aim found next nobody =
      let si = sits plan mode s l id v t own live found in
      let there = comes_next plan mode s l id v t (Blocks aim) si next in
      let active : IsActive (state_at plan l.places) t = record {
        forked = si.forked;
        unpublished = nothing_published plan t (l.places t).done (Blocks aim) there.1 (λ q e. cc);
        unrefused = ap (refused_at plan t (l.places t).done) there.0;
      } in
      taking_is_lawful plan l.places t l.checked (subst (λ o. IsLawful true plan l.places o) nobody
      (subst (λ b. IsLawful b plan l.places l.lock) avoiding l.lawful)) active (aim, there.1)

  pub tries : (aim : Aim) → next_action v ≡ Some (Blocks aim) → Allows (IsKeptBy plan mode) slots id me 0 (λ n. either (eqb n 0) (t + 1) n) (Tried (step slots 0 0 (t + 1) none) me)
  tries aim next s l _ found _ =
      let n : ℕ = get_or s.words 0 0 in
      let si = sits plan mode s l id v t own live found in
      exchanged n 0 (t + 1) (λ m. (w : View) × (a : Act (Unit {0})) × Valid s.homes me.1 a × IsKeptBy plan mode (stepped s 0 m id me.1 w a) ×
      Tried (step slots 0 0 (t + 1) none) me n (w, carried_after me.1 a))
      (λ hit.
      let nobody : l.lock ≡ None = no_number l.lock (sym l.shown.holder ∙ hit) in
      let lawful = takes_it s l aim found next nobody in (
        with_lock true v,
        keeps,
        tt,
        lock_kept plan mode s l id me.1 v t (Some t) true own live found (λ u apart e. none_some l.lock u nobody e) (λ u apart e. apart (sym (some_same t u e)))
            (λ _. refl) (λ _. refl)
            (subst (λ b. IsLawful b plan l.places (Some t)) (sym avoiding) lawful),
        (
          refl,
          (λ _. (
            refl,
            subst (λ (q : Plan). IsWithLock q (task_of v) (seen (with_lock true v))) (sym same)
                (subst (λ u. IsWithLock plan u (seen (with_lock true v))) (sym si.task)
                (record {
                  places = l.places;
                  lock = Some t;
                  lawful = lawful;
                  with_seat = record { holds = refl; agrees = λ u apart. tt };
                  far =
                      let far : IsAsFarOn plan (Some t) l.places (seen v) = subst (λ o. IsAsFarOn plan o l.places (seen v)) own si.fits.far in
                      record { later = far.later; equal = far.equal; scanned = far.scanned };
                })),
          )),
          (λ not. absurd (not hit)),
        ),
      ))
      (λ miss.
      let h = a_number l.lock n l.shown.holder miss in
      let m = meets s l found h.0 h.2 in (
        m.0,
        keeps,
        tt,
        looks_kept plan mode s l id 0 me.1 v m.0 found (record { own = m.2.same.own; spent = m.2.same.spent; exact = λ u is. m.2.seen_now.place.exact u ∙ is }) m.1,
        (refl, (λ hit. absurd (miss hit)), (λ _. (h.0, h.1, m.2))),
      ))
    where
      none_some : (o : Option ℕ) (u : ℕ) → o ≡ None → o ≡ Some u → ⊥
      none_some o u a b = cc

-- the store that frees the lock
pub frees :
    (plan : Plan) (mode : Mode) (slots id : ℕ) (me : Me (Unit {0}) View) (t : ℕ) → me.0.own ≡ Some t → me.0.spent ≡ false → me.0.holds ≡ true →
    Allows (IsKeptBy plan mode) slots id me 0 (λ _. 0) (λ _. Freed (step slots 0 0 0 none) me 0)
frees plan mode slots id me t own live has s l _ found _ =
    let v = me.0 in
    let si = sits plan mode s l id v t own live found in
    let held : l.lock ≡ Some t = ((si.fits.holding t own).holds has).holds in (
      with_lock false v,
      keeps,
      tt,
      lock_kept plan mode s l id me.1 v t None false own live found (λ u apart e. apart (some_same u t (sym e ∙ held))) (λ u apart e. none_some None u refl e)
          (λ e. absurd (false≢true e)) (λ e. absurd (none_some None t refl e))
          (by_mode (avoids mode) refl held l.lawful),
      (refl, refl),
    )
  where
    none_some : (o : Option ℕ) (u : ℕ) → o ≡ None → o ≡ Some u → ⊥
    none_some o u a b = cc

    by_mode : (b : Bool) → avoids mode ≡ b → l.lock ≡ Some t → IsLawful (avoids mode) plan l.places l.lock → IsLawful (avoids mode) plan l.places None
    by_mode false detects held lawful = absurd (none_some l.lock t (unheld mode plan l.places l.lock lawful detects) held)
    by_mode true avoiding held lawful =
        subst (λ b. IsLawful b plan l.places None) (sym avoiding)
        (freeing_is_lawful plan l.places t (subst (λ o. IsLawful true plan l.places o) held (subst (λ b. IsLawful b plan l.places l.lock) avoiding lawful)))
