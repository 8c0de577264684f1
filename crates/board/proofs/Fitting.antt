-- What a view claims stays true after an action, and is true of the view after one's own.
use Rattle.std.proofs.Common.{◌≡◌, ◌≢◌, ℕ, ◌<◌, Bool, true, false, List, [], ◌∷◌, Option, Some, None, length, sym, refl, ap, ◌∙◌, subst, arith, length-set, inl, inr}
use Rattle.std.specs.Prelude.{unwrap_or}
use Rattle.std.proofs.lemmas.Bool.{cases_eq}
use Rattle.armus_base.specs.declared.event.Event.{Event}
use Rattle.armus_base.specs.Plans.{Aim, Action, Advances, Blocks, Drops, Forks, Makes, Passes, Plan, Refuses, Registers}
use Rattle.armus_base.specs.States.{IsLegal, State, Step, after}
use Rattle.armus_base.specs.calls.States.{IsReachedBelow}
use Rattle.armus_base.specs.Runs.{IsByCode, Place, moved, next_place}
use Rattle.armus_base.specs.calls.Runs.{IsPrefix}
use Rattle.armus_base.specs.Places.{published_after, state_at}
use Rattle.armus_base.specs.CheckedPlans.{IsCheckedPlan}
use Rattle.armus_base.specs.Avoidance.{Avoids}
use Rattle.armus_base.specs.calls.Boards.{Does, Entry, Frees, HasNoLock, IsLawful, MayDo, Takes, holder, steps_of}
use Rattle.armus_base.specs.calls.Seats.{HasLockWith, IsScanned, SeenBy, StillAgrees}
use Rattle.armus_base.proofs.Steps.{updated_other, updated_same}
use Rattle.armus_base.proofs.Places.{next_later, precedes_itself, precedes_trans}
use Rattle.armus_base.proofs.Members.{member_made, published_member}
use Rattle.armus_base.proofs.ScannedStays.{scanned_stays}
use Rattle.armus_base.proofs.FindsStay.{finds_stay}
use Rattle.armus_base.proofs.BoardRuns.{avoided_step_is_lawful, board_legal, lawful_is_reachable, lawful_state, next_of, plain_step_is_lawful}
use Rattle.armus_base.proofs.Reachable.{reachable_steps}
use Rattle.board.specs.declared.mode.Mode.{Mode}
use Rattle.board.specs.declared.mode.Mode.TheVariants.{Avoid, Detect}
use Rattle.board.specs.declared.view.View.{View}
use Rattle.board.specs.calls.Views.{avoids, is_among, own_place, place_in, seen, task_of}
use Rattle.board.specs.calls.Rule.{SeatFits, Stepper, by_seat, no_more}
use Rattle.board.specs.calls.Steps.{after_action, scanned_next}
use Rattle.board.proofs.Sights.{set_place}

-- an action that may come next on this board
pub record IsStep (plan : Plan) (mode : Mode) (a : ℕ → Place) (lock : Option ℕ) (t : ℕ) (x : Action) : Type 0 where
  pub code : IsByCode plan t (a t).done (a t).dropped x
  pub legal : IsLegal plan (state_at plan a) t x
  pub plain : avoids mode ≡ false → (aim : Aim) → x ≢ Refuses aim
  pub avoided : avoids mode ≡ true → Avoids (state_at plan a) t x × MayDo lock t x

-- nobody holds the lock of a board that detects deadlock
no_holder : (entries : List Entry) → HasNoLock entries → holder entries ≡ None
no_holder [] h = refl
no_holder (Does e ∷ entries) h = no_holder entries h
no_holder (Takes t ∷ entries) h = absurd h
no_holder (Frees t ∷ entries) h = absurd h

pub unheld : (mode : Mode) (plan : Plan) (a : ℕ → Place) (lock : Option ℕ) → IsLawful (avoids mode) plan a lock → avoids mode ≡ false → lock ≡ None
unheld Detect plan a lock l e = sym l.held ∙ no_holder l.entries l.run.1
unheld Avoid plan a lock l e = absurd (cc)

pub step_lawful :
    (plan : Plan) (mode : Mode) (a : ℕ → Place) (lock : Option ℕ) (t : ℕ) (x : Action) → IsCheckedPlan plan → IsLawful (avoids mode) plan a lock →
    IsStep plan mode a lock t x → IsLawful (avoids mode) plan (moved a t x) lock
step_lawful plan Detect a lock t x checked l s =
    let none : lock ≡ None = unheld Detect plan a lock l refl in
    subst (IsLawful false plan (moved a t x)) (sym none)
    (plain_step_is_lawful plan a t x checked (subst (IsLawful false plan a) none l) s.code s.legal (s.plain refl))
step_lawful plan Avoid a lock t x checked l s =
    avoided_step_is_lawful plan a lock t x checked l s.code s.legal (s.avoided refl).0 (s.avoided refl).1

pub seats_same : (i j : ℕ) → by_seat i ≡ by_seat j → i ≡ j
seats_same i j e = cc

pub seat_ends : (i : ℕ) → by_seat i ≡ no_more → ⊥
seat_ends i e = cc

pub moved_same : (a : ℕ → Place) (t : ℕ) (x : Action) → moved a t x t ≡ next_place (a t).done (a t).dropped x
moved_same a t x = updated_same a t t (next_place (a t).done (a t).dropped x) refl

pub moved_other : (a : ℕ → Place) (t : ℕ) (x : Action) (u : ℕ) → u ≢ t → moved a t x u ≡ a u
moved_other a t x u n = updated_other a t u (next_place (a t).done (a t).dropped x) n

pub moved_later : (a : ℕ → Place) (t : ℕ) (x : Action) (u : ℕ) → IsPrefix (a u) (moved a t x u)
moved_later a t x u = elim (cases_eq u t) [
  | inl e ↦
      subst (λ v. IsPrefix (a v) (moved a t x v)) (sym e)
      (subst (IsPrefix (a t)) (sym (moved_same a t x)) (next_later (a t).done (a t).dropped x))
  | inr n ↦ subst (IsPrefix (a u)) (sym (moved_other a t x u n)) (precedes_itself (a u).done (a u).dropped)
]

pub prefix_trans : (a b c : Place) → IsPrefix a b → IsPrefix b c → IsPrefix a c
prefix_trans a b c x y = precedes_trans a.done b.done c.done a.dropped b.dropped c.dropped x y

-- only a block publishes, and only who is not published does anything but pass
pub unpublished_after : (plan : Plan) (s : State) (t : ℕ) (x : Action) → IsLegal plan s t x → ((aim : Aim) → x ≢ Blocks aim) → (after s t x).published t ≡ None
unpublished_after plan s t (Makes p) l n = l.0.unpublished
unpublished_after plan s t (Registers c p) l n = l.0.unpublished
unpublished_after plan s t (Forks c) l n = l.0.unpublished
unpublished_after plan s t (Advances p) l n = l.0.unpublished
unpublished_after plan s t (Drops p) l n = l.1
unpublished_after plan s t (Blocks p) l n = absurd (n p refl)
unpublished_after plan s t (Passes p) l n = updated_same s.published t t None refl
unpublished_after plan s t (Refuses p) l n = l.0.unpublished

pub none_scanned : (s : State) (o : Option Event) → IsScanned s 0 o
none_scanned s None = tt
none_scanned s (Some e) = λ u m l h. absurd (omega arith)

unscanned : (s : State) (k : ℕ) (o : Option Event) → o ≡ None → IsScanned s k o
unscanned s k o e = subst (IsScanned s k) (sym e) tt

module _ (plan : Plan) (mode : Mode) (a : ℕ → Place) (lock : Option ℕ) (t : ℕ) (x : Action) (checked : IsCheckedPlan plan)
    (lawful : IsLawful (avoids mode) plan a lock) (step : IsStep plan mode a lock t x) where
  -- the state after the step
  pub state_next : after (state_at plan a) t x ≡ state_at plan (moved a t x)
  state_next = (reachable_steps plan a t x checked (lawful_is_reachable (avoids mode) plan a lock lawful) step.code step.legal).1

  -- what is scanned stays so
  below_stays : (k : ℕ) (e : Event) → (state_at plan a).made e.p.0 ≡ true → IsReachedBelow (state_at plan a) k e → IsReachedBelow (state_at plan (moved a t x)) k e
  below_stays k e made reached =
      let h = steps_of lawful.entries in
      let d : Step = record { task = t; action = x } in
      let same = lawful_state (avoids mode) plan a lock checked lawful in
      let run = board_legal (avoids mode) plan lawful.entries lawful.run in
      let next = next_of (avoids mode) plan a lock checked lawful t x step.code step.legal in
      subst (λ s. IsReachedBelow s k e) (ap (λ s. after s t x) same ∙ state_next)
      (scanned_stays plan h d k e checked (run, next) (ap (λ s. s.made e.p.0) same ∙ made) (subst (λ s. IsReachedBelow s k e) (sym same) reached))

  -- the phaser on which a task is published has been made
  published_made : (u : ℕ) (e : Event) → (state_at plan a).published u ≡ Some e → (state_at plan a).made e.p.0 ≡ true
  published_made u e is =
      let h = steps_of lawful.entries in
      let same = lawful_state (avoids mode) plan a lock checked lawful in
      let run = board_legal (avoids mode) plan lawful.entries lawful.run in
      let member = published_member plan h run u e (ap (λ s. s.published u) same ∙ is) in
      sym (ap (λ s. s.made e.p.0) same) ∙ member_made plan h run u e.p.0 member.0 member.1

  scanned_stays_so : (k u : ℕ) (o : Option Event) → published_after plan u (a u).done ≡ o → IsScanned (state_at plan a) k o → IsScanned (state_at plan (moved a t x)) k o
  scanned_stays_so k u None is old = tt
  scanned_stays_so k u (Some e) is old = below_stays k e (published_made u e is) old

  -- what a holder of the lock found still agrees
  lock_stays : (w : ℕ) (before now : SeenBy) → now.found ≡ before.found → HasLockWith plan w a lock before → HasLockWith plan w (moved a t x) lock now
  lock_stays w before now same had = by_mode (avoids mode) refl
    where
      by_mode : (b : Bool) → avoids mode ≡ b → HasLockWith plan w (moved a t x) lock now
      by_mode false detects = absurd (let none = unheld mode plan a lock lawful detects in let some = had.holds in cc)
      by_mode true avoiding =
          record {
            holds = had.holds;
            agrees = λ u n.
                subst (λ s. StillAgrees s u (now.found u)) state_next
                (finds_stay plan (state_at plan a) w t u x (now.found u) (subst (λ o. MayDo o t x) had.holds (step.avoided avoiding).1) step.legal n
                (subst (StillAgrees (state_at plan a) u) (sym (ap (λ f. f u) same)) (had.agrees u n)));
          }

  -- another view
  pub other_fits : (steppers : ℕ → Stepper) (id j : ℕ) (v : View) → steppers t ≡ by_seat id → j ≢ id → SeatFits plan mode a lock steppers j v →
      SeatFits plan mode (moved a t x) lock steppers j v
  other_fits steppers id j v owner apart f =
      record {
        plan_is = f.plan_is;
        mode_is = f.mode_is;
        count = f.count;
        far = record {
          later = λ u w. prefix_trans ((seen v).places u) (a u) (moved a t x u) (f.far.later u w) (moved_later a t x u);
          equal = λ u w is. moved_other a t x u (not_mine u is) ∙ f.far.equal u w is;
          scanned = λ u own.
              let o = f.own u own in
              let here : a u ≡ (seen v).places u = f.far.equal u o.within o.exact in
              scanned_stays_so (seen v).scanned u (published_after plan u ((seen v).places u).done)
              (ap (λ (p : Place). published_after plan u p.done) here) (f.far.scanned u own);
        };
        own = f.own;
        exact = f.exact;
        holding = λ u own. record {
          holds = λ has. lock_stays u (seen v) (seen v) refl ((f.holding u own).holds has);
          held = (f.holding u own).held;
        };
        viewer = f.viewer;
      }
    where
      not_mine : (u : ℕ) → is_among v.sight.exact u ≡ true → u ≢ t
      not_mine u is same =
          elim (f.exact u is) [
            | inl own ↦ apart (seats_same j id (sym (f.own u own).alone ∙ ap steppers same ∙ owner))
            | inr ended ↦ seat_ends id (sym owner ∙ ap steppers (sym same) ∙ ended)
          ]

  -- the view after one's own step
  pub own_fits : (steppers : ℕ → Stepper) (j : ℕ) (v : View) → v.own ≡ Some t → SeatFits plan mode a lock steppers j v →
      SeatFits plan mode (moved a t x) lock steppers j (after_action x v)
  own_fits steppers j v mine f =
      record {
        plan_is = f.plan_is;
        mode_is = f.mode_is;
        count = length-set v.sight.places (task_of v) (next_place (own_place v).done (own_place v).dropped x) ∙ f.count;
        far = record {
          later = λ u w. elim (cases_eq u t) [
            | inl e ↦ subst (λ (p : Place). IsPrefix p (moved a t x u)) (sym (now_here u e)) (precedes_itself (moved a t x u).done (moved a t x u).dropped)
            | inr n ↦ subst (λ (p : Place). IsPrefix p (moved a t x u)) (sym (now_there u n))
                (prefix_trans ((seen v).places u) (a u) (moved a t x u) (f.far.later u w) (moved_later a t x u))
          ];
          equal = λ u w is. elim (cases_eq u t) [
            | inl e ↦ sym (now_here u e)
            | inr n ↦ moved_other a t x u n ∙ f.far.equal u w is ∙ sym (now_there u n)
          ];
          scanned = λ u own. let same : u ≡ t = some_same u t (sym own ∙ mine) in
              subst (λ w. IsScanned (state_at plan (moved a t x)) (scanned_next x v.sight.scanned) (published_after plan w ((seen (after_action x v)).places w).done)) (sym same)
              (subst (λ (p : Place). IsScanned (state_at plan (moved a t x)) (scanned_next x v.sight.scanned) (published_after plan t p.done))
              (sym (now_here t refl)) (scanned_own x refl));
        };
        own = λ u own. let o = f.own u own in record { within = o.within; exact = o.exact; alone = o.alone };
        exact = f.exact;
        holding = λ u own. record {
          holds = λ has. lock_stays u (seen v) (seen (after_action x v)) refl ((f.holding u own).holds has);
          held = (f.holding u own).held;
        };
        viewer = f.viewer;
      }
    where
      some_same : (u w : ℕ) → Some u ≡ Some w → u ≡ w
      some_same u w e = cc

      task : task_of v ≡ t
      task = ap (λ o. unwrap_or o 0) mine

      within : t < length plan.parents
      within = (f.own t mine).within

      within_list : task_of v < length v.sight.places
      within_list = (let c = f.count in let w = within in let e = task in omega arith)

      place : own_place v ≡ a t
      place = ap (place_in v.sight.places) task ∙ sym (f.far.equal t within (f.own t mine).exact)

      all_now : (u : ℕ) → (seen (after_action x v)).places u ≡ moved (place_in v.sight.places) (task_of v) x u
      all_now u = ap (λ g. g u) (set_place v.sight.places (task_of v) (next_place (own_place v).done (own_place v).dropped x) within_list)

      now_here : (u : ℕ) → u ≡ t → (seen (after_action x v)).places u ≡ moved a t x u
      now_here u e =
          all_now u ∙ updated_same (place_in v.sight.places) (task_of v) u (next_place (own_place v).done (own_place v).dropped x) (e ∙ sym task)
          ∙ ap (λ (p : Place). next_place p.done p.dropped x) place ∙ sym (updated_same a t u (next_place (a t).done (a t).dropped x) e)

      now_there : (u : ℕ) → u ≢ t → (seen (after_action x v)).places u ≡ (seen v).places u
      now_there u n = all_now u ∙ updated_other (place_in v.sight.places) (task_of v) u (next_place (own_place v).done (own_place v).dropped x) (λ e. n (e ∙ task))

      scanned_else : (y : Action) → x ≡ y → ((aim : Aim) → y ≢ Blocks aim) → (k : ℕ) → IsScanned (state_at plan (moved a t x)) k (published_after plan t (moved a t x t).done)
      scanned_else y is n k =
          unscanned (state_at plan (moved a t x)) k (published_after plan t (moved a t x t).done)
          (ap (λ s. s.published t) (sym state_next) ∙ unpublished_after plan (state_at plan a) t x step.legal (λ p e. n p (sym is ∙ e)))

      scanned_own : (y : Action) → x ≡ y → IsScanned (state_at plan (moved a t x)) (scanned_next x v.sight.scanned) (published_after plan t (moved a t x t).done)
      scanned_own (Blocks p) is = subst (λ k. IsScanned (state_at plan (moved a t x)) k (published_after plan t (moved a t x t).done))
          (ap (λ y. scanned_next y v.sight.scanned) (sym is)) (none_scanned (state_at plan (moved a t x)) (published_after plan t (moved a t x t).done))
      scanned_own (Makes p) is = scanned_else (Makes p) is (λ q e. cc) (scanned_next x v.sight.scanned)
      scanned_own (Registers c p) is = scanned_else (Registers c p) is (λ q e. cc) (scanned_next x v.sight.scanned)
      scanned_own (Forks c) is = scanned_else (Forks c) is (λ q e. cc) (scanned_next x v.sight.scanned)
      scanned_own (Advances p) is = scanned_else (Advances p) is (λ q e. cc) (scanned_next x v.sight.scanned)
      scanned_own (Drops p) is = scanned_else (Drops p) is (λ q e. cc) (scanned_next x v.sight.scanned)
      scanned_own (Passes p) is = scanned_else (Passes p) is (λ q e. cc) (scanned_next x v.sight.scanned)
      scanned_own (Refuses p) is = scanned_else (Refuses p) is (λ q e. cc) (scanned_next x v.sight.scanned)
