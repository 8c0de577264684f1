-- A fork cuts the child's view off, and is an action. A second viewer is none.
use Rattle.std.proofs.Common.{◌≡◌, ◌≢◌, ℕ, zero, suc, ◌<◌, Bool, true, false, List, [], ◌∷◌, ◌++◌, Option, Some, None, length, set, sym, refl, ap, ◌∙◌, subst, arith, inl, inr, ◌⊎◌, length-set, eq-eqb, eqb-true}
use Rattle.std.specs.Prelude.{◌==◌, ◌||◌}
use Rattle.std.proofs.lemmas.Bool.{cases_eq, false≢true}
use mathlib.Core.Option.{some, none, some-injective, some-ne-none}
use lib.ListN.{get_elem?}
use Rattle.atomic_table.specs.Table.{Allows, Me, Splits, State as TableState, keeps, step}
use Rattle.atomic_table.proofs.Lists.{at_last, at_set}
use Rattle.armus_base.specs.Plans.{Aim, Action, Advances, Blocks, Drops, Forks, Makes, Passes, Plan, Refuses, Registers}
use Rattle.armus_base.specs.States.{State, after, updated}
use Rattle.armus_base.specs.calls.Runs.{IsPrefix, Precedes}
use Rattle.armus_base.specs.Runs.{Place, first_place, moved, state_after}
use Rattle.armus_base.specs.Places.{done_by, forked_at, published_after, state_at}
use Rattle.armus_base.specs.CheckedPlans.{IsCheckedPlan}
use Rattle.armus_base.specs.calls.Boards.{Does, Entry, Frees, IsLawful, IsLocked, Takes, holder, steps_of}
use Rattle.armus_base.proofs.Steps.{updated_other, updated_same}
use Rattle.armus_base.proofs.Codes.{child_later, child_within}
use Rattle.armus_base.proofs.Stepping.{unforked_idle, unforked_undropped}
use Rattle.armus_base.proofs.BoardRuns.{lawful_is_reachable, lawful_state}
use Rattle.armus_base.proofs.Reachable.{reachable_is_fixed}
use Rattle.board.specs.declared.mode.Mode.{Mode}
use Rattle.board.specs.declared.mode.Mode.TheVariants.{Avoid, Detect}
use Rattle.board.specs.declared.view.View.{View}
use Rattle.board.specs.calls.Words.{IsShown}
use Rattle.board.specs.calls.Views.{avoids, is_among, next_action, place_in}
use Rattle.board.specs.calls.Rule.{SeatFits, IsKeptBy, Stepper, by_seat, no_more, not_yet}
use Rattle.board.specs.calls.Steps.{Unforked, another, child, child_forked, next_view, viewer}
use Rattle.board.proofs.Seating.{as_before, both_go_on, one_comes, one_goes_on, seated_born, seated_stays}
use Rattle.board.proofs.Showing.{shows_same}
use Rattle.board.proofs.Fitting.{moved_other, none_scanned, other_fits, own_fits, state_next, step_lawful, unheld}
use Rattle.board.proofs.Loading.{looks_kept}
use Rattle.board.proofs.Acting.{Sits, avoids_else, may_do, next_view_is, not_held, sits, steps_by_code}

abbrev T : Type 0
T = TableState (Unit {0}) View

pub at_end : {A : Type 0} (l : List A) (a b : A) (j : ℕ) → get_elem? (l ++ a ∷ []) j ≡ some b → (get_elem? l j ≡ some b) ⊎ ((j ≡ length l) × (a ≡ b))
at_end [] a b zero e = inr (refl, some-injective a b e)
at_end [] a b (suc j) e = absurd (some-ne-none b (sym e))
at_end (x ∷ xs) a b zero e = inl e
at_end (x ∷ xs) a b (suc j) e = elim (at_end xs a b j e) [ inl was ↦ inl was | inr t ↦ inr (ap suc t.0, t.1) ]

-- nothing is before the first place but itself
pub first_before : (a b : Place) → IsPrefix a b → b ≡ first_place → a ≡ first_place
first_before a b later is = by_parts a.done a.dropped refl refl (subst (λ (x : Place). IsPrefix a x) is later)
  where
    none_zero : (k : ℕ) (o : Option ℕ) → o ≡ None → Precedes k o 0 None → k ≡ 0
    none_zero k None e h = omega arith
    none_zero k (Some d) e h = absurd h

    some_not : (k : ℕ) (o : Option ℕ) (d : ℕ) → o ≡ Some d → Precedes k o 0 None → ⊥
    some_not k None d e h = cc
    some_not k (Some c) d e h = h

    by_parts : (k : ℕ) (o : Option ℕ) → a.done ≡ k → a.dropped ≡ o → Precedes a.done a.dropped 0 None → a ≡ first_place
    by_parts k None x e h = λ i. record { done = none_zero a.done a.dropped e h i; dropped = e i }
    by_parts k (Some d) x e h = absurd (some_not a.done a.dropped d e h)

-- who holds the lock is forked
forked_more : (s : State) (u t : ℕ) (x : Action) → s.forked t ≡ true → (after s u x).forked t ≡ true
forked_more s u t (Makes p) e = e
forked_more s u t (Registers c p) e = e
forked_more s u t (Forks c) e = elim (cases_eq t c) [
  | inl is ↦ updated_same s.forked c t true is
  | inr n ↦ updated_other s.forked c t true n ∙ e
]
forked_more s u t (Advances p) e = e
forked_more s u t (Drops p) e = e
forked_more s u t (Blocks p) e = e
forked_more s u t (Passes p) e = e
forked_more s u t (Refuses p) e = e

holder_forked : (plan : Plan) (entries : List Entry) → IsLocked plan entries → (t : ℕ) → holder entries ≡ Some t → (state_after (steps_of entries)).forked t ≡ true
holder_forked plan [] run t e = absurd (cc)
holder_forked plan (Does d ∷ entries) run t e = forked_more (state_after (steps_of entries)) d.task t d.action (holder_forked plan entries run.0 t e)
holder_forked plan (Takes u ∷ entries) run t e =
    subst (λ v. (state_after (steps_of entries)).forked v ≡ true) (some_same u t e) run.2.0.forked
  where
    some_same : (u t : ℕ) → Some u ≡ Some t → u ≡ t
    some_same u t e = cc
holder_forked plan (Frees u ∷ entries) run t e = absurd (cc)

pub lock_forked : (plan : Plan) (mode : Mode) (a : ℕ → Place) (lock : Option ℕ) → IsCheckedPlan plan → IsLawful (avoids mode) plan a lock → (t : ℕ) →
    lock ≡ Some t → forked_at plan (done_by a) t ≡ true
lock_forked plan Detect a lock checked l t e = absurd (let n = unheld Detect plan a lock l refl in cc)
lock_forked plan Avoid a lock checked l t e =
    sym (ap (λ s. s.forked t) (lawful_state true plan a lock checked l)) ∙ holder_forked plan l.entries l.run.1 t (l.held ∙ e)

seat_steps : (j : ℕ) → by_seat j ≡ not_yet → ⊥
seat_steps j e = cc

ended_steps : no_more ≡ not_yet → ⊥
ended_steps e = cc

-- a seat for a task that has none yet changes no claim
born_fits :
    (plan : Plan) (mode : Mode) (a : ℕ → Place) (lock : Option ℕ) (steppers : ℕ → Stepper) (c k : ℕ) → steppers c ≡ not_yet → (j : ℕ) (v : View) →
    SeatFits plan mode a lock steppers j v → SeatFits plan mode a lock (updated steppers c (by_seat k)) j v
born_fits plan mode a lock steppers c k free j v f =
    record {
      plan_is = f.plan_is;
      mode_is = f.mode_is;
      count = f.count;
      far = f.far;
      own = λ u own. let o = f.own u own in record {
        within = o.within;
        exact = o.exact;
        alone = updated_other steppers c u (by_seat k) (λ same. seat_steps j (sym o.alone ∙ ap steppers same ∙ free)) ∙ o.alone;
      };
      exact = λ u is. elim (f.exact u is) [
        | inl own ↦ inl own
        | inr ended ↦ inr (updated_other steppers c u (by_seat k) (λ same. ended_steps (sym ended ∙ ap steppers same ∙ free)) ∙ ended)
      ];
      holding = f.holding;
      viewer = f.viewer;
    }

among_one : (c : ℕ) → is_among (c ∷ []) c ≡ true
among_one c = ap (λ b. b || false) (eq-eqb c c refl)

one_among : (c u : ℕ) → is_among (c ∷ []) u ≡ true → u ≡ c
one_among c u e = eqb-true u c (or_none (u == c) ∙ e)
  where
    or_none : (b : Bool) → b ≡ (b || false)
    or_none true = refl
    or_none false = refl

some_same : (u w : ℕ) → Some u ≡ Some w → u ≡ w
some_same u w e = cc

-- the split of a fork
pub forks :
    (plan : Plan) (mode : Mode) (id : ℕ) (v : View) (t c : ℕ) → v.own ≡ Some t → v.spent ≡ false → v.holds ≡ false → next_action v ≡ Some (Forks c) →
    Splits (IsKeptBy plan mode) id v (next_view v) (child v)
forks plan mode id v t c own live free next s l found =
    let si = sits plan mode s l id v t own live found in
    let st = state_at plan l.places in
    let no_block : (aim : Aim) → Forks c ≢ Blocks aim = λ p e. cc in
    let no_refusal : (aim : Aim) → Forks c ≢ Refuses aim = λ p e. cc in
    let is_step = steps_by_code plan mode s l id v t (Forks c) si next (λ p e. cc)
    (λ _. (avoids_else st t (Forks c) no_block no_refusal, may_do l.lock t (Forks c) (not_held plan mode s l id v t si own free) no_block no_refusal)) in
    let a' : ℕ → Place = moved l.places t (Forks c) in
    let after_is = state_next plan mode l.places l.lock t (Forks c) l.checked l.lawful is_step in
    let small : c < length plan.parents = child_within plan t c is_step.legal.1 in
    let later : t < c = child_later plan l.checked.tables t c is_step.legal.1 in
    let none_yet : l.steppers c ≡ not_yet = (l.seated.forks c).0 is_step.legal.2 in
    let k : ℕ = length s.views in
    let steppers' : ℕ → Stepper = updated l.steppers c (by_seat k) in
    let mine : SeatFits plan mode a' l.lock l.steppers id (next_view v) =
    subst (SeatFits plan mode a' l.lock l.steppers id) (next_view_is v (Forks c) next)
    (own_fits plan mode l.places l.lock t (Forks c) l.checked l.lawful is_step l.steppers id v own si.fits) in
    let is_c : child_forked (next_action v) ≡ c = ap child_forked next in
    let consistent = (reachable_is_fixed plan l.places l.checked (lawful_is_reachable (avoids mode) plan l.places l.lock l.lawful)).1 in
    let idle : a' c ≡ first_place =
    moved_other l.places t (Forks c) c (λ e. omega arith)
    ∙ (λ i. record {
      done = unforked_idle plan l.checked l.places consistent c is_step.legal.2 i;
      dropped = unforked_undropped plan l.checked l.places consistent c is_step.legal.2 i;
    }) in
    let baby : SeatFits plan mode a' l.lock steppers' k (child v) = record {
      plan_is = si.fits.plan_is;
      mode_is = si.fits.mode_is;
      count = mine.count;
      far = record {
        later = mine.far.later;
        equal = λ u w is.
            let same : u ≡ c = one_among (child_forked (next_action v)) u is ∙ is_c in
            subst (λ x. a' x ≡ place_in (next_view v).sight.places x) (sym same)
            (idle ∙ sym (first_before (place_in (next_view v).sight.places c) (a' c) (mine.far.later c small) idle));
        scanned = λ u _. none_scanned (state_at plan a') (published_after plan u (place_in (next_view v).sight.places u).done);
      };
      own = λ u e. let same : u ≡ c = some_same u (child_forked (next_action v)) (sym e) ∙ is_c in record {
        within = subst (λ x. x < length plan.parents) (sym same) small;
        exact = subst (λ x. is_among (child_forked (next_action v) ∷ []) x ≡ true) (some_same (child_forked (next_action v)) u e) (among_one (child_forked (next_action v)));
        alone = updated_same l.steppers c u (by_seat k) same;
      };
      exact = λ u is. inl (ap Some (sym (one_among (child_forked (next_action v)) u is)));
      holding = λ u e. let same : u ≡ c = some_same u (child_forked (next_action v)) (sym e) ∙ is_c in record {
        holds = λ has. absurd (false≢true has);
        held = λ lock. absurd (false≢true (sym is_step.legal.2 ∙ lock_forked plan mode l.places l.lock l.checked l.lawful c (lock ∙ ap Some same)));
      };
      viewer = λ _. refl;
    } in record {
      places = a';
      lock = l.lock;
      steppers = steppers';
      checked = l.checked;
      lawful = step_lawful plan mode l.places l.lock t (Forks c) l.checked l.lawful is_step;
      shown = subst (λ z. IsShown plan z l.lock s.words) after_is (shows_same plan st (after st t (Forks c)) l.lock s.words l.shown (λ _ _. refl) (λ _. refl));
      seated =
          let parents : List View = set s.views id (next_view v) in
          seated_born plan l.places a' l.steppers s.views (parents ++ child v ∷ []) c k (child v)
          (both_go_on s.views parents (parents ++ child v ∷ [])
          (one_goes_on s.views id v (next_view v) found (record { own = refl; spent = refl; exact = λ u is. is })) (one_comes parents (child v)))
          (record { found = at_last parents (child v) k (length-set s.views id (next_view v)); live = live }) (ap Some is_c)
          (λ u e. sym (ap (λ z. z.forked u) after_is) ∙ updated_same st.forked c u true e)
          (λ u n. sym (ap (λ z. z.forked u) after_is) ∙ updated_other st.forked c u true n) l.seated;
      views = λ j u e unspent. elim (at_end (set s.views id (next_view v)) (child v) u j e) [
        | inl old ↦ elim (at_set s.views id j (next_view v) u old) [
          | inl x ↦
              subst (λ (z : ℕ × View). SeatFits plan mode a' l.lock steppers' z.0 z.1) (λ i. (sym x.0 i, x.1 i))
              (born_fits plan mode a' l.lock l.steppers c k none_yet id (next_view v) mine)
          | inr x ↦
              born_fits plan mode a' l.lock l.steppers c k none_yet j u
              (other_fits plan mode l.places l.lock t (Forks c) l.checked l.lawful is_step l.steppers id j u si.alone x.0 (l.views j u x.1 unspent))
        ]
        | inr x ↦
            subst (λ (z : ℕ × View). SeatFits plan mode a' l.lock steppers' z.0 z.1) (λ i. (sym (x.0 ∙ length-set s.views id (next_view v)) i, x.1 i)) baby
      ];
    }

-- no step is seen of the child that comes to be forked next
pub unforked :
    (plan : Plan) (mode : Mode) (slots id : ℕ) (me : Me (Unit {0}) View) (t : ℕ) → me.0.own ≡ Some t → me.0.spent ≡ false → me.0.holds ≡ false →
    Allows (IsKeptBy plan mode) slots id me 0 (λ n. n) (Unforked (step slots 0 0 0 none) me)
unforked plan mode slots id me t own live free s l _ found _ =
    let si = sits plan mode s l id me.0 t own live found in
    (me.0, keeps, tt, looks_kept plan mode s l id 0 me.1 me.0 me.0 found (as_before me.0) si.fits, (refl, refl, λ c next. unseen si c next))
  where
    unseen : Sits plan mode s l id me.0 t → (c : ℕ) → next_action me.0 ≡ Some (Forks c) → place_in me.0.sight.places c ≡ first_place
    unseen si c next =
        let st = state_at plan l.places in
        let no_block : (aim : Aim) → Forks c ≢ Blocks aim = λ p e. cc in
        let no_refusal : (aim : Aim) → Forks c ≢ Refuses aim = λ p e. cc in
        let is_step = steps_by_code plan mode s l id me.0 t (Forks c) si next (λ p e. cc)
        (λ _. (avoids_else st t (Forks c) no_block no_refusal, may_do l.lock t (Forks c) (not_held plan mode s l id me.0 t si own free) no_block no_refusal)) in
        let consistent = (reachable_is_fixed plan l.places l.checked (lawful_is_reachable (avoids mode) plan l.places l.lock l.lawful)).1 in
        let idle : l.places c ≡ first_place =
        λ i. record {
          done = unforked_idle plan l.checked l.places consistent c is_step.legal.2 i;
          dropped = unforked_undropped plan l.checked l.places consistent c is_step.legal.2 i;
        } in
        first_before (place_in me.0.sight.places c) (l.places c) (si.fits.far.later c (child_within plan t c is_step.legal.1)) idle

-- a view that is split off and that owns no task
splits_off :
    (plan : Plan) (mode : Mode) (id : ℕ) (v w : View) → v.spent ≡ false →
    ((s : T) (l : IsKeptBy plan mode s) → SeatFits plan mode l.places l.lock l.steppers id v → SeatFits plan mode l.places l.lock l.steppers (length s.views) w) →
    Splits (IsKeptBy plan mode) id v v w
splits_off plan mode id v w live fits s l found =
    record {
      places = l.places;
      lock = l.lock;
      steppers = l.steppers;
      checked = l.checked;
      lawful = l.lawful;
      shown = l.shown;
      seated =
          seated_stays plan l.places l.places l.steppers s.views (set s.views id v ++ w ∷ [])
          (both_go_on s.views (set s.views id v) (set s.views id v ++ w ∷ []) (one_goes_on s.views id v v found (as_before v)) (one_comes (set s.views id v) w))
          (λ u. refl) l.seated;
      views = λ j u e unspent. elim (at_end (set s.views id v) w u j e) [
        | inl old ↦ elim (at_set s.views id j v u old) [
          | inl x ↦ subst (λ (z : ℕ × View). SeatFits plan mode l.places l.lock l.steppers z.0 z.1) (λ i. (sym x.0 i, x.1 i)) (l.views id v found live)
          | inr x ↦ l.views j u x.1 unspent
        ]
        | inr x ↦
            subst (λ (z : ℕ × View). SeatFits plan mode l.places l.lock l.steppers z.0 z.1) (λ i. (sym (x.0 ∙ length-set s.views id v) i, x.1 i))
            (fits s l (l.views id v found live))
      ];
    }

none_some : (o : Option ℕ) (u : ℕ) → o ≡ None → o ≡ Some u → ⊥
none_some o u a b = cc

-- the split of a viewer
pub copies : (plan : Plan) (mode : Mode) (id : ℕ) (v : View) → v.own ≡ None → v.spent ≡ false → Splits (IsKeptBy plan mode) id v v (another v)
copies plan mode id v alone live = splits_off plan mode id v (another v) live (λ s l f. record {
  plan_is = f.plan_is;
  mode_is = f.mode_is;
  count = f.count;
  far = record { later = f.far.later; equal = f.far.equal; scanned = f.far.scanned };
  own = λ u e. absurd (none_some v.own u alone e);
  exact = λ u is. elim (f.exact u is) [ inl e ↦ absurd (none_some v.own u alone e) | inr e ↦ inr e ];
  holding = λ u e. absurd (none_some v.own u alone e);
  viewer = f.viewer;
})

-- the first viewer, beside the first task
pub watches_opening : (plan : Plan) (mode : Mode) (id : ℕ) (v : View) → v.spent ≡ false → Splits (IsKeptBy plan mode) id v v (viewer v)
watches_opening plan mode id v live = splits_off plan mode id v (viewer v) live (λ s l f. record {
  plan_is = f.plan_is;
  mode_is = f.mode_is;
  count = f.count;
  far = record { later = f.far.later; equal = λ u w is. absurd (false≢true is); scanned = λ u e. absurd (none_some None u refl e) };
  own = λ u e. absurd (none_some None u refl e);
  exact = λ u is. absurd (false≢true is);
  holding = λ u e. absurd (none_some None u refl e);
  viewer = λ _. refl;
})
