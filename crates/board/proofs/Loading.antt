-- A load keeps the rule, and teaches the longest place that all places with the loaded meaning have in common.
use Rattle.std.proofs.Common.{◌≡◌, ◌≢◌, ℕ, zero, suc, ◌+◌, ◌^◌, ◌<◌, Bool, true, false, List, ◌∷◌, Option, Some, None, length, get_or, set, sym, refl, ap, ◌∙◌, subst, arith, inl, inr, ◌⊎◌, length-set, eqb-true}
use Rattle.std.specs.Prelude.{if◌then◌else◌, ◌==◌, ◌&&◌}
use Rattle.std.proofs.lemmas.Bool.{cases_eq}
use Rattle.std.proofs.lemmas.List.{set-get_or}
use mathlib.Core.Option.{none, some}
use lib.ListN.{get_elem?}
use Rattle.atomic_table.specs.Table.{Allows, Me, State as TableState, keeps, step, stepped}
use Rattle.atomic_table.proofs.Lists.{at_set}
use Rattle.armus_base.specs.declared.event.Event.{Event}
use Rattle.armus_base.specs.Plans.{Plan}
use Rattle.armus_base.specs.States.{State}
use Rattle.armus_base.specs.calls.Runs.{IsPrefix, Precedes}
use Rattle.armus_base.specs.Runs.{Place, first_place}
use Rattle.armus_base.specs.calls.Places.{IsConsistent, phases_at_place}
use Rattle.armus_base.specs.Places.{done_by, forked_at, kept, phases_after, published_after, refused_at, state_at}
use Rattle.armus_base.specs.calls.Seats.{Found, FoundIdle, IsLongestPrefix, IsPlaceOf, IsScanned, FoundRefused, StillAgrees, FoundWaiting, await_word, found_by, own_event, scanned_after}
use Rattle.armus_base.proofs.Fixed.{phases_forked}
use Rattle.armus_base.proofs.Steps.{updated_other, updated_same}
use Rattle.armus_base.proofs.Published.{kept_is}
use Rattle.armus_base.proofs.LawfulPlaces.{lawful_places_are_of}
use Rattle.armus_base.proofs.KeepsFar.{prefixes_both, scan_goes, first_or_not}
use Rattle.armus_base.proofs.BoardRuns.{lawful_is_reachable}
use Rattle.armus_base.proofs.Reachable.{reachable_is_fixed}
use Rattle.board.specs.declared.mode.Mode.{Mode}
use Rattle.board.specs.declared.seen.Seen.{Seen}
use Rattle.board.specs.declared.seen.Seen.TheVariants.{Idle, Refused, Waits}
use Rattle.board.specs.declared.view.View.{View}
use Rattle.board.specs.calls.Words.{IsInRange, IsShown, await_index, await_number, found_in, phase_index, phase_number}
use Rattle.board.specs.calls.Views.{avoids, found_of, is_among, last_found, place_in, seen, task_of}
use Rattle.board.specs.calls.Rule.{SeatFits, IsKeptBy}
use Rattle.board.specs.calls.Steps.{LoadsAwait, LoadsPhase, Looked, Recalled, Watched}
use Rattle.board.proofs.Seating.{GoesOnAs, as_before, one_goes_on, seated_stays}
use Rattle.board.proofs.Showing.{phases_apart}
use Rattle.board.proofs.Sights.{set_place}
use Rattle.board.proofs.Ranges.{found_small, phases_small}
use Rattle.board.proofs.Reading.{number_small}
use Rattle.board.proofs.Longest.{longest_exists, undropped}
use Rattle.board.proofs.Acting.{own_phases_so, sits}

abbrev T : Type 0
T = TableState (Unit {0}) View

-- the view after a load, with this place of t, so many tasks scanned, and these finds
abbrev pub after_load : ℕ → Place → ℕ → List (ℕ × Seen) → View → View
after_load t c k found v =
    record v {
      sight = record { places = set v.sight.places t c; exact = v.sight.exact; scanned = k; found = found };
      loads = v.loads + 1;
    }

-- what is seen of the places after it
module _ (t : ℕ) (c : Place) (k : ℕ) (found : List (ℕ × Seen)) (v : View) (within : t < length v.sight.places) where
  pub loaded_here : (seen (after_load t c k found v)).places t ≡ c
  loaded_here = ap (λ g. g t) (set_place v.sight.places t c within) ∙ updated_same (place_in v.sight.places) t t c refl

  pub loaded_there : (u : ℕ) → u ≢ t → (seen (after_load t c k found v)).places u ≡ (seen v).places u
  loaded_there u n = ap (λ g. g u) (set_place v.sight.places t c within) ∙ updated_other (place_in v.sight.places) t u c n

-- a view keeps fitting where its new place of t is a prefix of the actual one, and this one where t is exact
module _ (plan : Plan) (mode : Mode) (s : T) (l : IsKeptBy plan mode s) (j : ℕ) (v : View) (f : SeatFits plan mode l.places l.lock l.steppers j v) (t : ℕ)
    (small : t < length plan.parents) (c : Place) (k : ℕ) (found : List (ℕ × Seen)) where
  within : t < length v.sight.places
  within = (let e = f.count in omega arith)

  pub load_fits :
      IsPrefix c (l.places t) → (is_among v.sight.exact t ≡ true → c ≡ l.places t) →
      ((u : ℕ) → v.own ≡ Some u → IsScanned (state_at plan l.places) k (published_after plan u (l.places u).done)) →
      ((w : ℕ) → v.own ≡ Some w → v.holds ≡ true → (u : ℕ) → u ≢ w → StillAgrees (state_at plan l.places) u (last_found found u)) →
      SeatFits plan mode l.places l.lock l.steppers j (after_load t c k found v)
  load_fits near same scan agree =
      record {
        plan_is = f.plan_is;
        mode_is = f.mode_is;
        count = length-set v.sight.places t c ∙ f.count;
        far = record {
          later = λ u w. elim (cases_eq u t) [
            | inl e ↦ subst (λ x. IsPrefix ((seen (after_load t c k found v)).places x) (l.places x)) (sym e)
                (subst (λ (p : Place). IsPrefix p (l.places t)) (sym (loaded_here t c k found v within)) near)
            | inr n ↦ subst (λ (p : Place). IsPrefix p (l.places u)) (sym (loaded_there t c k found v within u n)) (f.far.later u w)
          ];
          equal = λ u w is. exact_now u w is;
          scanned = λ u own.
              let o = f.own u own in
              subst (λ (p : Place). IsScanned (state_at plan l.places) k (published_after plan u p.done)) (exact_now u o.within o.exact) (scan u own);
        };
        own = λ u own. let o = f.own u own in record { within = o.within; exact = o.exact; alone = o.alone };
        exact = f.exact;
        holding = λ u own. record {
          holds = λ has. let h = (f.holding u own).holds has in record { holds = h.holds; agrees = λ w n. agree u own has w n };
          held = (f.holding u own).held;
        };
        viewer = f.viewer;
      }
    where
      exact_now : (u : ℕ) → u < length plan.parents → is_among v.sight.exact u ≡ true → l.places u ≡ (seen (after_load t c k found v)).places u
      exact_now u w is = elim (cases_eq u t) [
        | inl e ↦ ap l.places e ∙ sym (same (subst (λ x. is_among v.sight.exact x ≡ true) e is)) ∙ sym (loaded_here t c k found v within) ∙
            ap (seen (after_load t c k found v)).places (sym e)
        | inr n ↦ f.far.equal u w is ∙ sym (loaded_there t c k found v within u n)
      ]

-- where t is exact, the longest place is the actual one
pub longest_is :
    (plan : Plan) (mode : Mode) (s : T) (l : IsKeptBy plan mode s) (t : ℕ) (Means : Place → Type 0) (before c : Place) → IsLongestPrefix (avoids mode) plan t Means before c →
    IsPrefix before (l.places t) → Means (l.places t) → IsPrefix c (l.places t) × (before ≡ l.places t → c ≡ l.places t)
longest_is plan mode s l t Means before c longest earlier means =
    let of = lawful_places_are_of (avoids mode) plan l.places l.lock t l.checked l.lawful in
    let near = longest.below (l.places t) of earlier means in (
      near,
      λ same. prefixes_both c (l.places t) near (longest.longest (l.places t) of (λ b place later m. subst (λ (p : Place). IsPrefix p b) same later)),
    )

-- a load changes no word
pub looks_kept :
    (plan : Plan) (mode : Mode) (s : T) (l : IsKeptBy plan mode s) (id i : ℕ) (c : List (ℕ × Unit {0})) (v w : View) → get_elem? s.views id ≡ some v → GoesOnAs v w →
    SeatFits plan mode l.places l.lock l.steppers id w → IsKeptBy plan mode (stepped s i (get_or s.words i 0) id c w keeps)
looks_kept plan mode s l id i c v w found goes fits =
    record {
      places = l.places;
      lock = l.lock;
      steppers = l.steppers;
      checked = l.checked;
      lawful = l.lawful;
      shown = subst (λ (ws : List ℕ). IsShown plan (state_at plan l.places) l.lock ws) (sym (set-get_or s.words i 0)) l.shown;
      seated = seated_stays plan l.places l.places l.steppers s.views (set s.views id w) (one_goes_on s.views id v w found goes) (λ u. refl) l.seated;
      views = λ j u e unspent. elim (at_set s.views id j w u e) [
        | inl x ↦ subst (λ (z : ℕ × View). SeatFits plan mode l.places l.lock l.steppers z.0 z.1) (λ k. (sym x.0 k, x.1 k)) fits
        | inr x ↦ l.views j u x.1 unspent
      ];
    }

-- whether two meanings are one
event_or_not : (e f : Event) → (e ≡ f) ⊎ (e ≡ f → ⊥)
event_or_not e f = elim (cases_eq e.p.0 f.p.0) [
  | inl a ↦ elim (cases_eq e.n f.n) [
    | inl b ↦ inl (λ i. record { p = record { 0 = a i }; n = b i })
    | inr n ↦ inr (λ h. n (ap (λ (x : Event). x.n) h))
  ]
  | inr n ↦ inr (λ h. n (ap (λ (x : Event). x.p.0) h))
]

found_or_not : (f g : Found) → (f ≡ g) ⊎ (f ≡ g → ⊥)
found_or_not FoundIdle FoundIdle = inl refl
found_or_not FoundIdle (FoundWaiting e) = inr (λ h. cc)
found_or_not FoundIdle (FoundRefused e) = inr (λ h. cc)
found_or_not (FoundWaiting e) FoundIdle = inr (λ h. cc)
found_or_not (FoundWaiting e) (FoundWaiting f) = elim (event_or_not e f) [ inl h ↦ inl (ap FoundWaiting h) | inr n ↦ inr (λ h. n (waits_same e f h)) ]
  where
    waits_same : (e f : Event) → FoundWaiting e ≡ FoundWaiting f → e ≡ f
    waits_same e f h = cc
found_or_not (FoundWaiting e) (FoundRefused f) = inr (λ h. cc)
found_or_not (FoundRefused e) FoundIdle = inr (λ h. cc)
found_or_not (FoundRefused e) (FoundWaiting f) = inr (λ h. cc)
found_or_not (FoundRefused e) (FoundRefused f) = elim (event_or_not e f) [ inl h ↦ inl (ap FoundRefused h) | inr n ↦ inr (λ h. n (refused_same e f h)) ]
  where
    refused_same : (e f : Event) → FoundRefused e ≡ FoundRefused f → e ≡ f
    refused_same e f h = cc

phase_or_not : (o r : Option ℕ) → (o ≡ r) ⊎ (o ≡ r → ⊥)
phase_or_not None None = inl refl
phase_or_not None (Some n) = inr (λ h. cc)
phase_or_not (Some m) None = inr (λ h. cc)
phase_or_not (Some m) (Some n) = elim (cases_eq m n) [ inl e ↦ inl (ap Some e) | inr ne ↦ inr (λ h. ne (some_same m n h)) ]
  where
    some_same : (m n : ℕ) → Some m ≡ Some n → m ≡ n
    some_same m n h = cc

-- what a holder of the lock adds to its finds
abbrev seen_value : Found → Seen
seen_value FoundIdle = Idle
seen_value (FoundWaiting e) = Waits e
seen_value (FoundRefused e) = Refused e

value_found : (f : Found) → found_of (seen_value f) ≡ f
value_found FoundIdle = refl
value_found (FoundWaiting e) = refl
value_found (FoundRefused e) = refl

abbrev finds_next : Bool → ℕ → Found → List (ℕ × Seen) → List (ℕ × Seen)
finds_next false t f xs = xs
finds_next true t f xs = (t, seen_value f) ∷ xs

found_next : (b : Bool) (t : ℕ) (f : Found) (xs : List (ℕ × Seen)) (u : ℕ) → last_found (finds_next b t f xs) u ≡ (if b && (u == t) then Some f else last_found xs u)
found_next false t f xs u = refl
found_next true t f xs u = ap (λ g. if u == t then Some g else last_found xs u) (value_found f)

-- what is found now agrees now
agrees_itself : (s : State) (t : ℕ) → StillAgrees s t (Some (found_in s t))
agrees_itself s t = by_case (s.published t) refl (s.refused t) refl
  where
    by_case : (o : Option Event) → s.published t ≡ o → (r : Option Event) → s.refused t ≡ r → StillAgrees s t (Some (found_by o r))
    by_case (Some e) is r ris = inl is
    by_case None is (Some e) ris = ris
    by_case None is None ris = (is, ris)

agrees_next :
    (s : State) (b : Bool) (t : ℕ) (xs : List (ℕ × Seen)) (u : ℕ) → StillAgrees s u (last_found xs u) → StillAgrees s u (last_found (finds_next b t (found_in s t) xs) u)
agrees_next s b t xs u old = subst (StillAgrees s u) (sym (found_next b t (found_in s t) xs u)) (by_test b (u == t) refl)
  where
    by_test : (b c : Bool) → (u == t) ≡ c → StillAgrees s u (if b && c then Some (found_in s t) else last_found xs u)
    by_test false c is = old
    by_test true false is = old
    by_test true true is = subst (λ x. StillAgrees s u (Some (found_in s x))) (eqb-true u t is) (agrees_itself s u)

-- idle and waiting stay so where a task was not yet refused
undrops_await : (avoids : Bool) (plan : Plan) (t : ℕ) (answer : Found) → ((e : Event) → answer ≢ FoundRefused e) → (b : Place) → IsPlaceOf avoids plan t b →
    await_word plan t b ≡ answer → await_word plan t (undropped b) ≡ answer
undrops_await avoids plan t answer n b place is = by_case (published_after plan t b.done) (refused_at plan t b.done b.dropped) is
  where
    by_case : (o r : Option Event) → found_by o r ≡ answer → found_by o None ≡ answer
    by_case (Some e) r h = h
    by_case None None h = h
    by_case None (Some e) h = absurd (n e (sym h))

-- the load of an await word
pub watches :
    (plan : Plan) (mode : Mode) (slots id : ℕ) (me : Me (Unit {0}) View) (t : ℕ) → me.0.spent ≡ false → me.0.plan ≡ plan → t < length plan.parents →
    Allows (IsKeptBy plan mode) slots id me (await_index t) (λ n. n) (Watched (step slots (await_index t) 0 0 none) me)
watches plan mode slots id me t live same small s l _ at _ =
    let v = me.0 in
    let f = l.views id v at live in
    let st = state_at plan l.places in
    let answer : Found = await_word plan t (l.places t) in
    let before : Place = (seen v).places t in
    let of = lawful_places_are_of (avoids mode) plan l.places l.lock t l.checked l.lawful in
    let r = longest_exists (avoids mode) plan t (λ b. await_word plan t b ≡ answer) (λ b. found_or_not (await_word plan t b) answer) before (l.places t)
    (record { place = of; later = f.far.later t small; means = refl }) in
    let is = longest_is plan mode s l t (λ b. await_word plan t b ≡ answer) before r.0 r.1 (f.far.later t small) refl in
    let finds = finds_next v.holds t answer v.sight.found in
    let w = after_load t r.0 v.sight.scanned finds v in
    let inside : t < length v.sight.places = (let e = f.count in omega arith) in
    let fits = load_fits plan mode s l id v f t small r.0 v.sight.scanned finds is.0 (λ e. is.1 (sym (f.far.equal t small e)))
    (λ u own. let o = f.own u own in subst (λ (p : Place). IsScanned st v.sight.scanned (published_after plan u p.done)) (sym (f.far.equal u o.within o.exact))
    (f.far.scanned u own))
    (λ x own has u n. agrees_next st v.holds t v.sight.found u (((f.holding x own).holds has).agrees u n)) in (
      w,
      keeps,
      tt,
      looks_kept plan mode s l id (await_index t) me.1 v w at (record { own = refl; spent = refl; exact = λ u is. is }) fits,
      (
        refl,
        λ u _ at_word.
            let tu : t ≡ u = omega arith in
            subst (λ x. (g : Found) × get_or s.words (await_index t) 0 ≡ await_number g × IsInRange g × LoadsAwait v.plan v.mode x g v w) tu (
              answer,
              l.shown.awaits t small,
              found_small plan l.checked l.places t,
              subst (λ (z : Plan × Mode). LoadsAwait z.0 z.1 t answer v w) (λ i. (sym same i, sym f.mode_is i))
                  (record {
                    seen_now = record {
                      place = record {
                        here = subst (IsLongestPrefix (avoids mode) plan t (λ b. await_word plan t b ≡ answer) before) (sym (loaded_here t r.0 v.sight.scanned finds v inside)) r.1;
                        others = loaded_there t r.0 v.sight.scanned finds v inside;
                        exact = λ _. refl;
                      };
                      scanned = refl;
                      found = found_next v.holds t answer v.sight.found;
                    };
                    was = record { places = l.places; lock = l.lock; lawful = l.lawful; before_far = f.far; now_far = fits.far; holds = refl };
                    there = λ n. ap (await_word plan t) (loaded_here t r.0 v.sight.scanned finds v inside) ∙ r.2 (undrops_await (avoids mode) plan t answer n);
                    same = record { plan = refl; mode = refl; own = refl; holds = refl; spent = refl; count = length-set v.sight.places t r.0 };
                    loads = refl;
                  }),
            ),
      ),
    )

-- the phases of a task at a place that is not its first
phases_there :
    (plan : Plan) (mode : Mode) (s : T) (l : IsKeptBy plan mode s) (t p : ℕ) → l.places t ≢ first_place →
    (state_at plan l.places).phases t p ≡ phases_at_place plan t (l.places t) p
phases_there plan mode s l t p n =
    ap (λ m. kept (l.places t).dropped m p) (phases_forked plan l.checked (done_by l.places) t forked)
  where
    consistent : IsConsistent plan l.places
    consistent = (reachable_is_fixed plan l.places l.checked (lawful_is_reachable (avoids mode) plan l.places l.lock l.lawful)).1

    by_parts : (k : ℕ) (o : Option ℕ) → (l.places t).done ≡ k → (l.places t).dropped ≡ o → forked_at plan (done_by l.places) t ≡ true
    by_parts (suc k) o a e = consistent.begun t (omega arith)
    by_parts zero (Some d) a e = (consistent.refused t d e).0
    by_parts zero None a e = absurd (n (λ i. record { done = a i; dropped = e i }))

    forked : forked_at plan (done_by l.places) t ≡ true
    forked = by_parts (l.places t).done (l.places t).dropped refl refl

-- a place after one that is not the first is not the first
not_first : (a b : Place) → IsPrefix a b → a ≢ first_place → b ≢ first_place
not_first a b later n is = n (by_parts a.done a.dropped refl refl (subst (λ (x : Place). IsPrefix a x) is later))
  where
    by_parts : (k : ℕ) (o : Option ℕ) → a.done ≡ k → a.dropped ≡ o → Precedes a.done a.dropped 0 None → a ≡ first_place
    by_parts k None x e h = λ i. record { done = (let z : a.done ≡ 0 = none_zero a.done a.dropped e h in z) i; dropped = e i }
      where
        none_zero : (k : ℕ) (o : Option ℕ) → o ≡ None → Precedes k o 0 None → k ≡ 0
        none_zero k None e h = omega arith
        none_zero k (Some d) e h = absurd h
    by_parts k (Some d) x e h = absurd (some_not a.done a.dropped d e h)
      where
        some_not : (k : ℕ) (o : Option ℕ) (d : ℕ) → o ≡ Some d → Precedes k o 0 None → ⊥
        some_not k None d e h = cc
        some_not k (Some c) d e h = h

-- a phase stays so where a task was not yet refused
undrops_phase : (avoids : Bool) (plan : Plan) (t p n : ℕ) (answer : Option ℕ) → answer ≡ Some n → (b : Place) → IsPlaceOf avoids plan t b →
    phases_at_place plan t b p ≡ answer → phases_at_place plan t (undropped b) p ≡ answer
undrops_phase avoids plan t p n answer has b place is = kept_is b.dropped (phases_after plan t b.done) p n (is ∙ has) ∙ sym has

-- what a load of a phase word makes of the place seen
record IsTaught (avoids : Bool) (plan : Plan) (t p : ℕ) (answer : Option ℕ) (before now actual : Place) : Type 0 where
  pub near : IsPrefix now actual
  pub exact : before ≡ actual → now ≡ actual
  pub empty : before ≡ first_place → now ≡ before
  pub longest : before ≢ first_place → IsLongestPrefix avoids plan t (λ b. phases_at_place plan t b p ≡ answer) before now
  pub there : before ≢ first_place → (n : ℕ) → answer ≡ Some n → phases_at_place plan t now p ≡ answer

teaches :
    (plan : Plan) (mode : Mode) (s : T) (l : IsKeptBy plan mode s) (t p : ℕ) (before : Place) → IsPrefix before (l.places t) →
    (c : Place) × IsTaught (avoids mode) plan t p ((state_at plan l.places).phases t p) before c (l.places t)
teaches plan mode s l t p before later = elim (first_or_not before) [
  | inl first ↦ (
    before,
    record {
      near = later;
      exact = λ e. e;
      empty = λ _. refl;
      longest = λ n. absurd (n first);
      there = λ n. absurd (n first);
    },
  )
  | inr n ↦
      let answer : Option ℕ = (state_at plan l.places).phases t p in
      let means : phases_at_place plan t (l.places t) p ≡ answer = sym (phases_there plan mode s l t p (not_first before (l.places t) later n)) in
      let of = lawful_places_are_of (avoids mode) plan l.places l.lock t l.checked l.lawful in
      let r = longest_exists (avoids mode) plan t (λ b. phases_at_place plan t b p ≡ answer) (λ b. phase_or_not (phases_at_place plan t b p) answer) before (l.places t)
      (record { place = of; later = later; means = means }) in
      let is = longest_is plan mode s l t (λ b. phases_at_place plan t b p ≡ answer) before r.0 r.1 later means in (
        r.0,
        record {
          near = is.0;
          exact = is.1;
          empty = λ first. absurd (n first);
          longest = λ _. r.1;
          there = λ _ m has. r.2 (undrops_phase (avoids mode) plan t p m answer has);
        },
      )
]

-- the load of a phase word
looks_word :
    (plan : Plan) (mode : Mode) (slots id : ℕ) (me : Me (Unit {0}) View) (t p : ℕ) → me.0.spent ≡ false → me.0.plan ≡ plan → t < length plan.parents → p < length plan.makers →
    Allows (IsKeptBy plan mode) slots id me (phase_index plan t p) (λ n. n) (Looked (step slots (phase_index plan t p) 0 0 none) me)
looks_word plan mode slots id me t p live same small few s l _ at _ =
    let v = me.0 in
    let f = l.views id v at live in
    let st = state_at plan l.places in
    let answer : Option ℕ = st.phases t p in
    let before : Place = (seen v).places t in
    let r = teaches plan mode s l t p before (f.far.later t small) in
    let k : ℕ = scanned_after (own_event plan v.own (seen v)) v.sight.scanned t p answer in
    let w = after_load t r.0 k v.sight.found v in
    let inside : t < length v.sight.places = (let e = f.count in omega arith) in
    let here = loaded_here t r.0 k v.sight.found v inside in
    let there = loaded_there t r.0 k v.sight.found v inside in
    let fits = load_fits plan mode s l id v f t small r.0 k v.sight.found r.1.near (λ e. r.1.exact (sym (f.far.equal t small e)))
    (λ u own.
    let o = f.own u own in
    let old : IsScanned st v.sight.scanned (published_after plan u ((seen v).places u).done) = f.far.scanned u own in
    let event : own_event plan v.own (seen v) ≡ published_after plan u ((seen v).places u).done = ap (λ o. own_event plan o (seen v)) own in
    subst (λ (b : Place). IsScanned st k (published_after plan u b.done)) (sym (f.far.equal u o.within o.exact))
    (subst (λ o. IsScanned st k o) event (scan_goes st (own_event plan v.own (seen v)) v.sight.scanned t p (subst (λ o. IsScanned st v.sight.scanned o) (sym event) old))))
    (λ x own has u n. ((f.holding x own).holds has).agrees u n) in (
      w,
      keeps,
      tt,
      looks_kept plan mode s l id (phase_index plan t p) me.1 v w at (record { own = refl; spent = refl; exact = λ u is. is }) fits,
      (
        refl,
        λ u q a b at_word.
            let a' : u < length plan.parents = subst (λ (c : Plan). u < length c.parents) same a in
            let one : phase_index plan t p ≡ phase_index plan u q = at_word ∙ ap (λ (c : Plan). phase_index c u q) same in
            let eq = phases_apart plan t p u q small a' one in
            subst (λ (z : ℕ × ℕ). (g : Option ℕ) × get_or s.words (phase_index plan t p) 0 ≡ phase_number g × get_or s.words (phase_index plan t p) 0 < 2 ^ 32 ×
            LoadsPhase v.plan v.mode z.0 z.1 g v w) (λ i. (eq.0 i, eq.1 i)) (
              answer,
              l.shown.phases t p small few,
              subst (λ n. n < 2 ^ 32) (sym (l.shown.phases t p small few)) (number_small answer (phases_small plan l.checked l.places t p)),
              subst (λ (z : Plan × Mode). LoadsPhase z.0 z.1 t p answer v w) (λ i. (sym same i, sym f.mode_is i))
                  (record {
                    seen_now = record {
                      empty = λ first u. elim (cases_eq u t) [
                        | inl e ↦ ap (seen w).places e ∙ here ∙ r.1.empty first ∙ ap (seen v).places (sym e)
                        | inr n ↦ there u n
                      ];
                      place = λ n. record {
                        here = subst (IsLongestPrefix (avoids mode) plan t (λ b. phases_at_place plan t b p ≡ answer) before) (sym here) (r.1.longest n);
                        others = there;
                        exact = λ _. refl;
                      };
                      exact = λ _. refl;
                      scanned = refl;
                      found = λ _. refl;
                    };
                    was = record { places = l.places; lock = l.lock; lawful = l.lawful; before_far = f.far; now_far = fits.far; holds = refl };
                    there = λ m has n. ap (λ (x : Place). phases_at_place plan t x p) here ∙ r.1.there (λ first. n (here ∙ r.1.empty first ∙ first)) m has;
                    same = record { plan = refl; mode = refl; own = refl; holds = refl; spent = refl; count = length-set v.sight.places t r.0 };
                    loads = refl;
                  }),
            ),
      ),
    )

-- by its index
pub looks :
    (plan : Plan) (mode : Mode) (slots id : ℕ) (me : Me (Unit {0}) View) (t p index : ℕ) → me.0.spent ≡ false → me.0.plan ≡ plan → t < length plan.parents →
    p < length plan.makers → index ≡ phase_index plan t p → Allows (IsKeptBy plan mode) slots id me index (λ n. n) (Looked (step slots index 0 0 none) me)
looks plan mode slots id me t p index live same small few is =
    subst (λ (k : ℕ). Allows (IsKeptBy plan mode) slots id me k (λ n. n) (Looked (step slots k 0 0 none) me)) (sym is)
    (looks_word plan mode slots id me t p live same small few)

-- the load of one's own phase word
pub recalls :
    (plan : Plan) (mode : Mode) (slots id : ℕ) (me : Me (Unit {0}) View) (t p : ℕ) → me.0.own ≡ Some t → me.0.spent ≡ false → me.0.plan ≡ plan → p < length plan.makers →
    Allows (IsKeptBy plan mode) slots id me (phase_index plan t p) (λ n. n) (Recalled (step slots (phase_index plan t p) 0 0 none) me)
recalls plan mode slots id me t p own live same few s l _ at _ =
    let si = sits plan mode s l id me.0 t own live at in (
      me.0,
      keeps,
      tt,
      looks_kept plan mode s l id (phase_index plan t p) me.1 me.0 me.0 at (as_before me.0) si.fits,
      (
        refl,
        refl,
        λ q _ at_word.
            let one : phase_index plan t p ≡ phase_index plan t q = at_word ∙ ap (λ (c : Plan). phase_index c (task_of me.0) q) same ∙ ap (λ u. phase_index plan u q) si.task in
            let eq = phases_apart plan t p t q si.within si.within one in
            let shown : get_or s.words (phase_index plan t p) 0 ≡ phase_number ((state_at plan l.places).phases t p) = l.shown.phases t p si.within few in (
              shown ∙ ap (λ x. phase_number ((state_at plan l.places).phases t x)) eq.1 ∙ ap phase_number (own_phases_so plan mode s l id me.0 t q si),
              subst (λ n. n < 2 ^ 32) (sym shown) (number_small ((state_at plan l.places).phases t p) (phases_small plan l.checked l.places t p)),
            ),
      ),
    )
