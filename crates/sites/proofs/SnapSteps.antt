-- One step more of a snap: what is kept of it.
use Rattle.std.proofs.Common.{◌≡◌, ℕ, zero, suc, ◌<◌, ◌+◌, Bool, true, false, List, [], ◌∷◌, ◌++◌, All, Option, Some, None, length, sym, refl, ap, ◌∙◌, subst, arith, add-one, inl, inr}
use Rattle.std.specs.Prelude.{is_some, option_map, option_to_list}
use Rattle.std.proofs.lemmas.Bool.{cases_eq, cases_lt}
use Rattle.std.proofs.lemmas.List.{append-nil}
use Rattle.std.proofs.lemmas.List.Elements.{All-append}
use Rattle.armus_base.specs.declared.event.Event.{Event}
use Rattle.armus_base.specs.declared.status.Member.{Member}
use Rattle.armus_base.specs.declared.status.Status.{Status}
use Rattle.armus_base.specs.Finals.{given_below, listed_phase, status_of}
use Rattle.armus_base.specs.Plans.{Plan}
use Rattle.armus_base.specs.States.{Phases, State, opening, updated, with_phase}
use Rattle.armus_base.specs.calls.Seats.{Found}
use Rattle.armus_base.proofs.Steps.{updated_other, updated_same, with_phase_other, with_phase_same}
use Rattle.armus_base.proofs.Below.{given_below_same}
use Rattle.board.specs.calls.Seats.{AnswersAwait, AnswersPhase, Frame, IsOf, Known}
use Rattle.board.specs.calls.Steps.{IsSameSeat, WasSo}
use Rattle.board.specs.calls.Views.{seen}
use Rattle.board.specs.calls.Words.{found_in}
use Rattle.phase_scan.specs.calls.Looks.{LoadsAlone}
use Rattle.phase_scan.specs.calls.Collects.{FindsEvent, IfAsked, LoadsChosen, LoadsRow, LoadsRows}
use Rattle.phase_scan.specs.calls.Tables.{event_for}
use Rattle.phase_scan.proofs.ChosenLoads.{chosen_same}
use Rattle.phase_scan.proofs.Keeping.{row_more, rows_more, rows_skip}
use Rattle.phase_scan.proofs.Loads.{await_load, goes_both, phase_load}
use Rattle.phase_scan.proofs.Possible.{after_load}
use Rattle.sites.specs.calls.Rows.{HasNumbers, HasPhaseNumbers}
use Rattle.sites.specs.calls.Snaps.{HasLookedOn, HasSeenLawful}
use Rattle.phase_scan.proofs.Farther.{far_of_viewer}
use Rattle.sites.specs.inside.Snapping.{FindsRow, FindsRows, FindsStatus, whole_status}

-- looking, and looking on
pub looked_both : (a k m : Known) → HasLookedOn a k → HasLookedOn k m → HasLookedOn a m
looked_both a k m (inl same) more = subst (λ j. HasLookedOn j m) same more
looked_both a k m (inr looked) (inl same) = inr (subst (λ j. LoadsAlone a j × HasSeenLawful j) (sym same) looked)
looked_both a k m (inr looked) (inr more) = inr (goes_both a k m looked.0 more.0, more.1)

-- what is seen right after a load was so in the lawful state in which it was made
seen_lawful : (k m : Known) (Holds : State → Type 0) → IsSameSeat k.view m.view → WasSo k.view.plan k.view.mode Holds k.view m.view → HasSeenLawful m
seen_lawful k m Holds same was =
    let p = after_load Holds k m same was in
    record { places = p.places; lock = p.lock; lawful = p.lawful; far = far_of_viewer m.view.plan m.view.own p.places (seen m.view) p.far }

pub looked_await : (k m : Known) (f : Frame) (t : ℕ) (answer : Found) → IsOf k f → t < length f.plan.parents → AnswersAwait t answer k m → HasLookedOn k m
looked_await k m f t answer of small load =
    let goes = (await_load k m t answer (subst (λ (q : Plan). t < length q.parents) (sym of.plan) small) load).goes in
    inr (goes, seen_lawful k m (λ s. found_in s t ≡ answer) goes.same load.load.was)

pub looked_phase : (k m : Known) (f : Frame) (t p : ℕ) (answer : Option ℕ) → IsOf k f → t < length f.plan.parents → AnswersPhase t p answer k m → HasLookedOn k m
looked_phase k m f t p answer of small load =
    let goes = (phase_load k m t p answer (subst (λ (q : Plan). t < length q.parents) (sym of.plan) small) load).goes in
    inr (goes, seen_lawful k m (λ s. s.phases t p ≡ answer) goes.same load.load.was)

-- events of tasks with those of one task more
pushed_before : (xs : List (Option Event)) (x : Option Event) (t : ℕ) → t < length xs → event_for (xs ++ x ∷ []) t ≡ event_for xs t
pushed_before [] x t l = absurd (omega arith)
pushed_before (y ∷ ys) x zero l = refl
pushed_before (y ∷ ys) x (suc t) l = pushed_before ys x t (omega arith)

pushed_last : (xs : List (Option Event)) (x : Option Event) → event_for (xs ++ x ∷ []) (length xs) ≡ x
pushed_last [] x = refl
pushed_last (y ∷ ys) x = pushed_last ys x

pushed_past : (xs : List (Option Event)) (x : Option Event) (t : ℕ) → length xs < t → event_for (xs ++ x ∷ []) t ≡ None
pushed_past [] x zero l = absurd (omega arith)
pushed_past [] x (suc t) l = refl
pushed_past (y ∷ ys) x zero l = absurd (omega arith)
pushed_past (y ∷ ys) x (suc t) l = pushed_past ys x t (omega arith)

pub chosen_more :
    (chosen : ℕ → Bool) (xs ys : List (Option Event)) (x : Option Event) (n : ℕ) (k j m : Known) → length xs ≡ n → ys ≡ xs ++ x ∷ [] →
    LoadsChosen chosen (event_for xs) n k j → IfAsked (chosen n) (FindsEvent n x) j m → LoadsChosen chosen (event_for ys) (n + 1) k m
chosen_more chosen xs ys x n k j m count is before made =
    let last : event_for ys n ≡ x = ap (λ (v : List (Option Event)). event_for v n) is ∙ ap (event_for (xs ++ x ∷ [])) (sym count) ∙ pushed_last xs x in
    subst (λ q. LoadsChosen chosen (event_for ys) q k m) (sym (add-one n)) (
      j,
      chosen_same chosen (event_for xs) (event_for ys) n k j
          (λ t l. sym (ap (λ (v : List (Option Event)). event_for v t) is ∙ pushed_before xs x t (omega arith))) before,
      subst (λ o. IfAsked (chosen n) (FindsEvent n o) j m) (sym last) made,
    )

pub others_more :
    (chosen : ℕ → Bool) (xs ys : List (Option Event)) (x : Option Event) (n : ℕ) → length xs ≡ n → ys ≡ xs ++ x ∷ [] →
    ((t : ℕ) → chosen t ≡ false → event_for xs t ≡ None) → (chosen n ≡ false → x ≡ None) → (t : ℕ) → chosen t ≡ false → event_for ys t ≡ None
others_more chosen xs ys x n count is before here t off =
    ap (λ (v : List (Option Event)). event_for v t) is
    ∙ elim (cases_lt t n) [
      | inl less ↦ pushed_before xs x t (omega arith) ∙ before t off
      | inr more ↦ elim (cases_eq t n) [
        | inl same ↦ ap (event_for (xs ++ x ∷ [])) (same ∙ sym count) ∙ pushed_last xs x ∙ here (ap chosen (sym same) ∙ off)
        | inr other ↦ pushed_past xs x t (omega arith)
      ]
    ]

-- the loads of a row, with one more
pub finds_none : (t : ℕ) (k : Known) (list : List Member) → list ≡ [] → FindsRow 0 t list k k
finds_none t k list none =
    record { phases = λ p. None; loads = refl; listed = none; numbers = subst (All HasPhaseNumbers) (sym none) (λ i d l. absurd (omega arith)) }

pub finds_more :
    (p t : ℕ) (answer : Option ℕ) (list now_list : List Member) (k j m : Known) → FindsRow p t list k j → AnswersPhase t p answer j m →
    now_list ≡ list ++ option_to_list (option_map (λ n. record { p = record { 0 = p }; n = n }) answer) → All HasPhaseNumbers now_list → FindsRow (p + 1) t now_list k m
finds_more p t answer list now_list k j m before load more numbers =
    let g : Phases = with_phase (λ u. before.phases) t p answer t in
    let same : (q : ℕ) → q < p → listed_phase (λ r. true) before.phases q ≡ listed_phase (λ r. true) g q =
    λ q l. ap (λ o. option_map (λ n. record { p = record { 0 = q }; n = n }) o) (sym (with_phase_other (λ u. before.phases) t p answer t q (λ e s. absurd (omega arith)))) in
    let here : option_map (λ n. record { p = record { 0 = p }; n = n }) answer ≡ listed_phase (λ r. true) g p =
    ap (λ o. option_map (λ n. record { p = record { 0 = p }; n = n }) o) (sym (with_phase_same (λ u. before.phases) t p answer)) in
    record {
      phases = g;
      loads =
          row_more (λ r. true) t (λ u. before.phases) (with_phase (λ u. before.phases) t p answer) p answer k j m before.loads refl load refl;
      listed =
          more
          ∙ ap (λ xs. xs ++ option_to_list (option_map (λ n. record { p = record { 0 = p }; n = n }) answer))
          (before.listed ∙ given_below_same (listed_phase (λ r. true) before.phases) (listed_phase (λ r. true) g) p same)
          ∙ ap (λ o. given_below (listed_phase (λ r. true) g) p ++ option_to_list o) here
          ∙ ap (given_below (listed_phase (λ r. true) g)) (sym (add-one p));
      numbers = numbers;
    }

all_none : {A : Type 0} (P : A → Type 0) → All P []
all_none P i d l = absurd (omega arith)

-- nothing was found of the first no tasks
pub rows_none : (plan : Plan) (events : ℕ → Option Event) (k : Known) (list : List Status) → list ≡ [] → FindsRows plan events 0 list k k
rows_none plan events k list none =
    record {
      found = record opening { published = events };
      published = refl;
      loads = refl;
      listed = none;
      numbers = subst (All HasNumbers) (sym none) (all_none HasNumbers);
    }

module _ (plan : Plan) (events : ℕ → Option Event) (t : ℕ) (list now_list : List Status) (k j m : Known) (before : FindsRows plan events t list k j) where
  abbrev all : ℕ → Bool
  all p = true

  abbrev phasers : ℕ
  phasers = length plan.makers

  -- the numbers of one status more, or none
  numbers_more : (status : Option Status) → ((s : Status) → status ≡ Some s → HasNumbers s) → now_list ≡ list ++ option_to_list status → All HasNumbers now_list
  numbers_more None small more = subst (All HasNumbers) (sym (more ∙ append-nil list)) before.numbers
  numbers_more (Some s) small more =
      subst (All HasNumbers) (sym more) (All-append HasNumbers list (s ∷ []) before.numbers (one (small s refl)))
    where
      one : HasNumbers s → All HasNumbers (s ∷ [])
      one has zero d l = has
      one has (suc i) d l = absurd (omega arith)

  pub rows_one_more :
      (status : Option Status) → FindsStatus phasers t (events t) status j m → now_list ≡ list ++ option_to_list status → FindsRows plan events (t + 1) now_list k m
  rows_one_more status finds more = by_event (events t) refl finds
    where
      here : before.found.published t ≡ events t
      here = ap (λ h. h t) before.published

      by_event : (o : Option Event) → events t ≡ o → FindsStatus phasers t o status j m → FindsRows plan events (t + 1) now_list k m
      by_event None is f =
          record {
            found = before.found;
            published = before.published;
            loads = subst (LoadsRows phasers all before.found (t + 1) k) (sym f.loads) (rows_skip phasers all before.found t k j before.loads (ap is_some (here ∙ is)));
            listed =
                more
                ∙ ap (λ xs. xs ++ option_to_list status) before.listed
                ∙ ap (λ o. given_below (status_of plan before.found all) t ++ option_to_list o) (f.status_is ∙ sym
                (ap (option_map (whole_status phasers t (before.found.phases t))) (here ∙ is)))
                ∙ ap (given_below (status_of plan before.found all)) (sym (add-one t));
            numbers = numbers_more status f.numbers more;
          }
      by_event (Some e) is f =
          let s = before.found in
          let g : State = record s { phases = updated s.phases t f.phases } in
          let own : g.phases t ≡ f.phases = updated_same s.phases t t f.phases refl in
          let same : (u : ℕ) → u < t → status_of plan s all u ≡ status_of plan g all u =
          λ u l. ap (λ (h : Phases). option_map (whole_status phasers u h) (s.published u)) (sym (updated_other s.phases t u f.phases (λ e. absurd (omega arith)))) in
          let status_is : status ≡ status_of plan g all t =
          f.status_is ∙ ap (option_map (whole_status phasers t f.phases)) (sym (here ∙ is))
          ∙ ap (λ (h : Phases). option_map (whole_status phasers t h) (s.published t)) (sym own) in
          record {
            found = g;
            published = before.published;
            loads =
                rows_more phasers all s g t k j m before.loads (ap is_some (here ∙ is)) (subst (λ (h : Phases). LoadsRow all t h phasers j m) (sym own) f.loads) refl
                (λ u n. updated_other s.phases t u f.phases n);
            listed =
                more
                ∙ ap (λ xs. xs ++ option_to_list status) (before.listed ∙ given_below_same (status_of plan s all) (status_of plan g all) t same)
                ∙ ap (λ o. given_below (status_of plan g all) t ++ option_to_list o) status_is
                ∙ ap (given_below (status_of plan g all)) (sym (add-one t));
            numbers = numbers_more status f.numbers more;
          }
