-- Where only one state is possible, a collect finds its statuses.
use mathlib.Core.Path.{fun_ext}
use Rattle.std.proofs.Common.{◌≡◌, ℕ, ◌<◌, Bool, true, false, List, Option, Some, None, length, sym, refl, ap, ◌∙◌, subst, arith}
use Rattle.std.specs.Prelude.{is_some, if◌then◌else◌, option_map}
use Rattle.std.proofs.lemmas.List.{get_or_past}
use Rattle.armus_base.specs.declared.event.Event.{Event}
use Rattle.armus_base.specs.declared.status.Member.{Member}
use Rattle.armus_base.specs.declared.status.Status.{Status}
use Rattle.armus_base.specs.Plans.{Plan}
use Rattle.armus_base.specs.States.{Phases, State}
use Rattle.armus_base.specs.Runs.{Place, first_place}
use Rattle.armus_base.specs.Places.{state_at}
use Rattle.armus_base.specs.CheckedPlans.{IsCheckedPlan}
use Rattle.armus_base.specs.calls.Boards.{IsLawful}
use Rattle.armus_base.specs.Deadlocks.{IsDeadIn}
use Rattle.armus_base.specs.Finals.{given_below, is_awaited, is_event_of, listed_phase, status_of, statuses_on}
use Rattle.armus_base.specs.calls.Seats.{IsAsFarOn, found_by}
use Rattle.armus_base.proofs.Below.{given_below_same}
use Rattle.board.specs.calls.Views.{avoids, seen}
use Rattle.board.specs.calls.Words.{found_in}
use Rattle.board.specs.calls.Seats.{IsSeat, Known}
use Rattle.board.proofs.Closing.{exact_places}
use Rattle.phase_scan.specs.calls.Collects.{IsCollect, waiting_on}
use Rattle.phase_scan.specs.calls.Settled.{KnowsAll, TellsState}
use Rattle.phase_scan.proofs.Loads.{goes_both}
use Rattle.phase_scan.proofs.Farther.{possible_before}
use Rattle.phase_scan.proofs.Keeping.{some_same}
use Rattle.phase_scan.proofs.FoundPlaces.{IsLoaded, phase}
use Rattle.phase_scan.proofs.Telling.{await, awaits, gathers, seat, some_possible}

-- what an await word says is waiting just where its task is published
waiting_is : (o r : Option Event) → waiting_on (found_by o r) ≡ o
waiting_is None None = refl
waiting_is None (Some e) = refl
waiting_is (Some e) r = refl

abbrev listed_if : ℕ → Bool → Option ℕ → Option Member
listed_if p b o = if b then option_map (λ n. record { p = record { 0 = p }; n = n }) o else None

listed_same : (asked : ℕ → Bool) (m w : Phases) (p : ℕ) → (asked p ≡ true → m p ≡ w p) → listed_phase asked m p ≡ listed_phase asked w p
listed_same asked m w p same = by_test (asked p) same
  where
    by_test : (b : Bool) → (b ≡ true → m p ≡ w p) → listed_if p b (m p) ≡ listed_if p b (w p)
    by_test true h = ap (listed_if p true) (h refl)
    by_test false h = refl

abbrev with_phases : ℕ → List Member → Option Event → Option Status
with_phases t ps o = option_map (λ e. record { t = record { 0 = t }; event = e; phases = ps }) o

abbrev members : Plan → (ℕ → Bool) → State → ℕ → List Member
members plan asked q t = given_below (listed_phase asked (q.phases t)) (length plan.makers)

-- the statuses of two states that agree on who is published, and on the phases of these on the asked phasers
statuses_same :
    (plan : Plan) (s r : State) (asked : ℕ → Bool) → ((t : ℕ) → t < length plan.parents → s.published t ≡ r.published t) →
    ((t p : ℕ) → t < length plan.parents → is_some (s.published t) ≡ true → p < length plan.makers → asked p ≡ true → s.phases t p ≡ r.phases t p) →
    statuses_on plan s asked ≡ statuses_on plan r asked
statuses_same plan s r asked events phases =
    given_below_same (status_of plan s asked) (status_of plan r asked) (length plan.parents) (λ t l. by_event t (s.published t) (events t l) (phases t) l)
  where
    by_event :
        (t : ℕ) (o : Option Event) → o ≡ r.published t →
        ((p : ℕ) → t < length plan.parents → is_some o ≡ true → p < length plan.makers → asked p ≡ true → s.phases t p ≡ r.phases t p) → t < length plan.parents →
        with_phases t (members plan asked s t) o ≡ with_phases t (members plan asked r t) (r.published t)
    by_event t None is same l = ap (with_phases t (members plan asked r t)) is
    by_event t (Some e) is same l =
        ap (λ ps. with_phases t ps (Some e))
        (given_below_same (listed_phase asked (s.phases t)) (listed_phase asked (r.phases t)) (length plan.makers)
        (λ p few. listed_same asked (s.phases t) (r.phases t) p (same p l refl few)))
        ∙ ap (with_phases t (members plan asked r t)) is

module _ (before now : Known) (list : List Status) (checked : IsCheckedPlan before.view.plan) (some : 0 < length before.view.plan.parents)
    (c : IsCollect before.view.plan list before now) (a : ℕ → Place)
    (only : (b : ℕ → Place) (lock : Option ℕ) → IsLawful (avoids before.view.mode) before.view.plan b lock →
    IsAsFarOn before.view.plan before.view.own b (seen before.view) → b ≡ a) where
  plan : Plan
  plan = before.view.plan

  s : State
  s = state_at before.view.plan a

  start : IsSeat before
  start = seat before now list checked some c

  event_so : (t : ℕ) → t < length before.view.plan.parents → c.found.published t ≡ (state_at before.view.plan a).published t
  event_so t l =
      let x = await before now list checked some c t l in
      let was = possible_before before x.from x.to (λ r. found_in r t ≡ x.finds.answer) start x.goes_from x.finds.load.load.was in
      let there : found_in (state_at before.view.plan a) t ≡ x.finds.answer =
      subst (λ (b : ℕ → Place). found_in (state_at before.view.plan b) t ≡ x.finds.answer) (only was.places was.lock was.lawful was.far) was.holds in
      x.finds.waits ∙ ap waiting_on (sym there)
      ∙ waiting_is ((state_at before.view.plan a).published t) ((state_at before.view.plan a).refused t)

  phase_so : (t p : ℕ) → IsLoaded (gathers before now list checked some c) t p → c.found.phases t p ≡ (state_at before.view.plan a).phases t p
  phase_so t p is =
      let y = phase (gathers before now list checked some c) t p is in
      let goes = goes_both before c.between y.from (awaits before now list checked some c) y.goes_from in
      let was = possible_before before y.from y.to (λ r. r.phases t p ≡ c.found.phases t p) start goes y.load.load.was in
      sym (subst (λ (b : ℕ → Place). (state_at before.view.plan b).phases t p ≡ c.found.phases t p) (only was.places was.lock was.lawful was.far) was.holds)

  asked_same : is_awaited before.view.plan c.found ≡ is_awaited before.view.plan (state_at before.view.plan a)
  asked_same =
      fun_ext (λ p.
      some_same (λ t. is_event_of p (c.found.published t)) (λ t. is_event_of p ((state_at before.view.plan a).published t)) (length before.view.plan.parents)
      (λ t l. ap (is_event_of p) (event_so t l)))

  pub finds_state : list ≡ statuses_on before.view.plan (state_at before.view.plan a) (is_awaited before.view.plan (state_at before.view.plan a))
  finds_state =
      c.statuses
      ∙ statuses_same before.view.plan c.found (state_at before.view.plan a) (is_awaited before.view.plan c.found) event_so
      (λ t p l waits few on. phase_so t p ((l, refl), waits, few, on))
      ∙ ap (statuses_on before.view.plan (state_at before.view.plan a)) asked_same

-- where a seat knows all tasks exactly, its places are the only ones that are possible
pub only_seen :
    (k : Known) → IsSeat k → KnowsAll k → (b : ℕ → Place) (lock : Option ℕ) → IsLawful (avoids k.view.mode) k.view.plan b lock →
    IsAsFarOn k.view.plan k.view.own b (seen k.view) → b ≡ (seen k.view).places
only_seen k seat all b lock lawful far =
    exact_places k.view.plan k.view.mode b lock seat.checked lawful (seen k.view)
    (record { later = far.later; equal = far.equal; scanned = λ t is. absurd (none_some t is) }) all
    (λ t past. get_or_past k.view.sight.places t first_place (let c = seat.count in omega arith))
  where
    none_some : (t : ℕ) → None ≡ Some t → ⊥
    none_some t e = cc

pub tells_state :
    (before now : Known) (list : List Status) → IsCheckedPlan before.view.plan → 0 < length before.view.plan.parents → IsCollect before.view.plan list before now →
    KnowsAll before → TellsState list before
tells_state before now list checked some c all =
    let start = seat before now list checked some c in
    let only = only_seen before start all in
    let one = some_possible before now list checked some c in
    record {
      lawful = (one.lock, subst (λ (b : ℕ → Place). IsLawful (avoids before.view.mode) before.view.plan b one.lock) (only one.places one.lock one.lawful one.far) one.lawful);
      statuses = finds_state before now list checked some c (seen before.view).places only;
      dead = λ t. (
        λ known. subst (λ (b : ℕ → Place). IsDeadIn (state_at before.view.plan b) t) (only one.places one.lock one.lawful one.far) (known one.places one.lock one.lawful one.far),
        λ dead b lock lawful far. subst (λ (d : ℕ → Place). IsDeadIn (state_at before.view.plan d) t) (sym (only b lock lawful far)) dead,
      );
    }
