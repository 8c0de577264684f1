-- Rows of different moments, checked as one: who is dead by them is dead, and who was known to be dead is.
use Rattle.std.proofs.Common.{◌≡◌, ℕ, ◌<◌, ◌≤◌, ◌%◌, Bool, true, List, [], ◌∷◌, Option, Some, None, length, get_or, sym, refl, ap, ◌∙◌, subst, arith, eq-eqb}
use Rattle.std.specs.Prelude.{Contains, slice_get}
use Rattle.std.proofs.lemmas.Option.{slice_get-get_or, slice_get_within, get_or_from_slice_get}
use Rattle.armus_base.specs.declared.event.Event.{Event}
use Rattle.armus_base.specs.declared.status.Status.{Status}
use Rattle.armus_base.specs.Plans.{Blocks, Plan}
use Rattle.armus_base.specs.calls.Runs.{IsPrefix}
use Rattle.armus_base.specs.Runs.{Place}
use Rattle.armus_base.specs.Places.{published_after, state_at}
use Rattle.armus_base.specs.CheckedPlans.{IsCheckedPlan}
use Rattle.armus_base.specs.calls.Boards.{IsLawful}
use Rattle.armus_base.specs.Deadlocks.{IsAtPhase, IsDeadBy, IsDeadlockedSet, IsImpededWithin, IsListedAt, IsListedOn, IsPublishedOn}
use Rattle.armus_base.specs.calls.Decisions.{HasFound}
use Rattle.armus_base.specs.calls.Seats.{IsAsFarOn}
use Rattle.armus_base.proofs.BoardRuns.{lawful_is_reachable}
use Rattle.armus_base.proofs.Elements.{nothing_in_nil}
use Rattle.armus_base.proofs.Published.{published_after_is}
use Rattle.armus_base.proofs.Reachable.{collected_is_dead_at_reachable}
use Rattle.armus_base.proofs.Tasks.{action_of_task}
use Rattle.board.specs.declared.mode.Mode.{Mode}
use Rattle.board.specs.calls.Seats.{Known}
use Rattle.board.specs.calls.Views.{avoids, seen}
use Rattle.phase_scan.proofs.Loads.{prefix_both, published_phaser}
use Rattle.phase_scan.proofs.Standing.{phases_begun_at, published_begun}
use Rattle.sites.specs.calls.Checks.{AreAll, IsStored, part_of}
use Rattle.sites.specs.calls.Keeping.{held}
use Rattle.sites.specs.calls.Passes.{AreBacked, IsDeadToAll}
use Rattle.sites.specs.calls.Rows.{IsRowOf, is_of_site}
use Rattle.sites.specs.calls.Snaps.{IsBacked, IsListedWhole}
use Rattle.sites.proofs.Gathered.{passed_from, passed_is}
use Rattle.sites.proofs.OneList.{one_list_of}
use Rattle.sites.proofs.Snapped.{nothing_backed}

-- an element of a list has a place in it
pub at_place : {A : Type 0} (xs : List A) (i : ℕ) (x : A) → slice_get xs i ≡ Some x → Contains xs x
at_place xs i x is = (i, slice_get_within xs i x is, get_or_from_slice_get xs i x x is)

-- the statuses of a task are those of its site
module _ (sites : ℕ) (list : List Status) where
  abbrev pub own_part : ℕ → List Status
  own_part u = part_of sites (u % sites) list

  abbrev own_test : ℕ → Status → Bool
  own_test u s = is_of_site sites (u % sites) s.t.0

  of_own : (u : ℕ) (s : Status) → s.t.0 ≡ u → own_test u s ≡ true
  of_own u s e = eq-eqb (s.t.0 % sites) (u % sites) (ap (λ t. t % sites) e)

  pub listed_own : (u : ℕ) (e : Event) → IsListedOn list u e → IsListedOn (own_part u) u e
  listed_own u e (s, inside, same, event) = (s, passed_from (own_test u) list s inside (of_own u s same), same, event)

  pub phase_own : (u p n : ℕ) → IsListedAt list u p n → IsListedAt (own_part u) u p n
  phase_own u p n (s, inside, same, phase) = (s, passed_from (own_test u) list s inside (of_own u s same), same, phase)

  pub own_listed : (u : ℕ) (e : Event) → IsListedOn (own_part u) u e → IsListedOn list u e
  own_listed u e (s, inside, same, event) = (s, (passed_is (own_test u) list s inside).0, same, event)

  pub own_phase_listed : (u p n : ℕ) → IsListedAt (own_part u) u p n → IsListedAt list u p n
  own_phase_listed u p n (s, inside, same, phase) = (s, (passed_is (own_test u) list s inside).0, same, phase)

-- what is held of a site stores its part of the list, so the part is what the row is known to store
pub part_is : (sites site : ℕ) (rows : List (Option (List ℕ))) (list ss : List Status) (row : List ℕ) → IsStored sites site list (held rows site) →
    held rows site ≡ Some row → IsRowOf sites site ss row → ss ≡ part_of sites site list
part_is sites site rows list ss row stored is of =
    one_list_of sites site ss (part_of sites site list) row of (subst (IsStored sites site list) is stored)

-- backed rows: whoever is dead by all their statuses is dead in each lawful state as far on as what all viewers have seen
module _ (plan : Plan) (mode : Mode) (views : List Known) (rows : List (Option (List ℕ))) (list : List Status) (checked : IsCheckedPlan plan) (some : 1 ≤ length views)
    (all : AreAll (length views) rows list) (backed : AreBacked plan rows views) where
  abbrev sites : ℕ
  sites = length views

  small : (u : ℕ) → u % sites < sites
  small u = omega arith

  -- the viewer of a site
  record ViewerOf (site : ℕ) : Type 0 where
    view : Known
    is : slice_get views site ≡ Some view

  viewer_of : (site : ℕ) → site < sites → ViewerOf site
  viewer_of site l = by_views views refl
    where
      by_views : (vs : List Known) → vs ≡ views → ViewerOf site
      by_views [] e = absurd (let none : length views ≡ 0 = ap length (sym e) in omega arith)
      by_views (v ∷ vs) e = record { view = get_or views site v; is = slice_get-get_or views site v l }

  site_backed : (site : ℕ) (l : site < sites) → IsBacked plan (part_of sites site list) (seen (viewer_of site l).view.view).places
  site_backed site l = by_row (held rows site) refl (all.each site l)
    where
      by_row : (o : Option (List ℕ)) → held rows site ≡ o → IsStored sites site list o → IsBacked plan (part_of sites site list) (seen (viewer_of site l).view.view).places
      by_row None is none = nothing_backed plan (part_of sites site list) (seen (viewer_of site l).view.view).places
          (λ s m. nothing_in_nil s (subst (λ ss. Contains ss s) none m))
      by_row (Some row) is stored =
          let (ss, of, has) = backed site row (viewer_of site l).view (viewer_of site l).is is in
          subst (λ v. IsBacked plan v (seen (viewer_of site l).view.view).places) (one_list_of sites site ss (part_of sites site list) row of stored) has

  own_backed : (u : ℕ) → IsBacked plan (own_part sites list u) (seen (viewer_of (u % sites) (small u)).view.view).places
  own_backed u = site_backed (u % sites) (small u)

  abbrev at : ℕ → Place
  at u = (own_backed u).at u

  abbrev found : ℕ → ℕ → Place
  found u p = (own_backed u).found u p

  on_at : (u : ℕ) (e : Event) → IsListedOn list u e → published_after plan u (at u).done ≡ Some e
  on_at u e is = (own_backed u).there.waiting u e tt (listed_own sites list u e is)

  within : (u : ℕ) (e : Event) → IsListedOn list u e → u < length plan.parents
  within u e is = (let by = published_after_is plan u (at u).done e (on_at u e is) in action_of_task plan checked u by.0 (Blocks by.2) by.4)

  module _ (a : ℕ → Place) (far : (k : Known) → Contains views k → IsAsFarOn plan None a (seen k.view)) where
    later : (u : ℕ) (b : Place) (e : Event) → IsListedOn list u e → IsPrefix b ((seen (viewer_of (u % sites) (small u)).view.view).places u) → IsPrefix b (a u)
    later u b e is near =
        let v = viewer_of (u % sites) (small u) in
        prefix_both b ((seen v.view.view).places u) (a u) near ((far v.view (at_place views (u % sites) v.view v.is)).later u (within u e is))

    merged : (tasks : ℕ → Bool) → HasFound plan (λ u. tasks u ≡ true) list at found a
    merged tasks =
        record {
          waiting = λ u e inside is. on_at u e is;
          before = λ u e inside is. later u (at u) e is ((own_backed u).there.before u e tt (listed_own sites list u e is));
          phases = λ u p n inside is. (own_backed u).there.phases u p n tt (phase_own sites list u p n is);
          phases_before = λ u p n inside is.
              later u (found u p) is.0.event (is.0, is.1, is.2, refl) ((own_backed u).there.phases_before u p n tt (phase_own sites list u p n is));
        }

  pub merged_dead : (t : ℕ) → IsDeadBy list t → IsDeadToAll plan mode views t
  merged_dead t dead a lock lawful far =
      let there = collected_is_dead_at_reachable plan a list dead.tasks at found checked (lawful_is_reachable (avoids mode) plan a lock lawful) dead.deadlocked
      (merged a far dead.tasks) in
      record { tasks = dead.tasks; inside = dead.inside; deadlocked = there.1 }

-- a set that is deadlocked in a lawful state, and each of whose tasks is listed as it stands there, is deadlocked in the list
pub set_listed :
    (plan : Plan) (mode : Mode) (list : List Status) (tasks : ℕ → Bool) (places : ℕ → Place) (lock : Option ℕ) → IsCheckedPlan plan → IsLawful (avoids mode) plan places lock →
    IsDeadlockedSet (IsPublishedOn (state_at plan places)) (IsAtPhase (state_at plan places)) tasks →
    ((u : ℕ) (e : Event) → tasks u ≡ true → published_after plan u (places u).done ≡ Some e → IsListedWhole plan list u (places u) e) →
    IsDeadlockedSet (IsListedOn list) (IsListedAt list) tasks
set_listed plan mode list tasks places lock checked lawful deadlocked whole = record { some = deadlocked.some; each = each }
  where
    each : (u : ℕ) → tasks u ≡ true → IsImpededWithin (IsListedOn list) (IsListedAt list) tasks u
    each u inside =
        let held = deadlocked.each u inside in
        let other = deadlocked.each held.by held.inside in
        let phaser = published_phaser plan checked u (places u).done held.event held.waits in
        let begun = published_begun plan checked held.by (places held.by).done other.event other.waits in
        let stands = ap (λ m. m held.event.p.0) (phases_begun_at plan checked (avoids mode) places lock lawful held.by begun) in
        record {
          event = held.event;
          waits = (whole u held.event inside held.waits).listed;
          by = held.by;
          inside = held.inside;
          phase = held.phase;
          impedes = ((whole held.by other.event held.inside other.waits).phases held.event.p.0 held.phase phaser).0 (sym stands ∙ held.impedes);
          below = held.below;
        }
