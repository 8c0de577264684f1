-- The viewers of the sites and the rows of their keeper, from pass to pass, and at the end of a run.
use mathlib.Core.Path.{fun_ext}
use Rattle.std.proofs.Common.{◌≡◌, ℕ, zero, suc, ◌<◌, ◌≤◌, Bool, true, false, List, [], ◌∷◌, All}
use Rattle.std.proofs.Common.{Option, Some, None, length, get_or, replicate, sym, refl, ap, ◌∙◌, subst, arith, inl, inr}
use Rattle.std.specs.Prelude.{slice_get}
use Rattle.std.specs.List.{filter}
use Rattle.std.proofs.lemmas.List.{length-replicate}
use Rattle.std.proofs.lemmas.Option.{slice_get_within}
use Rattle.armus_base.specs.declared.ending.Final.{Final}
use Rattle.armus_base.specs.declared.event.Event.{Event}
use Rattle.armus_base.specs.declared.status.Status.{Status}
use Rattle.armus_base.specs.calls.Boards.{IsLawful}
use Rattle.armus_base.specs.CheckedPlans.{IsCheckedPlan}
use Rattle.armus_base.specs.Deadlocks.{IsListedAt, IsListedOn}
use Rattle.armus_base.specs.calls.FinalLaws.{AreStatuses}
use Rattle.armus_base.specs.Finals.{status_of}
use Rattle.armus_base.specs.calls.Finals.{statuses_of}
use Rattle.armus_base.specs.calls.Places.{phases_at_place}
use Rattle.armus_base.specs.Places.{published_after, state_at}
use Rattle.armus_base.specs.Plans.{Plan}
use Rattle.armus_base.specs.calls.Runs.{IsPrefix}
use Rattle.armus_base.specs.Runs.{Place, first_place, state_after}
use Rattle.armus_base.specs.calls.Seats.{IsAsFarOn, SeenBy}
use Rattle.armus_base.specs.calls.Statuses.{IsInOrder}
use Rattle.armus_base.proofs.Below.{given_few}
use Rattle.armus_base.proofs.BoardRuns.{opening_is_lawful, plain_is_lawful}
use Rattle.armus_base.proofs.FoundArePublished.{published_within}
use Rattle.armus_base.proofs.Places.{precedes_itself}
use Rattle.armus_base.proofs.Reachable.{reachable_is_fixed}
use Rattle.armus_base.proofs.StatusesAre.{statuses_are}
use Rattle.board.specs.declared.mode.Mode.{Mode}
use Rattle.board.specs.declared.mode.Mode.TheVariants.{Detect}
use Rattle.board.specs.calls.Seats.{Frame, IsNewSeat, IsOf, Known, nothing_seen}
use Rattle.board.specs.calls.Views.{avoids, seen}
use Rattle.phase_scan.proofs.Standing.{phases_begun_at, published_begun}
use Rattle.phase_scan.proofs.Loads.{prefix_both}
use Rattle.pl_core.specs.calls.Worlds.{places_of, state_of}
use Rattle.sites.specs.calls.Checks.{part_of}
use Rattle.sites.specs.calls.Keeping.{held}
use Rattle.sites.specs.calls.Parts.{HoldParts, PutsParts}
use Rattle.sites.specs.calls.Passes.{AreBacked, ChangesRows, HaveLookedOn}
use Rattle.sites.specs.calls.Rows.{IsRowOf, is_of_site}
use Rattle.sites.specs.calls.Snaps.{HasLookedOn, HasSeenLawful, IsBacked}
use Rattle.sites.proofs.Gathered.{passed_is}
use Rattle.sites.proofs.PassSteps.{is_there, some_one}
use Rattle.world_runs.specs.calls.EndWorlds.{IsWorldEnd}
use Rattle.world_runs.specs.declared.ending.WorldEnd.{WorldEnd}
use Rattle.task_runner.specs.calls.SiteRuns.{HoldFinal, HoldRowsOfRun, IsRowOfRun}
use Rattle.task_runner.specs.inside.SiteRounds.{AreWatching, IsWholeEnd}

-- before the first pass no row is held
none_held : (n site : ℕ) → held (replicate n None) site ≡ None
none_held zero site = refl
none_held (suc n) zero = refl
none_held (suc n) (suc site) = none_held n site

-- what a new viewer has seen is so at the opening
pub new_lawful : (f : Frame) (k : Known) → IsNewSeat f None nothing_seen k → HasSeenLawful k
new_lawful f k new =
    record {
      places = λ t. first_place;
      lock = None;
      lawful = opening_is_lawful (avoids k.view.mode) k.view.plan;
      far = subst (λ (s : SeenBy). IsAsFarOn k.view.plan None (λ t. first_place) s) (sym new.seen_is)
          (record { later = λ t l. omega arith; equal = λ t l is. refl; scanned = λ t is. absurd (cc) });
    }

pub watching_first :
    (f : Frame) (sites : ℕ) (views : List Known) (rows : List (Option (List ℕ))) → 1 ≤ sites → sites ≤ 8 → All (IsNewSeat f None nothing_seen) views →
    length views ≡ sites → rows ≡ replicate sites None → AreWatching f (length rows) views rows
watching_first f sites views rows some few new count none =
    let kept : length rows ≡ sites = ap length none ∙ length-replicate sites None in
    record {
      made = λ i d l. (new i d l).of_board;
      lawful = λ i d l. new_lawful f (get_or views i d) (new i d l);
      some = omega arith;
      few = omega arith;
      count = count ∙ sym kept;
      kept = refl;
      backed = λ site row k there has. absurd (let nothing : held rows site ≡ None = ap (λ rs. held rs site) none ∙ none_held sites site in cc);
    }

got : (xs : List Known) (i : ℕ) (d : Known) → i < length xs → slice_get xs i ≡ Some (get_or xs i d)
got [] i d l = absurd (omega arith)
got (x ∷ xs) zero d l = refl
got (x ∷ xs) (suc i) d l = got xs i d (omega arith)

-- what holds of each viewer holds of that of a site
at_site : (P : Known → Type 0) (xs : List Known) (i : ℕ) (k : Known) → All P xs → slice_get xs i ≡ Some k → P k
at_site P xs i k all is =
    let l = slice_get_within xs i k is in
    subst P (some_one (get_or xs i k) k (sym (got xs i k l) ∙ is)) (all i k l)

lawful_later : (k m : Known) → HasSeenLawful k → HasLookedOn k m → HasSeenLawful m
lawful_later k m lawful (inl same) = subst HasSeenLawful (sym same) lawful
lawful_later k m lawful (inr looked) = looked.1

-- after a pass
pub watching_after :
    (f : Frame) (sites : ℕ) (before now : List Known) (old new : List (Option (List ℕ))) → AreWatching f sites before old → HaveLookedOn f before now →
    ChangesRows f.plan old new now → (AreBacked f.plan old before → AreBacked f.plan new now) → AreWatching f sites now new
watching_after f sites before now old new w looked changes keeps =
    record {
      made = λ i d l. (made_and_looked i d l).0;
      lawful = λ i d l. (made_and_looked i d l).1;
      some = w.some;
      few = w.few;
      count = looked.count ∙ w.count;
      kept = changes.sites ∙ w.kept;
      backed = keeps w.backed;
    }
  where
    made_and_looked : (i : ℕ) (d : Known) → i < length now → IsOf (get_or now i d) f × HasSeenLawful (get_or now i d)
    made_and_looked i d l =
        let (k, there) = is_there before i (λ m. let count = looked.count in omega arith) in
        let each = looked.each i k (get_or now i d) there (got now i d l) in
        (each.0, lawful_later k (get_or now i d) (at_site HasSeenLawful before i k w.lawful there) each.1)

-- what is backed by places is backed by those that are as far on
backed_at :
    (plan : Plan) (ss : List Status) (from a : ℕ → Place) → IsCheckedPlan plan → IsBacked plan ss from → ((u : ℕ) → u < length plan.parents → IsPrefix (from u) (a u)) →
    IsBacked plan ss a
backed_at plan ss from a checked b far =
    record {
      at = b.at;
      found = b.found;
      there = record {
        waiting = b.there.waiting;
        before = λ u e one is. prefix_both (b.at u) (from u) (a u) (b.there.before u e one is) (far u (within u e is));
        phases = b.there.phases;
        phases_before = λ u p n one is.
            prefix_both (b.found u p) (from u) (a u) (b.there.phases_before u p n one is) (far u (within u is.0.event (is.0, is.1, is.2, refl)));
      };
    }
  where
    within : (u : ℕ) (e : Event) → IsListedOn ss u e → u < length plan.parents
    within u e is = published_within plan checked b.at u e (b.there.waiting u e tt is)

-- what is held between passes
pub rows_watched :
    (f : Frame) (plan : Plan) (sites : ℕ) (views : List Known) (rows : List (Option (List ℕ))) → f.plan ≡ plan → f.mode ≡ Detect → IsCheckedPlan plan →
    AreWatching f sites views rows → HoldRowsOfRun plan sites rows
rows_watched f plan sites views rows of_plan detects checked w = record { count = w.kept; each = each }
  where
    each : (site : ℕ) (row : List ℕ) → site < sites → held rows site ≡ Some row → IsRowOfRun plan sites site row
    each site row l has =
        let (k, there) = is_there views site (λ m. let count = w.count in omega arith) in
        let (ss, of, backed) = w.backed site row k there has in
        let made = at_site (λ v. IsOf v f) views site k w.made there in
        let s = at_site HasSeenLawful views site k w.lawful there in
        let plan_is : k.view.plan ≡ plan = made.plan ∙ of_plan in
        record {
          list = ss;
          stored = subst (λ c. IsRowOf c site ss row) w.count of;
          places = s.places;
          lock = s.lock;
          lawful = subst (λ (q : Plan). IsLawful false q s.places s.lock) plan_is
              (subst (λ (d : Mode). IsLawful (avoids d) k.view.plan s.places s.lock) (made.mode ∙ detects) s.lawful);
          backed =
              backed_at plan ss (seen k.view).places s.places checked (subst (λ (q : Plan). IsBacked q ss (seen k.view).places) of_plan backed)
              (λ u small. s.far.later u (subst (λ (q : Plan). u < length q.parents) (sym plan_is) small));
        }

-- what is held after the rounds of a run
pub rows_of_rounds :
    (f : Frame) (plan : Plan) (sites : ℕ) (viewer : Known) (views : List Known) (old new : List (Option (List ℕ))) → f.plan ≡ plan → f.mode ≡ Detect →
    IsNewSeat f None nothing_seen viewer → old ≡ replicate sites None → AreWatching f (length old) views new → HoldRowsOfRun plan sites new
rows_of_rounds f plan sites viewer views old new of_plan detects first none w =
    let count : length old ≡ sites = ap length none ∙ length-replicate sites None in
    rows_watched f plan sites views new of_plan detects (subst IsCheckedPlan (first.of_board.plan ∙ of_plan) first.kept.checked)
    (subst (λ n. AreWatching f n views new) count w)

-- a part of what is backed is backed
part_backed : (plan : Plan) (own : Status → Bool) (ss : List Status) (a : ℕ → Place) → IsBacked plan ss a → IsBacked plan (filter own ss) a
part_backed plan own ss a b =
    record {
      at = b.at;
      found = b.found;
      there = record {
        waiting = λ u e one is. b.there.waiting u e one (on u e is);
        before = λ u e one is. b.there.before u e one (on u e is);
        phases = λ u p n one is. b.there.phases u p n one (at u p n is);
        phases_before = λ u p n one is. b.there.phases_before u p n one (at u p n is);
      };
    }
  where
    on : (u : ℕ) (e : Event) → IsListedOn (filter own ss) u e → IsListedOn ss u e
    on u e is = (is.0, (passed_is own ss is.0 is.1).0, is.2, is.3)

    at : (u p n : ℕ) → IsListedAt (filter own ss) u p n → IsListedAt ss u p n
    at u p n is = (is.0, (passed_is own ss is.0 is.1).0, is.2, is.3)

-- what is held once the parts of the final state's statuses are put, all or some
pub rows_put :
    (plan : Plan) (sites : ℕ) (end : Final) (ss : List Status) (old new : List (Option (List ℕ))) → HoldRowsOfRun plan sites old → IsWholeEnd plan end ss →
    PutsParts sites ss old new → HoldRowsOfRun plan sites new
rows_put plan sites end ss old new own whole puts =
    record {
      count = puts.count ∙ own.count;
      each = λ site row l has. elim (puts.each site l) [
        | inl same ↦ own.each site row l (sym same ∙ has)
        | inr (bytes, is, stored) ↦ record {
          list = part_of sites site ss;
          stored = subst (IsRowOf sites site (part_of sites site ss)) (some_one bytes row (sym is ∙ has)) stored;
          places = whole.places;
          lock = None;
          lawful = whole.lawful;
          backed = part_backed plan (λ s. is_of_site sites site s.t.0) ss whole.places whole.backed;
        }
      ];
    }

-- the statuses of a lawful state are backed by its places
exact_backed :
    (plan : Plan) (a : ℕ → Place) (ss : List Status) → IsCheckedPlan plan → IsLawful false plan a None → ss ≡ statuses_of plan (state_at plan a) → IsBacked plan ss a
exact_backed plan a ss checked lawful ss_is =
    record {
      at = a;
      found = λ u p. a u;
      there = record {
        waiting = published;
        before = λ u e one is. precedes_itself (a u).done (a u).dropped;
        phases = λ u p n one is. (precedes_itself (a u).done (a u).dropped, phase u p n is);
        phases_before = λ u p n one is. precedes_itself (a u).done (a u).dropped;
      };
    }
  where
    are : AreStatuses plan (state_at plan a) (λ p. true) ss
    are = subst (AreStatuses plan (state_at plan a) (λ p. true)) (sym ss_is) (statuses_are plan (state_at plan a) (λ p. true) checked)

    published : (u : ℕ) (e : Event) → Unit {0} → IsListedOn ss u e → published_after plan u (a u).done ≡ Some e
    published u e one is = ((are.events u e).0 is).1

    phase : (u p n : ℕ) → IsListedAt ss u p n → phases_at_place plan u (a u) p ≡ Some n
    phase u p n is =
        let begun = published_begun plan checked u (a u).done is.0.event (published u is.0.event tt (is.0, is.1, is.2, refl)) in
        ap (λ m. m p) (sym (phases_begun_at plan checked false a None lawful u begun)) ∙ ((are.phases u p n).0 is).phase

-- of the world in which a run ends: the final state, and its statuses
pub whole_end :
    (plan : Plan) (e : WorldEnd) (list : List Status) → IsCheckedPlan plan → IsWorldEnd plan e → list ≡ statuses_of e.world.plan (state_of e.world) → IsWholeEnd plan e.end list
unfolding state_of
whole_end plan e list checked of list_is =
    record {
      plain = of.plain;
      statuses = list_here ∙ ap (statuses_of plan) (sym same ∙ of.plain.every of.world.steps of.world.run of.world.maximal);
      in_order = subst IsInOrder (sym list_here) (statuses_are plan (state_at plan a) (λ p. true) checked).in_order;
      few =
          (let count = ap length list_here in let few = given_few (status_of plan (state_at plan a) (λ p. true)) (length plan.parents) in
          let limit = checked.limits.few_tasks in omega arith);
      places = a;
      lawful = there;
      backed = exact_backed plan a list checked there list_here;
    }
  where
    a : ℕ → Place
    a = places_of e.world

    list_here : list ≡ statuses_of plan (state_at plan a)
    list_here = subst (λ (q : Plan). list ≡ statuses_of q (state_at q (places_of e.world))) of.world.plan_is list_is

    same : state_after of.world.steps ≡ state_at plan a
    same = (reachable_is_fixed plan a checked (record { steps = of.world.steps; run = of.world.run.0; there = of.world.there })).0

    there : IsLawful false plan a None
    there = subst (λ (b : ℕ → Place). IsLawful false plan b None) (fun_ext of.world.there) (plain_is_lawful plan of.world.steps of.world.run)

-- the keeper holds it
pub final_held :
    (plan : Plan) (sites : ℕ) (rows : List (Option (List ℕ))) (end : Final) (list : List Status) → IsWholeEnd plan end list → HoldParts sites rows list →
    HoldFinal plan sites rows end
final_held plan sites rows end list w parts =
    record { state = w.plain.state; final = w.plain.final; is_it = w.plain.is_it; parts = subst (HoldParts sites rows) w.statuses parts }
