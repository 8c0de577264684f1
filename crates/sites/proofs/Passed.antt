-- What a pass over all sites says: whom it names.
use Rattle.std.proofs.Common.{◌≡◌, ℕ, ◌<◌, ◌≤◌, ◌%◌, Bool, true, List, Option, Some, None, length, sym, refl, ◌∙◌, subst, arith, eq-eqb}
use Rattle.std.specs.Prelude.{Contains, slice_get}
use Rattle.std.proofs.lemmas.Option.{slice_get_within}
use Rattle.armus_base.specs.declared.event.Event.{Event}
use Rattle.armus_base.specs.declared.ids.TaskId.{TaskId}
use Rattle.armus_base.specs.Plans.{Plan}
use Rattle.armus_base.specs.Runs.{Place}
use Rattle.armus_base.specs.Places.{published_after, state_at}
use Rattle.armus_base.specs.CheckedPlans.{IsCheckedPlan}
use Rattle.armus_base.specs.calls.Boards.{IsLawful}
use Rattle.armus_base.specs.Deadlocks.{IsAtPhase, IsDeadlockedSet, IsPublishedOn}
use Rattle.armus_base.specs.calls.Seats.{IsAsFarOn}
use Rattle.armus_base.proofs.FoundArePublished.{published_within}
use Rattle.adaptive.specs.declared.analysis.Analysis.{Analysis}
use Rattle.adaptive.specs.declared.analysis.Wanted.{Wanted}
use Rattle.board.specs.declared.mode.Mode.{Mode}
use Rattle.board.specs.calls.Seats.{Frame, IsOf, Known}
use Rattle.board.specs.calls.Views.{avoids, seen}
use Rattle.phase_scan.proofs.Standing.{dead_place}
use Rattle.sites.specs.calls.Checks.{AreAll, IsCheck, IsFirstBad}
use Rattle.sites.specs.calls.Keeping.{held}
use Rattle.sites.specs.calls.Passes.{AreBacked, HasSnapped, IsSetKnown, IsSetKnownToEach, IsSitePass}
use Rattle.sites.specs.calls.Rows.{AreOfSite, row_bytes}
use Rattle.sites.specs.calls.Snaps.{IsBacked, IsListedWhole, KnowsPlace}
use Rattle.sites.specs.inside.Passing.{HaveSnapped}
use Rattle.sites.proofs.Merging.{at_place, merged_dead, own_listed, own_part, own_phase_listed, part_is, phase_own, set_listed}
use Rattle.sites.proofs.PassSteps.{is_there, some_one}
use Rattle.sites.proofs.Snapped.{snap_possible}
use Rattle.phase_scan.proofs.Farther.{far_of_viewer}

module _ (f : Frame) (before now : List Known) (old rows : List (Option (List ℕ))) (made : (site : ℕ) (k : Known) → slice_get before site ≡ Some k →
    IsOf k f) (checked : IsCheckedPlan f.plan) (some : 1 ≤ length before) (s : HaveSnapped f (length before) (length before) before now old rows) where
  abbrev sites : ℕ
  sites = length before

  -- what a site has put
  record Put (site : ℕ) : Type 0 where
    first : Known
    last : Known
    first_is : slice_get before site ≡ Some first
    last_is : slice_get now site ≡ Some last
    snapped : HasSnapped f.plan sites site first last (held rows site)

  put_of : (site : ℕ) → site < sites → Put site
  put_of site l =
      let (k, there) = is_there before site (λ m. absurd (omega arith)) in
      let (m, here) = is_there now site (λ n. let count = s.count in absurd (omega arith)) in
      record { first = k; last = m; first_is = there; last_is = here; snapped = s.snapped site k m l there here }

  backed : AreBacked f.plan rows now
  backed site row m is has =
      let within = slice_get_within now site m is in
      let count = s.count in
      let l : site < sites = omega arith in
      let p = put_of site l in
      let same : row_bytes p.snapped.list ≡ row = some_one (row_bytes p.snapped.list) row (sym p.snapped.put ∙ has) in
      let viewer : p.last ≡ m = some_one p.last m (sym p.last_is ∙ is) in (
        p.snapped.list,
        record { stored = subst (λ c. AreOfSite c site p.snapped.list) (sym count) p.snapped.snapshot.stored; bytes = sym same },
        subst (λ (v : Known). IsBacked f.plan p.snapped.list (seen v.view).places) viewer p.snapped.snapshot.tells.backed,
      )

  -- no row that was put is bad
  pub put_not_bad : (site : ℕ) → IsFirstBad sites rows site → ⊥
  put_not_bad site is =
      let p = put_of site is.within in
      let (row, has, bad) = is.bad in
      let same : row_bytes p.snapped.list ≡ row = some_one (row_bytes p.snapped.list) row (sym p.snapped.put ∙ has) in
      bad p.snapped.list (record { stored = p.snapped.snapshot.stored; bytes = sym same })

  module _ (wanted : Wanted) (a : Analysis) (check : IsCheck sites rows wanted a) where
    own_site : (u : ℕ) → u % sites < sites
    own_site u = omega arith

    -- a task that stands at a place which the viewer of its site knew is listed as it is there
    whole :
        (u : ℕ) (place : Place) (e : Event) → u < length f.plan.parents → ((k : Known) → slice_get before (u % sites) ≡ Some k → KnowsPlace k u place) →
        published_after f.plan u place.done ≡ Some e → IsListedWhole f.plan check.list u place e
    whole u place e task known on =
        let p = put_of (u % sites) (own_site u) in
        let part : p.snapped.list ≡ own_part sites check.list u =
        part_is sites (u % sites) rows check.list p.snapped.list (row_bytes p.snapped.list) (check.all.each (u % sites) (own_site u)) p.snapped.put
        (record { stored = p.snapped.snapshot.stored; bytes = refl }) in
        let here : IsListedWhole f.plan (own_part sites check.list u) u place e =
        subst (λ ss. IsListedWhole f.plan ss u place e) part
        (p.snapped.snapshot.tells.waiting u place e task (eq-eqb (u % sites) (u % sites) refl) (known p.first p.first_is) on) in
        record {
          listed = own_listed sites check.list u e here.listed;
          phases = λ q n phaser. (
            λ has. own_phase_listed sites check.list u q n ((here.phases q n phaser).0 has),
            λ has. (here.phases q n phaser).1 (phase_own sites check.list u q n has),
          );
        }

    known_named : (tasks : ℕ → Bool) (t : TaskId) → IsSetKnown f.plan f.mode before tasks → tasks t.0 ≡ true → Contains a.dead t
    known_named tasks t set inside =
        (check.analysis.dead.exact t).1 record {
          tasks = tasks;
          inside = inside;
          deadlocked =
              set_listed f.plan f.mode check.list tasks set.places set.lock checked set.lawful set.deadlocked
              (λ u e in_set on. whole u (set.places u) e (published_within f.plan checked set.places u e on) (λ k is. set.known u k in_set is) on);
        }

    -- what each viewer knows to be deadlocked is so in one state, and each knows where its own tasks stand
    set_of_each : (tasks : ℕ → Bool) → IsSetKnownToEach f.plan before tasks → IsSetKnown f.plan f.mode before tasks
    set_of_each tasks knows =
        let p = put_of 0 (omega arith) in
        let none : 0 % sites ≡ 0 = omega arith in
        let root : 0 < length f.plan.parents = slice_get_within f.plan.parents 0 None checked.tables.root in
        let first_of = made 0 p.first p.first_is in
        let w = snap_possible f sites 0 p.snapped.list p.first p.last first_of checked p.snapped.snapshot.snap 0 root (eq-eqb (0 % sites) 0 none) in
        let far : IsAsFarOn p.first.view.plan None w.places (seen p.first.view) = far_of_viewer p.first.view.plan p.first.view.own w.places (seen p.first.view) w.far in
        let there : IsDeadlockedSet (IsPublishedOn (state_at f.plan w.places)) (IsAtPhase (state_at f.plan w.places)) tasks =
        knows p.first (at_place before 0 p.first p.first_is) w.places w.lock w.lawful far in
        let lawful : IsLawful (avoids f.mode) f.plan w.places w.lock =
        subst (λ (d : Mode). IsLawful (avoids d) f.plan w.places w.lock) first_of.mode
        (subst (λ (q : Plan). IsLawful (avoids p.first.view.mode) q w.places w.lock) first_of.plan w.lawful) in
        record {
          places = w.places;
          lock = w.lock;
          lawful = lawful;
          deadlocked = there;
          known = λ u k inside is b lock lawful' far'.
              let of = made (u % sites) k is in
              let now_dead = knows k (at_place before (u % sites) k is) b lock lawful' far' in
              let at_b : IsLawful (avoids f.mode) f.plan b lock =
              subst (λ (d : Mode). IsLawful (avoids d) f.plan b lock) of.mode (subst (λ (q : Plan). IsLawful (avoids k.view.mode) q b lock) of.plan lawful') in
              dead_place f.plan checked (avoids f.mode) u b w.places lock w.lock at_b lawful
              (record { tasks = tasks; inside = inside; deadlocked = now_dead }) (record { tasks = tasks; inside = inside; deadlocked = there });
        }

    pub site_passed : IsSitePass f.plan f.mode wanted before now rows a
    site_passed =
        record {
          snaps = λ site k m a b. s.snapped site k m (slice_get_within before site k a) a b;
          list = check.list;
          all = check.all;
          analysis = check.analysis;
          only = λ t inside.
              merged_dead f.plan f.mode now rows check.list checked (let count = s.count in omega arith) (subst (λ c. AreAll c rows check.list) (sym s.count) check.all)
              backed t.0
              ((check.analysis.dead.exact t).0 inside);
          known = known_named;
          known_to_each = λ tasks t knows inside. known_named tasks t (set_of_each tasks knows) inside;
        }
