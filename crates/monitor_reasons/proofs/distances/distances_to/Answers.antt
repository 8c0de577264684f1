use Rattle.std.proofs.Common.{rules, ◌≡◌, ◌<◌, ◌==◌, ℕ, suc, List, Option, length, sym, ◌∙◌, ap, subst, arith, add-one}
use Rattle.std.specs.Prelude.{All}
use Rattle.std.specs.Global.{Vec}
use Rattle.monitor_laws.specs.States.{Participant}
use Rattle.monitor_state.specs.NumberedLists.{AreAscending}
use Rattle.monitor_search.specs.Known.{has_stuck_number}
use Rattle.monitor_reasons.specs.inside.Distances.{AreLevels, AreSearched, HaveLevels}
use Rattle.monitor_reasons.specs.inside.PhaserPlaces.{ArePhaserPlaces}
use Rattle.monitor_reasons.specs.inside.Reaching.{HavePassedDistances}
use Rattle.monitor_reasons.proofs.AtLevels.{IsAtLevel, all_levels, all_within, begun_at, empty_is, level_found, next_level, nobody_left}
use Rattle.monitor_reasons.proofs.LevelPlaces.{found_so, levels_after, levels_before, levels_kept, no_levels, one_more}
use Rattle.monitor_reasons.proofs.distances.distances_to.Goals as goal

pub loop-d-init : goal.loop-d-init
loop-d-init c = (
  begun_at c.args.state.now (has_stuck_number c.args.stuck.now) c.args.task _ _ _ c.requires.place (ap length c.participants-list.ensures.list)
      c.in_ok-search.ensures.distances c.in_ok-search.ensures.fresh c.in_ok-search.ensures.passed (search rules),
  search rules,
  no_levels _ _ (search rules),
)

pub reach_level-requires-clause-long : goal.reach_level-requires-clause-long
reach_level-requires-clause-long c = c.loop-d.invariant.0.known.long ∙ ap length (sym c.participants-list.ensures.list)

pub reach_level-requires-clause-behind : goal.reach_level-requires-clause-behind
reach_level-requires-clause-behind c =
    subst (λ (l : List Participant). All (λ u. u < length l) c.deref.result.now) (sym c.participants-list.ensures.list)
    (subst (λ (l : List ℕ). All (λ u. u < length c.args.state.now.list) l) (sym c.deref.ensures.value) (all_within (length c.args.state.now.list) c.loop-d.behind.items (λ u within. (c.loop-d.invariant.0.are u within).0)))

pub reach_level-requires-clause-ascending : goal.reach_level-requires-clause-ascending
reach_level-requires-clause-ascending c = subst AreAscending (sym c.participants-list.ensures.list) c.participants-list.ensures.ascending

pub reach_level-requires-clause-places : goal.reach_level-requires-clause-places
reach_level-requires-clause-places c = subst (λ (l : List Participant). ArePhaserPlaces l c.args.places.now) (sym c.participants-list.ensures.list) c.requires.places

pub reach_level-requires-clause-passed : goal.reach_level-requires-clause-passed
reach_level-requires-clause-passed c = subst (λ (l : List Participant). HavePassedDistances l c.loop-d.search) (sym c.participants-list.ensures.list) c.loop-d.invariant.0.passed

pub loop-d-preserved : goal.loop-d-preserved
loop-d-preserved c =
    let s = c.args.state.now in
    let stuck = has_stuck_number c.args.stuck.now in
    let now = c.in_ok-reach_level.ensures in
    let next =
    next_level s stuck c.args.task c.loop-d.d c.participants-list.result.now c.participants-list.ensures.list c.loop-d.search c.reach_level.new.search _ c.loop-d.behind.items c.deref.ensures.value
    c.loop-d.invariant.0 c.requires.place now.fills now.reached c.take_fresh-behind.new.search c.take_fresh-behind.ensures.distances c.take_fresh-behind.ensures.passed c.take_fresh-behind.ensures.left now.passed in
    let levels = c.loop-d.levels.items in
    let pushed = c.in_ok-push-2.ensures.items in
    let kept = levels_kept s stuck c.args.task c.loop-d.d c.loop-d.search c.reach_level.new.search c.loop-d.behind _ levels c.loop-d.invariant.0 now.fills c.loop-d.invariant.1 c.loop-d.invariant.2 in
    let many = one_more s stuck c.args.task c.loop-d.d c.loop-d.search c.reach_level.new.search c.loop-d.behind _ levels c.loop-d.invariant.0 now.fills c.loop-d.invariant.1 c.loop-d.invariant.2 in (
      subst (λ k. IsAtLevel s stuck c.args.task k c.take_fresh-behind.new.search c.take_fresh-behind.result.items) (sym (add-one c.loop-d.d))
          (subst (λ (v : Vec ℕ). IsAtLevel s stuck c.args.task (suc c.loop-d.d) c.take_fresh-behind.new.search v.items) (sym c.take_fresh-behind.ensures.fresh) next),
      ap length pushed ∙ many ∙ sym (add-one c.loop-d.d),
      subst (λ (v : Vec (Option ℕ)). HaveLevels v.items c.push-in-loop-d.new.self.items) (sym c.take_fresh-behind.ensures.distances)
          (subst (λ (l : List (Vec ℕ)). HaveLevels c.reach_level.new.search.distances.items l) (sym pushed) kept),
    )

pub returns-then-is_empty-clause-levels : goal.returns-then-is_empty-clause-levels
returns-then-is_empty-clause-levels c =
    found_so c.args.task _ _ c.found_distances.result c.found_distances.ensures.distances c.found_distances.ensures.levels
    (levels_before c.args.state.now (has_stuck_number c.args.stuck.now) c.args.task c.loop-d.d c.loop-d.search c.loop-d.behind.items c.loop-d.levels.items c.loop-d.invariant.0 c.requires.place c.loop-d.invariant.1 c.loop-d.invariant.2)

pub returns-then-is_empty-clause-searched : goal.returns-then-is_empty-clause-searched
returns-then-is_empty-clause-searched c =
    let s = c.args.state.now in
    let stuck = has_stuck_number c.args.stuck.now in
    subst (λ (v : Vec (Option ℕ)). AreSearched s stuck c.args.task v.items) (sym c.found_distances.ensures.distances)
    (nobody_left s stuck c.args.task c.loop-d.d c.loop-d.search c.loop-d.behind.items c.loop-d.invariant.0 c.requires.place
    (empty_is c.loop-d.behind.items (sym (c.is_empty.ensures ∙ ap (λ (l : List ℕ). length l == 0) c.as_slice.ensures.value) ∙ c.if-is_empty.true)))

pub returns-then-has_distance-clause-levels : goal.returns-then-has_distance-clause-levels
returns-then-has_distance-clause-levels c =
    let s = c.args.state.now in
    let stuck = has_stuck_number c.args.stuck.now in
    let now = c.in_ok-reach_level.ensures in
    found_so c.args.task _ _ c.found_distances-then-has_distance.result c.found_distances-then-has_distance.ensures.distances c.found_distances-then-has_distance.ensures.levels
    (subst (λ (l : List (Vec ℕ)). AreLevels c.args.task c.reach_level.new.search.distances.items l) (sym c.in_ok-push-2.ensures.items)
    (levels_after s stuck c.args.task c.loop-d.d c.loop-d.search c.reach_level.new.search c.loop-d.behind _ c.loop-d.levels.items c.loop-d.invariant.0 now.fills c.loop-d.invariant.1 c.loop-d.invariant.2 c.requires.place))

pub returns-then-has_distance-clause-searched : goal.returns-then-has_distance-clause-searched
returns-then-has_distance-clause-searched c =
    let s = c.args.state.now in
    let stuck = has_stuck_number c.args.stuck.now in
    let now = c.in_ok-reach_level.ensures in
    subst (λ (v : Vec (Option ℕ)). AreSearched s stuck c.args.task v.items) (sym c.found_distances-then-has_distance.ensures.distances)
    (level_found s stuck c.args.task c.loop-d.d c.participants-list.result.now c.participants-list.ensures.list c.loop-d.search c.reach_level.new.search c.deref.result.now c.loop-d.behind.items c.deref.ensures.value
    c.loop-d.invariant.0 c.requires.place now.fills now.reached (sym c.has_distance.ensures ∙ c.if-has_distance.true))

pub returns-clause-levels : goal.returns-clause-levels
returns-clause-levels c =
    found_so c.args.task _ _ c.found_distances-2.result c.found_distances-2.ensures.distances c.found_distances-2.ensures.levels
    (levels_before c.args.state.now (has_stuck_number c.args.stuck.now) c.args.task c.loop-d.d c.loop-d.search c.loop-d.behind.items c.loop-d.levels.items c.loop-d.invariant.0 c.requires.place c.loop-d.invariant.1 c.loop-d.invariant.2)

pub returns-clause-searched : goal.returns-clause-searched
returns-clause-searched c =
    let s = c.args.state.now in
    let stuck = has_stuck_number c.args.stuck.now in
    let all : c.loop-d.d ≡ length s.list = omega (arith, ap length c.participants-list.ensures.list) in
    subst (λ (v : Vec (Option ℕ)). AreSearched s stuck c.args.task v.items) (sym c.found_distances-2.ensures.distances)
    (all_levels s stuck c.args.task c.loop-d.d c.loop-d.search c.loop-d.behind.items c.loop-d.invariant.0 c.requires.place all)

pub has_distance-requires : goal.has_distance-requires
has_distance-requires c = omega (arith, c.in_ok-reach_level.ensures.fills.long, c.loop-d.invariant.0.known.long, c.requires.place)
