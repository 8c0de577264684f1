use Rattle.std.proofs.Common.{◌<◌, ◌≤◌, ℕ, Bool, length, sym, ◌∙◌, subst, rules, arith}
use Rattle.std.proofs.lemmas.List.{take_all}
use Rattle.monitor_search.specs.Known.{has_stuck_number}
use Rattle.monitor_reasons.specs.inside.Distances.{is_next}
use Rattle.monitor_reasons.specs.inside.Listings.{listing}
use Rattle.monitor_reasons.proofs.LevelPlaces.{IsLeastOf, least_before, least_of_none, least_passed, least_taken, none_first}
use Rattle.monitor_reasons.proofs.circles.next_place.Goals as goal
use Rattle.monitor_reasons.proofs.circles.next_place.Goals.{then-u-first+then-is_next, else-u-first, else-u-first-via-then-u-first+else-is_next, else-u-first-via-else-u-first}

pub loop-u-init : goal.loop-u-init
loop-u-init c = least_of_none (λ k. is_next (listing c.args.list.now) (has_stuck_number c.args.stuck.now) c.args.found.now.distances.items c.args.n c.args.t k) (length c.args.list.now)

pub loop-u-preserved : goal.loop-u-preserved
loop-u-preserved c =
    let p : ℕ → Bool = λ k. is_next (listing c.args.list.now) (has_stuck_number c.args.stuck.now) c.args.found.now.distances.items c.args.n c.args.t k in
    let most = length c.args.list.now in
    let level = c.args.level.now in
    let i = c.loop-u.u-index in
    let within : i < length level = search rules in
    let so_far = c.loop-u.invariant in
    elim c.if-u-first.branch [
      | then-u-first+then-is_next w ↦ least_taken p most level i c.loop-u.first c.if-u-first.first within so_far w.if-u-first.true (sym w.is_next.ensures ∙ w.if-is_next.true) w.first-is
      | else-u-first w ↦ elim w.else-u-first.branch [
        | else-u-first-via-then-u-first+else-is_next v ↦ least_passed p most level i c.loop-u.first c.if-u-first.first within so_far (sym v.is_next.ensures ∙ v.if-is_next.false) w.first-is
        | else-u-first-via-else-u-first v ↦ least_before p most level i c.loop-u.first c.if-u-first.first within so_far (omega (arith, v.if-u-first.false)) w.first-is
      ]
    ]

pub returns-then-first-list-clause-at : goal.returns-then-first-list-clause-at
returns-then-first-list-clause-at c =
    let p : ℕ → Bool = λ k. is_next (listing c.args.list.now) (has_stuck_number c.args.stuck.now) c.args.found.now.distances.items c.args.n c.args.t k in
    let listed : c.loop-u.first < length c.args.list.now = search rules in
    let past : length c.args.level.now ≤ c.loop-u.u-index = search rules in
    let least = subst (λ l. IsLeastOf p (length c.args.list.now) l c.loop-u.first) (take_all c.loop-u.u-index c.args.level.now past) c.loop-u.invariant in
    record {
      within = listed;
      goes = least.1 listed;
      first = none_first (listing c.args.list.now) (has_stuck_number c.args.stuck.now) c.args.found.now.distances.items c.args.n c.args.t c.loop-u.first c.args.level.now c.requires.all least;
    }

pub returns-clause-none : goal.returns-clause-none
returns-clause-none c = λ u within.
    let p : ℕ → Bool = λ k. is_next (listing c.args.list.now) (has_stuck_number c.args.stuck.now) c.args.found.now.distances.items c.args.n c.args.t k in
    let all : length c.args.list.now ≤ c.loop-u.first = search rules in
    let past : length c.args.level.now ≤ c.loop-u.u-index = search rules in
    let least = subst (λ l. IsLeastOf p (length c.args.list.now) l c.loop-u.first) (take_all c.loop-u.u-index c.args.level.now past) c.loop-u.invariant in
    none_first (listing c.args.list.now) (has_stuck_number c.args.stuck.now) c.args.found.now.distances.items c.args.n c.args.t c.loop-u.first c.args.level.now c.requires.all least u (omega arith)
