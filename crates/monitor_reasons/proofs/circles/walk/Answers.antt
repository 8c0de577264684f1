use Rattle.std.proofs.Common.{◌≡◌, ℕ, suc, ◌<◌, ◌-◌, ◌++◌, false, Some, List, [], ◌∷◌, length, sym, ◌∙◌, ap, subst, append_assoc, arith}
use Rattle.std.proofs.lemmas.Bool.{true≢false}
use Rattle.std.specs.Prelude.{All, Contains}
use Rattle.std.specs.Global.{Vec}
use Rattle.std.proofs.lemmas.List.{append-nil}
use Rattle.std.proofs.lemmas.List.Elements.{All-push}
use Rattle.monitor_laws.specs.States.{Participant}
use Rattle.monitor_state.specs.NumberedLists.{AreAscending}
use Rattle.monitor_search.specs.Known.{has_stuck_number}
use Rattle.monitor_reasons.specs.inside.Distances.{IsCircleWalk, is_next, level_at}
use Rattle.monitor_reasons.specs.inside.Listings.{listing}
use Rattle.monitor_reasons.specs.inside.PhaserPlaces.{HaveWildcardPlaces, places_numbered}
use Rattle.monitor_reasons.proofs.FirstWalks.{has_next, next_is, next_listed, walk_is_first_circle}
use Rattle.monitor_reasons.proofs.circles.walk.Goals as goal

pub next_place-requires-clause-long : goal.next_place-requires-clause-long
next_place-requires-clause-long c = c.requires.searched.known.long ∙ ap length (sym c.participants-list.ensures.list)

pub next_place-requires-clause-all : goal.next_place-requires-clause-all
next_place-requires-clause-all c = λ u within is.
    let left = c.loop-left.left in
    let levels = c.args.found.now.levels.items in
    let more : suc (left - 1) ≡ left = omega (arith, c.loop-left-test.true) in
    let far = c.requires.levels.far c.args.distance c.requires.distance in
    let few = c.loop-left.invariant.0 in
    let here : level_at levels (suc (left - 1)) ≡ c.level_at-level.result.now =
    ap (level_at levels) more ∙ ap (λ (l : List (Vec ℕ)). level_at l left) (sym c.deref.ensures.value) ∙ sym c.level_at-level.ensures
    in
    let listed : u < length c.args.found.now.distances.items = (let long = c.requires.searched.known.long in let same = ap length c.participants-list.ensures.list in omega arith) in
    subst (λ (l : List ℕ). Contains l u) here
    (c.requires.levels.have u (left - 1) listed is (omega arith))

pub next_place-requires-clause-ascending : goal.next_place-requires-clause-ascending
next_place-requires-clause-ascending c = subst AreAscending (sym c.participants-list.ensures.list) c.participants-list.ensures.ascending

pub next_place-requires-clause-wildcards : goal.next_place-requires-clause-wildcards
next_place-requires-clause-wildcards c =
    subst (λ (us : List Participant). HaveWildcardPlaces us (places_numbered c.args.found.now.wildcards.now)) (sym c.participants-list.ensures.list) c.requires.wildcards

pub unreachable-requires : goal.unreachable-requires
unreachable-requires c =
    let s = c.args.state.now in
    let stuck = has_stuck_number c.args.stuck.now in
    let distances = c.args.found.now.distances.items in
    let left = c.loop-left.left in
    let more : left ≡ suc (left - 1) = omega (arith, c.loop-left-test.true) in
    let m =
    has_next s stuck c.args.task c.requires.searched.bound distances c.requires.searched.known (left - 1) c.loop-left.last c.loop-left.invariant.1
    (c.loop-left.invariant.2 ∙ ap (λ (k : ℕ). Some k) more) in
    let none =
    subst (λ (us : List Participant). (u : ℕ) → u < length us → is_next (listing us) stuck distances (left - 1) c.loop-left.last u ≡ false)
    c.participants-list.ensures.list c.in-None.ensures.none in
    true≢false (sym m.2 ∙ none m.0 m.1)

pub loop-left-preserved : goal.loop-left-preserved
loop-left-preserved c =
    let s = c.args.state.now in
    let stuck = has_stuck_number c.args.stuck.now in
    let distances = c.args.found.now.distances.items in
    let left = c.loop-left.left in
    let more : suc (left - 1) ≡ left = omega (arith, c.loop-left-test.true) in
    let list = c.participants-list.result.now in
    let next =
    next_listed s stuck distances (left - 1) c.loop-left.last c.in-Some.next list c.participants-list.ensures.list c.in-Some.ensures.at in
    let pushed = c.in_ok-push-in-Some.ensures.items in (
      (let few = c.loop-left.invariant.0 in omega arith),
      next.within,
      next_is s stuck c.args.task c.requires.searched.bound distances c.requires.searched.known (left - 1) c.loop-left.last c.in-Some.next next.goes,
      λ behind walk.
          subst (λ (l : List ℕ). IsCircleWalk s stuck distances c.args.distance c.args.task l)
          (sym (append_assoc c.loop-left.places.items (c.in-Some.next ∷ []) behind) ∙ ap (λ (l : List ℕ). l ++ behind) (sym pushed))
          (c.loop-left.invariant.3 (c.in-Some.next ∷ behind)
          (subst (λ k. IsCircleWalk s stuck distances k c.loop-left.last (c.in-Some.next ∷ behind)) more (next, walk))),
      subst (λ (l : List ℕ). All (λ i. i < length s.list) l) (sym pushed)
          (All-push (λ i. i < length s.list) c.loop-left.places.items c.in-Some.next c.loop-left.invariant.4 next.within),
    )

pub returns-clause-circle : goal.returns-clause-circle
returns-clause-circle c =
    let s = c.args.state.now in
    let stuck = has_stuck_number c.args.stuck.now in
    let distances = c.args.found.now.distances.items in
    let done : 0 ≡ c.loop-left.left = omega (arith, c.loop-left-test.false) in
    walk_is_first_circle s stuck c.args.task c.requires.searched.bound distances c.requires.searched.known c.participants-list.ensures.ascending
    c.args.distance c.loop-left.places.items c.requires.place c.requires.distance
    (subst (λ (l : List ℕ). IsCircleWalk s stuck distances c.args.distance c.args.task l) (append-nil c.loop-left.places.items)
    (c.loop-left.invariant.3 [] (subst (λ k. IsCircleWalk s stuck distances k c.loop-left.last []) done tt)))
