use Rattle.std.proofs.Common.{◌≡◌, ◌<◌, ◌∷◌, [], length, get_or, arith, sym, ◌∙◌, ap, subst}
use Rattle.std.specs.Prelude.{Contains}
use Rattle.std.proofs.lemmas.List.{get_or_default}
use Rattle.std.proofs.lemmas.Result.{IfOk-weaker}
use Rattle.armus_base.specs.declared.ids.TaskId.{TaskId}
use Rattle.pl_core.specs.calls.Worlds.{state_of}
use Rattle.explain_deadlock.specs.Circles.{IsFirstThrough}
use Rattle.explain_deadlock.specs.Verdicts.{HasFollower, followers_of}
use Rattle.explain_deadlock.specs.inside.Searches.{IsSearched}
use Rattle.explain_deadlock.proofs.Followers.{followers_ascend, followers_inside}
use Rattle.explain_deadlock.proofs.Searches.{first_found, looked_all, met, none_found, not_met, short}
use Rattle.explain_deadlock.proofs.circle.first_circle.Goals as goal

pub returns-then-is_in : goal.returns-then-is_in
returns-then-is_in c =
    let f = c.args.facts.now in
    let phases = (state_of c.args.world.now).phases in
    let next = λ (u : TaskId). followers_of f phases u.0 in
    let t = c.args.t in
    let queue = c.search.search.queue.items in
    let s : IsSearched next t c.search.at [] queue c.search.search.parents.items c.search.search.seen.items = c.search.invariant.searched in
    let within : c.search.at < length queue = omega (arith, c.search-test.true, c.len.ensures) in
    let node : get_or queue c.search.at t ≡ c.index.result.now = get_or_default queue c.search.at t c.index.result.now within ∙ sym c.index.ensures in
    let are : next (get_or queue c.search.at t) ≡ c.deref.result.now = ap next node ∙ sym (c.deref.ensures.value ∙ c.in_ok-followers.ensures) in
    let meets : Contains (next (get_or queue c.search.at t)) t = subst (λ xs. Contains xs t) (sym are) (met c.deref.result.now t c.is_in.result c.is_in.ensures c.if-is_in.true) in
    IfOk-weaker c.way_to.result (λ v. v.items ≡ t ∷ get_or s.ways c.search.at []) (λ v. IsFirstThrough (HasFollower f phases) t v.items)
    (λ v e. subst (λ xs. IsFirstThrough (HasFollower f phases) t xs) (sym e) (first_found next t c.search.at queue c.search.search.parents.items c.search.search.seen.items s within meets))
    (c.way_to.ensures t s.ways s.are)

pub look_at_all-requires-clause-inside : goal.look_at_all-requires-clause-inside
look_at_all-requires-clause-inside c =
    let f = c.args.facts.now in
    let phases = (state_of c.args.world.now).phases in
    let are : c.deref-in-search.result.now ≡ followers_of f phases c.index.result.now.0 = c.deref-in-search.ensures.value ∙ c.in_ok-followers.ensures in
    λ k d lt.
    rw c.search.invariant.sized
    (followers_inside f phases c.args.world.now.plan c.requires.fits c.index.result.now.0 (get_or c.deref-in-search.result.now k d)
    (subst (λ xs. Contains xs (get_or c.deref-in-search.result.now k d)) are
    (k, lt, get_or_default c.deref-in-search.result.now k (get_or c.deref-in-search.result.now k d) d lt)))

pub look_at_all-requires-clause-ascend : goal.look_at_all-requires-clause-ascend
look_at_all-requires-clause-ascend c =
    let f = c.args.facts.now in
    let phases = (state_of c.args.world.now).phases in
    let are : c.deref-in-search.result.now ≡ followers_of f phases c.index.result.now.0 = c.deref-in-search.ensures.value ∙ c.in_ok-followers.ensures in
    rw are (followers_ascend f phases c.index.result.now.0)

pub search-smaller : goal.search-smaller
search-smaller c =
    let f = c.args.facts.now in
    let phases = (state_of c.args.world.now).phases in
    let next = λ (u : TaskId). followers_of f phases u.0 in
    let within : c.search.at < length c.search.search.queue.items = omega (arith, c.search-test.true, c.len.ensures) in
    let le = short next c.args.t c.search.at [] c.search.search.queue.items c.search.search.parents.items c.search.search.seen.items c.search.invariant.searched in
    omega (arith, within, le, c.search.invariant.sized)

pub search-preserved : goal.search-preserved
search-preserved c =
    let f = c.args.facts.now in
    let phases = (state_of c.args.world.now).phases in
    let next = λ (u : TaskId). followers_of f phases u.0 in
    let t = c.args.t in
    let queue = c.search.search.queue.items in
    let within : c.search.at < length queue = omega (arith, c.search-test.true, c.len.ensures) in
    let node : get_or queue c.search.at t ≡ c.index.result.now = get_or_default queue c.search.at t c.index.result.now within ∙ sym c.index.ensures in
    let are : next (get_or queue c.search.at t) ≡ c.deref-in-search.result.now = ap next node ∙ sym (c.deref-in-search.ensures.value ∙ c.in_ok-followers.ensures) in
    let also : c.deref.result.now ≡ c.deref-in-search.result.now = c.deref.ensures.value ∙ sym c.deref-in-search.ensures.value in
    let unmet : Contains c.deref-in-search.result.now t → ⊥ = λ there. not_met c.deref.result.now t c.is_in.result c.is_in.ensures c.if-is_in.false (subst (λ xs. Contains xs t) (sym also) there) in
    let looking = c.in_ok-look_at_all.ensures.looked next t (record { searched = c.search.invariant.searched; inside = within; are = are }) in
    record {
      sized = c.in_ok-look_at_all.ensures.sized ∙ c.search.invariant.sized;
      within = (let i = looking.inside in omega arith);
      searched = looked_all next t c.search.at c.deref-in-search.result.now c.look_at_all.new.search looking unmet;
    }

pub unreachable-requires : goal.unreachable-requires
unreachable-requires c =
    let f = c.args.facts.now in
    let phases = (state_of c.args.world.now).phases in
    let next = λ (u : TaskId). followers_of f phases u.0 in
    let (circle, closes) = c.requires.circle in
    let lt = none_found next c.args.t c.search.at c.search.search.queue.items c.search.search.parents.items c.search.search.seen.items c.search.invariant.searched circle closes in
    omega (arith, lt, c.search-test.false, c.len.ensures)
