use Rattle.std.proofs.Common.{◌≡◌, ℕ, ◌<◌, Bool, Option, Some, None, List, length, arith, ◌∙◌, sym, ap, subst, get_or, true, false, length-set, IsSome, inl, inr}
use Rattle.std.proofs.lemmas.Bool.{cases_lt}
use Rattle.std.proofs.lemmas.List.{get_or_default}
use Rattle.std.proofs.lemmas.Result.{IfOk-weaker}
use Rattle.armus_base.specs.declared.ids.TaskId.{TaskId}
use Rattle.armus_base.proofs.WalkCycles.{walk_more}
use Rattle.pl_core.specs.calls.Worlds.{state_of}
use Rattle.explain_tasks.specs.Nexts.{next_of}
use Rattle.explain_deadlock.specs.Verdicts.{IsVerdictFrom, HasFollower}
use Rattle.explain_deadlock.specs.inside.WalkEnds.{ShowsFirst, WalkEndsIn}
use Rattle.explain_deadlock.proofs.NextInside.{next_inside}
use Rattle.explain_deadlock.proofs.VerdictWalks.{circle_there, closes, ends, set_task_flags}
use Rattle.explain_deadlock.proofs.walk.walk_from.Goals as goal

-- a flag is what is read
read : (flags : List Bool) (i : ℕ) (b : Bool) → i < length flags → b ≡ get_or flags i b → get_or flags i false ≡ b
read flags i b lt e = get_or_default flags i false b lt ∙ sym e

-- nothing is both there and not
none_some : {A : Type 0} (o : Option A) → o ≡ None → IsSome o → ⊥
none_some None e s = absurd (cc)
none_some (Some x) e s = absurd (cc)

pub returns-in-None : goal.returns-in-None
returns-in-None c =
    let f = c.args.facts.now in
    let phases = (state_of c.args.world.now).phases in
    let inv = c.walk.invariant in
    let none : next_of f phases c.walk.t.0 ≡ None = sym c.in_ok-next.ensures ∙ c.in-None.is in
    let some : 0 < length c.walk.path.items =
    elim (cases_lt 0 (length c.walk.path.items)) [
      | inl l ↦ l
      | inr l ↦
          let first : c.walk.t ≡ c.args.start = inv.walk.none (omega arith) in
          absurd (none_some (next_of f phases c.args.start.0) (ap (λ (t : TaskId). next_of f phases t.0) (sym first) ∙ none) (c.requires.wait c.args.start.0 c.requires.waits))
    ] in
    ends f phases c.args.start c.walk.t c.walk.path.items inv.walk c.chain_of.result some none
    (subst (λ xs. WalkEndsIn xs c.walk.t c.chain_of.result) c.deref.ensures.value c.chain_of.ensures)

pub walk-preserved : goal.walk-preserved
walk-preserved c =
    let inv = c.walk.invariant in
    let lt : c.walk.t.0 < length c.walk.seen.items = rw inv.sized inv.inside in
    let unseen : get_or c.walk.seen.items c.walk.t.0 false ≡ false = read c.walk.seen.items c.walk.t.0 c.index.result.now lt c.index.ensures ∙ c.walk-test.true in
    let step : next_of c.args.facts.now (state_of c.args.world.now).phases c.walk.t.0 ≡ Some c.in-Some.next = sym c.in_ok-next.ensures ∙ c.in-Some.is in
    record {
      walk = rw c.in_ok-push.ensures.items (walk_more _ _ _ _ inv.walk c.in-Some.next (λ m. let t = (inv.marks c.walk.t.0).1 m in absurd (cc)) step);
      marks = rw c.in_ok-push.ensures.items (set_task_flags _ _ _ lt inv.marks);
      inside = next_inside c.args.facts.now (state_of c.args.world.now).phases c.args.world.now.plan c.requires.fits c.walk.t.0 c.in-Some.next step;
      sized = length-set c.walk.seen.items c.walk.t.0 true ∙ inv.sized;
    }

pub circle_of-requires-clause-inside : goal.circle_of-requires-clause-inside
circle_of-requires-clause-inside c = c.walk.invariant.inside

pub circle_of-requires-clause-circle : goal.circle_of-requires-clause-circle
circle_of-requires-clause-circle c =
    let inv = c.walk.invariant in
    let lt : c.walk.t.0 < length c.walk.seen.items = rw inv.sized inv.inside in
    let seen : get_or c.walk.seen.items c.walk.t.0 false ≡ true = read c.walk.seen.items c.walk.t.0 c.index.result.now lt c.index.ensures ∙ c.walk-test.false in
    circle_there c.args.facts.now (state_of c.args.world.now).phases c.args.start c.walk.t c.walk.path.items inv.walk ((inv.marks c.walk.t.0).0 seen)

pub returns : goal.returns
returns c =
    let f = c.args.facts.now in
    let phases = (state_of c.args.world.now).phases in
    let inv = c.walk.invariant in
    let lt : c.walk.t.0 < length c.walk.seen.items = rw inv.sized inv.inside in
    let seen : get_or c.walk.seen.items c.walk.t.0 false ≡ true = read c.walk.seen.items c.walk.t.0 c.index.result.now lt c.index.ensures ∙ c.walk-test.false in
    IfOk-weaker c.circle_of.result (ShowsFirst (HasFollower f phases) c.walk.t) (IsVerdictFrom f phases (Some c.args.start))
    (closes f phases c.args.start c.walk.t c.walk.path.items inv.walk ((inv.marks c.walk.t.0).0 seen)) c.circle_of.ensures
