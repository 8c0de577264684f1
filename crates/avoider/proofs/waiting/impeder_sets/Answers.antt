use Rattle.std.proofs.Common.{◌≡◌, ◌+◌, ◌<◌, ◌∙◌, [], ◌∷◌, ap, arith, get_or, length, subst}
use Rattle.std.proofs.lemmas.List.{get_or_append_left, get_or_default, length_push}
use Rattle.armus_base.specs.States.{State, if_published}
use Rattle.armus_base.specs.declared.event.Event.{Event}
use Rattle.pl_core.specs.calls.Worlds.{state_of}
use Rattle.avoider.specs.inside.Waiting.{AreImpeders}
use Rattle.avoider.proofs.WorldWaits.{sets_more}
use Rattle.avoider.proofs.waiting.impeder_sets.Goals as goal

pub loop-awaited-preserved : goal.loop-awaited-preserved
loop-awaited-preserved c =
    let inv = c.loop-awaited.invariant in
    let s : State = if_published (state_of c.args.world.now) c.args.t.0 c.args.event in
    let k = c.loop-awaited.awaited-index in
    let events = c.args.events.now in
    let sets = c.loop-awaited.sets.items in
    let set = c.in_ok-set.set in
    let tasks = length c.args.world.now.plan.parents in
    let lt : k < length events = omega (arith, c.loop-awaited-test.true) in
    let none : Event = record { p = record { 0 = 0 }; n = 0 } in
    record {
      sized = ap length c.in_ok-push-2.ensures.items ∙ length_push sets set ∙ ap (λ n. n + 1) inv.sized;
      first = rw c.in_ok-push-2.ensures.items (get_or_append_left sets (set ∷ []) [] 0 (omega (arith, inv.sized)) ∙ inv.first);
      each = λ j f jk.
          let here : (d : Event) → AreImpeders s tasks (get_or events k d) set =
          λ d. subst (λ x. AreImpeders s tasks x set) (get_or_default events k none d lt) c.in_ok-set.ensures in
          rw c.in_ok-push-2.ensures.items (sets_more s tasks events k sets set lt inv.sized inv.each here j f jk);
    }

pub returns : goal.returns
returns c =
    let inv = c.loop-awaited.invariant in
    let all : c.loop-awaited.awaited-index ≡ length c.args.events.now = omega (arith, c.loop-awaited-test.false, c.loop-awaited.auto.awaited-index-end) in
    record { sized = inv.sized ∙ ap (λ n. n + 1) all; first = inv.first; each = λ k f lt. inv.each k f (omega (arith, all)) }
