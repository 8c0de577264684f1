use Rattle.std.proofs.Common.{arith, length, subst}
use Rattle.armus_base.specs.States.{State, if_published}
use Rattle.pl_core.specs.calls.Worlds.{state_of}
use Rattle.avoider.specs.inside.Waiting.{IsPlaceOfEvent}
use Rattle.avoider.proofs.WorldWaits.{phasers_more, places_more}
use Rattle.avoider.proofs.waiting.places_if.Goals as goal

pub loop-u-preserved : goal.loop-u-preserved
loop-u-preserved c =
    let inv = c.loop-u.invariant in
    let s : State = if_published (state_of c.args.world.now) c.args.t.0 c.args.event in
    let events = c.place_if.new.events.items in
    let place = subst (λ o. IsPlaceOfEvent events o c.in_ok-place.place) c.published.ensures.event c.in_ok-place.ensures.place in
    record {
      few = omega (arith, c.if-len-gt-FEW.false, c.len.ensures);
      places = rw c.in_ok-push.ensures.items (places_more s c.loop-u.u c.in_ok-place.place c.loop-u.events.items events c.loop-u.own.items inv.places c.in_ok-place.ensures.grows place);
      phasers = phasers_more (length c.args.world.now.plan.makers) c.loop-u.events.items events c.published.result inv.phasers c.in_ok-place.ensures.within
          (λ e is. rw is at c.published.ensures.phaser);
    }
