use Rattle.std.proofs.Common.{◌≡◌, ◌∙◌, ◌+◌, ◌-◌, suc, ap, arith, length, sym}
use Rattle.pl_syntax.specs.Tokens.{front, place}
use Rattle.pl_syntax.specs.inside.Seen.{token_of}
use Rattle.clock_syntax.specs.Grammar.{clock_scan}
use Rattle.explain_clock.specs.ClockStands.{stand_before}
use Rattle.explain_clock.proofs.Stands.{stand_ends, stand_goes, stand_stays}
use Rattle.explain_clock.proofs.stand.stand_in_front.Goals as goal

pub returns-then-place-at : goal.returns-then-place-at
returns-then-place-at c =
    let text = c.args.places.now in
    let here = c.place.ensures ∙ ap (λ t. place (clock_scan t) c.loop.rest.now) c.text-text.ensures.text in
    sym (stand_stays (clock_scan text) c.args.at c.loop.rest.now c.loop.stand (length text - c.loop.counter) (omega (arith, here, c.if-place-at.true)))
    ∙ c.loop.invariant.same

pub returns-in_default : goal.returns-in_default
returns-in_default c =
    let text = c.args.places.now in
    let none = ap (λ t. front (clock_scan t) c.loop.rest.now) (sym c.text-text.ensures.text) ∙ sym c.in_default.ensures.exact in
    sym (stand_ends (clock_scan text) c.args.at c.loop.rest.now c.loop.stand (length text - c.loop.counter) c.in_default.field-0 none) ∙ c.loop.invariant.same

pub loop-preserved : goal.loop-preserved
loop-preserved c =
    let text = c.args.places.now in
    let same = ap length c.text-text.ensures.text in
    let here = c.place.ensures ∙ ap (λ t. place (clock_scan t) c.loop.rest.now) c.text-text.ensures.text in
    let some = ap (λ t. front (clock_scan t) c.loop.rest.now) (sym c.text-text.ensures.text) ∙ sym c.in-Ok.ensures.exact in
    let next : length text - c.loop.counter ≡ suc (length text - (c.loop.counter + 1)) = omega (arith, same, c.loop-test.true) in
    record {
      short = (let shorter = c.in-Ok.ensures.no_longer in let within = c.loop.invariant.short in omega (arith, shorter, within));
      same = ap (stand_before (length text - (c.loop.counter + 1)) (clock_scan text) c.args.at c.in-Ok.after.now) c.stand_after-stand.ensures
          ∙ sym (stand_goes (clock_scan text) c.args.at c.loop.rest.now c.loop.stand (length text - c.loop.counter) (length text - (c.loop.counter + 1))
          (token_of c.in-Ok.token) c.in-Ok.after.now next (omega (arith, here, c.if-place-at.false)) some)
          ∙ c.loop.invariant.same;
    }
