use Rattle.std.proofs.Common.{◌+◌, ◌∙◌, ap, arith, sym, take}
use Rattle.std.specs.Prelude.{count_by}
use Rattle.std.proofs.lemmas.List.Sums.{sum_by_more}
use Rattle.armus_base.specs.declared.status.Member.{Member}
use Rattle.adaptive.specs.inside.Waits.{is_later, waits_on}
use Rattle.adaptive.proofs.AwaitedEvents.{count_small}
use Rattle.adaptive.proofs.waits.waits_on.Goals as goal

pub loop-k-preserved : goal.loop-k-preserved
loop-k-preserved c =
    let k = c.loop-k.k in
    let events = c.args.events.now in
    let phases = c.args.phases.now in
    let i = c.loop-k.invariant in
    record {
      counted =
          ap (λ n. n + c.later.result) i.counted
          ∙ ap (λ n. waits_on events (take k phases) + n) c.later.ensures
          ∙ sym (sum_by_more (λ (m : Member). count_by (is_later m) events) phases k _ (omega arith));
      few = (let l = count_small _ events c.later.result c.later.ensures in let f = i.few in let g = c.requires.few in omega arith);
    }
