use Rattle.std.proofs.Common.{◌<◌, ◌+◌, ◌||◌, length, subst, sym, ◌∙◌, ap, rules}
use Rattle.std.specs.Prelude.{IfSome}
use Rattle.monitor_laws.specs.Stuck.{has_phase_below}
use Rattle.monitor_search.specs.inside.LeastPhases.{is_least_below, least_of}
use Rattle.monitor_search.proofs.LeastPhases.{noted_below, noted_last}
use Rattle.monitor_search.proofs.References.{more_any}
use Rattle.monitor_search.proofs.phases.least_phases.Goals as goal

pub loop-who-preserved : goal.loop-who-preserved
loop-who-preserved c =
    let items = c.args.these.now in
    let i = c.loop-who.who in
    let r = c.index-these-who.result in
    let within : i < length items = search rules in
    let now = c.in_ok-note_phases.ensures in
    record {
      below = λ q n.
          ap (λ o. is_least_below o n) (now q)
          ∙ noted_below r.now.phases q i (least_of c.loop-who.least q) n (c.loop-who.invariant.last q)
          ∙ ap (λ b. b || has_phase_below r.now q n) (c.loop-who.invariant.below q n)
          ∙ sym (more_any items i r within c.index-these-who.is (λ u. has_phase_below u q n));
      last = λ q. subst (λ o. IfSome o (λ k. k.last < i + 1)) (sym (now q)) (noted_last r.now.phases q i (least_of c.loop-who.least q) (c.loop-who.invariant.last q));
    }
