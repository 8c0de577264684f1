use Rattle.std.proofs.Common.{◌≡◌, ◌∙◌, sym, ap}
use Rattle.pl_core.specs.inside.PhaseTables.{phases_in}
use Rattle.pl_core.specs.calls.Worlds.{state_of}
use Rattle.pl_core.proofs.world.World.is_reached.Goals as goal

pub returns : goal.returns
returns c =
    let table = c.self.inside.phases in
    let p = c.args.event.p.0 in
    let same : phases_in table ≡ (state_of c.args.self.now).phases = c.self.invariant.kept.phases ∙ ap (λ w. (state_of w).phases) c.self.view_is in (
      λ yes u m e. c.is_reached.ensures.0 yes u m (ap (λ f. f u p) same ∙ e),
      λ reached. c.is_reached.ensures.1 (λ u m e. reached u m (sym (ap (λ f. f u p) same) ∙ e)),
    )
