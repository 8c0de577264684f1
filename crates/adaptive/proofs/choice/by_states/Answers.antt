use Rattle.std.proofs.Common.{refl}
use Rattle.std.proofs.lemmas.Result.{IfOk-at_ok}
use Rattle.armus_base.specs.DeadLists.{IsDeadList}
use Rattle.adaptive.proofs.choice.by_states.Goals as goal

pub returns : goal.returns
returns c ss ok is =
    let of = c.requires in
    record {
      used_is = refl;
      dead = IfOk-at_ok (λ v. IsDeadList ss v) c.in_ok-dead.was (c.dead.ensures ss _ ok is of);
      edges = c.edges-edges.ensures ss _ ok is of;
    }
