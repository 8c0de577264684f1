use Rattle.armus_base.specs.States.{if_published}
use Rattle.pl_core.specs.calls.Worlds.{state_of}
use Rattle.pl_core.proofs.NextImpeders.{first_of_all}
use Rattle.pl_core.proofs.world.World.published_impeder.Goals as goal

pub returns : goal.returns
returns c = first_of_all (if_published (state_of c.args.self.now) c.args.t.0 c.args.event) c.args.event c.next_impeder.result c.next_impeder.ensures.next
