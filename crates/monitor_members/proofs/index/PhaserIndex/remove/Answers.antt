use Rattle.std.proofs.Common.{◌∙◌, None, sym}
use Rattle.monitor_members.proofs.PairMaps.{same_after}
use Rattle.monitor_members.proofs.index.PhaserIndex.remove.Goals as goal

pub returns-then-take_out : goal.returns-then-take_out
returns-then-take_out c =
    λ q n j.
    same_after c.args.p.now c.take_out.new.by_phaser c.remove.new.self None c.remove.ensures.updates (λ n j. sym (c.take_out.ensures.nobody c.if-take_out.true n j)) q n j
    ∙ c.take_out.ensures.taken q n j
