use Rattle.std.proofs.Common.{◌<◌, length, arith}
use Rattle.pl_core.specs.calls.Worlds.{state_of}
use Rattle.explain_deadlock.specs.inside.GroupTexts.{paragraph_text}
use Rattle.explain_deadlock.proofs.GroupTexts.{grown}
use Rattle.explain_deadlock.proofs.paragraphs.put_grouped.Goals as goal

pub loop-k-preserved : goal.loop-k-preserved
loop-k-preserved c =
    let l : c.loop-k.k < length c.args.sayings.now = omega arith in
    let sized = c.requires.sized in
    let m : c.loop-k.k < length c.args.groups.now = omega arith in
    grown (paragraph_text c.args.facts.now (state_of c.args.world.now).phases) c.loop-k.k c.args.sayings.now c.args.groups.now c.index-sayings-k.result c.index-groups-k.result
    c.deref.result.now l m c.index-sayings-k.is c.index-groups-k.is c.deref.ensures.value c.args.out.now.items c.loop-k.out.items c.put_paragraph.new.out.items c.loop-k.invariant
    c.in_ok-put_paragraph.ensures
