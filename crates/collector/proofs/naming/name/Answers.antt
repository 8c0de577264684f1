use Rattle.std.proofs.Common.{◌≡◌, ◌<◌, List, arith, get_or, length, subst, vec_len}
use Rattle.std.proofs.lemmas.List.{take_all}
use Rattle.armus_base.specs.declared.ids.TaskId.{TaskId}
use Rattle.collector.specs.calls.Passes.{NamesToo}
use Rattle.collector.proofs.Fresh.{names_more}
use Rattle.collector.proofs.naming.name.Goals as goal

pub loop-t-preserved : goal.loop-t-preserved
loop-t-preserved c =
    let names = c.loop-t.names in
    let dead = c.args.dead.now in
    let i = c.loop-t.t-index in
    let l = c.loop-t-test.true in
    let within : (get_or dead i (record { 0 = 0 })).0 < length names.items =
    (let small = c.requires.tasks i (record { 0 = 0 }) l in let count = c.loop-t.invariant.count in let counted : vec_len names ≡ length names.items = names.ok.0 in omega arith) in
    record {
      count = c.loop-t.invariant.count;
      named = names_more c.args.names.now.items names.items dead i (record { 0 = 0 }) l within c.loop-t.invariant.named;
    }

pub returns-clause-named : goal.returns-clause-named
returns-clause-named c =
    subst (λ (xs : List TaskId). NamesToo xs c.args.names.now.items c.loop-t.names.items) (take_all c.loop-t.t-index c.args.dead.now c.loop-t-test.false) c.loop-t.invariant.named
