use Rattle.std.proofs.Common.{◌+◌, ◌∙◌, ap, get_or, subst, sym, take}
use Rattle.collector.specs.inside.Names.{AreFresh}
use Rattle.collector.proofs.Fresh.{fresh_new, fresh_old, name_read}
use Rattle.collector.proofs.naming.fresh.Goals.{then-not-names-t+in-Some+in_ok-push, else-not-names-t}
use Rattle.collector.proofs.naming.fresh.Goals as goal

pub unreachable-requires : goal.unreachable-requires
unreachable-requires c =
    let at = c.requires.listed c.loop-t.t-index (record { 0 = 0 }) c.loop-t-test.true in
    c.in_default.ensures at.0 at.1

pub loop-t-preserved : goal.loop-t-preserved
loop-t-preserved c =
    let names = c.args.names.now in
    let dead = c.args.dead.now in
    let i = c.loop-t.t-index in
    let l = c.loop-t-test.true in
    let inside = c.requires.tasks i (record { 0 = 0 }) l in
    let x = get_or dead i (record { 0 = 0 }) in
    let read = name_read names x.0 inside in
    elim c.if-not-names-t.branch [
      | then-not-names-t+in-Some+in_ok-push w ↦
          subst (AreFresh names c.args.list.now (take (i + 1) dead)) (sym (ap (λ v. v.items) w.all-is ∙ w.in_ok-push.ensures.items))
          (fresh_new names c.args.list.now dead i (record { 0 = 0 }) c.loop-t.all.items w.in-Some.event l (read ∙ w.if-not-names-t.true) w.in-Some.ensures c.loop-t.invariant)
      | else-not-names-t w ↦
          subst (AreFresh names c.args.list.now (take (i + 1) dead)) (sym (ap (λ v. v.items) w.all-is))
          (fresh_old names c.args.list.now dead i (record { 0 = 0 }) c.loop-t.all.items l (read ∙ w.if-not-names-t.false) c.loop-t.invariant)
    ]
