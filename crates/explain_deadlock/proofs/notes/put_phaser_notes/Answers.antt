use Rattle.std.proofs.Common.{◌≡◌, ◌<◌, length, subst, sym}
use Rattle.explain_deadlock.proofs.NotesTold.{mark_read, notes_more}
use Rattle.explain_deadlock.proofs.notes.put_phaser_notes.Goals as goal

pub loop-q-preserved : goal.loop-q-preserved
loop-q-preserved c =
    let q = c.loop-q.q in
    let awaited = c.in_ok-awaited.ensures.used in
    let registered = c.in_ok-registered.ensures.used in
    let many : c.phasers-q-end.result ≡ length c.args.text.plan.now.makers = c.phasers-q-end.ensures.counted in
    let within : q < length c.args.text.plan.now.makers = subst (λ n. q < n) many c.loop-q-test.true in
    notes_more c.args.facts.now c.args.text.plan.now q c.args.out.now.items c.loop-q.out.items c.put_note.new.out.items c.index.result.now c.index-in-loop-q.result.now
    c.loop-q.invariant c.in_ok-put_note.ensures
    (mark_read c.in_ok-awaited.awaited.items q c.index.result.now _ (subst (λ n. q < n) (sym awaited.sized) within) c.index.ensures (awaited.each q within))
    (mark_read c.in_ok-registered.registered.items q c.index-in-loop-q.result.now _ (subst (λ n. q < n) (sym registered.sized) within) c.index-in-loop-q.ensures
    (registered.each q within))
