use Rattle.std.proofs.Common.{◌≡◌, ◌∙◌, ◌++◌, ap, codes}
use Rattle.std.specs.Prelude.{option_copied}
use Rattle.armus_base.specs.Plans.{code_of}
use Rattle.pl_core.specs.calls.Worlds.{places_of}
use Rattle.pl_syntax.specs.Printed.{line}
use Rattle.explain_facts.specs.calls.Known.{kept_layout}
use Rattle.explain_steps.proofs.Pieces.{four_pieces, two_pieces}
use Rattle.explain_avoid.specs.RefusalWords.{avoided_circle_words, phaser_list, refused_words, refused_whence_words}
use Rattle.explain_avoid.proofs.refusal.put_refusal.Goals as goal
use Rattle.explain_facts.proofs.OneAccount.{one_op}

pub returns : goal.returns
returns c = λ ops stand.
    let file = option_copied c.args.text.now.file in
    let p = c.args.text.now.facts.now.program.now in
    let l = kept_layout c.args.text.now.facts.now in
    let w = c.args.world.now in
    let t = c.args.t.0 in
    let e = c.args.waits.now.event in
    let own = c.args.waits.now.phase in
    let out = c.args.out.now.items in
    let i = c.op-i.result in
    let same : i ≡ ops t = one_op (code_of w.plan t) (places_of w t).done i (ops t) c.op-i.ensures.op (stand t) in
    let last = line (codes "  deadlock: " ++ avoided_circle_words l p ops c.args.cycle.now) in
    let left = line (codes "  it left " ++ phaser_list p c.args.waits.now.members.items) in
    four_pieces out c.put_words.new.out.items c.put_words-2.new.out.items c.put_deadlock.new.out.items c.put_left.new.out.items
    (line (refused_words file l p t e own i)) (line (refused_whence_words l p t e.p.0 i)) last left
    (two_pieces out c.put_refused.new.out.items c.put_words.new.out.items (refused_words file l p t e own i) (codes "\n") c.in_ok-put_refused.ensures
    c.in_ok-put_words.ensures)
    (two_pieces c.put_words.new.out.items c.put_whence.new.out.items c.put_words-2.new.out.items (refused_whence_words l p t e.p.0 i) (codes "\n")
    c.in_ok-put_whence.ensures c.in_ok-put_words-2.ensures)
    (c.in_ok-put_deadlock.ensures ops stand)
    (c.in_ok-put_left.ensures ∙ ap (λ qs. c.put_deadlock.new.out.items ++ line (codes "  it left " ++ phaser_list p qs)) c.deref.ensures.value)
    ∙ ap (λ k. out ++ (line (refused_words file l p t e own k) ++ line (refused_whence_words l p t e.p.0 k) ++ last ++ left)) same
