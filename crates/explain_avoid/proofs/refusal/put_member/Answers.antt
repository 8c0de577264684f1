use Rattle.std.proofs.Common.{◌≡◌, ◌∙◌, ◌++◌, ap, codes}
use Rattle.armus_base.specs.Plans.{code_of}
use Rattle.source_map.specs.Origins.{op_origin}
use Rattle.pl_core.specs.calls.Worlds.{places_of}
use Rattle.explain_tasks.specs.Places.{said_of}
use Rattle.explain_steps.specs.StepWords.{drawn_task_words}
use Rattle.explain_facts.specs.calls.Known.{kept_layout}
use Rattle.explain_avoid.specs.RefusalWords.{place_of}
use Rattle.explain_avoid.proofs.Pieces.{three_pieces}
use Rattle.explain_avoid.proofs.refusal.put_member.Goals as goal
use Rattle.explain_facts.proofs.OneAccount.{one_op}

pub returns : goal.returns
returns c = λ ops stand.
    let p = c.args.facts.now.program.now in
    let l = kept_layout c.args.facts.now in
    let w = c.args.world.now in
    let t = c.args.t.0 in
    let same : c.op-i.result ≡ ops t = one_op (code_of w.plan t) (places_of w t).done c.op-i.result (ops t) c.op-i.ensures.op (stand t) in
    three_pieces c.args.out.now.items c.put_task.new.out.items c.put_words.new.out.items c.put_place.new.out.items (drawn_task_words p t) (codes " at ")
    (said_of (place_of l) c.op-n.result) c.in_ok-put_task.ensures c.in_ok-put_words.ensures c.in_ok-put_place.ensures
    ∙ ap (λ n. c.args.out.now.items ++ (drawn_task_words p t ++ codes " at " ++ said_of (place_of l) n)) (c.op-n.ensures ∙ ap (op_origin p t) same)
