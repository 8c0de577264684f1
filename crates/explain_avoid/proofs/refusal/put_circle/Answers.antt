use Rattle.explain_facts.specs.calls.Known.{kept_layout}
use Rattle.explain_avoid.proofs.Circles.{one_alone, several}
use Rattle.explain_avoid.proofs.refusal.put_circle.Goals as goal

pub returns-in_ok-put_words-in-len1 : goal.returns-in_ok-put_words-in-len1
returns-in_ok-put_words-in-len1 c = λ ops stand.
    one_alone (kept_layout c.args.facts.now) c.args.facts.now.program.now ops c.args.out.now.items c.put_member.new.out.items c.put_words.new.out.items
    c.args.cycle.now c.in-len1.len_at_least c.in-len1.len_below (c.in_ok-put_member-in-len1.ensures ops stand) c.in_ok-put_words-in-len1.ensures

pub returns-in_ok-put_task-in-len2-up : goal.returns-in_ok-put_task-in-len2-up
returns-in_ok-put_task-in-len2-up c = λ ops stand.
    several (kept_layout c.args.facts.now) c.args.facts.now.program.now ops c.args.out.now.items c.put_members.new.out.items c.put_task.new.out.items
    c.args.cycle.now c.in-len2-up.len_at_least (c.in_ok-put_members-in-len2-up.ensures ops stand) c.in_ok-put_task-in-len2-up.ensures
