use Rattle.std.proofs.Common.{arith}
use Rattle.std.proofs.lemmas.Grind.{common_steps}
use Rattle.pl_syntax.proofs.EndsByBraces.{ended_empty, ended_one}
use Rattle.pl_syntax.proofs.ends.+note.Goals as goal

pub note_ended-returns-in-empty-clause-ends : goal.note_ended-returns-in-empty-clause-ends
note_ended-returns-in-empty-clause-ends t c =
    ended_empty c.args.ends.now.items c.push.new.self.items c.note_body.new.ends.items c.args.braces.now c.in_ok-note_body.field-0.now c.args.body.now
    c.in_ok-push.ensures.items c.in_ok-note_body.ensures.ends c.in_ok-note_body.ensures.rest c.in-empty.len_below

pub note_ended-returns-in-len1-up-clause-ends : goal.note_ended-returns-in-len1-up-clause-ends
note_ended-returns-in-len1-up-clause-ends t c =
    ended_one c.args.ends.now.items c.push.new.self.items c.note_body.new.ends.items c.args.braces.now c.in_ok-note_body.field-0.now c.args.body.now
    c.len-at.result (let l = c.len-at.ensures in let ok = c.args.ends.now.ok in omega (arith, l, ok)) c.in_ok-push.ensures.items c.in_ok-note_body.ensures.ends c.in_ok-note_body.ensures.rest (omega arith)

pub note_body-note_statement-requires : goal.note_body-note_statement-requires
note_body-note_statement-requires t c = grind (arith, common_steps)

pub note_body-loop-stmt-preserved : goal.note_body-loop-stmt-preserved
note_body-loop-stmt-preserved t c = grind (arith, common_steps)

pub note_body-returns-clause-ends : goal.note_body-returns-clause-ends
note_body-returns-clause-ends t c = grind (arith, common_steps)

pub note_body-returns-clause-rest : goal.note_body-returns-clause-rest
note_body-returns-clause-rest t c = grind (arith, common_steps)

pub note_ended-index_mut-requires : goal.note_ended-index_mut-requires
note_ended-index_mut-requires t c = grind (arith, common_steps)

pub note_ended-returns-in-empty-clause-rest : goal.note_ended-returns-in-empty-clause-rest
note_ended-returns-in-empty-clause-rest t c = grind (arith, common_steps)

pub note_ended-returns-in-len1-up-clause-rest : goal.note_ended-returns-in-len1-up-clause-rest
note_ended-returns-in-len1-up-clause-rest t c = grind (arith, common_steps)
