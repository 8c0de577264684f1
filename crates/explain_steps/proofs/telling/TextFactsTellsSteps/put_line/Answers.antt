use Rattle.std.proofs.Common.{◌++◌, codes, decimal}
use Rattle.source_map.specs.Origins.{op_origin}
use Rattle.pl_core.specs.calls.Worlds.{action_by_code, state_of}
use Rattle.explain_tasks.specs.Places.{said_of}
use Rattle.explain_steps.specs.StepWords.{change_words, drawn_task_words, whence_words}
use Rattle.explain_facts.specs.calls.Known.{kept_layout}
use Rattle.explain_steps.proofs.LineSaid.{as_line}
use Rattle.explain_steps.proofs.Pieces.{eight_pieces}
use Rattle.explain_steps.proofs.telling.TextFactsTellsSteps.put_line.Goals as goal

pub returns : goal.returns
returns c =
    let p = c.args.self.now.program.now in
    let l = kept_layout c.args.self.now in
    let w = c.args.world.now in
    let t = c.args.t.0 in
    let i = c.op-i.result in
    let who = drawn_task_words p t in
    let whence = whence_words l p t (op_origin p t i) in
    let change = change_words p (state_of w) t in
    record {
      op = i;
      stands = c.op-i.ensures.op;
      is = as_line c.args.out.now.items c.put_words-4.new.out.items
          (decimal c.args.number ++ codes ": " ++ who ++ codes " at " ++ whence ++ codes ": ") change (action_by_code w t) c.requires.enabled.0 c.requires.enabled.1
          (eight_pieces c.args.out.now.items c.put_number.new.out.items c.put_words.new.out.items c.put_task.new.out.items c.put_words-2.new.out.items
          c.put_whence.new.out.items c.put_words-3.new.out.items c.put_change.new.out.items c.put_words-4.new.out.items
          (decimal c.args.number) (codes ": ") who (codes " at ") whence (codes ": ") (said_of change (action_by_code w t)) (codes "\n")
          c.in_ok-put_number.ensures c.in_ok-put_words.ensures c.in_ok-put_task.ensures c.in_ok-put_words-2.ensures c.in_ok-put_whence.ensures
          c.in_ok-put_words-3.ensures c.in_ok-put_change.ensures c.in_ok-put_words-4.ensures);
    }
