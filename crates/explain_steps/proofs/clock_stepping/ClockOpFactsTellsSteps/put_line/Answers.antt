use Rattle.std.proofs.Common.{◌≡◌, ◌∙◌, ◌++◌, ap, codes, decimal}
use Rattle.std.specs.Prelude.{slice_get}
use Rattle.armus_base.specs.Plans.{Plan, code_of}
use Rattle.pl_core.specs.calls.Worlds.{action_by_code, state_of}
use Rattle.explain_tasks.specs.Places.{said_of}
use Rattle.explain_steps.proofs.LineSaid.{as_line}
use Rattle.explain_steps.proofs.Pieces.{eight_pieces}
use Rattle.explain_clock.specs.ClockWords.{activity_words}
use Rattle.explain_steps.specs.OpFacts.{clock_op_origin}
use Rattle.explain_steps.specs.ClockStepWords.{clock_change_words, clock_whence_words}
use Rattle.explain_steps.specs.calls.Known.{known_ops}
use Rattle.explain_steps.proofs.clock_stepping.ClockOpFactsTellsSteps.put_line.Goals as goal

pub returns : goal.returns
returns c =
    let f = known_ops c.args.self.now in
    let w = c.args.world.now in
    let t = c.args.t.0 in
    let i = c.op-i.result in
    let who = activity_words f.of_text t in
    let whence = clock_whence_words f (slice_get (code_of w.plan t) i) (clock_op_origin f t i) in
    let change = clock_change_words f.of_text (state_of w) t (clock_op_origin f t i) in
    let at : c.op_at-op.result ≡ slice_get (code_of w.plan t) i =
    c.op_at-op.ensures ∙ ap (λ (q : Plan). slice_get (code_of q t) i) c.plan-plan.ensures.plan in
    let put_whence : c.put_whence.new.out.items ≡ c.put_words-2.new.out.items ++ whence =
    c.in_ok-put_whence.ensures
    ∙ ap (λ o. c.put_words-2.new.out.items ++ clock_whence_words f o c.origin-origin.result) at
    ∙ ap (λ n. c.put_words-2.new.out.items ++ clock_whence_words f (slice_get (code_of w.plan t) i) n) c.origin-origin.ensures in
    let put_change : c.put_change.new.out.items ≡ c.put_words-3.new.out.items ++ said_of change (action_by_code w t) =
    c.in_ok-put_change.ensures
    ∙ ap (λ n. c.put_words-3.new.out.items ++ said_of (clock_change_words f.of_text (state_of w) t n) (action_by_code w t)) c.origin-origin.ensures in
    record {
      op = i;
      stands = c.op-i.ensures.op;
      is = as_line c.args.out.now.items c.put_words-4.new.out.items
          (decimal c.args.number ++ codes ": " ++ who ++ codes " at " ++ whence ++ codes ": ") change (action_by_code w t) c.requires.enabled.0 c.requires.enabled.1
          (eight_pieces c.args.out.now.items c.put_number.new.out.items c.put_words.new.out.items c.put_activity.new.out.items c.put_words-2.new.out.items
          c.put_whence.new.out.items c.put_words-3.new.out.items c.put_change.new.out.items c.put_words-4.new.out.items
          (decimal c.args.number) (codes ": ") who (codes " at ") whence (codes ": ") (said_of change (action_by_code w t)) (codes "\n")
          c.in_ok-put_number.ensures c.in_ok-put_words.ensures c.in_ok-put_activity.ensures c.in_ok-put_words-2.ensures put_whence
          c.in_ok-put_words-3.ensures put_change c.in_ok-put_words-4.ensures);
    }
