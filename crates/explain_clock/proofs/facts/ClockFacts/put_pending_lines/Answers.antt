use Rattle.std.proofs.Common.{◌≡◌, ◌∙◌, ◌-◌, ◌++◌, ap, arith, length}
use Rattle.std.specs.Prelude.{slice_get}
use Rattle.std.proofs.lemmas.Result.{on_ok_weaker}
use Rattle.explain_clock.specs.ClockFacts.{ClockFacts}
use Rattle.explain_clock.specs.ClockExplanations.{few_lines, line_if_pending, lines_below}
use Rattle.explain_clock.specs.ClockFacts.{pending_in}
use Rattle.explain_clock.specs.ClockKeepers.{others_line}
use Rattle.explain_clock.proofs.FewLines.{few_written, pending_more}
use Rattle.explain_clock.proofs.facts.ClockFacts.put_pending_lines.Goals as goal

pub loop-p-preserved : goal.loop-p-preserved
loop-p-preserved c =
    pending_more c.args.self.now c.args.event (pending_in (slice_get c.args.self.now.waits c.args.t)) c.args.out.now.items c.loop-p.out.items
    c.put_if_pending.new.out.items c.loop-p.count c.in_ok-count.count c.loop-p.p c.loop-p.invariant c.in_ok-count.ensures

pub returns : goal.returns
returns c =
    let few : c.saturating_sub.result ≡ c.loop-p.count - 3 = omega arith in
    let same = ap (λ (f : ClockFacts). length f.of_text.things) c.self.view_is in
    let all : c.loop-p.p ≡ length c.args.self.now.of_text.things = omega (arith, same) in
    on_ok_weaker c.put_more.result
    (λ e. few_written (lines_below (line_if_pending c.args.self.now c.args.event (pending_in (slice_get c.args.self.now.waits c.args.t))) c.loop-p.p)
    c.args.out.now.items c.loop-p.out.items c.put_more.new.out.items c.loop-p.count c.loop-p.p c.loop-p.invariant
    (e ∙ ap (λ n. c.loop-p.out.items ++ others_line n) few)
    ∙ ap (λ n. c.args.out.now.items ++ few_lines (lines_below (line_if_pending c.args.self.now c.args.event (pending_in (slice_get c.args.self.now.waits c.args.t))) n))
    all)
    c.put_more.ensures
