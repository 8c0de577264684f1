use Rattle.std.proofs.Common.{length, arith, ap, inl, inr}
use Rattle.std.proofs.lemmas.Bool.{cases_eq}
use Rattle.verdict.proofs.Verdicts.{some_dead}
use Rattle.verdict.proofs.check.check_cycle.Goals as goal

pub returns-then-not-is_link : goal.returns-then-not-is_link
returns-then-not-is_link c h =
    let off = rw (c.as_slice-tasks.ensures.items, c.as_slice-events.ensures.items) at c.if-not-is_link.ensures in
    off (h.each c.loop-k.k (omega (arith, ap length c.as_slice-tasks.ensures.items)))

pub loop-k-preserved : goal.loop-k-preserved
loop-k-preserved c i lt =
    let link = rw (c.as_slice-tasks.ensures.items, c.as_slice-events.ensures.items) at c.if-not-is_link.ensures in
    elim (cases_eq i c.loop-k.k) [
      | inl same ↦ rw same link
      | inr ne ↦ c.loop-k.invariant i (omega arith)
    ]

pub returns : goal.returns
returns c =
    let n = ap length c.as_slice-tasks.ensures.items in
    let m = ap length c.as_slice-events.ensures.items in
    record {
      sized = omega (arith, c.if-events-tasks.false);
      some = omega (arith, some_dead c.as_slice-tasks.result.now c.is_empty.result c.is_empty.ensures c.if-is_empty.false);
      each = λ k lt. c.loop-k.invariant k (omega arith);
    }
