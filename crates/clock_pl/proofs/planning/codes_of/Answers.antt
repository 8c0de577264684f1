use Rattle.std.proofs.Common.{arith, ap, sym, subst, ◌∙◌, length}
use Rattle.std.proofs.lemmas.List.{nil_from_length}
use Rattle.armus_base.specs.calls.Pieces.{IsFolded}
use Rattle.armus_base.specs.Pieces.{straight}
use Rattle.clock_pl.proofs.ClockCodes.{code_made, codes_made, next_ops, no_code}
use Rattle.clock_pl.proofs.planning.codes_of.Goals as goal

pub loop-ops-init : goal.loop-ops-init
loop-ops-init c =
    no_code c.args.lists.items c.into_iter-ops-iterator.result.rest.items c.new-codes.result c.into_iter-ops-iterator.ensures.into_iter_gives.0 c.new-codes.ensures.empty

pub code_of-requires : goal.code_of-requires
code_of-requires c =
    subst (λ ops. IsFolded (straight ops))
    (next_ops c.args.lists.items c.loop-ops.yielded c.loop-ops.ops-iterator.rest.items c.loop-ops.codes c.loop-ops.invariant c.in-Some.ops
    c.next.new.self.rest.items c.in-Some.ensures.steps.0 ∙ sym c.as_slice.ensures.items)
    (c.requires.folded (length c.loop-ops.yielded))

pub loop-ops-preserved : goal.loop-ops-preserved
loop-ops-preserved c =
    code_made c.args.lists.items c.loop-ops.yielded c.loop-ops.ops-iterator.rest.items c.loop-ops.codes c.loop-ops.invariant c.in-Some.ops
    c.next.new.self.rest.items c.in-Some.ensures.steps.0 _ c.push.new.self (c.in_ok-code_of.ensures ∙ ap straight c.as_slice.ensures.items) c.in_ok-push.ensures.ok

pub returns : goal.returns
returns c = record {
  codes =
      codes_made c.args.lists.items c.loop-ops.yielded c.loop-ops.ops-iterator.rest.items c.loop-ops.codes
      (nil_from_length c.loop-ops.ops-iterator.rest.items (omega (arith, c.in-None.ensures.steps.0, c.loop-ops.ops-iterator.rest.ok))) c.loop-ops.invariant;
}
