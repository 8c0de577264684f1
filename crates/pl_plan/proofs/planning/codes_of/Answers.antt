use Rattle.std.proofs.Common.{◌<◌, ◌≤◌, ◌∙◌, [], ◌∷◌, ◌++◌, ap, arith, get_or, length, subst, sym}
use Rattle.std.proofs.lemmas.List.{nil_from_length}
use Rattle.armus_base.specs.Limits.{max_ops}
use Rattle.pl_plan.specs.Unfolding.{code_pieces}
use Rattle.pl_plan.proofs.FoldedCodes.{codes_end, codes_next, codes_start, next_below, next_few, next_folded, next_tree}
use Rattle.pl_plan.proofs.planning.codes_of.Goals as goal

pub loop-ops-init : goal.loop-ops-init
loop-ops-init c =
    codes_start c.args.steps.now c.args.starts.now c.args.lists.items c.into_iter-ops-iterator.result.rest.items c.new-codes.result
    c.into_iter-ops-iterator.ensures.into_iter_gives.0 c.new-codes.ensures.empty

pub bounds-starts-t : goal.bounds-starts-t
bounds-starts-t c =
    subst (λ xs. length xs < length c.args.starts.now) (sym c.as_slice-t.ensures.items)
    (next_below c.args.steps.now c.args.starts.now c.args.lists.items c.loop-ops.yielded c.loop-ops.ops-iterator.rest.items c.loop-ops.codes c.requires.folds
    c.loop-ops.invariant c.in-Some.ops c.next.new.self.rest.items c.in-Some.ensures.steps.0)

pub code_pieces-requires-clause-few : goal.code_pieces-requires-clause-few
code_pieces-requires-clause-few c =
    subst (λ os. length os ≤ max_ops) (sym c.as_slice.ensures.items)
    (next_few c.args.steps.now c.args.starts.now c.args.lists.items c.loop-ops.yielded c.loop-ops.ops-iterator.rest.items c.loop-ops.codes c.requires.folds
    c.loop-ops.invariant c.in-Some.ops c.next.new.self.rest.items c.in-Some.ensures.steps.0)

pub code_pieces-requires-clause-tree : goal.code_pieces-requires-clause-tree
code_pieces-requires-clause-tree c =
    next_tree c.args.steps.now c.args.starts.now c.args.lists.items c.loop-ops.yielded c.loop-ops.ops-iterator.rest.items c.loop-ops.codes c.requires.folds
    c.loop-ops.invariant c.in-Some.ops c.next.new.self.rest.items c.in-Some.ensures.steps.0 c.index-starts-t.result
    (c.index-starts-t.is ∙ ap (λ xs. get_or c.args.starts.now (length xs) c.index-starts-t.result) c.as_slice-t.ensures.items)

pub from_pieces-requires : goal.from_pieces-requires
from_pieces-requires c = record {
  folded =
      next_folded c.args.steps.now c.args.starts.now c.args.lists.items c.loop-ops.yielded c.loop-ops.ops-iterator.rest.items c.loop-ops.codes
      c.requires.folds c.loop-ops.invariant c.in-Some.ops c.next.new.self.rest.items c.in-Some.ensures.steps.0 c.index-starts-t.result
      (c.index-starts-t.is ∙ ap (λ xs. get_or c.args.starts.now (length xs) c.index-starts-t.result) c.as_slice-t.ensures.items) c.in_ok-pieces.pieces
      (λ n names start spells. c.in_ok-pieces.ensures.folds n names start spells ∙ ap (code_pieces start) c.as_slice.ensures.items);
}

pub loop-ops-preserved : goal.loop-ops-preserved
loop-ops-preserved c =
    codes_next c.args.steps.now c.args.starts.now c.args.lists.items c.loop-ops.yielded c.loop-ops.ops-iterator.rest.items c.loop-ops.codes c.requires.folds
    c.loop-ops.invariant c.in-Some.ops c.next.new.self.rest.items c.in-Some.ensures.steps.0 c.index-starts-t.result
    (c.index-starts-t.is ∙ ap (λ xs. get_or c.args.starts.now (length xs) c.index-starts-t.result) c.as_slice-t.ensures.items) c.in_ok-pieces.pieces
    (λ n names start spells. c.in_ok-pieces.ensures.folds n names start spells ∙ ap (code_pieces start) c.as_slice.ensures.items) c.push.new.self
    (c.in_ok-push.ensures.ok ∙ ap (λ ps. c.loop-ops.codes ++ ps ∷ []) c.from_pieces.ensures.pieces)

pub returns : goal.returns
returns c = record {
  folded =
      codes_end c.args.steps.now c.args.starts.now c.args.lists.items c.loop-ops.yielded c.loop-ops.ops-iterator.rest.items c.loop-ops.codes
      (nil_from_length c.loop-ops.ops-iterator.rest.items (omega (arith, c.in-None.ensures.steps.0, c.loop-ops.ops-iterator.rest.ok))) c.loop-ops.invariant;
}
