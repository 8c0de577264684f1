use Rattle.std.proofs.Common.{◌≡◌, ℕ, ◌+◌, ◌++◌, ◌<◌, ◌∙◌, List, Option, None, ap, arith, drop, length, refl, subst, sym, take}
use Rattle.std.specs.Prelude.{option_map, slice_index_or}
use Rattle.std.proofs.lemmas.List.{take_at}
use Rattle.explain_facts.specs.Accounts.{does_to}
use Rattle.explain_facts.specs.declared.account.Doing.{Doing}
use Rattle.explain_facts.specs.inside.Firsts.{AreFirstsBefore, first_or}
use Rattle.explain_facts.proofs.Firsts.{firsts_end, firsts_next, firsts_start}
use Rattle.explain_facts.proofs.nexts.firsts_of.Goals as goal

pub ops-init : goal.ops-init
ops-init c = record {
  numbers = refl;
  so_far = firsts_start c.args.ops c.args.i c.args.phasers c.in_ok-firsts.firsts.items c.in_ok-firsts.ensures;
}

pub overflow_add-at : goal.overflow_add-at
overflow_add-at c =
    let fewer = ap length c.in-Some.ensures.some in
    omega (arith, fewer, c.ops.invariant.numbers, c.requires.few)

pub ops-preserved : goal.ops-preserved
ops-preserved c =
    let old = c.ops.firsts.items in
    let new = c.note.new.firsts in
    let before = c.deref_mut.ensures.value in
    let sized : length new ≡ length old = c.note.ensures.sized ∙ ap length before in
    let kept : take c.ops.firsts.len (new ++ drop (length new) old) ≡ new = take_at new (drop (length new) old) c.ops.firsts.len (sized ∙ sym c.ops.firsts.ok.0) in
    let fewer = ap length c.in-Some.ensures.some in
    record {
      numbers = omega (arith, fewer, c.ops.invariant.numbers);
      so_far = subst (AreFirstsBefore c.args.ops c.args.i c.args.phasers c.next.new.self (c.ops.at + 1)) (sym kept)
          (firsts_next c.args.ops c.args.i c.args.phasers c.in-Some.op c.ops.left c.next.new.self c.ops.at old new c.ops.invariant.so_far c.in-Some.ensures.some sized
          (subst
          (λ (xs : List (Option (Doing × ℕ))). (q : ℕ) → q < length xs →
          slice_index_or new q None ≡ first_or (slice_index_or xs q None) (option_map (λ d. (d, c.ops.at)) (does_to q c.in-Some.op)))
          before c.note.ensures.noted));
    }

pub returns : goal.returns
returns c = firsts_end c.args.ops c.args.i c.args.phasers c.ops.left c.ops.at c.ops.firsts.items c.ops.invariant.so_far c.in_default.ensures.none.0
