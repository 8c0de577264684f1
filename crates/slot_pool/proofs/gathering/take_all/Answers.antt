use Rattle.std.proofs.Common.{rules, ◌≡◌, Bool, true, false, get_or, sym, ap, ◌∙◌, ◌++◌, ◌∷◌, [], List, subst, arith}
use Rattle.std.specs.Mem.Slots.{slots_filled}
use mathlib.Core.Option.{some}
use lib.ListN.{get_elem?}
use Rattle.slot_pool.proofs.Taken.{all_emptied, still_filled, take_at}
use Rattle.slot_pool.proofs.gathering.take_all.Goals as goal

pub loop-slot-preserved : goal.loop-slot-preserved
loop-slot-preserved g c =
    let before = c.loop-slot.invariant in
    let i = c.loop-slot.slot in
    let others = c.take.ensures.others in record {
      left = λ k after inside.
          subst (λ (fs : List Bool). get_or fs k false ≡ true) (sym others.1)
          (still_filled (slots_filled c.loop-slot.closed.slots) i c.slot_count-slot-end.result (λ j from to. before.left j from (let n = before.count in
          omega arith)) k after
          (let n = before.count in let m = others.2 in omega arith));
      taken = λ k to. subst (λ (fs : List Bool). get_or fs k false ≡ false) (sym others.1) (all_emptied (slots_filled c.loop-slot.closed.slots) i before.taken k to);
      items = search rules;
      count = search rules;
      entries = c.push_reserved.ensures.items ∙ ap (λ xs. xs ++ c.take.result ∷ []) before.entries
          ∙ take_at _ i c.take.result (subst (λ xs. get_elem? xs i ≡ some c.take.result) before.items c.take.ensures.value);
      len = search rules;
      room = search rules;
    }
