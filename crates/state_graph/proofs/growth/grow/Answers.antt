use Rattle.std.proofs.Common.{◌≡◌, length, arith, sym, ◌∙◌, ap, false, Result, Ok, Err}
use Rattle.std.specs.Result.{is_err, OnOk}
use Rattle.state_graph.proofs.GrowingPairs.{grown_count, small_more, small_none, whole_pairs}
use Rattle.state_graph.proofs.growth.grow.Goals as goal

pub loop-k-init : goal.loop-k-init
loop-k-init c = record { grown = c.requires.grown; small = λ up. small_none c.args.deps.now }

from_on_ok : {E P : Type 0} (r : Result (Unit {0}) E) → is_err r ≡ false → OnOk r P → P
from_on_ok (Ok x) e p = p
from_on_ok (Err y) e p = absurd cc

pub returns-then-edges-k : goal.returns-then-edges-k
returns-then-edges-k c up =
    let grown = from_on_ok c.add_task.result (sym c.is_err.ensures.value ∙ c.if-is_err.false) c.add_task.ensures in
    let formed = c.places.ensures.formed in (
      omega (arith, ap length c.places.ensures.places, formed.awaits_sized),
      grown_count _ _ _ _ _ _ grown up _ c.edges-edges.ensures,
      c.if-edges-k.true,
      c.loop-k.invariant.small up,
    )

pub loop-k-preserved : goal.loop-k-preserved
loop-k-preserved c =
    let grown = from_on_ok c.add_task.result (sym c.is_err.ensures.value ∙ c.if-is_err.false) c.add_task.ensures in
    record { grown = grown; small = λ up. small_more _ _ _ _ _ _ grown up _ c.edges-edges.ensures (c.loop-k.invariant.small up) c.if-edges-k.false }

pub returns : goal.returns
returns c =
    let formed = c.places.ensures.formed in
    let n : c.loop-k.k ≡ length c.args.deps.now.tasks = omega (arith, ap length c.places.ensures.places, formed.awaits_sized) in
    let grown = c.loop-k.invariant.grown in
    (record { nodes = grown.sized.nodes; pairs = let p = whole_pairs _ _ _ _ _ _ grown formed n in rw n at p }, rw n at c.loop-k.invariant.small)
