-- How a bounded build ends, by places and by statuses.
use Rattle.std.proofs.Common.{List, arith}
use Rattle.armus_base.specs.calls.Statuses.{IsInOrder}
use Rattle.armus_base.specs.declared.status.Status.{Status}
use Rattle.dep_state.specs.calls.Deps.{Deps, IsDepsOf}
use Rattle.dep_state.proofs.TaskPlaces.{count}
use Rattle.state_graph.specs.calls.BoundedEnds.{IsBoundedEnd}
use Rattle.state_graph.specs.inside.Ends.{IsEndAt}
use Rattle.state_graph.specs.declared.end.SgEnd.{SgEnd}
use Rattle.state_graph.specs.declared.end.SgEnd.TheVariants.{Left, NoMemory}
use Rattle.state_graph.proofs.StatePlaces.{state_count, count_state}

pub bounded_end : (ss : List Status) → IsInOrder ss → (d : Deps) → IsDepsOf ss d → (e : SgEnd) → IsEndAt d e → IsBoundedEnd ss e
bounded_end ss ok d is (Left k n) (le, c, large, first) =
    let sized = count ss ok d is in
    record {
      inside = omega arith;
      count = state_count ss ok d is k (omega arith) n c;
      large = large;
      first = λ j m lt other. first j m lt (count_state ss ok d is j (omega arith) m other);
    }
bounded_end ss ok d is NoMemory h = tt
