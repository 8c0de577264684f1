-- What is done once an await is judged is a decision on it.
use Rattle.std.proofs.Common.{◌≡◌, ℕ, true, List, Option, None, Some, Result, Ok, Err, refl, subst}
use Rattle.std.specs.Prelude.{IfOk}
use Rattle.std.specs.Result.{ForOk}
use Rattle.armus_base.specs.declared.errors.NoMemory.{NoMemory}
use Rattle.armus_base.specs.declared.status.Status.{Status}
use Rattle.armus_base.specs.Plans.{Aim, Blocks}
use Rattle.board.specs.calls.Views.{avoids, next_action}
use Rattle.board.specs.calls.Seats.{IsSeat, Known}
use Rattle.order_graph.specs.calls.Orders.{OrderValue}
use Rattle.phase_scan.specs.calls.Looks.{LoadsAlone}
use Rattle.verdict.specs.declared.found.Cycle.{Cycle}
use Rattle.avoider.specs.calls.Kept.{HoldsIfPublishedOnBoard}
use Rattle.avoider.specs.calls.OnBoard.{IsDecidedOnBoard}
use Rattle.avoider.specs.declared.decision.Decision.{Decision}
use Rattle.avoider.specs.declared.decision.Decision.TheVariants.{Published, Refused}
use Rattle.avoider.specs.inside.Concluded.{Concludes, IsConcluded, MayConclude}
use Rattle.avoider.specs.inside.Judged.{IsJudged, IsJudgedByOrder}
use Rattle.avoider.proofs.Decided.{explained, may_publish_now, may_refuse_now, publishes_by_order, publishes_on, refuses_on}

-- of what an order has followed the judgement alone
pub judged_alone : (list : List Status) (aim : Aim) (before store : Known) (old new : OrderValue) (r : Result (Option Cycle) NoMemory) →
    IfOk r (IsJudgedByOrder list aim before store old new) → IfOk r (IsJudged list aim before store)
judged_alone list aim before store old new (Ok found) j = j.judged
judged_alone list aim before store old new (Err e) j = tt

module _ (list : List Status) (aim : Aim) (before store : Known) (t : ℕ) (seat : IsSeat before) (own : before.view.own ≡ Some t) (avoiding : avoids before.view.mode ≡ true)
    (holds : before.view.holds ≡ true) (next : next_action before.view ≡ Some (Blocks aim)) (goes : LoadsAlone before store) where
  may_conclude_so : (found : Option Cycle) → IsJudged list aim before store found → MayConclude aim store found
  may_conclude_so None j = may_publish_now list aim before store None t seat own avoiding holds next goes j refl
  may_conclude_so (Some c) j =
      may_refuse_now list aim before store (Some c) t seat own avoiding holds next goes j
      (explained list aim before store (Some c) t seat own avoiding holds next goes j c refl).among

  pub may_conclude : (r : Result (Option Cycle) NoMemory) → IfOk r (IsJudged list aim before store) → ForOk r (MayConclude aim store)
  may_conclude (Ok found) j x is = subst (MayConclude aim store) (ok_same found x is) (may_conclude_so found j)
    where
      ok_same : (a b : Option Cycle) → (let r : Result (Option Cycle) NoMemory = Ok a in r ≡ Ok b) → a ≡ b
      ok_same a b e = cc
  may_conclude (Err e) j x is = absurd (err_ok e x is)
    where
      err_ok : (e : NoMemory) (b : Option Cycle) → (let r : Result (Option Cycle) NoMemory = Err e in r ≡ Ok b) → ⊥
      err_ok e b is = cc

  module _ (now : Known) where
    decided_so : (found : Option Cycle) → IsJudged list aim before store found → (d : Decision) → IsConcluded aim found store now d → IsDecidedOnBoard list aim before now d
    decided_so found j (Published e) (none, does) =
        publishes_on list aim before store found t seat own avoiding holds next goes j e does.stored now none does.phaser does.phase does.possible does.step does.freed
    decided_so found j (Refused c) (some, does) =
        refuses_on list aim before store found t seat own avoiding holds next goes j c does.stored does.free now some does.possible does.step does.freed does.drops

    pub decided : (r : Result (Option Cycle) NoMemory) → IfOk r (IsJudged list aim before store) → (s : Result Decision NoMemory) → Concludes aim r store now s →
        IfOk s (IsDecidedOnBoard list aim before now)
    decided (Ok found) j (Ok d) c = decided_so found j d c
    decided (Ok found) j (Err e) c = tt
    decided (Err e) j (Ok d) c = absurd c
    decided (Err e) j (Err f) c = tt

    holds_so : (old new : OrderValue) (found : Option Cycle) → IsJudgedByOrder list aim before store old new found → (d : Decision) → IsConcluded aim found store now d →
        HoldsIfPublishedOnBoard list aim before now old new d
    holds_so old new found j (Published e) (none, does) =
        publishes_by_order list aim before store found t seat own avoiding holds next goes j.judged old new e does.stored now j.pairs none does.phaser does.phase does.possible
        does.step does.freed
    holds_so old new found j (Refused c) does = tt

    pub holds_pairs :
        (old new : OrderValue) (r : Result (Option Cycle) NoMemory) → IfOk r (IsJudgedByOrder list aim before store old new) → (s : Result Decision NoMemory) →
        Concludes aim r store now s →
        IfOk s (HoldsIfPublishedOnBoard list aim before now old new)
    holds_pairs old new (Ok found) j (Ok d) c = holds_so old new found j d c
    holds_pairs old new (Ok found) j (Err e) c = tt
    holds_pairs old new (Err e) j (Ok d) c = absurd c
    holds_pairs old new (Err e) j (Err f) c = tt
