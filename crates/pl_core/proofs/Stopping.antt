-- Where in its code a task stands after its first actions.
use Rattle.std.proofs.Common.{◌≡◌, ℕ, zero, suc, ◌<◌, ◌≤◌, ◌+◌, ◌-◌, false, add-one, List, [], ◌∷◌, Some, None, length, arith, ap}
use Rattle.std.specs.Prelude.{slice_get, ◌==◌}
use Rattle.std.proofs.Math.Seq.{take-length}
use Rattle.std.proofs.lemmas.Option.{slice_get_within}
use Rattle.armus_base.specs.declared.op.Op.{Op}
use Rattle.armus_base.specs.declared.op.Op.TheVariants.{Make, Reg, Fork, Adv, Drop, Await}
use Rattle.armus_base.specs.Plans.{actions_of}
use Rattle.pl_core.specs.inside.Stops.{IsStopOf}
use Rattle.pl_core.specs.Tasks.{actions_before}
use Rattle.pl_core.proofs.OpCounts.{actions_before-suc, actions_in_is, at_least_one}

-- before the op, or inside it, where it is an await
pub stop_here :
    (ops : List Op) (k events left : ℕ) (op : Op) → slice_get ops k ≡ Some op → left + actions_before ops k ≡ events → left < length (actions_of (op ∷ [])) →
    IsStopOf ops events (record { op = k; begun = left == 1 })
stop_here ops k events zero op is e l =
    record { within = (let w = slice_get_within ops k op is in omega arith); events = omega arith; await = λ b. absurd (cc) }
stop_here ops k events (suc zero) (Await p off) is e l =
    record { within = (let w = slice_get_within ops k (Await p off) is in omega arith); events = omega arith; await = λ b. (p, off, is) }
stop_here ops k events (suc zero) (Make p) is e l = absurd (omega arith)
stop_here ops k events (suc zero) (Reg c p) is e l = absurd (omega arith)
stop_here ops k events (suc zero) (Fork c) is e l = absurd (omega arith)
stop_here ops k events (suc zero) (Adv p) is e l = absurd (omega arith)
stop_here ops k events (suc zero) (Drop p) is e l = absurd (omega arith)
stop_here ops k events (suc (suc n)) (Await p off) is e l = absurd (omega arith)
stop_here ops k events (suc (suc n)) (Make p) is e l = absurd (omega arith)
stop_here ops k events (suc (suc n)) (Reg c p) is e l = absurd (omega arith)
stop_here ops k events (suc (suc n)) (Fork c) is e l = absurd (omega arith)
stop_here ops k events (suc (suc n)) (Adv p) is e l = absurd (omega arith)
stop_here ops k events (suc (suc n)) (Drop p) is e l = absurd (omega arith)

-- behind the op
pub stop_later :
    (ops : List Op) (k events left size : ℕ) (op : Op) → slice_get ops k ≡ Some op → left + actions_before ops k ≡ events →
    size ≡ length (actions_of (op ∷ [])) → size ≤ left → (left - size) + actions_before ops (k + 1) ≡ events
stop_later ops k events left size op is e s l =
    let more = actions_before-suc ops k op is in
    let one = ap (actions_before ops) (add-one k) in
    let many = actions_in_is op in
    omega arith

-- behind the last op
pub stop_at_end :
    (ops : List Op) (events left : ℕ) → left + actions_before ops (length ops) ≡ events → events ≤ length (actions_of ops) →
    IsStopOf ops events (record { op = length ops; begun = false })
stop_at_end ops events left e l =
    let all : actions_before ops (length ops) ≡ length (actions_of ops) = ap (λ xs. length (actions_of xs)) (take-length ops) in
    record { within = omega arith; events = omega arith; await = λ b. absurd (cc) }

-- there is no op behind the last one
pub past_the_last : (ops : List Op) (k : ℕ) → k ≤ length ops → slice_get ops k ≡ None → k ≡ length ops
past_the_last [] k l e = omega arith
past_the_last (op ∷ ops) zero l e = absurd (cc)
past_the_last (op ∷ ops) (suc k) l e = let r = past_the_last ops k (omega arith) e in omega arith

-- where as many events are left as the op has, all its actions are among those that the task has made
module _ (ops : List Op) (k events left size : ℕ) (op : Op) (is : slice_get ops k ≡ Some op) (e : left + actions_before ops k ≡ events)
    (sized : size ≡ length (actions_of (op ∷ []))) (enough : size ≤ left) where
  pub made_before : actions_before ops (suc k) ≤ events
  made_before = (let more = actions_before-suc ops k op is in let many = actions_in_is op in omega arith)

  pub made_less : actions_before ops k < events
  made_less = (let many = actions_in_is op in let one = at_least_one op in omega arith)
