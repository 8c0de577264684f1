-- Where an op's actions stand among the actions of a code.
use Rattle.std.proofs.Common.{◌≡◌, ◌≢◌, ℕ, zero, suc, ◌≤◌, ◌+◌, List, [], ◌∷◌, Option, Some, None, length, arith, ap, refl}
use Rattle.std.specs.Prelude.{slice_get, option_map}
use Rattle.armus_base.specs.declared.offset.Offset.{Offset}
use Rattle.armus_base.specs.declared.op.Op.{Op}
use Rattle.armus_base.specs.declared.op.Op.TheVariants.{Make, Reg, Fork, Adv, Drop, Await}
use Rattle.armus_base.specs.Plans.{Action, Aim, Blocks, actions_of}
use Rattle.pl_core.specs.inside.Ops.{action_of}
use Rattle.pl_core.specs.Tasks.{actions_before}

-- the action after those of the first k ops is the one with which the next op begins
pub action_before : (ops : List Op) (k : ℕ) → k ≤ length ops → slice_get (actions_of ops) (actions_before ops k) ≡ option_map action_of (slice_get ops k)
action_before [] zero l = refl
action_before [] (suc k) l = absurd (omega arith)
action_before (Make p ∷ ops) zero l = refl
action_before (Reg c p ∷ ops) zero l = refl
action_before (Fork c ∷ ops) zero l = refl
action_before (Adv p ∷ ops) zero l = refl
action_before (Drop p ∷ ops) zero l = refl
action_before (Await p off ∷ ops) zero l = refl
action_before (Make p ∷ ops) (suc k) l = action_before ops k (omega arith)
action_before (Reg c p ∷ ops) (suc k) l = action_before ops k (omega arith)
action_before (Fork c ∷ ops) (suc k) l = action_before ops k (omega arith)
action_before (Adv p ∷ ops) (suc k) l = action_before ops k (omega arith)
action_before (Drop p ∷ ops) (suc k) l = action_before ops k (omega arith)
action_before (Await p off ∷ ops) (suc k) l = action_before ops k (omega arith)

-- how many actions an op is
pub actions_in : Op → ℕ
actions_in (Await p off) = 2
actions_in op = 1

-- one op more
pub actions_before-suc : (ops : List Op) (k : ℕ) (op : Op) → slice_get ops k ≡ Some op → actions_before ops (suc k) ≡ actions_before ops k + actions_in op
unfolding actions_in
actions_before-suc [] k op e = absurd (cc)
actions_before-suc (Make p ∷ ops) zero op e = (let is : Make p ≡ op = (cc) in let n = ap actions_in is in omega arith)
actions_before-suc (Reg c p ∷ ops) zero op e = (let is : Reg c p ≡ op = (cc) in let n = ap actions_in is in omega arith)
actions_before-suc (Fork c ∷ ops) zero op e = (let is : Fork c ≡ op = (cc) in let n = ap actions_in is in omega arith)
actions_before-suc (Adv p ∷ ops) zero op e = (let is : Adv p ≡ op = (cc) in let n = ap actions_in is in omega arith)
actions_before-suc (Drop p ∷ ops) zero op e = (let is : Drop p ≡ op = (cc) in let n = ap actions_in is in omega arith)
actions_before-suc (Await p off ∷ ops) zero op e = (let is : Await p off ≡ op = (cc) in let n = ap actions_in is in omega arith)
actions_before-suc (Make p ∷ ops) (suc k) op e = (let r = actions_before-suc ops k op e in omega arith)
actions_before-suc (Reg c p ∷ ops) (suc k) op e = (let r = actions_before-suc ops k op e in omega arith)
actions_before-suc (Fork c ∷ ops) (suc k) op e = (let r = actions_before-suc ops k op e in omega arith)
actions_before-suc (Adv p ∷ ops) (suc k) op e = (let r = actions_before-suc ops k op e in omega arith)
actions_before-suc (Drop p ∷ ops) (suc k) op e = (let r = actions_before-suc ops k op e in omega arith)
actions_before-suc (Await p off ∷ ops) (suc k) op e = (let r = actions_before-suc ops k op e in omega arith)

pub await_is_two : (p : _) (off : Offset) → actions_in (Await p off) ≡ 2
unfolding actions_in
await_is_two p off = refl

-- the phaser of a block
aimed : {a b : Aim} → Some (Blocks a) ≡ Some (Blocks b) → a.phaser ≡ b.phaser
aimed e = ap phaser_of e
  where
    phaser_of : Option Action → ℕ
    phaser_of (Some (Blocks a)) = a.phaser
    phaser_of o = 0

-- an op that begins with a block is an await, and a block is the first action of one
pub blocks_is : (o : Option Op) (aim : Aim) → option_map action_of o ≡ Some (Blocks aim) → (q : _) × (off : Offset) × (o ≡ Some (Await q off)) × q.0 ≡ aim.phaser
blocks_is None aim e = absurd (cc)
blocks_is (Some (Make q)) aim e = absurd (cc)
blocks_is (Some (Reg c q)) aim e = absurd (cc)
blocks_is (Some (Fork c)) aim e = absurd (cc)
blocks_is (Some (Adv q)) aim e = absurd (cc)
blocks_is (Some (Drop q)) aim e = absurd (cc)
blocks_is (Some (Await q off)) aim e = (q, off, refl, aimed e)

-- an op that is no await is one action
pub one_unless_await : (op : Op) → ((aim : Aim) → action_of op ≢ Blocks aim) → actions_in op ≡ 1
unfolding actions_in
one_unless_await (Make p) n = refl
one_unless_await (Reg c p) n = refl
one_unless_await (Fork c) n = refl
one_unless_await (Adv p) n = refl
one_unless_await (Drop p) n = refl
one_unless_await (Await p off) n = absurd (n (record { phaser = p.0; off = off }) refl)

-- an op is at least one action
pub at_least_one : (op : Op) → 1 ≤ actions_in op
unfolding actions_in
at_least_one (Make p) = omega arith
at_least_one (Reg c p) = omega arith
at_least_one (Fork c) = omega arith
at_least_one (Adv p) = omega arith
at_least_one (Drop p) = omega arith
at_least_one (Await p off) = omega arith

-- how many actions an op is, as a code of its own
pub actions_in_is : (op : Op) → length (actions_of (op ∷ [])) ≡ actions_in op
unfolding actions_in
actions_in_is (Make p) = refl
actions_in_is (Reg c p) = refl
actions_in_is (Fork c) = refl
actions_in_is (Adv p) = refl
actions_in_is (Drop p) = refl
actions_in_is (Await p off) = refl
