-- What a code says of its actions, and what a checked plan says of parents and makers.
use Rattle.std.proofs.Common.{None, sym, Option, ◌≡◌, ◌≢◌, ℕ, zero, suc, ◌<◌, Some, List, [], ◌∷◌, length, arith, ◌∙◌, ap, subst, refl}
use Rattle.std.specs.Prelude.{slice_get}
use Rattle.std.specs.Option.{option_map}
use Rattle.std.proofs.lemmas.Option.{slice_get_within}
use Rattle.armus_base.specs.declared.event.Event.{Event}
use Rattle.armus_base.specs.declared.op.Op.{Op}
use Rattle.armus_base.specs.declared.op.Op.TheVariants.{Adv, Await, Drop, Fork, Make, Reg}
use Rattle.armus_base.specs.Offsets.{target}
use Rattle.armus_base.specs.Plans.{Action, Aim, Blocks, IsMakerOf, IsParentOf, Passes, Plan, Refuses, action_at, actions, actions_of, code_of, maker_of, number_or_zero, parent_of}
use Rattle.armus_base.specs.States.{Phases, awaited, event_at, event_on}
use Rattle.armus_base.specs.CheckedPlans.{HasTables}

-- an await passes next after it blocks
actions_block :
    (ops : List Op) (k : ℕ) (aim : Aim) → slice_get (actions_of ops) k ≡ Some (Blocks aim) →
    slice_get (actions_of ops) (suc k) ≡ Some (Passes aim.phaser)
actions_block [] k aim e = absurd (cc)
actions_block (Make q ∷ ops) zero aim e = absurd (cc)
actions_block (Make q ∷ ops) (suc k) aim e = actions_block ops k aim e
actions_block (Reg c q ∷ ops) zero aim e = absurd (cc)
actions_block (Reg c q ∷ ops) (suc k) aim e = actions_block ops k aim e
actions_block (Fork c ∷ ops) zero aim e = absurd (cc)
actions_block (Fork c ∷ ops) (suc k) aim e = actions_block ops k aim e
actions_block (Adv q ∷ ops) zero aim e = absurd (cc)
actions_block (Adv q ∷ ops) (suc k) aim e = actions_block ops k aim e
actions_block (Drop q ∷ ops) zero aim e = absurd (cc)
actions_block (Drop q ∷ ops) (suc k) aim e = actions_block ops k aim e
actions_block (Await q off ∷ ops) zero aim e = cc
actions_block (Await q off ∷ ops) (suc zero) aim e = absurd (cc)
actions_block (Await q off ∷ ops) (suc (suc k)) aim e = actions_block ops k aim e

pub passes_next :
    (plan : Plan) (t k : ℕ) (aim : Aim) → action_at plan t k ≡ Some (Blocks aim) → action_at plan t (suc k) ≡ Some (Passes aim.phaser)
unfolding action_at actions
passes_next plan t k aim e = actions_block (code_of plan t) k aim e

-- the phaser of a pass
passed : {p q : ℕ} → Some (Passes q) ≡ Some (Passes p) → q ≡ p
passed e = ap phaser_of e
  where
    phaser_of : Option Action → ℕ
    phaser_of (Some (Passes q)) = q
    phaser_of o = 0

-- and it blocks before it passes
actions_pass :
    (ops : List Op) (k p : ℕ) → slice_get (actions_of ops) k ≡ Some (Passes p) →
    (j : ℕ) × (k ≡ suc j) × (aim : Aim) × (aim.phaser ≡ p) × slice_get (actions_of ops) j ≡ Some (Blocks aim)
actions_pass [] k p e = absurd (cc)
actions_pass (Make q ∷ ops) zero p e = absurd (cc)
actions_pass (Make q ∷ ops) (suc k) p e = (let r = actions_pass ops k p e in (suc r.0, ap suc r.1, r.2, r.3, r.4))
actions_pass (Reg c q ∷ ops) zero p e = absurd (cc)
actions_pass (Reg c q ∷ ops) (suc k) p e = (let r = actions_pass ops k p e in (suc r.0, ap suc r.1, r.2, r.3, r.4))
actions_pass (Fork c ∷ ops) zero p e = absurd (cc)
actions_pass (Fork c ∷ ops) (suc k) p e = (let r = actions_pass ops k p e in (suc r.0, ap suc r.1, r.2, r.3, r.4))
actions_pass (Adv q ∷ ops) zero p e = absurd (cc)
actions_pass (Adv q ∷ ops) (suc k) p e = (let r = actions_pass ops k p e in (suc r.0, ap suc r.1, r.2, r.3, r.4))
actions_pass (Drop q ∷ ops) zero p e = absurd (cc)
actions_pass (Drop q ∷ ops) (suc k) p e = (let r = actions_pass ops k p e in (suc r.0, ap suc r.1, r.2, r.3, r.4))
actions_pass (Await q off ∷ ops) zero p e = absurd (cc)
actions_pass (Await q off ∷ ops) (suc zero) p e = (0, refl, record { phaser = q.0; off = off }, passed e, refl)
actions_pass (Await q off ∷ ops) (suc (suc k)) p e = (let r = actions_pass ops k p e in (suc (suc r.0), ap (λ v. suc (suc v)) r.1, r.2, r.3, r.4))

pub blocks_before :
    (plan : Plan) (t k p : ℕ) → action_at plan t k ≡ Some (Passes p) →
    (j : ℕ) × (k ≡ suc j) × (aim : Aim) × (aim.phaser ≡ p) × action_at plan t j ≡ Some (Blocks aim)
unfolding action_at actions
blocks_before plan t k p e = actions_pass (code_of plan t) k p e

-- no code refuses
actions_refuse : (ops : List Op) (k : ℕ) (aim : Aim) → slice_get (actions_of ops) k ≢ Some (Refuses aim)
actions_refuse [] k p e = absurd (cc)
actions_refuse (Make q ∷ ops) zero p e = absurd (cc)
actions_refuse (Make q ∷ ops) (suc k) p e = actions_refuse ops k p e
actions_refuse (Reg c q ∷ ops) zero p e = absurd (cc)
actions_refuse (Reg c q ∷ ops) (suc k) p e = actions_refuse ops k p e
actions_refuse (Fork c ∷ ops) zero p e = absurd (cc)
actions_refuse (Fork c ∷ ops) (suc k) p e = actions_refuse ops k p e
actions_refuse (Adv q ∷ ops) zero p e = absurd (cc)
actions_refuse (Adv q ∷ ops) (suc k) p e = actions_refuse ops k p e
actions_refuse (Drop q ∷ ops) zero p e = absurd (cc)
actions_refuse (Drop q ∷ ops) (suc k) p e = actions_refuse ops k p e
actions_refuse (Await q off ∷ ops) zero p e = absurd (cc)
actions_refuse (Await q off ∷ ops) (suc zero) p e = absurd (cc)
actions_refuse (Await q off ∷ ops) (suc (suc k)) p e = actions_refuse ops k p e

pub no_refusal : (plan : Plan) (t k : ℕ) (aim : Aim) → action_at plan t k ≢ Some (Refuses aim)
unfolding action_at actions
no_refusal plan t k p e = actions_refuse (code_of plan t) k p e

-- the parent and the maker as numbers
pub parent_is : (plan : Plan) (t c : ℕ) → IsParentOf plan t c → parent_of plan c ≡ t
unfolding parent_of
parent_is plan t c is = ap number_or_zero is.1 ∙ is.2

pub maker_is : (plan : Plan) (t p : ℕ) → IsMakerOf plan t p → maker_of plan p ≡ t
unfolding maker_of
maker_is plan t p is = ap (λ o. number_or_zero (option_map Some o)) is.1 ∙ is.2

-- a child is a task, a phaser that is made one of the plan
pub child_within : (plan : Plan) (t c : ℕ) → IsParentOf plan t c → c < length plan.parents
child_within plan t c is = slice_get_within plan.parents c (Some is.0) is.1

pub phaser_within : (plan : Plan) (t p : ℕ) → IsMakerOf plan t p → p < length plan.makers
phaser_within plan t p is = slice_get_within plan.makers p is.0 is.1

-- a child comes after its parent
pub child_later : (plan : Plan) → HasTables plan → (t c : ℕ) → IsParentOf plan t c → t < c
child_later plan tables t zero is = absurd (let root = tables.root in let one = is.1 in cc)
child_later plan tables t (suc c) is =
    subst (λ v. v < suc c) (parent_is plan t (suc c) is) (tables.parents_first (suc c) (omega arith))

-- an event of a phaser at a phase
pub event_on_is : (p : ℕ) (o : Option ℕ) (e : Event) → event_on p o ≡ Some e → e.p.0 ≡ p × o ≡ Some e.n
event_on_is p None e h = absurd (cc)
event_on_is p (Some n) e h = (ap (λ o. phaser_of o p) (sym h), ap (λ o. Some (phase_of o n)) h)
  where
    phaser_of : Option Event → ℕ → ℕ
    phaser_of None d = d
    phaser_of (Some e) d = e.p.0

    phase_of : Option Event → ℕ → ℕ
    phase_of None d = d
    phase_of (Some e) d = e.n

-- an option that is mapped to something is something
pub mapped_is : (f : ℕ → ℕ) (o : Option ℕ) (n : ℕ) → option_map f o ≡ Some n → (m : ℕ) × (o ≡ Some m) × n ≡ f m
mapped_is f None n e = absurd (cc)
mapped_is f (Some m) n e = (m, refl, sym (ap (unwrap_or_zero) e))
  where
    unwrap_or_zero : Option ℕ → ℕ
    unwrap_or_zero None = 0
    unwrap_or_zero (Some v) = v

-- who is a member where its code awaits has an event
pub awaited_some : (aim : Aim) (m : Phases) → (n : ℕ) × (m aim.phaser ≡ Some n) → (e : Event) × awaited (Some (Blocks aim)) m ≡ Some e
awaited_some aim m member =
    (event_at aim.phaser (target aim.off member.0), ap (λ o. event_on aim.phaser (option_map (target aim.off) o)) member.1)

-- and such an event is one of that phaser, at the target of a member's phase
pub awaited_is :
    (aim : Aim) (m : Phases) (e : Event) → awaited (Some (Blocks aim)) m ≡ Some e →
    e.p.0 ≡ aim.phaser × ((n : ℕ) × (m aim.phaser ≡ Some n) × e.n ≡ target aim.off n)
awaited_is aim m e is =
    let on = event_on_is aim.phaser (option_map (target aim.off) (m aim.phaser)) e is in
    (on.0, mapped_is (target aim.off) (m aim.phaser) e.n on.1)
