-- A task that waits stands at an await of the text, and is a member of the phaser of its event.
use Rattle.std.proofs.Common.{◌≡◌, ℕ, zero, suc, ◌+◌, ◌<◌, List, [], ◌∷◌, Option, Some, None, Ok, Bool, true, false, length, arith, add-one, ap, sym, ◌∙◌, subst, refl}
use Rattle.std.specs.Prelude.{slice_get, slice_index_or, unwrap_or}
use Rattle.armus_base.specs.declared.ending.TaskEnd.TheVariants.{Blocked}
use Rattle.armus_base.specs.declared.event.Event.{Event}
use Rattle.armus_base.specs.declared.ids.PhaserId.{PhaserId}
use Rattle.armus_base.specs.declared.offset.Offset.{Offset}
use Rattle.armus_base.specs.declared.op.Op.{Op}
use Rattle.armus_base.specs.declared.op.Op.TheVariants.{Adv, Await, Drop, Fork, Make, Reg}
use Rattle.armus_base.specs.CheckedPlans.{IsCheckedPlan}
use Rattle.armus_base.specs.Finals.{end_by, end_of}
use Rattle.armus_base.specs.Places.{published_after, state_at}
use Rattle.armus_base.specs.Plans.{Aim, Blocks, Plan, action_at, actions, actions_of, code_of}
use Rattle.armus_base.specs.Runs.{Place, state_after}
use Rattle.armus_base.specs.States.{State}
use Rattle.armus_base.proofs.DeadByStatuses.{run_is_of_plan}
use Rattle.armus_base.proofs.Members.{published_member}
use Rattle.armus_base.proofs.Published.{published_after_is}
use Rattle.pl_core.specs.Tasks.{IsAtOp, actions_before}
use Rattle.pl_plan.specs.Unfolding.{a_plain, plan_of}
use Rattle.pl_syntax.specs.Tree.{await}
use Rattle.pl_syntax.specs.declared.tree.Program.{Program}
use Rattle.source_map.specs.Origins.{op_origin, written_statements}
use Rattle.source_map.proofs.WrittenStatements.{awaits_come_from_awaits}
use Rattle.explain_facts.specs.RunStates.{IsReachedState}

-- an op of one action in front
module _ (o : Op) (ops : List Op) (one : (j : ℕ) → actions_before (o ∷ ops) (suc j) ≡ suc (actions_before ops j)) where
  later : (k n : ℕ) → IsAtOp (o ∷ ops) (suc k) (suc n) → IsAtOp ops k n
  later k n at =
      let from = at.from in
      let first = one n in
      record {
        within = let w = at.within in omega arith;
        from = omega (arith, from, first);
        below = λ l.
            let under : suc k < actions_before (o ∷ ops) (suc n + 1) = at.below (omega (arith, l)) in
            let next = one (suc n) in
            let more : actions_before (o ∷ ops) (suc n + 1) ≡ actions_before (o ∷ ops) (suc (suc n)) = ap (actions_before (o ∷ ops)) (add-one (suc n)) in
            let same : actions_before ops (n + 1) ≡ actions_before ops (suc n) = ap (actions_before ops) (add-one n) in
            omega (arith, under, next, more, same);
      }

  not_first : (k : ℕ) → IsAtOp (o ∷ ops) (suc k) zero → ⊥
  not_first k at =
      let under : suc k < actions_before (o ∷ ops) (zero + 1) = at.below (omega arith) in
      let first : actions_before (o ∷ ops) (suc zero) ≡ suc (actions_before ops zero) = one zero in
      let none : actions_before ops zero ≡ zero = refl in
      omega (arith, under, first, none)

abbrev pub IsAwaitAt : List Op → ℕ → Type 0
IsAwaitAt ops n = (q : PhaserId) × (off : Offset) × (slice_get ops n ≡ Some (Await q off))

-- the op at which a task stands that has just published is an await
pub at_await : (ops : List Op) (k n : ℕ) (aim : Aim) → slice_get (actions_of ops) k ≡ Some (Blocks aim) → IsAtOp ops (suc k) n → IsAwaitAt ops n
at_await [] k n aim e at = absurd (cc)
at_await (Make p ∷ ops) zero n aim e at = absurd (cc)
at_await (Make p ∷ ops) (suc k) zero aim e at = absurd (not_first (Make p) ops (λ j. refl) (suc k) at)
at_await (Make p ∷ ops) (suc k) (suc n) aim e at = at_await ops k n aim e (later (Make p) ops (λ j. refl) (suc k) n at)
at_await (Reg c p ∷ ops) zero n aim e at = absurd (cc)
at_await (Reg c p ∷ ops) (suc k) zero aim e at = absurd (not_first (Reg c p) ops (λ j. refl) (suc k) at)
at_await (Reg c p ∷ ops) (suc k) (suc n) aim e at = at_await ops k n aim e (later (Reg c p) ops (λ j. refl) (suc k) n at)
at_await (Fork c ∷ ops) zero n aim e at = absurd (cc)
at_await (Fork c ∷ ops) (suc k) zero aim e at = absurd (not_first (Fork c) ops (λ j. refl) (suc k) at)
at_await (Fork c ∷ ops) (suc k) (suc n) aim e at = at_await ops k n aim e (later (Fork c) ops (λ j. refl) (suc k) n at)
at_await (Adv p ∷ ops) zero n aim e at = absurd (cc)
at_await (Adv p ∷ ops) (suc k) zero aim e at = absurd (not_first (Adv p) ops (λ j. refl) (suc k) at)
at_await (Adv p ∷ ops) (suc k) (suc n) aim e at = at_await ops k n aim e (later (Adv p) ops (λ j. refl) (suc k) n at)
at_await (Drop p ∷ ops) zero n aim e at = absurd (cc)
at_await (Drop p ∷ ops) (suc k) zero aim e at = absurd (not_first (Drop p) ops (λ j. refl) (suc k) at)
at_await (Drop p ∷ ops) (suc k) (suc n) aim e at = at_await ops k n aim e (later (Drop p) ops (λ j. refl) (suc k) n at)
at_await (Await p off ∷ ops) zero zero aim e at = (p, off, refl)
at_await (Await p off ∷ ops) zero (suc n) aim e at =
    absurd (let from = at.from in let two : actions_before (Await p off ∷ ops) (suc n) ≡ suc (suc (actions_before ops n)) = refl in omega (arith, from, two))
at_await (Await p off ∷ ops) (suc zero) n aim e at = absurd (cc)
at_await (Await p off ∷ ops) (suc (suc k)) zero aim e at =
    absurd (let under : suc (suc (suc k)) < actions_before (Await p off ∷ ops) (zero + 1) = at.below (omega arith) in
    let two : actions_before (Await p off ∷ ops) (zero + 1) ≡ suc (suc (actions_before ops zero)) = refl in
    let none : actions_before ops zero ≡ zero = refl in omega (arith, under, two, none))
at_await (Await p off ∷ ops) (suc (suc k)) (suc n) aim e at =
    let from = at.from in
    let here : actions_before (Await p off ∷ ops) (suc n) ≡ suc (suc (actions_before ops n)) = refl in
    at_await ops k n aim e (record {
      within = let w = at.within in omega arith;
      from = omega (arith, from, here);
      below = λ l.
          let under : suc (suc (suc k)) < actions_before (Await p off ∷ ops) (suc n + 1) = at.below (omega (arith, l)) in
          let more : actions_before (Await p off ∷ ops) (suc n + 1) ≡ suc (suc (actions_before ops (suc n))) = ap (actions_before (Await p off ∷ ops)) (add-one (suc n)) in
          let same : actions_before ops (n + 1) ≡ actions_before ops (suc n) = ap (actions_before ops) (add-one n) in
          omega (arith, under, more, same);
    })

pub published_of : (forked : Bool) (published refused : Option Event) (e : Event) → end_by forked published refused ≡ Blocked e → published ≡ Some e
published_of forked (Some x) refused e is = let same : x ≡ e = cc in ap Some same
published_of forked None (Some x) e is = absurd (cc)
published_of true None None e is = absurd (cc)
published_of false None None e is = absurd (cc)

blocks_in_code : (plan : Plan) (t k : ℕ) (aim : Aim) → action_at plan t k ≡ Some (Blocks aim) → slice_get (actions_of (code_of plan t)) k ≡ Some (Blocks aim)
unfolding action_at actions
blocks_in_code plan t k aim e = e

code_is : (codes : List (List Op)) (t : ℕ) → unwrap_or (slice_get codes t) [] ≡ slice_index_or codes t []
code_is [] t = refl
code_is (code ∷ codes) zero = refl
code_is (code ∷ codes) (suc t) = code_is codes t

-- the statement of the op at which a task waits is an await
pub waits_at_await :
    (p : Program) (plan : Plan) (a : ℕ → Place) (t op : ℕ) (e : Event) → plan_of p ≡ Ok plan → end_of (state_at plan a) t ≡ Blocked e →
    IsAtOp (code_of plan t) (a t).done op →
    (n : ℕ) × (x : List ℕ) × (off : Offset) × (op_origin p t op ≡ Some (suc n)) × (slice_get (written_statements p.body) n ≡ Some (a_plain (await x off)))
waits_at_await p plan a t op e unfolds ended at =
    let published : published_after plan t (a t).done ≡ Some e =
    published_of ((state_at plan a).forked t) ((state_at plan a).published t) ((state_at plan a).refused t) e ended in
    let (j, done_is, aim, phaser_is, blocks) = published_after_is plan t (a t).done e published in
    let (q, off, here) = at_await (code_of plan t) j op aim (blocks_in_code plan t j aim blocks) (subst (λ d. IsAtOp (code_of plan t) d op) done_is at) in
    let written : slice_get (slice_index_or plan.codes t []) op ≡ Some (Await q off) = subst (λ (ops : List Op). slice_get ops op ≡ Some (Await q off)) (code_is plan.codes t) here in
    let (n, x, origin, statement) = awaits_come_from_awaits p plan unfolds t op q off written in (n, x, off, origin, statement)

module _ (plan : Plan) (s : State) (done : ℕ → ℕ) (there : IsReachedState plan s done) (t : ℕ) (e : Event) (ended : end_of s t ≡ Blocked e) where
  published : s.published t ≡ Some e
  published = published_of (s.forked t) (s.published t) (s.refused t) e ended

  member : (m : ℕ) × ((state_after there.steps).phases t e.p.0 ≡ Some m)
  member = published_member plan there.steps there.run t e (ap (λ (x : State). x.published t) there.there ∙ published)

  -- who waits is a member of the phaser of its event, which is one of the plan
  pub waiter_is_member : (m : ℕ) × (s.phases t e.p.0 ≡ Some m)
  waiter_is_member = (member.0, ap (λ (x : State). x.phases t e.p.0) (sym there.there) ∙ member.1)

  pub event_of_plan : IsCheckedPlan plan → e.p.0 < length plan.makers
  event_of_plan checked = (run_is_of_plan plan there.steps checked there.run).phaser t e.p.0 member.0 member.1
