-- The stages of a program's unfolding, where none is at fault, lead to the end of its computation.
use Rattle.std.proofs.Common.{◌≡◌, ◌≢◌, ℕ, zero, suc, ◌+◌, ◌-◌, ◌≤◌, Bool, true, false, if◌then◌else◌, Option, Some, None, Ok, List, [], ◌∷◌, ◌++◌, append_assoc, append-nil, length, map, arith, sym, ◌∙◌, ap, subst, refl}
use Rattle.std.specs.Prelude.{nat_lt, slice_index_or}
use Rattle.std.proofs.lemmas.Bool.{ltb-true}
use Rattle.std.proofs.lemmas.List.{get_or_past, length-append}
use Rattle.armus_base.specs.Numbers.{phaser, task}
use Rattle.armus_base.specs.declared.op.Op.TheVariants as op
use Rattle.pl_syntax.specs.declared.tree.Program.{Program}
use Rattle.pl_syntax.specs.Tree.{adv, await, dereg, new_phaser, new_task, reg, skip}
use Rattle.pl_plan.specs.Forks.{starts_in, starts_of}
use Rattle.pl_plan.specs.Stages.{Stage, StagePasses, StagesLead, after_stage, all_stages, begins, comes, ends_of, leaves, leaves_below, stages_below, stages_of, with_code, with_start_names}
use Rattle.pl_plan.specs.Tests.{Passes}
use Rattle.pl_plan.specs.Unfolding.{◌>>=◌, Coming, Outcome, Start, UnfoldingState, Visit, a_fork, a_loop, a_plain, a_turn, add_op, ended, fault_unless, leave, leave_below, make_visit, make_visits, opening_state, too_many_ops, unfold_task, unfold_tasks, visit, visits_of, with_member, with_members, with_names}
use Rattle.pl_plan.proofs.ByTable.{kind_none, visit_by}
use Rattle.pl_plan.proofs.FirstRows.{answer}
use Rattle.report_laws.proofs.StagesThatFork.{Forks, IsEven, forks_not, forks_once, not_false, stage_even, stages_even, stages_fork, start_in}

-- ---- how many tasks there are

few_after : (t n : ℕ) (c : Coming) (s : UnfoldingState) → Passes s t c → length s.plan.parents ≤ 4096 → length (after_stage (comes t (visit n c)) s).plan.parents ≤ 4096
few_after t n (a_plain (new_task x)) s passes few =
    let room : nat_lt (length s.plan.parents) 4096 ≡ true = not_false (nat_lt (length s.plan.parents) 4096) (passes _ (9, omega arith, refl)) in
    omega (arith, ltb-true (length s.plan.parents) 4096 room, length-append s.plan.parents (Some (task t) ∷ []))
few_after t n (a_plain (new_phaser x)) s passes few = few
few_after t n (a_plain (reg x y)) s passes few = few
few_after t n (a_plain (dereg x)) s passes few = few
few_after t n (a_plain (adv x)) s passes few = few
few_after t n (a_plain (await x off)) s passes few = few
few_after t n (a_plain skip) s passes few = few
few_after t n (a_fork x body) s passes few = few
few_after t n a_loop s passes few = few
few_after t n a_turn s passes few = few

stage_few : (v : Stage) (s : UnfoldingState) → StagePasses v s → length s.plan.parents ≤ 4096 → length (after_stage v s).plan.parents ≤ 4096
stage_few (begins t) s passes few = by (slice_index_or s.starts t None)
  where
    by : (o : Option Start) → length (with_start_names o s).plan.parents ≤ 4096
    by None = few
    by (Some start) = few
stage_few (leaves t p) s passes few = by (s.members t p)
  where
    gone : UnfoldingState
    gone = with_code t (op.Drop (phaser p)) (with_members (with_member t p false s.members) s)

    by : (b : Bool) → length (if b then gone else s).plan.parents ≤ 4096
    by true = few
    by false = few
stage_few (comes t m) s passes few = few_after t m.statement m.coming s passes few

stages_few : (two : Bool) (before vs : List Stage) (s e : UnfoldingState) → StagesLead two before vs s e → length s.plan.parents ≤ 4096 → length e.plan.parents ≤ 4096
stages_few two before [] s e leads few = subst (λ (z : UnfoldingState). length z.plan.parents ≤ 4096) leads few
stages_few two before (v ∷ vs) s e leads few = stages_few two (before ++ v ∷ []) vs (after_stage v s) e leads.2 (stage_few v s leads.1 few)

-- ---- who begins

-- task t does not begin among these stages
abbrev BeginsNot : ℕ → List Stage → Type 0
BeginsNot t [] = Unit {0}
BeginsNot t (v ∷ vs) = (v ≢ begins t) × BeginsNot t vs

not_more : (t : ℕ) (vs ws : List Stage) → BeginsNot t vs → BeginsNot t ws → BeginsNot t (vs ++ ws)
not_more t [] ws a b = b
not_more t (v ∷ vs) ws a b = (a.0, not_more t vs ws a.1 b)

comes_not : (t u : ℕ) (ms : List Visit) → BeginsNot t (map (λ m. comes u m) ms)
comes_not t u [] = tt
comes_not t u (m ∷ ms) = ((λ e. absurd (cc)), comes_not t u ms)

leaves_not : (t u p : ℕ) → BeginsNot t (leaves_below u p)
leaves_not t u zero = tt
leaves_not t u (suc p) = not_more t (leaves_below u p) (leaves u p ∷ []) (leaves_not t u p) ((λ e. absurd (cc)), tt)

ends_not : (two : Bool) (t u : ℕ) → BeginsNot t (ends_of two u)
ends_not false t u = tt
ends_not true t u = leaves_not t u 1024

-- one that has no start begins nowhere
task_not : (two : Bool) (t u : ℕ) (o : Option Start) → (t ≡ u → o ≡ None) → BeginsNot t (stages_of two u o)
task_not two t u None none = tt
task_not two t u (Some start) none = (
  (λ e. absurd (let same : u ≡ t = cc in let free = none (sym same) in cc)),
  not_more t (map (λ m. comes u m) (visits_of start.first start.body)) (ends_of two u) (comes_not t u (visits_of start.first start.body)) (ends_not two t u),
)

below_not : (two : Bool) (t n : ℕ) (s : UnfoldingState) → start_in s t ≡ None → BeginsNot t (stages_below two n s)
below_not two t zero s none = tt
below_not two t (suc n) s none =
    not_more t (stages_below two n s) (stages_of two n (start_in s n)) (below_not two t n s none)
    (task_not two t n (start_in s n) (λ same. ap (start_in s) (sym same) ∙ none))

begins_there : (t : ℕ) (xs ys : List Stage) → BeginsNot t (xs ++ (begins t ∷ ys)) → ⊥
begins_there t [] ys not_there = not_there.0 refl
begins_there t (x ∷ xs) ys not_there = begins_there t xs ys not_there.1

module _ (two : Bool) (e : UnfoldingState) where
  -- ---- the stages of one task

  -- behind them the state is the one that was computed
  record Goes (from : UnfoldingState) (before vs rest : List Stage) (o : Outcome UnfoldingState) : Type 0 where
    there : UnfoldingState
    even : IsEven from → IsEven there
    is : o ≡ Ok there
    leads : StagesLead two (before ++ vs) rest there e

  visits_go : (t : ℕ) (ms : List Visit) (before rest : List Stage) (s : UnfoldingState) → StagesLead two before (map (λ m. comes t m) ms ++ rest) s e →
      Goes s before (map (λ m. comes t m) ms) rest (make_visits t ms s)
  unfolding make_visits
  visits_go t [] before rest s leads = record { there = s; even = λ h. h; is = refl; leads = subst (λ b. StagesLead two b rest s e) (sym (append-nil before)) leads }
  visits_go t (m ∷ ms) before rest s leads =
      let r = after_stage (comes t m) s in
      let made : make_visit t m s ≡ Ok r = visit_by t m s ∙ ap (λ o. answer m.statement o r) (kind_none s t m.coming leads.1) in
      let g = visits_go t ms (before ++ comes t m ∷ []) rest r leads.2 in
      record {
        there = g.there;
        even = λ h. g.even (stage_even (comes t m) s h);
        is = ap (λ o. o >>= make_visits t ms) made ∙ g.is;
        leads = subst (λ b. StagesLead two b rest g.there e) (append_assoc before (comes t m ∷ []) (map (λ m. comes t m) ms)) g.leads;
      }

  leave_goes : (t n p : ℕ) (s : UnfoldingState) → StagePasses (leaves t p) s → leave t n p s ≡ Ok (after_stage (leaves t p) s)
  unfolding leave add_op
  leave_goes t n p s passes = by (s.members t p) refl
    where
      gone : UnfoldingState
      gone = with_code t (op.Drop (phaser p)) (with_members (with_member t p false s.members) s)

      by : (b : Bool) → s.members t p ≡ b → leave t n p s ≡ Ok (after_stage (leaves t p) s)
      by false is =
          ap (λ (b : Bool). if b then add_op t n (op.Drop (phaser p)) (with_members (with_member t p false s.members) s) else Ok s) is
          ∙ ap (λ (b : Bool). Ok (if b then gone else s)) (sym is)
      by true is =
          ap (λ (b : Bool). if b then add_op t n (op.Drop (phaser p)) (with_members (with_member t p false s.members) s) else Ok s) is
          ∙ ap (λ (r : Bool). fault_unless r too_many_ops n >>= λ _. Ok gone) (passes is)
          ∙ ap (λ (b : Bool). Ok (if b then gone else s)) (sym is)

  leaves_go : (t n p : ℕ) (before rest : List Stage) (s : UnfoldingState) → StagesLead two before (leaves_below t p ++ rest) s e →
      Goes s before (leaves_below t p) rest (leave_below t n p s)
  unfolding leave_below
  leaves_go t n zero before rest s leads = record { there = s; even = λ h. h; is = refl; leads = subst (λ b. StagesLead two b rest s e) (sym (append-nil before)) leads }
  leaves_go t n (suc p) before rest s leads =
      let g = leaves_go t n p before (leaves t p ∷ rest) s (subst (λ z. StagesLead two before z s e) (append_assoc (leaves_below t p) (leaves t p ∷ []) rest) leads) in
      let r = after_stage (leaves t p) g.there in
      record {
        there = r;
        even = λ h. stage_even (leaves t p) g.there (g.even h);
        is = ap (λ o. o >>= leave t n p) g.is ∙ leave_goes t n p g.there g.leads.1;
        leads = subst (λ b. StagesLead two b rest r e) (append_assoc before (leaves_below t p) (leaves t p ∷ [])) g.leads.2;
      }

  ends_go : (b : Bool) (t n : ℕ) (before rest : List Stage) (s : UnfoldingState) → StagesLead two before (ends_of b t ++ rest) s e →
      Goes s before (ends_of b t) rest (ended b t n (Ok s))
  ends_go false t n before rest s leads = record { there = s; even = λ h. h; is = refl; leads = subst (λ b. StagesLead two b rest s e) (sym (append-nil before)) leads }
  ends_go true t n before rest s leads = let g = leaves_go t n 1024 before rest s leads in record { there = g.there; even = g.even; is = g.is; leads = g.leads }

  task_goes : (t : ℕ) (start : Start) (before rest : List Stage) (s : UnfoldingState) → start_in s t ≡ Some start →
      StagesLead two before (stages_of two t (Some start) ++ rest) s e → Goes s before (stages_of two t (Some start)) rest (unfold_task two t (Some start) s)
  task_goes t start before rest s is leads =
      let ms = visits_of start.first start.body in
      let comings = map (λ m. comes t m) ms in
      let v = with_names start.names s in
      let begun : after_stage (begins t) s ≡ v = ap (λ o. with_start_names o s) is in
      let from : StagesLead two (before ++ begins t ∷ []) (comings ++ (ends_of two t ++ rest)) v e =
      subst (λ z. StagesLead two (before ++ begins t ∷ []) z v e) (append_assoc comings (ends_of two t) rest)
      (subst (λ z. StagesLead two (before ++ begins t ∷ []) ((comings ++ ends_of two t) ++ rest) z e) begun leads.2) in
      let a = visits_go t ms (before ++ begins t ∷ []) (ends_of two t ++ rest) v from in
      let b = ends_go two t (start.first - 1) ((before ++ begins t ∷ []) ++ comings) rest a.there a.leads in
      record {
        there = b.there;
        even = λ h. b.even (a.even h);
        is = ap (ended two t (start.first - 1)) a.is ∙ b.is;
        leads = subst (λ z. StagesLead two z rest b.there e)
            (ap (λ z. z ++ ends_of two t) (append_assoc before (begins t ∷ []) comings) ∙ append_assoc before (begins t ∷ comings) (ends_of two t)) b.leads;
      }

  -- ---- the stages of all tasks

  -- those of so many tasks from t on, by the starts at the end
  abbrev tail : ℕ → ℕ → List Stage
  tail t zero = []
  tail t (suc k) = stages_of two t (start_in e t) ++ tail (suc t) k

  below_tail : (k t : ℕ) → stages_below two (t + k) e ≡ stages_below two t e ++ tail t k
  below_tail zero t = ap (λ n. stages_below two n e) (let z : t + 0 ≡ t = omega arith in z) ∙ sym (append-nil (stages_below two t e))
  below_tail (suc k) t =
      ap (λ n. stages_below two n e) (let z : t + suc k ≡ suc t + k = omega arith in z) ∙ below_tail k (suc t)
      ∙ append_assoc (stages_below two t e) (stages_of two t (start_in e t)) (tail (suc t) k)

  -- tasks without a start
  none_go : (n t : ℕ) (s : UnfoldingState) → ((u : ℕ) → t ≤ u → start_in s u ≡ None) → unfold_tasks two n t s ≡ Ok s
  unfolding unfold_tasks
  none_go zero t s none = refl
  none_go (suc n) t s none =
      ap (λ o. unfold_task two t o s >>= unfold_tasks two n (t + 1)) (none t (omega arith)) ∙ none_go n (t + 1) s (λ u l. none u (omega (arith, l)))

  -- from task t on
  tasks_go : (k n t : ℕ) (before : List Stage) (s : UnfoldingState) → k ≤ n → IsEven s → ((u : ℕ) → t + k ≤ u → start_in e u ≡ None) → StagesLead two before (tail t k) s e →
      unfold_tasks two n t s ≡ Ok e
  unfolding unfold_tasks
  tasks_go zero n t before s le even none leads =
      subst (λ z. unfold_tasks two n t z ≡ Ok e) (sym leads) (none_go n t e (λ u l. none u (omega (arith, l))))
  tasks_go (suc k) zero t before s le even none leads = absurd (omega (arith, le))
  tasks_go (suc k) (suc n) t before s le even none leads =
      by (start_in e t) refl (stages_fork two t before (tail t (suc k)) s e leads even) (subst (λ o. StagesLead two before (stages_of two t o ++ tail (suc t) k) s e) refl leads)
      (λ b v even_v leads_v. subst (λ m. unfold_tasks two n m v ≡ Ok e) (let z : suc t ≡ t + 1 = omega arith in z)
      (tasks_go k n (suc t) b v (omega (arith, le)) even_v (λ u l. none u (omega (arith, l))) leads_v))
    where
      by : {last : Option Stage} (o : Option Start) → start_in e t ≡ o → Forks (start_in s t) (start_in e t) last → StagesLead two before (stages_of two t o ++ tail (suc t) k) s e →
          ((b : List Stage) (v : UnfoldingState) → IsEven v → StagesLead two b (tail (suc t) k) v e → unfold_tasks two n (t + 1) v ≡ Ok e) →
          (unfold_task two t (start_in s t) s >>= unfold_tasks two n (t + 1)) ≡ Ok e
      by None is (forks_not same idle) leads rest =
          ap (λ o. unfold_task two t o s >>= unfold_tasks two n (t + 1)) (sym same ∙ is) ∙ rest before s even leads
      by None is (forks_once u m start free forked last at) leads rest = absurd (let both : Some start ≡ None = sym forked ∙ is in cc)
      by (Some start) is (forks_not same idle) leads rest =
          let g = task_goes t start before (tail (suc t) k) s (sym same ∙ is) leads in
          ap (λ o. unfold_task two t o s >>= unfold_tasks two n (t + 1)) (sym same ∙ is) ∙ ap (λ o. o >>= unfold_tasks two n (t + 1)) g.is
          ∙ rest (before ++ stages_of two t (Some start)) g.there (g.even even) g.leads
      by (Some start) is (forks_once u m other free forked last at) leads rest =
          absurd (let next = leads.0 in begins_there t before next.0 (subst (BeginsNot t) next.1 (below_not two t (length s.plan.parents) s free)))

-- the starts of a program are those at the end of its stages
pub same_starts : (program : Program) (stages : List Stage) (end : UnfoldingState) → StagesLead program.two [] stages (opening_state program.body) end → all_stages program.two end ≡ stages →
    starts_of program ≡ end.starts
unfolding starts_of
same_starts program stages end leads all =
    let first = opening_state program.body in
    let many = length end.plan.parents in
    let even = stages_even program.two [] stages first end leads refl in
    let few = stages_few program.two [] stages first end leads (omega arith) in
    let whole : stages ≡ tail program.two end 0 many = sym all ∙ ap (λ n. stages_below program.two n end) (let z : many ≡ 0 + many = omega arith in z) ∙ below_tail program.two end many 0 in
    ap starts_in
    (tasks_go program.two end many 4096 0 [] first few refl (λ u l. get_or_past end.starts u None (omega (arith, l, even)))
    (subst (λ z. StagesLead program.two [] z first end) whole leads))
