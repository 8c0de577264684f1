-- The body with which a task is forked stands in the program, behind its fork.
use Rattle.std.proofs.Common.{◌≡◌, ℕ, zero, suc, ◌+◌, ◌-◌, ◌≤◌, Bool, true, false, if◌then◌else◌, Option, Some, None, Ok, Err, List, [], ◌∷◌, ◌++◌, length, refl, sym, ap, subst, ◌∙◌, arith}
use Rattle.std.specs.Prelude.{slice_index_or, nat_lt, sum_by, not}
use Rattle.std.proofs.lemmas.Bool.{ne_eqb}
use Rattle.armus_base.specs.Numbers.{phaser, task}
use Rattle.armus_base.specs.Limits.{max_ops, max_phasers, max_tasks}
use Rattle.armus_base.specs.Pieces.{times}
use Rattle.armus_base.specs.declared.op.Op.{Op}
use Rattle.armus_base.specs.declared.op.Op.TheVariants as op
use Rattle.pl_syntax.specs.declared.tree.Program.{Program}
use Rattle.pl_syntax.specs.Tree.{Plain, Tree, adv, await, count, dereg, done, fork, loop, new_phaser, new_task, plain, reg, skip}
use Rattle.pl_plan.specs.Forks.{starts_in, starts_of}
use Rattle.pl_plan.specs.Limits.{max_visits}
use Rattle.pl_plan.specs.Unfolding.{Coming, Outcome, Start, UnfoldingState, Visit}
use Rattle.pl_plan.specs.Unfolding.{a_fork, a_loop, a_plain, a_turn, act, act_fork, add_op, already_member, as_phaser, as_task, come_to, count_visit, ended}
use Rattle.pl_plan.specs.Unfolding.{fault_unless, has_cells, leave, leave_below, make_visit, make_visits, member_of, not_member, opening_state}
use Rattle.pl_plan.specs.Unfolding.{too_many_cells, too_many_ops, too_many_phasers, too_many_tasks, too_many_visits, unfold_task, unfold_tasks, unforked_child}
use Rattle.pl_plan.specs.Unfolding.{visit, visits_of, with_member, with_members, with_names, with_new_phaser, with_new_task, with_op, with_start}
use Rattle.pl_plan.proofs.Places.{at_more, at_set}
use Rattle.pl_plan.proofs.VisitsLeave.{bind_ok, first_visit, no_visit, ok_is}
use Rattle.source_map.specs.Origins.{start_of}
use Rattle.source_map.specs.inside.Tables.{forked_body, fork_body}
use Rattle.source_map.proofs.ForkBodies.{fork_behind, fork_here, fork_inside, found_inside, loop_behind, loop_inside}

module _ (whole : Tree) where
  -- each fork of these statements is one of the program
  pub record IsPart (n : ℕ) (tree : Tree) : Type 0 where
    pub numbered : 1 ≤ n
    pub forks : (f : ℕ) (b : Tree) → fork_body n tree f ≡ Some b → fork_body 1 whole f ≡ Some b

  abbrev pub StandsAt : Option Start → Type 0
  StandsAt None = Unit {0}
  StandsAt (Some start) = IsPart start.first start.body × (forked_body whole (start.first - 1) ≡ Some start.body)

  abbrev ComesFrom : ℕ → Coming → Type 0
  ComesFrom n (a_fork x body) = IsPart (n + 1) body × (fork_body 1 whole n ≡ Some body) × (1 ≤ n)
  ComesFrom n c = Unit {0}

  abbrev ComeFrom : List Visit → Type 0
  ComeFrom [] = Unit {0}
  ComeFrom (m ∷ ms) = ComesFrom m.statement m.coming × ComeFrom ms

  come_more : (xs ys : List Visit) → ComeFrom xs → ComeFrom ys → ComeFrom (xs ++ ys)
  come_more [] ys a b = b
  come_more (x ∷ xs) ys a b = (a.0, come_more xs ys a.1 b)

  come_times : (k : ℕ) (xs : List Visit) → ComeFrom xs → ComeFrom (times k xs)
  come_times zero xs a = tt
  come_times (suc k) xs a = come_more xs (times k xs) a (come_times k xs a)

  -- ---- parts of parts

  plain_rest : (n : ℕ) (s : Plain) (rest : Tree) → IsPart n (plain s rest) → IsPart (n + 1) rest
  plain_rest n s rest h = record { numbered = omega arith; forks = λ f b e. h.forks f b e }

  fork_part : (n : ℕ) (x : List ℕ) (body rest : Tree) → IsPart n (fork x body rest) → IsPart (n + 1) body
  fork_part n x body rest h = record {
    numbered = omega arith;
    forks = λ f b e.
        let i = found_inside body b (n + 1) f e in
        h.forks f b (fork_inside n f x body rest (λ same. absurd (omega (arith, same, i.from))) (omega (arith, i.to)) ∙ e);
  }

  fork_rest : (n : ℕ) (x : List ℕ) (body rest : Tree) → IsPart n (fork x body rest) → IsPart (n + 1 + count body) rest
  fork_rest n x body rest h = record {
    numbered = omega arith;
    forks = λ f b e. let i = found_inside rest b (n + 1 + count body) f e in h.forks f b (fork_behind n f x body rest (omega (arith, i.from)) ∙ e);
  }

  loop_part : (n k : ℕ) (body rest : Tree) → IsPart n (loop k body rest) → IsPart (n + 1) body
  loop_part n k body rest h = record {
    numbered = omega arith;
    forks = λ f b e. let i = found_inside body b (n + 1) f e in h.forks f b (loop_inside n f k body rest (omega (arith, i.to)) ∙ e);
  }

  loop_rest : (n k : ℕ) (body rest : Tree) → IsPart n (loop k body rest) → IsPart (n + 1 + count body) rest
  loop_rest n k body rest h = record {
    numbered = omega arith;
    forks = λ f b e. let i = found_inside rest b (n + 1 + count body) f e in h.forks f b (loop_behind n f k body rest (omega (arith, i.from)) ∙ e);
  }

  visits_come : (n : ℕ) (tree : Tree) → IsPart n tree → ComeFrom (visits_of n tree)
  visits_come n done h = tt
  visits_come n (plain s rest) h = (tt, visits_come (n + 1) rest (plain_rest n s rest h))
  visits_come n (fork x body rest) h =
      ((fork_part n x body rest h, h.forks n body (fork_here n n x body rest refl), h.numbered), visits_come (n + 1 + count body) rest (fork_rest n x body rest h))
  visits_come n (loop k body rest) h = (
    tt,
    come_more (times k (visit n a_turn ∷ visits_of (n + 1) body)) (visits_of (n + 1 + count body) rest)
        (come_times k (visit n a_turn ∷ visits_of (n + 1) body) (tt, visits_come (n + 1) body (loop_part n k body rest h)))
        (visits_come (n + 1 + count body) rest (loop_rest n k body rest h)),
  )

  -- ---- what holds of each state of the unfolding

  pub record AllStand (s : UnfoldingState) : Type 0 where
    pub each : (c : ℕ) → StandsAt (slice_index_or s.starts c None)

  stand_same : (s r : UnfoldingState) → r.starts ≡ s.starts → AllStand s → AllStand r
  stand_same s r e h = record { each = λ c. subst (λ ss. StandsAt (slice_index_or ss c None)) (sym e) (h.each c) }

  stand_op : (t n : ℕ) (o : Op) (s v r : UnfoldingState) → v.starts ≡ s.starts → AllStand s → add_op t n o v ≡ Ok r → AllStand r
  unfolding add_op
  stand_op t n o s v r same h e =
      let b = bind_ok (fault_unless (nat_lt (sum_by length v.plan.codes) max_ops) too_many_ops n) (λ room. Ok (record v { plan = with_op t o v.plan })) r e in
      let is : record v { plan = with_op t o v.plan } ≡ r = ok_is _ r b.2 in
      subst AllStand is (stand_same s (record v { plan = with_op t o v.plan }) same h)

  act_stand : (t n : ℕ) (x : Plain) (s r : UnfoldingState) → AllStand s → act t n x s ≡ Ok r → AllStand r
  unfolding act
  act_stand t n (new_task x) s r h e =
      let b = bind_ok (fault_unless (nat_lt (length s.plan.parents) max_tasks) too_many_tasks n) _ r e in
      let c = bind_ok (fault_unless (has_cells (length s.plan.parents + 1) (length s.plan.makers)) too_many_cells n) (λ cells. Ok (with_new_task t x s)) r b.2 in
      let is : with_new_task t x s ≡ r = ok_is _ r c.2 in
      subst AllStand is (record { each = λ u. subst StandsAt (sym (at_more s.starts None u)) (h.each u) })
  act_stand t n (new_phaser x) s r h e =
      let b = bind_ok (fault_unless (nat_lt (length s.plan.makers) max_phasers) too_many_phasers n) _ r e in
      let c = bind_ok (fault_unless (has_cells (length s.plan.parents) (length s.plan.makers + 1)) too_many_cells n) _ r b.2 in
      stand_op t n _ s (with_new_phaser t x s) r refl h c.2
  act_stand t n (reg x y) s r h e =
      let b = bind_ok (as_task n (s.names x)) _ r e in
      let c = bind_ok (as_phaser n (s.names y)) _ r b.2 in
      let d = bind_ok (unforked_child t n b.0 s) _ r c.2 in
      let f = bind_ok (fault_unless (s.members t c.0) not_member n) _ r d.2 in
      let g = bind_ok (fault_unless (not (s.members b.0 c.0)) already_member n) _ r f.2 in
      stand_op t n _ s (with_members (with_member b.0 c.0 true s.members) s) r refl h g.2
  act_stand t n (dereg x) s r h e =
      let b = bind_ok (member_of t n (s.names x) s) _ r e in
      stand_op t n _ s (with_members (with_member t b.0 false s.members) s) r refl h b.2
  act_stand t n (adv x) s r h e = let b = bind_ok (member_of t n (s.names x) s) _ r e in stand_op t n _ s s r refl h b.2
  act_stand t n (await x off) s r h e = let b = bind_ok (member_of t n (s.names x) s) _ r e in stand_op t n _ s s r refl h b.2
  act_stand t n skip s r h e = subst AllStand (ok_is s r e) h

  behind_fork : (n : ℕ) (body : Tree) → fork_body 1 whole n ≡ Some body → 1 ≤ n → forked_body whole (n + 1 - 1) ≡ Some body
  behind_fork n body e some =
      ap (λ m. forked_body whole m) (let z : n + 1 - 1 ≡ n = omega arith in z)
      ∙ ap (λ c. if c then Some whole else fork_body 1 whole n) (ne_eqb n 0 (λ z. omega (arith, z, some))) ∙ e

  fork_stand : (t n : ℕ) (x : List ℕ) (body : Tree) (s r : UnfoldingState) → ComesFrom n (a_fork x body) → AllStand s → act_fork t n x body s ≡ Ok r → AllStand r
  unfolding act_fork
  fork_stand t n x body s r from h e =
      let b = bind_ok (as_task n (s.names x)) _ r e in
      let c = bind_ok (unforked_child t n b.0 s) _ r b.2 in
      let start : Start = record { body = body; first = n + 1; names = s.names } in
      let v = with_start b.0 start s in
      let own : StandsAt (Some start) = (from.0, behind_fork n body from.1 from.2) in
      let stands : AllStand v =
      record { each = λ u. at_set StandsAt s.starts b.0 (Some start) None u (λ same l. own) (λ other. h.each u) (λ past. tt) } in
      stand_op t n (op.Fork (task b.0)) v v r refl stands c.2

  come_stand : (t n : ℕ) (c : Coming) (s r : UnfoldingState) → ComesFrom n c → AllStand s → come_to t n c s ≡ Ok r → AllStand r
  come_stand t n (a_plain x) s r from h e = act_stand t n x s r h e
  come_stand t n (a_fork x body) s r from h e = fork_stand t n x body s r from h e
  come_stand t n a_loop s r from h e = subst AllStand (ok_is s r e) h
  come_stand t n a_turn s r from h e = subst AllStand (ok_is s r e) h

  visit_stand : (t : ℕ) (m : Visit) (s r : UnfoldingState) → ComesFrom m.statement m.coming → AllStand s → make_visit t m s ≡ Ok r → AllStand r
  unfolding count_visit
  visit_stand t m s r from h e =
      let v : UnfoldingState = record s { visits = s.visits + 1 } in
      let b = bind_ok (count_visit m.statement s) (come_to t m.statement m.coming) r e in
      let c = bind_ok (fault_unless (nat_lt s.visits max_visits) too_many_visits m.statement) (λ room. Ok v) b.0 b.1 in
      let is : b.0 ≡ v = sym (ok_is v b.0 c.2) in
      come_stand t m.statement m.coming v r from (stand_same s v refl h) (subst (λ q. come_to t m.statement m.coming q ≡ Ok r) is b.2)

  visits_stand : (t : ℕ) (ms : List Visit) (s r : UnfoldingState) → ComeFrom ms → AllStand s → make_visits t ms s ≡ Ok r → AllStand r
  visits_stand t [] s r from h e = subst AllStand (no_visit t s r e) h
  visits_stand t (m ∷ ms) s r from h e =
      let b = first_visit t m ms s r e in
      visits_stand t ms b.0 r from.1 (visit_stand t m s b.0 from.0 h b.1) b.2

  -- ---- the end of a task

  leave_stand : (t n p : ℕ) (s r : UnfoldingState) (b : Bool) → s.members t p ≡ b → AllStand s → leave t n p s ≡ Ok r → AllStand r
  unfolding leave
  leave_stand t n p s r false is h e =
      let same : Ok s ≡ Ok r =
      subst (λ (b : Bool). (if b then add_op t n (op.Drop (phaser p)) (with_members (with_member t p false s.members) s) else Ok s) ≡ Ok r) is e in
      subst AllStand (ok_is s r same) h
  leave_stand t n p s r true is h e =
      let v = with_members (with_member t p false s.members) s in
      let op_is : add_op t n (op.Drop (phaser p)) v ≡ Ok r = subst (λ (b : Bool). (if b then add_op t n (op.Drop (phaser p)) v else Ok s) ≡ Ok r) is e in
      stand_op t n (op.Drop (phaser p)) s v r refl h op_is

  leaves_stand : (t n p : ℕ) (s r : UnfoldingState) → AllStand s → leave_below t n p s ≡ Ok r → AllStand r
  unfolding leave_below
  leaves_stand t n zero s r h e = subst AllStand (ok_is s r e) h
  leaves_stand t n (suc p) s r h e =
      let b = bind_ok (leave_below t n p s) (leave t n p) r e in
      leave_stand t n p b.0 r (b.0.members t p) refl (leaves_stand t n p s b.0 h b.1) b.2

  -- ---- tasks

  ended_stand : (two : Bool) (t n : ℕ) (ms : List Visit) (v r : UnfoldingState) → ComeFrom ms → AllStand v → ended two t n (make_visits t ms v) ≡ Ok r → AllStand r
  ended_stand false t n ms v r from h e = visits_stand t ms v r from h e
  ended_stand true t n ms v r from h e =
      let b = bind_ok (make_visits t ms v) (leave_below t n max_phasers) r e in
      leaves_stand t n max_phasers b.0 r (visits_stand t ms v b.0 from h b.1) b.2

  task_stand : (two : Bool) (t : ℕ) (o : Option Start) (s r : UnfoldingState) → StandsAt o → AllStand s → unfold_task two t o s ≡ Ok r → AllStand r
  task_stand two t None s r own h e = subst AllStand (ok_is s r e) h
  task_stand two t (Some start) s r own h e =
      ended_stand two t (start.first - 1) (visits_of start.first start.body) (with_names start.names s) r (visits_come start.first start.body own.0)
      (stand_same s (with_names start.names s) refl h) e

  tasks_stand : (two : Bool) (n t : ℕ) (s r : UnfoldingState) → AllStand s → unfold_tasks two n t s ≡ Ok r → AllStand r
  unfolding unfold_tasks
  tasks_stand two zero t s r h e = subst AllStand (ok_is s r e) h
  tasks_stand two (suc n) t s r h e =
      let b = bind_ok (unfold_task two t (slice_index_or s.starts t None) s) (unfold_tasks two n (t + 1)) r e in
      tasks_stand two n (t + 1) b.0 r (task_stand two t (slice_index_or s.starts t None) s b.0 (h.each t) h b.1) b.2

  opening_stand : AllStand (opening_state whole)
  opening_stand = record { each = first }
    where
      first : (c : ℕ) → StandsAt (slice_index_or (opening_state whole).starts c None)
      first zero = (record { numbered = omega arith; forks = λ f b e. e }, refl)
      first (suc c) = tt

  outcome_stands : (two : Bool) (o : Outcome UnfoldingState) → unfold_tasks two max_tasks 0 (opening_state whole) ≡ o → (t : ℕ) →
      StandsAt (slice_index_or (starts_in o) t None)
  outcome_stands two (Ok end) e t = (tasks_stand two max_tasks 0 (opening_state whole) end opening_stand e).each t
  outcome_stands two (Err f) e t = tt

-- at the end of the unfolding
pub start_stands : (program : Program) (t : ℕ) → StandsAt program.body (start_of program t)
unfolding starts_of
start_stands program t = outcome_stands program.body program.two (unfold_tasks program.two max_tasks 0 (opening_state program.body)) refl t
