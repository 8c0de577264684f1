-- Each code of a plan is that of its task's visits, and each of its ops has its origin.
use Rattle.std.proofs.Common.{◌≡◌, ◌⊎◌, ℕ, zero, suc, ◌+◌, ◌-◌, ◌<◌, ◌≤◌, Bool, true, false, Option, Some, None, Ok, List, [], ◌∷◌, ◌++◌, length, map, get_or, refl, sym, ap, subst, ◌∙◌, arith, inl, inr, append-nil, length-append}
use Rattle.std.specs.Prelude.{Contains, nat_lt, not, slice_index_or}
use Rattle.std.specs.List.{slice_get}
use Rattle.std.proofs.lemmas.Bool.{cases_eq, cases_lt, false≢true}
use Rattle.std.proofs.lemmas.List.{get_or_append_left, get_or_past, map-append}
use Rattle.std.proofs.lemmas.List.Elements.{All-contains, All-contains_itself, All-filter, filter-append}
use Rattle.armus_base.specs.Limits.{max_phasers, max_tasks}
use Rattle.armus_base.specs.Numbers.{phaser, task}
use Rattle.armus_base.specs.Plans.{Plan}
use Rattle.armus_base.specs.declared.op.Op.{Op}
use Rattle.armus_base.specs.declared.op.Op.TheVariants as op
use Rattle.pl_syntax.specs.declared.tree.Program.{Program}
use Rattle.pl_syntax.specs.Tree.{Plain, Tree, adv, await, dereg, new_phaser, new_task, reg, skip}
use Rattle.pl_plan.specs.calls.Folding.{drops_of}
use Rattle.pl_plan.specs.Unfolding.{◌>>=◌, Coming, Start, UnfoldingState, Visit}
use Rattle.pl_plan.specs.Unfolding.{a_fork, a_loop, a_plain, a_turn, act, act_fork, add_op, already_member, as_phaser, as_task, come_to, ended, fault_unless}
use Rattle.pl_plan.specs.Unfolding.{has_cells, leave_below, make_visit, make_visits, member_of, not_member, opening_state, plan_of}
use Rattle.pl_plan.specs.Unfolding.{too_many_cells, too_many_phasers, too_many_tasks, unfold_task, unfold_tasks, unforked_child}
use Rattle.pl_plan.specs.Unfolding.{visit, visits_of, with_member, with_members, with_names, with_new_phaser, with_new_task, with_pieces, with_start}
use Rattle.pl_plan.specs.Forks.{starts_of}
use Rattle.pl_plan.proofs.ForksKept.{starts_found}
use Rattle.pl_plan.proofs.TasksLeave.{IsOfParts, Kept, Steps, inside, leaves_below, of_body, opening_kept, start_at, steps_more, steps_same, visits_steps, tasks_until}
use Rattle.pl_plan.proofs.VisitsLeave.{Adds, adds_from, adds_more, adds_nothing, adds_op, bind_ok, code, counted, first_visit, no_visit, ok_is}
use Rattle.pl_plan.specs.Tests.{of_new_phaser, of_new_task}
use Rattle.source_map.specs.Origins.{comes_to_op, start_of, statements_where, visits_by}
use Rattle.source_map.specs.calls.OriginLaws.{CodesAreOfVisits, ComesFrom, IsCodeByStart, IsCodeOfVisits, MakeOps, MakesOp, OpsHaveOrigins, OriginsHaveOps, op_visits, MakersAreOfVisits, ParentsAreOfVisits, tasks_from, tasks_of_all}
use Rattle.source_map.specs.calls.OriginLaws as law
use Rattle.source_map.proofs.Growing.{Grows, below_all, below_same, drawers_in, ended_grows, makers_in, tasks_below}

-- ---- what visits make

pub make_more : (ms ns : List Visit) (os ps : List Op) → MakeOps ms os → MakeOps ns ps → MakeOps (ms ++ ns) (os ++ ps)
make_more [] ns [] ps a b = b
make_more (m ∷ ms) ns (o ∷ os) ps a b = (a.0, make_more ms ns os ps a.1 b)
make_more [] ns (o ∷ os) ps a b = absurd a
make_more (m ∷ ms) ns [] ps a b = absurd a

-- from s to r task t makes these visits, and its code gets their ops
record Makes (t : ℕ) (ms : List Visit) (s r : UnfoldingState) : Type 0 where
  ops : List Op
  adds : Adds t s r ops
  by : MakeOps (op_visits ms) ops

by_op : (t n : ℕ) (c : Coming) (o : Op) (s v r : UnfoldingState) → MakeOps (op_visits (visit n c ∷ [])) (o ∷ []) → v.plan.codes ≡ s.plan.codes →
    t < length s.plan.codes → add_op t n o v ≡ Ok r → Makes t (visit n c ∷ []) s r
by_op t n c o s v r by same here e = record {
  ops = o ∷ [];
  adds = adds_from t s v r (o ∷ []) same (adds_op t n o v r (subst (λ cs. t < length cs) (sym same) here) e).0;
  by = by;
}

by_none : (t n : ℕ) (c : Coming) (s r : UnfoldingState) → MakeOps (op_visits (visit n c ∷ [])) [] → Adds t s r [] → Makes t (visit n c ∷ []) s r
by_none t n c s r by a = record { ops = []; adds = a; by = by }

same_codes : (t : ℕ) (s r : UnfoldingState) → s ≡ r → t < length s.plan.codes → Adds t s r []
same_codes t s r e here = adds_nothing t s r here (ap (λ (q : UnfoldingState). q.plan.codes) (sym e))

acts_make : (t n : ℕ) (x : Plain) (s r : UnfoldingState) → t < length s.plan.codes → act t n x s ≡ Ok r → Makes t (visit n (a_plain x) ∷ []) s r
unfolding act
acts_make t n (new_task x) s r here e =
    let b = bind_ok (fault_unless (nat_lt (length s.plan.parents) max_tasks) too_many_tasks n) _ r e in
    let c = bind_ok (fault_unless (has_cells (length s.plan.parents + 1) (length s.plan.makers)) too_many_cells n) (λ cells. Ok (with_new_task t x s)) r b.2 in
    let is : with_new_task t x s ≡ r = ok_is _ r c.2 in
    by_none t n (a_plain (new_task x)) s r tt (subst (λ q. Adds t s q []) is
    (record { here = simp length-append (omega arith); more = get_or_append_left s.plan.codes ([] ∷ []) [] t here ∙ sym (append-nil (code s t)) }))
acts_make t n (new_phaser x) s r here e =
    let b = bind_ok (fault_unless (nat_lt (length s.plan.makers) max_phasers) too_many_phasers n) _ r e in
    let c = bind_ok (fault_unless (has_cells (length s.plan.parents) (length s.plan.makers + 1)) too_many_cells n) _ r b.2 in
    by_op t n (a_plain (new_phaser x)) _ s (with_new_phaser t x s) r (law.makes x (phaser (length s.plan.makers)), tt) refl here c.2
acts_make t n (reg x y) s r here e =
    let b = bind_ok (as_task n (s.names x)) _ r e in
    let c = bind_ok (as_phaser n (s.names y)) _ r b.2 in
    let d = bind_ok (unforked_child t n b.0 s) _ r c.2 in
    let f = bind_ok (fault_unless (s.members t c.0) not_member n) _ r d.2 in
    let g = bind_ok (fault_unless (not (s.members b.0 c.0)) already_member n) _ r f.2 in
    by_op t n (a_plain (reg x y)) _ s (with_members (with_member b.0 c.0 true s.members) s) r (law.registers x y (task b.0) (phaser c.0), tt) refl here g.2
acts_make t n (dereg x) s r here e =
    let b = bind_ok (member_of t n (s.names x) s) _ r e in
    by_op t n (a_plain (dereg x)) _ s (with_members (with_member t b.0 false s.members) s) r (law.leaves x (phaser b.0), tt) refl here b.2
acts_make t n (adv x) s r here e =
    let b = bind_ok (member_of t n (s.names x) s) _ r e in by_op t n (a_plain (adv x)) _ s s r (law.advances x (phaser b.0), tt) refl here b.2
acts_make t n (await x off) s r here e =
    let b = bind_ok (member_of t n (s.names x) s) _ r e in by_op t n (a_plain (await x off)) _ s s r (law.awaits x off (phaser b.0), tt) refl here b.2
acts_make t n skip s r here e = by_none t n (a_plain skip) s r tt (same_codes t s r (ok_is s r e) here)

forks_make : (t n : ℕ) (x : List ℕ) (body : Tree) (s r : UnfoldingState) → t < length s.plan.codes → act_fork t n x body s ≡ Ok r →
    Makes t (visit n (a_fork x body) ∷ []) s r
unfolding act_fork
forks_make t n x body s r here e =
    let b = bind_ok (as_task n (s.names x)) _ r e in
    let c = bind_ok (unforked_child t n b.0 s) _ r b.2 in
    by_op t n (a_fork x body) _ s (with_start b.0 (record { body = body; first = n + 1; names = s.names }) s) r (law.forks x body (task b.0), tt) refl here c.2

comes_make : (t n : ℕ) (c : Coming) (s r : UnfoldingState) → t < length s.plan.codes → come_to t n c s ≡ Ok r → Makes t (visit n c ∷ []) s r
comes_make t n (a_plain x) s r here e = acts_make t n x s r here e
comes_make t n (a_fork x body) s r here e = forks_make t n x body s r here e
comes_make t n a_loop s r here e = by_none t n a_loop s r tt (same_codes t s r (ok_is s r e) here)
comes_make t n a_turn s r here e = by_none t n a_turn s r tt (same_codes t s r (ok_is s r e) here)

visit_makes : (t : ℕ) (m : Visit) (s r : UnfoldingState) → t < length s.plan.codes → make_visit t m s ≡ Ok r → Makes t (m ∷ []) s r
visit_makes t m s r here e =
    let c = counted t m s r e in
    let codes : c.0.plan.codes ≡ s.plan.codes = ap (λ (p : Plan). p.codes) c.1 in
    let a = comes_make t m.statement m.coming c.0 r (subst (λ cs. t < length cs) (sym codes) here) c.3 in
    record { ops = a.ops; adds = adds_from t s c.0 r a.ops codes a.adds; by = a.by }

visits_make : (t : ℕ) (ms : List Visit) (s r : UnfoldingState) → t < length s.plan.codes → make_visits t ms s ≡ Ok r → Makes t ms s r
visits_make t [] s r here e = record { ops = []; adds = same_codes t s r (no_visit t s r e) here; by = tt }
visits_make t (m ∷ ms) s r here e =
    let b = first_visit t m ms s r e in
    let a = visit_makes t m s b.0 here b.1 in
    let others = visits_make t ms b.0 r a.adds.here b.2 in
    record {
      ops = a.ops ++ others.ops;
      adds = adds_more t s b.0 r a.ops others.ops a.adds others.adds;
      by = subst (λ vs. MakeOps vs (a.ops ++ others.ops)) (sym (filter-append (λ (v : Visit). comes_to_op v.coming) (m ∷ []) ms))
          (make_more (op_visits (m ∷ [])) (op_visits ms) a.ops others.ops a.by others.by);
    }

-- ---- a task

abbrev Holds : Tree → Type 0
Holds body = Unit {0}

holds_of_parts : IsOfParts Holds
holds_of_parts = record { of_plain = λ x rest h. tt; of_fork = λ x body rest h. (tt, tt); of_loop = λ k body rest h. (tt, tt) }

record EndedBy (two : Bool) (t : ℕ) (start : Start) (s r : UnfoldingState) : Type 0 where
  steps : Steps Holds holds_of_parts t s r
  has : IsCodeOfVisits two start (code r t)

ends : (two : Bool) (t n : ℕ) (start : Start) (s v r : UnfoldingState) → v.plan ≡ s.plan → v.starts ≡ s.starts → code s t ≡ [] →
    Kept Holds holds_of_parts s → t < length s.plan.codes → ended two t n (make_visits t (visits_of start.first start.body) v) ≡ Ok r → EndedBy two t start s r
ends two t n start s v r plan starts empty k here e = by two refl
  where
    first : Steps Holds holds_of_parts t s v
    first = steps_same Holds holds_of_parts t s v (ap (λ p. p.parents) plan) (ap (λ p. p.codes) plan) starts here k

    empty_too : code v t ≡ []
    empty_too = ap (λ p. get_or p.codes t []) plan ∙ empty

    ms : List Visit
    ms = visits_of start.first start.body

    by : (b : Bool) → two ≡ b → EndedBy two t start s r
    by false is =
        let made : make_visits t (visits_of start.first start.body) v ≡ Ok r =
        subst (λ b. ended b t n (make_visits t (visits_of start.first start.body) v) ≡ Ok r) is e in
        let l = visits_make t (visits_of start.first start.body) v r first.here made in
        record {
          steps = steps_more Holds holds_of_parts t s v r first
              (visits_steps Holds holds_of_parts t (visits_of start.first start.body) v r (of_body Holds holds_of_parts start.first start.body tt) first.kept first.here made);
          has = record {
            made = l.ops;
            left = [];
            by_visits = l.by;
            code_is = l.adds.more ∙ ap (λ xs. xs ++ l.ops) empty_too ∙ sym (append-nil l.ops);
            in_two = λ _. refl;
          };
        }
    by true is =
        let whole : (make_visits t (visits_of start.first start.body) v >>= leave_below t n max_phasers) ≡ Ok r =
        subst (λ b. ended b t n (make_visits t (visits_of start.first start.body) v) ≡ Ok r) is e in
        let b = bind_ok (make_visits t (visits_of start.first start.body) v) (leave_below t n max_phasers) r whole in
        let l = visits_make t (visits_of start.first start.body) v b.0 first.here b.1 in
        let a = visits_steps Holds holds_of_parts t (visits_of start.first start.body) v b.0 (of_body Holds holds_of_parts start.first start.body tt) first.kept first.here b.1 in
        let d = leaves_below Holds holds_of_parts t n max_phasers b.0 r a.kept a.here b.2 in
        record {
          steps = steps_more Holds holds_of_parts t s v r first (steps_more Holds holds_of_parts t v b.0 r a d.steps);
          has = record {
            made = l.ops;
            left = d.phasers;
            by_visits = l.by;
            code_is = d.adds.more ∙ ap (λ xs. xs ++ drops_of d.phasers) (l.adds.more ∙ ap (λ xs. xs ++ l.ops) empty_too);
            in_two = λ one. absurd (false≢true (sym one ∙ is));
          };
        }

-- ---- all tasks

-- the tasks below t are unfolded
record UntilTask (two : Bool) (t : ℕ) (s : UnfoldingState) : Type 0 where
  kept : Kept Holds holds_of_parts s
  before : (u : ℕ) → u < t → IsCodeByStart two (start_at s u) (code s u)
  later : (u : ℕ) → t ≤ u → code s u ≡ []
  makers : s.plan.makers ≡ map task (tasks_below of_new_phaser s.starts t)
  parents : s.plan.parents ≡ None ∷ map (λ u. Some (task u)) (tasks_below of_new_task s.starts t)

-- those of one task more
below_next : (test : Coming → Bool) (t : ℕ) (s r : UnfoldingState) → ((u : ℕ) → u ≤ t → start_at r u ≡ start_at s u) →
    tasks_below test s.starts t ++ map (λ (n : ℕ). t) (statements_where test (visits_by (start_at r t))) ≡ tasks_below test r.starts (t + 1)
below_next test t s r same =
    ap (λ xs. xs ++ map (λ (n : ℕ). t) (statements_where test (visits_by (start_at r t))))
    (below_same test s.starts r.starts t (λ u l. sym (same u (omega (arith, l)))))
    ∙ ap (tasks_below test r.starts) (let z : suc t ≡ t + 1 = omega arith in z)

until_next : (two : Bool) (t : ℕ) (s r : UnfoldingState) → UntilTask two t s → Steps Holds holds_of_parts t s r →
    Grows (makers_in t (visits_by (start_at r t))) (drawers_in t (visits_by (start_at r t))) s r → IsCodeByStart two (start_at r t) (code r t) →
    UntilTask two (t + 1) r
until_next two t s r h a g own = record {
  kept = a.kept;
  before = λ u l. elim (cases_eq u t) [
    | inl same ↦ subst (λ n. IsCodeByStart two (start_at r n) (code r n)) (sym same) own
    | inr other ↦
        subst (λ o. IsCodeByStart two o (code r u)) (sym (a.starts u (omega (arith, l))))
        (subst (λ os. IsCodeByStart two (start_at s u) os) (sym (a.others u other)) (h.before u (omega (arith, l, other))))
  ];
  later = λ u l. a.others u (λ same. absurd (omega (arith, same, l))) ∙ h.later u (omega (arith, l));
  makers = g.makers ∙ ap (λ xs. xs ++ map task (makers_in t (visits_by (start_at r t)))) h.makers
      ∙ sym (map-append task (tasks_below of_new_phaser s.starts t) (makers_in t (visits_by (start_at r t))))
      ∙ ap (map task) (below_next of_new_phaser t s r a.starts);
  parents = g.parents ∙ ap (λ xs. xs ++ map (λ u. Some (task u)) (drawers_in t (visits_by (start_at r t)))) h.parents
      ∙ ap (λ xs. None ∷ xs) (sym (map-append (λ u. Some (task u)) (tasks_below of_new_task s.starts t) (drawers_in t (visits_by (start_at r t))))
      ∙ ap (map (λ u. Some (task u))) (below_next of_new_task t s r a.starts));
}

none_below : (test : Coming → Bool) (t : ℕ) (s : UnfoldingState) → start_at s t ≡ None → tasks_below test s.starts t ≡ tasks_below test s.starts (t + 1)
none_below test t s none =
    sym (append-nil (tasks_below test s.starts t))
    ∙ ap (λ (o : Option Start). tasks_below test s.starts t ++ map (λ (n : ℕ). t) (statements_where test (visits_by o))) (sym none)
    ∙ below_next test t s s (λ u l. refl)

none_next : (two : Bool) (t : ℕ) (s : UnfoldingState) → UntilTask two t s → start_at s t ≡ None → UntilTask two (t + 1) s
none_next two t s h none = record {
  kept = h.kept;
  before = λ u l. elim (cases_lt u t) [
    | inl below ↦ h.before u below
    | inr same ↦
        let is : u ≡ t = omega (arith, l, same) in
        subst (λ n. IsCodeByStart two (start_at s n) (code s n)) (sym is)
        (subst (λ o. IsCodeByStart two o (code s t)) (sym none) (h.later t (omega arith)))
  ];
  later = λ u l. h.later u (omega (arith, l));
  makers = h.makers ∙ ap (map task) (none_below of_new_phaser t s none);
  parents = h.parents ∙ ap (λ xs. None ∷ map (λ u. Some (task u)) xs) (none_below of_new_task t s none);
}

some_next : (two : Bool) (t : ℕ) (start : Start) (s r : UnfoldingState) → UntilTask two t s → start_at s t ≡ Some start → unfold_task two t (Some start) s ≡ Ok r →
    UntilTask two (t + 1) r
some_next two t start s r h is e =
    let a = ends two t (start.first - 1) start s (with_names start.names s) r refl refl (h.later t (omega arith)) h.kept
    (inside Holds holds_of_parts t start s h.kept is) e in
    let there : Some start ≡ start_at r t = sym (a.steps.starts t (omega arith) ∙ is) in
    let g : Grows (makers_in t (visits_by (start_at r t))) (drawers_in t (visits_by (start_at r t))) s r =
    subst (λ (o : Option Start). Grows (makers_in t (visits_by o)) (drawers_in t (visits_by o)) s r) there
    (ended_grows two t (start.first - 1) (visits_of start.first start.body) s (with_names start.names s) r refl e) in
    until_next two t s r h a.steps g (subst (λ o. IsCodeByStart two o (code r t)) (sym (a.steps.starts t (omega arith) ∙ is)) a.has)

all_until : (two : Bool) (n t : ℕ) (s r : UnfoldingState) → UntilTask two t s → unfold_tasks two n t s ≡ Ok r → UntilTask two (t + n) r
all_until two = tasks_until two (UntilTask two) (none_next two) (some_next two)

opening_until : (two : Bool) (body : Tree) → UntilTask two 0 (opening_state body)
opening_until two body = record { kept = opening_kept Holds holds_of_parts body tt; before = λ u l. absurd (omega (arith, l)); later = none; makers = refl; parents = refl }
  where
    none : (u : ℕ) → 0 ≤ u → code (opening_state body) u ≡ []
    none zero l = refl
    none (suc u) l = refl

end_codes : (two : Bool) (end : UnfoldingState) → UntilTask two max_tasks end → (t : ℕ) → IsCodeByStart two (start_at end t) (code end t)
end_codes two end h t = elim (cases_lt t max_tasks) [
  | inl l ↦ h.before t l
  | inr l ↦
      let none : start_at end t ≡ None = get_or_past end.starts t None (omega (arith, l, h.kept.starts, h.kept.few_tasks)) in
      subst (λ o. IsCodeByStart two o (code end t)) (sym none) (h.later t l)
]

pub codes_are_of_visits : CodesAreOfVisits
unfolding plan_of
codes_are_of_visits program plan e t =
    let b = bind_ok (unfold_tasks program.two max_tasks 0 (opening_state program.body)) (λ s. Ok (with_pieces s)) plan e in
    let until = all_until program.two max_tasks 0 (opening_state program.body) b.0 (opening_until program.two program.body) b.1 in
    let codes : b.0.plan.codes ≡ plan.codes = ap (λ (p : Plan). p.codes) (ok_is (with_pieces b.0) plan b.2) in
    let starts : start_at b.0 t ≡ start_of program t = ap (λ ss. slice_index_or ss t None) (sym (starts_found program b.0 b.1)) in
    subst (λ o. IsCodeByStart program.two o (slice_index_or plan.codes t [])) starts
    (subst (λ cs. IsCodeByStart program.two (start_at b.0 t) (get_or cs t [])) codes (end_codes program.two b.0 until t))

-- ---- who makes phasers and draws tasks

all_below : (two : Bool) (program : Program) (test : Coming → Bool) (end : UnfoldingState) → UntilTask two max_tasks end → starts_of program ≡ end.starts →
    tasks_below test end.starts max_tasks ≡ tasks_of_all test program
all_below two program test end h same =
    below_all test end.starts max_tasks (omega (arith, h.kept.starts, h.kept.few_tasks)) ∙ ap (tasks_from test 0) (sym same)

pub makers_are_of_visits : MakersAreOfVisits
unfolding plan_of
makers_are_of_visits program plan e =
    let b = bind_ok (unfold_tasks program.two max_tasks 0 (opening_state program.body)) (λ s. Ok (with_pieces s)) plan e in
    let until = all_until program.two max_tasks 0 (opening_state program.body) b.0 (opening_until program.two program.body) b.1 in
    ap (λ (p : Plan). p.makers) (sym (ok_is (with_pieces b.0) plan b.2)) ∙ until.makers
    ∙ ap (map task) (all_below program.two program of_new_phaser b.0 until (starts_found program b.0 b.1))

pub parents_are_of_visits : ParentsAreOfVisits
unfolding plan_of
parents_are_of_visits program plan e =
    let b = bind_ok (unfold_tasks program.two max_tasks 0 (opening_state program.body)) (λ s. Ok (with_pieces s)) plan e in
    let until = all_until program.two max_tasks 0 (opening_state program.body) b.0 (opening_until program.two program.body) b.1 in
    ap (λ (p : Plan). p.parents) (sym (ok_is (with_pieces b.0) plan b.2)) ∙ until.parents
    ∙ ap (λ xs. None ∷ map (λ u. Some (task u)) xs) (all_below program.two program of_new_task b.0 until (starts_found program b.0 b.1))

-- ---- each op has its origin

-- element i of two lists, one behind the other
pub get_cases : {A : Type 0} (xs ys : List A) (i : ℕ) (o : A) → slice_get (xs ++ ys) i ≡ Some o →
    (slice_get xs i ≡ Some o) ⊎ ((j : ℕ) × (i ≡ length xs + j) × (slice_get ys j ≡ Some o))
get_cases [] ys i o e = inr (i, omega arith, e)
get_cases (x ∷ xs) ys zero o e = inl e
get_cases (x ∷ xs) ys (suc i) o e = elim (get_cases xs ys i o e) [ inl there ↦ inl there | inr h ↦ inr (h.0, omega (arith, h.1), h.2) ]

pub get_first : {A : Type 0} (xs ys : List A) (i : ℕ) (o : A) → slice_get xs i ≡ Some o → slice_get (xs ++ ys) i ≡ Some o
get_first [] ys i o e = absurd (cc)
get_first (x ∷ xs) ys zero o e = e
get_first (x ∷ xs) ys (suc i) o e = get_first xs ys i o e

-- an op that visits make
record MadeAt (vs : List Visit) (i : ℕ) (o : Op) : Type 0 where
  by : Visit
  among : Contains vs by
  makes : MakesOp by.coming o
  numbered : slice_get (map (λ (m : Visit). m.statement) vs) i ≡ Some by.statement

made_at : (vs : List Visit) (os : List Op) (i : ℕ) (o : Op) → MakeOps vs os → slice_get os i ≡ Some o → MadeAt vs i o
made_at [] [] i o h e = absurd (cc)
made_at (m ∷ vs) (p ∷ os) zero o h e =
    let same : p ≡ o = cc in record { by = m; among = (0, omega arith, refl); makes = subst (λ q. MakesOp m.coming q) same h.0; numbered = refl }
made_at (m ∷ vs) (p ∷ os) (suc i) o h e =
    let later = made_at vs os i o h.1 e in record { by = later.by; among = (suc later.among.0, omega (arith, later.among.1), later.among.2); makes = later.makes; numbered = later.numbered }
made_at [] (p ∷ os) i o h e = absurd h
made_at (m ∷ vs) [] i o h e = absurd h

-- as many numbers as ops
none_behind_ops : (vs : List Visit) (os : List Op) (j : ℕ) → MakeOps vs os → slice_get (map (λ (m : Visit). m.statement) vs) (length os + j) ≡ None
none_behind_ops [] [] j h = refl
none_behind_ops (m ∷ vs) (p ∷ os) j h =
    ap (slice_get (map (λ (m : Visit). m.statement) (m ∷ vs))) (let z : suc (length os) + j ≡ suc (length os + j) = omega arith in z) ∙ none_behind_ops vs os j h.1
none_behind_ops [] (p ∷ os) j h = absurd h
none_behind_ops (m ∷ vs) [] j h = absurd h

op_there : (vs : List Visit) (os : List Op) (i n : ℕ) → MakeOps vs os → slice_get (map (λ (m : Visit). m.statement) vs) i ≡ Some n → (o : Op) × (slice_get os i ≡ Some o)
op_there [] [] i n h e = absurd (cc)
op_there (m ∷ vs) (p ∷ os) zero n h e = (p, refl)
op_there (m ∷ vs) (p ∷ os) (suc i) n h e = op_there vs os i n h.1 e
op_there [] (p ∷ os) i n h e = absurd h
op_there (m ∷ vs) [] i n h e = absurd h

drop_there : (left : List ℕ) (j : ℕ) (o : Op) → slice_get (drops_of left) j ≡ Some o → (p : ℕ) × (o ≡ op.Drop (phaser p)) × (left ≡ [] → ⊥)
drop_there [] j o e = absurd (cc)
drop_there (p ∷ left) zero o e = (p, (let z : o ≡ op.Drop (phaser p) = cc in z), λ none. cc)
drop_there (p ∷ left) (suc j) o e = let h = drop_there left j o e in (h.0, h.1, λ none. cc)

is_two : (two : Bool) (left : List ℕ) → (two ≡ false → left ≡ []) → (left ≡ [] → ⊥) → two ≡ true
is_two true left f g = refl
is_two false left f g = absurd (g (f refl))

contains_passed : (ms : List Visit) (m : Visit) → Contains (op_visits ms) m → Contains ms m
contains_passed ms m h = All-contains (Contains ms) (op_visits ms) m (All-filter (λ (v : Visit). comes_to_op v.coming) (Contains ms) ms (All-contains_itself ms)) h

-- where the op of a code comes from
abbrev FromStart : Bool → List Visit → ℕ → Op → Type 0
FromStart two ms i o =
    ((m : Visit) × Contains ms m × MakesOp m.coming o × (slice_get (statements_where comes_to_op ms) i ≡ Some m.statement))
    ⊎ ((p : ℕ) × (two ≡ true) × (o ≡ op.Drop (phaser p)) × (slice_get (statements_where comes_to_op ms) i ≡ None))

from_start : (two : Bool) (start : Option Start) (ops : List Op) (i : ℕ) (o : Op) → IsCodeByStart two start ops → slice_get ops i ≡ Some o →
    FromStart two (visits_by start) i o
from_start two None ops i o h e = absurd (let z : slice_get [] i ≡ Some o = subst (λ os. slice_get os i ≡ Some o) h e in cc)
from_start two (Some start) ops i o h e =
    elim (get_cases h.made (drops_of h.left) i o (subst (λ os. slice_get os i ≡ Some o) h.code_is e)) as (λ _. FromStart two (visits_by (Some start)) i o) [
      | inl there ↦
          let a = made_at (op_visits (visits_by (Some start))) h.made i o h.by_visits there in
          inl (a.by, contains_passed (visits_by (Some start)) a.by a.among, a.makes, a.numbered)
      | inr w ↦
          let d = drop_there h.left w.0 o w.2 in
          inr (
            d.0,
            is_two two h.left h.in_two d.2,
            d.1,
            ap (slice_get (statements_where comes_to_op (visits_by (Some start)))) w.1
                ∙ none_behind_ops (op_visits (visits_by (Some start))) h.made w.0 h.by_visits,
          )
    ]

pub ops_have_origins : OpsHaveOrigins
ops_have_origins program plan e t i o there =
    elim (from_start program.two (start_of program t) (slice_index_or plan.codes t []) i o (codes_are_of_visits program plan e t) there)
    as (λ _. ComesFrom program t i o) [
      | inl h ↦ law.a_visit h.0 h.1 h.2 h.3
      | inr h ↦ law.its_end h.0 h.1 h.2 h.3
    ]

origin_start : (two : Bool) (start : Option Start) (ops : List Op) (i n : ℕ) → IsCodeByStart two start ops →
    slice_get (statements_where comes_to_op (visits_by start)) i ≡ Some n → (o : Op) × (slice_get ops i ≡ Some o)
origin_start two None ops i n h e = absurd (cc)
origin_start two (Some start) ops i n h e =
    let w = op_there (op_visits (visits_by (Some start))) h.made i n h.by_visits e in
    (w.0, ap (λ os. slice_get os i) h.code_is ∙ get_first h.made (drops_of h.left) i w.0 w.1)

pub origins_have_ops : OriginsHaveOps
origins_have_ops program plan e t i n is =
    origin_start program.two (start_of program t) (slice_index_or plan.codes t []) i n (codes_are_of_visits program plan e t) is
