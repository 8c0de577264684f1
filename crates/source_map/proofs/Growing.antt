-- The tasks that make phasers and draw tasks, in the order of their visits.
use Rattle.std.proofs.Common.{◌≡◌, ◌⊎◌, ℕ, zero, suc, ◌+◌, ◌<◌, ◌≤◌, Bool, true, false, if◌then◌else◌, Option, Some, None, Ok, List, [], ◌∷◌, ◌++◌, length, map, take, refl, sym, ap, subst, ◌∙◌, arith, inl, inr, append_assoc, append-nil}
use Rattle.std.specs.Prelude.{nat_lt, not, slice_index_or, sum_by}
use Rattle.std.proofs.lemmas.Bool.{cases_lt}
use Rattle.std.proofs.lemmas.List.{get_or_past, length-take-le, map-append, take_all, take_more}
use Rattle.armus_base.specs.Numbers.{phaser, task}
use Rattle.armus_base.specs.Limits.{max_ops, max_phasers, max_tasks}
use Rattle.armus_base.specs.declared.op.Op.{Op}
use Rattle.armus_base.specs.declared.op.Op.TheVariants as op
use Rattle.pl_syntax.specs.Tree.{Plain, Tree, adv, await, dereg, new_phaser, new_task, reg, skip}
use Rattle.pl_plan.specs.Unfolding.{Coming, Start, UnfoldingState, Visit}
use Rattle.pl_plan.specs.Unfolding.{a_fork, a_loop, a_plain, a_turn, act, act_fork, add_op, already_member, as_phaser, as_task, come_to, ended, fault_unless}
use Rattle.pl_plan.specs.Unfolding.{has_cells, leave, leave_below, make_visit, make_visits, member_of, not_member}
use Rattle.pl_plan.specs.Unfolding.{too_many_cells, too_many_ops, too_many_phasers, too_many_tasks, unforked_child}
use Rattle.pl_plan.specs.Unfolding.{visit, with_member, with_members, with_new_phaser, with_new_task, with_op, with_start}
use Rattle.pl_plan.proofs.VisitsLeave.{bind_ok, counted, first_visit, no_visit, ok_is}
use Rattle.pl_plan.specs.Tests.{of_new_phaser, of_new_task}
use Rattle.source_map.specs.Origins.{statements_where, visits_by}
use Rattle.source_map.specs.calls.OriginLaws.{tasks_from}
use Rattle.source_map.proofs.Statements.{where_append}

-- ---- one task

-- from s to r these tasks make phasers, and these draw tasks
pub record Grows (making drawing : List ℕ) (s r : UnfoldingState) : Type 0 where
  pub makers : r.plan.makers ≡ s.plan.makers ++ map task making
  pub parents : r.plan.parents ≡ s.plan.parents ++ map (λ t. Some (task t)) drawing

pub grows_not : (s r : UnfoldingState) → r.plan.makers ≡ s.plan.makers → r.plan.parents ≡ s.plan.parents → Grows [] [] s r
grows_not s r m p = record { makers = m ∙ sym (append-nil s.plan.makers); parents = p ∙ sym (append-nil s.plan.parents) }

pub grows_more : (ms ds ns es : List ℕ) (s u r : UnfoldingState) → Grows ms ds s u → Grows ns es u r → Grows (ms ++ ns) (ds ++ es) s r
grows_more ms ds ns es s u r a b = record {
  makers = b.makers ∙ ap (λ xs. xs ++ map task ns) a.makers ∙ append_assoc s.plan.makers (map task ms) (map task ns)
      ∙ ap (λ xs. s.plan.makers ++ xs) (sym (map-append task ms ns));
  parents = b.parents ∙ ap (λ xs. xs ++ map (λ t. Some (task t)) es) a.parents
      ∙ append_assoc s.plan.parents (map (λ t. Some (task t)) ds) (map (λ t. Some (task t)) es)
      ∙ ap (λ xs. s.plan.parents ++ xs) (sym (map-append (λ t. Some (task t)) ds es));
}

-- the visits of task t
abbrev pub makers_in : ℕ → List Visit → List ℕ
makers_in t ms = map (λ (n : ℕ). t) (statements_where of_new_phaser ms)

abbrev pub drawers_in : ℕ → List Visit → List ℕ
drawers_in t ms = map (λ (n : ℕ). t) (statements_where of_new_task ms)

grows_op : (t n : ℕ) (o : Op) (ms ds : List ℕ) (s v r : UnfoldingState) → Grows ms ds s v → add_op t n o v ≡ Ok r → Grows ms ds s r
unfolding add_op
grows_op t n o ms ds s v r g e =
    let b = bind_ok (fault_unless (nat_lt (sum_by length v.plan.codes) max_ops) too_many_ops n) (λ room. Ok (record v { plan = with_op t o v.plan })) r e in
    let is : record v { plan = with_op t o v.plan } ≡ r = ok_is _ r b.2 in
    subst (Grows ms ds s) is (record { makers = g.makers; parents = g.parents })

grows_same : (s r : UnfoldingState) → s ≡ r → Grows [] [] s r
grows_same s r e = grows_not s r (ap (λ (q : UnfoldingState). q.plan.makers) (sym e)) (ap (λ (q : UnfoldingState). q.plan.parents) (sym e))

act_grows : (t n : ℕ) (x : Plain) (s r : UnfoldingState) → act t n x s ≡ Ok r →
    Grows (makers_in t (visit n (a_plain x) ∷ [])) (drawers_in t (visit n (a_plain x) ∷ [])) s r
unfolding act
act_grows t n (new_task x) s r e =
    let b = bind_ok (fault_unless (nat_lt (length s.plan.parents) max_tasks) too_many_tasks n) _ r e in
    let c = bind_ok (fault_unless (has_cells (length s.plan.parents + 1) (length s.plan.makers)) too_many_cells n) (λ cells. Ok (with_new_task t x s)) r b.2 in
    let is : with_new_task t x s ≡ r = ok_is _ r c.2 in
    subst (Grows [] (t ∷ []) s) is (record { makers = sym (append-nil s.plan.makers); parents = refl })
act_grows t n (new_phaser x) s r e =
    let b = bind_ok (fault_unless (nat_lt (length s.plan.makers) max_phasers) too_many_phasers n) _ r e in
    let c = bind_ok (fault_unless (has_cells (length s.plan.parents) (length s.plan.makers + 1)) too_many_cells n) _ r b.2 in
    grows_op t n _ (t ∷ []) [] s (with_new_phaser t x s) r (record { makers = refl; parents = sym (append-nil s.plan.parents) }) c.2
act_grows t n (reg x y) s r e =
    let b = bind_ok (as_task n (s.names x)) _ r e in
    let c = bind_ok (as_phaser n (s.names y)) _ r b.2 in
    let d = bind_ok (unforked_child t n b.0 s) _ r c.2 in
    let f = bind_ok (fault_unless (s.members t c.0) not_member n) _ r d.2 in
    let g = bind_ok (fault_unless (not (s.members b.0 c.0)) already_member n) _ r f.2 in
    let v = with_members (with_member b.0 c.0 true s.members) s in
    grows_op t n _ [] [] s v r (grows_not s v refl refl) g.2
act_grows t n (dereg x) s r e =
    let b = bind_ok (member_of t n (s.names x) s) _ r e in
    let v = with_members (with_member t b.0 false s.members) s in
    grows_op t n _ [] [] s v r (grows_not s v refl refl) b.2
act_grows t n (adv x) s r e = let b = bind_ok (member_of t n (s.names x) s) _ r e in grows_op t n _ [] [] s s r (grows_not s s refl refl) b.2
act_grows t n (await x off) s r e = let b = bind_ok (member_of t n (s.names x) s) _ r e in grows_op t n _ [] [] s s r (grows_not s s refl refl) b.2
act_grows t n skip s r e = grows_same s r (ok_is s r e)

fork_grows : (t n : ℕ) (x : List ℕ) (body : Tree) (s r : UnfoldingState) → act_fork t n x body s ≡ Ok r → Grows [] [] s r
unfolding act_fork
fork_grows t n x body s r e =
    let b = bind_ok (as_task n (s.names x)) _ r e in
    let c = bind_ok (unforked_child t n b.0 s) _ r b.2 in
    let v = with_start b.0 (record { body = body; first = n + 1; names = s.names }) s in
    grows_op t n (op.Fork (task b.0)) [] [] s v r (grows_not s v refl refl) c.2

come_grows : (t n : ℕ) (c : Coming) (s r : UnfoldingState) → come_to t n c s ≡ Ok r → Grows (makers_in t (visit n c ∷ [])) (drawers_in t (visit n c ∷ [])) s r
come_grows t n (a_plain x) s r e = act_grows t n x s r e
come_grows t n (a_fork x body) s r e = fork_grows t n x body s r e
come_grows t n a_loop s r e = grows_same s r (ok_is s r e)
come_grows t n a_turn s r e = grows_same s r (ok_is s r e)

visit_grows : (t : ℕ) (m : Visit) (s r : UnfoldingState) → make_visit t m s ≡ Ok r → Grows (makers_in t (m ∷ [])) (drawers_in t (m ∷ [])) s r
visit_grows t m s r e =
    let c = counted t m s r e in
    let g = come_grows t m.statement m.coming c.0 r c.3 in
    record {
      makers = g.makers ∙ ap (λ p. p.makers ++ map task (makers_in t (m ∷ []))) c.1;
      parents = g.parents ∙ ap (λ p. p.parents ++ map (λ u. Some (task u)) (drawers_in t (m ∷ []))) c.1;
    }

-- the tasks of two lists of visits
in_more : (t : ℕ) (test : Coming → Bool) (ms ns : List Visit) →
    map (λ (n : ℕ). t) (statements_where test (ms ++ ns)) ≡ map (λ (n : ℕ). t) (statements_where test ms) ++ map (λ (n : ℕ). t) (statements_where test ns)
in_more t test ms ns =
    ap (map (λ (n : ℕ). t)) (where_append test ms ns) ∙ map-append (λ (n : ℕ). t) (statements_where test ms) (statements_where test ns)

pub visits_grow : (t : ℕ) (ms : List Visit) (s r : UnfoldingState) → make_visits t ms s ≡ Ok r → Grows (makers_in t ms) (drawers_in t ms) s r
visits_grow t [] s r e = grows_same s r (no_visit t s r e)
visits_grow t (m ∷ ms) s r e =
    let b = first_visit t m ms s r e in
    let both = grows_more (makers_in t (m ∷ [])) (drawers_in t (m ∷ [])) (makers_in t ms) (drawers_in t ms) s b.0 r (visit_grows t m s b.0 b.1)
    (visits_grow t ms b.0 r b.2) in
    subst (λ xs. Grows xs (drawers_in t (m ∷ ms)) s r) (sym (in_more t of_new_phaser (m ∷ []) ms))
    (subst (λ xs. Grows (makers_in t (m ∷ []) ++ makers_in t ms) xs s r) (sym (in_more t of_new_task (m ∷ []) ms)) both)

-- ---- its end

leave_grows : (t n p : ℕ) (s r : UnfoldingState) (b : Bool) → s.members t p ≡ b → leave t n p s ≡ Ok r → Grows [] [] s r
unfolding leave
leave_grows t n p s r false is e =
    let same : Ok s ≡ Ok r =
    subst (λ (b : Bool). (if b then add_op t n (op.Drop (phaser p)) (with_members (with_member t p false s.members) s) else Ok s) ≡ Ok r) is e in
    grows_same s r (ok_is s r same)
leave_grows t n p s r true is e =
    let v = with_members (with_member t p false s.members) s in
    let op_is : add_op t n (op.Drop (phaser p)) v ≡ Ok r = subst (λ (b : Bool). (if b then add_op t n (op.Drop (phaser p)) v else Ok s) ≡ Ok r) is e in
    grows_op t n (op.Drop (phaser p)) [] [] s v r (grows_not s v refl refl) op_is

leaves_grow : (t n p : ℕ) (s r : UnfoldingState) → leave_below t n p s ≡ Ok r → Grows [] [] s r
unfolding leave_below
leaves_grow t n zero s r e = grows_same s r (ok_is s r e)
leaves_grow t n (suc p) s r e =
    let b = bind_ok (leave_below t n p s) (leave t n p) r e in
    grows_more [] [] [] [] s b.0 r (leaves_grow t n p s b.0 b.1) (leave_grows t n p b.0 r (b.0.members t p) refl b.2)

pub ended_grows : (two : Bool) (t n : ℕ) (ms : List Visit) (s v r : UnfoldingState) → v.plan ≡ s.plan → ended two t n (make_visits t ms v) ≡ Ok r →
    Grows (makers_in t ms) (drawers_in t ms) s r
ended_grows false t n ms s v r plan e =
    let g = visits_grow t ms v r e in
    record {
      makers = g.makers ∙ ap (λ p. p.makers ++ map task (makers_in t ms)) plan;
      parents = g.parents ∙ ap (λ p. p.parents ++ map (λ u. Some (task u)) (drawers_in t ms)) plan;
    }
ended_grows true t n ms s v r plan e =
    let b = bind_ok (make_visits t ms v) (leave_below t n max_phasers) r e in
    let g = visits_grow t ms v b.0 b.1 in
    let l = leaves_grow t n max_phasers b.0 r b.2 in
    let from : Grows (makers_in t ms) (drawers_in t ms) s b.0 =
    record {
      makers = g.makers ∙ ap (λ p. p.makers ++ map task (makers_in t ms)) plan;
      parents = g.parents ∙ ap (λ p. p.parents ++ map (λ u. Some (task u)) (drawers_in t ms)) plan;
    } in
    record { makers = l.makers ∙ append-nil b.0.plan.makers ∙ from.makers; parents = l.parents ∙ append-nil b.0.plan.parents ∙ from.parents }

-- ---- all tasks

-- the tasks below t that make such visits, in order
abbrev pub tasks_below : (Coming → Bool) → List (Option Start) → ℕ → List ℕ
tasks_below test starts zero = []
tasks_below test starts (suc t) = tasks_below test starts t ++ map (λ (n : ℕ). t) (statements_where test (visits_by (slice_index_or starts t None)))

pub below_same : (test : Coming → Bool) (a b : List (Option Start)) (t : ℕ) → ((u : ℕ) → u < t → slice_index_or a u None ≡ slice_index_or b u None) →
    tasks_below test a t ≡ tasks_below test b t
below_same test a b zero h = refl
below_same test a b (suc t) h =
    ap (λ xs. xs ++ map (λ (n : ℕ). t) (statements_where test (visits_by (slice_index_or a t None)))) (below_same test a b t (λ u l. h u (omega (arith, l))))
    ∙ ap (λ o. tasks_below test b t ++ map (λ (n : ℕ). t) (statements_where test (visits_by o))) (h t (omega arith))

from_append : (test : Coming → Bool) (t : ℕ) (xs ys : List (Option Start)) → tasks_from test t (xs ++ ys) ≡ tasks_from test t xs ++ tasks_from test (t + length xs) ys
from_append test t [] ys = ap (λ u. tasks_from test u ys) (let z : t ≡ t + 0 = omega arith in z)
from_append test t (x ∷ xs) ys =
    let here = map (λ (n : ℕ). t) (statements_where test (visits_by x)) in
    ap (λ zs. here ++ zs) (from_append test (t + 1) xs ys) ∙ sym (append_assoc here (tasks_from test (t + 1) xs) (tasks_from test (t + 1 + length xs) ys))
    ∙ ap (λ u. here ++ tasks_from test (t + 1) xs ++ tasks_from test u ys) (let z : t + 1 + length xs ≡ t + suc (length xs) = omega arith in z)

pub below_is : (test : Coming → Bool) (starts : List (Option Start)) (n : ℕ) → tasks_below test starts n ≡ tasks_from test 0 (take n starts)
below_is test starts zero = refl
below_is test starts (suc n) = by (cases_lt n (length starts)) (below_is test starts n)
  where
    by : (n < length starts) ⊎ (length starts ≤ n) → tasks_below test starts n ≡ tasks_from test 0 (take n starts) →
        tasks_below test starts (suc n) ≡ tasks_from test 0 (take (suc n) starts)
    by (inl lt) so =
        let o = slice_index_or starts n None in
        let many : length (take n starts) ≡ n = length-take-le n starts (omega (arith, lt)) in
        ap (λ xs. xs ++ map (λ (m : ℕ). n) (statements_where test (visits_by o))) so
        ∙ ap (λ xs. tasks_from test 0 (take n starts) ++ xs) (sym (append-nil (map (λ (m : ℕ). n) (statements_where test (visits_by o)))))
        ∙ ap (λ u. tasks_from test 0 (take n starts) ++ tasks_from test u (o ∷ [])) (let z : n ≡ 0 + length (take n starts) = omega (arith, many) in z)
        ∙ sym (from_append test 0 (take n starts) (o ∷ []))
        ∙ ap (tasks_from test 0) (sym (take_more starts n None lt) ∙ ap (λ m. take m starts) (let z : n + 1 ≡ suc n = omega arith in z))
    by (inr le) so =
        ap (λ (o : Option Start). tasks_below test starts n ++ map (λ (m : ℕ). n) (statements_where test (visits_by o))) (get_or_past starts n None le)
        ∙ append-nil (tasks_below test starts n) ∙ so
        ∙ ap (tasks_from test 0) (take_all n starts le ∙ sym (take_all (suc n) starts (omega (arith, le))))

pub below_all : (test : Coming → Bool) (starts : List (Option Start)) (n : ℕ) → length starts ≤ n → tasks_below test starts n ≡ tasks_from test 0 starts
below_all test starts n le = below_is test starts n ∙ ap (tasks_from test 0) (take_all n starts le)
