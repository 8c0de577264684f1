-- The ops that the visits of a task make: each phaser with the next number, each fork of a task that starts there.
use Rattle.std.proofs.Common.{◌≡◌, ℕ, zero, suc, ◌+◌, ◌-◌, ◌<◌, Bool, true, false, Option, Some, None, Ok, List, [], ◌∷◌, ◌++◌, length, map, refl, sym, ap, subst, ◌∙◌, arith, inl, inr, length-append, append-nil}
use Rattle.std.specs.Prelude.{nat_lt, not, if◌then◌else◌, slice_index_or, is_some, slice_set, sum_by}
use Rattle.std.proofs.lemmas.Bool.{cases_eq, cases_lt, false≢true}
use Rattle.std.proofs.lemmas.List.{get_or-set_other, get_or-set_same, get_or_append_left, get_or_past, length-map, length-set}
use Rattle.std.proofs.lemmas.List.Elements.{filter-append}
use Rattle.armus_base.specs.Limits.{max_ops, max_phasers, max_tasks}
use Rattle.armus_base.specs.Numbers.{phaser, task}
use Rattle.armus_base.specs.Plans.{Plan}
use Rattle.armus_base.specs.declared.ids.TaskId.{TaskId}
use Rattle.armus_base.specs.declared.op.Op.{Op}
use Rattle.armus_base.specs.declared.op.Op.TheVariants as op
use Rattle.pl_syntax.specs.Tree.{Plain, Tree, adv, await, dereg, new_phaser, new_task, reg, skip}
use Rattle.pl_plan.specs.Forks.{fork_of}
use Rattle.pl_plan.specs.Limits.{max_visits}
use Rattle.pl_plan.specs.Unfolding.{Coming, Start, UnfoldingState, Visit}
use Rattle.pl_plan.specs.Unfolding.{a_fork, a_loop, a_plain, a_turn, act, act_fork, add_op, already_member, as_phaser, as_task, come_to, count_visit, fault_unless, is_parent}
use Rattle.pl_plan.specs.Unfolding.{already_forked, has_cells, leave, leave_below, make_visit, make_visits, member_of, not_drawn_here, not_member, too_many_cells, too_many_ops}
use Rattle.pl_plan.specs.Unfolding.{too_many_phasers, too_many_tasks, too_many_visits, unforked_child}
use Rattle.pl_plan.specs.Unfolding.{visit, with_member, with_members, with_new_phaser, with_new_task, with_op, with_start}
use Rattle.pl_plan.proofs.VisitsLeave.{Adds, adds_from, adds_more, adds_nothing, adds_op, bind_ok, code, first_visit, no_visit, ok_is}
use Rattle.pl_plan.specs.Tests.{of_new_phaser}
use Rattle.source_map.specs.Origins.{comes_to_op, statements_where}
use Rattle.source_map.specs.calls.OriginLaws.{MakesOp, op_visits}
use Rattle.source_map.specs.calls.OriginLaws as law
use Rattle.source_map.proofs.Growing.{makers_in, visits_grow}
use Rattle.source_map.proofs.Statements.{where_append}

-- how many of these visits make a phaser
abbrev pub phasers_of : List Visit → ℕ
phasers_of ms = length (statements_where of_new_phaser ms)

-- with these starts, these visits make these ops, one each; each that makes a phaser makes the next one, of which the first has number m, and each that forks a task
-- is where this starts
abbrev pub AreNumbered : ℕ → List (Option Start) → List Visit → List Op → Type 0
AreNumbered m ss [] [] = Unit {0}
AreNumbered m ss (v ∷ vs) (o ∷ os) =
    MakesOp v.coming o × (of_new_phaser v.coming ≡ true → o ≡ op.Make (phaser m))
    × ((c : TaskId) → o ≡ op.Fork c → fork_of (slice_index_or ss c.0 None) ≡ Some v.statement) × AreNumbered (m + phasers_of (v ∷ [])) ss vs os
AreNumbered m ss [] (o ∷ os) = ⊥
AreNumbered m ss (v ∷ vs) [] = ⊥

-- who is forked stays so
abbrev pub KeepsForks : List (Option Start) → List (Option Start) → Type 0
KeepsForks ss rs = (c n : ℕ) → fork_of (slice_index_or ss c None) ≡ Some n → fork_of (slice_index_or rs c None) ≡ Some n

pub numbered_later : (m : ℕ) (ss rs : List (Option Start)) (vs : List Visit) (os : List Op) → KeepsForks ss rs → AreNumbered m ss vs os → AreNumbered m rs vs os
numbered_later m ss rs [] [] k h = tt
numbered_later m ss rs (v ∷ vs) (o ∷ os) k h =
    (h.0, h.1, (λ c is. k c.0 v.statement (h.2 c is)), numbered_later (m + phasers_of (v ∷ [])) ss rs vs os k h.3)
numbered_later m ss rs [] (o ∷ os) k h = absurd h
numbered_later m ss rs (v ∷ vs) [] k h = absurd h

phasers_more : (xs ys : List Visit) → phasers_of (xs ++ ys) ≡ phasers_of xs + phasers_of ys
phasers_more xs ys = ap length (where_append of_new_phaser xs ys) ∙ length-append (statements_where of_new_phaser xs) (statements_where of_new_phaser ys)

numbered_more : (m : ℕ) (ss : List (Option Start)) (xs ys : List Visit) (os ps : List Op) → AreNumbered m ss xs os → AreNumbered (m + phasers_of xs) ss ys ps →
    AreNumbered m ss (xs ++ ys) (os ++ ps)
numbered_more m ss [] ys [] ps a b = subst (λ n. AreNumbered n ss ys ps) (let z : m + 0 ≡ m = omega arith in z) b
numbered_more m ss (v ∷ vs) ys (o ∷ os) ps a b = (
  a.0,
  a.1,
  a.2,
  numbered_more (m + phasers_of (v ∷ [])) ss vs ys os ps a.3
      (subst (λ n. AreNumbered n ss ys ps) (let z : m + phasers_of (v ∷ vs) ≡ m + phasers_of (v ∷ []) + phasers_of vs = omega (arith, phasers_more (v ∷ []) vs) in z) b),
)
numbered_more m ss [] ys (o ∷ os) ps a b = absurd a
numbered_more m ss (v ∷ vs) ys [] ps a b = absurd a

-- ---- the starts

-- there is a start for each task
abbrev pub IsEven : UnfoldingState → Type 0
IsEven s = length s.starts ≡ length s.plan.parents

keeps_same : (ss rs : List (Option Start)) → rs ≡ ss → KeepsForks ss rs
keeps_same ss rs e c n h = ap (λ xs. fork_of (slice_index_or xs c None)) e ∙ h

keeps_more : (ss : List (Option Start)) → KeepsForks ss (ss ++ None ∷ [])
keeps_more ss c n h = elim (cases_lt c (length ss)) [
  | inl l ↦ ap fork_of (get_or_append_left ss (None ∷ []) None c l) ∙ h
  | inr l ↦ absurd (let none = get_or_past ss c None l in let z : fork_of None ≡ Some n = ap fork_of (sym none) ∙ h in cc)
]

keeps_set : (ss : List (Option Start)) (d : ℕ) (start : Start) → slice_index_or ss d None ≡ None → KeepsForks ss (slice_set ss d (Some start))
keeps_set ss d start none c n h = elim (cases_eq c d) [
  | inl same ↦ absurd (let z : fork_of None ≡ Some n = ap fork_of (sym (ap (λ k. slice_index_or ss k None) same ∙ none)) ∙ h in cc)
  | inr other ↦ ap fork_of (get_or-set_other ss d c (Some start) None other) ∙ h
]

-- an op leaves the starts as they are
op_keeps : (t n : ℕ) (o : Op) (v r : UnfoldingState) → add_op t n o v ≡ Ok r → (r.starts ≡ v.starts) × (r.plan.parents ≡ v.plan.parents)
unfolding add_op
op_keeps t n o v r e =
    let b = bind_ok (fault_unless (nat_lt (sum_by length v.plan.codes) max_ops) too_many_ops n) (λ room. Ok (record v { plan = with_op t o v.plan })) r e in
    let is : record v { plan = with_op t o v.plan } ≡ r = ok_is _ r b.2 in
    (ap (λ (q : UnfoldingState). q.starts) (sym is), ap (λ (q : UnfoldingState). q.plan.parents) (sym is))

leave_keeps : (t n p : ℕ) (s r : UnfoldingState) (b : Bool) → s.members t p ≡ b → leave t n p s ≡ Ok r → r.starts ≡ s.starts
unfolding leave
leave_keeps t n p s r false is e =
    let same : Ok s ≡ Ok r =
    subst (λ (b : Bool). (if b then add_op t n (op.Drop (phaser p)) (with_members (with_member t p false s.members) s) else Ok s) ≡ Ok r) is e in
    ap (λ (q : UnfoldingState). q.starts) (sym (ok_is s r same))
leave_keeps t n p s r true is e =
    let v = with_members (with_member t p false s.members) s in
    let op_is : add_op t n (op.Drop (phaser p)) v ≡ Ok r = subst (λ (b : Bool). (if b then add_op t n (op.Drop (phaser p)) v else Ok s) ≡ Ok r) is e in
    (op_keeps t n (op.Drop (phaser p)) v r op_is).0

pub leaves_keep : (t n p : ℕ) (s r : UnfoldingState) → leave_below t n p s ≡ Ok r → r.starts ≡ s.starts
unfolding leave_below
leaves_keep t n zero s r e = ap (λ (q : UnfoldingState). q.starts) (sym (ok_is s r e))
leaves_keep t n (suc p) s r e =
    let b = bind_ok (leave_below t n p s) (leave t n p) r e in
    leave_keeps t n p b.0 r (b.0.members t p) refl b.2 ∙ leaves_keep t n p s b.0 b.1

passed : (b : Bool) (kind n : ℕ) (x : Unit {0}) → fault_unless b kind n ≡ Ok x → b ≡ true
passed true kind n x e = refl
passed false kind n x e = absurd (cc)

-- a child that is not forked
child_free : (o : Option Start) (n : ℕ) (x : Unit {0}) → fault_unless (not (is_some o)) already_forked n ≡ Ok x → o ≡ None
child_free None n x e = refl
child_free (Some start) n x e = absurd (cc)

is_child : (t n c : ℕ) (s : UnfoldingState) (x : Unit {0}) → unforked_child t n c s ≡ Ok x →
    (is_parent t (slice_index_or s.plan.parents c None) ≡ true) × (slice_index_or s.starts c None ≡ None)
is_child t n c s x e =
    let b = bind_ok (fault_unless (is_parent t (slice_index_or s.plan.parents c None)) not_drawn_here n) _ x e in
    (passed (is_parent t (slice_index_or s.plan.parents c None)) not_drawn_here n b.0 b.1, child_free (slice_index_or s.starts c None) n x b.2)

child_there : (t c : ℕ) (s : UnfoldingState) → is_parent t (slice_index_or s.plan.parents c None) ≡ true → c < length s.plan.parents
child_there t c s is = elim (cases_lt c (length s.plan.parents)) [
  | inl l ↦ l
  | inr l ↦ absurd (false≢true (ap (is_parent t) (sym (get_or_past s.plan.parents c None l)) ∙ is))
]

-- ---- what visits make

-- from s to r task t makes these visits, and its code gets their ops
pub record Numbers (t : ℕ) (ms : List Visit) (s r : UnfoldingState) : Type 0 where
  pub ops : List Op
  pub adds : Adds t s r ops
  pub even : IsEven r
  pub keeps : KeepsForks s.starts r.starts
  pub by : AreNumbered (length s.plan.makers) r.starts (op_visits ms) ops

by_op : (t n : ℕ) (c : Coming) (o : Op) (s v r : UnfoldingState) → IsEven v → KeepsForks s.starts v.starts →
    AreNumbered (length s.plan.makers) v.starts (op_visits (visit n c ∷ [])) (o ∷ []) →
    v.plan.codes ≡ s.plan.codes → t < length s.plan.codes → add_op t n o v ≡ Ok r → Numbers t (visit n c ∷ []) s r
by_op t n c o s v r even keeps by same here e =
    let k = op_keeps t n o v r e in
    record {
      ops = o ∷ [];
      adds = adds_from t s v r (o ∷ []) same (adds_op t n o v r (subst (λ cs. t < length cs) (sym same) here) e).0;
      even = ap length k.0 ∙ even ∙ ap length (sym k.1);
      keeps = subst (KeepsForks s.starts) (sym k.0) keeps;
      by = subst (λ ss. AreNumbered (length s.plan.makers) ss (op_visits (visit n c ∷ [])) (o ∷ [])) (sym k.0) by;
    }

by_none : (t n : ℕ) (c : Coming) (s r : UnfoldingState) → AreNumbered (length s.plan.makers) r.starts (op_visits (visit n c ∷ [])) [] → Adds t s r [] → IsEven r →
    KeepsForks s.starts r.starts → Numbers t (visit n c ∷ []) s r
by_none t n c s r by a even keeps = record { ops = []; adds = a; even = even; keeps = keeps; by = by }

same_codes : (t : ℕ) (s r : UnfoldingState) → s ≡ r → t < length s.plan.codes → Adds t s r []
same_codes t s r e here = adds_nothing t s r here (ap (λ (q : UnfoldingState). q.plan.codes) (sym e))

by_same : (t n : ℕ) (c : Coming) (s r : UnfoldingState) → AreNumbered (length s.plan.makers) r.starts (op_visits (visit n c ∷ [])) [] → IsEven s → t < length s.plan.codes →
    s ≡ r → Numbers t (visit n c ∷ []) s r
by_same t n c s r by even here is =
    by_none t n c s r by (same_codes t s r is here) (subst IsEven is even) (keeps_same s.starts r.starts (ap (λ (q : UnfoldingState). q.starts) (sym is)))

acts_number : (t n : ℕ) (x : Plain) (s r : UnfoldingState) → IsEven s → t < length s.plan.codes → act t n x s ≡ Ok r → Numbers t (visit n (a_plain x) ∷ []) s r
unfolding act
acts_number t n (new_task x) s r even here e =
    let b = bind_ok (fault_unless (nat_lt (length s.plan.parents) max_tasks) too_many_tasks n) _ r e in
    let c = bind_ok (fault_unless (has_cells (length s.plan.parents + 1) (length s.plan.makers)) too_many_cells n) (λ cells. Ok (with_new_task t x s)) r b.2 in
    let is : with_new_task t x s ≡ r = ok_is _ r c.2 in
    by_none t n (a_plain (new_task x)) s r tt
    (subst (λ q. Adds t s q []) is (record { here = simp length-append (omega arith); more = get_or_append_left s.plan.codes ([] ∷ []) [] t here ∙ sym (append-nil (code s t)) }))
    (subst IsEven is (length-append s.starts (None ∷ []) ∙ ap (λ k. k + 1) even ∙ sym (length-append s.plan.parents (Some (task t) ∷ []))))
    (subst (λ (q : UnfoldingState). KeepsForks s.starts q.starts) is (keeps_more s.starts))
acts_number t n (new_phaser x) s r even here e =
    let b = bind_ok (fault_unless (nat_lt (length s.plan.makers) max_phasers) too_many_phasers n) _ r e in
    let c = bind_ok (fault_unless (has_cells (length s.plan.parents) (length s.plan.makers + 1)) too_many_cells n) _ r b.2 in
    by_op t n (a_plain (new_phaser x)) _ s (with_new_phaser t x s) r even (keeps_same s.starts s.starts refl)
    (law.makes x (phaser (length s.plan.makers)), (λ _. refl), (λ d h. absurd (cc)), tt) refl here c.2
acts_number t n (reg x y) s r even here e =
    let b = bind_ok (as_task n (s.names x)) _ r e in
    let c = bind_ok (as_phaser n (s.names y)) _ r b.2 in
    let d = bind_ok (unforked_child t n b.0 s) _ r c.2 in
    let f = bind_ok (fault_unless (s.members t c.0) not_member n) _ r d.2 in
    let g = bind_ok (fault_unless (not (s.members b.0 c.0)) already_member n) _ r f.2 in
    by_op t n (a_plain (reg x y)) _ s (with_members (with_member b.0 c.0 true s.members) s) r even (keeps_same s.starts s.starts refl)
    (law.registers x y (task b.0) (phaser c.0), (λ h. absurd (false≢true h)), (λ d h. absurd (cc)), tt) refl here g.2
acts_number t n (dereg x) s r even here e =
    let b = bind_ok (member_of t n (s.names x) s) _ r e in
    by_op t n (a_plain (dereg x)) _ s (with_members (with_member t b.0 false s.members) s) r even (keeps_same s.starts s.starts refl)
    (law.leaves x (phaser b.0), (λ h. absurd (false≢true h)), (λ d h. absurd (cc)), tt) refl here b.2
acts_number t n (adv x) s r even here e =
    let b = bind_ok (member_of t n (s.names x) s) _ r e in
    by_op t n (a_plain (adv x)) _ s s r even (keeps_same s.starts s.starts refl)
    (law.advances x (phaser b.0), (λ h. absurd (false≢true h)), (λ d h. absurd (cc)), tt) refl here b.2
acts_number t n (await x off) s r even here e =
    let b = bind_ok (member_of t n (s.names x) s) _ r e in
    by_op t n (a_plain (await x off)) _ s s r even (keeps_same s.starts s.starts refl)
    (law.awaits x off (phaser b.0), (λ h. absurd (false≢true h)), (λ d h. absurd (cc)), tt) refl here b.2
acts_number t n skip s r even here e = by_same t n (a_plain skip) s r tt even here (ok_is s r e)

forks_number : (t n : ℕ) (x : List ℕ) (body : Tree) (s r : UnfoldingState) → IsEven s → t < length s.plan.codes → act_fork t n x body s ≡ Ok r →
    Numbers t (visit n (a_fork x body) ∷ []) s r
unfolding act_fork
forks_number t n x body s r even here e =
    let b = bind_ok (as_task n (s.names x)) _ r e in
    let c = bind_ok (unforked_child t n b.0 s) _ r b.2 in
    let child = is_child t n b.0 s c.0 c.1 in
    let start : Start = record { body = body; first = n + 1; names = s.names } in
    let there : b.0 < length s.starts = omega (arith, even, child_there t b.0 s child.0) in
    let forked : fork_of (slice_index_or (slice_set s.starts b.0 (Some start)) b.0 None) ≡ Some n =
    ap fork_of (get_or-set_same s.starts b.0 (Some start) None there) ∙ ap Some (let z : n + 1 - 1 ≡ n = omega arith in z) in
    by_op t n (a_fork x body) _ s (with_start b.0 start s) r (length-set s.starts b.0 (Some start) ∙ even) (keeps_set s.starts b.0 start child.1)
    (law.forks x body (task b.0), (λ h. absurd (false≢true h)), (λ d h. fork_is b.0 (slice_set s.starts b.0 (Some start)) n d h forked), tt) refl here c.2
  where
    fork_is : (k : ℕ) (ss : List (Option Start)) (n : ℕ) (d : TaskId) → op.Fork (task k) ≡ op.Fork d → fork_of (slice_index_or ss k None) ≡ Some n →
        fork_of (slice_index_or ss d.0 None) ≡ Some n
    fork_is k ss n d h forked =
        let same : task k ≡ d = cc in subst (λ (q : TaskId). fork_of (slice_index_or ss q.0 None) ≡ Some n) same forked

comes_number : (t n : ℕ) (c : Coming) (s r : UnfoldingState) → IsEven s → t < length s.plan.codes → come_to t n c s ≡ Ok r → Numbers t (visit n c ∷ []) s r
comes_number t n (a_plain x) s r even here e = acts_number t n x s r even here e
comes_number t n (a_fork x body) s r even here e = forks_number t n x body s r even here e
comes_number t n a_loop s r even here e = by_same t n a_loop s r tt even here (ok_is s r e)
comes_number t n a_turn s r even here e = by_same t n a_turn s r tt even here (ok_is s r e)

-- a visit is counted, and then made
counted : (t : ℕ) (m : Visit) (s r : UnfoldingState) → make_visit t m s ≡ Ok r →
    (v : UnfoldingState) × (v.plan ≡ s.plan) × (v.starts ≡ s.starts) × (come_to t m.statement m.coming v ≡ Ok r)
unfolding count_visit
counted t m s r e =
    let b = bind_ok (count_visit m.statement s) (come_to t m.statement m.coming) r e in
    let c = bind_ok (fault_unless (nat_lt s.visits max_visits) too_many_visits m.statement) (λ room. Ok (record s { visits = s.visits + 1 })) b.0 b.1 in
    let is : record s { visits = s.visits + 1 } ≡ b.0 = ok_is _ b.0 c.2 in
    (b.0, ap (λ (q : UnfoldingState). q.plan) (sym is), ap (λ (q : UnfoldingState). q.starts) (sym is), b.2)

visit_numbers : (t : ℕ) (m : Visit) (s r : UnfoldingState) → IsEven s → t < length s.plan.codes → make_visit t m s ≡ Ok r → Numbers t (m ∷ []) s r
visit_numbers t m s r even here e =
    let c = counted t m s r e in
    let codes : c.0.plan.codes ≡ s.plan.codes = ap (λ (p : Plan). p.codes) c.1 in
    let makers : length c.0.plan.makers ≡ length s.plan.makers = ap (λ (p : Plan). length p.makers) c.1 in
    let a = comes_number t m.statement m.coming c.0 r (ap length c.2 ∙ even ∙ ap (λ (p : Plan). length p.parents) (sym c.1)) (subst (λ cs. t < length cs) (sym codes) here) c.3 in
    record {
      ops = a.ops;
      adds = adds_from t s c.0 r a.ops codes a.adds;
      even = a.even;
      keeps = subst (λ ss. KeepsForks ss r.starts) c.2 a.keeps;
      by = subst (λ n. AreNumbered n r.starts (op_visits (m ∷ [])) a.ops) makers a.by;
    }

op_visits_more : (m : Visit) (ms : List Visit) → op_visits (m ∷ ms) ≡ op_visits (m ∷ []) ++ op_visits ms
op_visits_more m ms = filter-append (λ (v : Visit). comes_to_op v.coming) (m ∷ []) ms

-- a visit that makes a phaser makes an op
coming_where : (n : ℕ) (c : Coming) → statements_where of_new_phaser (op_visits (visit n c ∷ [])) ≡ statements_where of_new_phaser (visit n c ∷ [])
coming_where n (a_plain (new_task x)) = refl
coming_where n (a_plain (new_phaser x)) = refl
coming_where n (a_plain (reg x y)) = refl
coming_where n (a_plain (dereg x)) = refl
coming_where n (a_plain (adv x)) = refl
coming_where n (a_plain (await x off)) = refl
coming_where n (a_plain skip) = refl
coming_where n (a_fork x body) = refl
coming_where n a_loop = refl
coming_where n a_turn = refl

pub where_ops : (ms : List Visit) → statements_where of_new_phaser (op_visits ms) ≡ statements_where of_new_phaser ms
where_ops [] = refl
where_ops (m ∷ ms) =
    ap (statements_where of_new_phaser) (op_visits_more m ms) ∙ where_append of_new_phaser (op_visits (m ∷ [])) (op_visits ms)
    ∙ ap (λ xs. xs ++ statements_where of_new_phaser (op_visits ms)) (coming_where m.statement m.coming)
    ∙ ap (λ ys. statements_where of_new_phaser (m ∷ []) ++ ys) (where_ops ms) ∙ sym (where_append of_new_phaser (m ∷ []) ms)

-- how many phasers there are behind the visits of a task
pub makers_grow : (t : ℕ) (ms : List Visit) (s r : UnfoldingState) → make_visits t ms s ≡ Ok r → length r.plan.makers ≡ length s.plan.makers + phasers_of ms
makers_grow t ms s r e =
    ap length (visits_grow t ms s r e).makers ∙ length-append s.plan.makers (map task (makers_in t ms))
    ∙ ap (λ n. length s.plan.makers + n) (length-map (makers_in t ms) task ∙ length-map (statements_where of_new_phaser ms) (λ (n : ℕ). t))

one_visit : (t : ℕ) (m : Visit) (s r : UnfoldingState) → make_visit t m s ≡ Ok r → make_visits t (m ∷ []) s ≡ Ok r
unfolding make_visits
one_visit t m s r e = rw e refl

pub visits_number : (t : ℕ) (ms : List Visit) (s r : UnfoldingState) → IsEven s → t < length s.plan.codes → make_visits t ms s ≡ Ok r → Numbers t ms s r
visits_number t [] s r even here e =
    let is = no_visit t s r e in
    record {
      ops = [];
      adds = same_codes t s r is here;
      even = subst IsEven is even;
      keeps = keeps_same s.starts r.starts (ap (λ (q : UnfoldingState). q.starts) (sym is));
      by = tt;
    }
visits_number t (m ∷ ms) s r even here e =
    let b = first_visit t m ms s r e in
    let a = visit_numbers t m s b.0 even here b.1 in
    let others = visits_number t ms b.0 r a.even a.adds.here b.2 in
    let grown : length b.0.plan.makers ≡ length s.plan.makers + phasers_of (op_visits (m ∷ [])) =
    makers_grow t (m ∷ []) s b.0 (one_visit t m s b.0 b.1) ∙ ap (λ xs. length s.plan.makers + length xs) (sym (coming_where m.statement m.coming)) in
    record {
      ops = a.ops ++ others.ops;
      adds = adds_more t s b.0 r a.ops others.ops a.adds others.adds;
      even = others.even;
      keeps = λ c n h. others.keeps c n (a.keeps c n h);
      by = subst (λ vs. AreNumbered (length s.plan.makers) r.starts vs (a.ops ++ others.ops)) (sym (op_visits_more m ms))
          (numbered_more (length s.plan.makers) r.starts (op_visits (m ∷ [])) (op_visits ms) a.ops others.ops
          (numbered_later (length s.plan.makers) b.0.starts r.starts (op_visits (m ∷ [])) a.ops others.keeps a.by)
          (subst (λ n. AreNumbered n r.starts (op_visits ms) others.ops) grown others.by));
    }
