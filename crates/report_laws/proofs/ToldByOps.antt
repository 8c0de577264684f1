-- What is told of a phaser, and of where a task is forked, is the statement from which the op comes that does it.
use Rattle.std.proofs.Common.{◌≡◌, ℕ, zero, suc, ◌+◌, ◌-◌, ◌<◌, ◌≤◌, Bool, true, false, Option, Some, None, Ok, List, [], ◌∷◌, ◌++◌, length, map, take, get_or, refl, sym, ap, subst, ◌∙◌, arith, inl, inr, append-nil, length-append}
use Rattle.std.specs.Prelude.{cond, filter, slice_index_or}
use Rattle.std.specs.List.{flat_map, slice_get}
use Rattle.std.proofs.lemmas.Bool.{cases_eq, cases_lt}
use Rattle.std.proofs.lemmas.List.{get_or_past, length-map}
use Rattle.armus_base.specs.Limits.{max_phasers, max_tasks}
use Rattle.armus_base.specs.Numbers.{phaser}
use Rattle.armus_base.specs.Plans.{Plan}
use Rattle.armus_base.specs.declared.ids.PhaserId.{PhaserId}
use Rattle.armus_base.specs.declared.ids.TaskId.{TaskId}
use Rattle.armus_base.specs.declared.op.Op.{Op}
use Rattle.armus_base.specs.declared.op.Op.TheVariants as op
use Rattle.pl_syntax.specs.declared.tree.Program.{Program}
use Rattle.pl_syntax.specs.Tree.{Tree}
use Rattle.pl_plan.specs.calls.Folding.{drops_of}
use Rattle.pl_plan.specs.Forks.{fork_of, starts_of}
use Rattle.pl_plan.specs.Tests.{of_new_phaser}
use Rattle.pl_plan.specs.Unfolding.{◌>>=◌, Coming, Start, UnfoldingState, Visit, ended, leave_below, make_visits, opening_state, plan_of, unfold_task, unfold_tasks, visits_of, with_names, with_pieces}
use Rattle.pl_plan.proofs.ForksKept.{starts_found}
use Rattle.pl_plan.proofs.TasksLeave.{IsOfParts, Kept, Steps, inside, leaves_below, of_body, opening_kept, start_at, steps_more, steps_same, tasks_until, visits_steps}
use Rattle.pl_plan.proofs.VisitsLeave.{bind_ok, code, ok_is}
use Rattle.source_map.specs.Origins.{comes_to_op, start_of, statements_where, visits_by}
use Rattle.source_map.specs.calls.OriginLaws.{MakesOp, op_visits, tasks_from}
use Rattle.source_map.specs.calls.OriginLaws as law
use Rattle.source_map.proofs.CodesOfVisits.{get_cases, get_first}
use Rattle.source_map.proofs.Growing.{below_is, below_same, ended_grows, tasks_below}
use Rattle.source_map.proofs.MadeByVisits.{get_behind}
use Rattle.source_map.proofs.Statements.{where_not}
use Rattle.report_laws.specs.OpOrigins.{ForksAreToldByTheirOps, PhasersAreToldByTheirOps}
use Rattle.report_laws.proofs.OpsByVisits.{AreNumbered, IsEven, KeepsForks, leaves_keep, numbered_later, phasers_of, visits_number, where_ops}

-- ---- a task

-- the code of a task: with these starts, the ops of its visits, each phaser with the next number from m on, and behind them the Drops of its end
record IsNumberedCode (m : ℕ) (ss : List (Option Start)) (start : Start) (ops : List Op) : Type 0 where
  made : List Op
  left : List ℕ
  by : AreNumbered m ss (op_visits (visits_of start.first start.body)) made
  code_is : ops ≡ made ++ drops_of left

-- the same by the task's start; one that is not forked has no op
abbrev IsNumberedByStart : ℕ → List (Option Start) → Option Start → List Op → Type 0
IsNumberedByStart m ss None ops = ops ≡ []
IsNumberedByStart m ss (Some start) ops = IsNumberedCode m ss start ops

code_later : (m : ℕ) (ss rs : List (Option Start)) (o : Option Start) (ops : List Op) → KeepsForks ss rs → IsNumberedByStart m ss o ops → IsNumberedByStart m rs o ops
code_later m ss rs None ops k h = h
code_later m ss rs (Some start) ops k h = record {
  made = h.made;
  left = h.left;
  by = numbered_later m ss rs (op_visits (visits_of start.first start.body)) h.made k h.by;
  code_is = h.code_is;
}

abbrev Holds : Tree → Type 0
Holds body = Unit {0}

holds_of_parts : IsOfParts Holds
holds_of_parts = record { of_plain = λ x rest h. tt; of_fork = λ x body rest h. (tt, tt); of_loop = λ k body rest h. (tt, tt) }

record EndedBy (t : ℕ) (start : Start) (s r : UnfoldingState) : Type 0 where
  steps : Steps Holds holds_of_parts t s r
  keeps : KeepsForks s.starts r.starts
  has : IsNumberedCode (length s.plan.makers) r.starts start (code r t)

ends : (two : Bool) (t n : ℕ) (start : Start) (s v r : UnfoldingState) → v.plan ≡ s.plan → v.starts ≡ s.starts → code s t ≡ [] →
    Kept Holds holds_of_parts s → t < length s.plan.codes → ended two t n (make_visits t (visits_of start.first start.body) v) ≡ Ok r → EndedBy t start s r
ends two t n start s v r plan starts empty k here e = by two refl
  where
    first : Steps Holds holds_of_parts t s v
    first = steps_same Holds holds_of_parts t s v (ap (λ p. p.parents) plan) (ap (λ p. p.codes) plan) starts here k

    empty_too : code v t ≡ []
    empty_too = ap (λ p. get_or p.codes t []) plan ∙ empty

    ms : List Visit
    ms = visits_of start.first start.body

    makers : length v.plan.makers ≡ length s.plan.makers
    makers = ap (λ (p : Plan). length p.makers) plan

    even : IsEven v
    even = ap length starts ∙ k.starts ∙ ap (λ (p : Plan). length p.parents) (sym plan)

    by : (b : Bool) → two ≡ b → EndedBy t start s r
    by false is =
        let made : make_visits t (visits_of start.first start.body) v ≡ Ok r =
        subst (λ b. ended b t n (make_visits t (visits_of start.first start.body) v) ≡ Ok r) is e in
        let l = visits_number t (visits_of start.first start.body) v r even first.here made in
        record {
          steps = steps_more Holds holds_of_parts t s v r first
              (visits_steps Holds holds_of_parts t (visits_of start.first start.body) v r (of_body Holds holds_of_parts start.first start.body tt) first.kept first.here made);
          keeps = subst (λ ss. KeepsForks ss r.starts) starts l.keeps;
          has = record {
            made = l.ops;
            left = [];
            by = subst (λ m. AreNumbered m r.starts (op_visits (visits_of start.first start.body)) l.ops) makers l.by;
            code_is = l.adds.more ∙ ap (λ xs. xs ++ l.ops) empty_too ∙ sym (append-nil l.ops);
          };
        }
    by true is =
        let whole : (make_visits t (visits_of start.first start.body) v >>= leave_below t n max_phasers) ≡ Ok r =
        subst (λ b. ended b t n (make_visits t (visits_of start.first start.body) v) ≡ Ok r) is e in
        let b = bind_ok (make_visits t (visits_of start.first start.body) v) (leave_below t n max_phasers) r whole in
        let l = visits_number t (visits_of start.first start.body) v b.0 even first.here b.1 in
        let a = visits_steps Holds holds_of_parts t (visits_of start.first start.body) v b.0 (of_body Holds holds_of_parts start.first start.body tt) first.kept first.here b.1 in
        let d = leaves_below Holds holds_of_parts t n max_phasers b.0 r a.kept a.here b.2 in
        let same : r.starts ≡ b.0.starts = leaves_keep t n max_phasers b.0 r b.2 in
        record {
          steps = steps_more Holds holds_of_parts t s v r first (steps_more Holds holds_of_parts t v b.0 r a d.steps);
          keeps = subst (λ ss. KeepsForks ss r.starts) starts (subst (KeepsForks v.starts) (sym same) l.keeps);
          has = record {
            made = l.ops;
            left = d.phasers;
            by = subst (λ m. AreNumbered m r.starts (op_visits (visits_of start.first start.body)) l.ops) makers
                (subst (λ ss. AreNumbered (length v.plan.makers) ss (op_visits (visits_of start.first start.body)) l.ops) (sym same) l.by);
            code_is = d.adds.more ∙ ap (λ xs. xs ++ drops_of d.phasers) (l.adds.more ∙ ap (λ xs. xs ++ l.ops) empty_too);
          };
        }

-- ---- all tasks

-- how many phasers the tasks below t make
abbrev before : List (Option Start) → ℕ → ℕ
before starts t = length (tasks_below of_new_phaser starts t)

-- the tasks below t are unfolded
record UntilTask (t : ℕ) (s : UnfoldingState) : Type 0 where
  kept : Kept Holds holds_of_parts s
  numbered : (u : ℕ) → u < t → IsNumberedByStart (before s.starts u) s.starts (start_at s u) (code s u)
  later : (u : ℕ) → t ≤ u → code s u ≡ []
  makers : length s.plan.makers ≡ before s.starts t

before_same : (t u : ℕ) (s r : UnfoldingState) → u ≤ t → ((w : ℕ) → w ≤ t → start_at r w ≡ start_at s w) → before s.starts u ≡ before r.starts u
before_same t u s r le same = ap length (below_same of_new_phaser s.starts r.starts u (λ w l. sym (same w (omega (arith, l, le)))))

before_next : (t : ℕ) (s : UnfoldingState) → before s.starts t + phasers_of (visits_by (start_at s t)) ≡ before s.starts (t + 1)
before_next t s =
    ap (λ n. before s.starts t + n) (sym (length-map (statements_where of_new_phaser (visits_by (start_at s t))) (λ (n : ℕ). t)))
    ∙ sym (length-append (tasks_below of_new_phaser s.starts t) (map (λ (n : ℕ). t) (statements_where of_new_phaser (visits_by (start_at s t)))))
    ∙ ap (before s.starts) (let z : suc t ≡ t + 1 = omega arith in z)

until_next : (t : ℕ) (s r : UnfoldingState) → UntilTask t s → Steps Holds holds_of_parts t s r → KeepsForks s.starts r.starts →
    length r.plan.makers ≡ length s.plan.makers + phasers_of (visits_by (start_at r t)) →
    IsNumberedByStart (length s.plan.makers) r.starts (start_at r t) (code r t) → UntilTask (t + 1) r
until_next t s r h a keeps grown own =
    let same : before s.starts t ≡ before r.starts t = before_same t t s r (omega arith) a.starts in
    record {
      kept = a.kept;
      numbered = λ u l. elim (cases_eq u t) [
        | inl is ↦
            subst (λ n. IsNumberedByStart (before r.starts n) r.starts (start_at r n) (code r n)) (sym is)
            (subst (λ m. IsNumberedByStart m r.starts (start_at r t) (code r t)) (h.makers ∙ same) own)
        | inr other ↦
            code_later (before r.starts u) s.starts r.starts (start_at r u) (code r u) keeps
            (subst (λ m. IsNumberedByStart m s.starts (start_at r u) (code r u)) (before_same t u s r (omega (arith, l)) a.starts)
            (subst (λ o. IsNumberedByStart (before s.starts u) s.starts o (code r u)) (sym (a.starts u (omega (arith, l))))
            (subst (λ os. IsNumberedByStart (before s.starts u) s.starts (start_at s u) os) (sym (a.others u other)) (h.numbered u (omega (arith, l, other))))))
      ];
      later = λ u l. a.others u (λ is. absurd (omega (arith, is, l))) ∙ h.later u (omega (arith, l));
      makers = grown ∙ ap (λ n. n + phasers_of (visits_by (start_at r t))) (h.makers ∙ same) ∙ before_next t r;
    }

none_next : (t : ℕ) (s : UnfoldingState) → UntilTask t s → start_at s t ≡ None → UntilTask (t + 1) s
none_next t s h none = record {
  kept = h.kept;
  numbered = λ u l. elim (cases_lt u t) [
    | inl below ↦ h.numbered u below
    | inr other ↦
        let is : u ≡ t = omega (arith, l, other) in
        subst (λ n. IsNumberedByStart (before s.starts n) s.starts (start_at s n) (code s n)) (sym is)
        (subst (λ o. IsNumberedByStart (before s.starts t) s.starts o (code s t)) (sym none) (h.later t (omega arith)))
  ];
  later = λ u l. h.later u (omega (arith, l));
  makers = h.makers ∙ (let z : before s.starts t ≡ before s.starts t + 0 = omega arith in z)
      ∙ ap (λ (o : Option Start). before s.starts t + phasers_of (visits_by o)) (sym none) ∙ before_next t s;
}

some_next : (two : Bool) (t : ℕ) (start : Start) (s r : UnfoldingState) → UntilTask t s → start_at s t ≡ Some start → unfold_task two t (Some start) s ≡ Ok r →
    UntilTask (t + 1) r
some_next two t start s r h is e =
    let a = ends two t (start.first - 1) start s (with_names start.names s) r refl refl (h.later t (omega arith)) h.kept
    (inside Holds holds_of_parts t start s h.kept is) e in
    let there : Some start ≡ start_at r t = sym (a.steps.starts t (omega arith) ∙ is) in
    let g = ended_grows two t (start.first - 1) (visits_of start.first start.body) s (with_names start.names s) r refl e in
    let grown : length r.plan.makers ≡ length s.plan.makers + phasers_of (visits_of start.first start.body) =
    ap length g.makers ∙ simp (length-append, length-map) refl in
    until_next t s r h a.steps a.keeps (subst (λ (o : Option Start). length r.plan.makers ≡ length s.plan.makers + phasers_of (visits_by o)) there grown)
    (subst (λ o. IsNumberedByStart (length s.plan.makers) r.starts o (code r t)) there a.has)

opening_until : (body : Tree) → UntilTask 0 (opening_state body)
opening_until body = record { kept = opening_kept Holds holds_of_parts body tt; numbered = λ u l. absurd (omega (arith, l)); later = none; makers = refl }
  where
    none : (u : ℕ) → 0 ≤ u → code (opening_state body) u ≡ []
    none zero l = refl
    none (suc u) l = refl

end_codes : (end : UnfoldingState) → UntilTask max_tasks end → (t : ℕ) → IsNumberedByStart (before end.starts t) end.starts (start_at end t) (code end t)
end_codes end h t = elim (cases_lt t max_tasks) [
  | inl l ↦ h.numbered t l
  | inr l ↦
      let none : start_at end t ≡ None = get_or_past end.starts t None (omega (arith, l, h.kept.starts, h.kept.few_tasks)) in
      subst (λ o. IsNumberedByStart (before end.starts t) end.starts o (code end t)) (sym none) (h.later t l)
]

codes_are_numbered : (program : Program) (plan : Plan) → plan_of program ≡ Ok plan → (t : ℕ) →
    IsNumberedByStart (before (starts_of program) t) (starts_of program) (start_of program t) (slice_index_or plan.codes t [])
unfolding plan_of
codes_are_numbered program plan e t =
    let b = bind_ok (unfold_tasks program.two max_tasks 0 (opening_state program.body)) (λ s. Ok (with_pieces s)) plan e in
    let until = tasks_until program.two UntilTask none_next (some_next program.two) max_tasks 0 (opening_state program.body) b.0 (opening_until program.body) b.1 in
    let codes : b.0.plan.codes ≡ plan.codes = ap (λ (p : Plan). p.codes) (ok_is (with_pieces b.0) plan b.2) in
    subst (λ ss. IsNumberedByStart (before ss t) ss (slice_index_or ss t None) (slice_index_or plan.codes t [])) (sym (starts_found program b.0 b.1))
    (subst (λ cs. IsNumberedByStart (before b.0.starts t) b.0.starts (start_at b.0 t) (get_or cs t [])) codes (end_codes b.0 until t))

-- ---- an op that makes a phaser

makes_phaser : (c : Coming) (o : Op) (p : PhaserId) → MakesOp c o → o ≡ op.Make p → of_new_phaser c ≡ true
makes_phaser c o p (law.makes x q) e = refl
makes_phaser c o p (law.registers x y d q) e = absurd (cc)
makes_phaser c o p (law.leaves x q) e = absurd (cc)
makes_phaser c o p (law.advances x q) e = absurd (cc)
makes_phaser c o p (law.awaits x off q) e = absurd (cc)
makes_phaser c o p (law.forks x body d) e = absurd (cc)

where_yes : (m : Visit) (ms : List Visit) → of_new_phaser m.coming ≡ true → statements_where of_new_phaser (m ∷ ms) ≡ m.statement ∷ statements_where of_new_phaser ms
where_yes m ms makes =
    ap (λ b. map (λ (v : Visit). v.statement) (cond b (m ∷ filter (λ (v : Visit). of_new_phaser v.coming) ms) (filter (λ (v : Visit). of_new_phaser v.coming) ms))) makes

-- op i of these visits makes phaser p, which is number j of those that they make
record MadeThere (m : ℕ) (vs : List Visit) (i p : ℕ) : Type 0 where
  j : ℕ
  n : ℕ
  is : p ≡ m + j
  by_op : slice_get (map (λ (v : Visit). v.statement) vs) i ≡ Some n
  by_phaser : slice_get (statements_where of_new_phaser vs) j ≡ Some n

behind_first : (m : ℕ) (v : Visit) (vs : List Visit) (i p : ℕ) (b : Bool) → of_new_phaser v.coming ≡ b → MadeThere (m + phasers_of (v ∷ [])) vs i p → MadeThere m (v ∷ vs) (suc i) p
behind_first m v vs i p true b h = record {
  j = suc h.j;
  n = h.n;
  is = h.is ∙ ap (λ (ns : List ℕ). m + length ns + h.j) (where_yes v [] b) ∙ (let z : m + 1 + h.j ≡ m + suc h.j = omega arith in z);
  by_op = h.by_op;
  by_phaser = ap (λ ns. slice_get ns (suc h.j)) (where_yes v vs b) ∙ h.by_phaser;
}
behind_first m v vs i p false b h = record {
  j = h.j;
  n = h.n;
  is = h.is ∙ ap (λ (ns : List ℕ). m + length ns + h.j) (where_not of_new_phaser v [] b) ∙ (let z : m + 0 + h.j ≡ m + h.j = omega arith in z);
  by_op = h.by_op;
  by_phaser = ap (λ ns. slice_get ns h.j) (where_not of_new_phaser v vs b) ∙ h.by_phaser;
}

made_there : (m : ℕ) (ss : List (Option Start)) (vs : List Visit) (os : List Op) (i : ℕ) (p : PhaserId) → AreNumbered m ss vs os →
    slice_get os i ≡ Some (op.Make p) → MadeThere m vs i p.0
made_there m ss [] [] i p h e = absurd (cc)
made_there m ss (v ∷ vs) (o ∷ os) zero p h e =
    let made : o ≡ op.Make p = cc in
    let makes = makes_phaser v.coming o p h.0 made in
    let same : op.Make p ≡ op.Make (phaser m) = sym made ∙ h.1 makes in
    let number : p ≡ phaser m = cc in
    record {
      j = 0;
      n = v.statement;
      is = ap (λ (q : PhaserId). q.0) number ∙ (let z : m ≡ m + 0 = omega arith in z);
      by_op = refl;
      by_phaser = ap (λ ns. slice_get ns 0) (where_yes v vs makes);
    }
made_there m ss (v ∷ vs) (o ∷ os) (suc i) p h e =
    behind_first m v vs i p.0 (of_new_phaser v.coming) refl (made_there (m + phasers_of (v ∷ [])) ss vs os i p h.3 e)
made_there m ss [] (o ∷ os) i p h e = absurd h
made_there m ss (v ∷ vs) [] i p h e = absurd h

-- op i of these visits forks a task, and these starts say that it is forked there
forked_there : (m : ℕ) (ss : List (Option Start)) (vs : List Visit) (os : List Op) (i : ℕ) (c : TaskId) → AreNumbered m ss vs os →
    slice_get os i ≡ Some (op.Fork c) → slice_get (map (λ (v : Visit). v.statement) vs) i ≡ fork_of (slice_index_or ss c.0 None)
forked_there m ss [] [] i c h e = absurd (cc)
forked_there m ss (v ∷ vs) (o ∷ os) zero c h e = let made : o ≡ op.Fork c = cc in sym (h.2 c made)
forked_there m ss (v ∷ vs) (o ∷ os) (suc i) c h e = forked_there (m + phasers_of (v ∷ [])) ss vs os i c h.3 e
forked_there m ss [] (o ∷ os) i c h e = absurd h
forked_there m ss (v ∷ vs) [] i c h e = absurd h

no_fork_left : (left : List ℕ) (j : ℕ) (c : TaskId) → slice_get (drops_of left) j ≡ Some (op.Fork c) → ⊥
no_fork_left [] j c e = cc
no_fork_left (q ∷ left) zero c e = cc
no_fork_left (q ∷ left) (suc j) c e = no_fork_left left j c e

no_make_left : (left : List ℕ) (j : ℕ) (p : PhaserId) → slice_get (drops_of left) j ≡ Some (op.Make p) → ⊥
no_make_left [] j p e = cc
no_make_left (q ∷ left) zero p e = cc
no_make_left (q ∷ left) (suc j) p e = no_make_left left j p e

-- ---- the statements of all tasks

abbrev statements_by : Option Start → List ℕ
statements_by o = statements_where of_new_phaser (visits_by o)

from_many : (t : ℕ) (starts : List (Option Start)) → length (tasks_from of_new_phaser t starts) ≡ length (flat_map statements_by starts)
from_many t [] = refl
from_many t (o ∷ starts) =
    length-append (map (λ (n : ℕ). t) (statements_by o)) (tasks_from of_new_phaser (t + 1) starts)
    ∙ ap (λ n. n + length (tasks_from of_new_phaser (t + 1) starts)) (length-map (statements_by o) (λ (n : ℕ). t))
    ∙ ap (λ n. length (statements_by o) + n) (from_many (t + 1) starts) ∙ sym (length-append (statements_by o) (flat_map statements_by starts))

flat_there : (starts : List (Option Start)) (t j n : ℕ) → slice_get (statements_by (slice_index_or starts t None)) j ≡ Some n →
    slice_get (flat_map statements_by starts) (length (flat_map statements_by (take t starts)) + j) ≡ Some n
flat_there [] t j n e = absurd (cc)
flat_there (o ∷ starts) zero j n e =
    ap (slice_get (statements_by o ++ flat_map statements_by starts)) (let z : 0 + j ≡ j = omega arith in z)
    ∙ get_first (statements_by o) (flat_map statements_by starts) j n e
flat_there (o ∷ starts) (suc t) j n e =
    let some = length (flat_map statements_by (take t starts)) in
    ap (slice_get (statements_by o ++ flat_map statements_by starts))
    (let z : length (statements_by o ++ flat_map statements_by (take t starts)) + j ≡ length (statements_by o) + (some + j) =
    omega (arith, length-append (statements_by o) (flat_map statements_by (take t starts))) in z)
    ∙ get_behind (statements_by o) (flat_map statements_by starts) (some + j) ∙ flat_there starts t j n e

-- ---- the laws

told_there : (starts : List (Option Start)) (t i : ℕ) (o : Option Start) (ops : List Op) (p : PhaserId) → slice_index_or starts t None ≡ o →
    IsNumberedByStart (before starts t) starts o ops → slice_get ops i ≡ Some (op.Make p) →
    slice_get (statements_where comes_to_op (visits_by o)) i ≡ slice_get (flat_map statements_by starts) p.0
told_there starts t i None ops p is h e = absurd (let z : slice_get [] i ≡ Some (op.Make p) = subst (λ os. slice_get os i ≡ Some (op.Make p)) h e in cc)
told_there starts t i (Some start) ops p is h e =
    elim (get_cases h.made (drops_of h.left) i (op.Make p) (subst (λ os. slice_get os i ≡ Some (op.Make p)) h.code_is e))
    as (λ _. slice_get (statements_where comes_to_op (visits_by (Some start))) i ≡ slice_get (flat_map statements_by starts) p.0) [
      | inl there ↦
          let a = made_there (before starts t) starts (op_visits (visits_of start.first start.body)) h.made i p h.by there in
          let own : slice_get (statements_by (slice_index_or starts t None)) a.j ≡ Some a.n =
          ap (λ (x : Option Start). slice_get (statements_by x) a.j) is ∙ ap (λ ns. slice_get ns a.j) (sym (where_ops (visits_of start.first start.body))) ∙ a.by_phaser in
          let at : p.0 ≡ length (flat_map statements_by (take t starts)) + a.j =
          a.is ∙ ap (λ n. n + a.j) (ap length (below_is of_new_phaser starts t) ∙ from_many 0 (take t starts)) in
          a.by_op ∙ sym (ap (slice_get (flat_map statements_by starts)) at ∙ flat_there starts t a.j a.n own)
      | inr w ↦ absurd (no_make_left h.left w.0 p w.2)
    ]

fork_told : (starts : List (Option Start)) (m i : ℕ) (o : Option Start) (ops : List Op) (c : TaskId) → IsNumberedByStart m starts o ops →
    slice_get ops i ≡ Some (op.Fork c) → slice_get (statements_where comes_to_op (visits_by o)) i ≡ fork_of (slice_index_or starts c.0 None)
fork_told starts m i None ops c h e = absurd (let z : slice_get [] i ≡ Some (op.Fork c) = subst (λ os. slice_get os i ≡ Some (op.Fork c)) h e in cc)
fork_told starts m i (Some start) ops c h e =
    elim (get_cases h.made (drops_of h.left) i (op.Fork c) (subst (λ os. slice_get os i ≡ Some (op.Fork c)) h.code_is e))
    as (λ _. slice_get (statements_where comes_to_op (visits_by (Some start))) i ≡ fork_of (slice_index_or starts c.0 None)) [
      | inl there ↦ forked_there m starts (op_visits (visits_of start.first start.body)) h.made i c h.by there
      | inr w ↦ absurd (no_fork_left h.left w.0 c w.2)
    ]

fork_at : (starts : List (Option Start)) (c : ℕ) → slice_index_or (map fork_of starts) c None ≡ fork_of (slice_index_or starts c None)
fork_at [] c = refl
fork_at (o ∷ starts) zero = refl
fork_at (o ∷ starts) (suc c) = fork_at starts c

pub phasers_are_told_by_their_ops : PhasersAreToldByTheirOps
phasers_are_told_by_their_ops program plan e t i p there =
    told_there (starts_of program) t i (start_of program t) (slice_index_or plan.codes t []) p refl (codes_are_numbered program plan e t) there

pub forks_are_told_by_their_ops : ForksAreToldByTheirOps
forks_are_told_by_their_ops program plan e t i c there =
    fork_told (starts_of program) (before (starts_of program) t) i (start_of program t) (slice_index_or plan.codes t []) c (codes_are_numbered program plan e t) there
    ∙ sym (fork_at (starts_of program) c.0)
