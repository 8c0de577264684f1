-- The stage of an unfolding that forks a task, by the start that it has at the end.
use Rattle.std.proofs.Common.{◌≡◌, ℕ, ◌+◌, ◌-◌, ◌<◌, Bool, true, false, if◌then◌else◌, not, Option, Some, None, List, [], ◌∷◌, ◌++◌, length, arith, sym, ◌∙◌, ap, subst, refl, inl, inr}
use Rattle.std.specs.Prelude.{is_some, slice_index_or, slice_set}
use Rattle.std.proofs.lemmas.Bool.{cases_eq, cases_lt, eq-eqb, false≢true, ne_eqb}
use Rattle.std.proofs.lemmas.List.{get_or-set_other, get_or-set_same, get_or_past, length-append, length-set}
use Rattle.armus_base.specs.Numbers.{phaser, task}
use Rattle.armus_base.specs.declared.op.Op.TheVariants as op
use Rattle.pl_syntax.specs.Tree.{Tree, adv, await, dereg, new_phaser, new_task, reg, skip}
use Rattle.pl_plan.specs.Stages.{Stage, StagePasses, StagesLead, after_stage, begins, comes, leaves, with_code, with_start_names}
use Rattle.pl_plan.specs.Tests.{Passes, drew, first_thing, is_forked, task_number}
use Rattle.pl_plan.specs.Unfolding.{Coming, Start, UnfoldingState, Visit, a_fork, a_loop, a_plain, a_turn, is_parent, visit, with_member, with_members}
use Rattle.pl_plan.proofs.Places.{at_more}
use Rattle.explain_check.specs.Deeds.{did_fork, last_that, or_else}

-- the start of task c
abbrev pub start_in : UnfoldingState → ℕ → Option Start
start_in s c = slice_index_or s.starts c None

-- Where a task has this start before and that one behind, and this is the last stage between that forked it: none did, and the start is the same; or one did, which gave
-- the start to a task that had none.
pub data Forks (before behind : Option Start) (last : Option Stage) : Type 0 where
  forks_not : behind ≡ before → last ≡ None → Forks before behind last
  forks_once : (t : ℕ) (m : Visit) (start : Start) → before ≡ None → behind ≡ Some start → last ≡ Some (comes t m) → m.statement ≡ start.first - 1 → Forks before behind last

forks_more : (a b c : Option Start) (first rest : Option Stage) → Forks a b first → Forks b c rest → Forks a c (or_else first rest)
forks_more a b c first rest (forks_not same none) (forks_not same' none') = forks_not (same' ∙ same) (ap (or_else first) none' ∙ none)
forks_more a b c first rest (forks_not same none) (forks_once t m start free is last at) = forks_once t m start (sym same ∙ free) is (ap (or_else first) last) at
forks_more a b c first rest (forks_once t m start free is last at) (forks_not same none) = forks_once t m start free (same ∙ is) (ap (or_else first) none ∙ last) at
forks_more a b c first rest (forks_once t m start free is last at) (forks_once t' m' start' free' is' last' at') =
    absurd (let both : Some start ≡ None = sym is ∙ free' in cc)

-- each task has a start or none
abbrev pub IsEven : UnfoldingState → Type 0
IsEven s = length s.starts ≡ length s.plan.parents

pub not_false : (b : Bool) → not b ≡ false → b ≡ true
not_false true e = refl
not_false false e = absurd (false≢true (sym e))

none_of : (o : Option Start) → is_some o ≡ false → o ≡ None
none_of None e = refl
none_of (Some start) e = absurd (false≢true (sym e))

module _ (c : ℕ) where
  abbrev Step : UnfoldingState → Stage → Type 0
  Step s v = Forks (start_in s c) (start_in (after_stage v s) c) (if did_fork c s v then Some v else None)

  begins_step : (t : ℕ) (s : UnfoldingState) → Step s (begins t)
  begins_step t s = by (slice_index_or s.starts t None)
    where
      by : (o : Option Start) → Forks (start_in s c) (start_in (with_start_names o s) c) None
      by None = forks_not refl refl
      by (Some start) = forks_not refl refl

  leaves_step : (t p : ℕ) (s : UnfoldingState) → Step s (leaves t p)
  leaves_step t p s = by (s.members t p)
    where
      gone : UnfoldingState
      gone = with_code t (op.Drop (phaser p)) (with_members (with_member t p false s.members) s)

      by : (b : Bool) → Forks (start_in s c) (start_in (if b then gone else s) c) None
      by true = forks_not refl refl
      by false = forks_not refl refl

  fork_step : (t n : ℕ) (x : List ℕ) (body : Tree) (s : UnfoldingState) → IsEven s → Passes s t (a_fork x body) → Step s (comes t (visit n (a_fork x body)))
  fork_step t n x body s even passes =
      let d = task_number (first_thing s (a_fork x body)) in
      let start : Start = record { body = body; first = n + 1; names = s.names } in
      let mine : drew s t d ≡ true = not_false (drew s t d) (passes _ (5, omega arith, refl)) in
      let free : is_forked s d ≡ false = passes _ (6, omega arith, refl) in
      let there : d < length s.starts = omega (arith, even, inside d mine) in
      elim (cases_eq c d) [
        | inl same ↦
            let did : did_fork c s (comes t (visit n (a_fork x body))) ≡ true = eq-eqb d c (sym same) in
            subst (Forks (start_in s c) (slice_index_or (slice_set s.starts d (Some start)) c None)) (sym (ap (λ (b : Bool). if b then Some (comes t (visit n (a_fork x body))) else None) did))
            (forks_once t (visit n (a_fork x body)) start (ap (λ k. slice_index_or s.starts k None) same ∙ none_of (slice_index_or s.starts d None) free)
            (ap (λ k. slice_index_or (slice_set s.starts d (Some start)) k None) same ∙ get_or-set_same s.starts d (Some start) None there) refl
            (let z : n ≡ n + 1 - 1 = omega arith in z))
        | inr other ↦
            let did : did_fork c s (comes t (visit n (a_fork x body))) ≡ false = ne_eqb d c (λ e. other (sym e)) in
            subst (Forks (start_in s c) (slice_index_or (slice_set s.starts d (Some start)) c None)) (sym (ap (λ (b : Bool). if b then Some (comes t (visit n (a_fork x body))) else None) did))
            (forks_not (get_or-set_other s.starts d c (Some start) None (λ same. absurd (other same))) refl)
      ]
    where
      inside : (d : ℕ) → drew s t d ≡ true → d < length s.plan.parents
      inside d is = elim (cases_lt d (length s.plan.parents)) [
        | inl l ↦ l
        | inr l ↦ absurd (false≢true (ap (is_parent t) (sym (get_or_past s.plan.parents d None l)) ∙ is))
      ]

  comes_step : (t n : ℕ) (m : Coming) (s : UnfoldingState) → IsEven s → Passes s t m → Step s (comes t (visit n m))
  comes_step t n (a_plain (new_task x)) s even passes = forks_not (at_more s.starts None c) refl
  comes_step t n (a_plain (new_phaser x)) s even passes = forks_not refl refl
  comes_step t n (a_plain (reg x y)) s even passes = forks_not refl refl
  comes_step t n (a_plain (dereg x)) s even passes = forks_not refl refl
  comes_step t n (a_plain (adv x)) s even passes = forks_not refl refl
  comes_step t n (a_plain (await x off)) s even passes = forks_not refl refl
  comes_step t n (a_plain skip) s even passes = forks_not refl refl
  comes_step t n (a_fork x body) s even passes = fork_step t n x body s even passes
  comes_step t n a_loop s even passes = forks_not refl refl
  comes_step t n a_turn s even passes = forks_not refl refl

  stage_step : (v : Stage) (s : UnfoldingState) → IsEven s → StagePasses v s → Step s v
  stage_step (begins t) s even passes = begins_step t s
  stage_step (leaves t p) s even passes = leaves_step t p s
  stage_step (comes t m) s even passes = comes_step t m.statement m.coming s even passes

-- ---- all stages

comes_even : (t n : ℕ) (m : Coming) (s : UnfoldingState) → IsEven s → IsEven (after_stage (comes t (visit n m)) s)
comes_even t n (a_plain (new_task x)) s even = omega (arith, even, length-append s.starts (None ∷ []), length-append s.plan.parents (Some (task t) ∷ []))
comes_even t n (a_plain (new_phaser x)) s even = even
comes_even t n (a_plain (reg x y)) s even = even
comes_even t n (a_plain (dereg x)) s even = even
comes_even t n (a_plain (adv x)) s even = even
comes_even t n (a_plain (await x off)) s even = even
comes_even t n (a_plain skip) s even = even
comes_even t n (a_fork x body) s even = length-set s.starts (task_number (first_thing s (a_fork x body))) (Some (record { body = body; first = n + 1; names = s.names })) ∙ even
comes_even t n a_loop s even = even
comes_even t n a_turn s even = even

pub stage_even : (v : Stage) (s : UnfoldingState) → IsEven s → IsEven (after_stage v s)
stage_even (begins t) s even = by (slice_index_or s.starts t None)
  where
    by : (o : Option Start) → IsEven (with_start_names o s)
    by None = even
    by (Some start) = even
stage_even (leaves t p) s even = by (s.members t p)
  where
    gone : UnfoldingState
    gone = with_code t (op.Drop (phaser p)) (with_members (with_member t p false s.members) s)

    by : (b : Bool) → IsEven (if b then gone else s)
    by true = even
    by false = even
stage_even (comes t m) s even = comes_even t m.statement m.coming s even

-- what is even at the end
pub stages_even : (two : Bool) (before vs : List Stage) (s e : UnfoldingState) → StagesLead two before vs s e → IsEven s → IsEven e
stages_even two before [] s e leads even = subst IsEven leads even
stages_even two before (v ∷ vs) s e leads even = stages_even two (before ++ v ∷ []) vs (after_stage v s) e leads.2 (stage_even v s even)

pub stages_fork : (two : Bool) (c : ℕ) (before vs : List Stage) (s e : UnfoldingState) → StagesLead two before vs s e → IsEven s →
    Forks (start_in s c) (start_in e c) (last_that (did_fork c) s vs)
stages_fork two c before [] s e leads even = forks_not (ap (λ (z : UnfoldingState). start_in z c) (sym leads)) refl
stages_fork two c before (v ∷ vs) s e leads even =
    forks_more (start_in s c) (start_in (after_stage v s) c) (start_in e c) (if did_fork c s v then Some v else None) (last_that (did_fork c) (after_stage v s) vs)
    (stage_step c v s even leads.1) (stages_fork two c (before ++ v ∷ []) vs (after_stage v s) e leads.2 (stage_even v s even))
