-- Each cursor stands at the next op of its task.
use Rattle.std.proofs.Common.{◌≡◌, ◌≢◌, ℕ, zero, suc, ◌<◌, ◌+◌, List, [], ◌∷◌, ◌++◌, Option, Some, None, length, drop, set, get_or, replicate, length-append, arith, sym, ◌∙◌, ap, subst, refl, inl, inr}
use Rattle.std.specs.Prelude.{IfNone, IfSome, slice_get}
use Rattle.std.proofs.lemmas.Bool.{cases_eq}
use Rattle.std.proofs.lemmas.List.{length-set}
use Rattle.std.proofs.lemmas.Option.{get_or_from_slice_get, slice_get_within}
use Rattle.armus_base.specs.declared.op.Op.{Op}
use Rattle.armus_base.specs.declared.op.Op.TheVariants.{Make, Reg, Fork, Adv, Drop, Await}
use Rattle.armus_base.specs.Finals.{list_below}
use Rattle.armus_base.specs.Plans.{Plan, code_of}
use Rattle.armus_base.proofs.Below.{length-list_below, list_below-at}
use Rattle.armus_base.proofs.Lists.{slice_get-set_same, slice_get-set_other}
use Rattle.pl_core.specs.declared.task.TaskRecord.{TaskRecord}
use Rattle.pl_core.specs.inside.Changes.{after_fork, opening_tasks, unbegun}
use Rattle.pl_core.specs.inside.Cursors.{AreAt, KeepsOtherCursors, moved_on, op_from, op_index_of}
use Rattle.pl_core.specs.inside.Walks.{marked_by, with_forked}

-- what is left of a list from place k on
pub first_left : {A : Type 0} (xs : List A) (k : ℕ) → slice_get (drop k xs) 0 ≡ slice_get xs k
first_left [] zero = refl
first_left [] (suc k) = refl
first_left (x ∷ xs) zero = refl
first_left (x ∷ xs) (suc k) = first_left xs k

pub one_less_left : {A : Type 0} (xs : List A) (k : ℕ) → drop 1 (drop k xs) ≡ drop (suc k) xs
one_less_left [] zero = refl
one_less_left [] (suc k) = refl
one_less_left (x ∷ xs) zero = refl
one_less_left (x ∷ xs) (suc k) = one_less_left xs k

-- a cursor that has gone on
pub gone_on : (op : Option Op) (old new : List Op) → IfSome op (λ o. old ≡ o ∷ new) → IfNone op ((old ≡ []) × (new ≡ [])) → new ≡ drop 1 old
gone_on (Some o) old new some none = sym (ap (drop 1) some)
gone_on None old new some none = none.1 ∙ sym (ap (drop 1) none.0)

-- ---- the next ops of the tasks

op_set_other : (tasks : List TaskRecord) (t u : ℕ) (task : TaskRecord) → u ≢ t → op_index_of (set tasks t task) u ≡ op_index_of tasks u
op_set_other tasks t u task n = ap op_from (slice_get-set_other tasks t u task n)

pub op_set_same : (tasks : List TaskRecord) (t : ℕ) (task : TaskRecord) → t < length tasks → op_index_of (set tasks t task) t ≡ task.op
op_set_same tasks t task l = ap op_from (slice_get-set_same tasks t task l)

pub keeps_others : (tasks : List TaskRecord) (t : ℕ) (task : TaskRecord) → KeepsOtherCursors t tasks (set tasks t task)
keeps_others tasks t task u n = op_set_other tasks t u task n

-- a task that stays at its op
pub op_set_kept : (tasks : List TaskRecord) (t : ℕ) (old task : TaskRecord) → slice_get tasks t ≡ Some old → task.op ≡ old.op → (u : ℕ) → op_index_of (set tasks t task) u ≡ op_index_of tasks u
op_set_kept tasks t old task read same u = elim (cases_eq u t) [
  | inl e ↦ subst (λ v. op_index_of (set tasks t task) v ≡ op_index_of tasks v) (sym e) (ap op_from (slice_get-set_same tasks t task within) ∙ same ∙ ap op_from (sym read))
  | inr n ↦ op_set_other tasks t u task n
]
  where
    within : t < length tasks
    within = slice_get_within tasks t old read

-- a fork changes no task's op
pub op_marked : (tasks : List TaskRecord) (op : Op) (u : ℕ) → op_index_of (marked_by tasks op) u ≡ op_index_of tasks u
op_marked tasks (Make p) u = refl
op_marked tasks (Reg c p) u = refl
op_marked tasks (Fork c) u = go (slice_get tasks c.0) refl
  where
    go : (o : Option TaskRecord) → slice_get tasks c.0 ≡ o → op_index_of (with_forked tasks c.0 o) u ≡ op_index_of tasks u
    go None e = refl
    go (Some child) e = op_set_kept tasks c.0 child (after_fork child) e refl u
op_marked tasks (Adv p) u = refl
op_marked tasks (Drop p) u = refl
op_marked tasks (Await p off) u = refl

unbegun_op : (n u : ℕ) → op_index_of (replicate n unbegun) u ≡ 0
unbegun_op zero u = refl
unbegun_op (suc n) zero = refl
unbegun_op (suc n) (suc u) = unbegun_op n u

opening_op : (n u : ℕ) → op_index_of (opening_tasks n) u ≡ 0
opening_op zero u = refl
opening_op (suc n) zero = refl
opening_op (suc n) (suc u) = unbegun_op n u

-- ---- the cursors

-- before any op
pub at_opening :
    (plan : Plan) (n : ℕ) (tasks : List TaskRecord) (cursors : List (List Op)) → tasks ≡ opening_tasks n → cursors ≡ list_below (code_of plan) n → AreAt plan n tasks cursors
at_opening plan n tasks cursors tasks_are cursors_are =
    subst (λ ts. AreAt plan n ts cursors) (sym tasks_are)
    (subst (AreAt plan n (opening_tasks n)) (sym cursors_are) (record {
      one_each = length-list_below (code_of plan) n;
      each = λ t l. list_below-at (code_of plan) n t l ∙ ap (λ k. Some (drop k (code_of plan t))) (sym (opening_op n t));
    }))

-- none yet
pub at_none : (plan : Plan) (tasks : List TaskRecord) (cursors : List (List Op)) → cursors ≡ [] → AreAt plan 0 tasks cursors
at_none plan tasks cursors none = record { one_each = ap length none; each = λ t l. absurd (omega arith) }

module _ (plan : Plan) (n : ℕ) (old new : List TaskRecord) (cursors : List (List Op)) (at : AreAt plan n old cursors) where
  -- where no task comes to another op
  pub at_same : ((u : ℕ) → op_index_of new u ≡ op_index_of old u) → AreAt plan n new cursors
  at_same same = record { one_each = at.one_each; each = λ u l. at.each u l ∙ ap (λ k. Some (drop k (code_of plan u))) (sym (same u)) }

  module _ (t : ℕ) (others : KeepsOtherCursors t old new) where
    -- where task t comes to its next op
    pub at_next : t < n → op_index_of new t ≡ op_index_of old t + 1 → AreAt plan n new (moved_on cursors t)
    at_next l next = record {
      one_each = length-set cursors t (drop 1 (get_or cursors t [])) ∙ at.one_each;
      each = λ u k. elim (cases_eq u t) [
        | inl e ↦ subst (λ v. slice_get (moved_on cursors t) v ≡ Some (drop (op_index_of new v) (code_of plan v))) (sym e) own
        | inr e ↦
            slice_get-set_other cursors t u (drop 1 (get_or cursors t [])) e ∙ at.each u k ∙ ap (λ i. Some (drop i (code_of plan u))) (sym (others u e))
      ];
    }
      where
        within : t < length cursors
        within = (let m = at.one_each in omega arith)

        further : suc (op_index_of old t) ≡ op_index_of new t
        further = omega arith

        own : slice_get (moved_on cursors t) t ≡ Some (drop (op_index_of new t) (code_of plan t))
        own =
            slice_get-set_same cursors t (drop 1 (get_or cursors t [])) within
            ∙ ap (λ ops. Some (drop 1 ops)) (get_or_from_slice_get cursors t (drop (op_index_of old t) (code_of plan t)) [] (at.each t l))
            ∙ ap Some (one_less_left (code_of plan t) (op_index_of old t))
            ∙ ap (λ i. Some (drop i (code_of plan t))) further

module _ (plan : Plan) (tasks : List TaskRecord) (cursors : List (List Op)) (at : AreAt plan (length plan.parents) tasks cursors)
    (one_each : length tasks ≡ length plan.parents) (t : ℕ) (old : TaskRecord) (read : slice_get tasks t ≡ Some old) (new : TaskRecord) where
  -- task t stays at its op
  pub stays : new.op ≡ old.op → AreAt plan (length plan.parents) (set tasks t new) cursors
  stays same = at_same plan (length plan.parents) tasks (set tasks t new) cursors at (op_set_kept tasks t old new read same)

  -- task t comes to its next op
  module _ (next : new.op ≡ old.op + 1) where
    here : t < length plan.parents
    here = (let w = slice_get_within tasks t old read in omega arith)

    pub goes_on : AreAt plan (length plan.parents) (set tasks t new) (moved_on cursors t)
    goes_on =
        at_next plan (length plan.parents) tasks (set tasks t new) cursors at t (keeps_others tasks t new) here
        (op_set_same tasks t new (slice_get_within tasks t old read) ∙ next ∙ ap (λ o. op_from o + 1) (sym read))

    -- and forks task c before
    pub forks_and_goes_on :
        (c : ℕ) (child forked : TaskRecord) → slice_get tasks c ≡ Some child → forked.op ≡ child.op →
        AreAt plan (length plan.parents) (set (set tasks c forked) t new) (moved_on cursors t)
    forks_and_goes_on c child forked there same =
        at_next plan (length plan.parents) tasks (set (set tasks c forked) t new) cursors at t
        (λ u n. op_set_other (set tasks c forked) t u new n ∙ op_set_kept tasks c child forked there same u) here
        (op_set_same (set tasks c forked) t new (subst (λ n. t < n) (sym (length-set tasks c forked)) (slice_get_within tasks t old read))
        ∙ next ∙ ap (λ o. op_from o + 1) (sym read))

-- one task more
module _ (plan : Plan) (t : ℕ) (old new : List TaskRecord) (cursors : List (List Op)) (at : AreAt plan t old cursors) (others : KeepsOtherCursors t old new) (cursor : List Op)
    (own : cursor ≡ drop (op_index_of new t) (code_of plan t)) where
  pub at_more : AreAt plan (t + 1) new (cursors ++ cursor ∷ [])
  at_more = record {
    one_each = (let l = length-append cursors (cursor ∷ []) in let m = at.one_each in omega arith);
    each = λ u l. elim (cases_eq u t) [
      | inl e ↦
          subst (λ v. slice_get (cursors ++ cursor ∷ []) v ≡ Some (drop (op_index_of new v) (code_of plan v))) (sym e)
          (subst (λ v. slice_get (cursors ++ cursor ∷ []) v ≡ Some cursor) at.one_each (last cursors cursor) ∙ ap Some own)
      | inr e ↦
          let before : u < t = omega arith in
          earlier cursors cursor u (let m = at.one_each in omega arith) ∙ at.each u before ∙ ap (λ i. Some (drop i (code_of plan u))) (sym (others u e))
    ];
  }
    where
      last : (xs : List (List Op)) (x : List Op) → slice_get (xs ++ x ∷ []) (length xs) ≡ Some x
      last [] x = refl
      last (y ∷ xs) x = last xs x

      earlier : (xs : List (List Op)) (x : List Op) (u : ℕ) → u < length xs → slice_get (xs ++ x ∷ []) u ≡ slice_get xs u
      earlier [] x u l = absurd (omega arith)
      earlier (y ∷ xs) x zero l = refl
      earlier (y ∷ xs) x (suc u) l = earlier xs x u (omega arith)

-- the op at which a cursor stands
pub op_of_cursor :
    (plan : Plan) (n : ℕ) (tasks : List TaskRecord) (cursors : List (List Op)) → AreAt plan n tasks cursors → (t : ℕ) → t < n → (task : TaskRecord) → slice_get tasks t ≡ Some task →
    slice_get (get_or cursors t []) 0 ≡ slice_get (code_of plan t) task.op
op_of_cursor plan n tasks cursors at t l task read =
    ap (λ ops. slice_get ops 0) (get_or_from_slice_get cursors t (drop (op_index_of tasks t) (code_of plan t)) [] (at.each t l))
    ∙ first_left (code_of plan t) (op_index_of tasks t)
    ∙ ap (λ o. slice_get (code_of plan t) (op_from o)) read
