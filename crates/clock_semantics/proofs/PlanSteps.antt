-- What stays true of a plan whose code gets ops, one after the other.
use Rattle.std.proofs.Common.{◌≡◌, ◌≢◌, ℕ, zero, suc, ◌+◌, ◌*◌, ◌<◌, ◌≤◌, Bool, true, false, Some, None, Ok, Option, List, [], ◌∷◌, ◌++◌, length, arith, sym, ◌∙◌, ap, subst, refl}
use Rattle.std.specs.Prelude.{is_some, map, nat_lt, option_to_list, slice_index_or, slice_set, sum_by, if◌then◌else◌}
use Rattle.std.proofs.lemmas.Bool.{false≢true}
use Rattle.std.proofs.lemmas.Bool.Decides.{nat_tests}
use Rattle.std.proofs.lemmas.List.{append_assoc, append-nil, get_or-set_same, length-append, length-map, length-set, set-get_or, set-set}
use Rattle.armus_base.specs.Limits.{max_cells, max_ops, max_phasers, max_tasks}
use Rattle.armus_base.specs.Numbers.{phaser, task}
use Rattle.armus_base.specs.Plans.{Plan}
use Rattle.armus_base.specs.declared.offset.Offset.TheVariants.{Here}
use Rattle.armus_base.specs.declared.op.Op.{Op}
use Rattle.armus_base.specs.declared.op.Op.TheVariants as op
use Rattle.pl_syntax.specs.Tree.{done}
use Rattle.pl_plan.specs.Unfolding.{Names, ◌>>=◌, Start, UnfoldingState, add_op, fault_unless, is_parent, too_many_ops, with_member, with_op}
use Rattle.pl_plan.proofs.Sound.{IsActing}
use Rattle.pl_plan.proofs.SoundSteps.{OnState, adv_acts, await_acts, dereg_acts, fork_acts, make_acts, member_elsewhere, member_other, reg_acts, state_of, task_acts}
use Rattle.pl_plan.proofs.Tables.{one_more_op, with_maker, with_task}
use Rattle.clock_semantics.specs.Unfolding.{numbers_of}

-- no name stands for anything
abbrev pub no_names : Names
no_names x = None

-- task t acts in a plan with these starts and members
abbrev pub Acts : ℕ → Plan → List (Option Start) → (ℕ → ℕ → Bool) → Type 0
Acts t plan starts members = IsActing t (state_of plan starts members no_names 0)

-- task t's code goes on with these ops
abbrev pub with_ops : ℕ → List Op → Plan → Plan
with_ops t [] plan = plan
with_ops t (o ∷ os) plan = with_ops t os (with_op t o plan)

pub with_ops-append : (t : ℕ) (xs ys : List Op) (plan : Plan) → with_ops t (xs ++ ys) plan ≡ with_ops t ys (with_ops t xs plan)
with_ops-append t [] ys plan = refl
with_ops-append t (x ∷ xs) ys plan = with_ops-append t xs ys (with_op t x plan)

-- ops draw nobody
pub ops_parents : (t : ℕ) (os : List Op) (plan : Plan) → (with_ops t os plan).parents ≡ plan.parents
ops_parents t [] plan = refl
ops_parents t (o ∷ os) plan = ops_parents t os (with_op t o plan)

-- all at once
pub with_ops_is :
    (t : ℕ) (os : List Op) (plan : Plan) → t < length plan.codes →
    with_ops t os plan ≡ record plan { codes = slice_set plan.codes t (slice_index_or plan.codes t [] ++ os) }
with_ops_is t [] plan here =
    ap (λ cs. record plan { codes = cs })
    (sym (ap (λ c. slice_set plan.codes t c) (append-nil (slice_index_or plan.codes t [])) ∙ set-get_or plan.codes t []))
with_ops_is t (o ∷ os) plan here =
    let c = slice_index_or plan.codes t [] in
    with_ops_is t os (with_op t o plan) (omega (arith, length-set plan.codes t (c ++ o ∷ [])))
    ∙ ap (λ z. record plan { codes = slice_set (slice_set plan.codes t (c ++ o ∷ [])) t (z ++ os) }) (get_or-set_same plan.codes t (c ++ o ∷ []) [] here)
    ∙ ap (λ z. record plan { codes = z }) (set-set plan.codes t (c ++ o ∷ []) ((c ++ o ∷ []) ++ os))
    ∙ ap (λ z. record plan { codes = slice_set plan.codes t z }) (append_assoc c (o ∷ []) os)

op_added :
    (P : UnfoldingState → Type 0) (t : ℕ) (o : Op) (s : UnfoldingState) → sum_by length s.plan.codes + 1 ≤ max_ops → OnState P (add_op t 0 o s) →
    P (record s { plan = with_op t o s.plan })
unfolding add_op
op_added P t o s few h = by (nat_lt (sum_by length s.plan.codes) max_ops) (grind (arith, nat_tests)) h
  where
    by :
        (b : Bool) → b ≡ true → OnState P (fault_unless b too_many_ops 0 >>= λ _. Ok (record s { plan = with_op t o s.plan })) →
        P (record s { plan = with_op t o s.plan })
    by true e k = k
    by false e k = absurd (false≢true e)

module _ (t : ℕ) (plan : Plan) (starts : List (Option Start)) (members : ℕ → ℕ → Bool) (a : Acts t plan starts members) where
  abbrev now : UnfoldingState
  now = state_of plan starts members no_names 0

  pub has_code : t < length plan.codes
  has_code = omega (arith, a.here, a.sound.checked.tables.one_code_each)

  pub one_more : (o : Op) → sum_by length (with_op t o plan).codes ≡ sum_by length plan.codes + 1
  one_more o = one_more_op plan t o has_code

  pub adv_more : (p : ℕ) → sum_by length plan.codes + 1 ≤ max_ops → members t p ≡ true → Acts t (with_op t (op.Adv (phaser p)) plan) starts members
  adv_more p few e = op_added (IsActing t) t (op.Adv (phaser p)) now few (adv_acts t now a p 0 e)

  pub await_more : (p : ℕ) → sum_by length plan.codes + 1 ≤ max_ops → members t p ≡ true → Acts t (with_op t (op.Await (phaser p) Here) plan) starts members
  await_more p few e = op_added (IsActing t) t (op.Await (phaser p) Here) now few (await_acts t now a p 0 Here tt e)

  pub drop_more :
      (p : ℕ) → sum_by length plan.codes + 1 ≤ max_ops → members t p ≡ true →
      Acts t (with_op t (op.Drop (phaser p)) plan) starts (with_member t p false members)
  drop_more p few e =
      op_added (IsActing t) t (op.Drop (phaser p)) (state_of plan starts (with_member t p false members) no_names 0) few (dereg_acts t now a p 0 e)

  pub make_more :
      length plan.makers < max_phasers → length plan.parents * (length plan.makers + 1 + 1) ≤ max_cells → sum_by length plan.codes + 1 ≤ max_ops →
      Acts t (with_op t (op.Make (phaser (length plan.makers))) (with_maker t plan)) starts (with_member t (length plan.makers) true members)
  make_more room cells few =
      op_added (IsActing t) t (op.Make (phaser (length plan.makers)))
      (state_of (with_maker t plan) starts (with_member t (length plan.makers) true members) no_names 0) few
      (make_acts t now a 0 no_names (grind (arith, nat_tests)) (grind (arith, nat_tests)))

  pub task_more :
      length plan.parents < max_tasks → (length plan.parents + 1) * (length plan.makers + 1) ≤ max_cells →
      Acts t (with_task t plan) (starts ++ None ∷ []) members
  task_more room cells = task_acts t now a no_names (grind (arith, nat_tests)) (grind (arith, nat_tests))

  module _ (c : ℕ) (mine : is_parent t (slice_index_or plan.parents c None) ≡ true) (unforked : is_some (slice_index_or starts c None) ≡ false) where
    pub fork_more :
        sum_by length plan.codes + 1 ≤ max_ops → (names : Names) →
        Acts t (with_op t (op.Fork (task c)) plan) (slice_set starts c (Some (record { body = done; first = 1; names = names }))) members
    fork_more few names =
        op_added (IsActing t) t (op.Fork (task c)) (state_of plan (slice_set starts c (Some (record { body = done; first = 1; names = names }))) members no_names 0) few
        (fork_acts t now a c mine unforked 0 (record { body = done; first = 1; names = names }) tt)

    pub reg_more :
        (p : ℕ) → members t p ≡ true → members c p ≡ false → sum_by length plan.codes + 1 ≤ max_ops →
        Acts t (with_op t (op.Reg (task c) (phaser p)) plan) starts (with_member c p true members)
    reg_more p inside outside few =
        op_added (IsActing t) t (op.Reg (task c) (phaser p)) (state_of plan starts (with_member c p true members) no_names 0) few
        (reg_acts t now a c mine unforked p inside outside 0)

-- ---- a child on many phasers

-- the members, with task c one of these phasers too
abbrev pub with_all : ℕ → List ℕ → (ℕ → ℕ → Bool) → ℕ → ℕ → Bool
with_all c [] members = members
with_all c (p ∷ ps) members = with_all c ps (with_member c p true members)

-- task t is a member of these, and task c of none of them, one after the other
abbrev pub CanRegister : ℕ → ℕ → List ℕ → (ℕ → ℕ → Bool) → Type 0
CanRegister t c [] members = Unit {0}
CanRegister t c (p ∷ ps) members = (members t p ≡ true) × (members c p ≡ false) × CanRegister t c ps (with_member c p true members)

-- the ops that register task c on these
abbrev pub regs : ℕ → List ℕ → List Op
regs c ps = map (λ p. op.Reg (task c) (phaser p)) ps

pub regs_more :
    (t c : ℕ) (ps : List ℕ) (plan : Plan) (starts : List (Option Start)) (members : ℕ → ℕ → Bool) → Acts t plan starts members →
    is_parent t (slice_index_or plan.parents c None) ≡ true → is_some (slice_index_or starts c None) ≡ false →
    CanRegister t c ps members → sum_by length plan.codes + length ps ≤ max_ops → Acts t (with_ops t (regs c ps) plan) starts (with_all c ps members)
regs_more t c [] plan starts members a mine unforked can few = a
regs_more t c (p ∷ ps) plan starts members a mine unforked can few =
    regs_more t c ps (with_op t (op.Reg (task c) (phaser p)) plan) starts (with_member c p true members)
    (reg_more t plan starts members a c mine unforked p can.0 can.1 (omega arith)) mine unforked can.2
    (omega (arith, one_more t plan starts members a (op.Reg (task c) (phaser p))))

pub can_register-append :
    (t c : ℕ) (ps qs : List ℕ) (members : ℕ → ℕ → Bool) → CanRegister t c ps members → CanRegister t c qs (with_all c ps members) → CanRegister t c (ps ++ qs) members
can_register-append t c [] qs members h k = k
can_register-append t c (p ∷ ps) qs members h k = (h.0, h.1, can_register-append t c ps qs (with_member c p true members) h.2 k)

pub with_all-append : (c : ℕ) (ps qs : List ℕ) (members : ℕ → ℕ → Bool) → with_all c (ps ++ qs) members ≡ with_all c qs (with_all c ps members)
with_all-append c [] qs members = refl
with_all-append c (p ∷ ps) qs members = with_all-append c ps qs (with_member c p true members)

-- other tasks stay as they are
pub with_all_other : (c : ℕ) (ps : List ℕ) (members : ℕ → ℕ → Bool) (u q : ℕ) → u ≢ c → with_all c ps members u q ≡ members u q
with_all_other c [] members u q n = refl
with_all_other c (p ∷ ps) members u q n = with_all_other c ps (with_member c p true members) u q n ∙ member_other c p true members u q n

-- ---- a task that leaves its phasers

-- the ops by which a task leaves these
abbrev pub drop_ops : List ℕ → List Op
drop_ops ps = map (λ p. op.Drop (phaser p)) ps

pub map-append : {A B : Type 0} (f : A → B) (xs ys : List A) → map f (xs ++ ys) ≡ map f xs ++ map f ys
map-append f [] ys = refl
map-append f (x ∷ xs) ys = ap (λ zs. f x ∷ zs) (map-append f xs ys)

-- task t, with these members, has left those with a number below n
pub record HasLeft (t n : ℕ) (plan : Plan) (starts : List (Option Start)) (members : ℕ → ℕ → Bool) (own : ℕ → Bool) : Type 0 where
  pub left : ℕ → ℕ → Bool
  pub acts : Acts t (with_ops t (drop_ops (numbers_of own n)) plan) starts left
  pub later : (q : ℕ) → n ≤ q → left t q ≡ own q
  pub others : (u q : ℕ) → u ≢ t → left u q ≡ members u q

pub sum_ops : (t : ℕ) (os : List Op) (plan : Plan) → t < length plan.codes → sum_by length (with_ops t os plan).codes ≡ sum_by length plan.codes + length os
sum_ops t [] plan here = omega arith
sum_ops t (o ∷ os) plan here =
    omega (arith, sum_ops t os (with_op t o plan) (omega (arith, length-set plan.codes t (slice_index_or plan.codes t [] ++ o ∷ []))), one_more_op plan t o here)

pub leaves_below :
    (t n : ℕ) (plan : Plan) (starts : List (Option Start)) (members : ℕ → ℕ → Bool) (own : ℕ → Bool) → Acts t plan starts members →
    ((q : ℕ) → members t q ≡ own q) → sum_by length plan.codes + length (numbers_of own n) ≤ max_ops → HasLeft t n plan starts members own
leaves_below t zero plan starts members own a same few = record { left = members; acts = a; later = λ q l. same q; others = λ u q e. refl }
leaves_below t (suc n) plan starts members own a same few =
    by (own n) refl
    (leaves_below t n plan starts members own a same
    (let l = length-append (numbers_of own n) (option_to_list (if own n then Some n else None)) in omega arith))
  where
    by : (b : Bool) → own n ≡ b → HasLeft t n plan starts members own → HasLeft t (suc n) plan starts members own
    by false e h =
        record {
          left = h.left;
          acts = subst (λ ps. Acts t (with_ops t (drop_ops ps) plan) starts h.left) (sym
              (ap (λ b. numbers_of own n ++ option_to_list (if b then Some n else None)) e ∙ append-nil (numbers_of own n))) h.acts;
          later = λ q l. h.later q (omega arith);
          others = h.others;
        }
    by true e h =
        let before = drop_ops (numbers_of own n) in
        let whole : numbers_of own (suc n) ≡ numbers_of own n ++ n ∷ [] = ap (λ b. numbers_of own n ++ option_to_list (if b then Some n else None)) e in
        let ops : drop_ops (numbers_of own (suc n)) ≡ before ++ op.Drop (phaser n) ∷ [] =
        ap drop_ops whole ∙ map-append (λ p. op.Drop (phaser p)) (numbers_of own n) (n ∷ []) in
        let sum = sum_ops t before plan (has_code t plan starts members a) in
        let many = ap length whole ∙ length-append (numbers_of own n) (n ∷ []) in
        let count = length-map (numbers_of own n) (λ p. op.Drop (phaser p)) in
        record {
          left = with_member t n false h.left;
          acts =
              subst (λ q. Acts t q starts (with_member t n false h.left)) (sym (ap (λ os. with_ops t os plan) ops ∙ with_ops-append t before (op.Drop (phaser n) ∷ []) plan))
              (drop_more t (with_ops t before plan) starts h.left h.acts n (omega arith) (h.later n (omega arith) ∙ e));
          later = λ q l. member_elsewhere t n false h.left t q (λ same. absurd (omega arith)) ∙ h.later q (omega arith);
          others = λ u q d. member_other t n false h.left u q d ∙ h.others u q d;
        }
