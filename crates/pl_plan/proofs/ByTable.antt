-- A stage does what its tests, made row by row, say.
use Rattle.std.proofs.Common.{◌≡◌, ℕ, ◌+◌, ◌*◌, Bool, true, false, not, Some, None, Ok, Option, List, [], ◌∷◌, refl}
use Rattle.std.specs.Prelude.{◌||◌, is_none, nat_le, nat_lt, length, sum_by}
use Rattle.armus_base.specs.declared.op.Op.{Op}
use Rattle.armus_base.specs.declared.op.Op.TheVariants as op
use Rattle.pl_syntax.specs.Tree.{new_task, new_phaser, reg, dereg, adv, await, skip}
use Rattle.armus_base.specs.Numbers.{phaser, task}
use Rattle.pl_plan.specs.Unfolding.{Coming, a_plain, a_fork, a_loop, a_turn, Visit, UnfoldingState, Start, Thing, a_task, a_phaser, Outcome, ◌>>=◌, fault_unless, as_task, as_phaser, unforked_child, member_of, add_op, act, act_fork, come_to, count_visit, make_visit, with_member, with_members, with_new_phaser, with_start}
use Rattle.pl_plan.specs.Tests.{Row, is_phaser, is_task, phaser_number, task_number, IsFirstFailing, Passes, drew, is_forked, table}
use Rattle.pl_plan.specs.Stages.{after_stage, done_at, comes, with_code}
use Rattle.pl_plan.proofs.FirstRows.{answer, first_in, first_of, kind_or, kind_some as kind_some_in, none_kind, passes_in, step}

-- ---- the first row at fault, computed

abbrev kind_in : Row → ℕ
kind_in r = r.kind

abbrev fails_at : UnfoldingState → ℕ → Coming → Row → Bool
fails_at s t c r = r.fails s t c

abbrev pub first_kind : List Row → UnfoldingState → ℕ → Coming → Option ℕ
first_kind rows s t c = first_of Row kind_in (fails_at s t c) rows None

module _ (s : UnfoldingState) (t : ℕ) (c : Coming) where
  pub passes_if : first_kind table s t c ≡ None → Passes s t c
  passes_if = passes_in Row kind_in (fails_at s t c) table

  pub first_if : (kind : ℕ) → first_kind table s t c ≡ Some kind → IsFirstFailing s t c kind
  first_if kind e =
      let f = first_in Row kind_in (fails_at s t c) table kind e in
      record { before = f.before; failing = f.failing; after = f.after; of_table = f.of_rows; passed = f.passed; fails = f.fails_here; kind_is = f.kind_is }

  -- and back
  pub kind_none : Passes s t c → first_kind table s t c ≡ None
  kind_none = none_kind Row kind_in (fails_at s t c) table

  pub kind_some : (kind : ℕ) → IsFirstFailing s t c kind → first_kind table s t c ≡ Some kind
  kind_some kind f =
      kind_some_in Row kind_in (fails_at s t c) table kind
      (record { before = f.before; failing = f.failing; after = f.after; of_rows = f.of_table; passed = f.passed; fails_here = f.fails; kind_is = f.kind_is })

-- ---- what a visit answers

-- a test that is no test of the table's form: what must not hold
step_not :
    (bad : Bool) (kind n : ℕ) (rest : Option ℕ) (done : UnfoldingState) (o : Outcome UnfoldingState) → o ≡ answer n rest done →
    (fault_unless (not bad) kind n >>= λ _. o) ≡ answer n (kind_or bad kind rest) done
step_not true kind n rest done o e = refl
step_not false kind n rest done o e = e

-- the two tests of a child
step_child :
    (drawn forked : Bool) (n : ℕ) (rest : Option ℕ) (done : UnfoldingState) (o : Outcome UnfoldingState) → o ≡ answer n rest done →
    ((fault_unless drawn 5 n >>= λ _. fault_unless (not forked) 6 n) >>= λ _. o) ≡ answer n (kind_or (not drawn) 5 (kind_or forked 6 rest)) done
step_child true true n rest done o e = refl
step_child true false n rest done o e = e
step_child false forked n rest done o e = refl

-- the test of a member
step_member :
    (inside : Bool) (p n : ℕ) (rest : Option ℕ) (done : UnfoldingState) (f : ℕ → Outcome UnfoldingState) → f p ≡ answer n rest done →
    ((fault_unless inside 3 n >>= λ _. Ok p) >>= f) ≡ answer n (kind_or (not inside) 3 rest) done
step_member true p n rest done f e = e
step_member false p n rest done f e = refl

-- the last test, of ops, and then the op
step_op :
    (t n : ℕ) (o : Op) (s : UnfoldingState) →
    add_op t n o s ≡ answer n (kind_or (not (nat_lt (sum_by length s.plan.codes) 1048576)) 9 None) (with_code t o s)
unfolding add_op
step_op t n o s = step (nat_lt (sum_by length s.plan.codes) 1048576) 9 n None (with_code t o s) (Ok (with_code t o s)) refl

-- what stands behind the test of visits
abbrev behind_first : List Row → List Row
behind_first [] = []
behind_first (r ∷ rows) = rows

abbrev behind_visits : List Row
behind_visits = behind_first table

-- the tests behind that of visits, and what is done
abbrev IsByTable : ℕ → ℕ → Coming → UnfoldingState → Outcome UnfoldingState → Type 0
IsByTable t n c s o = o ≡ answer n (first_kind behind_visits s t c) (done_at t n c s)

module _ (t n : ℕ) (s : UnfoldingState) where
  abbrev ops_left : Bool
  ops_left = nat_lt (sum_by length s.plan.codes) 1048576

  -- dereg, adv, await
  member_by :
      (o : Option Thing) (code : ℕ → Op) (members : ℕ → ℕ → ℕ → Bool) →
      (member_of t n o s >>= λ p. add_op t n (code p) (with_members (members p) s))
      ≡ answer n (kind_or (is_none o) 1 (kind_or (is_task o) 2 (kind_or (not (s.members t (phaser_number o))) 3 (kind_or (not ops_left) 9 None))))
      (with_code t (code (phaser_number o)) (with_members (members (phaser_number o)) s))
  unfolding member_of
  member_by None code members = refl
  member_by (Some (a_task c)) code members = refl
  member_by (Some (a_phaser p)) code members =
      step_member (s.members t p) p n (kind_or (not ops_left) 9 None) (with_code t (code p) (with_members (members p) s))
      (λ q. add_op t n (code q) (with_members (members q) s)) (step_op t n (code p) (with_members (members p) s))

  fork_by :
      (o : Option Thing) (start : Start) →
      (as_task n o >>= λ c. unforked_child t n c s >>= λ _. add_op t n (op.Fork (task c)) (with_start c start s))
      ≡ answer n
      (kind_or (is_none o) 1 (kind_or (is_phaser o || false) 2
      (kind_or (not (drew s t (task_number o))) 5 (kind_or (is_forked s (task_number o)) 6 (kind_or (not ops_left) 9 None)))))
      (with_code t (op.Fork (task (task_number o))) (with_start (task_number o) start s))
  fork_by None start = refl
  fork_by (Some (a_phaser p)) start = refl
  fork_by (Some (a_task c)) start =
      step_child (drew s t c) (is_forked s c) n (kind_or (not ops_left) 9 None) (with_code t (op.Fork (task c)) (with_start c start s))
      (add_op t n (op.Fork (task c)) (with_start c start s)) (step_op t n (op.Fork (task c)) (with_start c start s))

  reg_by :
      (o q : Option Thing) →
      (as_task n o >>= λ c. as_phaser n q >>= λ p. unforked_child t n c s >>= λ _. fault_unless (s.members t p) 3 n >>= λ _.
      fault_unless (not (s.members c p)) 4 n >>= λ _. add_op t n (op.Reg (task c) (phaser p)) (with_members (with_member c p true s.members) s))
      ≡ answer n
      (kind_or (is_none o) 1 (kind_or (is_phaser o || false) 2 (kind_or (is_none q) 1 (kind_or (is_task q) 2
      (kind_or (not (drew s t (task_number o))) 5 (kind_or (is_forked s (task_number o)) 6
      (kind_or (not (s.members t (phaser_number q))) 3 (kind_or (s.members (task_number o) (phaser_number q)) 4 (kind_or (not ops_left) 9 None)))))))))
      (with_code t (op.Reg (task (task_number o)) (phaser (phaser_number q))) (with_members (with_member (task_number o) (phaser_number q) true s.members) s))
  reg_by None q = refl
  reg_by (Some (a_phaser p)) q = refl
  reg_by (Some (a_task c)) None = refl
  reg_by (Some (a_task c)) (Some (a_task d)) = refl
  reg_by (Some (a_task c)) (Some (a_phaser p)) =
      let last = kind_or (not ops_left) 9 None in
      let new = with_members (with_member c p true s.members) s in
      let done = with_code t (op.Reg (task c) (phaser p)) new in
      let add = add_op t n (op.Reg (task c) (phaser p)) new in
      step_child (drew s t c) (is_forked s c) n (kind_or (not (s.members t p)) 3 (kind_or (s.members c p) 4 last)) done
      (fault_unless (s.members t p) 3 n >>= λ _. fault_unless (not (s.members c p)) 4 n >>= λ _. add)
      (step (s.members t p) 3 n (kind_or (s.members c p) 4 last) done (fault_unless (not (s.members c p)) 4 n >>= λ _. add)
      (step_not (s.members c p) 4 n last done add (step_op t n (op.Reg (task c) (phaser p)) new)))

  come_by : (c : Coming) → IsByTable t n c s (come_to t n c s)
  unfolding act act_fork
  come_by (a_plain (new_task x)) =
      let cells = nat_le ((length s.plan.parents + 1) * (length s.plan.makers + 1)) 1048576 in
      let done = done_at t n (a_plain (new_task x)) s in
      step (nat_lt (length s.plan.parents) 4096) 7 n (kind_or (not cells) 11 None) done (fault_unless cells 11 n >>= λ _. Ok done)
      (step cells 11 n None done (Ok done) refl)
  come_by (a_plain (new_phaser x)) =
      let cells = nat_le (length s.plan.parents * (length s.plan.makers + 1 + 1)) 1048576 in
      let done = done_at t n (a_plain (new_phaser x)) s in
      let add = add_op t n (op.Make (phaser (length s.plan.makers))) (with_new_phaser t x s) in
      let last = kind_or (not ops_left) 9 None in
      step (nat_lt (length s.plan.makers) 1024) 8 n (kind_or (not cells) 11 last) done (fault_unless cells 11 n >>= λ _. add)
      (step cells 11 n last done add (step_op t n (op.Make (phaser (length s.plan.makers))) (with_new_phaser t x s)))
  come_by (a_plain (reg x y)) = reg_by (s.names x) (s.names y)
  come_by (a_plain (dereg x)) = member_by (s.names x) (λ p. op.Drop (phaser p)) (λ p. with_member t p false s.members)
  come_by (a_plain (adv x)) = member_by (s.names x) (λ p. op.Adv (phaser p)) (λ p. s.members)
  come_by (a_plain (await x off)) = member_by (s.names x) (λ p. op.Await (phaser p) off) (λ p. s.members)
  come_by (a_plain skip) = refl
  come_by (a_fork x body) = fork_by (s.names x) (record { body = body; first = n + 1; names = s.names })
  come_by a_loop = refl
  come_by a_turn = refl

-- a visit answers by the table
pub visit_by : (t : ℕ) (m : Visit) (s : UnfoldingState) → make_visit t m s ≡ answer m.statement (first_kind table s t m.coming) (after_stage (comes t m) s)
unfolding count_visit
visit_by t m s = by (nat_lt s.visits 4194304)
  where
    by :
        (b : Bool) →
        ((fault_unless b 10 m.statement >>= λ _. Ok (record s { visits = s.visits + 1 })) >>= come_to t m.statement m.coming)
        ≡ answer m.statement (kind_or (not b) 10 (first_kind behind_visits s t m.coming)) (after_stage (comes t m) s)
    by true = come_by t m.statement (record s { visits = s.visits + 1 }) m.coming
    by false = refl
