-- Outcomes without a fault: what holds of their state, test by test.
use Rattle.std.proofs.Common.{◌≡◌, ℕ, zero, suc, ◌+◌, ◌<◌, ◌≤◌, Bool, true, Some, None, Ok, Err, Option, List, [], ◌∷◌, ◌++◌, length, arith, sym, subst, refl, inl, inr}
use Rattle.std.specs.Prelude.{slice_set, slice_index_or, is_some, nat_lt, sum_by}
use Rattle.std.proofs.lemmas.Bool.{cases_lt}
use Rattle.std.proofs.lemmas.Bool.Decides.{nat_tests}
use Rattle.std.proofs.lemmas.List.{length-append, set_past}
use Rattle.std.proofs.lemmas.List.Sums.{sum_by-set}
use Rattle.armus_base.specs.declared.ids.TaskId.{TaskId}
use Rattle.armus_base.specs.declared.op.Op.{Op}
use Rattle.armus_base.specs.Limits.{max_ops}
use Rattle.pl_plan.specs.Limits.{max_visits}
use Rattle.armus_base.specs.Pieces.{times}
use Rattle.armus_base.specs.Numbers.{task}
use Rattle.pl_plan.specs.Unfolding.{Coming, Visit, visit, come_to, make_visit, make_visits, count_visit, UnfoldingState, Start, Names, Thing, a_task, a_phaser, Outcome, ◌>>=◌, fault_unless, as_task, as_phaser, unforked_child, unforked_child_by, member_of, add_op, with_op, not_member, too_many_ops, too_many_visits}
use Rattle.pl_plan.proofs.Walks.{make_visits-append}

-- there is no fault, and this holds of the state
abbrev pub Succeeds : (UnfoldingState → Type 0) → Outcome UnfoldingState → Type 0
Succeeds P (Ok s) = P s
Succeeds P (Err f) = ⊥

-- one after the other
pub and_then : (P Q : UnfoldingState → Type 0) (o : Outcome UnfoldingState) (f : UnfoldingState → Outcome UnfoldingState) → Succeeds P o →
    ((s : UnfoldingState) → P s → Succeeds Q (f s)) → Succeeds Q (o >>= f)
and_then P Q (Ok s) f h k = k s h
and_then P Q (Err e) f h k = absurd h

-- what holds of the state, from what else holds of it
pub so : (P Q : UnfoldingState → Type 0) (o : Outcome UnfoldingState) → Succeeds P o → ((s : UnfoldingState) → P s → Q s) → Succeeds Q o
so P Q (Ok s) h k = k s h
so P Q (Err e) h k = absurd h

-- ---- tests

module _ (P : UnfoldingState → Type 0) (n : ℕ) where
  pub holds : (b : Bool) (kind : ℕ) (o : Outcome UnfoldingState) → b ≡ true → Succeeds P o → Succeeds P (fault_unless b kind n >>= λ _. o)
  holds b kind o e h = subst (λ z. Succeeds P (fault_unless z kind n >>= λ _. o)) (sym e) h

  pub names_task : (v : Option Thing) (c : ℕ) (f : ℕ → Outcome UnfoldingState) → v ≡ Some (a_task c) → Succeeds P (f c) → Succeeds P (as_task n v >>= f)
  names_task v c f e h = subst (λ z. Succeeds P (as_task n z >>= f)) (sym e) h

  pub names_phaser : (v : Option Thing) (p : ℕ) (f : ℕ → Outcome UnfoldingState) → v ≡ Some (a_phaser p) → Succeeds P (f p) → Succeeds P (as_phaser n v >>= f)
  names_phaser v p f e h = subst (λ z. Succeeds P (as_phaser n z >>= f)) (sym e) h

  pub is_member :
      (t p : ℕ) (v : Option Thing) (s : UnfoldingState) (f : ℕ → Outcome UnfoldingState) → v ≡ Some (a_phaser p) → s.members t p ≡ true → Succeeds P (f p) →
      Succeeds P (member_of t n v s >>= f)
  unfolding member_of
  is_member t p v s f e m h =
      subst (λ z. Succeeds P (member_of t n z s >>= f)) (sym e)
      (subst (λ b. Succeeds P ((fault_unless b not_member n >>= λ _. Ok p) >>= f)) (sym m) h)

  -- task 0 drew task c, which is not forked
  pub is_own_child :
      (c : ℕ) (s : UnfoldingState) (o : Outcome UnfoldingState) → slice_index_or s.plan.parents c None ≡ Some (task 0) → slice_index_or s.starts c None ≡ None → Succeeds P o →
      Succeeds P (unforked_child 0 n c s >>= λ _. o)
  is_own_child c s o e u h =
      subst (λ z. Succeeds P (unforked_child_by 0 n z (is_some (slice_index_or s.starts c None)) >>= λ _. o)) (sym e)
      (subst (λ z. Succeeds P (unforked_child_by 0 n (Some (task 0)) (is_some z) >>= λ _. o)) (sym u) h)

-- ---- what matters of a state: its parts, and how many visits and ops there were at most

pub record Parts : Type 0 where
  pub parents : List (Option TaskId)
  pub phasers : ℕ
  pub starts : List (Option Start)
  pub members : ℕ → ℕ → Bool
  pub names : Names

abbrev pub parts_of : UnfoldingState → Parts
parts_of s = record { parents = s.plan.parents; phasers = length s.plan.makers; starts = s.starts; members = s.members; names = s.names }

-- a state with these parts, and with so many visits and ops at most
pub record Has (k : ℕ) (parts : Parts) (s : UnfoldingState) : Type 0 where
  pub parts_are : parts_of s ≡ parts
  pub visits : s.visits ≤ k
  pub ops : sum_by length s.plan.codes ≤ k

-- more visits and ops are allowed
pub has_more : (j k : ℕ) (a : Parts) (s : UnfoldingState) → j ≤ k → Has j a s → Has k a s
has_more j k a s l h = record { parts_are = h.parts_are; visits = omega (arith, h.visits); ops = omega (arith, h.ops) }

ops_more : (codes : List (List Op)) (t : ℕ) (o : Op) → sum_by length (slice_set codes t (slice_index_or codes t [] ++ o ∷ [])) ≤ sum_by length codes + 1
ops_more codes t o =
    elim (cases_lt t (length codes)) [
      | inl here ↦
          omega (arith, sum_by-set length codes t (slice_index_or codes t [] ++ o ∷ []) [] here, length-append (slice_index_or codes t []) (o ∷ []))
      | inr past ↦ rw (set_past codes t (slice_index_or codes t [] ++ o ∷ []) past) (omega arith)
    ]

-- an op more
pub op_fits : (t n k : ℕ) (o : Op) (s : UnfoldingState) → s.visits ≤ k + 1 → sum_by length s.plan.codes ≤ k → k < max_ops → Succeeds (Has (k + 1) (parts_of s)) (add_op t n o s)
unfolding add_op
op_fits t n k o s m ops few =
    holds (Has (k + 1) (parts_of s)) n (nat_lt (sum_by length s.plan.codes) max_ops) too_many_ops (Ok (record s { plan = with_op t o s.plan }))
    (let fits : sum_by length s.plan.codes < max_ops = omega arith in grind (arith, nat_tests))
    (record { parts_are = refl; visits = m; ops = omega (arith, ops_more s.plan.codes t o) })

-- a visit more
pub visit_fits :
    (P : UnfoldingState → Type 0) (t n k : ℕ) (c : Coming) (s : UnfoldingState) → s.visits ≤ k → k < max_ops → Succeeds P (come_to t n c (record s { visits = s.visits + 1 })) →
    Succeeds P (make_visit t (visit n c) s)
unfolding count_visit
visit_fits P t n k c s m few h =
    let fits : s.visits < max_visits = omega arith in
    let e : nat_lt s.visits max_visits ≡ true = grind (arith, nat_tests) in
    subst (λ b. Succeeds P ((fault_unless b too_many_visits n >>= λ _. Ok (record s { visits = s.visits + 1 })) >>= come_to t n c)) (sym e) h

-- ---- several visits

pub no_visit : (P : UnfoldingState → Type 0) (t : ℕ) (s : UnfoldingState) → P s → Succeeds P (make_visits t [] s)
unfolding make_visits
no_visit P t s h = h

module _ (P Q : UnfoldingState → Type 0) (t : ℕ) (s : UnfoldingState) where
  pub comes : (m : Visit) (ms : List Visit) → Succeeds P (make_visit t m s) → ((s' : UnfoldingState) → P s' → Succeeds Q (make_visits t ms s')) →
      Succeeds Q (make_visits t (m ∷ ms) s)
  unfolding make_visits
  comes m ms h k = and_then P Q (make_visit t m s) (make_visits t ms) h k

  pub both : (ms more : List Visit) → Succeeds P (make_visits t ms s) → ((s' : UnfoldingState) → P s' → Succeeds Q (make_visits t more s')) →
      Succeeds Q (make_visits t (ms ++ more) s)
  both ms more h k = subst (Succeeds Q) (sym (make_visits-append t ms more s)) (and_then P Q (make_visits t ms s) (make_visits t more) h k)

-- the turns of a loop
pub turns :
    (P : ℕ → UnfoldingState → Type 0) (t n : ℕ) (ms : List Visit) → ((i : ℕ) (s : UnfoldingState) → i < n → P i s → Succeeds (P (i + 1)) (make_visits t ms s)) →
    (k i : ℕ) → i + k ≡ n → (s : UnfoldingState) → P i s → Succeeds (P n) (make_visits t (times k ms) s)
turns P t n ms turn zero i e s h = no_visit (P n) t s (subst (λ j. P j s) (let q : i ≡ n = omega arith in q) h)
turns P t n ms turn (suc k) i e s h =
    both (P (i + 1)) (P n) t s ms (times k ms) (turn i s (omega arith) h) (λ s' h'. turns P t n ms turn k (i + 1) (omega arith) s' h')
