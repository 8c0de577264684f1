-- A fault has one of the ten kinds, and the number of a statement of the program.
use Rattle.std.proofs.Common.{◌≡◌, ℕ, zero, suc, ◌+◌, ◌≤◌, Bool, true, false, not, Some, None, Ok, Err, Option, List, [], ◌∷◌, ◌++◌, arith, sym, subst, ◌-◌, ◌⊎◌, inl, inr, refl}
use Rattle.std.specs.Prelude.{slice_index_or, is_some, nat_lt, length, sum_by, if◌then◌else◌}
use Rattle.std.proofs.lemmas.Bool.{cases_lt}
use Rattle.armus_base.specs.Limits.{max_tasks, max_phasers, max_ops}
use Rattle.armus_base.specs.declared.op.Op.{Op}
use Rattle.armus_base.specs.declared.op.Op.TheVariants as op
use Rattle.pl_syntax.specs.Tree.{Tree, done, plain, fork, loop, Plain, new_task, new_phaser, reg, dereg, adv, await, skip, count}
use Rattle.pl_plan.specs.Limits.{max_visits}
use Rattle.pl_plan.specs.declared.fault.CheckFault.{CheckFault}
use Rattle.armus_base.specs.Pieces.{times}
use Rattle.armus_base.specs.Numbers.{phaser, task}
use Rattle.pl_plan.specs.Unfolding.{Coming, a_plain, a_fork, a_loop, a_turn, Visit, visit, visits_of, UnfoldingState, Start, Thing, a_task, a_phaser, Outcome, ◌>>=◌, fault_unless, as_task, as_phaser, is_parent, unforked_child, member_of, add_op, act, act_fork, come_to, count_visit, make_visit, make_visits, with_names, with_op, with_member, with_members, with_new_task, with_new_phaser, with_pieces, with_start, unfold_task, unfold_tasks, opening_state, plan_of, not_member, already_member, not_drawn_here, already_forked, has_cells, too_many_cells, too_many_tasks, too_many_phasers, too_many_ops, too_many_visits, leave, leave_below, ended}
use Rattle.pl_plan.specs.calls.Laws.{FaultIsOfProgram}
use Rattle.pl_plan.proofs.Places.{at_set, at_more}

module _ (two : Bool) where
  -- a fault of a program with so many statements
  abbrev IsFaultOf : ℕ → CheckFault → Type 0
  IsFaultOf many f =
      (1 ≤ f.kind) × (f.kind ≤ 11) × (f.statement ≤ many) × ((1 ≤ f.statement) ⊎ ((two ≡ true) × (f.kind ≡ 9) × (f.statement ≡ 0)))

  -- the body of a start is a part of the program
  abbrev IsPart : ℕ → Option Start → Type 0
  IsPart many None = Unit {0}
  IsPart many (Some start) = (1 ≤ start.first) × (start.first + count start.body ≤ many + 1)

  abbrev ArePartsOf : ℕ → UnfoldingState → Type 0
  ArePartsOf many s = (c : ℕ) → IsPart many (slice_index_or s.starts c None)

  abbrev Stays : ℕ → Outcome UnfoldingState → Type 0
  Stays many (Ok s) = ArePartsOf many s
  Stays many (Err f) = IsFaultOf many f

  -- ---- the visits of a part have the numbers of its statements

  abbrev HasPart : ℕ → ℕ → Coming → Type 0
  HasPart many n (a_fork x body) = n + 1 + count body ≤ many + 1
  HasPart many n c = Unit {0}

  abbrev IsIn : ℕ → Visit → Type 0
  IsIn many m = (1 ≤ m.statement) × (m.statement ≤ many) × HasPart many m.statement m.coming

  abbrev AreIn : ℕ → List Visit → Type 0
  AreIn many [] = Unit {0}
  AreIn many (m ∷ ms) = IsIn many m × AreIn many ms

  in-append : (many : ℕ) (xs ys : List Visit) → AreIn many xs → AreIn many ys → AreIn many (xs ++ ys)
  in-append many [] ys h k = k
  in-append many (x ∷ xs) ys h k = (h.0, in-append many xs ys h.1 k)

  in-times : (many k : ℕ) (xs : List Visit) → AreIn many xs → AreIn many (times k xs)
  in-times many zero xs h = tt
  in-times many (suc k) xs h = in-append many xs (times k xs) h (in-times many k xs h)

  visits_in : (many n : ℕ) (tree : Tree) → 1 ≤ n → n + count tree ≤ many + 1 → AreIn many (visits_of n tree)
  visits_in many n done pos le = tt
  visits_in many n (plain s rest) pos le = ((pos, omega arith, tt), visits_in many (n + 1) rest (omega arith) (omega arith))
  visits_in many n (fork x body rest) pos le =
      ((pos, omega arith, omega arith), visits_in many (n + 1 + count body) rest (omega arith) (omega arith))
  visits_in many n (loop k body rest) pos le = (
    (pos, omega arith, tt),
    in-append many (times k (visit n a_turn ∷ visits_of (n + 1) body)) (visits_of (n + 1 + count body) rest)
        (in-times many k (visit n a_turn ∷ visits_of (n + 1) body) ((pos, omega arith, tt), visits_in many (n + 1) body (omega arith) (omega arith)))
        (visits_in many (n + 1 + count body) rest (omega arith) (omega arith)),
  )

  -- ---- tests

  stays_fault_unless :
      (many : ℕ) (b : Bool) (kind n : ℕ) (o : Outcome UnfoldingState) → 1 ≤ kind → kind ≤ 11 → 1 ≤ n → n ≤ many → Stays many o →
      Stays many (fault_unless b kind n >>= λ _. o)
  stays_fault_unless many true kind n o low high pos le h = h
  stays_fault_unless many false kind n o low high pos le h = (low, high, le, inl pos)

  stays_task : (many n : ℕ) (o : Option Thing) (f : ℕ → Outcome UnfoldingState) → 1 ≤ n → n ≤ many → ((c : ℕ) → Stays many (f c)) → Stays many (as_task n o >>= f)
  stays_task many n None f pos le h = (omega arith, omega arith, le, inl pos)
  stays_task many n (Some (a_task c)) f pos le h = h c
  stays_task many n (Some (a_phaser p)) f pos le h = (omega arith, omega arith, le, inl pos)

  stays_phaser : (many n : ℕ) (o : Option Thing) (f : ℕ → Outcome UnfoldingState) → 1 ≤ n → n ≤ many → ((p : ℕ) → Stays many (f p)) → Stays many (as_phaser n o >>= f)
  stays_phaser many n None f pos le h = (omega arith, omega arith, le, inl pos)
  stays_phaser many n (Some (a_task c)) f pos le h = (omega arith, omega arith, le, inl pos)
  stays_phaser many n (Some (a_phaser p)) f pos le h = h p

  stays_member :
      (many t n : ℕ) (o : Option Thing) (s : UnfoldingState) (f : ℕ → Outcome UnfoldingState) → 1 ≤ n → n ≤ many → ((p : ℕ) → Stays many (f p)) →
      Stays many (member_of t n o s >>= f)
  unfolding member_of
  stays_member many t n None s f pos le h = (omega arith, omega arith, le, inl pos)
  stays_member many t n (Some (a_task c)) s f pos le h = (omega arith, omega arith, le, inl pos)
  stays_member many t n (Some (a_phaser p)) s f pos le h = by (s.members t p)
    where
      by : (b : Bool) → Stays many ((fault_unless b not_member n >>= λ _. Ok p) >>= f)
      by true = h p
      by false = (omega arith, omega arith, le, inl pos)

  stays_child : (many t n c : ℕ) (s : UnfoldingState) (o : Outcome UnfoldingState) → 1 ≤ n → n ≤ many → Stays many o → Stays many (unforked_child t n c s >>= λ _. o)
  stays_child many t n c s o pos le h = by (is_parent t (slice_index_or s.plan.parents c None)) (is_some (slice_index_or s.starts c None))
    where
      by : (a b : Bool) → Stays many ((fault_unless a not_drawn_here n >>= λ _. fault_unless (not b) already_forked n) >>= λ _. o)
      by false b = (omega arith, omega arith, le, inl pos)
      by true true = (omega arith, omega arith, le, inl pos)
      by true false = h

  stays_op : (many t n : ℕ) (o : Op) (s : UnfoldingState) → 1 ≤ n → n ≤ many → ArePartsOf many s → Stays many (add_op t n o s)
  unfolding add_op
  stays_op many t n o s pos le h =
      stays_fault_unless many (nat_lt (sum_by length s.plan.codes) max_ops) too_many_ops n (Ok (record s { plan = with_op t o s.plan })) (omega arith) (omega arith) pos le h

  -- ---- statements, visits and tasks

  module _ (many t n : ℕ) (s : UnfoldingState) (pos : 1 ≤ n) (le : n ≤ many) (h : ArePartsOf many s) where
    stays_act : (x : Plain) → Stays many (act t n x s)
    unfolding act
    stays_act (new_task x) =
        stays_fault_unless many (nat_lt (length s.plan.parents) max_tasks) too_many_tasks n _ (omega arith) (omega arith) pos le
        (stays_fault_unless many (has_cells (length s.plan.parents + 1) (length s.plan.makers)) too_many_cells n (Ok (with_new_task t x s)) (omega arith)
        (omega arith) pos le (λ c. subst (IsPart many) (sym (at_more s.starts None c)) (h c)))
    stays_act (new_phaser x) =
        stays_fault_unless many (nat_lt (length s.plan.makers) max_phasers) too_many_phasers n _ (omega arith) (omega arith) pos le
        (stays_fault_unless many (has_cells (length s.plan.parents) (length s.plan.makers + 1)) too_many_cells n
        (add_op t n (op.Make (phaser (length s.plan.makers))) (with_new_phaser t x s)) (omega arith) (omega arith) pos le
        (stays_op many t n (op.Make (phaser (length s.plan.makers))) (with_new_phaser t x s) pos le h))
    stays_act (reg x y) =
        stays_task many n (s.names x) _ pos le
        (λ c. stays_phaser many n (s.names y) _ pos le
        (λ p. stays_child many t n c s _ pos le
        (stays_fault_unless many (s.members t p) not_member n _ (omega arith) (omega arith) pos le
        (stays_fault_unless many (not (s.members c p)) already_member n _ (omega arith) (omega arith) pos le
        (stays_op many t n (op.Reg (task c) (phaser p)) (with_members (with_member c p true s.members) s) pos le h)))))
    stays_act (dereg x) =
        stays_member many t n (s.names x) s _ pos le (λ p. stays_op many t n (op.Drop (phaser p)) (with_members (with_member t p false s.members) s) pos le h)
    stays_act (adv x) = stays_member many t n (s.names x) s _ pos le (λ p. stays_op many t n (op.Adv (phaser p)) s pos le h)
    stays_act (await x off) = stays_member many t n (s.names x) s _ pos le (λ p. stays_op many t n (op.Await (phaser p) off) s pos le h)
    stays_act skip = h

    stays_fork : (x : List ℕ) (body : Tree) → n + 1 + count body ≤ many + 1 → Stays many (act_fork t n x body s)
    unfolding act_fork
    stays_fork x body part =
        stays_task many n (s.names x) _ pos le
        (λ c. stays_child many t n c s _ pos le
        (stays_op many t n (op.Fork (task c)) (with_start c (record { body = body; first = n + 1; names = s.names }) s) pos le
        (λ d. at_set (IsPart many) s.starts c (Some (record { body = body; first = n + 1; names = s.names })) None d (λ e l. (omega arith, part)) (λ e. h d) (λ l. tt))))

    stays_come : (c : Coming) → HasPart many n c → Stays many (come_to t n c s)
    stays_come (a_plain x) part = stays_act x
    stays_come (a_fork x body) part = stays_fork x body part
    stays_come a_loop part = h
    stays_come a_turn part = h

  stays_then : (many : ℕ) (o : Outcome UnfoldingState) (f : UnfoldingState → Outcome UnfoldingState) → Stays many o →
      ((s : UnfoldingState) → ArePartsOf many s → Stays many (f s)) → Stays many (o >>= f)
  stays_then many (Ok s) f h k = k s h
  stays_then many (Err e) f h k = h

  stays_count : (many n : ℕ) (s : UnfoldingState) → 1 ≤ n → n ≤ many → ArePartsOf many s → Stays many (count_visit n s)
  unfolding count_visit
  stays_count many n s pos le h =
      stays_fault_unless many (nat_lt s.visits max_visits) too_many_visits n (Ok (record s { visits = s.visits + 1 })) (omega arith) (omega arith) pos le h

  stays_visited : (many t : ℕ) (ms : List Visit) (s : UnfoldingState) → AreIn many ms → ArePartsOf many s → Stays many (make_visits t ms s)
  unfolding make_visits
  stays_visited many t [] s i h = h
  stays_visited many t (m ∷ ms) s i h =
      stays_then many (make_visit t m s) (make_visits t ms)
      (stays_then many (count_visit m.statement s) (come_to t m.statement m.coming) (stays_count many m.statement s i.0.0 i.0.1 h)
      (λ s' h'. stays_come many t m.statement s' i.0.0 i.0.1 h' m.coming i.0.2))
      (λ s' h'. stays_visited many t ms s' i.1 h')

  stays_leave : (many t n p : ℕ) (s : UnfoldingState) → two ≡ true → n ≤ many → ArePartsOf many s → Stays many (leave t n p s)
  unfolding leave add_op
  stays_leave many t n p s on le h = by (s.members t p) (nat_lt (sum_by length s.plan.codes) max_ops)
    where
      at_end : (1 ≤ n) ⊎ ((two ≡ true) × (◌≡◌ {A = ℕ} 9 9) × (n ≡ 0))
      at_end = elim (cases_lt 0 n) [ inl l ↦ inl (omega arith) | inr l ↦ inr (on, refl, (let z : n ≡ 0 = omega arith in z)) ]

      by :
          (b r : Bool) →
          Stays many
          (if b then
          (fault_unless r too_many_ops n >>= λ _.
          Ok (record (with_members (with_member t p false s.members) s) { plan = with_op t (op.Drop (phaser p)) s.plan }))
          else Ok s)
      by false r = h
      by true true = h
      by true false = (omega arith, omega arith, le, at_end)

  stays_left : (many t n p : ℕ) (s : UnfoldingState) → two ≡ true → n ≤ many → ArePartsOf many s → Stays many (leave_below t n p s)
  unfolding leave_below
  stays_left many t n zero s on le h = h
  stays_left many t n (suc p) s on le h = stays_then many (leave_below t n p s) (leave t n p) (stays_left many t n p s on le h) (λ s' h'. stays_leave many t n p s' on le h')

  stays_ended : (many t n : ℕ) (b : Bool) (o : Outcome UnfoldingState) → two ≡ b → n ≤ many → Stays many o → Stays many (ended b t n o)
  stays_ended many t n false o is le h = h
  stays_ended many t n true o is le h = stays_then many o (leave_below t n max_phasers) h (λ s' h'. stays_left many t n max_phasers s' is le h')

  stays_unfolded : (many t : ℕ) (o : Option Start) (s : UnfoldingState) → IsPart many o → ArePartsOf many s → Stays many (unfold_task two t o s)
  stays_unfolded many t None s part h = h
  stays_unfolded many t (Some start) s part h =
      stays_ended many t (start.first - 1) two (make_visits t (visits_of start.first start.body) (with_names start.names s)) refl (omega (arith, part.1))
      (stays_visited many t (visits_of start.first start.body) (with_names start.names s) (visits_in many start.first start.body part.0 part.1) h)

  stays_tasks : (many n t : ℕ) (s : UnfoldingState) → ArePartsOf many s → Stays many (unfold_tasks two n t s)
  unfolding unfold_tasks
  stays_tasks many zero t s h = h
  stays_tasks many (suc n) t s h =
      stays_then many (unfold_task two t (slice_index_or s.starts t None) s) (unfold_tasks two n (t + 1))
      (stays_unfolded many t (slice_index_or s.starts t None) s (h t) h) (λ s' h'. stays_tasks many n (t + 1) s' h')

  first_parts : (program : Tree) → ArePartsOf (count program) (opening_state program)
  first_parts program zero = (omega arith, omega arith)
  first_parts program (suc c) = tt

  fault_of : (many : ℕ) (o : Outcome UnfoldingState) (f : CheckFault) → Stays many o → (o >>= λ s. Ok (with_pieces s)) ≡ Err f → IsFaultOf many f
  fault_of many (Ok s) f h e = absurd cc
  fault_of many (Err g) f h e = subst (IsFaultOf many) (let same : g ≡ f = cc in same) h

pub fault_is_of_program : FaultIsOfProgram
unfolding plan_of
fault_is_of_program program f e =
    fault_of program.two (count program.body) (unfold_tasks program.two max_tasks 0 (opening_state program.body)) f
    (stays_tasks program.two (count program.body) max_tasks 0 (opening_state program.body) (first_parts program.two program.body)) e
