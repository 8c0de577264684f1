-- A coming does what its tests, made row by row, say.
use Rattle.std.proofs.Common.{◌≡◌, ℕ, ◌+◌, ◌*◌, ◌<◌, ◌≤◌, Bool, true, false, not, Some, None, Ok, Err, Option, List, [], ◌∷◌, ◌++◌, length, arith, sym, ◌∙◌, ap, refl}
use Rattle.std.specs.Prelude.{◌&&◌, ◌==◌, if◌then◌else◌, is_none, map, nat_le, nat_lt, option_to_list, unwrap_or}
use Rattle.std.specs.List.{list_any}
use Rattle.std.specs.Str.{bytes_eq}
use Rattle.std.proofs.lemmas.Bool.{leb-true, le-leb, ne_eqb}
use Rattle.std.proofs.lemmas.Bool.Decides.{nat_tests}
use Rattle.std.proofs.lemmas.List.{length-append, length-map}
use Rattle.armus_base.specs.Limits.{max_ops}
use Rattle.armus_base.specs.declared.offset.Offset.TheVariants.{Here}
use Rattle.armus_base.specs.declared.op.Op.{Op}
use Rattle.armus_base.specs.declared.op.Op.TheVariants as op
use Rattle.armus_base.specs.Numbers.{phaser, task}
use Rattle.pl_plan.specs.Unfolding.{Outcome, ◌>>=◌, fault, fault_unless}
use Rattle.pl_plan.specs.declared.fault.CheckFault.{CheckFault}
use Rattle.pl_plan.proofs.FirstRows.{answer, first_in, first_of, first_of-append, kind_or, kind_some, none_kind, passes_in, step}
use Rattle.clock_syntax.specs.Trees.{ClockPlain, ClockTree, advance, clock, drop, resume, skip}
use Rattle.clock_semantics.specs.Moves.{Move, advances, begins, drops, ends, opens, ops_of, resumes, starts, stops}
use Rattle.clock_semantics.specs.Unfolding.{ClockPart, ClockUnfolding, a_close, a_finish, a_loop, a_plain, a_turn, an_async, act_async, act_close, act_finish, act_plain, as_clock, clock_act, clock_of, clocks_of, come, coming, count_clock_visit, governed_by, innermost, listed_twice, move_at, next_activity, next_clock, not_registered, start_at, still_pending, stop, naming, too_many_activities, too_many_clock_cells, too_many_clock_ops, too_many_clock_visits, too_many_clocks, with_activity, with_clock_made, with_move}
use Rattle.clock_semantics.specs.calls.ClockTests.{ClockRow, ComesByTable, FaultsByTable, IsFirstClockFault, StopsWithRoom, StopsWithoutRoom, PassesClockTable, after_end, clock_done, clock_named, clock_table, left_at_end, name_rows, names_tested, wants_idle, names_rows, no_activity_left, no_clock_cell_left, no_clock_left, no_clock_op_left, ops_of_end, ops_with, visited}

-- ---- the first row at fault, computed

abbrev kind_in : ClockRow → ℕ
kind_in r = r.kind

abbrev fails_at : ClockUnfolding → ClockRow → Bool
fails_at u r = r.fails u

-- that of these rows, or else this
abbrev first_then : List ClockRow → ClockUnfolding → Option ℕ → Option ℕ
first_then rows u rest = first_of ClockRow kind_in (fails_at u) rows rest

first_then-append : (xs ys : List ClockRow) (u : ClockUnfolding) (rest : Option ℕ) → first_then (xs ++ ys) u rest ≡ first_then xs u (first_then ys u rest)
first_then-append xs ys u rest = first_of-append ClockRow kind_in (fails_at u) xs ys rest

-- ---- what a coming answers

pub bind_assoc : {A B C : Type 0} (o : Outcome A) (f : A → Outcome B) (g : B → Outcome C) → ((o >>= f) >>= g) ≡ (o >>= λ x. f x >>= g)
bind_assoc (Ok x) f g = refl
bind_assoc (Err e) f g = refl

module _ (n : ℕ) (w : ClockUnfolding) where
  module _ (u : ClockUnfolding) where
    name_step :
        (idle : Bool) (earlier : List (List ℕ)) (x : List ℕ) (f : ℕ → Outcome ClockUnfolding) (rest : Option ℕ) → f (clock_named u x) ≡ answer n rest w →
        (clock_of idle n earlier x u.now >>= f) ≡ answer n (first_then (name_rows idle earlier x) u rest) w
    unfolding clock_of
    name_step idle earlier x f rest h = by (u.now.names x) h
      where
        tests :
            (p : ℕ) (a b c : Bool) → f p ≡ answer n rest w →
            ((fault_unless a not_registered n >>= λ _. fault_unless (not b) listed_twice n >>= λ _. fault_unless (not c) still_pending n >>= λ _. Ok p) >>= f)
            ≡ answer n (kind_or (not a) 2 (kind_or b 3 (kind_or c 4 rest))) w
        tests p false b c e = refl
        tests p true true c e = refl
        tests p true false true e = refl
        tests p true false false e = e

        by :
            (o : Option ℕ) → f (unwrap_or o 0) ≡ answer n rest w →
            ((as_clock n o >>= λ p.
            fault_unless (u.now.standing.members p) not_registered n >>= λ _.
            fault_unless (not (list_any (bytes_eq x) earlier)) listed_twice n >>= λ _.
            fault_unless (not (idle && u.now.standing.pending p)) still_pending n >>= λ _. Ok p) >>= f)
            ≡ answer n
            (kind_or (is_none o) 1
            (kind_or (not (u.now.standing.members (unwrap_or o 0))) 2
            (kind_or (list_any (bytes_eq x) earlier) 3 (kind_or (idle && u.now.standing.pending (unwrap_or o 0)) 4 rest)))) w
        by None e = refl
        by (Some p) e = tests p (u.now.standing.members p) (list_any (bytes_eq x) earlier) (idle && u.now.standing.pending p) e

    names_step :
        (earlier xs : List (List ℕ)) (g : List ℕ → Outcome ClockUnfolding) (rest : Option ℕ) → g (map (clock_named u) xs) ≡ answer n rest w →
        (clocks_of n earlier xs u.now >>= g) ≡ answer n (first_then (names_rows true earlier xs) u rest) w
    unfolding clocks_of
    names_step earlier [] g rest h = h
    names_step earlier (x ∷ xs) g rest h =
        let f : ℕ → Outcome (List ℕ) = λ p. clocks_of n (x ∷ earlier) xs u.now >>= λ ps. Ok (p ∷ ps) in
        bind_assoc (clock_of true n earlier x u.now) f g
        ∙ name_step true earlier x (λ p. f p >>= g) (first_then (names_rows true (x ∷ earlier) xs) u rest)
        (bind_assoc (clocks_of n (x ∷ earlier) xs u.now) (λ ps. Ok (clock_named u x ∷ ps)) g
        ∙ names_step (x ∷ earlier) xs (λ ps. g (clock_named u x ∷ ps)) rest h)
        ∙ ap (λ o. answer n o w) (sym (first_then-append (name_rows true earlier x) (names_rows true (x ∷ earlier) xs) u rest))

-- the test of the number of ops, where a move has k of them
op_step :
    (t n : ℕ) (m : Move) (v : ClockUnfolding) (k : ℕ) → length (ops_of v.now.standing m) ≡ k → (k == 0) ≡ false →
    move_at t n m v ≡ answer n (kind_or (not (k == 0) && not (nat_le (v.ops + k) 1048576)) 8 None) (with_move t m v)
unfolding move_at
op_step t n m v k is some =
    ap (λ z. fault_unless (nat_le (v.ops + z) max_ops) too_many_clock_ops n >>= λ _. Ok (with_move t m v)) is
    ∙ step (nat_le (v.ops + k) max_ops) 8 n None (with_move t m v) (Ok (with_move t m v)) refl
    ∙ ap (λ b. answer n (kind_or (not b && not (nat_le (v.ops + k) 1048576)) 8 None) (with_move t m v)) (sym some)

module _ (t n : ℕ) (u : ClockUnfolding) where
  -- what the rows behind the visit say
  abbrev Is : ClockPart → Type 0
  Is part =
      clock_act t n part u
      ≡ answer n
      (first_then (names_rows (wants_idle part) [] (names_tested part)
      ++ (no_activity_left part ∷ no_clock_left part ∷ no_clock_cell_left part ∷ no_clock_op_left part ∷ [])) u None) (clock_done t n part u)

  next_clock_step :
      (w : ClockUnfolding) (f : ℕ → Outcome ClockUnfolding) (rest : Option ℕ) → f (length u.makers) ≡ answer n rest w →
      (next_clock n u >>= f)
      ≡ answer n (kind_or (not (nat_lt (length u.makers) 1024)) 6 (kind_or (not (nat_le (length u.parents * (length u.makers + 1 + 1)) 1048576)) 7 rest)) w
  unfolding next_clock
  next_clock_step w f rest h = by (nat_lt (length u.makers) 1024) (nat_le (length u.parents * (length u.makers + 1 + 1)) 1048576)
    where
      by :
          (a b : Bool) →
          ((fault_unless a too_many_clocks n >>= λ _. fault_unless b too_many_clock_cells n >>= λ _. Ok (length u.makers)) >>= f)
          ≡ answer n (kind_or (not a) 6 (kind_or (not b) 7 rest)) w
      by false b = refl
      by true false = refl
      by true true = h

  next_activity_step :
      (w : ClockUnfolding) (f : ℕ → Outcome ClockUnfolding) (rest : Option ℕ) → f (length u.parents) ≡ answer n rest w →
      (next_activity n u >>= f)
      ≡ answer n (kind_or (not (nat_lt (length u.parents) 4096)) 5 (kind_or (not (nat_le ((length u.parents + 1) * (length u.makers + 1)) 1048576)) 7 rest)) w
  unfolding next_activity
  next_activity_step w f rest h = by (nat_lt (length u.parents) 4096) (nat_le ((length u.parents + 1) * (length u.makers + 1)) 1048576)
    where
      by :
          (a b : Bool) →
          ((fault_unless a too_many_activities n >>= λ _. fault_unless b too_many_clock_cells n >>= λ _. Ok (length u.parents)) >>= f)
          ≡ answer n (kind_or (not a) 5 (kind_or (not b) 7 rest)) w
      by false b = refl
      by true false = refl
      by true true = h

  plain_is : (x : ClockPlain) → Is (a_plain x)
  unfolding act_plain
  plain_is (clock x) =
      next_clock_step (clock_done t n (a_plain (clock x)) u) (λ p. move_at t n (opens p) (naming x p (with_clock_made t u)))
      (first_then (no_clock_op_left (a_plain (clock x)) ∷ []) u None)
      (op_step t n (opens (length u.makers)) (naming x (length u.makers) (with_clock_made t u)) 1 refl refl)
  plain_is (advance x) =
      name_step n (clock_done t n (a_plain (advance x)) u) u false [] x (λ p. move_at t n (advances p) u)
      (first_then (no_clock_op_left (a_plain (advance x)) ∷ []) u None)
      (op_step t n (advances (clock_named u x)) u (ops_with u (a_plain (advance x))) (many (u.now.standing.pending (clock_named u x)))
      (some (u.now.standing.pending (clock_named u x))))
    where
      many : (b : Bool) → length ((if b then [] else op.Adv (phaser (clock_named u x)) ∷ []) ++ op.Await (phaser (clock_named u x)) Here ∷ []) ≡ (if b then 1 else 2)
      many true = refl
      many false = refl

      some : (b : Bool) → ((if b then 1 else 2) == 0) ≡ false
      some true = refl
      some false = refl
  plain_is (resume x) =
      name_step n (clock_done t n (a_plain (resume x)) u) u true [] x (λ p. move_at t n (resumes p) u)
      (first_then (no_clock_op_left (a_plain (resume x)) ∷ []) u None) (op_step t n (resumes (clock_named u x)) u 1 refl refl)
  plain_is (drop x) =
      name_step n (clock_done t n (a_plain (drop x)) u) u false [] x (λ p. move_at t n (drops p) u)
      (first_then (no_clock_op_left (a_plain (drop x)) ∷ []) u None) (op_step t n (drops (clock_named u x)) u 1 refl refl)
  plain_is skip = refl

  async_is : (xs : List (List ℕ)) (body : ClockTree) → Is (an_async xs body)
  unfolding act_async
  async_is xs body =
      let part = an_async xs body in
      let ps = map (clock_named u) xs in
      let last = first_then (no_clock_op_left part ∷ []) u None in
      let f = innermost u.now.governing in
      let m = starts (length u.parents) ps f in
      let tail : List ClockRow = no_activity_left part ∷ no_clock_left part ∷ no_clock_cell_left part ∷ no_clock_op_left part ∷ [] in
      names_step n (clock_done t n part u) u [] xs
      (λ qs. next_activity n u >>= λ c. move_at t n (starts c qs f) (with_activity t (start_at n body qs u.now) u)) (first_then tail u None)
      (next_activity_step (clock_done t n part u) (λ c. move_at t n (starts c ps f) (with_activity t (start_at n body ps u.now) u)) last
      (op_step t n m (with_activity t (start_at n body ps u.now) u) (ops_with u part)
      (many ps f ∙ ap (λ k. k + (length (option_to_list f) + 1)) (length-map xs (clock_named u)))
      (ne_eqb (ops_with u part) 0 (λ e. absurd (omega arith)))))
      ∙ ap (λ o. answer n o (clock_done t n part u)) (sym (first_then-append (names_rows true [] xs) tail u None))
    where
      many :
          (ps : List ℕ) (f : Option ℕ) →
          length (ops_of u.now.standing (starts (length u.parents) ps f)) ≡ length ps + (length (option_to_list f) + 1)
      many ps f =
          let g : ℕ → Op = λ p. op.Reg (task (length u.parents)) (phaser p) in
          let behind = map g (option_to_list f) ++ op.Fork (task (length u.parents)) ∷ [] in
          omega (
            arith,
            length-append (map g ps) behind,
            length-append (map g (option_to_list f)) (op.Fork (task (length u.parents)) ∷ []),
            length-map ps g,
            length-map (option_to_list f) g,
          )

  finish_is : Is a_finish
  unfolding act_finish
  finish_is =
      next_clock_step (clock_done t n a_finish u) (λ f. move_at t n (begins f) (governed_by (f ∷ u.now.governing) (with_clock_made t u)))
      (first_then (no_clock_op_left a_finish ∷ []) u None)
      (op_step t n (begins (length u.makers)) (governed_by (length u.makers ∷ u.now.governing) (with_clock_made t u)) 1 refl refl)

  close_is : (fs : List ℕ) →
      act_close t n fs u ≡ answer n (kind_or (not (ops_of_end fs == 0) && not (nat_le (u.ops + ops_of_end fs) 1048576)) 8 None) (after_end t fs u)
  unfolding act_close
  close_is [] = refl
  close_is (f ∷ fs) = op_step t n (ends f) (governed_by fs u) 3 refl refl

  act_is : (part : ClockPart) → Is part
  act_is (a_plain x) = plain_is x
  act_is (an_async xs body) = async_is xs body
  act_is a_finish = finish_is
  act_is a_close = close_is u.now.governing
  act_is a_loop = refl
  act_is a_turn = refl

-- the rows behind that of the visit
abbrev later_rows : ClockPart → List ClockRow
later_rows part =
    names_rows (wants_idle part) [] (names_tested part) ++ (no_activity_left part ∷ no_clock_left part ∷ no_clock_cell_left part ∷ no_clock_op_left part ∷ [])

-- say nothing of the number of visits
names_again :
    (u : ClockUnfolding) (v : ℕ) (idle : Bool) (earlier xs : List (List ℕ)) (rest : Option ℕ) →
    first_then (names_rows idle earlier xs) (record u { visits = v }) rest ≡ first_then (names_rows idle earlier xs) u rest
names_again u v idle earlier [] rest = refl
names_again u v idle earlier (x ∷ xs) rest =
    first_then-append (name_rows idle earlier x) (names_rows idle (x ∷ earlier) xs) (record u { visits = v }) rest
    ∙ ap (first_then (name_rows idle earlier x) u) (names_again u v idle (x ∷ earlier) xs rest)
    ∙ sym (first_then-append (name_rows idle earlier x) (names_rows idle (x ∷ earlier) xs) u rest)

rows_again : (part : ClockPart) (u : ClockUnfolding) (v : ℕ) → first_then (later_rows part) (record u { visits = v }) None ≡ first_then (later_rows part) u None
rows_again (a_plain (clock x)) u v = refl
rows_again (a_plain (advance x)) u v = refl
rows_again (a_plain (resume x)) u v = refl
rows_again (a_plain (drop x)) u v = refl
rows_again (a_plain skip) u v = refl
rows_again (an_async xs body) u v =
    let part = an_async xs body in
    let tail : List ClockRow = no_activity_left part ∷ no_clock_left part ∷ no_clock_cell_left part ∷ no_clock_op_left part ∷ [] in
    first_then-append (names_rows true [] xs) tail (record u { visits = v }) None
    ∙ names_again u v true [] xs (first_then tail u None) ∙ sym (first_then-append (names_rows true [] xs) tail u None)
rows_again a_finish u v = refl
rows_again a_close u v = refl
rows_again a_loop u v = refl
rows_again a_turn u v = refl

-- a visit more, and then the part
visit_step :
    (t n : ℕ) (part : ClockPart) (u : ClockUnfolding) →
    (count_clock_visit n u >>= clock_act t n part)
    ≡ answer n (kind_or (not (nat_lt u.visits 4194304)) 9 (first_then (later_rows part) u None)) (clock_done t n part (record u { visits = u.visits + 1 }))
unfolding count_clock_visit
visit_step t n part u = by (nat_lt u.visits 4194304)
  where
    by :
        (b : Bool) →
        ((fault_unless b too_many_clock_visits n >>= λ _. Ok (record u { visits = u.visits + 1 })) >>= clock_act t n part)
        ≡ answer n (kind_or (not b) 9 (first_then (later_rows part) u None)) (clock_done t n part (record u { visits = u.visits + 1 }))
    by false = refl
    by true =
        act_is t n (record u { visits = u.visits + 1 }) part
        ∙ ap (λ o. answer n o (clock_done t n part (record u { visits = u.visits + 1 }))) (rows_again part u (u.visits + 1))

come_is : (t n : ℕ) (part : ClockPart) (u : ClockUnfolding) → come t (coming n part) u ≡ answer n (first_then (clock_table part) u None) (clock_done t n part (visited part u))
come_is t n (a_plain x) u = visit_step t n (a_plain x) u
come_is t n (an_async xs body) u = visit_step t n (an_async xs body) u
come_is t n a_finish u = visit_step t n a_finish u
come_is t n a_close u = act_is t n u a_close
come_is t n a_loop u = visit_step t n a_loop u
come_is t n a_turn u = visit_step t n a_turn u

-- ---- the first row at fault

first_fault : (rows : List ClockRow) (u : ClockUnfolding) (kind : ℕ) → first_then rows u None ≡ Some kind → IsFirstClockFault rows u kind
first_fault rows u kind e =
    let f = first_in ClockRow kind_in (fails_at u) rows kind e in
    record { before = f.before; failing = f.failing; after = f.after; of_table = f.of_rows; passed = f.passed; fails = f.fails_here; kind_is = f.kind_is }

-- and back
kind_of_first : (rows : List ClockRow) (u : ClockUnfolding) (kind : ℕ) → IsFirstClockFault rows u kind → first_then rows u None ≡ Some kind
kind_of_first rows u kind f =
    kind_some ClockRow kind_in (fails_at u) rows kind
    (record { before = f.before; failing = f.failing; after = f.after; of_rows = f.of_table; passed = f.passed; fails_here = f.fails; kind_is = f.kind_is })

-- ---- the laws

module _ (n : ℕ) (rows : List ClockRow) (u w : ClockUnfolding) where
  answered : (o : Option ℕ) (z : ClockUnfolding) → first_then rows u None ≡ o → answer n o w ≡ Ok z → PassesClockTable rows u × z ≡ w
  answered None z is e = (passes_in ClockRow kind_in (fails_at u) rows is, sym (same w z e))
    where
      same : (x y : ClockUnfolding) → ◌≡◌ {A = Outcome ClockUnfolding} (Ok x) (Ok y) → x ≡ y
      same x y e = cc
  answered (Some kind) z is e = absurd cc

  at_fault : (o : Option ℕ) (f : CheckFault) → first_then rows u None ≡ o → answer n o w ≡ Err f → f.statement ≡ n × IsFirstClockFault rows u f.kind
  at_fault None f is e = absurd cc
  at_fault (Some kind) f is e =
      let same : fault kind n ≡ f = cc in
      (ap (λ (z : CheckFault). z.statement) (sym same), first_fault rows u f.kind (is ∙ ap (λ (z : CheckFault). Some z.kind) same))

pub comes_by_table : ComesByTable
comes_by_table t m u w = (
  λ e. answered m.statement (clock_table m.part) u (clock_done t m.statement m.part (visited m.part u)) (first_then (clock_table m.part) u None) w refl
      (sym (come_is t m.statement m.part u) ∙ e),
  λ h. come_is t m.statement m.part u
      ∙ ap (λ o. answer m.statement o (clock_done t m.statement m.part (visited m.part u))) (none_kind ClockRow kind_in (fails_at u) (clock_table m.part) h.0) ∙ ap Ok (sym h.1),
)

pub faults_by_table : FaultsByTable
faults_by_table t m u f = (
  λ e. at_fault m.statement (clock_table m.part) u (clock_done t m.statement m.part (visited m.part u)) (first_then (clock_table m.part) u None) f refl
      (sym (come_is t m.statement m.part u) ∙ e),
  λ h. come_is t m.statement m.part u
      ∙ ap (λ o. answer m.statement o (clock_done t m.statement m.part (visited m.part u))) (kind_of_first (clock_table m.part) u f.kind h.1)
      ∙ ap (λ n. Err (fault f.kind n)) (sym h.0),
)

-- ---- the end of an activity

module _ (t n : ℕ) (u : ClockUnfolding) where
  abbrev stopped : ClockUnfolding
  stopped = with_move t (stops (left_at_end u)) u

  abbrev many : ℕ
  many = u.ops + length (left_at_end u)

  stop_is : stop t n u ≡ answer n (kind_or (not (nat_le many 1048576)) 8 None) stopped
  unfolding stop move_at
  stop_is =
      step (nat_le (u.ops + length (ops_of u.now.standing (stops (left_at_end u)))) max_ops) 8 n None stopped (Ok stopped) refl
      ∙ ap (λ k. answer n (kind_or (not (nat_le (u.ops + k) 1048576)) 8 None) stopped) (length-map (left_at_end u) (λ p. op.Drop (phaser p)))

  with_room : (b : Bool) (w : ClockUnfolding) → nat_le many 1048576 ≡ b → answer n (kind_or (not b) 8 None) stopped ≡ Ok w → many ≤ 1048576 × w ≡ stopped
  with_room true w is e = (leb-true many 1048576 is, sym (same stopped w e))
    where
      same : (x y : ClockUnfolding) → ◌≡◌ {A = Outcome ClockUnfolding} (Ok x) (Ok y) → x ≡ y
      same x y e = cc
  with_room false w is e = absurd cc

  without_room :
      (b : Bool) (f : CheckFault) → nat_le many 1048576 ≡ b → answer n (kind_or (not b) 8 None) stopped ≡ Err f → 1048576 < many × f.kind ≡ 8 × f.statement ≡ n
  without_room true f is e = absurd cc
  without_room false f is e =
      let same : fault 8 n ≡ f = cc in
      (grind (arith, nat_tests), ap (λ (z : CheckFault). z.kind) (sym same), ap (λ (z : CheckFault). z.statement) (sym same))

pub stops_with_room : StopsWithRoom
stops_with_room t n u w = (
  λ e. with_room t n u (nat_le (many t n u) 1048576) w refl (sym (stop_is t n u) ∙ e),
  λ h. stop_is t n u ∙ ap (λ b. answer n (kind_or (not b) 8 None) (stopped t n u)) (le-leb (many t n u) 1048576 h.0) ∙ ap Ok (sym h.1),
)

pub stops_without_room : StopsWithoutRoom
stops_without_room t n u f = (
  λ e. without_room t n u (nat_le (many t n u) 1048576) f refl (sym (stop_is t n u) ∙ e),
  λ h. let full : nat_le (many t n u) 1048576 ≡ false = grind (arith, nat_tests) in
      let same : fault 8 n ≡ f = ap (λ k. fault k n) (sym h.1) ∙ ap (fault f.kind) (sym h.2) in
      stop_is t n u ∙ ap (λ b. answer n (kind_or (not b) 8 None) (stopped t n u)) full ∙ ap Err same,
)
