-- A fault of a clock program has one of the nine kinds, and the number of a statement.
use Rattle.std.proofs.Common.{◌≡◌, ℕ, zero, suc, ◌+◌, ◌-◌, ◌≤◌, ◌⊎◌, Bool, true, false, not, Some, None, Ok, Err, Option, List, [], ◌∷◌, ◌++◌, length, arith, sym, ◌∙◌, ap, subst, refl, inl, inr}
use Rattle.std.specs.Prelude.{◌&&◌, nat_le, nat_lt, slice_get}
use Rattle.std.specs.List.{list_any}
use Rattle.std.specs.Str.{bytes_eq}
use Rattle.std.proofs.lemmas.Bool.{cases_lt, cases_order}
use Rattle.std.proofs.lemmas.List.{length-append}
use Rattle.std.proofs.lemmas.Option.{slice_get_past}
use Rattle.armus_base.specs.Limits.{max_ops, max_phasers, max_tasks}
use Rattle.armus_base.specs.Pieces.{times}
use Rattle.armus_base.proofs.Lists.{slice_get-append}
use Rattle.pl_plan.specs.Limits.{max_visits}
use Rattle.pl_plan.specs.Unfolding.{Outcome, ◌>>=◌, fault_unless, has_cells}
use Rattle.pl_plan.specs.declared.fault.CheckFault.{CheckFault}
use Rattle.pl_plan.proofs.Tables.{slice_get-last}
use Rattle.clock_syntax.specs.Trees.{ClockPlain, ClockTree, advance, async, clock, clock_count, done, drop, finish, loop, plain, resume, skip}
use Rattle.clock_semantics.specs.calls.Laws.{ClockFaultIsOfText}
use Rattle.clock_semantics.specs.Moves.{Move, advances, begins, drops, ends, opens, ops_of, resumes, starts, stops}
use Rattle.clock_semantics.specs.Unfolding.{ClockComing, ClockPart, ClockStart, ClockUnfolding, Current, a_close, a_finish, a_loop, a_plain, a_turn, an_async, act_async, act_close, act_finish, act_plain, as_clock, clock_act, clock_of, clock_opening, clock_plan_of, clock_unfolded, clocks_of, come, come_all, coming, comings_of, count_clock_visit, counted_coming, governed_by, innermost, listed_twice, move_at, naming, next_activity, next_clock, not_registered, nothing_known, numbers_of, plan_of_moves, start_at, still_pending, stop, too_many_activities, too_many_clock_cells, too_many_clock_ops, too_many_clock_visits, too_many_clocks, unfold_activities, unfold_started, with_activity, with_clock_made, with_known, with_move}

-- a fault of a program with so many statements
abbrev IsFaultOf : ℕ → CheckFault → Type 0
IsFaultOf many f = (1 ≤ f.kind) × (f.kind ≤ 9) × (f.statement ≤ many) × ((1 ≤ f.statement) ⊎ ((f.kind ≡ 8) × (f.statement ≡ 0)))

-- what is answered has this property, or it is such a fault
abbrev Gives : {A : Type 0} → ℕ → (A → Type 0) → Outcome A → Type 0
Gives many P (Ok x) = P x
Gives many P (Err f) = IsFaultOf many f

gives_then :
    {A B : Type 0} (many : ℕ) (P : A → Type 0) (Q : B → Type 0) (o : Outcome A) (f : A → Outcome B) → Gives many P o → ((x : A) → P x → Gives many Q (f x)) →
    Gives many Q (o >>= f)
gives_then many P Q (Ok x) f h k = k x h
gives_then many P Q (Err e) f h k = h

-- nothing more is asked of what is answered
abbrev Any : {A : Type 0} → A → Type 0
Any x = Unit {0}

gives_test : (many : ℕ) (b : Bool) (kind n : ℕ) → 1 ≤ kind → kind ≤ 9 → 1 ≤ n → n ≤ many → Gives many Any (fault_unless b kind n)
gives_test many true kind n low high pos le = tt
gives_test many false kind n low high pos le = (low, high, le, inl pos)

-- the body of a start is a part of the program
abbrev IsPartOf : ℕ → ClockStart → Type 0
IsPartOf many start = (1 ≤ start.first) × (start.first + clock_count start.body ≤ many + 1)

abbrev ArePartsOf : ℕ → ClockUnfolding → Type 0
ArePartsOf many u = (c : ℕ) (start : ClockStart) → slice_get u.starts c ≡ Some start → IsPartOf many start

-- ---- the comings of a part have the numbers of its statements

abbrev HasPart : ℕ → ℕ → ClockPart → Type 0
HasPart many n (an_async xs body) = n + 1 + clock_count body ≤ many + 1
HasPart many n part = Unit {0}

abbrev AreIn : ℕ → List ClockComing → Type 0
AreIn many [] = Unit {0}
AreIn many (m ∷ ms) = ((1 ≤ m.statement) × (m.statement ≤ many) × HasPart many m.statement m.part) × AreIn many ms

in-append : (many : ℕ) (xs ys : List ClockComing) → AreIn many xs → AreIn many ys → AreIn many (xs ++ ys)
in-append many [] ys h k = k
in-append many (x ∷ xs) ys h k = (h.0, in-append many xs ys h.1 k)

in-times : (many k : ℕ) (xs : List ClockComing) → AreIn many xs → AreIn many (times k xs)
in-times many zero xs h = tt
in-times many (suc k) xs h = in-append many xs (times k xs) h (in-times many k xs h)

comings_in : (many n : ℕ) (tree : ClockTree) → 1 ≤ n → n + clock_count tree ≤ many + 1 → AreIn many (comings_of n tree)
comings_in many n done pos le = tt
comings_in many n (plain s rest) pos le = ((pos, omega arith, tt), comings_in many (n + 1) rest (omega arith) (omega arith))
comings_in many n (async xs body rest) pos le =
    ((pos, omega arith, omega arith), comings_in many (n + 1 + clock_count body) rest (omega arith) (omega arith))
comings_in many n (finish body rest) pos le = (
  (pos, omega arith, tt),
  in-append many (comings_of (n + 1) body) (coming n a_close ∷ comings_of (n + 1 + clock_count body) rest)
      (comings_in many (n + 1) body (omega arith) (omega arith))
      ((pos, omega arith, tt), comings_in many (n + 1 + clock_count body) rest (omega arith) (omega arith)),
)
comings_in many n (loop k body rest) pos le = (
  (pos, omega arith, tt),
  in-append many (times k (coming n a_turn ∷ comings_of (n + 1) body)) (comings_of (n + 1 + clock_count body) rest)
      (in-times many k (coming n a_turn ∷ comings_of (n + 1) body) ((pos, omega arith, tt), comings_in many (n + 1) body (omega arith) (omega arith)))
      (comings_in many (n + 1 + clock_count body) rest (omega arith) (omega arith)),
)

-- ---- statements

module _ (many n : ℕ) (pos : 1 ≤ n) (le : n ≤ many) where
  test_then : {B : Type 0} (Q : B → Type 0) (b : Bool) (kind : ℕ) (o : Outcome B) → 1 ≤ kind → kind ≤ 9 → Gives many Q o → Gives many Q (fault_unless b kind n >>= λ _. o)
  test_then Q b kind o low high h = gives_then many Any Q (fault_unless b kind n) (λ _. o) (gives_test many b kind n low high pos le) (λ _ _. h)

  gives_clock : (idle : Bool) (earlier : List (List ℕ)) (x : List ℕ) (now : Current) → Gives many Any (clock_of idle n earlier x now)
  unfolding clock_of
  gives_clock idle earlier x now = gives_then many Any Any (as_clock n (now.names x)) _ (known (now.names x))
      (λ p _. test_then Any (now.standing.members p) not_registered _ (omega arith) (omega arith)
      (test_then Any (not (list_any (bytes_eq x) earlier)) listed_twice _ (omega arith) (omega arith)
      (test_then Any (not (idle && now.standing.pending p)) still_pending (Ok p) (omega arith) (omega arith) tt)))
    where
      known : (o : Option ℕ) → Gives many Any (as_clock n o)
      known None = (omega arith, omega arith, le, inl pos)
      known (Some p) = tt

  gives_clocks : (earlier xs : List (List ℕ)) (now : Current) → Gives many Any (clocks_of n earlier xs now)
  unfolding clocks_of
  gives_clocks earlier [] now = tt
  gives_clocks earlier (x ∷ xs) now = gives_then many Any Any (clock_of true n earlier x now) _ (gives_clock true earlier x now)
      (λ p _. gives_then many Any Any (clocks_of n (x ∷ earlier) xs now) _ (gives_clocks (x ∷ earlier) xs now) (λ ps _. tt))

  gives_next_clock : (u : ClockUnfolding) → Gives many Any (next_clock n u)
  unfolding next_clock
  gives_next_clock u =
      test_then Any (nat_lt (length u.makers) max_phasers) too_many_clocks _ (omega arith) (omega arith)
      (test_then Any (has_cells (length u.parents) (length u.makers + 1)) too_many_clock_cells (Ok (length u.makers)) (omega arith) (omega arith) tt)

  gives_next_activity : (u : ClockUnfolding) → Gives many Any (next_activity n u)
  unfolding next_activity
  gives_next_activity u =
      test_then Any (nat_lt (length u.parents) max_tasks) too_many_activities _ (omega arith) (omega arith)
      (test_then Any (has_cells (length u.parents + 1) (length u.makers)) too_many_clock_cells (Ok (length u.parents)) (omega arith) (omega arith) tt)

  gives_move : (t : ℕ) (m : Move) (u : ClockUnfolding) → ArePartsOf many u → Gives many (ArePartsOf many) (move_at t n m u)
  unfolding move_at
  gives_move t m u h =
      test_then (ArePartsOf many) (nat_le (u.ops + length (ops_of u.now.standing m)) max_ops) too_many_clock_ops (Ok (with_move t m u)) (omega arith) (omega arith) h

  module _ (t : ℕ) (u : ClockUnfolding) (h : ArePartsOf many u) where
    gives_plain : (x : ClockPlain) → Gives many (ArePartsOf many) (act_plain t n x u)
    unfolding act_plain
    gives_plain (clock x) =
        gives_then many Any (ArePartsOf many) (next_clock n u) _ (gives_next_clock u) (λ p _. gives_move t (opens p) (naming x p (with_clock_made t u)) h)
    gives_plain (advance x) =
        gives_then many Any (ArePartsOf many) (clock_of false n [] x u.now) _ (gives_clock false [] x u.now) (λ p _. gives_move t (advances p) u h)
    gives_plain (resume x) =
        gives_then many Any (ArePartsOf many) (clock_of true n [] x u.now) _ (gives_clock true [] x u.now) (λ p _. gives_move t (resumes p) u h)
    gives_plain (drop x) =
        gives_then many Any (ArePartsOf many) (clock_of false n [] x u.now) _ (gives_clock false [] x u.now) (λ p _. gives_move t (drops p) u h)
    gives_plain skip = h

    started_part : (body : ClockTree) (ps : List ℕ) → n + 1 + clock_count body ≤ many + 1 → ArePartsOf many (with_activity t (start_at n body ps u.now) u)
    started_part body ps part c s e =
        let start = start_at n body ps u.now in
        elim (cases_order c (length u.starts)) [
          | inl same ↦
              (let is : start ≡ s = some_is start s (sym (slice_get-last u.starts start) ∙ ap (slice_get (u.starts ++ start ∷ [])) (sym same) ∙ e) in
              subst (IsPartOf many) is (omega arith, part))
          | inr (inl before) ↦ h c s (sym (slice_get-append u.starts (start ∷ []) c before) ∙ e)
          | inr (inr behind) ↦ absurd (let z = slice_get_past (u.starts ++ start ∷ []) c (omega (arith, length-append u.starts (start ∷ []))) in cc)
        ]
      where
        some_is : (x y : ClockStart) → ◌≡◌ {A = Option ClockStart} (Some x) (Some y) → x ≡ y
        some_is x y e = cc

    gives_async : (xs : List (List ℕ)) (body : ClockTree) → n + 1 + clock_count body ≤ many + 1 → Gives many (ArePartsOf many) (act_async t n xs body u)
    unfolding act_async
    gives_async xs body part =
        gives_then many Any (ArePartsOf many) (clocks_of n [] xs u.now) _ (gives_clocks [] xs u.now)
        (λ ps _. gives_then many Any (ArePartsOf many) (next_activity n u) _ (gives_next_activity u)
        (λ c _. gives_move t (starts c ps (innermost u.now.governing)) (with_activity t (start_at n body ps u.now) u) (started_part body ps part)))

    gives_finish : Gives many (ArePartsOf many) (act_finish t n u)
    unfolding act_finish
    gives_finish =
        gives_then many Any (ArePartsOf many) (next_clock n u) _ (gives_next_clock u)
        (λ f _. gives_move t (begins f) (governed_by (f ∷ u.now.governing) (with_clock_made t u)) h)

    gives_close : (fs : List ℕ) → Gives many (ArePartsOf many) (act_close t n fs u)
    unfolding act_close
    gives_close [] = h
    gives_close (f ∷ fs) = gives_move t (ends f) (governed_by fs u) h

    gives_act : (part : ClockPart) → HasPart many n part → Gives many (ArePartsOf many) (clock_act t n part u)
    gives_act (a_plain x) part = gives_plain x
    gives_act (an_async xs body) part = gives_async xs body part
    gives_act a_finish part = gives_finish
    gives_act a_close part = gives_close u.now.governing
    gives_act a_loop part = h
    gives_act a_turn part = h

    gives_visit : Gives many (ArePartsOf many) (count_clock_visit n u)
    unfolding count_clock_visit
    gives_visit =
        test_then (ArePartsOf many) (nat_lt u.visits max_visits) too_many_clock_visits (Ok (record u { visits = u.visits + 1 })) (omega arith) (omega arith) h

    gives_counted : (part : ClockPart) → Gives many (ArePartsOf many) (counted_coming n part u)
    gives_counted (a_plain x) = gives_visit
    gives_counted (an_async xs body) = gives_visit
    gives_counted a_finish = gives_visit
    gives_counted a_close = h
    gives_counted a_loop = gives_visit
    gives_counted a_turn = gives_visit

-- ---- activities

gives_comings : (many t : ℕ) (ms : List ClockComing) (u : ClockUnfolding) → AreIn many ms → ArePartsOf many u → Gives many (ArePartsOf many) (come_all t ms u)
unfolding come_all
gives_comings many t [] u i h = h
gives_comings many t (m ∷ ms) u i h =
    gives_then many (ArePartsOf many) (ArePartsOf many) (come t m u) (come_all t ms)
    (gives_then many (ArePartsOf many) (ArePartsOf many) (counted_coming m.statement m.part u) (clock_act t m.statement m.part)
    (gives_counted many m.statement i.0.0 i.0.1 t u h m.part) (λ v k. gives_act many m.statement i.0.0 i.0.1 t v k m.part i.0.2))
    (λ v k. gives_comings many t ms v i.1 k)

gives_stop : (many t n : ℕ) (u : ClockUnfolding) → n ≤ many → ArePartsOf many u → Gives many (ArePartsOf many) (stop t n u)
unfolding stop move_at
gives_stop many t n u le h = by (nat_le (u.ops + length (ops_of u.now.standing (stops (numbers_of u.now.standing.members (length u.makers))))) max_ops)
  where
    at_end : (1 ≤ n) ⊎ ((◌≡◌ {A = ℕ} 8 8) × (n ≡ 0))
    at_end = elim (cases_lt 0 n) [ inl l ↦ inl (omega arith) | inr l ↦ inr (refl, (let z : n ≡ 0 = omega arith in z)) ]

    by :
        (b : Bool) →
        Gives many (ArePartsOf many) (fault_unless b too_many_clock_ops n >>= λ _. Ok (with_move t (stops (numbers_of u.now.standing.members (length u.makers))) u))
    by true = h
    by false = (omega arith, omega arith, le, at_end)

gives_started : (many t : ℕ) (u : ClockUnfolding) (o : Option ClockStart) → slice_get u.starts t ≡ o → ArePartsOf many u → Gives many (ArePartsOf many) (unfold_started t o u)
gives_started many t u None is h = h
gives_started many t u (Some start) is h =
    let part = h t start is in
    gives_then many (ArePartsOf many) (ArePartsOf many) (come_all t (comings_of start.first start.body) (with_known start.known u)) (stop t (start.first - 1))
    (gives_comings many t (comings_of start.first start.body) (with_known start.known u) (comings_in many start.first start.body part.0 part.1) h)
    (λ v k. gives_stop many t (start.first - 1) v (omega (arith, part.1)) k)

gives_activities : (many n t : ℕ) (u : ClockUnfolding) → ArePartsOf many u → Gives many (ArePartsOf many) (unfold_activities n t u)
unfolding unfold_activities
gives_activities many zero t u h = h
gives_activities many (suc n) t u h =
    gives_then many (ArePartsOf many) (ArePartsOf many) (unfold_started t (slice_get u.starts t) u) (unfold_activities n (t + 1))
    (gives_started many t u (slice_get u.starts t) refl h) (λ v k. gives_activities many n (t + 1) v k)

first_parts : (p : ClockTree) → ArePartsOf (clock_count p) (clock_opening p)
first_parts p zero start e =
    let whole : ClockStart = record { body = p; first = 1; known = nothing_known } in
    let same : whole ≡ start = (let q : Some whole ≡ Some start = e in cc) in
    subst (IsPartOf (clock_count p)) same (omega arith, omega arith)
first_parts p (suc c) start e = absurd (let q = slice_get_past (clock_opening p).starts (suc c) (omega arith) in cc)

fault_is : (many : ℕ) (o : Outcome ClockUnfolding) (f : CheckFault) → Gives many (ArePartsOf many) o → (o >>= λ u. Ok (plan_of_moves u)) ≡ Err f → IsFaultOf many f
fault_is many (Ok u) f h e = absurd cc
fault_is many (Err g) f h e = subst (IsFaultOf many) (let same : g ≡ f = cc in same) h

pub clock_fault_is_of_text : ClockFaultIsOfText
unfolding clock_plan_of clock_unfolded
clock_fault_is_of_text p f e =
    fault_is (clock_count p) (unfold_activities max_tasks 0 (clock_opening p)) f (gives_activities (clock_count p) max_tasks 0 (clock_opening p) (first_parts p)) e
