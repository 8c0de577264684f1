-- Comings one after the other.
use Rattle.std.proofs.Common.{◌≡◌, ℕ, zero, suc, ◌+◌, ◌-◌, ◌<◌, ◌≤◌, List, [], ◌∷◌, ◌++◌, length, take, drop, get_or, Ok, Err, Result, sym, ap, ◌∙◌, subst, refl, arith, append_assoc}
use Rattle.std.proofs.lemmas.List.{take_more, drop_more, append-nil}
use Rattle.std.proofs.lemmas.List.{take-append-drop, take_all}
use Rattle.armus_base.specs.Pieces.{times}
use Rattle.clock_syntax.specs.declared.tree.ClockStmt.{ClockStmt}
use Rattle.clock_syntax.specs.declared.tree.ClockStmt.TheVariants as s
use Rattle.clock_syntax.specs.Trees.{ClockTree, done, clock_count}
use Rattle.clock_syntax.specs.calls.Bodies.{clock_followed_by, clock_tree_of}
use Rattle.clock_syntax.proofs.ClockParts.{clock_count_first, clock_counts}
use Rattle.clock_semantics.specs.Unfolding.{ClockComing, a_close, a_turn, coming, comings_of}
use Rattle.clock_semantics.proofs.ByClockTable.{bind_assoc}
use Rattle.clock_semantics.proofs.NextComings.{first_comings, times_more}
use Rattle.pl_plan.specs.Unfolding.{Outcome, ◌>>=◌}
use Rattle.pl_plan.specs.declared.fault.CheckFault.{CheckFault}
use Rattle.clock_pl.specs.declared.fault.ClockEnd.{ClockEnd}
use Rattle.clock_pl.specs.declared.fault.ClockEnd.TheVariants as ends_by
use Rattle.clock_pl.specs.calls.ClockPlanning.{as_fault}
use Rattle.clock_pl.specs.inside.ClockChecker.{ClockChecker}
use Rattle.clock_pl.specs.inside.ClockCheckerSteps.{GivesClockChecker, checker_async, checker_close, checker_come, checker_come_all, checker_finish, checker_open, checker_statement, checker_visit}
use Rattle.clock_pl.proofs.Listing.{bind_same}

pub come_all-append : (ms ns : List ClockComing) (k : ClockChecker) → checker_come_all (ms ++ ns) k ≡ (checker_come_all ms k >>= checker_come_all ns)
unfolding checker_come_all
come_all-append [] ns k = refl
come_all-append (m ∷ ms) ns k =
    bind_same (checker_come m k) (checker_come_all (ms ++ ns)) (λ k. checker_come_all ms k >>= checker_come_all ns) (λ k. come_all-append ms ns k)
    ∙ sym (bind_assoc (checker_come m k) (checker_come_all ms) (checker_come_all ns))

one_over : (o : Outcome ClockChecker) → (o >>= checker_come_all []) ≡ o
unfolding checker_come_all
one_over (Ok k) = refl
one_over (Err e) = refl

-- ---- a statement

closes : (n : ℕ) (k : ClockChecker) → checker_come_all (coming n a_close ∷ []) k ≡ checker_close n k.known.governing k
unfolding checker_come_all
closes n k = one_over (checker_close n k.known.governing k)

-- what a statement comes to after its visit
pub statement_comes : (q : ClockStmt) (n : ℕ) (k k1 : ClockChecker) → checker_visit n k ≡ Ok k1 →
    checker_come_all (comings_of n (clock_followed_by q done)) k ≡ checker_statement n q k1
unfolding checker_come_all
statement_comes (s.Clock x) n k k1 e = ap (λ o. (o >>= checker_open n x) >>= checker_come_all []) e ∙ one_over (checker_statement n (s.Clock x) k1)
statement_comes (s.Advance x) n k k1 e = ap (λ o. (o >>= checker_statement n (s.Advance x)) >>= checker_come_all []) e ∙ one_over (checker_statement n (s.Advance x) k1)
statement_comes (s.Resume x) n k k1 e = ap (λ o. (o >>= checker_statement n (s.Resume x)) >>= checker_come_all []) e ∙ one_over (checker_statement n (s.Resume x) k1)
statement_comes (s.Drop x) n k k1 e = ap (λ o. (o >>= checker_statement n (s.Drop x)) >>= checker_come_all []) e ∙ one_over (checker_statement n (s.Drop x) k1)
statement_comes s.Skip n k k1 e = ap (λ o. (o >>= λ k. Ok k) >>= checker_come_all []) e
statement_comes (s.Async xs body) n k k1 e = ap (λ o. (o >>= checker_async n xs body) >>= checker_come_all []) e ∙ one_over (checker_async n xs body k1)
statement_comes (s.Finish body) n k k1 e =
    ap (λ o. (o >>= checker_finish n) >>= checker_come_all (comings_of (n + 1) body ++ coming n a_close ∷ [])) e
    ∙ bind_same (checker_finish n k1) (checker_come_all (comings_of (n + 1) body ++ coming n a_close ∷ []))
    (λ k. checker_come_all (comings_of (n + 1) body) k >>= λ k. checker_close n k.known.governing k)
    (λ k. come_all-append (comings_of (n + 1) body) (coming n a_close ∷ []) k
    ∙ bind_same (checker_come_all (comings_of (n + 1) body) k) (checker_come_all (coming n a_close ∷ [])) (λ k. checker_close n k.known.governing k) (closes n))
    ∙ sym (bind_assoc (checker_finish n k1) (checker_come_all (comings_of (n + 1) body)) (λ k. checker_close n k.known.governing k))
statement_comes (s.Loop turns body) n k k1 e =
    ap (λ o. (o >>= λ k. Ok k) >>= checker_come_all (times turns (coming n a_turn ∷ comings_of (n + 1) body) ++ [])) e
    ∙ ap (λ ms. checker_come_all ms k1) (append-nil (times turns (coming n a_turn ∷ comings_of (n + 1) body)))

-- no further visit
pub statement_fails : (q : ClockStmt) (n : ℕ) (k : ClockChecker) (f : CheckFault) → checker_visit n k ≡ Err f →
    checker_come_all (comings_of n (clock_followed_by q done)) k ≡ Err f
unfolding checker_come_all
statement_fails (s.Clock x) n k f e = ap (λ o. (o >>= checker_statement n (s.Clock x)) >>= checker_come_all []) e
statement_fails (s.Advance x) n k f e = ap (λ o. (o >>= checker_statement n (s.Advance x)) >>= checker_come_all []) e
statement_fails (s.Resume x) n k f e = ap (λ o. (o >>= checker_statement n (s.Resume x)) >>= checker_come_all []) e
statement_fails (s.Drop x) n k f e = ap (λ o. (o >>= checker_statement n (s.Drop x)) >>= checker_come_all []) e
statement_fails s.Skip n k f e = ap (λ o. (o >>= λ k. Ok k) >>= checker_come_all []) e
statement_fails (s.Async xs body) n k f e = ap (λ o. (o >>= checker_async n xs body) >>= checker_come_all []) e
statement_fails (s.Finish body) n k f e = ap (λ o. (o >>= checker_finish n) >>= checker_come_all (comings_of (n + 1) body ++ coming n a_close ∷ [])) e
statement_fails (s.Loop turns body) n k f e =
    ap (λ o. (o >>= λ k. Ok k) >>= checker_come_all (times turns (coming n a_turn ∷ comings_of (n + 1) body) ++ [])) e

-- what was returned is what this gives, however it is written
pub gives_same : (r : Result (Unit {0}) ClockEnd) (o o' : Outcome ClockChecker) (k : ClockChecker) → o' ≡ o → GivesClockChecker r o k → GivesClockChecker r o' k
gives_same r o o' k e h = subst (λ z. GivesClockChecker r z k) (sym e) h

-- a fault is that of the whole
pub gives_err : (e : ClockEnd) (r : Result (Unit {0}) ClockEnd) (o o' : Outcome ClockChecker) (k k' : ClockChecker) → r ≡ Err e →
    ((f : CheckFault) → o ≡ Err f → o' ≡ Err f) → GivesClockChecker {A = Unit {0}} (Err e) o k → GivesClockChecker r o' k'
gives_err (ends_by.Clock f) r o o' k k' is h g = subst (λ z. GivesClockChecker z o' k') (sym is) (h (as_fault f) g)
gives_err ends_by.NoMemory r o o' k k' is h g = subst (λ z. GivesClockChecker z o' k') (sym is) tt

-- ---- turns

module _ (n : ℕ) (body : ClockTree) where
  turn : List ClockComing
  turn = coming n a_turn ∷ comings_of (n + 1) body

  pub turn_comes : (k k1 : ClockChecker) → checker_visit n k ≡ Ok k1 → checker_come_all (coming n a_turn ∷ comings_of (n + 1) body) k ≡ checker_come_all (comings_of
      (n + 1) body) k1
  unfolding checker_come_all
  turn_comes k k1 e = ap (λ o. (o >>= λ k. Ok k) >>= checker_come_all (comings_of (n + 1) body)) e

  pub turn_fails : (k : ClockChecker) (f : CheckFault) → checker_visit n k ≡ Err f → checker_come_all (coming n a_turn ∷ comings_of (n + 1) body) k ≡ Err f
  unfolding checker_come_all
  turn_fails k f e = ap (λ o. (o >>= λ k. Ok k) >>= checker_come_all (comings_of (n + 1) body)) e

-- the first i turns are done
pub record TurnsDone (n : ℕ) (body : ClockTree) (old : ClockChecker) (i : ℕ) (k : ClockChecker) : Type 0 where
  pub did : checker_come_all (times i (coming n a_turn ∷ comings_of (n + 1) body)) old ≡ Ok k

times_split : (i m : ℕ) (xs : List ClockComing) → times (i + m) xs ≡ times i xs ++ times m xs
times_split zero m xs = ap (λ z. times z xs) (let e : 0 + m ≡ m = omega arith in e)
times_split (suc i) m xs =
    ap (λ z. times z xs) (let e : suc i + m ≡ suc (i + m) = omega arith in e) ∙ ap (λ z. xs ++ z) (times_split i m xs)
    ∙ sym (append_assoc xs (times i xs) (times m xs))

pub no_turn : (n : ℕ) (body : ClockTree) (old : ClockChecker) → TurnsDone n body old 0 old
unfolding checker_come_all
no_turn n body old = record { did = refl }

module _ (n : ℕ) (body : ClockTree) (old : ClockChecker) (i : ℕ) (k : ClockChecker) (h : TurnsDone n body old i k) where
  pub turn_done : (new : ClockChecker) → checker_come_all (coming n a_turn ∷ comings_of (n + 1) body) k ≡ Ok new → TurnsDone n body old (i + 1) new
  turn_done new e = record {
    did = ap (λ z. checker_come_all (times z (coming n a_turn ∷ comings_of (n + 1) body)) old) (let q : i + 1 ≡ suc i = omega arith in q)
        ∙ ap (λ z. checker_come_all z old) (sym (times_more i (coming n a_turn ∷ comings_of (n + 1) body)))
        ∙ come_all-append (times i (coming n a_turn ∷ comings_of (n + 1) body)) (coming n a_turn ∷ comings_of (n + 1) body) old
        ∙ ap (λ o. o >>= checker_come_all (coming n a_turn ∷ comings_of (n + 1) body)) h.did ∙ e;
  }

  pub turn_failed : (turns : ℕ) → i < turns → (f : CheckFault) → checker_come_all (coming n a_turn ∷ comings_of (n + 1) body) k ≡ Err f →
      checker_come_all (times turns (coming n a_turn ∷ comings_of (n + 1) body)) old ≡ Err f
  turn_failed turns lt f e =
      ap (λ z. checker_come_all (times z (coming n a_turn ∷ comings_of (n + 1) body)) old) (let q : turns ≡ i + suc (turns - 1 - i) = omega arith in q)
      ∙ ap (λ z. checker_come_all z old) (times_split i (suc (turns - 1 - i)) (coming n a_turn ∷ comings_of (n + 1) body))
      ∙ come_all-append (times i (coming n a_turn ∷ comings_of (n + 1) body)) (times (suc (turns - 1 - i)) (coming n a_turn ∷ comings_of (n + 1) body)) old
      ∙ ap (λ o. o >>= checker_come_all (times (suc (turns - 1 - i)) (coming n a_turn ∷ comings_of (n + 1) body))) h.did
      ∙ come_all-append (coming n a_turn ∷ comings_of (n + 1) body) (times (turns - 1 - i) (coming n a_turn ∷ comings_of (n + 1) body)) k
      ∙ ap (λ o. o >>= checker_come_all (times (turns - 1 - i) (coming n a_turn ∷ comings_of (n + 1) body))) e

-- ---- bodies

comings-append : (n : ℕ) (xs ys : List ClockStmt) →
    comings_of n (clock_tree_of (xs ++ ys)) ≡ comings_of n (clock_tree_of xs) ++ comings_of (n + clock_count (clock_tree_of xs)) (clock_tree_of ys)
comings-append n [] ys = ap (λ m. comings_of m (clock_tree_of ys)) (let e : n ≡ n + 0 = omega arith in e)
comings-append n (q ∷ xs) ys =
    first_comings q n (clock_tree_of (xs ++ ys))
    ∙ ap (λ z. comings_of n (clock_followed_by q done) ++ z) (comings-append (n + clock_count (clock_followed_by q done)) xs ys)
    ∙ sym (append_assoc (comings_of n (clock_followed_by q done)) (comings_of (n + clock_count (clock_followed_by q done)) (clock_tree_of xs))
    (comings_of (n + clock_count (clock_followed_by q done) + clock_count (clock_tree_of xs)) (clock_tree_of ys)))
    ∙ ap (λ z. z ++ comings_of (n + clock_count (clock_followed_by q done) + clock_count (clock_tree_of xs)) (clock_tree_of ys)) (sym (first_comings q n (clock_tree_of xs)))
    ∙ ap (λ m. comings_of n (clock_followed_by q (clock_tree_of xs)) ++ comings_of m (clock_tree_of ys))
    (let e : n + clock_count (clock_followed_by q done) + clock_count (clock_tree_of xs) ≡ n + clock_count (clock_followed_by q (clock_tree_of xs)) =
    omega (arith, clock_count_first q (clock_tree_of xs)) in e)

-- the first i statements are done, and the others have numbers of 32 bits
pub record StatementsDone (before : ℕ) (items : List ClockStmt) (old : ClockChecker) (i at : ℕ) (k : ClockChecker) : Type 0 where
  pub did : checker_come_all (comings_of (before + 1) (clock_tree_of (take i items))) old ≡ Ok k
  pub at_is : at ≡ before + clock_count (clock_tree_of (take i items))
  pub room : at + clock_count (clock_tree_of (drop i items)) ≡ before + clock_count (clock_tree_of items)

pub no_statement : (before : ℕ) (items : List ClockStmt) (old : ClockChecker) → StatementsDone before items old 0 before old
unfolding checker_come_all
no_statement before items old = record { did = refl; at_is = omega arith; room = refl }

module _ (before : ℕ) (items : List ClockStmt) (old : ClockChecker) (i at : ℕ) (k : ClockChecker) (h : StatementsDone before items old i at k)
    (q : ClockStmt) (lt : i < length items) (is : q ≡ get_or items i q) where
  taken : take (i + 1) items ≡ take i items ++ q ∷ []
  taken = take_more items i q lt ∙ ap (λ z. take i items ++ z ∷ []) (sym is)

  pub one_room : at + clock_count (clock_followed_by q done) + clock_count (clock_tree_of (drop (i + 1) items)) ≡ before + clock_count (clock_tree_of items)
  one_room = omega (arith, clock_counts items i q lt is, h.room)

  next_number : before + 1 + clock_count (clock_tree_of (take i items)) ≡ at + 1
  next_number = omega (arith, h.at_is)

  comes_next : (ys : List ClockStmt) → checker_come_all (comings_of (before + 1) (clock_tree_of (take i items ++ ys))) old ≡ checker_come_all (comings_of (at + 1)
      (clock_tree_of ys)) k
  comes_next ys =
      ap (λ z. checker_come_all z old) (comings-append (before + 1) (take i items) ys)
      ∙ come_all-append (comings_of (before + 1) (clock_tree_of (take i items))) (comings_of (before + 1 + clock_count (clock_tree_of (take i items))) (clock_tree_of ys)) old
      ∙ ap (λ o. o >>= checker_come_all (comings_of (before + 1 + clock_count (clock_tree_of (take i items))) (clock_tree_of ys))) h.did
      ∙ ap (λ m. checker_come_all (comings_of m (clock_tree_of ys)) k) next_number

  pub statement_done : (new : ClockChecker) → checker_come_all (comings_of (at + 1) (clock_followed_by q done)) k ≡ Ok new →
      StatementsDone before items old (i + 1) (at + clock_count (clock_followed_by q done)) new
  statement_done new e = record {
    did = ap (λ z. checker_come_all (comings_of (before + 1) (clock_tree_of z)) old) taken ∙ comes_next (q ∷ []) ∙ e;
    at_is = omega (arith, h.at_is, h.room, one_room, whole);
    room = one_room;
  }
    where
      counts-append : (xs ys : List ClockStmt) → clock_count (clock_tree_of (xs ++ ys)) ≡ clock_count (clock_tree_of xs) + clock_count (clock_tree_of ys)
      counts-append [] ys = omega arith
      counts-append (x ∷ xs) ys = omega (arith, clock_count_first x (clock_tree_of (xs ++ ys)), clock_count_first x (clock_tree_of xs), counts-append xs ys)

      whole : clock_count (clock_tree_of (take (i + 1) items)) ≡ clock_count (clock_tree_of (take i items)) + clock_count (clock_followed_by q done)
      whole = ap (λ z. clock_count (clock_tree_of z)) taken ∙ counts-append (take i items) (q ∷ [])

  pub statement_failed : (f : CheckFault) → checker_come_all (comings_of (at + 1) (clock_followed_by q done)) k ≡ Err f →
      checker_come_all (comings_of (before + 1) (clock_tree_of items)) old ≡ Err f
  statement_failed f e =
      ap (λ z. checker_come_all (comings_of (before + 1) (clock_tree_of z)) old) (sym (take-append-drop i items) ∙ ap (λ z. take i items ++ z) (drop_more items i q lt
      ∙ ap (λ z. z ∷ drop (i + 1) items) (sym is)))
      ∙ comes_next (q ∷ drop (i + 1) items)
      ∙ ap (λ z. checker_come_all z k) (first_comings q (at + 1) (clock_tree_of (drop (i + 1) items)))
      ∙ come_all-append (comings_of (at + 1) (clock_followed_by q done)) (comings_of (at + 1 + clock_count (clock_followed_by q done)) (clock_tree_of (drop (i + 1) items))) k
      ∙ ap (λ o. o >>= checker_come_all (comings_of (at + 1 + clock_count (clock_followed_by q done)) (clock_tree_of (drop (i + 1) items)))) e

pub statements_done : (before : ℕ) (items : List ClockStmt) (old : ClockChecker) (i at : ℕ) (k : ClockChecker) → StatementsDone before items old i at k →
    length items ≤ i → checker_come_all (comings_of (before + 1) (clock_tree_of items)) old ≡ Ok k
statements_done before items old i at k h le = ap (λ z. checker_come_all (comings_of (before + 1) (clock_tree_of z)) old) (sym (take_all i items le)) ∙ h.did
