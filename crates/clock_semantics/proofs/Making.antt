-- What a statement without a fault does is a move that the activity may make.
use Rattle.std.proofs.Common.{◌≡◌, ℕ, ◌+◌, ◌*◌, ◌≤◌, Bool, true, false, not, Some, None, Ok, Option, List, [], ◌∷◌, length, arith, sym, ap, subst, refl}
use Rattle.std.specs.Prelude.{◌&&◌, nat_le, nat_lt}
use Rattle.std.specs.List.{list_any}
use Rattle.std.specs.Str.{bytes_eq}
use Rattle.std.proofs.lemmas.Bool.{false≢true, leb-true, ltb-true}
use Rattle.armus_base.specs.Limits.{max_ops, max_phasers, max_tasks}
use Rattle.clock_syntax.specs.Trees.{ClockPlain, ClockTree, advance, clock, drop, resume, skip}
use Rattle.clock_semantics.specs.Moves.{Move, advances, begins, drops, ends, opens, ops_of, resumes, starts, stops}
use Rattle.clock_semantics.specs.Unfolding.{ClockComing, ClockPart, ClockUnfolding, Current, a_close, a_finish, a_loop, a_plain, a_turn, an_async, act_async, act_close, act_finish, act_plain, as_clock, clock_act, clock_of, clocks_of, come, come_all, count_clock_visit, counted_coming, innermost, listed_twice, move_at, next_activity, next_clock, not_registered, numbers_of, still_pending, stop, too_many_activities, too_many_clock_cells, too_many_clock_ops, too_many_clock_visits, too_many_clocks, with_move}
use Rattle.clock_semantics.specs.calls.Making.{AreClocksOf, HasActivityRoom, HasClockRoom, IsClockOf, MakesMove, MayMake}
use Rattle.pl_plan.specs.Limits.{max_visits}
use Rattle.pl_plan.specs.Unfolding.{fault_unless, has_cells}
use Rattle.pl_plan.proofs.VisitsLeave.{bind_ok, ok_is}

passed : (b : Bool) (kind n : ℕ) (u : Unit {0}) → fault_unless b kind n ≡ Ok u → b ≡ true
passed true kind n u e = refl
passed false kind n u e = absurd cc

not_true : (b : Bool) → not b ≡ true → b ≡ false
not_true true e = absurd (false≢true e)
not_true false e = refl

clock_is : (n : ℕ) (o : Option ℕ) (p : ℕ) → as_clock n o ≡ Ok p → o ≡ Some p
clock_is n None p e = absurd cc
clock_is n (Some q) p e = ap Some (ok_is q p e)

-- ---- names

record NamesClock (idle : Bool) (earlier : List (List ℕ)) (now : Current) (x : List ℕ) (p : ℕ) : Type 0 where
  clock : IsClockOf now x p
  once : list_any (bytes_eq x) earlier ≡ false
  rested : idle ≡ true → now.standing.pending p ≡ false

rested_by : (idle pending : Bool) → idle && pending ≡ false → idle ≡ true → pending ≡ false
rested_by true pending e is = e
rested_by false pending e is = absurd (false≢true is)

clock_found : (idle : Bool) (n : ℕ) (earlier : List (List ℕ)) (x : List ℕ) (now : Current) (p : ℕ) → clock_of idle n earlier x now ≡ Ok p → NamesClock idle earlier now x p
unfolding clock_of
clock_found idle n earlier x now p e =
    let a = bind_ok (as_clock n (now.names x)) _ p e in
    let b = bind_ok (fault_unless (now.standing.members a.0) not_registered n) _ p a.2 in
    let c = bind_ok (fault_unless (not (list_any (bytes_eq x) earlier)) listed_twice n) _ p b.2 in
    let d = bind_ok (fault_unless (not (idle && now.standing.pending a.0)) still_pending n) (λ _. Ok a.0) p c.2 in
    let same : a.0 ≡ p = ok_is a.0 p d.2 in
    subst (NamesClock idle earlier now x) same
    (record {
      clock = record { named = clock_is n (now.names x) a.0 a.1; registered = passed _ not_registered n b.0 b.1 };
      once = not_true _ (passed _ listed_twice n c.0 c.1);
      rested = rested_by idle (now.standing.pending a.0) (not_true _ (passed _ still_pending n d.0 d.1));
    })

clocks_found : (n : ℕ) (earlier xs : List (List ℕ)) (now : Current) (ps : List ℕ) → clocks_of n earlier xs now ≡ Ok ps → AreClocksOf now earlier xs ps
unfolding clocks_of
clocks_found n earlier [] now [] e = tt
clocks_found n earlier [] now (p ∷ ps) e = absurd (let q : ◌≡◌ {A = List ℕ} [] (p ∷ ps) = ok_is _ _ e in cc)
clocks_found n earlier (x ∷ xs) now ps e =
    let a = bind_ok (clock_of true n earlier x now) _ ps e in
    let b = bind_ok (clocks_of n (x ∷ earlier) xs now) (λ qs. Ok (a.0 ∷ qs)) ps a.2 in
    let f = clock_found true n earlier x now a.0 a.1 in
    subst (AreClocksOf now earlier (x ∷ xs)) (ok_is (a.0 ∷ b.0) ps b.2) (f.clock, f.once, f.rested refl, clocks_found n (x ∷ earlier) xs now b.0 b.1)

-- ---- moves

-- a move of the right number of ops
moved :
    (t n : ℕ) (m : Move) (u v w : ClockUnfolding) → MayMake t u m v → v.ops ≡ u.ops → v.now.standing ≡ u.now.standing → move_at t n m v ≡ Ok w →
    (k : MakesMove t u w) × k.move ≡ m
unfolding move_at
moved t n m u v w may ops standing e =
    let a = bind_ok (fault_unless (nat_le (v.ops + length (ops_of v.now.standing m)) max_ops) too_many_clock_ops n) (λ _. Ok (with_move t m v)) w e in
    let few = leb-true (v.ops + length (ops_of v.now.standing m)) max_ops (passed _ too_many_clock_ops n a.0 a.1) in (
      record {
        move = m;
        base = v;
        may = may;
        few = omega (arith, few, ops, ap (λ s. length (ops_of s m)) standing);
        becomes = sym (ok_is _ _ a.2);
      },
      refl,
    )

record GivesClock (u : ClockUnfolding) (p : ℕ) : Type 0 where
  room : HasClockRoom u
  next : p ≡ length u.makers

clock_given : (n : ℕ) (u : ClockUnfolding) (p : ℕ) → next_clock n u ≡ Ok p → GivesClock u p
unfolding next_clock
clock_given n u p e =
    let a = bind_ok (fault_unless (nat_lt (length u.makers) max_phasers) too_many_clocks n) _ p e in
    let b = bind_ok (fault_unless (has_cells (length u.parents) (length u.makers + 1)) too_many_clock_cells n) (λ _. Ok (length u.makers)) p a.2 in
    record {
      room =
          record {
            few = ltb-true (length u.makers) max_phasers (passed _ too_many_clocks n a.0 a.1);
            cells = leb-true (length u.parents * (length u.makers + 1 + 1)) 1048576 (passed _ too_many_clock_cells n b.0 b.1);
          };
      next = sym (ok_is _ _ b.2);
    }

record GivesActivity (u : ClockUnfolding) (c : ℕ) : Type 0 where
  room : HasActivityRoom u
  next : c ≡ length u.parents

activity_given : (n : ℕ) (u : ClockUnfolding) (c : ℕ) → next_activity n u ≡ Ok c → GivesActivity u c
unfolding next_activity
activity_given n u c e =
    let a = bind_ok (fault_unless (nat_lt (length u.parents) max_tasks) too_many_activities n) _ c e in
    let b = bind_ok (fault_unless (has_cells (length u.parents + 1) (length u.makers)) too_many_clock_cells n) (λ _. Ok (length u.parents)) c a.2 in
    record {
      room =
          record {
            few = ltb-true (length u.parents) max_tasks (passed _ too_many_activities n a.0 a.1);
            cells = leb-true ((length u.parents + 1) * (length u.makers + 1)) 1048576 (passed _ too_many_clock_cells n b.0 b.1);
          };
      next = sym (ok_is _ _ b.2);
    }

-- ---- statements

-- the kind of move that a part of a statement makes
abbrev pub IsMoveOf : ClockPart → Move → Type 0
IsMoveOf (a_plain x) (opens p) = Unit {0}
IsMoveOf (a_plain x) (advances p) = Unit {0}
IsMoveOf (a_plain x) (resumes p) = Unit {0}
IsMoveOf (a_plain x) (drops p) = Unit {0}
IsMoveOf (an_async xs body) (starts c ps f) = Unit {0}
IsMoveOf a_finish (begins f) = Unit {0}
IsMoveOf a_close (ends f) = Unit {0}
IsMoveOf part m = ⊥

module _ (P : ClockUnfolding → Type 0) (t n : ℕ) (u : ClockUnfolding) where
  -- a part at which nothing may come to pass; a close is one where no finish governs
  abbrev pub MayRest : ClockPart → Type 0
  MayRest (an_async xs body) = ⊥
  MayRest a_finish = ⊥
  MayRest a_close = u.now.governing ≡ []
  MayRest part = Unit {0}

  -- each move of that kind keeps it
  abbrev pub KeptByMoves : ClockPart → Type 0
  KeptByMoves part = (w : ClockUnfolding) (m : MakesMove t u w) → IsMoveOf part m.move → P w

  kept : (part : ClockPart) → KeptByMoves part → (w : ClockUnfolding) (m : Move) → (k : MakesMove t u w) × k.move ≡ m → IsMoveOf part m → P w
  kept part moves w m k kind = moves w k.0 (subst (IsMoveOf part) (sym k.1) kind)

  plain_keeps : P u → (x : ClockPlain) → KeptByMoves (a_plain x) → (w : ClockUnfolding) → act_plain t n x u ≡ Ok w → P w
  unfolding act_plain
  plain_keeps was (clock x) moves w e =
      let a = bind_ok (next_clock n u) _ w e in
      let g = clock_given n u a.0 a.1 in
      kept (a_plain (clock x)) moves w (opens a.0) (moved t n (opens a.0) u _ w (g.room, g.next, x, refl) refl refl a.2) tt
  plain_keeps was (advance x) moves w e =
      let a = bind_ok (clock_of false n [] x u.now) _ w e in
      kept (a_plain (advance x)) moves w (advances a.0) (moved t n (advances a.0) u u w (x, (clock_found false n [] x u.now a.0 a.1).clock, refl) refl refl a.2) tt
  plain_keeps was (resume x) moves w e =
      let a = bind_ok (clock_of true n [] x u.now) _ w e in
      let f = clock_found true n [] x u.now a.0 a.1 in
      kept (a_plain (resume x)) moves w (resumes a.0) (moved t n (resumes a.0) u u w (x, f.clock, f.rested refl, refl) refl refl a.2) tt
  plain_keeps was (drop x) moves w e =
      let a = bind_ok (clock_of false n [] x u.now) _ w e in
      kept (a_plain (drop x)) moves w (drops a.0) (moved t n (drops a.0) u u w (x, (clock_found false n [] x u.now a.0 a.1).clock, refl) refl refl a.2) tt
  plain_keeps was skip moves w e = subst P (ok_is _ _ e) was

  async_keeps :
      (xs : List (List ℕ)) (body : ClockTree) → KeptByMoves (an_async xs body) → (w : ClockUnfolding) → act_async t n xs body u ≡ Ok w → P w
  unfolding act_async
  async_keeps xs body moves w e =
      let a = bind_ok (clocks_of n [] xs u.now) _ w e in
      let b = bind_ok (next_activity n u) _ w a.2 in
      let g = activity_given n u b.0 b.1 in
      kept (an_async xs body) moves w (starts b.0 a.0 (innermost u.now.governing))
      (moved t n (starts b.0 a.0 (innermost u.now.governing)) u _ w (g.room, g.next, refl, xs, clocks_found n [] xs u.now a.0 a.1, n, body, refl) refl refl b.2) tt

  finish_keeps : KeptByMoves a_finish → (w : ClockUnfolding) → act_finish t n u ≡ Ok w → P w
  unfolding act_finish
  finish_keeps moves w e =
      let a = bind_ok (next_clock n u) _ w e in
      let g = clock_given n u a.0 a.1 in
      kept a_finish moves w (begins a.0) (moved t n (begins a.0) u _ w (g.room, g.next, refl) refl refl a.2) tt

  close_keeps : (u.now.governing ≡ [] → P u) → KeptByMoves a_close → (fs : List ℕ) → u.now.governing ≡ fs → (w : ClockUnfolding) → act_close t n fs u ≡ Ok w → P w
  unfolding act_close
  close_keeps rests moves [] is w e = subst P (ok_is _ _ e) (rests is)
  close_keeps rests moves (f ∷ fs) is w e = kept a_close moves w (ends f) (moved t n (ends f) u _ w (fs, is, refl) refl refl e) tt

  pub act_keeps : (part : ClockPart) → (MayRest part → P u) → KeptByMoves part → (w : ClockUnfolding) → clock_act t n part u ≡ Ok w → P w
  act_keeps (a_plain x) rests moves w e = plain_keeps (rests tt) x moves w e
  act_keeps (an_async xs body) rests moves w e = async_keeps xs body moves w e
  act_keeps a_finish rests moves w e = finish_keeps moves w e
  act_keeps a_close rests moves w e = close_keeps rests moves u.now.governing refl w e
  act_keeps a_loop rests moves w e = subst P (ok_is _ _ e) (rests tt)
  act_keeps a_turn rests moves w e = subst P (ok_is _ _ e) (rests tt)

-- what a stop is
pub record Stops (t : ℕ) (u w : ClockUnfolding) : Type 0 where
  pub few : u.ops + length (ops_of u.now.standing (stops (numbers_of u.now.standing.members (length u.makers)))) ≤ 1048576
  pub becomes : w ≡ with_move t (stops (numbers_of u.now.standing.members (length u.makers))) u

pub stopped : (t n : ℕ) (u w : ClockUnfolding) → stop t n u ≡ Ok w → Stops t u w
unfolding stop move_at
stopped t n u w e =
    let m = stops (numbers_of u.now.standing.members (length u.makers)) in
    let a = bind_ok (fault_unless (nat_le (u.ops + length (ops_of u.now.standing m)) max_ops) too_many_clock_ops n) (λ _. Ok (with_move t m u)) w e in
    record { few = leb-true (u.ops + length (ops_of u.now.standing m)) max_ops (passed _ too_many_clock_ops n a.0 a.1); becomes = sym (ok_is _ _ a.2) }

-- with this number of visits
abbrev pub with_visits : ℕ → ClockUnfolding → ClockUnfolding
with_visits n u = record u { visits = n }

visit_counts : (P : ClockUnfolding → Type 0) (n : ℕ) (u w : ClockUnfolding) → P (with_visits (u.visits + 1) u) → count_clock_visit n u ≡ Ok w → P w
unfolding count_clock_visit
visit_counts P n u w was e =
    let a = bind_ok (fault_unless (nat_lt u.visits max_visits) too_many_clock_visits n) (λ _. Ok (with_visits (u.visits + 1) u)) w e in
    subst P (ok_is _ _ a.2) was

pub coming_counts : (P : ClockUnfolding → Type 0) (n : ℕ) (part : ClockPart) (u w : ClockUnfolding) → P u → P (with_visits (u.visits + 1) u) → counted_coming n part u ≡ Ok w → P w
coming_counts P n (a_plain x) u w was next e = visit_counts P n u w next e
coming_counts P n (an_async xs body) u w was next e = visit_counts P n u w next e
coming_counts P n a_finish u w was next e = visit_counts P n u w next e
coming_counts P n a_close u w was next e = subst P (ok_is _ _ e) was
coming_counts P n a_loop u w was next e = visit_counts P n u w next e
coming_counts P n a_turn u w was next e = visit_counts P n u w next e

-- what each move keeps, and a visit more, is kept by the comings of an activity
module _ (P : ClockUnfolding → Type 0) (t : ℕ) (visits : (n : ℕ) (u : ClockUnfolding) → P u → P (with_visits n u))
    (moves : (u w : ClockUnfolding) → P u → MakesMove t u w → P w) where
  come_keeps : (m : ClockComing) (u w : ClockUnfolding) → P u → come t m u ≡ Ok w → P w
  come_keeps m u w was e =
      let a = bind_ok (counted_coming m.statement m.part u) (clock_act t m.statement m.part) w e in
      let now = coming_counts P m.statement m.part u a.0 was (visits (u.visits + 1) u was) a.1 in
      act_keeps P t m.statement a.0 m.part (λ r. now) (λ z makes kind. moves a.0 z now makes) w a.2

  pub comings_keep : (ms : List ClockComing) (u w : ClockUnfolding) → P u → come_all t ms u ≡ Ok w → P w
  unfolding come_all
  comings_keep [] u w was e = subst P (ok_is _ _ e) was
  comings_keep (m ∷ ms) u w was e =
      let a = bind_ok (come t m u) (come_all t ms) w e in
      comings_keep ms a.0 w (come_keeps m u a.0 was a.1) a.2
