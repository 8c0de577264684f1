-- At which op of its code an activity stands that waits at a move, and what is pending there.
use Rattle.std.proofs.Common.{◌≡◌, ◌≢◌, ℕ, suc, ◌+◌, ◌-◌, ◌<◌, ◌≤◌, Bool, true, false, Option, Some, List, [], ◌∷◌, ◌++◌, append_assoc, append-nil, drop, length, take, arith, sym, ◌∙◌, ap, subst, refl, inl, inr}
use Rattle.std.specs.Prelude.{is_some}
use Rattle.std.specs.List.{slice_get}
use Rattle.std.proofs.lemmas.Bool.{cases_eq}
use Rattle.std.proofs.lemmas.List.{length-append, length-drop}
use Rattle.armus_base.specs.declared.offset.Offset.TheVariants.{Here}
use Rattle.armus_base.specs.declared.op.Op.{Op}
use Rattle.armus_base.specs.declared.op.Op.TheVariants as op
use Rattle.armus_base.specs.Numbers.{phaser}
use Rattle.armus_base.specs.Plans.{Advances, Blocks, Drops, Forks, Makes, Passes, Registers, actions_of}
use Rattle.armus_base.specs.States.{updated}
use Rattle.armus_base.proofs.Lists.{slice_get-behind}
use Rattle.armus_base.proofs.Steps.{updated_other, updated_same}
use Rattle.pl_core.specs.Tasks.{IsAtOp, actions_before}
use Rattle.clock_semantics.specs.Moves.{ActivityStanding, Move, advances, begins, code_from, code_of_moves, drops, ends, no_standing, opens, ops_of, registered_on, resumes, starts, stops, unregistered_from, with_pending}
use Rattle.clock_semantics.proofs.MoveCodes.{code_from-append, stood}
use Rattle.explain_clock.specs.ClockFacts.{is_pending}
use Rattle.report_laws.specs.WaitsTold.{IsOpOfMove}
use Rattle.report_laws.proofs.MovesOfRuns.{AreOfKinds, HasMade, agree_before, agree_beside}
use Rattle.report_laws.proofs.PendingByMoves.{advance_remembers, end_remembers, none_stops, signal_of}

-- ---- lists

take_none : {A : Type 0} (xs : List A) → take 0 xs ≡ []
take_none [] = refl
take_none (x ∷ xs) = refl

take_front : {A : Type 0} (xs ys : List A) → take (length xs) (xs ++ ys) ≡ xs
take_front [] ys = take_none ys
take_front (x ∷ xs) ys = ap (λ z. x ∷ z) (take_front xs ys)

take_next : {A : Type 0} (xs : List A) (y : A) (ys : List A) → take (suc (length xs)) (xs ++ y ∷ ys) ≡ xs ++ y ∷ []
take_next [] y ys = ap (λ z. y ∷ z) (take_none ys)
take_next (x ∷ xs) y ys = ap (λ z. x ∷ z) (take_next xs y ys)

actions_more : (xs ys : List Op) → actions_of (xs ++ ys) ≡ actions_of xs ++ actions_of ys
actions_more [] ys = refl
actions_more (op.Make p ∷ xs) ys = ap (λ z. Makes p.0 ∷ z) (actions_more xs ys)
actions_more (op.Reg c p ∷ xs) ys = ap (λ z. Registers c.0 p.0 ∷ z) (actions_more xs ys)
actions_more (op.Fork c ∷ xs) ys = ap (λ z. Forks c.0 ∷ z) (actions_more xs ys)
actions_more (op.Adv p ∷ xs) ys = ap (λ z. Advances p.0 ∷ z) (actions_more xs ys)
actions_more (op.Drop p ∷ xs) ys = ap (λ z. Drops p.0 ∷ z) (actions_more xs ys)
actions_more (op.Await p off ∷ xs) ys = ap (λ z. Blocks (record { phaser = p.0; off = off }) ∷ (Passes p.0 ∷ z)) (actions_more xs ys)

-- where the pass of an await is the next action of a code, its task stands at this op
at_await : (before : List Op) (p : ℕ) (rest : List Op) (done : ℕ) →
    drop done (actions_of (before ++ (op.Await (phaser p) Here ∷ rest))) ≡ Passes p ∷ actions_of rest →
    IsAtOp (before ++ (op.Await (phaser p) Here ∷ rest)) done (length before)
at_await before p rest done next =
    let await = op.Await (phaser p) Here in
    let ops = before ++ (await ∷ rest) in
    let many : length (actions_of ops) ≡ length (actions_of before) + suc (suc (length (actions_of rest))) =
    ap length (actions_more before (await ∷ rest)) ∙ length-append (actions_of before) (actions_of (await ∷ rest)) in
    let left : length (actions_of ops) - done ≡ suc (length (actions_of rest)) = sym (length-drop done (actions_of ops)) ∙ ap length next in
    let front : actions_before ops (length before) ≡ length (actions_of before) = ap (λ z. length (actions_of z)) (take_front before (await ∷ rest)) in
    let behind : actions_before ops (suc (length before)) ≡ length (actions_of before) + 2 =
    ap (λ z. length (actions_of z)) (take_next before await rest) ∙ ap length (actions_more before (await ∷ []))
    ∙ length-append (actions_of before) (actions_of (await ∷ [])) in
    record {
      within = omega (arith, length-append before (await ∷ rest));
      from = omega (arith, front, many, left);
      below = λ l.
          let next_one : actions_before ops (length before + 1) ≡ actions_before ops (suc (length before)) =
          ap (actions_before ops) (let z : length before + 1 ≡ suc (length before) = omega arith in z) in
          omega (arith, next_one, behind, many, left);
    }

-- ---- codes

updated_alike : (f g : ℕ → Bool) (p : ℕ) (b : Bool) (q : ℕ) → (q ≢ p → f q ≡ g q) → updated f p b q ≡ updated g p b q
updated_alike f g p b q alike =
    elim (cases_eq q p) [
      | inl same ↦ updated_same f p q b same ∙ sym (updated_same g p q b same)
      | inr other ↦ updated_other f p q b other ∙ alike other ∙ sym (updated_other g p q b other)
    ]

-- where the same clocks are pending, moves have the same ops
pub same_code : (clock : ℕ → Bool) (s r : ActivityStanding) (ms : List Move) → AreOfKinds clock ms → ((q : ℕ) → clock q ≡ true → s.pending q ≡ r.pending q) →
    code_from s ms ≡ code_from r ms
same_code clock s r [] kinds alike = refl
same_code clock s r (opens p ∷ ms) kinds alike =
    ap (λ z. ops_of s (opens p) ++ z) (same_code clock (registered_on p s) (registered_on p r) ms kinds alike)
same_code clock s r (starts c ps f ∷ ms) kinds alike = ap (λ z. ops_of s (starts c ps f) ++ z) (same_code clock s r ms kinds alike)
same_code clock s r (advances p ∷ ms) kinds alike =
    ap (λ b. (signal_of b p ++ op.Await (phaser p) Here ∷ []) ++ code_from (with_pending p false s) ms) (alike p kinds.0)
    ∙ ap (λ z. ops_of r (advances p) ++ z)
    (same_code clock (with_pending p false s) (with_pending p false r) ms kinds.1 (λ q is. updated_alike s.pending r.pending p false q (λ other. alike q is)))
same_code clock s r (resumes p ∷ ms) kinds alike =
    ap (λ z. ops_of s (resumes p) ++ z)
    (same_code clock (with_pending p true s) (with_pending p true r) ms kinds (λ q is. updated_alike s.pending r.pending p true q (λ other. alike q is)))
same_code clock s r (drops p ∷ ms) kinds alike =
    ap (λ z. ops_of s (drops p) ++ z)
    (same_code clock (unregistered_from p s) (unregistered_from p r) ms kinds (λ q is. updated_alike s.pending r.pending p false q (λ other. alike q is)))
same_code clock s r (begins f ∷ ms) kinds alike =
    ap (λ z. ops_of s (begins f) ++ z) (same_code clock (registered_on f s) (registered_on f r) ms kinds alike)
same_code clock s r (ends f ∷ ms) kinds alike =
    ap (λ z. ops_of s (ends f) ++ z)
    (same_code clock (unregistered_from f s) (unregistered_from f r) ms kinds.1 (λ q is. updated_alike s.pending r.pending f false q (λ other. alike q is)))
same_code clock s r (stops ps ∷ ms) kinds alike = refl

-- ---- where one waits

-- an activity with these moves, of which it has made these, stands so behind so many actions of its task: at an op that waits, and is one of the next move; and just those
-- clocks are pending of which it remembers a phase
pub record WaitsAtMove (clock : ℕ → Bool) (moves : List Move) (memory : ℕ → Option ℕ) (made : List Move) (done : ℕ) : Type 0 where
  pub place : ℕ
  pub phaser_number : ℕ
  pub stands : IsAtOp (code_of_moves moves) done place
  pub of_move : IsOpOfMove moves (length made) place
  pub awaits : slice_get (code_of_moves moves) place ≡ Some (op.Await (phaser phaser_number) Here)
  pub pending : (q : ℕ) → clock q ≡ true → is_pending (take place (code_of_moves moves)) q ≡ is_some (memory q)

module _ (clock : ℕ → Bool) (moves : List Move) (memory : ℕ → Option ℕ) where
  -- where its code is so, up to the await and from there on
  waits_so :
      (made : List Move) (m : Move) (ms : List Move) (before : List Op) (p : ℕ) (rest : List Op) (done : ℕ) → moves ≡ made ++ (m ∷ ms) →
      length (code_of_moves made) ≤ length before → length before < length (code_of_moves made) + length (ops_of (stood no_standing made) m) →
      code_of_moves moves ≡ before ++ (op.Await (phaser p) Here ∷ rest) → drop done (actions_of (code_of_moves moves)) ≡ Passes p ∷ actions_of rest →
      ((q : ℕ) → clock q ≡ true → is_pending before q ≡ is_some (memory q)) → WaitsAtMove clock moves memory made done
  waits_so made m ms before p rest done split low high code next agree =
      let await = op.Await (phaser p) Here in
      let fewer : take (length made) moves ≡ made = ap (take (length made)) split ∙ take_front made (m ∷ ms) in
      let more : take (suc (length made)) moves ≡ made ++ m ∷ [] = ap (take (suc (length made))) split ∙ take_next made m ms in
      let many : length (code_of_moves (made ++ m ∷ [])) ≡ length (code_of_moves made) + length (ops_of (stood no_standing made) m) =
      ap length (code_from-append no_standing made (m ∷ [])) ∙ length-append (code_of_moves made) (code_from (stood no_standing made) (m ∷ []))
      ∙ ap (λ z. length (code_of_moves made) + length z) (append-nil (ops_of (stood no_standing made) m)) in
      record {
        place = length before;
        phaser_number = p;
        stands = subst (λ ops. IsAtOp ops done (length before)) (sym code) (at_await before p rest done (ap (λ ops. drop done (actions_of ops)) (sym code) ∙ next));
        of_move = (
          omega (arith, low, ap (λ z. length (code_of_moves z)) fewer),
          omega (arith, high, many, ap (λ z. length (code_of_moves z)) more),
        );
        awaits = ap (λ ops. slice_get ops (length before)) code
            ∙ ap (slice_get (before ++ (await ∷ rest))) (let z : length before ≡ length before + 0 = omega arith in z) ∙ slice_get-behind before (await ∷ rest) 0;
        pending = λ q is. ap (λ ops. is_pending (take (length before) ops) q) code ∙ ap (λ z. is_pending z q) (take_front before (await ∷ rest)) ∙ agree q is;
      }

  -- at an advance of clock p, of which it remembers a phase; what is left of its task's code is that of an activity of which just the same clocks are pending
  pub waits_at_advance_move :
      (p : ℕ) (ms : List Move) (h : HasMade clock moves memory (advances p ∷ ms)) → AreOfKinds clock moves → is_some (memory p) ≡ true →
      (s : ActivityStanding) → ((q : ℕ) → clock q ≡ true → s.pending q ≡ is_some (memory q)) → (done : ℕ) →
      drop done (actions_of (code_of_moves moves)) ≡ Passes p ∷ actions_of (code_from (with_pending p false s) ms) → WaitsAtMove clock moves memory h.made done
  waits_at_advance_move p ms h kinds some s alike done next =
      let was = stood no_standing h.made in
      let signal = signal_of (was.pending p) p in
      let await = op.Await (phaser p) Here in
      let rest = code_from (with_pending p false was) ms in
      let code : code_of_moves moves ≡ (code_of_moves h.made ++ signal) ++ (await ∷ rest) =
      ap code_of_moves h.split ∙ code_from-append no_standing h.made (advances p ∷ ms)
      ∙ ap (λ z. code_of_moves h.made ++ z) (append_assoc signal (await ∷ []) rest) ∙ sym (append_assoc (code_of_moves h.made) signal (await ∷ rest)) in
      let same : code_from (with_pending p false s) ms ≡ rest =
      same_code clock (with_pending p false s) (with_pending p false was) ms h.kinds.1
      (λ q is. updated_alike s.pending was.pending p false q (λ other. alike q is ∙ sym (agree_beside clock moves memory p ms h q other is))) in
      let many = length-append (code_of_moves h.made) signal in
      waits_so h.made (advances p) ms (code_of_moves h.made ++ signal) p rest done h.split
      (omega (arith, many))
      (omega (arith, many, length-append signal (await ∷ [])))
      code (next ∙ ap (λ z. Passes p ∷ actions_of z) same)
      (advance_remembers clock moves memory p ms h (none_stops clock h.made (advances p) ms (subst (AreOfKinds clock) h.split kinds)) some)

  -- or at the end of finish f
  pub waits_at_end_move :
      (f : ℕ) (ms : List Move) (h : HasMade clock moves memory (ends f ∷ ms)) → AreOfKinds clock moves →
      (s : ActivityStanding) → ((q : ℕ) → clock q ≡ true → s.pending q ≡ is_some (memory q)) → (done : ℕ) →
      drop done (actions_of (code_of_moves moves)) ≡ Passes f ∷ (Drops f ∷ actions_of (code_from (unregistered_from f s) ms)) →
      WaitsAtMove clock moves memory h.made done
  waits_at_end_move f ms h kinds s alike done next =
      let was = stood no_standing h.made in
      let signal : List Op = op.Adv (phaser f) ∷ [] in
      let await = op.Await (phaser f) Here in
      let rest = code_from (unregistered_from f was) ms in
      let code : code_of_moves moves ≡ (code_of_moves h.made ++ signal) ++ (await ∷ (op.Drop (phaser f) ∷ rest)) =
      ap code_of_moves h.split ∙ code_from-append no_standing h.made (ends f ∷ ms) ∙ sym (append_assoc (code_of_moves h.made) signal (await ∷ (op.Drop (phaser f) ∷ rest))) in
      let same : code_from (unregistered_from f s) ms ≡ rest =
      same_code clock (unregistered_from f s) (unregistered_from f was) ms h.kinds.1
      (λ q is. updated_alike s.pending was.pending f false q (λ other. alike q is ∙ sym (agree_before clock moves memory (ends f) ms h (λ p. λ e. absurd (cc)) q is))) in
      let many = length-append (code_of_moves h.made) signal in
      waits_so h.made (ends f) ms (code_of_moves h.made ++ signal) f (op.Drop (phaser f) ∷ rest) done h.split
      (omega (arith, many))
      (omega (arith, many))
      code (next ∙ ap (λ z. Passes f ∷ (Drops f ∷ actions_of z)) same)
      (end_remembers clock moves memory f ms h (none_stops clock h.made (ends f) ms (subst (AreOfKinds clock) h.split kinds)))
