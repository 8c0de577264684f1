-- Behind the ops of moves just those clocks are pending that are pending behind the moves.
use Rattle.std.proofs.Common.{◌≡◌, ◌≢◌, ℕ, Bool, true, false, Option, List, [], ◌∷◌, ◌++◌, append_assoc, append-nil, map, sym, ◌∙◌, ap, refl, inl, inr}
use Rattle.std.specs.Prelude.{◌==◌, ◌&&◌, ◌||◌, if◌then◌else◌, is_some, not, option_to_list, reverse}
use Rattle.std.proofs.lemmas.Bool.{cases_eq, eq-eqb, false≢true, ne_eqb}
use Rattle.std.proofs.lemmas.List.{reverse-append}
use Rattle.armus_base.specs.declared.offset.Offset.TheVariants.{Here}
use Rattle.armus_base.specs.declared.op.Op.{Op}
use Rattle.armus_base.specs.declared.op.Op.TheVariants as op
use Rattle.armus_base.specs.Numbers.{phaser, task}
use Rattle.armus_base.specs.States.{updated}
use Rattle.armus_base.proofs.Steps.{updated_other, updated_same}
use Rattle.clock_semantics.specs.Moves.{ActivityStanding, Move, advances, after_move, begins, code_from, code_of_moves, drops, ends, no_standing, opens, ops_of, resumes, starts, stops}
use Rattle.clock_semantics.proofs.MoveCodes.{stood}
use Rattle.explain_clock.specs.ClockFacts.{is_pending, is_signalled}
use Rattle.report_laws.proofs.MovesOfRuns.{AreOfKinds, HasMade, Remembers, agree_before, between, signalled}

-- ---- ops

-- of p was or was not signalled; now there is a signal on q, or none is left there
signal_on : (p q : ℕ) (pending : ℕ → Bool) (was : Bool) → was ≡ pending q → (p == q || was) ≡ updated pending p true q
signal_on p q pending was is =
    elim (cases_eq q p) [
      | inl same ↦ ap (λ b. b || was) (eq-eqb p q (sym same)) ∙ sym (updated_same pending p q true same)
      | inr other ↦ ap (λ b. b || was) (ne_eqb p q (λ e. other (sym e))) ∙ is ∙ sym (updated_other pending p q true other)
    ]

none_on : (p q : ℕ) (pending : ℕ → Bool) (was : Bool) → (q ≢ p → was ≡ pending q) → (not (p == q) && was) ≡ updated pending p false q
none_on p q pending was is =
    elim (cases_eq q p) [
      | inl same ↦ ap (λ b. not b && was) (eq-eqb p q (sym same)) ∙ sym (updated_same pending p q false same)
      | inr other ↦ ap (λ b. not b && was) (ne_eqb p q (λ e. other (sym e))) ∙ is other ∙ sym (updated_other pending p q false other)
    ]

-- an op more
one_op_more : (xs : List Op) (o : Op) (q : ℕ) → is_pending (xs ++ o ∷ []) q ≡ is_signalled q (o ∷ reverse xs)
one_op_more xs o q = ap (is_signalled q) (reverse-append xs (o ∷ []))

-- these ops signal on nothing, wait for nothing and leave nothing
abbrev AreQuiet : List Op → Type 0
AreQuiet [] = Unit {0}
AreQuiet (o ∷ os) = ((q : ℕ) (before : List Op) → is_signalled q (o ∷ before) ≡ is_signalled q before) × AreQuiet os

quiet_more : (os xs : List Op) (q : ℕ) → AreQuiet os → is_pending (xs ++ os) q ≡ is_pending xs q
quiet_more [] xs q quiet = ap (λ z. is_pending z q) (append-nil xs)
quiet_more (o ∷ os) xs q quiet =
    ap (λ z. is_pending z q) (sym (append_assoc xs (o ∷ []) os)) ∙ quiet_more os (xs ++ o ∷ []) q quiet.1 ∙ one_op_more xs o q ∙ quiet.0 q (reverse xs)

regs_quiet : (c : ℕ) (ps : List ℕ) (more : List Op) → AreQuiet more → AreQuiet (map (λ p. op.Reg (task c) (phaser p)) ps ++ more)
regs_quiet c [] more quiet = quiet
regs_quiet c (p ∷ ps) more quiet = ((λ q before. refl), regs_quiet c ps more quiet)

-- ---- moves

-- the move is no stop
abbrev IsNoStop : Move → Type 0
IsNoStop m = (ps : List ℕ) → m ≡ stops ps → ⊥

advance_pending :
    (b : Bool) (p : ℕ) (pending : ℕ → Bool) (xs : List Op) (q : ℕ) → is_pending xs q ≡ pending q →
    is_pending (xs ++ ((if b then [] else op.Adv (phaser p) ∷ []) ++ op.Await (phaser p) Here ∷ [])) q ≡ updated pending p false q
advance_pending true p pending xs q is = one_op_more xs (op.Await (phaser p) Here) q ∙ none_on p q pending (is_signalled q (reverse xs)) (λ other. is)
advance_pending false p pending xs q is =
    ap (λ z. is_pending z q) (sym (append_assoc xs (op.Adv (phaser p) ∷ []) (op.Await (phaser p) Here ∷ [])))
    ∙ one_op_more (xs ++ op.Adv (phaser p) ∷ []) (op.Await (phaser p) Here) q
    ∙ none_on p q pending (is_pending (xs ++ op.Adv (phaser p) ∷ []) q)
    (λ other. one_op_more xs (op.Adv (phaser p)) q ∙ ap (λ b. b || is_signalled q (reverse xs)) (ne_eqb p q (λ e. other (sym e))) ∙ is)

move_pending :
    (s : ActivityStanding) (m : Move) (xs : List Op) (q : ℕ) → IsNoStop m → is_pending xs q ≡ s.pending q → is_pending (xs ++ ops_of s m) q ≡ (after_move m s).pending q
move_pending s (opens p) xs q no_stop is = one_op_more xs (op.Make (phaser p)) q ∙ is
move_pending s (starts c ps f) xs q no_stop is =
    quiet_more (ops_of s (starts c ps f)) xs q (regs_quiet c ps _ (regs_quiet c (option_to_list f) (op.Fork (task c) ∷ []) ((λ r before. refl), tt))) ∙ is
move_pending s (advances p) xs q no_stop is = advance_pending (s.pending p) p s.pending xs q is
move_pending s (resumes p) xs q no_stop is = one_op_more xs (op.Adv (phaser p)) q ∙ signal_on p q s.pending (is_signalled q (reverse xs)) is
move_pending s (drops p) xs q no_stop is = one_op_more xs (op.Drop (phaser p)) q ∙ none_on p q s.pending (is_signalled q (reverse xs)) (λ other. is)
move_pending s (begins f) xs q no_stop is = one_op_more xs (op.Make (phaser f)) q ∙ is
move_pending s (ends f) xs q no_stop is =
    let first = xs ++ op.Adv (phaser f) ∷ [] in
    let second = first ++ op.Await (phaser f) Here ∷ [] in
    ap (λ z. is_pending z q)
    (sym (append_assoc xs (op.Adv (phaser f) ∷ []) (op.Await (phaser f) Here ∷ op.Drop (phaser f) ∷ []))
    ∙ sym (append_assoc first (op.Await (phaser f) Here ∷ []) (op.Drop (phaser f) ∷ [])))
    ∙ one_op_more second (op.Drop (phaser f)) q
    ∙ none_on f q s.pending (is_pending second q)
    (λ other.
    one_op_more first (op.Await (phaser f) Here) q
    ∙ ap (λ b. not b && is_pending first q) (ne_eqb f q (λ e. other (sym e)))
    ∙ one_op_more xs (op.Adv (phaser f)) q
    ∙ ap (λ b. b || is_signalled q (reverse xs)) (ne_eqb f q (λ e. other (sym e))) ∙ is)
move_pending s (stops ps) xs q no_stop is = absurd (no_stop ps refl)

-- no move of these is a stop
abbrev pub HaveNoStop : List Move → Type 0
HaveNoStop [] = Unit {0}
HaveNoStop (m ∷ ms) = IsNoStop m × HaveNoStop ms

moves_pending :
    (s : ActivityStanding) (ms : List Move) (xs : List Op) (q : ℕ) → HaveNoStop ms → ((r : ℕ) → is_pending xs r ≡ s.pending r) →
    is_pending (xs ++ code_from s ms) q ≡ (stood s ms).pending q
moves_pending s [] xs q none is = ap (λ z. is_pending z q) (append-nil xs) ∙ is q
moves_pending s (m ∷ ms) xs q none is =
    ap (λ z. is_pending z q) (sym (append_assoc xs (ops_of s m) (code_from (after_move m s) ms)))
    ∙ moves_pending (after_move m s) ms (xs ++ ops_of s m) q none.1 (λ r. move_pending s m xs r none.0 (is r))

pub code_pending : (ms : List Move) (q : ℕ) → HaveNoStop ms → is_pending (code_of_moves ms) q ≡ (stood no_standing ms).pending q
code_pending ms q none = moves_pending no_standing ms [] q none (λ r. refl)

-- behind a move there is no stop before it
pub none_stops : (clock : ℕ → Bool) (made : List Move) (m : Move) (ms : List Move) → AreOfKinds clock (made ++ m ∷ ms) → HaveNoStop made
none_stops clock [] m ms kinds = tt
none_stops clock (opens p ∷ made) m ms kinds = ((λ ps. λ e. absurd (cc)), none_stops clock made m ms kinds)
none_stops clock (starts c ps f ∷ made) m ms kinds = ((λ qs. λ e. absurd (cc)), none_stops clock made m ms kinds)
none_stops clock (advances p ∷ made) m ms kinds = ((λ ps. λ e. absurd (cc)), none_stops clock made m ms kinds.1)
none_stops clock (resumes p ∷ made) m ms kinds = ((λ ps. λ e. absurd (cc)), none_stops clock made m ms kinds)
none_stops clock (drops p ∷ made) m ms kinds = ((λ ps. λ e. absurd (cc)), none_stops clock made m ms kinds)
none_stops clock (begins f ∷ made) m ms kinds = ((λ ps. λ e. absurd (cc)), none_stops clock made m ms kinds)
none_stops clock (ends f ∷ made) m ms kinds = ((λ ps. λ e. absurd (cc)), none_stops clock made m ms kinds.1)
none_stops clock (stops ps ∷ made) m ms kinds = absurd (not_empty made m ms kinds.0)
  where
    not_empty : (xs : List Move) (m : Move) (ms : List Move) → xs ++ m ∷ ms ≡ [] → ⊥
    not_empty [] m ms e = absurd (cc)
    not_empty (x ∷ xs) m ms e = absurd (cc)

-- ---- where one waits

-- the signal that an advance makes of a clock that is pending or not
abbrev pub signal_of : Bool → ℕ → List Op
signal_of b p = if b then [] else op.Adv (phaser p) ∷ []

module _ (clock : ℕ → Bool) (moves : List Move) (memory : ℕ → Option ℕ) where
  -- behind the signal of an advance, whose phase is remembered, just those clocks are pending of which a phase is remembered
  pub advance_remembers :
      (p : ℕ) (ms : List Move) (h : HasMade clock moves memory (advances p ∷ ms)) → HaveNoStop h.made → is_some (memory p) ≡ true → (q : ℕ) → clock q ≡ true →
      is_pending (code_of_moves h.made ++ signal_of ((stood no_standing h.made).pending p) p) q ≡ is_some (memory q)
  advance_remembers p ms h none some q is = by h.remembers
    where
      was : ℕ → Bool
      was = (stood no_standing h.made).pending

      -- it was pending already
      nothing : was p ≡ true → was q ≡ is_some (memory q) → is_pending (code_of_moves h.made ++ signal_of (was p) p) q ≡ is_some (memory q)
      nothing on agree =
          ap (λ b. is_pending (code_of_moves h.made ++ signal_of b p) q) on ∙ ap (λ z. is_pending z q) (append-nil (code_of_moves h.made))
          ∙ code_pending h.made q none ∙ agree

      -- or it has signalled
      signal : was p ≡ false → updated was p true q ≡ is_some (memory q) → is_pending (code_of_moves h.made ++ signal_of (was p) p) q ≡ is_some (memory q)
      signal off agree =
          ap (λ b. is_pending (code_of_moves h.made ++ signal_of b p) q) off ∙ one_op_more (code_of_moves h.made) (op.Adv (phaser p)) q
          ∙ signal_on p q was (is_pending (code_of_moves h.made) q) (code_pending h.made q none) ∙ agree

      by : Remembers clock was memory (advances p ∷ ms) → is_pending (code_of_moves h.made ++ signal_of (was p) p) q ≡ is_some (memory q)
      by (between agree) = nothing (agree p h.kinds.0 ∙ some) (agree q is)
      by (signalled r rest same off kept agree) =
          let one : r ≡ p = cc in
          signal (ap was (sym one) ∙ off) (elim (cases_eq q p) [
            | inl here ↦ updated_same was p q true here ∙ sym (ap (λ z. is_some (memory z)) here ∙ some)
            | inr other ↦ updated_other was p q true other ∙ agree q (λ e. other (e ∙ one)) is
          ])

  -- so it is behind the signal with which a finish ends
  pub end_remembers :
      (f : ℕ) (ms : List Move) (h : HasMade clock moves memory (ends f ∷ ms)) → HaveNoStop h.made → (q : ℕ) → clock q ≡ true →
      is_pending (code_of_moves h.made ++ op.Adv (phaser f) ∷ []) q ≡ is_some (memory q)
  end_remembers f ms h none q is =
      one_op_more (code_of_moves h.made) (op.Adv (phaser f)) q
      ∙ ap (λ b. b || is_pending (code_of_moves h.made) q) (ne_eqb f q (λ same. false≢true (sym h.kinds.0 ∙ ap clock same ∙ is)))
      ∙ code_pending h.made q none ∙ agree_before clock moves memory (ends f) ms h (λ p. λ e. absurd (cc)) q is
