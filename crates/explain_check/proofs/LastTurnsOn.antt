-- The last turns tell the turns of the stages, when one more passes.
use Rattle.std.proofs.Common.{◌≡◌, ℕ, ◌+◌, ◌<◌, ◌≤◌, inl, inr, Bool, true, false, List, [], ◌∷◌, ◌++◌, length, arith, sym, ◌∙◌, ap, subst, refl}
use Rattle.std.specs.Prelude.{◌==◌, ◌&&◌, if◌then◌else◌, slice_index_or, slice_set}
use Rattle.std.proofs.lemmas.Bool.{cases_eq, eq-eqb}
use Rattle.std.proofs.lemmas.Bool.Decides.{eqb_tells}
use Rattle.std.proofs.lemmas.List.{append-nil, get_or-set_other, get_or-set_same, length-set}
use Rattle.armus_base.specs.declared.ids.TaskId.{TaskId}
use Rattle.pl_plan.specs.Unfolding.{Visit}
use Rattle.pl_plan.specs.Stages.{Stage, comes}
use Rattle.pl_plan.specs.declared.step.FlatStep.{FlatStep}
use Rattle.pl_plan.specs.inside.Checker.{Checker}
use Rattle.explain_check.specs.Turns.{begins_turn, comes_to_loop, turn_in, visits_among}
use Rattle.explain_check.specs.declared.frames.Item.{Item}
use Rattle.explain_check.specs.declared.notes.LastTurn.{LastTurn}
use Rattle.explain_check.specs.inside.Framed.{Comes, to_adv, to_await, to_dereg, to_fork, to_loop, to_new_phaser, to_new_task, to_reg, to_skip, to_turn}
use Rattle.explain_check.specs.inside.Noted.{LastTurnsTell, TurnsTold, no_turn, turn_at, turn_by, with_last_turn}
use Rattle.explain_check.specs.inside.Seen.{sight_of}
use Rattle.explain_check.proofs.TurnCounts.{among_append, turn_more}

and_false : (b : Bool) → b && false ≡ false
and_false true = refl
and_false false = refl

and_true : (b : Bool) → b && true ≡ b
and_true true = refl
and_true false = refl

not_equal : (a b : ℕ) → (a ≡ b → ⊥) → (a == b) ≡ false
not_equal a b differ = elim (eqb_tells a b) [
  | inl y ↦ absurd (differ y.1)
  | inr n ↦ n.0
]

own_visit : (t : ℕ) (xs : List Stage) (m : Visit) → visits_among t (xs ++ comes t m ∷ []) ≡ visits_among t xs ++ m ∷ []
own_visit t xs m = among_append t xs (comes t m ∷ []) ∙ ap (λ b. visits_among t xs ++ (if b then m ∷ [] else [])) (eq-eqb t t refl)

pub other_visit : (t u : ℕ) (xs : List Stage) (m : Visit) → (t ≡ u → ⊥) → visits_among u (xs ++ comes t m ∷ []) ≡ visits_among u xs
other_visit t u xs m differ =
    among_append u xs (comes t m ∷ []) ∙ ap (λ b. visits_among u xs ++ (if b then m ∷ [] else [])) (not_equal t u differ) ∙ append-nil (visits_among u xs)

module _ (t : TaskId) (xs : List Stage) (last_turns : List LastTurn) (told : TurnsTold t.0 xs last_turns) where
  -- the visit is no coming to a loop and no turn
  stays : (m : Visit) → ((n : ℕ) → comes_to_loop n m ≡ false) → ((n : ℕ) → begins_turn n m ≡ false) → TurnsTold t.0 (xs ++ comes t.0 m ∷ []) last_turns
  stays m a b at =
      told at ∙ sym (ap (turn_in (at + 1)) (own_visit t.0 xs m) ∙ turn_more (at + 1) (visits_among t.0 xs) m false false (a (at + 1)) (b (at + 1)))

  loop_on : (m : Visit) (at : ℕ) → at < length last_turns → ((n : ℕ) → comes_to_loop n m ≡ ((at + 1) == n)) → ((n : ℕ) → begins_turn n m ≡ false) →
      TurnsTold t.0 (xs ++ comes t.0 m ∷ []) (slice_set last_turns at (record { task = t; turn = 0 }))
  loop_on m at here a b other =
      elim (cases_eq other at) [
        | inl same ↦
            ap (turn_by t.0) (ap (λ i. slice_index_or (slice_set last_turns at (record { task = t; turn = 0 })) i no_turn) same ∙ get_or-set_same last_turns at (record { task = t; turn = 0 }) no_turn here)
            ∙ zero_turn (t.0 == t.0)
            ∙ sym (ap (turn_in (other + 1)) (own_visit t.0 xs m)
            ∙ turn_more (other + 1) (visits_among t.0 xs) m true false (a (other + 1) ∙ eq-eqb (at + 1) (other + 1) (ap (λ i. i + 1) (sym same))) (b (other + 1)))
        | inr differ ↦
            ap (turn_by t.0) (get_or-set_other last_turns at other (record { task = t; turn = 0 }) no_turn differ)
            ∙ told other
            ∙ sym (ap (turn_in (other + 1)) (own_visit t.0 xs m)
            ∙ turn_more (other + 1) (visits_among t.0 xs) m false false (a (other + 1) ∙ not_equal (at + 1) (other + 1) (λ e. differ (omega (arith, e)))) (b (other + 1)))
      ]
    where
      zero_turn : (c : Bool) → ◌≡◌ {A = ℕ} (if c then 0 else 0) 0
      zero_turn true = refl
      zero_turn false = refl

  turn_on : (m : Visit) (at : ℕ) → at < length last_turns → ((n : ℕ) → comes_to_loop n m ≡ false) → ((n : ℕ) → begins_turn n m ≡ ((at + 1) == n)) →
      TurnsTold t.0 (xs ++ comes t.0 m ∷ []) (slice_set last_turns at (record { task = t; turn = turn_at last_turns t.0 at + 1 }))
  turn_on m at here a b other =
      let new : LastTurn = record { task = t; turn = turn_at last_turns t.0 at + 1 } in
      elim (cases_eq other at) [
        | inl same ↦
            ap (turn_by t.0) (ap (λ i. slice_index_or (slice_set last_turns at new) i no_turn) same ∙ get_or-set_same last_turns at new no_turn here)
            ∙ ap (λ c. if c then turn_at last_turns t.0 at + 1 else 0) (eq-eqb t.0 t.0 refl)
            ∙ ap (λ i. i + 1) (told at)
            ∙ ap (λ i. turn_in (i + 1) (visits_among t.0 xs) + 1) (sym same)
            ∙ sym (ap (turn_in (other + 1)) (own_visit t.0 xs m)
            ∙ turn_more (other + 1) (visits_among t.0 xs) m false true (a (other + 1)) (b (other + 1) ∙ eq-eqb (at + 1) (other + 1) (ap (λ i. i + 1) (sym same))))
        | inr differ ↦
            ap (turn_by t.0) (get_or-set_other last_turns at other new no_turn differ)
            ∙ told other
            ∙ sym (ap (turn_in (other + 1)) (own_visit t.0 xs m)
            ∙ turn_more (other + 1) (visits_among t.0 xs) m false false (a (other + 1)) (b (other + 1) ∙ not_equal (at + 1) (other + 1) (λ e. differ (omega (arith, e)))))
      ]

  pub turns_on : (k : Checker) (n : ℕ) (names : ℕ → List ℕ) (steps : List FlatStep) (item : Item) (m : Visit) → Comes n names steps item m → item.at < length last_turns →
      TurnsTold t.0 (xs ++ comes t.0 m ∷ []) (with_last_turn (sight_of k t item) last_turns)
  turns_on k n names steps i m (to_new_task {at} x l) here = stays m (λ j. and_false ((at + 1) == j)) (λ j. and_false ((at + 1) == j))
  turns_on k n names steps i m (to_new_phaser {at} x l) here = stays m (λ j. and_false ((at + 1) == j)) (λ j. and_false ((at + 1) == j))
  turns_on k n names steps i m (to_reg {at} x y l r) here = stays m (λ j. and_false ((at + 1) == j)) (λ j. and_false ((at + 1) == j))
  turns_on k n names steps i m (to_dereg {at} x l) here = stays m (λ j. and_false ((at + 1) == j)) (λ j. and_false ((at + 1) == j))
  turns_on k n names steps i m (to_adv {at} x l) here = stays m (λ j. and_false ((at + 1) == j)) (λ j. and_false ((at + 1) == j))
  turns_on k n names steps i m (to_await {at} x off l near) here = stays m (λ j. and_false ((at + 1) == j)) (λ j. and_false ((at + 1) == j))
  turns_on k n names steps i m (to_skip {at}) here = stays m (λ j. and_false ((at + 1) == j)) (λ j. and_false ((at + 1) == j))
  turns_on k n names steps i m (to_fork {at} x after body l within spelled) here = stays m (λ j. and_false ((at + 1) == j)) (λ j. and_false ((at + 1) == j))
  turns_on k n names steps i m (to_loop {at} c after steady) here = loop_on m at here (λ j. and_true ((at + 1) == j)) (λ j. and_false ((at + 1) == j))
  turns_on k n names steps i m (to_turn {at}) here = turn_on m at here (λ j. and_false ((at + 1) == j)) (λ j. and_true ((at + 1) == j))

-- ---- what else is known of last turns

module _ (t : ℕ) (steps visits : ℕ) (xs : List Stage) (last_turns : List LastTurn) (tell : LastTurnsTell t steps visits xs last_turns) where
  pub turn_few : (at : ℕ) → turn_at last_turns t at ≤ visits
  turn_few at = by ((slice_index_or last_turns at no_turn).task.0 == t)
    where
      by : (b : Bool) → (if b then (slice_index_or last_turns at no_turn).turn else 0) ≤ visits
      by true = tell.few at
      by false = omega arith

  set_tells : (new : LastTurn) (at : ℕ) (m : Visit) → at < length last_turns → new.task.0 ≤ t → new.turn ≤ visits + 1 →
      TurnsTold t (xs ++ comes t m ∷ []) (slice_set last_turns at new) → LastTurnsTell t steps (visits + 1) (xs ++ comes t m ∷ []) (slice_set last_turns at new)
  set_tells new at m here low few turns =
      record {
        many = length-set last_turns at new ∙ tell.many;
        earlier = λ i. elim (cases_eq i at) [
          | inl same ↦ subst (λ (z : LastTurn). z.task.0 ≤ t) (sym (ap (λ j. slice_index_or (slice_set last_turns at new) j no_turn) same ∙ get_or-set_same last_turns at new no_turn here)) low
          | inr differ ↦ subst (λ (z : LastTurn). z.task.0 ≤ t) (sym (get_or-set_other last_turns at i new no_turn differ)) (tell.earlier i)
        ];
        few = λ i. elim (cases_eq i at) [
          | inl same ↦ subst (λ (z : LastTurn). z.turn ≤ visits + 1) (sym (ap (λ j. slice_index_or (slice_set last_turns at new) j no_turn) same ∙ get_or-set_same last_turns at new no_turn here)) few
          | inr differ ↦ subst (λ (z : LastTurn). z.turn ≤ visits + 1) (sym (get_or-set_other last_turns at i new no_turn differ)) (omega (arith, tell.few i))
        ];
        later = λ u l. other_visit t u xs m (λ e. omega (arith, l, e)) ∙ tell.later u l;
        turns = turns;
      }

  same_tells : (m : Visit) → TurnsTold t (xs ++ comes t m ∷ []) last_turns → LastTurnsTell t steps (visits + 1) (xs ++ comes t m ∷ []) last_turns
  same_tells m turns =
      record {
        many = tell.many;
        earlier = tell.earlier;
        few = λ i. omega (arith, tell.few i);
        later = λ u l. other_visit t u xs m (λ e. omega (arith, l, e)) ∙ tell.later u l;
        turns = turns;
      }

pub last_turns_on : (t : TaskId) (steps visits : ℕ) (xs : List Stage) (last_turns : List LastTurn) → LastTurnsTell t.0 steps visits xs last_turns → (k : Checker) (n : ℕ) (names : ℕ → List ℕ)
    (all : List FlatStep) (item : Item) (m : Visit) → Comes n names all item m → item.at < length last_turns →
    LastTurnsTell t.0 steps (visits + 1) (xs ++ comes t.0 m ∷ []) (with_last_turn (sight_of k t item) last_turns)
last_turns_on t steps visits xs last_turns tell k n names all item m c here = by item m c here (turns_on t xs last_turns tell.turns k n names all item m c here)
  where
    by : (item : Item) (m : Visit) → Comes n names all item m → item.at < length last_turns → TurnsTold t.0 (xs ++ comes t.0 m ∷ []) (with_last_turn (sight_of k t item) last_turns) →
        LastTurnsTell t.0 steps (visits + 1) (xs ++ comes t.0 m ∷ []) (with_last_turn (sight_of k t item) last_turns)
    by i m (to_new_task x l) here turns = same_tells t.0 steps visits xs last_turns tell m turns
    by i m (to_new_phaser x l) here turns = same_tells t.0 steps visits xs last_turns tell m turns
    by i m (to_reg x y l r) here turns = same_tells t.0 steps visits xs last_turns tell m turns
    by i m (to_dereg x l) here turns = same_tells t.0 steps visits xs last_turns tell m turns
    by i m (to_adv x l) here turns = same_tells t.0 steps visits xs last_turns tell m turns
    by i m (to_await x off l near) here turns = same_tells t.0 steps visits xs last_turns tell m turns
    by i m to_skip here turns = same_tells t.0 steps visits xs last_turns tell m turns
    by i m (to_fork x after body l within spelled) here turns = same_tells t.0 steps visits xs last_turns tell m turns
    by i m (to_loop {at} c after steady) here turns = set_tells t.0 steps visits xs last_turns tell (record { task = t; turn = 0 }) at m here (omega arith) (omega arith) turns
    by i m (to_turn {at}) here turns =
        set_tells t.0 steps visits xs last_turns tell (record { task = t; turn = turn_at last_turns t.0 at + 1 }) at m here (omega arith)
        (let l = turn_few t.0 steps visits xs last_turns tell at in omega (arith, l)) turns
