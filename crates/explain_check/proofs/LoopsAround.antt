-- The loops around a statement, step by step.
use Rattle.std.proofs.Common.{◌≡◌, ℕ, ◌+◌, ◌<◌, ◌≤◌, Bool, true, false, List, [], ◌∷◌, ◌++◌, length, Option, Some, None, append_assoc, arith, sym, ◌∙◌, ap, subst, refl}
use Rattle.std.specs.Prelude.{◌&&◌, if◌then◌else◌, map, nat_le, nat_lt}
use Rattle.std.proofs.lemmas.List.{append-nil}
use Rattle.pl_syntax.specs.Tree.{Plain, Tree, done, plain, fork, loop, count, new_task, new_phaser, reg, dereg, adv, await, skip}
use Rattle.pl_plan.specs.declared.step.FlatStep.{FlatStep}
use Rattle.pl_plan.specs.inside.Steps.{IsList, IsSpelled, IsStep, step_at}
use Rattle.pl_plan.proofs.Spelled.{spelled_count}
use Rattle.explain_check.specs.Turns.{loops_around}
use Rattle.explain_check.specs.declared.notes.LastTurn.{LastTurn}
use Rattle.explain_check.specs.declared.scene.LoopTurn.{LoopTurn}
use Rattle.explain_check.specs.inside.Told.{AreTurns, index_behind, enters, turn_told}

plain_enters : (n : ℕ) (names : ℕ → List ℕ) (step : FlatStep) (c : Plain) (at s : ℕ) → IsStep n names step c → enters step at s ≡ None
plain_enters n names step (new_task x) at s h = ap (λ z. enters z at s) h.1
plain_enters n names step (new_phaser x) at s h = ap (λ z. enters z at s) h.1
plain_enters n names step (reg x y) at s h = ap (λ z. enters z at s) h.2
plain_enters n names step (dereg x) at s h = ap (λ z. enters z at s) h.1
plain_enters n names step (adv x) at s h = ap (λ z. enters z at s) h.1
plain_enters n names step (await x off) at s h = ap (λ z. enters z at s) h.1
plain_enters n names step skip at s h = ap (λ z. enters z at s) h

plain_behind : (n : ℕ) (names : ℕ → List ℕ) (step : FlatStep) (c : Plain) (at : ℕ) → IsStep n names step c → index_behind step at ≡ at + 1
plain_behind n names step (new_task x) at h = ap (λ z. index_behind z at) h.1
plain_behind n names step (new_phaser x) at h = ap (λ z. index_behind z at) h.1
plain_behind n names step (reg x y) at h = ap (λ z. index_behind z at) h.2
plain_behind n names step (dereg x) at h = ap (λ z. index_behind z at) h.1
plain_behind n names step (adv x) at h = ap (λ z. index_behind z at) h.1
plain_behind n names step (await x off) at h = ap (λ z. index_behind z at) h.1
plain_behind n names step skip at h = ap (λ z. index_behind z at) h

some_is : {a b : ℕ} → ◌≡◌ {A = Option ℕ} (Some a) (Some b) → a ≡ b
some_is e = cc

none_is : {a : ℕ} → ◌≡◌ {A = Option ℕ} None (Some a) → ⊥
none_is e = absurd cc

module _ (n : ℕ) (names : ℕ → List ℕ) (steps : List FlatStep) (s at to : ℕ) where
  -- the statement stands in this loop
  pub record Inside (tree : Tree) (end : ℕ) : Type 0 where
    pub body : Tree
    pub there : IsSpelled n names steps (at + 1) body end
    pub within : end ≤ to
    pub loops_are : loops_around (at + 1) tree s ≡ (at + 1) ∷ loops_around (at + 1 + 1) body s

  -- or behind it
  pub record Outside (tree : Tree) (next : ℕ) : Type 0 where
    pub rest : Tree
    pub there : IsSpelled n names steps next rest to
    pub further : at < next
    pub within : next ≤ to
    pub loops_are : loops_around (at + 1) tree s ≡ loops_around (next + 1) rest s

  loop_enters : (b : Bool) (end : ℕ) (after : ℕ) → (if b then Some after else None) ≡ Some end → (b ≡ true) × (after ≡ end)
  loop_enters true end after e = (refl, some_is e)
  loop_enters false end after e = absurd (none_is e)

  loop_passes : (b : Bool) (after : ℕ) → (if b then Some after else None) ≡ None → b ≡ false
  loop_passes true after e = absurd (none_is (sym e))
  loop_passes false after e = refl

  pub inside : (tree : Tree) (end : ℕ) → IsSpelled n names steps at tree to → at < to → enters (step_at steps at) at s ≡ Some end → Inside tree end
  inside done end e lt is = absurd (omega (arith, e, lt))
  inside (plain c rest) end e lt is = absurd (none_is (sym (plain_enters n names (step_at steps at) c at s e.0) ∙ is))
  inside (fork x body rest) end e lt is = absurd (none_is (sym (ap (λ z. enters z at s) e.2) ∙ is))
  inside (loop k body rest) end e lt is =
      let inner = spelled_count n names steps (at + 1) body e.0 e.3 in
      let outer = spelled_count n names steps e.0 rest to e.4 in
      let l = loop_enters (nat_lt (at + 1) s && nat_le s e.0) end e.0 (sym (ap (λ z. enters z at s) e.1) ∙ is) in
      let test : nat_lt (at + 1) s && nat_le s (at + 1 + count body) ≡ true = ap (λ i. nat_lt (at + 1) s && nat_le s i) (sym inner) ∙ l.0 in
      record {
        body = body;
        there = subst (λ i. IsSpelled n names steps (at + 1) body i) l.1 e.3;
        within = omega (arith, outer, l.1);
        loops_are = ap (λ (b : Bool). if b then (at + 1) ∷ loops_around (at + 1 + 1) body s else loops_around (at + 1 + 1 + count body) rest s) test;
      }

  pub outside : (tree : Tree) → IsSpelled n names steps at tree to → at < to → enters (step_at steps at) at s ≡ None → Outside tree (index_behind (step_at steps at) at)
  outside done e lt is = absurd (omega (arith, e, lt))
  outside (plain c rest) e lt is =
      subst (λ i. Outside (plain c rest) i) (sym (plain_behind n names (step_at steps at) c at e.0))
      (record { rest = rest; there = e.1; further = omega arith; within = omega (arith, lt); loops_are = refl })
  outside (fork x body rest) e lt is =
      let inner = spelled_count n names steps (at + 1) body e.1 e.4 in
      let outer = spelled_count n names steps e.1 rest to e.5 in
      subst (λ i. Outside (fork x body rest) i) (sym (ap (λ z. index_behind z at) e.2))
      (record {
        rest = rest;
        there = e.5;
        further = omega (arith, inner);
        within = omega (arith, outer);
        loops_are = ap (λ i. loops_around i rest s) (let z : at + 1 + 1 + count body ≡ e.1 + 1 = omega (arith, inner) in z);
      })
  outside (loop k body rest) e lt is =
      let inner = spelled_count n names steps (at + 1) body e.0 e.3 in
      let outer = spelled_count n names steps e.0 rest to e.4 in
      let l = loop_passes (nat_lt (at + 1) s && nat_le s e.0) e.0 (sym (ap (λ z. enters z at s) e.1) ∙ is) in
      let test : nat_lt (at + 1) s && nat_le s (at + 1 + count body) ≡ false = ap (λ i. nat_lt (at + 1) s && nat_le s i) (sym inner) ∙ l in
      subst (λ i. Outside (loop k body rest) i) (sym (ap (λ z. index_behind z at) e.1))
      (record {
        rest = rest;
        there = e.4;
        further = omega (arith, inner);
        within = omega (arith, outer);
        loops_are =
            ap (λ (b : Bool). if b then (at + 1) ∷ loops_around (at + 1 + 1) body s else loops_around (at + 1 + 1 + count body) rest s) test
            ∙ ap (λ i. loops_around i rest s) (let z : at + 1 + 1 + count body ≡ e.0 + 1 = omega (arith, inner) in z);
      })

-- ---- the loop

-- these turns, and those of what is left, are all
pub record Nears (steps : List FlatStep) (last_turns : List LastTurn) (t s first after at to : ℕ) (turns : List LoopTurn) : Type 0 where
  pub within : to ≤ length steps
  pub some : (count : ℕ) × IsList count steps at to
  pub all : (n : ℕ) (names : ℕ → List ℕ) (tree : Tree) → IsSpelled n names steps first tree after →
      (rest : Tree) × IsSpelled n names steps at rest to
      × (map (turn_told last_turns t) (loops_around (first + 1) tree s) ≡ turns ++ map (turn_told last_turns t) (loops_around (at + 1) rest s))

module _ (steps : List FlatStep) (last_turns : List LastTurn) (t s first after : ℕ) where
  pub nears_start : after ≤ length steps → (count : ℕ) × IsList count steps first after → Nears steps last_turns t s first after first after []
  nears_start within some = record { within = within; some = some; all = λ n names tree e. (tree, e, refl) }

  module _ (at to : ℕ) (turns : List LoopTurn) (now : Nears steps last_turns t s first after at to turns) (lt : at < to) where
    pub nears_inside : (end : ℕ) → enters (step_at steps at) at s ≡ Some end → Nears steps last_turns t s first after (at + 1) end (turns ++ turn_told last_turns t (at + 1) ∷ [])
    nears_inside end is =
        let some = now.some in
        let i = inside some.0 some.1.0 steps s at to some.1.1 end some.1.2 lt is in
        record {
          within = omega (arith, i.within, now.within);
          some = (some.0, (some.1.0, i.body, i.there));
          all = λ n names tree e.
              let a = now.all n names tree e in
              let j = inside n names steps s at to a.0 end a.1 lt is in (
                j.body,
                j.there,
                a.2 ∙ ap (λ ls. turns ++ map (turn_told last_turns t) ls) j.loops_are
                    ∙ sym (append_assoc turns (turn_told last_turns t (at + 1) ∷ []) (map (turn_told last_turns t) (loops_around (at + 1 + 1) j.body s))),
              );
        }

    pub inside_within : (end : ℕ) → enters (step_at steps at) at s ≡ Some end → end ≤ to
    inside_within end is = (let some = now.some in let i = inside some.0 some.1.0 steps s at to some.1.1 end some.1.2 lt is in i.within)

    pub nears_outside : enters (step_at steps at) at s ≡ None → Nears steps last_turns t s first after (index_behind (step_at steps at) at) to turns
    nears_outside is =
        let some = now.some in
        let i = outside some.0 some.1.0 steps s at to some.1.1 some.1.2 lt is in
        record {
          within = now.within;
          some = (some.0, (some.1.0, i.rest, i.there));
          all = λ n names tree e.
              let a = now.all n names tree e in
              let j = outside n names steps s at to a.0 a.1 lt is in
              (j.rest, j.there, a.2 ∙ ap (λ ls. turns ++ map (turn_told last_turns t) ls) j.loops_are);
        }

    pub outside_further : enters (step_at steps at) at s ≡ None → at < index_behind (step_at steps at) at
    outside_further is = (let some = now.some in let i = outside some.0 some.1.0 steps s at to some.1.1 some.1.2 lt is in i.further)

  pub nears_end : (at to : ℕ) (turns : List LoopTurn) → Nears steps last_turns t s first after at to turns → to ≤ at → AreTurns steps first after last_turns t s turns
  nears_end at to turns now ge n names tree e =
      let a = now.all n names tree e in
      sym (a.2 ∙ ap (λ ls. turns ++ ls) (none a.0 a.1) ∙ append-nil turns)
    where
      none : (rest : Tree) → IsSpelled n names steps at rest to → map (turn_told last_turns t) (loops_around (at + 1) rest s) ≡ []
      none done h = refl
      none (plain c rest) h = absurd (let x = spelled_count n names steps at (plain c rest) to h in omega (arith, x, ge))
      none (fork y body rest) h = absurd (let x = spelled_count n names steps at (fork y body rest) to h in omega (arith, x, ge))
      none (loop k body rest) h = absurd (let x = spelled_count n names steps at (loop k body rest) to h in omega (arith, x, ge))
