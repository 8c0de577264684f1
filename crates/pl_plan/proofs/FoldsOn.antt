-- The folding of steps, step by step.
use Rattle.std.proofs.Common.{◌≡◌, ℕ, zero, suc, ◌+◌, ◌-◌, ◌*◌, ◌<◌, ◌≤◌, Bool, true, false, if◌then◌else◌, List, [], ◌∷◌, ◌++◌, length, drop, set, arith, refl, sym, ap, subst, ◌∙◌, append_assoc, append-nil, length-append}
use Rattle.std.proofs.Math.Seq.{set-append_seam}
use Rattle.std.proofs.lemmas.Bool.{false≢true, and_parts}
use Rattle.armus_base.specs.declared.op.Op.{Op}
use Rattle.armus_base.specs.declared.piece.Piece.{Piece}
use Rattle.armus_base.specs.declared.piece.Piece.TheVariants.{Repeat}
use Rattle.pl_syntax.specs.Tree.{Tree, done, plain, fork, loop, Plain, new_task, new_phaser, reg, dereg, adv, await, skip, count}
use Rattle.pl_plan.specs.declared.step.NameId.{NameId}
use Rattle.pl_plan.specs.declared.step.FlatStep.{FlatStep}
use Rattle.pl_plan.specs.declared.step.FlatStep.TheVariants as a_step
use Rattle.pl_plan.specs.FoldedOps.{Folding, folding, is_steady, is_steady_plain, loop_behind, loop_pieces, makes_op, one_piece, pieces_in, steady_pieces, then_on, turn_pieces}
use Rattle.pl_plan.specs.inside.Steps.{IsSpelled, IsStep, step_at}
use Rattle.pl_plan.specs.inside.FoldsSteps.{HasTree, HasTreeOf, step_folding}
use Rattle.pl_plan.proofs.Spelled.{spelled_count}
use Rattle.pl_plan.proofs.Walks.{IsPlain, LoopAt, fork_at, loop_at, plain_at}

-- ---- one after the other

-- so far there are these pieces: the whole is they and what is left
pub record GoesOn (old now : List Piece) (whole left : Folding) : Type 0 where
  pub some : List Piece
  pub now_is : now ≡ old ++ some
  pub whole_is : whole ≡ folding (some ++ left.pieces) left.rest

goes_on_start : (old : List Piece) (whole : Folding) → GoesOn old old whole whole
goes_on_start old whole = record { some = []; now_is = sym (append-nil old); whole_is = refl }

-- with the pieces of one part more
goes_on_more : (old now next : List Piece) (whole left after part : Folding) → GoesOn old now whole left → next ≡ now ++ part.pieces →
    left ≡ folding (part.pieces ++ after.pieces) after.rest → GoesOn old next whole after
goes_on_more old now next whole left after part h more is = record {
  some = h.some ++ part.pieces;
  now_is = more ∙ ap (λ ps. ps ++ part.pieces) h.now_is ∙ append_assoc old h.some part.pieces;
  whole_is =
      h.whole_is ∙ ap (λ (f : Folding). folding (h.some ++ f.pieces) f.rest) is
      ∙ ap (λ ps. folding ps after.rest) (sym (append_assoc h.some part.pieces after.pieces));
}

-- a part and what follows it
goes_on_then : (old now next : List Piece) (whole left part : Folding) (f : List Op → Folding) (ops : List Op) → GoesOn old now whole left →
    next ≡ now ++ part.pieces → ops ≡ part.rest → left ≡ then_on part f → GoesOn old next whole (f ops)
goes_on_then old now next whole left part f ops h more rest is =
    goes_on_more old now next whole left (f ops) part h more
    (is ∙ ap (λ os. folding (part.pieces ++ (f os).pieces) (f os).rest) (sym rest))

goes_on_end : (old now : List Piece) (whole : Folding) (left : List Op) → GoesOn old now whole (folding [] left) → (now ≡ old ++ whole.pieces) × (left ≡ whole.rest)
goes_on_end old now whole left h = (
  h.now_is ∙ ap (λ ps. old ++ ps) (sym (ap (λ (f : Folding). f.pieces) h.whole_is ∙ append-nil h.some)),
  sym (ap (λ (f : Folding). f.rest) h.whole_is),
)

-- ---- the steps of a list

-- the steps up to this index are folded
pub record StepsFolded (steps : List FlatStep) (from to : ℕ) (ops : List Op) (old : List Piece) (at : ℕ) (left : List Op) (now : List Piece) : Type 0 where
  pub within : at ≤ to
  pub forward : from ≤ at
  pub spelled : HasTree steps at to
  pub fewer : length left ≤ length ops
  pub all : (n : ℕ) (names : ℕ → List ℕ) (tree : Tree) → IsSpelled n names steps from tree to →
      (rest : Tree) × IsSpelled n names steps at rest to × GoesOn old now (pieces_in tree ops) (pieces_in rest left)

pub steps_start : (steps : List FlatStep) (from to : ℕ) (ops : List Op) (old : List Piece) → HasTree steps from to → StepsFolded steps from to ops old from ops old
steps_start steps from to ops old h = record {
  within = (let c = spelled_count h.0 h.1 steps from h.2 to h.3 in omega arith);
  forward = omega arith;
  spelled = h;
  fewer = omega arith;
  all = λ n names tree sp. (tree, sp, goes_on_start old (pieces_in tree ops));
}

-- what a step without a body folds is what its statement does
plain_folds : (n : ℕ) (names : ℕ → List ℕ) (step : FlatStep) (s : Plain) → IsStep n names step s → (rest : Tree) (os : List Op) →
    pieces_in (plain s rest) os ≡ then_on (step_folding step os) (pieces_in rest)
plain_folds n names step (new_task x) h rest os = ap (λ z. then_on (step_folding z os) (pieces_in rest)) (sym h.1)
plain_folds n names step (new_phaser x) h rest os = ap (λ z. then_on (step_folding z os) (pieces_in rest)) (sym h.1)
plain_folds n names step (reg x y) h rest os = ap (λ z. then_on (step_folding z os) (pieces_in rest)) (sym h.2)
plain_folds n names step (dereg x) h rest os = ap (λ z. then_on (step_folding z os) (pieces_in rest)) (sym h.1)
plain_folds n names step (adv x) h rest os = ap (λ z. then_on (step_folding z os) (pieces_in rest)) (sym h.1)
plain_folds n names step (await x off) h rest os = ap (λ z. then_on (step_folding z os) (pieces_in rest)) (sym h.1)
plain_folds n names step skip h rest os = ap (λ z. then_on (step_folding z os) (pieces_in rest)) (sym h)

one_fewer : (os : List Op) → length (one_piece os).rest ≤ length os
one_fewer [] = omega arith
one_fewer (o ∷ os) = omega arith

step_fewer : (step : FlatStep) (os : List Op) → length (step_folding step os).rest ≤ length os
step_fewer (a_step.NewTask x) os = omega arith
step_fewer a_step.Skip os = omega arith
step_fewer (a_step.NewPhaser x) os = one_fewer os
step_fewer (a_step.Fork x a) os = one_fewer os
step_fewer (a_step.Reg x y) os = one_fewer os
step_fewer (a_step.Dereg x) os = one_fewer os
step_fewer (a_step.Adv x) os = one_fewer os
step_fewer (a_step.Await x off) os = one_fewer os
step_fewer (a_step.Loop k a steady) os = one_fewer os

module _ (steps : List FlatStep) (from to : ℕ) (ops : List Op) (old : List Piece) (at : ℕ) (left : List Op) (now : List Piece)
    (h : StepsFolded steps from to ops old at left now) (lt : at < to) where
  pub steps_plain : (step : FlatStep) → step ≡ step_at steps at → IsPlain step → (next : List Piece) (after : List Op) →
      (next ≡ now ++ (step_folding step left).pieces) × (after ≡ (step_folding step left).rest) → StepsFolded steps from to ops old (at + 1) after next
  steps_plain step is p next after did =
      let plain_there = subst IsPlain is p in
      let first = plain_at h.spelled.0 h.spelled.1 steps at to h.spelled.2 h.spelled.3 lt plain_there in
      record {
        within = omega arith;
        forward = omega (arith, h.forward);
        spelled = (h.spelled.0, h.spelled.1, first.rest, first.rest_there);
        fewer = omega (arith, h.fewer, step_fewer step left, ap (λ os. length os) did.1);
        all = λ n names tree sp.
            let before = h.all n names tree sp in
            let here = plain_at n names steps at to before.0 before.1 lt plain_there in (
              here.rest,
              here.rest_there,
              goes_on_then old now next (pieces_in tree ops) (pieces_in before.0 left) (step_folding step left) (pieces_in here.rest) after before.2
                  did.0 did.1
                  (ap (λ u. pieces_in u left) here.tree_is
                  ∙ plain_folds n names step here.statement (subst (λ z. IsStep n names z here.statement) (sym is) here.here) here.rest left),
            );
      }

  pub steps_fork : (x : NameId) (after : ℕ) → a_step.Fork x after ≡ step_at steps at → (next : List Piece) (os : List Op) →
      (next ≡ now ++ (one_piece left).pieces) × (os ≡ (one_piece left).rest) → StepsFolded steps from to ops old after os next
  steps_fork x after is next os did =
      let first = fork_at h.spelled.0 h.spelled.1 steps at to x after h.spelled.2 h.spelled.3 lt (sym is) in
      let b = spelled_count h.spelled.0 h.spelled.1 steps (at + 1) first.body after first.body_there in
      let r = spelled_count h.spelled.0 h.spelled.1 steps after first.rest to first.rest_there in
      record {
        within = omega arith;
        forward = omega (arith, h.forward);
        spelled = (h.spelled.0, h.spelled.1, first.rest, first.rest_there);
        fewer = omega (arith, h.fewer, one_fewer left, ap (λ zs. length zs) did.1);
        all = λ n names tree sp.
            let before = h.all n names tree sp in
            let here = fork_at n names steps at to x after before.0 before.1 lt (sym is) in (
              here.rest,
              here.rest_there,
              goes_on_then old now next (pieces_in tree ops) (pieces_in before.0 left) (one_piece left) (pieces_in here.rest) os before.2
                  did.0 did.1 (ap (λ u. pieces_in u left) here.tree_is),
            );
      }

  pub fork_forward : (x : NameId) (after : ℕ) → a_step.Fork x after ≡ step_at steps at → (at < after) × (after ≤ to)
  fork_forward x after is =
      let first = fork_at h.spelled.0 h.spelled.1 steps at to x after h.spelled.2 h.spelled.3 lt (sym is) in
      let b = spelled_count h.spelled.0 h.spelled.1 steps (at + 1) first.body after first.body_there in
      let r = spelled_count h.spelled.0 h.spelled.1 steps after first.rest to first.rest_there in
      (omega arith, omega arith)

  module _ (k after : ℕ) (steady : Bool) (is : a_step.Loop k after steady ≡ step_at steps at) where
    loop_here : LoopAt h.spelled.0 h.spelled.1 steps at to k after steady h.spelled.2
    loop_here = loop_at h.spelled.0 h.spelled.1 steps at to k after steady h.spelled.2 h.spelled.3 lt (sym is)

    pub loop_forward : (at < after) × (after ≤ to)
    loop_forward =
        let b = spelled_count h.spelled.0 h.spelled.1 steps (at + 1) loop_here.body after loop_here.body_there in
        let r = spelled_count h.spelled.0 h.spelled.1 steps after loop_here.rest to loop_here.rest_there in
        (omega arith, omega arith)

    pub loop_tree : HasTreeOf steady steps (at + 1) after
    loop_tree = (h.spelled.0, h.spelled.1, loop_here.body, loop_here.steady_is, loop_here.body_there)

    pub steps_loop : (next : List Piece) (os : List Op) → length os ≤ length left →
        ((n : ℕ) (names : ℕ → List ℕ) (tree : Tree) → IsSpelled n names steps (at + 1) tree after →
        (next ≡ now ++ (loop_pieces steady k (pieces_in tree) left).pieces) × (os ≡ (loop_pieces steady k (pieces_in tree) left).rest)) →
        StepsFolded steps from to ops old after os next
    steps_loop next os few did =
        record {
          within = loop_forward.1;
          forward = omega (arith, h.forward, loop_forward.0);
          spelled = (h.spelled.0, h.spelled.1, loop_here.rest, loop_here.rest_there);
          fewer = omega (arith, h.fewer, few);
          all = λ n names tree sp.
              let before = h.all n names tree sp in
              let here = loop_at n names steps at to k after steady before.0 before.1 lt (sym is) in
              let done_so = did n names here.body here.body_there in (
                here.rest,
                here.rest_there,
                goes_on_then old now next (pieces_in tree ops) (pieces_in before.0 left) (loop_pieces steady k (pieces_in here.body) left)
                    (pieces_in here.rest) os before.2 done_so.0 done_so.1
                    (ap (λ u. pieces_in u left) here.tree_is
                    ∙ ap (λ b. then_on (loop_pieces b k (pieces_in here.body) left) (pieces_in here.rest)) here.steady_is),
              );
        }

pub steps_end : (steps : List FlatStep) (from to : ℕ) (ops : List Op) (old : List Piece) (at : ℕ) (left : List Op) (now : List Piece) →
    StepsFolded steps from to ops old at left now → to ≤ at → (n : ℕ) (names : ℕ → List ℕ) (tree : Tree) → IsSpelled n names steps from tree to →
    (now ≡ old ++ (pieces_in tree ops).pieces) × (left ≡ (pieces_in tree ops).rest)
steps_end steps from to ops old at left now h le n names tree sp =
    let r = h.all n names tree sp in
    goes_on_end old now (pieces_in tree ops) left (subst (λ u. GoesOn old now (pieces_in tree ops) (pieces_in u left)) (nothing_left r.0 r.1) r.2)
  where
    nothing_left : (u : Tree) → IsSpelled n names steps at u to → u ≡ done
    nothing_left done e = refl
    nothing_left (plain s rest) e = absurd (let c = spelled_count n names steps at (plain s rest) to e in omega arith)
    nothing_left (fork y body rest) e = absurd (let c = spelled_count n names steps at (fork y body rest) to e in omega arith)
    nothing_left (loop k body rest) e = absurd (let c = spelled_count n names steps at (loop k body rest) to e in omega arith)

-- ---- turn by turn

-- so many turns are folded
pub record TurnsFolded (steps : List FlatStep) (at after turns : ℕ) (ops : List Op) (old : List Piece) (i : ℕ) (left : List Op) (now : List Piece) : Type 0 where
  pub fewer : length left ≤ length ops
  pub all : (n : ℕ) (names : ℕ → List ℕ) (tree : Tree) → IsSpelled n names steps (at + 1) tree after →
      GoesOn old now (turn_pieces turns (pieces_in tree) ops) (turn_pieces (turns - i) (pieces_in tree) left)

pub turns_start : (steps : List FlatStep) (at after turns : ℕ) (ops : List Op) (old : List Piece) → TurnsFolded steps at after turns ops old 0 ops old
turns_start steps at after turns ops old = record {
  fewer = omega arith;
  all = λ n names tree sp.
      let e : turns ≡ turns - 0 = omega arith in
      subst (λ m. GoesOn old old (turn_pieces turns (pieces_in tree) ops) (turn_pieces m (pieces_in tree) ops)) e
      (goes_on_start old (turn_pieces turns (pieces_in tree) ops));
}

module _ (steps : List FlatStep) (at after turns : ℕ) (ops : List Op) (old : List Piece) (i : ℕ) (left : List Op) (now : List Piece)
    (h : TurnsFolded steps at after turns ops old i left now) where
  pub turns_next : i < turns → (next : List Piece) (os : List Op) → length os ≤ length left →
      ((n : ℕ) (names : ℕ → List ℕ) (tree : Tree) → IsSpelled n names steps (at + 1) tree after →
      (next ≡ now ++ (pieces_in tree left).pieces) × (os ≡ (pieces_in tree left).rest)) →
      TurnsFolded steps at after turns ops old (i + 1) os next
  turns_next lt next os few did = record {
    fewer = omega (arith, h.fewer, few);
    all = λ n names tree sp.
        let done_so = did n names tree sp in
        let e : turns - i ≡ suc (turns - (i + 1)) = omega arith in
        goes_on_then old now next (turn_pieces turns (pieces_in tree) ops) (turn_pieces (turns - i) (pieces_in tree) left) (pieces_in tree left)
        (turn_pieces (turns - (i + 1)) (pieces_in tree)) os (h.all n names tree sp) done_so.0 done_so.1 (ap (λ m. turn_pieces m (pieces_in tree) left) e);
  }

  pub turns_end : turns ≤ i → (n : ℕ) (names : ℕ → List ℕ) (tree : Tree) → IsSpelled n names steps (at + 1) tree after →
      (now ≡ old ++ (turn_pieces turns (pieces_in tree) ops).pieces) × (left ≡ (turn_pieces turns (pieces_in tree) ops).rest)
  turns_end le n names tree sp =
      let e : turns - i ≡ 0 = omega arith in
      goes_on_end old now (turn_pieces turns (pieces_in tree) ops) left
      (subst (λ m. GoesOn old now (turn_pieces turns (pieces_in tree) ops) (turn_pieces m (pieces_in tree) left)) e (h.all n names tree sp))

-- ---- a steady loop at once

then_few : (a : Folding) (f : List Op → Folding) (m n : ℕ) → length a.pieces ≤ m → length (f a.rest).pieces ≤ n → length (then_on a f).pieces ≤ m + n
then_few a f m n first rest = omega (arith, first, rest, length-append a.pieces (f a.rest).pieces)

one_few : (os : List Op) → length (one_piece os).pieces ≤ 1
one_few [] = omega arith
one_few (o ∷ os) = omega arith

loop_few : (k n : ℕ) (f : List Op → Folding) (os : List Op) → ((xs : List Op) → length (f xs).pieces ≤ n) → length (steady_pieces k f os).pieces ≤ n + 1
loop_few zero n f os few = omega arith
loop_few (suc k) n f os few = by (f os).pieces (f os).rest (few os)
  where
    by : (ps : List Piece) (rest : List Op) → length ps ≤ n → length (loop_behind k os ps rest).pieces ≤ n + 1
    by [] rest l = omega arith
    by (b ∷ bs) rest l = omega (arith, l)

plain_few : (b : Bool) (rest : Tree) (os : List Op) → ((xs : List Op) → length (pieces_in rest xs).pieces ≤ count rest) →
    length (if b then then_on (one_piece os) (pieces_in rest) else pieces_in rest os).pieces ≤ count rest + 1
plain_few true rest os later = omega (arith, then_few (one_piece os) (pieces_in rest) 1 (count rest) (one_few os) (later (one_piece os).rest))
plain_few false rest os later = omega (arith, later os)

-- a steady body leaves no more pieces than it has statements
pub pieces_few : (t : Tree) → is_steady t ≡ true → (os : List Op) → length (pieces_in t os).pieces ≤ count t
pieces_few done steady os = omega arith
pieces_few (plain s rest) steady os = plain_few (makes_op s) rest os (pieces_few rest (and_parts (is_steady_plain s) (is_steady rest) steady).1)
pieces_few (fork x body rest) steady os = absurd (false≢true steady)
pieces_few (loop k body rest) steady os =
    let tests = and_parts (is_steady body) (is_steady rest) steady in
    let first : length (loop_pieces (is_steady body) k (pieces_in body) os).pieces ≤ count body + 1 =
    rw tests.0 (loop_few k (count body) (pieces_in body) os (pieces_few body tests.0)) in
    omega (
      arith,
      then_few (loop_pieces (is_steady body) k (pieces_in body) os) (pieces_in rest) (count body + 1) (count rest) first
          (pieces_few rest tests.1 (loop_pieces (is_steady body) k (pieces_in body) os).rest),
    )

-- the Repeat stands ahead of the pieces of a turn, and its length is set behind
pub steady_folded : (f : List Op → Folding) (turns k len : ℕ) (ops left : List Op) (old pushed body next : List Piece) → (turns ≡ 0 → ⊥) → k ≡ turns →
    pushed ≡ old ++ Repeat k 0 ∷ [] → body ≡ pushed ++ (f ops).pieces → left ≡ (f ops).rest → len ≡ length body - length old - 1 → (len ≡ 0 → ⊥) →
    next ≡ set body (length old) (Repeat k len) →
    (next ≡ old ++ (steady_pieces turns f ops).pieces)
    × (drop ((k - 1) * (length ops - length left)) left ≡ (steady_pieces turns f ops).rest)
steady_folded f zero k len ops left old pushed body next some same first more rest is there set_is = absurd (some refl)
steady_folded f (suc m) k len ops left old pushed body next some same first more rest is there set_is = by (f ops).pieces (f ops).rest more rest
  where
    by : (ps : List Piece) (os : List Op) → body ≡ pushed ++ ps → left ≡ os →
        (next ≡ old ++ (loop_behind m ops ps os).pieces) × (drop ((k - 1) * (length ops - length left)) left ≡ (loop_behind m ops ps os).rest)
    by [] os e l = absurd (there (omega (arith, is, ap (λ xs. length xs) e, ap (λ xs. length xs) first, length-append pushed [], length-append old (Repeat k 0 ∷ []))))
    by (b ∷ bs) os e l =
        let whole : body ≡ old ++ Repeat k 0 ∷ (b ∷ bs) = e ∙ ap (λ xs. xs ++ (b ∷ bs)) first ∙ append_assoc old (Repeat k 0 ∷ []) (b ∷ bs) in
        let many : len ≡ length (b ∷ bs) = omega (arith, is, ap (λ xs. length xs) whole, length-append old (Repeat k 0 ∷ (b ∷ bs))) in
        let less : k - 1 ≡ m = omega (arith, same) in (
          set_is ∙ ap (λ xs. set xs (length old) (Repeat k len)) whole ∙ set-append_seam old (Repeat k 0) (b ∷ bs) (Repeat k len)
              ∙ ap (λ z. old ++ Repeat k z ∷ (b ∷ bs)) many ∙ ap (λ z. old ++ Repeat z (length (b ∷ bs)) ∷ (b ∷ bs)) same,
          ap (λ z. drop (z * (length ops - length left)) left) less ∙ ap (λ xs. drop (m * (length ops - length xs)) xs) l,
        )
