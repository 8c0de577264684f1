-- What an activity does behind its wait, op by op.
use Rattle.std.proofs.Common.{◌≡◌, ◌∙◌, ℕ, suc, ◌+◌, List, [], ◌∷◌, ◌++◌, Option, None, ap, append_assoc, append-nil, arith, sym}
use Rattle.std.specs.Prelude.{slice_index_or}
use Rattle.armus_base.specs.declared.op.Op.{Op}
use Rattle.explain_clock.specs.ClockFacts.{op_move, moves_from}
use Rattle.explain_clock.specs.declared.facts.NextMove.{NextMove}

-- one op more
pub ahead_next :
    (origins : List (Option ℕ)) (at : ℕ) (op : Op) (left rest : List Op) (old new all : List NextMove) → left ≡ op ∷ rest → old ++ moves_from origins at left ≡ all →
    new ≡ old ++ op_move (slice_index_or origins at None) op → new ++ moves_from origins (at + 1) rest ≡ all
ahead_next origins at op left rest old new all is so more =
    ap (λ ms. ms ++ moves_from origins (at + 1) rest) more
    ∙ append_assoc old (op_move (slice_index_or origins at None) op) (moves_from origins (at + 1) rest)
    ∙ ap (λ k. old ++ (op_move (slice_index_or origins at None) op ++ moves_from origins k rest)) (let one : at + 1 ≡ suc at = omega arith in one)
    ∙ sym (ap (λ ops. old ++ moves_from origins at ops) is)
    ∙ so

-- and none is left
pub ahead_all : (origins : List (Option ℕ)) (at : ℕ) (left : List Op) (moves all : List NextMove) → left ≡ [] → moves ++ moves_from origins at left ≡ all → moves ≡ all
ahead_all origins at left moves all none so = sym (append-nil moves) ∙ sym (ap (λ ops. moves ++ moves_from origins at ops) none) ∙ so
