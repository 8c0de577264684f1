-- Where one more round of the serial avoided run has no step, each forked task has come to an end.
use Rattle.std.proofs.Common.{◌≡◌, ℕ, zero, suc, ◌<◌, ◌≤◌, ◌+◌, Bool, true, false, None, List, [], ◌++◌, length, arith, sym, ◌∙◌, ap, subst, inl, inr, length-append}
use Rattle.std.specs.Prelude.{MatchBool}
use Rattle.std.proofs.lemmas.Bool.{cases_eq, MatchBool-at_true}
use Rattle.std.proofs.lemmas.List.{nil_from_length}
use Rattle.std.proofs.lemmas.Option.{slice_get_within}
use Rattle.armus_base.specs.Plans.{Plan}
use Rattle.armus_base.specs.calls.RunLaws.{SerialFinalIsAvoided}
use Rattle.armus_base.specs.Runs.{HasEnded, places, state_after}
use Rattle.armus_base.specs.Serial.{IsTurn, RoundBelow}
use Rattle.armus_base.specs.States.{Step}
use Rattle.armus_base.proofs.ForkedTasks.{forked_within}
use Rattle.armus_base.proofs.NobodyIsDead.{avoided_legal}
use Rattle.armus_base.proofs.SerialIsAvoided.{serial_is_avoided}

-- the last part of a round adds no step to g, where it leads to no longer a run
turn_same : (plan : Plan) (t : ℕ) (g h : List Step) → IsTurn plan t g h → length h ≤ length g → h ≡ g
turn_same plan t g h turn short =
    let counted = length-append turn.own g in
    let longer : length h ≡ length turn.own + length g = ap length turn.there ∙ counted in
    let none : turn.own ≡ [] = nil_from_length turn.own (omega arith) in
    turn.there ∙ ap (λ own. own ++ g) none

part_longer : (plan : Plan) (t : ℕ) (b : Bool) (g h : List Step) → MatchBool b (IsTurn plan t g h) (h ≡ g) → length g ≤ length h
part_longer plan t true g h turn =
    (let counted = length-append turn.own g in let longer : length h ≡ length turn.own + length g = ap length turn.there ∙ counted in omega arith)
part_longer plan t false g h same = (let e : length h ≡ length g = ap length same in omega arith)

part_same : (plan : Plan) (t : ℕ) (b : Bool) (g h : List Step) → MatchBool b (IsTurn plan t g h) (h ≡ g) → length h ≤ length g → h ≡ g
part_same plan t true g h turn short = turn_same plan t g h turn short
part_same plan t false g h same short = same

-- a round makes no run shorter
round_longer : (plan : Plan) (k : ℕ) (h g : List Step) → RoundBelow plan k h g → length h ≤ length g
round_longer plan zero h g round = (let e : length g ≡ length h = ap length round in omega arith)
round_longer plan (suc k) h g round =
    let before = round_longer plan k h round.0 round.1 in
    let last = part_longer plan k ((state_after h).forked k) round.0 g round.2 in
    omega arith

-- and one that adds no step leads to the same run
sames : (plan : Plan) (k : ℕ) (h g : List Step) → RoundBelow plan k h g → length g ≤ length h → g ≡ h
sames plan zero h g round short = round
sames plan (suc k) h g round short =
    let early = round_longer plan k h round.0 round.1 in
    let late = part_longer plan k ((state_after h).forked k) round.0 g round.2 in
    part_same plan k ((state_after h).forked k) round.0 g round.2 (omega arith) ∙ sames plan k h round.0 round.1 (omega arith)

-- in a round that adds no step each forked task has come to an end
pub round_ended :
    (plan : Plan) (k : ℕ) (h g : List Step) → RoundBelow plan k h g → length g ≤ length h → (t : ℕ) → t < k → (state_after h).forked t ≡ true →
    HasEnded plan (state_after h) (places h t) t
round_ended plan zero h g round short t l forked = absurd (omega arith)
round_ended plan (suc k) h g round short t l forked =
    let early = round_longer plan k h round.0 round.1 in
    let late = part_longer plan k ((state_after h).forked k) round.0 g round.2 in
    elim (cases_eq t k) [
      | inl same ↦
          subst (λ u. HasEnded plan (state_after h) (places h u) u) (sym same)
          (let turn : IsTurn plan k round.0 g = MatchBool-at_true (IsTurn plan k round.0 g) (g ≡ round.0) (ap (state_after h).forked (sym same) ∙ forked) round.2 in
          let whole : g ≡ h = sames plan (suc k) h g round short in
          subst (λ v. HasEnded plan (state_after v) (places v k) k) whole turn.ended)
      | inr other ↦ round_ended plan k h round.0 round.1 (omega arith) t (omega arith) forked
    ]

pub serial_final_is_avoided : SerialFinalIsAvoided
serial_final_is_avoided plan s checked final =
    let run = serial_is_avoided plan final.steps checked final.ended.0 in
    record {
      steps = final.steps;
      run = run;
      maximal = λ t forked.
          round_ended plan (length plan.parents) final.steps final.steps final.ended.1 (omega arith) t
          (forked_within plan (slice_get_within plan.parents 0 None checked.tables.root) final.steps (avoided_legal plan final.steps run) t forked)
          forked;
      there = final.there;
    }
