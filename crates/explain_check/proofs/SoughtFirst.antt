-- Before the first visit, and where all visits pass.
use Rattle.std.proofs.Common.{◌≡◌, ℕ, ◌<◌, ◌≤◌, ◌^◌, ◌⊎◌, inl, inr, Bool, List, [], ◌∷◌, ◌++◌, length, Some, None, Ok, Err, arith, sym, ◌∙◌, ap, subst, refl}
use Rattle.std.specs.Prelude.{replicate, slice_index_or}
use Rattle.std.specs.Borrow.{Bor}
use Rattle.std.proofs.lemmas.Bool.{cases_lt}
use Rattle.std.proofs.lemmas.List.{get_or-replicate, get_or_past, length-append, length-replicate}
use Rattle.armus_base.specs.Plans.{Plan}
use Rattle.pl_syntax.specs.Tree.{count}
use Rattle.pl_syntax.specs.declared.tree.Program.{Program}
use Rattle.pl_plan.specs.Unfolding.{Outcome, opening_state, plan_of}
use Rattle.pl_plan.specs.Stages.{IsFirstCheckFault, IsNextStage, Stage}
use Rattle.pl_plan.specs.declared.fault.CheckFault.{CheckFault}
use Rattle.pl_plan.specs.declared.step.FlatStep.{FlatStep}
use Rattle.pl_plan.specs.inside.Checker.{Checker, IsChecker, IsThingBelow, IsThings, StartFits}
use Rattle.pl_plan.specs.inside.Flattening.{AddsSteps}
use Rattle.pl_plan.specs.inside.Numbers.{spelling}
use Rattle.pl_plan.specs.inside.Opening.{IsOpeningChecker}
use Rattle.pl_plan.specs.inside.Shows.{IsNumbering}
use Rattle.pl_plan.specs.inside.Steps.{IsList, IsSpelled}
use Rattle.pl_plan.proofs.Opens.{opens}
use Rattle.pl_plan.proofs.Spelled.{spelled_count}
use Rattle.pl_plan.proofs.Unfolds as unfolds
use Rattle.explain_check.specs.declared.notes.LastTurn.{LastTurn}
use Rattle.explain_check.specs.declared.notes.Note.{Note}
use Rattle.explain_check.specs.inside.Noted.{LastTurnsTell, MarkTells, last_noted, no_turn, turn_by}
use Rattle.explain_check.specs.inside.Seeks.{Before, HasSource, Passed, NamedProgram}

-- ---- what is kept first fits

module _ (steps : List FlatStep) (names : ℕ) (k : Checker) (o : IsOpeningChecker steps names k) (list : IsList (length k.bindings.slots) k.steps 0 (length steps)) where
  nothing_there : IsThings (length k.parents) (length k.makers) k.bindings.slot_count k.bindings.things
  nothing_there = record {
    none = o.bindings.things 0;
    free = λ i l. o.bindings.things i;
    inside = λ i. subst (IsThingBelow (length k.parents) (length k.makers)) (sym (o.bindings.things i)) tt;
  }

  first_start : StartFits (length k.parents) (length k.makers) k.bindings.slot_count (length k.bindings.slots) k.steps
      (Some (record { first = 0; after = length steps; things = k.bindings.things }))
  first_start = record {
    things = nothing_there;
    short = omega (arith, o.bindings.things_many);
    within = omega (arith, ap length o.steps_are);
    list = list;
  }

  start_fits : (c : ℕ) → (c < 1) ⊎ (1 ≤ c) → StartFits (length k.parents) (length k.makers) k.bindings.slot_count (length k.bindings.slots) k.steps
      (slice_index_or (Some (record { first = 0; after = length steps; things = k.bindings.things }) ∷ []) c None)
  start_fits c (inl l) =
      subst (λ i. StartFits (length k.parents) (length k.makers) k.bindings.slot_count (length k.bindings.slots) k.steps
      (slice_index_or (Some (record { first = 0; after = length steps; things = k.bindings.things }) ∷ []) i None)) (let e : 0 ≡ c = omega (arith, l) in e) first_start
  start_fits c (inr l) =
      subst (StartFits (length k.parents) (length k.makers) k.bindings.slot_count (length k.bindings.slots) k.steps)
      (sym (get_or_past (Some (record { first = 0; after = length steps; things = k.bindings.things }) ∷ []) c None l)) tt

  pub opening_fits : IsChecker k
  opening_fits =
      let parents = ap length o.parents in
      let makers = ap length o.makers in
      record {
        starts_many = ap length o.starts ∙ sym parents;
        codes_many = ap length o.codes ∙ sym parents;
        members_many = ap length o.members ∙ sym parents;
        few = omega (arith, parents);
        few_makers = omega (arith, makers);
        slots = record {
          below = λ x. omega (arith, o.bindings.slots x, o.bindings.slot_count);
          apart = λ x y e some. absurd (omega (arith, o.bindings.slots x, some));
          room = omega (arith, o.bindings.slot_count, parents, makers);
          long = o.bindings.things_many;
        };
        now = nothing_there;
        later = λ c.
            subst (λ ss. StartFits (length k.parents) (length k.makers) k.bindings.slot_count (length k.bindings.slots) k.steps (slice_index_or ss c None)) (sym o.starts)
            (start_fits c (cases_lt c 1));
      }

-- ---- no last turns

turn_of_none : (n at : ℕ) → slice_index_or (replicate n no_turn) at no_turn ≡ no_turn
turn_of_none n at = elim (cases_lt at n) [
  | inl l ↦ get_or-replicate n at no_turn no_turn l
  | inr l ↦ get_or_past (replicate n no_turn) at no_turn (let m = length-replicate n no_turn in omega (arith, m, l))
]

none_tell : (n : ℕ) (last_turns : List LastTurn) → last_turns ≡ replicate n no_turn → LastTurnsTell 0 n 0 [] last_turns
none_tell n last_turns is = subst (λ ls. LastTurnsTell 0 n 0 [] ls) (sym is) (record {
  many = length-replicate n no_turn;
  earlier = λ at. omega (arith, ap (λ (l : LastTurn). l.task.0) (turn_of_none n at));
  few = λ at. omega (arith, ap (λ (l : LastTurn). l.turn) (turn_of_none n at));
  later = λ u l. refl;
  turns = λ at. ap (turn_by 0) (turn_of_none n at);
})

-- ---- the first task is the next one

module _ (program : Program) (a b : List (Bor (List ℕ))) (old steps : List FlatStep) (names : ℕ) (k : Checker) (notes : List Note) (last_turns : List LastTurn)
    (empty : old ≡ []) (many : names ≡ length b) (adds : AddsSteps a b old steps program.body) (o : IsOpeningChecker steps names k) (few : count program.body < 2 ^ 32)
    (none : notes ≡ []) (no_turns : last_turns ≡ replicate (length steps) no_turn) where
  abbrev source : NamedProgram
  source = record { program = program; names = spelling b; steps = steps }

  pub few_steps : length steps < 2 ^ 32
  few_steps = omega (arith, spelled_count (length b) (spelling b) steps (length old) program.body (length steps) adds.spelled, ap length empty, few)

  spelled : IsSpelled (length k.bindings.slots) (spelling b) k.steps 0 program.body (length steps)
  spelled =
      subst (λ ss. IsSpelled (length k.bindings.slots) (spelling b) ss 0 program.body (length steps)) (sym o.steps_are)
      (subst (λ n. IsSpelled n (spelling b) steps 0 program.body (length steps)) (sym (o.bindings.slots_many ∙ many))
      (subst (λ z. IsSpelled (length b) (spelling b) steps z program.body (length steps)) (ap length empty) adds.spelled))

  pub first_before : Before source 0 k notes last_turns
  first_before = record {
    stands = record {
      stages = [];
      state = opening_state program.body;
      past = record { leads = refl; kept = unfolds.opening_kept program.two program.body; few = omega arith };
      shown = record {
        fits = opening_fits steps names k o (spelling b, program.body, spelled);
        shows = opens (spelling b) steps names k program.body o (subst (λ n. IsNumbering n (spelling b)) (sym many) adds.distinct)
            (subst (λ n. IsSpelled n (spelling b) steps 0 program.body (length steps)) (sym many)
            (subst (λ z. IsSpelled (length b) (spelling b) steps z program.body (length steps)) (ap length empty) adds.spelled));
        steps_are = o.steps_are;
        small = omega (arith, few_steps, ap length o.steps_are);
      };
      told = λ d did means. subst (λ ns. MarkTells (spelling b) (last_noted d ns) None) (sym none) tt;
      last_turns_tell = none_tell (length k.steps) last_turns (no_turns ∙ ap (λ (ss : List FlatStep). replicate (length ss) no_turn) (sym o.steps_are));
    };
    own = refl;
  }

  pub has_first : HasSource program.two (spelling b) steps k notes last_turns
  has_first = (program, refl, first_before)

-- ---- where all pass, there is a plan

longer : (run : List Stage) (v : Stage) (rest : List Stage) → run ≡ run ++ (v ∷ rest) → ⊥
longer run v rest e = absurd (omega (arith, ap length e, length-append run (v ∷ rest)))

module _ (g : NamedProgram) (passed : Passed g) where
  abbrev two : Bool
  two = g.program.two

  no_fault : (f : CheckFault) → IsFirstCheckFault g.program f → ⊥
  no_fault f u =
      let same = unfolds.one_way two [] passed.stages u.stages (opening_state g.program.body) passed.state u.there passed.leads u.leads
      (unfolds.all_blocks two passed.stages passed.state passed.all) (unfolds.fault_blocks two u.stages u.there u.stage f u.next u.fails) in
      let next : IsNextStage two passed.stages u.stage passed.state =
      subst (λ z. IsNextStage two passed.stages u.stage z) (sym same.1) (subst (λ xs. IsNextStage two xs u.stage u.there) (sym same.0) u.next) in
      longer passed.stages u.stage next.0 (sym passed.all ∙ next.1)

  plan_by : (out : Outcome Plan) → plan_of g.program ≡ out → (plan : Plan) × (plan_of g.program ≡ Ok plan)
  plan_by (Ok plan) is = (plan, is)
  plan_by (Err f) is = absurd (no_fault f ((unfolds.fault_is_first g.program f).0 is))

  pub has_plan : (plan : Plan) × (plan_of g.program ≡ Ok plan)
  has_plan = plan_by (plan_of g.program) refl
