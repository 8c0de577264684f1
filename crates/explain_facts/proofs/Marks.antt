-- Which phasers the ops use, found op by op.
use Rattle.std.proofs.Common.{◌≡◌, ◌∙◌, ◌+◌, ◌<◌, ◌||◌, ℕ, suc, Bool, true, false, List, [], ◌∷◌, ap, arith, length, refl, replicate, slice_index_or, sym}
use Rattle.std.proofs.lemmas.List.{get_or-replicate, length-replicate}
use Rattle.armus_base.specs.declared.op.Op.{Op}
use Rattle.armus_base.specs.Places.{some_before}
use Rattle.armus_base.specs.Plans.{Plan, code_of}
use Rattle.explain_facts.specs.PhaserUses.{is_on_phaser, some_op, used_by}
use Rattle.explain_facts.specs.calls.Used.{AreUsed}
use Rattle.explain_facts.specs.declared.uses.PhaserUse.{PhaserUse}
use Rattle.explain_facts.specs.inside.Marked.{HaveMarks}

-- ---- the ops of a task

-- what is marked, and what these ops will mark, are together what is marked in the end
pub record HaveMarksSoFar (use_so : PhaserUse) (ops left : List Op) (before now : List Bool) : Type 0 where
  pub sized : length now ≡ length before
  pub each : (q : ℕ) → q < length before → (some_op use_so left q || slice_index_or now q false) ≡ (some_op use_so ops q || slice_index_or before q false)

pub marks_start : (use_so : PhaserUse) (ops : List Op) (before : List Bool) → HaveMarksSoFar use_so ops ops before before
marks_start use_so ops before = record { sized = refl; each = λ q within. refl }

other_way : (a b c : Bool) → (b || (a || c)) ≡ ((a || b) || c)
other_way true true c = refl
other_way true false c = refl
other_way false true c = refl
other_way false false c = refl

pub marks_next : (use_so : PhaserUse) (ops left rest : List Op) (op : Op) (before now next : List Bool) → HaveMarksSoFar use_so ops left before now
    → left ≡ op ∷ rest → HaveMarks (λ q. is_on_phaser q (used_by use_so op)) now next → HaveMarksSoFar use_so ops rest before next
marks_next use_so ops left rest op before now next are is marked = record {
  sized = marked.sized ∙ are.sized;
  each = λ q within.
      let more = are.sized in
      let here : slice_index_or next q false ≡ (is_on_phaser q (used_by use_so op) || slice_index_or now q false) = marked.each q (omega (arith, within, more)) in
      ap (λ b. some_op use_so rest q || b) here
      ∙ other_way (is_on_phaser q (used_by use_so op)) (some_op use_so rest q) (slice_index_or now q false)
      ∙ ap (λ xs. some_op use_so xs q || slice_index_or now q false) (sym is)
      ∙ are.each q within;
}

pub marks_end : (use_so : PhaserUse) (ops left : List Op) (before now : List Bool) → HaveMarksSoFar use_so ops left before now → left ≡ []
    → HaveMarks (some_op use_so ops) before now
marks_end use_so ops left before now are none = record {
  sized = are.sized;
  each = λ q within. ap (λ xs. some_op use_so xs q || slice_index_or now q false) (sym none) ∙ are.each q within;
}

-- ---- the tasks

-- these marks tell of each phaser of the plan whether an op of the first tasks uses it so
pub record AreUsedBelow (use_so : PhaserUse) (plan : Plan) (tasks : ℕ) (marks : List Bool) : Type 0 where
  pub sized : length marks ≡ length plan.makers
  pub each : (q : ℕ) → q < length plan.makers → slice_index_or marks q false ≡ some_before (λ t. some_op use_so (code_of plan t) q) tasks

pub used_start : (use_so : PhaserUse) (plan : Plan) (marks : List Bool) (n : ℕ) → marks ≡ replicate n false → n ≡ length plan.makers
    → AreUsedBelow use_so plan 0 marks
used_start use_so plan marks n is long = record {
  sized = ap length is ∙ length-replicate n false ∙ long;
  each = λ q within. ap (λ xs. slice_index_or xs q false) is ∙ get_or-replicate n q false false (omega (arith, within, long));
}

pub used_next : (use_so : PhaserUse) (plan : Plan) (t : ℕ) (ops : List Op) (marks next : List Bool) → AreUsedBelow use_so plan t marks → ops ≡ code_of plan t
    → HaveMarks (some_op use_so ops) marks next → AreUsedBelow use_so plan (t + 1) next
used_next use_so plan t ops marks next are code marked = record {
  sized = marked.sized ∙ are.sized;
  each = λ q within.
      let more = are.sized in
      let one : suc t ≡ t + 1 = omega arith in
      marked.each q (omega (arith, within, more))
      ∙ ap (λ xs. some_op use_so xs q || slice_index_or marks q false) code
      ∙ ap (λ b. some_op use_so (code_of plan t) q || b) (are.each q within)
      ∙ ap (some_before (λ u. some_op use_so (code_of plan u) q)) one;
}

pub used_end : (use_so : PhaserUse) (plan : Plan) (n : ℕ) (marks : List Bool) → AreUsedBelow use_so plan n marks → n ≡ length plan.parents
    → AreUsed use_so plan marks
used_end use_so plan n marks are all = record {
  sized = are.sized;
  each = λ q within. are.each q within ∙ ap (some_before (λ t. some_op use_so (code_of plan t) q)) all;
}
