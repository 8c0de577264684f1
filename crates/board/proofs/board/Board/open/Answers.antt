use Rattle.std.proofs.Common.{◌≡◌, ℕ, ◌+◌, ◌*◌, [], length, replicate, sym, ap, ap₂, ◌∙◌, subst, arith}
use Rattle.armus_base.specs.Plans.{Plan}
use Rattle.armus_base.specs.CheckedPlans.{IsCheckedPlan}
use Rattle.board.specs.calls.Words.{word_count}
use Rattle.board.proofs.Closing.{opens_kept}
use Rattle.board.proofs.board.Board.open.Goals as goal

pub of_words-requires : goal.of_words-requires
of_words-requires c =
    let plan_is : c.of.result.value ≡ c.args.plan.now = c.of.ensures in
    let tasks : c.tasks-tasks.result ≡ length c.of.result.value.parents = c.tasks-tasks.ensures.counted ∙ ap (λ (q : Plan). length q.parents) (sym plan_is) in
    let phasers : c.phasers-phasers.result ≡ length c.of.result.value.makers = c.phasers-phasers.ensures.counted ∙ ap (λ (q : Plan). length q.makers) (sym plan_is) in
    let counts : c.tasks-tasks.result * (c.phasers-phasers.result + 1) + 1 ≡ word_count c.of.result.value =
    ap₂ (λ (t p : ℕ). t * (p + 1) + 1) tasks phasers ∙ all_words (length c.of.result.value.parents) (length c.of.result.value.makers) in
    opens_kept (record { plan = c.of.result; mode = c.args.mode }) c.as_slice.result.now [] (subst IsCheckedPlan (sym plan_is) c.tasks-tasks.ensures.checked)
    (c.as_slice.ensures.value ∙ c.in_ok-words.ensures ∙ ap (λ n. replicate {A = ℕ} n 0) counts)
  where
    all_words : (t p : ℕ) → t * (p + 1) + 1 ≡ 1 + t + t * p
    all_words t p = omega arith
