-- The steps of a run are shown by one list of lines in these words.
use Rattle.std.proofs.Common.{◌≡◌, ◌∙◌, ℕ, ◌+◌, ◌-◌, List, [], ◌∷◌, ◌++◌, length, ap, refl, sym}
use Rattle.armus_base.specs.Plans.{Plan, code_of}
use Rattle.armus_base.specs.Runs.{places, state_after}
use Rattle.armus_base.specs.States.{Step}
use Rattle.explain_facts.proofs.AtSomeOp.{at_some_op}
use Rattle.explain_facts.proofs.OneAccount.{one_op}
use Rattle.explain_steps.specs.ShownSteps.{AreLinesOf, IsLineOf, LineWords, ShowSteps, first_steps, most_shown, more_steps_line}

module _ (words : LineWords) (plan : Plan) where
  -- a step has one line
  one_line : (h : List Step) (e : Step) (line other : List ℕ) → IsLineOf words plan h e line → IsLineOf words plan h e other → line ≡ other
  one_line h e line other a b =
      a.line_is
      ∙ ap (words plan (length h + 1) (state_after h) e.task e.action)
      (one_op (code_of plan e.task) (places h e.task).done a.op b.op a.stands b.stands)
      ∙ sym b.line_is

  -- and steps have one list of them
  one_list : (h : List Step) (lines other : List ℕ) → AreLinesOf words plan h lines → AreLinesOf words plan h other → lines ≡ other
  one_list [] lines other a b = a ∙ sym b
  one_list (e ∷ h) lines other (before, line, are, is, all) (before', line', are', is', all') =
      all
      ∙ ap (λ (b : List ℕ). b ++ line) (one_list h before before' are are')
      ∙ ap (λ (x : List ℕ). before' ++ x) (one_line h e line line' is is')
      ∙ sym all'

  pub one_shown : (h : List Step) (lines other : List ℕ) → ShowSteps words plan h lines → ShowSteps words plan h other → lines ≡ other
  one_shown h lines other a b =
      a.lines_are
      ∙ ap (λ (shown : List ℕ). shown ++ more_steps_line (length h - most_shown)) (one_list (first_steps most_shown h) a.shown b.shown a.each b.each)
      ∙ sym b.lines_are

  a_line : (h : List Step) (e : Step) → (line : List ℕ) × IsLineOf words plan h e line
  a_line h e =
      let (op, stands) = at_some_op (code_of plan e.task) (places h e.task).done in (
        words plan (length h + 1) (state_after h) e.task e.action op,
        record { op = op; stands = stands; line_is = refl },
      )

  lines_exist : (h : List Step) → (lines : List ℕ) × AreLinesOf words plan h lines
  lines_exist [] = ([], refl)
  lines_exist (e ∷ h) =
      let (before, are) = lines_exist h in
      let (line, is) = a_line h e in
      (before ++ line, (before, line, are, is, refl))

  pub some_shown : (h : List Step) → (lines : List ℕ) × ShowSteps words plan h lines
  some_shown h =
      let (shown, each) = lines_exist (first_steps most_shown h) in
      (shown ++ more_steps_line (length h - most_shown), record { shown = shown; each = each; lines_are = refl })
