-- The steps of a run are shown by one list of lines.
use Rattle.std.proofs.Common.{◌≡◌, ◌∙◌, ℕ, List, Option, None, refl, subst, sym}
use Rattle.explain_steps.specs.ShownSteps.{ShowSteps}
use Rattle.explain_steps.proofs.Showing.{one_shown, some_shown}
use Rattle.clock_syntax.specs.Trees.{ClockTree}
use Rattle.clock_semantics.specs.Unfolding.{ClockPart, ClockUnfolding}
use Rattle.clock_source_map.specs.ClockOps.{all_op_origins}
use Rattle.explain_clock.specs.ClockFacts.{ClockTextValue}
use Rattle.explain_clock.proofs.OneExplanation.{are_facts_of_text, facts_of_text, one_text_facts}
use Rattle.explain_steps.specs.OpFacts.{AreOpFacts, OpFacts, written_parts}
use Rattle.explain_steps.specs.ClockStepWords.{clock_step_line}
use Rattle.explain_steps.specs.calls.ClockLaws.{ClockShowingExists, OneClockShowing}

-- ---- one

pub same_op_facts :
    (a a' : ClockTextValue) (b b' : List ClockPart) (c c' : List (List (Option ℕ))) → a ≡ a' → b ≡ b' → c ≡ c' →
    let x : OpFacts = record { of_text = a; statements = b; origins = c } in let y : OpFacts = record { of_text = a'; statements = b'; origins = c' } in x ≡ y
same_op_facts a a' b b' c c' p q r = cc

one_facts : (text : List ℕ) (p : ClockTree) (u : ClockUnfolding) (f g : OpFacts) → AreOpFacts text p u f → AreOpFacts text p u g → f ≡ g
one_facts text p u f g x y =
    same_op_facts f.of_text g.of_text f.statements g.statements f.origins g.origins (one_text_facts None text p u f.of_text g.of_text x.text_facts y.text_facts)
    (x.statements_are ∙ sym y.statements_are) (x.origins_are ∙ sym y.origins_are)

pub one_clock_showing : OneClockShowing
one_clock_showing text p u plan h lines other a b =
    let same : b.facts ≡ a.facts = one_facts text p u b.facts a.facts b.are_facts a.are_facts in
    one_shown (clock_step_line a.facts) plan h lines other a.shows (subst (λ (f : OpFacts). ShowSteps (clock_step_line f) plan h other) same b.shows)

-- ---- some

pub clock_showing_exists : ClockShowingExists
clock_showing_exists text p u plan h =
    let facts : OpFacts = record { of_text = facts_of_text None text p u; statements = written_parts p; origins = all_op_origins u } in
    let (lines, shows) = some_shown (clock_step_line facts) plan h in (
      lines,
      record {
        facts = facts;
        are_facts = record { text_facts = are_facts_of_text None text p u; statements_are = refl; origins_are = refl };
        shows = shows;
      },
    )
