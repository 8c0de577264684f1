-- A clock text has one output, and the output fixes its status.
use Rattle.std.proofs.Common.{◌≡◌, ◌∙◌, ◌⊎◌, ℕ, List, Option, ap, inl, inr, refl, subst, sym}
use Rattle.std.specs.Prelude.{Err, Ok, if◌then◌else◌}
use mathlib.Core.Path.{fun_ext}
use Rattle.armus_base.specs.Places.{done_by}
use Rattle.armus_base.specs.Runs.{Place, state_after}
use Rattle.armus_base.specs.States.{State, Step}
use Rattle.armus_base.proofs.MaximalExists.{maximal_exists}
use Rattle.pl_plan.specs.Unfolding.{Outcome}
use Rattle.pl_plan.specs.declared.fault.CheckFault.{CheckFault}
use Rattle.clock_syntax.specs.Grammar.{IsClockText}
use Rattle.clock_syntax.specs.Trees.{ClockTree}
use Rattle.clock_syntax.proofs.ClockTexts.{clock_tree_or_fault}
use Rattle.clock_syntax.proofs.ClockUnique.{not_both_clocks, one_clock_fault, one_clock_tree}
use Rattle.clock_semantics.specs.Unfolding.{ClockUnfolding, clock_unfolded, plan_of_moves}
use Rattle.clock_source_map.specs.ClockOffsets.{clock_offsets}
use Rattle.explain_facts.specs.RunStates.{done_after}
use Rattle.explain_clock.specs.ClockRefusals.{clock_fault_lines, clock_syntax_lines}
use Rattle.program_io.specs.Texts.{Text}
use Rattle.explain.specs.ClockExplained.{AnswersClock, AreToldActivities, ClockEndsSo, HasSomeClockFault, IsClockExplanationOf, IsClockRefusedWith, IsMaximalClockRun, IsClockStatusOf}
use Rattle.explain.specs.Explained.{SomeWaits}
use Rattle.explain.specs.Requests.{Form}
use Rattle.explain.specs.calls.Laws.{EachHasOutput, IsOneOutput}
use Rattle.explain.proofs.Told.{one_told_clock, told_clock_exists}
use Rattle.explain.proofs.Statuses.{one_answer, one_status, status_of_end, status_of_fault}
use Rattle.explain.proofs.ClockEnds.{checked_moves, clock_run, clocks_tell_waiting, end_alike, run_or_fault}

-- ---- refusals

has_fault : (file : Option Text) (text lines : Text) → IsClockRefusedWith file text lines → HasSomeClockFault text
has_fault file text lines (inl (fault, has, is)) = inl (fault, has)
has_fault file text lines (inr (p, fault, reads, fails, is)) = inr (p, fault, reads, fails)

same_fault : (p : ClockTree) (f g : CheckFault) → clock_unfolded p ≡ Err f → clock_unfolded p ≡ Err g → f ≡ g
same_fault p f g a b = (let both : ◌≡◌ {A = Outcome ClockUnfolding} (Err f) (Err g) = sym a ∙ b in cc)

pub one_clock_refused : (file : Option Text) (text lines others : Text) → IsClockRefusedWith file text lines → IsClockRefusedWith file text others → lines ≡ others
one_clock_refused file text lines others (inl (f, a, is)) (inl (g, b, are)) = is ∙ ap (clock_syntax_lines file text) (one_clock_fault text f g a b) ∙ sym are
one_clock_refused file text lines others (inl (f, a, is)) (inr (q, g, reads, fails, are)) = absurd (not_both_clocks text q f reads a)
one_clock_refused file text lines others (inr (p, f, reads, fails, is)) (inl (g, b, are)) = absurd (not_both_clocks text p g reads b)
one_clock_refused file text lines others (inr (p, f, reads, fails, is)) (inr (q, g, read, failed, are)) =
    let same : p ≡ q = one_clock_tree text p q reads read in
    let fault : f ≡ g = same_fault q f g (subst (λ r. clock_unfolded r ≡ Err f) same fails) failed in
    is ∙ ap (λ r. clock_fault_lines file text (clock_offsets text r) f) same ∙ ap (clock_fault_lines file text (clock_offsets text q)) fault ∙ sym are

-- ---- one output

pub one_clock_explained : (form : Form) (text : Text) (status other : ℕ) (lines others : Text) → IsClockExplanationOf form text status lines
    → IsClockExplanationOf form text other others → (status ≡ other) × (lines ≡ others)
one_clock_explained form text status other lines others a b =
    let alike = end_alike text b.program a.program b.unfolded a.unfolded b.steps a.steps b.ended a.ended in
    let of_program : AreToldActivities form text a.program b.unfolded (plan_of_moves b.unfolded) (state_after b.steps) (done_after b.steps) others b.waits =
    subst (λ p. AreToldActivities form text p b.unfolded (plan_of_moves b.unfolded) (state_after b.steps) (done_after b.steps) others b.waits) alike.programs b.explains in
    let of_plan : AreToldActivities form text a.program a.unfolded (plan_of_moves a.unfolded) (state_after b.steps) (done_after b.steps) others b.waits =
    subst (λ u. AreToldActivities form text a.program u (plan_of_moves u) (state_after b.steps) (done_after b.steps) others b.waits) alike.unfoldings of_program in
    let of_counts : AreToldActivities form text a.program a.unfolded (plan_of_moves a.unfolded) (state_after b.steps) (done_after a.steps) others b.waits =
    subst (λ (at : ℕ → Place). AreToldActivities form text a.program a.unfolded (plan_of_moves a.unfolded) (state_after b.steps) (done_by at) others b.waits)
    (fun_ext alike.ends.0) of_plan in
    let of_state : AreToldActivities form text a.program a.unfolded (plan_of_moves a.unfolded) (state_after a.steps) (done_after a.steps) others b.waits =
    subst (λ (s : State). AreToldActivities form text a.program a.unfolded (plan_of_moves a.unfolded) s (done_after a.steps) others b.waits) alike.ends.1 of_counts in
    let same = one_told_clock form text a.program a.unfolded (plan_of_moves a.unfolded) (state_after a.steps) (done_after a.steps) lines others a.waits b.waits a.explains of_state in (
      one_status a.waits b.waits status other a.status_is b.status_is same.1,
      same.0,
    )

pub clock_explained_or_refused : (form : Form) (text : Text) (status : ℕ) (lines others : Text) → IsClockExplanationOf form text status lines → IsClockRefusedWith form.file text others → ⊥
clock_explained_or_refused form text status lines others is refused =
    run_or_fault text is.program is.unfolded is.steps is.ended (has_fault form.file text others refused)

pub one_clock_output : IsOneOutput AnswersClock
one_clock_output form text =
    one_answer (IsClockExplanationOf form text) (IsClockRefusedWith form.file text) (one_clock_explained form text) (one_clock_refused form.file text)
    (clock_explained_or_refused form text)

-- ---- each text

module _ (form : Form) (text : Text) (Tells : ℕ → Text → Type 0) where
  -- a whole output that tells this or is a refusal
  abbrev pub IsClockMet : Type 0
  IsClockMet = (status : ℕ) × (lines : Text) × (Tells status lines ⊎ ((status ≡ 3) × IsClockRefusedWith form.file text lines))

  module _ (tells : (p : ClockTree) (u : ClockUnfolding) → IsClockText text p → clock_unfolded p ≡ Ok u → IsClockMet) where
    met_by : (p : ClockTree) → IsClockText text p → (r : Outcome ClockUnfolding) → clock_unfolded p ≡ r → IsClockMet
    met_by p reads (Err fault) fails = (3, clock_fault_lines form.file text (clock_offsets text p) fault, inr (refl, inr (p, fault, reads, fails, refl)))
    met_by p reads (Ok u) is = tells p u reads is

    -- it is there, if it is for each unfolding of the text
    pub clock_met : IsClockMet
    clock_met =
        elim (clock_tree_or_fault text) [
          | inl one ↦ let (p, reads) = one in met_by p reads (clock_unfolded p) refl
          | inr one ↦ let (fault, has) = one in (3, clock_syntax_lines form.file text fault, inr (refl, inl (fault, has, refl)))
        ]

explained : (form : Form) (text : Text) (p : ClockTree) (u : ClockUnfolding) → IsClockText text p → clock_unfolded p ≡ Ok u
    → IsClockMet form text (IsClockExplanationOf form text)
explained form text p u reads is =
    let (steps, run, maximal) = maximal_exists (plan_of_moves u) (checked_moves p u is) in
    let (lines, waits, explains) = told_clock_exists form text p u (plan_of_moves u) (state_after steps) (done_after steps) reads is refl in (
      (if waits then 1 else 0),
      lines,
      inl (record {
        program = p;
        unfolded = u;
        steps = steps;
        ended = clock_run text p u steps reads is run maximal;
        waits = waits;
        explains = explains;
        status_is = refl;
      }),
    )

pub each_clock_text_is_met : EachHasOutput AnswersClock
each_clock_text_is_met form text = clock_met form text (IsClockExplanationOf form text) (explained form text)

-- ---- the status

-- what holds of the final state of one run of a text holds of that of another one
one_state : (text : Text) (Holds : State → Type 0) (p : ClockTree) (u : ClockUnfolding) (h : List Step) → IsMaximalClockRun text p u h → ClockEndsSo text Holds → Holds (state_after h)
one_state text Holds p u h run is =
    subst Holds (end_alike text is.program p is.unfolded u is.steps h is.ended run).ends.1 is.holds

ends_or_fault : (text : Text) (Holds : State → Type 0) → ClockEndsSo text Holds → HasSomeClockFault text → ⊥
ends_or_fault text Holds is fault = run_or_fault text is.program is.unfolded is.steps is.ended fault

pub status_of_clocks : (form : Form) (text : Text) (number : ℕ) (lines : Text) → AnswersClock form text number lines → IsClockStatusOf text number
status_of_clocks form text number lines (inl is) =
    status_of_end (HasSomeClockFault text) (ClockEndsSo text) SomeWaits number (ends_or_fault text) (state_after is.steps)
    (λ Holds holds. record { program = is.program; unfolded = is.unfolded; steps = is.steps; ended = is.ended; holds = holds })
    (λ Holds ends. one_state text Holds is.program is.unfolded is.steps is.ended ends)
    is.waits is.status_is (clocks_tell_waiting form text is.program is.unfolded is.steps lines is.waits is.ended is.explains)
status_of_clocks form text number lines (inr (three, refused)) =
    status_of_fault (HasSomeClockFault text) (ClockEndsSo text) SomeWaits number (ends_or_fault text) three (has_fault form.file text lines refused)
