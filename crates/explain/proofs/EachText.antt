-- Each text has an output.
use Rattle.std.proofs.Common.{◌≡◌, ◌⊎◌, ℕ, inl, inr, refl}
use Rattle.std.specs.Prelude.{if◌then◌else◌}
use Rattle.armus_base.specs.Plans.{Plan}
use Rattle.armus_base.proofs.MaximalExists.{maximal_exists}
use Rattle.pl_plan.proofs.Unfolds.{fault_is_first}
use Rattle.report.specs.declared.refusal.Refusal.{Refusal}
use Rattle.report.specs.declared.refusal.Refusal.TheVariants.{Check, Length, Schedule, Syntax}
use Rattle.explain_check.proofs.TextRefusals.{has_refusal}
use Rattle.explain_syntax.proofs.SomeStand.{some_refusal}
use Rattle.program_io.specs.Texts.{Text}
use Rattle.program_io.specs.Programs.{IsFaultOf, IsPlanOf}
use Rattle.program_io.proofs.OnePlan.{checked_plan}
use Rattle.program_io.proofs.EachText.{plan_or_refused}
use Rattle.explain.specs.calls.Laws.{EachHasOutput}
use Rattle.explain.specs.Explained.{IsExplanationOf}
use Rattle.explain.specs.Outputs.{AnswersText}
use Rattle.explain.specs.Refused.{IsRefusedWith}
use Rattle.explain.specs.Requests.{Form}
use Rattle.explain.proofs.Told.{told_exists}

module _ (form : Form) (text : Text) where
  refused : (why : Refusal) → IsFaultOf text why → (lines : Text) × IsRefusedWith form.file text lines
  refused (Syntax fault) is = let (lines, refuses) = some_refusal form.file text fault is in (lines, inl (fault, refuses))
  refused (Check fault) (program, reads, fails) =
      let (lines, refuses) = has_refusal form.file text program fault reads ((fault_is_first program fault).0 fails) in
      (lines, inr (program, refuses))
  refused Length is = absurd is
  refused (Schedule fault) is = absurd is

  module _ (Tells : ℕ → Text → Type 0) where
    -- a whole output that tells this or is a refusal
    abbrev pub IsMet : Type 0
    IsMet = (status : ℕ) × (lines : Text) × (Tells status lines ⊎ ((status ≡ 3) × IsRefusedWith form.file text lines))

    -- it is there, if it is for the plan of the text
    pub met : ((plan : Plan) → IsPlanOf text plan → IsMet) → IsMet
    met tells =
        elim (plan_or_refused text) [
          | inl one ↦ let (plan, is) = one in tells plan is
          | inr one ↦ let (why, is) = one in let (lines, refuses) = refused why is in (3, lines, inr (refl, refuses))
        ]

  explained : (plan : Plan) → IsPlanOf text plan → IsMet (IsExplanationOf form text)
  explained plan (program, checked) =
      let (steps, run, maximal) = maximal_exists plan (checked_plan text plan (program, checked)) in
      let (lines, waits, explains) = told_exists form text program plan steps checked.reads checked.unfolds run.0 maximal in (
        (if waits then 1 else 0),
        lines,
        inl (record {
          plan = plan;
          steps = steps;
          ended = record { plan_is = (program, checked); run = run; maximal = maximal };
          waits = waits;
          explains = explains;
          status_is = refl;
        }),
      )

pub each_text_is_met : EachHasOutput AnswersText
each_text_is_met form text = met form text (IsExplanationOf form text) (explained form text)
