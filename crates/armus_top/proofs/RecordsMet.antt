-- Each plan has a record.
use Rattle.std.proofs.Common.{ℕ, ◌≡◌, ◌≢◌, ◌⊎◌, [], ◌∷◌, inl, inr, refl, sym, ap}
use Rattle.std.proofs.lemmas.Bool.{cases_eq}
use Rattle.armus_base.specs.calls.FinalLaws.{IsOfPlan}
use Rattle.armus_base.specs.Finals.{final_of}
use Rattle.armus_base.specs.Plans.{Plan}
use Rattle.armus_base.specs.Runs.{state_after}
use Rattle.armus_base.proofs.DeadByStatuses.{dead_by_final, run_is_of_plan}
use Rattle.armus_base.proofs.MaximalExists.{maximal_exists}
use Rattle.adaptive.specs.declared.analysis.Wanted.TheVariants as wanted
use Rattle.locked_world.specs.Journals.{journal_of}
use Rattle.report.proofs.ReportExists.{report_exists}
use Rattle.schedule.specs.Records.{IsClosedText, IsEnded, recorded}
use Rattle.program_io.specs.Texts.{Text}
use Rattle.pl_syntax.specs.Printed.{line}
use Rattle.program_io.specs.Programs.{IsPlanOf}
use Rattle.armus_top.specs.Records.{IsRecordOf}
use Rattle.program_io.proofs.OnePlan.{checked_plan}
use Rattle.armus_top.proofs.WholeOutputs.{status_by}

by_rest :
    (x y : ℕ) (ys : Text) → ((front : Text) × (y ∷ ys ≡ line front)) ⊎ ((front : Text) → y ∷ ys ≢ line front) →
    ((front : Text) × (x ∷ (y ∷ ys) ≡ line front)) ⊎ ((front : Text) → x ∷ (y ∷ ys) ≢ line front)
by_rest x y ys (inl (front, e)) = inl (x ∷ front, ap (λ l. x ∷ l) e)
by_rest x y ys (inr none) = inr more
  where
    more : (front : Text) → x ∷ (y ∷ ys) ≢ line front
    more [] e = absurd (cc)
    more (b ∷ bs) e = none bs (cc)

-- a text is closed, or an LF closes it
pub ends_or_not : (text : Text) → ((front : Text) × (text ≡ line front)) ⊎ ((front : Text) → text ≢ line front)
ends_or_not [] = inr (λ front e. some_line front (sym e))
  where
    some_line : (front : Text) → line front ≡ [] → ⊥
    some_line [] e = absurd (cc)
    some_line (b ∷ bs) e = absurd (cc)
ends_or_not (x ∷ []) =
    elim (cases_eq x 10) [
      | inl e ↦ inl ([], ap (λ b. b ∷ []) e)
      | inr other ↦ inr (last other)
    ]
  where
    last : x ≢ 10 → (front : Text) → x ∷ [] ≢ line front
    last other [] e = other (cc)
    last other (b ∷ []) e = absurd (cc)
    last other (b ∷ (c ∷ bs)) e = absurd (cc)
ends_or_not (x ∷ (y ∷ ys)) = by_rest x y ys (ends_or_not (y ∷ ys))

ended_or_not : (text : Text) → IsEnded text ⊎ (IsEnded text → ⊥)
ended_or_not [] = inl (inl refl)
ended_or_not (b ∷ bs) =
    elim (ends_or_not (b ∷ bs)) [
      | inl ends ↦ inl (inr ends)
      | inr unclosed ↦ inr (λ is. elim is [ inl e ↦ absurd (cc) | inr ends ↦ unclosed ends.0 ends.1 ])
    ]

-- so each text has a closed form
pub closed_exists : (text : Text) → (closed : Text) × IsClosedText text closed
closed_exists text = elim (ended_or_not text) [ inl ends ↦ (text, inl (refl, ends)) | inr unclosed ↦ (line text, inr (refl, unclosed)) ]

pub record_met : (input : Text) (plan : Plan) (plan_is : IsPlanOf input plan) → (status : ℕ) × (text : Text) × IsRecordOf input status text
record_met input plan plan_is =
    let is_checked = checked_plan input plan plan_is in
    let (h, run, maximal) = maximal_exists plan is_checked in
    let state = state_after h in
    let (text, reports) = report_exists (final_of plan state) wanted.Auto in
    let of_plan : IsOfPlan plan state = run_is_of_plan plan h is_checked run.0 in
    let (status, tells) = status_by state (final_of plan state) reports.cycle_text (λ t. dead_by_final plan state t of_plan) reports.cycle in
    let (closed, closed_is) = closed_exists input in (
      status,
      recorded closed (journal_of h),
      record {
        plan = plan;
        plan_is = plan_is;
        journal = journal_of h;
        steps = h;
        run = record { run = run; tasks = refl };
        maximal = maximal;
        status_is = tells;
        record_is = record { closed = closed; closed_is = closed_is; bytes_are = refl };
      },
    )
