-- Texts of one plan are replayed and recorded alike.
use Rattle.std.proofs.Common.{◌≡◌, ◌≢◌, ◌∙◌, ◌++◌, ℕ, [], ◌∷◌, ap, sym, subst, refl, append_assoc}
use Rattle.schedule.specs.Lines.{IsFirstLine, ended, unended}
use Rattle.schedule.specs.calls.Records.{HasNoMark}
use Rattle.schedule.specs.Records.{recorded}
use Rattle.schedule.specs.Split.{IsSplit, at_mark, mark, more_text, no_text}
use Rattle.schedule.proofs.LinesExist.{input_is_split}
use Rattle.schedule.proofs.OneSchedule.{one_split}
use Rattle.program_io.specs.Texts.{Text}
use Rattle.program_io.specs.Programs.{IsPlanOf}
use Rattle.armus_top.specs.Replays.{IsReplayOf, IsReplayedBy, IsShort}
use Rattle.armus_top.proofs.RecordsMet.{closed_exists}
use Rattle.armus_top.proofs.RecordsReplay.{unmarked}
use Rattle.report_laws.specs.calls.OnePlan.{HaveOnePlan, RecordGoesByPlan, ReplayGoesByPlan, TextsHaveNoSchedule}

-- ---- a text without a mark is all text

unmarked_rest : (input line rest : Text) → IsFirstLine input line rest → HasNoMark input → HasNoMark rest
unmarked_rest input line rest (ended no_end is) free after = (
  λ e. (free after).1 line (is ∙ ap (λ r. line ++ 10 ∷ r) e),
  λ front e. (free after).1 (line ++ 10 ∷ front) (is ∙ ap (λ r. line ++ 10 ∷ r) e ∙ sym (append_assoc line (10 ∷ front) (10 ∷ 37 ∷ after))),
)
unmarked_rest input line rest (unended no_end some is nothing) free after = (λ e. none (sym nothing ∙ e), λ front e. no_front front (sym nothing ∙ e))
  where
    none : [] ≢ 37 ∷ after
    none e = absurd (cc)

    no_front : (front : Text) → [] ≢ front ++ 10 ∷ 37 ∷ after
    no_front [] e = absurd (cc)
    no_front (b ∷ bs) e = absurd (cc)

no_first_mark : (input schedule : Text) → IsFirstLine input mark schedule → HasNoMark input → ⊥
no_first_mark input schedule (ended no_end is) free = (free (37 ∷ 10 ∷ schedule)).0 is
no_first_mark input schedule (unended no_end some is nothing) free = (free (37 ∷ [])).0 is

all_is_text : (input text schedule : Text) → IsSplit input text schedule → HasNoMark input → (text ≡ input) × (schedule ≡ [])
all_is_text input text schedule no_text free = (refl, refl)
all_is_text input text schedule (at_mark i s first) free = absurd (no_first_mark input schedule first free)
all_is_text input text schedule (more_text i line rest front behind s first unlike is split) free =
    let later = all_is_text rest behind schedule split (unmarked_rest input line rest first free) in
    (ap (λ t. front ++ t) later.0 ∙ sym is, later.1)

pub texts_have_no_schedule : TextsHaveNoSchedule
texts_have_no_schedule text plan (p, is) =
    let (front, schedule, split) = input_is_split text in
    let all = all_is_text text front schedule split (unmarked text p is.reads) in
    subst (λ s. IsSplit text text s) all.1 (subst (λ t. IsSplit text t schedule) all.0 split)

-- ---- replays

replayed_too : (x y a b schedule : Text) (status : ℕ) (report : Text) → IsSplit x a schedule → IsSplit y b schedule → IsShort b → HaveOnePlan a b
    → IsReplayOf x status report → IsReplayOf y status report
replayed_too x y a b schedule status report first second short same r =
    let parts = one_split x a schedule r.text r.schedule first r.split in
    let reads = r.by.reads in
    let by : IsReplayedBy b r.schedule r.done =
    record {
      plan = r.by.plan;
      lines = r.by.lines;
      reads = record { short = short; plan_is = (same r.by.plan).0 (subst (λ t. IsPlanOf t r.by.plan) (sym parts.0) reads.plan_is); lines_are = reads.lines_are };
      replayed = r.by.replayed;
    } in
    record {
      text = b;
      schedule = r.schedule;
      split = subst (λ s. IsSplit y b s) parts.1 second;
      done = r.done;
      by = by;
      names = r.names;
      status_is = r.status_is;
      report_is = r.report_is;
    }

turned : {a b : Text} → HaveOnePlan a b → HaveOnePlan b a
turned same plan = ((same plan).1, (same plan).0)

pub replay_goes_by_plan : ReplayGoesByPlan
replay_goes_by_plan x y a b schedule status report first second short short_too same = (
  replayed_too x y a b schedule status report first second short_too same,
  replayed_too y x b a schedule status report second first short (turned same),
)

-- ---- records

pub record_goes_by_plan : RecordGoesByPlan
record_goes_by_plan a b status text r same =
    let (closed, closed_is) = closed_exists b in (
      recorded closed r.journal,
      record {
        plan = r.plan;
        plan_is = (same r.plan).0 r.plan_is;
        journal = r.journal;
        steps = r.steps;
        run = r.run;
        maximal = r.maximal;
        status_is = r.status_is;
        record_is = record { closed = closed; closed_is = closed_is; bytes_are = refl };
      },
      refl,
    )
