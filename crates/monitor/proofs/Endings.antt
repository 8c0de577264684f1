-- What the end of a trace calls for.
use Rattle.std.proofs.Common.{◌≡◌, ℕ, Bool, true, false, List, ◌++◌, refl, sym, ◌∙◌, ap, subst, inl, inr, append-nil, append_assoc}
use Rattle.monitor_words.specs.Messages.{report_words}
use Rattle.monitor_words.specs.Stops.{TellsStuck}
use Rattle.monitor_messages.specs.Runs.{MonitorOptions, MonitorRun, ended_status}
use Rattle.monitor.specs.HeardLines.{HasHeardAll}
use Rattle.monitor.specs.MonitorCalls.{IsEndOutput}
use Rattle.monitor.specs.inside.Ending.{EndsReport, EndsTrace, EndsWithLine, EndsWithWords, IsReportOf}
use Rattle.monitor.specs.inside.Listening.{Heard, IsListening}

whole_output : (options : MonitorOptions) (bytes earlier message : List ℕ) (run : MonitorRun) (stuck : ℕ → Bool) (status : ℕ) → HasHeardAll options bytes run (earlier ++ message) → run.stopped ≡ false → TellsStuck run.state stuck → status ≡ ended_status run → IsEndOutput options bytes (earlier ++ (message ++ report_words run.state stuck)) status
whole_output options bytes earlier message run stuck status heard goes tells ends = inr (record {
  run = run;
  earlier = earlier ++ message;
  heard = heard;
  goes_on = goes;
  stuck = stuck;
  tells = tells;
  is = sym (append_assoc earlier message (report_words run.state stuck));
  ends = ends;
})

-- a last line was heard with this message, or there was none
abbrev pub HearsEnd : Heard → MonitorRun → List ℕ → Type 0
HearsEnd old run message = (options : MonitorOptions) (bytes output : List ℕ) → IsListening options bytes output old → HasHeardAll options bytes run (output ++ message)

pub ends_with_line : (old : Heard) (run : MonitorRun) (message words : List ℕ) → HearsEnd old run message → words ≡ message → EndsWithLine old words
ends_with_line old run message words hears is options bytes earlier l =
    (run, subst (λ w. HasHeardAll options bytes run (earlier ++ w)) (sym is) (hears options bytes earlier l))

pub ends_with_fault : (old : Heard) (run : MonitorRun) (message words : List ℕ) → HearsEnd old run message → words ≡ message → run.stopped ≡ true → EndsWithWords old words 3
ends_with_fault old run message words hears is stopped options bytes earlier l =
    inl (refl, (run, stopped, subst (λ w. HasHeardAll options bytes run (earlier ++ w)) (sym is) (hears options bytes earlier l)))

with_report : (old : Heard) (run : MonitorRun) (message report words : List ℕ) (status : ℕ) → HearsEnd old run message → run.stopped ≡ false → IsReportOf run report → words ≡ message ++ report → status ≡ ended_status run → EndsWithWords old words status
with_report old run message report words status hears goes (stuck, tells, is) whole ends options bytes earlier l =
    subst (λ w. IsEndOutput options bytes (earlier ++ w) status) (ap (λ r. message ++ r) (sym is) ∙ sym whole)
    (whole_output options bytes earlier message run stuck status (hears options bytes earlier l) goes tells ends)

pub ends_with_report : (old : Heard) (run : MonitorRun) (message written words : List ℕ) (status : ℕ) → HearsEnd old run message → run.stopped ≡ false → words ≡ message ++ written → EndsReport run written status → EndsTrace old words status
ends_with_report old run message written words status hears goes whole (inl (report, ends)) =
    inl (with_report old run message written words status hears goes report whole ends)
ends_with_report old run message written words status hears goes whole (inr (inl (is, (left, report)))) =
    inr (inl (
      is,
      (
        left,
        inr (
          ended_status run,
          with_report old run message (written ++ left) (words ++ left) (ended_status run) hears goes report
              (ap (λ w. w ++ left) whole ∙ append_assoc message written left) refl,
        ),
      ),
    ))
ends_with_report old run message written words status hears goes whole (inr (inr (is, none))) =
    inr (inr (is, inr (ends_with_line old run message words hears (whole ∙ ap (λ w. message ++ w) none ∙ append-nil message))))
