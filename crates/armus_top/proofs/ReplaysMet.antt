-- Each input of `replay` is answered or refused.
use Rattle.std.proofs.Common.{ℕ, ◌≡◌, ◌≢◌, ◌≤◌, ◌<◌, ◌∙◌, ◌⊎◌, [], ◌∷◌, ◌++◌, List, length, inl, inr, refl, sym, subst, ap, arith, append_assoc, append-nil, length-append}
use Rattle.std.proofs.lemmas.Bool.{cases_lt}
use Rattle.armus_base.specs.declared.ids.TaskId.{TaskId}
use Rattle.armus_base.specs.CheckedPlans.{IsCheckedPlan}
use Rattle.armus_base.specs.calls.FinalLaws.{IsOfPlan}
use Rattle.armus_base.specs.calls.Finals.{statuses_of}
use Rattle.armus_base.specs.Plans.{Plan}
use Rattle.armus_base.specs.Runs.{state_after}
use Rattle.armus_base.specs.States.{State}
use Rattle.armus_base.proofs.DeadByStatuses.{dead_by_statuses, run_is_of_plan}
use Rattle.armus_base.proofs.Elements.{Contains-head, nothing_in_nil}
use Rattle.command_line.specs.declared.command.Command.TheVariants.{Replay}
use Rattle.report.specs.Refusals.{refusal_text}
use Rattle.report.specs.declared.refusal.Refusal.{Refusal}
use Rattle.report.specs.declared.refusal.Refusal.TheVariants.{Length, Syntax, Check as Checked, Schedule}
use Rattle.adaptive.proofs.DeadOrNot.{dead_list_exists}
use Rattle.schedule.specs.declared.lines.Line.{Line}
use Rattle.schedule.specs.declared.verdict.PassVerdict.{PassVerdict}
use Rattle.schedule.specs.declared.verdict.Replayed.{Replayed}
use Rattle.schedule.specs.Passes.{PassLoads, statuses_found}
use Rattle.schedule.specs.Replays.{LinesLead, Progress}
use Rattle.schedule.specs.Replaying.{AreDeadIn, AreVerdicts, IsReplayed, no_pass, one_pass}
use Rattle.schedule.specs.Split.{IsSplit}
use Rattle.schedule.specs.Texts.{text_of}
use Rattle.schedule.proofs.LinesExist.{bytes_have_lines, input_is_split}
use Rattle.schedule.proofs.PassesNameTheDead.{passes_name_the_dead}
use Rattle.schedule.proofs.LinesMet.{leads_run, lines_are_met}
use Rattle.program_io.specs.Texts.{Text}
use Rattle.pl_syntax.specs.Printed.{line}
use Rattle.program_io.specs.Programs.{IsFaultOf}
use Rattle.armus_top.specs.DeadStatus.{TellsDead}
use Rattle.armus_top.specs.Replays.{IsShort, ReadsAs}
use Rattle.program_io.specs.declared.text_limit.TheConstants.{MAX_TEXT_BYTES}
use Rattle.program_io.proofs.OnePlan.{checked_plan}
use Rattle.program_io.proofs.EachText.{plan_or_refused}
use Rattle.armus_top.proofs.WholeOutputs.{IsMet, refused}
use Rattle.armus_top.proofs.RecordsMet.{ends_or_not}

verdicts_from :
    (plan : Plan) (before rest : List PassLoads) (verdicts : List PassVerdict) → AreVerdicts plan before verdicts →
    (all : List PassVerdict) × AreVerdicts plan (before ++ rest) all
verdicts_from plan before [] verdicts are = (verdicts, subst (λ ps. AreVerdicts plan ps verdicts) (sym (append-nil before)) are)
verdicts_from plan before (loads ∷ rest) verdicts are =
    let (dead, is) = dead_list_exists (statuses_found plan loads) in
    let v : PassVerdict = record { dead = dead } in
    let (all, more) = verdicts_from plan (before ++ loads ∷ []) rest (verdicts ++ v ∷ []) (one_pass before verdicts loads v are is) in
    (all, subst (λ ps. AreVerdicts plan ps all) (append_assoc before (loads ∷ []) rest) more)

replayed_exists : (plan : Plan) (lines : List Line) (a : Progress) → IsCheckedPlan plan → LinesLead plan lines a → (done : Replayed) × IsReplayed plan lines done
replayed_exists plan lines a is_checked leads =
    let run = leads_run plan is_checked lines a leads in
    let state = state_after a.run in
    let of_plan : IsOfPlan plan state = run_is_of_plan plan a.run is_checked run.0 in
    let (dead, is) = dead_list_exists (statuses_of plan state) in
    let (verdicts, are) = verdicts_from plan [] a.passes [] no_pass in (
      record { verdicts = verdicts; steps = length a.run; dead = dead },
      record {
        progress = a;
        leads = leads;
        verdicts = are;
        steps = refl;
        dead = record {
          ascends = is.ascends;
          exact = λ t. (
            λ m. (dead_by_statuses plan state t.0 of_plan).0 ((is.exact t).0 m),
            λ d. (is.exact t).1 ((dead_by_statuses plan state t.0 of_plan).1 d),
          );
        };
      },
    )

list_status : (state : State) (dead : List TaskId) → AreDeadIn state dead → (status : ℕ) × TellsDead state status
list_status state [] are = (0, inr (refl, λ t d. nothing_in_nil (record { 0 = t }) ((are.exact (record { 0 = t })).1 d)))
list_status state (t ∷ ts) are = (1, inl (refl, (t.0, (are.exact t).0 (Contains-head t ts))))

at_most_or_not : (m n : ℕ) → (m ≤ n) ⊎ (n < m)
at_most_or_not m n = elim (cases_lt n m) [ inl more ↦ inr more | inr le ↦ inl (omega arith) ]

both_long : (text front : Text) → text ≡ line front → MAX_TEXT_BYTES < length text → MAX_TEXT_BYTES < length front → IsShort text → ⊥
both_long text front is long more (inl le) = omega arith
both_long text front is long more (inr (other, e, le)) =
    let a = ap length (sym is ∙ e) in
    omega (arith, a, length-append front (10 ∷ []), length-append other (10 ∷ []))

not_short : (text : Text) → MAX_TEXT_BYTES < length text → ((front : Text) → text ≢ line front) → IsShort text → ⊥
not_short text long unclosed (inl le) = omega arith
not_short text long unclosed (inr (front, e, le)) = unclosed front e

fault_of : (input text schedule : Text) → IsSplit input text schedule → IsShort text → (why : Refusal) → IsFaultOf text why → IsMet Replay input
fault_of input text schedule split short Length is = absurd is
fault_of input text schedule split short (Syntax f) is = refused Replay input (refusal_text (Syntax f)) (Syntax f, (text, schedule, split, (short, is)), refl)
fault_of input text schedule split short (Checked f) is = refused Replay input (refusal_text (Checked f)) (Checked f, (text, schedule, split, (short, is)), refl)
fault_of input text schedule split short (Schedule f) is = absurd is

short_or_not : (text : Text) → IsShort text ⊎ (IsShort text → ⊥)
short_or_not text =
    elim (at_most_or_not (length text) MAX_TEXT_BYTES) [
      | inl le ↦ inl (inl le)
      | inr long ↦ elim (ends_or_not text) [
        | inl ends ↦
            let (front, is) = ends in
            elim (at_most_or_not (length front) MAX_TEXT_BYTES) [
              | inl le ↦ inl (inr (front, is, le))
              | inr more ↦ inr (both_long text front is long more)
            ]
        | inr unclosed ↦ inr (not_short text long unclosed)
      ]
    ]

pub replay_met : (input : Text) → IsMet Replay input
replay_met input =
    let (text, schedule, split) = input_is_split input in
    elim (short_or_not text) [
      | inr long ↦ refused Replay input (refusal_text Length) (Length, (text, schedule, split, long), refl)
      | inl short ↦ elim (plan_or_refused text) [
        | inr one ↦ let (why, is) = one in fault_of input text schedule split short why is
        | inl one ↦
            let (plan, plan_is) = one in
            let (lines, are) = bytes_have_lines schedule in
            let reads : ReadsAs text schedule plan lines = record { short = short; plan_is = plan_is; lines_are = are } in
            let is_checked = checked_plan text plan plan_is in
            elim (lines_are_met plan lines is_checked) [
              | inr fault ↦
                  let (number, kind, first) = fault in
                  let why : Refusal = Schedule (record { line = number; kind = kind }) in
                  refused Replay input (refusal_text why) (why, (text, schedule, split, (plan, lines, reads, first)), refl)
              | inl leads ↦
                  let (a, led) = leads in
                  let (done, replayed) = replayed_exists plan lines a is_checked led in
                  let (status, tells) = list_status (state_after replayed.progress.run) done.dead replayed.dead in (
                    status,
                    text_of done,
                    inl (record {
                      text = text;
                      schedule = schedule;
                      split = split;
                      done = done;
                      by = record { plan = plan; lines = lines; reads = reads; replayed = replayed };
                      names = λ loads closed. passes_name_the_dead plan lines replayed.progress loads is_checked replayed.leads closed;
                      status_is = tells;
                      report_is = refl;
                    }),
                  )
            ]
      ]
    ]
