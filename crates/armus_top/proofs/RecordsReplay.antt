-- What `record` writes is an input that `replay` does not refuse, and that it answers with the same status and the same dead tasks.
use Rattle.std.proofs.Common.{◌≡◌, ◌≤◌, ◌+◌, ◌∙◌, [], ◌∷◌, ◌++◌, ℕ, List, length, inl, inr, sym, subst, ap, arith, length-append, map}
use Rattle.std.specs.Prelude.{◌↔◌, Option, Some, None, Ok, Err}
use Rattle.armus_base.specs.declared.ids.TaskId.{TaskId}
use Rattle.armus_base.specs.CheckedPlans.{IsCheckedPlan}
use Rattle.armus_base.specs.Deadlocks.{IsDeadIn}
use Rattle.armus_base.specs.Plans.{Plan}
use Rattle.armus_base.specs.Runs.{state_after}
use Rattle.armus_base.specs.States.{State}
use Rattle.pl_syntax.specs.Grammar.{IsText}
use Rattle.pl_syntax.specs.declared.tree.Program.{Program}
use Rattle.pl_syntax.proofs.LineFeeds.{line_feed_changes_nothing, no_line_is_a_mark}
use Rattle.report.specs.declared.refusal.Refusal.{Refusal}
use Rattle.report.specs.declared.refusal.Refusal.TheVariants.{Length, Syntax, Check, Schedule}
use Rattle.schedule.specs.declared.lines.Line.{Line}
use Rattle.schedule.specs.declared.verdict.ReplayEnd.TheVariants.{Schedule as AtFault}
use Rattle.schedule.specs.Lines.{IsSchedule}
use Rattle.schedule.specs.Replays.{IsFirstFault}
use Rattle.schedule.specs.Replaying.{AreDeadIn, IsReplayed}
use Rattle.schedule.specs.Split.{IsSplit, mark}
use Rattle.schedule.specs.calls.Records.{FitsPlan, HasNoMark, step_of}
use Rattle.schedule.specs.Records.{IsClosedText, step_lines}
use Rattle.schedule.proofs.JournalFits.{journal_fits_plan}
use Rattle.schedule.proofs.JournalReplays.{journal_replays}
use Rattle.schedule.proofs.OneSchedule.{one_reading, one_split}
use Rattle.schedule.proofs.RecordIsRead.{record_is_read}
use Rattle.program_io.specs.Texts.{Text}
use Rattle.program_io.specs.Programs.{IsPlanOf}
use Rattle.armus_top.specs.DeadStatus.{TellsDead}
use Rattle.armus_top.specs.Records.{IsRecordOf}
use Rattle.armus_top.specs.Replayable.{IsReplayable, WritesReplayable}
use Rattle.armus_top.specs.calls.Replayable.{RecordsReplay}
use Rattle.armus_top.specs.Commands.{limit_of}
use Rattle.program_io.specs.Passages.{HasInput, Passage, no_memory, read_fault, whole, write_fault}
use Rattle.armus_top.specs.Headline.{Ends, Permits, Serves}
use Rattle.command_line.specs.declared.command.Command.TheVariants.{Record}
use Rattle.std.specs.Io.KnownBytes.{Appends}
use Rattle.std.proofs.lemmas.List.{append_cancel_left}
use Rattle.armus_top.specs.Replays.{IsReplayFault, IsReplayOf, IsReplayRefused, IsShort}
use Rattle.program_io.specs.declared.text_limit.TheConstants.{MAX_TEXT_BYTES}
use Rattle.armus_top.specs.declared.replaying.TheConstants.{MAX_REPLAY_BYTES}
use Rattle.program_io.proofs.OnePlan.{checked_plan, one_plan, plan_or_fault}

-- ---- the closed text

closed_text : (input closed : Text) (p : Program) → IsClosedText input closed → IsText input p → IsText closed p
closed_text input closed p (inl (same, ends)) is = subst (λ t. IsText t p) (sym same) is
closed_text input closed p (inr (longer, unclosed)) is = subst (λ t. IsText t p) (sym longer) (line_feed_changes_nothing input p is)

closed_short : (input closed : Text) → IsClosedText input closed → length input ≤ MAX_TEXT_BYTES → IsShort closed
closed_short input closed (inl (same, ends)) le = inl (subst (λ t. length t ≤ MAX_TEXT_BYTES) (sym same) le)
closed_short input closed (inr (longer, unclosed)) le = inr (input, longer, le)

closed_length : (input closed : Text) → IsClosedText input closed → length closed ≤ length input + 1
closed_length input closed (inl (same, ends)) = omega (arith, ap length same)
closed_length input closed (inr (longer, unclosed)) = omega (arith, ap length longer, length-append input (10 ∷ []))

pub unmarked : (text : Text) (p : Program) → IsText text p → HasNoMark text
unmarked text p is rest = (
  λ e. (no_line_is_a_mark p rest).0 (subst (λ t. IsText t p) e is),
  λ front e. (no_line_is_a_mark p rest).1 front (subst (λ t. IsText t p) e is),
)

-- two statuses that tell of the same dead tasks are one
one_status : (s u : State) → ((t : ℕ) → IsDeadIn s t ↔ IsDeadIn u t) → (m n : ℕ) → TellsDead s m → TellsDead u n → m ≡ n
one_status s u same m n (inl (one, dead)) (inl (is, other)) = one ∙ sym is
one_status s u same m n (inl (one, (t, dead))) (inr (is, nobody)) = absurd (nobody t ((same t).0 dead))
one_status s u same m n (inr (none, nobody)) (inl (is, (t, dead))) = absurd (nobody t ((same t).1 dead))
one_status s u same m n (inr (none, nobody)) (inr (is, other)) = none ∙ sym is

task : ℕ → TaskId
task n = record { 0 = n }

module _ (input : Text) (status : ℕ) (text : Text) (r : IsRecordOf input status text) (short : length input ≤ MAX_TEXT_BYTES) where
  reads : IsText r.record_is.closed r.plan_is.0
  reads = closed_text input r.record_is.closed r.plan_is.0 r.record_is.closed_is r.plan_is.1.reads

  closed_plan : IsPlanOf r.record_is.closed r.plan
  closed_plan = (r.plan_is.0, record { reads = reads; unfolds = r.plan_is.1.unfolds })

  checked : IsCheckedPlan r.plan
  checked = checked_plan input r.plan r.plan_is

  journal_fits : FitsPlan r.plan r.journal
  journal_fits = journal_fits_plan r.plan r.journal r.steps checked r.run

  read : (schedule : Text) × IsSplit text r.record_is.closed schedule × IsSchedule schedule (map step_of r.journal)
  read =
      record_is_read input text r.journal r.record_is (unmarked r.record_is.closed r.plan_is.0 reads)
      (λ t m. let lt = journal_fits.tasks t m in omega arith)

  fits : length text ≤ MAX_REPLAY_BYTES
  fits =
      let a = ap length r.record_is.bytes_are in
      let b = length-append (r.record_is.closed ++ (mark ++ 10 ∷ [])) (step_lines r.journal) in
      let c = length-append r.record_is.closed (mark ++ 10 ∷ []) in
      let d = closed_length input r.record_is.closed r.record_is.closed_is in
      let few = journal_fits.few in
      let each = journal_fits.short in
      omega arith

  -- whatever replay reads in the text is what was recorded
  module _ (other schedule : Text) (plan : Plan) (lines : List Line) (parts : IsSplit text other schedule) (plan_is : IsPlanOf other plan) (are : IsSchedule schedule lines) where
    same_plan : plan ≡ r.plan
    same_plan = one_plan r.record_is.closed plan r.plan (subst (λ t. IsPlanOf t plan) (one_split text other schedule r.record_is.closed read.0 parts read.1).0 plan_is) closed_plan

    same_lines : lines ≡ map step_of r.journal
    same_lines =
        one_reading read.0 lines (map step_of r.journal)
        (subst (λ s. IsSchedule s lines) (one_split text other schedule r.record_is.closed read.0 parts read.1).1 are) read.2

  not_refused : (why : Refusal) → IsReplayRefused text why → ⊥
  not_refused why (other, schedule, parts, fault) =
      let same = (one_split text other schedule r.record_is.closed read.0 parts read.1).0 in
      by_cause why (subst (λ t. IsReplayFault t schedule why) same fault) (subst (λ t. IsSplit text t schedule) same parts)
    where
      by_cause : (why : Refusal) → IsReplayFault r.record_is.closed schedule why → IsSplit text r.record_is.closed schedule → ⊥
      by_cause Length fault parts = fault (closed_short input r.record_is.closed r.record_is.closed_is short)
      by_cause (Syntax f) fault parts = plan_or_fault r.record_is.closed (Syntax f) closed_plan.0 r.plan fault.1 closed_plan.1
      by_cause (Check f) fault parts = plan_or_fault r.record_is.closed (Check f) closed_plan.0 r.plan fault.1 closed_plan.1
      by_cause (Schedule f) (plan, lines, reads_as, first) parts =
          let plans = same_plan r.record_is.closed schedule plan lines parts reads_as.plan_is reads_as.lines_are in
          let all = same_lines r.record_is.closed schedule plan lines parts reads_as.plan_is reads_as.lines_are in
          journal_replays r.plan r.journal r.steps (Err (AtFault (record { line = f.line; kind = f.kind }))) checked r.run
          (subst (λ l. IsFirstFault r.plan l f.line f.kind) all (subst (λ p. IsFirstFault p lines f.line f.kind) plans first))

  module _ (number : ℕ) (report : Text) (is : IsReplayOf text number report) where
    replayed : IsReplayed r.plan (map step_of r.journal) is.done
    replayed =
        let plans = same_plan is.text is.schedule is.by.plan is.by.lines is.split is.by.reads.plan_is is.by.reads.lines_are in
        let all = same_lines is.text is.schedule is.by.plan is.by.lines is.split is.by.reads.plan_is is.by.reads.lines_are in
        subst (λ l. IsReplayed r.plan l is.done) all (subst (λ p. IsReplayed p is.by.lines is.done) plans is.by.replayed)

    dead_are : AreDeadIn (state_after r.steps) is.done.dead
    dead_are = (journal_replays r.plan r.journal r.steps (Ok is.done) checked r.run replayed).0

    dead_alike : (t : ℕ) → IsDeadIn (state_after is.by.replayed.progress.run) t ↔ IsDeadIn (state_after r.steps) t
    unfolding task
    dead_alike t = (
      λ d. (dead_are.exact (task t)).0 ((is.by.replayed.dead.exact (task t)).1 d),
      λ d. (is.by.replayed.dead.exact (task t)).0 ((dead_are.exact (task t)).1 d),
    )

    status_same : number ≡ status
    status_same =
        one_status (state_after is.by.replayed.progress.run) (state_after r.steps) dead_alike number status is.status_is r.status_is

pub records_replay : RecordsReplay
records_replay input status text r short =
    record {
      fits = fits input status text r short;
      accepted = λ line (why, refused, line_is). not_refused input status text r short why refused;
      status_same = λ number report is. status_same input status text r short number report is;
      dead_same = λ number report is t. (dead_are input status text r short number report is).exact t;
    }

-- ---- what the call wrote

known_more : (a b : Option Text) (old bytes text : Text) → a ≡ Some old → b ≡ Some (old ++ bytes) → Appends a b text → bytes ≡ text
known_more None b old bytes text e f p = absurd (cc)
known_more (Some xs) None old bytes text e f p = absurd (cc)
known_more (Some xs) (Some ys) old bytes text e f p =
    let before : xs ≡ old = cc in
    let after : ys ≡ old ++ bytes = cc in
    append_cancel_left old bytes text (sym after ∙ p ∙ ap (λ b. b ++ text) before)

module _ (workers : ℕ) (src out : Passage) (number : ℕ) (small : number ≤ 1) where
  abbrev Wrote : Text → Type 0
  Wrote bytes =
      (input : Text) × HasInput (limit_of (Record workers)) src input
      × ((r : IsRecordOf input number bytes) × IsReplayable bytes number (IsDeadIn (state_after r.steps)))

  wrote_by : (text : Text) → Permits (Some (Record workers)) src number text → Wrote text
  wrote_by text (inl (input, has, inl r)) = (input, has, (r, records_replay input number text r has.2))
  wrote_by text (inl (input, has, inr (three, refused))) = absurd (omega arith)
  wrote_by text (inr (much, three, line)) = absurd (omega arith)

  wrote : (old bytes : Text) → out.before ≡ Some old → out.after ≡ Some (old ++ bytes) → Ends (Some (Record workers)) src out number → Wrote bytes
  wrote old bytes before after (whole text permits took still sound) =
      subst Wrote (sym (known_more out.before out.after old bytes text before after took)) (wrote_by text permits)
  wrote old bytes before after (read_fault four does failed read sound kept) = absurd (omega arith)
  wrote old bytes before after (write_fault five still failed part) = absurd (omega arith)
  wrote old bytes before after (no_memory six still read sound part) = absurd (omega arith)

pub writes_replayable : (words : List Text) (src out : Passage) (number : ℕ) → Serves words src out number → WritesReplayable words src out number
writes_replayable words src out number serves workers old bytes means small before after =
    wrote workers src out number small old bytes before after (serves (Some (Record workers)) means)
