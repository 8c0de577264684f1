-- From the live lines of a run, and the report behind them, to what the command leaves.
use Rattle.std.proofs.Common.{◌≡◌, ◌∙◌, ◌++◌, [], ℕ, List, inr, refl, sym, subst, ap, arith, append-nil, append_assoc, Bool, true, if◌then◌else◌}
use Rattle.std.specs.Prelude.{◌↔◌, IsTrue, Option, Some, None, Ok, Err}
use Rattle.std.specs.Io.KnownBytes.{Appends, Keeps}
use Rattle.std.proofs.KnownBytes.{Keeps-refl}
use Rattle.std.proofs.lemmas.Grind.{flat_map-append}
use Rattle.armus_base.specs.declared.ending.Final.{Final}
use Rattle.armus_base.specs.declared.status.Dead.{Dead}
use Rattle.armus_base.specs.CheckedPlans.{IsCheckedPlan}
use Rattle.armus_base.specs.Finals.{final_of}
use Rattle.armus_base.specs.Plans.{Plan}
use Rattle.armus_base.specs.ReadAll.{TookFront}
use Rattle.armus_base.proofs.Fronts.{front_after, front_of_more}
use Rattle.report.specs.Live.{live_line, live_text}
use Rattle.report.specs.NamedDead.{AreSomeDead, AreTheDead}
use Rattle.report.specs.Reports.{IsReport, IsSomeDead}
use Rattle.report.proofs.DeadExtend.{some_dead_extend}
use Rattle.task_runner.specs.calls.DetectRuns.{AreDeadAtTheEnd, HasWritten, TellsRun, SinkValue}
use Rattle.world_runs.specs.calls.PlainRuns.{IsPlainEnd}
use Rattle.task_runner.specs.declared.ran.Ran.{Ran}
use Rattle.task_runner.specs.declared.ran.RunEnd.TheVariants as ends
use Rattle.adaptive.specs.declared.analysis.Wanted.{Wanted}
use Rattle.armus_top.specs.declared.output.Output.{Output}
use Rattle.program_io.specs.Passages.{Passage}
use Rattle.armus_top.specs.Runs.{IsLiveRunOf, IsRunOf}
use Rattle.program_io.specs.Texts.{Text}
use Rattle.armus_top.specs.inside.Answers.{ReportsEnd}
use Rattle.program_io.specs.calls.ExitNumbers.{number_of_status}
use Rattle.program_io.specs.calls.Writing.{Finished}
use Rattle.armus_top.specs.inside.Writing.{LeavesOutput, part, wrote}
use Rattle.armus_top.proofs.Ending.{by_pieces}
use Rattle.armus_top.proofs.RunsMet.{run_met}
use Rattle.armus_top.proofs.Reporting.{run_of}

-- a sink between two moments
abbrev pub between : SinkValue → SinkValue → Passage
between before now = record { before = before.taken; after = now.taken; faults_before = before.faults; faults_after = now.faults }

no_bytes : (a b : Option Text) → Keeps a b → Appends a b []
no_bytes None b kept = tt
no_bytes (Some xs) None kept = absurd kept
no_bytes (Some xs) (Some ys) kept = kept ∙ sym (append-nil xs)

no_front : (a b : Option Text) (text : Text) → Keeps a b → TookFront a b text
no_front a b text kept = (0, omega arith, no_bytes a b kept)

one_plain_end : (plan : Plan) (a b : Final) → IsPlainEnd plan a → IsPlainEnd plan b → a ≡ b
one_plain_end plan a b p q =
    let same : p.state ≡ q.state = sym p.final.there ∙ q.every p.final.steps p.final.run p.final.maximal in
    p.is_it ∙ ap (final_of plan) same ∙ sym q.is_it

module _ (plan : Plan) (checked : IsCheckedPlan plan) (wanted : Wanted) where
  end_of_run : (status : ℕ) (report : Text) (r : IsRunOf plan wanted status report) → IsPlainEnd plan (final_of plan r.state)
  end_of_run status report r = record { state = r.state; final = r.final; every = r.every; is_it = refl }

  -- lines of some dead tasks begin some whole output
  begun : (named : List Dead) → AreDeadAtTheEnd plan named
      → (status : ℕ) × (text : Text) × IsLiveRunOf plan wanted status text × ((rest : Text) × (text ≡ live_text named ++ rest))
  begun named dead =
      let (status, report, r) = run_met plan checked wanted in
      let end = final_of plan r.state in
      let (more, all) = some_dead_extend end.blocked named (dead end (end_of_run status report r)) in (
        status,
        live_text (named ++ more) ++ report,
        record { report = report; run = r; named = named ++ more; named_are = all; output_is = refl },
        (live_text more ++ report, ap (λ t. t ++ report) (flat_map-append live_line named more) ∙ append_assoc (live_text named) (live_text more) report),
      )

  module _ (before now after : SinkValue) (number : ℕ) where
    -- memory was wanting after the lines of some dead tasks
    wanting : (named : List Dead) → AreDeadAtTheEnd plan named → number ≡ 6 → HasWritten named before now → Keeps now.taken after.taken → after.faults ≡ now.faults
        → LeavesOutput true (IsLiveRunOf plan wanted) (between before after) number
    wanting named dead six written kept still =
        let (status, text, live, (rest, is)) = begun named dead in
        part refl status text live six (still ∙ written.sound)
        (subst (TookFront before.taken after.taken) (sym is)
        (front_after before.taken now.taken after.taken (live_text named) rest written.lines (no_front now.taken after.taken rest kept)))

  plain_report : (end : Final) (dead : Bool) (report : Text) → IsPlainEnd plan end → (IsTrue dead ↔ IsSomeDead end.blocked) → IsReport end wanted report
      → IsRunOf plan wanted (if dead then 1 else 0) report
  plain_report end dead report is same reports = run_of plan wanted end dead report checked is same reports

  -- the report stands behind the lines of all dead tasks
  behind_lines : (end : Final) (dead : Bool) (report : Text) (named : List Dead) → IsPlainEnd plan end → AreTheDead end.blocked named
      → (IsTrue dead ↔ IsSomeDead end.blocked) → IsReport end wanted report → IsLiveRunOf plan wanted (if dead then 1 else 0) (live_text named ++ report)
  behind_lines end dead report named is are same reports =
      let r = plain_report end dead report is same reports in
      let ends : end ≡ final_of plan r.state = one_plain_end plan end (final_of plan r.state) is (end_of_run _ report r) in
      record { report = report; run = r; named = named; named_are = subst (λ e. AreTheDead e.blocked named) ends are; output_is = refl }

  some_of_all : (end : Final) (named : List Dead) → IsPlainEnd plan end → AreTheDead end.blocked named → AreDeadAtTheEnd plan named
  some_of_all end named is are other ends = subst (λ e. AreSomeDead e.blocked named) (one_plain_end plan end other is ends) are.some

  module _ (before now after : SinkValue) (number : ℕ) (end : Final) (is : IsPlainEnd plan end) where
    reported_behind : (named : List Dead) → AreTheDead end.blocked named → HasWritten named before now → (o : Output) → ReportsEnd end wanted o
        → Finished (between now after) o.text (number_of_status o.status) number → LeavesOutput true (IsLiveRunOf plan wanted) (between before after) number
    reported_behind named are written o (dead, status, same, reports) done =
        wrote (number_of_status o.status) (live_text named ++ o.text)
        (subst (λ n. IsLiveRunOf plan wanted n (live_text named ++ o.text)) (sym status) (behind_lines end dead o.text named is are same reports))
        (by_pieces (between before after) (between now after) (live_text named) o.text (number_of_status o.status) number written.sound refl refl written.lines done)

  -- the run came to its end, and its report was written
  pub reported : (before now after : SinkValue) (number : ℕ) (ran : Ran) (o : Output) → IsPlainEnd plan ran.end → TellsRun plan before now (Ok ran)
      → ReportsEnd ran.end wanted o → Finished (between now after) o.text (number_of_status o.status) number
      → LeavesOutput true (IsLiveRunOf plan wanted) (between before after) number
  reported before now after number ran o is (named, are, lines) reports done = reported_behind before now after number ran.end is named are lines o reports done

  -- the run came to its end, and memory was wanting for its report
  pub unreported : (before now : SinkValue) (ran : Ran) → IsPlainEnd plan ran.end → TellsRun plan before now (Ok ran)
      → LeavesOutput true (IsLiveRunOf plan wanted) (between before now) 6
  unreported before now ran is (named, are, lines) =
      wanting before now now 6 named (some_of_all ran.end named is are) refl lines (Keeps-refl now.taken) refl

  -- the sink failed within the live lines
  pub unwritten : (before now : SinkValue) → TellsRun plan before now (Err ends.Write) → LeavesOutput true (IsLiveRunOf plan wanted) (between before now) 5
  unwritten before now (named, dead, part_of) =
      let (status, text, live, (rest, is)) = begun named dead in
      wrote status text live (inr (
        refl,
        part_of.failed,
        subst (TookFront before.taken now.taken) (sym is)
            (front_of_more before.taken now.taken (live_text named) rest part_of.front),
      ))

  -- memory was wanting before the end of the run
  pub wanted_memory : (before now : SinkValue) → TellsRun plan before now (Err ends.NoMemory) → LeavesOutput true (IsLiveRunOf plan wanted) (between before now) 6
  wanted_memory before now (named, dead, written) = wanting before now now 6 named dead refl written (Keeps-refl now.taken) refl
