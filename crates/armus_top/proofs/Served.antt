-- From what a part of a call answers to what the command answers and the call leaves.
use Rattle.std.proofs.Common.{◌≡◌, ◌≢◌, ℕ, Bool, true, false, List, arith, inl, inr, refl, subst, sym}
use Rattle.std.specs.Prelude.{Err, IfErr, IfOk, None, Ok, Option, Result, Some, is_some}
use Rattle.armus_base.specs.Plans.{Plan}
use Rattle.adaptive.specs.declared.analysis.Wanted.{Wanted}
use Rattle.command_line.specs.declared.command.Command.{Command}
use Rattle.command_line.specs.declared.command.Command.TheVariants.{Clock, Run}
use Rattle.command_line.specs.declared.command.Graph.{Graph}
use Rattle.command_line.specs.declared.command.RunKind.{RunKind}
use Rattle.command_line.specs.declared.command.RunKind.TheVariants.{Live, Plain, Sites}
use Rattle.command_line.specs.Commands.{IsCommand, Means}
use Rattle.program_io.specs.Texts.{Text}
use Rattle.armus_top.specs.declared.output.InputEnd.{InputEnd}
use Rattle.armus_top.specs.declared.output.Output.{Output}
use Rattle.program_io.specs.declared.exit_status.ExitStatus.{ExitStatus}
use Rattle.armus_top.specs.Clocks.{IsClockPlanOf}
use Rattle.armus_top.specs.Commands.{IsAnswered, limit_of, wanted_of, writes_live}
use Rattle.program_io.specs.Passages.{HasInput, IsSound, Passage}
use Rattle.armus_top.specs.Headline.{Answers, Ends, IsCall}
use Rattle.armus_top.specs.calls.Inputs.{FitsLimit}
use Rattle.program_io.specs.Programs.{IsPlanOf}
use Rattle.armus_top.specs.Runs.{IsLiveRunOf, IsRunOf}
use Rattle.armus_top.specs.Texts.{usage_line}
use Rattle.armus_top.specs.inside.Answers.{AnswersBy, IsEndOf}
use Rattle.armus_top.specs.inside.Reading.{EndsUnread, IsReadFor}
use Rattle.program_io.specs.calls.ExitNumbers.{number_of_status}
use Rattle.program_io.specs.calls.Writing.{Finished}
use Rattle.armus_top.specs.inside.Writing.{Answered, LeavesOutput}
use Rattle.armus_top.proofs.Answering.{ends_unread}
use Rattle.armus_top.proofs.TextEnds.{clock_run_of}
use Rattle.armus_top.proofs.Ending.{by_finish}
use Rattle.armus_top.proofs.Meaning.{call_by, form_of}
use Rattle.armus_top.proofs.WaysToEnd.{leaves_one_of_more}

-- ---- answers

-- both clauses of what a command answers
pub answers_by : (c : Command) (input : Text) (r : Result Output InputEnd) → IfOk r (λ o. IsAnswered c input (number_of_status o.status) o.text)
    → IfErr r (IsEndOf c input) → AnswersBy c input r
answers_by c input (Ok o) is refused = is
answers_by c input (Err end) is refused = refused

-- the output of a run without live lines
pub answered_run : (c : Command) (workers : ℕ) (g : Graph) (kind : RunKind) (input : Text) (plan : Plan) (wanted : Wanted) (status : ℕ) (text : Text)
    → c ≡ Run workers g kind → writes_live c ≡ false → IsPlanOf input plan → wanted ≡ wanted_of g → IsRunOf plan wanted status text → IsAnswered c input status text
answered_run c workers g kind input plan wanted status text is quiet plan_is wanted_is run = rw is (by_kind kind (rw is at quiet) (rw wanted_is at run))
  where
    by_kind : (k : RunKind) → writes_live (Run workers g k) ≡ false → IsRunOf plan (wanted_of g) status text → IsAnswered (Run workers g k) input status text
    by_kind Plain off r = (plan, plan_is, r)
    by_kind Live off r = absurd (cc)
    by_kind (Sites sites) off r = (plan, plan_is, r)

pub answered_clock : (c : Command) (workers : ℕ) (g : Graph) (live : Bool) (input : Text) (plan : Plan) (wanted : Wanted) (status : ℕ) (text : Text)
    → c ≡ Clock workers g live → writes_live c ≡ false → IsClockPlanOf input plan → wanted ≡ wanted_of g → IsRunOf plan wanted status text
    → IsAnswered c input status text
answered_clock c workers g live input plan wanted status text is quiet plan_is wanted_is run = rw is (by_kind live (rw is at quiet) (rw wanted_is at run))
  where
    by_kind : (b : Bool) → b ≡ false → IsRunOf plan (wanted_of g) status text → IsAnswered (Clock workers g b) input status text
    by_kind false off r = clock_run_of input plan Plain (wanted_of g) status text plan_is r
    by_kind true off r = absurd (cc)

-- ---- live runs

pub live_run : (c : Command) (workers : ℕ) (g : Graph) (kind : RunKind) (input : Text) (plan : Plan) (wanted : Wanted) (out : Passage) (number : ℕ)
    → c ≡ Run workers g kind → writes_live c ≡ true → IsPlanOf input plan → wanted ≡ wanted_of g → LeavesOutput true (IsLiveRunOf plan wanted) out number
    → Answered c input out number
live_run c workers g kind input plan wanted out number is live plan_is wanted_is left = rw is (by_kind kind (rw is at live) (rw wanted_is at left))
  where
    by_kind : (k : RunKind) → writes_live (Run workers g k) ≡ true → LeavesOutput true (IsLiveRunOf plan (wanted_of g)) out number
        → Answered (Run workers g k) input out number
    by_kind Live on l =
        leaves_one_of_more true (IsLiveRunOf plan (wanted_of g)) (Answers (Run workers g Live) input) out number (λ status text r. inl (plan, plan_is, r)) l
    by_kind k on l = absurd (cc)

pub live_clock : (c : Command) (workers : ℕ) (g : Graph) (live : Bool) (input : Text) (plan : Plan) (wanted : Wanted) (out : Passage) (number : ℕ)
    → c ≡ Clock workers g live → writes_live c ≡ true → IsClockPlanOf input plan → wanted ≡ wanted_of g → LeavesOutput true (IsLiveRunOf plan wanted) out number
    → Answered c input out number
live_clock c workers g live input plan wanted out number is lines plan_is wanted_is left = rw is (by_kind live (rw is at lines) (rw wanted_is at left))
  where
    by_kind : (b : Bool) → b ≡ true → LeavesOutput true (IsLiveRunOf plan (wanted_of g)) out number → Answered (Clock workers g b) input out number
    by_kind false on l = absurd (cc)
    by_kind true on l =
        leaves_one_of_more true (IsLiveRunOf plan (wanted_of g)) (Answers (Clock workers g true) input) out number
        (λ status text r. inl (clock_run_of input plan Live (wanted_of g) status text plan_is r)) l

-- ---- the call

-- a command that has no input, unless it has one
pub ends_read : {A : Type 0} (c : Command) (limit : ℕ) (src out : Passage) (r : Result A ExitStatus) → limit_of c ≡ Some limit
    → IfErr r (λ status. EndsUnread limit src out (number_of_status status)) → IfErr r (λ status. Ends (Some c) src out (number_of_status status))
ends_read c limit src out (Ok x) is ends = tt
ends_read c limit src out (Err status) is ends = ends_unread c limit src out (number_of_status status) is ends

none_of : (o : Option ℕ) → is_some o ≡ false → o ≡ None
none_of None off = refl
none_of (Some n) off = absurd (cc)

-- the input that was read is no longer than the command takes
pub fits_read : (c : Command) (src : Passage) (input shown : Text) → shown ≡ input → IsReadFor c src input → FitsLimit (limit_of c) shown
fits_read c src input shown same read = subst (λ t. FitsLimit (limit_of c) t) (sym same) (by_limit (limit_of c) read.0)
  where
    by_limit : (o : Option ℕ) → HasInput o src input → FitsLimit o input
    by_limit (Some limit) has = has.2
    by_limit None has = has

-- a command was served on its input
pub call_served : (words : List Text) (c : Command) (src out : Passage) (same_source same_sink : Type 0) (number : ℕ) → IsCommand words c
    → Ends (Some c) src out number → (limit_of c ≡ None → same_source) → (number ≡ 4 → same_sink) → (writes_live c ≡ false → number ≡ 6 → same_sink)
    → IsCall words src out same_source same_sink number
call_served words c src out same_source same_sink number means ends same silent unwritten =
    call_by words src out same_source same_sink number (Some c) means ends (λ off. same (none_of (limit_of c) off)) silent unwritten
    (λ six. form_of words c means)

-- words that mean no command had the usage line written
pub call_of_usage : (words : List Text) (src out : Passage) (same_source same_sink : Type 0) (number : ℕ) → Means words None → same_source → IsSound src
    → Finished out usage_line 2 number → IsCall words src out same_source same_sink number
call_of_usage words src out same_source same_sink number means same still done =
    call_by words src out same_source same_sink number None means (by_finish None src out usage_line 2 number done (refl, refl) still) (λ off. same)
    (λ four. absurd (not_four done four)) (λ off six. absurd (not_six done six)) (λ six. absurd (not_six done six))
  where
    not_four : Finished out usage_line 2 number → number ≢ 4
    not_four (inl (two, took, sound)) four = omega arith
    not_four (inr (five, failed, front)) four = omega arith

    not_six : Finished out usage_line 2 number → number ≢ 6
    not_six (inl (two, took, sound)) six = omega arith
    not_six (inr (five, failed, front)) six = omega arith
