-- An input of `replay` has one answer.
use Rattle.std.proofs.Common.{◌≡◌, ◌∙◌, ◌++◌, ℕ, List, [], ◌∷◌, ap, sym, subst, refl}
use Rattle.std.specs.Prelude.{length}
use Rattle.armus_base.specs.declared.ids.TaskId.{TaskId}
use Rattle.armus_base.specs.DeadLists.{IsDeadList}
use Rattle.armus_base.specs.Plans.{Plan}
use Rattle.armus_base.specs.Runs.{state_after}
use Rattle.armus_base.specs.States.{State}
use Rattle.armus_base.proofs.Lists.{ends_some, same_ends}
use Rattle.dep_state.proofs.SameDeadLists.{same_ascending}
use Rattle.schedule.specs.declared.lines.Line.{Line}
use Rattle.schedule.specs.declared.verdict.PassVerdict.{PassVerdict}
use Rattle.schedule.specs.declared.verdict.Replayed.{Replayed}
use Rattle.schedule.specs.Passes.{PassLoads, statuses_found}
use Rattle.schedule.specs.Replaying.{AreDeadIn, AreVerdicts, IsReplayed, no_pass, one_pass}
use Rattle.schedule.specs.Replays.{LinesLead, Progress}
use Rattle.schedule.specs.Texts.{text_of}
use Rattle.schedule.proofs.OneReplay.{one_progress}
use Rattle.schedule.proofs.OneSchedule.{one_reading, one_split}
use Rattle.program_io.specs.Texts.{Text}
use Rattle.armus_top.specs.DeadStatus.{TellsDead}
use Rattle.armus_top.specs.Replays.{IsReplayOf, IsReplayedBy}
use Rattle.program_io.proofs.OnePlan.{one_plan}
use Rattle.armus_top.proofs.OneRefusal.{one_status}

-- ---- verdicts

one_dead_list : (ss : _) (xs ys : List TaskId) → IsDeadList ss xs → IsDeadList ss ys → xs ≡ ys
one_dead_list ss xs ys a b =
    same_ascending xs ys a.ascends b.ascends (λ t. (λ c. (b.exact t).1 ((a.exact t).0 c), λ c. (a.exact t).1 ((b.exact t).0 c)))

pub one_dead_in : (s : State) (xs ys : List TaskId) → AreDeadIn s xs → AreDeadIn s ys → xs ≡ ys
one_dead_in s xs ys a b =
    same_ascending xs ys a.ascends b.ascends (λ t. (λ c. (b.exact t).1 ((a.exact t).0 c), λ c. (a.exact t).1 ((b.exact t).0 c)))

one_verdict : (plan : Plan) (loads : PassLoads) (v w : PassVerdict) → IsDeadList (statuses_found plan loads) v.dead → IsDeadList (statuses_found plan loads) w.dead → v ≡ w
one_verdict plan loads v w a b = (let same : v.dead ≡ w.dead = one_dead_list (statuses_found plan loads) v.dead w.dead a b in λ i. record { dead = same i })

-- the verdicts before the last pass, and its own
record VerdictsBefore (plan : Plan) (passes : List PassLoads) (loads : PassLoads) (verdicts : List PassVerdict) : Type 0 where
  before : List PassVerdict
  last : PassVerdict
  all : verdicts ≡ before ++ last ∷ []
  are : AreVerdicts plan passes before
  dead : IsDeadList (statuses_found plan loads) last.dead

before_last : (plan : Plan) (all passes : List PassLoads) (loads : PassLoads) (verdicts : List PassVerdict) → all ≡ passes ++ loads ∷ [] → AreVerdicts plan all verdicts
    → VerdictsBefore plan passes loads verdicts
before_last plan _ passes loads _ e no_pass = absurd (ends_some passes loads e)
before_last plan _ passes loads _ e (one_pass front vs last v are dead) =
    let parts = same_ends front passes last loads e in
    record {
      before = vs;
      last = v;
      all = refl;
      are = subst (λ l. AreVerdicts plan l vs) parts.0 are;
      dead = subst (λ l. IsDeadList (statuses_found plan l) v.dead) parts.1 dead;
    }

from_none : (plan : Plan) (all : List PassLoads) (verdicts : List PassVerdict) → all ≡ [] → AreVerdicts plan all verdicts → [] ≡ verdicts
from_none plan _ _ e no_pass = refl
from_none plan _ _ e (one_pass front vs last v are dead) = absurd (ends_some front last (sym e))

pub one_verdicts : (plan : Plan) (passes : List PassLoads) (a b : List PassVerdict) → AreVerdicts plan passes a → AreVerdicts plan passes b → a ≡ b
one_verdicts plan passes a b p q = go passes a b p q
  where
    go : (passes : List PassLoads) (a b : List PassVerdict) → AreVerdicts plan passes a → AreVerdicts plan passes b → a ≡ b
    go _ _ b no_pass q = from_none plan [] b refl q
    go _ _ b (one_pass front vs loads v are dead) q =
        let last = before_last plan (front ++ loads ∷ []) front loads b refl q in
        let befores : vs ≡ last.before = go front vs last.before are last.are in
        ap (λ l. l ++ v ∷ []) befores ∙ ap (λ x. last.before ++ x ∷ []) (one_verdict plan loads v last.last dead last.dead) ∙ sym last.all

-- ---- what is replayed

pub one_replayed : (plan : Plan) (lines : List Line) (x y : Replayed) → IsReplayed plan lines x → IsReplayed plan lines y → x ≡ y
one_replayed plan lines x y a b =
    let runs : b.progress ≡ a.progress = one_progress plan lines b.progress a.progress b.leads a.leads in
    let verdicts : x.verdicts ≡ y.verdicts =
    one_verdicts plan a.progress.passes x.verdicts y.verdicts a.verdicts (subst (λ (p : Progress). AreVerdicts plan p.passes y.verdicts) runs b.verdicts) in
    let steps : x.steps ≡ y.steps = a.steps ∙ ap (λ (p : Progress). length p.run) (sym runs) ∙ sym b.steps in
    let dead : x.dead ≡ y.dead =
    one_dead_in (state_after a.progress.run) x.dead y.dead a.dead (subst (λ (p : Progress). AreDeadIn (state_after p.run) y.dead) runs b.dead) in
    λ i. record { verdicts = verdicts i; steps = steps i; dead = dead i }

-- the same text and schedule
one_by : (text schedule : Text) (x y : Replayed) (m n : ℕ) (a : IsReplayedBy text schedule x) (b : IsReplayedBy text schedule y)
    → TellsDead (state_after a.replayed.progress.run) m → TellsDead (state_after b.replayed.progress.run) n → (m ≡ n) × (x ≡ y)
one_by text schedule x y m n a b tells tells_too =
    let plans : b.plan ≡ a.plan = one_plan text b.plan a.plan b.reads.plan_is a.reads.plan_is in
    let lines : b.lines ≡ a.lines = one_reading schedule b.lines a.lines b.reads.lines_are a.reads.lines_are in
    let leads : LinesLead a.plan a.lines b.replayed.progress =
    subst (λ l. LinesLead a.plan l b.replayed.progress) lines (subst (λ p. LinesLead p b.lines b.replayed.progress) plans b.replayed.leads) in
    let runs : b.replayed.progress ≡ a.replayed.progress = one_progress a.plan a.lines b.replayed.progress a.replayed.progress leads a.replayed.leads in
    let too : IsReplayed a.plan a.lines y = subst (λ l. IsReplayed a.plan l y) lines (subst (λ p. IsReplayed p b.lines y) plans b.replayed) in (
      one_status (state_after a.replayed.progress.run) m n tells (subst (λ (p : Progress). TellsDead (state_after p.run) n) runs tells_too),
      one_replayed a.plan a.lines x y a.replayed too,
    )

-- a text and a schedule are replayed so, with this status
abbrev Tells : Text → Text → Replayed → ℕ → Type 0
Tells text schedule done status = (by : IsReplayedBy text schedule done) × TellsDead (state_after by.replayed.progress.run) status

pub one_replay : (input : Text) (a b : ℕ) (p q : Text) → IsReplayOf input a p → IsReplayOf input b q → (a ≡ b) × (p ≡ q)
one_replay input a b p q r s =
    let same = one_split input s.text s.schedule r.text r.schedule s.split r.split in
    let there : Tells r.text s.schedule s.done b = subst (λ t. Tells t s.schedule s.done b) same.0 (s.by, s.status_is) in
    let too : Tells r.text r.schedule s.done b = subst (λ c. Tells r.text c s.done b) same.1 there in
    let both = one_by r.text r.schedule r.done s.done a b r.by too.0 r.status_is too.1 in
    (both.0, r.report_is ∙ ap text_of both.1 ∙ sym s.report_is)
