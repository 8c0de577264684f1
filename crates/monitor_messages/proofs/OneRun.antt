-- Lines lead to one run and call for one output.
use Rattle.std.proofs.Common.{◌≡◌, ℕ, ◌+◌, Bool, true, false, ◌||◌, Some, None, Option, List, [], ◌∷◌, ◌++◌, refl, sym, ◌∙◌, ap, subst, inl, inr, ◌⊎◌}
use Rattle.std.specs.Prelude.{◌↔◌, codes, bytes_eq}
use Rattle.std.proofs.lemmas.Bool.{and_from}
use Rattle.std.proofs.lemmas.Slice.Eq.{bytes_eq-Decides}
use Rattle.monitor_laws.specs.Faults.{LineFault, first_fault}
use Rattle.monitor_laws.specs.Guards.{IsRefusedWait, IsTakenAs}
use Rattle.monitor_laws.specs.Lines.{TraceLine}
use Rattle.monitor_laws.specs.States.{Participant, TraceState, after_line, after_lines, is_live_task, is_live_wildcard, is_there_as}
use Rattle.monitor_laws.specs.Stuck.{IsStuck}
use Rattle.monitor_laws.proofs.Lawful.{lawful_lines}
use Rattle.trace_lines.proofs.Again.{one_line}
use Rattle.monitor_words.specs.Messages.{IsAnswerOf, IsMessage, IsRefusal, IsWaitLine}
use Rattle.monitor_words.specs.Reasons.{IsStuckBecause}
use Rattle.monitor_words.specs.Sentences.{sentence_words}
use Rattle.monitor_words.specs.Words.{message_line}
use Rattle.monitor_words.proofs.OneMessage.{has_one_message, has_one_reason, one_test}
use Rattle.monitor_messages.specs.Laws.{HasOneRun}
use Rattle.monitor_messages.specs.Runs.{IsHeard, IsMessageOf, IsMonitorRunOf, IsNextRun, IsTakenLine, MonitorOptions, MonitorRun, SaysLine, TellsSomebody}
use Rattle.monitor_messages.proofs.Guarded.{speaker}
use Rattle.monitor_messages.proofs.WaitsNewly.{same_tests}

-- bytes say one line, or none
pub one_said : (bytes : List ℕ) (said too : Option TraceLine) → SaysLine bytes said → SaysLine bytes too → said ≡ too
one_said bytes None None one other = refl
one_said bytes None (Some m) one other = absurd (one m other)
one_said bytes (Some l) None one other = absurd (other l one)
one_said bytes (Some l) (Some m) one other = ap Some (one_line bytes l m one other)

-- a refused wait is of one task
one_refused : (h : List TraceLine) (l : TraceLine) (one other : IsRefusedWait (after_lines h) l) → one.task ≡ other.task
one_refused h l one other =
    let name : one.task.name ≡ other.task.name = ap speaker (sym one.is ∙ other.is) in
    (lawful_lines (l ∷ h)).one_name one.task.name one.task other.task one.stuck.listed other.stuck.listed
    (there one.task.name one.task one.stuck refl) (there one.task.name other.task other.stuck name)
  where
    there : (t : List ℕ) (u : Participant) → IsStuck (after_lines (l ∷ h)) u → t ≡ u.name → is_there_as t u ≡ true
    there t u stuck is =
        and_from (is_live_task u.condition || is_live_wildcard u.condition) (bytes_eq t u.name)
        (ap (λ c. is_live_task c || is_live_wildcard c) stuck.waits.2) ((bytes_eq-Decides t u.name).1 is)

-- of a line stands one
one_taken : (s : TraceState) (l d e : TraceLine) → IsTakenAs s l d → IsTakenAs s l e → d ≡ e
one_taken s l d e (inl (one, is)) (inl (other, too)) = let a = sym one.is ∙ other.is in cc
one_taken s l d e (inl (one, is)) (inr (passes, too)) = absurd (passes one)
one_taken s l d e (inr (passes, is)) (inl (other, too)) = absurd (passes other)
one_taken s l d e (inr (passes, is)) (inr (also, too)) = is ∙ sym too

-- a refusal has one text
one_refusal : (h : List TraceLine) (l : TraceLine) (a b : List ℕ) → IsRefusal (after_lines h) l a → IsRefusal (after_lines h) l b → a ≡ b
one_refusal h l a b one other =
    let task : one.refused.task ≡ other.refused.task = one_refused h l one.refused other.refused in
    let stuck : one.stuck ≡ other.stuck = one_test (after_lines (l ∷ h)) one.stuck other.stuck one.would_be other.would_be in
    let here : IsStuckBecause (after_lines (l ∷ h)) one.stuck one.refused.task other.because =
    subst (λ x. IsStuckBecause (after_lines (l ∷ h)) one.stuck x other.because) (sym task)
    (subst (λ x. IsStuckBecause (after_lines (l ∷ h)) x other.refused.task other.because) (sym stuck) other.reason) in
    let because : one.because ≡ other.because = has_one_reason (l ∷ h) one.stuck one.refused.task one.because other.because one.reason here in
    one.is
    ∙ ap (λ x. message_line (codes "refuse " ++ one.refused.task.name ++ codes ": " ++ sentence_words (codes " would wait for ") one.refused.task x)) because
    ∙ ap (λ (x : Participant). message_line (codes "refuse " ++ x.name ++ codes ": " ++ sentence_words (codes " would wait for ") x other.because)) task
    ∙ sym other.is

-- a refused wait is one
refused_waits : (s : TraceState) (l : TraceLine) (r : IsRefusedWait s l) → IsWaitLine l r.task.name
refused_waits s l r = (r.p, r.n, r.place, r.is)

-- a line has one answer
one_answer : (h : List TraceLine) (l : TraceLine) (a b : List ℕ) → IsAnswerOf (after_lines h) l a → IsAnswerOf (after_lines h) l b → a ≡ b
one_answer h l a b (inl one) (inl other) = one_refusal h l a b one other
one_answer h l a b (inl one) (inr (inl other)) = absurd (other.2 one.refused)
one_answer h l a b (inl one) (inr (inr other)) = absurd (other.0 one.refused.task.name (refused_waits (after_lines h) l one.refused))
one_answer h l a b (inr (inl one)) (inl other) = absurd (one.2 other.refused)
one_answer h l a b (inr (inl one)) (inr (inl other)) =
    one.3 ∙ ap (λ x. message_line (codes "wait " ++ x)) (ap speaker (sym one.1.3 ∙ other.1.3)) ∙ sym other.3
one_answer h l a b (inr (inl one)) (inr (inr other)) = absurd (other.0 one.0 one.1)
one_answer h l a b (inr (inr one)) (inl other) = absurd (one.0 other.refused.task.name (refused_waits (after_lines h) l other.refused))
one_answer h l a b (inr (inr one)) (inr (inl other)) = absurd (one.0 other.0 other.1)
one_answer h l a b (inr (inr one)) (inr (inr other)) = one.1 ∙ sym other.1

-- a line has one message, and of it stands one
one_message_of : (guards : Bool) (h : List TraceLine) (l d e : TraceLine) (a b : List ℕ) → IsMessageOf guards (after_lines h) l d a → IsMessageOf guards (after_lines h) l e b → (d ≡ e) × (a ≡ b)
one_message_of false h l d e a b one other = (one.0 ∙ sym other.0, has_one_message h l a b one.1 other.1)
one_message_of true h l d e a b (one, is) (other, too) =
    let taken : one.taken ≡ other.taken = one_taken (after_lines h) l one.taken other.taken one.stands other.stands in
    let told : one.told ≡ other.told =
    has_one_message h one.taken one.told other.told one.tells (subst (λ x. IsMessage (after_lines h) x other.told) (sym taken) other.tells) in
    let answer : one.answer ≡ other.answer = one_answer h l one.answer other.answer one.answers other.answers in
    (sym is ∙ taken ∙ too, one.is ∙ ap (λ x. x ++ one.answer) told ∙ ap (λ x. other.told ++ x) answer ∙ sym other.is)

-- a legal line leads to one run
one_taken_line : (was : MonitorRun) (h : List TraceLine) → was.state ≡ after_lines h → (l : TraceLine) (one other : MonitorRun) (first second : List ℕ) → IsTakenLine was l one first → IsTakenLine was l other second → (one ≡ other) × (first ≡ second)
one_taken_line was h at l one other first second a b =
    let both = one_message_of was.options.guards h l a.taken b.taken first second
    (subst (λ s. IsMessageOf was.options.guards s l a.taken first) at a.says) (subst (λ s. IsMessageOf was.options.guards s l b.taken second) at b.says) in
    let state : one.state ≡ other.state = a.state ∙ ap (after_line was.state) both.0 ∙ sym b.state in
    let b_told = subst (λ x. (other.told ≡ true) ↔ ((was.told ≡ true) ⊎ TellsSomebody was.options.guards was.state l x)) (sym both.0) b.told in
    let told : one.told ≡ other.told = same_tests one.told other.told (λ e. b_told.1 (a.told.0 e)) (λ e. a.told.1 (b_told.0 e)) in (
      a.others
          ∙ ap (λ x. record was { state = x; lines = was.lines + 1; told = one.told }) state
          ∙ ap (λ x. record was { state = other.state; lines = was.lines + 1; told = x }) told
          ∙ sym b.others,
      both.1,
    )

one_heard : (was : MonitorRun) (h : List TraceLine) → was.state ≡ after_lines h → (said : Option TraceLine) (fault : Option LineFault) (one other : MonitorRun) (first second : List ℕ) → IsHeard was said fault one first → IsHeard was said fault other second → (one ≡ other) × (first ≡ second)
one_heard was h at said (Some fault) one other first second a b = (a.0 ∙ sym b.0, a.1 ∙ sym b.1)
one_heard was h at (Some l) None one other first second a b = one_taken_line was h at l one other first second a b
one_heard was h at None None one other first second a b = absurd a

one_next : (was : MonitorRun) (h : List TraceLine) → was.state ≡ after_lines h → (bytes : List ℕ) (one other : MonitorRun) (first second : List ℕ) → IsNextRun was bytes one first → IsNextRun was bytes other second → (one ≡ other) × (first ≡ second)
one_next was h at bytes one other first second (inl a) (inl b) = (a.1 ∙ sym b.1, a.2 ∙ sym b.2)
one_next was h at bytes one other first second (inl a) (inr b) = absurd (let e = sym a.0 ∙ b.0 in cc)
one_next was h at bytes one other first second (inr a) (inl b) = absurd (let e = sym b.0 ∙ a.0 in cc)
one_next was h at bytes one other first second (inr (on, said, says, heard)) (inr (too, again, tells, listens)) =
    let same : said ≡ again = one_said bytes said again says tells in
    one_heard was h at said (first_fault was.state said) one other first second heard
    (subst (λ x. IsHeard was x (first_fault was.state x) other second) (sym same) listens)

-- the state of a run is one to which lines lead
heard_leads : (was : MonitorRun) (h : List TraceLine) → was.state ≡ after_lines h → (said : Option TraceLine) (fault : Option LineFault) (run : MonitorRun) (message : List ℕ) → IsHeard was said fault run message → (g : List TraceLine) × (run.state ≡ after_lines g)
heard_leads was h at said (Some fault) run message heard = (h, ap (λ (x : MonitorRun). x.state) heard.0 ∙ at)
heard_leads was h at (Some l) None run message heard = (heard.taken ∷ h, heard.state ∙ ap (λ s. after_line s heard.taken) at)
heard_leads was h at None None run message heard = absurd heard

has_lines : (options : MonitorOptions) (lines : List (List ℕ)) (run : MonitorRun) (output : List ℕ) → IsMonitorRunOf options lines run output → (h : List TraceLine) × (run.state ≡ after_lines h)
has_lines options [] run output (begun, none) = ([], ap (λ (x : MonitorRun). x.state) begun)
has_lines options (bytes ∷ before) run output (was, earlier, message, leads, next, is) = by_next (has_lines options before was earlier leads) next
  where
    by_next : (h : List TraceLine) × (was.state ≡ after_lines h) → IsNextRun was bytes run message → (g : List TraceLine) × (run.state ≡ after_lines g)
    by_next (h, at) (inl stopped) = (h, ap (λ (x : MonitorRun). x.state) stopped.1 ∙ at)
    by_next (h, at) (inr (on, said, says, heard)) = heard_leads was h at said (first_fault was.state said) run message heard

pub has_one_run : HasOneRun
has_one_run options [] one other first second a b = (a.0 ∙ sym b.0, a.1 ∙ sym b.1)
has_one_run options (bytes ∷ before) one other first second (was, earlier, message, leads, next, is) (too, former, words, also, then_next, are) =
    let same = has_one_run options before was too earlier former leads also in
    let at = has_lines options before was earlier leads in
    let both = one_next was at.0 at.1 bytes one other message words next (subst (λ x. IsNextRun x bytes other words) (sym same.0) then_next) in
    (both.0, is ∙ ap (λ x. x ++ message) same.1 ∙ ap (λ x. former ++ x) both.1 ∙ sym are)
