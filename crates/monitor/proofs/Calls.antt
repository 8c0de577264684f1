-- A call, read by read.
use Rattle.std.proofs.Common.{◌≡◌, ℕ, ◌<◌, true, false, List, [], ◌∷◌, ◌++◌, drop, length, refl, sym, ◌∙◌, ap, subst, inl, inr, arith, append-nil, append_assoc}
use Rattle.armus_base.proofs.Elements.{nothing_in_nil}
use Rattle.monitor_messages.specs.Runs.{MonitorOptions, MonitorRun, run_begun}
use Rattle.monitor.specs.HeardLines.{HasHeard, HasHeardAll}
use Rattle.monitor.specs.MonitorCalls.{CallsFor, EndsMonitored, IsEndOutput, IsPrompt, at_end, at_fault, memory_wanting, read_failed, write_failed}
use Rattle.monitor.specs.Transfers.{AreWrites, HasReadNoEnd, Transfer, WereRead, WereWritten, bytes_read, bytes_written}
use Rattle.monitor.specs.inside.Ending.{EndsTrace, EndsWithLine, EndsWithWords, HasListened}
use Rattle.monitor.specs.declared.hearing.HearFault.{HearFault}
use Rattle.monitor.specs.declared.hearing.HearFault.TheVariants.{NoMemory, WriteFailed}
use Rattle.monitor.specs.inside.Listening.{Heard, HearsBytes, IsListening, StopsHearing, number_of_hear_fault}
use Rattle.monitor.proofs.Logs.{read_more, reads_nothing, written_more}

behind_first : {A : Type 0} (x y : A) (xs ys : List A) → x ∷ xs ≡ y ∷ ys → xs ≡ ys
behind_first x y xs ys e = ap (drop 1) e

pub prompt_read : (options : MonitorOptions) (log : List Transfer) (bytes : List ℕ) → IsPrompt options log → HasReadNoEnd log × CallsFor options (bytes_read log) (bytes_written log) → IsPrompt options (WereRead bytes ∷ log)
prompt_read options log bytes prompt calls [] before b e =
    subst (λ l. HasReadNoEnd l × CallsFor options (bytes_read l) (bytes_written l)) (behind_first (WereRead bytes) (WereRead b) log before e) calls
prompt_read options log bytes prompt calls (x ∷ later) before b e = prompt later before b (behind_first (WereRead bytes) x log (later ++ WereRead b ∷ before) e)

pub prompt_writes : (options : MonitorOptions) (writes log : List Transfer) → AreWrites writes → IsPrompt options log → IsPrompt options (writes ++ log)
prompt_writes options [] log are prompt later before b e = prompt later before b e
prompt_writes options (WereRead bytes ∷ writes) log are prompt later before b e = absurd are
prompt_writes options (WereWritten bytes ∷ writes) log are prompt [] before b e = absurd (cc)
prompt_writes options (WereWritten bytes ∷ writes) log are prompt (x ∷ later) before b e =
    prompt_writes options writes log are prompt later before b (behind_first (WereWritten bytes) x (writes ++ log) (later ++ WereRead b ∷ before) e)

-- what was read and written, where a read and writes stand in front
read_then : (writes log : List Transfer) (bytes : List ℕ) → AreWrites writes → bytes_read (writes ++ WereRead bytes ∷ log) ≡ bytes_read log ++ bytes
read_then writes log bytes are = read_more writes (WereRead bytes ∷ log) ∙ ap (λ l. bytes_read log ++ bytes ++ l) (reads_nothing writes are) ∙ append-nil (bytes_read log ++ bytes)

written_then : (writes log : List Transfer) (bytes : List ℕ) → bytes_written (writes ++ WereRead bytes ∷ log) ≡ bytes_written log ++ bytes_written writes
written_then writes log bytes = written_more writes (WereRead bytes ∷ log)

calls_so_far : (options : MonitorOptions) (log : List Transfer) (heard : Heard) → HasListened options log heard → CallsFor options (bytes_read log) (bytes_written log)
calls_so_far options log heard so_far =
    (heard.run, record { lines = so_far.listening.lines; rest = so_far.listening.rest; cut = so_far.listening.cut; leads = so_far.listening.leads }, so_far.goes_on)

-- before the first read
pub begun : (options : MonitorOptions) → HasListened options [] (record { run = run_begun options; line = [] })
begun options = record {
  prompt = λ later before bytes e. absurd (nothing later before bytes e);
  no_end = tt;
  listening = record {
    lines = [];
    rest = [];
    cut = record { are = refl; whole = λ line there. absurd (nothing_in_nil line there); open_end = refl };
    leads = (refl, refl);
    front = refl;
  };
  goes_on = refl;
}
  where
    nothing : (later before : List Transfer) (bytes : List ℕ) → [] ≡ later ++ WereRead bytes ∷ before → ⊥
    nothing [] before bytes e = cc
    nothing (x ∷ later) before bytes e = cc

-- a piece that was heard
pub prompt_piece : (options : MonitorOptions) (log writes : List Transfer) (bytes : List ℕ) (old : Heard) → HasListened options log old → AreWrites writes → IsPrompt options (writes ++ WereRead bytes ∷ log)
prompt_piece options log writes bytes old so_far are =
    prompt_writes options writes (WereRead bytes ∷ log) are (prompt_read options log bytes so_far.prompt (so_far.no_end, calls_so_far options log old so_far))

pub listens_on : (options : MonitorOptions) (log writes : List Transfer) (bytes : List ℕ) (old new : Heard) → HasListened options log old → AreWrites writes → HearsBytes old bytes (bytes_written writes) new → IsListening options (bytes_read (writes ++ WereRead bytes ∷ log)) (bytes_written (writes ++ WereRead bytes ∷ log)) new
listens_on options log writes bytes old new so_far are hears =
    subst (λ read. IsListening options read (bytes_written (writes ++ WereRead bytes ∷ log)) new) (sym (read_then writes log bytes are))
    (subst (λ written. IsListening options (bytes_read log ++ bytes) written new) (sym (written_then writes log bytes))
    (hears options (bytes_read log) (bytes_written log) so_far.listening))

no_end_behind : (writes log : List Transfer) (bytes : List ℕ) → AreWrites writes → 0 < length bytes → HasReadNoEnd log → HasReadNoEnd (writes ++ WereRead bytes ∷ log)
no_end_behind [] log [] are some none = absurd (omega arith)
no_end_behind [] log (b ∷ bytes) are some none = none
no_end_behind (WereRead more ∷ writes) log bytes are some none = absurd are
no_end_behind (WereWritten more ∷ writes) log bytes are some none = no_end_behind writes log bytes are some none

pub goes_on_behind : (options : MonitorOptions) (log writes : List Transfer) (bytes : List ℕ) (old new : Heard) → 0 < length bytes → HasListened options log old → AreWrites writes → HearsBytes old bytes (bytes_written writes) new → new.run.stopped ≡ false → HasListened options (writes ++ WereRead bytes ∷ log) new
goes_on_behind options log writes bytes old new some so_far are hears goes = record {
  prompt = prompt_piece options log writes bytes old so_far are;
  no_end = no_end_behind writes log bytes are some so_far.no_end;
  listening = listens_on options log writes bytes old new so_far are hears;
  goes_on = goes;
}

pub ends_at_fault : (options : MonitorOptions) (log writes : List Transfer) (bytes : List ℕ) (old new : Heard) → HasListened options log old → AreWrites writes → HearsBytes old bytes (bytes_written writes) new → new.run.stopped ≡ true → EndsMonitored options (writes ++ WereRead bytes ∷ log) 3
ends_at_fault options log writes bytes old new so_far are hears stopped =
    let l = listens_on options log writes bytes old new so_far are hears in
    at_fault refl (new.run, stopped, record { lines = l.lines; rest = l.rest; cut = l.cut; leads = l.leads })

-- a piece that was not heard to its end
record HeardPart (options : MonitorOptions) (read output : List ℕ) : Type 0 where
  part : (front : List ℕ) × (behind : List ℕ) × (run : MonitorRun) × (read ≡ front ++ behind) × HasHeard options front run output

part_heard : (options : MonitorOptions) (log writes : List Transfer) (bytes left : List ℕ) (old : Heard) → HasListened options log old → AreWrites writes → StopsHearing old bytes writes left → HeardPart options (bytes_read (writes ++ WereRead bytes ∷ log)) (bytes_written (writes ++ WereRead bytes ∷ log) ++ left)
part_heard options log writes bytes left old so_far are stops =
    let l = stops.hears options (bytes_read log) (bytes_written log) so_far.listening in
    let heard : HasHeard options (bytes_read log ++ stops.front) stops.between.run (bytes_written log ++ (bytes_written writes ++ left)) =
    record { lines = l.lines; rest = l.rest; cut = l.cut; leads = l.leads }
    in
    record {
      part = (
        bytes_read log ++ stops.front,
        stops.behind,
        stops.between.run,
        read_then writes log bytes are ∙ ap (λ b. bytes_read log ++ b) stops.piece_is ∙ sym (append_assoc (bytes_read log) stops.front stops.behind),
        subst (HasHeard options (bytes_read log ++ stops.front) stops.between.run)
            (sym (append_assoc (bytes_written log) (bytes_written writes) left) ∙ ap (λ w. w ++ left) (sym (written_then writes log bytes))) heard,
      );
    }

ends_unwritten : (options : MonitorOptions) (log writes : List Transfer) (bytes left : List ℕ) (old : Heard) → HasListened options log old → AreWrites writes → StopsHearing old bytes writes left → EndsMonitored options (writes ++ WereRead bytes ∷ log) 5
ends_unwritten options log writes bytes left old so_far are stops = write_failed refl left (inl (inl (part_heard options log writes bytes left old so_far are stops).part))

ends_without_memory : (options : MonitorOptions) (log writes : List Transfer) (bytes left : List ℕ) (old : Heard) → HasListened options log old → AreWrites writes → StopsHearing old bytes writes left → left ≡ [] → EndsMonitored options (writes ++ WereRead bytes ∷ log) 6
ends_without_memory options log writes bytes left old so_far are stops none =
    let part = (part_heard options log writes bytes left old so_far are stops).part in
    let all : bytes_written (writes ++ WereRead bytes ∷ log) ++ left ≡ bytes_written (writes ++ WereRead bytes ∷ log) =
    ap (λ l. bytes_written (writes ++ WereRead bytes ∷ log) ++ l) none ∙ append-nil (bytes_written (writes ++ WereRead bytes ∷ log))
    in
    memory_wanting refl (inl (part.0, part.1, part.2, part.3, subst (HasHeard options part.0 part.2) all part.4))

-- a read that failed
pub ends_unread : (options : MonitorOptions) (log : List Transfer) (heard : Heard) → HasListened options log heard → EndsMonitored options log 4
ends_unread options log heard so_far = read_failed refl so_far.no_end (calls_so_far options log heard so_far)

-- so many reads that no number counts them
pub ends_uncounted : (options : MonitorOptions) (log : List Transfer) (heard : Heard) → HasListened options log heard → EndsMonitored options log 6
ends_uncounted options log heard so_far =
    let calls = calls_so_far options log heard so_far in
    memory_wanting refl (inl (bytes_read log, [], calls.0, sym (append-nil (bytes_read log)), calls.1))

-- the end of the trace
whole_read : (log writes : List Transfer) → AreWrites writes → bytes_read (writes ++ WereRead [] ∷ log) ≡ bytes_read log
whole_read log writes are = read_then writes log [] are ∙ append-nil (bytes_read log)

with_words : (options : MonitorOptions) (log writes : List Transfer) (old : Heard) (left : List ℕ) (status : ℕ) → HasListened options log old → AreWrites writes → EndsWithWords old (bytes_written writes ++ left) status → IsEndOutput options (bytes_read (writes ++ WereRead [] ∷ log)) (bytes_written (writes ++ WereRead [] ∷ log) ++ left) status
with_words options log writes old left status so_far are ends =
    subst (λ read. IsEndOutput options read (bytes_written (writes ++ WereRead [] ∷ log) ++ left) status) (sym (whole_read log writes are))
    (subst (λ written. IsEndOutput options (bytes_read log) written status)
    (sym (append_assoc (bytes_written log) (bytes_written writes) left) ∙ ap (λ w. w ++ left) (sym (written_then writes log [])))
    (ends options (bytes_read log) (bytes_written log) so_far.listening))

with_line : (options : MonitorOptions) (log writes : List Transfer) (old : Heard) (left : List ℕ) → HasListened options log old → AreWrites writes → EndsWithLine old (bytes_written writes ++ left) → (run : MonitorRun) × HasHeardAll options (bytes_read (writes ++ WereRead [] ∷ log)) run (bytes_written (writes ++ WereRead [] ∷ log) ++ left)
with_line options log writes old left so_far are ends =
    let e = ends options (bytes_read log) (bytes_written log) so_far.listening in (
      e.0,
      subst (λ read. HasHeardAll options read e.0 (bytes_written (writes ++ WereRead [] ∷ log) ++ left)) (sym (whole_read log writes are))
          (subst (HasHeardAll options (bytes_read log) e.0)
          (sym (append_assoc (bytes_written log) (bytes_written writes) left) ∙ ap (λ w. w ++ left) (sym (written_then writes log []))) e.1),
    )

pub ends_at_end : (options : MonitorOptions) (log writes : List Transfer) (old : Heard) (status : ℕ) → HasListened options log old → AreWrites writes → EndsTrace old (bytes_written writes) status → EndsMonitored options (writes ++ WereRead [] ∷ log) status
ends_at_end options log writes old status so_far are (inl ends) =
    let all = append-nil (bytes_written (writes ++ WereRead [] ∷ log)) in
    let words = subst (λ w. EndsWithWords old w status) (sym (append-nil (bytes_written writes))) ends in
    at_end (writes, log, are, refl)
    (subst (λ w. IsEndOutput options (bytes_read (writes ++ WereRead [] ∷ log)) w status) all (with_words options log writes old [] status so_far are words))
ends_at_end options log writes old status so_far are (inr (inl (is, (left, inl line)))) =
    write_failed is left (inl (inr ((writes, log, are, refl), with_line options log writes old left so_far are line)))
ends_at_end options log writes old status so_far are (inr (inl (is, (left, inr (whole, ends))))) =
    write_failed is left (inr ((writes, log, are, refl), (whole, with_words options log writes old left whole so_far are ends)))
ends_at_end options log writes old status so_far are (inr (inr (is, inl none))) =
    let calls = calls_so_far options log old so_far in
    let silent : bytes_written (writes ++ WereRead [] ∷ log) ≡ bytes_written log = written_then writes log [] ∙ ap (λ w. bytes_written log ++ w) none ∙ append-nil (bytes_written log) in
    memory_wanting is
    (inl (
      bytes_read log,
      [],
      calls.0,
      whole_read log writes are ∙ sym (append-nil (bytes_read log)),
      subst (HasHeard options (bytes_read log) calls.0) (sym silent) calls.1,
    ))
ends_at_end options log writes old status so_far are (inr (inr (is, inr line))) =
    let all = append-nil (bytes_written (writes ++ WereRead [] ∷ log)) in
    let heard = with_line options log writes old [] so_far are (subst (EndsWithLine old) (sym (append-nil (bytes_written writes))) line) in
    memory_wanting is (inr ((writes, log, are, refl), (heard.0, subst (HasHeardAll options (bytes_read (writes ++ WereRead [] ∷ log)) heard.0) all heard.1)))

-- a piece that was not heard to its end, by the fault that is answered
pub stopped_early : (options : MonitorOptions) (log writes : List Transfer) (bytes left : List ℕ) (old : Heard) (fault : HearFault) → HasListened options log old → AreWrites writes → StopsHearing old bytes writes left → (fault ≡ NoMemory → left ≡ []) → EndsMonitored options (writes ++ WereRead bytes ∷ log) (number_of_hear_fault fault)
stopped_early options log writes bytes left old NoMemory so_far are stops none = ends_without_memory options log writes bytes left old so_far are stops (none refl)
stopped_early options log writes bytes left old WriteFailed so_far are stops none = ends_unwritten options log writes bytes left old so_far are stops
