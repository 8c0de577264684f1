-- A call that says that the trace was read to its end.
use Rattle.std.proofs.Common.{◌≡◌, ℕ, ◌<◌, true, false, not, Some, None, Option, List, [], ◌∷◌, ◌++◌, sym, ◌∙◌, ap, inl, inr, arith}
use Rattle.std.specs.Io.KnownBytes.{Consumes, IsAtEnd}
use Rattle.monitor_laws.specs.Faults.{LineFault, first_fault}
use Rattle.monitor_laws.specs.Lines.{TraceLine}
use Rattle.monitor_messages.specs.Runs.{IsHeard, IsMonitorRunOf, IsNextRun, MonitorOptions, MonitorRun}
use Rattle.monitor_messages.proofs.RunsHaveTraces.{its_options}
use Rattle.monitor.specs.HeardLines.{called_lines}
use Rattle.monitor.specs.MonitorCalls.{HasNothingLeft, SaysEnd}
use Rattle.monitor.specs.Transfers.{AreWrites, PassesThrough, PortView, Transfer, WereRead, bytes_read, bytes_written}
use Rattle.monitor.specs.inside.Ending.{HasListened}
use Rattle.monitor.specs.inside.Listening.{Heard, HearsBytes, number_of_hear_fault}
use Rattle.monitor.specs.declared.hearing.HearFault.{HearFault}
use Rattle.monitor.specs.declared.hearing.HearFault.TheVariants.{NoMemory, WriteFailed}
use Rattle.monitor.proofs.Calls.{listens_on}

behind_none : (xs ys : List ℕ) → [] ≡ xs ++ ys → ys ≡ []
behind_none [] ys e = sym e
behind_none (x ∷ xs) ys e = absurd (cc)

-- nothing is left where all was consumed up to the end, and nothing behind it
left_none : (a b c : Option (List ℕ)) (bytes more : List ℕ) → Consumes a b bytes → IsAtEnd b → Consumes b c more → HasNothingLeft a c
left_none None b c bytes more one end other = tt
left_none (Some x) None c bytes more one end other = absurd one
left_none (Some x) (Some y) None bytes more one end other = absurd other
left_none (Some x) (Some y) (Some z) bytes more one end other = ap Some (behind_none more z (sym end ∙ other))

pub leaves_nothing : (a b c : PortView) (log writes : List Transfer) → PassesThrough a b log → IsAtEnd b.left → PassesThrough b c writes → HasNothingLeft a.left c.left
leaves_nothing a b c log writes one end other = left_none a.left b.left c.left (bytes_read log) (bytes_read writes) one.left end other.left

-- a status above 3 says no end
pub says_no_end : (options : MonitorOptions) (status : ℕ) → 3 < status → SaysEnd options status → ⊥
says_no_end options status above (inl low) = omega arith
says_no_end options status above (inr (goes, is)) = omega arith

pub fault_says_no_end : (options : MonitorOptions) (fault : HearFault) → SaysEnd options (number_of_hear_fault fault) → ⊥
fault_says_no_end options NoMemory says = says_no_end options 6 (omega arith) says
fault_says_no_end options WriteFailed says = says_no_end options 5 (omega arith) says

-- where lines at fault are passed over none stops the monitor
goes_on_heard : (was : MonitorRun) (said : Option TraceLine) (fault : Option LineFault) (run : MonitorRun) (message : List ℕ) → was.options.keeps_going ≡ true → was.stopped ≡ false → IsHeard was said fault run message → run.stopped ≡ false
goes_on_heard was said (Some fault) run message goes on heard = ap (λ (x : MonitorRun). x.stopped) heard.0 ∙ ap not goes
goes_on_heard was (Some l) None run message goes on heard = ap (λ (x : MonitorRun). x.stopped) heard.others ∙ on
goes_on_heard was None None run message goes on heard = absurd heard

never_stops : (options : MonitorOptions) (lines : List (List ℕ)) (run : MonitorRun) (output : List ℕ) → options.keeps_going ≡ true → IsMonitorRunOf options lines run output → run.stopped ≡ false
never_stops options [] run output goes (begun, none) = ap (λ (x : MonitorRun). x.stopped) begun
never_stops options (bytes ∷ before) run output goes (was, earlier, message, leads, next, is) = by_next (never_stops options before was earlier goes leads) next
  where
    by_next : was.stopped ≡ false → IsNextRun was bytes run message → run.stopped ≡ false
    by_next went (inl stopped) = ap (λ (x : MonitorRun). x.stopped) stopped.1 ∙ went
    by_next went (inr (on, said, says, heard)) =
        goes_on_heard was said (first_fault was.state said) run message
        (ap (λ (o : MonitorOptions). o.keeps_going) (its_options options before was earlier leads) ∙ goes) on heard

-- a line at fault that stopped the monitor says no end
pub stop_says_no_end : (options : MonitorOptions) (log writes : List Transfer) (bytes : List ℕ) (old new : Heard) → HasListened options log old → AreWrites writes → HearsBytes old bytes (bytes_written writes) new → new.run.stopped ≡ true → SaysEnd options 3 → ⊥
stop_says_no_end options log writes bytes old new so_far are hears stopped (inl low) = omega arith
stop_says_no_end options log writes bytes old new so_far are hears stopped (inr (goes, is)) =
    let l = listens_on options log writes bytes old new so_far are hears in
    let e : true ≡ false = sym stopped ∙ never_stops options (called_lines l.lines l.rest) new.run (bytes_written (writes ++ WereRead bytes ∷ log)) goes l.leads in
    cc
