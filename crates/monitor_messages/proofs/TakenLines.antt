-- A line that is taken, and the message that it calls for.
use Rattle.std.proofs.Common.{◌≡◌, ℕ, Bool, false, Some, None, List, ◌++◌, refl, sym, ◌∙◌, ap, subst, append_assoc}
use Rattle.std.specs.Prelude.{Ok}
use Rattle.armus_base.proofs.Lists.{none_first}
use Rattle.monitor_laws.specs.Faults.{faults_of, first_fault}
use Rattle.monitor_laws.specs.Lines.{TraceLine}
use Rattle.monitor_laws.specs.States.{TraceState, after_line}
use Rattle.monitor_laws.proofs.Lawful.{IsLawfulState, lawful_after}
use Rattle.monitor_search.specs.Known.{AreStuckTasks, has_stuck_number}
use Rattle.monitor_words.specs.Messages.{IsMessage, IsToldOf, asked_words, resolved_words, those_only_in}
use Rattle.monitor_words.specs.Stops.{TellsStuck}
use Rattle.monitor_messages.specs.inside.Changes.{IsKnownBefore, TellsChange}
use Rattle.monitor_messages.specs.inside.Taken.{IsTaken}

-- a line without a fault leads on from a state of which it is known who is stuck
pub leads_on : (s : TraceState) (l : TraceLine) (was : List (ℕ × List ℕ)) (after : TraceState) → IsLawfulState s × AreStuckTasks s was → first_fault s (Some l) ≡ None → after ≡ after_line s l → IsKnownBefore s l was after
leads_on s l was after known legal leads = record {
  lawful = known.0;
  legal = none_first (faults_of s l) legal;
  leads = leads;
  before = known.1;
}

pub lawful_on : (s : TraceState) (l : TraceLine) (after : TraceState) → IsLawfulState s → after ≡ after_line s l → IsLawfulState after
lawful_on s l after lawful leads = subst IsLawfulState (sym leads) (lawful_after s l lawful)

-- the message of a line, by what changes and what is asked for
pub message_is : (s : TraceState) (l : TraceLine) (was stuck : List (ℕ × List ℕ)) (after : TraceState) (old mid new : List ℕ) (told : Bool) → IsKnownBefore s l was after → AreStuckTasks after stuck → TellsChange s l was after stuck old mid told → new ≡ mid ++ asked_words after (has_stuck_number stuck) l → (message : List ℕ) × IsMessage s l message × (new ≡ old ++ message)
message_is s l was stuck after old mid new told known behind change asks =
    let resolved = resolved_words (those_only_in s (has_stuck_number was) (has_stuck_number stuck)) in
    let words = change.0 in
    let asked = asked_words after (has_stuck_number stuck) l in
    let whole : new ≡ old ++ (resolved ++ words ++ asked) =
    asks ∙ ap (λ m. m ++ asked) change.2 ∙ append_assoc old (resolved ++ words) asked
    in (
      resolved ++ words ++ asked,
      record {
        was = has_stuck_number was;
        stuck = has_stuck_number stuck;
        before = known.before.tells;
        after = subst (λ x. TellsStuck x (has_stuck_number stuck)) known.leads behind.tells;
        told = words;
        tells = subst (λ x. IsToldOf s x (has_stuck_number was) (has_stuck_number stuck) (those_only_in x (has_stuck_number stuck) (has_stuck_number was)) words) known.leads change.1;
        is = ap (λ x. resolved ++ words ++ asked_words x (has_stuck_number stuck) l) known.leads;
      },
      whole,
    )

pub taken_plain : (s : TraceState) (l : TraceLine) (was stuck : List (ℕ × List ℕ)) (after : TraceState) (old mid new : List ℕ) (told : Bool) → first_fault s (Some l) ≡ None → IsKnownBefore s l was after → AreStuckTasks after stuck → TellsChange s l was after stuck old mid told → new ≡ mid ++ asked_words after (has_stuck_number stuck) l → IsTaken false s l after old new (Ok told)
taken_plain s l was stuck after old mid new told legal known behind change asks =
    let m = message_is s l was stuck after old mid new told known behind change asks in
    (legal, (l, m.0, (refl, m.1), known.leads, m.2, change.3))
