-- What the guard makes of a line.
use Rattle.std.proofs.Common.{◌≡◌, ℕ, Bool, true, false, ◌||◌, Some, None, Option, List, [], ◌++◌, refl, sym, ◌∙◌, ap, subst, inl, inr, ◌⊎◌, append-nil, append_assoc}
use Rattle.std.specs.Prelude.{Contains, Result, Ok, Err, codes, bytes_eq}
use Rattle.std.specs.List.{list_any}
use Rattle.std.proofs.lemmas.Bool.{and_from, and_parts}
use Rattle.std.proofs.lemmas.Slice.Eq.{bytes_eq-Decides}
use Rattle.monitor_laws.specs.Faults.{first_fault}
use Rattle.monitor_laws.specs.Guards.{IsRefusedWait}
use Rattle.monitor_laws.specs.Lines.{AreGone, Announces, AsksList, AsksReport, PlaysAny, PlaysOneOf, SaysNothing, Stands, TraceLine, Waits}
use Rattle.monitor_laws.specs.States.{Participant, TraceState, after_line, is_live_task, is_live_wildcard, is_there_as}
use Rattle.monitor_laws.specs.Stuck.{IsStuck}
use Rattle.monitor_laws.proofs.Filters.{any_from}
use Rattle.monitor_laws.proofs.Lawful.{IsLawfulState, lawful_after}
use Rattle.monitor_laws.proofs.Rows.{name_is}
use Rattle.monitor_search.specs.Known.{AreStuckTasks, has_stuck_number}
use Rattle.monitor_words.specs.declared.faults.FaultOfLine.{FaultOfLine}
use Rattle.monitor_words.specs.Messages.{IsGuardedMessage, IsRefusal, IsWaitLine}
use Rattle.monitor_words.specs.Reasons.{IsStuckBecause}
use Rattle.monitor_words.specs.Stops.{TellsStuck}
use Rattle.monitor_words.specs.Words.{message_line}
use Rattle.monitor_messages.specs.Runs.{MakesStuck}
use Rattle.monitor_messages.specs.inside.Changes.{IsKnownBefore, TellsChange}
use Rattle.monitor_messages.specs.inside.Guarded.{RefusesWait, StandsBack, is_stuck_as}
use Rattle.monitor_messages.specs.inside.Taken.{IsTaken}
use Rattle.monitor_messages.proofs.TakenLines.{message_is}

-- whose line it is
abbrev pub speaker : TraceLine → List ℕ
speaker SaysNothing = []
speaker AsksReport = []
speaker AsksList = []
speaker (AreGone beginning) = []
speaker (Announces t what place) = t
speaker (PlaysAny w) = []
speaker (PlaysOneOf w names) = []

-- a line that is no wait is taken as without the guard, and has no answer
pub other_taken : (s : TraceState) (l : TraceLine) (after : TraceState) (old new : List ℕ) (end : Result Bool FaultOfLine) → ((t : List ℕ) → IsWaitLine l t → ⊥) → IsTaken false s l after old new end → IsTaken true s l after old new end
other_taken s l after old new (Err fault) other taken = taken
other_taken s l after old new (Ok told) other (legal, (x, message, says, leads, wrote, tells)) =
    (legal, (l, message, (guarded, refl), leads ∙ ap (after_line s) says.0, wrote, tells_either))
  where
    passes : IsRefusedWait s l → ⊥
    passes r = other r.task.name (r.p, r.n, r.place, r.is)

    guarded : IsGuardedMessage s l message
    guarded = record {
      taken = l;
      stands = inr (passes, refl);
      told = message;
      answer = [];
      tells = says.1;
      answers = inr (inr (other, refl));
      is = sym (append-nil message);
    }

    tells_either : (told ≡ true → MakesStuck s l ⊎ IsRefusedWait s l) × (MakesStuck s l ⊎ IsRefusedWait s l → told ≡ true)
    tells_either = ((λ e. inl (subst (MakesStuck s) says.0 (tells.0 e))), either)
      where
        either : MakesStuck s l ⊎ IsRefusedWait s l → told ≡ true
        either (inl makes) = tells.1 (subst (MakesStuck s) (sym says.0) makes)
        either (inr refused) = absurd (passes refused)

module _ (s : TraceState) (t p : List ℕ) (n : ℕ) (place : Option (List ℕ)) (was : List (ℕ × List ℕ)) (after : TraceState) (judged : List (ℕ × List ℕ)) (known : IsKnownBefore s (Announces t (Waits p n) place) was after) (are : AreStuckTasks after judged) where
  abbrev wait : TraceLine
  wait = Announces t (Waits p n) place

  pub lawful_behind : IsLawfulState after
  lawful_behind = subst IsLawfulState (sym known.leads) (lawful_after s wait known.lawful)

  would_be : TellsStuck (after_line s wait) (has_stuck_number judged)
  would_be = subst (λ x. TellsStuck x (has_stuck_number judged)) known.leads are.tells

  -- a stuck task that is there with the name is the one whose wait is refused
  abbrev pub refused_is : (u : Participant) → Contains after.list u → is_stuck_as judged t u ≡ true → IsRefusedWait s wait
  refused_is u within is =
      let parts = and_parts (is_there_as t u) (has_stuck_number judged u.number) is in
      let v = (are.tells u.number).0 parts.1 in
      let same : v.0 ≡ u = lawful_behind.one_number v.0 u v.1.listed within v.2 in
      record {
        task = u;
        p = p;
        n = n;
        place = place;
        is = ap (λ x. Announces x (Waits p n) place) (name_is t u parts.0);
        stuck = subst (λ x. IsStuck x u) known.leads (subst (IsStuck after) same v.1);
      }

  waits_there : (u : Participant) → IsStuck after u → t ≡ u.name → is_there_as t u ≡ true
  waits_there u stuck is =
      let w = stuck.waits in
      and_from (is_live_task u.condition || is_live_wildcard u.condition) (bytes_eq t u.name)
      (ap (λ c. is_live_task c || is_live_wildcard c) w.2) ((bytes_eq-Decides t u.name).1 is)

  -- where no stuck task is there with the name the wait is not refused
  passes_is : list_any (is_stuck_as judged t) after.list ≡ false → IsRefusedWait s wait → ⊥
  passes_is none r =
      let name : t ≡ r.task.name = ap speaker r.is in
      let stuck : IsStuck after r.task = subst (λ x. IsStuck x r.task) (sym known.leads) r.stuck in
      let there = waits_there r.task stuck name in
      let number = (are.tells r.task.number).1 (r.task, stuck, refl) in
      let e : list_any (is_stuck_as judged t) after.list ≡ true =
      any_from (is_stuck_as judged t) after.list r.task stuck.listed (and_from (is_there_as t r.task) (has_stuck_number judged r.task.number) there number)
      in
      absurd (let f : true ≡ false = sym e ∙ none in cc)

  pub taken_refused : (u : Participant) (words : List ℕ) (back : TraceState) (stuck : List (ℕ × List ℕ)) (old mid new : List ℕ) → first_fault s (Some wait) ≡ None → Contains after.list u → is_stuck_as judged t u ≡ true → RefusesWait after judged u words → StandsBack s t place was back stuck old mid → new ≡ mid ++ words → IsTaken true s wait back old new (Ok true)
  taken_refused u words back stuck old mid new legal within is refuses stands wrote =
      let refused = refused_is u within is in
      let l = Announces t Stands place in
      let change = stands.2 in
      let m = message_is s l was stuck back old mid mid change.0 stands.0 stands.1 change.1 (sym (append-nil mid)) in
      let answer : IsRefusal s wait words = record {
        refused = refused;
        stuck = has_stuck_number judged;
        would_be = would_be;
        because = refuses.0;
        reason = subst (λ x. IsStuckBecause x (has_stuck_number judged) u refuses.0) known.leads refuses.1;
        is = refuses.2;
      }
      in
      let named : l ≡ Announces u.name Stands place = ap (λ x. Announces x Stands place) (name_is t u (and_parts (is_there_as t u) (has_stuck_number judged u.number) is).0) in
      let guarded : IsGuardedMessage s wait (m.0 ++ words) = record { taken = l; stands = inl (refused, named); told = m.0; answer = words; tells = m.1; answers = inl answer; is = refl } in (
        legal,
        (l, m.0 ++ words, (guarded, refl), stands.0.leads, wrote ∙ ap (λ x. x ++ words) m.2 ∙ append_assoc old m.0 words, ((λ e. inr refused), λ either. refl)),
      )

  pub taken_waiting : (stuck : List (ℕ × List ℕ)) (old mid new : List ℕ) (told : Bool) → first_fault s (Some wait) ≡ None → list_any (is_stuck_as judged t) after.list ≡ false → AreStuckTasks after stuck → TellsChange s wait was after stuck old mid told → new ≡ mid ++ message_line (codes "wait " ++ t) → IsTaken true s wait after old new (Ok told)
  taken_waiting stuck old mid new told legal none behind change wrote =
      let passes = passes_is none in
      let m = message_is s wait was stuck after old mid mid told known behind change (sym (append-nil mid)) in
      let words = message_line (codes "wait " ++ t) in
      let guarded : IsGuardedMessage s wait (m.0 ++ words) = record {
        taken = wait;
        stands = inr (passes, refl);
        told = m.0;
        answer = words;
        tells = m.1;
        answers = inr (inl (t, (p, n, place, refl), passes, refl));
        is = refl;
      }
      in (
        legal,
        (
          wait,
          m.0 ++ words,
          (guarded, refl),
          known.leads,
          wrote ∙ ap (λ x. x ++ words) m.2 ∙ append_assoc old m.0 words,
          ((λ e. inl (change.3.0 e)), λ either. elim either [ inl makes ↦ change.3.1 makes | inr refused ↦ absurd (passes refused) ]),
        ),
      )
