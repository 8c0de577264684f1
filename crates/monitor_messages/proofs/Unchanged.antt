-- A line by which the same tasks stay stuck.
use Rattle.std.proofs.Common.{◌≡◌, ℕ, Bool, true, false, not, ◌&&◌, List, [], ◌∷◌, ◌++◌, refl, sym, ◌∙◌, ap, subst, append-nil}
use Rattle.std.specs.Prelude.{filter}
use Rattle.std.proofs.lemmas.Bool.{cond-false}
use Rattle.monitor_laws.specs.Lines.{TraceLine}
use Rattle.monitor_laws.specs.States.{Participant, TraceState}
use Rattle.monitor_laws.specs.Stuck.{IsStuck}
use Rattle.monitor_search.specs.Known.{AreStuckTasks, has_stuck_number}
use Rattle.monitor_words.specs.Messages.{IsToldOf, resolved_words, those_only_in}
use Rattle.monitor_messages.specs.Runs.{MakesStuck}
use Rattle.monitor_messages.specs.inside.Changes.{IsKnownBefore, TellsChange}

not_both : (b : Bool) → (b && not b) ≡ false
not_both true = refl
not_both false = refl

none_passes_both : {A : Type 0} (test : A → Bool) (xs : List A) → filter (λ x. test x && not (test x)) xs ≡ []
none_passes_both test [] = refl
none_passes_both test (x ∷ xs) =
    cond-false (test x && not (test x)) (x ∷ filter (λ y. test y && not (test y)) xs) (filter (λ y. test y && not (test y)) xs) (not_both (test x)) ∙ none_passes_both test xs

-- nobody is in the same set and not in it
pub nobody_only : (s : TraceState) (stuck : ℕ → Bool) → those_only_in s stuck stuck ≡ []
nobody_only s stuck = none_passes_both (λ (u : Participant). stuck u.number) s.list

pub same_told : (s : TraceState) (l : TraceLine) (was : List (ℕ × List ℕ)) (after : TraceState) (old : List ℕ) → IsKnownBefore s l was after → AreStuckTasks after was → TellsChange s l was after was old old false
same_told s l was after old known behind =
    let stuck = has_stuck_number was in
    let silent : old ≡ old ++ (resolved_words (those_only_in s stuck stuck) ++ []) =
    sym (ap (λ us. old ++ (resolved_words us ++ [])) (nobody_only s stuck) ∙ append-nil old)
    in (
      [],
      subst (λ us. IsToldOf s after stuck stuck us []) (sym (nobody_only after stuck)) refl,
      silent,
      ((λ e. absurd (cc)), λ makes. absurd (nobody makes)),
    )
  where
    nobody : MakesStuck s l → ⊥
    nobody (t, is, was_not) =
        let now : IsStuck after t = subst (λ x. IsStuck x t) (sym known.leads) is in
        was_not ((known.before.tells t.number).0 ((behind.tells t.number).1 (t, now, refl)))
