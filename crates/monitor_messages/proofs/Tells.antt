-- What is told of a change.
use Rattle.std.proofs.Common.{◌≡◌, ℕ, Bool, true, false, not, Some, List, [], ◌∷◌, ◌++◌, refl, sym, ◌∙◌, ap, subst, inl, inr, ◌⊎◌, append_assoc}
use Rattle.std.specs.Prelude.{Contains, find, unwrap_or, ◌↔◌}
use Rattle.std.proofs.lemmas.Bool.{cases_Bool, and_parts, and_from, cond-true, cond-false, not_from_false}
use Rattle.armus_base.proofs.Elements.{Contains-head, Contains-tail, nothing_in_nil}
use Rattle.monitor_laws.specs.Faults.{faults_of}
use Rattle.monitor_laws.specs.Lines.{TraceLine}
use Rattle.monitor_laws.specs.States.{Participant, TraceState, after_line}
use Rattle.monitor_laws.proofs.Filters.{from_filter, in_filter}
use Rattle.monitor_laws.proofs.Lawful.{IsLawfulState}
use Rattle.monitor_words.specs.Messages.{IsToldOf, those_only_in, waits_newly}
use Rattle.monitor_words.specs.Stops.{TellsStuck}
use Rattle.monitor_search.specs.Known.{AreStuckTasks, has_stuck_number}
use Rattle.monitor_rows.specs.KnownNames.{known_only_in, names_of_known}
use Rattle.monitor_messages.specs.Runs.{MakesStuck}
use Rattle.monitor_messages.specs.inside.Changes.{TakesTo, TellsChange}
use Rattle.monitor_messages.specs.inside.Newly.{TellsNewly, gone_words, is_newly_stuck, waits_by}
use Rattle.monitor_messages.proofs.Gone.{gone_is_told}
use Rattle.monitor_messages.proofs.WaitsNewly.{newly_is_of_wait}

-- tests that agree on all of a list find the same
find_agrees : {A : Type 0} (p q : A → Bool) (xs : List A) → ((x : A) → Contains xs x → p x ≡ q x) → find p xs ≡ find q xs
find_agrees p q [] same = refl
find_agrees p q (x ∷ xs) same = by_test (find_agrees p q xs (λ y within. same y (Contains-tail x xs y within))) (same x (Contains-head x xs)) (cases_Bool (q x))
  where
    by_test : find p xs ≡ find q xs → p x ≡ q x → ((q x ≡ true) ⊎ (q x ≡ false)) → find p (x ∷ xs) ≡ find q (x ∷ xs)
    by_test rest here (inl on) = cond-true (p x) (Some x) (find p xs) (here ∙ on) ∙ sym (cond-true (q x) (Some x) (find q xs) on)
    by_test rest here (inr off) = cond-false (p x) (Some x) (find p xs) (here ∙ off) ∙ rest ∙ sym (cond-false (q x) (Some x) (find q xs) off)

-- on whom the message is, whichever of two tests finds him
told_of : (before s : TraceState) (p : Participant → Bool) (was stuck : ℕ → Bool) (newly : List Participant) (words : List ℕ) (told : Bool) → find (waits_newly before) s.list ≡ find p s.list → TellsNewly p s was stuck newly words told →
    IsToldOf before s was stuck newly words
told_of before s p was stuck [] words told same is = is.0
told_of before s p was stuck (first ∷ others) words told same is =
    (is.0, is.2.0, is.1 ∙ sym (ap (λ o. unwrap_or o first) same), is.2.1, is.2.2)

-- whether somebody is told
told_some : (p : Participant → Bool) (s : TraceState) (was stuck : ℕ → Bool) (newly : List Participant) (words : List ℕ) (told : Bool) → TellsNewly p s was stuck newly words told →
    ((told ≡ true) × ((u : Participant) × Contains newly u)) ⊎ ((told ≡ false) × (newly ≡ []))
told_some p s was stuck [] words told is = inr (is.1, refl)
told_some p s was stuck (first ∷ others) words told is = inl (is.3, (first, Contains-head first others))

module _ (s : TraceState) (l : TraceLine) (was stuck : ℕ → Bool) (tells_was : TellsStuck s was) (tells : TellsStuck (after_line s l) stuck) where
  -- who is newly stuck is stuck by the line
  makes_stuck : (u : Participant) → Contains (those_only_in (after_line s l) stuck was) u → MakesStuck s l
  makes_stuck u within =
      let f = from_filter (is_newly_stuck was stuck) (after_line s l).list u within in
      let parts = and_parts (stuck u.number) (not (was u.number)) f.1 in
      let t = (tells u.number).0 parts.0 in
      (t.0, t.1, λ old. let o = (tells_was u.number).1 (old.0, old.1, old.2 ∙ t.2) in let e = ap not o in let n = parts.1 in cc)

  -- who is stuck by the line is newly stuck
  newly_made : (makes : MakesStuck s l) → Contains (those_only_in (after_line s l) stuck was) makes.0
  newly_made makes =
      let t = makes.0 in
      in_filter (is_newly_stuck was stuck) (after_line s l).list t makes.1.listed
      (and_from (stuck t.number) (not (was t.number)) ((tells t.number).1 (t, makes.1, refl))
      (not_from_false (was t.number) (elim (cases_Bool (was t.number)) [ inl old ↦ absurd (makes.2 ((tells_was t.number).0 old)) | inr off ↦ off ])))

  told_is_made : (p : Participant → Bool) (words : List ℕ) (told : Bool) → TellsNewly p (after_line s l) was stuck (those_only_in (after_line s l) stuck was) words told → (told ≡ true) ↔ MakesStuck s l
  told_is_made p words told is = elim (told_some p (after_line s l) was stuck (those_only_in (after_line s l) stuck was) words told is) [
    | inl some ↦ (λ e. makes_stuck some.1.0 some.1.1, λ made. some.0)
    | inr none ↦ (λ e. absurd (let n = none.0 in cc), λ made. absurd (nothing_in_nil made.0 (subst (λ l. Contains l made.0) none.1 (newly_made made))))
  ]

-- of a legal line
told_by_line : (s : TraceState) (l : TraceLine) (was stuck : List (ℕ × List ℕ)) (old new words : List ℕ) (told : Bool) → IsLawfulState s → faults_of s l ≡ [] → AreStuckTasks s was → AreStuckTasks (after_line s l) stuck →
    new ≡ (old ++ gone_words (names_of_known (known_only_in was stuck))) ++ words →
    TellsNewly (waits_by l) (after_line s l) (has_stuck_number was) (has_stuck_number stuck) (those_only_in (after_line s l) (has_stuck_number stuck) (has_stuck_number was)) words told → TellsChange s l was (after_line s l) stuck old new told
told_by_line s l was stuck old new words told lawful legal before behind is tells = (
  words,
  told_of s (after_line s l) (waits_by l) (has_stuck_number was) (has_stuck_number stuck) (those_only_in (after_line s l) (has_stuck_number stuck) (has_stuck_number was)) words told
      (find_agrees (waits_newly s) (waits_by l) (after_line s l).list (newly_is_of_wait s lawful l legal)) tells,
  is ∙ append_assoc old (gone_words (names_of_known (known_only_in was stuck))) words ∙ ap (λ x. old ++ (x ++ words)) (gone_is_told s was stuck before),
  told_is_made s l (has_stuck_number was) (has_stuck_number stuck) before.tells behind.tells (waits_by l) words told tells,
)

pub tells_change : (s : TraceState) (l : TraceLine) (was : List (ℕ × List ℕ)) (after : TraceState) (stuck : List (ℕ × List ℕ)) (old new words : List ℕ) (told : Bool) → TakesTo s l was after stuck →
    new ≡ (old ++ gone_words (names_of_known (known_only_in was stuck))) ++ words →
    TellsNewly (waits_by l) after (has_stuck_number was) (has_stuck_number stuck) (those_only_in after (has_stuck_number stuck) (has_stuck_number was)) words told → TellsChange s l was after stuck old new told
tells_change s l was after stuck old new words told takes is tells =
    subst (λ x. TellsChange s l was x stuck old new told) (sym takes.leads)
    (told_by_line s l was stuck old new words told takes.lawful takes.legal takes.before (subst (λ x. AreStuckTasks x stuck) takes.leads takes.behind) is
    (subst (λ x. TellsNewly (waits_by l) x (has_stuck_number was) (has_stuck_number stuck) (those_only_in x (has_stuck_number stuck) (has_stuck_number was)) words told) takes.leads tells))
