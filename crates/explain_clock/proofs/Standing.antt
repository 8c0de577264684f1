-- In which paragraph an activity stands.
use Rattle.std.proofs.Common.{◌≡◌, ◌⊎◌, ℕ, zero, suc, ◌<◌, true, List, [], ◌∷◌, ◌++◌, length, arith, sym, ◌∙◌, ap, subst, inl, inr}
use Rattle.std.specs.Prelude.{Contains, map}
use Rattle.std.specs.Str.{bytes_eq}
use Rattle.std.proofs.lemmas.Bool.{cases_eq, false≢true}
use Rattle.std.proofs.lemmas.List.Elements.{Contains-append_cases, Contains-append_left, Contains-append_right}
use Rattle.armus_base.specs.Counts.{IsDistinct}
use Rattle.armus_base.specs.Finals.{list_below}
use Rattle.armus_base.specs.declared.ending.TaskEnd.TheVariants.{Done}
use Rattle.armus_base.specs.declared.ids.TaskId.{TaskId}
use Rattle.armus_base.proofs.Elements.{Contains-head}
use Rattle.explain_tasks.proofs.EachOnce.{AreOnce, are_once, once_has}
use Rattle.explain_tasks.proofs.Filters.{has_map, passed_from, passed_is}
use Rattle.explain_clock.specs.ActivityLists.{things_said, those_said}
use Rattle.explain_clock.specs.ClockExplanations.{activities_that, explained_activities, is_unstarted, paragraph_said, waits_there}
use Rattle.explain_clock.specs.ClockFacts.{end_at}
use Rattle.explain_clock.specs.ClockFacts.{ClockFacts}
use Rattle.explain_clock.specs.calls.ParagraphLaws.{StandsInOne}
use Rattle.explain_clock.proofs.ToldTogether.{bytes_is, bytes_itself}

-- the activity with this number
abbrev activity : ℕ → TaskId
activity t = record { 0 = t }

is_below : (n t : ℕ) → t < n → Contains (list_below activity n) (activity t)
is_below zero t lt = absurd (omega arith)
is_below (suc n) t lt =
    elim (cases_eq t n) [
      | inl same ↦ Contains-append_right (list_below activity n) (activity n ∷ []) (activity t)
          (subst (λ k. Contains (activity n ∷ []) (activity k)) (sym same) (Contains-head (activity n) []))
      | inr other ↦ Contains-append_left (list_below activity n) (activity n ∷ []) (activity t) (is_below n t (omega arith))
    ]

-- things that are told once are distinct
pub once_distinct : (xs : List (List ℕ)) → AreOnce bytes_eq bytes_is bytes_itself xs → IsDistinct xs
once_distinct [] once = tt
once_distinct (x ∷ xs) once = (
  λ again. false≢true (sym (once.0 x again) ∙ bytes_itself x),
  once_distinct xs once.1,
)

-- of these activities something is told, each thing once, and each of just those of whom it is so
module _ (says : ℕ → List ℕ) (ts : List TaskId) where
  pub told_once : IsDistinct (things_said says ts)
  told_once = once_distinct _ (are_once bytes_eq bytes_is bytes_itself (map (λ (t : TaskId). says t.0) ts))

  pub told_there : (t : TaskId) → Contains ts t → Contains (things_said says ts) (says t.0)
  told_there t here =
      once_has bytes_eq bytes_is bytes_itself (map (λ (u : TaskId). says u.0) ts) (says t.0) (has_map (λ (u : TaskId). says u.0) ts t here)

  pub told_with_it : (t : TaskId) → Contains ts t → Contains (those_said says ts (says t.0)) t
  told_with_it t here = passed_from (λ (u : TaskId). bytes_eq (says t.0) (says u.0)) ts t here (bytes_itself (says t.0))

  pub told_alone : (said : List ℕ) (t : TaskId) → Contains (those_said says ts said) t → said ≡ says t.0
  told_alone said t inside = bytes_is said (says t.0) (passed_is (λ (u : TaskId). bytes_eq said (says u.0)) ts t inside).1

module _ (f : ClockFacts) (circle : List TaskId) (t : ℕ) where
  explained : t < length f.ends → ((waits_there (end_at f t) ≡ true) ⊎ (is_unstarted (end_at f t) ≡ true)) → Contains (explained_activities f) (activity t)
  explained lt (inl waits) =
      Contains-append_left (activities_that waits_there f) (activities_that is_unstarted f) (activity t)
      (passed_from (λ (u : TaskId). waits_there (end_at f u.0)) (list_below activity (length f.ends)) (activity t) (is_below (length f.ends) t lt) waits)
  explained lt (inr unstarted) =
      Contains-append_right (activities_that waits_there f) (activities_that is_unstarted f) (activity t)
      (passed_from (λ (u : TaskId). is_unstarted (end_at f u.0)) (list_below activity (length f.ends)) (activity t) (is_below (length f.ends) t lt) unstarted)

  pub stands_in_one : t < length f.ends → ((waits_there (end_at f t) ≡ true) ⊎ (is_unstarted (end_at f t) ≡ true)) → StandsInOne f circle t
  stands_in_one lt stands =
      let says : TaskId → List ℕ = λ (u : TaskId). paragraph_said f u.0 in
      let all = circle ++ explained_activities f in
      let here = explained lt stands in
      record {
        once = once_distinct _ (are_once bytes_eq bytes_is bytes_itself (map says all));
        there = once_has bytes_eq bytes_is bytes_itself (map says all) (paragraph_said f t)
            (has_map says all (activity t) (Contains-append_right circle (explained_activities f) (activity t) here));
        named = passed_from (λ (u : TaskId). bytes_eq (paragraph_said f t) (paragraph_said f u.0)) (explained_activities f) (activity t) here (bytes_itself (paragraph_said f t));
        alone = λ said inside.
            bytes_is said (paragraph_said f t) (passed_is (λ (u : TaskId). bytes_eq said (paragraph_said f u.0)) (explained_activities f) (activity t) inside).1;
      }

  -- who has ended stands in none
  pub stands_in_none : end_at f t ≡ Done → (said : List ℕ) → Contains (those_said (paragraph_said f) (explained_activities f) said) (activity t) → ⊥
  stands_in_none done said inside =
      let listed = (passed_is (λ (u : TaskId). bytes_eq said (paragraph_said f u.0)) (explained_activities f) (activity t) inside).0 in
      elim (Contains-append_cases (activities_that waits_there f) (activities_that is_unstarted f) (activity t) listed) [
        | inl waits ↦ false≢true (sym (ap waits_there done)
            ∙ (passed_is (λ (u : TaskId). waits_there (end_at f u.0)) (list_below activity (length f.ends)) (activity t) waits).1)
        | inr unstarted ↦ false≢true (sym (ap is_unstarted done)
            ∙ (passed_is (λ (u : TaskId). is_unstarted (end_at f u.0)) (list_below activity (length f.ends)) (activity t) unstarted).1)
      ]
