-- Those who are stuck no more, as they were known.
use Rattle.std.proofs.Common.{◌≡◌, ℕ, Bool, true, false, not, List, [], ◌∷◌, map, refl, sym, ◌∙◌, ap, inl, inr, ◌⊎◌}
use Rattle.std.specs.Prelude.{filter}
use Rattle.std.proofs.lemmas.Bool.{cases_Bool}
use Rattle.monitor_laws.specs.States.{Participant, TraceState}
use Rattle.monitor_laws.proofs.OwnLines.{kept, left_out}
use Rattle.monitor_words.specs.Messages.{resolved_words, those_only_in}
use Rattle.monitor_words.specs.calls.Values.{first_names}
use Rattle.monitor_words.specs.inside.ValueMessages.{shown_resolved_words}
use Rattle.monitor_words.proofs.Joined.{joins_resolved}
use Rattle.monitor_search.specs.Known.{AreStuckTasks, has_stuck_number, known_task}
use Rattle.monitor_search.proofs.Filtered.{filter_twice}
use Rattle.monitor_rows.specs.KnownNames.{known_only_in, names_of_known}
use Rattle.monitor_messages.specs.inside.Newly.{gone_words}

-- a filter of what each is mapped to
filter_of_map : {A B : Type 0} (f : A → B) (p : B → Bool) (xs : List A) → filter p (map f xs) ≡ map f (filter (λ x. p (f x)) xs)
filter_of_map f p [] = refl
filter_of_map f p (x ∷ xs) = by_test (filter_of_map f p xs) (cases_Bool (p (f x)))
  where
    by_test : filter p (map f xs) ≡ map f (filter (λ y. p (f y)) xs) → ((p (f x) ≡ true) ⊎ (p (f x) ≡ false)) → filter p (map f (x ∷ xs)) ≡ map f (filter (λ y. p (f y)) (x ∷ xs))
    by_test rest (inl on) = kept p (f x) (map f xs) on ∙ ap (λ l. f x ∷ l) rest ∙ sym (ap (map f) (kept (λ y. p (f y)) x xs on))
    by_test rest (inr off) = left_out p (f x) (map f xs) off ∙ rest ∙ sym (ap (map f) (left_out (λ y. p (f y)) x xs off))

-- the names of known tasks are those of the tasks
known_names : (us : List Participant) → map (λ (t : ℕ × List ℕ). t.1) (map known_task us) ≡ map (λ (u : Participant). u.name) us
known_names [] = refl
known_names (u ∷ us) = ap (λ l. u.name ∷ l) (known_names us)

-- of tasks that were known
gone_of_tasks : (us : List Participant) → gone_words (names_of_known (map known_task us)) ≡ resolved_words us
gone_of_tasks [] = refl
gone_of_tasks (u ∷ us) = ap (λ l. shown_resolved_words (first_names l)) (known_names (u ∷ us)) ∙ joins_resolved (u ∷ us)

-- the known ones who are stuck no more are those of the list
gone_are : (s : TraceState) (was stuck : List (ℕ × List ℕ)) → AreStuckTasks s was → known_only_in was stuck ≡ map known_task (those_only_in s (has_stuck_number was) (has_stuck_number stuck))
gone_are s was stuck are =
    ap (filter (λ (t : ℕ × List ℕ). not (has_stuck_number stuck t.0))) are.ordered
    ∙ filter_of_map known_task (λ (t : ℕ × List ℕ). not (has_stuck_number stuck t.0)) (filter (λ (u : Participant). has_stuck_number was u.number) s.list)
    ∙ ap (map known_task) (filter_twice (λ (u : Participant). not (has_stuck_number stuck u.number)) (λ (u : Participant). has_stuck_number was u.number) s.list)

-- the message on them
pub gone_is_told : (s : TraceState) (was stuck : List (ℕ × List ℕ)) → AreStuckTasks s was →
    gone_words (names_of_known (known_only_in was stuck)) ≡ resolved_words (those_only_in s (has_stuck_number was) (has_stuck_number stuck))
gone_is_told s was stuck are =
    ap (λ k. gone_words (names_of_known k)) (gone_are s was stuck are) ∙ gone_of_tasks (those_only_in s (has_stuck_number was) (has_stuck_number stuck))
