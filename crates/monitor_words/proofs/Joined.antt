-- What is written of the values of a state is what the definitions say.
use Rattle.std.proofs.Common.{◌≡◌, ℕ, zero, suc, ◌<◌, ◌-◌, Bool, true, false, ◌&&◌, List, [], ◌∷◌, ◌++◌, refl, sym, ◌∙◌, ap, inl, inr, ◌⊎◌, arith, length, append_assoc, append-nil}
use Rattle.std.specs.Prelude.{Option, ◌==◌, codes, decimal, filter, flat_map, if◌then◌else◌, map, nat_le, take, unwrap_or}
use Rattle.std.specs.List.{join_by, list_any}
use Rattle.std.proofs.lemmas.Bool.{cases_Bool, cond-true, cond-false, leb-false, ne_eqb}
use Rattle.std.proofs.lemmas.List.Folds.{flat_map-map}
use Rattle.monitor_laws.specs.Faults.{phase_on}
use Rattle.monitor_laws.specs.States.{Condition, Running, Waiting, Ended, AnyTask, OneOf, Participant, TraceState}
use Rattle.monitor_words.specs.Messages.{is_kept_waiting, others_told, rows_told, tasks_line}
use Rattle.monitor_words.specs.Reasons.{EndedKeeps, InCircle, SomebodyMissing, StuckBecause, StuckStops}
use Rattle.monitor_words.specs.Sentences.{circle_behind, links_words, reason_words, sentence_words, told_verdict}
use Rattle.monitor_words.specs.Words.{at_words, condition_words, count_behind, waited_event, waited_words, group_words, groups_by, keeper_groups, keeper_words, keepers_words, message_line, more_line, more_words, names_of, names_words, rows_words, wait_alike, wait_row_words, who_words}
use Rattle.monitor_words.specs.declared.reports.WaitStanding.TheVariants as w
use Rattle.monitor_words.specs.declared.sentences.StuckReason.TheVariants as r
use Rattle.monitor_words.specs.inside.ValueMessages.{shown_verdict, standing_word}
use Rattle.monitor_words.specs.inside.ValueWords.{circle_end, is_one, keeper_condition_words, next_words, placed_words, seen_words, shown_group_words, shown_keepers_words, shown_row_words, shown_rows_words, shown_reason_words, shown_sentence_words}
use Rattle.monitor_words.specs.calls.Joins.{JoinsList, JoinsRefusal, JoinsReport, JoinsResolved, JoinsTold}
use Rattle.monitor_words.specs.calls.Values.{condition_shown, first_names, group_shown, names_shown, placed_task, reason_shown, row_shown, rows_shown, sentence_shown, shown_circle, told_rows_shown}

-- equal at each, equal over a list
flat_map_same : {A B : Type 0} (f g : A → List B) → ((x : A) → f x ≡ g x) → (xs : List A) → flat_map f xs ≡ flat_map g xs
flat_map_same f g same [] = refl
flat_map_same f g same (x ∷ xs) = ap (λ y. y ++ flat_map f xs) (same x) ∙ ap (λ y. g x ++ y) (flat_map_same f g same xs)

flat_map_joined : {A B C : Type 0} (f : B → List C) (v : A → B) (g : A → List C) → ((x : A) → f (v x) ≡ g x) → (xs : List A) → flat_map f (map v xs) ≡ flat_map g xs
flat_map_joined f v g same xs = flat_map-map f v xs ∙ flat_map_same (λ x. f (v x)) g same xs

join_by_joined : {A B C : Type 0} (f : B → List C) (v : A → B) (g : A → List C) (between : List C) → ((x : A) → f (v x) ≡ g x) → (xs : List A) → join_by f between (map v xs) ≡ join_by g between xs
join_by_joined f v g between same [] = refl
join_by_joined f v g between same (x ∷ xs) =
    ap (λ y. y ++ flat_map (λ z. between ++ f z) (map v xs)) (same x)
    ∙ ap (λ y. g x ++ y) (flat_map_joined (λ z. between ++ f z) v (λ z. between ++ g z) (λ z. ap (λ y. between ++ y) (same z)) xs)

-- one name is shown where there is one
one_shown : (names : List (List ℕ)) → is_one (first_names names) ≡ (length names == 1)
one_shown [] = refl
one_shown (x ∷ []) = refl
one_shown (x ∷ y ∷ []) = refl
one_shown (x ∷ y ∷ z ∷ names) = sym (ne_eqb (length (x ∷ y ∷ z ∷ names)) 1 (λ e. omega arith))

one_of_them : (us : List Participant) → is_one (names_shown us) ≡ (length us == 1)
one_of_them [] = refl
one_of_them (x ∷ []) = refl
one_of_them (x ∷ y ∷ []) = refl
one_of_them (x ∷ y ∷ z ∷ us) = sym (ne_eqb (length (x ∷ y ∷ z ∷ us)) 1 (λ e. omega arith))

-- ---- keepers

pub condition_joined : (stuck : Bool) (place : Option (List ℕ)) (c : Condition) →
    keeper_condition_words (condition_shown stuck c) ++ seen_words (condition_shown stuck c) place ≡ condition_words stuck place c
condition_joined stuck place Running = refl
condition_joined true place (Waiting p n) = refl
condition_joined false place (Waiting p n) = refl
condition_joined stuck place Ended = refl
condition_joined stuck place AnyTask = append-nil (codes "any task")
condition_joined stuck place (OneOf names tasks) =
    append-nil ((if is_one (first_names names) then codes "only " else codes "one of ") ++ names_words names)
    ∙ ap (λ b. (if b then codes "only " else codes "one of ") ++ names_words names) (one_shown names)

-- pieces in a row
five_and_three : (a n t v e c k z : List ℕ) → ((a ++ n ++ t) ++ (v ++ e)) ++ (c ++ k ++ z) ≡ (a ++ n ++ t ++ v ++ e ++ c ++ k) ++ z
five_and_three a n t v e c k z = simp append_assoc

group_joined : (stuck : ℕ → Bool) (p : List ℕ) (g : Participant × List Participant) → shown_group_words (group_shown stuck p g) ≡ group_words stuck p g
group_joined stuck p g =
    ap (λ b. (names_of g.1 ++ (if b then codes " has phase " else codes " have phase ") ++ decimal (unwrap_or (phase_on g.0 p) 0) ++ codes " (") ++ (keeper_condition_words (condition_shown (stuck g.0.number) g.0.condition) ++ seen_words (condition_shown (stuck g.0.number) g.0.condition) g.0.place ++ codes ")"))
    (one_of_them g.1)
    ∙ ap (λ x. (names_of g.1 ++ (if length g.1 == 1 then codes " has phase " else codes " have phase ") ++ decimal (unwrap_or (phase_on g.0 p) 0) ++ codes " (") ++ (x ++ codes ")"))
    (condition_joined (stuck g.0.number) g.0.place g.0.condition)
    ∙ sym (append_assoc (names_of g.1 ++ (if length g.1 == 1 then codes " has phase " else codes " have phase ") ++ decimal (unwrap_or (phase_on g.0 p) 0) ++ codes " (") (keeper_words stuck g.0) (codes ")"))

-- ---- rows

keepers_joined : (s : TraceState) (stuck : ℕ → Bool) (t : Participant) →
    join_by shown_group_words (codes ", ") (map (group_shown stuck (waited_event t).0) (take 3 (keeper_groups s stuck t))) ++ more_words (count_behind 3 (keeper_groups s stuck t))
    ≡ keepers_words s stuck t
keepers_joined s stuck t =
    ap (λ x. x ++ more_words (count_behind 3 (keeper_groups s stuck t)))
    (join_by_joined shown_group_words (group_shown stuck (waited_event t).0) (group_words stuck (waited_event t).0) (codes ", ") (group_joined stuck (waited_event t).0) (take 3 (keeper_groups s stuck t)))

row_joined : (s : TraceState) (stuck : ℕ → Bool) (g : Participant × List Participant) → shown_row_words (row_shown s stuck g) ≡ wait_row_words s stuck g
row_joined s stuck g =
    ap (λ b. ((codes "  " ++ names_of g.1 ++ at_words (codes " at ") g.0.place) ++ ((if b then codes " waits for " else codes " wait for ") ++ waited_words (waited_event g.0))) ++ (codes "; " ++ shown_keepers_words (row_shown s stuck g) ++ codes "\n")) (one_of_them g.1)
    ∙ ap (λ x. ((codes "  " ++ names_of g.1 ++ at_words (codes " at ") g.0.place) ++ ((if length g.1 == 1 then codes " waits for " else codes " wait for ") ++ waited_words (waited_event g.0))) ++ (codes "; " ++ x ++ codes "\n")) (keepers_joined s stuck g.0)
    ∙ five_and_three (codes "  ") (names_of g.1) (at_words (codes " at ") g.0.place) (if length g.1 == 1 then codes " waits for " else codes " wait for ") (waited_words (waited_event g.0)) (codes "; ") (keepers_words s stuck g.0) (codes "\n")

rows_joined : (s : TraceState) (stuck : ℕ → Bool) (groups : List (Participant × List Participant)) → shown_rows_words (rows_shown s stuck groups) ≡ rows_words s stuck groups
rows_joined s stuck groups =
    ap (λ x. x ++ more_line (count_behind 10 groups)) (flat_map_joined shown_row_words (row_shown s stuck) (wait_row_words s stuck) (row_joined s stuck) (take 10 groups))

told_rows_joined : (s : TraceState) (was stuck : ℕ → Bool) (f : Participant) (newly : List Participant) (because : StuckBecause) → shown_rows_words (told_rows_shown s was stuck f newly because) ≡ rows_told s was stuck f newly because
told_rows_joined s was stuck f newly because = by_test ((length newly == 1) && list_any (λ u. was u.number) (others_told because))
  where
    by_test : (b : Bool) → shown_rows_words (if b then record { rows = []; left = 0 } else rows_shown s stuck (groups_by wait_alike (f ∷ newly) newly)) ≡ (if b then [] else rows_words s stuck (groups_by wait_alike (f ∷ newly) newly))
    by_test true = refl
    by_test false = rows_joined s stuck (groups_by wait_alike (f ∷ newly) newly)

-- ---- sentences

links_joined : (us : List Participant) → flat_map (λ x. placed_words x ++ next_words) (map placed_task us) ≡ links_words us
links_joined us = flat_map_joined (λ x. placed_words x ++ next_words) placed_task (λ u. who_words u ++ codes ", which waits for ") (λ u. refl) us

end_joined : (n : ℕ) (first : List ℕ) → 0 < n → circle_end n first ≡ decimal n ++ codes " more, the last of which waits for " ++ first
end_joined zero first some = absurd (omega arith)
end_joined (suc n) first some = refl

circle_joined : (f : Participant) (others : List Participant) → shown_reason_words f.name (shown_circle others) ≡ circle_behind f others
circle_joined f [] = refl
circle_joined f (u ∷ others) = by_test (cases_Bool (nat_le (length (u ∷ others)) 7))
  where
    by_test : ((nat_le (length (u ∷ others)) 7 ≡ true) ⊎ (nat_le (length (u ∷ others)) 7 ≡ false)) → shown_reason_words f.name (shown_circle (u ∷ others)) ≡ circle_behind f (u ∷ others)
    by_test (inl few) =
        ap (shown_reason_words f.name) (cond-true (nat_le (length (u ∷ others)) 7) (r.InCircle (map placed_task (u ∷ others)) 0) (r.InCircle (map placed_task (take 6 (u ∷ others))) (length (u ∷ others) - 6)) few)
        ∙ ap (λ x. x ++ f.name) (links_joined (u ∷ others))
        ∙ sym (cond-true (nat_le (length (u ∷ others)) 7) (links_words (u ∷ others) ++ f.name) (links_words (take 6 (u ∷ others)) ++ decimal (length (u ∷ others) - 6) ++ codes " more, the last of which waits for " ++ f.name) few)
    by_test (inr many) =
        ap (shown_reason_words f.name) (cond-false (nat_le (length (u ∷ others)) 7) (r.InCircle (map placed_task (u ∷ others)) 0) (r.InCircle (map placed_task (take 6 (u ∷ others))) (length (u ∷ others) - 6)) many)
        ∙ ap (λ x. x ++ circle_end (length (u ∷ others) - 6) f.name) (links_joined (take 6 (u ∷ others)))
        ∙ ap (λ x. links_words (take 6 (u ∷ others)) ++ x) (end_joined (length (u ∷ others) - 6) f.name (let far = leb-false (length (u ∷ others)) 7 many in omega arith))
        ∙ sym (append_assoc (links_words (take 6 (u ∷ others))) (decimal (length (u ∷ others) - 6) ++ codes " more, the last of which waits for ") f.name)
        ∙ ap (λ x. x ++ f.name) (sym (append_assoc (links_words (take 6 (u ∷ others))) (decimal (length (u ∷ others) - 6)) (codes " more, the last of which waits for ")))
        ∙ sym (cond-false (nat_le (length (u ∷ others)) 7) (links_words (u ∷ others) ++ f.name) (links_words (take 6 (u ∷ others)) ++ decimal (length (u ∷ others) - 6) ++ codes " more, the last of which waits for " ++ f.name) many)

reason_joined : (f : Participant) (because : StuckBecause) → shown_reason_words f.name (reason_shown f because) ≡ reason_words f because
reason_joined f (InCircle others) = circle_joined f others
reason_joined f (EndedKeeps u) = refl
reason_joined f (StuckStops u) = refl
reason_joined f SomebodyMissing = refl

sentence_joined : (verb : List ℕ) (f : Participant) (because : StuckBecause) → shown_sentence_words verb (sentence_shown f because) ≡ sentence_words verb f because
sentence_joined verb f because = ap (λ x. who_words f ++ verb ++ x) (reason_joined f because)

verdict_joined : (f : Participant) (because : StuckBecause) → shown_verdict (reason_shown f because) ≡ told_verdict because
verdict_joined f (InCircle others) = by_test (nat_le (length others) 7)
  where
    by_test : (b : Bool) → shown_verdict (if b then r.InCircle (map placed_task others) 0 else r.InCircle (map placed_task (take 6 others)) (length others - 6)) ≡ codes "deadlock: "
    by_test true = refl
    by_test false = refl
verdict_joined f (EndedKeeps u) = refl
verdict_joined f (StuckStops u) = refl
verdict_joined f SomebodyMissing = refl

-- ---- messages

pub joins_told : JoinsTold
joins_told s was stuck f newly because =
    ap (λ x. message_line (x ++ shown_sentence_words (codes " waits for ") (sentence_shown f because)) ++ shown_rows_words (told_rows_shown s was stuck f newly because)) (verdict_joined f because)
    ∙ ap (λ x. message_line (told_verdict because ++ x) ++ shown_rows_words (told_rows_shown s was stuck f newly because)) (sentence_joined (codes " waits for ") f because)
    ∙ ap (λ x. message_line (told_verdict because ++ sentence_words (codes " waits for ") f because) ++ x) (told_rows_joined s was stuck f newly because)

pub joins_refusal : JoinsRefusal
joins_refusal f because = ap (λ x. message_line (codes "refuse " ++ f.name ++ codes ": " ++ x)) (sentence_joined (codes " would wait for ") f because)

pub joins_resolved : JoinsResolved
joins_resolved us = refl

pub joins_report : JoinsReport
joins_report s stuck = ap (λ x. tasks_line s stuck ++ x) (rows_joined s stuck (groups_by wait_alike (filter (is_kept_waiting s) s.list) (filter (is_kept_waiting s) s.list)))

standing_joined : (b k : Bool) → standing_word (if b then w.Stuck else if k then w.Held else w.Free) ≡ (if b then codes "stuck " else if k then codes "held " else codes "free ")
standing_joined true k = refl
standing_joined false true = refl
standing_joined false false = refl

pub joins_list : JoinsList
joins_list s stuck t = ap (λ x. message_line (x ++ t.name ++ codes " " ++ (waited_event t).0 ++ codes " " ++ decimal (waited_event t).1)) (standing_joined (stuck t.number) (is_kept_waiting s t))
