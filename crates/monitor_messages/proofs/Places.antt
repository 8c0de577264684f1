-- Those who stand at places of the list.
use Rattle.std.proofs.Common.{◌≡◌, ℕ, ◌<◌, Bool, true, false, ◌&&◌, Option, Some, None, List, [], ◌∷◌, ◌++◌, length, map, refl, sym, ◌∙◌, ap, subst}
use Rattle.std.specs.Prelude.{All, IfNone, IfSome, find, option_to_list, ◌==◌}
use Rattle.std.specs.List.{list_any, slice_get}
use Rattle.std.proofs.lemmas.Bool.{cond-false}
use Rattle.std.proofs.lemmas.List.{length-map}
use Rattle.std.proofs.lemmas.List.Elements.{All-head, All-tail}
use Rattle.std.proofs.lemmas.Option.{slice_get-get_or}
use Rattle.monitor_laws.specs.Lines.{TraceLine}
use Rattle.monitor_laws.specs.States.{Participant, TraceState, new_participant}
use Rattle.monitor_words.specs.Messages.{others_told, those_only_in}
use Rattle.monitor_words.specs.Reasons.{StuckBecause}
use Rattle.monitor_words.specs.Words.{groups_by, wait_alike}
use Rattle.monitor_words.specs.calls.Values.{rows_shown, told_rows_shown}
use Rattle.monitor_state.specs.inside.FirstPlaces.{IsFirstAt}
use Rattle.monitor_state.proofs.OnePassing.{found_first, found_none}
use Rattle.monitor_reasons.specs.Found.{participant_at}
use Rattle.monitor_rows.specs.Places.{participants_at}
use Rattle.monitor_messages.specs.declared.newly.NewlyStuck.{NewlyStuck}
use Rattle.monitor_messages.specs.inside.Newly.{AreNewlyStuck, IsFoundAt, TellsNewly, IsToldOn, waits_by}

-- the first place at which a test passes is where its first stands
pub found_at : (p : Participant → Bool) (us : List Participant) (at : Option ℕ) → IfSome at (IsFirstAt p us) → IfNone at (list_any p us ≡ false) → IsFoundAt p us at
found_at p us None some none = found_none p us none
found_at p us (Some i) some none = (some.within, found_first p us i (new_participant 0 []) some)

-- of a test that passes only where something else is so
pub found_where : (b : Bool) (p : Participant → Bool) (us : List Participant) (at : Option ℕ) → b ≡ true → IsFoundAt p us at → IsFoundAt (λ u. b && p u) us at
found_where b p us at on found = subst (λ x. IsFoundAt (λ u. x && p u) us at) (sym on) found

-- nobody passes a test that always fails
pub nobody_found : (us : List Participant) → find (λ u. false) us ≡ None
nobody_found [] = refl
nobody_found (u ∷ us) = nobody_found us

pub none_found : (b : Bool) (p : Participant → Bool) (us : List Participant) → b ≡ false → IsFoundAt (λ u. b && p u) us None
none_found b p us off = subst (λ x. IsFoundAt (λ u. x && p u) us None) (sym off) (nobody_found us)

-- somebody stands at a place within the list
at_place : (us : List Participant) (i : ℕ) → i < length us → slice_get us i ≡ Some (participant_at us i)
at_place us i within = slice_get-get_or us i (new_participant 0 []) within

-- those at places within the list
pub all_at : (us : List Participant) (places : List ℕ) → All (λ i. i < length us) places → participants_at us places ≡ map (participant_at us) places
all_at us [] within = refl
all_at us (i ∷ places) within = ap (λ o. option_to_list o ++ participants_at us places) (at_place us i (All-head (λ k. k < length us) i places within)) ∙ ap (λ l. participant_at us i ∷ l) (all_at us places (All-tail (λ k. k < length us) i places within))

-- the rows of tasks that become stuck, where they are told
pub rows_are_told : (s : TraceState) (was stuck : ℕ → Bool) (f : ℕ) (places : List ℕ) (because : StuckBecause) → f < length s.list → All (λ i. i < length s.list) places →
    ((length places == 1) && list_any (λ u. was u.number) (others_told because)) ≡ false →
    rows_shown s stuck (groups_by wait_alike (participants_at s.list (f ∷ []) ++ participants_at s.list places) (participants_at s.list places))
    ≡ told_rows_shown s was stuck (participant_at s.list f) (map (participant_at s.list) places) because
rows_are_told s was stuck f places because within all told =
    let us = s.list in
    let newly = map (participant_at us) places in
    ap (λ l. rows_shown s stuck (groups_by wait_alike (participants_at us (f ∷ []) ++ l) l)) (all_at us places all)
    ∙ ap (λ o. rows_shown s stuck (groups_by wait_alike ((option_to_list o ++ []) ++ newly) newly)) (at_place us f within)
    ∙ sym (cond-false ((length newly == 1) && list_any (λ u. was u.number) (others_told because)) (record { rows = []; left = 0 }) (rows_shown s stuck (groups_by wait_alike (participant_at us f ∷ newly) newly))
    (ap (λ n. (n == 1) && list_any (λ u. was u.number) (others_told because)) (length-map places (participant_at us)) ∙ told))

-- the message on those at places is that on them
pub told_at_places : (l : TraceLine) (s : TraceState) (was stuck : ℕ → Bool) (newly : NewlyStuck) (words : List ℕ) → AreNewlyStuck l s was stuck newly →
    IsToldOn s was stuck (participant_at s.list newly.first) (map (participant_at s.list) newly.places.items) words → TellsNewly (waits_by l) s was stuck (those_only_in s stuck was) words true
told_at_places l s was stuck newly words are told =
    let i = are.first.1 in
    let others = are.first.2 in
    let same = ap (map (participant_at s.list)) are.first.3 in
    subst (λ us. TellsNewly (waits_by l) s was stuck us words true) (sym same ∙ are.are)
    (participant_at s.list newly.first, are.first.4, subst (λ us. IsToldOn s was stuck (participant_at s.list newly.first) us words) same told, refl)
