-- Those who stand at places of a list.
use Rattle.std.proofs.Common.{◌≡◌, ℕ, ◌<◌, ◌+◌, ◌&&◌, ◌||◌, Bool, true, false, List, [], ◌∷◌, ◌++◌, length, map, take, refl, sym, ◌∙◌, ap}
use Rattle.std.specs.Prelude.{All}
use Rattle.std.specs.List.{list_any}
use Rattle.std.proofs.lemmas.List.Elements.{All-push}
use Rattle.std.proofs.lemmas.List.Folds.{list_any-append, list_any_more}
use Rattle.monitor_laws.specs.States.{Participant, new_participant}
use Rattle.monitor_words.specs.Stops.{keeps_waiting, stands_for}
use Rattle.monitor_reasons.specs.Found.{participant_at}

pub any_at_places : (p : Participant → Bool) (us : List Participant) (places : List ℕ) →
    list_any (λ i. p (participant_at us i)) places ≡ list_any p (map (participant_at us) places)
any_at_places p us [] = refl
any_at_places p us (i ∷ places) = ap (λ b. p (participant_at us i) || b) (any_at_places p us places)

-- ---- keepers

-- of the first n of the list
abbrev pub AreKeepersBefore : List Participant → Participant → ℕ → List ℕ → Type 0
AreKeepersBefore us f n places =
    All (λ i. i < length us) places
    × ((u : Participant) → list_any (λ i. stands_for (participant_at us i) u) places ≡ list_any (λ w. stands_for w u && keeps_waiting w f) (take n us))

one_more : (x stands keeps : Bool) → keeps ≡ true → (x || (stands || false)) ≡ (x || (stands && keeps))
one_more x true keeps on = ap (λ b. x || b) (sym on)
one_more x false keeps on = refl

none_more : (x stands keeps : Bool) → keeps ≡ false → x ≡ (x || (stands && keeps))
none_more true stands keeps off = refl
none_more false true keeps off = sym off
none_more false false keeps off = refl

pub keepers_more : (us : List Participant) (f : Participant) (places : List ℕ) (n : ℕ) → n < length us → AreKeepersBefore us f n places →
    keeps_waiting (participant_at us n) f ≡ true → AreKeepersBefore us f (n + 1) (places ++ n ∷ [])
keepers_more us f places n within before keeps = (
  All-push (λ i. i < length us) places n before.0 within,
  λ u.
      list_any-append (λ i. stands_for (participant_at us i) u) places (n ∷ [])
      ∙ ap (λ b. b || (stands_for (participant_at us n) u || false)) (before.1 u)
      ∙ one_more (list_any (λ w. stands_for w u && keeps_waiting w f) (take n us)) (stands_for (participant_at us n) u) (keeps_waiting (participant_at us n) f) keeps
      ∙ sym (list_any_more (λ w. stands_for w u && keeps_waiting w f) us n (new_participant 0 []) within),
)

pub keepers_same : (us : List Participant) (f : Participant) (places : List ℕ) (n : ℕ) → n < length us → AreKeepersBefore us f n places →
    keeps_waiting (participant_at us n) f ≡ false → AreKeepersBefore us f (n + 1) places
keepers_same us f places n within before keeps = (
  before.0,
  λ u.
      before.1 u
      ∙ none_more (list_any (λ w. stands_for w u && keeps_waiting w f) (take n us)) (stands_for (participant_at us n) u) (keeps_waiting (participant_at us n) f) keeps
      ∙ sym (list_any_more (λ w. stands_for w u && keeps_waiting w f) us n (new_participant 0 []) within),
)
