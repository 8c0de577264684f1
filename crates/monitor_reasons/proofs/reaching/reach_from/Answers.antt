use Rattle.std.proofs.Common.{◌≡◌, ◌<◌, ◌==◌, ◌&&◌, ℕ, [], true, length, subst}
use Rattle.std.specs.List.{list_any}
use Rattle.std.proofs.lemmas.List.{get_or_read}
use Rattle.monitor_laws.specs.States.{Participant, new_participant}
use Rattle.monitor_words.specs.Stops.{keeps_waiting, lone_task, stands_for}
use Rattle.monitor_reasons.specs.Found.{participant_at}
use Rattle.monitor_reasons.specs.inside.Reaching.{IsFilling, HasDistance}
use Rattle.monitor_reasons.proofs.Passing.{fills_both, reached_both}
use Rattle.monitor_reasons.proofs.reaching.reach_from.Goals as goal

pub returns-clause-fills : goal.returns-clause-fills
returns-clause-fills c =
    let list = c.args.list.now in
    let place = c.args.place in
    let a = c.args.search.now in
    let b = c.reach_by.new.search in
    let e = c.reach_by_played.new.search in
    let d = c.args.d in
    let is = get_or_read list place c.index-list-place.result c.requires.place c.index-list-place.is (new_participant 0 []) in
    let first = subst (λ (x : Participant). IsFilling a b d (λ t. keeps_waiting x (participant_at list t))) is c.in_ok-reach_by.ensures.fills in
    let second = subst (λ (x : Participant). IsFilling b e d (λ t. list_any (λ w. stands_for w x && keeps_waiting w (participant_at list t)) list)) is c.in_ok-reach_by_played.ensures.fills in
    fills_both list place c.requires.place a b e d first second

pub returns-clause-reached : goal.returns-clause-reached
returns-clause-reached c =
    let list = c.args.list.now in
    let place = c.args.place in
    let a = c.args.search.now in
    let b = c.reach_by.new.search in
    let e = c.reach_by_played.new.search in
    let d = c.args.d in
    let is = get_or_read list place c.index-list-place.result c.requires.place c.index-list-place.is (new_participant 0 []) in
    let second = subst (λ (x : Participant). IsFilling b e d (λ t. list_any (λ w. stands_for w x && keeps_waiting w (participant_at list t)) list)) is c.in_ok-reach_by_played.ensures.fills in
    let own = subst (λ (x : Participant). (t : ℕ) → t < length list → keeps_waiting x (participant_at list t) ≡ true → HasDistance b t) is c.in_ok-reach_by.ensures.reached in
    let played =
    subst
    (λ (x : Participant). (t i : ℕ) → t < length list → i < length list → list_any (λ k. k == x.number) (lone_task (participant_at list i).condition) ≡ true →
    keeps_waiting (participant_at list i) (participant_at list t) ≡ true → HasDistance e t)
    is c.in_ok-reach_by_played.ensures.reached in
    reached_both list place c.requires.place a b e d c.requires.ascending second own played
