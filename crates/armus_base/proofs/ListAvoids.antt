-- The list in hand tells what a seat that has the lock may do, and a find agrees with the state in which it is loaded.
use Rattle.std.proofs.Common.{◌≡◌, ℕ, Option, Some, None, sym, ◌∙◌, subst, refl, inl, inr}
use Rattle.std.proofs.lemmas.Bool.{cases_eq}
use Rattle.armus_base.specs.declared.event.Event.{Event}
use Rattle.armus_base.specs.Places.{refused_at, published_after, state_at}
use Rattle.armus_base.specs.States.{State}
use Rattle.armus_base.specs.calls.Seats.{StillAgrees, await_word, found_by}
use Rattle.armus_base.specs.calls.DecisionLaws.{ListInHandAvoids, LoadKeepsLock}
use Rattle.armus_base.proofs.BoardRuns.{nobody_dead_at}
use Rattle.armus_base.proofs.ListDecides.{list_in_hand_decides}
use Rattle.armus_base.proofs.SerialIsAvoided.{publishing_leaves_nobody_dead}
use Rattle.armus_base.proofs.Steps.{updated_other, updated_same}

pub list_in_hand_avoids : ListInHandAvoids
list_in_hand_avoids plan t aim event seen list checked finds in_hand = (
  λ alive a lock lawful has far.
      let here = in_hand a lock lawful has far in
      let decides = list_in_hand_decides plan t aim event seen list a lock checked finds lawful has here.stands here.own here.others in
      let nobody = nobody_dead_at plan a lock checked lawful in (
        event,
        here.stands.awaits,
        publishing_leaves_nobody_dead (state_at plan a) t event nobody (λ would. alive (decides.misses_none would)),
      ),
  λ dead a lock lawful has far.
      let here = in_hand a lock lawful has far in
      let decides = list_in_hand_decides plan t aim event seen list a lock checked finds lawful has here.stands here.own here.others in
      (event, here.stands.awaits, decides.refuses dead),
)

-- what a word means agrees with the state in which it means it
word_agrees : (s : State) (u : ℕ) (x y : Option Event) → s.published u ≡ x → s.refused u ≡ y → StillAgrees s u (Some (found_by x y))
word_agrees s u (Some e) y p r = inl p
word_agrees s u None (Some e) p r = r
word_agrees s u None None p r = (p, r)

pub load_keeps_lock : LoadKeepsLock
load_keeps_lock plan t u a lock before now has load =
    let s = state_at plan a in
    let word = await_word plan u (a u) in
    let loaded : StillAgrees s u (now.found u) =
    subst (λ o. StillAgrees s u o) (sym (load.found u ∙ updated_same before.found u u (Some word) refl))
    (word_agrees s u (published_after plan u (a u).done) (refused_at plan u (a u).done (a u).dropped) refl refl) in (
      loaded,
      record {
        holds = has.holds;
        agrees = λ v other. elim (cases_eq v u) [
          | inl same ↦ subst (λ w. StillAgrees s w (now.found w)) (sym same) loaded
          | inr ne ↦
              subst (λ o. StillAgrees s v o) (sym (load.found v ∙ updated_other before.found u v (Some word) ne)) (has.agrees v other)
        ];
      },
    )
