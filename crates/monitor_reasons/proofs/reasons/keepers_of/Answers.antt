use Rattle.std.proofs.Common.{◌≡◌, ◌<◌, ℕ, ◌+◌, ◌&&◌, List, [], length, sym, ◌∙◌, ap, subst, arith}
use Rattle.std.specs.Global.{Vec}
use Rattle.std.specs.List.{list_any}
use Rattle.std.proofs.lemmas.List.{get_or_read, take_all}
use Rattle.monitor_laws.specs.States.{Participant, new_participant}
use Rattle.monitor_words.specs.Stops.{keeps_waiting, stands_for}
use Rattle.monitor_reasons.specs.Found.{participant_at}
use Rattle.monitor_reasons.proofs.AtPlaces.{AreKeepersBefore, keepers_more, keepers_same}
use Rattle.monitor_reasons.proofs.reasons.keepers_of.Goals as goal
use Rattle.monitor_reasons.proofs.reasons.keepers_of.Goals.{then-keeps_waiting+in_ok-push, else-keeps_waiting}

pub loop-at-preserved : goal.loop-at-preserved
loop-at-preserved c =
    let us = c.args.list.now in
    let f = c.args.f.now in
    let n = c.loop-at.at in
    let within : n < length us = omega arith in
    let is : c.keeps_waiting.result ≡ keeps_waiting (participant_at us n) f =
    c.keeps_waiting.ensures ∙ ap (λ w. keeps_waiting w f) (get_or_read us n c.index-list-at.result within c.index-list-at.is (new_participant 0 [])) in
    elim c.if-keeps_waiting.branch [
      | then-keeps_waiting+in_ok-push w ↦
          subst (λ (v : Vec ℕ). AreKeepersBefore us f (n + 1) v.items) (sym w.places-is)
          (subst (λ (l : List ℕ). AreKeepersBefore us f (n + 1) l) (sym w.in_ok-push.ensures.items)
          (keepers_more us f c.loop-at.places.items n within c.loop-at.invariant (sym is ∙ w.if-keeps_waiting.true)))
      | else-keeps_waiting w ↦
          subst (λ (v : Vec ℕ). AreKeepersBefore us f (n + 1) v.items) (sym w.places-is)
          (keepers_same us f c.loop-at.places.items n within c.loop-at.invariant (sym is ∙ w.if-keeps_waiting.false))
    ]

pub returns : goal.returns
returns c =
    let us = c.args.list.now in
    record {
      within = c.loop-at.invariant.0;
      stand = λ u.
          c.loop-at.invariant.1 u
          ∙ ap (λ (l : List Participant). list_any (λ w. stands_for w u && keeps_waiting w c.args.f.now) l) (take_all c.loop-at.at us (omega arith));
    }
