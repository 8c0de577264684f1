use Rattle.std.proofs.Common.{◌≡◌, false, [], subst, sym, ◌∙◌, inl, inr}
use Rattle.std.proofs.lemmas.Bool.{cases_Bool}
use Rattle.std.proofs.lemmas.List.{get_or_read}
use Rattle.monitor_laws.specs.States.{Participant, new_participant}
use Rattle.monitor_words.specs.Stops.{keeps_waiting}
use Rattle.monitor_reasons.specs.Found.{participant_at}
use Rattle.monitor_reasons.proofs.Played.{nobody_keeps}
use Rattle.monitor_reasons.proofs.stopping.is_kept_for.Goals as goal

pub returns-else-keeps_waiting : goal.returns-else-keeps_waiting
returns-else-keeps_waiting c =
    let list = c.args.list.now in
    let u = c.args.u in
    let t = c.args.t in
    let u_is = get_or_read list u c.index-list-u.result c.requires.to c.index-list-u.is (new_participant 0 []) in
    let t_is = get_or_read list t c.index-list-t.result c.requires.from c.index-list-t.is (new_participant 0 []) in
    let itself =
    subst (λ (x : Participant). keeps_waiting x (participant_at list t) ≡ false) u_is
    (subst (λ (x : Participant). keeps_waiting c.index-list-u.result x ≡ false) t_is (sym c.keeps_waiting.ensures ∙ c.if-keeps_waiting.false)) in
    elim (cases_Bool c.some_keeps_for.result) [
      | inl some ↦ some ∙ sym (c.some_keeps_for.ensures.on some)
      | inr nobody ↦ nobody ∙ sym (nobody_keeps list u t c.requires.to c.requires.ascending c.args.played.now c.requires.played itself (c.some_keeps_for.ensures.off nobody))
    ]
