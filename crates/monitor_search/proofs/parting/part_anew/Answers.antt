use Rattle.std.proofs.Common.{◌≤◌, ◌≡◌, ◌<◌, ◌++◌, ◌∷◌, [], Bool, not, List, length, get_or, take, append_assoc, sym, ◌∙◌, ap, Bor, rules, true, false}
use Rattle.std.specs.Prelude.{filter}
use Rattle.std.proofs.lemmas.List.{take_all}
use Rattle.monitor_laws.specs.States.{Participant}
use Rattle.monitor_state.specs.Values.{condition_value}
use Rattle.monitor_search.specs.inside.Partings.{is_kept_by, referred}
use Rattle.monitor_search.proofs.References.{more_fails, more_passes, referred-append}
use Rattle.monitor_search.proofs.parting.part_anew.Goals as goal
use Rattle.monitor_search.proofs.parting.part_anew.Goals.{then-keep+in_ok-push, else-keep+in_ok-push-2}

pub loop-u-preserved : goal.loop-u-preserved
loop-u-preserved c =
    let items = c.args.parting.now.inside.items in
    let inside = referred items in
    let outside = referred c.args.parting.now.outside.items in
    let test : Participant → Bool = λ u. is_kept_by inside outside u.condition in
    let i = c.loop-u.u-index in
    let r = c.u-item.result in
    let is : r ≡ get_or items i r = c.u-item.is ∙ ap (λ (l : List (Bor Participant)). get_or l i r) c.deref-u-items.ensures.value in
    let within : i < length items = search rules in
    let told : c.keep.result ≡ test r.now =
    c.keep.ensures ∙ c.in_ok-keepers.ensures (condition_value c.condition.result.now) ∙ ap (is_kept_by inside outside) c.condition.ensures in
    elim c.if-keep.branch [
      | then-keep+in_ok-push w ↦
          (let on : test r.now ≡ true = sym told ∙ w.if-keep.true in record {
            inside = ap (λ v. referred v.items) w.inside-is ∙ ap referred w.in_ok-push.ensures.items ∙ referred-append c.loop-u.inside.items (r ∷ []) ∙ ap (λ (l : List Participant). l ++ r.now ∷ []) c.loop-u.invariant.inside ∙ sym (more_passes items i r within is test on);
            outside = ap (λ v. referred v.items) w.outside-is ∙ c.loop-u.invariant.outside ∙ ap (λ (l : List Participant). outside ++ l) (sym (more_fails items i r within is (λ u. not (test u)) (ap not on)));
          })
      | else-keep+in_ok-push-2 w ↦
          (let off : test r.now ≡ false = sym told ∙ w.if-keep.false in record {
            inside = ap (λ v. referred v.items) w.inside-is ∙ c.loop-u.invariant.inside ∙ sym (more_fails items i r within is test off);
            outside =
                ap (λ v. referred v.items) w.outside-is ∙ ap referred w.in_ok-push-2.ensures.items ∙ referred-append c.loop-u.outside.items (r ∷ []) ∙ ap (λ (l : List Participant). l ++ r.now ∷ []) c.loop-u.invariant.outside
                ∙ append_assoc outside (filter (λ u. not (test u)) (referred (take i items))) (r.now ∷ []) ∙ ap (λ (l : List Participant). outside ++ l) (sym (more_passes items i r within is (λ u. not (test u)) (ap not off)));
          })
    ]

pub returns-clause-inside : goal.returns-clause-inside
returns-clause-inside c =
    let items = c.args.parting.now.inside.items in
    let test : Participant → Bool = λ u. is_kept_by (referred items) (referred c.args.parting.now.outside.items) u.condition in
    let past : length items ≤ c.loop-u.u-index = search rules in
    c.loop-u.invariant.inside ∙ ap (λ (l : List (Bor Participant)). filter test (referred l)) (take_all c.loop-u.u-index items past)

pub returns-clause-outside : goal.returns-clause-outside
returns-clause-outside c =
    let items = c.args.parting.now.inside.items in
    let outside = referred c.args.parting.now.outside.items in
    let test : Participant → Bool = λ u. not (is_kept_by (referred items) outside u.condition) in
    let past : length items ≤ c.loop-u.u-index = search rules in
    c.loop-u.invariant.outside ∙ ap (λ (l : List (Bor Participant)). outside ++ filter test (referred l)) (take_all c.loop-u.u-index items past)
