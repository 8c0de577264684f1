use Rattle.std.proofs.Common.{◌<◌, ◌==◌, ℕ, length, get_or, take, sym, ◌∙◌, inl, inr, eq-eqb, rules}
use Rattle.std.specs.List.{list_any}
use Rattle.std.proofs.lemmas.Bool.{eqb-true, or_cases}
use Rattle.std.proofs.lemmas.List.Folds.{list_any_more}
use Rattle.monitor_reasons.specs.inside.PhaserPlaces.{places_numbered}
use Rattle.monitor_reasons.proofs.Placing.{kept_added, now_added}
use Rattle.monitor_reasons.proofs.phaser_places.add_for_each.Goals as goal

pub loop-number-preserved : goal.loop-number-preserved
loop-number-preserved c =
    let numbers = c.args.numbers.now in
    let i = c.loop-number.number-index in
    let within : i < length numbers = search rules in
    let number = get_or numbers i 0 in
    let same = λ (a b : ℕ). eqb-true a b in
    let before = places_numbered c.loop-number.groups in
    let after = places_numbered c.add_numbered.new.groups in
    let now = c.in_ok-add_numbered.ensures in
    record {
      own = λ k some.
          elim (or_cases (list_any (λ j. j == k) (take i numbers)) (number == k) (sym (list_any_more (λ j. j == k) numbers i 0 within) ∙ some)) [
            | inl old ↦ kept_added (λ (a b : ℕ). a == b) same before after number c.args.place now.own now.others k c.args.place (c.loop-number.invariant.own k old)
            | inr new ↦ now_added (λ (a b : ℕ). a == b) same before after number c.args.place now.own now.others k (eq-eqb k number (sym (eqb-true number k new)))
          ];
      others = λ k v within_v. kept_added (λ (a b : ℕ). a == b) same before after number c.args.place now.own now.others k v (c.loop-number.invariant.others k v within_v);
    }
