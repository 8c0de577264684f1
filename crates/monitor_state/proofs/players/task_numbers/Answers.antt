use Rattle.std.proofs.Common.{◌≡◌, ◌⊎◌, ◌∷◌, true, ℕ, sym, ◌∙◌, ap, subst}
use Rattle.std.specs.Prelude.{◌↔◌, Contains, bytes_eq}
use Rattle.std.specs.Option.{option_copied}
use Rattle.trace_lines.specs.inside.Reading.{behind_word, spaced_words, word_before_space, words_behind}
use Rattle.trace_lines.proofs.WordByWord.{words_are}
use Rattle.monitor_state.specs.inside.Players.{AreNumbersSoFar}
use Rattle.monitor_state.proofs.Gathering.{gathered_all, gathered_more, gathered_nothing}
use Rattle.monitor_state.proofs.players.task_numbers.Goals as goal

pub loop-rest-preserved-in_ok-put_in_order : goal.loop-rest-preserved-in_ok-put_in_order
loop-rest-preserved-in_ok-put_in_order c =
    let us = c.args.listing.now in
    let names = spaced_words c.args.names.now in
    let b = c.in-Some.bytes.now in
    let is : words_behind (option_copied c.loop-rest.rest) ≡ word_before_space b ∷ words_behind (behind_word b) = ap (λ o. words_behind (option_copied o)) c.in-Some.is ∙ words_are b in
    let gathered : AreNumbersSoFar us names (word_before_space b ∷ words_behind (behind_word b)) c.loop-rest.numbers.items = subst (λ l. AreNumbersSoFar us names l c.loop-rest.numbers.items) is c.loop-rest.invariant in
    let some = c.in-Some-task_number.ensures.some in
    let next : bytes_eq (word_before_space b) some.0.name ≡ true = ap (λ w. bytes_eq w some.0.name) (sym c.split_word.ensures.word) ∙ some.3 in
    subst (λ l. AreNumbersSoFar us names l c.put_in_order.new.numbers.items) (sym (ap words_behind c.split_word.ensures.behind))
    (gathered_more us names (word_before_space b) (words_behind (behind_word b)) c.loop-rest.numbers.items gathered c.requires some.0 some.1 some.2 next c.put_in_order.new.numbers.items c.put_in_order.ensures.climb
    (subst (λ k. (n : ℕ) → Contains c.put_in_order.new.numbers.items n ↔ (Contains c.loop-rest.numbers.items n ⊎ (n ≡ k))) (sym some.4) c.in_ok-put_in_order.ensures.put))

pub loop-rest-preserved : goal.loop-rest-preserved
loop-rest-preserved c =
    let us = c.args.listing.now in
    let names = spaced_words c.args.names.now in
    let b = c.in-Some.bytes.now in
    let is : words_behind (option_copied c.loop-rest.rest) ≡ word_before_space b ∷ words_behind (behind_word b) = ap (λ o. words_behind (option_copied o)) c.in-Some.is ∙ words_are b in
    let gathered : AreNumbersSoFar us names (word_before_space b ∷ words_behind (behind_word b)) c.loop-rest.numbers.items = subst (λ l. AreNumbersSoFar us names l c.loop-rest.numbers.items) is c.loop-rest.invariant in
    subst (λ l. AreNumbersSoFar us names l c.loop-rest.numbers.items) (sym (ap words_behind c.split_word.ensures.behind))
    (gathered_nothing us names (word_before_space b) (words_behind (behind_word b)) c.loop-rest.numbers.items gathered
    (λ u within live. ap (λ w. bytes_eq w u.name) (sym c.split_word.ensures.word) ∙ c.in_default-task_number.ensures.none u within live))

pub returns : goal.returns
returns c =
    gathered_all c.args.listing.now (spaced_words c.args.names.now) c.loop-rest.numbers.items c.requires.ascending
    (subst (λ l. AreNumbersSoFar c.args.listing.now (spaced_words c.args.names.now) l c.loop-rest.numbers.items) (ap (λ o. words_behind (option_copied o)) c.in_default.is) c.loop-rest.invariant)
