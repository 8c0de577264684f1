use Rattle.std.proofs.Common.{◌≡◌, ◌∙◌, ap, sym, Some, true, false, rules, inl, inr}
use Rattle.std.specs.Prelude.{bytes_eq}
use Rattle.std.specs.List.{list_any}
use Rattle.std.specs.Option.{option_copied}
use Rattle.trace_lines.specs.Grammar.{is_participant_name}
use Rattle.trace_lines.specs.inside.Reading.{are_names, behind_word, word_before_space, words_behind}
use Rattle.trace_lines.proofs.WordByWord.{names_more, no_names}
use Rattle.trace_lines.proofs.names.are_names.Goals as goal

pub returns-then-not-is_participant_name : goal.returns-then-not-is_participant_name
returns-then-not-is_participant_name c =
    let b = c.in-Some.bytes.now in
    let is : option_copied c.loop-rest.rest ≡ Some b = ap option_copied c.in-Some.is in
    let off : is_participant_name (word_before_space b) ≡ false = search rules in
    sym (no_names b (inl off)) ∙ ap (λ o. are_names (words_behind o)) (sym is) ∙ c.loop-rest.invariant

pub returns-then-is_left : goal.returns-then-is_left
returns-then-is_left c =
    let b = c.in-Some.bytes.now in
    let is : option_copied c.loop-rest.rest ≡ Some b = ap option_copied c.in-Some.is in
    let twice : list_any (bytes_eq (word_before_space b)) (words_behind (behind_word b)) ≡ true =
    ap (λ w. list_any (bytes_eq w) (words_behind (behind_word b))) (sym c.word_before_space-word.ensures)
    ∙ ap (λ o. list_any (bytes_eq c.word_before_space-word.result.now) (words_behind o)) (sym c.behind_word-rest.ensures.behind) ∙ sym c.is_left.ensures ∙ c.if-is_left.true in
    sym (no_names b (inr twice)) ∙ ap (λ o. are_names (words_behind o)) (sym is) ∙ c.loop-rest.invariant

pub loop-rest-preserved : goal.loop-rest-preserved
loop-rest-preserved c =
    let b = c.in-Some.bytes.now in
    let is : option_copied c.loop-rest.rest ≡ Some b = ap option_copied c.in-Some.is in
    let name : is_participant_name (word_before_space b) ≡ true = search rules in
    let new : list_any (bytes_eq (word_before_space b)) (words_behind (behind_word b)) ≡ false =
    ap (λ w. list_any (bytes_eq w) (words_behind (behind_word b))) (sym c.word_before_space-word.ensures)
    ∙ ap (λ o. list_any (bytes_eq c.word_before_space-word.result.now) (words_behind o)) (sym c.behind_word-rest.ensures.behind) ∙ sym c.is_left.ensures ∙ c.if-is_left.false in
    ap (λ o. are_names (words_behind o)) c.behind_word-rest.ensures.behind ∙ sym (names_more b name new)
    ∙ ap (λ o. are_names (words_behind o)) (sym is) ∙ c.loop-rest.invariant
