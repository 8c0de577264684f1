use Rattle.std.proofs.Common.{◌≡◌, ◌∙◌, ap, sym, Some, true, false, rules}
use Rattle.std.specs.Prelude.{bytes_eq}
use Rattle.std.specs.List.{list_any}
use Rattle.std.specs.Option.{option_copied}
use Rattle.trace_lines.specs.inside.Reading.{word_before_space, words_behind}
use Rattle.trace_lines.proofs.WordByWord.{has_here, has_later}
use Rattle.trace_lines.proofs.names.has_word.Goals as goal

pub returns-then-eq : goal.returns-then-eq
returns-then-eq c =
    let word = c.args.word.now in
    let b = c.in-Some.bytes.now in
    let is : option_copied c.loop-rest.rest ≡ Some b = ap option_copied c.in-Some.is in
    let here : bytes_eq word (word_before_space b) ≡ true = search rules in
    sym (has_here word b here) ∙ ap (λ o. list_any (bytes_eq word) (words_behind o)) (sym is) ∙ c.loop-rest.invariant

pub loop-rest-preserved : goal.loop-rest-preserved
loop-rest-preserved c =
    let word = c.args.word.now in
    let b = c.in-Some.bytes.now in
    let is : option_copied c.loop-rest.rest ≡ Some b = ap option_copied c.in-Some.is in
    let other : bytes_eq word (word_before_space b) ≡ false = search rules in
    ap (λ o. list_any (bytes_eq word) (words_behind o)) c.behind_word-rest.ensures.behind ∙ sym (has_later word b other)
    ∙ ap (λ o. list_any (bytes_eq word) (words_behind o)) (sym is) ∙ c.loop-rest.invariant
