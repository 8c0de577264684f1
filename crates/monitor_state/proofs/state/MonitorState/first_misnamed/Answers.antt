use Rattle.std.proofs.Common.{◌≡◌, ◌∙◌, ap, sym, Some, true, false, List, ℕ, Bool}
use Rattle.std.specs.Prelude.{◌||◌, bytes_eq, find}
use Rattle.std.specs.Option.{option_copied}
use Rattle.monitor_laws.specs.Faults.{is_wildcard_in}
use Rattle.trace_lines.specs.inside.Reading.{word_before_space, words_behind}
use Rattle.monitor_state.proofs.EachWord.{found_here, found_later}
use Rattle.monitor_state.proofs.state.MonitorState.first_misnamed.Goals as goal

pub returns-then-is_misnamed : goal.returns-then-is_misnamed
returns-then-is_misnamed c =
    let test : List ℕ → Bool = λ t. bytes_eq c.args.w.now t || is_wildcard_in c.args.self.now t in
    let b = c.in-Some.bytes.now in
    let is : option_copied c.loop-rest.rest ≡ Some b = ap option_copied c.in-Some.is in
    let here : test (word_before_space b) ≡ true = ap test (sym c.split_word.ensures.word) ∙ sym c.is_misnamed.ensures ∙ c.if-is_misnamed.true in
    ap (λ w. Some w) c.split_word.ensures.word ∙ sym (found_here test b here) ∙ ap (λ o. find test (words_behind o)) (sym is) ∙ c.loop-rest.invariant

pub loop-rest-preserved : goal.loop-rest-preserved
loop-rest-preserved c =
    let test : List ℕ → Bool = λ t. bytes_eq c.args.w.now t || is_wildcard_in c.args.self.now t in
    let b = c.in-Some.bytes.now in
    let is : option_copied c.loop-rest.rest ≡ Some b = ap option_copied c.in-Some.is in
    let other : test (word_before_space b) ≡ false = ap test (sym c.split_word.ensures.word) ∙ sym c.is_misnamed.ensures ∙ c.if-is_misnamed.false in
    ap (λ o. find test (words_behind o)) c.split_word.ensures.behind ∙ found_later test b other
    ∙ ap (λ o. find test (words_behind o)) (sym is) ∙ c.loop-rest.invariant
