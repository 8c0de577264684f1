use Rattle.std.proofs.Common.{◌≡◌, Some, [], ◌∷◌, ◌++◌, sym, ◌∙◌, ap, append_assoc}
use Rattle.std.specs.Option.{option_copied}
use Rattle.trace_lines.specs.inside.Reading.{behind_word, words_behind}
use Rattle.trace_lines.proofs.WordByWord.{words_are}
use Rattle.monitor_rows.proofs.conditions.player_names.Goals as goal

pub loop-rest-preserved : goal.loop-rest-preserved
loop-rest-preserved c =
    let done = c.loop-rest.invariant.0 in
    let w = c.split_word.result.0.now in
    let b = c.in-Some.bytes.now in
    let is : option_copied c.loop-rest.rest ≡ Some b = ap option_copied c.in-Some.is in (
      done ++ w ∷ [],
      c.in_ok-add_name.ensures done c.loop-rest.invariant.1,
      append_assoc done (w ∷ []) (words_behind (option_copied c.split_word.result.1))
          ∙ ap (λ o. done ++ (w ∷ words_behind o)) c.split_word.ensures.behind
          ∙ ap (λ v. done ++ (v ∷ words_behind (behind_word b))) c.split_word.ensures.word
          ∙ ap (λ l. done ++ l) (sym (words_are b))
          ∙ ap (λ o. done ++ words_behind o) (sym is)
          ∙ c.loop-rest.invariant.2,
    )
