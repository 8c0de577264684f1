use Rattle.std.proofs.Common.{◌≡◌, ◌∙◌, Bool, true, false, List, ◌∷◌, ap, sym, refl, subst, drop, map, string_bytes}
use Rattle.std.specs.Prelude.{Option, Some}
use Rattle.std.proofs.lemmas.List.{take_rest}
use Rattle.armus_base.proofs.Lists.{headed}
use Rattle.program_io.specs.Texts.{Text}
use Rattle.command_line.specs.Words.{Use, AreWords, has_value_alone}
use Rattle.command_line.specs.inside.Form.{first_named, fits, free_at}
use Rattle.command_line.specs.declared.forms.Free.{Free}
use Rattle.command_line.specs.declared.table.FirstWord.{FirstWord}
use Rattle.command_line.proofs.FormLemmas.{form_fits, form_from}
use Rattle.command_line.proofs.forms.first_word_in.Goals as goal

same_fit : (a b : Free) (m n : Bool) (xs ys : List Text) → a ≡ b → m ≡ n → xs ≡ ys → fits false a m xs ≡ fits false b n ys
same_fit a b m n xs ys p q r = rw (p, q, r) refl

same_first : (a b : FirstWord) (named : Option FirstWord) → Some a ≡ named → named ≡ Some b → a ≡ b
same_first a b named p q = let both : Some a ≡ Some b = p ∙ q in cc

pub returns-then-fit-clause-sound : goal.returns-then-fit-clause-sound
returns-then-fit-clause-sound c =
    let words = c.args.words.now in
    let item = c.word-item.result in
    let f = c.in_ok-first-in-len1-up.first in
    let rest = drop 1 words in
    let whole : map string_bytes words ≡ string_bytes item ∷ map string_bytes rest = ap (λ ws. map string_bytes ws) (headed words item c.in-len1-up.len_at_least c.word-item.is) in
    let named : first_named (string_bytes item) ≡ Some f = ap first_named (sym c.as_str.ensures.value) ∙ sym c.in_ok-first-in-len1-up.ensures in
    let tested = same_fit _ (free_at f) _ (has_value_alone f) _ (map string_bytes rest) c.options_at.ensures c.has_value_alone.ensures
    (ap (λ ws. map string_bytes ws) (take_rest words 1)) in
    subst (λ ws. (uses : List Use) × (alone : Option Text) × AreWords ws f uses alone) (sym whole)
    (form_from (string_bytes item) (map string_bytes rest) f named (sym tested ∙ sym c.fit.ensures ∙ c.if-fit.true))

pub returns-else-fit-clause-whole : goal.returns-else-fit-clause-whole
returns-else-fit-clause-whole c first uses alone form =
    let words = c.args.words.now in
    let item = c.word-item.result in
    let f = c.in_ok-first-in-len1-up.first in
    let rest = drop 1 words in
    let whole : map string_bytes words ≡ string_bytes item ∷ map string_bytes rest = ap (λ ws. map string_bytes ws) (headed words item c.in-len1-up.len_at_least c.word-item.is) in
    let (named, fit) = form_fits (string_bytes item) (map string_bytes rest) first uses alone (subst (λ ws. AreWords ws first uses alone) whole form) in
    let same : f ≡ first = same_first f first (first_named (string_bytes item)) (c.in_ok-first-in-len1-up.ensures ∙ ap first_named c.as_str.ensures.value) named in
    let tested = same_fit _ (free_at first) _ (has_value_alone first) _ (map string_bytes rest) (c.options_at.ensures ∙ ap free_at same)
    (c.has_value_alone.ensures ∙ ap has_value_alone same)
    (ap (λ ws. map string_bytes ws) (take_rest words 1)) in
    let unlike : false ≡ true = sym c.if-fit.false ∙ c.fit.ensures ∙ tested ∙ fit in
    absurd (cc)
