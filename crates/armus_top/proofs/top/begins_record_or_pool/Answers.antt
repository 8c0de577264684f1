use Rattle.std.proofs.Common.{◌≡◌, ◌∙◌, ◌⊎◌, ◌||◌, Bool, true, ◌∷◌, inl, inr, ap, sym, drop, map, string_bytes}
use Rattle.std.specs.Str.{bytes_eq}
use Rattle.std.proofs.lemmas.Slice.Eq.{bytes_eq-Decides}
use Rattle.std.proofs.lemmas.Bool.{or_cases, or_left, or_right}
use Rattle.armus_base.proofs.Lists.{headed}
use Rattle.command_line.specs.declared.table.TheConstants.{POOL, RECORD}
use Rattle.program_io.specs.Texts.{Text}
use Rattle.command_line.proofs.Meaning.{head_is}
use Rattle.armus_top.proofs.top.begins_record_or_pool.Goals as goal

-- the test of a word
abbrev test : Text → Bool
test word = bytes_eq word RECORD.now || bytes_eq word POOL.now

passes : (word : Text) → test word ≡ true → (word ≡ RECORD.now) ⊎ (word ≡ POOL.now)
passes word e = elim (or_cases (bytes_eq word RECORD.now) (bytes_eq word POOL.now) e) [
  | inl same ↦ inl ((bytes_eq-Decides word RECORD.now).0 same)
  | inr same ↦ inr ((bytes_eq-Decides word POOL.now).0 same)
]

passed : (word : Text) → (word ≡ RECORD.now) ⊎ (word ≡ POOL.now) → test word ≡ true
passed word (inl e) = or_left (bytes_eq word RECORD.now) (bytes_eq word POOL.now) ((bytes_eq-Decides word RECORD.now).1 e)
passed word (inr e) = or_right (bytes_eq word RECORD.now) (bytes_eq word POOL.now) ((bytes_eq-Decides word POOL.now).1 e)

pub returns-in-len1-up : goal.returns-in-len1-up
returns-in-len1-up c =
    let words = c.args.words.now in
    let item = c.word-item.result in
    let rest = map string_bytes (drop 1 words) in
    let whole : map string_bytes words ≡ string_bytes item ∷ rest = ap (λ ws. map string_bytes ws) (headed words item c.in-len1-up.len_at_least c.word-item.is) in
    let spelled : c.as_str.result.now ≡ string_bytes item = c.as_str.ensures.value in
    let tested : c.is_record_or_pool.result ≡ test (string_bytes item) = c.is_record_or_pool.ensures ∙ ap test spelled in (
      λ holds. (string_bytes item, rest, whole, passes (string_bytes item) (sym tested ∙ holds)),
      λ begins.
          let (word, more, same, one) = begins in
          let word_is : string_bytes item ≡ word = head_is (sym whole ∙ same) in
          tested ∙ ap test word_is ∙ passed word one,
    )
