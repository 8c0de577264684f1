-- What clap finds in words that have the form of a command, and that it takes them.
use Rattle.std.proofs.Common.{◌≡◌, ◌++◌, List, [], ◌∷◌, sym, refl, subst, true, false, append-nil}
use Rattle.std.specs.Prelude.{Option, Some, None}
use Rattle.clap.specs.Words.{matches_of, takes}
use Rattle.program_io.specs.Texts.{Text}
use Rattle.command_line.specs.Words.{AreUses, AreWords, Use, StandsAlone, all_words, first_word, has_option, has_value_alone, options_of}
use Rattle.command_line.specs.Commands.{given_by}
use Rattle.command_line.specs.inside.Rules.{app_for}
use Rattle.command_line.specs.declared.table.FirstWord.{FirstWord}
use Rattle.command_line.specs.declared.table.FirstWord.TheVariants.{Gen}
use Rattle.command_line.proofs.Matches.{HoldsGiven, uses_given, uses_taken}
use Rattle.command_line.proofs.Generated.{gen_given, gen_taken}

-- clap takes the words and holds what they give
pub record Reads (words : List Text) (f : FirstWord) (uses : List Use) (alone : Option Text) : Type 0 where
  pub given : HoldsGiven (matches_of (app_for f) words) (given_by uses alone)
  pub taken : takes (app_for f) words ≡ true

with_options : (f : FirstWord) (uses : List Use) → has_value_alone f ≡ false → AreUses (λ o. has_option o (options_of f)) uses
    → Reads (first_word f ∷ (all_words uses ++ [])) f uses None
with_options f uses e are =
    subst (λ ws. Reads (first_word f ∷ ws) f uses None) (sym (append-nil (all_words uses)))
    (record { given = uses_given f uses e are; taken = uses_taken f uses e are })

with_value : (uses : List Use) (v : Text) → AreUses (λ o. has_option o (options_of Gen)) uses → StandsAlone true (Some v)
    → Reads (first_word Gen ∷ (all_words uses ++ v ∷ [])) Gen uses (Some v)
with_value [] v are is = record { given = gen_given v is; taken = gen_taken v is }
with_value (u ∷ us) v are is = absurd (cc are.0)

pub all_read : (f : FirstWord) (words : List Text) (uses : List Use) (alone : Option Text) → AreWords words f uses alone → Reads words f uses alone
all_read Gen words uses None form = absurd form.alone_fits
all_read Gen words uses (Some v) form = rw form.words_are (with_value uses v form.uses_fit form.alone_fits)
all_read f words uses None form = rw form.words_are (with_options f uses refl form.uses_fit)
all_read f words uses (Some v) form = absurd form.alone_fits
