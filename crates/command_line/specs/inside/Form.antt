-- The test of the form, word by word, as the program makes it. What it stands for is `AreWords`.
use Rattle.std.specs.Prelude.{Bool, true, false, not, ◌&&◌, nat_le, List, [], ◌∷◌, length, Option, find}
use Rattle.std.specs.List.{list_all}
use Rattle.std.specs.Option.{option_map_or}
use Rattle.std.specs.Str.{bytes_eq}
use Rattle.program_io.specs.Texts.{Text}
use Rattle.command_line.specs.Words.{dashed, first_word, has_option, is_value_byte, options_of, wants_value}
use Rattle.command_line.specs.declared.forms.Free.{Free}
use Rattle.command_line.specs.declared.table.FirstWord.{FirstWord}
use Rattle.command_line.specs.declared.table.OptionWord.{OptionWord}
use Rattle.command_line.specs.declared.table.OptionWord.TheVariants.{Print, Workers, Graph, Live, Kept, Sites}
use Rattle.command_line.specs.declared.table.TheConstants.{FIRST_WORDS, MAX_VALUE_BYTES, OPTION_WORDS}

-- the test of a value
abbrev pub is_value : Text → Bool
is_value text = nat_le 1 (length text) && (nat_le (length text) MAX_VALUE_BYTES && list_all is_value_byte text)

-- the option of this word
abbrev pub option_named : Text → Option OptionWord
option_named word = find (λ o. bytes_eq (dashed o) word) OPTION_WORDS

-- the command of this word
abbrev pub first_named : Text → Option FirstWord
first_named word = find (λ f. bytes_eq (first_word f) word) FIRST_WORDS

-- the option is free
abbrev pub is_free : Free → OptionWord → Bool
is_free f Print = f.print
is_free f Workers = f.workers
is_free f Graph = f.graph
is_free f Live = f.live
is_free f Kept = f.kept
is_free f Sites = f.sites

-- the free options without this one
abbrev pub taken_off : Free → OptionWord → Free
taken_off f Print = record f { print = false }
taken_off f Workers = record f { workers = false }
taken_off f Graph = record f { graph = false }
taken_off f Live = record f { live = false }
taken_off f Kept = record f { kept = false }
taken_off f Sites = record f { sites = false }

-- the options of a command
abbrev pub free_at : FirstWord → Free
free_at f = record {
  print = has_option Print (options_of f);
  workers = has_option Workers (options_of f);
  graph = has_option Graph (options_of f);
  live = has_option Live (options_of f);
  kept = has_option Kept (options_of f);
  sites = has_option Sites (options_of f);
}

-- the words are values that are waited for, uses of free options, and the value that stands by itself
abbrev pub fits : Bool → Free → Bool → List Text → Bool
fits true free alone [] = false
fits true free alone (word ∷ rest) = is_value word && fits false free alone rest
fits false free alone [] = not alone
fits false free alone (word ∷ rest) =
    option_map_or (λ o. is_free free o && fits (wants_value o) (taken_off free o) alone rest)
    (option_named word) (alone && (nat_le (length rest) 0 && is_value word))
