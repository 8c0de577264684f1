-- The words of a command: a table of first words and options, and then one rule for all.
use Rattle.std.specs.Prelude.{◌≡◌, ◌≤◌, ℕ, Bool, true, false, ◌&&◌, ◌||◌, nat_le, if◌then◌else◌, List, [], ◌∷◌, ◌++◌, map, length, Option, Some, None, option_to_list}
use Rattle.std.specs.List.{list_all, list_any}
use Rattle.std.specs.Str.{bytes_eq}
use Rattle.program_io.specs.Texts.{Text}
use Rattle.command_line.specs.declared.table.FirstWord.{FirstWord}
use Rattle.command_line.specs.declared.table.FirstWord.TheVariants.{Check, Run, Avoid, Record, Replay, Gen, Clock, Pool}
use Rattle.command_line.specs.declared.table.OptionWord.{OptionWord}
use Rattle.command_line.specs.declared.table.OptionWord.TheVariants.{Print, Workers, Graph, Live, Kept, Sites}
use Rattle.command_line.specs.declared.table.TheConstants.{CHECK, RUN, AVOID, RECORD, REPLAY, GEN, CLOCK, POOL, PRINT, WORKERS, GRAPH, LIVE, KEPT, SITES, MAX_VALUE_BYTES}

-- ---- the table: a command or an option joins by a line of each of these

-- the word with which a command begins
abbrev pub first_word : FirstWord → Text
first_word Check = CHECK.now
first_word Run = RUN.now
first_word Avoid = AVOID.now
first_word Record = RECORD.now
first_word Replay = REPLAY.now
first_word Gen = GEN.now
first_word Clock = CLOCK.now
first_word Pool = POOL.now

-- the options of a command
abbrev pub options_of : FirstWord → List OptionWord
options_of Check = Print ∷ []
options_of Run = Workers ∷ Graph ∷ Live ∷ Sites ∷ []
options_of Avoid = Workers ∷ Graph ∷ Kept ∷ []
options_of Record = Workers ∷ []
options_of Replay = []
options_of Gen = []
options_of Clock = Workers ∷ Graph ∷ Live ∷ []
options_of Pool = Workers ∷ Graph ∷ []

-- a value stands by itself after the command's options
abbrev pub has_value_alone : FirstWord → Bool
has_value_alone Check = false
has_value_alone Run = false
has_value_alone Avoid = false
has_value_alone Record = false
has_value_alone Replay = false
has_value_alone Gen = true
has_value_alone Clock = false
has_value_alone Pool = false

-- the name of an option, without its two hyphens
abbrev pub name_of : OptionWord → Text
name_of Print = PRINT.now
name_of Workers = WORKERS.now
name_of Graph = GRAPH.now
name_of Live = LIVE.now
name_of Kept = KEPT.now
name_of Sites = SITES.now

-- the option wants a value
abbrev pub wants_value : OptionWord → Bool
wants_value Print = false
wants_value Workers = true
wants_value Graph = true
wants_value Live = false
wants_value Kept = false
wants_value Sites = true

-- ---- the rule

-- a lower-case letter or a digit
abbrev pub is_value_byte : ℕ → Bool
is_value_byte x = (nat_le 97 x && nat_le x 122) || (nat_le 48 x && nat_le x 57)

-- lower-case letters or digits, at least one and no more than a value has
pub record IsValue (text : Text) : Type 0 where
  pub some : 1 ≤ length text
  pub short : length text ≤ MAX_VALUE_BYTES
  pub plain : list_all is_value_byte text ≡ true

-- the use of an option, with a value or as a flag
pub data Use : Type 0 where
  valued : OptionWord → Text → Use
  flag : OptionWord → Use

-- the option that is used
abbrev pub option_of : Use → OptionWord
option_of (valued o v) = o
option_of (flag o) = o

-- the word of an option
abbrev pub dashed : OptionWord → Text
dashed o = 45 ∷ 45 ∷ name_of o

-- the words of a use
abbrev pub use_words : Use → List Text
use_words (valued o v) = dashed o ∷ v ∷ []
use_words (flag o) = dashed o ∷ []

-- the words of some uses, in order
abbrev pub all_words : List Use → List Text
all_words [] = []
all_words (u ∷ us) = use_words u ++ all_words us

-- a value stands exactly where one is wanted
abbrev pub HasWantedValue : Use → Type 0
HasWantedValue (valued o v) = (wants_value o ≡ true) × IsValue v
HasWantedValue (flag o) = wants_value o ≡ false

-- the two options are one
abbrev pub same_option : OptionWord → OptionWord → Bool
same_option a b = bytes_eq (name_of b) (name_of a)

-- the option is one of these
abbrev pub has_option : OptionWord → List OptionWord → Bool
has_option o os = list_any (same_option o) os

-- the options that are free, without this one
abbrev pub without : OptionWord → (OptionWord → Bool) → OptionWord → Bool
without o free p = if same_option p o then false else free p

-- each use fits and is of an option that is free, and no option comes twice: its use takes it away
abbrev pub AreUses : (OptionWord → Bool) → List Use → Type 0
AreUses free [] = Unit {0}
AreUses free (u ∷ us) = (free (option_of u) ≡ true) × HasWantedValue u × AreUses (without (option_of u) free) us

-- the value that stands by itself, exactly where the command has one
abbrev pub StandsAlone : Bool → Option Text → Type 0
StandsAlone true (Some v) = IsValue v
StandsAlone false None = Unit {0}
StandsAlone _ _ = ⊥

-- the words are this first word, uses of its options in any order, each at most once, and then the value that stands by itself
pub record AreWords (words : List Text) (first : FirstWord) (uses : List Use) (alone : Option Text) : Type 0 where
  pub words_are : words ≡ first_word first ∷ (all_words uses ++ option_to_list alone)
  pub uses_fit : AreUses (λ o. has_option o (options_of first)) uses
  pub alone_fits : StandsAlone (has_value_alone first) alone

-- the words have the form of a command, whatever the values in them are
abbrev pub HaveForm : List Text → Type 0
HaveForm words = (first : FirstWord) × (uses : List Use) × (alone : Option Text) × AreWords words first uses alone

-- the value of an option, where it is used
abbrev pub value_of : OptionWord → List Use → Option Text
value_of o [] = None
value_of o (valued p v ∷ us) = if same_option o p then Some v else value_of o us
value_of o (flag p ∷ us) = value_of o us

-- the option is used
abbrev pub is_used : OptionWord → List Use → Bool
is_used o us = has_option o (map option_of us)
