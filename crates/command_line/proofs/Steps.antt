-- One use of an option, as clap walks over it, for every list of rules that knows the option.
use Rattle.std.proofs.Common.{◌≡◌, ◌∙◌, ◌++◌, List, [], ◌∷◌, ap, sym, refl, subst, Bool, true, false, codes, if◌then◌else◌, fold, map, arith}
use Rattle.std.specs.Prelude.{Option, Some, None, ◌==◌, ◌||◌}
use Rattle.std.specs.Str.{bytes_eq}
use Rattle.clap.specs.Words.{Row, Rule}
use Rattle.clap.specs.Lexer.{long_of, short_of}
use Rattle.clap.specs.Simple.{filled, filled_from, help_rule, with_index}
use Rattle.clap.specs.Walk.{Held, Step, Walk, after_flag, after_step, arg_by_id, arg_by_long, has_row, long_met, long_or_other, next}
use Rattle.clap.specs.Walk.{idle, option, plain_word, reacted, settled, short_or_plain, trailing, used, walk_from, walked, word_met}
use Rattle.std.specs.List.{list_all}
use Rattle.std.proofs.lemmas.Bool.{and_parts}
use Rattle.clap.specs.Walk.{finished, more_values, option_word, used_by_id, with_default, with_values}
use Rattle.clap.specs.declared.parser.matches.ValueSource.TheVariants.{CommandLine, DefaultValue}
use Rattle.clap.specs.declared.builder.value_parser.Reading.TheVariants.{AsWritten}
use Rattle.command_line.proofs.Rows.{at_row_missing, fresh_row, or_true}
use Rattle.command_line.proofs.Meaning.{no_hyphen, one_name}
use Rattle.command_line.specs.inside.Rules.{rule_for}
use Rattle.program_io.specs.Texts.{Text}
use Rattle.command_line.specs.Words.{dashed, has_option, Use, HasWantedValue, valued, flag, option_of, use_words, is_value_byte, name_of, same_option, wants_value, IsValue}
use Rattle.command_line.specs.declared.table.OptionWord.{OptionWord}
use Rattle.command_line.specs.declared.table.OptionWord.TheVariants.{Print, Workers, Graph, Live, Kept, Sites}

-- the rule of an option, as clap fills it
abbrev pub made : OptionWord → Rule
made o = with_index 1 (filled (rule_for o))

-- these rules have the option, under its name alone
pub record Knows (rules : List Rule) (o : OptionWord) : Type 0 where
  pub long : arg_by_long rules (name_of o) ≡ Some (made o)
  pub id : arg_by_id rules (name_of o) ≡ Some (made o)

abbrev pub starts_plain : Text → Type 0
starts_plain [] = ⊥
starts_plain (x ∷ xs) = (x == 45) ≡ false

pub starts_as_value : (v : Text) → IsValue v → starts_plain v
starts_as_value [] is = absurd (omega (arith, is.some))
starts_as_value (x ∷ xs) is = no_hyphen x (and_parts (is_value_byte x) (list_all is_value_byte xs) is.plain).0

abbrev pub at : Held → Walk
at h = walk_from h

module _ (rules : List Rule) where
  abbrev pub with_pending : OptionWord → List Text → Held → Held
  with_pending o values h = record (settled rules h) { pending = Some (name_of o, values) }

  abbrev pub waits : OptionWord → Held → Walk
  waits o h = record (at h) { held = with_pending o [] h; waiting = option (name_of o) }

  abbrev pub by_long : Text → Held → Option Rule → Walk
  by_long word h a =
      let met = long_met rules a None h in
      let step = after_flag rules idle word met.0 met.1 in
      after_step rules word (at h) step.0 step.1

  word_is : (o : OptionWord) (h : Held) → walked rules [] (at h) (dashed o) ≡ by_long (dashed o) h (arg_by_long rules (name_of o))
  unfolding walked
  word_is Print h = refl
  word_is o h = refl

  made_waits : (o : OptionWord) (h : Held) → wants_value o ≡ true → by_long (dashed o) h (Some (made o)) ≡ waits o h
  made_waits Workers h e = refl
  made_waits Graph h e = refl
  made_waits Sites h e = refl
  made_waits o h e = absurd (cc)

  made_flag : (o : OptionWord) (h : Held) → wants_value o ≡ false → by_long (dashed o) h (Some (made o)) ≡ at (reacted rules (made o) [] h)
  made_flag Print h e = refl
  made_flag Live h e = refl
  made_flag Kept h e = refl
  made_flag o h e = absurd (cc)

  -- the word of an option that wants_value a value, and of one that wants_value none
  pub option_walked : (o : OptionWord) (h : Held) → Knows rules o → wants_value o ≡ true → walked rules [] (at h) (dashed o) ≡ waits o h
  option_walked o h knows e = word_is o h ∙ ap (by_long (dashed o) h) knows.long ∙ made_waits o h e

  pub flag_walked : (o : OptionWord) (h : Held) → Knows rules o → wants_value o ≡ false → walked rules [] (at h) (dashed o) ≡ at (reacted rules (made o) [] h)
  flag_walked o h knows e = word_is o h ∙ ap (by_long (dashed o) h) knows.long ∙ made_flag o h e

  -- ---- a value

  abbrev pub by_id : OptionWord → Text → Held → Option Rule → Walk
  by_id o v g a =
      let met = option_word a (name_of o) v g in
      after_step rules v (record (at g) { waiting = option (name_of o) }) met.0 (next met.1)

  pub no_dashes : (v : Text) → starts_plain v → bytes_eq v (45 ∷ 45 ∷ []) ≡ false
  no_dashes [] e = absurd e
  no_dashes (x ∷ xs) e = rw e refl

  pub no_long : (v : Text) → starts_plain v → long_of v ≡ None
  no_long [] e = absurd e
  no_long (x ∷ xs) e = rw e refl

  pub no_short : (v : Text) → starts_plain v → short_of v ≡ None
  no_short [] e = absurd e
  no_short (x ∷ xs) e = rw e refl

  pub plain_met : (id v : Text) (h : Held) → starts_plain v → word_met rules [] false (option id) 1 v h ≡ plain_word rules (option id) v h
  plain_met id v h plain =
      ap (λ (b : Bool). if b then (h, trailing 1) else long_or_other rules (option id) v (long_of v) h) (no_dashes v plain)
      ∙ ap (λ (o : Option (Text × Option Text)). long_or_other rules (option id) v o h) (no_long v plain)
      ∙ ap (λ (o : Option Text). short_or_plain rules (option id) v o h) (no_short v plain)

  made_value : (o : OptionWord) (v : Text) (h : Held) → wants_value o ≡ true → by_id o v (with_pending o [] h) (Some (made o)) ≡ at (with_pending o (v ∷ []) h)
  made_value Workers v h e = refl
  made_value Graph v h e = refl
  made_value Sites v h e = refl
  made_value o v h e = absurd (cc)

  pub value_walked : (o : OptionWord) (v : Text) (h : Held) → Knows rules o → wants_value o ≡ true → starts_plain v → walked rules [] (waits o h) v ≡ at (with_pending o (v ∷ []) h)
  unfolding walked
  value_walked o v h knows e plain =
      ap (λ (m : Held × Step). after_step rules v (waits o h) m.0 m.1) (plain_met (name_of o) v (with_pending o [] h) plain)
      ∙ ap (by_id o v (with_pending o [] h)) knows.id ∙ made_value o v h e

  -- ---- a use

  abbrev pub held_after : Use → Held → Held
  held_after (valued o v) h = with_pending o (v ∷ []) h
  held_after (flag o) h = reacted rules (made o) [] h

  pub use_walked : (u : Use) (h : Held) (rest : List Text) → Knows rules (option_of u) → HasWantedValue u
      → fold (walked rules []) (at h) (use_words u ++ rest) ≡ fold (walked rules []) (at (held_after u h)) rest
  use_walked (valued o v) h rest knows fits =
      ap (λ (w : Walk). fold (walked rules []) (walked rules [] w v) rest) (option_walked o h knows fits.0)
      ∙ ap (λ (w : Walk). fold (walked rules []) w rest) (value_walked o v h knows fits.0 (starts_as_value v fits.1))
  use_walked (flag o) h rest knows fits =
      ap (λ (w : Walk). fold (walked rules []) w rest) (flag_walked o h knows fits)

  -- ---- its row

  abbrev pub use_row : Use → Row
  use_row (valued o v) = record { id = name_of o; values = v ∷ []; count = None; source = Some CommandLine; reading = AsWritten }
  use_row (flag o) = record { id = name_of o; values = codes "true" ∷ []; count = None; source = Some CommandLine; reading = AsWritten }

  abbrev pub rows_at : Held → List Row
  rows_at h = (settled rules h).rows

  row_valued : (o : OptionWord) (v : Text) (rows : List Row) → wants_value o ≡ true → has_row (name_of o) rows ≡ false
      → used (made o) (v ∷ []) rows ≡ rows ++ use_row (valued o v) ∷ []
  row_valued Workers v rows w e = fresh_row (codes "workers") AsWritten CommandLine (v ∷ []) rows e
  row_valued Graph v rows w e = fresh_row (codes "graph") AsWritten CommandLine (v ∷ []) rows e
  row_valued Sites v rows w e = fresh_row (codes "sites") AsWritten CommandLine (v ∷ []) rows e
  row_valued o v rows w e = absurd (cc)

  row_flag : (o : OptionWord) (rows : List Row) → wants_value o ≡ false → has_row (name_of o) rows ≡ false → used (made o) [] rows ≡ rows ++ use_row (flag o) ∷ []
  row_flag Print rows w e = fresh_row (codes "print") AsWritten CommandLine (codes "true" ∷ []) rows e
  row_flag Live rows w e = fresh_row (codes "live") AsWritten CommandLine (codes "true" ∷ []) rows e
  row_flag Kept rows w e = fresh_row (codes "kept") AsWritten CommandLine (codes "true" ∷ []) rows e
  row_flag o rows w e = absurd (cc)

  pub use_settled : (u : Use) (h : Held) → Knows rules (option_of u) → HasWantedValue u → has_row (name_of (option_of u)) (rows_at h) ≡ false
      → rows_at (held_after u h) ≡ rows_at h ++ use_row u ∷ []
  use_settled (valued o v) h knows fits e = ap (λ a. used_by_id a (v ∷ []) (rows_at h)) knows.id ∙ row_valued o v (rows_at h) fits.0 e
  use_settled (flag o) h knows fits e = row_flag o (rows_at h) fits e

-- ---- the rules of a command, and the rows at the end

abbrev pub made_help : Rule
made_help = with_index 1 (filled help_rule)

abbrev pub rules_for : List OptionWord → List Rule
rules_for os = filled_from 1 (map rule_for os ++ help_rule ∷ [])

rules_made : (os : List OptionWord) → rules_for os ≡ map made os ++ made_help ∷ []
rules_made [] = refl
rules_made (Print ∷ os) = ap (λ t. made Print ∷ t) (rules_made os)
rules_made (o ∷ os) = ap (λ t. made o ∷ t) (rules_made os)

or_nothing : (b : Bool) → (b || false) ≡ b
or_nothing true = refl
or_nothing false = refl

-- the rule in front is found under its own name, and else one behind it
long_found : (p o : OptionWord) (rules : List Rule)
    → arg_by_long (made p ∷ rules) (name_of o) ≡ (if bytes_eq (name_of p) (name_of o) then Some (made p) else arg_by_long rules (name_of o))
long_found Print o rules = ap (λ (b : Bool). if b then Some (made Print) else arg_by_long rules (name_of o)) (or_nothing (bytes_eq (name_of Print) (name_of o)))
long_found p o rules = ap (λ (b : Bool). if b then Some (made p) else arg_by_long rules (name_of o)) (or_nothing (bytes_eq (name_of p) (name_of o)))

id_found : (p o : OptionWord) (rules : List Rule)
    → arg_by_id (made p ∷ rules) (name_of o) ≡ (if bytes_eq (name_of p) (name_of o) then Some (made p) else arg_by_id rules (name_of o))
id_found Print o rules = refl
id_found p o rules = refl

knows_here : (o p : OptionWord) (rules : List Rule) (b : Bool) → bytes_eq (name_of p) (name_of o) ≡ b → (b ≡ false → Knows rules o) → Knows (made p ∷ rules) o
knows_here o p rules true same more =
    let is = one_name p o same in
    record { long = long_found p o rules ∙ rw same (ap (λ (q : OptionWord). Some (made q)) is); id = id_found p o rules ∙ rw same (ap (λ (q : OptionWord). Some (made q)) is) }
knows_here o p rules false other more =
    let k = more refl in
    record { long = long_found p o rules ∙ rw other k.long; id = id_found p o rules ∙ rw other k.id }

-- a command that has the option knows it
knows_made : (o : OptionWord) (os : List OptionWord) → has_option o os ≡ true → Knows (map made os ++ made_help ∷ []) o
knows_made o [] e = absurd (cc)
knows_made o (p ∷ os) e =
    knows_here o p (map made os ++ made_help ∷ []) (same_option o p) refl (λ other. knows_made o os (or_true (same_option o p) (has_option o os) e other))

pub knows_all : (o : OptionWord) (os : List OptionWord) → has_option o os ≡ true → Knows (rules_for os) o
knows_all o os e = subst (λ rules. Knows rules o) (sym (rules_made os)) (knows_made o os e)

-- ---- the rows at the end: those of the uses, and one for each flag that was not used

abbrev pub unused_row : OptionWord → Row
unused_row o = record { id = name_of o; values = codes "false" ∷ []; count = None; source = Some DefaultValue; reading = AsWritten }

abbrev pub with_unused : OptionWord → List Row → List Row
with_unused o rows = if wants_value o then rows else (if has_row (name_of o) rows then rows else rows ++ unused_row o ∷ [])

abbrev pub ended : List OptionWord → List Row → List Row
ended [] rows = rows
ended (o ∷ os) rows = ended os (with_unused o rows)

missing_added : (o : OptionWord) (rows : List Row) (b : Bool) → has_row (name_of o) rows ≡ b
    → (if b then rows else with_values (name_of o) AsWritten DefaultValue (codes "false" ∷ []) rows) ≡ (if b then rows else rows ++ unused_row o ∷ [])
missing_added o rows true e = refl
missing_added o rows false e = at_row_missing (name_of o) (more_values DefaultValue (codes "false" ∷ [])) (unused_row o ∷ []) rows e

same_both : {A : Type 0} (b : Bool) (x : A) → (if b then x else x) ≡ x
same_both true x = refl
same_both false x = refl

one_ended : (o : OptionWord) (rows : List Row) → with_default rows (made o) ≡ with_unused o rows
one_ended Workers rows = same_both (has_row (codes "workers") rows) rows
one_ended Graph rows = same_both (has_row (codes "graph") rows) rows
one_ended Sites rows = same_both (has_row (codes "sites") rows) rows
one_ended o rows = missing_added o rows (has_row (name_of o) rows) refl

all_ended : (os : List OptionWord) (rows : List Row) → fold with_default rows (map made os ++ made_help ∷ []) ≡ ended os rows
all_ended [] rows = same_both (has_row (codes "help") rows) rows
all_ended (o ∷ os) rows =
    ap (λ r. fold with_default r (map made os ++ made_help ∷ [])) (one_ended o rows) ∙ all_ended os (with_unused o rows)

pub finished_is : (os : List OptionWord) (h : Held) → finished (rules_for os) h ≡ ended os (rows_at (rules_for os) h)
finished_is os h = ap (λ c. fold with_default (settled (rules_for os) h).rows c) (rules_made os) ∙ all_ended os (rows_at (rules_for os) h)
