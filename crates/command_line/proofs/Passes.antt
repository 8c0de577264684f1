-- The words of a use are taken by clap, for every list of rules that knows its option.
use Rattle.std.proofs.Common.{◌≡◌, ◌∙◌, ◌++◌, List, [], ◌∷◌, ap, refl, Bool, true, false, ◌&&◌, ◌||◌}
use Rattle.std.specs.Prelude.{Option, Some, None}
use Rattle.std.specs.Option.{option_map_or}
use Rattle.clap.specs.Words.{Rule, new_app}
use Rattle.clap.specs.Lexer.{long_of}
use Rattle.clap.specs.Simple.{Shape, built}
use Rattle.clap.specs.Takes.{bundle_passes, flag_word_passes, long_passes, settle_passes, step_passes, turn_passes, use_passes, walk_passes, word_passes}
use Rattle.clap.specs.Walk.{Held, Step, Walk, after_flag, arg_by_long, has_row, idle, long_met, option, walked}
use Rattle.program_io.specs.Texts.{Text}
use Rattle.command_line.specs.Words.{dashed, Use, HasWantedValue, valued, flag, option_of, use_words, name_of, wants_value}
use Rattle.command_line.specs.declared.table.OptionWord.{OptionWord}
use Rattle.command_line.specs.declared.table.OptionWord.TheVariants.{Print, Workers, Graph, Live, Kept, Sites}
use Rattle.command_line.proofs.Steps.{Knows, at, flag_walked, held_after, made, no_dashes, no_long, no_short}
use Rattle.command_line.proofs.Steps.{option_walked, plain_met, rows_at, starts_as_value, starts_plain, value_walked, waits, with_pending}

-- a simple command of this name with these rules, as clap builds it
abbrev pub shape_with : Text → List Rule → Shape
shape_with name rules = record ((built (new_app name)).top) { rules = rules }

module _ (name : Text) (rules : List Rule) where
  abbrev shape : Shape
  shape = shape_with name rules

  plain_passes : (id v : Text) (h : Held) → starts_plain v → word_passes shape [] false (option id) v h ≡ true
  plain_passes id v h plain =
      ap (λ (b : Bool). b || flag_word_passes rules false (long_of v) v h) (no_dashes rules v plain)
      ∙ ap (λ (o : Option (Text × Option Text)). flag_word_passes rules false o v h) (no_long rules v plain)
      ∙ ap (λ (o : Option Text). option_map_or (λ flags. bundle_passes rules false flags h) o true) (no_short rules v plain)

  value_turn : (o : OptionWord) (v : Text) (h : Held) → starts_plain v → turn_passes shape [] (waits rules o h) v ≡ true
  value_turn o v h plain =
      let g : Held = with_pending rules o [] h in
      ap (λ (m : Held × Step). word_passes shape [] false (option (name_of o)) v g && step_passes shape 1 m.0 m.1) (plain_met rules (name_of o) v g plain)
      ∙ ap (λ (b : Bool). b && true) (plain_passes (name_of o) v g plain)

  -- what is pending settles
  abbrev pub settles : Held → Bool
  settles h = settle_passes rules false h

  -- the word of an option passes, by the rule that has its name
  abbrev by_rule : Text → Held → Option Rule → Bool
  by_rule word h a =
      let met = long_met rules a None h in
      let step = after_flag rules idle word met.0 met.1 in
      long_passes rules false a None h && step_passes shape 1 step.0 step.1

  turn_is : (o : OptionWord) (h : Held) → turn_passes shape [] (at h) (dashed o) ≡ by_rule (dashed o) h (arg_by_long rules (name_of o))
  turn_is Print h = refl
  turn_is o h = refl

  valued_passes : (o : OptionWord) (h : Held) → wants_value o ≡ true → settles h ≡ true → by_rule (dashed o) h (Some (made o)) ≡ true
  valued_passes Workers h w e = ap (λ (b : Bool). b && true) e
  valued_passes Graph h w e = ap (λ (b : Bool). b && true) e
  valued_passes Sites h w e = ap (λ (b : Bool). b && true) e
  valued_passes o h w e = absurd (cc)

  flag_passes : (o : OptionWord) (h : Held) → wants_value o ≡ false → settles h ≡ true → has_row (name_of o) (rows_at rules h) ≡ false → by_rule (dashed o) h (Some (made o)) ≡ true
  flag_passes Print h w e fresh = rw (e, fresh) refl
  flag_passes Live h w e fresh = rw (e, fresh) refl
  flag_passes Kept h w e fresh = rw (e, fresh) refl
  flag_passes o h w e fresh = absurd (cc)

  option_turn : (o : OptionWord) (h : Held) → Knows rules o → wants_value o ≡ true → settles h ≡ true → turn_passes shape [] (at h) (dashed o) ≡ true
  option_turn o h knows w e = turn_is o h ∙ ap (by_rule (dashed o) h) knows.long ∙ valued_passes o h w e

  flag_turn : (o : OptionWord) (h : Held) → Knows rules o → wants_value o ≡ false → settles h ≡ true → has_row (name_of o) (rows_at rules h) ≡ false
      → turn_passes shape [] (at h) (dashed o) ≡ true
  flag_turn o h knows w e fresh = turn_is o h ∙ ap (by_rule (dashed o) h) knows.long ∙ flag_passes o h w e fresh

  -- the words of a use are taken, and then more words
  pub use_taken : (u : Use) (h : Held) (rest : List Text) → Knows rules (option_of u) → HasWantedValue u → settles h ≡ true
      → has_row (name_of (option_of u)) (rows_at rules h) ≡ false
      → walk_passes shape [] (at h) (use_words u ++ rest) ≡ walk_passes shape [] (at (held_after rules u h)) rest
  unfolding walk_passes
  use_taken (valued o v) h rest knows fits e fresh =
      let plain = starts_as_value v fits.1 in
      let first : Bool = turn_passes shape [] (at h) (dashed o) in
      let after : Bool = walk_passes shape [] (at (held_after rules (valued o v) h)) rest in
      ap (λ (w : Walk). first && (turn_passes shape [] w v && walk_passes shape [] (walked rules [] w v) rest)) (option_walked rules o h knows fits.0)
      ∙ ap (λ (w : Walk). first && (turn_passes shape [] (waits rules o h) v && walk_passes shape [] w rest)) (value_walked rules o v h knows fits.0 plain)
      ∙ ap (λ (b : Bool). first && (b && after)) (value_turn o v h plain) ∙ ap (λ (b : Bool). b && after) (option_turn o h knows fits.0 e)
  use_taken (flag o) h rest knows fits e fresh =
      let after : Bool = walk_passes shape [] (at (held_after rules (flag o) h)) rest in
      ap (λ (w : Walk). turn_passes shape [] (at h) (dashed o) && walk_passes shape [] w rest) (flag_walked rules o h knows fits)
      ∙ ap (λ (b : Bool). b && after) (flag_turn o h knows fits e fresh)

  -- after a use, what is pending settles
  abbrev by_pending : OptionWord → Text → Held → Option Rule → Bool
  by_pending o v h a = option_map_or (λ (r : Rule). use_passes false r (v ∷ []) (rows_at rules h)) a true

  value_settles : (o : OptionWord) (v : Text) (h : Held) → wants_value o ≡ true → has_row (name_of o) (rows_at rules h) ≡ false → by_pending o v h (Some (made o)) ≡ true
  value_settles Workers v h w e = rw e refl
  value_settles Graph v h w e = rw e refl
  value_settles Sites v h w e = rw e refl
  value_settles o v h w e = absurd (cc)

  pub use_settles : (u : Use) (h : Held) → Knows rules (option_of u) → HasWantedValue u → has_row (name_of (option_of u)) (rows_at rules h) ≡ false
      → settles (held_after rules u h) ≡ true
  use_settles (valued o v) h knows fits e = ap (by_pending o v h) knows.id ∙ value_settles o v h fits.0 e
  use_settles (flag o) h knows fits e = refl
