-- The words of the command whose value stands by itself.
use Rattle.std.proofs.Common.{◌≡◌, ◌∙◌, List, [], ◌∷◌, ap, Bool, true, false, codes, if◌then◌else◌, ◌&&◌, ◌||◌, is_some}
use Rattle.std.specs.Prelude.{Option, Some}
use Rattle.std.specs.List.{list_all}
use Rattle.std.specs.Option.{option_map_or}
use Rattle.clap.specs.Words.{App, Rule, first_of, matches_of, new_rule, takes}
use Rattle.clap.specs.Lexer.{long_of}
use Rattle.clap.specs.Simple.{Shape, built, entered, filled_from, help_rule}
use Rattle.clap.specs.Takes.{bundle_passes, default_passes, entered_passes, flag_word_passes, is_valid, settle_passes, step_passes, turn_passes, walk_passes, word_passes}
use Rattle.clap.specs.Walk.{Held, Step, Walk, after_step, finished, idle, long_or_other, nothing_held, one_of, short_or_plain, trailing, value, walk, walk_from, walked, word_met}
use Rattle.program_io.specs.Texts.{Text}
use Rattle.command_line.specs.Words.{IsValue, first_word}
use Rattle.command_line.specs.Commands.{given_by}
use Rattle.command_line.specs.inside.Rules.{app_for}
use Rattle.command_line.specs.declared.table.FirstWord.TheVariants.{Gen}
use Rattle.command_line.proofs.Steps.{no_dashes, no_long, no_short, starts_as_value, starts_plain}
use Rattle.command_line.proofs.Matches.{HoldsGiven, missing}

abbrev gen_app : App
gen_app = app_for Gen

abbrev gen_rules : List Rule
gen_rules = filled_from 1 (new_rule (codes "count") ∷ help_rule ∷ [])

abbrev gen_shape : Shape
gen_shape = (built gen_app).top

value_met : (v : Text) (h : Held) → starts_plain v → word_met gen_rules [] false idle 1 v h ≡ (h, value)
value_met v h plain =
    ap (λ (b : Bool). if b then (h, trailing 1) else long_or_other gen_rules idle v (long_of v) h) (no_dashes gen_rules v plain)
    ∙ ap (λ (o : Option (Text × Option Text)). long_or_other gen_rules idle v o h) (no_long gen_rules v plain)
    ∙ ap (λ (o : Option Text). short_or_plain gen_rules idle v o h) (no_short gen_rules v plain)

abbrev end : Text → Walk
end v = after_step gen_rules v (walk_from nothing_held) nothing_held value

gen_walked : (v : Text) → starts_plain v → walk gen_rules [] nothing_held (v ∷ []) ≡ end v
unfolding walked
gen_walked v plain = ap (λ (m : Held × Step). after_step gen_rules v (walk_from nothing_held) m.0 m.1) (value_met v nothing_held plain)

pub gen_given : (v : Text) → IsValue v → HoldsGiven (matches_of gen_app (first_word Gen ∷ v ∷ [])) (given_by [] (Some v))
gen_given v is =
    let there = gen_walked v (starts_as_value v is) in
    record {
      print = missing (ap (λ (w : Walk). one_of (codes "print") (finished gen_rules w.held)) there);
      workers = ap (λ (w : Walk). first_of (codes "workers") (finished gen_rules w.held)) there;
      graph = ap (λ (w : Walk). first_of (codes "graph") (finished gen_rules w.held)) there;
      live = missing (ap (λ (w : Walk). one_of (codes "live") (finished gen_rules w.held)) there);
      kept = missing (ap (λ (w : Walk). one_of (codes "kept") (finished gen_rules w.held)) there);
      sites = ap (λ (w : Walk). first_of (codes "sites") (finished gen_rules w.held)) there;
      alone = ap (λ (w : Walk). first_of (codes "count") (finished gen_rules w.held)) there;
    }

value_passes : (v : Text) (h : Held) → starts_plain v → word_passes gen_shape [] false idle v h ≡ true
value_passes v h plain =
    ap (λ (b : Bool). b || flag_word_passes gen_rules false (long_of v) v h) (no_dashes gen_rules v plain)
    ∙ ap (λ (o : Option (Text × Option Text)). flag_word_passes gen_rules false o v h) (no_long gen_rules v plain)
    ∙ ap (λ (o : Option Text). option_map_or (λ flags. bundle_passes gen_rules false flags h) o true) (no_short gen_rules v plain)

turn : (v : Text) → starts_plain v → turn_passes gen_shape [] (walk_from nothing_held) v ≡ true
turn v plain =
    ap (λ (m : Held × Step). word_passes gen_shape [] false idle v nothing_held && step_passes gen_shape 1 m.0 m.1) (value_met v nothing_held plain)
    ∙ ap (λ (b : Bool). b && true) (value_passes v nothing_held plain)

walk_taken : (v : Text) → starts_plain v → walk_passes gen_shape [] (walk_from nothing_held) (v ∷ []) ≡ true
unfolding walk_passes
walk_taken v plain = ap (λ (b : Bool). b && true) (turn v plain)

pub gen_taken : (v : Text) → IsValue v → takes gen_app (first_word Gen ∷ v ∷ []) ≡ true
gen_taken v is =
    let plain = starts_as_value v is in
    ap (λ (w : Walk). entered_passes (built gen_app) w.stopped && (walk_passes gen_shape [] (walk_from nothing_held) (v ∷ [])
    && (settle_passes gen_rules false w.held && (list_all default_passes gen_rules
    && is_valid gen_shape (finished gen_rules w.held) (is_some (entered (built gen_app) w.stopped)))))) (gen_walked v plain)
    ∙ ap (λ (b : Bool). b && true) (walk_taken v plain)
