-- What clap finds in the words of a command.
use Rattle.std.proofs.Common.{◌≡◌, ◌∙◌, ◌++◌, List, [], ◌∷◌, ap, sym, refl, subst, Bool, true, false, inl, inr, ◌&&◌, ◌||◌, codes, map, if◌then◌else◌}
use Rattle.std.specs.Prelude.{Option, Some, None, find, is_some, option_and_then, slice_get}
use Rattle.std.specs.Str.{bytes_eq}
use Rattle.std.specs.List.{list_all}
use Rattle.clap.specs.Words.{Row, Rule, first_of, is_simple, matches_of, takes}
use Rattle.clap.specs.Simple.{built, entered}
use Rattle.clap.specs.Takes.{default_passes, entered_passes, is_valid, settle_passes, walk_passes}
use Rattle.clap.specs.Walk.{Held, Walk, finished, has_row, nothing_held, one_of, row_text, walk, walk_from}
use Rattle.program_io.specs.Texts.{Text}
use Rattle.command_line.specs.Words.{AreUses, Use, valued, flag, all_words, first_word, has_option}
use Rattle.command_line.specs.Words.{has_value_alone, is_used, name_of, options_of, same_option, value_of, wants_value, without}
use Rattle.command_line.specs.inside.Rules.{app_for}
use Rattle.command_line.specs.Commands.{Given, given_by}
use Rattle.command_line.specs.declared.table.FirstWord.{FirstWord}
use Rattle.command_line.specs.declared.table.FirstWord.TheVariants as first
use Rattle.command_line.specs.declared.table.OptionWord.{OptionWord}
use Rattle.command_line.specs.declared.table.OptionWord.TheVariants.{Print, Workers, Graph, Live, Kept, Sites}
use Rattle.std.proofs.lemmas.Bool.{cases_Bool, or_parts}
use Rattle.std.proofs.lemmas.Slice.Eq.{bytes_eq-Decides}
use Rattle.command_line.proofs.Meaning.{names_differ, one_name}
use Rattle.command_line.proofs.Rows.{has_row_pushed, or_true}
use Rattle.command_line.proofs.Steps.{ended, finished_is, knows_all, rules_for, unused_row, use_row, with_unused}
use Rattle.command_line.proofs.Passes.{shape_with}
use Rattle.command_line.proofs.Walks.{Before, after_all, passes_all, rows_all, settles_all, walked_all}

-- ---- rows

abbrev find_row : Text → List Row → Option Row
find_row id rows = find (λ r. bytes_eq r.id id) rows

find_pushed : (id : Text) (rows : List Row) (r : Row) → bytes_eq r.id id ≡ false → find_row id (rows ++ r ∷ []) ≡ find_row id rows
find_pushed id [] r e = rw e refl
find_pushed id (x ∷ xs) r e = ap (λ (o : Option Row). if bytes_eq x.id id then Some x else o) (find_pushed id xs r e)

-- a row of a flag that is not used does not change what is found under another name
other_stays : (id : Text) (o : OptionWord) (rows : List Row) (b : Bool) → bytes_eq (name_of o) id ≡ false
    → find_row id (if b then rows else rows ++ unused_row o ∷ []) ≡ find_row id rows
other_stays id o rows true e = refl
other_stays id o rows false e = find_pushed id rows (unused_row o) e

with_unused_stays : (id : Text) (o : OptionWord) (rows : List Row) (w : Bool) → (w ≡ false → bytes_eq (name_of o) id ≡ false)
    → find_row id (if w then rows else (if has_row (name_of o) rows then rows else rows ++ unused_row o ∷ [])) ≡ find_row id rows
with_unused_stays id o rows true e = refl
with_unused_stays id o rows false e = other_stays id o rows (has_row (name_of o) rows) (e refl)

pub ended_stays : (id : Text) (os : List OptionWord) (rows : List Row) → ((o : OptionWord) → wants_value o ≡ false → bytes_eq (name_of o) id ≡ false)
    → find_row id (ended os rows) ≡ find_row id rows
ended_stays id [] rows e = refl
ended_stays id (o ∷ os) rows e = ended_stays id os (with_unused o rows) e ∙ with_unused_stays id o rows (wants_value o) (e o)

flags_differ : (p o : OptionWord) → wants_value p ≡ true → wants_value o ≡ false → bytes_eq (name_of o) (name_of p) ≡ false
flags_differ p o w e = names_differ o p (λ same. absurd (cc))

-- ---- the values of options

abbrev value_in : Option Row → Option Text
value_in = option_and_then (λ r. slice_get r.values 0)

choose : (b : Bool) (r : Row) (v : Text) (found : Option Row) (more : Option Text) → value_in (Some r) ≡ Some v → value_in found ≡ more
    → value_in (if b then Some r else found) ≡ (if b then Some v else more)
choose true r v found more e f = e
choose false r v found more e f = f

skip_flag : (b : Bool) (r : Row) (found : Option Row) → b ≡ false → value_in (if b then Some r else found) ≡ value_in found
skip_flag true r found e = absurd (cc)
skip_flag false r found e = refl

value_found : (rules : List Rule) (free : OptionWord → Bool) (o : OptionWord) (us : List Use) → wants_value o ≡ true → AreUses free us
    → value_in (find_row (name_of o) (map (use_row rules) us)) ≡ value_of o us
value_found rules free o [] w uses = refl
value_found rules free o (valued p v ∷ us) w uses =
    choose (same_option o p) (use_row rules (valued p v)) v _ _ refl (value_found rules (without p free) o us w uses.2)
value_found rules free o (flag p ∷ us) w uses =
    skip_flag (bytes_eq (name_of p) (name_of o)) (use_row rules (flag p)) _ (flags_differ o p w uses.1)
    ∙ value_found rules (without p free) o us w uses.2

-- ---- flags

has_use : (rules : List Rule) (o : OptionWord) (us : List Use) → has_row (name_of o) (map (use_row rules) us) ≡ is_used o us
has_use rules o [] = refl
has_use rules o (valued p v ∷ us) = ap (λ (b : Bool). same_option o p || b) (has_use rules o us)
has_use rules o (flag p ∷ us) = ap (λ (b : Bool). same_option o p || b) (has_use rules o us)

-- what is found for a flag
pub data FlagFound (found : Option Text) : Bool → Type 0 where
  on : found ≡ Some (codes "true") → FlagFound found true
  off : found ≡ Some (codes "false") → FlagFound found false
  missing : found ≡ None → FlagFound found false

abbrev text_in : Option Row → Option Text
text_in = option_and_then row_text

pick : (b : Bool) (r : Row) (found : Option Row) → (b ≡ true → text_in (Some r) ≡ Some (codes "true")) → (b ≡ false → text_in found ≡ Some (codes "true"))
    → text_in (if b then Some r else found) ≡ Some (codes "true")
pick true r found e f = e refl
pick false r found e f = f refl

used_flag : (rules : List Rule) (free : OptionWord → Bool) (o : OptionWord) (us : List Use) → wants_value o ≡ false → AreUses free us → is_used o us ≡ true
    → text_in (find_row (name_of o) (map (use_row rules) us)) ≡ Some (codes "true")
used_flag rules free o [] w uses is = absurd (cc)
used_flag rules free o (valued p v ∷ us) w uses is =
    let differ : same_option o p ≡ false = names_differ p o (λ same. absurd (let kind = uses.1.0 in cc)) in
    pick (same_option o p) (use_row rules (valued p v)) _ (λ e. absurd (cc)) (λ e. used_flag rules (without p free) o us w uses.2 (or_true (same_option o p) _ is differ))
used_flag rules free o (flag p ∷ us) w uses is =
    pick (same_option o p) (use_row rules (flag p)) _ (λ e. refl) (λ e. used_flag rules (without p free) o us w uses.2 (or_true (same_option o p) _ is e))

-- a row that is found stays the one that is found
keep_head : (b : Bool) (x : Row) (f g : Option Row) (r : Row) → (f ≡ Some r → g ≡ Some r) → (if b then Some x else f) ≡ Some r → (if b then Some x else g) ≡ Some r
keep_head true x f g r more e = e
keep_head false x f g r more e = more e

keeps_more : (id : Text) (rows more : List Row) (r : Row) → find_row id rows ≡ Some r → find_row id (rows ++ more) ≡ Some r
keeps_more id [] more r e = absurd (cc)
keeps_more id (x ∷ xs) more r e = keep_head (bytes_eq x.id id) x (find_row id xs) (find_row id (xs ++ more)) r (keeps_more id xs more r) e

keeps_either : (id : Text) (w h : Bool) (rows more : List Row) (r : Row) → find_row id rows ≡ Some r
    → find_row id (if w then rows else (if h then rows else rows ++ more)) ≡ Some r
keeps_either id true h rows more r e = e
keeps_either id false true rows more r e = e
keeps_either id false false rows more r e = keeps_more id rows more r e

keeps_ended : (id : Text) (os : List OptionWord) (rows : List Row) (r : Row) → find_row id rows ≡ Some r → find_row id (ended os rows) ≡ Some r
keeps_ended id [] rows r e = e
keeps_ended id (o ∷ os) rows r e =
    keeps_ended id os (with_unused o rows) r (keeps_either id (wants_value o) (has_row (name_of o) rows) rows (unused_row o ∷ []) r e)

text_stays : (id : Text) (os : List OptionWord) (rows : List Row) (found : Option Row) (t : Text) → find_row id rows ≡ found → text_in found ≡ Some t
    → text_in (find_row id (ended os rows)) ≡ Some t
text_stays id os rows None t is e = absurd (cc)
text_stays id os rows (Some r) t is e = ap text_in (keeps_ended id os rows r is) ∙ e

find_none : (id : Text) (rows : List Row) → has_row id rows ≡ false → find_row id rows ≡ None
find_none id [] e = refl
find_none id (x ∷ xs) e =
    let parts = or_parts (bytes_eq x.id id) (has_row id xs) e in
    rw parts.0 (find_none id xs parts.1)

find_last : (id : Text) (rows : List Row) (r : Row) → has_row id rows ≡ false → bytes_eq r.id id ≡ true → find_row id (rows ++ r ∷ []) ≡ Some r
find_last id [] r e is = rw is refl
find_last id (x ∷ xs) r e is =
    let parts = or_parts (bytes_eq x.id id) (has_row id xs) e in
    rw parts.0 (find_last id xs r parts.1 is)

-- the row of another flag that is not used does not make a row under this name
pushed_either : (id : Text) (w h : Bool) (rows : List Row) (r : Row) → has_row id rows ≡ false → bytes_eq r.id id ≡ false
    → has_row id (if w then rows else (if h then rows else rows ++ r ∷ [])) ≡ false
pushed_either id true h rows r none other = none
pushed_either id false true rows r none other = none
pushed_either id false false rows r none other = has_row_pushed id rows r none other

-- the flag's own row, where it is not used
own_unused : (p : OptionWord) (os : List OptionWord) (rows : List Row) → wants_value p ≡ false → has_row (name_of p) rows ≡ false
    → FlagFound (text_in (find_row (name_of p) (ended os (with_unused p rows)))) false
own_unused p os rows w none =
    let added : with_unused p rows ≡ rows ++ unused_row p ∷ [] = rw (w, none) refl in
    let same : bytes_eq (name_of p) (name_of p) ≡ true = (bytes_eq-Decides (name_of p) (name_of p)).1 refl in
    off (ap (λ more. text_in (find_row (name_of p) (ended os more))) added
    ∙ text_stays (name_of p) os (rows ++ unused_row p ∷ []) (Some (unused_row p)) (codes "false") (find_last (name_of p) rows (unused_row p) none same) refl)

-- a flag that is not used is off, or the command does not have it
unused_flag : (p : OptionWord) (os : List OptionWord) (rows : List Row) → wants_value p ≡ false → has_row (name_of p) rows ≡ false
    → FlagFound (text_in (find_row (name_of p) (ended os rows))) false
unused_flag p [] rows w none = missing (ap text_in (find_none (name_of p) rows none))
unused_flag p (o ∷ os) rows w none =
    elim (cases_Bool (bytes_eq (name_of o) (name_of p))) [
      | inl same ↦ subst (λ q. FlagFound (text_in (find_row (name_of p) (ended os (with_unused q rows)))) false) (sym (one_name o p same)) (own_unused p os rows w none)
      | inr other ↦ unused_flag p os (with_unused o rows) w (pushed_either (name_of p) (wants_value o) (has_row (name_of o) rows) rows (unused_row o) none other)
    ]

by_use : (p : OptionWord) → wants_value p ≡ false → (rules : List Rule) (free : OptionWord → Bool) (os : List OptionWord) (us : List Use) (b : Bool) → is_used p us ≡ b
    → AreUses free us → FlagFound (text_in (find_row (name_of p) (ended os (map (use_row rules) us)))) b
by_use p w rules free os us true is uses = on (text_stays (name_of p) os (map (use_row rules) us) _ (codes "true") refl (used_flag rules free p us w uses is))
by_use p w rules free os us false is uses = unused_flag p os (map (use_row rules) us) w (has_use rules p us ∙ is)

-- ---- a value that stands by itself

not_alone : (o : OptionWord) → bytes_eq (name_of o) (codes "count") ≡ false
not_alone Print = refl
not_alone o = refl

none_alone : (rules : List Rule) (us : List Use) → find_row (codes "count") (map (use_row rules) us) ≡ None
none_alone rules [] = refl
none_alone rules (valued o v ∷ us) = rw (not_alone o) (none_alone rules us)
none_alone rules (flag o ∷ us) = rw (not_alone o) (none_alone rules us)

-- ---- all of a command with options

-- the rows hold what is given
pub record HoldsGiven (rows : List Row) (given : Given) : Type 0 where
  pub print : FlagFound (one_of (codes "print") rows) given.print
  pub workers : first_of (codes "workers") rows ≡ given.workers
  pub graph : first_of (codes "graph") rows ≡ given.graph
  pub live : FlagFound (one_of (codes "live") rows) given.live
  pub kept : FlagFound (one_of (codes "kept") rows) given.kept
  pub sites : first_of (codes "sites") rows ≡ given.sites
  pub alone : first_of (codes "count") rows ≡ given.alone

module _ (f : FirstWord) where
  abbrev os : List OptionWord
  os = options_of f

  abbrev free : OptionWord → Bool
  free o = has_option o os

  before_all : (us : List Use) → AreUses free us → Before (first_word f) (rules_for os) free us nothing_held
  before_all us uses = record {
    uses = uses;
    knows = λ o is. knows_all o os is;
    fresh = λ o is. refl;
    settled = refl;
  }

  rows_end : (us : List Use) → AreUses free us → finished (rules_for os) (walk (rules_for os) [] nothing_held (all_words us)).held ≡ ended os (map (use_row (rules_for os)) us)
  rows_end us uses =
      let b = before_all us uses in
      ap (λ (w : Walk). finished (rules_for os) w.held) (walked_all (first_word f) (rules_for os) free us nothing_held b)
      ∙ finished_is os (after_all (rules_for os) us nothing_held)
      ∙ ap (ended os) (rows_all (first_word f) (rules_for os) free us nothing_held b)

  ended_given : (us : List Use) → AreUses free us → HoldsGiven (ended os (map (use_row (rules_for os)) us)) (given_by us None)
  ended_given us uses =
      let rules = rules_for os in
      let rows = map (use_row rules) us in
      record {
        print = by_use Print refl rules free os us (is_used Print us) refl uses;
        live = by_use Live refl rules free os us (is_used Live us) refl uses;
        kept = by_use Kept refl rules free os us (is_used Kept us) refl uses;
        workers = ap value_in (ended_stays (codes "workers") os rows (λ o w. flags_differ Workers o refl w)) ∙ value_found rules free Workers us refl uses;
        graph = ap value_in (ended_stays (codes "graph") os rows (λ o w. flags_differ Graph o refl w)) ∙ value_found rules free Graph us refl uses;
        sites = ap value_in (ended_stays (codes "sites") os rows (λ o w. flags_differ Sites o refl w)) ∙ value_found rules free Sites us refl uses;
        alone = ap value_in (ended_stays (codes "count") os rows (λ o w. not_alone o) ∙ none_alone rules us);
      }

matches_are : (f : FirstWord) (ws : List Text) → has_value_alone f ≡ false
    → matches_of (app_for f) (first_word f ∷ ws) ≡ finished (rules_for (options_of f)) (walk (rules_for (options_of f)) [] nothing_held ws).held
matches_are first.Gen ws e = absurd (cc)
matches_are f ws e = refl

-- what clap asks of the words, by the walk over them
abbrev passes_by : FirstWord → List Text → Walk → Bool
passes_by f ws end =
    let rules = rules_for (options_of f) in
    let shape = shape_with (first_word f) rules in
    entered_passes (built (app_for f)) end.stopped
    && (walk_passes shape [] (walk_from nothing_held) ws && (settle_passes rules false end.held
    && (list_all default_passes rules && is_valid shape (finished rules end.held) (is_some (entered (built (app_for f)) end.stopped)))))

takes_are : (f : FirstWord) (ws : List Text) → has_value_alone f ≡ false
    → takes (app_for f) (first_word f ∷ ws) ≡ passes_by f ws (walk (rules_for (options_of f)) [] nothing_held ws)
takes_are first.Gen ws e = absurd (cc)
takes_are f ws e = refl

at_end : (f : FirstWord) (h : Held) (a b : Bool) → has_value_alone f ≡ false → a ≡ true → b ≡ true
    → (entered_passes (built (app_for f)) None && (a && (b
    && (list_all default_passes (rules_for (options_of f))
    && is_valid (shape_with (first_word f) (rules_for (options_of f))) (finished (rules_for (options_of f)) h) (is_some (entered (built (app_for f)) None)))))) ≡ true
at_end first.Gen h a b e p q = absurd (cc)
at_end f h a b e p q = rw (p, q) refl

pub uses_taken : (f : FirstWord) (us : List Use) → has_value_alone f ≡ false → AreUses (λ o. has_option o (options_of f)) us
    → takes (app_for f) (first_word f ∷ all_words us) ≡ true
uses_taken f us e uses =
    let rules = rules_for (options_of f) in
    let b = before_all f us uses in
    takes_are f (all_words us) e
    ∙ ap (passes_by f (all_words us)) (walked_all (first_word f) rules _ us nothing_held b)
    ∙ at_end f (after_all rules us nothing_held) _ _ e (passes_all (first_word f) rules _ us nothing_held b) (settles_all (first_word f) rules _ us nothing_held b)

pub uses_given : (f : FirstWord) (us : List Use) → has_value_alone f ≡ false → AreUses (λ o. has_option o (options_of f)) us
    → HoldsGiven (matches_of (app_for f) (first_word f ∷ all_words us)) (given_by us None)
uses_given f us e uses =
    subst (λ rows. HoldsGiven rows (given_by us None)) (sym (matches_are f (all_words us) e ∙ rows_end f us uses)) (ended_given f us uses)

pub simple : (f : FirstWord) → is_simple (app_for f) ≡ true
simple first.Check = refl
simple f = refl
