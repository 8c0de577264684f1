-- All uses of a command line, by induction.
use Rattle.std.proofs.Common.{◌≡◌, ◌∙◌, ◌++◌, List, [], ◌∷◌, ap, sym, refl, subst, Bool, true, false, if◌then◌else◌, fold, append_assoc, append-nil, map}
use Rattle.clap.specs.Words.{Row, Rule}
use Rattle.clap.specs.Takes.{walk_passes}
use Rattle.clap.specs.Walk.{Held, has_row, walked}
use Rattle.program_io.specs.Texts.{Text}
use Rattle.command_line.specs.Words.{AreUses, Use, valued, flag, all_words, name_of, option_of, same_option, without}
use Rattle.command_line.specs.declared.table.OptionWord.{OptionWord}
use Rattle.command_line.proofs.Rows.{has_row_pushed}
use Rattle.command_line.proofs.Steps.{Knows, at, held_after, rows_at, use_row, use_settled, use_walked}
use Rattle.command_line.proofs.Passes.{settles, shape_with, use_settles, use_taken}

-- what is held after some uses
abbrev pub after_all : List Rule → List Use → Held → Held
after_all rules [] h = h
after_all rules (u ∷ us) h = after_all rules us (held_after rules u h)

-- what holds before some uses
pub record Before (name : Text) (rules : List Rule) (free : OptionWord → Bool) (us : List Use) (h : Held) : Type 0 where
  pub uses : AreUses free us
  pub knows : (o : OptionWord) → free o ≡ true → Knows rules o
  pub fresh : (o : OptionWord) → free o ≡ true → has_row (name_of o) (rows_at rules h) ≡ false
  pub settled : settles name rules h ≡ true

not_taken : (b c : Bool) → (if b then false else c) ≡ true → (b ≡ false) × (c ≡ true)
not_taken true c e = absurd (cc)
not_taken false c e = (refl, e)

pushed_use : (rules : List Rule) (o : OptionWord) (u : Use) (rows : List Row) → has_row (name_of o) rows ≡ false → same_option o (option_of u) ≡ false
    → has_row (name_of o) (rows ++ use_row rules u ∷ []) ≡ false
pushed_use rules o (valued p v) rows none other = has_row_pushed (name_of o) rows (use_row rules (valued p v)) none other
pushed_use rules o (flag p) rows none other = has_row_pushed (name_of o) rows (use_row rules (flag p)) none other

module _ (name : Text) (rules : List Rule) where
  before_next : (free : OptionWord → Bool) (u : Use) (us : List Use) (h : Held) → Before name rules free (u ∷ us) h
      → Before name rules (without (option_of u) free) us (held_after rules u h)
  before_next free u us h b =
      let knows = b.knows (option_of u) b.uses.0 in
      let none = b.fresh (option_of u) b.uses.0 in
      record {
        uses = b.uses.2;
        knows = λ o is. b.knows o (not_taken (same_option o (option_of u)) (free o) is).1;
        fresh = λ o is.
            let left = not_taken (same_option o (option_of u)) (free o) is in
            subst (λ rows. has_row (name_of o) rows ≡ false) (sym (use_settled rules u h knows b.uses.1 none))
            (pushed_use rules o u (rows_at rules h) (b.fresh o left.1) left.0);
        settled = use_settles name rules u h knows b.uses.1 none;
      }

  pub walked_all : (free : OptionWord → Bool) (us : List Use) (h : Held) → Before name rules free us h → fold (walked rules []) (at h) (all_words us) ≡ at (after_all rules us h)
  walked_all free [] h b = refl
  walked_all free (u ∷ us) h b =
      use_walked rules u h (all_words us) (b.knows (option_of u) b.uses.0) b.uses.1
      ∙ walked_all (without (option_of u) free) us (held_after rules u h) (before_next free u us h b)

  none_left : (h : Held) → walk_passes (shape_with name rules) [] (at h) [] ≡ true
  unfolding walk_passes
  none_left h = refl

  pub passes_all : (free : OptionWord → Bool) (us : List Use) (h : Held) → Before name rules free us h → walk_passes (shape_with name rules) [] (at h) (all_words us) ≡ true
  passes_all free [] h b = none_left h
  passes_all free (u ∷ us) h b =
      use_taken name rules u h (all_words us) (b.knows (option_of u) b.uses.0) b.uses.1 b.settled (b.fresh (option_of u) b.uses.0)
      ∙ passes_all (without (option_of u) free) us (held_after rules u h) (before_next free u us h b)

  pub settles_all : (free : OptionWord → Bool) (us : List Use) (h : Held) → Before name rules free us h → settles name rules (after_all rules us h) ≡ true
  settles_all free [] h b = b.settled
  settles_all free (u ∷ us) h b = settles_all (without (option_of u) free) us (held_after rules u h) (before_next free u us h b)

  pub rows_all : (free : OptionWord → Bool) (us : List Use) (h : Held) → Before name rules free us h
      → rows_at rules (after_all rules us h) ≡ rows_at rules h ++ map (use_row rules) us
  rows_all free [] h b = sym (append-nil (rows_at rules h))
  rows_all free (u ∷ us) h b =
      rows_all (without (option_of u) free) us (held_after rules u h) (before_next free u us h b)
      ∙ ap (λ rows. rows ++ map (use_row rules) us) (use_settled rules u h (b.knows (option_of u) b.uses.0) b.uses.1 (b.fresh (option_of u) b.uses.0))
      ∙ append_assoc (rows_at rules h) (use_row rules u ∷ []) (map (use_row rules) us)
