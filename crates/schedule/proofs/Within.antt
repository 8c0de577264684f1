-- A schedule has no more lines than bytes, and a split no more bytes than its input.
use Rattle.std.proofs.Common.{◌≡◌, ◌+◌, ◌<◌, ◌≤◌, ℕ, List, [], ◌∷◌, length, arith, ap, refl, length-append}
use Rattle.schedule.specs.declared.lines.Line.{Line}
use Rattle.schedule.specs.Lines.{AllSay, IsCut, IsFirstLine, IsSchedule, a_line, ended, more, no_line, none, unended}
use Rattle.schedule.specs.Split.{IsSplit, at_mark, mark, more_text, no_text}

rest_is_shorter : (bytes line rest : List ℕ) → IsFirstLine bytes line rest → length rest < length bytes
rest_is_shorter bytes line rest (ended free e) = omega (arith, ap length e, length-append line (10 ∷ rest))
rest_is_shorter bytes [] rest (unended free some e nothing) = absurd (some refl)
rest_is_shorter bytes (x ∷ xs) rest (unended free some e nothing) = omega (arith, ap length e, ap length nothing)

cut_within : (bytes : List ℕ) (lines : List (List ℕ)) → IsCut bytes lines → length lines ≤ length bytes
cut_within _ _ no_line = omega arith
cut_within _ _ (a_line bytes line rest lines first cut) = omega (arith, cut_within rest lines cut, rest_is_shorter bytes line rest first)

as_many : (texts : List (List ℕ)) (lines : List Line) → AllSay texts lines → length lines ≡ length texts
as_many _ _ none = refl
as_many _ _ (more bytes line rest lines says all) = (let same = as_many rest lines all in omega arith)

pub schedule_within : (bytes : List ℕ) (lines : List Line) → IsSchedule bytes lines → length lines ≤ length bytes
schedule_within bytes lines s = omega (arith, cut_within bytes s.texts s.cut, as_many s.texts lines s.say)

pub split_within : (input text schedule : List ℕ) → IsSplit input text schedule → length text + length schedule ≤ length input
split_within _ _ _ no_text = omega arith
split_within _ _ _ (at_mark input schedule first) = omega (arith, rest_is_shorter input mark schedule first)
split_within _ _ _ (more_text input line rest front text schedule first unlike same split) =
    omega (arith, split_within rest text schedule split, ap length same, length-append front rest, length-append front text)
