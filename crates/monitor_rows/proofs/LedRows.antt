-- Rows that are found turn by turn are those of the groups.
use Rattle.std.proofs.Common.{◌≡◌, ℕ, Bool, List, [], ◌∷◌, ◌++◌, map, sym, ◌∙◌, ap}
use Rattle.std.specs.Prelude.{not, filter}
use Rattle.monitor_laws.specs.States.{Participant, TraceState}
use Rattle.monitor_words.specs.Words.{groups_by, wait_alike}
use Rattle.monitor_words.specs.calls.Values.{row_shown, rows_shown}
use Rattle.monitor_words.specs.declared.rows.ShownRows.{ShownRows}
use Rattle.monitor_words.specs.declared.rows.WaitRow.{WaitRow}
use Rattle.monitor_rows.specs.inside.Turns.{turn_groups, turns_leave}
use Rattle.monitor_rows.proofs.Alike.{wait_alike_laws}
use Rattle.monitor_rows.proofs.Groups.{led_turns_find, led_turns_left, turns_find, turns_left}

module _ (s : TraceState) (stuck : ℕ → Bool) (x : ShownRows) where
  both : (rows : List WaitRow) (left : ℕ) → x.rows ≡ rows → x.left ≡ left → x ≡ record { rows = rows; left = left }
  both rows left are is = ap (λ (r : List WaitRow). record { rows = r; left = x.left }) are ∙ ap (λ (n : ℕ). record { rows = rows; left = n }) is

  -- ten turns
  pub ten_turns :
      (before : List WaitRow) (xs : List Participant) → before ≡ [] → x.rows ≡ before ++ map (row_shown s stuck) (turn_groups wait_alike 10 xs) → x.left ≡ turns_leave wait_alike 10 xs →
      x ≡ rows_shown s stuck (groups_by wait_alike xs xs)
  ten_turns before xs none are is =
      both (map (row_shown s stuck) (turn_groups wait_alike 10 xs)) (turns_leave wait_alike 10 xs) (are ∙ ap (λ (b : List WaitRow). b ++ map (row_shown s stuck) (turn_groups wait_alike 10 xs)) none) is
      ∙ ap (λ (g : List (Participant × List Participant)). record { rows = map (row_shown s stuck) g; left = turns_leave wait_alike 10 xs }) (sym (turns_find wait_alike wait_alike_laws 10 xs))
      ∙ ap (λ (n : ℕ). record { rows = (rows_shown s stuck (groups_by wait_alike xs xs)).rows; left = n }) (sym (turns_left wait_alike wait_alike_laws 10 xs))

  -- the row of f, and nine turns
  pub nine_turns :
      (f : Participant) (none before : List WaitRow) (xs others : List Participant) → none ≡ [] → before ≡ none ++ row_shown s stuck (f, filter (wait_alike f) xs) ∷ [] → others ≡ filter (λ u. not (wait_alike f u)) xs →
      x.rows ≡ before ++ map (row_shown s stuck) (turn_groups wait_alike 9 others) → x.left ≡ turns_leave wait_alike 9 others →
      x ≡ rows_shown s stuck (groups_by wait_alike (f ∷ xs) xs)
  nine_turns f none before xs others empty first left are is =
      both (row_shown s stuck (f, filter (wait_alike f) xs) ∷ map (row_shown s stuck) (turn_groups wait_alike 9 (filter (λ u. not (wait_alike f u)) xs))) (turns_leave wait_alike 9 (filter (λ u. not (wait_alike f u)) xs))
      (are
      ∙ ap (λ (b : List WaitRow). b ++ map (row_shown s stuck) (turn_groups wait_alike 9 others)) (first ∙ ap (λ (n : List WaitRow). n ++ row_shown s stuck (f, filter (wait_alike f) xs) ∷ []) empty)
      ∙ ap (λ (l : List Participant). row_shown s stuck (f, filter (wait_alike f) xs) ∷ map (row_shown s stuck) (turn_groups wait_alike 9 l)) left)
      (is ∙ ap (turns_leave wait_alike 9) left)
      ∙ ap (λ (g : List (Participant × List Participant)). record { rows = map (row_shown s stuck) g; left = turns_leave wait_alike 9 (filter (λ u. not (wait_alike f u)) xs) }) (sym (led_turns_find wait_alike wait_alike_laws 9 f xs))
      ∙ ap (λ (n : ℕ). record { rows = (rows_shown s stuck (groups_by wait_alike (f ∷ xs) xs)).rows; left = n }) (sym (led_turns_left wait_alike wait_alike_laws 9 f xs))
