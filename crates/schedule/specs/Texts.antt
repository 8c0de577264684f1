-- The text of a replay.
use Rattle.std.specs.Prelude.{ℕ, List, [], ◌∷◌, ◌++◌, codes, decimal, flat_map, length}
use Rattle.std.specs.List.{enumerate_from}
use Rattle.armus_base.specs.declared.ids.TaskId.{TaskId}
use Rattle.schedule.specs.declared.verdict.PassVerdict.{PassVerdict}
use Rattle.schedule.specs.declared.verdict.Replayed.{Replayed}

-- the dead tasks, in order, each behind a space: t0 t1; or none
abbrev pub dead_words : List TaskId → List ℕ
dead_words [] = codes " none"
dead_words (t ∷ dead) = flat_map (λ u. codes " t" ++ decimal u.0) (t ∷ dead)

-- the line of the pass with this number, from 1: pass 1 dead t0 t1
abbrev pub pass_line : ℕ → PassVerdict → List ℕ
pass_line n v = codes "pass " ++ decimal n ++ codes " dead" ++ dead_words v.dead ++ 10 ∷ []

-- the lines of all closed passes, in order
abbrev pub pass_lines : List PassVerdict → List ℕ
pass_lines verdicts = flat_map (λ (n, v). pass_line n v) (enumerate_from 1 verdicts)

-- the last line: end steps 9 passes 2 dead t0 t1
abbrev pub end_line : Replayed → List ℕ
end_line done =
    codes "end steps " ++ decimal done.steps ++ codes " passes " ++ decimal (length done.verdicts) ++ codes " dead" ++ dead_words done.dead ++ 10 ∷ []

-- the text of a replay: a line for each closed pass, and the end
abbrev pub text_of : Replayed → List ℕ
text_of done = pass_lines done.verdicts ++ end_line done
