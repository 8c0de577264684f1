-- The text of `gen n`.
use Rattle.std.specs.Prelude.{ℕ, ◌%◌, ◌==◌, if◌then◌else◌, List, [], ◌∷◌, ◌++◌, codes, decimal}
use Rattle.std.specs.List.{flat_map}
use Rattle.pl_syntax.specs.Printed.{line}

-- what task 0 does behind its loop: it leaves the workers' barrier where n is not a multiple of 3
abbrev pub lines_after_loop : ℕ → List (List ℕ)
lines_after_loop n = (if n % 3 == 0 then [] else codes "dereg(pc);" ∷ []) ++ codes "adv(pb);" ∷ codes "await(pb);" ∷ []

-- the lines of the averaging kernel with n workers and eight rounds
abbrev pub generated_lines : ℕ → List (List ℕ)
generated_lines n =
    codes "pc = newPhaser();"
    ∷ codes "pb = newPhaser();"
    ∷ (codes "loop " ++ decimal n ++ codes " {")
    ∷ codes "  t = newTid();"
    ∷ codes "  reg(t, pc);"
    ∷ codes "  reg(t, pb);"
    ∷ codes "  fork(t) {"
    ∷ codes "    loop 8 {"
    ∷ codes "      adv(pc);"
    ∷ codes "      await(pc);"
    ∷ codes "    }"
    ∷ codes "    dereg(pc);"
    ∷ codes "    dereg(pb);"
    ∷ codes "  }"
    ∷ codes "}"
    ∷ lines_after_loop n

-- the text: the lines, one after the other
abbrev pub generated_text : ℕ → List ℕ
generated_text n = flat_map line (generated_lines n)
