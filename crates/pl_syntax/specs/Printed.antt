-- The printed form of a program.
use Rattle.std.specs.Prelude.{Bool, true, false, ℕ, ◌+◌, ◌*◌, List, [], ◌∷◌, ◌++◌, codes, replicate, decimal}
use Rattle.armus_base.specs.declared.offset.Offset.{Offset}
use Rattle.armus_base.specs.declared.offset.Offset.TheVariants.{Ahead, Back, Here}
use Rattle.pl_syntax.specs.declared.tree.Program.{Program}
use Rattle.pl_syntax.specs.Tree.{Tree, done, plain, fork, loop, Plain, new_task, new_phaser, reg, dereg, adv, await, skip}

-- a line: its words, and the LF that ends it
abbrev pub line : List ℕ → List ℕ
line words = words ++ 10 ∷ []

-- a line behind two spaces for each open brace
abbrev pub indented_line : ℕ → List ℕ → List ℕ
indented_line depth words = replicate (2 * depth) 32 ++ line words

-- how far an await looks back or ahead
abbrev pub offset_text : Offset → List ℕ
offset_text Here = []
offset_text (Back k) = codes " - " ++ decimal k
offset_text (Ahead k) = codes " + " ++ decimal k

-- a statement without a body
abbrev pub plain_text : Plain → List ℕ
plain_text (new_task x) = x ++ codes " = newTid();"
plain_text (new_phaser x) = x ++ codes " = newPhaser();"
plain_text (reg x y) = codes "reg(" ++ x ++ codes ", " ++ y ++ codes ");"
plain_text (dereg x) = codes "dereg(" ++ x ++ codes ");"
plain_text (adv x) = codes "adv(" ++ x ++ codes ");"
plain_text (await x off) = codes "await(" ++ x ++ offset_text off ++ codes ");"
plain_text skip = codes "skip;"

-- the lines of a list of statements, where so many braces are open
abbrev pub printed_at : ℕ → Tree → List ℕ
printed_at depth done = []
printed_at depth (plain s rest) = indented_line depth (plain_text s) ++ printed_at depth rest
printed_at depth (fork x body rest) =
    indented_line depth (codes "fork(" ++ x ++ codes ") {") ++ printed_at (depth + 1) body ++ indented_line depth (codes "}") ++ printed_at depth rest
printed_at depth (loop k body rest) =
    indented_line depth (codes "loop " ++ decimal k ++ codes " {") ++ printed_at (depth + 1) body ++ indented_line depth (codes "}") ++ printed_at depth rest

-- the line with which a program of PL 2 begins
abbrev pub header_text : Bool → List ℕ
header_text false = []
header_text true = line (codes "pl 2;")

-- the printed form of a program
abbrev pub printed_of : Program → List ℕ
printed_of p = header_text p.two ++ printed_at 0 p.body
