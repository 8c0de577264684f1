-- Texts of two lines and more.
use Rattle.std.specs.Prelude.{◌≡◌, ◌∷◌, ◌++◌}
use Rattle.program_io.specs.Texts.{Text}
use Rattle.pl_syntax.specs.Printed.{line}

-- the text has an LF, and more behind it, which ends with LF
abbrev pub HasTwoLines : Text → Type 0
HasTwoLines text = (front : Text) × (back : Text) × (text ≡ line (front ++ 10 ∷ back))
