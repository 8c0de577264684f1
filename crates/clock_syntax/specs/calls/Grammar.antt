-- The grammar of the language of clocks over tokens, and the first fault of a text that is not in it.
use Rattle.std.specs.Prelude.{ℕ, List}
use Rattle.pl_syntax.specs.declared.scan.Language.TheVariants.{Clocks}
use Rattle.pl_syntax.specs.calls.Words.{IsNameIn}

-- a name of a clock has the form of names of PL, and is no keyword of the language of clocks
abbrev pub IsClockName : List ℕ → Type 0
IsClockName w = IsNameIn Clocks w
