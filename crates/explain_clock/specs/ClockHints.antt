-- What may help with a syntax fault of a clock text: what one writes who knows X10.
use Rattle.std.specs.Prelude.{ℕ, Bool, false, true, ◌&&◌, ◌||◌, ◌==◌, if◌then◌else◌, List, [], ◌∷◌, Option, None, codes}
use Rattle.std.specs.Str.{bytes_eq}
use Rattle.pl_syntax.specs.Tokens.{kind_cannot_stand, kind_no_token}
use Rattle.explain_syntax.specs.Hints.{first_fit}
use Rattle.explain_clock.specs.declared.stand.ClockStand.{ClockStand}
use Rattle.explain_clock.specs.declared.stand.ClockStand.TheVariants.{AsyncOpen, Body}

-- the parenthesis of an async is wanted
abbrev pub is_async_open : ClockStand → Bool
is_async_open AsyncOpen = true
is_async_open _ = false

-- the brace of a body is wanted
abbrev pub is_body : ClockStand → Bool
is_body Body = true
is_body _ = false

-- where no token begins, by the word there
abbrev pub clock_token_hints : List ℕ → List (Bool × List ℕ)
clock_token_hints w = (bytes_eq w (codes "Clock"), codes "clock c; makes a clock, and registers this activity on it") ∷ []

-- where a token cannot stand, by what is wanted and by the word there
abbrev pub clock_stand_hints : ClockStand → List ℕ → List (Bool × List ℕ)
clock_stand_hints s w =
    (bytes_eq w (codes "=") || bytes_eq w (codes "val"), codes "clock c; makes a clock, and registers this activity on it")
    ∷ (bytes_eq w (codes "next"), codes "what next does in X10, advance(c); does on one clock")
    ∷ (bytes_eq w (codes "clocked") || is_async_open s, codes "an async names its clocks in parentheses, as in async(c) { .. } or async() { .. }")
    ∷ (is_body s && bytes_eq w (codes "async"), codes "a body stands in braces, as in finish { async() { .. } }")
    ∷ []

-- the first that fits a fault of this kind, if one does
abbrev pub clock_hint : ℕ → ClockStand → List ℕ → Option (List ℕ)
clock_hint kind s w =
    if kind == kind_no_token then first_fit (clock_token_hints w) else (if kind == kind_cannot_stand then first_fit (clock_stand_hints s w) else None)
