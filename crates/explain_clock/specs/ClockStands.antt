-- What the grammar of clocks wants at a place of a text, by the tokens in front of it, which are all right.
use Rattle.std.specs.Prelude.{ℕ, zero, suc, if◌then◌else◌, List, Ok, Err, length, nat_lt}
use Rattle.pl_syntax.specs.declared.scan.Scan.{Scan}
use Rattle.pl_syntax.specs.declared.token.Keyword.{Keyword}
use Rattle.pl_syntax.specs.declared.token.Keyword.TheVariants as k
use Rattle.pl_syntax.specs.declared.token.Sign.{Sign}
use Rattle.pl_syntax.specs.declared.token.Sign.TheVariants.{CloseParen, Comma, OpenParen}
use Rattle.pl_syntax.specs.Tokens.{Front, Token, front, name, number, place, sign, the_end, word}
use Rattle.clock_syntax.specs.Grammar.{clock_scan}
use Rattle.explain_clock.specs.declared.stand.ClockStand.{ClockStand}
use Rattle.explain_clock.specs.declared.stand.ClockStand.TheVariants.{AsyncOpen, Body, CallEnd, CallName, CallOpen, ClockName, FirstName, ListEnd, ListName, Semicolon, Statement, Turns}

-- behind the word with which a statement begins
abbrev pub stand_after_word : Keyword → ClockStand
stand_after_word k.Clock = ClockName
stand_after_word k.Async = AsyncOpen
stand_after_word k.Finish = Body
stand_after_word k.Advance = CallOpen
stand_after_word k.Resume = CallOpen
stand_after_word k.Drop = CallOpen
stand_after_word k.Loop = Turns
stand_after_word k.Skip = Semicolon
stand_after_word _ = Statement

-- behind a name
abbrev pub stand_after_name : ClockStand → ClockStand
stand_after_name ClockName = Semicolon
stand_after_name FirstName = ListEnd
stand_after_name ListName = ListEnd
stand_after_name CallName = CallEnd
stand_after_name _ = Statement

-- behind (
abbrev pub stand_after_open : ClockStand → ClockStand
stand_after_open AsyncOpen = FirstName
stand_after_open CallOpen = CallName
stand_after_open _ = Statement

-- behind )
abbrev pub stand_after_close : ClockStand → ClockStand
stand_after_close CallEnd = Semicolon
stand_after_close FirstName = Body
stand_after_close ListEnd = Body
stand_after_close _ = Statement

-- behind a sign
abbrev pub stand_after_sign : ClockStand → Sign → ClockStand
stand_after_sign s OpenParen = stand_after_open s
stand_after_sign s CloseParen = stand_after_close s
stand_after_sign s Comma = ListName
stand_after_sign s _ = Statement

-- behind a token
abbrev pub stand_after : ClockStand → Token → ClockStand
stand_after s (word k) = stand_after_word k
stand_after s (name x) = stand_after_name s
stand_after s (number n) = Body
stand_after s (sign g) = stand_after_sign s g
stand_after s the_end = Statement

-- behind the next token, if there is one, from where it goes on so
abbrev pub stand_behind : (List ℕ → ClockStand → ClockStand) → Front → ClockStand → ClockStand
stand_behind on (Ok (t, after)) s = on after (stand_after s t)
stand_behind on (Err fault) s = s

-- in front of byte `at`, of a text of which this is left behind tokens with this stand, and of which at most so many tokens are gone through
abbrev pub stand_before : ℕ → Scan → ℕ → List ℕ → ClockStand → ClockStand
stand_before zero scan at rest s = s
stand_before (suc n) scan at rest s = if nat_lt (place scan rest) at then stand_behind (stand_before n scan at) (front scan rest) s else s

-- in front of byte `at` of a text
abbrev pub stand_in_front : List ℕ → ℕ → ClockStand
stand_in_front text at = stand_before (length text) (clock_scan text) at text Statement
