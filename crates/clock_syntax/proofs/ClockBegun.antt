-- What a statement of the language of clocks waits for behind its first token, and that the machine takes the tokens of each tree.
use Rattle.std.proofs.Common.{◌≡◌, ℕ, ◌+◌, List, [], ◌∷◌, Option, Some, None, refl, ◌∙◌, add-one}
use Rattle.pl_syntax.specs.declared.token.Keyword.{Keyword}
use Rattle.pl_syntax.specs.declared.token.Keyword.TheVariants as k
use Rattle.pl_syntax.specs.declared.token.Sign.TheVariants.{OpenParen, CloseParen, OpenBrace, CloseBrace}
use Rattle.pl_syntax.specs.Tokens.{Token, the_end, sign}
use Rattle.pl_syntax.proofs.Machine.{Shape, a_sign, a_name, some_names, more_names, s_end, s_named, s_loop, Firsts, at, over, run}
use Rattle.clock_syntax.specs.Trees.{ClockTree, done, plain, async, finish, loop, clock, advance, resume, drop, skip}
use Rattle.clock_syntax.specs.Grammar.{names_tokens, clock_tokens, clock_sentence}

abbrev pub s_clock : List Shape
s_clock = a_name ∷ s_end

abbrev pub s_body : List Shape
s_body = a_sign OpenBrace ∷ []

abbrev pub s_async : List Shape
s_async = a_sign OpenParen ∷ some_names ∷ s_body

abbrev pub clock_words : Keyword → Option (List Shape)
clock_words k.Clock = Some s_clock
clock_words k.Advance = Some s_named
clock_words k.Resume = Some s_named
clock_words k.Drop = Some s_named
clock_words k.Skip = Some s_end
clock_words k.Async = Some s_async
clock_words k.Finish = Some s_body
clock_words k.Loop = Some s_loop
clock_words _ = None

abbrev pub clock_firsts : Firsts
clock_firsts = record { by_name = None; by_word = clock_words }

-- names behind a first one
run_more : (x : List ℕ) (xs : List (List ℕ)) (ss : List Shape) (d : ℕ) (rest : List Token) →
    run clock_firsts (at (a_name ∷ more_names ∷ ss) d) (names_tokens (x ∷ xs) (sign CloseParen ∷ rest)) ≡ run clock_firsts (at ss d) rest
run_more x [] ss d rest = refl
run_more x (y ∷ ys) ss d rest = run_more y ys ss d rest

pub run_names : (xs : List (List ℕ)) (ss : List Shape) (d : ℕ) (rest : List Token) →
    run clock_firsts (at (some_names ∷ ss) d) (names_tokens xs (sign CloseParen ∷ rest)) ≡ run clock_firsts (at ss d) rest
run_names [] ss d rest = refl
run_names (x ∷ []) ss d rest = refl
run_names (x ∷ y ∷ ys) ss d rest = run_more y ys ss d rest

pub run_clock_tree : (p : ClockTree) (d : ℕ) (rest : List Token) → run clock_firsts (at [] d) (clock_tokens p rest) ≡ run clock_firsts (at [] d) rest
run_clock_tree done d rest = refl
run_clock_tree (plain (clock x) p) d rest = run_clock_tree p d rest
run_clock_tree (plain (advance x) p) d rest = run_clock_tree p d rest
run_clock_tree (plain (resume x) p) d rest = run_clock_tree p d rest
run_clock_tree (plain (drop x) p) d rest = run_clock_tree p d rest
run_clock_tree (plain skip p) d rest = run_clock_tree p d rest
run_clock_tree (async xs b p) d rest =
    run_names xs s_body d (sign OpenBrace ∷ clock_tokens b (sign CloseBrace ∷ clock_tokens p rest))
    ∙ run_clock_tree b (d + 1) (sign CloseBrace ∷ clock_tokens p rest) ∙ rw add-one (run_clock_tree p d rest)
run_clock_tree (finish b p) d rest =
    run_clock_tree b (d + 1) (sign CloseBrace ∷ clock_tokens p rest) ∙ rw add-one (run_clock_tree p d rest)
run_clock_tree (loop n b p) d rest =
    run_clock_tree b (d + 1) (sign CloseBrace ∷ clock_tokens p rest) ∙ rw add-one (run_clock_tree p d rest)

pub run_clock_sentence : (p : ClockTree) → run clock_firsts (at [] 0) (clock_sentence p) ≡ Some over
run_clock_sentence p = run_clock_tree p 0 (the_end ∷ [])
