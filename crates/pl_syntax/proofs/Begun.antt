-- What a statement of PL waits for behind its first token.
use Rattle.std.proofs.Common.{◌≡◌, ℕ, ◌+◌, List, [], ◌∷◌, Option, Some, None, refl, ◌∙◌, add-one}
use Rattle.armus_base.specs.declared.offset.Offset.TheVariants.{Ahead, Back, Here}
use Rattle.pl_syntax.specs.declared.token.Keyword.{Keyword}
use Rattle.pl_syntax.specs.declared.token.Keyword.TheVariants as k
use Rattle.pl_syntax.specs.declared.token.Sign.TheVariants.{Equals, OpenParen, CloseParen, Comma, Semicolon, OpenBrace, CloseBrace}
use Rattle.pl_syntax.specs.Tokens.{Token, the_end, sign}
use Rattle.pl_syntax.specs.Tree.{Tree, done, plain, fork, loop, new_task, new_phaser, reg, dereg, adv, await, skip}
use Rattle.pl_syntax.specs.Grammar.{tokens, sentence}
use Rattle.pl_syntax.proofs.Machine.{Shape, a_sign, a_name, a_maker, an_offset, s_end, s_named, s_loop, Firsts, at, over, run}

abbrev pub s_await : List Shape
s_await = a_sign OpenParen ∷ a_name ∷ an_offset ∷ a_sign Semicolon ∷ []

abbrev pub s_drawn : List Shape
s_drawn = a_sign Equals ∷ a_maker ∷ a_sign OpenParen ∷ a_sign CloseParen ∷ a_sign Semicolon ∷ []

abbrev pub s_pair : List Shape
s_pair = a_sign OpenParen ∷ a_name ∷ a_sign Comma ∷ a_name ∷ a_sign CloseParen ∷ a_sign Semicolon ∷ []

abbrev pub s_fork : List Shape
s_fork = a_sign OpenParen ∷ a_name ∷ a_sign CloseParen ∷ a_sign OpenBrace ∷ []

abbrev pub word_firsts : Keyword → Option (List Shape)
word_firsts k.Reg = Some s_pair
word_firsts k.Dereg = Some s_named
word_firsts k.Adv = Some s_named
word_firsts k.Await = Some s_await
word_firsts k.Skip = Some s_end
word_firsts k.Fork = Some s_fork
word_firsts k.Loop = Some s_loop
word_firsts _ = None

abbrev pub firsts : Firsts
firsts = record { by_name = Some s_drawn; by_word = word_firsts }

-- ---- a run of a text

pub run_tree : (p : Tree) (d : ℕ) (rest : List Token) → run firsts (at [] d) (tokens p rest) ≡ run firsts (at [] d) rest
run_tree done d rest = refl
run_tree (plain (new_task x) p) d rest = run_tree p d rest
run_tree (plain (new_phaser x) p) d rest = run_tree p d rest
run_tree (plain (reg x y) p) d rest = run_tree p d rest
run_tree (plain (dereg x) p) d rest = run_tree p d rest
run_tree (plain (adv x) p) d rest = run_tree p d rest
run_tree (plain (await x Here) p) d rest = run_tree p d rest
run_tree (plain (await x (Back n)) p) d rest = run_tree p d rest
run_tree (plain (await x (Ahead n)) p) d rest = run_tree p d rest
run_tree (plain skip p) d rest = run_tree p d rest
run_tree (fork x b p) d rest =
    run_tree b (d + 1) (sign CloseBrace ∷ tokens p rest) ∙ rw add-one (run_tree p d rest)
run_tree (loop n b p) d rest =
    run_tree b (d + 1) (sign CloseBrace ∷ tokens p rest) ∙ rw add-one (run_tree p d rest)

pub run_sentence : (p : Tree) → run firsts (at [] 0) (sentence p) ≡ Some over
run_sentence p = run_tree p 0 (the_end ∷ [])
