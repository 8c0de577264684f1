-- Each statement has an offset.
use Rattle.std.proofs.Common.{◌≡◌, ℕ, suc, ◌+◌, List, [], ◌∷◌, length, arith, refl, ap}
use Rattle.pl_syntax.specs.declared.scan.Scan.{Scan}
use Rattle.pl_syntax.specs.declared.token.Sign.TheVariants.{CloseBrace, CloseParen, OpenBrace}
use Rattle.pl_syntax.specs.Tokens.{Token, front, name, number, sign, the_end, word}
use Rattle.clock_syntax.specs.Grammar.{clock_plain_tokens, clock_scan, clock_sentence, clock_tokens, names_tokens}
use Rattle.clock_syntax.specs.Trees.{ClockPlain, ClockTree, advance, async, clock, clock_count, done, drop, finish, loop, plain, resume, skip}
use Rattle.clock_source_map.specs.ClockOffsets.{keyword_offsets, left_behind}
use Rattle.clock_source_map.specs.calls.Laws.{StatementsHaveOffsets}

-- how many of these tokens are keywords
abbrev words_in : List Token → ℕ
words_in [] = 0
words_in (word k ∷ ts) = suc (words_in ts)
words_in (the_end ∷ ts) = words_in ts
words_in (sign s ∷ ts) = words_in ts
words_in (name x ∷ ts) = words_in ts
words_in (number n ∷ ts) = words_in ts

offsets_many : (scan : Scan) (ts : List Token) (text : List ℕ) → length (keyword_offsets scan ts text) ≡ words_in ts
offsets_many scan [] text = refl
offsets_many scan (word k ∷ ts) text = ap suc (offsets_many scan ts (left_behind (front scan text)))
offsets_many scan (the_end ∷ ts) text = offsets_many scan ts (left_behind (front scan text))
offsets_many scan (sign s ∷ ts) text = offsets_many scan ts (left_behind (front scan text))
offsets_many scan (name x ∷ ts) text = offsets_many scan ts (left_behind (front scan text))
offsets_many scan (number n ∷ ts) text = offsets_many scan ts (left_behind (front scan text))

names_have_none : (xs : List (List ℕ)) (ts : List Token) → words_in (names_tokens xs ts) ≡ words_in ts
names_have_none [] ts = refl
names_have_none (x ∷ []) ts = refl
names_have_none (x ∷ y ∷ ys) ts = names_have_none (y ∷ ys) ts

plain_has_one : (s : ClockPlain) (ts : List Token) → words_in (clock_plain_tokens s ts) ≡ suc (words_in ts)
plain_has_one (clock x) ts = refl
plain_has_one (advance x) ts = refl
plain_has_one (resume x) ts = refl
plain_has_one (drop x) ts = refl
plain_has_one skip ts = refl

tree_has : (p : ClockTree) (ts : List Token) → words_in (clock_tokens p ts) ≡ clock_count p + words_in ts
tree_has done ts = omega arith
tree_has (plain s more) ts = omega (arith, plain_has_one s (clock_tokens more ts), tree_has more ts)
tree_has (async xs body more) ts =
    let names = names_have_none xs (sign CloseParen ∷ sign OpenBrace ∷ clock_tokens body (sign CloseBrace ∷ clock_tokens more ts)) in
    omega (arith, names, tree_has body (sign CloseBrace ∷ clock_tokens more ts), tree_has more ts)
tree_has (finish body more) ts = omega (arith, tree_has body (sign CloseBrace ∷ clock_tokens more ts), tree_has more ts)
tree_has (loop n body more) ts = omega (arith, tree_has body (sign CloseBrace ∷ clock_tokens more ts), tree_has more ts)

pub statements_have_offsets : StatementsHaveOffsets
statements_have_offsets text p is =
    let many = offsets_many (clock_scan text) (clock_sentence p) text in
    let has = tree_has p (the_end ∷ []) in
    omega (arith, many, has)
