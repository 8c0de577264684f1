-- A text of the language of clocks has one tree or one first fault, and not both.
use Rattle.std.proofs.Common.{◌≡◌, ℕ, true, false, List, [], ◌∷◌, ◌++◌, Some, None, refl, sym, ap, subst, ◌∙◌, append_assoc, arith}
use Rattle.std.proofs.lemmas.List.{append-nil}
use Rattle.pl_syntax.specs.declared.token.Keyword.TheVariants as k
use Rattle.pl_syntax.specs.declared.token.Sign.TheVariants.{CloseParen, OpenBrace, CloseBrace}
use Rattle.pl_syntax.specs.declared.fault.SyntaxFault.{SyntaxFault}
use Rattle.pl_syntax.specs.Tokens.{Token, the_end, sign, word}
use Rattle.pl_syntax.specs.inside.Reading.{ends_list}
use Rattle.pl_syntax.proofs.Machine.{at, run, run-append}
use Rattle.pl_syntax.proofs.FirstFaults.{one_from, one_stretch, no_fault}
use Rattle.clock_syntax.specs.Trees.{ClockPlain, clock, advance, resume, drop, skip, ClockTree, done, plain, async, finish, loop}
use Rattle.clock_syntax.specs.Grammar.{names_tokens, clock_plain_tokens, clock_tokens, clock_sentence, clock_scan, ClockBegins, IsClockText, HasClockFault}
use Rattle.clock_syntax.proofs.ClockBegun.{clock_firsts, run_clock_sentence}
use Rattle.clock_syntax.proofs.ClockForest.{clocks_run_if}
use Rattle.clock_syntax.proofs.ClockStatements.{clock_stays}

-- ---- one tree for its tokens

plain_one : (c c' : ClockPlain) (us vs : List Token) → clock_plain_tokens c us ≡ clock_plain_tokens c' vs → (c ≡ c') × (us ≡ vs)
plain_one (clock x) (clock y) us vs e = (cc, cc)
plain_one (advance x) (advance y) us vs e = (cc, cc)
plain_one (resume x) (resume y) us vs e = (cc, cc)
plain_one (drop x) (drop y) us vs e = (cc, cc)
plain_one skip skip us vs e = (refl, cc)
plain_one _ _ us vs e = absurd cc

-- names with their `)` are told from what follows
names_one : (xs ys : List (List ℕ)) (us vs : List Token) → names_tokens xs (sign CloseParen ∷ us) ≡ names_tokens ys (sign CloseParen ∷ vs) → (xs ≡ ys) × (us ≡ vs)
names_one [] [] us vs e = (refl, cc)
names_one [] (y ∷ []) us vs e = absurd cc
names_one [] (y ∷ z ∷ ys) us vs e = absurd cc
names_one (x ∷ []) [] us vs e = absurd cc
names_one (x ∷ z ∷ xs) [] us vs e = absurd cc
names_one (x ∷ []) (y ∷ []) us vs e = (cc, cc)
names_one (x ∷ []) (y ∷ z ∷ ys) us vs e = absurd cc
names_one (x ∷ z ∷ xs) (y ∷ []) us vs e = absurd cc
names_one (x ∷ z ∷ xs) (y ∷ w ∷ ys) us vs e =
    let first : x ≡ y = cc in
    let rest : names_tokens (z ∷ xs) (sign CloseParen ∷ us) ≡ names_tokens (w ∷ ys) (sign CloseParen ∷ vs) = cc in
    let h = names_one (z ∷ xs) (w ∷ ys) us vs rest in
    (let g = h.0 in cc, h.1)

-- tokens before which a list ends
abbrev Closes : List Token → Type 0
Closes [] = ⊥
Closes (t ∷ ts) = ends_list t ≡ true

plain_goes : (c : ClockPlain) (us rest : List Token) → Closes rest → clock_plain_tokens c us ≡ rest → ⊥
plain_goes c us [] h e = h
plain_goes (clock x) us (t ∷ ts) h e = let q : word k.Clock ≡ t = cc in let r : false ≡ true = ap ends_list q ∙ h in cc
plain_goes (advance x) us (t ∷ ts) h e = let q : word k.Advance ≡ t = cc in let r : false ≡ true = ap ends_list q ∙ h in cc
plain_goes (resume x) us (t ∷ ts) h e = let q : word k.Resume ≡ t = cc in let r : false ≡ true = ap ends_list q ∙ h in cc
plain_goes (drop x) us (t ∷ ts) h e = let q : word k.Drop ≡ t = cc in let r : false ≡ true = ap ends_list q ∙ h in cc
plain_goes skip us (t ∷ ts) h e = let q : word k.Skip ≡ t = cc in let r : false ≡ true = ap ends_list q ∙ h in cc

word_goes : (w : Token) (us rest : List Token) → ends_list w ≡ false → Closes rest → w ∷ us ≡ rest → ⊥
word_goes w us [] g h e = h
word_goes w us (t ∷ ts) g h e = let q : w ≡ t = cc in let r : false ≡ true = sym g ∙ ap ends_list q ∙ h in cc

plain_async : (c : ClockPlain) (us vs : List Token) → clock_plain_tokens c us ≡ word k.Async ∷ vs → ⊥
plain_async (clock x) us vs e = cc
plain_async (advance x) us vs e = cc
plain_async (resume x) us vs e = cc
plain_async (drop x) us vs e = cc
plain_async skip us vs e = cc

plain_finish : (c : ClockPlain) (us vs : List Token) → clock_plain_tokens c us ≡ word k.Finish ∷ vs → ⊥
plain_finish (clock x) us vs e = cc
plain_finish (advance x) us vs e = cc
plain_finish (resume x) us vs e = cc
plain_finish (drop x) us vs e = cc
plain_finish skip us vs e = cc

plain_loop : (c : ClockPlain) (us vs : List Token) → clock_plain_tokens c us ≡ word k.Loop ∷ vs → ⊥
plain_loop (clock x) us vs e = cc
plain_loop (advance x) us vs e = cc
plain_loop (resume x) us vs e = cc
plain_loop (drop x) us vs e = cc
plain_loop skip us vs e = cc

tree_one : (p q : ClockTree) (us vs : List Token) → Closes us → Closes vs → clock_tokens p us ≡ clock_tokens q vs → (p ≡ q) × (us ≡ vs)
tree_one done done us vs a b e = (refl, e)
tree_one done (plain c q) us vs a b e = absurd (plain_goes c (clock_tokens q vs) us a (sym e))
tree_one done (async xs i q) us vs a b e = absurd (word_goes (word k.Async) _ us refl a (sym e))
tree_one done (finish i q) us vs a b e = absurd (word_goes (word k.Finish) _ us refl a (sym e))
tree_one done (loop n i q) us vs a b e = absurd (word_goes (word k.Loop) _ us refl a (sym e))
tree_one (plain c p) done us vs a b e = absurd (plain_goes c (clock_tokens p us) vs b e)
tree_one (async xs i p) done us vs a b e = absurd (word_goes (word k.Async) _ vs refl b e)
tree_one (finish i p) done us vs a b e = absurd (word_goes (word k.Finish) _ vs refl b e)
tree_one (loop n i p) done us vs a b e = absurd (word_goes (word k.Loop) _ vs refl b e)
tree_one (plain c p) (plain c' q) us vs a b e =
    let h = plain_one c c' (clock_tokens p us) (clock_tokens q vs) e in
    let o = tree_one p q us vs a b h.1 in
    ((let g = h.0 in let w = o.0 in cc), o.1)
tree_one (plain c p) (async xs i q) us vs a b e = absurd (plain_async c (clock_tokens p us) _ e)
tree_one (plain c p) (finish i q) us vs a b e = absurd (plain_finish c (clock_tokens p us) _ e)
tree_one (plain c p) (loop n i q) us vs a b e = absurd (plain_loop c (clock_tokens p us) _ e)
tree_one (async xs i p) (plain c q) us vs a b e = absurd (plain_async c (clock_tokens q vs) _ (sym e))
tree_one (finish i p) (plain c q) us vs a b e = absurd (plain_finish c (clock_tokens q vs) _ (sym e))
tree_one (loop n i p) (plain c q) us vs a b e = absurd (plain_loop c (clock_tokens q vs) _ (sym e))
tree_one (async xs i p) (async ys j q) us vs a b e =
    let front : names_tokens xs (sign CloseParen ∷ sign OpenBrace ∷ clock_tokens i (sign CloseBrace ∷ clock_tokens p us))
    ≡ names_tokens ys (sign CloseParen ∷ sign OpenBrace ∷ clock_tokens j (sign CloseBrace ∷ clock_tokens q vs)) = cc in
    let n = names_one xs ys _ _ front in
    let inner : clock_tokens i (sign CloseBrace ∷ clock_tokens p us) ≡ clock_tokens j (sign CloseBrace ∷ clock_tokens q vs) = (let g = n.1 in cc) in
    let h = tree_one i j (sign CloseBrace ∷ clock_tokens p us) (sign CloseBrace ∷ clock_tokens q vs) refl refl inner in
    let outer : clock_tokens p us ≡ clock_tokens q vs = (let g = h.1 in cc) in
    let o = tree_one p q us vs a b outer in
    ((let f = n.0 in let g = h.0 in let w = o.0 in cc), o.1)
tree_one (finish i p) (finish j q) us vs a b e =
    let inner : clock_tokens i (sign CloseBrace ∷ clock_tokens p us) ≡ clock_tokens j (sign CloseBrace ∷ clock_tokens q vs) = cc in
    let h = tree_one i j (sign CloseBrace ∷ clock_tokens p us) (sign CloseBrace ∷ clock_tokens q vs) refl refl inner in
    let outer : clock_tokens p us ≡ clock_tokens q vs = (let g = h.1 in cc) in
    let o = tree_one p q us vs a b outer in
    ((let g = h.0 in let w = o.0 in cc), o.1)
tree_one (loop n i p) (loop m j q) us vs a b e =
    let l : n ≡ m = cc in
    let inner : clock_tokens i (sign CloseBrace ∷ clock_tokens p us) ≡ clock_tokens j (sign CloseBrace ∷ clock_tokens q vs) = cc in
    let h = tree_one i j (sign CloseBrace ∷ clock_tokens p us) (sign CloseBrace ∷ clock_tokens q vs) refl refl inner in
    let outer : clock_tokens p us ≡ clock_tokens q vs = (let g = h.1 in cc) in
    let o = tree_one p q us vs a b outer in
    ((let g = h.0 in let w = o.0 in cc), o.1)
tree_one (async xs i p) (finish j q) us vs a b e = absurd cc
tree_one (async xs i p) (loop m j q) us vs a b e = absurd cc
tree_one (finish i p) (async ys j q) us vs a b e = absurd cc
tree_one (finish i p) (loop m j q) us vs a b e = absurd cc
tree_one (loop n i p) (async ys j q) us vs a b e = absurd cc
tree_one (loop n i p) (finish j q) us vs a b e = absurd cc

-- ---- whole texts

begins_front : (ts us : List Token) → ClockBegins (ts ++ us) → ClockBegins ts
begins_front ts us b = (b.0, us ++ b.1, sym (append_assoc ts us b.1) ∙ b.2)

-- the tokens are those of a program
abbrev Whole : List Token → Type 0
Whole us = (p : ClockTree) × (us ≡ clock_sentence p)

past_text : (p : ClockTree) (t : Token) (vs : List Token) → ClockBegins (clock_sentence p ++ t ∷ vs) → ⊥
past_text p t vs b =
    let r = clocks_run_if (clock_sentence p ++ t ∷ vs) b in
    let q : run clock_firsts (at [] 0) (clock_sentence p ++ t ∷ vs) ≡ None =
    run-append clock_firsts (at [] 0) (clock_sentence p) (t ∷ vs) ∙ rw (run_clock_sentence p) refl in
    let z : None ≡ Some r.0 = sym q ∙ r.1 in
    cc

end_only : (us : List Token) → Whole us → (t : Token) (vs : List Token) → ClockBegins (us ++ t ∷ vs) → ⊥
end_only us w t vs b = past_text w.0 t vs (subst (λ (x : List Token). ClockBegins (x ++ t ∷ vs)) w.1 b)

whole_begins : (us : List Token) → Whole us → ClockBegins us
whole_begins us w = (w.0, [], append-nil us ∙ w.1)

-- ---- the laws

pub one_clock_tree : (text : List ℕ) (p q : ClockTree) → IsClockText text p → IsClockText text q → p ≡ q
one_clock_tree text p q a b =
    (tree_one p q (the_end ∷ []) (the_end ∷ []) refl refl
    (one_stretch ClockBegins begins_front Whole end_only whole_begins (clock_scan text) text (clock_sentence p) [] (clock_sentence q) [] (p, refl) (q, refl) a.reads b.reads).0).0

pub not_both_clocks : (text : List ℕ) (p : ClockTree) (f : SyntaxFault) → IsClockText text p → HasClockFault text f → ⊥
not_both_clocks text p f a b =
    let h = a.shallow in
    no_fault ClockBegins begins_front Whole end_only whole_begins (clock_scan text) text (clock_sentence p) [] f (p, refl)
    (clock_stays (clock_scan text) p 0 (the_end ∷ []) (omega arith) (omega arith, omega arith)) a.reads b

pub one_clock_fault : (text : List ℕ) (f g : SyntaxFault) → HasClockFault text f → HasClockFault text g → f ≡ g
one_clock_fault text f g a b = one_from ClockBegins begins_front (clock_scan text) text f g a b
