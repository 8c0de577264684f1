-- A text has one tree or one first fault, and not both.
use Rattle.std.proofs.Common.{Bool, ◌≡◌, ℕ, ◌≤◌, true, false, List, [], ◌∷◌, ◌++◌, Some, None, refl, sym, ap, subst, ◌∙◌, append_assoc, arith, ◌⊎◌, inl, inr}
use Rattle.pl_syntax.specs.declared.scan.Scan.{Scan}
use Rattle.pl_syntax.specs.declared.limits.TheConstants.{MAX_OPEN_BRACES}
use Rattle.armus_base.specs.declared.offset.Offset.TheVariants.{Ahead, Back, Here}
use Rattle.pl_syntax.specs.declared.tree.Program.{Program}
use Rattle.pl_syntax.specs.declared.token.Keyword.TheVariants as k
use Rattle.pl_syntax.specs.declared.token.Sign.TheVariants.{CloseBrace}
use Rattle.pl_syntax.specs.declared.fault.SyntaxFault.{SyntaxFault}
use Rattle.pl_syntax.specs.Tokens.{Token, the_end, sign, word, name, Leads}
use Rattle.pl_syntax.specs.Tree.{Tree, done, plain, fork, loop, Plain, new_task, new_phaser, reg, dereg, adv, await, skip, height}
use Rattle.pl_syntax.specs.Grammar.{ReadsTokens, header, scan_of, tokens, plain_tokens, sentence, StaysShallow, IsText, HasFault, Begins, IsFirstSyntaxFault, IsAtFault}
use Rattle.pl_syntax.specs.inside.Reading.{ends_list}
use Rattle.pl_syntax.proofs.FirstFaults.{one_from, one_stretch, no_fault}
use Rattle.pl_syntax.proofs.Machine.{at, run, run-append}
use Rattle.pl_syntax.proofs.Begun.{firsts, run_sentence}
use Rattle.pl_syntax.proofs.Forest.{runs_if}
use Rattle.pl_syntax.proofs.Statements.{stays}
use Rattle.std.proofs.lemmas.List.{append-nil}

-- ---- one tree for its tokens

plain_one : (c c' : Plain) (us vs : List Token) → plain_tokens c us ≡ plain_tokens c' vs → (c ≡ c') × (us ≡ vs)
plain_one (new_task x) (new_task y) us vs e = (cc, cc)
plain_one (new_phaser x) (new_phaser y) us vs e = (cc, cc)
plain_one (reg x y) (reg z w) us vs e = (cc, cc)
plain_one (dereg x) (dereg y) us vs e = (cc, cc)
plain_one (adv x) (adv y) us vs e = (cc, cc)
plain_one (await x Here) (await y Here) us vs e = (cc, cc)
plain_one (await x (Back k)) (await y (Back n)) us vs e = (cc, cc)
plain_one (await x (Ahead k)) (await y (Ahead n)) us vs e = (cc, cc)
plain_one skip skip us vs e = (refl, cc)
plain_one _ _ us vs e = absurd cc

-- tokens before which a list ends
abbrev Closes : List Token → Type 0
Closes [] = ⊥
Closes (t ∷ ts) = ends_list t ≡ true

plain_goes : (c : Plain) (us rest : List Token) → Closes rest → plain_tokens c us ≡ rest → ⊥
plain_goes c us [] h e = h
plain_goes (new_task x) us (t ∷ ts) h e = let q : name x ≡ t = cc in let r : false ≡ true = ap ends_list q ∙ h in cc
plain_goes (new_phaser x) us (t ∷ ts) h e = let q : name x ≡ t = cc in let r : false ≡ true = ap ends_list q ∙ h in cc
plain_goes (reg x y) us (t ∷ ts) h e = let q : word k.Reg ≡ t = cc in let r : false ≡ true = ap ends_list q ∙ h in cc
plain_goes (dereg x) us (t ∷ ts) h e = let q : word k.Dereg ≡ t = cc in let r : false ≡ true = ap ends_list q ∙ h in cc
plain_goes (adv x) us (t ∷ ts) h e = let q : word k.Adv ≡ t = cc in let r : false ≡ true = ap ends_list q ∙ h in cc
plain_goes (await x off) us (t ∷ ts) h e = let q : word k.Await ≡ t = cc in let r : false ≡ true = ap ends_list q ∙ h in cc
plain_goes skip us (t ∷ ts) h e = let q : word k.Skip ≡ t = cc in let r : false ≡ true = ap ends_list q ∙ h in cc

word_goes : (w : Token) (us rest : List Token) → ends_list w ≡ false → Closes rest → w ∷ us ≡ rest → ⊥
word_goes w us [] g h e = h
word_goes w us (t ∷ ts) g h e = let q : w ≡ t = cc in let r : false ≡ true = sym g ∙ ap ends_list q ∙ h in cc

plain_fork : (c : Plain) (us vs : List Token) → plain_tokens c us ≡ word k.Fork ∷ vs → ⊥
plain_fork (new_task x) us vs e = cc
plain_fork (new_phaser x) us vs e = cc
plain_fork (reg x y) us vs e = cc
plain_fork (dereg x) us vs e = cc
plain_fork (adv x) us vs e = cc
plain_fork (await x off) us vs e = cc
plain_fork skip us vs e = cc

plain_loop : (c : Plain) (us vs : List Token) → plain_tokens c us ≡ word k.Loop ∷ vs → ⊥
plain_loop (new_task x) us vs e = cc
plain_loop (new_phaser x) us vs e = cc
plain_loop (reg x y) us vs e = cc
plain_loop (dereg x) us vs e = cc
plain_loop (adv x) us vs e = cc
plain_loop (await x off) us vs e = cc
plain_loop skip us vs e = cc

tree_one : (p q : Tree) (us vs : List Token) → Closes us → Closes vs → tokens p us ≡ tokens q vs → (p ≡ q) × (us ≡ vs)
tree_one done done us vs a b e = (refl, e)
tree_one done (plain c q) us vs a b e = absurd (plain_goes c (tokens q vs) us a (sym e))
tree_one done (fork x i q) us vs a b e = absurd (word_goes (word k.Fork) _ us refl a (sym e))
tree_one done (loop n i q) us vs a b e = absurd (word_goes (word k.Loop) _ us refl a (sym e))
tree_one (plain c p) done us vs a b e = absurd (plain_goes c (tokens p us) vs b e)
tree_one (fork x i p) done us vs a b e = absurd (word_goes (word k.Fork) _ vs refl b e)
tree_one (loop n i p) done us vs a b e = absurd (word_goes (word k.Loop) _ vs refl b e)
tree_one (plain c p) (plain c' q) us vs a b e =
    let h = plain_one c c' (tokens p us) (tokens q vs) e in
    let i = tree_one p q us vs a b h.1 in
    ((let x = h.0 in let y = i.0 in cc), i.1)
tree_one (plain c p) (fork x i q) us vs a b e = absurd (plain_fork c _ _ e)
tree_one (plain c p) (loop n i q) us vs a b e = absurd (plain_loop c _ _ e)
tree_one (fork x i p) (plain c q) us vs a b e = absurd (plain_fork c _ _ (sym e))
tree_one (loop n i p) (plain c q) us vs a b e = absurd (plain_loop c _ _ (sym e))
tree_one (fork x i p) (loop n j q) us vs a b e = absurd cc
tree_one (loop n i p) (fork x j q) us vs a b e = absurd cc
tree_one (fork x i p) (fork y j q) us vs a b e =
    let n : x ≡ y = cc in
    let inner : tokens i (sign CloseBrace ∷ tokens p us) ≡ tokens j (sign CloseBrace ∷ tokens q vs) = cc in
    let h = tree_one i j (sign CloseBrace ∷ tokens p us) (sign CloseBrace ∷ tokens q vs) refl refl inner in
    let outer : tokens p us ≡ tokens q vs = (let g = h.1 in cc) in
    let o = tree_one p q us vs a b outer in
    ((let g = h.0 in let w = o.0 in cc), o.1)
tree_one (loop n i p) (loop m j q) us vs a b e =
    let l : n ≡ m = cc in
    let inner : tokens i (sign CloseBrace ∷ tokens p us) ≡ tokens j (sign CloseBrace ∷ tokens q vs) = cc in
    let h = tree_one i j (sign CloseBrace ∷ tokens p us) (sign CloseBrace ∷ tokens q vs) refl refl inner in
    let outer : tokens p us ≡ tokens q vs = (let g = h.1 in cc) in
    let o = tree_one p q us vs a b outer in
    ((let g = h.0 in let w = o.0 in cc), o.1)

begins_front : (two : Bool) (ts us : List Token) → Begins two (ts ++ us) → Begins two ts
begins_front true ts us b = (b.0, us ++ b.1, sym (append_assoc ts us b.1) ∙ b.2)
begins_front false ts us (inl b) = inl (b.0, us ++ b.1, sym (append_assoc ts us b.1) ∙ b.2)
begins_front false ts us (inr b) = inr (us ++ b.0, sym (append_assoc ts us b.0) ∙ b.1)

-- ---- whole stretches of a text

-- no text of PL 1 begins with the header
no_header : (p : Tree) (us vs : List Token) → header ++ us ≡ sentence p ++ vs → ⊥
no_header done us vs e = cc
no_header (plain (new_task x) p) us vs e = cc
no_header (plain (new_phaser x) p) us vs e = cc
no_header (plain (reg x y) p) us vs e = cc
no_header (plain (dereg x) p) us vs e = cc
no_header (plain (adv x) p) us vs e = cc
no_header (plain (await x off) p) us vs e = cc
no_header (plain skip p) us vs e = cc
no_header (fork x b p) us vs e = cc
no_header (loop n b p) us vs e = cc

-- what is read in one way from its start to its end: a list of statements with the end, or the header
data Whole : Bool → List Token → Type 0 where
  statements : (two : Bool) (p : Tree) → Whole two (sentence p)
  a_header : Whole false header

past_text : (p : Tree) (t : Token) (vs : List Token) → Begins true (sentence p ++ t ∷ vs) → ⊥
past_text p t vs b =
    let r = runs_if (sentence p ++ t ∷ vs) b in
    let q : run firsts (at [] 0) (sentence p ++ t ∷ vs) ≡ None = run-append firsts (at [] 0) (sentence p) (t ∷ vs) ∙ rw (run_sentence p) refl in
    let z : None ≡ Some r.0 = sym q ∙ r.1 in
    cc

-- nothing goes on behind it
end_only : (two : Bool) (us : List Token) → Whole two us → (t : Token) (vs : List Token) → Begins two (us ++ t ∷ vs) → ⊥
end_only true us (statements two p) t vs b = past_text p t vs b
end_only false us (statements two p) t vs (inl b) = past_text p t vs b
end_only false us (statements two p) t vs (inr b) =
    no_header p [] (t ∷ vs ++ b.0) (append-nil header ∙ sym b.1 ∙ append_assoc (sentence p) (t ∷ vs) b.0)
end_only false us a_header t vs (inl b) = no_header b.0 (t ∷ vs ++ b.1) [] (b.2 ∙ sym (append-nil (sentence b.0)))
end_only false us a_header t vs (inr b) = let e = b.1 in cc

whole_begins : (two : Bool) (us : List Token) → Whole two us → Begins two us
whole_begins true us (statements two p) = (p, [], append-nil (sentence p))
whole_begins false us (statements two p) = inl (p, [], append-nil (sentence p))
whole_begins false us a_header = inr ([], refl)

-- two whole stretches from one start are one
stretch :
    (two : Bool) (scan : Scan) (text : List ℕ) (us : List Token) (end : List ℕ) (vs : List Token) (end' : List ℕ) → Whole two us → Whole two vs →
    Leads scan text us end → Leads scan text vs end' → (us ≡ vs) × (end ≡ end')
stretch two = one_stretch (Begins two) (begins_front two) (Whole two) (end_only two) (whole_begins two)

-- no whole stretch has a fault
sound :
    (two : Bool) (scan : Scan) (start : List ℕ) (us : List Token) (end : List ℕ) (f : SyntaxFault) → Whole two us → StaysShallow 0 us →
    Leads scan start us end → IsFirstSyntaxFault (Begins two) scan start f → ⊥
sound two = no_fault (Begins two) (begins_front two) (Whole two) (end_only two) (whole_begins two)

-- ---- texts and faults of the two forms

abbrev Header : List ℕ → List ℕ → Type 0
Header text mid = Leads (scan_of false text) text header mid

-- how a text is read
abbrev Form : List ℕ → Program → Type 0
Form text p =
    ((p.two ≡ false) × Leads (scan_of false text) text (sentence p.body) [])
    ⊎ ((p.two ≡ true) × (mid : List ℕ) × Header text mid × Leads (scan_of true text) mid (sentence p.body) [])

form_of : (text : List ℕ) (p : Program) → IsText text p → Form text p
form_of text p a = go p.two refl (a.reads)
  where
    go : (b : Bool) → p.two ≡ b → ReadsTokens b text (sentence p.body) [] → Form text p
    go false e r = inl (e, r)
    go true e r = inr (e, r.0, r.1, r.2)

-- how a fault is found
abbrev Faulty : List ℕ → SyntaxFault → Type 0
Faulty text f = IsFirstSyntaxFault (Begins false) (scan_of false text) text f ⊎ ((mid : List ℕ) × Header text mid × IsFirstSyntaxFault (Begins true) (scan_of true text) mid f)

faulty : (text : List ℕ) (f : SyntaxFault) → HasFault text f → Faulty text f
faulty text f b = go b.two b.reads b.goes_on b.here
  where
    go : (two : Bool) → ReadsTokens two text b.before b.left → ((t : Token) × Begins two (b.before ++ t ∷ [])) → IsAtFault (Begins two) b.before (scan_of two text) b.left f → Faulty text f
    go false reads goes_on here = inl (record { before = b.before; left = b.left; reads = reads; goes_on = goes_on; shallow = b.shallow; here = here })
    go true reads goes_on here =
        inr (reads.0, reads.1, record { before = b.before; left = b.left; reads = reads.2; goes_on = goes_on; shallow = b.shallow; here = here })

header_shallow : StaysShallow 0 header
header_shallow = (omega arith, (omega arith, (omega arith, omega arith)))

one_header : (text mid mid' : List ℕ) → Header text mid → Header text mid' → mid ≡ mid'
one_header text mid mid' p q = (stretch false (scan_of false text) text header mid header mid' a_header a_header p q).1

two_forms : (text mid : List ℕ) (p : Tree) → Header text mid → Leads (scan_of false text) text (sentence p) [] → ⊥
two_forms text mid p h r =
    let e = (stretch false (scan_of false text) text header mid (sentence p) [] a_header (statements false p) h r).0 in
    no_header p [] [] (append-nil header ∙ e ∙ sym (append-nil (sentence p)))

one_body : (scan : Scan) (text : List ℕ) (p q : Tree) → Leads scan text (sentence p) [] → Leads scan text (sentence q) [] → p ≡ q
one_body scan text p q a b =
    (tree_one p q (the_end ∷ []) (the_end ∷ []) refl refl
    (stretch true scan text (sentence p) [] (sentence q) [] (statements true p) (statements true q) a b).0).0

-- ---- the three laws

program_is : (p q : Program) → p.two ≡ q.two → p.body ≡ q.body → p ≡ q
program_is p q e f = ap (λ (b : Bool). make b p.body) e ∙ ap (λ (t : Tree). make q.two t) f
  where
    make : Bool → Tree → Program
    make b t = record { two = b; body = t }

pub one_tree : (text : List ℕ) (p q : Program) → IsText text p → IsText text q → p ≡ q
one_tree text p q a b = elim (form_of text p a) [
  | inl x ↦ elim (form_of text q b) [
    | inl y ↦ program_is p q (x.0 ∙ sym y.0) (one_body (scan_of false text) text p.body q.body x.1 y.1)
    | inr y ↦ absurd (two_forms text y.1 p.body y.2 x.1)
  ]
  | inr x ↦ elim (form_of text q b) [
    | inl y ↦ absurd (two_forms text x.1 q.body x.2 y.1)
    | inr y ↦ program_is p q (x.0 ∙ sym y.0) (one_body (scan_of true text) y.1 p.body q.body
        (subst (λ (m : List ℕ). Leads (scan_of true text) m (sentence p.body) []) (one_header text x.1 y.1 x.2 y.2) x.3) y.3)
  ]
]

shallow_sentence : (p : Tree) → height p ≤ MAX_OPEN_BRACES → StaysShallow 0 (sentence p)
shallow_sentence p h = stays p 0 (the_end ∷ []) (omega arith) (omega arith, omega arith)

pub text_or_fault : (text : List ℕ) (p : Program) (f : SyntaxFault) → IsText text p → HasFault text f → ⊥
text_or_fault text p f a b = elim (form_of text p a) [
  | inl x ↦ elim (faulty text f b) [
    | inl y ↦ sound false (scan_of false text) text (sentence p.body) [] f (statements false p.body) (shallow_sentence p.body a.shallow) x.1 y
    | inr y ↦ two_forms text y.0 p.body y.1 x.1
  ]
  | inr x ↦ elim (faulty text f b) [
    | inl y ↦ sound false (scan_of false text) text header x.1 f a_header header_shallow x.2 y
    | inr y ↦ sound true (scan_of true text) y.0 (sentence p.body) [] f (statements true p.body) (shallow_sentence p.body a.shallow)
        (subst (λ (m : List ℕ). Leads (scan_of true text) m (sentence p.body) []) (one_header text x.1 y.0 x.2 y.1) x.3) y.2
  ]
]

pub one_fault : (text : List ℕ) (f g : SyntaxFault) → HasFault text f → HasFault text g → f ≡ g
one_fault text f g a b = elim (faulty text f a) [
  | inl x ↦ elim (faulty text g b) [
    | inl y ↦ one_from (Begins false) (begins_front false) (scan_of false text) text f g x y
    | inr y ↦ absurd (sound false (scan_of false text) text header y.0 f a_header header_shallow y.1 x)
  ]
  | inr x ↦ elim (faulty text g b) [
    | inl y ↦ absurd (sound false (scan_of false text) text header x.0 g a_header header_shallow x.1 y)
    | inr y ↦ one_from (Begins true) (begins_front true) (scan_of true text) y.0 f g (subst (λ (m : List ℕ). IsFirstSyntaxFault (Begins true) (scan_of true text) m f) (one_header text x.0 y.0 x.1 y.1) x.2) y.2
  ]
]
