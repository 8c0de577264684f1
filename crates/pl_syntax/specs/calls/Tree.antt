-- Programs as trees: a list of statements, each with the statements after it.
use Rattle.std.specs.Prelude.{◌≡◌, ℕ, List, [], refl, if◌then◌else◌, ◌==◌}
use Rattle.std.specs.Coded.{Coded, code_by, coded×, coded_ℕ, coded_list}
use base.Stored.{Gv, gnil, gnum, gcons}
use Rattle.armus_base.specs.Offsets.{IsNear}
use Rattle.armus_base.specs.declared.offset.Offset.{Offset}
use Rattle.armus_base.specs.declared.offset.Offset.TheVariants.{Ahead, Back, Here}
use Rattle.pl_syntax.specs.Tree.{Plain, Tree, adv, await, dereg, done, fork, loop, new_phaser, new_task, plain, reg, skip}

-- the statement is no await that looks ahead or back
abbrev pub PlainIsHere : Plain → Type 0
PlainIsHere (await x off) = off ≡ Here
PlainIsHere s = Unit {0}

-- no await of the statements looks ahead or back
abbrev pub AllHere : Tree → Type 0
AllHere done = Unit {0}
AllHere (plain s rest) = PlainIsHere s × AllHere rest
AllHere (fork x body rest) = AllHere body × AllHere rest
AllHere (loop k body rest) = AllHere body × AllHere rest

-- the statement is no await that looks farther ahead or back than an await may
abbrev pub PlainIsNear : Plain → Type 0
PlainIsNear (await x off) = IsNear off
PlainIsNear s = Unit {0}

-- no await of the statements looks farther ahead or back than an await may
abbrev pub AreNear : Tree → Type 0
AreNear done = Unit {0}
AreNear (plain s rest) = PlainIsNear s × AreNear rest
AreNear (fork x body rest) = AreNear body × AreNear rest
AreNear (loop k body rest) = AreNear body × AreNear rest

-- ---- a code, by which proofs tell trees apart
abbrev offset_to : Offset → ℕ × ℕ
offset_to Here = (0, 0)
offset_to (Back k) = (1, k)
offset_to (Ahead k) = (2, k)

abbrev offset_from : ℕ × ℕ → Offset
offset_from p = if p.0 == 0 then Here else (if p.0 == 1 then Back p.1 else Ahead p.1)

abbrev plain_to : Plain → ℕ × (List ℕ × (List ℕ × (ℕ × ℕ)))
plain_to (new_task x) = (0, (x, ([], (0, 0))))
plain_to (new_phaser x) = (1, (x, ([], (0, 0))))
plain_to (reg x y) = (2, (x, (y, (0, 0))))
plain_to (dereg x) = (3, (x, ([], (0, 0))))
plain_to (adv x) = (4, (x, ([], (0, 0))))
plain_to (await x off) = (5, (x, ([], offset_to off)))
plain_to skip = (6, ([], ([], (0, 0))))

abbrev plain_of : ℕ → List ℕ → List ℕ → ℕ × ℕ → Plain
plain_of n x y off =
    if n == 0 then new_task x else (if n == 1 then new_phaser x else (if n == 2 then reg x y
    else (if n == 3 then dereg x else (if n == 4 then adv x else (if n == 5 then await x (offset_from off) else skip)))))

abbrev plain_from : ℕ × (List ℕ × (List ℕ × (ℕ × ℕ))) → Plain
plain_from p = plain_of p.0 p.1.0 p.1.1.0 p.1.1.1

pub plain_back : (s : Plain) → plain_from (plain_to s) ≡ s
plain_back (new_task x) = refl
plain_back (new_phaser x) = refl
plain_back (reg x y) = refl
plain_back (dereg x) = refl
plain_back (adv x) = refl
plain_back (await x Here) = refl
plain_back (await x (Back k)) = refl
plain_back (await x (Ahead k)) = refl
plain_back skip = refl

-- a code of statements without a body
abbrev pub plain_code : Coded Plain
plain_code =
    code_by (ℕ × (List ℕ × (List ℕ × (ℕ × ℕ))))
    (coded× coded_ℕ (coded× (coded_list coded_ℕ) (coded× (coded_list coded_ℕ) (coded× coded_ℕ coded_ℕ)))) plain_to plain_from plain_back

abbrev name_code : Coded (List ℕ)
name_code = coded_list coded_ℕ

-- the code of a tree
abbrev pub tree_to : Tree → Gv
tree_to done = gnil
tree_to (plain s rest) = gcons gnil (gcons (plain_code.code s) (tree_to rest))
tree_to (fork x body rest) = gcons (gcons gnil (name_code.code x)) (gcons (tree_to body) (tree_to rest))
tree_to (loop k body rest) = gcons (gnum k) (gcons (tree_to body) (tree_to rest))

pub tree_inj : (a b : Tree) → tree_to a ≡ tree_to b → a ≡ b
tree_inj done done e = refl
tree_inj (plain s r) (plain s' r') e =
    let p : s ≡ s' = plain_code.inj s s' cc in
    let q : r ≡ r' = tree_inj r r' cc in
    cc
tree_inj (fork x a r) (fork x' a' r') e =
    let n : x ≡ x' = name_code.inj x x' cc in
    let p : a ≡ a' = tree_inj a a' cc in
    let q : r ≡ r' = tree_inj r r' cc in
    cc
tree_inj (loop k a r) (loop k' a' r') e =
    let n : k ≡ k' = cc in
    let p : a ≡ a' = tree_inj a a' cc in
    let q : r ≡ r' = tree_inj r r' cc in
    cc
tree_inj done (plain s r) e = absurd cc
tree_inj done (fork x a r) e = absurd cc
tree_inj done (loop k a r) e = absurd cc
tree_inj (plain s r) done e = absurd cc
tree_inj (plain s r) (fork x a r') e = absurd cc
tree_inj (plain s r) (loop k a r') e = absurd cc
tree_inj (fork x a r) done e = absurd cc
tree_inj (fork x a r) (plain s r') e = absurd cc
tree_inj (fork x a r) (loop k a' r') e = absurd cc
tree_inj (loop k a r) done e = absurd cc
tree_inj (loop k a r) (plain s r') e = absurd cc
tree_inj (loop k a r) (fork x a' r') e = absurd cc

-- a code of trees
abbrev pub tree_code : Coded Tree
tree_code = record { code = tree_to; inj = tree_inj }
