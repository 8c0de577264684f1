-- Clock programs as trees: a list of statements, each with the statements after it.
use Rattle.std.specs.Prelude.{◌≡◌, ℕ, List, [], refl, if◌then◌else◌, ◌==◌}
use Rattle.std.specs.Coded.{Coded, code_by, coded×, coded_ℕ, coded_list}
use base.Stored.{Gv, gnil, gnum, gcons}
use Rattle.clock_syntax.specs.Trees.{ClockPlain, ClockTree, advance, async, clock, done, drop, finish, loop, plain, resume, skip}

-- ---- a code, by which proofs tell trees apart
abbrev clock_plain_to : ClockPlain → ℕ × List ℕ
clock_plain_to (clock x) = (0, x)
clock_plain_to (advance x) = (1, x)
clock_plain_to (resume x) = (2, x)
clock_plain_to (drop x) = (3, x)
clock_plain_to skip = (4, [])

abbrev clock_plain_of : ℕ → List ℕ → ClockPlain
clock_plain_of n x = if n == 0 then clock x else (if n == 1 then advance x else (if n == 2 then resume x else (if n == 3 then drop x else skip)))

abbrev clock_plain_from : ℕ × List ℕ → ClockPlain
clock_plain_from p = clock_plain_of p.0 p.1

pub clock_plain_back : (s : ClockPlain) → clock_plain_from (clock_plain_to s) ≡ s
clock_plain_back (clock x) = refl
clock_plain_back (advance x) = refl
clock_plain_back (resume x) = refl
clock_plain_back (drop x) = refl
clock_plain_back skip = refl

-- a code of statements without a body
abbrev pub clock_plain_code : Coded ClockPlain
clock_plain_code = code_by (ℕ × List ℕ) (coded× coded_ℕ (coded_list coded_ℕ)) clock_plain_to clock_plain_from clock_plain_back

abbrev names_code : Coded (List (List ℕ))
names_code = coded_list (coded_list coded_ℕ)

-- the code of a tree
abbrev pub clock_tree_to : ClockTree → Gv
clock_tree_to done = gnil
clock_tree_to (plain s rest) = gcons gnil (gcons (clock_plain_code.code s) (clock_tree_to rest))
clock_tree_to (async xs body rest) = gcons (gcons gnil (names_code.code xs)) (gcons (clock_tree_to body) (clock_tree_to rest))
clock_tree_to (finish body rest) = gcons (gnum 0) (gcons (clock_tree_to body) (clock_tree_to rest))
clock_tree_to (loop k body rest) = gcons (gcons (gnum k) gnil) (gcons (clock_tree_to body) (clock_tree_to rest))

pub clock_tree_inj : (a b : ClockTree) → clock_tree_to a ≡ clock_tree_to b → a ≡ b
clock_tree_inj done done e = refl
clock_tree_inj (plain s r) (plain s' r') e =
    let p : s ≡ s' = clock_plain_code.inj s s' cc in
    let q : r ≡ r' = clock_tree_inj r r' cc in
    cc
clock_tree_inj (async xs a r) (async xs' a' r') e =
    let n : xs ≡ xs' = names_code.inj xs xs' cc in
    let p : a ≡ a' = clock_tree_inj a a' cc in
    let q : r ≡ r' = clock_tree_inj r r' cc in
    cc
clock_tree_inj (finish a r) (finish a' r') e =
    let p : a ≡ a' = clock_tree_inj a a' cc in
    let q : r ≡ r' = clock_tree_inj r r' cc in
    cc
clock_tree_inj (loop k a r) (loop k' a' r') e =
    let n : k ≡ k' = cc in
    let p : a ≡ a' = clock_tree_inj a a' cc in
    let q : r ≡ r' = clock_tree_inj r r' cc in
    cc
clock_tree_inj done (plain s r) e = absurd cc
clock_tree_inj done (async xs a r) e = absurd cc
clock_tree_inj done (finish a r) e = absurd cc
clock_tree_inj done (loop k a r) e = absurd cc
clock_tree_inj (plain s r) done e = absurd cc
clock_tree_inj (plain s r) (async xs a r') e = absurd cc
clock_tree_inj (plain s r) (finish a r') e = absurd cc
clock_tree_inj (plain s r) (loop k a r') e = absurd cc
clock_tree_inj (async xs a r) done e = absurd cc
clock_tree_inj (async xs a r) (plain s r') e = absurd cc
clock_tree_inj (async xs a r) (finish a' r') e = absurd cc
clock_tree_inj (async xs a r) (loop k a' r') e = absurd cc
clock_tree_inj (finish a r) done e = absurd cc
clock_tree_inj (finish a r) (plain s r') e = absurd cc
clock_tree_inj (finish a r) (async xs a' r') e = absurd cc
clock_tree_inj (finish a r) (loop k a' r') e = absurd cc
clock_tree_inj (loop k a r) done e = absurd cc
clock_tree_inj (loop k a r) (plain s r') e = absurd cc
clock_tree_inj (loop k a r) (async xs a' r') e = absurd cc
clock_tree_inj (loop k a r) (finish a' r') e = absurd cc

-- a code of clock trees
abbrev pub clock_tree_code : Coded ClockTree
clock_tree_code = record { code = clock_tree_to; inj = clock_tree_inj }
