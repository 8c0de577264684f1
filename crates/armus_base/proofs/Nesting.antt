-- Pieces between two places: the first of them, and how many there are.
use Rattle.std.proofs.Common.{◌≡◌, ℕ, zero, suc, ◌+◌, ◌*◌, ◌<◌, ◌≤◌, ◌^◌, Some, List, [], ◌∷◌, ◌++◌, length, refl, subst, arith, length-append}
use Rattle.std.proofs.Math.Nat.{mul-add, mul-le-mul_left, mul-suc, mul-zero, suc-mul}
use Rattle.std.specs.Prelude.{slice_get}
use Rattle.armus_base.specs.declared.op.Op.{Op}
use Rattle.armus_base.specs.declared.piece.Piece.{Piece}
use Rattle.armus_base.specs.declared.piece.Piece.TheVariants.{Op as Single, Repeat}
use Rattle.armus_base.specs.calls.Pieces.{AreNested, IsFolded, max_open_repeats, ops_between}
use Rattle.armus_base.specs.Pieces.{times}

-- ---- the first of the pieces

pub nested_order : (d : ℕ) (ps : List Piece) (a b : ℕ) → AreNested d ps a b → a ≤ b
nested_order d ps zero b n = omega arith
nested_order d ps (suc a) zero n = absurd n
nested_order d [] (suc a) (suc b) n = absurd n
nested_order d (piece ∷ ps) (suc a) (suc b) n = let h = nested_order d ps a b n in omega arith

-- between a place and itself
pub none_between : (ps : List Piece) (a : ℕ) → ops_between ps a a ≡ []
none_between [] a = refl
none_between (piece ∷ ps) zero = refl
none_between (piece ∷ ps) (suc a) = none_between ps a

-- the first piece is an op
pub op_first : (ps : List Piece) (o : Op) (a b : ℕ) → slice_get ps a ≡ Some (Single o) → a < b → ops_between ps a b ≡ o ∷ ops_between ps (suc a) b
op_first [] o a b is h = absurd (cc)
op_first (piece ∷ ps) o a zero is h = absurd (omega arith)
op_first (Single p ∷ ps) o zero (suc b) is h = let e : p ≡ o = cc in rw e
op_first (Repeat k len ∷ ps) o zero (suc b) is h = absurd (cc)
op_first (piece ∷ ps) o (suc a) (suc b) is h = op_first ps o a b is (omega arith)

pub nested_op : (d : ℕ) (ps : List Piece) (o : Op) (a b : ℕ) → slice_get ps a ≡ Some (Single o) → a < b → AreNested d ps a b → AreNested d ps (suc a) b
nested_op d ps o a zero is h n = absurd (omega arith)
nested_op d [] o a (suc b) is h n = absurd (cc)
nested_op d (Single p ∷ ps) o zero (suc b) is h n = n
nested_op d (Repeat k len ∷ ps) o zero (suc b) is h n = absurd (cc)
nested_op d (piece ∷ ps) o (suc a) (suc b) is h n = nested_op d ps o a b is (omega arith) n

-- the first piece is a Repeat, and place e is behind its body
pub repeat_first : (ps : List Piece) (k len a e b : ℕ) → slice_get ps a ≡ Some (Repeat k len) → e ≡ suc a + len → a < b →
    ops_between ps a b ≡ times k (ops_between ps (suc a) e) ++ ops_between ps e b
repeat_first [] k len a e b is at h = absurd (cc)
repeat_first (piece ∷ ps) k len a e zero is at h = absurd (omega arith)
repeat_first (piece ∷ ps) k len a zero (suc b) is at h = absurd (omega arith)
repeat_first (Single p ∷ ps) k len zero (suc e) (suc b) is at h = absurd (cc)
repeat_first (Repeat k' len' ∷ ps) k len zero (suc e) (suc b) is at h =
    let turns : k' ≡ k = cc in let same : len' ≡ len = cc in let pieces : len' ≡ e = omega arith in rw (turns, pieces)
repeat_first (piece ∷ ps) k len (suc a) (suc e) (suc b) is at h = repeat_first ps k len a e b is (omega arith) (omega arith)

-- a Repeat that may stand first: its body may be walked with one less open round it
pub record Opens (d : ℕ) (ps : List Piece) (k len a e b : ℕ) : Type 0 where
  pub less : ℕ
  pub one_more : d ≡ suc less
  pub turns : 1 ≤ k
  pub pieces : 1 ≤ len
  pub body : AreNested less ps (suc a) e
  pub behind : AreNested (suc less) ps e b

pub nested_repeat : (d : ℕ) (ps : List Piece) (k len a e b : ℕ) → slice_get ps a ≡ Some (Repeat k len) → e ≡ suc a + len → a < b →
    AreNested d ps a b → Opens d ps k len a e b
nested_repeat d ps k len a e zero is at h n = absurd (omega arith)
nested_repeat d ps k len a zero (suc b) is at h n = absurd (omega arith)
nested_repeat d [] k len a (suc e) (suc b) is at h n = absurd (cc)
nested_repeat d (Single p ∷ ps) k len zero (suc e) (suc b) is at h n = absurd (cc)
nested_repeat zero (Repeat k' len' ∷ ps) k len zero (suc e) (suc b) is at h n = absurd n
nested_repeat (suc d) (Repeat k' len' ∷ ps) k len zero (suc e) (suc b) is at h n =
    let turns : k' ≡ k = cc in let same : len' ≡ len = cc in let pieces : len' ≡ e = omega arith in
    record {
      less = d;
      one_more = refl;
      turns = subst (λ j. 1 ≤ j) turns n.0.turns;
      pieces = subst (λ j. 1 ≤ j) same n.0.pieces;
      body = subst (λ j. AreNested d ps zero j) pieces n.1;
      behind = subst (λ j. AreNested (suc d) ps j b) pieces n.2;
    }
nested_repeat d (piece ∷ ps) k len (suc a) (suc e) (suc b) is at h n =
    let o = nested_repeat d ps k len a e b is (omega arith) (omega arith) n in
    record { less = o.less; one_more = o.one_more; turns = o.turns; pieces = o.pieces; body = o.body; behind = o.behind }

-- ---- how many pieces there are

-- a turn is no longer than all turns
times_longer : (k : ℕ) (ops : List Op) → 1 ≤ k → length ops ≤ length (times k ops)
times_longer zero ops h = absurd (omega arith)
times_longer (suc k) ops h = simp length-append (omega arith)

-- a Repeat adds a piece, and its body stands one deeper
counted_more : (d len b once all rest : ℕ) → 1 ≤ len → once ≤ all → len ≤ suc d * once → b ≤ len + suc (suc d) * rest → suc b ≤ suc (suc d) * (all + rest)
counted_more d len b zero all rest pieces turns body behind = absurd (omega (arith, mul-zero (suc d)))
counted_more d len b (suc once) all rest pieces turns body behind =
    omega (arith, mul-add (suc (suc d)) all rest, mul-le-mul_left (suc (suc d)) turns, suc-mul (suc d) (suc once))

-- where at most d Repeats stand round a piece, there are at most d + 1 pieces for each op
pieces_counted : (d : ℕ) (ps : List Piece) (a b : ℕ) → AreNested d ps a b → b ≤ a + suc d * length (ops_between ps a b)
pieces_counted d ps zero zero n = omega arith
pieces_counted d ps (suc a) zero n = absurd n
pieces_counted d [] zero (suc b) n = absurd n
pieces_counted d [] (suc a) (suc b) n = absurd n
pieces_counted d (piece ∷ ps) (suc a) (suc b) n = let h = pieces_counted d ps a b n in omega arith
pieces_counted d (Single o ∷ ps) zero (suc b) n = let h = pieces_counted d ps zero b n in omega (arith, mul-suc (suc d) (length (ops_between ps zero b)))
pieces_counted zero (Repeat k len ∷ ps) zero (suc b) n = absurd n
pieces_counted (suc d) (Repeat k len ∷ ps) zero (suc b) n =
    let once = length (ops_between ps zero len) in
    let body = pieces_counted d ps zero len n.1 in
    let behind = pieces_counted (suc d) ps len b n.2 in
    let all = length (times k (ops_between ps zero len)) in
    let rest = length (ops_between ps len b) in
    simp length-append (omega (arith, counted_more d len b once all rest n.0.pieces (times_longer k (ops_between ps zero len) n.0.turns) (omega arith) behind))

-- the pieces of a folded code can be counted in 32 bits
pub pieces_fit : (ps : List Piece) → IsFolded ps → length ps < 2 ^ 32
pieces_fit ps folded = omega (arith, pieces_counted max_open_repeats ps 0 (length ps) folded.whole, folded.few)
