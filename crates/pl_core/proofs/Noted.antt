-- Whom the ops of a plan make members: what is noted, piece by piece and task by task.
use Rattle.std.proofs.Common.{◌≡◌, ℕ, zero, suc, ◌<◌, List, [], ◌∷◌, ◌++◌, ◌⊎◌, Some, Vec, length, set, arith, sym, ◌∙◌, ap, subst, refl, inl, inr}
use Rattle.std.specs.Global.{Global}
use Rattle.std.specs.Prelude.{slice_get}
use Rattle.std.proofs.lemmas.Bool.{cases_eq}
use Rattle.std.proofs.lemmas.List.{length-set}
use Rattle.std.proofs.lemmas.Option.{slice_get_within}
use Rattle.armus_base.specs.declared.op.Op.{Op}
use Rattle.armus_base.specs.declared.piece.Piece.{Piece}
use Rattle.armus_base.specs.declared.piece.Piece.TheVariants.{Op as Single, Repeat}
use Rattle.armus_base.specs.calls.Pieces.{ops_between, unfolded}
use Rattle.armus_base.specs.Pieces.{times}
use Rattle.armus_base.proofs.Lists.{slice_get-set_same, slice_get-set_other}
use Rattle.pl_core.specs.inside.Enrolling.{Enrols, IsEnrolledBy, Notes}
use Rattle.pl_core.proofs.Cells.{slice_get-ahead, slice_get-end}

-- nothing new is to be noted
pub notes_none : (rows : List (Vec ℕ Global)) (Means : ℕ → ℕ → Type 0) → ((c p : ℕ) → Means c p → ⊥) → Notes rows rows Means
notes_none rows Means none = record { sized = refl; keeps = λ c p h. h; there = λ c p l m. absurd (none c p m) }

pub notes_as : (old new : List (Vec ℕ Global)) (M N : ℕ → ℕ → Type 0) → Notes old new M → ((c p : ℕ) → N c p → M c p) → Notes old new N
notes_as old new M N notes means = record { sized = notes.sized; keeps = notes.keeps; there = λ c p l n. notes.there c p l (means c p n) }

pub notes_then :
    (a b d : List (Vec ℕ Global)) (M N K : ℕ → ℕ → Type 0) → Notes a b M → Notes b d N → ((c p : ℕ) → K c p → M c p ⊎ N c p) → Notes a d K
notes_then a b d M N K first next either =
    record {
      sized = next.sized ∙ first.sized;
      keeps = λ c p h. next.keeps c p (first.keeps c p h);
      there = λ c p l k. elim (either c p k) [
        | inl m ↦ next.keeps c p (first.there c p l m)
        | inr n ↦ next.there c p (let s = first.sized in omega arith) n
      ];
    }

-- one phaser more in one row
pub notes_one :
    (rows : List (Vec ℕ Global)) (c p : ℕ) (row more : Vec ℕ Global) → slice_get rows c ≡ Some row → more.items ≡ row.items ++ p ∷ [] →
    Notes rows (set rows c more) (λ d q. (d ≡ c) × (q ≡ p))
notes_one rows c p row more read items =
    record {
      sized = length-set rows c more;
      keeps = λ d q (r, e, k, f). elim (cases_eq d c) [
        | inl same ↦
            let is : row ≡ r = (let at : slice_get rows c ≡ Some r = subst (λ v. slice_get rows v ≡ Some r) same e in cc) in
            let stood : slice_get row.items k ≡ Some q = subst (λ (v : Vec ℕ Global). slice_get v.items k ≡ Some q) (sym is) f in (
              more,
              subst (λ v. slice_get (set rows c more) v ≡ Some more) (sym same) written,
              k,
              ap (λ xs. slice_get xs k) items ∙ slice_get-ahead row.items p q k stood,
            )
        | inr other ↦ (r, slice_get-set_other rows c d more other ∙ e, k, f)
      ];
      there = λ d q l (same, is). (
        more,
        subst (λ v. slice_get (set rows c more) v ≡ Some more) (sym same) written,
        length row.items,
        ap (λ xs. slice_get xs (length row.items)) items ∙ slice_get-end row.items p ∙ ap (λ v. Some v) (sym is),
      );
    }
  where
    written : slice_get (set rows c more) c ≡ Some more
    written = slice_get-set_same rows c more (slice_get_within rows c row read)

-- an op of the first k of these pieces of task t makes c a member of p
abbrev pub IsEnrolledBefore : List Piece → ℕ → ℕ → ℕ → ℕ → Type 0
IsEnrolledBefore pieces t k c p = (j : ℕ) × (j < k) × (op : Op) × (slice_get pieces j ≡ Some (Single op)) × Enrols t op c p

pub one_more_piece :
    (pieces : List Piece) (t k : ℕ) (piece : Piece) → slice_get pieces k ≡ Some piece → (c p : ℕ) → IsEnrolledBefore pieces t (suc k) c p →
    IsEnrolledBefore pieces t k c p ⊎ IsEnrolledBy (piece ∷ []) t c p
one_more_piece pieces t k piece read c p (j, l, op, e, enrols) =
    elim (cases_eq j k) [
      | inl same ↦
          let is : piece ≡ Single op = (let at : slice_get pieces k ≡ Some (Single op) = subst (λ v. slice_get pieces v ≡ Some (Single op)) same e in cc) in
          inr (0, op, ap (λ v. Some v) is, enrols)
      | inr other ↦ inl (j, omega (arith, other), op, e, enrols)
    ]

pub before_all : (pieces : List Piece) (t k c p : ℕ) → k ≡ length pieces → IsEnrolledBy pieces t c p → IsEnrolledBefore pieces t k c p
before_all pieces t k c p all (j, op, e, enrols) = (j, (let l = slice_get_within pieces j (Single op) e in omega arith), op, e, enrols)

-- one piece alone
pub by_op : (op : Op) (t c p : ℕ) → IsEnrolledBy (Single op ∷ []) t c p → Enrols t op c p
by_op op t c p (zero, o, e, enrols) =
    let is : o ≡ op = (let one : Single op ≡ Single o = (cc) in (cc)) in
    subst (λ v. Enrols t v c p) is enrols
by_op op t c p (suc j, o, e, enrols) = absurd (cc)

pub by_repeat : (k len t c p : ℕ) → IsEnrolledBy (Repeat k len ∷ []) t c p → ⊥
by_repeat k len t c p (zero, o, e, enrols) = (cc)
by_repeat k len t c p (suc j, o, e, enrols) = (cc)

-- an element of two lists is one of the first or of the second
either_list : {A : Type 0} (xs ys : List A) (k : ℕ) (x : A) → slice_get (xs ++ ys) k ≡ Some x →
    ((j : ℕ) × (slice_get xs j ≡ Some x)) ⊎ ((j : ℕ) × (slice_get ys j ≡ Some x))
either_list [] ys k x e = inr (k, e)
either_list (y ∷ xs) ys zero x e = inl (0, e)
either_list (y ∷ xs) ys (suc k) x e =
    elim (either_list xs ys k x e) [
      | inl there ↦ inl (suc there.0, there.1)
      | inr there ↦ inr there
    ]

of_times : {A : Type 0} (n : ℕ) (xs : List A) (k : ℕ) (x : A) → slice_get (times n xs) k ≡ Some x → (j : ℕ) × (slice_get xs j ≡ Some x)
of_times zero xs k x e = absurd (cc)
of_times (suc n) xs k x e =
    elim (either_list xs (times n xs) k x e) [
      | inl there ↦ there
      | inr later ↦ of_times n xs later.0 x later.1
    ]

-- each op that pieces stand for is a piece
piece_of_op : (ps : List Piece) (a b k : ℕ) (o : Op) → slice_get (ops_between ps a b) k ≡ Some o → (j : ℕ) × (slice_get ps j ≡ Some (Single o))
piece_of_op [] a b k o e = absurd (cc)
piece_of_op (piece ∷ ps) a zero k o e = absurd (cc)
piece_of_op (piece ∷ ps) (suc a) (suc b) k o e = let there = piece_of_op ps a b k o e in (suc there.0, there.1)
piece_of_op (Single q ∷ ps) zero (suc b) zero o e = (0, (let is : q ≡ o = (cc) in ap (λ v. Some (Single v)) is))
piece_of_op (Single q ∷ ps) zero (suc b) (suc k) o e = let there = piece_of_op ps zero b k o e in (suc there.0, there.1)
piece_of_op (Repeat n len ∷ ps) zero (suc b) k o e =
    elim (either_list (times n (ops_between ps zero len)) (ops_between ps len b) k o e) [
      | inl within ↦
          let once = of_times n (ops_between ps zero len) within.0 o within.1 in
          let there = piece_of_op ps zero len once.0 o once.1 in
          (suc there.0, there.1)
      | inr behind ↦ let there = piece_of_op ps len b behind.0 o behind.1 in (suc there.0, there.1)
    ]

pub by_pieces :
    (pieces : List Piece) (code : List Op) (t c p : ℕ) → unfolded pieces ≡ code → (k : ℕ) (op : Op) → slice_get code k ≡ Some op → Enrols t op c p →
    IsEnrolledBy pieces t c p
by_pieces pieces code t c p stands k op e enrols =
    let there = piece_of_op pieces 0 (length pieces) k op (ap (λ xs. slice_get xs k) stands ∙ e) in
    (there.0, op, there.1, enrols)
