-- The comment of a line begins with the first `//` in it.
use Rattle.std.proofs.Common.{◌≡◌, ◌⊎◌, ℕ, ◌≤◌, ◌==◌, ◌&&◌, ◌++◌, ◌∷◌, [], List, Bool, true, false, length, if◌then◌else◌, ap, refl, inl, inr, arith}
use Rattle.std.proofs.lemmas.Bool.{and_from, and_parts, eq-eqb, eqb-true, both_ways}
use Rattle.pl_syntax.specs.Words.{begins_with}
use Rattle.source_map.specs.NamedPlaces.{comment_of}

-- what stands before the comment, which is no `//` that stands further in front
pub record IsAhead (line before comment : List ℕ) : Type 0 where
  pub splits : line ≡ before ++ comment
  pub first : (ahead rest : List ℕ) → line ≡ ahead ++ 47 ∷ 47 ∷ rest → length before ≤ length ahead

-- the comment is none, or begins with `//`
abbrev pub IsComment : List ℕ → Type 0
IsComment c = (c ≡ []) ⊎ ((rest : List ℕ) × (c ≡ 47 ∷ 47 ∷ rest))

-- a byte with which no comment begins
pub one_ahead :
    (b : ℕ) (bs before comment : List ℕ) → (b == 47 && begins_with 47 bs) ≡ false → IsAhead bs before comment → IsAhead (b ∷ bs) (b ∷ before) comment
one_ahead b bs before comment other ahead = record { splits = ap (λ xs. b ∷ xs) ahead.splits; first = first }
  where
    first : (before' rest : List ℕ) → b ∷ bs ≡ before' ++ 47 ∷ 47 ∷ rest → length (b ∷ before) ≤ length before'
    first [] rest is =
        let h : b ≡ 47 = cc in
        let t : bs ≡ 47 ∷ rest = cc in
        absurd (both_ways (b == 47 && begins_with 47 bs) other (and_from (b == 47) (begins_with 47 bs) (eq-eqb b 47 h) (ap (begins_with 47) t)))
    first (x ∷ before') rest is =
        let t : bs ≡ before' ++ 47 ∷ 47 ∷ rest = cc in
        let f = ahead.first before' rest t in omega (arith, f)

-- each line has a comment, or none
pub comment_splits : (line : List ℕ) → (before : List ℕ) × IsAhead line before (comment_of line) × IsComment (comment_of line)
comment_splits [] = ([], record { splits = refl; first = λ ahead rest is. omega arith }, inl refl)
comment_splits (b ∷ bs) = by (comment_splits bs) (b == 47 && begins_with 47 bs) refl
  where
    by :
        (before : List ℕ) × IsAhead bs before (comment_of bs) × IsComment (comment_of bs) → (test : Bool) → (b == 47 && begins_with 47 bs) ≡ test →
        (before : List ℕ) × IsAhead (b ∷ bs) before (if test then b ∷ bs else comment_of bs) × IsComment (if test then b ∷ bs else comment_of bs)
    by before true is =
        let (h, t) = and_parts (b == 47) (begins_with 47 bs) is in
        ([], record { splits = refl; first = λ ahead rest e. omega arith }, inr (begun bs t (eqb-true b 47 h)))
      where
        begun : (xs : List ℕ) → begins_with 47 xs ≡ true → b ≡ 47 → (rest : List ℕ) × (b ∷ xs ≡ 47 ∷ 47 ∷ rest)
        begun [] e h = absurd (both_ways false refl e)
        begun (x ∷ xs) e h = (xs, let f : x ≡ 47 = eqb-true x 47 e in cc)
    by (before, ahead, comment) false is =
        (b ∷ before, one_ahead b bs before (comment_of bs) is ahead, comment)
