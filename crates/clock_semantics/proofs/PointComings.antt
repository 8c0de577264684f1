-- What an activity comes to from a point of its text on, as the list that the computation goes over; and what stays as it goes.
use Rattle.std.proofs.Common.{◌≡◌, ℕ, zero, suc, ◌+◌, Option, Some, None, List, [], ◌∷◌, ◌++◌, length, append_assoc, append-nil, sym, ◌∙◌, ap, subst, refl, ◌⊎◌, inl, inr}
use Rattle.std.specs.Prelude.{map, option_to_list, slice_get}
use Rattle.armus_base.specs.Pieces.{times}
use Rattle.clock_syntax.specs.Trees.{ClockPlain, ClockTree, advance, async, clock, clock_count, done, drop, finish, loop, plain, resume, skip}
use Rattle.clock_semantics.specs.calls.ClockTests.{after_end, clock_named, visited}
use Rattle.clock_semantics.specs.Unfolding.{ClockComing, ClockPart, ClockStart, ClockUnfolding, Current, a_close, a_finish, a_loop, a_plain, a_turn, an_async, clock_opening, coming, comings_of, innermost, nothing_known, start_at}
use Rattle.clock_semantics.specs.calls.ClockUnfolds.{after_part}
use Rattle.clock_semantics.specs.calls.ProgramPoints.{ProgramPoint, before, behind, closing, finishes_around, first_point, last, part_at, starter_of, turning}

-- ---- the list

-- what an activity comes to from this point on
abbrev pub comings_at : ProgramPoint → List ClockComing
comings_at (before n body rest) = comings_of n body ++ comings_at rest
comings_at (turning n k body rest) = times k (coming n a_turn ∷ comings_of (n + 1) body) ++ comings_at rest
comings_at (closing n f rest) = coming n a_close ∷ comings_at rest
comings_at (last n f) = []

some_is : (x y : ClockComing) → ◌≡◌ {A = Option ClockComing} (Some x) (Some y) → x ≡ y
some_is x y e = cc

-- where it comes to nothing, nothing is left
pub none_left : (point : ProgramPoint) → part_at point ≡ None → comings_at point ≡ []
none_left (before n done rest) none = none_left rest none
none_left (before n (plain s more) rest) none = absurd cc
none_left (before n (async xs body more) rest) none = absurd cc
none_left (before n (finish body more) rest) none = absurd cc
none_left (before n (loop k body more) rest) none = absurd cc
none_left (turning n zero body rest) none = none_left rest none
none_left (turning n (suc k) body rest) none = absurd cc
none_left (closing n f rest) none = absurd cc
none_left (last n f) none = refl

-- else what it comes to is the first of the list, and the others are what it comes to behind that
pub first_left : (f : ℕ) (point : ProgramPoint) (m : ClockComing) → part_at point ≡ Some m → comings_at point ≡ m ∷ comings_at (behind f point)
first_left f (before n done rest) m is = first_left f rest m is
first_left f (before n (plain s more) rest) m is = ap (λ z. z ∷ comings_at (before (n + 1) more rest)) (some_is _ _ is)
first_left f (before n (async xs body more) rest) m is = ap (λ z. z ∷ comings_at (before (n + 1 + clock_count body) more rest)) (some_is _ _ is)
first_left f (before n (finish body more) rest) m is =
    ap (λ zs. coming n a_finish ∷ zs)
    (append_assoc (comings_of (n + 1) body) (coming n a_close ∷ comings_of (n + 1 + clock_count body) more) (comings_at rest))
    ∙ ap (λ z. z ∷ comings_at (before (n + 1) body (closing n f (before (n + 1 + clock_count body) more rest)))) (some_is _ _ is)
first_left f (before n (loop k body more) rest) m is =
    ap (λ zs. coming n a_loop ∷ zs)
    (append_assoc (times k (coming n a_turn ∷ comings_of (n + 1) body)) (comings_of (n + 1 + clock_count body) more) (comings_at rest))
    ∙ ap (λ z. z ∷ comings_at (turning n k body (before (n + 1 + clock_count body) more rest))) (some_is _ _ is)
first_left f (turning n zero body rest) m is = first_left f rest m is
first_left f (turning n (suc k) body rest) m is =
    ap (λ zs. coming n a_turn ∷ zs) (append_assoc (comings_of (n + 1) body) (times k (coming n a_turn ∷ comings_of (n + 1) body)) (comings_at rest))
    ∙ ap (λ z. z ∷ comings_at (before (n + 1) body (turning n k body rest))) (some_is _ _ is)
first_left f (closing n g rest) m is = ap (λ z. z ∷ comings_at rest) (some_is _ _ is)
first_left f (last n g) m is = absurd cc

-- from the first point on it comes to its whole body
pub whole_body : (start : ClockStart) → comings_at (first_point start) ≡ comings_of start.first start.body
whole_body start = append-nil (comings_of start.first start.body)

-- ---- what stays

-- the statement that started it
pub starter_stays : (f : ℕ) (point : ProgramPoint) → starter_of (behind f point) ≡ starter_of point
starter_stays f (before n done rest) = starter_stays f rest
starter_stays f (before n (plain s more) rest) = refl
starter_stays f (before n (async xs body more) rest) = refl
starter_stays f (before n (finish body more) rest) = refl
starter_stays f (before n (loop k body more) rest) = refl
starter_stays f (turning n zero body rest) = starter_stays f rest
starter_stays f (turning n (suc k) body rest) = refl
starter_stays f (closing n g rest) = refl
starter_stays f (last n g) = refl

-- a statement without a body changes nothing of what governs
plain_governs : (t n : ℕ) (s : ClockPlain) (u : ClockUnfolding) → (after_part t (coming n (a_plain s)) u).now.governing ≡ u.now.governing
plain_governs t n (clock x) u = refl
plain_governs t n (advance x) u = refl
plain_governs t n (resume x) u = refl
plain_governs t n (drop x) u = refl
plain_governs t n skip u = refl

-- the finishes that govern are those around the point behind
pub governs_on :
    (t : ℕ) (u : ClockUnfolding) (point : ProgramPoint) (m : ClockComing) → part_at point ≡ Some m → u.now.governing ≡ finishes_around point →
    (after_part t m u).now.governing ≡ finishes_around (behind (length u.makers) point)
governs_on t u (before n done rest) m is governs = governs_on t u rest m is governs
governs_on t u (before n (plain s more) rest) m is governs =
    ap (λ z. (after_part t z u).now.governing) (sym (some_is _ _ is)) ∙ plain_governs t n s u ∙ governs
governs_on t u (before n (async xs body more) rest) m is governs = ap (λ z. (after_part t z u).now.governing) (sym (some_is _ _ is)) ∙ governs
governs_on t u (before n (finish body more) rest) m is governs =
    ap (λ z. (after_part t z u).now.governing) (sym (some_is _ _ is)) ∙ ap (λ fs. length u.makers ∷ fs) governs
governs_on t u (before n (loop k body more) rest) m is governs = ap (λ z. (after_part t z u).now.governing) (sym (some_is _ _ is)) ∙ governs
governs_on t u (turning n zero body rest) m is governs = governs_on t u rest m is governs
governs_on t u (turning n (suc k) body rest) m is governs = ap (λ z. (after_part t z u).now.governing) (sym (some_is _ _ is)) ∙ governs
governs_on t u (closing n f rest) m is governs =
    ap (λ z. (after_part t z u).now.governing) (sym (some_is _ _ is)) ∙ ap (λ fs. (after_end t fs (visited a_close u)).now.governing) governs
governs_on t u (last n f) m is governs = absurd cc

-- ---- starts

-- an activity is started under one finish at most
abbrev pub HasOneFinish : ClockStart → Type 0
HasOneFinish start = start.known.governing ≡ option_to_list (innermost start.known.governing)

abbrev pub HaveOneFinish : ClockUnfolding → Type 0
HaveOneFinish u = (k : ℕ) (start : ClockStart) → slice_get u.starts k ≡ Some start → HasOneFinish start

one_more : (xs : List ClockStart) (y start : ClockStart) (k : ℕ) → slice_get (xs ++ y ∷ []) k ≡ Some start → (slice_get xs k ≡ Some start) ⊎ (y ≡ start)
one_more [] y start zero e = inr (let same : ◌≡◌ {A = Option ClockStart} (Some y) (Some start) = e in cc)
one_more [] y start (suc k) e = absurd cc
one_more (x ∷ xs) y start zero e = inl e
one_more (x ∷ xs) y start (suc k) e = one_more xs y start k e

started_under : (n : ℕ) (body : ClockTree) (ps : List ℕ) (now : Current) (fs : List ℕ) → now.governing ≡ fs → HasOneFinish (start_at n body ps now)
started_under n body ps now [] e = ap (λ zs. option_to_list (innermost zs)) e ∙ sym (ap (λ zs. option_to_list (innermost (option_to_list (innermost zs)))) e)
started_under n body ps now (f ∷ fs) e = ap (λ zs. option_to_list (innermost zs)) e ∙ sym (ap (λ zs. option_to_list (innermost (option_to_list (innermost zs)))) e)

end_starts : (t : ℕ) (fs : List ℕ) (u : ClockUnfolding) → (after_end t fs u).starts ≡ u.starts
end_starts t [] u = refl
end_starts t (f ∷ fs) u = refl

plain_starts : (t n : ℕ) (s : ClockPlain) (u : ClockUnfolding) → (after_part t (coming n (a_plain s)) u).starts ≡ u.starts
plain_starts t n (clock x) u = refl
plain_starts t n (advance x) u = refl
plain_starts t n (resume x) u = refl
plain_starts t n (drop x) u = refl
plain_starts t n skip u = refl

same_starts : (u w : ClockUnfolding) → w.starts ≡ u.starts → HaveOneFinish u → HaveOneFinish w
same_starts u w same have k start is = have k start (ap (λ xs. slice_get xs k) (sym same) ∙ is)

-- behind a part too
pub one_finish_on : (t n : ℕ) (part : ClockPart) (u : ClockUnfolding) → HaveOneFinish u → HaveOneFinish (after_part t (coming n part) u)
one_finish_on t n (a_plain s) u have = same_starts u (after_part t (coming n (a_plain s)) u) (plain_starts t n s u) have
one_finish_on t n (an_async xs body) u have =
    λ k start is.
    let new = start_at n body (map (clock_named (visited (an_async xs body) u)) xs) u.now in
    elim (one_more u.starts new start k is) [
      | inl earlier ↦ have k start earlier
      | inr same ↦ subst HasOneFinish same (started_under n body (map (clock_named (visited (an_async xs body) u)) xs) u.now u.now.governing refl)
    ]
one_finish_on t n a_finish u have = same_starts u (after_part t (coming n a_finish) u) refl have
one_finish_on t n a_close u have = same_starts u (after_part t (coming n a_close) u) (end_starts t u.now.governing (visited a_close u)) have
one_finish_on t n a_loop u have = same_starts u (after_part t (coming n a_loop) u) refl have
one_finish_on t n a_turn u have = same_starts u (after_part t (coming n a_turn) u) refl have

start_is : (x y : ClockStart) → ◌≡◌ {A = Option ClockStart} (Some x) (Some y) → x ≡ y
start_is x y e = cc

pub opening_finishes : (p : ClockTree) → HaveOneFinish (clock_opening p)
opening_finishes p zero start is =
    subst HasOneFinish (start_is (record { body = p; first = 1; known = nothing_known }) start is) refl
opening_finishes p (suc k) start is = absurd cc
