-- What names stand for.
use Rattle.std.proofs.Common.{◌≡◌, ℕ, zero, suc, ◌+◌, ◌-◌, ◌<◌, ◌≤◌, ◌⊎◌, inl, inr, Bool, true, false, cond, not, List, [], ◌∷◌, ◌++◌, length, get_or, replicate, Option, Some, None, sym, ap, ◌∙◌, subst, refl, arith}
use Rattle.std.specs.Prelude.{slice_index_or, nat_lt, if◌then◌else◌, ◌||◌}
use Rattle.std.specs.Borrow.{Bor}
use Rattle.std.specs.List.{list_any, position, position_or_len}
use Rattle.std.specs.Str.{bytes_eq}
use Rattle.std.proofs.lemmas.Bool.{cases_lt, false≢true}
use Rattle.std.proofs.lemmas.List.{length-map, length-set, length-append, length-replicate, get_or-set_same, get_or-set_other, get_or_append_left, get_or-append_right, get_or_past}
use Rattle.std.proofs.lemmas.Slice.Eq.{bytes_eq-Decides}
use Rattle.armus_base.specs.declared.ids.PhaserId.{PhaserId}
use Rattle.clock_pl.specs.inside.ClockChecker.{numbered_clock, clock_by_name, clocks_lengthened, clocks_with, names_with, clock_number, spelled_names}
use Rattle.pl_plan.proofs.Distinct.{other_way}

-- tests of spellings are tests of keys
pub place_spelled : (x : List ℕ) (keys : List (Bor (List ℕ))) → position_or_len (λ (b : Bor (List ℕ)). bytes_eq x b.now) keys ≡ position_or_len (bytes_eq x) (spelled_names keys)
place_spelled x [] = refl
place_spelled x (k ∷ ks) = ap (λ n. cond (not (bytes_eq x k.now)) (1 + n) 0) (place_spelled x ks)

pub any_spelled : (x : List ℕ) (keys : List (Bor (List ℕ))) → list_any (λ (b : Bor (List ℕ)). bytes_eq x b.now) keys ≡ list_any (bytes_eq x) (spelled_names keys)
any_spelled x [] = refl
any_spelled x (k ∷ ks) = ap (λ n. bytes_eq x k.now || n) (any_spelled x ks)

pub position_spelled : (x : List ℕ) (keys : List (Bor (List ℕ))) → position (λ (b : Bor (List ℕ)). bytes_eq x b.now) keys ≡ position (bytes_eq x) (spelled_names keys)
position_spelled x keys =
    ap (λ n. cond (nat_lt n (length keys)) (Some n) None) (place_spelled x keys)
    ∙ ap (λ n. cond (nat_lt (position_or_len (bytes_eq x) (spelled_names keys)) n) (Some (position_or_len (bytes_eq x) (spelled_names keys))) None)
    (sym (length-map keys (λ (b : Bor (List ℕ)). b.now)))

spelled_push : (keys : List (Bor (List ℕ))) (k : Bor (List ℕ)) → spelled_names (keys ++ k ∷ []) ≡ spelled_names keys ++ k.now ∷ []
spelled_push [] k = refl
spelled_push (q ∷ keys) k = ap (λ xs. q.now ∷ xs) (spelled_push keys k)

-- the keys with one that may be new
pub spelled_with : (keys : List (Bor (List ℕ))) (k : Bor (List ℕ)) →
    spelled_names (if list_any (λ (b : Bor (List ℕ)). bytes_eq k.now b.now) keys then keys else keys ++ k ∷ []) ≡ names_with k.now (spelled_names keys)
spelled_with keys k = by (list_any (λ (b : Bor (List ℕ)). bytes_eq k.now b.now) keys) (any_spelled k.now keys)
  where
    by : (v : Bool) → v ≡ list_any (bytes_eq k.now) (spelled_names keys) → spelled_names (if v then keys else keys ++ k ∷ []) ≡ names_with k.now (spelled_names keys)
    by true e = ap (λ v. if v then spelled_names keys else spelled_names keys ++ k.now ∷ []) e
    by false e = spelled_push keys k ∙ ap (λ v. if v then spelled_names keys else spelled_names keys ++ k.now ∷ []) e

-- ---- the place of a name

module _ {A : Type 0} (p : A → Bool) where
  pub place_present : (xs : List A) → list_any p xs ≡ true → position_or_len p xs < length xs
  place_present [] h = absurd (false≢true h)
  place_present (x ∷ xs) h = by (p x) (λ q. place_present xs q) h
    where
      by : (v : Bool) → (list_any p xs ≡ true → position_or_len p xs < length xs) → (v || list_any p xs) ≡ true →
          cond (not v) (1 + position_or_len p xs) 0 < length (x ∷ xs)
      by true r h = omega arith
      by false r h = omega (arith, r h)

  pub place_absent : (xs : List A) → list_any p xs ≡ false → position_or_len p xs ≡ length xs
  place_absent [] h = refl
  place_absent (x ∷ xs) h = by (p x) (λ q. place_absent xs q) h
    where
      by : (v : Bool) → (list_any p xs ≡ false → position_or_len p xs ≡ length xs) → (v || list_any p xs) ≡ false →
          cond (not v) (1 + position_or_len p xs) 0 ≡ length (x ∷ xs)
      by true r h = absurd (false≢true (sym h))
      by false r h = omega (arith, r h)

  pub at_place : (d : A) (xs : List A) → list_any p xs ≡ true → p (get_or xs (position_or_len p xs) d) ≡ true
  at_place d [] h = absurd (false≢true h)
  at_place d (x ∷ xs) h = by (p x) (λ q. at_place d xs q) refl h
    where
      by : (v : Bool) → (list_any p xs ≡ true → p (get_or xs (position_or_len p xs) d) ≡ true) → p x ≡ v → (v || list_any p xs) ≡ true →
          p (get_or (x ∷ xs) (cond (not v) (1 + position_or_len p xs) 0) d) ≡ true
      by true r e h = e
      by false r e h = subst (λ n. p (get_or (x ∷ xs) n d) ≡ true) (let q : suc (position_or_len p xs) ≡ 1 + position_or_len p xs = omega arith in q) (r h)

  pub place_push_present : (xs : List A) (y : A) → list_any p xs ≡ true → position_or_len p (xs ++ y ∷ []) ≡ position_or_len p xs
  place_push_present [] y h = absurd (false≢true h)
  place_push_present (x ∷ xs) y h = by (p x) (λ q. place_push_present xs y q) h
    where
      by : (v : Bool) → (list_any p xs ≡ true → position_or_len p (xs ++ y ∷ []) ≡ position_or_len p xs) → (v || list_any p xs) ≡ true → cond (not v)
          (1 + position_or_len p (xs ++ y ∷ [])) 0 ≡ cond (not v) (1 + position_or_len p xs) 0
      by true r h = refl
      by false r h = ap (λ n. 1 + n) (r h)

  pub place_push_absent : (xs : List A) (y : A) → list_any p xs ≡ false → position_or_len p (xs ++ y ∷ []) ≡ length xs + cond (not (p y)) 1 0
  place_push_absent [] y h = by (p y)
    where
      by : (v : Bool) → cond (not v) (1 + 0) 0 ≡ 0 + cond (not v) 1 0
      by true = refl
      by false = refl
  place_push_absent (x ∷ xs) y h = by (p x) (λ q. place_push_absent xs y q) h
    where
      by : (v : Bool) → (list_any p xs ≡ false → position_or_len p (xs ++ y ∷ []) ≡ length xs + cond (not (p y)) 1 0) → (v || list_any p xs) ≡ false → cond (not v)
          (1 + position_or_len p (xs ++ y ∷ [])) 0 ≡ length (x ∷ xs) + cond (not (p y)) 1 0
      by true r h = absurd (false≢true (sym h))
      by false r h = omega (arith, r h)

-- where no clock has a number behind the names, a name's clock is that at its place
by_place : (names : List (List ℕ)) (clocks : List (Option PhaserId)) (x : List ℕ) → length clocks ≤ length names →
    clock_by_name names clocks x ≡ clock_number (slice_index_or clocks (position_or_len (bytes_eq x) names) None)
by_place names clocks x short = by (cases_lt (position_or_len (bytes_eq x) names) (length names))
  where
    by : (position_or_len (bytes_eq x) names < length names) ⊎ (length names ≤ position_or_len (bytes_eq x) names) →
        clock_by_name names clocks x ≡ clock_number (slice_index_or clocks (position_or_len (bytes_eq x) names) None)
    by (inl l) = ap (λ v. numbered_clock (cond v (Some (position_or_len (bytes_eq x) names)) None) clocks) (let e : nat_lt (position_or_len (bytes_eq x) names)
        (length names) ≡ true = grind arith in e)
    by (inr g) =
        ap (λ v. numbered_clock (cond v (Some (position_or_len (bytes_eq x) names)) None) clocks) (let e : nat_lt (position_or_len (bytes_eq x) names)
        (length names) ≡ false = grind arith in e)
        ∙ ap clock_number (sym (get_or_past clocks (position_or_len (bytes_eq x) names) None (omega arith)))

lengthened_at : (n j : ℕ) (clocks : List (Option PhaserId)) → slice_index_or (clocks_lengthened n clocks) j None ≡ slice_index_or clocks j None
lengthened_at n j clocks = by (cases_lt j (length clocks))
  where
    nothing_at : (m k : ℕ) → slice_index_or (replicate {A = Option PhaserId} m None) k None ≡ None
    nothing_at zero k = refl
    nothing_at (suc m) zero = refl
    nothing_at (suc m) (suc k) = nothing_at m k

    by : (j < length clocks) ⊎ (length clocks ≤ j) → slice_index_or (clocks_lengthened n clocks) j None ≡ slice_index_or clocks j None
    by (inl l) = get_or_append_left clocks (replicate (n - length clocks) None) None j l
    by (inr g) =
        get_or-append_right clocks (replicate (n - length clocks) None) (length clocks) j None refl g ∙ nothing_at (n - length clocks) (j - length clocks)
        ∙ sym (get_or_past clocks j None g)

length_lengthened : (n : ℕ) (clocks : List (Option PhaserId)) → length (clocks_lengthened n clocks) ≡ length clocks + (n - length clocks)
length_lengthened n clocks = length-append clocks (replicate (n - length clocks) None) ∙ ap (λ m. length clocks + m) (length-replicate (n - length clocks) None)

-- ---- a name more

-- with the list of names that has x, if need be a new one
module _ (names : List (List ℕ)) (x : List ℕ) where
  -- other clocks stay
  pub others_named : (clocks : List (Option PhaserId)) → length clocks ≤ length names → (y : List ℕ) →
      clock_by_name (names_with x names) clocks y ≡ clock_by_name names clocks y
  others_named clocks short y = by (list_any (bytes_eq x) names)
    where
      past : (n : ℕ) → length names ≤ n → slice_index_or clocks n None ≡ None
      past n l = get_or_past clocks n None (omega arith)

      pushed : (v : Bool) → list_any (bytes_eq y) names ≡ v → clock_by_name (names ++ x ∷ []) clocks y ≡ clock_by_name names clocks y
      pushed true e =
          by_place (names ++ x ∷ []) clocks y (omega (arith, length-append names (x ∷ [])))
          ∙ ap (λ n. clock_number (slice_index_or clocks n None)) (place_push_present (bytes_eq y) names x e) ∙ sym (by_place names clocks y short)
      pushed false e =
          by_place (names ++ x ∷ []) clocks y (omega (arith, length-append names (x ∷ [])))
          ∙ ap clock_number (past (position_or_len (bytes_eq y) (names ++ x ∷ [])) (omega (arith, place_push_absent (bytes_eq y) names x e)) ∙ sym (past (position_or_len
          (bytes_eq y) names) (omega (arith, place_absent (bytes_eq y) names e))))
          ∙ sym (by_place names clocks y short)

      by : (v : Bool) → clock_by_name (if v then names else names ++ x ∷ []) clocks y ≡ clock_by_name names clocks y
      by true = refl
      by false = pushed (list_any (bytes_eq y) names) refl

  module _ (p : PhaserId) (clocks : List (Option PhaserId)) (short : length clocks ≤ length names) where
    set_long : position_or_len (bytes_eq x) names < length (clocks_lengthened (position_or_len (bytes_eq x) names + 1) clocks)
    set_long = omega (arith, length_lengthened (position_or_len (bytes_eq x) names + 1) clocks)

    new_length : length (clocks_with (position_or_len (bytes_eq x) names) p clocks) ≡ length clocks + (position_or_len (bytes_eq x) names + 1 - length clocks)
    new_length = length-set (clocks_lengthened (position_or_len (bytes_eq x) names + 1) clocks) (position_or_len (bytes_eq x) names) (Some p) ∙
        length_lengthened (position_or_len (bytes_eq x) names + 1) clocks

    pub named_short : length (clocks_with (position_or_len (bytes_eq x) names) p clocks) ≤ length (names_with x names)
    named_short = by (list_any (bytes_eq x) names) refl
      where
        by : (v : Bool) → list_any (bytes_eq x) names ≡ v → length (clocks_with (position_or_len (bytes_eq x) names) p clocks) ≤ length (if v then names else names ++ x ∷ [])
        by true e = omega (arith, new_length, place_present (bytes_eq x) names e)
        by false e = omega (arith, new_length, place_absent (bytes_eq x) names e, length-append names (x ∷ []))

    at_own : slice_index_or (clocks_with (position_or_len (bytes_eq x) names) p clocks) (position_or_len (bytes_eq x) names) None ≡ Some p
    at_own = get_or-set_same (clocks_lengthened (position_or_len (bytes_eq x) names + 1) clocks) (position_or_len (bytes_eq x) names) (Some p) None set_long

    at_other : (j : ℕ) → (j ≡ position_or_len (bytes_eq x) names → ⊥) →
        slice_index_or (clocks_with (position_or_len (bytes_eq x) names) p clocks) j None ≡ slice_index_or clocks j None
    at_other j ne =
        get_or-set_other (clocks_lengthened (position_or_len (bytes_eq x) names + 1) clocks) (position_or_len (bytes_eq x) names) j (Some p) None ne
        ∙ lengthened_at (position_or_len (bytes_eq x) names + 1) j clocks

    self_same : bytes_eq x x ≡ true
    self_same = (bytes_eq-Decides x x).1 refl

    -- the place of x among the names with it
    own_place : (v : Bool) → list_any (bytes_eq x) names ≡ v → position_or_len (bytes_eq x) (if v then names else names ++ x ∷ []) ≡ position_or_len (bytes_eq x) names
    own_place true e = refl
    own_place false e =
        place_push_absent (bytes_eq x) names x e ∙ ap (λ v. length names + cond (not v) 1 0) self_same
        ∙ (let q : length names + 0 ≡ position_or_len (bytes_eq x) names = omega (arith, place_absent (bytes_eq x) names e) in q)

    -- another name is at another place
    apart : (y : List ℕ) → bytes_eq x y ≡ false → list_any (bytes_eq y) names ≡ true → position_or_len (bytes_eq y) names ≡ position_or_len (bytes_eq x) names → ⊥
    apart y other e same = by (list_any (bytes_eq x) names) refl
      where
        by : (v : Bool) → list_any (bytes_eq x) names ≡ v → ⊥
        by true f =
            let a = (bytes_eq-Decides x (get_or names (position_or_len (bytes_eq x) names) [])).0 (at_place (bytes_eq x) [] names f) in
            let b = (bytes_eq-Decides y (get_or names (position_or_len (bytes_eq y) names) [])).0 (at_place (bytes_eq y) [] names e) in
            false≢true (sym other ∙ (bytes_eq-Decides x y).1 (a ∙ ap (λ n. get_or names n []) (sym same) ∙ sym b))
        by false f = omega (arith, place_absent (bytes_eq x) names f, place_present (bytes_eq y) names e)

    other_there : (y : List ℕ) → bytes_eq x y ≡ false → (v w : Bool) → list_any (bytes_eq x) names ≡ v → list_any (bytes_eq y) names ≡ w →
        slice_index_or (clocks_with (position_or_len (bytes_eq x) names) p clocks) (position_or_len (bytes_eq y) (if v then names else names ++ x ∷ [])) None
        ≡ slice_index_or clocks (position_or_len (bytes_eq y) names) None
    other_there y other true true ex ey = at_other (position_or_len (bytes_eq y) names) (apart y other ey)
    other_there y other true false ex ey = at_other (position_or_len (bytes_eq y) names)
        (λ e. absurd (omega (arith, place_absent (bytes_eq y) names ey, place_present (bytes_eq x) names ex)))
    other_there y other false true ex ey =
        ap (λ n. slice_index_or (clocks_with (position_or_len (bytes_eq x) names) p clocks) n None) (place_push_present (bytes_eq y) names x ey)
        ∙ at_other (position_or_len (bytes_eq y) names) (apart y other ey)
    other_there y other false false ex ey =
        let j : position_or_len (bytes_eq y) (names ++ x ∷ []) ≡ length names + 1 =
        place_push_absent (bytes_eq y) names x ey ∙ ap (λ v. length names + cond (not v) 1 0) (other_way x y other) in
        let a = place_absent (bytes_eq x) names ex in
        let b = place_absent (bytes_eq y) names ey in
        get_or_past (clocks_with (position_or_len (bytes_eq x) names) p clocks) (position_or_len (bytes_eq y) (names ++ x ∷ [])) None (omega (arith, new_length, j, a))
        ∙ sym (get_or_past clocks (position_or_len (bytes_eq y) names) None (omega (arith, b)))

    -- x stands for p, and other names for what they stood for
    pub newly_named : (y : List ℕ) →
        (if bytes_eq x y then Some p.0 else clock_by_name names clocks y) ≡ clock_by_name (names_with x names) (clocks_with (position_or_len (bytes_eq x) names) p clocks) y
    newly_named y = by (bytes_eq x y) refl ∙ sym (by_place (names_with x names) (clocks_with (position_or_len (bytes_eq x) names) p clocks) y named_short)
      where
        by : (v : Bool) → bytes_eq x y ≡ v → (if v then Some p.0 else clock_by_name names clocks y) ≡
            clock_number (slice_index_or (clocks_with (position_or_len (bytes_eq x) names) p clocks) (position_or_len (bytes_eq y) (names_with x names)) None)
        by true e =
            ap clock_number (sym at_own)
            ∙ ap (λ n. clock_number (slice_index_or (clocks_with (position_or_len (bytes_eq x) names) p clocks) n None)) (sym (own_place (list_any (bytes_eq x) names) refl))
            ∙ ap (λ z. clock_number (slice_index_or (clocks_with (position_or_len (bytes_eq x) names) p clocks) (position_or_len (bytes_eq z) (names_with x names)) None))
            ((bytes_eq-Decides x y).0 e)
        by false e = by_place names clocks y short ∙ ap clock_number (sym (other_there y e (list_any (bytes_eq x) names) (list_any (bytes_eq y) names) refl refl))
