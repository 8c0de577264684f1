-- Memberships of which at most one is of a phaser.
use Rattle.std.proofs.Common.{◌≡◌, ℕ, zero, suc, ◌<◌, ◌+◌, Bool, true, false, Some, None, List, [], ◌∷◌, ◌++◌, get_or, drop, set, refl, sym, ◌∙◌, ap, subst, inl, inr, ◌⊎◌, arith}
use Rattle.std.specs.Prelude.{IfSome, filter, if◌then◌else◌, bytes_eq, ◌||◌}
use Rattle.std.specs.List.{list_any, remove}
use Rattle.std.specs.Map.{lookup}
use Rattle.std.proofs.lemmas.Bool.{cases_Bool, or_parts, cond-true, cond-false}
use Rattle.std.proofs.lemmas.Slice.Eq.{bytes_eq-Decides}
use Rattle.monitor_state.specs.inside.FirstPlaces.{IsFirstAt}
use Rattle.monitor_state.specs.inside.PhaserLists.{HasNoPhaserTwice, is_of_phaser, risen_on, without_phaser}
use Rattle.monitor_state.proofs.OnePassing.{none_left_out, none_mapped, one_left_out, one_mapped}

abbrev pub MemberList : Type 0
MemberList = List (List ℕ × ℕ)

-- nothing is known of p
pub lookup_none : (p : List ℕ) (ms : MemberList) → list_any (is_of_phaser p) ms ≡ false → lookup (bytes_eq p) ms ≡ None
lookup_none p [] none = refl
lookup_none p (m ∷ ms) none =
    let parts = or_parts (bytes_eq p m.0) (list_any (is_of_phaser p) ms) none in
    cond-false (bytes_eq p m.0) (Some m.1) (lookup (bytes_eq p) ms) parts.0 ∙ lookup_none p ms parts.1

looked_up : (p : List ℕ) (m : List ℕ × ℕ) (ms : MemberList) → lookup (bytes_eq p) (m ∷ ms) ≡ None → (bytes_eq p m.0 ≡ false) × (lookup (bytes_eq p) ms ≡ None)
looked_up p m ms none = by_test (cases_Bool (bytes_eq p m.0))
  where
    by_test : ((bytes_eq p m.0 ≡ true) ⊎ (bytes_eq p m.0 ≡ false)) → (bytes_eq p m.0 ≡ false) × (lookup (bytes_eq p) ms ≡ None)
    by_test (inl on) = absurd (let e = cond-true (bytes_eq p m.0) (Some m.1) (lookup (bytes_eq p) ms) on in cc)
    by_test (inr off) = (off, sym (cond-false (bytes_eq p m.0) (Some m.1) (lookup (bytes_eq p) ms) off) ∙ none)

pub no_lookup : (p : List ℕ) (ms : MemberList) → lookup (bytes_eq p) ms ≡ None → list_any (is_of_phaser p) ms ≡ false
no_lookup p [] none = refl
no_lookup p (m ∷ ms) none =
    let parts = looked_up p m ms none in
    ap (λ b. b || list_any (is_of_phaser p) ms) parts.0 ∙ no_lookup p ms parts.1

pub lookup_first : (p : List ℕ) (ms : MemberList) (i : ℕ) (d : List ℕ × ℕ) → IsFirstAt (is_of_phaser p) ms i → lookup (bytes_eq p) ms ≡ Some (get_or ms i d).1
lookup_first p [] i d first = let w = first.within in absurd (omega arith)
lookup_first p (m ∷ ms) zero d first = cond-true (bytes_eq p m.0) (Some m.1) (lookup (bytes_eq p) ms) (first.here d)
lookup_first p (m ∷ ms) (suc i) d first =
    cond-false (bytes_eq p m.0) (Some m.1) (lookup (bytes_eq p) ms) (first.before 0 m (omega arith))
    ∙ lookup_first p ms i d (record { within = let w = first.within in omega arith; before = λ k e within. first.before (suc k) e (omega arith); here = λ e. first.here e })

name_stays : (p : List ℕ) (m : List ℕ × ℕ) → (if bytes_eq p m.0 then (m.0, m.1 + 1) else m).0 ≡ m.0
name_stays p m = elim (cases_Bool (bytes_eq p m.0)) [
  | inl on ↦ ap (λ (x : List ℕ × ℕ). x.0) (cond-true (bytes_eq p m.0) (m.0, m.1 + 1) m on)
  | inr other ↦ ap (λ (x : List ℕ × ℕ). x.0) (cond-false (bytes_eq p m.0) (m.0, m.1 + 1) m other)
]

-- none of p stands behind the first one
pub none_behind : (p : List ℕ) (ms : MemberList) (i : ℕ) → HasNoPhaserTwice ms → IsFirstAt (is_of_phaser p) ms i → list_any (is_of_phaser p) (drop (suc i) ms) ≡ false
none_behind p [] i once first = let w = first.within in absurd (omega arith)
none_behind p (m ∷ ms) zero once first =
    let same : p ≡ m.0 = (bytes_eq-Decides p m.0).0 (first.here m) in
    subst (λ q. list_any (is_of_phaser q) ms ≡ false) (sym same) once.0
none_behind p (m ∷ ms) (suc i) once first =
    none_behind p ms i once.1 (record { within = let w = first.within in omega arith; before = λ k e within. first.before (suc k) e (omega arith); here = λ e. first.here e })

-- the phases rise by one set
pub risen_is : (p : List ℕ) (ms : MemberList) (i : ℕ) (d : List ℕ × ℕ) → HasNoPhaserTwice ms → IsFirstAt (is_of_phaser p) ms i → risen_on p ms ≡ set ms i ((get_or ms i d).0, (get_or ms i d).1 + 1)
risen_is p ms i d once first = one_mapped (is_of_phaser p) (λ m. (m.0, m.1 + 1)) ms i d first (none_behind p ms i once first)

pub without_is : (p : List ℕ) (ms : MemberList) (i : ℕ) → HasNoPhaserTwice ms → IsFirstAt (is_of_phaser p) ms i → without_phaser p ms ≡ remove ms i
without_is p ms i once first = one_left_out (is_of_phaser p) ms i first (none_behind p ms i once first)

-- the same, of what is read there
pub risen_set : (p : List ℕ) (ms : MemberList) (i : ℕ) (m : List ℕ × ℕ) → HasNoPhaserTwice ms → IsFirstAt (is_of_phaser p) ms i → m ≡ get_or ms i m → set ms i (m.0, m.1 + 1) ≡ risen_on p ms
risen_set p ms i m once first read = ap (λ (x : List ℕ × ℕ). set ms i (x.0, x.1 + 1)) read ∙ sym (risen_is p ms i m once first)

pub read_phase : (p : List ℕ) (ms : MemberList) (i : ℕ) (m : List ℕ × ℕ) → IsFirstAt (is_of_phaser p) ms i → m ≡ get_or ms i m → lookup (bytes_eq p) ms ≡ Some m.1
read_phase p ms i m first read = lookup_first p ms i m first ∙ ap (λ (x : List ℕ × ℕ). Some x.1) (sym read)

pub read_below : (p : List ℕ) (ms : MemberList) (i : ℕ) (m : List ℕ × ℕ) (most : ℕ) → IfSome (lookup (bytes_eq p) ms) (λ n. n < most) → IsFirstAt (is_of_phaser p) ms i → m ≡ get_or ms i m → m.1 < most
read_below p ms i m most below first read = subst (λ o. IfSome o (λ n. n < most)) (read_phase p ms i m first read) below

-- where p is none of them
pub none_rises : (p : List ℕ) (ms : MemberList) → list_any (is_of_phaser p) ms ≡ false → risen_on p ms ≡ ms
none_rises p ms none = none_mapped (is_of_phaser p) (λ m. (m.0, m.1 + 1)) ms none

pub none_leaves : (p : List ℕ) (ms : MemberList) → list_any (is_of_phaser p) ms ≡ false → without_phaser p ms ≡ ms
none_leaves p ms none = none_left_out (is_of_phaser p) ms none

-- nothing is added of another phaser
pub none_risen : (q p : List ℕ) (ms : MemberList) → list_any (is_of_phaser q) ms ≡ false → list_any (is_of_phaser q) (risen_on p ms) ≡ false
none_risen q p [] none = refl
none_risen q p (m ∷ ms) none =
    let parts = or_parts (bytes_eq q m.0) (list_any (is_of_phaser q) ms) none in
    ap (λ b. b || list_any (is_of_phaser q) (risen_on p ms)) (ap (bytes_eq q) (name_stays p m) ∙ parts.0) ∙ none_risen q p ms parts.1

pub once_risen : (p : List ℕ) (ms : MemberList) → HasNoPhaserTwice ms → HasNoPhaserTwice (risen_on p ms)
once_risen p [] once = once
once_risen p (m ∷ ms) once =
    (subst (λ q. list_any (is_of_phaser q) (risen_on p ms) ≡ false) (sym (name_stays p m)) (none_risen m.0 p ms once.0), once_risen p ms once.1)

none_filtered : (q : List ℕ) (test : List ℕ × ℕ → Bool) (ms : MemberList) → list_any (is_of_phaser q) ms ≡ false → list_any (is_of_phaser q) (filter test ms) ≡ false
none_filtered q test [] none = refl
none_filtered q test (m ∷ ms) none =
    let parts = or_parts (bytes_eq q m.0) (list_any (is_of_phaser q) ms) none in
    by_test (none_filtered q test ms parts.1) parts.0 (cases_Bool (test m))
  where
    by_test :
        list_any (is_of_phaser q) (filter test ms) ≡ false → bytes_eq q m.0 ≡ false → ((test m ≡ true) ⊎ (test m ≡ false)) →
        list_any (is_of_phaser q) (filter test (m ∷ ms)) ≡ false
    by_test rest off (inl stays) =
        ap (list_any (is_of_phaser q)) (cond-true (test m) (m ∷ filter test ms) (filter test ms) stays)
        ∙ ap (λ b. b || list_any (is_of_phaser q) (filter test ms)) off ∙ rest
    by_test rest off (inr goes) = ap (list_any (is_of_phaser q)) (cond-false (test m) (m ∷ filter test ms) (filter test ms) goes) ∙ rest

pub once_filtered : (test : List ℕ × ℕ → Bool) (ms : MemberList) → HasNoPhaserTwice ms → HasNoPhaserTwice (filter test ms)
once_filtered test [] once = once
once_filtered test (m ∷ ms) once = by_test (once_filtered test ms once.1) (cases_Bool (test m))
  where
    by_test : HasNoPhaserTwice (filter test ms) → ((test m ≡ true) ⊎ (test m ≡ false)) → HasNoPhaserTwice (filter test (m ∷ ms))
    by_test rest (inl stays) =
        subst HasNoPhaserTwice (sym (cond-true (test m) (m ∷ filter test ms) (filter test ms) stays)) (none_filtered m.0 test ms once.0, rest)
    by_test rest (inr goes) = subst HasNoPhaserTwice (sym (cond-false (test m) (m ∷ filter test ms) (filter test ms) goes)) rest

not_same : (p q : List ℕ) → bytes_eq p q ≡ false → bytes_eq q p ≡ false
not_same p q off = elim (cases_Bool (bytes_eq q p)) [
  | inl on ↦ absurd (let e = (bytes_eq-Decides q p).0 on in let f = (bytes_eq-Decides p q).1 (sym e) in cc)
  | inr other ↦ other
]

none_pushed : (q p : List ℕ) (n : ℕ) (ms : MemberList) → list_any (is_of_phaser q) ms ≡ false → bytes_eq q p ≡ false → list_any (is_of_phaser q) (ms ++ (p, n) ∷ []) ≡ false
none_pushed q p n [] none other = ap (λ b. b || false) other
none_pushed q p n (m ∷ ms) none other =
    let parts = or_parts (bytes_eq q m.0) (list_any (is_of_phaser q) ms) none in
    ap (λ b. b || list_any (is_of_phaser q) (ms ++ (p, n) ∷ [])) parts.0 ∙ none_pushed q p n ms parts.1 other

pub once_joined : (p : List ℕ) (n : ℕ) (ms : MemberList) → HasNoPhaserTwice ms → lookup (bytes_eq p) ms ≡ None → HasNoPhaserTwice (ms ++ (p, n) ∷ [])
once_joined p n [] once none = (refl, tt)
once_joined p n (m ∷ ms) once none =
    let parts = looked_up p m ms none in
    (none_pushed m.0 p n ms once.0 (not_same p m.0 parts.0), once_joined p n ms once.1 parts.1)
