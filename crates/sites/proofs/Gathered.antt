-- The statuses of all sites, gathered site after site and then put in order.
use Rattle.std.proofs.Common.{◌≡◌, ◌≢◌, ℕ, zero, suc, ◌<◌, ◌≤◌, ◌+◌, ◌%◌, Bool, true, false, List, [], ◌∷◌, ◌++◌, All, Option, Some, None, length, get_or, sym, refl, ap, ◌∙◌, subst, arith, inl, inr, ◌⊎◌, eqb-true, eq-eqb, length-append}
use Rattle.std.specs.Prelude.{AllPairs, Contains, if◌then◌else◌, ◌==◌}
use Rattle.std.specs.List.{filter, sum_by}
use Rattle.std.specs.List.Sorted.{IsNonDecreasingBy, IsPermutation}
use Rattle.std.proofs.lemmas.Bool.{cases_Bool, cases_eq}
use Rattle.std.proofs.lemmas.List.{append-nil, get_or_default}
use Rattle.std.proofs.lemmas.List.Elements.{All-append, All-head, All-tail, filter-append}
use Rattle.std.proofs.lemmas.List.Kept.{AllPairs-filter}
use Rattle.std.proofs.lemmas.List.Sums.{sum_by-cons}
use Rattle.std.proofs.lemmas.List.Sorted.{All-permutation, Contains-permutation, IsPermutation-sym, length_permutation, sum_by-IsPermutation}
use Rattle.armus_base.specs.declared.status.Status.{Status}
use Rattle.armus_base.proofs.Elements.{Contains-cons_cases, Contains-head, Contains-tail, nothing_in_nil}
use Rattle.armus_base.specs.calls.Limits.{max_sites}
use Rattle.sites.specs.calls.Checks.{AreAll, IsFirstBad, IsSiteEnd, IsStored, part_of}
use Rattle.sites.specs.calls.Keeping.{held}
use Rattle.sites.specs.calls.Rows.{IsRowOf, is_of_site}
use Rattle.sites.specs.inside.Gathering.{AreGathered, HasFewInOrder, EndsAtSite, NoneBad, TakesRow}
use Rattle.sites.specs.declared.ends.SiteEnd.{SiteEnd}
use Rattle.sites.specs.declared.ends.SiteEnd.TheVariants.{Bad, Fault, NoMemory}

-- a test that each element passes, and one that none does
filter_all : {A : Type 0} (p : A → Bool) (xs : List A) → All (λ x. p x ≡ true) xs → filter p xs ≡ xs
filter_all p [] all = refl
filter_all p (x ∷ xs) all =
    ap (λ b. if b then x ∷ filter p xs else filter p xs) (All-head (λ y. p y ≡ true) x xs all) ∙ ap (λ v. x ∷ v) (filter_all p xs (All-tail (λ y. p y ≡ true) x xs all))

filter_none : {A : Type 0} (p : A → Bool) (xs : List A) → All (λ x. p x ≡ false) xs → filter p xs ≡ []
filter_none p [] all = refl
filter_none p (x ∷ xs) all =
    ap (λ b. if b then x ∷ filter p xs else filter p xs) (All-head (λ y. p y ≡ false) x xs all) ∙ filter_none p xs (All-tail (λ y. p y ≡ false) x xs all)

-- a task is of one site
one_site : (sites a b t : ℕ) → is_of_site sites a t ≡ true → a ≢ b → is_of_site sites b t ≡ false
one_site sites a b t is other =
    elim (cases_Bool (is_of_site sites b t)) [
      | inl also ↦ absurd (other (sym (eqb-true (t % sites) a is) ∙ eqb-true (t % sites) b also))
      | inr off ↦ off
    ]

-- what is stored depends on the site's part of the list alone
stored_same : (sites site : ℕ) (ss rs : List Status) (o : Option (List ℕ)) → part_of sites site ss ≡ part_of sites site rs → IsStored sites site ss o → IsStored sites site rs o
stored_same sites site ss rs None same none = sym same ∙ none
stored_same sites site ss rs (Some row) same is = subst (λ v. IsRowOf sites site v row) same is

-- one site more
pub gathered_more :
    (sites : ℕ) (rows : List (Option (List ℕ))) (n : ℕ) (list now : List Status) → AreGathered sites rows n list → TakesRow sites n (held rows n) list now →
    AreGathered sites rows (n + 1) now
gathered_more sites rows n list now before takes = by_row (held rows n) refl takes
  where
    by_row : (o : Option (List ℕ)) → held rows n ≡ o → TakesRow sites n o list now → AreGathered sites rows (n + 1) now
    by_row None is same =
        subst (AreGathered sites rows (n + 1)) (sym same) record {
          each = λ site l. elim (cases_eq site n) [
            | inl e ↦ subst (IsStored sites site list) (sym (ap (held rows) e ∙ is)) (before.later site (omega arith))
            | inr ne ↦ before.each site (omega arith)
          ];
          later = λ site l. before.later site (omega arith);
          few = (let few = before.few in omega arith);
          phases = before.phases;
        }
    by_row (Some row) is (ss, stored, made) =
        subst (AreGathered sites rows (n + 1)) (sym made) record {
          each = λ site l. elim (cases_eq site n) [
            | inl e ↦
                subst (IsStored sites site (list ++ ss)) (sym (ap (held rows) e ∙ is))
                (subst (λ v. IsRowOf sites site v row) (sym (part_here site e)) (subst (λ v. IsRowOf sites v ss row) (sym e) stored))
            | inr ne ↦ stored_same sites site list (list ++ ss) (held rows site) (sym (part_other site ne)) (before.each site (omega arith))
          ];
          later = λ site l. part_other site (λ e. absurd (omega arith)) ∙ before.later site (omega arith);
          few = (let few = before.few in let more = stored.stored.few in let count = length-append list ss in omega arith);
          phases =
              All-append HasFewInOrder list ss before.phases
              (λ k d l. record { ascends = stored.stored.in_order.phasers k d l; few = stored.stored.in_order.few_phases k d l });
        }
      where
        part_here : (site : ℕ) → site ≡ n → part_of sites site (list ++ ss) ≡ ss
        part_here site e =
            filter-append (λ s. is_of_site sites site s.t.0) list ss
            ∙ ap (λ v. v ++ part_of sites site ss) (before.later site (omega arith))
            ∙ filter_all (λ s. is_of_site sites site s.t.0) ss (λ k d l. ap (λ v. is_of_site sites v (get_or ss k d).t.0) e ∙ stored.stored.own k d l)

        part_other : (site : ℕ) → site ≢ n → part_of sites site (list ++ ss) ≡ part_of sites site list
        part_other site ne =
            filter-append (λ s. is_of_site sites site s.t.0) list ss
            ∙ ap (λ v. part_of sites site list ++ v)
            (filter_none (λ s. is_of_site sites site s.t.0) ss (λ k d l. one_site sites n site (get_or ss k d).t.0 (stored.stored.own k d l) (λ e. ne (sym e))))
            ∙ append-nil (part_of sites site list)

-- the row of a site that was taken is not bad
pub none_more :
    (sites : ℕ) (rows : List (Option (List ℕ))) (n : ℕ) (list now : List Status) → NoneBad sites rows n → TakesRow sites n (held rows n) list now → NoneBad sites rows (n + 1)
none_more sites rows n list now before takes site l (row, is, bad) =
    elim (cases_eq site n) [
      | inl e ↦
          (let here : held rows n ≡ Some row = ap (held rows) (sym e) ∙ is in
          let taken = subst (λ o. TakesRow sites n o list now) here takes in
          bad taken.0 (subst (λ v. IsRowOf sites v taken.0 row) (sym e) taken.1))
      | inr ne ↦ before site (omega arith) (row, is, bad)
    ]

-- where taking the row of a site ends, and none before it was bad
pub end_first : (sites : ℕ) (rows : List (Option (List ℕ))) (site : ℕ) (e : SiteEnd) → site < sites → NoneBad sites rows site → EndsAtSite sites rows site e →
    IsSiteEnd sites rows e
end_first sites rows site (Bad s) small none (same, bad) =
    subst (IsFirstBad sites rows) (sym same) (record { within = small; bad = bad; first = none })
end_first sites rows site Fault small none end = tt
end_first sites rows site NoMemory small none end = tt

-- ---- in order of task

-- one for a status of task k, and nothing for another
abbrev tally : ℕ → Status → ℕ
tally k s = if s.t.0 == k then 1 else 0

abbrev Ascends : List Status → Type 0
Ascends xs = AllPairs (λ a b. a.t.0 < b.t.0) xs

tally_here : (k : ℕ) (s : Status) → s.t.0 ≡ k → tally k s ≡ 1
tally_here k s e = ap (λ b. if b then 1 else 0) (eq-eqb s.t.0 k e)

tally_other : (k : ℕ) (s : Status) → s.t.0 ≢ k → tally k s ≡ 0
tally_other k s ne =
    elim (cases_Bool (s.t.0 == k)) [
      | inl on ↦ absurd (ne (eqb-true s.t.0 k on))
      | inr off ↦ ap (λ b. if b then 1 else 0) off
    ]

tally_none : (k : ℕ) (xs : List Status) → All (λ s. s.t.0 ≢ k) xs → sum_by (tally k) xs ≡ 0
tally_none k [] all = refl
tally_none k (x ∷ xs) all =
    let cons = sum_by-cons (tally k) x xs in
    let here = tally_other k x (All-head (λ s. s.t.0 ≢ k) x xs all) in let rest = tally_none k xs (All-tail (λ s. s.t.0 ≢ k) x xs all) in omega arith

tail_ascends : (x : Status) (xs : List Status) → Ascends (x ∷ xs) → Ascends xs
tail_ascends x xs up i j d lt in' = up (suc i) (suc j) d (omega arith) (omega arith)

head_below : (x : Status) (xs : List Status) → Ascends (x ∷ xs) → (s : Status) → Contains xs s → x.t.0 < s.t.0
head_below x xs up s (k, lt, e) =
    let a : x.t.0 < (get_or xs k s).t.0 = up 0 (suc k) s (omega arith) (omega arith) in
    omega (arith, a, ap (λ (z : Status). z.t.0) e)

-- a list that ascends has at most one of each task
tally_ascending : (k : ℕ) (xs : List Status) → Ascends xs → sum_by (tally k) xs ≤ 1
tally_ascending k [] up = omega arith
tally_ascending k (x ∷ xs) up =
    elim (cases_eq x.t.0 k) [
      | inl same ↦
          (let none = tally_none k xs (λ i d l e. (let below = up 0 (suc i) d (omega arith) (omega arith) in absurd (omega arith))) in
          let cons = sum_by-cons (tally k) x xs in
          let here = tally_here k x same in
          omega arith)
      | inr other ↦
          (let cons = sum_by-cons (tally k) x xs in
          let rest = tally_ascending k xs (tail_ascends x xs up) in let here = tally_other k x other in omega arith)
    ]

-- all of task k are in the part of its site
tally_part : (sites k : ℕ) (xs : List Status) → sum_by (tally k) xs ≡ sum_by (tally k) (part_of sites (k % sites) xs)
tally_part sites k [] = refl
tally_part sites k (x ∷ xs) = by_test (tally_part sites k xs) (is_of_site sites (k % sites) x.t.0) refl
  where
    by_test :
        sum_by (tally k) xs ≡ sum_by (tally k) (part_of sites (k % sites) xs) → (b : Bool) → is_of_site sites (k % sites) x.t.0 ≡ b →
        sum_by (tally k) (x ∷ xs) ≡ sum_by (tally k) (if b then x ∷ part_of sites (k % sites) xs else part_of sites (k % sites) xs)
    by_test rest true on =
        (let cons = sum_by-cons (tally k) x xs in let also = sum_by-cons (tally k) x (part_of sites (k % sites) xs) in omega arith)
    by_test rest false off =
        (let cons = sum_by-cons (tally k) x xs in
        let none = tally_other k x (λ e. (let on = eq-eqb (x.t.0 % sites) (k % sites) (ap (λ t. t % sites) e) in absurd (cc))) in
        omega arith)

one_tally : (k : ℕ) (xs : List Status) (j : ℕ) (d : Status) → j < length xs → (get_or xs j d).t.0 ≡ k → 1 ≤ sum_by (tally k) xs
one_tally k [] j d l e = absurd (omega arith)
one_tally k (x ∷ xs) zero d l e = (let cons = sum_by-cons (tally k) x xs in let here = tally_here k x e in omega arith)
one_tally k (x ∷ xs) (suc j) d l e = (let cons = sum_by-cons (tally k) x xs in let rest = one_tally k xs j d (omega arith) e in omega arith)

two_tally :
    (k : ℕ) (xs : List Status) (i j : ℕ) (d : Status) → i < j → j < length xs → (get_or xs i d).t.0 ≡ k → (get_or xs j d).t.0 ≡ k → 2 ≤ sum_by (tally k) xs
two_tally k [] i j d lt l a b = absurd (omega arith)
two_tally k (x ∷ xs) i zero d lt l a b = absurd (omega arith)
two_tally k (x ∷ xs) zero (suc j) d lt l a b = (let cons = sum_by-cons (tally k) x xs in let here = tally_here k x a in let rest = one_tally k xs j d (omega arith) b in
    omega arith)
two_tally k (x ∷ xs) (suc i) (suc j) d lt l a b = (let cons = sum_by-cons (tally k) x xs in let rest = two_tally k xs i j d (omega arith) (omega arith) a b in omega arith)

-- lists that ascend and have the same elements are the same
same_head : (x y : Status) (xs ys : List Status) → Ascends (x ∷ xs) → Ascends (y ∷ ys) → ((s : Status) → Contains (x ∷ xs) s → Contains (y ∷ ys) s) → ((s : Status) →
    Contains (y ∷ ys) s → Contains (x ∷ xs) s) → x ≡ y
same_head x y xs ys up up' to from =
    elim (Contains-cons_cases y ys x (to x (Contains-head x xs))) [
      | inl e ↦ sym e
      | inr m ↦ elim (Contains-cons_cases x xs y (from y (Contains-head y ys))) [
        | inl e ↦ e
        | inr n ↦ absurd (omega (arith, head_below y ys up' x m, head_below x xs up y n))
      ]
    ]

rest_of : (x y : Status) (xs ys : List Status) → x ≡ y → Ascends (x ∷ xs) → ((s : Status) → Contains (x ∷ xs) s → Contains (y ∷ ys) s) → (s : Status) → Contains xs s →
    Contains ys s
rest_of x y xs ys e up to s m =
    elim (Contains-cons_cases y ys s (to s (Contains-tail x xs s m))) [
      | inl f ↦ absurd (omega (arith, head_below x xs up s m, ap (λ (z : Status). z.t.0) (e ∙ f)))
      | inr n ↦ n
    ]

same_ascending : (xs ys : List Status) → Ascends xs → Ascends ys → ((s : Status) → Contains xs s → Contains ys s) → ((s : Status) → Contains ys s → Contains xs s) → xs ≡ ys
same_ascending [] [] up up' to from = refl
same_ascending [] (y ∷ ys) up up' to from = absurd (nothing_in_nil y (from y (Contains-head y ys)))
same_ascending (x ∷ xs) [] up up' to from = absurd (nothing_in_nil x (to x (Contains-head x xs)))
same_ascending (x ∷ xs) (y ∷ ys) up up' to from =
    let e = same_head x y xs ys up up' to from in
    let r = same_ascending xs ys (tail_ascends x xs up) (tail_ascends y ys up') (rest_of x y xs ys e up to) (rest_of y x ys xs (sym e) up' from) in
    ap (λ z. z ∷ xs) e ∙ ap (λ zs. y ∷ zs) r

-- the elements that pass a test
pub passed_is : (p : Status → Bool) (xs : List Status) (s : Status) → Contains (filter p xs) s → Contains xs s × p s ≡ true
passed_is p [] s m = absurd (nothing_in_nil s m)
passed_is p (x ∷ xs) s m = by_test (passed_is p xs s) (cases_Bool (p x))
  where
    by_test : (Contains (filter p xs) s → Contains xs s × p s ≡ true) → ((p x ≡ true) ⊎ (p x ≡ false)) → Contains (x ∷ xs) s × p s ≡ true
    by_test rest (inl on) =
        elim (Contains-cons_cases x (filter p xs) s (subst (λ v. Contains v s) (ap (λ b. if b then x ∷ filter p xs else filter p xs) on) m)) [
          | inl e ↦ (subst (Contains (x ∷ xs)) e (Contains-head x xs), ap p (sym e) ∙ on)
          | inr n ↦ (Contains-tail x xs s (rest n).0, (rest n).1)
        ]
    by_test rest (inr off) =
        (let n = rest (subst (λ v. Contains v s) (ap (λ b. if b then x ∷ filter p xs else filter p xs) off) m) in (Contains-tail x xs s n.0, n.1))

pub passed_from : (p : Status → Bool) (xs : List Status) (s : Status) → Contains xs s → p s ≡ true → Contains (filter p xs) s
passed_from p [] s m on = absurd (nothing_in_nil s m)
passed_from p (x ∷ xs) s m on = by_test (λ n. passed_from p xs s n on) (cases_Bool (p x))
  where
    by_test : (Contains xs s → Contains (filter p xs) s) → ((p x ≡ true) ⊎ (p x ≡ false)) → Contains (filter p (x ∷ xs)) s
    by_test rest (inl here) =
        subst (λ v. Contains v s) (sym (ap (λ b. if b then x ∷ filter p xs else filter p xs) here))
        (elim (Contains-cons_cases x xs s m) [
          | inl e ↦ subst (Contains (x ∷ filter p xs)) e (Contains-head x (filter p xs))
          | inr n ↦ Contains-tail x (filter p xs) s (rest n)
        ])
    by_test rest (inr off) =
        subst (λ v. Contains v s) (sym (ap (λ b. if b then x ∷ filter p xs else filter p xs) off))
        (elim (Contains-cons_cases x xs s m) [ inl e ↦ absurd (let no = ap p (sym e) ∙ off in cc) | inr n ↦ rest n ])

-- what is stored ascends
stored_ascends : (sites site : ℕ) (ss : List Status) (o : Option (List ℕ)) → IsStored sites site ss o → Ascends (part_of sites site ss)
stored_ascends sites site ss None none = subst Ascends (sym none) (λ i j d lt l. absurd (omega arith))
stored_ascends sites site ss (Some row) is = λ i j d lt l. is.stored.in_order.tasks i j d d lt l

-- gathered statuses, sorted by task, are all
pub sorted_are_all :
    (sites : ℕ) (rows : List (Option (List ℕ))) (list now : List Status) → 1 ≤ sites → sites ≤ max_sites → AreGathered sites rows sites list →
    IsPermutation list now →
    IsNonDecreasingBy (λ s. s.t.0) now → AreAll sites rows now
sorted_are_all sites rows list now some few gathered moved sorted =
    record {
      in_order = record {
        tasks = λ j k c d lt l.
            (let same = ap (λ (z : Status). z.t.0) (get_or_default now j c d (omega arith)) in
            let below = ascends j k d lt l in
            omega arith);
        phasers = λ k s l. (phases k s l).ascends;
        few = (let count = length_permutation list now moved in let small = gathered.few in omega arith);
        few_phases = λ k s l. (phases k s l).few;
      };
      each = λ site l. stored_same sites site list now (held rows site) (part_same site l) (gathered.each site l);
    }
  where
    phases : All HasFewInOrder now
    phases = All-permutation HasFewInOrder list now moved gathered.phases

    one_each : (k : ℕ) → sum_by (tally k) now ≤ 1
    one_each k =
        (let moved_same = sum_by-IsPermutation (tally k) list now moved in
        let part = tally_part sites k list in
        let small : k % sites < sites = omega arith in
        let one = tally_ascending k (part_of sites (k % sites) list) (stored_ascends sites (k % sites) list (held rows (k % sites)) (gathered.each (k % sites) small)) in
        omega arith)

    ascends : Ascends now
    ascends i j d lt l =
        (let up : (get_or now i d).t.0 ≤ (get_or now j d).t.0 = sorted i j d (omega arith) l in
        elim (cases_eq (get_or now i d).t.0 (get_or now j d).t.0) [
          | inl same ↦
              absurd (let two = two_tally (get_or now j d).t.0 now i j d lt l same refl in let one = one_each (get_or now j d).t.0 in omega arith)
          | inr other ↦ omega arith
        ])

    part_same : (site : ℕ) → site < sites → part_of sites site list ≡ part_of sites site now
    part_same site l =
        (let own : Status → Bool = λ s. is_of_site sites site s.t.0 in
        same_ascending (part_of sites site list) (part_of sites site now) (stored_ascends sites site list (held rows site) (gathered.each site l))
        (AllPairs-filter (λ a b. a.t.0 < b.t.0) own now ascends)
        (λ s m. (let is = passed_is own list s m in passed_from own now s (Contains-permutation list now s moved is.0) is.1))
        (λ s m. (let is = passed_is own now s m in passed_from own list s (Contains-permutation now list s (IsPermutation-sym list now moved) is.0) is.1)))
