-- Names that have come, and those that have come more than once.
use Rattle.std.proofs.Common.{◌≡◌, ◌⊎◌, ℕ, zero, suc, ◌+◌, ◌<◌, Bool, true, false, not, List, [], ◌∷◌, ◌++◌, length, map, get_or, take, sym, ap, ◌∙◌, subst, refl, arith, inl, inr, append_assoc, append-nil}
use Rattle.std.specs.Prelude.{filter, if◌then◌else◌, nat_lt, option_to_list, slice_get, ◌||◌}
use Rattle.std.specs.Borrow.{Bor}
use Rattle.std.specs.List.{list_any}
use Rattle.std.specs.Str.{bytes_eq}
use Rattle.std.proofs.lemmas.Bool.{cases_Bool}
use Rattle.std.proofs.lemmas.Bool.Decides.{nat_tests}
use Rattle.std.proofs.lemmas.List.{length-append, take_all, take_more}
use Rattle.std.proofs.lemmas.List.Elements.{filter-append}
use Rattle.std.proofs.lemmas.List.Folds.{list_any-append}
use Rattle.std.proofs.lemmas.Slice.Eq.{bytes_eq-Decides}
use Rattle.indexmap.specs.IndexSet.{insert_key}
use Rattle.armus_base.specs.Finals.{given_below}
use Rattle.source_map.specs.Origins.{drawing_statement}
use Rattle.explain_facts.specs.inside.Spelled.{AreSeen, AreShared, NotesNames, name_by_shared, occurrences, spellings}
use Rattle.explain_facts.specs.Names.{named_among}

-- ---- names that are kept

-- tests of names are tests of how they are written
pub any_spelled : (x : List ℕ) (keys : List (Bor (List ℕ))) → list_any (λ (b : Bor (List ℕ)). bytes_eq x b.now) keys ≡ list_any (bytes_eq x) (spellings keys)
any_spelled x [] = refl
any_spelled x (k ∷ ks) = ap (λ b. bytes_eq x k.now || b) (any_spelled x ks)

pub spelled_push : (keys : List (Bor (List ℕ))) (k : Bor (List ℕ)) → spellings (keys ++ k ∷ []) ≡ spellings keys ++ k.now ∷ []
spelled_push [] k = refl
spelled_push (q ∷ keys) k = ap (λ xs. q.now ∷ xs) (spelled_push keys k)

-- the names with one that may be new
pub spelled_with : (keys : List (Bor (List ℕ))) (k : Bor (List ℕ)) →
    spellings (if list_any (λ (b : Bor (List ℕ)). bytes_eq k.now b.now) keys then keys else keys ++ k ∷ []) ≡ insert_key bytes_eq (spellings keys) k.now
spelled_with keys k = by (list_any (λ (b : Bor (List ℕ)). bytes_eq k.now b.now) keys) (any_spelled k.now keys)
  where
    by : (v : Bool) → v ≡ list_any (bytes_eq k.now) (spellings keys) → spellings (if v then keys else keys ++ k ∷ []) ≡ insert_key bytes_eq (spellings keys) k.now
    by true e = ap (λ v. if v then spellings keys else spellings keys ++ k.now ∷ []) e
    by false e = spelled_push keys k ∙ ap (λ v. if v then spellings keys else spellings keys ++ k.now ∷ []) e

-- ---- one name more

same_name : (x y : List ℕ) → bytes_eq y x ≡ true → y ≡ x
same_name x y e = (bytes_eq-Decides y x).0 e

or_true : (a : Bool) → (a || true) ≡ true
or_true true = refl
or_true false = refl

or_false : (a : Bool) → (a || false) ≡ a
or_false true = refl
or_false false = refl

-- who is among names with one more
any_with : (xs : List (List ℕ)) (x y : List ℕ) → list_any (bytes_eq y) (insert_key bytes_eq xs x) ≡ (list_any (bytes_eq y) xs || bytes_eq y x)
any_with xs x y = by (cases_Bool (list_any (bytes_eq x) xs)) (cases_Bool (bytes_eq y x))
  where
    by : ((list_any (bytes_eq x) xs ≡ true) ⊎ (list_any (bytes_eq x) xs ≡ false)) → ((bytes_eq y x ≡ true) ⊎ (bytes_eq y x ≡ false)) →
        list_any (bytes_eq y) (insert_key bytes_eq xs x) ≡ (list_any (bytes_eq y) xs || bytes_eq y x)
    by (inl old) (inl same) =
        ap (λ v. list_any (bytes_eq y) (if v then xs else xs ++ x ∷ [])) old
        ∙ subst (λ z. list_any (bytes_eq z) xs ≡ true) (sym (same_name x y same)) old
        ∙ sym (ap (λ v. list_any (bytes_eq y) xs || v) same ∙ or_true (list_any (bytes_eq y) xs))
    by (inl old) (inr other) =
        ap (λ v. list_any (bytes_eq y) (if v then xs else xs ++ x ∷ [])) old
        ∙ sym (ap (λ v. list_any (bytes_eq y) xs || v) other ∙ or_false (list_any (bytes_eq y) xs))
    by (inr new) same =
        ap (λ v. list_any (bytes_eq y) (if v then xs else xs ++ x ∷ [])) new
        ∙ list_any-append (bytes_eq y) xs (x ∷ [])
        ∙ ap (λ v. list_any (bytes_eq y) xs || v) (or_false (bytes_eq y x))

-- so often is a name there with one more
abbrev one_more : ℕ → Bool → ℕ
one_more n true = n + 1
one_more n false = n

times_more : (come : List (List ℕ)) (x y : List ℕ) → occurrences (come ++ x ∷ []) y ≡ one_more (occurrences come y) (bytes_eq y x)
times_more come x y =
    ap length (filter-append (bytes_eq y) come (x ∷ []))
    ∙ length-append (filter (bytes_eq y) come) (filter (bytes_eq y) (x ∷ []))
    ∙ by (bytes_eq y x)
  where
    by : (b : Bool) → occurrences come y + length (if b then x ∷ [] else []) ≡ one_more (occurrences come y) b
    by true = refl
    by false = omega arith

some_of : (n : ℕ) (b : Bool) → (nat_lt 0 n || b) ≡ nat_lt 0 (one_more n b)
some_of n true = or_true (nat_lt 0 n) ∙ sym (let e : nat_lt 0 (n + 1) ≡ true = grind (arith, nat_tests) in e)
some_of n false = or_false (nat_lt 0 n)

-- a name that had not come does not come a second time
not_again : (n : ℕ) (b : Bool) → (b ≡ true → nat_lt 0 n ≡ false) → nat_lt 1 n ≡ nat_lt 1 (one_more n b)
not_again n true none = let e = none refl in let z : n ≡ 0 = grind (arith, nat_tests) in ap (λ m. nat_lt 1 m) z ∙ sym (ap (λ m. nat_lt 1 (m + 1)) z)
not_again n false none = refl

-- one that had come does
again : (n : ℕ) (b : Bool) → (b ≡ true → nat_lt 0 n ≡ true) → (nat_lt 1 n || b) ≡ nat_lt 1 (one_more n b)
again n true some = let e = some refl in or_true (nat_lt 1 n) ∙ sym (let f : nat_lt 1 (n + 1) ≡ true = grind (arith, nat_tests) in f)
again n false some = or_false (nat_lt 1 n)

module _ (come seen more : List (List ℕ)) (x : List ℕ) (old : AreSeen come seen more) where
  come_once : (y : List ℕ) → list_any (bytes_eq y) (insert_key bytes_eq seen x) ≡ nat_lt 0 (occurrences (come ++ x ∷ []) y)
  come_once y =
      any_with seen x y
      ∙ ap (λ b. b || bytes_eq y x) (old.once y)
      ∙ some_of (occurrences come y) (bytes_eq y x)
      ∙ ap (λ n. nat_lt 0 n) (sym (times_more come x y))

  -- whether the name had come
  here : (b : Bool) → list_any (bytes_eq x) seen ≡ b → (y : List ℕ) → bytes_eq y x ≡ true → nat_lt 0 (occurrences come y) ≡ b
  here b is y same = sym (old.once y) ∙ subst (λ z. list_any (bytes_eq z) seen ≡ b) (sym (same_name x y same)) is

  -- a name that had not come
  pub seen_new : list_any (bytes_eq x) seen ≡ false → AreSeen (come ++ x ∷ []) (insert_key bytes_eq seen x) more
  seen_new new = record {
    once = come_once;
    twice = λ y. old.twice y ∙ not_again (occurrences come y) (bytes_eq y x) (here false new y) ∙ ap (λ n. nat_lt 1 n) (sym (times_more come x y));
  }

  -- a name that had come
  pub seen_again : list_any (bytes_eq x) seen ≡ true → AreSeen (come ++ x ∷ []) (insert_key bytes_eq seen x) (insert_key bytes_eq more x)
  seen_again there = record {
    once = come_once;
    twice = λ y.
        any_with more x y
        ∙ ap (λ b. b || bytes_eq y x) (old.twice y)
        ∙ again (occurrences come y) (bytes_eq y x) (here true there y)
        ∙ ap (λ n. nat_lt 1 n) (sym (times_more come x y));
  }

-- nothing has come
pub nothing_seen : AreSeen [] [] []
nothing_seen = record { once = λ x. refl; twice = λ x. refl }

-- ---- what the program notes

-- one name, by whether it had come
pub noted :
    (come seen again seen' again' : List (List ℕ)) (x : List ℕ) (is_new : Bool) → is_new ≡ not (list_any (bytes_eq x) seen) → seen' ≡ insert_key bytes_eq seen x →
    again' ≡ (if is_new then again else insert_key bytes_eq again x) → AreSeen come seen again → AreSeen (come ++ x ∷ []) seen' again'
noted come seen again seen' again' x is_new new keys more old =
    subst (λ s. AreSeen (come ++ x ∷ []) s again') (sym keys) (subst (λ m. AreSeen (come ++ x ∷ []) (insert_key bytes_eq seen x) m) (sym more) (by is_new (list_any (bytes_eq x) seen) refl new))
  where
    by : (v b : Bool) → list_any (bytes_eq x) seen ≡ b → v ≡ not b → AreSeen (come ++ x ∷ []) (insert_key bytes_eq seen x) (if v then again else insert_key bytes_eq again x)
    by true true is e = absurd (cc)
    by true false is e = seen_new come seen again x old is
    by false true is e = seen_again come seen again x old is
    by false false is e = absurd (cc)

-- no name more
pub notes_none : (seen again : List (List ℕ)) → NotesNames [] seen again seen again
notes_none seen again come old = subst (λ c. AreSeen c seen again) (sym (append-nil come)) old

-- names, and one more
pub notes_more :
    (names : List (Bor (List ℕ))) (k : ℕ) (d : Bor (List ℕ)) (seen again seen' again' seen'' again'' : List (List ℕ)) → k < length names →
    NotesNames (spellings (take k names)) seen again seen' again' → NotesNames ((get_or names k d).now ∷ []) seen' again' seen'' again'' →
    NotesNames (spellings (take (k + 1) names)) seen again seen'' again''
notes_more names k d seen again seen' again' seen'' again'' lt before own come old =
    let whole : spellings (take (k + 1) names) ≡ spellings (take k names) ++ (get_or names k d).now ∷ [] =
    ap spellings (take_more names k d lt) ∙ spelled_push (take k names) (get_or names k d) in
    subst (λ more. AreSeen more seen'' again'')
    (append_assoc come (spellings (take k names)) ((get_or names k d).now ∷ []) ∙ ap (λ more. come ++ more) (sym whole))
    (own (come ++ spellings (take k names)) (before come old))

-- all names of two lists
pub shared_are :
    (a b : List (List ℕ)) (seen' again' seen'' again'' : List (List ℕ)) → NotesNames a [] [] seen' again' → NotesNames b seen' again' seen'' again'' →
    AreShared (a ++ b) again''
shared_are a b seen' again' seen'' again'' one other x = ap not ((other a (one [] nothing_seen)).twice x)

-- ---- the statements of the names

drawn_below : (xs : List ℕ) (n : ℕ) → given_below (drawing_statement xs) (suc n) ≡ take n xs
drawn_below xs zero = refl
drawn_below xs (suc n) = ap (λ ys. ys ++ option_to_list (slice_get xs n)) (drawn_below xs n) ∙ taken xs n
  where
    taken : (ys : List ℕ) (k : ℕ) → take k ys ++ option_to_list (slice_get ys k) ≡ take (suc k) ys
    taken [] zero = refl
    taken [] (suc k) = refl
    taken (y ∷ ys) zero = refl
    taken (y ∷ ys) (suc k) = ap (λ zs. y ∷ zs) (taken ys k)

-- those that draw all tasks
pub drawn_all : (xs : List ℕ) (n : ℕ) → n ≡ suc (length xs) → given_below (drawing_statement xs) n ≡ xs
drawn_all xs n e = ap (given_below (drawing_statement xs)) e ∙ drawn_below xs (length xs) ∙ take_all (length xs) xs (omega arith)

-- names, by those that are shared
pub named_by_shared : (all shared : List (List ℕ)) → AreShared all shared → (xs : List (List ℕ)) → map (name_by_shared shared) xs ≡ map (named_among all) xs
named_by_shared all shared are [] = refl
named_by_shared all shared are (x ∷ xs) =
    let own : name_by_shared shared x ≡ named_among all x = λ i. record { name = x; is_sole = are x i } in
    ap (λ n. n ∷ map (name_by_shared shared) xs) own ∙ ap (λ ns. named_among all x ∷ ns) (named_by_shared all shared are xs)
