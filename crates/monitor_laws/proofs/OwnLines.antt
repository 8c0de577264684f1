-- The state of each name is made by its own lines alone.
use Rattle.std.proofs.Common.{◌≡◌, ℕ, ◌+◌, Bool, true, false, ◌||◌, Some, None, Option, List, [], ◌∷◌, ◌++◌, refl, sym, ◌∙◌, ap, inl, inr, ◌⊎◌}
use Rattle.std.specs.Prelude.{Contains, bytes_eq, filter, map, if◌then◌else◌}
use Rattle.std.specs.List.{list_any}
use Rattle.std.proofs.lemmas.Bool.{cases_Bool, and_parts, cond-true, cond-false}
use Rattle.std.proofs.lemmas.List.Elements.{filter-append}
use Rattle.std.proofs.Common.{append-nil}
use Rattle.std.proofs.lemmas.List.{map-append}
use Rattle.std.proofs.lemmas.Slice.Eq.{bytes_eq-Decides}
use Rattle.armus_base.proofs.Elements.{Contains-head, Contains-tail}
use Rattle.monitor_laws.specs.Lines.{Announcement, Joins, Arrives, Leaves, Waits, Goes, Ends, Stands, TraceLine, SaysNothing, AsksReport, AsksList, AreGone, Announces, PlaysAny, PlaysOneOf}
use Rattle.monitor_laws.specs.States.{Participant, TraceState, after_lines, announced_by, changed_at, is_live_task, is_live_wildcard, is_there_as, new_participant, placed_at, stays_listed, with_named}
use Rattle.monitor_laws.specs.Traces.{HasNoWildcard, is_line_of}
use Rattle.monitor_laws.specs.Laws.{SameLinesSameStates, own_list, unnumbered}
use Rattle.monitor_laws.proofs.Changes.{changed_there, other_is}
use Rattle.monitor_laws.proofs.Filters.{from_filter}
use Rattle.monitor_laws.specs.Lawful.{IsLawfulState}
use Rattle.monitor_laws.proofs.Lawful.{announced_name, lawful_lines, placed_name}

-- filters and maps
pub kept : {A : Type 0} (p : A → Bool) (x : A) (xs : List A) → p x ≡ true → filter p (x ∷ xs) ≡ x ∷ filter p xs
kept p x xs on = cond-true (p x) (x ∷ filter p xs) (filter p xs) on

pub left_out : {A : Type 0} (p : A → Bool) (x : A) (xs : List A) → p x ≡ false → filter p (x ∷ xs) ≡ filter p xs
left_out p x xs off = cond-false (p x) (x ∷ filter p xs) (filter p xs) off

filters_commute : {A : Type 0} (p q : A → Bool) (xs : List A) → filter p (filter q xs) ≡ filter q (filter p xs)
filters_commute p q [] = refl
filters_commute {A} p q (x ∷ xs) = by_test (filters_commute p q xs) (cases_Bool (p x)) (cases_Bool (q x))
  where
    by_test : filter p (filter q xs) ≡ filter q (filter p xs) → ((p x ≡ true) ⊎ (p x ≡ false)) → ((q x ≡ true) ⊎ (q x ≡ false)) → filter p (filter q (x ∷ xs)) ≡ filter q (filter p (x ∷ xs))
    by_test rest (inl on) (inl too) =
        ap (filter p) (kept q x xs too) ∙ kept p x (filter q xs) on ∙ ap (λ l. x ∷ l) rest ∙ sym (kept q x (filter p xs) too) ∙ ap (filter q) (sym (kept p x xs on))
    by_test rest (inl on) (inr off) = ap (filter p) (left_out q x xs off) ∙ rest ∙ sym (left_out q x (filter p xs) off) ∙ ap (filter q) (sym (kept p x xs on))
    by_test rest (inr off) (inl on) = ap (filter p) (kept q x xs on) ∙ left_out p x (filter q xs) off ∙ rest ∙ ap (filter q) (sym (left_out p x xs off))
    by_test rest (inr off) (inr too) = ap (filter p) (left_out q x xs too) ∙ rest ∙ ap (filter q) (sym (left_out p x xs off))

-- a test that does not see the change
filter_after_map : {A B : Type 0} (f : A → B) (p : B → Bool) (q : A → Bool) → ((x : A) → p (f x) ≡ q x) → (xs : List A) → filter p (map f xs) ≡ map f (filter q xs)
filter_after_map f p q same [] = refl
filter_after_map f p q same (x ∷ xs) = by_test (filter_after_map f p q same xs) (cases_Bool (q x))
  where
    by_test : filter p (map f xs) ≡ map f (filter q xs) → ((q x ≡ true) ⊎ (q x ≡ false)) → filter p (map f (x ∷ xs)) ≡ map f (filter q (x ∷ xs))
    by_test rest (inl on) = kept p (f x) (map f xs) (same x ∙ on) ∙ ap (λ l. f x ∷ l) rest ∙ ap (map f) (sym (kept q x xs on))
    by_test rest (inr off) = left_out p (f x) (map f xs) (same x ∙ off) ∙ rest ∙ ap (map f) (sym (left_out q x xs off))

maps_commute : {A B C D : Type 0} (f : A → B) (g : B → D) (h : A → C) (k : C → D) → ((x : A) → g (f x) ≡ k (h x)) → (xs : List A) → map g (map f xs) ≡ map k (map h xs)
maps_commute f g h k same [] = refl
maps_commute f g h k same (x ∷ xs) = ap (λ y. y ∷ map g (map f xs)) (same x) ∙ ap (λ l. k (h x) ∷ l) (maps_commute f g h k same xs)

-- a change that leaves all that pass
map_leaves : {A : Type 0} (f : A → A) (p : A → Bool) → ((x : A) → p x ≡ true → f x ≡ x) → (xs : List A) → map f (filter p xs) ≡ filter p xs
map_leaves f p same [] = refl
map_leaves f p same (x ∷ xs) = by_test (map_leaves f p same xs) (cases_Bool (p x))
  where
    by_test : map f (filter p xs) ≡ filter p xs → ((p x ≡ true) ⊎ (p x ≡ false)) → map f (filter p (x ∷ xs)) ≡ filter p (x ∷ xs)
    by_test rest (inl on) = ap (map f) (kept p x xs on) ∙ ap (λ y. y ∷ map f (filter p xs)) (same x on) ∙ ap (λ l. x ∷ l) rest ∙ sym (kept p x xs on)
    by_test rest (inr off) = ap (map f) (left_out p x xs off) ∙ rest ∙ sym (left_out p x xs off)

-- a test that all pass
all_pass : {A : Type 0} (p : A → Bool) (xs : List A) → ((x : A) → Contains xs x → p x ≡ true) → filter p xs ≡ xs
all_pass p [] all = refl
all_pass p (x ∷ xs) all = kept p x xs (all x (Contains-head x xs)) ∙ ap (λ l. x ∷ l) (all_pass p xs (λ y within. all y (Contains-tail x xs y within)))

any_same : {A B : Type 0} (f : A → B) (p : B → Bool) (q : A → Bool) → ((x : A) → p (f x) ≡ q x) → (xs : List A) → list_any p (map f xs) ≡ list_any q xs
any_same f p q same [] = refl
any_same f p q same (x ∷ xs) = ap (λ b. b || list_any p (map f xs)) (same x) ∙ ap (λ b. q x || b) (any_same f p q same xs)

-- a test that passes only where another does
any_of_passed : {A : Type 0} (p q : A → Bool) → ((x : A) → p x ≡ true → q x ≡ true) → (xs : List A) → list_any p (filter q xs) ≡ list_any p xs
any_of_passed p q only [] = refl
any_of_passed p q only (x ∷ xs) = by_test (any_of_passed p q only xs) (cases_Bool (q x)) (cases_Bool (p x))
  where
    by_test : list_any p (filter q xs) ≡ list_any p xs → ((q x ≡ true) ⊎ (q x ≡ false)) → ((p x ≡ true) ⊎ (p x ≡ false)) → list_any p (filter q (x ∷ xs)) ≡ list_any p (x ∷ xs)
    by_test rest (inl on) passes = ap (list_any p) (kept q x xs on) ∙ ap (λ b. p x || b) rest
    by_test rest (inr off) (inl passes) = absurd (let o = only x passes in cc)
    by_test rest (inr off) (inr fails) = ap (list_any p) (left_out q x xs off) ∙ rest ∙ ap (λ b. b || list_any p xs) (sym fails)

-- the name
abbrev pub is_of : List ℕ → Participant → Bool
is_of t u = bytes_eq t u.name

-- a list of one name with somebody new, and after a line of that name
abbrev pub own_named : List ℕ → List Participant → List Participant
own_named t l = if list_any (is_there_as t) l then l else l ++ new_participant 0 t ∷ []

abbrev pub own_changed : List ℕ → (Participant → Participant) → List Participant → List Participant
own_changed t change l = filter stays_listed (map (changed_there t change) (own_named t l))

abbrev pub own_after : List ℕ → List TraceLine → List Participant
own_after t [] = []
own_after t (SaysNothing ∷ h) = own_after t h
own_after t (AsksReport ∷ h) = own_after t h
own_after t (AsksList ∷ h) = own_after t h
own_after t (AreGone beginning ∷ h) = own_after t h
own_after t (Announces u what place ∷ h) = own_changed t (λ v. placed_at place (announced_by what v)) (own_after t h)
own_after t (PlaysAny w ∷ h) = own_after t h
own_after t (PlaysOneOf w names ∷ h) = own_after t h

-- with somebody new of this name
own_with_named : (s : TraceState) (t : List ℕ) → map unnumbered (filter (is_of t) (with_named s t).list) ≡ own_named t (own_list s t)
own_with_named s t = by_test (cases_Bool (list_any (is_there_as t) s.list))
  where
    same : list_any (is_there_as t) (own_list s t) ≡ list_any (is_there_as t) s.list
    same =
        any_same unnumbered (is_there_as t) (is_there_as t) (λ x. refl) (filter (is_of t) s.list)
        ∙ any_of_passed (is_there_as t) (is_of t) (λ x there. (and_parts (is_live_task x.condition || is_live_wildcard x.condition) (bytes_eq t x.name) there).1) s.list

    more : TraceState
    more = record { list = s.list ++ new_participant s.named t ∷ []; named = s.named + 1 }

    by_test : ((list_any (is_there_as t) s.list ≡ true) ⊎ (list_any (is_there_as t) s.list ≡ false)) → map unnumbered (filter (is_of t) (with_named s t).list) ≡ own_named t (own_list s t)
    by_test (inl there) =
        ap (λ (x : TraceState). own_list x t) (cond-true (list_any (is_there_as t) s.list) s more there)
        ∙ sym (cond-true (list_any (is_there_as t) (own_list s t)) (own_list s t) (own_list s t ++ new_participant 0 t ∷ []) (same ∙ there))
    by_test (inr none) =
        ap (λ (x : TraceState). own_list x t) (cond-false (list_any (is_there_as t) s.list) s more none)
        ∙ ap (map unnumbered) (filter-append (is_of t) s.list (new_participant s.named t ∷ []) ∙ ap (λ l. filter (is_of t) s.list ++ l) (kept (is_of t) (new_participant s.named t) [] ((bytes_eq-Decides t t).1 refl)))
        ∙ map-append unnumbered (filter (is_of t) s.list) (new_participant s.named t ∷ [])
        ∙ sym (cond-false (list_any (is_there_as t) (own_list s t)) (own_list s t) (own_list s t ++ new_participant 0 t ∷ []) (same ∙ none))

-- after a line of this name
own_at :
    (s : TraceState) (t : List ℕ) (change : Participant → Participant) → ((u : Participant) → (change u).name ≡ u.name) → ((u : Participant) → unnumbered (change u) ≡ change (unnumbered u)) →
    own_list (changed_at t change s) t ≡ own_changed t change (own_list s t)
own_at s t change name apart =
    ap (map unnumbered)
    (filters_commute (is_of t) stays_listed (map (changed_there t change) (with_named s t).list)
    ∙ ap (filter stays_listed) (filter_after_map (changed_there t change) (is_of t) (is_of t) of_same (with_named s t).list))
    ∙ sym (filter_after_map unnumbered stays_listed stays_listed (λ x. refl) (map (changed_there t change) (filter (is_of t) (with_named s t).list)))
    ∙ ap (filter stays_listed)
    (maps_commute (changed_there t change) unnumbered unnumbered (changed_there t change) change_apart (filter (is_of t) (with_named s t).list)
    ∙ ap (map (changed_there t change)) (own_with_named s t))
  where
    of_same : (u : Participant) → is_of t (changed_there t change u) ≡ is_of t u
    of_same u = elim (cases_Bool (is_there_as t u)) [
      | inl there ↦ ap (is_of t) (cond-true (is_there_as t u) (change u) u there) ∙ ap (bytes_eq t) (name u)
      | inr other ↦ ap (is_of t) (cond-false (is_there_as t u) (change u) u other)
    ]

    change_apart : (u : Participant) → unnumbered (changed_there t change u) ≡ changed_there t change (unnumbered u)
    change_apart u = elim (cases_Bool (is_there_as t u)) [
      | inl there ↦ ap unnumbered (cond-true (is_there_as t u) (change u) u there) ∙ apart u ∙ sym (cond-true (is_there_as t (unnumbered u)) (change (unnumbered u)) (unnumbered u) there)
      | inr other ↦ ap unnumbered (cond-false (is_there_as t u) (change u) u other) ∙ sym (cond-false (is_there_as t (unnumbered u)) (change (unnumbered u)) (unnumbered u) other)
    ]

-- after a line of another name
other_at :
    (s : TraceState) → IsLawfulState s → (t x : List ℕ) (change : Participant → Participant) → ((u : Participant) → (change u).name ≡ u.name) → bytes_eq x t ≡ false →
    own_list (changed_at t change s) x ≡ own_list s x
other_at s lawful t x change name other =
    ap (map unnumbered)
    (filters_commute (is_of x) stays_listed (map (changed_there t change) (with_named s t).list)
    ∙ ap (filter stays_listed)
    (filter_after_map (changed_there t change) (is_of x) (is_of x) of_same (with_named s t).list
    ∙ map_leaves (changed_there t change) (is_of x) leaves (with_named s t).list
    ∙ named_other)
    ∙ all_pass stays_listed (filter (is_of x) s.list) (λ u within. lawful.stays u (from_filter (is_of x) s.list u within).0))
  where
    not_there : (u : Participant) → is_of x u ≡ true → is_there_as t u ≡ false
    not_there u of = elim (cases_Bool (is_there_as t u)) [
      | inl there ↦
          absurd (let e : t ≡ u.name = (bytes_eq-Decides t u.name).0 (and_parts (is_live_task u.condition || is_live_wildcard u.condition) (bytes_eq t u.name) there).1 in
          let f = ap (bytes_eq x) e in cc)
      | inr off ↦ off
    ]

    of_same : (u : Participant) → is_of x (changed_there t change u) ≡ is_of x u
    of_same u = elim (cases_Bool (is_there_as t u)) [
      | inl there ↦ ap (is_of x) (cond-true (is_there_as t u) (change u) u there) ∙ ap (bytes_eq x) (name u)
      | inr off ↦ ap (is_of x) (cond-false (is_there_as t u) (change u) u off)
    ]

    leaves : (u : Participant) → is_of x u ≡ true → changed_there t change u ≡ u
    leaves u of = other_is t change u (not_there u of)

    named_other : filter (is_of x) (with_named s t).list ≡ filter (is_of x) s.list
    named_other = elim (cases_Bool (list_any (is_there_as t) s.list)) [
      | inl there ↦ ap (λ (y : TraceState). filter (is_of x) y.list) (cond-true (list_any (is_there_as t) s.list) s (record { list = s.list ++ new_participant s.named t ∷ []; named = s.named + 1 }) there)
      | inr none ↦
          ap (λ (y : TraceState). filter (is_of x) y.list) (cond-false (list_any (is_there_as t) s.list) s (record { list = s.list ++ new_participant s.named t ∷ []; named = s.named + 1 }) none)
          ∙ filter-append (is_of x) s.list (new_participant s.named t ∷ [])
          ∙ ap (λ l. filter (is_of x) s.list ++ l) (left_out (is_of x) (new_participant s.named t) [] other)
          ∙ append-nil (filter (is_of x) s.list)
    ]

announced_apart : (what : Announcement) (u : Participant) → unnumbered (announced_by what u) ≡ announced_by what (unnumbered u)
announced_apart (Joins p n) u = refl
announced_apart (Arrives p) u = refl
announced_apart (Leaves p) u = refl
announced_apart (Waits p n) u = refl
announced_apart Goes u = refl
announced_apart Ends u = refl
announced_apart Stands u = refl

placed_apart : (place : Option (List ℕ)) (u : Participant) → unnumbered (placed_at place u) ≡ placed_at place (unnumbered u)
placed_apart None u = refl
placed_apart (Some place) u = refl

-- the state of a name is what its own lines have made
pub own_lines : (h : List TraceLine) → HasNoWildcard h → (t : List ℕ) → own_list (after_lines h) t ≡ own_after t (filter (is_line_of t) h)
own_lines [] none t = refl
own_lines (SaysNothing ∷ h) none t = own_lines h none.0 t
own_lines (AsksReport ∷ h) none t = own_lines h none.0 t
own_lines (AsksList ∷ h) none t = own_lines h none.0 t
own_lines (AreGone beginning ∷ h) none t = absurd (let e = none.1 in cc)
own_lines (PlaysAny w ∷ h) none t = absurd (let e = none.1 in cc)
own_lines (PlaysOneOf w names ∷ h) none t = absurd (let e = none.1 in cc)
own_lines (Announces u what place ∷ h) none t = by_test (own_lines h none.0 t) (cases_Bool (bytes_eq t u))
  where
    change : Participant → Participant
    change v = placed_at place (announced_by what v)

    name : (v : Participant) → (change v).name ≡ v.name
    name v = placed_name place (announced_by what v) ∙ announced_name what v

    by_test :
        own_list (after_lines h) t ≡ own_after t (filter (is_line_of t) h) → ((bytes_eq t u ≡ true) ⊎ (bytes_eq t u ≡ false)) →
        own_list (after_lines (Announces u what place ∷ h)) t ≡ own_after t (filter (is_line_of t) (Announces u what place ∷ h))
    by_test rest (inl own) =
        let same : t ≡ u = (bytes_eq-Decides t u).0 own in
        ap (λ x. own_list (changed_at x change (after_lines h)) t) (sym same)
        ∙ own_at (after_lines h) t change name (λ v. placed_apart place (announced_by what v) ∙ ap (placed_at place) (announced_apart what v))
        ∙ ap (own_changed t change) rest
        ∙ ap (own_after t) (sym (kept (is_line_of t) (Announces u what place) h own))
    by_test rest (inr other) =
        other_at (after_lines h) (lawful_lines h) u t change name other ∙ rest ∙ ap (own_after t) (sym (left_out (is_line_of t) (Announces u what place) h other))

pub same_lines_same_states : SameLinesSameStates
same_lines_same_states h g h_none g_none same t = own_lines h h_none t ∙ ap (own_after t) (same t) ∙ sym (own_lines g g_none t)
