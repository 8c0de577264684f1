-- One task more is named, or fresh.
use Rattle.std.proofs.Common.{◌≡◌, ◌≢◌, ℕ, zero, suc, ◌<◌, ◌+◌, ◌++◌, Bool, true, false, List, [], ◌∷◌, length, get_or, replicate, set, take, sym, refl, ap, ◌∙◌, subst, inl, inr, ◌⊎◌}
use Rattle.std.specs.Prelude.{Contains, map, not, unwrap_or}
use Rattle.std.specs.List.{filter}
use Rattle.std.proofs.lemmas.Bool.{cases_eq}
use Rattle.std.proofs.lemmas.List.{append-nil, map-append, take_more}
use Rattle.std.proofs.lemmas.List.Elements.{All-contains, All-contains_itself, All-filter, All-push, Contains-append_left, Contains-push, Contains-push_cases, filter_more}
use Rattle.std.proofs.lemmas.Option.{slice_get-get_or}
use mathlib.Core.Bool.{cond}
use Rattle.armus_base.specs.declared.event.Event.{Event}
use Rattle.armus_base.specs.declared.ids.TaskId.{TaskId}
use Rattle.armus_base.specs.declared.status.Dead.{Dead}
use Rattle.armus_base.specs.declared.status.Status.{Status}
use Rattle.armus_base.specs.Deadlocks.{IsListedOn}
use Rattle.armus_base.proofs.Elements.{Contains-cons_cases, Contains-head, Contains-tail, nothing_in_nil}
use Rattle.armus_base.proofs.Lists.{slice_get-set_other, slice_get-set_same}
use Rattle.collector.specs.inside.Names.{AreFresh}
use Rattle.collector.specs.calls.Passes.{NamesToo, was_named}

-- what a read of the names says
pub name_read : (names : List Bool) (k : ℕ) → k < length names → was_named names k ≡ get_or names k false
name_read names k l = ap (λ o. unwrap_or o false) (slice_get-get_or names k false l)

-- a task with this number
same_task : (t u : TaskId) → t.0 ≡ u.0 → t ≡ u
same_task t u e = λ i. record { 0 = e i }

named_same : (names : List Bool) (k : ℕ) → k < length names → was_named (set names k true) k ≡ true
named_same names k l = ap (λ o. unwrap_or o false) (slice_get-set_same names k true l)

named_other : (names : List Bool) (k u : ℕ) → u ≢ k → was_named (set names k true) u ≡ was_named names u
named_other names k u n = ap (λ o. unwrap_or o false) (slice_get-set_other names k u true n)

-- whoever was named stays so
still_named : (names : List Bool) (k u : ℕ) → k < length names → was_named names u ≡ true → was_named (set names k true) u ≡ true
still_named names k u l is = elim (cases_eq u k) [
  | inl e ↦ subst (λ v. was_named (set names k true) v ≡ true) (sym e) (named_same names k l)
  | inr n ↦ named_other names k u n ∙ is
]

pub names_more :
    (before names : List Bool) (dead : List TaskId) (i : ℕ) (d : TaskId) → i < length dead → (get_or dead i d).0 < length names →
    NamesToo (take i dead) before names → NamesToo (take (i + 1) dead) before (set names (get_or dead i d).0 true)
names_more before names dead i d l inside kept =
    subst (λ xs. NamesToo xs before (set names x.0 true)) (sym (take_more dead i d l)) (λ t. (to t, from t))
  where
    x : TaskId
    x = get_or dead i d

    first : List TaskId
    first = take i dead

    to : (t : TaskId) → was_named (set names x.0 true) t.0 ≡ true → (was_named before t.0 ≡ true) ⊎ Contains (first ++ x ∷ []) t
    to t is = elim (cases_eq t.0 x.0) [
      | inl e ↦ inr (subst (Contains (first ++ x ∷ [])) (sym (same_task t x e)) (Contains-push first x))
      | inr n ↦ elim ((kept t).0 (sym (named_other names x.0 t.0 n) ∙ is)) [
        | inl old ↦ inl old
        | inr here ↦ inr (Contains-append_left first (x ∷ []) t here)
      ]
    ]

    from : (t : TaskId) → (was_named before t.0 ≡ true) ⊎ Contains (first ++ x ∷ []) t → was_named (set names x.0 true) t.0 ≡ true
    from t (inl old) = still_named names x.0 t.0 inside ((kept t).1 (inl old))
    from t (inr here) = elim (Contains-push_cases first x t here) [
      | inl there ↦ still_named names x.0 t.0 inside ((kept t).1 (inr there))
      | inr same ↦ subst (λ (u : TaskId). was_named (set names x.0 true) u.0 ≡ true) same (named_same names x.0 inside)
    ]

-- a task that is named, and one that is fresh
pub fresh_old :
    (names : List Bool) (list : List Status) (dead : List TaskId) (i : ℕ) (d : TaskId) (all : List Dead) → i < length dead → was_named names (get_or dead i d).0 ≡ true →
    AreFresh names list (take i dead) all → AreFresh names list (take (i + 1) dead) all
fresh_old names list dead i d all l is kept =
    let test : TaskId → Bool = λ t. not (was_named names t.0) in
    let x = get_or dead i d in
    record {
      tasks = kept.tasks ∙ sym (filter_more test dead i d l ∙ ap (λ b. filter test (take i dead) ++ cond (not b) (x ∷ []) []) is ∙ append-nil (filter test (take i dead)));
      events = kept.events;
    }

pub fresh_new :
    (names : List Bool) (list : List Status) (dead : List TaskId) (i : ℕ) (d : TaskId) (all : List Dead) (event : Event) → i < length dead →
    was_named names (get_or dead i d).0 ≡ false →
    IsListedOn list (get_or dead i d).0 event → AreFresh names list (take i dead) all →
    AreFresh names list (take (i + 1) dead) (all ++ record { t = get_or dead i d; event = event } ∷ [])
fresh_new names list dead i d all event l is on kept =
    let test : TaskId → Bool = λ t. not (was_named names t.0) in
    let x = get_or dead i d in
    let one : Dead = record { t = x; event = event } in
    record {
      tasks =
          map-append (λ (v : Dead). v.t) all (one ∷ [])
          ∙ ap (λ xs. xs ++ x ∷ []) kept.tasks
          ∙ sym (filter_more test dead i d l ∙ ap (λ b. filter test (take i dead) ++ cond (not b) (x ∷ []) []) is);
      events = All-push (λ (v : Dead). IsListedOn list v.t.0 v.event) all one kept.events on;
    }

-- what stands in a list, stands mapped in the mapped list
pub Contains-map : {X Y : Type 0} (f : X → Y) (xs : List X) (x : X) → Contains xs x → Contains (map f xs) (f x)
Contains-map f [] x inside = absurd (nothing_in_nil x inside)
Contains-map f (y ∷ ys) x inside = elim (Contains-cons_cases y ys x inside) [
  | inl same ↦ subst (λ v. Contains (f y ∷ map f ys) (f v)) same (Contains-head (f y) (map f ys))
  | inr rest ↦ Contains-tail (f y) (map f ys) (f x) (Contains-map f ys x rest)
]

-- what passes a test stands in the list
pub filter_inside : {X : Type 0} (test : X → Bool) (xs : List X) (x : X) → Contains (filter test xs) x → Contains xs x
filter_inside test xs x inside = All-contains (Contains xs) (filter test xs) x (All-filter test (Contains xs) xs (All-contains_itself xs)) inside

-- in a new table nobody is named
pub nobody_named : (n t : ℕ) → was_named (replicate n false) t ≡ false
nobody_named zero t = refl
nobody_named (suc n) zero = refl
nobody_named (suc n) (suc t) = nobody_named n t
