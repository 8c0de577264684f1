-- What a line of one name makes of the list: one is changed in its place or taken out, or a new one stands behind all others.
use Rattle.std.proofs.Common.{◌≡◌, ℕ, zero, suc, ◌<◌, ◌+◌, Bool, true, false, List, [], ◌∷◌, ◌++◌, length, get_or, drop, set, map, refl, sym, ◌∙◌, ap, inl, inr, arith}
use Rattle.std.specs.Prelude.{Contains, filter, if◌then◌else◌}
use Rattle.std.specs.List.{list_any, remove}
use Rattle.std.proofs.lemmas.Bool.{cases_Bool, cond-true, cond-false}
use Rattle.std.proofs.lemmas.Slice.Eq.{bytes_eq-Decides}
use Rattle.std.proofs.lemmas.List.{map-append}
use Rattle.std.proofs.lemmas.List.Folds.{list_any_at}
use Rattle.std.proofs.lemmas.List.Elements.{filter-append}
use Rattle.armus_base.proofs.Elements.{Contains-head, Contains-tail}
use Rattle.monitor_laws.specs.States.{Participant, TraceState, changed_at, changed_by, is_there_as, new_participant, stays_listed}
use Rattle.monitor_laws.proofs.Filters.{any_is}
use Rattle.monitor_laws.proofs.Changes.{changed_there, there_is}
use Rattle.monitor_laws.specs.Lawful.{AreAscending, IsLawfulState}
use Rattle.monitor_state.specs.inside.FirstPlaces.{IsFirstAt}
use Rattle.monitor_state.specs.inside.Changes.{put_at, put_behind}
use Rattle.monitor_state.proofs.OnePassing.{first_tail, none_mapped, one_mapped}

-- nobody else of the name stands behind
pub none_behind :
    (t : List ℕ) (us : List Participant) (i : ℕ) → AreAscending us →
    ((u v : Participant) → Contains us u → Contains us v → is_there_as t u ≡ true → is_there_as t v ≡ true → u ≡ v) →
    IsFirstAt (is_there_as t) us i → list_any (is_there_as t) (drop (suc i) us) ≡ false
none_behind t [] i up one first = let w = first.within in absurd (omega arith)
none_behind t (u ∷ us) zero up one first = elim (cases_Bool (list_any (is_there_as t) us)) [
  | inr none ↦ none
  | inl some ↦ absurd (
      let v = any_is (is_there_as t) us some in
      let same = one u v.0 (Contains-head u us) (Contains-tail u us v.0 v.1) (first.here u) v.2 in
      let less = up.0 v.0 v.1 in
      let e = ap (λ (x : Participant). x.number) same in
      omega arith)
]
none_behind t (u ∷ us) (suc i) up one first =
    none_behind t us i up.1 (λ v w in_v in_w. one v w (Contains-tail u us v in_v) (Contains-tail u us w in_w)) (first_tail (is_there_as t) u us i first)

module _ {A : Type 0} (p : A → Bool) where
  all_pass : (xs : List A) → ((x : A) → Contains xs x → p x ≡ true) → filter p xs ≡ xs
  all_pass [] pass = refl
  all_pass (x ∷ xs) pass =
      cond-true (p x) (x ∷ filter p xs) (filter p xs) (pass x (Contains-head x xs))
      ∙ ap (λ (l : List A). x ∷ l) (all_pass xs (λ y within. pass y (Contains-tail x xs y within)))

  behind_all : (x : A) (b : Bool) (xs ys : List A) → x ∷ (if b then xs else ys) ≡ (if b then x ∷ xs else x ∷ ys)
  behind_all x true xs ys = refl
  behind_all x false xs ys = refl

  -- where all pass, one is set or taken out
  one_set : (xs : List A) (i : ℕ) (y : A) → ((x : A) → Contains xs x → p x ≡ true) → i < length xs → filter p (set xs i y) ≡ (if p y then set xs i y else remove xs i)
  one_set [] i y pass within = absurd (omega arith)
  one_set (x ∷ xs) zero y pass within = ap (λ (l : List A). if p y then y ∷ l else l) (all_pass xs (λ z in_xs. pass z (Contains-tail x xs z in_xs)))
  one_set (x ∷ xs) (suc i) y pass within =
      cond-true (p x) (x ∷ filter p (set xs i y)) (filter p (set xs i y)) (pass x (Contains-head x xs))
      ∙ ap (λ (l : List A). x ∷ l) (one_set xs i y (λ z in_xs. pass z (Contains-tail x xs z in_xs)) (omega arith))
      ∙ behind_all x (p y) (set xs i y) (remove xs i)

  pushed_if : (xs : List A) (y : A) (b : Bool) → xs ++ (if b then y ∷ [] else []) ≡ (if b then xs ++ y ∷ [] else xs)
  pushed_if xs y true = refl
  pushed_if [] y false = refl
  pushed_if (x ∷ xs) y false = ap (λ (l : List A). x ∷ l) (pushed_if xs y false)

-- who is there with the name is changed in its place, or taken out
pub changed_in_place :
    (t : List ℕ) (change : Participant → Participant) (s : TraceState) (i : ℕ) (u : Participant) → IsLawfulState s → AreAscending s.list →
    IsFirstAt (is_there_as t) s.list i → u ≡ get_or s.list i u → changed_at t change s ≡ record { list = put_at s.list i (change u); named = s.named }
changed_in_place t change s i u lawful up first read =
    ap (changed_by (changed_there t change)) (cond-true (list_any (is_there_as t) s.list) s more there)
    ∙ ap (λ (l : List Participant). record { list = filter stays_listed l; named = s.named })
    (one_mapped (is_there_as t) change s.list i u first (none_behind t s.list i up (lawful.one_name t) first) ∙ ap (λ (x : Participant). set s.list i (change x)) (sym read))
    ∙ ap (λ (l : List Participant). record { list = l; named = s.named }) (one_set stays_listed s.list i (change u) lawful.stays first.within)
  where
    more : TraceState
    more = record { list = s.list ++ new_participant s.named t ∷ []; named = s.named + 1 }

    there : list_any (is_there_as t) s.list ≡ true
    there = list_any_at (is_there_as t) s.list i u first.within (first.here u)

-- where nobody is there with the name, a new one is changed and stands behind all others
pub changed_behind :
    (t : List ℕ) (change : Participant → Participant) (s : TraceState) → IsLawfulState s → list_any (is_there_as t) s.list ≡ false →
    changed_at t change s ≡ record { list = put_behind s.list (change (new_participant s.named t)); named = s.named + 1 }
changed_behind t change s lawful none =
    ap (changed_by (changed_there t change)) (cond-false (list_any (is_there_as t) s.list) s (record { list = s.list ++ new ∷ []; named = s.named + 1 }) none)
    ∙ ap (λ (l : List Participant). record { list = filter stays_listed l; named = s.named + 1 })
    (map-append (changed_there t change) s.list (new ∷ [])
    ∙ ap (λ (l : List Participant). l ++ map (changed_there t change) (new ∷ [])) (none_mapped (is_there_as t) change s.list none)
    ∙ ap (λ (x : Participant). s.list ++ x ∷ []) (there_is t change new ((bytes_eq-Decides t t).1 refl)))
    ∙ ap (λ (l : List Participant). record { list = l; named = s.named + 1 })
    (filter-append stays_listed s.list (change new ∷ []) ∙ ap (λ (l : List Participant). l ++ filter stays_listed (change new ∷ [])) (all_pass stays_listed s.list lawful.stays)
    ∙ pushed_if stays_listed s.list (change new) (stays_listed (change new)))
  where
    new : Participant
    new = new_participant s.named t
