-- What holds of a state that is kept holds after a line of one name.
use Rattle.std.proofs.Common.{◌≡◌, ℕ, ◌<◌, ◌≤◌, ◌+◌, ◌-◌, ◌&&◌, not, false, None, Some, Option, List, [], length, get_or, refl, sym, ◌∙◌, ap, subst, inl, inr, ◌⊎◌, true, arith}
use Rattle.std.specs.Prelude.{IfNone, IfSome, nat_le, unwrap_or}
use Rattle.std.specs.List.{list_any}
use Rattle.std.proofs.lemmas.Bool.{cases_Bool, leb-false}
use Rattle.std.proofs.lemmas.List.{get_or_default}
use Rattle.monitor_laws.specs.Lines.{PlaysOneOf}
use Rattle.monitor_laws.specs.States.{OneOf, Participant, TraceState, after_line, changed_at, is_there_as, new_participant, nobody_named, task_numbers}
use Rattle.monitor_laws.specs.Faults.{has_no_room, memberships_in, most_listed, most_memberships, participant_in}
use Rattle.monitor_laws.specs.Lawful.{AreAscending, IsLawfulState}
use Rattle.monitor_laws.proofs.Lawful.{lawful_after, lawful_lines}
use Rattle.monitor_state.specs.inside.FirstPlaces.{IsFirstAt}
use Rattle.monitor_state.specs.inside.Changes.{IsOfLine, memberships_had, put_at, put_behind}
use Rattle.monitor_state.specs.inside.Numbers.{HasEachNameOnce, IsPlaceOfName}
use Rattle.monitor_state.specs.inside.States.{IsMonitorState}
use Rattle.monitor_state.proofs.OnePassing.{first_place, found_first, found_none}
use Rattle.monitor_state.proofs.Ascending.{ascending_after}
use Rattle.monitor_state.proofs.ListChanges.{changed_behind, changed_in_place}
use Rattle.monitor_state.proofs.Counting.{counted_at, counted_behind, had_within, put_longer, put_shorter}

-- who is there stands at the first place
pub there_at : (s : TraceState) (t : List ℕ) (i : ℕ) (u : Participant) → IsFirstAt (is_there_as t) s.list i → u ≡ get_or s.list i u → participant_in s t ≡ u
there_at s t i u first read =
    ap (λ o. unwrap_or o (new_participant s.named t)) (found_first (is_there_as t) s.list i u first) ∙ sym read

pub nobody_there : (s : TraceState) (t : List ℕ) → list_any (is_there_as t) s.list ≡ false → participant_in s t ≡ new_participant s.named t
nobody_there s t none = ap (λ o. unwrap_or o (new_participant s.named t)) (found_none (is_there_as t) s.list none)

-- what a line makes of it is in order
lawful_of_line : (s x : TraceState) (m : ℕ) → IsMonitorState s m → IsOfLine s x → IsLawfulState x
lawful_of_line s x m kept line = subst IsLawfulState line.1 (lawful_after s line.0 kept.lawful)

ascending_of_line : (s x : TraceState) (m : ℕ) → IsMonitorState s m → IsOfLine s x → AreAscending x.list
ascending_of_line s x m kept line = subst (λ (y : TraceState). AreAscending y.list) line.1 (ascending_after s line.0 kept.lawful kept.ascending)

pub kept_at :
    (s : TraceState) (m : ℕ) (t : List ℕ) (change : Participant → Participant) (i : ℕ) (u : Participant) → IsMonitorState s m → IsOfLine s (changed_at t change s) →
    IsFirstAt (is_there_as t) s.list i → u ≡ get_or s.list i u → memberships_in s + memberships_had (change u) ≤ most_memberships + memberships_had u →
    IsMonitorState (record { list = put_at s.list i (change u); named = s.named }) (m - memberships_had u + memberships_had (change u))
kept_at s m t change i u kept line first read few =
    let is = changed_in_place t change s i u kept.lawful kept.ascending first read in
    let sum : memberships_in (record { list = put_at s.list i (change u); named = s.named }) + memberships_had u ≡ memberships_in s + memberships_had (change u) = counted_at s.list i u (change u) first.within read in
    let part : memberships_had u ≤ memberships_in s = had_within s.list i u first.within read in
    let count = kept.counted in
    record {
      lawful = subst IsLawfulState is (lawful_of_line s (changed_at t change s) m kept line);
      ascending = subst (λ (y : TraceState). AreAscending y.list) is (ascending_of_line s (changed_at t change s) m kept line);
      counted = omega arith;
      few = omega arith;
      short = let short = kept.short in let long = put_shorter s.list i (change u) first.within in omega arith;
    }

-- where nobody is there with a name for which there is room, the list is not full
not_full : (s : TraceState) (t : List ℕ) → list_any (is_there_as t) s.list ≡ false → has_no_room s t ≡ false → length s.list < most_listed
not_full s t none space = leb-false most_listed (length s.list) (sym (ap (λ b. not b && nat_le most_listed (length s.list)) none) ∙ space)

pub kept_behind :
    (s : TraceState) (m : ℕ) (t : List ℕ) (change : Participant → Participant) → IsMonitorState s m → IsOfLine s (changed_at t change s) →
    list_any (is_there_as t) s.list ≡ false → has_no_room s t ≡ false → memberships_in s + memberships_had (change (new_participant s.named t)) ≤ most_memberships →
    IsMonitorState (record { list = put_behind s.list (change (new_participant s.named t)); named = s.named + 1 }) (m + memberships_had (change (new_participant s.named t)))
kept_behind s m t change kept line none space few =
    let is = changed_behind t change s kept.lawful none in
    let sum : memberships_in (record { list = put_behind s.list (change (new_participant s.named t)); named = s.named + 1 }) ≡ memberships_in s + memberships_had (change (new_participant s.named t)) = counted_behind s.list (change (new_participant s.named t)) in
    let count = kept.counted in
    record {
      lawful = subst IsLawfulState is (lawful_of_line s (changed_at t change s) m kept line);
      ascending = subst (λ (y : TraceState). AreAscending y.list) is (ascending_of_line s (changed_at t change s) m kept line);
      counted = omega arith;
      few = omega arith;
      short = let long = put_longer s.list (change (new_participant s.named t)) in let less = not_full s t none space in omega arith;
    }

-- a place in a state is one in its list
module _ (now : TraceState) (list : List Participant) (named : ℕ) (t : List ℕ) (o : Option ℕ) (is : record { list = list; named = named } ≡ now) (place : IsPlaceOfName now.list t o) where
  place_in : IsPlaceOfName list t o
  place_in = subst (λ (x : TraceState). IsPlaceOfName x.list t o) (sym is) place

  pub first_in : (i : ℕ) → o ≡ Some i → IsFirstAt (is_there_as t) list i
  first_in i here = subst (IsPlaceOfName list t) here place_in

  pub nobody_in : o ≡ None → list_any (is_there_as t) list ≡ false
  nobody_in none = subst (IsPlaceOfName list t) none place_in

pub place_within : (us : List Participant) (t : List ℕ) (o : Option ℕ) → IsPlaceOfName us t o → IfSome o (λ i. i < length us)
place_within us t None place = tt
place_within us t (Some i) place = place.within

pub first_at : (us : List Participant) (t : List ℕ) (o : Option ℕ) → IfSome o (IsFirstAt (is_there_as t) us) → IfNone o (list_any (is_there_as t) us ≡ false) → IsPlaceOfName us t o
first_at us t None at none = none
first_at us t (Some i) at none = at

-- what is kept is in order
pub in_order : (s : TraceState) (m : ℕ) → IsMonitorState s m → HasEachNameOnce s.list
in_order s m kept = record { ascending = kept.ascending; one_name = kept.lawful.one_name }

pub kept_new : IsMonitorState nobody_named 0
kept_new = record { lawful = lawful_lines []; ascending = tt; counted = refl; few = omega arith; short = omega arith }

-- the memberships stay few enough
abbrev pub HasRoom : TraceState → List ℕ → (Participant → Participant) → Type 0
HasRoom s t change = memberships_in s + memberships_had (change (participant_in s t)) ≤ most_memberships + memberships_had (participant_in s t)

pub room_there : (s : TraceState) (t : List ℕ) (change : Participant → Participant) (i : ℕ) (u : Participant) → IsFirstAt (is_there_as t) s.list i → u ≡ get_or s.list i u → HasRoom s t change → memberships_in s + memberships_had (change u) ≤ most_memberships + memberships_had u
room_there s t change i u first read room =
    subst (λ v. memberships_in s + memberships_had (change v) ≤ most_memberships + memberships_had v) (there_at s t i u first read) room

pub few_there : (s : TraceState) (t : List ℕ) (change : Participant → Participant) (i : ℕ) (u : Participant) → IsFirstAt (is_there_as t) s.list i → u ≡ get_or s.list i u → HasRoom s t change → memberships_had (change u) ≤ most_memberships
few_there s t change i u first read room =
    let all = room_there s t change i u first read room in
    let part : memberships_had u ≤ memberships_in s = had_within s.list i u first.within read in
    omega arith

pub room_new : (s : TraceState) (t : List ℕ) (change : Participant → Participant) → list_any (is_there_as t) s.list ≡ false → HasRoom s t change → memberships_in s + memberships_had (change (new_participant s.named t)) ≤ most_memberships
room_new s t change none room =
    let all : memberships_in s + memberships_had (change (new_participant s.named t)) ≤ most_memberships + memberships_had (new_participant s.named t) =
    subst (λ v. memberships_in s + memberships_had (change v) ≤ most_memberships + memberships_had v) (nobody_there s t none) room in
    omega arith

-- the state is kept in these parts, and a line changes whoever is there with the name
pub record IsStep (now : TraceState) (list : List Participant) (named m : ℕ) (t : List ℕ) (change : Participant → Participant) : Type 0 where
  pub is : record { list = list; named = named } ≡ now
  pub kept : IsMonitorState (record { list = list; named = named }) m
  pub line : IsOfLine now (changed_at t change now)
  pub room : HasRoom now t change
  pub space : has_no_room now t ≡ false

module _ (now : TraceState) (list : List Participant) (named m : ℕ) (t : List ℕ) (change : Participant → Participant) (step : IsStep now list named m t change) where
  room_in : HasRoom (record { list = list; named = named }) t change
  room_in = subst (λ (x : TraceState). HasRoom x t change) (sym step.is) step.room

  line_in : IsOfLine (record { list = list; named = named }) (changed_at t change (record { list = list; named = named }))
  line_in = subst (λ (x : TraceState). IsOfLine x (changed_at t change x)) (sym step.is) step.line

  space_in : has_no_room (record { list = list; named = named }) t ≡ false
  space_in = subst (λ (x : TraceState). has_no_room x t ≡ false) (sym step.is) step.space

  module _ (i : ℕ) (u : Participant) (first : IsFirstAt (is_there_as t) list i) (read : u ≡ get_or list i u) where
    pub holds_there : (P : Participant → Type 0) → P (participant_in now t) → P u
    holds_there P holds = subst P (ap (λ (x : TraceState). participant_in x t) (sym step.is) ∙ there_at (record { list = list; named = named }) t i u first read) holds

    pub had_before : memberships_had u ≤ m
    had_before =
        let part : memberships_had u ≤ memberships_in (record { list = list; named = named }) = had_within list i u first.within read in
        let counted = step.kept.counted in
        omega arith

    pub few_before : memberships_had u ≤ most_memberships
    few_before = let part = had_before in let few = step.kept.few in omega arith

    pub few_changed : memberships_had (change u) ≤ most_memberships
    few_changed = few_there (record { list = list; named = named }) t change i u first read room_in

    pub kept_changed : IsMonitorState (record { list = put_at list i (change u); named = named }) (m - memberships_had u + memberships_had (change u))
    kept_changed =
        kept_at (record { list = list; named = named }) m t change i u step.kept line_in first read
        (room_there (record { list = list; named = named }) t change i u first read room_in)

    pub changed_is : record { list = put_at list i (change u); named = named } ≡ changed_at t change now
    changed_is =
        sym (changed_in_place t change (record { list = list; named = named }) i u step.kept.lawful step.kept.ascending first read)
        ∙ ap (changed_at t change) step.is

  module _ (none : list_any (is_there_as t) list ≡ false) where
    pub holds_new : (P : Participant → Type 0) → P (participant_in now t) → P (new_participant named t)
    holds_new P holds = subst P (ap (λ (x : TraceState). participant_in x t) (sym step.is) ∙ nobody_there (record { list = list; named = named }) t none) holds

    pub all_new : memberships_in (record { list = list; named = named }) + memberships_had (change (new_participant named t)) ≤ most_memberships
    all_new = room_new (record { list = list; named = named }) t change none room_in

    pub few_new : memberships_had (change (new_participant named t)) ≤ most_memberships
    few_new = let all = all_new in omega arith

    pub kept_pushed : IsMonitorState (record { list = put_behind list (change (new_participant named t)); named = named + 1 }) (m + memberships_had (change (new_participant named t)))
    kept_pushed = kept_behind (record { list = list; named = named }) m t change step.kept line_in none space_in all_new

    pub pushed_is : record { list = put_behind list (change (new_participant named t)); named = named + 1 } ≡ changed_at t change now
    pushed_is =
        sym (changed_behind t change (record { list = list; named = named }) step.kept.lawful none) ∙ ap (changed_at t change) step.is

-- what is kept of a state holds of the state
pub short_kept : (now s : TraceState) (m : ℕ) → s ≡ now → IsMonitorState s m → length now.list ≤ most_listed
short_kept now s m is kept = subst (λ (x : TraceState). length x.list ≤ most_listed) is kept.short

pub few_kept : (now s : TraceState) (m : ℕ) → s ≡ now → IsMonitorState s m → memberships_in now ≤ most_memberships
few_kept now s m is kept =
    let few = kept.few in
    let counted = kept.counted in
    let all : memberships_in s ≤ most_memberships = omega arith in
    subst (λ (x : TraceState). memberships_in x ≤ most_memberships) is all

-- the memberships after a line of one name, against those before
pub changed_count :
    (s : TraceState) (w : List ℕ) (change : Participant → Participant) → IsLawfulState s → AreAscending s.list →
    memberships_in (changed_at w change s) + memberships_had (participant_in s w) ≡ memberships_in s + memberships_had (change (participant_in s w))
changed_count s w change lawful up = elim (cases_Bool (list_any (is_there_as w) s.list)) [
  | inl some ↦ (
      let place = first_place (is_there_as w) s.list some in
      let u = get_or s.list place.0 (new_participant s.named w) in
      let read : u ≡ get_or s.list place.0 u = get_or_default s.list place.0 (new_participant s.named w) u place.1.within in
      let is = ap memberships_in (changed_in_place w change s place.0 u lawful up place.1 read) in
      let sum : memberships_in (record { list = put_at s.list place.0 (change u); named = s.named }) + memberships_had u ≡ memberships_in s + memberships_had (change u) = counted_at s.list place.0 u (change u) place.1.within read in
      let same = there_at s w place.0 u place.1 read in
      subst (λ v. memberships_in (changed_at w change s) + memberships_had v ≡ memberships_in s + memberships_had (change v)) (sym same)
      (ap (λ n. n + memberships_had u) is ∙ sum))
  | inr none ↦ (
      let new = new_participant s.named w in
      let is = ap memberships_in (changed_behind w change s lawful none) in
      let sum : memberships_in (record { list = put_behind s.list (change new); named = s.named + 1 }) ≡ memberships_in s + memberships_had (change new) = counted_behind s.list (change new) in
      subst (λ v. memberships_in (changed_at w change s) + memberships_had v ≡ memberships_in s + memberships_had (change v)) (sym (nobody_there s w none))
      (omega arith))
]

pub room_after : (s : TraceState) (w : List ℕ) (change : Participant → Participant) → IsLawfulState s → AreAscending s.list → memberships_in (changed_at w change s) ≤ most_memberships → HasRoom s w change
room_after s w change lawful up few = let count = changed_count s w change lawful up in omega arith

-- the same, where it plays a part of so many tasks
module _ (now : TraceState) (list : List Participant) (named m : ℕ) (w : List ℕ) (names : List (List ℕ)) (count : ℕ) (is : record { list = list; named = named } ≡ now) (kept : IsMonitorState (record { list = list; named = named }) m) (long : count ≡ length (task_numbers now names)) where
  counted_now : m ≡ memberships_in now
  counted_now = kept.counted ∙ ap memberships_in is

  all_after : memberships_in (after_line now (PlaysOneOf w names)) + memberships_had (participant_in now w) ≡ m + (length (participant_in now w).phases + count)
  all_after =
      let lawful = subst IsLawfulState is kept.lawful in
      let up = subst (λ (x : TraceState). AreAscending x.list) is kept.ascending in
      let sum : memberships_in (after_line now (PlaysOneOf w names)) + memberships_had (participant_in now w) ≡ memberships_in now + (length (participant_in now w).phases + length (task_numbers now names)) =
      changed_count now w (λ u. record u { condition = OneOf names (task_numbers now names) }) lawful up in
      let counted = counted_now in
      omega arith

  -- who is there has some before
  pub after_there : (i : ℕ) (u : Participant) → IsFirstAt (is_there_as w) list i → u ≡ get_or list i u → memberships_in (after_line now (PlaysOneOf w names)) ≡ m - memberships_had u + length u.phases + count
  after_there i u first read =
      let same : participant_in now w ≡ u = ap (λ (x : TraceState). participant_in x w) (sym is) ∙ there_at (record { list = list; named = named }) w i u first read in
      let all : memberships_in (after_line now (PlaysOneOf w names)) + memberships_had u ≡ m + (length u.phases + count) =
      subst (λ v. memberships_in (after_line now (PlaysOneOf w names)) + memberships_had v ≡ m + (length v.phases + count)) same all_after in
      let part : memberships_had u ≤ memberships_in (record { list = list; named = named }) = had_within list i u first.within read in
      let counted = kept.counted in
      omega arith

  pub after_new : list_any (is_there_as w) list ≡ false → memberships_in (after_line now (PlaysOneOf w names)) ≡ m + count
  after_new none =
      let same : participant_in now w ≡ new_participant named w = ap (λ (x : TraceState). participant_in x w) (sym is) ∙ nobody_there (record { list = list; named = named }) w none in
      let all : memberships_in (after_line now (PlaysOneOf w names)) + memberships_had (new_participant named w) ≡ m + (length (new_participant named w).phases + count) =
      subst (λ v. memberships_in (after_line now (PlaysOneOf w names)) + memberships_had v ≡ m + (length v.phases + count)) same all_after in
      omega arith

  pub after_most : count ≤ memberships_in (after_line now (PlaysOneOf w names))
  after_most = by_test (cases_Bool (list_any (is_there_as w) list))
    where
      by_test : ((list_any (is_there_as w) list ≡ true) ⊎ (list_any (is_there_as w) list ≡ false)) → count ≤ memberships_in (after_line now (PlaysOneOf w names))
      by_test (inl some) =
          let place = first_place (is_there_as w) list some in
          let u = get_or list place.0 (new_participant named w) in
          let read : u ≡ get_or list place.0 u = get_or_default list place.0 (new_participant named w) u place.1.within in
          let e = after_there place.0 u place.1 read in
          omega arith
      by_test (inr none) = let e = after_new none in omega arith
