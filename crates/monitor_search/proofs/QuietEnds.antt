-- A line by which who is there with a name is taken out of the list.
use Rattle.std.proofs.Common.{◌≡◌, ◌==◌, ℕ, Bool, true, false, ◌&&◌, ◌||◌, not, List, [], ◌∷◌, map, refl, sym, ◌∙◌, ap, subst, ◌⊎◌, inl, inr, arith}
use Rattle.std.specs.Prelude.{Contains, bytes_eq}
use Rattle.std.specs.List.{list_any}
use Rattle.std.proofs.lemmas.Bool.{and_parts, cases_Bool, eqb-true, or_cases}
use Rattle.std.proofs.lemmas.Slice.Eq.{bytes_eq-Decides}
use Rattle.monitor_laws.specs.States.{Condition, Running, Waiting, Ended, AnyTask, OneOf, Participant, TraceState, changed_at, is_live_task, is_live_wildcard, is_there_as, new_participant, stays_listed, with_named}
use Rattle.monitor_laws.specs.Stuck.{IsKeptIn}
use Rattle.monitor_laws.proofs.Changes.{changed_there, from_change, from_named, in_change, in_named, other_is, there_is}
use Rattle.monitor_laws.proofs.Filters.{any_from, any_is, none_passes}
use Rattle.monitor_laws.proofs.Lawful.{IsLawfulState}
use Rattle.monitor_words.specs.Reasons.{has_ended}
use Rattle.monitor_search.specs.Known.{AreStuckTasks, known_task}
use Rattle.monitor_search.specs.inside.Leaving.{ends_quietly, asks_for_ended, has_ended_as, is_for_any, is_nobody, lives_with_number, runs_now}
use Rattle.monitor_search.proofs.Carried.{AsksFor, IsApart, IsCarried, NoneAsks, apart_outside, still_stuck}
use Rattle.monitor_search.proofs.Parted.{none_known}
use Rattle.monitor_search.proofs.SurelyOut.{runs_is}
use Rattle.monitor_search.proofs.Unneeded.{from_not_not}

-- who has the name is there with it or has ended with it
named_is_told : (c : Condition) (named : Bool) → named ≡ true → ((is_live_task c || is_live_wildcard c) && named) ≡ false → (has_ended c && named) ≡ false → ⊥
named_is_told Running named on there ended = absurd (cc)
named_is_told (Waiting p n) named on there ended = absurd (cc)
named_is_told Ended named on there ended = absurd (cc)
named_is_told AnyTask named on there ended = absurd (cc)
named_is_told (OneOf names tasks) named on there ended = absurd (cc)

-- the number of who was there with a name, or would have come
record TakenOut (s : TraceState) (t : List ℕ) : Type 0 where
  k : ℕ
  has : (u : Participant) → Contains s.list u → u.number ≡ k → is_there_as t u ≡ true
  one : (u : Participant) → Contains s.list u → is_there_as t u ≡ true → u.number ≡ k

taken_out : (s : TraceState) → IsLawfulState s → (t : List ℕ) → TakenOut s t
taken_out s lawful t = elim (cases_Bool (list_any (is_there_as t) s.list)) [
  | inl some ↦
      (let x = any_is (is_there_as t) s.list some in
      record {
        k = x.0.number;
        has = λ u within same. ap (is_there_as t) (lawful.one_number u x.0 within x.1 same) ∙ x.2;
        one = λ u within there. ap (λ (y : Participant). y.number) (lawful.one_name t u x.0 within x.1 there x.2);
      })
  | inr none ↦ record {
    k = s.named;
    has = λ u within same. let n = lawful.numbers u within in absurd (omega arith);
    one = λ u within there. let off = none_passes (is_there_as t) s.list u within none in absurd (cc);
  }
]

module _ (s : TraceState) (lawful : IsLawfulState s) (t : List ℕ) (change : Participant → Participant) (name : (u : Participant) → (change u).name ≡ u.name)
    (nobody : list_any (is_there_as t) (changed_at t change s).list ≡ false) (none_ended : list_any (has_ended_as t) (changed_at t change s).list ≡ false) where
  abbrev after : TraceState
  after = changed_at t change s

  out : TakenOut s t
  out = taken_out s lawful t

  new_is_there : is_there_as t (new_participant s.named t) ≡ true
  new_is_there = (bytes_eq-Decides t t).1 refl

  -- whoever is listed after it was so before
  not_changed : (v : Participant) → Contains after.list v → Contains s.list v × (is_there_as t v ≡ false)
  not_changed v within =
      let m = from_change (changed_there t change) (with_named s t) v within in
      elim (cases_Bool (is_there_as t m.0)) [
        | inl on ↦
            absurd (let is : v ≡ change m.0 = sym m.2 ∙ there_is t change m.0 on in
            let named : bytes_eq t v.name ≡ true =
            ap (λ (x : Participant). bytes_eq t x.name) is ∙ ap (bytes_eq t) (name m.0) ∙ (and_parts (is_live_task m.0.condition || is_live_wildcard m.0.condition) (bytes_eq t m.0.name) on).1 in
            named_is_told v.condition (bytes_eq t v.name) named (none_passes (is_there_as t) after.list v within nobody) (none_passes (has_ended_as t) after.list v within none_ended))
        | inr off ↦ elim (from_named s t m.0 m.1) [
          | inl old ↦ (let is : m.0 ≡ v = sym (other_is t change m.0 off) ∙ m.2 in (subst (Contains s.list) is old, ap (is_there_as t) (sym is) ∙ off))
          | inr new ↦ absurd (let e = ap (is_there_as t) new.1 in let f = new_is_there in cc)
        ]
      ]

  still_listed : (u : Participant) → Contains s.list u → is_there_as t u ≡ false → Contains after.list u
  still_listed u within off =
      let same = other_is t change u off in
      subst (Contains after.list) same
      (in_change (changed_there t change) (with_named s t) u (in_named s t u within) (subst (λ x. stays_listed x ≡ true) (sym same) (lawful.stays u within)))

  differs : (x : Participant) → Contains after.list x → x.number ≡ out.k → ⊥
  differs x within same = let was = not_changed x within in let there = out.has x was.0 same in let off = was.1 in absurd (cc)

  apart : IsApart after out.k
  apart = apart_outside after out.k (λ set closed x within same inside. differs x within same)

  module _ (none_some : list_any (λ v. asks_for_ended after.list v.condition) after.list ≡ false)
      (freed : (list_any (λ u. runs_now u.condition) after.list ≡ true) ⊎ (list_any (λ v. is_for_any v.condition) after.list ≡ false)) where
    none_asks : NoneAsks after out.k
    none_asks set closed w listed inside asks = by_condition w.condition refl asks freed
      where
        by_condition : (c : Condition) → w.condition ≡ c → AsksFor c out.k →
            ((list_any (λ u. runs_now u.condition) after.list ≡ true) ⊎ (list_any (λ v. is_for_any v.condition) after.list ≡ false)) → ⊥
        by_condition Running same asked by = asked
        by_condition (Waiting p n) same asked by = asked
        by_condition Ended same asked by = asked
        by_condition AnyTask same asked (inl some) =
            let v = any_is (λ u. runs_now u.condition) after.list some in
            let runs = runs_is v.0.condition v.2 in
            let all : IsKeptIn after set AnyTask = subst (IsKeptIn after set) same (closed w listed inside) in
            subst (IsKeptIn after set) runs (closed v.0 v.1 (all v.0 v.1 (ap is_live_task runs)))
        by_condition AnyTask same asked (inr none) = let some = any_from (λ v. is_for_any v.condition) after.list w listed (ap is_for_any same) in absurd (cc)
        by_condition (OneOf names tasks) same asked by =
            let all_live : list_any (λ k. not (lives_with_number after.list k)) tasks ≡ false =
            sym (ap (asks_for_ended after.list) same) ∙ none_passes (λ v. asks_for_ended after.list v.condition) after.list w listed none_some in
            let lives : lives_with_number after.list out.k ≡ true = from_not_not (lives_with_number after.list out.k) (none_passes (λ k. not (lives_with_number after.list k)) tasks out.k asked all_live) in
            let u = any_is (λ u. is_live_task u.condition && u.number == out.k) after.list lives in
            differs u.0 u.1 (eqb-true u.0.number out.k (and_parts (is_live_task u.0.condition) (u.0.number == out.k) u.2).1)

    carried : IsCarried after s out.k
    carried =
        record {
          back = λ v within different. still_listed v within (elim (cases_Bool (is_there_as t v)) [ inl on ↦ absurd (different (out.one v within on)) | inr off ↦ off ]);
          onward = λ u within different. (not_changed u within).0;
          lives = λ lived. inr none_asks;
        }

    nobody_stuck : AreStuckTasks s [] → AreStuckTasks after []
    nobody_stuck is =
        record {
          tells = λ k. (
            λ on. absurd (cc),
            λ (x, stuck, same).
                let was = still_stuck after s out.k carried apart x stuck (differs x stuck.listed) in
                let e = (is.tells x.number).1 (x, was, refl) in
                absurd (cc),
          );
          ordered = ap (map known_task) (sym (none_known after.list));
        }

from_not : (b : Bool) → not b ≡ true → b ≡ false
from_not true e = absurd (cc)
from_not false e = refl

pub quietly_ended :
    (s : TraceState) → IsLawfulState s → (t : List ℕ) (change : Participant → Participant) → ((u : Participant) → (change u).name ≡ u.name) → (known : List (ℕ × List ℕ)) →
    list_any (is_there_as t) (changed_at t change s).list ≡ false → ends_quietly (changed_at t change s).list known t ≡ true → AreStuckTasks s known →
    AreStuckTasks (changed_at t change s) known
quietly_ended s lawful t change name [] nobody quiet is =
    nobody_stuck s lawful t change name nobody (from_not (list_any (has_ended_as t) list) two.1) (from_not (list_any (λ v. asks_for_ended list v.condition) list) first.1)
    (elim (or_cases (list_any (λ u. runs_now u.condition) list) (not (list_any (λ v. is_for_any v.condition) list)) parts.1) [
      | inl runs ↦ inl runs
      | inr none ↦ inr (from_not (list_any (λ v. is_for_any v.condition) list) none)
    ])
    is
  where
    list : List Participant
    list = (changed_at t change s).list

    parts :
        (((is_nobody [] && not (list_any (has_ended_as t) list)) && not (list_any (λ v. asks_for_ended list v.condition) list)) ≡ true)
        × ((list_any (λ u. runs_now u.condition) list || not (list_any (λ v. is_for_any v.condition) list)) ≡ true)
    parts =
        and_parts ((is_nobody [] && not (list_any (has_ended_as t) list)) && not (list_any (λ v. asks_for_ended list v.condition) list))
        (list_any (λ u. runs_now u.condition) list || not (list_any (λ v. is_for_any v.condition) list)) quiet

    first : ((is_nobody [] && not (list_any (has_ended_as t) list)) ≡ true) × (not (list_any (λ v. asks_for_ended list v.condition) list) ≡ true)
    first = and_parts (is_nobody [] && not (list_any (has_ended_as t) list)) (not (list_any (λ v. asks_for_ended list v.condition) list)) parts.0

    two : (is_nobody [] ≡ true) × (not (list_any (has_ended_as t) list) ≡ true)
    two = and_parts (is_nobody []) (not (list_any (has_ended_as t) list)) first.0
quietly_ended s lawful t change name (one ∷ known) nobody quiet is = absurd (cc)
