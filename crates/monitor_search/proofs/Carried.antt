-- Closed sets of two states whose lists differ only in who has one number.
use Rattle.std.proofs.Common.{◌≡◌, ℕ, Bool, true, false, ◌&&◌, not, ◌==◌, List, [], refl, sym, ◌∙◌, ap, subst, ◌⊎◌, inl, inr}
use Rattle.std.specs.Prelude.{Contains, bytes_eq}
use Rattle.std.specs.Map.{lookup}
use Rattle.std.proofs.lemmas.Bool.{and_from, and_parts, cases_Bool, eq-eqb, eqb-true, not_from_false}
use Rattle.monitor_laws.specs.States.{Condition, Running, Waiting, Ended, AnyTask, OneOf, Participant, TraceState, is_live_task}
use Rattle.monitor_laws.specs.Stuck.{IsClosedSet, IsKeptIn, IsStuck, has_phase_below, is_phase_below}

-- a set without one number
abbrev pub without_number : (ℕ → Bool) → ℕ → ℕ → Bool
without_number set k x = set x && not (x == k)

in_without : (set : ℕ → Bool) (k x : ℕ) → set x ≡ true → (x ≡ k → ⊥) → without_number set k x ≡ true
in_without set k x inside other =
    and_from (set x) (not (x == k)) inside (not_from_false (x == k) (elim (cases_Bool (x == k)) [ inl same ↦ absurd (other (eqb-true x k same)) | inr apart ↦ apart ]))

from_without : (set : ℕ → Bool) (k x : ℕ) → without_number set k x ≡ true → (set x ≡ true) × (x ≡ k → ⊥)
from_without set k x inside =
    let parts = and_parts (set x) (not (x == k)) inside in
    (parts.0, λ same. let e = ap not (eq-eqb x k same) in let o = parts.1 in absurd (cc))

out_of_without : (set : ℕ → Bool) (k : ℕ) → without_number set k k ≡ true → ⊥
out_of_without set k inside = (from_without set k k inside).1 refl

-- closed sets stay closed without this number
abbrev pub IsApart : TraceState → ℕ → Type 0
IsApart s k = (set : ℕ → Bool) → IsClosedSet s set → IsClosedSet s (without_number set k)

module _ (s : TraceState) (k : ℕ) where
  -- since nobody who has it stands in a closed set
  pub apart_outside : ((set : ℕ → Bool) → IsClosedSet s set → (x : Participant) → Contains s.list x → x.number ≡ k → set x.number ≡ true → ⊥) → IsApart s k
  apart_outside out set closed t within inside =
      let was = from_without set k t.number inside in
      kept t.condition (closed t within was.0)
    where
      stays : (u : Participant) → Contains s.list u → set u.number ≡ true → without_number set k u.number ≡ true
      stays u listed on = in_without set k u.number on (λ same. out set closed u listed same on)

      kept : (c : Condition) → IsKeptIn s set c → IsKeptIn s (without_number set k) c
      kept Running is = is
      kept (Waiting p n) (u, listed, below, on) = (u, listed, below, stays u listed on)
      kept Ended is = tt
      kept AnyTask all = λ u listed live. stays u listed (all u listed live)
      kept (OneOf names tasks) all = λ u listed live has. stays u listed (all u listed live has)

  -- or since who has it is no task that has not ended, and a member of nothing
  pub apart_idle : ((x : Participant) → Contains s.list x → x.number ≡ k → (is_live_task x.condition ≡ false) × (x.phases ≡ [])) → IsApart s k
  apart_idle idle set closed t within inside =
      let was = from_without set k t.number inside in
      kept t.condition (closed t within was.0)
    where
      no_member : (u : Participant) (p : List ℕ) (n : ℕ) → u.phases ≡ [] → has_phase_below u p n ≡ true → ⊥
      no_member u p n none below = absurd (let e = ap (λ l. is_phase_below (lookup (bytes_eq p) l) n) none in cc)

      kept : (c : Condition) → IsKeptIn s set c → IsKeptIn s (without_number set k) c
      kept Running is = is
      kept (Waiting p n) (u, listed, below, on) = (u, listed, below, in_without set k u.number on (λ same. no_member u p n (idle u listed same).1 below))
      kept Ended is = tt
      kept AnyTask all = λ u listed live. in_without set k u.number (all u listed live) (λ same. let e = (idle u listed same).0 in absurd (cc))
      kept (OneOf names tasks) all = λ u listed live has. in_without set k u.number (all u listed live has) (λ same. let e = (idle u listed same).0 in absurd (cc))

-- a task with this number is in the list and has not ended
abbrev pub LivesIn : TraceState → ℕ → Type 0
LivesIn s k = (x : Participant) × Contains s.list x × (x.number ≡ k) × (is_live_task x.condition ≡ true)

-- a wildcard in this condition asks for the task with this number
abbrev pub AsksFor : Condition → ℕ → Type 0
AsksFor Running k = ⊥
AsksFor (Waiting p n) k = ⊥
AsksFor Ended k = ⊥
AsksFor AnyTask k = Unit {0}
AsksFor (OneOf names tasks) k = Contains tasks k

-- of no closed set a wildcard asks for him
abbrev pub NoneAsks : TraceState → ℕ → Type 0
NoneAsks s k = (set : ℕ → Bool) → IsClosedSet s set → (w : Participant) → Contains s.list w → set w.number ≡ true → AsksFor w.condition k → ⊥

-- both lists have the same apart from who has this number; who has it in the second as a task that has not ended lives in the first, or no wildcard asks for him
pub record IsCarried (s after : TraceState) (k : ℕ) : Type 0 where
  pub back : (v : Participant) → Contains after.list v → (v.number ≡ k → ⊥) → Contains s.list v
  pub onward : (u : Participant) → Contains s.list u → (u.number ≡ k → ⊥) → Contains after.list u
  pub lives : LivesIn after k → LivesIn s k ⊎ NoneAsks s k

module _ (s after : TraceState) (k : ℕ) (carried : IsCarried s after k) where
  -- a closed set without the number is closed in the other state
  closed_carried : (set : ℕ → Bool) → (set k ≡ true → ⊥) → IsClosedSet s set → IsClosedSet after set
  closed_carried set out closed v within inside =
      let old = carried.back v within (apart v inside) in
      kept v old inside v.condition refl (closed v old inside)
    where
      apart : (u : Participant) → set u.number ≡ true → u.number ≡ k → ⊥
      apart u inside same = out (ap set (sym same) ∙ inside)

      -- who lives in the second list is in the set
      by_number : (u : Participant) → Contains after.list u → is_live_task u.condition ≡ true →
          ((u.number ≡ k → ⊥) → set u.number ≡ true) → (LivesIn s k → u.number ≡ k → set k ≡ true) → (NoneAsks s k → u.number ≡ k → ⊥) →
          set u.number ≡ true
      by_number u listed live other own none = elim (cases_Bool (u.number == k)) [
        | inr different ↦ other (λ same. let e = eq-eqb u.number k same in absurd (cc))
        | inl equal ↦
            (let same = eqb-true u.number k equal in
            elim (carried.lives (u, listed, same, live)) [
              | inl lived ↦ absurd (out (own lived same))
              | inr asks ↦ absurd (none asks same)
            ])
      ]

      asked : (w : Participant) → Contains s.list w → set w.number ≡ true → (c : Condition) → w.condition ≡ c → AsksFor c k → NoneAsks s k → ⊥
      asked w old inside c is asks none = none set closed w old inside (subst (λ x. AsksFor x k) (sym is) asks)

      kept : (w : Participant) → Contains s.list w → set w.number ≡ true → (c : Condition) → w.condition ≡ c → IsKeptIn s set c → IsKeptIn after set c
      kept w old in_w Running is on = on
      kept w old in_w (Waiting p n) is (u, listed, below, on) = (u, carried.onward u listed (apart u on), below, on)
      kept w old in_w Ended is on = tt
      kept w old in_w AnyTask is all = λ u listed live.
          by_number u listed live
          (λ different. all u (carried.back u listed different) live)
          (λ lived same. ap set (sym lived.2) ∙ all lived.0 lived.1 lived.3)
          (λ none same. asked w old in_w AnyTask is tt none)
      kept w old in_w (OneOf names tasks) is all = λ u listed live has.
          by_number u listed live
          (λ different. all u (carried.back u listed different) live has)
          (λ lived same. ap set (sym lived.2) ∙ all lived.0 lived.1 lived.3 (subst (Contains tasks) (same ∙ sym lived.2) has))
          (λ none same. asked w old in_w (OneOf names tasks) is (subst (Contains tasks) same has) none)

  pub still_stuck : IsApart s k → (u : Participant) → IsStuck s u → (u.number ≡ k → ⊥) → IsStuck after u
  still_stuck apart u stuck different =
      record {
        listed = carried.onward u stuck.listed different;
        waits = stuck.waits;
        set = without_number stuck.set k;
        closed = closed_carried (without_number stuck.set k) (out_of_without stuck.set k) (apart stuck.set stuck.closed);
        inside = in_without stuck.set k u.number stuck.inside different;
      }
