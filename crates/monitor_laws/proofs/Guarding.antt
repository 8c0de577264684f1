-- With the guard no wait makes anybody stuck.
use Rattle.std.proofs.Common.{◌≡◌, ℕ, Bool, true, ◌||◌, not, Option, List, [], ◌∷◌, refl, sym, ◌∙◌, ap, subst, inl, inr}
use Rattle.std.specs.Prelude.{Contains, length, ◌==◌}
use Rattle.std.proofs.lemmas.Bool.{cases_Bool}
use Rattle.std.proofs.lemmas.Slice.Eq.{bytes_eq-Decides}
use Rattle.monitor_laws.specs.Lines.{Waits, Stands, TraceLine, Announces}
use Rattle.monitor_laws.specs.States.{Condition, Running, Waiting, Ended, AnyTask, OneOf, Participant, TraceState, after_line, after_lines, announced_by, is_live_task, is_live_wildcard, is_there_as, placed_at, stays_listed, with_named}
use Rattle.monitor_laws.specs.Faults.{faults_of}
use Rattle.monitor_laws.specs.Stuck.{IsClosedSet, IsKeptIn, IsStuck}
use Rattle.monitor_laws.specs.Guards.{IsRefusedWait, IsTakenAs}
use Rattle.monitor_laws.specs.Laws.{GuardedIsLegal, NoWaitMakesStuck}
use Rattle.monitor_laws.proofs.Changes.{changed_there, from_change, from_named, in_change, in_named, other_is, there_is}
use Rattle.monitor_laws.specs.Lawful.{IsLawfulState}
use Rattle.monitor_laws.proofs.Lawful.{lawful_lines, placed_condition, placed_name, placed_number}
use Rattle.monitor_laws.proofs.Rows.{name_is}

-- what stands of a legal line is legal
taken_is_legal : (s : TraceState) (l d : TraceLine) → faults_of s l ≡ [] → IsTakenAs s l d → faults_of s d ≡ []
taken_is_legal s l d legal (inl (refused, is)) =
    subst (λ x. faults_of s x ≡ []) (sym is) (same refused.task.name refused.p refused.n refused.place (subst (λ x. faults_of s x ≡ []) refused.is legal))
  where
    same : (t p : List ℕ) (n : ℕ) (place : Option (List ℕ)) → faults_of s (Announces t (Waits p n) place) ≡ [] → faults_of s (Announces t Stands place) ≡ []
    same t p n place e = e
taken_is_legal s l d legal (inr (passes, is)) = subst (λ x. faults_of s x ≡ []) (sym is) legal

pub guarded_is_legal : GuardedIsLegal
guarded_is_legal [] [] guarded = tt
guarded_is_legal [] (d ∷ h) guarded = absurd guarded
guarded_is_legal (l ∷ all) [] guarded = absurd guarded
guarded_is_legal (l ∷ all) (d ∷ h) guarded = (guarded_is_legal all h guarded.0, taken_is_legal (after_lines h) l d guarded.1 guarded.2)

module _ (s : TraceState) (lawful : IsLawfulState s) (t p : List ℕ) (n : ℕ) (place : Option (List ℕ)) (passes : IsRefusedWait s (Announces t (Waits p n) place) → ⊥) where
  abbrev change : Participant → Participant
  change u = placed_at place (announced_by (Waits p n) u)

  abbrev after : TraceState
  after = after_line s (Announces t (Waits p n) place)

  condition_is : (u : Participant) → (change u).condition ≡ Waiting p n
  condition_is u = placed_condition place (announced_by (Waits p n) u)

  number_is : (u : Participant) → (changed_there t change u).number ≡ u.number
  number_is u = elim (cases_Bool (is_there_as t u)) [
    | inl there ↦ ap (λ (x : Participant). x.number) (there_is t change u there) ∙ placed_number place (announced_by (Waits p n) u)
    | inr other ↦ ap (λ (x : Participant). x.number) (other_is t change u other)
  ]

  -- whose wait it is stands in no closed set
  own_is_out : (set : ℕ → Bool) → IsClosedSet after set → (u : Participant) → is_there_as t u ≡ true → Contains after.list (change u) → set (change u).number ≡ true → ⊥
  own_is_out set closed u there within inside =
      passes (record {
        task = change u;
        p = p;
        n = n;
        place = place;
        is = ap (λ x. Announces x (Waits p n) place) (name_is t u there ∙ sym (placed_name place (announced_by (Waits p n) u)));
        stuck = record { listed = within; waits = (p, n, condition_is u); set = set; closed = closed; inside = inside };
      })

  -- who is in a closed set after the wait was there before
  was_there : (set : ℕ → Bool) → IsClosedSet after set → (v : Participant) → Contains after.list v → set v.number ≡ true → Contains s.list v
  was_there set closed v within inside =
      let m = from_change (changed_there t change) (with_named s t) v within in
      elim (cases_Bool (is_there_as t m.0)) [
        | inl there ↦
            absurd (let e = sym (there_is t change m.0 there) ∙ m.2 in
            own_is_out set closed m.0 there (subst (λ x. Contains after.list x) (sym e) within) (subst (λ (x : Participant). set x.number ≡ true) (sym e) inside))
        | inr other ↦
            elim (from_named s t m.0 m.1) [
              | inl old ↦ subst (λ x. Contains s.list x) (sym (other_is t change m.0 other) ∙ m.2) old
              | inr new ↦ absurd (let e = ap (λ x. is_there_as t x) new.1 in let d = (bytes_eq-Decides t t).1 refl in cc)
            ]
      ]

  -- who was there is there after it
  is_after : (u : Participant) → Contains s.list u → Contains after.list (changed_there t change u)
  is_after u within = in_change (changed_there t change) (with_named s t) u (in_named s t u within) (elim (cases_Bool (is_there_as t u)) [
    | inl there ↦ subst (λ x. stays_listed x ≡ true) (sym (there_is t change u there)) (stays_waiting (change u) (condition_is u))
    | inr other ↦ subst (λ x. stays_listed x ≡ true) (sym (other_is t change u other)) (lawful.stays u within)
  ])
    where
      stays_waiting : (v : Participant) → v.condition ≡ Waiting p n → stays_listed v ≡ true
      stays_waiting v is = subst (λ c. (is_live_task c || is_live_wildcard c || not (length v.phases == 0)) ≡ true) (sym is) refl

  lives_after : (u : Participant) → is_live_task u.condition ≡ true → is_live_task (changed_there t change u).condition ≡ true
  lives_after u live = elim (cases_Bool (is_there_as t u)) [
    | inl there ↦ ap (λ (x : Participant). is_live_task x.condition) (there_is t change u there) ∙ ap is_live_task (condition_is u)
    | inr other ↦ ap (λ (x : Participant). is_live_task x.condition) (other_is t change u other) ∙ live
  ]

  kept_before : (set : ℕ → Bool) → IsClosedSet after set → (c : Condition) → IsKeptIn after set c → IsKeptIn s set c
  kept_before set closed Running kept = kept
  kept_before set closed (Waiting q m) (v, within, below, inside) = (v, was_there set closed v within inside, below, inside)
  kept_before set closed Ended kept = tt
  kept_before set closed AnyTask all = λ u within live.
      ap set (sym (number_is u)) ∙ all (changed_there t change u) (is_after u within) (lives_after u live)
  kept_before set closed (OneOf names tasks) all = λ u within live has.
      ap set (sym (number_is u)) ∙ all (changed_there t change u) (is_after u within) (lives_after u live) (subst (λ k. Contains tasks k) (sym (number_is u)) has)

  closed_before : (set : ℕ → Bool) → IsClosedSet after set → IsClosedSet s set
  closed_before set closed u within inside =
      elim (cases_Bool (is_there_as t u)) [
        | inl there ↦
            absurd (let e = there_is t change u there in
            own_is_out set closed u there (subst (λ x. Contains after.list x) e (is_after u within))
            (ap set (placed_number place (announced_by (Waits p n) u)) ∙ inside))
        | inr other ↦
            kept_before set closed u.condition (closed u (subst (λ x. Contains after.list x) (other_is t change u other) (is_after u within)) inside)
      ]

  pub stuck_before : (u : Participant) → IsStuck after u → IsStuck s u
  stuck_before u stuck =
      record {
        listed = was_there stuck.set stuck.closed u stuck.listed stuck.inside;
        waits = stuck.waits;
        set = stuck.set;
        closed = closed_before stuck.set stuck.closed;
        inside = stuck.inside;
      }

pub no_wait_makes_stuck : NoWaitMakesStuck
no_wait_makes_stuck [] h t p n place u guarded stuck = absurd guarded
no_wait_makes_stuck (l ∷ all) h t p n place u guarded stuck =
    elim guarded.2 [
      | inl refused ↦ absurd (let e = refused.1 in cc)
      | inr passed ↦ stuck_before (after_lines h) (lawful_lines h) t p n place (subst (λ x. IsRefusedWait (after_lines h) x → ⊥) (sym passed.1) passed.0) u stuck
    ]
