-- What makes a trace lasting.
use Rattle.std.proofs.Common.{◌≡◌, ℕ, ◌≤◌, true, false, Some, Option, List, [], ◌∷◌, refl, sym, ◌∙◌, ap, inl, inr, ◌⊎◌, arith}
use Rattle.std.specs.Prelude.{Contains, bytes_eq, eqb}
use Rattle.std.specs.List.{starts_with}
use Rattle.std.specs.Map.{lookup}
use Rattle.std.proofs.lemmas.Bool.{cases_Bool, cond-true, cond-false}
use Rattle.armus_base.proofs.Elements.{Contains-head, Contains-tail, nothing_in_nil}
use Rattle.monitor_laws.specs.Lines.{Announcement, Joins, Arrives, Leaves, Waits, Goes, Ends, Stands, TraceLine, SaysNothing, AsksReport, AsksList, AreGone, Announces, PlaysAny, PlaysOneOf}
use Rattle.monitor_laws.specs.States.{Waiting, Ended, AnyTask, OneOf, Participant, TraceState, after_line, after_lines, announced_by, changed_at, gone_by, is_live_wildcard, is_there_as, placed_at, with_named, task_numbers}
use Rattle.monitor_laws.specs.Faults.{phase_on}
use Rattle.monitor_laws.specs.Stuck.{has_phase_below}
use Rattle.monitor_laws.specs.Traces.{IsLasting, IsOfPhaser, JoinsAt, NobodyIsBelow, WasPassed}
use Rattle.monitor_laws.specs.Laws.{TrueAndOrderedLasts}
use Rattle.monitor_laws.proofs.Changes.{changed_there, from_change, from_named, other_is, there_is}
use Rattle.monitor_laws.proofs.Lawful.{placed_condition, placed_phases}
use Rattle.monitor_laws.proofs.Phases.{after_arrive, after_join, after_leave, below_is, not_below}

-- somebody had a phase of k at most
abbrev HadPhase : TraceState → List ℕ → ℕ → Type 0
HadPhase s p k = (u : Participant) × (m : ℕ) × Contains s.list u × (phase_on u p ≡ Some m) × (m ≤ k)

-- a phase after a change was there, the same or a lower one, or the line is a join with it
abbrev ComesFrom : TraceLine → Participant → Participant → Type 0
ComesFrom l u v = (p : List ℕ) (k : ℕ) → phase_on v p ≡ Some k → ((m : ℕ) × (phase_on u p ≡ Some m) × (m ≤ k)) ⊎ JoinsAt l p k

same_phases : (l : TraceLine) (u v : Participant) → v.phases ≡ u.phases → ComesFrom l u v
same_phases l u v same p k e = inl (k, ap (lookup (bytes_eq p)) (sym same) ∙ e, omega arith)

announced_comes : (t : List ℕ) (what : Announcement) (place : Option (List ℕ)) (u : Participant) → ComesFrom (Announces t what place) u (announced_by what u)
announced_comes t (Joins q n) place u p k e = elim (after_join u.phases p q k n e) [
  | inl old ↦ inl (k, old, omega arith)
  | inr new ↦ inr (t, place, ap (λ x. Announces t (Joins x n) place) (sym new.0) ∙ ap (λ x. Announces t (Joins p x) place) new.1)
]
announced_comes t (Arrives q) place u p k e = inl (after_arrive u.phases p q k e)
announced_comes t (Leaves q) place u p k e = inl (k, after_leave u.phases p q k e, omega arith)
announced_comes t (Waits q n) place u p k e = inl (k, e, omega arith)
announced_comes t Goes place u p k e = inl (k, e, omega arith)
announced_comes t Ends place u p k e = by_test (cases_Bool (is_live_wildcard u.condition))
  where
    by_test : ((is_live_wildcard u.condition ≡ true) ⊎ (is_live_wildcard u.condition ≡ false)) → ((m : ℕ) × (phase_on u p ≡ Some m) × (m ≤ k)) ⊎ JoinsAt (Announces t Ends place) p k
    by_test (inl wild) = absurd (let f = sym (ap (lookup (bytes_eq p)) (cond-true (is_live_wildcard u.condition) [] u.phases wild)) ∙ e in cc)
    by_test (inr task) = inl (k, sym (ap (lookup (bytes_eq p)) (cond-false (is_live_wildcard u.condition) [] u.phases task)) ∙ e, omega arith)
announced_comes t Stands place u p k e = inl (k, e, omega arith)

comes_at :
    (s : TraceState) (t : List ℕ) (change : Participant → Participant) (l : TraceLine) → ((u : Participant) → ComesFrom l u (change u)) →
    (v : Participant) (p : List ℕ) (k : ℕ) → Contains (changed_at t change s).list v → phase_on v p ≡ Some k → HadPhase s p k ⊎ JoinsAt l p k
comes_at s t change l comes v p k within at =
    let m = from_change (changed_there t change) (with_named s t) v within in
    let now : phase_on (changed_there t change m.0) p ≡ Some k = ap (λ x. phase_on x p) m.2 ∙ at in
    elim (there_or_not m.0 now) [
      | inl had ↦ elim (from_named s t m.0 m.1) [
        | inl old ↦ inl (m.0, had.0, old, had.1, had.2)
        | inr new ↦ absurd (let e = ap (λ x. phase_on x p) (sym new.1) ∙ had.1 in cc)
      ]
      | inr joins ↦ inr joins
    ]
  where
    there_or_not : (u : Participant) → phase_on (changed_there t change u) p ≡ Some k → ((m : ℕ) × (phase_on u p ≡ Some m) × (m ≤ k)) ⊎ JoinsAt l p k
    there_or_not u now = elim (cases_Bool (is_there_as t u)) [
      | inl there ↦ comes u p k (ap (λ x. phase_on x p) (sym (there_is t change u there)) ∙ now)
      | inr other ↦ inl (k, ap (λ x. phase_on x p) (sym (other_is t change u other)) ∙ now, omega arith)
    ]

-- a member after a line: one that was there with the phase or with a lower one, or one that joins
pub member_was : (s : TraceState) (l : TraceLine) (v : Participant) (p : List ℕ) (k : ℕ) → Contains (after_line s l).list v → phase_on v p ≡ Some k → HadPhase s p k ⊎ JoinsAt l p k
member_was s SaysNothing v p k within at = inl (v, k, within, at, omega arith)
member_was s AsksReport v p k within at = inl (v, k, within, at, omega arith)
member_was s AsksList v p k within at = inl (v, k, within, at, omega arith)
member_was s (AreGone beginning) v p k within at =
    let m = from_change (gone_by beginning) s v within in
    inl (m.0, k, m.1, sym (ap (lookup (bytes_eq p)) (gone_phases m.0)) ∙ ap (λ x. phase_on x p) m.2 ∙ at, omega arith)
  where
    gone_phases : (u : Participant) → (gone_by beginning u).phases ≡ u.phases
    gone_phases u = elim (cases_Bool (starts_with eqb u.name beginning)) [
      | inl gone ↦ ap (λ (x : Participant). x.phases) (cond-true (starts_with eqb u.name beginning) (record u { condition = Ended }) u gone)
      | inr other ↦ ap (λ (x : Participant). x.phases) (cond-false (starts_with eqb u.name beginning) (record u { condition = Ended }) u other)
    ]
member_was s (Announces t what place) v p k within at =
    comes_at s t (λ u. placed_at place (announced_by what u)) (Announces t what place)
    (λ u q j e. announced_comes t what place u q j (ap (lookup (bytes_eq q)) (sym (placed_phases place (announced_by what u))) ∙ e)) v p k within at
member_was s (PlaysAny w) v p k within at = comes_at s w (λ u. record u { condition = AnyTask }) (PlaysAny w) (λ u. same_phases (PlaysAny w) u (record u { condition = AnyTask }) refl) v p k within at
member_was s (PlaysOneOf w names) v p k within at =
    comes_at s w (λ u. record u { condition = OneOf names (task_numbers s names) }) (PlaysOneOf w names)
    (λ u. same_phases (PlaysOneOf w names) u (record u { condition = OneOf names (task_numbers s names) }) refl) v p k within at

-- an event to which everybody has come stays so, where a join finds somebody with its phase at most
stays_come : (s : TraceState) (l : TraceLine) (p : List ℕ) (n : ℕ) → NobodyIsBelow s p n → ((k : ℕ) → JoinsAt l p k → HadPhase s p k) → NobodyIsBelow (after_line s l) p n
stays_come s l p n nobody joins v within = elim (cases_Bool (has_phase_below v p n)) [
  | inl below ↦
      absurd (let b = below_is (phase_on v p) n below in
      elim (member_was s l v p b.0 within b.1) [
        | inl had ↦ (let m = not_below (phase_on had.0 p) had.1 n had.3 (nobody had.0 had.2) in let le = had.4 in let lt = b.2 in omega arith)
        | inr now ↦ (let had = joins b.0 now in let m = not_below (phase_on had.0 p) had.1 n had.3 (nobody had.0 had.2) in let le = had.4 in let lt = b.2 in omega arith)
      ])
  | inr not_lower ↦ not_lower
]

-- who waits for a phase of p has a line with p
said_in : (l : TraceLine) (h : List TraceLine) (p : List ℕ) → ((d : TraceLine) × Contains h d × IsOfPhaser p d) → (d : TraceLine) × Contains (l ∷ h) d × IsOfPhaser p d
said_in l h p (d, within, of) = (d, Contains-tail l h d within, of)

-- who waits after a line did so before, or the line is the wait
abbrev Waited : TraceState → TraceLine → List ℕ → ℕ → Type 0
Waited s l p n = ((u : Participant) × Contains s.list u × (u.condition ≡ Waiting p n)) ⊎ IsOfPhaser p l

announced_waits : (t : List ℕ) (what : Announcement) (place : Option (List ℕ)) (u : Participant) (p : List ℕ) (n : ℕ) → (announced_by what u).condition ≡ Waiting p n → (u.condition ≡ Waiting p n) ⊎ IsOfPhaser p (Announces t what place)
announced_waits t (Joins q m) place u p n e = inl e
announced_waits t (Arrives q) place u p n e = inl e
announced_waits t (Leaves q) place u p n e = inl e
announced_waits t (Waits q m) place u p n e = inr (let f : q ≡ p = cc in f)
announced_waits t Goes place u p n e = absurd (cc)
announced_waits t Ends place u p n e = absurd (cc)
announced_waits t Stands place u p n e = inl e

waited_at :
    (s : TraceState) (t : List ℕ) (change : Participant → Participant) (l : TraceLine) (p : List ℕ) (n : ℕ) →
    ((u : Participant) → (change u).condition ≡ Waiting p n → (u.condition ≡ Waiting p n) ⊎ IsOfPhaser p l) →
    (v : Participant) → Contains (changed_at t change s).list v → v.condition ≡ Waiting p n → Waited s l p n
waited_at s t change l p n own v within waits =
    let m = from_change (changed_there t change) (with_named s t) v within in
    elim (there_or_not m.0 (ap (λ (x : Participant). x.condition) m.2 ∙ waits)) [
      | inl did ↦ elim (from_named s t m.0 m.1) [
        | inl old ↦ inl (m.0, old, did)
        | inr new ↦ absurd (let e = ap (λ (x : Participant). x.condition) (sym new.1) ∙ did in cc)
      ]
      | inr of ↦ inr of
    ]
  where
    there_or_not : (u : Participant) → (changed_there t change u).condition ≡ Waiting p n → (u.condition ≡ Waiting p n) ⊎ IsOfPhaser p l
    there_or_not u now = elim (cases_Bool (is_there_as t u)) [
      | inl there ↦ own u (ap (λ (x : Participant). x.condition) (sym (there_is t change u there)) ∙ now)
      | inr other ↦ inl (ap (λ (x : Participant). x.condition) (sym (other_is t change u other)) ∙ now)
    ]

waited : (s : TraceState) (l : TraceLine) (v : Participant) (p : List ℕ) (n : ℕ) → Contains (after_line s l).list v → v.condition ≡ Waiting p n → Waited s l p n
waited s SaysNothing v p n within waits = inl (v, within, waits)
waited s AsksReport v p n within waits = inl (v, within, waits)
waited s AsksList v p n within waits = inl (v, within, waits)
waited s (AreGone beginning) v p n within waits =
    let m = from_change (gone_by beginning) s v within in
    elim (cases_Bool (starts_with eqb m.0.name beginning)) [
      | inl gone ↦ absurd (let e = ap (λ (x : Participant). x.condition) (sym (cond-true (starts_with eqb m.0.name beginning) (record m.0 { condition = Ended }) m.0 gone) ∙ m.2) ∙ waits in cc)
      | inr other ↦ inl (m.0, m.1, ap (λ (x : Participant). x.condition) (sym (cond-false (starts_with eqb m.0.name beginning) (record m.0 { condition = Ended }) m.0 other) ∙ m.2) ∙ waits)
    ]
waited s (Announces t what place) v p n within waits =
    waited_at s t (λ u. placed_at place (announced_by what u)) (Announces t what place) p n
    (λ u e. announced_waits t what place u p n (sym (placed_condition place (announced_by what u)) ∙ e)) v within waits
waited s (PlaysAny w) v p n within waits = waited_at s w (λ u. record u { condition = AnyTask }) (PlaysAny w) p n (λ u e. absurd (cc)) v within waits
waited s (PlaysOneOf w names) v p n within waits =
    waited_at s w (λ u. record u { condition = OneOf names (task_numbers s names) }) (PlaysOneOf w names) p n (λ u e. absurd (cc)) v within waits

-- of the phaser for which somebody waits, or waited, a line has spoken
wait_said : (h : List TraceLine) (v : Participant) (p : List ℕ) (n : ℕ) → Contains (after_lines h).list v → v.condition ≡ Waiting p n → (d : TraceLine) × Contains h d × IsOfPhaser p d
wait_said [] v p n within waits = absurd (nothing_in_nil v within)
wait_said (l ∷ h) v p n within waits = elim (waited (after_lines h) l v p n within waits) [
  | inl before ↦ said_in l h p (wait_said h before.0 p n before.1 before.2)
  | inr of ↦ (l, Contains-head l h, of)
]

passed_said : (h : List TraceLine) (p : List ℕ) (n : ℕ) → WasPassed h p n → (d : TraceLine) × Contains h d × IsOfPhaser p d
passed_said [] p n passed = absurd passed
passed_said (l ∷ h) p n (inl before) = said_in l h p (passed_said h p n before)
passed_said (l ∷ h) p n (inr now) = said_in l h p (wait_said h now.0 p n now.3 now.4)

pub lasting_now : (h : List TraceLine) → IsLasting h → (p : List ℕ) (n : ℕ) → WasPassed h p n → NobodyIsBelow (after_lines h) p n
lasting_now [] lasting p n passed = absurd passed
lasting_now (l ∷ h) lasting p n passed = lasting.1 p n passed

pub true_and_ordered_lasts : TrueAndOrderedLasts
true_and_ordered_lasts [] goes joins = tt
true_and_ordered_lasts (l ∷ h) goes joins = let before = true_and_ordered_lasts h goes.0 joins.0 in (before, λ p n passed. stays before p n passed)
  where
    stays : IsLasting h → (p : List ℕ) (n : ℕ) → WasPassed (l ∷ h) p n → NobodyIsBelow (after_lines (l ∷ h)) p n
    stays before p n (inl passed) =
        stays_come (after_lines h) l p n (lasting_now h before p n passed) (λ k is.
        elim (joins.1 p k is) [
          | inl unsaid ↦ absurd (let d = passed_said h p n passed in unsaid d.0 d.1 d.2)
          | inr low ↦ low
        ])
    stays before p n (inr now) = stays_come (after_lines h) l p n (goes.1 p n now) (λ k is. absurd (let e = now.2 in let f = is.2 in cc))
