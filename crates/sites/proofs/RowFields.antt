-- The laws of rows: what is read is the row of it, and what has a row is read again.
use Rattle.std.proofs.Common.{◌≡◌, ℕ, ◌^◌, ◌<◌, Bool, true, false, cond, eqb, List, [], ◌++◌, length, Some, None, refl, sym, ap, subst, ◌∙◌, append_assoc, arith}
use Rattle.std.specs.List.{flat_map, AllByRecursion}
use Rattle.std.specs.Int.{w32, to_be_bytes}
use Rattle.std.proofs.lemmas.Bool.{eqb-true}
use Rattle.std.proofs.lemmas.List.{append-nil, nil_from_length}
use Rattle.std.proofs.lemmas.List.Elements.{All-from_recursion, recursion_from_All}
use Rattle.armus_base.specs.declared.event.Event.{Event}
use Rattle.armus_base.specs.declared.status.Member.{Member}
use Rattle.armus_base.specs.declared.status.Status.{Status}
use Rattle.sites.specs.calls.Rows.{HasNumbers, HasPhaseNumbers, phase_bytes, row_bytes, status_bytes}
use Rattle.sites.specs.inside.Reading.{◌>>=◌, front_event, items_at, front_number, phase_at, row_at, status_at}
use Rattle.sites.proofs.Fields.{IsBytes, bind_some, number_again, number_takes, some_is, Takes, Takes-then}
use Rattle.sites.proofs.Items.{Reads, items_again, items_take}

guard_ended : {A : Type 0} (b : Bool) (x y : A) → cond b (Some x) None ≡ Some y → (b ≡ true) × (x ≡ y)
guard_ended true x y e = (refl, cc)
guard_ended false x y e = absurd cc

-- what is made of two numbers that are read one after the other
two_take :
    {T : Type 0} (make : ℕ → ℕ → T) (P : T × List ℕ → Type 0) (bytes : List ℕ) (x : T × List ℕ) → IsBytes bytes →
    (front_number bytes >>= λ p. front_number p.1 >>= λ n. Some (make p.0 n.0, n.1)) ≡ Some x →
    ((p n : ℕ) (rest : List ℕ) → Takes bytes (to_be_bytes w32 p ++ to_be_bytes w32 n) rest → p < 2 ^ 32 → n < 2 ^ 32 → P (make p n, rest)) → P x
two_take make P bytes x fits e told =
    let a = bind_some (front_number bytes) (λ p. front_number p.1 >>= λ n. Some (make p.0 n.0, n.1)) x e in
    let b = bind_some (front_number a.0.1) (λ n. Some (make a.0.0 n.0, n.1)) x a.2 in
    let t0 = number_takes bytes a.0.0 a.0.1 fits a.1 in
    let t1 = number_takes a.0.1 b.0.0 b.0.1 t0.0.rest_fits b.1 in
    let takes = Takes-then bytes (to_be_bytes w32 a.0.0) a.0.1 (to_be_bytes w32 b.0.0) b.0.1 t0.0 t1.0 in
    subst P (some_is (make a.0.0 b.0.0, b.0.1) x b.2) (told a.0.0 b.0.0 b.0.1 takes t0.1 t1.1)

phase_takes : (bytes : List ℕ) (x : Member × List ℕ) → IsBytes bytes → phase_at bytes ≡ Some x → Takes bytes (phase_bytes x.0) x.1 × HasPhaseNumbers x.0
unfolding phase_at
phase_takes bytes x fits e =
    two_take (λ p n. record { p = record { 0 = p }; n = n }) (λ (y : Member × List ℕ). Takes bytes (phase_bytes y.0) y.1 × HasPhaseNumbers y.0) bytes x fits e
    (λ p n rest takes phaser phase. (takes, record { phaser = phaser; phase = phase }))

phase_again : (m : Member) (rest : List ℕ) → HasPhaseNumbers m → phase_at (phase_bytes m ++ rest) ≡ Some (m, rest)
unfolding phase_at
phase_again m rest fits =
    ap phase_at (append_assoc (to_be_bytes w32 m.p.0) (to_be_bytes w32 m.n) rest)
    ∙ rw (number_again m.p.0 (to_be_bytes w32 m.n ++ rest) fits.phaser, number_again m.n rest fits.phase) refl

pub phase_reads : Reads phase_at phase_bytes HasPhaseNumbers
phase_reads = record { takes = phase_takes; again = phase_again }

-- the bytes of an event
abbrev event_bytes : Event → List ℕ
event_bytes e = to_be_bytes w32 e.p.0 ++ to_be_bytes w32 e.n

record FitsEvent (e : Event) : Type 0 where
  phaser : e.p.0 < 2 ^ 32
  phase : e.n < 2 ^ 32

event_takes : (bytes : List ℕ) (x : Event × List ℕ) → IsBytes bytes → front_event bytes ≡ Some x → Takes bytes (event_bytes x.0) x.1 × FitsEvent x.0
unfolding front_event
event_takes bytes x fits e =
    two_take (λ p n. record { p = record { 0 = p }; n = n }) (λ (y : Event × List ℕ). Takes bytes (event_bytes y.0) y.1 × FitsEvent y.0) bytes x fits e
    (λ p n rest takes phaser phase. (takes, record { phaser = phaser; phase = phase }))

event_again : (e : Event) (rest : List ℕ) → FitsEvent e → front_event (to_be_bytes w32 e.p.0 ++ (to_be_bytes w32 e.n ++ rest)) ≡ Some (e, rest)
unfolding front_event
event_again e rest fits = rw (number_again e.p.0 (to_be_bytes w32 e.n ++ rest) fits.phaser, number_again e.n rest fits.phase) refl

-- what has a row: its numbers are small, and so is the number of its phases
pub record FitsRow (s : Status) : Type 0 where
  pub numbers : HasNumbers s
  pub few : length s.phases < 2 ^ 32

abbrev made_of : ℕ → Event → List Member → Status
made_of t e phases = record { t = record { 0 = t }; event = e; phases = phases }

status_takes : (bytes : List ℕ) (x : Status × List ℕ) → IsBytes bytes → status_at bytes ≡ Some x → Takes bytes (status_bytes x.0) x.1 × FitsRow x.0
unfolding status_at
status_takes bytes x fits e =
    let a = bind_some (front_number bytes) (λ t. front_event t.1 >>= λ v. front_number v.1 >>= λ n. items_at phase_at n.0 n.1 >>= λ ps. Some (made_of t.0 v.0 ps.0, ps.1)) x e in
    let b = bind_some (front_event a.0.1) (λ v. front_number v.1 >>= λ n. items_at phase_at n.0 n.1 >>= λ ps. Some (made_of a.0.0 v.0 ps.0, ps.1)) x a.2 in
    let c = bind_some (front_number b.0.1) (λ n. items_at phase_at n.0 n.1 >>= λ ps. Some (made_of a.0.0 b.0.0 ps.0, ps.1)) x b.2 in
    let d = bind_some (items_at phase_at c.0.0 c.0.1) (λ ps. Some (made_of a.0.0 b.0.0 ps.0, ps.1)) x c.2 in
    let t0 = number_takes bytes a.0.0 a.0.1 fits a.1 in
    let t1 = event_takes a.0.1 b.0 t0.0.rest_fits b.1 in
    let t2 = number_takes b.0.1 c.0.0 c.0.1 t1.0.rest_fits c.1 in
    let t3 = items_take phase_at phase_bytes HasPhaseNumbers phase_reads c.0.0 c.0.1 d.0 t2.0.rest_fits d.1 in
    let counted : to_be_bytes w32 c.0.0 ≡ to_be_bytes w32 (length d.0.0) = ap (to_be_bytes w32) (sym t3.1) in
    let tail = Takes-then b.0.1 (to_be_bytes w32 (length d.0.0)) c.0.1 (flat_map phase_bytes d.0.0) d.0.1 (subst (λ (v : List ℕ). Takes b.0.1 v c.0.1) counted t2.0) t3.0 in
    let rest = Takes-then a.0.1 (event_bytes b.0.0) b.0.1 (to_be_bytes w32 (length d.0.0) ++ flat_map phase_bytes d.0.0) d.0.1 t1.0 tail in
    let regrouped = append_assoc (to_be_bytes w32 b.0.0.p.0) (to_be_bytes w32 b.0.0.n) (to_be_bytes w32 (length d.0.0) ++ flat_map phase_bytes d.0.0) in
    let after : Takes a.0.1 (to_be_bytes w32 b.0.0.p.0 ++ (to_be_bytes w32 b.0.0.n ++ (to_be_bytes w32 (length d.0.0) ++ flat_map phase_bytes d.0.0))) d.0.1 =
    subst (λ (v : List ℕ). Takes a.0.1 v d.0.1) regrouped rest in
    let whole = Takes-then bytes (to_be_bytes w32 a.0.0) a.0.1 (to_be_bytes w32 b.0.0.p.0 ++ (to_be_bytes w32 b.0.0.n ++
    (to_be_bytes w32 (length d.0.0) ++ flat_map phase_bytes d.0.0))) d.0.1 t0.0 after in
    let numbers : HasNumbers (made_of a.0.0 b.0.0 d.0.0) =
    record { task = t0.1; phaser = t1.1.phaser; phase = t1.1.phase; phases = All-from_recursion HasPhaseNumbers d.0.0 t3.2 } in
    let made : Status × List ℕ = (made_of a.0.0 b.0.0 d.0.0, d.0.1) in
    subst (λ (y : Status × List ℕ). Takes bytes (status_bytes y.0) y.1 × FitsRow y.0) (some_is made x d.2) (
      whole,
      record { numbers = numbers; few = (let same = t3.1 in let small = t2.1 in omega arith) },
    )

status_again : (s : Status) (rest : List ℕ) → FitsRow s → status_at (status_bytes s ++ rest) ≡ Some (s, rest)
unfolding status_at
status_again s rest fits =
    let t = to_be_bytes w32 s.t.0 in
    let p = to_be_bytes w32 s.event.p.0 in
    let n = to_be_bytes w32 s.event.n in
    let k = to_be_bytes w32 (length s.phases) in
    let ps = flat_map phase_bytes s.phases in
    let regrouped : status_bytes s ++ rest ≡ t ++ (p ++ (n ++ (k ++ (ps ++ rest)))) =
    append_assoc t (p ++ (n ++ (k ++ ps))) rest
    ∙ ap (λ (v : List ℕ). t ++ v) (append_assoc p (n ++ (k ++ ps)) rest
    ∙ ap (λ (v : List ℕ). p ++ v) (append_assoc n (k ++ ps) rest ∙ ap (λ (v : List ℕ). n ++ v) (append_assoc k ps rest))) in
    let event : front_event (p ++ (n ++ (k ++ (ps ++ rest)))) ≡ Some (s.event, k ++ (ps ++ rest)) =
    event_again s.event (k ++ (ps ++ rest)) (record { phaser = fits.numbers.phaser; phase = fits.numbers.phase }) in
    let phases : items_at phase_at (length s.phases) (ps ++ rest) ≡ Some (s.phases, rest) =
    items_again phase_at phase_bytes HasPhaseNumbers phase_reads s.phases rest (recursion_from_All HasPhaseNumbers s.phases fits.numbers.phases) in
    ap status_at regrouped
    ∙ rw (number_again s.t.0 (p ++ (n ++ (k ++ (ps ++ rest)))) fits.numbers.task, event, number_again (length s.phases) (ps ++ rest) fits.few, phases) refl

pub status_reads : Reads status_at status_bytes FitsRow
status_reads = record { takes = status_takes; again = status_again }

-- what is read is the row of it
pub record IsRead (bytes : List ℕ) (ss : List Status) : Type 0 where
  pub row : bytes ≡ row_bytes ss
  pub fits : AllByRecursion FitsRow ss
  pub few : length ss < 2 ^ 32

pub row_takes : (bytes : List ℕ) (ss : List Status) → IsBytes bytes → row_at bytes ≡ Some ss → IsRead bytes ss
unfolding row_at
row_takes bytes ss fits e =
    let a = bind_some (front_number bytes) (λ n. items_at status_at n.0 n.1 >>= λ x. cond (eqb (length x.1) 0) (Some x.0) None) ss e in
    let b = bind_some (items_at status_at a.0.0 a.0.1) (λ x. cond (eqb (length x.1) 0) (Some x.0) None) ss a.2 in
    let g = guard_ended (eqb (length b.0.1) 0) b.0.0 ss b.2 in
    let first = number_takes bytes a.0.0 a.0.1 fits a.1 in
    let second = items_take status_at status_bytes FitsRow status_reads a.0.0 a.0.1 b.0 first.0.rest_fits b.1 in
    let nothing : b.0.1 ≡ [] = nil_from_length b.0.1 (eqb-true _ _ g.0) in
    let both = (Takes-then bytes (to_be_bytes w32 a.0.0) a.0.1 (flat_map status_bytes b.0.0) b.0.1 first.0 second.0).parts in
    let whole : bytes ≡ row_bytes b.0.0 =
    both ∙ ap (λ (r : List ℕ). (to_be_bytes w32 a.0.0 ++ flat_map status_bytes b.0.0) ++ r) nothing
    ∙ append-nil (to_be_bytes w32 a.0.0 ++ flat_map status_bytes b.0.0)
    ∙ ap (λ (k : ℕ). to_be_bytes w32 k ++ flat_map status_bytes b.0.0) (sym second.1) in
    subst (IsRead bytes) g.1 (record { row = whole; fits = second.2; few = (let same = second.1 in let small = first.1 in omega arith) })

pub row_again : (ss : List Status) → AllByRecursion FitsRow ss → length ss < 2 ^ 32 → row_at (row_bytes ss) ≡ Some ss
unfolding row_at
row_again ss fits few =
    let rest : items_at status_at (length ss) (flat_map status_bytes ss) ≡ Some (ss, []) =
    ap (items_at status_at (length ss)) (sym (append-nil (flat_map status_bytes ss))) ∙ items_again status_at status_bytes FitsRow status_reads ss [] fits in
    rw (number_again (length ss) (flat_map status_bytes ss) few, rest) refl
