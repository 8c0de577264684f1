-- The same is said just where what is said is equal.
use Rattle.std.proofs.Common.{◌≡◌, ℕ, true, Option, Some, None, List, ◌∙◌, ap, refl, eq-eqb}
use borrow.Author.Tests.{eqb-true}
use Rattle.std.specs.Prelude.{◌&&◌, ◌==◌}
use Rattle.std.specs.Str.{bytes_eq}
use Rattle.std.proofs.lemmas.Slice.Eq.{bytes_eq-Decides}
use Rattle.std.proofs.lemmas.Bool.{and_parts, and_from}
use Rattle.armus_base.specs.declared.event.Event.{Event}
use Rattle.armus_base.specs.States.{event_at}
use Rattle.explain_tasks.specs.Sayings.{Forking, Said, same_event, same_forking, same_phase, same_said}

bytes_is : (xs ys : List ℕ) → bytes_eq xs ys ≡ true → xs ≡ ys
bytes_is xs ys e = (bytes_eq-Decides xs ys).0 e

bytes_itself : (xs : List ℕ) → bytes_eq xs xs ≡ true
bytes_itself xs = (bytes_eq-Decides xs xs).1 refl

phase_is : (a b : Option ℕ) → same_phase a b ≡ true → a ≡ b
phase_is None None e = refl
phase_is None (Some b) e = absurd (cc)
phase_is (Some a) None e = absurd (cc)
phase_is (Some a) (Some b) e = ap (λ x. Some x) (eqb-true a b e)

phase_itself : (a : Option ℕ) → same_phase a a ≡ true
phase_itself None = refl
phase_itself (Some a) = eq-eqb a a refl

event_is : (a b : Option Event) → same_event a b ≡ true → a ≡ b
event_is None None e = refl
event_is None (Some b) e = absurd (cc)
event_is (Some a) None e = absurd (cc)
event_is (Some a) (Some b) e =
    let parts = and_parts (a.p.0 == b.p.0) (a.n == b.n) e in
    let p : a.p.0 ≡ b.p.0 = eqb-true a.p.0 b.p.0 parts.0 in
    let n : a.n ≡ b.n = eqb-true a.n b.n parts.1 in
    let whole : event_at a.p.0 a.n ≡ event_at b.p.0 b.n = cc in
    ap (λ x. Some x) whole

event_itself : (a : Option Event) → same_event a a ≡ true
event_itself None = refl
event_itself (Some a) = and_from (a.p.0 == a.p.0) (a.n == a.n) (eq-eqb a.p.0 a.p.0 refl) (eq-eqb a.n a.n refl)

forking_with : List ℕ → List ℕ → List ℕ → Forking
forking_with name at stands = record { name = name; at = at; stands = stands }

forking_is : (a b : Option Forking) → same_forking a b ≡ true → a ≡ b
unfolding forking_with
forking_is None None e = refl
forking_is None (Some b) e = absurd (cc)
forking_is (Some a) None e = absurd (cc)
forking_is (Some a) (Some b) e =
    let one = and_parts (bytes_eq a.name b.name) (bytes_eq a.at b.at && bytes_eq a.stands b.stands) e in
    let two = and_parts (bytes_eq a.at b.at) (bytes_eq a.stands b.stands) one.1 in
    let x : a.name ≡ b.name = bytes_is a.name b.name one.0 in
    let y : a.at ≡ b.at = bytes_is a.at b.at two.0 in
    let z : a.stands ≡ b.stands = bytes_is a.stands b.stands two.1 in
    let whole : forking_with a.name a.at a.stands ≡ forking_with b.name b.at b.stands = ap (λ v. forking_with v a.at a.stands) x ∙ ap (λ v. forking_with b.name v a.stands) y ∙ ap (λ v. forking_with b.name b.at v) z in
    ap (λ v. Some v) whole

forking_itself : (a : Option Forking) → same_forking a a ≡ true
forking_itself None = refl
forking_itself (Some a) =
    and_from (bytes_eq a.name a.name) (bytes_eq a.at a.at && bytes_eq a.stands a.stands) (bytes_itself a.name)
    (and_from (bytes_eq a.at a.at) (bytes_eq a.stands a.stands) (bytes_itself a.at) (bytes_itself a.stands))

said_with : List ℕ → List ℕ → Option ℕ → List ℕ → Option Event → Option Forking → List ℕ → Said
said_with front name phase words event forking next =
    record { front = front; name = name; phase = phase; words = words; event = event; forking = forking; next = next }

-- where the same is said, what is said is equal
pub same_said_is : (a b : Said) → same_said a b ≡ true → a ≡ b
unfolding said_with
same_said_is a b e =
    let t1 = and_parts (bytes_eq a.front b.front) _ e in
    let t2 = and_parts (bytes_eq a.name b.name) _ t1.1 in
    let t3 = and_parts (same_phase a.phase b.phase) _ t2.1 in
    let t4 = and_parts (bytes_eq a.words b.words) _ t3.1 in
    let t5 = and_parts (same_event a.event b.event) _ t4.1 in
    let t6 = and_parts (same_forking a.forking b.forking) (bytes_eq a.next b.next) t5.1 in
    let whole : said_with a.front a.name a.phase a.words a.event a.forking a.next ≡ said_with b.front b.name b.phase b.words b.event b.forking b.next =
    ap (λ v. said_with v a.name a.phase a.words a.event a.forking a.next) (bytes_is a.front b.front t1.0)
    ∙ ap (λ v. said_with b.front v a.phase a.words a.event a.forking a.next) (bytes_is a.name b.name t2.0)
    ∙ ap (λ v. said_with b.front b.name v a.words a.event a.forking a.next) (phase_is a.phase b.phase t3.0)
    ∙ ap (λ v. said_with b.front b.name b.phase v a.event a.forking a.next) (bytes_is a.words b.words t4.0)
    ∙ ap (λ v. said_with b.front b.name b.phase b.words v a.forking a.next) (event_is a.event b.event t5.0)
    ∙ ap (λ v. said_with b.front b.name b.phase b.words b.event v a.next) (forking_is a.forking b.forking t6.0)
    ∙ ap (λ v. said_with b.front b.name b.phase b.words b.event b.forking v) (bytes_is a.next b.next t6.1) in
    whole

-- what is said is the same as itself
pub same_said_itself : (a : Said) → same_said a a ≡ true
same_said_itself a =
    and_from (bytes_eq a.front a.front) _ (bytes_itself a.front)
    (and_from (bytes_eq a.name a.name) _ (bytes_itself a.name)
    (and_from (same_phase a.phase a.phase) _ (phase_itself a.phase)
    (and_from (bytes_eq a.words a.words) _ (bytes_itself a.words)
    (and_from (same_event a.event a.event) _ (event_itself a.event)
    (and_from (same_forking a.forking a.forking) (bytes_eq a.next a.next) (forking_itself a.forking) (bytes_itself a.next))))))
