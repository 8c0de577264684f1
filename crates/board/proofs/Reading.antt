-- What the numbers in words say.
use Rattle.std.proofs.Common.{◌≡◌, ℕ, zero, suc, ◌+◌, ◌-◌, ◌/◌, ◌%◌, ◌<◌, ◌≤◌, Option, Some, None, List, [], ◌∷◌, ◌*◌, length, get_or, sym, refl, ◌∙◌, arith}
use Rattle.std.proofs.lemmas.Nat.{div-mul-add, mod-mul-add}
use mathlib.Core.Option.{some, some-injective, some-ne-none}
use lib.ListN.{get_elem?}
use Rattle.armus_base.specs.calls.Limits.{max_awaited}
use Rattle.armus_base.specs.Limits.{max_ops, max_phasers}
use Rattle.armus_base.specs.declared.event.Event.{Event}
use Rattle.armus_base.specs.Plans.{Plan}
use Rattle.armus_base.specs.calls.Seats.{Found, FoundIdle, FoundRefused, FoundWaiting}
use Rattle.board.specs.calls.Words.{IsInRange, await_number, event_number, phase_index, phase_number}

-- the phaser and the phase of an event's number
pub phaser_in : (e : Event) → e.n ≤ max_awaited → event_number e / 4294967296 ≡ e.p.0 + 1
phaser_in e l = div-mul-add (e.p.0 + 1) 4294967296 e.n (omega arith)

pub phase_in : (e : Event) → e.n ≤ max_awaited → event_number e % 4294967296 ≡ e.n
phase_in e l = mod-mul-add (e.p.0 + 1) 4294967296 e.n (omega arith)

pub event_small : (e : Event) → e.p.0 < max_phasers → e.n ≤ max_awaited → (event_number e < 9223372036854775808) × (0 < event_number e)
event_small e p n = (omega arith, omega arith)

-- which word says what
pub of_waits :
    (f : Found) (word : ℕ) → IsInRange f → word ≡ await_number f → (word ≡ 0 → ⊥) → word < 9223372036854775808 →
    (e : Event) × (f ≡ FoundWaiting e) × (e.p.0 < max_phasers) × (e.n ≤ max_awaited) × (word ≡ event_number e)
of_waits FoundIdle word r is n l = absurd (n is)
of_waits (FoundWaiting e) word r is n l = (e, refl, r.0, r.1, is)
of_waits (FoundRefused e) word r is n l = absurd (omega arith)

pub of_refused :
    (f : Found) (word : ℕ) → IsInRange f → word ≡ await_number f → (word ≡ 0 → ⊥) → 9223372036854775808 ≤ word →
    (e : Event) × (f ≡ FoundRefused e) × (e.p.0 < max_phasers) × (e.n ≤ max_awaited) × (word - 9223372036854775808 ≡ event_number e)
of_refused FoundIdle word r is n l = absurd (n is)
of_refused (FoundWaiting e) word r is n l = absurd (let s = event_small e r.0 r.1 in let less = s.0 in omega arith)
of_refused (FoundRefused e) word r is n l = (e, refl, r.0, r.1, omega arith)

pub number_small : (o : Option ℕ) → ((n : ℕ) → o ≡ Some n → n ≤ max_ops) → phase_number o < 4294967296
number_small None h = omega arith
number_small (Some n) h = (let m = h n refl in omega arith)

-- a word that is there
pub read_at : {A : Type 0} (l : List A) (i : ℕ) (a d : A) → get_elem? l i ≡ some a → get_or l i d ≡ a
read_at [] i a d e = absurd (some-ne-none a (sym e))
read_at (x ∷ xs) zero a d e = some-injective x a e
read_at (x ∷ xs) (suc i) a d e = read_at xs i a d e

-- the phase word of task t on phaser p, among n tasks
pub read_phase : (l : List ℕ) {n a : ℕ} (plan : Plan) (t p : ℕ) → n ≡ length plan.parents → get_elem? l (1 + n + p * n + t) ≡ some a →
    a ≡ get_or l (phase_index plan t p) 0
read_phase l {n} {a} plan t p tasks e = sym (read_at l (1 + n + p * n + t) a 0 e) ∙ (λ j. get_or l (1 + tasks j + p * tasks j + t) 0)
