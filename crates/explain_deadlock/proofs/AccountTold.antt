-- What an account tells of a task's wait and of its fork.
use Rattle.std.proofs.Common.{◌≡◌, ℕ, zero, suc, ◌<◌, Option, Some, None, List, [], ◌∷◌, length, arith, ap, sym, ◌∙◌, refl}
use Rattle.std.specs.Prelude.{option_and_then, slice_get, slice_index_or}
use Rattle.std.proofs.lemmas.Option.{get_or_from_slice_get}
use Rattle.armus_base.specs.declared.ending.TaskEnd.{TaskEnd}
use Rattle.armus_base.specs.declared.ending.TaskEnd.TheVariants.{Blocked, Done, Refused, Unforked}
use Rattle.armus_base.specs.declared.event.Event.{Event}
use Rattle.armus_base.specs.declared.ids.TaskId.{TaskId}
use Rattle.armus_base.specs.CheckedPlans.{IsCheckedPlan}
use Rattle.armus_base.specs.Plans.{Plan}
use Rattle.armus_base.specs.States.{State}
use Rattle.pl_syntax.specs.declared.tree.Program.{Program}
use Rattle.source_map.specs.Origins.{fork_origin}
use Rattle.explain_facts.specs.Accounts.{HasWait, Layout, forked_by, forked_of}
use Rattle.explain_facts.specs.declared.account.Forked.{Forked}
use Rattle.explain_facts.specs.declared.account.Waiting.{Waiting}
use Rattle.explain_facts.proofs.Forkers.{parent_is}

-- ---- a part of an element of a list

module _ {A B : Type 0} (part : A → Option B) where
  -- where an element's part is something, there is the element
  pub part_there :
      (xs : List A) (t : ℕ) (b : B) → option_and_then part (slice_get xs t) ≡ Some b → (t < length xs) × ((d : A) → part (slice_index_or xs t d) ≡ Some b)
  part_there [] t b is = absurd (cc)
  part_there (x ∷ xs) zero b is = (omega arith, λ d. is)
  part_there (x ∷ xs) (suc t) b is = let more = part_there xs t b is in (let lt = more.0 in omega arith, λ d. more.1 d)

  -- the part of an element that is there
  pub part_of : (xs : List A) (t : ℕ) (d : A) → t < length xs → option_and_then part (slice_get xs t) ≡ part (slice_index_or xs t d)
  part_of [] t d lt = absurd (omega arith)
  part_of (x ∷ xs) zero d lt = refl
  part_of (x ∷ xs) (suc t) d lt = part_of xs t d (omega arith)

-- ---- waits

-- a task has a wait only where it is blocked on the event of the wait
pub wait_tells :
    (l : Layout) (p : Program) (plan : Plan) (s : State) (done : ℕ → ℕ) (t : ℕ) (end : TaskEnd) (o : Option Waiting) (w : Waiting) → HasWait l p plan s done t end o → o ≡ Some w →
    end ≡ Blocked w.event
wait_tells l p plan s done t (Blocked e) (Some v) w is same =
    let one : v ≡ w = cc in sym (ap Blocked (sym (ap (λ (x : Waiting). x.event) one) ∙ is.event))
wait_tells l p plan s done t (Blocked e) None w is same = absurd is
wait_tells l p plan s done t Done o w is same = absurd (cc)
wait_tells l p plan s done t (Refused e) o w is same = absurd (cc)
wait_tells l p plan s done t Unforked o w is same = absurd (cc)

-- a task that is blocked has a wait with its event
pub blocked_tells :
    (l : Layout) (p : Program) (plan : Plan) (s : State) (done : ℕ → ℕ) (t : ℕ) (e : Event) (o : Option Waiting) → HasWait l p plan s done t (Blocked e) o →
    (w : Waiting) × (o ≡ Some w) × (w.event ≡ e)
blocked_tells l p plan s done t e None is = absurd is
blocked_tells l p plan s done t e (Some w) is = (w, refl, is.event)

-- ---- forks

forker_drawn : (l : Layout) (n : Option ℕ) (o : Option TaskId) (x : Forked) → forked_by l n o ≡ Some x → o ≡ Some x.by
forker_drawn l None None x is = absurd (cc)
forker_drawn l None (Some u) x is = absurd (cc)
forker_drawn l (Some n) None x is = absurd (cc)
forker_drawn l (Some n) (Some u) x is = ap Some (let whole = is in let by : Some u ≡ Some x.by = ap by_of whole in cc)
  where
    by_of : Option Forked → Option TaskId
    by_of None = None
    by_of (Some y) = Some y.by

-- a forker that is told is a task before the one that it forks
pub forker_before :
    (l : Layout) (p : Program) (plan : Plan) (checked : IsCheckedPlan plan) (t : ℕ) (x : Forked) → t < length plan.parents → forked_of l p plan t ≡ Some x → x.by.0 < t
forker_before l p plan checked zero x lt is =
    let drawn : slice_index_or plan.parents zero None ≡ Some x.by = forker_drawn l (fork_origin p zero) (slice_index_or plan.parents zero None) x is in
    let none : slice_index_or plan.parents zero None ≡ None = get_or_from_slice_get plan.parents zero None None checked.tables.root in
    absurd (cc)
forker_before l p plan checked (suc t) x lt is =
    let drawn : slice_index_or plan.parents (suc t) None ≡ Some x.by = forker_drawn l (fork_origin p (suc t)) (slice_index_or plan.parents (suc t) None) x is in
    let (u, there) = checked.tables.drawn (suc t) (omega arith) lt in
    let parent : slice_index_or plan.parents (suc t) None ≡ Some u = get_or_from_slice_get plan.parents (suc t) (Some u) None there in
    let same : u ≡ x.by = cc in
    let number = parent_is plan (suc t) u there in
    let before = checked.tables.parents_first (suc t) (omega arith) in
    let by : u.0 ≡ x.by.0 = ap (λ (v : TaskId). v.0) same in
    omega arith
