-- What is noted of comings, one after the other.
use Rattle.std.proofs.Common.{◌≡◌, ℕ, ◌+◌, List, [], ◌∷◌, ◌++◌, refl, sym, ap, ◌∙◌, append_assoc, append-nil}
use Rattle.std.specs.Prelude.{Err, Ok, OnOk, Result}
use Rattle.std.proofs.lemmas.Grind.{flat_map-append}
use Rattle.armus_base.specs.Pieces.{times}
use Rattle.clock_syntax.specs.declared.tree.ClockStmt.{ClockStmt}
use Rattle.clock_syntax.specs.declared.tree.ClockStmt.TheVariants as s
use Rattle.clock_syntax.specs.Trees.{ClockTree, done}
use Rattle.clock_syntax.specs.calls.Bodies.{clock_followed_by}
use Rattle.clock_semantics.specs.Unfolding.{ClockComing, a_close, a_finish, a_turn, an_async, coming, comings_of}
use Rattle.clock_source_map.specs.ClockOrigins.{StartedActivity, MadeThing, made_thing_at, things_in, wait_at, waits_in}
use Rattle.clock_source_map.specs.calls.Begun.{activity_started_at, activities_started_in}
use Rattle.clock_source_map.specs.inside.VisitNotes.{NotesValue, noted, noted_all}
use Rattle.clock_source_map.proofs.NotedInTurn.{InTurn}

same_notes :
    (a a' : List StartedActivity) (b b' : List MadeThing) (c c' : List ℕ) → a ≡ a' → b ≡ b' → c ≡ c' →
    let k : NotesValue = record { begun = a; things = b; waits = c } in let l : NotesValue = record { begun = a'; things = b'; waits = c' } in k ≡ l
same_notes a a' b b' c c' x y z = cc

-- ---- lists of comings

pub noted_all-append : (ms ns : List ClockComing) (k : NotesValue) → noted_all (ms ++ ns) k ≡ noted_all ns (noted_all ms k)
noted_all-append ms ns k =
    same_notes (k.begun ++ activities_started_in (ms ++ ns)) ((k.begun ++ activities_started_in ms) ++ activities_started_in ns) (k.things ++ things_in (ms ++ ns)) ((k.things ++ things_in ms) ++ things_in ns)
    (k.waits ++ waits_in (ms ++ ns)) ((k.waits ++ waits_in ms) ++ waits_in ns)
    (ap (λ z. k.begun ++ z) (flat_map-append (λ (m : ClockComing). activity_started_at m.statement m.part) ms ns) ∙ sym (append_assoc k.begun (activities_started_in ms) (activities_started_in ns)))
    (ap (λ z. k.things ++ z) (flat_map-append (λ (m : ClockComing). made_thing_at m.statement m.part) ms ns) ∙ sym (append_assoc k.things (things_in ms) (things_in ns)))
    (ap (λ z. k.waits ++ z) (flat_map-append (λ (m : ClockComing). wait_at m.statement m.part) ms ns) ∙ sym (append_assoc k.waits (waits_in ms) (waits_in ns)))

pub noted_none : (k : NotesValue) → noted_all [] k ≡ k
noted_none k =
    same_notes (k.begun ++ []) k.begun (k.things ++ []) k.things (k.waits ++ []) k.waits (append-nil k.begun) (append-nil k.things) (append-nil k.waits)

pub noted_one : (m : ClockComing) (k : NotesValue) → noted_all (m ∷ []) k ≡ noted m k
noted_one m k =
    same_notes (k.begun ++ activities_started_in (m ∷ [])) (k.begun ++ activity_started_at m.statement m.part) (k.things ++ things_in (m ∷ [])) (k.things ++ made_thing_at m.statement m.part)
    (k.waits ++ waits_in (m ∷ [])) (k.waits ++ wait_at m.statement m.part) (ap (λ z. k.begun ++ z) (append-nil (activity_started_at m.statement m.part)))
    (ap (λ z. k.things ++ z) (append-nil (made_thing_at m.statement m.part))) (ap (λ z. k.waits ++ z) (append-nil (wait_at m.statement m.part)))

-- ---- one statement

-- an async, where what it does is known
pub noted_async : {A B : Type 0} (r : Result A B) (n : ℕ) (xs : List (List ℕ)) (body : ClockTree) (stmt : ClockStmt) (old new : NotesValue) →
    stmt ≡ s.Async xs body → OnOk r ((ys : List (List ℕ)) → new ≡ noted (coming n (an_async ys body)) old) →
    OnOk r (new ≡ noted_all (comings_of n (clock_followed_by stmt done)) old)
noted_async (Err e) n xs body stmt old new is made = made
noted_async (Ok x) n xs body stmt old new is made =
    made xs ∙ sym (noted_one (coming n (an_async xs body)) old) ∙ ap (λ z. noted_all (comings_of n (clock_followed_by z done)) old) (sym is)

-- a finish: its beginning, its body and its end
pub noted_finish : (n : ℕ) (body : ClockTree) (k : NotesValue) →
    noted (coming n a_close) (noted_all (comings_of (n + 1) body) (noted (coming n a_finish) k)) ≡ noted_all (comings_of n (clock_followed_by (s.Finish body) done)) k
noted_finish n body k =
    sym (noted_all-append (coming n a_finish ∷ []) (comings_of (n + 1) body ++ coming n a_close ∷ []) k
    ∙ ap (noted_all (comings_of (n + 1) body ++ coming n a_close ∷ [])) (noted_one (coming n a_finish) k)
    ∙ noted_all-append (comings_of (n + 1) body) (coming n a_close ∷ []) (noted (coming n a_finish) k)
    ∙ noted_one (coming n a_close) (noted_all (comings_of (n + 1) body) (noted (coming n a_finish) k)))

-- a loop: its turns
pub noted_loop : (n turns : ℕ) (body : ClockTree) (k : NotesValue) →
    noted_all (times turns (coming n a_turn ∷ comings_of (n + 1) body)) k ≡ noted_all (comings_of n (clock_followed_by (s.Loop turns body) done)) k
noted_loop n turns body k = ap (λ ms. noted_all ms k) (sym (append-nil (times turns (coming n a_turn ∷ comings_of (n + 1) body))))

-- and in turn
abbrev pub all_notes : InTurn NotesValue
all_notes = record { noted = noted_all; none = noted_none; append = noted_all-append; turn = λ n ms k. refl }
