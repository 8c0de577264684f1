-- What is noted of the ops of comings, one coming after the other.
use Rattle.std.proofs.Common.{◌≡◌, ℕ, ◌+◌, List, [], ◌∷◌, ◌++◌, Some, refl, sym, ap, ◌∙◌}
use Rattle.std.specs.Prelude.{Err, Ok, OnOk, Result}
use Rattle.clock_syntax.specs.declared.tree.ClockStmt.{ClockStmt}
use Rattle.clock_syntax.specs.declared.tree.ClockStmt.TheVariants as s
use Rattle.clock_syntax.specs.Trees.{ClockTree, done}
use Rattle.clock_syntax.specs.calls.Bodies.{clock_followed_by}
use Rattle.clock_semantics.specs.Unfolding.{ClockComing, a_close, coming, comings_of}
use Rattle.clock_source_map.specs.inside.OpNotes.{OpNotesValue, next_noted, ops_noted}
use Rattle.clock_source_map.proofs.NotedInTurn.{InTurn}

pub ops_noted-append : (ms ns : List ClockComing) (k : OpNotesValue) → ops_noted (ms ++ ns) k ≡ ops_noted ns (ops_noted ms k)
ops_noted-append [] ns k = refl
ops_noted-append (m ∷ ms) ns k = ops_noted-append ms ns _

-- a finish: its beginning, its body and its end
ops_of_finish : (n : ℕ) (body : ClockTree) (k : OpNotesValue) →
    next_noted (Some n) (next_noted (Some n) (next_noted (Some n) (ops_noted (comings_of (n + 1) body) (next_noted (Some n) k))))
    ≡ ops_noted (comings_of n (clock_followed_by (s.Finish body) done)) k
ops_of_finish n body k = sym (ops_noted-append (comings_of (n + 1) body) (coming n a_close ∷ []) (next_noted (Some n) k))

pub finish_noted : {A B : Type 0} (r : Result A B) (n : ℕ) (body : ClockTree) (stmt : ClockStmt) (old begun inner new : OpNotesValue) →
    stmt ≡ s.Finish body → begun ≡ next_noted (Some n) old → inner ≡ ops_noted (comings_of (n + 1) body) begun →
    OnOk r (new ≡ next_noted (Some n) (next_noted (Some n) (next_noted (Some n) inner))) → OnOk r (new ≡ ops_noted (comings_of n (clock_followed_by stmt done)) old)
finish_noted (Err e) n body stmt old begun inner new is first rest made = made
finish_noted (Ok x) n body stmt old begun inner new is first rest made =
    let end = λ (k : OpNotesValue). next_noted (Some n) (next_noted (Some n) (next_noted (Some n) k)) in
    made ∙ ap end rest ∙ ap (λ k. end (ops_noted (comings_of (n + 1) body) k)) first ∙ ops_of_finish n body old
    ∙ ap (λ z. ops_noted (comings_of n (clock_followed_by z done)) old) (sym is)

-- and in turn
abbrev pub all_ops : InTurn OpNotesValue
all_ops = record { noted = ops_noted; none = λ k. refl; append = ops_noted-append; turn = λ n ms k. refl }
