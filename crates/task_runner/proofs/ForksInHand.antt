-- Whether all tasks that were forked are in hand.
use Rattle.std.proofs.Common.{◌≡◌, ℕ, zero, suc, ◌-◌, ◌<◌, Bool, false, true, List, [], ◌∷◌, ◌++◌, Some, length, replicate, set, sym, refl, ◌∙◌, subst, arith, inl, inr, ◌⊎◌}
use Rattle.std.specs.Prelude.{All, slice_get}
use Rattle.std.proofs.lemmas.Bool.{cases_eq}
use Rattle.std.proofs.lemmas.List.Elements.{Contains-append_left, Contains-append_right}
use Rattle.armus_base.specs.declared.ids.TaskId.{TaskId}
use Rattle.armus_base.specs.declared.op.Op.{Op}
use Rattle.armus_base.specs.declared.op.Op.TheVariants.{Make, Reg, Fork, Adv, Drop, Await}
use Rattle.armus_base.specs.Plans.{Plan, action_at, actions, actions_of, code_of}
use Rattle.armus_base.proofs.Elements.{Contains-head}
use Rattle.armus_base.proofs.Lists.{slice_get-set_other}
use Rattle.board_runs.specs.calls.Turns.{Working}
use Rattle.board_runs.specs.calls.TaskSeats.{done_of, own_number}
use Rattle.board_runs.proofs.Between.{to_each}
use Rattle.task_runner.specs.inside.Pooled.{AreForksMarked, AreClosedUnderForks, ContainsTask}

-- one op ahead of a code
pub one_op :
    (op : Op) (ops : List Op) (left : ℕ) (marks : List Bool) → ((c : TaskId) → op ≡ Fork c → slice_get marks c.0 ≡ Some true) →
    AreForksMarked ops (left - length (actions_of (op ∷ []))) marks → AreForksMarked (op ∷ ops) left marks
one_op (Make p) ops left marks here rest zero c l is = absurd (cc)
one_op (Make p) ops left marks here rest (suc j) c l is = rest j c (omega arith) is
one_op (Reg d p) ops left marks here rest zero c l is = absurd (cc)
one_op (Reg d p) ops left marks here rest (suc j) c l is = rest j c (omega arith) is
one_op (Fork d) ops left marks here rest zero c l is = (let same : d.0 ≡ c = cc in subst (λ t. slice_get marks t ≡ Some true) same (here d refl))
one_op (Fork d) ops left marks here rest (suc j) c l is = rest j c (omega arith) is
one_op (Adv p) ops left marks here rest zero c l is = absurd (cc)
one_op (Adv p) ops left marks here rest (suc j) c l is = rest j c (omega arith) is
one_op (Drop p) ops left marks here rest zero c l is = absurd (cc)
one_op (Drop p) ops left marks here rest (suc j) c l is = rest j c (omega arith) is
one_op (Await p off) ops left marks here rest zero c l is = absurd (cc)
one_op (Await p off) ops left marks here rest (suc zero) c l is = absurd (cc)
one_op (Await p off) ops left marks here rest (suc (suc j)) c l is = rest j c (omega arith) is

-- no actions, or no code
pub none_done : (code : List Op) (left : ℕ) (marks : List Bool) → left ≡ 0 → AreForksMarked code left marks
none_done code left marks none j c l is = absurd (omega arith)

pub no_code : (code : List Op) (left : ℕ) (marks : List Bool) → code ≡ [] → AreForksMarked code left marks
no_code code left marks none = subst (λ ops. AreForksMarked ops left marks) (sym none) (λ j c l is. absurd (cc))

-- nothing is marked at first
pub unmarked : (n t : ℕ) → slice_get (replicate n false) t ≡ Some true → ⊥
unmarked zero t is = absurd (cc)
unmarked (suc n) zero is = absurd (cc)
unmarked (suc n) (suc t) is = unmarked n t is

-- one more task is marked
pub one_marked :
    (tasks : List Working) (w : Working) (first marks : List Bool) (n : ℕ) → n ≡ own_number w → n < length marks →
    ((t : ℕ) → slice_get marks t ≡ Some true → ContainsTask tasks t ⊎ (slice_get first t ≡ Some true)) →
    (t : ℕ) → slice_get (set marks n true) t ≡ Some true → ContainsTask (tasks ++ w ∷ []) t ⊎ (slice_get first t ≡ Some true)
one_marked tasks w first marks n num l before t is = elim (cases_eq t n) [
  | inl same ↦ inl (w, Contains-append_right tasks (w ∷ []) w (Contains-head w []), sym num ∙ sym same)
  | inr other ↦ elim (before t (sym (slice_get-set_other marks n t true other) ∙ is)) [
    | inl worker_value ↦ inl (worker_value.0, Contains-append_left tasks (w ∷ []) worker_value.0 worker_value.1, worker_value.2)
    | inr old ↦ inr old
  ]
]

-- where only tasks in hand are marked, and all that were forked are
pub whole_marked :
    (plan : Plan) (tasks : List Working) (marks : List Bool) → ((t : ℕ) → slice_get marks t ≡ Some true → ContainsTask tasks t) → slice_get marks 0 ≡ Some true →
    All (λ task. AreForksMarked (code_of plan (own_number task)) (done_of task) marks) tasks → AreClosedUnderForks plan tasks
unfolding action_at actions
whole_marked plan tasks marks worker_value root all =
    record {
      root = worker_value 0 root;
      forked = λ w i j c l is. worker_value c (to_each (λ task. AreForksMarked (code_of plan (own_number task)) (done_of task) marks) tasks all w i j c l is);
    }
