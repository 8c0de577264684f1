-- Whether nobody ever has to wait at a statement, by the marks of the whole walk.
use Rattle.std.proofs.Common.{◌≡◌, ◌∙◌, ◌+◌, ◌++◌, ◌≤◌, ◌&&◌, ℕ, suc, List, Bool, true, false, Option, Some, None, ap, arith, length, refl, slice_index_or, sym}
use Rattle.std.specs.Prelude.{if◌then◌else◌, not, option_to_list}
use Rattle.armus_base.specs.declared.event.Event.{Event}
use Rattle.armus_base.specs.Finals.{given_below}
use Rattle.armus_base.specs.Plans.{Plan}
use Rattle.pl_syntax.specs.Tree.{count}
use Rattle.pl_syntax.specs.declared.tree.Program.{Program}
use Rattle.explain_facts.specs.Accounts.{Layout, immediate_await, told_await}
use Rattle.explain_facts.specs.ImmediateAwaits.{is_late, is_shared, some_task_awaits}
use Rattle.explain_facts.specs.declared.account.ImmediateAwait.{ImmediateAwait}
use Rattle.explain_facts.specs.declared.immediate.AwaitWalk.{AwaitWalk}
use Rattle.explain_facts.specs.inside.Noted.{AreMarksAt, HasWalkedTo}

marked_in_all : (test : Option Event → Bool) (p : Program) (plan : Plan) (marks : List Bool) → AreMarksAt test p plan (length plan.parents) 0 marks → (n : ℕ) →
    n ≤ count p.body → slice_index_or marks n false ≡ some_task_awaits test p plan n
marked_in_all test p plan marks are n within = are.each n (omega arith)

chosen : (shared late : Bool) → late ≡ true → (shared && not late) ≡ false
chosen true true e = refl
chosen false true e = refl
chosen true false e = absurd (cc)
chosen false false e = absurd (cc)

module _ (l : Layout) (p : Program) (plan : Plan) (w : AwaitWalk) (walked : HasWalkedTo p plan (length plan.parents) 0 w) (n : ℕ) (within : n ≤ count p.body) where
  abbrev told : Bool → Option ImmediateAwait
  told b = if b then Some (told_await l p n) else None

  -- one awaits a later phase there
  pub not_told_late : slice_index_or w.late.items n false ≡ true → immediate_await l p plan n ≡ None
  not_told_late late =
      ap told (chosen (some_task_awaits (is_shared plan) p plan n) (some_task_awaits is_late p plan n)
      (sym (marked_in_all is_late p plan w.late.items walked.late n within) ∙ late))

  -- none does
  told_by_shared : (shared : Bool) → slice_index_or w.late.items n false ≡ false → slice_index_or w.shared.items n false ≡ shared → immediate_await l p plan n ≡ told shared
  told_by_shared shared early is =
      ap (λ b. told (some_task_awaits (is_shared plan) p plan n && not b)) (sym (marked_in_all is_late p plan w.late.items walked.late n within) ∙ early)
      ∙ ap (λ b. told (b && true)) (sym (marked_in_all (is_shared plan) p plan w.shared.items walked.shared n within) ∙ is)
      ∙ ap told (and_true shared)
    where
      and_true : (b : Bool) → (b && true) ≡ b
      and_true true = refl
      and_true false = refl

  pub is_told : slice_index_or w.late.items n false ≡ false → slice_index_or w.shared.items n false ≡ true → immediate_await l p plan n ≡ Some (told_await l p n)
  is_told early shared = told_by_shared true early shared

  pub not_told_alone : slice_index_or w.late.items n false ≡ false → slice_index_or w.shared.items n false ≡ false → immediate_await l p plan n ≡ None
  not_told_alone early alone = told_by_shared false early alone

-- what is told of one statement more
pub told_more : (f : ℕ → Option ImmediateAwait) (n : ℕ) (now next : List ImmediateAwait) (o : Option ImmediateAwait) → now ≡ given_below f n →
    next ≡ now ++ option_to_list o → o ≡ f n → next ≡ given_below f (n + 1)
told_more f n now next o so is from =
    let one : suc n ≡ n + 1 = omega arith in
    is ∙ ap (λ xs. xs ++ option_to_list o) so ∙ ap (λ x. given_below f n ++ option_to_list x) from ∙ ap (given_below f) one
