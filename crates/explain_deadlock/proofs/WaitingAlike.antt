-- Of whom the same is said as of a task that waits, who stands as it does, and has its impeders and its next.
use Rattle.std.proofs.Common.{◌≡◌, ℕ, Bool, true, Option, Some, None, List, [], arith, sym, ◌∙◌, ap, refl}
use Rattle.std.specs.Prelude.{length, option_map, slice_index_or}
use Rattle.std.proofs.lemmas.Bool.{false≢true}
use Rattle.armus_base.specs.declared.event.Event.{Event}
use Rattle.armus_base.specs.declared.ids.TaskId.{TaskId}
use Rattle.armus_base.specs.States.{Phases}
use Rattle.explain_facts.specs.declared.account.Waiting.{Waiting}
use Rattle.explain_tasks.specs.declared.impeders.Impeder.{Impeder}
use Rattle.explain_tasks.specs.declared.situation.Situation.{Situation}
use Rattle.explain_tasks.specs.declared.situation.Situation.TheVariants.{Deadlocked, Held, HasEnded, NeverForked, NotForkedYet}
use Rattle.explain_tasks.specs.Facts.{FactsValue, forking_of, is_waiting, situation_of, wait_of}
use Rattle.explain_tasks.specs.Impeders.{impeders_by, impeders_in, impeders_by_facts}
use Rattle.explain_tasks.specs.Nexts.{next_by, next_of}
use Rattle.explain_tasks.specs.Sayings.{Said, own_said, said_as, same_said}
use Rattle.explain_tasks.proofs.Filters.{passed_is}
use Rattle.explain_tasks.proofs.SameSaid.{same_said_is}
use Rattle.explain_deadlock.specs.Laws.{WaitAlike}
use Rattle.explain_deadlock.specs.Paragraphs.{explained_tasks}

-- the first byte of what is said behind the name
abbrev first_byte : Said → ℕ
first_byte said = slice_index_or said.words 0 0

-- the impeders of a task that waits so, by the event alone
abbrev by_event : ℕ → (ℕ → Phases) → Option Event → List Impeder
by_event n phases None = []
by_event n phases (Some e) = impeders_in n phases e

impeders_by_event : (n : ℕ) (phases : ℕ → Phases) (o : Option Waiting) → impeders_by n phases o ≡ by_event n phases (option_map (λ (w : Waiting). w.event) o)
impeders_by_event n phases None = refl
impeders_by_event n phases (Some w) = refl

module _ (f : FactsValue) (phases : ℕ → Phases) (t u : ℕ) where
  abbrev Alike : Type 0
  Alike = (situation_of f u ≡ situation_of f t) × (impeders_by_facts f phases u ≡ impeders_by_facts f phases t) × (next_of f phases u ≡ next_of f phases t)

  module _ (event : option_map (λ (w : Waiting). w.event) (wait_of f t) ≡ option_map (λ (w : Waiting). w.event) (wait_of f u)) where
    impeded : impeders_by_facts f phases u ≡ impeders_by_facts f phases t
    impeded =
        let n = length f.standings in
        impeders_by_event n phases (wait_of f u) ∙ ap (by_event n phases) (sym event) ∙ sym (impeders_by_event n phases (wait_of f t))

    next_as : (s : Situation) → ((xs : List Impeder) → next_by f xs (forking_of f u) s ≡ next_by f xs (forking_of f t) s) → situation_of f t ≡ s → situation_of f u ≡ s →
        next_of f phases u ≡ next_of f phases t
    next_as s same is also =
        ap (next_by f (impeders_by_facts f phases u) (forking_of f u)) also
        ∙ same (impeders_by_facts f phases u)
        ∙ ap (λ xs. next_by f xs (forking_of f t) s) impeded
        ∙ ap (next_by f (impeders_by_facts f phases t) (forking_of f t)) (sym is)

  by_stands : (s r : Situation) → situation_of f t ≡ s → situation_of f u ≡ r → is_waiting s ≡ true → said_as f t s ≡ said_as f u r → Alike
  by_stands Deadlocked Deadlocked is also waits same =
      let event = ap (λ (x : Said). x.event) same in (also ∙ sym is, impeded event, next_as event Deadlocked (λ xs. refl) is also)
  by_stands Held Held is also waits same =
      let event = ap (λ (x : Said). x.event) same in (also ∙ sym is, impeded event, next_as event Held (λ xs. refl) is also)
  by_stands Deadlocked Held is also waits same = let x : 100 ≡ 104 = ap first_byte same in absurd (omega (arith, x))
  by_stands Deadlocked HasEnded is also waits same = let x : 100 ≡ 0 = ap first_byte same in absurd (omega (arith, x))
  by_stands Deadlocked NotForkedYet is also waits same = let x : 100 ≡ 110 = ap first_byte same in absurd (omega (arith, x))
  by_stands Deadlocked NeverForked is also waits same = let x : 100 ≡ 110 = ap first_byte same in absurd (omega (arith, x))
  by_stands Held Deadlocked is also waits same = let x : 104 ≡ 100 = ap first_byte same in absurd (omega (arith, x))
  by_stands Held HasEnded is also waits same = let x : 104 ≡ 0 = ap first_byte same in absurd (omega (arith, x))
  by_stands Held NotForkedYet is also waits same = let x : 104 ≡ 110 = ap first_byte same in absurd (omega (arith, x))
  by_stands Held NeverForked is also waits same = let x : 104 ≡ 110 = ap first_byte same in absurd (omega (arith, x))
  by_stands HasEnded r is also waits same = absurd (false≢true waits)
  by_stands NotForkedYet r is also waits same = absurd (false≢true waits)
  by_stands NeverForked r is also waits same = absurd (false≢true waits)

pub wait_alike : WaitAlike
wait_alike f phases said t u m n waits =
    let test : TaskId → Bool = λ x. same_said said (own_said f x.0) in
    let of_t = same_said_is said (own_said f t.0) (passed_is test (explained_tasks f) t m).1 in
    let of_u = same_said_is said (own_said f u.0) (passed_is test (explained_tasks f) u n).1 in
    by_stands f phases t.0 u.0 (situation_of f t.0) (situation_of f u.0) refl refl waits (sym of_t ∙ of_u)
