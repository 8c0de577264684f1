-- What is known fits the state of the run.
use Rattle.std.specs.Prelude.{◌≡◌, ℕ, true, IsSome, option_copied}
use Rattle.armus_base.specs.States.{Phases}
use Rattle.explain_tasks.specs.Facts.{FactsValue, is_waiting, situation_of}
use Rattle.explain_tasks.specs.Nexts.{next_of}
use Rattle.explain_deadlock.specs.declared.notes.NotedText.{NotedText}

-- a task that waits has a next
abbrev pub WaitForSome : FactsValue → (ℕ → Phases) → Type 0
WaitForSome f phases = (t : ℕ) → is_waiting (situation_of f t) ≡ true → IsSome (next_of f phases t)

-- what is known is of this text
pub record IsTextOf (f : FactsValue) (t : NotedText) : Type 0 where
  pub text : f.text ≡ t.places.now
  pub file : f.file ≡ option_copied t.file
  pub account : f.account ≡ t.account.now
