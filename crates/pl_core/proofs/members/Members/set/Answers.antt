use Rattle.std.proofs.Common.{◌≡◌, ◌∙◌, ℕ, None, Option, Some, refl, subst, sym}
use Rattle.pl_core.specs.inside.Cells.{StandsIn}
use Rattle.pl_core.proofs.Cells.{among_none}
use Rattle.pl_core.proofs.members.Members.set.Goals as goal

none_unless : (o : Option ℕ) → ((n : ℕ) → o ≡ Some n → ⊥) → o ≡ None
none_unless None h = refl
none_unless (Some n) h = absurd (h n refl)

pub returns-in_default-clause-here : goal.returns-in_default-clause-here
returns-in_default-clause-here c =
    let none = subst (λ xs. StandsIn xs c.args.t → ⊥) c.deref.ensures.value c.in_default.ensures in
    among_none c.args.self.now.cells.items c.args.t none ∙ sym (none_unless c.args.phase (λ n e. none (c.requires.cell n e)))
