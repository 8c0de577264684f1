-- What is left where a text was to be written.
use Rattle.std.specs.Prelude.{◌≡◌, ◌⊎◌, ℕ}
use Rattle.armus_base.specs.ReadAll.{TookFront}
use Rattle.program_io.specs.Passages.{HasCountedFault, IsSound, Passage, Took}
use Rattle.program_io.specs.Texts.{Text}

-- the status after a whole output, or a write that failed
abbrev pub Finished : Passage → Text → ℕ → ℕ → Type 0
Finished out text status number = ((number ≡ status) × Took out text × IsSound out)
    ⊎ ((number ≡ 5) × HasCountedFault out × TookFront out.before out.after text)
