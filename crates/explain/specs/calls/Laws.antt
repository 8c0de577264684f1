-- What is proved of the outputs of a text.
use Rattle.std.specs.Prelude.{◌≡◌, ℕ}
use Rattle.program_io.specs.Texts.{Text}
use Rattle.explain.specs.Requests.{Form}

-- a text, told in one form, has one output of this kind at most, with one status
abbrev pub IsOneOutput : (Form → Text → ℕ → Text → Type 0) → Type 0
IsOneOutput Answers =
    (form : Form) (text : Text) (status other : ℕ) (lines others : Text) → Answers form text status lines → Answers form text other others →
    (status ≡ other) × (lines ≡ others)

-- and each text has one
abbrev pub EachHasOutput : (Form → Text → ℕ → Text → Type 0) → Type 0
EachHasOutput Answers = (form : Form) (text : Text) → (status : ℕ) × (lines : Text) × Answers form text status lines
