-- What passes between a program and the outside in a call: what is read, what is written, the faults that are counted, and how a call may end.
use Rattle.std.specs.Prelude.{◌≡◌, ◌≢◌, ◌≤◌, ◌<◌, ◌⊎◌, ℕ, ◌+◌, Bool, true, [], length, Option, Some, None, IsSome}
use Rattle.std.specs.Io.KnownBytes.{Consumes, Appends, Keeps, IsAtEnd}
use Rattle.armus_base.specs.Causes.{Rose, counted}
use Rattle.armus_base.specs.ReadAll.{ReadFront, TookFront}
use Rattle.program_io.specs.Texts.{Text}

-- a source or a sink at the beginning and at the end of a call: the bytes left or taken, where it tells them, and its faults
pub record Passage : Type 0 where
  pub before : Option Text
  pub after : Option Text
  pub faults_before : ℕ
  pub faults_after : ℕ

-- no fault was counted
abbrev pub IsSound : Passage → Type 0
IsSound d = d.faults_after ≡ d.faults_before

-- one fault was counted
abbrev pub HasCountedFault : Passage → Type 0
HasCountedFault d = d.faults_after ≡ counted d.faults_before

-- the input of a command: all that the source gave up to its end, not too long; or nothing, where the command does not read
abbrev pub HasInput : Option ℕ → Passage → Text → Type 0
HasInput (Some limit) src input = Consumes src.before src.after input × IsAtEnd src.after × (length input ≤ limit)
HasInput None src input = input ≡ []

-- the source gave one byte more than an input may have
abbrev pub GaveTooMuch : Option ℕ → Passage → Type 0
GaveTooMuch (Some limit) src = ReadFront src.before src.after (λ bytes. length bytes ≡ limit + 1)
GaveTooMuch None src = ⊥

-- the whole text was taken
abbrev pub Took : Passage → Text → Type 0
Took out text = Appends out.before out.after text

-- some first bytes were taken of one of these outputs, each with its status
abbrev pub TookPartOf : (ℕ → Text → Type 0) → Passage → Type 0
TookPartOf outputs out = (status : ℕ) × (text : Text) × outputs status text × TookFront out.before out.after text

-- no more than one byte over the limit was read; where nothing is to be read, nothing was
abbrev pub ReadNoMore : Option ℕ → Passage → Type 0
ReadNoMore (Some limit) src = ReadFront src.before src.after (λ bytes. length bytes ≤ limit + 1)
ReadNoMore None src = Keeps src.before src.after

-- nothing was taken; or, where lines are written while it runs, some first bytes of one of these outputs
abbrev pub TookNothing : (ℕ → Text → Type 0) → Bool → Passage → Type 0
TookNothing outputs lines out = Keeps out.before out.after ⊎ ((lines ≡ true) × TookPartOf outputs out)

-- How a call may end, and with which number, that may write one of these outputs, each with its status, reads an input with this limit, or none, and writes
-- lines while it runs or not: the whole output, a fault of the source, a fault of the sink, want of memory. The program that explains runs ends so too.
pub data EndsWith (outputs : ℕ → Text → Type 0) (limit : Option ℕ) (lines : Bool) (src out : Passage) (number : ℕ) : Type 0 where
  whole : (text : Text) → outputs number text → Took out text → IsSound src → IsSound out → EndsWith outputs limit lines src out number
  read_fault : number ≡ 4 → IsSome limit → HasCountedFault src → ReadNoMore limit src → IsSound out → Keeps out.before out.after
      → EndsWith outputs limit lines src out number
  write_fault : number ≡ 5 → IsSound src → HasCountedFault out → TookPartOf outputs out → EndsWith outputs limit lines src out number
  no_memory : number ≡ 6 → IsSound src → ReadNoMore limit src → IsSound out → TookNothing outputs lines out → EndsWith outputs limit lines src out number

-- the source tells its bytes and has this input for the command
abbrev pub Offers : Option ℕ → Passage → Text → Type 0
Offers (Some limit) src input = (src.before ≡ Some input) × (length input ≤ limit)
Offers None src input = input ≡ []

-- the source tells its bytes and has more than an input may have
abbrev pub OffersTooMuch : Option ℕ → Passage → Type 0
OffersTooMuch (Some limit) src = (bytes : Text) × (src.before ≡ Some bytes) × (limit < length bytes)
OffersTooMuch None src = ⊥

-- neither count of faults rose, and memory sufficed
pub record IsCalm (src out : Passage) (number : ℕ) : Type 0 where
  pub source : Rose src.faults_before src.faults_after → ⊥
  pub sink : Rose out.faults_before out.faults_after → ⊥
  pub memory : number ≢ 6
