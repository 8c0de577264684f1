-- Words have a meaning: they are a command, or they are none.
use Rattle.std.proofs.Common.{◌≡◌, ◌⊎◌, ◌<◌, List, [], ◌∷◌, ℕ, Bool, true, false, inl, inr, refl, sym, subst, arith, length}
use Rattle.std.specs.Prelude.{Option, Some, None}
use Rattle.std.specs.Str.{bytes_eq}
use Rattle.std.specs.Char.{digit_value}
use Rattle.std.specs.Str.Parse.{AllDigits, IsNumeral, digits_value}
use Rattle.std.proofs.lemmas.Bool.{cases_lt}
use Rattle.std.proofs.lemmas.Slice.Eq.{bytes_eq-Decides}
use Rattle.armus_base.specs.declared.run_limits.TheConstants.{MAX_SITES, MAX_WORKERS}
use Rattle.program_io.specs.Texts.{Text}
use Rattle.command_line.specs.Words.{Use, AreWords, has_value_alone}
use Rattle.command_line.specs.Commands.{AreWorkers, Given, IsCommand, IsGenerated, IsRunKind, IsWantedGraph, IsNumber, Means, Reads, first_of, given_by, graph_word}
use Rattle.command_line.specs.calls.Commands.{EachMeaning}
use Rattle.command_line.specs.inside.Form.{first_named, fits, free_at}
use Rattle.command_line.specs.declared.table.FirstWord.{FirstWord}
use Rattle.command_line.specs.declared.table.FirstWord.TheVariants as first
use Rattle.command_line.specs.declared.command.Graph.{Graph}
use Rattle.command_line.specs.declared.command.Graph.TheVariants.{Auto, Wfg, Sg, Grg}
use Rattle.command_line.specs.declared.command.Command.{Command}
use Rattle.command_line.specs.declared.command.Command.TheVariants.{Check, Run, Avoid, Record, Replay, Gen, Clock, Pool}
use Rattle.command_line.specs.declared.command.RunKind.{RunKind}
use Rattle.command_line.specs.declared.command.RunKind.TheVariants as kinds
use Rattle.command_line.specs.declared.table.TheConstants.{DEFAULT_WORKERS, MAX_GENERATED}
use Rattle.command_line.proofs.FormLemmas.{form_fits, form_from}
use Rattle.command_line.proofs.Meaning.{Begins, SameForm, avoid, begins_with, clock, generate, pool, record_run, run, same_form}

-- ---- the form

-- the words have the form of a command, or of none
abbrev HasFormOrNot : List Text → Type 0
HasFormOrNot words =
    ((f : FirstWord) × (uses : List Use) × (alone : Option Text) × AreWords words f uses alone)
    ⊎ ((f : FirstWord) (uses : List Use) (alone : Option Text) → AreWords words f uses alone → ⊥)

by_fit : (word : Text) (rest : List Text) (f : FirstWord) → first_named word ≡ Some f → (b : Bool) → fits false (free_at f) (has_value_alone f) rest ≡ b
    → HasFormOrNot (word ∷ rest)
by_fit word rest f named true is = inl (let d = form_from word rest f named is in (f, d.0, d.1, d.2))
by_fit word rest f named false is = inr (λ g uses alone form. other g (form_fits word rest g uses alone form).0 (form_fits word rest g uses alone form).1)
  where
    other : (g : FirstWord) → first_named word ≡ Some g → fits false (free_at g) (has_value_alone g) rest ≡ true → ⊥
    other g same does =
        let one : g ≡ f = cc in
        let fits_too = subst (λ h. fits false (free_at h) (has_value_alone h) rest ≡ true) one does in
        absurd (cc)

by_first : (word : Text) (rest : List Text) (found : Option FirstWord) → first_named word ≡ found → HasFormOrNot (word ∷ rest)
by_first word rest None named = inr (λ f uses alone form. let same = (form_fits word rest f uses alone form).0 in absurd (cc))
by_first word rest (Some f) named = by_fit word rest f named (fits false (free_at f) (has_value_alone f) rest) refl

form_or_not : (words : List Text) → HasFormOrNot words
form_or_not [] = inr (λ f uses alone form. let empty = form.words_are in absurd (cc))
form_or_not (word ∷ rest) = by_first word rest (first_named word) refl

-- ---- the values

-- something has this property, or nothing has
abbrev SomeOrNone : {A : Type 0} → (A → Type 0) → Type 0
SomeOrNone {A = A} P = ((a : A) × P a) ⊎ ((a : A) → P a → ⊥)

digits_or_not : (text : Text) → AllDigits 10 text ⊎ (AllDigits 10 text → ⊥)
digits_or_not [] = inl tt
digits_or_not (c ∷ cs) =
    elim (cases_lt (digit_value c) 10) [
      | inl small ↦ elim (digits_or_not cs) [ inl all ↦ inl (small, all) | inr none ↦ inr (λ is. none is.1) ]
      | inr large ↦ inr (λ is. absurd (let l = is.0 in omega arith))
    ]

some_or_empty : (text : Text) → (0 < length text) ⊎ (length text ≡ 0)
some_or_empty [] = inr refl
some_or_empty (c ∷ cs) = inl (omega arith)

numeral_or_not : (text : Text) → IsNumeral 10 text ⊎ (IsNumeral 10 text → ⊥)
numeral_or_not text =
    elim (some_or_empty text) [
      | inl some ↦ elim (digits_or_not text) [ inl all ↦ inl (some, all) | inr none ↦ inr (λ is. none is.1) ]
      | inr empty ↦ inr (λ is. absurd (let l = is.0 in omega arith))
    ]

number_or_not : (text : Text) (most : ℕ) → SomeOrNone (IsNumber text most)
number_or_not text most =
    elim (numeral_or_not text) [
      | inr none ↦ inr (λ n is. none is.digits)
      | inl digits ↦ elim (cases_lt 0 (digits_value 10 text)) [
        | inr zero_is ↦ inr (λ n is. absurd (let v = is.value in let f = is.from_one in omega arith))
        | inl some ↦ elim (cases_lt most (digits_value 10 text)) [
          | inl large ↦ inr (λ n is. absurd (let v = is.value in let t = is.to_most in omega arith))
          | inr small ↦ inl (digits_value 10 text, record { digits = digits; value = refl; from_one = omega arith; to_most = omega arith })
        ]
      ]
    ]

workers_or_not : (given : Option Text) → SomeOrNone (AreWorkers given)
workers_or_not (Some text) = number_or_not text MAX_WORKERS
workers_or_not None = inl (DEFAULT_WORKERS, refl)

kind_or_not : (live : Bool) (sites : Option Text) → SomeOrNone (IsRunKind live sites)
kind_or_not false None = inl (kinds.Plain, refl)
kind_or_not true None = inl (kinds.Live, refl)
kind_or_not true (Some text) = inr (λ kind is. is)
kind_or_not false (Some text) =
    elim (number_or_not text MAX_SITES) [ inl is ↦ inl (kinds.Sites is.0, (is.0, refl, is.1)) | inr none ↦ inr (λ kind is. none is.0 is.2) ]

generated_or_not : (given : Option Text) → SomeOrNone (IsGenerated given)
generated_or_not (Some text) = number_or_not text MAX_GENERATED
generated_or_not None = inr (λ n is. is)

same_or_not : (x y : Text) (b : Bool) → bytes_eq x y ≡ b → (x ≡ y) ⊎ (x ≡ y → ⊥)
same_or_not x y true is = inl ((bytes_eq-Decides x y).0 is)
same_or_not x y false is = inr (λ e. let yes : bytes_eq x y ≡ true = (bytes_eq-Decides x y).1 e in absurd (cc))

graph_or_not : (given : Option Text) → SomeOrNone (IsWantedGraph given)
graph_or_not None = inl (Auto, refl)
graph_or_not (Some text) =
    elim (same_or_not text (graph_word Auto) _ refl) [
      | inl e ↦ inl (Auto, e)
      | inr no_auto ↦ elim (same_or_not text (graph_word Wfg) _ refl) [
        | inl e ↦ inl (Wfg, e)
        | inr no_wfg ↦ elim (same_or_not text (graph_word Sg) _ refl) [
          | inl e ↦ inl (Sg, e)
          | inr no_sg ↦ elim (same_or_not text (graph_word Grg) _ refl) [
            | inl e ↦ inl (Grg, e)
            | inr no_grg ↦ inr (none no_auto no_wfg no_sg no_grg)
          ]
        ]
      ]
    ]
  where
    none : (text ≡ graph_word Auto → ⊥) → (text ≡ graph_word Wfg → ⊥) → (text ≡ graph_word Sg → ⊥) → (text ≡ graph_word Grg → ⊥)
        → (g : Graph) → text ≡ graph_word g → ⊥
    none a w s r Auto e = a e
    none a w s r Wfg e = w e
    none a w s r Sg e = s e
    none a w s r Grg e = r e

-- ---- the command

-- a command with this first word says what is given, or none does
abbrev ReadsOrNot : FirstWord → Given → Type 0
ReadsOrNot f given = ((c : Command) × (first_of c ≡ f) × Reads c given) ⊎ ((c : Command) → first_of c ≡ f → Reads c given → ⊥)

-- no command with this first word says what is given, where none of its form does
none_reads : (f : FirstWord) (given : Given) → ((c : Command) → Begins f c → Reads c given → ⊥) → (c : Command) → first_of c ≡ f → Reads c given → ⊥
none_reads f given none c e is = none c (begins_with f c e) is

-- a number of workers and a graph that are given
abbrev Works : Given → ℕ → Graph → Type 0
Works given w g = AreWorkers given.workers w × IsWantedGraph given.graph g

no_run : (given : Given) → ((w : ℕ) (g : Graph) → Works given w g → ⊥) → (c : Command) → Begins first.Run c → Reads c given → ⊥
no_run given none _ (run w g k) (few, wants, kind) = none w g (few, wants)

no_kind : (given : Given) → ((k : RunKind) → IsRunKind given.live given.sites k → ⊥) → (c : Command) → Begins first.Run c → Reads c given → ⊥
no_kind given none _ (run w g k) (few, wants, kind) = none k kind

no_pool : (given : Given) → ((w : ℕ) (g : Graph) → Works given w g → ⊥) → (c : Command) → Begins first.Pool c → Reads c given → ⊥
no_pool given none _ (pool w g) is = none w g is

no_avoid : (given : Given) → ((w : ℕ) (g : Graph) → Works given w g → ⊥) → (c : Command) → Begins first.Avoid c → Reads c given → ⊥
no_avoid given none _ (avoid w g k) is = none w g (is.0, is.1)

no_clock : (given : Given) → ((w : ℕ) (g : Graph) → Works given w g → ⊥) → (c : Command) → Begins first.Clock c → Reads c given → ⊥
no_clock given none _ (clock w g k) is = none w g (is.0, is.1)

no_record : (given : Given) → ((w : ℕ) → AreWorkers given.workers w → ⊥) → (c : Command) → Begins first.Record c → Reads c given → ⊥
no_record given none _ (record_run w) is = none w is

no_gen : (given : Given) → ((n : ℕ) → IsGenerated given.alone n → ⊥) → (c : Command) → Begins first.Gen c → Reads c given → ⊥
no_gen given none _ (generate n) is = none n is

-- a number of workers and a graph are given, or they are not
abbrev WorksOrNot : Given → Type 0
WorksOrNot given = ((w : ℕ) × (g : Graph) × (Works given w g)) ⊎ ((w : ℕ) (g : Graph) → Works given w g → ⊥)

works_or_not : (given : Given) → WorksOrNot given
works_or_not given =
    elim (workers_or_not given.workers) [
      | inr none ↦ inr (λ w g is. none w is.0)
      | inl some ↦ elim (graph_or_not given.graph) [
        | inr none ↦ inr (λ w g is. none g is.1)
        | inl graph ↦ inl (some.0, graph.0, (some.1, graph.1))
      ]
    ]

reads_or_not : (f : FirstWord) (given : Given) → ReadsOrNot f given
reads_or_not first.Check given = inl (Check given.print, refl, refl)
reads_or_not first.Run given =
    elim (works_or_not given) [
      | inr none ↦ inr (none_reads first.Run given (no_run given none))
      | inl is ↦ elim (kind_or_not given.live given.sites) [
        | inr none ↦ inr (none_reads first.Run given (no_kind given none))
        | inl kind ↦ inl (Run is.0 is.1 kind.0, refl, (is.2.0, is.2.1, kind.1))
      ]
    ]
reads_or_not first.Avoid given =
    elim (works_or_not given) [ inl is ↦ inl (Avoid is.0 is.1 given.kept, refl, (is.2.0, is.2.1, refl)) | inr none ↦ inr (none_reads first.Avoid given (no_avoid given none)) ]
reads_or_not first.Record given =
    elim (workers_or_not given.workers) [ inl is ↦ inl (Record is.0, refl, is.1) | inr none ↦ inr (none_reads first.Record given (no_record given none)) ]
reads_or_not first.Replay given = inl (Replay, refl, tt)
reads_or_not first.Gen given =
    elim (generated_or_not given.alone) [ inl is ↦ inl (Gen is.0, refl, is.1) | inr none ↦ inr (none_reads first.Gen given (no_gen given none)) ]
reads_or_not first.Clock given =
    elim (works_or_not given) [ inl is ↦ inl (Clock is.0 is.1 given.live, refl, (is.2.0, is.2.1, refl)) | inr none ↦ inr (none_reads first.Clock given (no_clock given none)) ]
reads_or_not first.Pool given =
    elim (works_or_not given) [ inl is ↦ inl (Pool is.0 is.1, refl, is.2) | inr none ↦ inr (none_reads first.Pool given (no_pool given none)) ]

module _ (words : List Text) where
  by_reading : (f : FirstWord) (uses : List Use) (alone : Option Text) → AreWords words f uses alone → ReadsOrNot f (given_by uses alone) → (c : Option Command) × Means words c
  by_reading f uses alone form (inl (c, first_is, reads)) =
      (Some c, record { uses = uses; alone = alone; form = subst (λ g. AreWords words g uses alone) (sym first_is) form; values = reads })
  by_reading f uses alone form (inr none) = (None, λ c is. other c is (same_form words (first_of c) f is.uses uses is.alone alone is.form form))
    where
      other : (c : Command) (is : IsCommand words c) → SameForm (first_of c) f is.uses uses is.alone alone → ⊥
      other c is same =
          let uses_are : is.uses ≡ uses = same.same.uses in
          let alone_is : is.alone ≡ alone = same.same.alone in
          let given_is : given_by is.uses is.alone ≡ given_by uses alone = cc in
          none c same.first (subst (Reads c) given_is is.values)

  meaning_of : (c : Option Command) × Means words c
  meaning_of =
      elim (form_or_not words) [
        | inl is ↦ by_reading is.0 is.1 is.2 is.3 (reads_or_not is.0 (given_by is.1 is.2))
        | inr none ↦ (None, λ c is. none (first_of c) is.uses is.alone is.form)
      ]

pub each_meaning : EachMeaning
each_meaning words = meaning_of words
