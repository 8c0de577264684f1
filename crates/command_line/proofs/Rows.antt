-- Rows that are added one by one, each of an option that has none yet.
use Rattle.std.proofs.Common.{◌≡◌, ◌∙◌, ◌++◌, List, [], ◌∷◌, ap, refl, Bool, true, false, ◌||◌, append-nil}
use Rattle.std.specs.Prelude.{Some, None}
use Rattle.std.specs.Str.{bytes_eq}
use Rattle.std.proofs.lemmas.Bool.{or_parts}
use Rattle.clap.specs.Words.{Row, Text}
use Rattle.clap.specs.Walk.{at_row, has_row, more_values, with_values, without}
use Rattle.clap.specs.declared.parser.matches.ValueSource.{ValueSource}
use Rattle.clap.specs.declared.builder.value_parser.Reading.{Reading}

pub or_true : (a b : Bool) → (a || b) ≡ true → a ≡ false → b ≡ true
or_true true b e f = absurd (cc)
or_true false b e f = e

pub at_row_missing : (id : Text) (change : Row → List Row) (missing rows : List Row) → has_row id rows ≡ false → at_row id change missing rows ≡ rows ++ missing
at_row_missing id change missing [] e = refl
at_row_missing id change missing (r ∷ rs) e =
    let parts = or_parts (bytes_eq r.id id) (has_row id rs) e in
    rw parts.0 (ap (λ t. r ∷ t) (at_row_missing id change missing rs parts.1))

pub fresh_row : (id : Text) (how : Reading) (source : ValueSource) (values : List Text) (rows : List Row) → has_row id rows ≡ false
    → with_values id how source values (without id rows)
    ≡ rows ++ record { id = id; values = values; count = None; source = Some source; reading = how } ∷ []
fresh_row id how source values rows e =
    let same : without id rows ≡ rows = at_row_missing id (λ _. []) [] rows e ∙ append-nil rows in
    ap (with_values id how source values) same ∙ at_row_missing id (more_values source values) _ rows e

pub has_row_pushed : (id : Text) (rows : List Row) (r : Row) → has_row id rows ≡ false → bytes_eq r.id id ≡ false → has_row id (rows ++ r ∷ []) ≡ false
has_row_pushed id [] r e f = rw f refl
has_row_pushed id (x ∷ xs) r e f =
    let parts = or_parts (bytes_eq x.id id) (has_row id xs) e in
    rw parts.0 (has_row_pushed id xs r parts.1 f)
