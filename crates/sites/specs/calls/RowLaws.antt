-- Laws about rows.
use Rattle.std.specs.Prelude.{◌≡◌, ℕ, List}
use Rattle.armus_base.specs.declared.status.Status.{Status}
use Rattle.sites.specs.calls.Rows.{IsRowOf}

-- a row has one list of statuses: so two snapshots of one site never share a row
abbrev pub HasOneList : Type 0
HasOneList = (sites site : ℕ) (ss rs : List Status) (row : List ℕ) → IsRowOf sites site ss row → IsRowOf sites site rs row → ss ≡ rs
