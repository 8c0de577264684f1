-- A row has one list of statuses.
use Rattle.std.proofs.Common.{◌≡◌, ℕ, List, Some, sym, ap, ◌∙◌, arith}
use Rattle.std.specs.List.{AllByRecursion}
use Rattle.std.proofs.lemmas.List.Elements.{recursion_from_All}
use Rattle.armus_base.specs.declared.status.Status.{Status}
use Rattle.sites.specs.calls.Rows.{AreOfSite, IsRowOf}
use Rattle.sites.specs.inside.Reading.{row_at}
use Rattle.sites.proofs.Fields.{some_is}
use Rattle.sites.proofs.RowFields.{FitsRow, row_again}

-- statuses in order with small numbers fit into a row
pub all_fit : (sites site : ℕ) (ss : List Status) → AreOfSite sites site ss → AllByRecursion FitsRow ss
all_fit sites site ss stored =
    recursion_from_All FitsRow ss (λ k d l. record { numbers = stored.numbers k d l; few = (let few = stored.in_order.few_phases k d l in omega arith) })

-- what is a row of a site's statuses is read as them
pub row_is_read : (sites site : ℕ) (ss : List Status) (row : List ℕ) → IsRowOf sites site ss row → row_at row ≡ Some ss
row_is_read sites site ss row is =
    ap row_at is.bytes ∙ row_again ss (all_fit sites site ss is.stored) (let few = is.stored.few in omega arith)

pub one_list_of : (sites site : ℕ) (ss rs : List Status) (row : List ℕ) → IsRowOf sites site ss row → IsRowOf sites site rs row → ss ≡ rs
one_list_of sites site ss rs row a b = some_is ss rs (sym (row_is_read sites site ss row a) ∙ row_is_read sites site rs row b)
