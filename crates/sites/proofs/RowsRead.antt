-- What the two halves of decoding say together.
use Rattle.std.proofs.Common.{◌≡◌, ℕ, List, Some, sym, subst, ◌∙◌}
use Rattle.std.specs.Prelude.{Result, Err}
use Rattle.std.proofs.lemmas.List.Elements.{All-from_recursion}
use Rattle.armus_base.specs.declared.status.Status.{Status}
use Rattle.sites.specs.declared.ends.DecodeEnd.{DecodeEnd}
use Rattle.sites.specs.declared.ends.DecodeEnd.TheVariants.{Bad, NoMemory}
use Rattle.sites.specs.declared.snapshot.Snapshot.{Snapshot}
use Rattle.sites.specs.calls.Rows.{IsBadRow, IsRowOf}
use Rattle.sites.specs.inside.Reading.{FailsToRead, MayBeStored, row_at}
use Rattle.sites.proofs.Fields.{IsBytes, some_is}
use Rattle.sites.proofs.OneList.{row_is_read}
use Rattle.sites.proofs.RowFields.{FitsRow, row_takes}

abbrev pub failed : DecodeEnd → Result Snapshot DecodeEnd
failed e = Err e

-- what cannot be read is the row of nothing
pub unread_is_bad : (sites site : ℕ) (row : List ℕ) (e : DecodeEnd) → FailsToRead e (row_at row) → failed e ≡ failed Bad → IsBadRow sites site row
unread_is_bad sites site row NoMemory fails same ss is = absurd cc
unread_is_bad sites site row Bad fails same ss is = (let read = row_is_read sites site ss row is in absurd cc)

-- nor is what stores what the site may not store
pub unfit_is_bad : (sites site : ℕ) (row : List ℕ) (ss : List Status) → row_at row ≡ Some ss → (MayBeStored sites site ss → ⊥) → IsBadRow sites site row
unfit_is_bad sites site row ss read unfit rs is =
    let same : rs ≡ ss = some_is rs ss (sym (row_is_read sites site rs row is) ∙ read) in
    unfit (subst (MayBeStored sites site) same (record { in_order = is.stored.in_order; few = is.stored.few; own = is.stored.own }))

-- what is read and may be stored is what the row stores
pub fit_is_row : (sites site : ℕ) (row : List ℕ) (ss : List Status) → IsBytes row → row_at row ≡ Some ss → MayBeStored sites site ss → IsRowOf sites site ss row
fit_is_row sites site row ss bytes read fit =
    let is = row_takes row ss bytes read in
    record {
      stored = record {
        in_order = fit.in_order;
        few = fit.few;
        own = fit.own;
        numbers = λ k d l. (All-from_recursion FitsRow ss is.fits k d l).numbers;
      };
      bytes = is.row;
    }
