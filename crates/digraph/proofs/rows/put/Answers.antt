use Rattle.std.proofs.Common.{subst, sym, inl, inr}
use Rattle.std.specs.Prelude.{Contains, insert}
use Rattle.digraph.proofs.RowLemmas.{searched_row, All-insert, Ascends-insert, Contains-from_insert, Contains-insert, Contains-insert_itself, insert_absent}
use Rattle.digraph.proofs.rows.put.Goals as goal

pub returns-in_ok-insert-in-Err-clause-ascends : goal.returns-in_ok-insert-in-Err-clause-ascends
returns-in_ok-insert-in-Err-clause-ascends c =
    let at = searched_row c.args.row.now.items c.args.b c.in-Err.place c.binary_search.result c.in-Err.is
    (rw c.deref.ensures.value at c.binary_search.ensures.position) c.requires in
    rw c.in_ok-insert-in-Err.ensures.items (Ascends-insert _ _ _ at.0 c.requires at.1 at.2)

pub returns-in_ok-insert-in-Err-clause-members : goal.returns-in_ok-insert-in-Err-clause-members
returns-in_ok-insert-in-Err-clause-members c =
    let at = searched_row c.args.row.now.items c.args.b c.in-Err.place c.binary_search.result c.in-Err.is
    (rw c.deref.ensures.value at c.binary_search.ensures.position) c.requires in
    rw c.in_ok-insert-in-Err.ensures.items
    (λ x. (
      Contains-from_insert _ _ _ at.0 x,
      λ h. elim h [
        | inl l ↦ Contains-insert _ _ _ at.0 x l
        | inr r ↦
            subst (λ y. Contains (insert c.args.row.now.items c.in-Err.place c.args.b) y) (sym r) (Contains-insert_itself _ _ _ at.0)
      ],
    ))

pub returns-in_ok-insert-in-Err-clause-fresh : goal.returns-in_ok-insert-in-Err-clause-fresh
returns-in_ok-insert-in-Err-clause-fresh c =
    let at = searched_row c.args.row.now.items c.args.b c.in-Err.place c.binary_search.result c.in-Err.is
    (rw c.deref.ensures.value at c.binary_search.ensures.position) c.requires in
    insert_absent _ _ _ at.0 c.requires at.1 at.2

pub returns-in_ok-insert-in-Err-clause-within : goal.returns-in_ok-insert-in-Err-clause-within
returns-in_ok-insert-in-Err-clause-within c n lt below =
    let at = searched_row c.args.row.now.items c.args.b c.in-Err.place c.binary_search.result c.in-Err.is
    (rw c.deref.ensures.value at c.binary_search.ensures.position) c.requires in
    rw c.in_ok-insert-in-Err.ensures.items (All-insert _ _ _ at.0 n lt below)
