-- A text's program has a layout.
use Rattle.std.proofs.Common.{◌≡◌, ℕ, List, refl}
use Rattle.pl_syntax.specs.Grammar.{IsText}
use Rattle.pl_syntax.specs.declared.tree.Program.{Program}
use Rattle.pl_syntax.proofs.StatementsStand.{ends_exist, offsets_exist}
use Rattle.explain_facts.specs.Accounts.{IsLayout, Layout}

pub layout_exists : (text : List ℕ) (p : Program) → IsText text p → (l : Layout) × (l.text ≡ text) × IsLayout p l
layout_exists text p is =
    let (offsets, begin) = offsets_exist text p is in
    let (ends, end) = ends_exist text p is in
    (record { text = text; offsets = offsets; ends = ends }, refl, record { offsets = begin; ends = end })
