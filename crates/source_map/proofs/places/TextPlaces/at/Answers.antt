use Rattle.std.proofs.Common.{rules, ◌≡◌, ◌+◌, ◌-◌, ◌∙◌, ap, subst, sym, arith, leb}
use Rattle.std.proofs.lemmas.List.Sorted.{IsPartitionPoint-from_clause, IsPartitionedBy-leb}
use Rattle.std.specs.List.Sorted.{IsNonDecreasingBy}
use Rattle.source_map.specs.TextPlaces.{place_by, text_place}
use Rattle.source_map.specs.declared.places.TextLine.{TextLine}
use Rattle.source_map.specs.inside.Rows.{line_row}
use Rattle.source_map.proofs.Found.{lines_fit, parted, place_at_end, placed_in, row_before, rows_ascend}
use Rattle.source_map.proofs.places.TextPlaces.at.Goals as goal

pub overflow_sub-index : goal.overflow_sub-index
overflow_sub-index c =
    let is = c.deref.ensures.value ∙ c.self.invariant.0 in
    let up = subst (IsNonDecreasingBy (λ (l : TextLine). l.begin)) (sym is) (rows_ascend c.self.inside.text.now) in
    let point = IsPartitionPoint-from_clause (λ (l : TextLine). leb l.begin c.min-offset.result) _ _ c.partition_point-index.ensures.partitioned
    (IsPartitionedBy-leb (λ (l : TextLine). l.begin) _ c.min-offset.result up) (λ a r q k. search rules) in
    let stands = parted c.self.inside.text.now _ c.min-offset.result c.args.offset _ is c.min-offset.ensures c.partition_point-index.ensures.bound point in
    stands.some

pub overflow_cast-index : goal.overflow_cast-index
overflow_cast-index c =
    let is = c.deref.ensures.value ∙ c.self.invariant.0 in
    let up = subst (IsNonDecreasingBy (λ (l : TextLine). l.begin)) (sym is) (rows_ascend c.self.inside.text.now) in
    let point = IsPartitionPoint-from_clause (λ (l : TextLine). leb l.begin c.min-offset.result) _ _ c.partition_point-index.ensures.partitioned
    (IsPartitionedBy-leb (λ (l : TextLine). l.begin) _ c.min-offset.result up) (λ a r q k. search rules) in
    let stands = parted c.self.inside.text.now _ c.min-offset.result c.args.offset _ is c.min-offset.ensures c.partition_point-index.ensures.bound point in
    let few = lines_fit c.self.inside.text.now c.min-offset.result c.partition_point-index.result stands in
    let short = c.self.invariant.1 in omega (arith, few, short)

pub place-requires-clause-number : goal.place-requires-clause-number
place-requires-clause-number c =
    let is = c.deref.ensures.value ∙ c.self.invariant.0 in
    let up = subst (IsNonDecreasingBy (λ (l : TextLine). l.begin)) (sym is) (rows_ascend c.self.inside.text.now) in
    let point = IsPartitionPoint-from_clause (λ (l : TextLine). leb l.begin c.min-offset.result) _ _ c.partition_point-index.ensures.partitioned
    (IsPartitionedBy-leb (λ (l : TextLine). l.begin) _ c.min-offset.result up) (λ a r q k. search rules) in
    let stands = parted c.self.inside.text.now _ c.min-offset.result c.args.offset _ is c.min-offset.ensures c.partition_point-index.ensures.bound point in
    let few = lines_fit c.self.inside.text.now c.min-offset.result c.partition_point-index.result stands in
    let short = c.self.invariant.1 in omega (arith, few, short)

pub place-requires-clause-behind : goal.place-requires-clause-behind
place-requires-clause-behind c =
    let is = c.deref.ensures.value ∙ c.self.invariant.0 in
    let up = subst (IsNonDecreasingBy (λ (l : TextLine). l.begin)) (sym is) (rows_ascend c.self.inside.text.now) in
    let point = IsPartitionPoint-from_clause (λ (l : TextLine). leb l.begin c.min-offset.result) _ _ c.partition_point-index.ensures.partitioned
    (IsPartitionedBy-leb (λ (l : TextLine). l.begin) _ c.min-offset.result up) (λ a r q k. search rules) in
    let stands = parted c.self.inside.text.now _ c.min-offset.result c.args.offset _ is c.min-offset.ensures c.partition_point-index.ensures.bound point in
    let row : c.index.result.now ≡ line_row c.self.inside.text.now (c.partition_point-index.result - 1) =
    c.index.ensures ∙ row_before c.self.inside.text.now _ c.min-offset.result _ _ c.self.invariant.0 stands in
    let behind = stands.behind in let begin = ap (λ (l : TextLine). l.begin) row in omega (arith, behind, begin)

pub returns : goal.returns
returns c =
    let is = c.deref.ensures.value ∙ c.self.invariant.0 in
    let up = subst (IsNonDecreasingBy (λ (l : TextLine). l.begin)) (sym is) (rows_ascend c.self.inside.text.now) in
    let point = IsPartitionPoint-from_clause (λ (l : TextLine). leb l.begin c.min-offset.result) _ _ c.partition_point-index.ensures.partitioned
    (IsPartitionedBy-leb (λ (l : TextLine). l.begin) _ c.min-offset.result up) (λ a r q k. search rules) in
    let stands = parted c.self.inside.text.now _ c.min-offset.result c.args.offset _ is c.min-offset.ensures c.partition_point-index.ensures.bound point in
    let row : c.index.result.now ≡ line_row c.self.inside.text.now (c.partition_point-index.result - 1) =
    c.index.ensures ∙ row_before c.self.inside.text.now _ c.min-offset.result _ _ c.self.invariant.0 stands in
    record {
      place =
          c.place.ensures
          ∙ (ap (λ (l : TextLine). place_by l.named (c.partition_point-index.result - 1 + 1) (c.min-offset.result - l.begin + 1)) row
          ∙ (sym (placed_in c.self.inside.text.now c.min-offset.result c.partition_point-index.result stands)
          ∙ (ap (text_place c.self.inside.text.now) c.min-offset.ensures
          ∙ (place_at_end c.self.inside.text.now c.args.offset ∙ ap (λ xs. text_place xs c.args.offset) c.self.view_is))));
    }
