use Rattle.std.proofs.Common.{◌≡◌, ◌++◌, ◌∙◌, ap, length, refl, sym, subst, arith}
use Rattle.std.specs.Int.{w32, to_be_bytes}
use Rattle.sites.specs.calls.Checks.{part_of}
use Rattle.sites.specs.calls.Rows.{IsRowOf}
use Rattle.sites.proofs.PuttingParts.{written_more, written_none, written_row}
use Rattle.sites.proofs.parts.part_row.Goals as goal

pub loop-status-init : goal.loop-status-init
loop-status-init c =
    let part = part_of c.args.sites c.args.site c.args.list.now in
    written_none c.args.sites c.args.site (to_be_bytes w32 (length part)) c.args.list.now c.put_number.new.out.items
    (c.in_ok-put_number.ensures ∙ ap (λ n. c.new-row.result.items ++ to_be_bytes w32 n) c.count_own.ensures
    ∙ ap (λ v. v ++ to_be_bytes w32 (length part)) c.new-row.ensures.items)

pub loop-status-preserved : goal.loop-status-preserved
loop-status-preserved c =
    let own = c.in_ok-put_own.ensures in
    written_more c.args.sites c.args.site (to_be_bytes w32 (length (part_of c.args.sites c.args.site c.args.list.now))) c.args.list.now c.loop-status.status-index
    c.status-item.result c.loop-status.row.items c.put_own.new.out.items c.loop-status-test.true c.status-item.is c.loop-status.invariant own.own own.other

pub returns : goal.returns
returns c =
    let whole : c.loop-status.row.items ≡ c.from_vec.result = sym c.from_vec.ensures.items in
    subst (IsRowOf c.args.sites c.args.site (part_of c.args.sites c.args.site c.args.list.now)) whole
    (written_row c.args.sites c.args.site (to_be_bytes w32 (length (part_of c.args.sites c.args.site c.args.list.now))) c.args.list.now c.loop-status.status-index
    c.loop-status.row.items (let l = c.loop-status-test.false in omega arith) c.requires.in_order c.requires.few refl c.loop-status.invariant)
