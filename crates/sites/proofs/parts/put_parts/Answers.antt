use Rattle.std.proofs.Common.{◌≡◌, ◌∙◌, ◌<◌, sym, refl, subst, length, arith}
use Rattle.sites.specs.calls.Parts.{PutsParts}
use Rattle.sites.specs.inside.Putting.{HavePut}
use Rattle.sites.proofs.PuttingParts.{put_more, put_none, puts_parts}
use Rattle.sites.proofs.parts.put_parts.Goals as goal

pub loop-site-init : goal.loop-site-init
loop-site-init g c = record { faults = refl; put = put_none c.args.sites c.args.list.now (g.K.Keeper.rows c.args.keeper.now) }

pub loop-site-preserved : goal.loop-site-preserved
loop-site-preserved g c =
    let i = c.loop-site.invariant in
    let old = g.K.Keeper.rows c.args.keeper.now in
    let rows = g.K.Keeper.rows c.loop-site.keeper in
    let room : c.loop-site.site < length rows = (let l = c.loop-site-test.true in let kept = i.put.count in let have = c.requires.kept in omega arith) in
    record {
      faults = c.in_ok-put_part.ensures.count ∙ i.faults;
      put = put_more c.args.sites c.loop-site.site c.args.list.now old rows (g.K.Keeper.rows c.put_part.new.keeper) i.put room c.in_ok-put_part.ensures.ok;
    }

pub returns-in_err-put_part-clause-rows : goal.returns-in_err-put_part-clause-rows
returns-in_err-put_part-clause-rows g c =
    let old = g.K.Keeper.rows c.args.keeper.now in
    subst (PutsParts c.args.sites c.args.list.now old) (sym c.in_err-put_part.ensures.err)
    (puts_parts c.args.sites c.loop-site.site c.args.list.now old (g.K.Keeper.rows c.loop-site.keeper) c.loop-site.invariant.put)

pub returns : goal.returns
returns g c =
    let i = c.loop-site.invariant in
    let old = g.K.Keeper.rows c.args.keeper.now in
    let new = g.K.Keeper.rows c.loop-site.keeper in
    let same : c.loop-site.site ≡ c.args.sites = (let le = c.loop-site-test.false in let ge = c.loop-site.auto.site-end in omega arith) in
    let done : HavePut c.args.sites c.args.sites c.args.list.now old new = subst (λ k. HavePut c.args.sites k c.args.list.now old new) same i.put in
    record {
      rows = puts_parts c.args.sites c.args.sites c.args.list.now old new done;
      parts = done.put;
      count = i.faults;
    }
