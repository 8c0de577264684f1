use Rattle.std.proofs.Common.{Err, ap, sym, subst, ◌+◌, ◌∙◌}
use Rattle.std.proofs.lemmas.Result.{err_from_is_err_and}
use Rattle.clock_pl.specs.inside.ClockChecker.{current, spelled_names}
use Rattle.clock_pl.proofs.Listing.{Listed, listed_err, listed_more, listed_all}
use Rattle.clock_pl.proofs.activities.clocks_of.Goals as goal

pub returns-in_err-p : goal.returns-in_err-p
returns-in_err-p c =
    let p = err_from_is_err_and c.from_residual.result c.from_residual.ensures.1 in
    listed_err c.args.n c.args.names.now (current c.args.checker.now) (spelled_names c.loop-name.listed.keys) c.loop-name.name-index c.loop-name.clocks
    c.loop-name.invariant c.as_bytes.result.now c.name-item.result c.loop-name-test.true (c.as_bytes.ensures.bytes ∙ c.name-item.is)
    c.in_err-p.field-0.0 c.from_residual.result (p.1 ∙ ap Err p.2) c.in_err-p.ensures.exact

pub loop-name-preserved : goal.loop-name-preserved
loop-name-preserved c =
    subst (Listed c.args.n c.args.names.now (current c.args.checker.now) (spelled_names c.clock_once.new.listed.keys) (c.loop-name.name-index + 1)) (sym c.in_ok-push.ensures.ok)
    (listed_more c.args.n c.args.names.now (current c.args.checker.now) (spelled_names c.loop-name.listed.keys) c.loop-name.name-index c.loop-name.clocks
    c.loop-name.invariant c.as_bytes.result.now c.name-item.result c.loop-name-test.true (c.as_bytes.ensures.bytes ∙ c.name-item.is)
    c.in_ok-p.p (spelled_names c.clock_once.new.listed.keys) c.in_ok-p.ensures.exact c.in_ok-p.ensures.listed)

pub returns : goal.returns
returns c =
    listed_all c.args.n c.args.names.now (current c.args.checker.now) (spelled_names c.loop-name.listed.keys) c.loop-name.name-index c.loop-name.clocks
    c.loop-name.invariant c.loop-name-test.false
