use Rattle.std.proofs.Common.{◌≡◌, ℕ, ◌<◌, ◌≤◌, List, length, sym, ◌∙◌, arith, false}
use Rattle.std.proofs.lemmas.Result.{err_from_is_err_and}
use Rattle.pl_syntax.specs.inside.Seen.{token_of}
use Rattle.pl_syntax.specs.inside.Reading.{listed_by}
use Rattle.pl_syntax.proofs.Fronts.{further}
use Rattle.pl_syntax.proofs.Turns.{begins, fails_front, stops, fails_at, goes_on}
use Rattle.clock_syntax.specs.inside.ClockReading.{closes_names, comma_name}
use Rattle.clock_syntax.proofs.ClockNames.{comma_ok, is_comma}
use Rattle.clock_syntax.proofs.reader.later_names_at.Goals as goal

pub loop-names-init : goal.loop-names-init
loop-names-init c = rw c.new-names.ensures.items (begins (List ℕ) closes_names comma_name c.args.scan 0 c.args.text.now)

pub returns-in_err-token-clause-exact : goal.returns-in_err-token-clause-exact
returns-in_err-token-clause-exact c = λ n h.
    let p = err_from_is_err_and c.from_residual.result c.from_residual.ensures.1 in
    rw (p.1, p.2) (fails_front (List ℕ) closes_names comma_name _ _ _ _ _ c.loop-names.invariant _ n h (sym c.in_err-token.ensures.exact))

pub returns-then-closes_names-clause-exact : goal.returns-then-closes_names-clause-exact
returns-then-closes_names-clause-exact c = λ n h.
    stops (List ℕ) closes_names comma_name _ _ _ _ _ c.loop-names.invariant (token_of c.in_ok-token.token) c.in_ok-token.after.now n h (sym c.in_ok-token.ensures.exact)
    (sym c.closes_names.ensures ∙ c.if-closes_names.true)

pub returns-in_err-name-clause-exact : goal.returns-in_err-name-clause-exact
returns-in_err-name-clause-exact c = λ n h.
    let p = err_from_is_err_and c.from_residual-in_err-name.result c.from_residual-in_err-name.ensures.1 in
    let goes : closes_names (token_of c.in_ok-token.token) ≡ false = sym c.closes_names.ensures ∙ c.if-closes_names.false in
    rw (p.1, p.2) (fails_at (List ℕ) closes_names comma_name _ _ _ _ _ c.loop-names.invariant (token_of c.in_ok-token.token) c.in_ok-token.after.now
    (sym c.in_ok-token.ensures.exact) goes c.in_err-name.field-0.0 (λ m. c.in_err-name.ensures.exact (listed_by closes_names comma_name m c.args.scan)) n h)

pub loop-names-smaller : goal.loop-names-smaller
loop-names-smaller c =
    let k = comma_ok c.args.scan (listed_by closes_names comma_name 0 c.args.scan) (token_of c.in_ok-token.token) c.loop-names.rest.now c.in_ok-token.after.now
    (c.in_ok-name.name, c.in_ok-name.left.now) (c.in_ok-name.ensures.exact (listed_by closes_names comma_name 0 c.args.scan)) in
    let p : length c.in_ok-token.after.now < length c.loop-names.rest.now = further _ _ _ _ (sym c.in_ok-token.ensures.exact) (is_comma c.args.scan _ k.0) in
    let q : length c.in_ok-name.left.now ≤ length c.in_ok-token.after.now = c.in_ok-name.ensures.no_longer in
    omega arith

pub loop-names-preserved : goal.loop-names-preserved
loop-names-preserved c =
    let k = comma_ok c.args.scan (listed_by closes_names comma_name 0 c.args.scan) (token_of c.in_ok-token.token) c.loop-names.rest.now c.in_ok-token.after.now
    (c.in_ok-name.name, c.in_ok-name.left.now) (c.in_ok-name.ensures.exact (listed_by closes_names comma_name 0 c.args.scan)) in
    let goes : closes_names (token_of c.in_ok-token.token) ≡ false = sym c.closes_names.ensures ∙ c.if-closes_names.false in
    let here = sym c.in_ok-token.ensures.exact in
    let shorter = further _ _ _ _ here (is_comma c.args.scan _ k.0) in
    rw c.in_ok-push.ensures.items
    (goes_on (List ℕ) closes_names comma_name _ _ _ _ _ c.loop-names.invariant (token_of c.in_ok-token.token) c.in_ok-token.after.now here goes shorter
    c.in_ok-name.name c.in_ok-name.left.now c.in_ok-name.ensures.no_longer (λ m h. c.in_ok-name.ensures.exact (listed_by closes_names comma_name m c.args.scan)))
