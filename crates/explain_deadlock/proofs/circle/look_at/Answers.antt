use Rattle.std.proofs.Common.{◌≡◌, ℕ, ◌<◌, Bool, false, List, length, get_or, sym, ◌∙◌, refl}
use Rattle.std.proofs.lemmas.List.{get_or_default}
use Rattle.explain_deadlock.proofs.Searches.{look_by, look_now}
use Rattle.explain_deadlock.proofs.circle.look_at.Goals as goal

-- a flag is what is read
read : (flags : List Bool) (i : ℕ) (b : Bool) → i < length flags → b ≡ get_or flags i b → get_or flags i false ≡ b
read flags i b lt e = get_or_default flags i false b lt ∙ sym e

pub returns-then-index-clause-looked : goal.returns-then-index-clause-looked
returns-then-index-clause-looked c next t followers looked l f =
    look_by next t c.args.at followers looked c.args.search.now l c.args.u f _ refl refl refl
    (read c.args.search.now.seen.items c.args.u.0 c.index.result.now c.requires.inside c.index.ensures ∙ c.if-index.true)

pub returns-clause-looked : goal.returns-clause-looked
returns-clause-looked c next t followers looked l f =
    look_now next t c.args.at followers looked c.args.search.now l c.args.u f _ c.in_ok-push.ensures.items c.in_ok-push-2.ensures.items refl
    (read c.args.search.now.seen.items c.args.u.0 c.index.result.now c.requires.inside c.index.ensures ∙ c.if-index.false) c.requires.inside
