use Rattle.std.proofs.Common.{◌≡◌, ℕ, ◌<◌, true, get_or}
use Rattle.armus_base.specs.declared.status.Status.{Status}
use Rattle.sites.specs.calls.Rows.{is_of_site}
use Rattle.sites.proofs.decoding.are_own.Given as goal

abbrev pub invariant-loop-status : goal.invariant-loop-status
invariant-loop-status l = (k : ℕ) (d : Status) → k < l.status-index → is_of_site l.sites l.site (get_or l.list k d).t.0 ≡ true
