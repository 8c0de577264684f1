-- What a call of the keeper in memory counts, and when it fails.
use Rattle.std.specs.Prelude.{◌≡◌, Result}
use Rattle.armus_base.specs.Causes.{counted}
use Rattle.armus_base.specs.calls.Fakes.{is_listed}
use Rattle.sites.specs.declared.ends.KeepEnd.{KeepEnd}
use Rattle.sites.specs.calls.Keeping.{MemKept, is_fault}

-- a call is counted, and fails exactly where its number is listed
pub record IsMemCall {T : Type 0} (old new : MemKept) (result : Result T KeepEnd) : Type 0 where
  pub calls : new.calls ≡ counted old.calls
  pub fails : new.fails ≡ old.fails
  pub failed : is_fault result ≡ is_listed (counted old.calls) old.fails
