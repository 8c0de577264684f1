-- Lists of what was read and written, one in front of another.
use Rattle.std.proofs.Common.{◌≡◌, ℕ, None, Some, Option, List, [], ◌∷◌, ◌++◌, refl, sym, ◌∙◌, ap, subst, append-nil, append_assoc}
use Rattle.std.specs.Io.KnownBytes.{Appends, Consumes}
use Rattle.std.specs.Option.{option_map}
use Rattle.std.proofs.KnownBytes.{Appends-trans, Consumes-trans}
use Rattle.monitor.specs.Transfers.{AreWrites, LogGrows, PassesThrough, PortView, Transfer, WereRead, WereWritten, bytes_read, bytes_written}

grows_none : (o : Option (List Transfer)) → LogGrows o o []
grows_none None = refl
grows_none (Some log) = refl

grows_more : (a b c : Option (List Transfer)) (more later : List Transfer) → LogGrows a b more → LogGrows b c later → LogGrows a c (later ++ more)
grows_more None b c more later one other = other ∙ go b one
  where
    go : (b : Option (List Transfer)) → b ≡ None → option_map (λ log. later ++ log) b ≡ None
    go None e = refl
    go (Some log) e = absurd (cc)
grows_more (Some log) None c more later one other = absurd (cc)
grows_more (Some log) (Some l) c more later one other =
    other ∙ ap (λ o. option_map (λ log. later ++ log) o) one ∙ ap Some (sym (append_assoc later more log))

pub written_more : (later log : List Transfer) → bytes_written (later ++ log) ≡ bytes_written log ++ bytes_written later
written_more [] log = sym (append-nil (bytes_written log))
written_more (WereRead bytes ∷ later) log = written_more later log
written_more (WereWritten bytes ∷ later) log = ap (λ l. l ++ bytes) (written_more later log) ∙ append_assoc (bytes_written log) (bytes_written later) bytes

pub read_more : (later log : List Transfer) → bytes_read (later ++ log) ≡ bytes_read log ++ bytes_read later
read_more [] log = sym (append-nil (bytes_read log))
read_more (WereWritten bytes ∷ later) log = read_more later log
read_more (WereRead bytes ∷ later) log = ap (λ l. l ++ bytes) (read_more later log) ∙ append_assoc (bytes_read log) (bytes_read later) bytes

pub writes_more : (later log : List Transfer) → AreWrites later → AreWrites log → AreWrites (later ++ log)
writes_more [] log later_are log_are = log_are
writes_more (WereRead bytes ∷ later) log later_are log_are = absurd later_are
writes_more (WereWritten bytes ∷ later) log later_are log_are = writes_more later log later_are log_are

-- writes read nothing
pub reads_nothing : (log : List Transfer) → AreWrites log → bytes_read log ≡ []
reads_nothing [] are = refl
reads_nothing (WereRead bytes ∷ log) are = absurd are
reads_nothing (WereWritten bytes ∷ log) are = reads_nothing log are

consumes_nothing : (o : Option (List ℕ)) → Consumes o o []
consumes_nothing None = tt
consumes_nothing (Some xs) = refl

appends_nothing : (o : Option (List ℕ)) → Appends o o []
appends_nothing None = tt
appends_nothing (Some xs) = sym (append-nil xs)

-- through a port nothing passed
pub passes_nothing : (v : PortView) → PassesThrough v v []
passes_nothing v = record { log = grows_none v.log; left = consumes_nothing v.left; taken = appends_nothing v.taken }

-- and one thing behind another
pub passes_more : (a b c : PortView) (more later : List Transfer) → PassesThrough a b more → PassesThrough b c later → PassesThrough a c (later ++ more)
passes_more a b c more later one other = record {
  log = grows_more a.log b.log c.log more later one.log other.log;
  left = subst (Consumes a.left c.left) (sym (read_more later more)) (Consumes-trans a.left b.left c.left (bytes_read more) (bytes_read later) one.left other.left);
  taken = subst (Appends a.taken c.taken) (sym (written_more later more)) (Appends-trans a.taken b.taken c.taken (bytes_written more) (bytes_written later) one.taken other.taken);
}
