use Rattle.pl_syntax.proofs.RoundTrip.{prints_text}
use Rattle.pl_syntax.proofs.Writable.{text_is_writable}
use Rattle.pl_syntax.proofs.laws.printed_is_text.Goals as goal

pub returns-clause-is_text : goal.returns-clause-is_text
returns-clause-is_text c = prints_text

pub returns-clause-writable : goal.returns-clause-writable
returns-clause-writable c = text_is_writable
