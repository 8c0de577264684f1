use Rattle.std.proofs.Common.{◌≡◌, [], true, sym, subst, rules}
use Rattle.pl_syntax.specs.Grammar.{ReadsTokens, scan_of, sentence}
use Rattle.pl_syntax.specs.Tokens.{Leads}
use Rattle.pl_syntax.proofs.Beginnings.{two_body}
use Rattle.pl_syntax.proofs.offsets.body_of.Goals as goal

pub returns-clause-header : goal.returns-clause-header
returns-clause-header c =
    let two : c.args.program.now.two ≡ true = search rules in
    let (body, ahead, (first, rest)) = two_body c.args.program.now.two c.args.text.now c.args.program.now.body two c.requires.is_text.reads in
    subst (λ x. ReadsTokens c.args.program.now.two c.args.text.now [] x) (sym (c.behind_header.ensures.behind body ahead)) first

pub returns-clause-reads : goal.returns-clause-reads
returns-clause-reads c =
    let two : c.args.program.now.two ≡ true = search rules in
    let (body, ahead, (first, rest)) = two_body c.args.program.now.two c.args.text.now c.args.program.now.body two c.requires.is_text.reads in
    subst (λ x. Leads (scan_of c.args.program.now.two c.args.text.now) x (sentence c.args.program.now.body) []) (sym (c.behind_header.ensures.behind body ahead)) rest
