use Rattle.std.proofs.Common.{◌∙◌, ap, sym}
use Rattle.std.specs.Prelude.{if◌then◌else◌}
use Rattle.std.specs.Str.{bytes_eq}
use Rattle.indexmap.specs.IndexSet.{insert_key}
use Rattle.explain_facts.specs.inside.Spelled.{spellings}
use Rattle.explain_facts.proofs.NamesSeen.{spelled_with}
use Rattle.explain_facts.proofs.names.note_again.Goals as goal

pub returns : goal.returns
returns c =
    let old = spellings c.args.again.now.keys in
    ap spellings c.in_ok-insert_full.ensures.keys ∙ spelled_with c.args.again.now.keys c.args.name
    ∙ sym (ap (λ v. if v then old else insert_key bytes_eq old c.args.name.now) c.if-is_new.false)
