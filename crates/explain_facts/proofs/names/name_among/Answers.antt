use Rattle.std.proofs.Common.{◌≡◌, ◌∙◌, ap, not}
use Rattle.std.specs.List.{list_any}
use Rattle.std.specs.Str.{bytes_eq}
use Rattle.explain_facts.specs.inside.Spelled.{spellings}
use Rattle.explain_facts.proofs.NamesSeen.{any_spelled}
use Rattle.explain_facts.proofs.names.name_among.Goals as goal

pub returns : goal.returns
returns c =
    let sole : not c.contains-is_sole.result ≡ not (list_any (bytes_eq c.args.name.now) (spellings c.args.shared.now.keys)) =
    ap not (c.contains-is_sole.ensures ∙ any_spelled c.args.name.now c.args.shared.now.keys) in
    let name = c.from_vec.ensures.items ∙ c.in_ok-from_slice.ensures.items in
    λ i. record { name = name i; is_sole = sole i }
