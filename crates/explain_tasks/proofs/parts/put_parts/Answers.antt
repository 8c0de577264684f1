use Rattle.std.proofs.Common.{◌++◌, ◌∙◌, ap, length, map, sym, List, ℕ, Vec, Global}
use Rattle.std.specs.List.{enumerate_from, flat_map}
use Rattle.std.proofs.lemmas.List.{length-map}
use Rattle.armus_base.specs.declared.ids.TaskId.{TaskId}
use Rattle.report.proofs.Texts.{texts_all, texts_more}
use Rattle.explain_tasks.specs.TaskLists.{part_words, separator}
use Rattle.explain_tasks.proofs.NamedParts.{mapped_texts}
use Rattle.explain_tasks.proofs.parts.put_parts.Goals as goal

pub loop-k-preserved : goal.loop-k-preserved
loop-k-preserved c =
    c.in_ok-put_part_at.ensures
    ∙ ap (λ (us : List TaskId). c.loop-k.out.items ++ (separator (length c.args.parts.now) c.loop-k.k ++ part_words c.args.names.now us)) c.deref.ensures.value
    ∙ ap (λ (v : Vec TaskId Global). c.loop-k.out.items ++ (separator (length c.args.parts.now) c.loop-k.k ++ part_words c.args.names.now v.items)) c.index-parts-k.is
    ∙ texts_more (λ k (part : Vec TaskId Global). separator (length c.args.parts.now) k ++ part_words c.args.names.now part.items) c.index-parts-k.result c.args.parts.now c.loop-k.k
    c.loop-k-test.true c.args.out.now.items c.loop-k.out.items c.loop-k.invariant

pub returns : goal.returns
returns c =
    let items : Vec TaskId Global → List TaskId = λ part. part.items in
    let words : ℕ → ℕ → List TaskId → List ℕ = λ n k part. separator n k ++ part_words c.args.names.now part in
    c.loop-k.invariant
    ∙ ap (λ xs. c.args.out.now.items ++ xs)
    (texts_all (λ k (part : Vec TaskId Global). words (length c.args.parts.now) k part.items) c.args.parts.now c.loop-k.k c.loop-k-test.false
    ∙ sym (mapped_texts (words (length c.args.parts.now)) items 0 c.args.parts.now)
    ∙ ap (λ n. flat_map (λ (k, part). words n k part) (enumerate_from 0 (map items c.args.parts.now))) (sym (length-map c.args.parts.now items)))
