-- A text is refused in one way.
use Rattle.std.proofs.Common.{◌≡◌, ap, subst, sym, ◌∙◌}
use Rattle.pl_syntax.specs.StatementOffsets.{AreOffsets}
use Rattle.pl_syntax.proofs.OneListOfOffsets.{one_list_of_offsets}
use Rattle.pl_syntax.proofs.Unique.{one_tree}
use Rattle.explain_check.specs.Scenes.{IsScene}
use Rattle.explain_check.proofs.OneScene.{one_scene}
use Rattle.explain_check.specs.CheckRefusals.{check_lines}
use Rattle.explain_check.specs.calls.Laws.{HasOneCheckRefusal}

pub one_refusal : HasOneCheckRefusal
one_refusal file text p q xs ys x y =
    let programs : p ≡ q = one_tree text p q x.reads y.reads in
    let scenes : x.scene ≡ y.scene = one_scene q x.scene y.scene (subst (λ z. IsScene z x.scene) programs x.is_scene) y.is_scene in
    let offsets : x.offsets ≡ y.offsets = one_list_of_offsets text q x.offsets y.offsets (subst (λ z. AreOffsets text z x.offsets) programs x.are_offsets) y.are_offsets in
    x.lines_are ∙ (ap (λ z. check_lines file text z x.scene) offsets ∙ (ap (λ z. check_lines file text y.offsets z) scenes ∙ sym y.lines_are))
