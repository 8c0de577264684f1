use Rattle.std.proofs.Common.{◌≡◌, ◌∙◌, ℕ, ◌+◌, ◌-◌, ◌≤◌, ◌++◌, List, length, arith, take, drop, ap, sym, take-append-drop}
use Rattle.std.proofs.lemmas.List.{take-append-le, take_all, take_rest, length-take-le, drop-drop}
use Rattle.armus_base.proofs.memory.give.Goals as goal

copied_front : (n : ℕ) (left new after : List ℕ) → n ≤ length left → new ≡ take n left → take n (new ++ after) ≡ take n left
copied_front n left new after within e =
    let len : length new ≡ n = rw e (length-take-le n left within) in
    let enough : n ≤ length new = omega arith in
    let short : length new ≤ n = omega arith in
    take-append-le n new after enough ∙ take_all n new short ∙ e

front_of : (at n : ℕ) (bytes new after : List ℕ) → n ≤ length (drop at bytes) → new ≡ take n (drop at bytes) → drop at bytes ≡ take n (new ++ after) ++ drop (at + n) bytes
front_of at n bytes new after within e =
    sym (take-append-drop n (drop at bytes)) ∙ ap (λ t. t ++ drop n (drop at bytes)) (sym (copied_front n (drop at bytes) new after within e))
    ∙ ap (λ t. take n (new ++ after) ++ t) (drop-drop n at bytes)

pub returns-clause-front : goal.returns-clause-front
returns-clause-front c =
    let bytes = c.args.bytes.now in
    let at = c.args.at in
    let rest : take (length bytes - at) (drop at bytes) ≡ drop at bytes = take_rest bytes at in
    let most = rw rest at c.min.ensures in
    let after = rw rest at c.copy_from_slice.ensures.after in
    front_of at c.min-count.result bytes c.copy_from_slice.new.self _ (omega (arith, most, c.min-count.ensures)) after
