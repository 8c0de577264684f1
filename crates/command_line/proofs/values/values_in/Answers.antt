use Rattle.std.proofs.Common.{◌≡◌, ◌∙◌, ℕ, refl, List, ap, sym, subst, codes, map, string_bytes, Bool, true, false}
use Rattle.std.specs.Prelude.{Some, None, Option}
use Rattle.clap.specs.Words.{App, app_of, first_of, found_of, is_simple, matches_of, one_text, takes}
use Rattle.clap.specs.Walk.{one_of}
use Rattle.clap.proofs.WalkLemmas.{first_value-rows, one_text-rows}
use Rattle.command_line.specs.Commands.{Given, given_by}
use Rattle.command_line.specs.inside.Rules.{app_for}
use Rattle.command_line.proofs.AllWords.{all_read}
use Rattle.command_line.proofs.Matches.{FlagFound, on, off, missing, simple}
use Rattle.command_line.proofs.values.values_in.Goals as goal

flag_is : (found : Option (List ℕ)) (r b : Bool) → (found ≡ None → r ≡ false) → (found ≡ Some (codes "true") → r ≡ true) → (found ≡ Some (codes "false") → r ≡ false)
    → FlagFound found b → r ≡ b
flag_is found r b is_missing is_on is_off (on e) = is_on e
flag_is found r b is_missing is_on is_off (off e) = is_off e
flag_is found r b is_missing is_on is_off (missing e) = is_missing e

same_given : (print live kept : Bool) (workers graph sites alone : Option (List ℕ)) (g : Given)
    → print ≡ g.print → live ≡ g.live → kept ≡ g.kept → workers ≡ g.workers → graph ≡ g.graph → sites ≡ g.sites → alone ≡ g.alone
    → record { print = print; workers = workers; graph = graph; live = live; kept = kept; sites = sites; alone = alone } ≡ g
same_given print live kept workers graph sites alone g p l k q r t s = rw (p, l, k, q, r, t, s) refl

pub returns-in-Err-try_get_matches_from-clause-err : goal.returns-in-Err-try_get_matches_from-clause-err
returns-in-Err-try_get_matches_from-clause-err c uses alone form =
    let app_is : app_of c.in-Ok.command ≡ app_for c.args.first = c.in-Ok.ensures.app in
    c.in-Err-try_get_matches_from.ensures.passes (ap (λ (a : App). takes a (map string_bytes c.args.words.now)) app_is ∙ (all_read c.args.first _ uses alone form).taken)

pub returns-in-Ok-try_get_matches_from-clause-ok : goal.returns-in-Ok-try_get_matches_from-clause-ok
returns-in-Ok-try_get_matches_from-clause-ok c uses alone form =
    let f = c.args.first in
    let app_is : app_of c.in-Ok.command ≡ app_for f = c.in-Ok.ensures.app in
    let given = (all_read f _ uses alone form).given in
    let found = found_of c.in-Ok-try_get_matches_from.matches in
    let same = (c.in-Ok-try_get_matches_from.ensures.matches (ap is_simple app_is ∙ simple f)).0 ∙ ap (λ (a : App). matches_of a (map string_bytes c.args.words.now)) app_is in
    same_given _ _ _ _ _ _ _ (given_by uses alone)
    (flag_is (one_text found (codes "print")) c.get_flag.result _ c.get_flag.ensures.none c.get_flag.ensures.value c.get_flag.ensures.other
    (subst (λ t. FlagFound t (given_by uses alone).print) (sym (one_text-rows found (codes "print") ∙ ap (one_of (codes "print")) same)) given.print))
    (flag_is (one_text found (codes "live")) c.get_flag-in-Ok-try_get_matches_from.result _ c.get_flag-in-Ok-try_get_matches_from.ensures.none
    c.get_flag-in-Ok-try_get_matches_from.ensures.value c.get_flag-in-Ok-try_get_matches_from.ensures.other
    (subst (λ t. FlagFound t (given_by uses alone).live) (sym (one_text-rows found (codes "live") ∙ ap (one_of (codes "live")) same)) given.live))
    (flag_is (one_text found (codes "kept")) c.get_flag-in-Ok-try_get_matches_from-2.result _ c.get_flag-in-Ok-try_get_matches_from-2.ensures.none
    c.get_flag-in-Ok-try_get_matches_from-2.ensures.value c.get_flag-in-Ok-try_get_matches_from-2.ensures.other
    (subst (λ t. FlagFound t (given_by uses alone).kept) (sym (one_text-rows found (codes "kept") ∙ ap (one_of (codes "kept")) same)) given.kept))
    (c.get_str.ensures ∙ first_value-rows found (codes "workers") ∙ ap (first_of (codes "workers")) same ∙ given.workers)
    (c.get_str-in-Ok-try_get_matches_from.ensures ∙ first_value-rows found (codes "graph") ∙ ap (first_of (codes "graph")) same ∙ given.graph)
    (c.get_str-in-Ok-try_get_matches_from-2.ensures ∙ first_value-rows found (codes "sites") ∙ ap (first_of (codes "sites")) same ∙ given.sites)
    (c.get_str-in-Ok-try_get_matches_from-3.ensures ∙ first_value-rows found (codes "count") ∙ ap (first_of (codes "count")) same ∙ given.alone)
