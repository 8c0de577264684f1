-- How the steps of statements come one behind the other.
use Rattle.std.proofs.Common.{◌≡◌, ℕ, ◌+◌, ◌<◌, ◌≤◌, Bool, List, [], ◌∷◌, ◌++◌, length, take, drop, get_or, arith, sym, ◌∙◌, ap, subst, refl, append_assoc}
use Rattle.std.proofs.lemmas.List.{length-append, append-nil}
use Rattle.std.proofs.lemmas.List.{take_more}
use Rattle.std.proofs.Math.Seq.{get_or-append_seam}
use Rattle.armus_base.specs.calls.Pieces.{max_turns}
use Rattle.pl_syntax.proofs.Parts.{counts}
use Rattle.std.specs.Borrow.{Bor}
use Rattle.pl_syntax.specs.declared.tree.Stmt.{Stmt}
use Rattle.pl_syntax.specs.Tree.{Tree, done, fork, loop, count}
use Rattle.pl_syntax.specs.calls.Bodies.{followed_by, tree_of}
use Rattle.pl_plan.specs.FoldedOps.{is_steady}
use Rattle.pl_plan.specs.declared.step.NameId.{NameId}
use Rattle.pl_plan.specs.declared.step.FlatStep.{FlatStep}
use Rattle.pl_plan.specs.declared.step.FlatStep.TheVariants as a_step
use Rattle.pl_plan.specs.inside.Steps.{IsNumberOfName, IsSpelled, step_at}
use Rattle.pl_plan.specs.inside.Shows.{IsNumbering}
use Rattle.pl_plan.specs.inside.Numbers.{spelling, IsMore}
use Rattle.pl_plan.specs.inside.Flattening.{AddsSteps}
use Rattle.pl_plan.proofs.Spelled.{NamesAgree, spelled_more, spelled_count, name_more}
use Rattle.pl_plan.proofs.Bodies.{spelled_push}

pub same_names : (keys : List (Bor (List ℕ))) → IsMore keys keys
same_names keys = (omega arith, λ i l. refl)

pub more_names : (a b c : List (Bor (List ℕ))) → IsMore a b → IsMore b c → IsMore a c
more_names a b c h k = (omega (arith, h.0, k.0), λ i l. k.1 i (omega (arith, h.0)) ∙ h.1 i l)

agrees : (a b : List (Bor (List ℕ))) → IsMore a b → NamesAgree (length a) (spelling a) (length b) (spelling b)
agrees a b h = record { more = h.0; same = h.1 }

-- a name that was numbered before
pub earlier_name : (a b : List (Bor (List ℕ))) (i : NameId) (x : List ℕ) → IsMore a b → IsNumberOfName (length a) (spelling a) i x → IsNumberOfName (length b) (spelling b) i x
earlier_name a b i x h n = name_more (length a) (spelling a) (length b) (spelling b) i x (agrees a b h) n

-- where a body's steps end, behind one step
body_end :
    (c : List (Bor (List ℕ))) (steps mid new : List FlatStep) (step : FlatStep) (after : ℕ) (body : Tree) → mid ≡ steps ++ step ∷ [] →
    after ≡ length steps + 1 + count body → IsSpelled (length c) (spelling c) new (length mid) body (length new) → after ≡ length new
body_end c steps mid new step after body is at h =
    omega (arith, spelled_count (length c) (spelling c) new (length mid) body (length new) h, ap length is ∙ length-append steps (step ∷ []))

-- the step before a body
step_before : (steps mid new : List FlatStep) (step : FlatStep) → mid ≡ steps ++ step ∷ [] → (more : List FlatStep) × (new ≡ mid ++ more) → step_at new (length steps) ≡ step
step_before steps mid new step is more =
    ap (λ xs. step_at xs (length steps)) (more.1 ∙ ap (λ xs. xs ++ more.0) is ∙ append_assoc steps (step ∷ []) more.0)
    ∙ get_or-append_seam steps step more.0 a_step.Skip

-- a body's steps begin behind the one step
body_steps :
    (c : List (Bor (List ℕ))) (steps mid new : List FlatStep) (step : FlatStep) (after : ℕ) (body : Tree) → mid ≡ steps ++ step ∷ [] → after ≡ length new →
    IsSpelled (length c) (spelling c) new (length mid) body (length new) → IsSpelled (length c) (spelling c) new (length steps + 1) body after
body_steps c steps mid new step after body is ends h =
    subst (λ z. IsSpelled (length c) (spelling c) new (length steps + 1) body z) (sym ends)
    (subst (λ z. IsSpelled (length c) (spelling c) new z body (length new)) (ap length is ∙ length-append steps (step ∷ [])) h)

added_behind : (steps mid new : List FlatStep) (step : FlatStep) → mid ≡ steps ++ step ∷ [] → (more : List FlatStep) × (new ≡ mid ++ more) → (more : List FlatStep) × (new ≡ steps ++ more)
added_behind steps mid new step is more = (step ∷ [] ++ more.0, more.1 ∙ ap (λ xs. xs ++ more.0) is ∙ append_assoc steps (step ∷ []) more.0)

-- a fork, and the steps of its body
pub adds_fork :
    (a b c : List (Bor (List ℕ))) (steps mid new : List FlatStep) (i : NameId) (x : List ℕ) (after : ℕ) (body : Tree) → IsMore a b →
    mid ≡ steps ++ a_step.Fork i after ∷ [] → after ≡ length steps + 1 + count body → IsNumberOfName (length b) (spelling b) i x →
    AddsSteps b c mid new body → AddsSteps a c steps new (fork x body done)
adds_fork a b c steps mid new i x after body more is at named adds =
    let ends = body_end c steps mid new (a_step.Fork i after) after body is at adds.spelled in
    record {
      names = more_names a b c more adds.names;
      distinct = adds.distinct;
      added = added_behind steps mid new (a_step.Fork i after) is adds.added;
      spelled = (
        i,
        after,
        step_before steps mid new (a_step.Fork i after) is adds.added,
        earlier_name b c i x adds.names named,
        body_steps c steps mid new (a_step.Fork i after) after body is ends adds.spelled,
        ends,
      );
    }

-- a loop, and the steps of its body
pub adds_loop :
    (a c : List (Bor (List ℕ))) (steps mid new : List FlatStep) (k after : ℕ) (steady : Bool) (body : Tree) → k ≤ max_turns → steady ≡ is_steady body →
    mid ≡ steps ++ a_step.Loop k after steady ∷ [] → after ≡ length steps + 1 + count body → AddsSteps a c mid new body →
    AddsSteps a c steps new (loop k body done)
adds_loop a c steps mid new k after steady body few same is at adds =
    let ends = body_end c steps mid new (a_step.Loop k after steady) after body is at adds.spelled in
    record {
      names = adds.names;
      distinct = adds.distinct;
      added = added_behind steps mid new (a_step.Loop k after steady) is adds.added;
      spelled = (
        after,
        step_before steps mid new (a_step.Loop k after steady) is adds.added ∙ ap (a_step.Loop k after) same,
        few,
        body_steps c steps mid new (a_step.Loop k after steady) after body is ends adds.spelled,
        ends,
      );
    }

-- no statement
pub adds_nothing : (a : List (Bor (List ℕ))) (steps : List FlatStep) → IsNumbering (length a) (spelling a) → AddsSteps a a steps steps done
adds_nothing a steps distinct = record { names = same_names a; distinct = distinct; added = ([], sym (append-nil steps)); spelled = refl }

-- one statement more
pub adds_more :
    (a b c : List (Bor (List ℕ))) (steps mid new : List FlatStep) (xs : List Stmt) (q : Stmt) → AddsSteps a b steps mid (tree_of xs) →
    AddsSteps b c mid new (followed_by q done) → AddsSteps a c steps new (tree_of (xs ++ q ∷ []))
adds_more a b c steps mid new xs q h k =
    record {
      names = more_names a b c h.names k.names;
      distinct = k.distinct;
      added = (h.added.0 ++ k.added.0, k.added.1 ∙ ap (λ zs. zs ++ k.added.0) h.added.1 ∙ append_assoc steps h.added.0 k.added.0);
      spelled =
          spelled_push (length c) (spelling c) new (length steps) xs q (length mid) (length new)
          (subst (λ zs. IsSpelled (length c) (spelling c) zs (length steps) (tree_of xs) (length mid)) (sym k.added.1)
          (spelled_more (length b) (spelling b) (length c) (spelling c) (agrees b c k.names) mid k.added.0 (length steps) (tree_of xs) (length mid) (omega arith) h.spelled))
          k.spelled;
    }

-- So many statements of a body are flattened, and the rest has room.
pub record Flattened (old_names names : List (Bor (List ℕ))) (old steps : List FlatStep) (items : List Stmt) (i : ℕ) : Type 0 where
  pub so_far : AddsSteps old_names names old steps (tree_of (take i items))
  pub room : length steps + count (tree_of (drop i items)) ≡ length old + count (tree_of items)

pub flattened_more :
    (a b c : List (Bor (List ℕ))) (old mid new : List FlatStep) (items : List Stmt) (i : ℕ) (q : Stmt) → i < length items → q ≡ get_or items i q →
    Flattened a b old mid items i → AddsSteps b c mid new (followed_by q done) → Flattened a c old new items (i + 1)
flattened_more a b c old mid new items i q l is h k =
    record {
      so_far =
          subst (λ zs. AddsSteps a c old new (tree_of zs)) (sym (take_more items i q l ∙ ap (λ z. take i items ++ z ∷ []) (sym is)))
          (adds_more a b c old mid new (take i items) q h.so_far k);
      room =
          omega
          (arith, h.room, counts items i q l is, spelled_count (length c) (spelling c) new (length mid) (followed_by q done) (length new) k.spelled);
    }
