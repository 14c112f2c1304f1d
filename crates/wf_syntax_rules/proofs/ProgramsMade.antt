-- The program that is made of a tree without faults is the tree's.
use Rattle.std.proofs.Common.{◌≡◌, [], ◌∷◌, Option, Some, None, Bool, true, false, if◌then◌else◌, is_some, bytes_eq, codes, refl, sym, subst, arith}
use Rattle.std.proofs.lemmas.Slice.Eq.{bytes_eq-Decides}
use Rattle.wf_lemmas.proofs.Options.{some_not_none}
use Rattle.wf_syntax_rules.proofs.BodiesMade.{steps_made}
use Rattle.wf_syntax_rules.proofs.Faultless.{demanded, unless_parts}
use Rattle.wf_syntax_rules.proofs.Soundness.{sound_own, sound_parts, row_all, else_is, each_is}
use Rattle.wf_syntax_rules.proofs.ValuesMade.{literal_is}
use Rattle.wf_syntax_rules.specs.Faults.{AreSound, IsSound}
use Rattle.wf_syntax_rules.specs.Made.{some_or, literal_of, param_of, params_of, flow_of, flows_of, program_of}
use Rattle.wf_syntax_rules.specs.Meaning.{At, AreParams, FlowsIn, IsFlow, IsParam, IsProgram, others}
use Rattle.wf_syntax_words.specs.Names.{is_name}
use Rattle.wf_syntax_rules.specs.Rules.{demand, every, own}
use Rattle.wf_syntax_words.specs.Fields.{field, has, has_only}
use Rattle.wf_syntax_rules.specs.Rules as r
use Rattle.wf_syntax_rules.specs.declared.fault.SyntaxKind.TheVariants.{MissingField, UnknownField, WrongKind}
use Rattle.wf_tree.specs.Trees.{Tree, null, text, list, map, Pairs, no_pairs, pair, pairs_depth}
use Rattle.wf_value.specs.Pairs.{Text}

-- ## Parameters
param_is : (x : Tree) → IsSound r.Parameter x → IsParam (param_of x) x
param_is (text s) h = refl
param_is (map (pair k x no_pairs)) h = (refl, (literal_of x, refl, literal_is x (sound_parts r.Parameter (map (pair k x no_pairs)) h).0))
param_is x h = absurd (some_not_none WrongKind (sound_own r.Parameter x h))

params_are : (x : Tree) → IsSound r.Parameters x → AreParams (params_of x) x
params_are (list xs) h = each_is param_of IsParam r.Parameter param_is 0 xs (sound_parts r.Parameters (list xs) h)
params_are x h = absurd (some_not_none WrongKind (sound_own r.Parameters x h))

-- ## Workflows
steps_there : (name : Text) (fs : Pairs) → own (r.Flow name) (map fs) ≡ None → has (codes "steps") fs ≡ true
steps_there name fs e = (unless_parts (has (codes "steps") fs) MissingField (demand (is_name name) WrongKind) (unless_parts (has_only (codes "params" ∷ codes "steps" ∷ []) fs) UnknownField _ e).1).0

flow_is : (k : Text) (x : Tree) → IsSound (r.Flow k) x → IsFlow (flow_of k x) k x
flow_is k (map fs) h =
    let a = row_all fs ((codes "params", r.Parameters) ∷ (codes "steps", r.Steps) ∷ []) (sound_parts (r.Flow k) (map fs) h) in (
      refl,
      else_is [] params_of AreParams (codes "params") r.Parameters fs a.0 (λ x d s. params_are x s),
      steps_made (pairs_depth fs) fs (omega arith) (steps_there k fs (sound_own (r.Flow k) (map fs) h)) a.1.0,
    )
flow_is k x h = absurd (some_not_none WrongKind (sound_own (r.Flow k) x h))

flows_are : (ps : Pairs) → AreSound (every r.Flow ps) → FlowsIn (flows_of ps) ps
flows_are no_pairs h = tt
flows_are (pair k x ps) h = (flow_is k x h.0, flows_are ps h.1)

others_by : (b : Bool) (k : Text) (x : Tree) (more : Pairs) → IsSound (r.Flow k) x → AreSound (every r.Flow more) → AreSound (every r.Flow (if b then more else pair k x more))
others_by true k x more h s = s
others_by false k x more h s = (h, s)

pub others_sound : (ps : Pairs) → AreSound (every r.Flow ps) → AreSound (every r.Flow (others ps))
others_sound no_pairs h = tt
others_sound (pair k x ps) h = others_by (bytes_eq k (codes "main")) k x (others ps) h.0 (others_sound ps h.1)

-- ## The flow at a key
at_key : (b : Bool) (k j : Text) (x y : Tree) (more : Option Tree) → bytes_eq k j ≡ b → IsSound (r.Flow j) x → (more ≡ Some y → IsSound (r.Flow k) y) → (if b then Some x else more) ≡ Some y → IsSound (r.Flow k) y
at_key true k j x y more e h rest is =
    let same : x ≡ y = cc in
    subst (λ (z : Tree). IsSound (r.Flow k) z) same (subst (λ (n : Text). IsSound (r.Flow n) x) (sym ((bytes_eq-Decides k j).0 e)) h)
at_key false k j x y more e h rest is = rest is

pub flow_sound : (k : Text) (ps : Pairs) (y : Tree) → AreSound (every r.Flow ps) → field k ps ≡ Some y → IsSound (r.Flow k) y
flow_sound k no_pairs y h e = absurd (some_not_none y (sym e))
flow_sound k (pair j x ps) y h e = at_key (bytes_eq k j) k j x y (field k ps) refl h.0 (flow_sound k ps y h.1) e

main_by : (fs : Pairs) (o : Option Tree) → field (codes "main") fs ≡ o → is_some o ≡ true → AreSound (every r.Flow fs) → At (codes "main") fs (IsFlow (flow_of (codes "main") (some_or null o)) (codes "main"))
main_by fs None e there h = let p : ⊥ = cc in absurd p
main_by fs (Some x) e there h = (x, e, flow_is (codes "main") x (flow_sound (codes "main") fs x h e))

pub program_is : (x : Tree) → IsSound r.Flows x → IsProgram (program_of x) x
program_is (map fs) h =
    let all = sound_parts r.Flows (map fs) h in
    (_, _, refl, main_by fs (field (codes "main") fs) refl (demanded (has (codes "main") fs) MissingField (sound_own r.Flows (map fs) h)) all, flows_are (others fs) (others_sound fs all))
program_is x h = absurd (some_not_none WrongKind (sound_own r.Flows x h))
