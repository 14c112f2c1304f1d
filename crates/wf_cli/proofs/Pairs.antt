-- The environment of a line as a start keeps it, a pair after another.
use Rattle.std.proofs.Common.{◌≡◌, ◌+◌, ◌-◌, ◌*◌, ◌<◌, ◌≤◌, ℕ, suc, List, [], ◌∷◌, ◌++◌, length, take, None, Some, IsUtf8, refl, sym, ◌∙◌, ap, subst, arith}
use Rattle.std.specs.Prelude.{slice_get}
use Rattle.std.specs.List.{AllByRecursion, flat_map}
use Rattle.std.proofs.lemmas.Grind.{flat_map-append}
use Rattle.std.proofs.lemmas.List.{length-append, take_all}
use Rattle.std.proofs.lemmas.Option.{slice_get_within}
use Rattle.wf_lemmas.proofs.Lists.{all_push, none_past, take_push}
use Rattle.wf_args.specs.Laws.{IsEnv}
use Rattle.wf_args.specs.Lines.{PlainLine, env_of}
use Rattle.wf_cli.proofs.Routes.{string_is}
use Rattle.wf_events.specs.Spelling.{IsPair}
use Rattle.wf_record_parts.specs.Spelling.{Each, four, listed, pair, string}

pair_is : (p : List ℕ × List ℕ) → length (pair p) ≡ 8 + length p.0 + length p.1
pair_is p = omega (arith, length-append (string p.0) (string p.1), string_is p.0, string_is p.1)

-- ## The pairs so far
pub record SoFar (l : PlainLine) (env : List (List ℕ × List ℕ)) (index : ℕ) : Type 0 where
  pub same : env ≡ take index (env_of l)
  pub within : index ≤ length (env_of l)
  pub spelled : AllByRecursion IsPair env
  pub short : length (flat_map pair env) ≤ index * 65543
  pub counted : length env ≡ index

pub none_yet : (l : PlainLine) (env : List (List ℕ × List ℕ)) → env ≡ [] → SoFar l env 0
none_yet l env none =
    subst (λ ps. SoFar l ps 0) (sym none) (record { same = refl; within = omega arith; spelled = tt; short = omega arith; counted = refl })

pub pair_more : (l : PlainLine) (env : List (List ℕ × List ℕ)) (index : ℕ) (p : List ℕ × List ℕ) (key value : List ℕ) → SoFar l env index → slice_get (env_of l) index ≡ Some p → IsEnv p → key ≡ p.0 → value ≡ p.1 → IsUtf8 key → IsUtf8 value
    → SoFar l (env ++ (key, value) ∷ []) (index + 1)
pair_more l env index p key value so_far is fits key_is value_is utf8 utf8_value =
    let next : index + 1 ≡ suc index = omega arith in
    let kept : (key, value) ≡ p = (λ i. (key_is i, value_is i)) in
    let taken : take (index + 1) (env_of l) ≡ take index (env_of l) ++ p ∷ [] = ap (λ k. take k (env_of l)) next ∙ take_push (env_of l) index p is in
    let inside = slice_get_within (env_of l) index p is in
    let both = fits.short in
    let key_long = ap length key_is in
    let value_long = ap length value_is in
    let one : IsPair (key, value) = ((omega (arith, both, key_long), utf8), (omega (arith, both, value_long), utf8_value)) in
    let longer = ap length (flat_map-append pair env ((key, value) ∷ [])) ∙ length-append (flat_map pair env) (flat_map pair ((key, value) ∷ [])) in
    let last = length-append (pair (key, value)) [] in
    let before = so_far.short in
    let so_many = so_far.counted in
    record {
      same = (λ i. so_far.same i ++ kept i ∷ []) ∙ sym taken;
      within = omega (arith, inside);
      spelled = all_push IsPair env (key, value) so_far.spelled one;
      short = omega (arith, longer, last, pair_is (key, value), before, both, key_long, value_long);
      counted = length-append env ((key, value) ∷ []) ∙ ap (λ k. k + 1) so_many;
    }

pub record AreAll (l : PlainLine) (env : List (List ℕ × List ℕ)) : Type 0 where
  pub same : env ≡ env_of l
  pub spelled : Each IsPair env
  pub short : length (listed pair env) ≤ 1310864

pub all_pairs : (l : PlainLine) (env : List (List ℕ × List ℕ)) (index : ℕ) → SoFar l env index → slice_get (env_of l) index ≡ None → length (env_of l) ≤ 20 → AreAll l env
all_pairs l env index so_far is few =
    let past = none_past (env_of l) index is in
    let within = so_far.within in
    let so_many = so_far.counted in
    let before = so_far.short in
    let long = length-append (four (length env)) (flat_map pair env) in
    record {
      same = so_far.same ∙ take_all index (env_of l) past;
      spelled = (omega (arith, so_many, within, few), so_far.spelled);
      short = omega (arith, long, before, within, few);
    }

-- behind one more fewer are left
pub fewer_left : (l : PlainLine) (index : ℕ) (p : List ℕ × List ℕ) → slice_get (env_of l) index ≡ Some p → length (env_of l) - (index + 1) < length (env_of l) - index
fewer_left l index p is = let inside = slice_get_within (env_of l) index p is in omega (arith, inside)
