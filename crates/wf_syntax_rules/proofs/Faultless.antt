-- What holds of the fields of a node without a fault.
use Rattle.std.proofs.Common.{◌≡◌, Bool, true, false, not, ◌&&◌, ◌||◌, ◌++◌, if◌then◌else◌, bytes_eq, is_some, List, ◌∷◌, Option, Some, None, refl, sym, ap, ◌∙◌}
use Rattle.std.proofs.lemmas.Bool.{and_parts, true≢false}
use Rattle.std.proofs.lemmas.Slice.Eq.{bytes_eq-Decides}
use Rattle.wf_syntax_rules.specs.Rules.{choice_fault, demand, map_fault, unless}
use Rattle.wf_syntax_words.specs.Fields.{field, has, has_all, has_only}
use Rattle.wf_syntax_rules.specs.declared.fault.SyntaxKind.{SyntaxKind}
use Rattle.wf_value.specs.HttpRequest.{is_among}
use Rattle.wf_tree.specs.Trees.{Tree, Pairs, no_pairs, pair}
use Rattle.wf_value.specs.Pairs.{Text}

pub unless_parts : (holds : Bool) (k : SyntaxKind) (more : Option SyntaxKind) → unless holds k more ≡ None → (holds ≡ true) × (more ≡ None)
unless_parts true k more h = (refl, h)
unless_parts false k more h = let x : ⊥ = cc in absurd x

pub demanded : (holds : Bool) (k : SyntaxKind) → demand holds k ≡ None → holds ≡ true
demanded holds k h = (unless_parts holds k None h).0

-- ## Keys that must be there
pub musts_there : (musts mays : List Text) (fs : Pairs) → map_fault musts mays fs ≡ None → has_all musts fs ≡ true
musts_there musts mays fs h = demanded (has_all musts fs) _ (unless_parts (has_only (musts ++ mays) fs) _ _ h).1

pub choice_there : (a b : Text) (musts mays : List Text) (fs : Pairs) → choice_fault a b musts mays fs ≡ None → ((has a fs || has b fs) ≡ true) × (has_all musts fs ≡ true)
choice_there a b musts mays fs h =
    and_parts (has a fs || has b fs) (has_all musts fs)
    (demanded ((has a fs || has b fs) && has_all musts fs) _ (unless_parts (has_only (a ∷ b ∷ (musts ++ mays)) fs && not (has a fs && has b fs)) _ _ h).1)

-- a key that is there isn't missing
pub not_missing : (k : Text) (fs : Pairs) → has k fs ≡ true → field k fs ≡ None → ⊥
not_missing k fs h e = true≢false (sym h ∙ ap is_some e)

pub first_there : (k : Text) (ks : List Text) (fs : Pairs) → has_all (k ∷ ks) fs ≡ true → has k fs ≡ true
first_there k ks fs h = (and_parts (has k fs) (has_all ks fs) h).0

pub second_there : (j k : Text) (ks : List Text) (fs : Pairs) → has_all (j ∷ k ∷ ks) fs ≡ true → has k fs ≡ true
second_there j k ks fs h = first_there k ks fs (and_parts (has j fs) (has_all (k ∷ ks) fs) h).1

-- ## Keys that may be there
-- a key that is there is one of those that may be
key_known : (b : Bool) (ks : List Text) (k j : Text) (here : Tree) (more : Option Tree) → bytes_eq k j ≡ b → is_among j ks ≡ true → is_some (if b then Some here else more) ≡ true
    → (is_some more ≡ true → is_among k ks ≡ true) → is_among k ks ≡ true
key_known true ks k j here more e first h rest = ap (λ x. is_among x ks) ((bytes_eq-Decides k j).0 e) ∙ first
key_known false ks k j here more e first h rest = rest h

pub known_key : (ks : List Text) (fs : Pairs) (k : Text) → has_only ks fs ≡ true → has k fs ≡ true → is_among k ks ≡ true
known_key ks no_pairs k only there = let x : ⊥ = cc in absurd x
known_key ks (pair j x fs) k only there =
    let both = and_parts (is_among j ks) (has_only ks fs) only in
    key_known (bytes_eq k j) ks k j x (field k fs) refl both.0 there (known_key ks fs k both.1)
