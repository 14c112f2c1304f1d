-- What holds of the programs and the refusals of sources.
use Rattle.std.proofs.Common.{◌≡◌, ◌≤◌, ◌∙◌, arith, ℕ, Bool, true, false, if◌then◌else◌, length, nat_le, List, Some, None, Ok, Err, refl, sym, ap, subst}
use Rattle.std.proofs.lemmas.Bool.{leb-false}
use Rattle.wf_ast.specs.Tree.{Program}
use Rattle.wf_check.proofs.Accepted.{silent}
use Rattle.wf_check.specs.Said.{Said, first_said}
use Rattle.wf_syntax_rules.specs.Faults.{IsFirstFault}
use Rattle.wf_syntax_rules.specs.Laws as rules
use Rattle.wf_syntax_rules.specs.Meaning.{Builds}
use Rattle.wf_syntax_rules.specs.declared.fault.SyntaxKind.{SyntaxKind}
use Rattle.wf_source.specs.Laws.{OneProgram, OneRefusal, NotBoth, ProgramIsShort}
use Rattle.wf_source.specs.Programs.{IsRefusalOf, IsSourceOf, no_tree, no_program, no_check, refusal_of, said_refusal}
use Rattle.wf_source.specs.Sources.{content_tree, read_tree, refused, without_mark}
use Rattle.wf_source.specs.Views.{IsErrorOf, TellsOf}
use Rattle.wf_source.specs.declared.fault.SourceFault.{SourceFault}
use Rattle.wf_source.specs.declared.fault.SourceFault.TheVariants.{Refused, OutOfMemory}
use Rattle.wf_status.specs.declared.Refusal.{Refusal}
use Rattle.wf_status.specs.declared.RefusalKind.TheVariants as kind
use Rattle.wf_tree.specs.Trees.{Tree}
use Rattle.wf_value.specs.declared.path.PathPart.{PathPart}

-- bytes have one tree, and none where they are refused as one
same_tree : (bytes : List ℕ) (t u : Tree) → read_tree bytes ≡ Ok t → read_tree bytes ≡ Ok u → u ≡ t
same_tree bytes t u is other = let same : Ok u ≡ Ok t = sym other ∙ is in cc same

no_tree_has_none : (bytes : List ℕ) (t : Tree) (r : Refusal) → read_tree bytes ≡ Ok t → read_tree bytes ≡ Err r → ⊥
no_tree_has_none bytes t r is other = let both : Ok t ≡ Err r = sym is ∙ other in cc both

-- a tree that is a program has no fault
not_faulty : rules.NotBothBuilt → (bytes : List ℕ) (t u : Tree) (p : _) (k : SyntaxKind) (path : List PathPart) → read_tree bytes ≡ Ok t → Builds t p → read_tree bytes ≡ Ok u → IsFirstFault u k path → ⊥
not_faulty apart bytes t u p k path is builds other fault = apart t p k path builds (subst (λ x. IsFirstFault x k path) (same_tree bytes t u is other) fault)

pub one_program : rules.OneProgram → OneProgram
one_program one bytes p q a b = one a.tree p q a.builds (subst (λ x. Builds x q) (same_tree bytes a.tree b.tree a.read b.read) b.builds)

-- the refusal of a fault is that of the same one
same_refusal : (k j : SyntaxKind) (p q : List PathPart) → (k ≡ j) × (p ≡ q) → refusal_of k p ≡ refusal_of j q
same_refusal k j p q e = ap (λ x. refusal_of x p) e.0 ∙ ap (λ x. refusal_of j x) e.1

-- what is said first of a program is said of the same one
same_said : (p q : Program) (s r : Said) → p ≡ q → first_said p ≡ Some s → first_said q ≡ Some r → said_refusal s ≡ said_refusal r
same_said p q s r same a b = let both : Some s ≡ Some r = sym a ∙ ap first_said same ∙ b in ap said_refusal (let is : s ≡ r = cc both in is)

pub one_refusal : rules.OneProgram → rules.OneFault → rules.NotBothBuilt → OneRefusal
one_refusal built one apart bytes _ _ (no_tree r a) (no_tree s b) = let same : Err r ≡ Err s = sym a ∙ b in cc same
one_refusal built one apart bytes _ _ (no_tree r a) (no_program u j q b g) = absurd (no_tree_has_none bytes u r b a)
one_refusal built one apart bytes _ _ (no_tree r a) (no_check u p s b builds said) = absurd (no_tree_has_none bytes u r b a)
one_refusal built one apart bytes _ _ (no_program t k p a f) (no_tree s b) = absurd (no_tree_has_none bytes t s a b)
one_refusal built one apart bytes _ _ (no_program t k p a f) (no_program u j q b g) =
    same_refusal k j p q (one t k j p q f (subst (λ x. IsFirstFault x j q) (same_tree bytes t u a b) g))
one_refusal built one apart bytes _ _ (no_program t k p a f) (no_check u q s b builds said) = absurd (not_faulty apart bytes u t q k p b builds a f)
one_refusal built one apart bytes _ _ (no_check t p s a builds said) (no_tree r b) = absurd (no_tree_has_none bytes t r a b)
one_refusal built one apart bytes _ _ (no_check t p s a builds said) (no_program u j q b g) = absurd (not_faulty apart bytes t u p j q a builds b g)
one_refusal built one apart bytes _ _ (no_check t p s a builds said) (no_check u q r b made told) =
    same_said p q s r (built t p q builds (subst (λ x. Builds x q) (same_tree bytes t u a b) made)) said told

-- a program isn't refused
refused_not : rules.OneProgram → rules.NotBothBuilt → (bytes : List ℕ) (p : _) (r : Refusal) → IsSourceOf bytes p → IsRefusalOf bytes r → ⊥
refused_not one apart bytes p _ is (no_tree r a) = no_tree_has_none bytes is.tree r is.read a
refused_not one apart bytes p _ is (no_program t k path a f) = not_faulty apart bytes is.tree t p k path is.read is.builds a f
refused_not one apart bytes p _ is (no_check t q s a builds said) =
    let same = one is.tree p q is.builds (subst (λ x. Builds x q) (same_tree bytes is.tree t is.read a) builds) in
    let no : None ≡ Some s = sym (silent p is.accepted) ∙ ap first_said same ∙ said in cc no

pub not_both : rules.OneProgram → rules.NotBothBuilt → NotBoth
not_both one apart bytes p r is other = refused_not one apart bytes p r is other

pub short : ProgramIsShort
unfolding read_tree
short bytes p is = by (nat_le 131073 (length bytes)) refl is.read
  where
    by : (b : Bool) → nat_le 131073 (length bytes) ≡ b → (if b then Err (refused kind.SourceTooLong) else content_tree (without_mark bytes)) ≡ Ok is.tree → length bytes ≤ 131072
    by true long it = cc it
    by false long it = let low = leb-false 131073 (length bytes) long in omega (arith, low)

-- what refuses bytes as a tree refuses them as a source
pub refused_as_tree : (bytes : List ℕ) (f : SourceFault) → IsErrorOf (read_tree bytes) f → TellsOf (IsRefusalOf bytes) f
refused_as_tree bytes (Refused r) h = no_tree r h
refused_as_tree bytes OutOfMemory h = tt
