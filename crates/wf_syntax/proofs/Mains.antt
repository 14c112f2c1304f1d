-- Programs: `main`, and the other workflows in their order.
use Rattle.std.proofs.Common.{◌≡◌, ℕ, suc, ◌<◌, ◌++◌, Bool, true, false, cond, List, [], ◌∷◌, append-nil, take, length, get_or, Option, Some, None, if◌then◌else◌, codes, bytes_eq, refl, sym, ap, ◌∙◌, subst}
use Rattle.std.proofs.lemmas.Map.Text.{is_eq-slice_cmp}
use Rattle.std.proofs.lemmas.Slice.Eq.{bytes_eq-Decides}
use Rattle.std.specs.Map.{keys_of}
use Rattle.std.specs.Ordering.{is_eq}
use Rattle.wf_ast.specs.Tree as t
use Rattle.wf_syntax_rules.specs.Faults.{AreSound}
use Rattle.wf_syntax_rules.specs.Meaning.{FlowsIn, IsFlow, IsProgram, Maybe, others}
use Rattle.wf_syntax_rules.specs.Rules.{Flow, Flows, Sub, demand, every}
use Rattle.wf_syntax_words.specs.Fields.{field, has}
use Rattle.wf_syntax_rules.specs.declared.fault.SyntaxKind.TheVariants.{MissingField}
use Rattle.wf_syntax.proofs.Lists.{every_fails, every_next, take_next}
use Rattle.wf_syntax.proofs.Nodes.{map_fails, map_sound}
use Rattle.wf_syntax.proofs.Ordered.{AllBelow, above, keys_below}
use Rattle.wf_syntax.specs.Answers.{Fails, IsSoundAnd}
use Rattle.wf_value.specs.Stops.{IsOutside}
use Rattle.wf_syntax_rules.specs.declared.fault.SyntaxKind.{SyntaxKind}
use Rattle.wf_value.specs.declared.stop.Stop.{Stop}
use Rattle.wf_tree.specs.Trees.{Pairs, Tree, map, pair, pairs_of}
use Rattle.wf_value.specs.Maps.{IsInOrder}
use Rattle.wf_value.specs.Pairs.{Text}
use Rattle.wf_value.specs.declared.path.PathPart.TheVariants.{Key}

abbrev pub Entry : Type 0
Entry = Text × Tree

-- ## Keys
flipped : (a b : Text) → bytes_eq a b ≡ false → bytes_eq b a ≡ false
flipped a b h = by (bytes_eq b a) refl
  where
    by : (x : Bool) → bytes_eq b a ≡ x → bytes_eq b a ≡ false
    by false e = e
    by true e = let same : bytes_eq a b ≡ true = (bytes_eq-Decides a b).1 (sym ((bytes_eq-Decides b a).0 e)) in cc

-- ## The field of a map with one pair more
abbrev first : Option Tree → Option Tree → Option Tree
first (Some x) o = Some x
first None o = o

first_none : (o : Option Tree) → first o None ≡ o
first_none (Some x) = refl
first_none None = refl

field_by : (b : Bool) (x : Tree) (o p q : Option Tree) → o ≡ first p q → cond b (Some x) o ≡ first (cond b (Some x) p) q
field_by true x o p q h = refl
field_by false x o p q h = h

field_end : (k : Text) (ps : List Entry) (p : Entry) → field k (pairs_of (ps ++ p ∷ [])) ≡ first (field k (pairs_of ps)) (cond (bytes_eq k p.0) (Some p.1) None)
field_end k [] p = refl
field_end k (q ∷ ps) p = field_by (bytes_eq k q.0) q.1 _ _ _ (field_end k ps p)

none_below : (k : Text) (ps : List Entry) → AllBelow k (keys_of ps) → field k (pairs_of ps) ≡ None
none_below k [] h = refl
none_below k (p ∷ ps) h =
    ap (λ b. cond b (Some p.1) (field k (pairs_of ps))) (sym (is_eq-slice_cmp k p.0) ∙ ap is_eq (above p.0 k h.0)) ∙ none_below k ps h.1

-- ## The workflows besides `main`
abbrev kept : List Entry → List Entry
kept [] = []
kept (p ∷ ps) = let more = kept ps in if bytes_eq p.0 (codes "main") then more else p ∷ more

others_by : (b : Bool) (p : Entry) (more : Pairs) (ps : List Entry) → more ≡ pairs_of ps → cond b more (pair p.0 p.1 more) ≡ pairs_of (cond b ps (p ∷ ps))
others_by true p more ps h = h
others_by false p more ps h = ap (λ l. pair p.0 p.1 l) h

others_are : (ps : List Entry) → others (pairs_of ps) ≡ pairs_of (kept ps)
others_are [] = refl
others_are (p ∷ ps) = others_by (bytes_eq p.0 (codes "main")) p (others (pairs_of ps)) (kept ps) (others_are ps)

kept_by : (b : Bool) (p : Entry) (all xs ys : List Entry) → all ≡ xs ++ ys → cond b all (p ∷ all) ≡ cond b xs (p ∷ xs) ++ ys
kept_by true p all xs ys h = h
kept_by false p all xs ys h = ap (λ l. p ∷ l) h

kept_both : (xs ys : List Entry) → kept (xs ++ ys) ≡ kept xs ++ kept ys
kept_both [] ys = refl
kept_both (x ∷ xs) ys = kept_by (bytes_eq x.0 (codes "main")) x (kept (xs ++ ys)) (kept xs) (kept ys) (kept_both xs ys)

flows_next : (fs : List t.Flow) (ps : List Entry) (f : t.Flow) (p : Entry) → FlowsIn fs (pairs_of ps) → IsFlow f p.0 p.1 → FlowsIn (fs ++ f ∷ []) (pairs_of (ps ++ p ∷ []))
flows_next [] [] f p h here = (here, tt)
flows_next [] (q ∷ ps) f p h here = absurd h
flows_next (g ∷ fs) [] f p h here = absurd h
flows_next (g ∷ fs) (q ∷ ps) f p h here = (h.0, flows_next fs ps f p h.1 here)

-- ## The loop over the workflows
abbrev pub flows_of : List Entry → List Sub
flows_of ps = every Flow (pairs_of ps)

abbrev pub IsMain : t.Flow → Tree → Type 0
IsMain f x = IsFlow f (codes "main") x

-- the pairs so far give `main`, if it is among them, and the others
pub record SoFar (main : Option t.Flow) (rest : List t.Flow) (ps : List Entry) : Type 0 where
  pub sound : AreSound (every Flow (pairs_of ps))
  pub first : Maybe main (codes "main") (pairs_of ps) IsMain
  pub others : FlowsIn rest (others (pairs_of ps))

same_field : (o : Option t.Flow) (fs gs : Pairs) → field (codes "main") gs ≡ field (codes "main") fs → Maybe o (codes "main") fs IsMain → Maybe o (codes "main") gs IsMain
same_field None fs gs e h = e ∙ h
same_field (Some f) fs gs e h = (h.0, e ∙ h.1, h.2)

pub main_next : (main : Option t.Flow) (rest : List t.Flow) (f : t.Flow) (ps : List Entry) (i : ℕ) (p : Entry) → i < length ps → p ≡ get_or ps i p → IsInOrder ps → SoFar main rest (take i ps)
    → bytes_eq p.0 (codes "main") ≡ true → IsSoundAnd (Flow p.0) p.1 (IsFlow f p.0 p.1) → SoFar (Some f) rest (take (suc i) ps)
main_next main rest f ps i p lt e order sofar named here =
    let name : p.0 ≡ codes "main" = (bytes_eq-Decides p.0 (codes "main")).0 named in
    let next = take_next ps i p lt e in
    let none : field (codes "main") (pairs_of (take i ps)) ≡ None = subst (λ k. field k (pairs_of (take i ps)) ≡ None) name (none_below p.0 (take i ps) (keys_below ps i p lt e order)) in
    let back : bytes_eq (codes "main") p.0 ≡ true = (bytes_eq-Decides (codes "main") p.0).1 (sym name) in
    record {
      sound = every_next Flow ps i p lt e sofar.sound here.0;
      first = (
        p.1,
        ap (λ l. field (codes "main") (pairs_of l)) next ∙ field_end (codes "main") (take i ps) p ∙ ap (λ o. first o (cond (bytes_eq (codes "main") p.0) (Some p.1) None)) none ∙ ap (λ b. cond b (Some p.1) None) back,
        subst (λ k. IsFlow f k p.1) name here.1,
      );
      others =
          subst (λ l. FlowsIn rest l)
          (others_are (take i ps) ∙ ap pairs_of (sym (kept_both (take i ps) (p ∷ []) ∙ ap (λ l. kept (take i ps) ++ l) (ap (λ b. cond b [] (p ∷ [])) named) ∙ append-nil (kept (take i ps)))) ∙ sym (others_are (take i ps ++ p ∷ [])) ∙ ap (λ l. others (pairs_of l)) (sym next))
          sofar.others;
    }

pub other_next : (main : Option t.Flow) (rest : List t.Flow) (f : t.Flow) (ps : List Entry) (i : ℕ) (p : Entry) → i < length ps → p ≡ get_or ps i p → SoFar main rest (take i ps)
    → bytes_eq p.0 (codes "main") ≡ false → IsSoundAnd (Flow p.0) p.1 (IsFlow f p.0 p.1) → SoFar main (rest ++ f ∷ []) (take (suc i) ps)
other_next main rest f ps i p lt e sofar named here =
    let next = take_next ps i p lt e in
    record {
      sound = every_next Flow ps i p lt e sofar.sound here.0;
      first =
          same_field main (pairs_of (take i ps)) (pairs_of (take (suc i) ps))
          (ap (λ l. field (codes "main") (pairs_of l)) next ∙ field_end (codes "main") (take i ps) p ∙ ap (λ b. first (field (codes "main") (pairs_of (take i ps))) (cond b (Some p.1) None)) (flipped p.0 (codes "main") named) ∙ first_none (field (codes "main") (pairs_of (take i ps))))
          sofar.first;
      others =
          subst (λ l. FlowsIn (rest ++ f ∷ []) l)
          (ap pairs_of (ap (λ l. kept (take i ps) ++ l) (sym (ap (λ b. cond b [] (p ∷ [])) named)) ∙ sym (kept_both (take i ps) (p ∷ []))) ∙ sym (others_are (take i ps ++ p ∷ [])) ∙ ap (λ l. others (pairs_of l)) (sym next))
          (flows_next rest (kept (take i ps)) f p (subst (λ l. FlowsIn rest l) (others_are (take i ps)) sofar.others) here.1);
    }

-- ## The whole map
pub flow_fails : (ps : List Entry) (i : ℕ) (p : Entry) (s o : Stop SyntaxKind) → i < length ps → p ≡ get_or ps i p → has (codes "main") (pairs_of ps) ≡ true → AreSound (every Flow (pairs_of (take i ps))) → Fails (Flow p.0) p.1 s → IsOutside (Key p.0) s o
    → Fails Flows (map (pairs_of ps)) o
flow_fails ps i p s o lt e main sound h out = map_fails Flows (map (pairs_of ps)) (pairs_of ps) o refl (ap (λ b. demand b MissingField) main) (every_fails Flow ps i p s o lt e sound h out)

pub program_given : (fs : Pairs) (ps : List Entry) (main : t.Flow) (rest : List t.Flow) (p : t.Program) → pairs_of ps ≡ fs → has (codes "main") fs ≡ true → SoFar (Some main) rest ps → p.flows ≡ main ∷ rest → IsSoundAnd Flows (map fs) (IsProgram p (map fs))
program_given fs ps main rest p e has_main sofar is =
    subst (λ gs. has (codes "main") gs ≡ true → IsSoundAnd Flows (map gs) (IsProgram p (map gs))) e
    (λ h. (map_sound Flows (map (pairs_of ps)) (pairs_of ps) refl (ap (λ b. demand b MissingField) h) (λ f z. z) sofar.sound, (main, rest, is, sofar.first, sofar.others))) has_main
