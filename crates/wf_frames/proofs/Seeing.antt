-- What a task sees when it evaluates.
use Rattle.std.proofs.Common.{◌≡◌, ℕ, Bool, true, false, List, [], ◌∷◌, ◌++◌, Option, Some, None, refl, sym, ap, subst, ◌∙◌, cond}
use Rattle.std.specs.Prelude.{if◌then◌else◌, map as each}
use Rattle.std.specs.Ordering.{is_eq}
use Rattle.wf_ast.specs.Apply.{View}
use Rattle.wf_eval.specs.Sight.{seen}
use Rattle.wf_frames.proofs.Owning.{innermost_own}
use Rattle.wf_frames.proofs.Stores.{inside_live}
use Rattle.wf_frames.specs.Frames.{owned}
use Rattle.wf_frames.specs.Innermost.{innermost}
use Rattle.wf_frames.specs.Held.{standing}
use Rattle.wf_frames.specs.Owned.{Around, IsInside, IsLinked, KeysStand, Linked, OwnStand, first_key, held_of, next_own, outer_for}
use Rattle.wf_frames.specs.Sights.{Sees, names_in, sight_from}
use Rattle.wf_frames.specs.declared.facts.Facts.{Facts}
use Rattle.wf_frames.specs.declared.frames.Frame.{Frame}
use Rattle.wf_model.specs.Layers.{held, value_of, view}
use Rattle.wf_model.specs.Local.{Local, Scene}
use Rattle.wf_frames.proofs.Looks.{looks}
use Rattle.wf_scope.proofs.Numbers.{number_found}
use Rattle.wf_scope.proofs.Seen.{chain_last, chain_outer, vars_found}
use Rattle.wf_scope.specs.Layers.{IsLive, Layer, all_stand, chain, look_in, vars_at}
use Rattle.wf_scope.specs.Store.{layers_of}
use Rattle.wf_frames.specs.Tasks as task
use Rattle.wf_frames.specs.Tasks.{Far, Own, far_layers, numbers_seen, own_layers, variables}
use Rattle.wf_scope.specs.declared.scopes.Scopes.{Scopes}
use Rattle.wf_value.specs.Data.{Data, pairs_of}
use Rattle.wf_value.specs.Maps.{key_cmp, value_at}
use Rattle.wf_value.specs.Pairs.{Text}

-- ## Chains
abbrev onward : Option ℕ → List Layer → List Layer
onward None ls = []
onward (Some n) ls = chain n ls

module _ (ls : List Layer) (all : all_stand ls ls ≡ true) where
  chain_is : (n : ℕ) (o : Option ℕ) (i : IsInside n o ls) → chain n ls ≡ i.0 ∷ onward o ls
  chain_is n None i = chain_last n ls i.0 i.1 i.2
  chain_is n (Some m) i = chain_outer n m ls i.0 all i.1 i.2

  far_seen : (ks : List Far) → KeysStand ks ls → variables (onward (first_key ks) ls) ≡ each (λ o. o.layer.vars) (far_layers ks ls)
  far_seen [] h = refl
  far_seen (k ∷ ks) h =
      ap variables (chain_is k.number (first_key ks) h.0)
      ∙ ap (λ ps. pairs_of ps ∷ variables (onward (first_key ks) ls)) (sym (vars_found k.number ls h.0.0 h.0.1))
      ∙ ap (λ ys. pairs_of (vars_at k.number ls) ∷ ys) (far_seen ks h.1)

  own_seen : (ks : List Far) (os : List Own) → OwnStand (first_key ks) os ls → KeysStand ks ls → variables (onward (next_own (first_key ks) os) ls) ≡ task.seen (own_layers os ls) (far_layers ks ls)
  own_seen ks [] h k = far_seen ks k
  own_seen ks (o ∷ os) h k =
      ap variables (chain_is o.number (outer_for o.by_call (next_own (first_key ks) os)) h.0)
      ∙ ap (λ ps. pairs_of ps ∷ variables (onward (outer_for o.by_call (next_own (first_key ks) os)) ls)) (sym (vars_found o.number ls h.0.0 h.0.1))
      ∙ ap (λ ys. pairs_of (vars_at o.number ls) ∷ ys) (further o.by_call (own_seen ks os h.1 k))
    where
      further : (b : Bool) → variables (onward (next_own (first_key ks) os) ls) ≡ task.seen (own_layers os ls) (far_layers ks ls)
          → variables (onward (outer_for b (next_own (first_key ks) os)) ls) ≡ (if b then [] else task.seen (own_layers os ls) (far_layers ks ls))
      further true later = refl
      further false later = later

  -- the numbers of what is seen
  far_numbers : (ks : List Far) → KeysStand ks ls → each (λ l. l.number) (onward (first_key ks) ls) ≡ each (λ k. k.number) ks
  far_numbers [] h = refl
  far_numbers (k ∷ ks) h =
      ap (each (λ l. l.number)) (chain_is k.number (first_key ks) h.0)
      ∙ ap (λ (m : ℕ). m ∷ each (λ l. l.number) (onward (first_key ks) ls)) (number_found k.number ls h.0.0 h.0.1)
      ∙ ap (λ (ms : List ℕ). k.number ∷ ms) (far_numbers ks h.1)

  own_numbers : (ks : List Far) (os : List Own) → OwnStand (first_key ks) os ls → KeysStand ks ls → each (λ l. l.number) (onward (next_own (first_key ks) os) ls) ≡ numbers_seen os ks
  own_numbers ks [] h k = far_numbers ks k
  own_numbers ks (o ∷ os) h k =
      ap (each (λ l. l.number)) (chain_is o.number (outer_for o.by_call (next_own (first_key ks) os)) h.0)
      ∙ ap (λ (m : ℕ). m ∷ each (λ l. l.number) (onward (outer_for o.by_call (next_own (first_key ks) os)) ls)) (number_found o.number ls h.0.0 h.0.1)
      ∙ ap (λ (ms : List ℕ). o.number ∷ ms) (further o.by_call (own_numbers ks os h.1 k))
    where
      further : (b : Bool) → each (λ l. l.number) (onward (next_own (first_key ks) os) ls) ≡ numbers_seen os ks
          → each (λ l. l.number) (onward (outer_for b (next_own (first_key ks) os)) ls) ≡ (if b then [] else numbers_seen os ks)
      further true later = refl
      further false later = later

  pub sight_is : (ks : List Far) (o : Own) (os : List Own) → OwnStand (first_key ks) (o ∷ os) ls → KeysStand ks ls → each (λ l. l.number) (chain o.number ls) ≡ numbers_seen (o ∷ os) ks
  sight_is ks o os h k = own_numbers ks (o ∷ os) h k

-- ## Names
names_join : (x : Text) (ps qs : List (Text × Data)) → value_at x (ps ++ qs) ≡ elim (value_at x ps) [ None ↦ value_at x qs | Some v ↦ Some v ]
names_join x [] qs = refl
names_join x (p ∷ ps) qs = by (is_eq (key_cmp x p.0)) (names_join x ps qs)
  where
    by : (b : Bool) → value_at x (ps ++ qs) ≡ elim (value_at x ps) [ None ↦ value_at x qs | Some v ↦ Some v ]
        → cond b (Some p.1) (value_at x (ps ++ qs)) ≡ elim (cond b (Some p.1) (value_at x ps)) [ None ↦ value_at x qs | Some v ↦ Some v ]
    by true later = refl
    by false later = later

pub names_look : (x : Text) (ls : List Layer) → value_at x (names_in ls) ≡ look_in x ls
names_look x [] = refl
names_look x (l ∷ ls) = names_join x l.vars (names_in ls) ∙ ap {B = Option Data} (λ o. elim (value_at x l.vars) [ None ↦ o | Some v ↦ Some v ]) (names_look x ls)

ext : {A B : Type 0} (f g : A → B) → ((x : A) → f x ≡ g x) → f ≡ g
ext f g h = λ i x. h x i

-- ## The view
view_by : (s : Scene) (l : Local) (f : Facts) (names : List (Text × Data)) → Sees s f → ((x : Text) → value_of (held x l) ≡ value_at x names) → view s l ≡ seen (record { names = names; env = f.env; id = f.id; base = f.base }) f.now
view_by s l f names h same =
    ap {B = View} (λ look. record { look = look; env = s.facts.env; id = s.facts.id; base = s.facts.base; now = s.now }) (ext (λ x. value_of (held x l)) (λ x. value_at x names) same)
    ∙ ap {B = View} (λ e. record { look = λ x. value_at x names; env = e; id = s.facts.id; base = s.facts.base; now = s.now }) h.env
    ∙ ap {B = View} (λ (t : Text). record { look = λ x. value_at x names; env = f.env; id = t; base = s.facts.base; now = s.now }) h.id
    ∙ ap {B = View} (λ (t : Text). record { look = λ x. value_at x names; env = f.env; id = f.id; base = t; now = s.now }) h.base
    ∙ ap {B = View} (λ (n : ℕ). record { look = λ x. value_at x names; env = f.env; id = f.id; base = f.base; now = n }) h.now

module _ (a : Around) (first : ℕ) (fs : List Frame) (x : Scopes) (n : ℕ) (h : IsLinked a (owned first fs) x) (is : n ≡ innermost first fs) where
  next_is : next_own (first_key a.keys) (owned first fs) ≡ Some n
  next_is = let i = innermost_own first fs in ap (next_own (first_key a.keys)) i.is ∙ ap Some (i.number ∙ sym is)

  pub innermost_live : IsLive n (layers_of x)
  innermost_live =
      let i = innermost_own first fs in
      let l = subst (λ os. Linked a.keys os (layers_of x)) i.is h.layers in
      subst (λ (m : ℕ). IsLive m (layers_of x)) (i.number ∙ sym is) (inside_live i.top.number (outer_for i.top.by_call (next_own (first_key a.keys) i.rest)) (layers_of x) l.stand.0)

  -- a name has the value that the task sees
  pub looks_so : all_stand (layers_of x) (layers_of x) ≡ true → (y : Text) → look_in y (chain n (layers_of x)) ≡ value_of (held y (standing [] (held_of a.keys (owned first fs) (layers_of x))))
  looks_so all y =
      looks y (chain n (layers_of x)) (standing [] (held_of a.keys (owned first fs) (layers_of x)))
      (ap (λ o. variables (onward o (layers_of x))) (sym next_is) ∙ own_seen (layers_of x) all a.keys (owned first fs) h.layers.stand h.layers.keys)

  pub seen_so : all_stand (layers_of x) (layers_of x) ≡ true → (f : Facts) (s : Scene) → Sees s f → view s (standing [] (held_of a.keys (owned first fs) (layers_of x))) ≡ seen (sight_from x n f) f.now
  seen_so all f s sees =
      view_by s (standing [] (held_of a.keys (owned first fs) (layers_of x))) f (names_in (chain n (layers_of x))) sees (λ y. sym (names_look y (chain n (layers_of x)) ∙ looks_so all y))
