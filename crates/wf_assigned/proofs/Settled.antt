-- A task that settles, and one that raises an error, stand where a walk has come.
use Rattle.std.specs.Prelude.{◌≡◌, ℕ, suc, ◌≤◌, T, not, Bool, true, false, List, [], ◌∷◌, length, drop, if◌then◌else◌, Some, None, Option}
use Rattle.std.proofs.Common.{arith}
use mathlib.Core.Path.{refl, sym, subst, ap, ◌∙◌}
use Rattle.wf_ast.specs.Tree.{Flow, Steps, no_steps, more}
use Rattle.wf_assigned.proofs.Reached.{leads_on, stands_drop}
use Rattle.wf_assigned.specs.Edges.{EndOf, Exit, Site, flow_edges}
use Rattle.wf_assigned.specs.Standing
use Rattle.wf_assigned.specs.Standing.{chain, held, Covers, Reach, Arrives, Leads, StandsAt, Shallow, Proper, Sub, in_list, exit, Bottom, Root, Pin, Pins, text_in, edges_in, entry_in, site, station, Ended, Pinned, Sized, outer_vars, StandsMoved}
use Rattle.wf_model.specs.Config.{Layer, Item, Do, Entries, Then, Loop, Try, Judge, Mark, Back, Join, Awake}
use Rattle.wf_model.specs.Local.{Local, leave, goes}
use Rattle.wf_value.specs.Data.{Pairs}

-- ## Sizes
pub list_depth : (ss : Steps) (n : ℕ) (a : Site) → (in_list ss n a).depth ≡ a.depth
list_depth no_steps n a = refl
list_depth (more s ss) n a = refl

pub list_fails : (ss : Steps) (n : ℕ) (a : Site) → (in_list ss n a).fails ≡ a.fails
list_fails no_steps n a = refl
list_fails (more s ss) n a = refl

pub chain_mark : (l : Layer) (ls : List Layer) (outer : List Pairs) → T (not l.by_call) → chain (l ∷ ls) outer ≡ l.vars ∷ chain ls outer
chain_mark l ls outer h = by l.by_call h
  where
    by : (b : Bool) → T (not b) → (l.vars ∷ (if b then [] else chain ls outer)) ≡ l.vars ∷ chain ls outer
    by false j = refl
    by true j = absurd j

pub chain_call : (l : Layer) (ls : List Layer) (outer : List Pairs) → T l.by_call → chain (l ∷ ls) outer ≡ l.vars ∷ []
chain_call l ls outer h = by l.by_call h
  where
    by : (b : Bool) → T b → (l.vars ∷ (if b then [] else chain ls outer)) ≡ l.vars ∷ []
    by true j = refl
    by false j = absurd j

module _ (r : Root) (outer : List Pairs) where
  -- a task sees as many layers as stand around its place
  pub size_is : (k : List Item) (ps : Pins k) (ls : List Layer) → Sized r k ps ls outer → length (chain ls outer) ≡ (site r k ps).depth
  size_is [] ps ls h = h.0
  size_is (Do block left ∷ k) ps ls h = size_is k ps.1 ls h ∙ sym (list_depth block ps.0.first (site r k ps.1))
  size_is (Entries es ∷ k) ps ls h = size_is k ps.1 ls h
  size_is (Then x ∷ k) ps ls h = size_is k ps.1 ls h
  size_is (Loop b left i ∷ k) ps ls h = size_is k ps.1 ls h
  size_is (Try t n d ∷ k) ps ls h = size_is k ps.1 ls h
  size_is (Judge t n d e ∷ k) ps ls h = size_is k ps.1 ls h.1
  size_is (Mark ∷ k) ps [] h = absurd h
  size_is (Mark ∷ k) ps (l ∷ ls) h = ap length (chain_mark l ls outer h.0) ∙ ap suc (size_is k ps.1 ls h.1)
  size_is (Back x ∷ k) ps [] h = absurd h
  size_is (Back x ∷ k) ps (l ∷ ls) h = ap length (chain_call l ls outer h.0)
  size_is (Join b left n running es ∷ k) ps ls h = size_is k ps.1 ls h

module _ (r : Root) (bottom : Bottom r) (proper : (f : Flow) (n : ℕ) → Proper (flow_edges f n)) where
  -- ## Exits are no deeper than their place
  pub shallow_up : (o : Option Exit) (m n : ℕ) → m ≤ n → Shallow o m → Shallow o n
  shallow_up None m n l h = tt
  shallow_up (Some e) m n l h = omega (arith, l, h)

  pub fails_shallow : (k : List Item) (ps : Pins k) → Shallow (site r k ps).fails (site r k ps).depth
  fails_shallow [] ps = subst (λ z. Shallow z r.site.depth) (sym bottom.fails) tt
  fails_shallow (Do block left ∷ k) ps =
      subst (λ z. Shallow z (in_list block ps.0.first (site r k ps.1)).depth) (sym (list_fails block ps.0.first (site r k ps.1)))
      (subst (Shallow (site r k ps.1).fails) (sym (list_depth block ps.0.first (site r k ps.1))) (fails_shallow k ps.1))
  fails_shallow (Entries es ∷ k) ps = fails_shallow k ps.1
  fails_shallow (Then x ∷ k) ps = fails_shallow k ps.1
  fails_shallow (Loop b left i ∷ k) ps = fails_shallow k ps.1
  fails_shallow (Try t n d ∷ k) ps = omega arith
  fails_shallow (Judge t n d e ∷ k) ps = fails_shallow k ps.1
  fails_shallow (Mark ∷ k) ps = shallow_up (site r k ps.1).fails (site r k ps.1).depth (suc (site r k ps.1).depth) (omega arith) (fails_shallow k ps.1)
  fails_shallow (Back x ∷ k) ps = tt
  fails_shallow (Join b left n running es ∷ k) ps = fails_shallow k ps.1

  pub station_shallow : (k : List Item) (ps : Pins k) → Pinned r k ps → Shallow (station r k ps) (site r k ps).depth
  station_shallow [] ps h = tt
  station_shallow (Do block no_steps ∷ k) ps h = subst (Shallow ps.0.out) (sym (list_depth block ps.0.first (site r k ps.1))) h.3
  station_shallow (Do block (more s ss) ∷ k) ps h = omega arith
  station_shallow (Entries es ∷ k) ps h = omega arith
  station_shallow (Then x ∷ k) ps h = omega arith
  station_shallow (Loop b left i ∷ k) ps h = omega arith
  station_shallow (Try t n d ∷ k) ps h = omega arith
  station_shallow (Judge t n d e ∷ k) ps h = tt
  station_shallow (Mark ∷ k) ps h = shallow_up (station r k ps.1) (site r k ps.1).depth (suc (site r k ps.1).depth) (omega arith) (station_shallow k ps.1 h)
  station_shallow (Back x ∷ k) ps h = tt
  station_shallow (Join b left n running es ∷ k) ps h = omega arith

  -- without the innermost layer, at a place outside it
  pub outside_mark : (k : List Item) (ps : Pins k) (o : Option Exit) (l : Layer) (ls : List Layer) (outer : List Pairs) → Shallow o (site r k ps).depth → T (not l.by_call) → Sized r k ps ls outer
      → StandsAt (edges_in r k ps) (entry_in r k ps) o (chain (l ∷ ls) outer) → StandsAt (edges_in r k ps) (entry_in r k ps) o (chain ls outer)
  outside_mark k ps o l ls outer i h z w =
      stands_drop (edges_in r k ps) (entry_in r k ps) (proper (text_in r k ps).flow (text_in r k ps).entry) o l.vars (chain ls outer)
      (subst (Shallow o) (sym (size_is r outer k ps ls z)) i)
      (subst (StandsAt (edges_in r k ps) (entry_in r k ps) o) (chain_mark l ls outer h) w)

  pub awake : (k : List Item) (l : Local) → l.wait ≡ Awake → Standing.Standing r k l.layers (outer_vars l.outer) → Standing.StandsLocal r (record l { control = k })
  awake k l a h = subst (λ w. Standing.StandsBy r w k l.layers (outer_vars l.outer)) (sym a) h

  -- ## Settling
  pub settles : (k : List Item) (ps : Pins k) (l : Local) → l.wait ≡ Awake → Pinned r k ps → Sized r k ps l.layers (outer_vars l.outer)
      → StandsAt (edges_in r k ps) (entry_in r k ps) (station r k ps) (chain l.layers (outer_vars l.outer)) → StandsMoved r (goes k l)
  settles [] ps l a h z w = tt
  settles (Do block no_steps ∷ k) ps l a h z w = settles k ps.1 l a h.4 z (leads_on (edges_in r k ps.1) (entry_in r k ps.1) ps.0.out (station r k ps.1) (chain l.layers (outer_vars l.outer)) h.2 w)
  settles (Do block (more s ss) ∷ k) ps l a h z w = awake (Do block (more s ss) ∷ k) l a (record { pins = ps; pinned = h; sized = z; walk = w })
  settles (Entries [] ∷ k) ps l a h z w = settles k ps.1 l a h.2 z (leads_on (edges_in r k ps.1) (entry_in r k ps.1) (Some (exit (EndOf ps.0.number) (site r k ps.1))) (station r k ps.1) (chain l.layers (outer_vars l.outer)) h.1 w)
  settles (Entries (e ∷ es) ∷ k) ps l a h z w = awake (Entries (e ∷ es) ∷ k) l a (record { pins = ps; pinned = h; sized = z; walk = w })
  settles (Then x ∷ k) ps l a h z w = awake (Then x ∷ k) l a (record { pins = ps; pinned = h; sized = z; walk = w })
  settles (Loop b left i ∷ k) ps l a h z w = awake (Loop b left i ∷ k) l a (record { pins = ps; pinned = h; sized = z; walk = w })
  settles (Try t n d ∷ k) ps l a h z w = settles k ps.1 l a h.2 z (leads_on (edges_in r k ps.1) (entry_in r k ps.1) (Some (exit (EndOf ps.0) (site r k ps.1))) (station r k ps.1) (chain l.layers (outer_vars l.outer)) h.1 w)
  settles (Judge t n d e ∷ k) ps l a h z w = awake (Judge t n d e ∷ k) l a (record { pins = ps; pinned = h; sized = z; walk = w })
  settles (Mark ∷ k) ps l a h z w = by l.layers (settles k ps.1 (leave l) a h) z w
    where
      by : (ls : List Layer) → (Sized r k ps.1 (drop 1 ls) (outer_vars l.outer) → StandsAt (edges_in r k ps.1) (entry_in r k ps.1) (station r k ps.1) (chain (drop 1 ls) (outer_vars l.outer)) → StandsMoved r (goes k (leave l)))
          → Sized r (Mark ∷ k) ps ls (outer_vars l.outer) → StandsAt (edges_in r k ps.1) (entry_in r k ps.1) (station r k ps.1) (chain ls (outer_vars l.outer)) → StandsMoved r (goes k (leave l))
      by [] f y v = absurd y
      by (x ∷ ls) f y v = f y.1 (outside_mark k ps.1 (station r k ps.1) x ls (outer_vars l.outer) (station_shallow k ps.1 h) y.0 y.1 v)
  settles (Back x ∷ k) ps l a h z w = awake (Back x ∷ k) l a (record { pins = ps; pinned = h; sized = z; walk = w })
  settles (Join b left n running es ∷ k) ps l a h z w = awake (Join b left n running es ∷ k) l a (record { pins = ps; pinned = h; sized = z; walk = w })
