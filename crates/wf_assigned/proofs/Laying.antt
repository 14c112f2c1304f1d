-- Edges that are laid one after another.
use Rattle.std.proofs.Common.{◌≡◌, Bool, List, [], ◌∷◌, ◌++◌, if◌then◌else◌, true, false, None, append_assoc, append-nil, refl, sym, ap, subst, ◌∙◌}
use Rattle.wf_assigned.specs.Edges.{Block as Around, Edge, number_in, step_exit, to_step}
use Rattle.wf_assigned.specs.Laid.{Adds, Finds, Opens, Puts, behind, found_in}
use Rattle.wf_assigned.specs.Numbers.{number_of}
use Rattle.wf_assigned.specs.declared.blocks.Block.{Block}
use Rattle.wf_assigned.specs.declared.edges.Walk.{Walk}
use Rattle.wf_value.specs.Pairs.{Text}

pub adds_none : (a : Walk) → Adds a a []
adds_none a = record { edges = sym (append-nil a.edges.items); blocks = refl }

pub adds_then : (a b c : Walk) (xs ys : List Edge) → Adds a b xs → Adds b c ys → Adds a c (xs ++ ys)
adds_then a b c xs ys h k = record { edges = k.edges ∙ ap (λ (z : List Edge). z ++ ys) h.edges ∙ append_assoc a.edges.items xs ys; blocks = k.blocks ∙ h.blocks }

pub of_these : (a b : Walk) (xs ys : List Edge) → xs ≡ ys → Adds a b xs → Adds a b ys
of_these a b xs ys e h = subst (Adds a b) e h

-- the lists of steps are the same behind it
pub finds_still : (a b : Walk) (xs : List Edge) (around : List Around) → Adds a b xs → Finds a.blocks.items around → Finds b.blocks.items around
finds_still a b xs around h f = subst (λ (z : List Block). Finds z around) (sym h.blocks) f

-- ## Lists of items
-- whatever adds the rest from here on adds all from the beginning
pub record AddsOn (initial : Walk) (now : Walk) (all : List Edge) (rest : List Edge) : Type 0 where
  pub on : (new : Walk) → Adds now new rest → Adds initial new all
  pub blocks : now.blocks.items ≡ initial.blocks.items

pub on_starts : (a : Walk) (all : List Edge) → AddsOn a a all all
on_starts a all = record { on = λ new h. h; blocks = refl }

pub on_next : (initial now new : Walk) (all xs ys : List Edge) → AddsOn initial now all (xs ++ ys) → Adds now new xs → AddsOn initial new all ys
on_next initial now new all xs ys k h = record { on = λ c j. k.on c (adds_then now new c xs ys h j); blocks = h.blocks ∙ k.blocks }

pub on_ends : (initial now : Walk) (all : List Edge) → AddsOn initial now all [] → Adds initial now all
on_ends initial now all k = k.on now (adds_none now)

-- a list of steps is put before the others
opened : (old : List Block) (b : Block) (x : Around) (around : List Around) → ((y : Text) → number_of b.numbers y ≡ number_in y x.steps x.first) → b.depth ≡ x.depth → Finds old around → Finds (b ∷ old) (x ∷ (if b.is_closed then [] else around))
opened old b x around n d f y = by b.is_closed
  where
    by : (c : Bool) → step_exit b.depth (number_of b.numbers y) (if c then None else found_in y old) ≡ step_exit x.depth (number_in y x.steps x.first) (to_step y (if c then [] else around))
    by true i = step_exit (d i) (n y i) None
    by false i = step_exit (d i) (n y i) (f y i)

pub opens : (a b : Walk) (x : Block) (y : Around) (closed : Bool) → closed ≡ x.is_closed → ((z : Text) → number_of x.numbers z ≡ number_in z y.steps y.first) → x.depth ≡ y.depth → Puts a b x → Opens a b y closed
opens a b x y closed same n d h = record {
  edges = h.edges;
  finds = λ around f. subst (λ (z : List Block). Finds z (y ∷ (if closed then [] else around))) (sym h.blocks)
      (subst (λ c. Finds (x ∷ a.blocks.items) (y ∷ (if c then [] else around))) (sym same) (opened a.blocks.items x y around n d f));
  outside = ap behind h.blocks;
}
