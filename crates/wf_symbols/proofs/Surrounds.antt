-- Into blocks and layers, and out of them.
use Rattle.std.proofs.Common.{◌≡◌, Bool, true, false, ◌||◌, List, [], ◌∷◌, Option, if◌then◌else◌, map, option_map, refl, sym, ap, ◌∙◌, subst, bytes_eq}
use Rattle.wf_ast.specs.Blocks.{has_step, in_blocks}
use Rattle.wf_ast.specs.Nodes.{Around, Names, assigned}
use Rattle.wf_ast.specs.Tree.{Steps}
use Rattle.wf_symbols.specs.Around.{AlikeLayer, AlikeLayers, IsBound, IsClosed, IsLayer, IsOpened, IsUnbound, SameNames, SameShared, Stands, Still, behind, inside_view, layer_view, reach, steps_named, within}
use Rattle.wf_symbols.specs.Names.{names_of}
use Rattle.wf_symbols.specs.declared.around.Here.{Here}
use Rattle.wf_symbols.specs.declared.around.Layer.{Layer}
use Rattle.wf_symbols.specs.declared.around.Scopes.{Scopes}
use Rattle.wf_symbols.specs.declared.names.Names as held
use Rattle.wf_value.specs.HttpRequest.{is_among}
use Rattle.wf_value.specs.Pairs.{Text}

pub has_named : (x : Text) (xs : List Text) → has_step x (steps_named xs) ≡ is_among x xs
has_named x [] = refl
has_named x (y ∷ ys) = ap (λ o. bytes_eq x y || o) (has_named x ys)

further_out : (x : Text) (closed : Bool) (bs cs : List Steps) → in_blocks x bs ≡ in_blocks x cs → in_blocks x (if closed then [] else bs) ≡ in_blocks x (if closed then [] else cs)
further_out x true bs cs h = refl
further_out x false bs cs h = h

pub into_block : (s t : Scopes) (h : Here) (ss : Steps) (closed : Bool) (b : Around) → IsOpened s t ss closed → Stands s h b → Stands t h (record b { blocks = ss ∷ (if closed then [] else b.blocks) })
into_block s t h ss closed b o k = record {
  workflow = λ x. ap (λ w. is_among x (names_of w)) o.workflow ∙ k.workflow x;
  blocks = λ x.
      ap (λ l. in_blocks x (reach l)) o.blocks
      ∙ (λ i. (has_named x (names_of o.block.names) ∙ o.has x) i || in_blocks x (if o.is_closed i then [] else reach s.blocks.items))
      ∙ ap (λ p. has_step x ss || p) (further_out x closed (reach s.blocks.items) b.blocks (k.blocks x));
  inside = k.inside;
  in_branch = k.in_branch;
  layers = subst (λ l. AlikeLayers (map layer_view l.items) b.layers) (sym o.layers) k.layers;
}

pub into_layer : (s t : Scopes) (h : Here) (l : Layer) (m : Names) (b : Around) → IsBound s t l → AlikeLayer (layer_view l) m → Stands s h b → Stands t h (record b { layers = m ∷ b.layers })
into_layer s t h l m b o a k = record {
  workflow = λ x. ap (λ w. is_among x (names_of w)) o.workflow ∙ k.workflow x;
  blocks = λ x. ap (λ l. in_blocks x (reach l.items)) o.blocks ∙ k.blocks x;
  inside = k.inside;
  in_branch = k.in_branch;
  layers = subst (λ l. AlikeLayers (map layer_view l) (m ∷ b.layers)) (sym o.layers) (a, k.layers);
}

pub elsewhere : (s : Scopes) (h g : Here) (b : Around) → Stands s h b → Stands s g (record b { inside = inside_view g.inside; in_branch = g.in_branch })
elsewhere s h g b k = record { workflow = k.workflow; blocks = k.blocks; inside = refl; in_branch = refl; layers = k.layers }

pub layer_alike : (l : Layer) (binds : held.Names) (ss : Steps) (shared : Option held.Names) (bound : List Text) (common : Option (List Text)) → IsLayer l binds (assigned ss) shared → SameNames (names_of binds) bound
    → SameShared (option_map names_of shared) common → AlikeLayer (layer_view l) (record { binds = bound; assigns = assigned ss; shared = common })
layer_alike l binds ss shared bound common h j k = record {
  binds = λ x. ap (λ n. is_among x (names_of n)) h.binds ∙ j x;
  assigns = h.assigns;
  shared = subst (λ o. SameShared (option_map names_of o) common) (sym h.shared) k;
}

pub into_both : (s t u : Scopes) (h g : Here) (l : Layer) (binds : held.Names) (ss : Steps) (shared : Option held.Names) (bound : List Text) (common : Option (List Text)) (closed : Bool) (b : Around) → IsLayer l binds (assigned ss) shared
    → SameNames (names_of binds) bound → SameShared (option_map names_of shared) common → IsBound s t l → IsOpened t u ss closed → Stands s h b → Stands u g (within closed (inside_view g.inside) g.in_branch bound common ss b)
into_both s t u h g l binds ss shared bound common closed b is j k o p st =
    let m : Names = record { binds = bound; assigns = assigned ss; shared = common } in
    into_block t u g ss closed (record b { inside = inside_view g.inside; in_branch = g.in_branch; layers = m ∷ b.layers }) p
    (into_layer s t g l m (record b { inside = inside_view g.inside; in_branch = g.in_branch }) o (layer_alike l binds ss shared bound common is j k) (elsewhere s h g b st))

-- ## Out of them
pub out_of_block : (a b c d : Scopes) (ss : Steps) (closed : Bool) → IsOpened a b ss closed → Still b c → IsClosed c d → Still a d
out_of_block a b c d ss closed o s l = record {
  blocks = l.blocks ∙ ap behind s.blocks ∙ ap behind o.blocks;
  layers = ap (λ v. v.items) l.layers ∙ s.layers ∙ ap (λ v. v.items) o.layers;
  workflow = l.workflow ∙ s.workflow ∙ o.workflow;
}

pub out_of_layer : (a b c d : Scopes) (l : Layer) → IsBound a b l → Still b c → IsUnbound c d → Still a d
out_of_layer a b c d l o s u = record {
  blocks = ap (λ v. v.items) u.blocks ∙ s.blocks ∙ ap (λ v. v.items) o.blocks;
  layers = u.layers ∙ ap behind s.layers ∙ ap behind o.layers;
  workflow = u.workflow ∙ s.workflow ∙ o.workflow;
}
