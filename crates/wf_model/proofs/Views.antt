-- One level of the template of a shape in terms of the list of the items.
use Rattle.std.proofs.Common.{◌≡◌, ◌∙◌, refl, sym, ap, map}
use Rattle.wf_ast.specs.Tree as t
use Rattle.wf_model.specs.Shapes.{Compiled, fields_by, named_by, named_in, named_list, named_row, shape_by, shape_row, shapes_by}
use Rattle.wf_model.specs.declared.shape.NamedShapes.{NamedShapes, Row_of-NamedShape, end_of-NamedShape, more_of-NamedShape, items-the_row-NamedShape, items_hidden-the_row-NamedShape-1}
use Rattle.wf_model.specs.declared.shape.Shape.{Map, Row_of-Shape, end_of-Shape, more_of-Shape, items-the_row-Shape, items_hidden-the_row-Shape-0}
use Rattle.wf_model.specs.declared.shape.Shape.TheBlock.{hidden-the_row-Shape-0, hidden-the_row-NamedShape-1}
use Rattle.wf_model.specs.declared.shape.Shape.TheViews as shape
use Rattle.wf_model.specs.declared.shape.Shape.TheViews.{roll-NamedShapes, out-NamedShapes, out-roll-NamedShapes, roll-out-NamedShapes}
use Rattle.wf_model.specs.declared.shape.Shapes.{Shapes}

shape_items : (cs : Compiled) (n : _) (row : Row_of-Shape n) → shape_row cs row ≡ t.templates (map (shape_by cs) (items-the_row-Shape n row))
shape_items cs n end_of-Shape = refl
shape_items cs n (more_of-Shape {n = m} x rest) = ap (t.template (shape_by cs x)) (shape_items cs m rest)

pub view_list : (cs : Compiled) (ss : Shapes) → shape_by cs (shape.List ss) ≡ t.Listed (t.templates (shapes_by cs ss))
view_list cs ss = ap t.Listed (shape_items cs _ (hidden-the_row-Shape-0 ss.items) ∙ ap (λ l. t.templates (map (shape_by cs) l)) (items_hidden-the_row-Shape-0 ss.items))

named_items : (cs : Compiled) (n : _) (row : Row_of-NamedShape n) → named_row cs row ≡ t.fields (map (named_by cs) (items-the_row-NamedShape n row))
named_items cs n end_of-NamedShape = refl
named_items cs n (more_of-NamedShape {n = m} name x rest) = ap (t.field name (shape_by cs x)) (named_items cs m rest)

named_rolled : (cs : Compiled) (r : _) → named_in cs (roll-NamedShapes r) ≡ t.fields (map (named_by cs) r.items.items)
unfolding roll-NamedShapes denote.Hole.Carrier.roll hidden-the_row-NamedShape-1
named_rolled cs r = named_items cs _ (hidden-the_row-NamedShape-1 r.items) ∙ ap (λ l. t.fields (map (named_by cs) l)) (items_hidden-the_row-NamedShape-1 r.items)

pub named_level : (cs : Compiled) (ns : NamedShapes) → named_in cs ns ≡ t.fields (fields_by cs ns)
named_level cs ns = ap (named_in cs) (sym (roll-out-NamedShapes ns)) ∙ named_rolled cs (out-NamedShapes ns)

pub view_map : (cs : Compiled) (ns : NamedShapes) → shape_by cs (Map ns) ≡ t.Mapped (t.fields (fields_by cs ns))
view_map cs ns = ap t.Mapped (named_level cs ns)

pub named_made : (r : _) → named_list (roll-NamedShapes r) ≡ r.items.items
named_made r = ap (λ x. x.items.items) (out-roll-NamedShapes r)
