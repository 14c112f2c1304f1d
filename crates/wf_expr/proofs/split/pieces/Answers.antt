use Rattle.std.proofs.Common.{map, rules}
use Rattle.wf_expr.proofs.Cuts.{cut_at, cut_end, cut_more, cut_open}
use Rattle.wf_expr.specs.Splits.{piece_of}
use Rattle.wf_expr.proofs.split.pieces.Goals as goal

pub returns-in_default-split_hole : goal.returns-in_default-split_hole
returns-in_default-split_hole c =
    let h = c.in-Some.ensures.cases in
    let k = cut_at c.cut.rest.now c.in-Some.front.now c.in-Some.opened.now h.0 h.1 h.2 h.3 h.4 h.6 in
    cut_open (map piece_of c.cut.made.items) (map piece_of c.add_said.new.pieces.items) (map piece_of c.add.new.pieces.items) c.args.text.now c.cut.rest.now c.in-Some.front.now c.in-Some.opened.now c.cut.invariant.left k c.in_default-split_hole.ensures c.in_ok-add_said.ensures c.in_ok-add.ensures

pub cut-preserved : goal.cut-preserved
cut-preserved c =
    let h = c.in-Some.ensures.cases in
    let k = cut_at c.cut.rest.now c.in-Some.front.now c.in-Some.opened.now h.0 h.1 h.2 h.3 h.4 h.6 in
    record {
      utf8 = search rules;
      left = cut_more (map piece_of c.cut.made.items) (map piece_of c.add_said.new.pieces.items) (map piece_of c.add-in-Some.new.pieces.items) c.args.text.now c.cut.rest.now c.in-Some.front.now c.in-Some.opened.now c.in-Some-split_hole.source.now c.in-Some-split_hole.behind.now c.cut.invariant.left k c.in-Some-split_hole.ensures.0 c.in_ok-add_said.ensures c.in_ok-add-2.ensures;
    }

pub returns : goal.returns
returns c =
    cut_end (map piece_of c.cut.made.items) (map piece_of c.add_said-2.new.pieces.items) c.args.text.now c.cut.rest.now c.cut.invariant.left c.in_default.ensures.cases c.in_ok-add_said-2.ensures
