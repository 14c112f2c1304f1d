-- The parts of frames stand for the items of the frames.
use Rattle.std.proofs.Common.{◌≡◌, ◌≤◌, ℕ, suc, ◌-◌, Bool, true, false, if◌then◌else◌, nat_le, List, [], ◌∷◌, ◌++◌, length, drop, slice_get, option_map, option_and_then, unwrap_or, Option, Some, None, refl, sym, ap, ◌∙◌, subst, arith}
use Rattle.std.proofs.lemmas.Bool.{eqb-true, le-leb}
use Rattle.wf_ast.specs.Tree.{Body, Entry, Steps}
use Rattle.wf_frame_parts.specs.FrameParts.{number_of, is_list, is_lone, is_body, single, part_of, parts_of, HasPart, HasParts, PartsStand}
use Rattle.wf_frames.specs.Frames.{body_entries, body_loop, body_try, control, item, items, left_view, result_of}
use Rattle.wf_frames.specs.declared.frames.Frame.{Frame}
use Rattle.wf_frames.specs.declared.frames.Frame.TheVariants as frame
use Rattle.wf_model.specs.Config as model
use Rattle.wf_model.specs.Config.{Item}
use Rattle.wf_model.specs.Spots.{Spot, from, part_at, part_body, part_list, part_next}
use Rattle.wf_value.specs.Plain.{plain}
use Rattle.wf_states.specs.Parts.{ItemPart, Do, Entries, Then, Loop, Try, Judge, Mark, Back}
use Rattle.wf_states.specs.Places.{Place, OfFlow, OfList, OfStep, OfLone, OfBranch, steps_count, last_steps, do_by, body_by, entries_by, loop_by, try_by, item_at, with_item, control_at}
use Rattle.std.proofs.lemmas.Option.{same_Some}

-- ## Finding
record Finds (test : Place → Bool) (ps : List Place) (i : ℕ) : Type 0 where
  place : Place
  there : slice_get ps i ≡ Some place
  passes : test place ≡ true

finds_by : (test : Place → Bool) (p : Place) (ps : List Place) (i : ℕ) (b : Bool) → test p ≡ b → ((j : ℕ) → number_of test ps ≡ Some j → Finds test ps j) → (if b then Some 0 else option_map suc (number_of test ps)) ≡ Some i → Finds test (p ∷ ps) i
finds_by test p ps i true passes others e = subst (Finds test (p ∷ ps)) (same_Some 0 i e) (record { place = p; there = refl; passes = passes })
finds_by test p ps i false passes others e = behind (number_of test ps) refl e
  where
    behind : (o : Option ℕ) → number_of test ps ≡ o → option_map suc o ≡ Some i → Finds test (p ∷ ps) i
    behind None is e = absurd cc
    behind (Some j) is e = let f = others j is in subst (Finds test (p ∷ ps)) (same_Some (suc j) i e) (record { place = f.place; there = f.there; passes = f.passes })

finds : (test : Place → Bool) (ps : List Place) (i : ℕ) → number_of test ps ≡ Some i → Finds test ps i
finds test [] i e = absurd cc
finds test (p ∷ ps) i e = finds_by test p ps i (test p) refl (finds test ps) e

-- what was found
list_there : (n : ℕ) (p : Place) → is_list n p ≡ true → (first : ℕ) × (p ≡ OfList n first)
list_there n (OfFlow m) h = absurd cc
list_there n (OfList m first) h = (first, ap (λ (k : ℕ). OfList k first) (eqb-true m n h))
list_there n (OfStep m) h = absurd cc
list_there n (OfLone m) h = absurd cc
list_there n (OfBranch m) h = absurd cc

lone_there : (n : ℕ) (p : Place) → is_lone n p ≡ true → p ≡ OfLone n
lone_there n (OfFlow m) h = absurd cc
lone_there n (OfList m first) h = absurd cc
lone_there n (OfStep m) h = absurd cc
lone_there n (OfLone m) h = ap OfLone (eqb-true m n h)
lone_there n (OfBranch m) h = absurd cc

module _ (ns : List Spot) (ps : List Place) where
  body_there : (n : ℕ) (p : Place) → is_body n p ≡ true → body_by ns (Some p) ≡ Some (part_body (part_at ns n))
  body_there n (OfFlow m) h = absurd cc
  body_there n (OfList m first) h = absurd cc
  body_there n (OfStep m) h = ap (λ (k : ℕ). Some (part_body (part_at ns k))) (eqb-true m n h)
  body_there n (OfLone m) h = ap (λ (k : ℕ). Some (part_body (part_at ns k))) (eqb-true m n h)
  body_there n (OfBranch m) h = absurd cc

  body_found : (n i : ℕ) → number_of (is_body n) ps ≡ Some i → body_by ns (slice_get ps i) ≡ Some (part_body (part_at ns n))
  body_found n i e = let f = finds (is_body n) ps i e in ap (body_by ns) f.there ∙ body_there n f.place f.passes

  -- ## Frames
  last_are : (ss : Steps) (at : ℕ) → at ≤ steps_count ss → last_steps ss (steps_count ss - at) ≡ Some (model.Do ss (from at ss))
  last_are ss at le =
      let few : nat_le (steps_count ss - at) (steps_count ss) ≡ true = le-leb (steps_count ss - at) (steps_count ss) (omega (arith, le)) in
      let back : steps_count ss - (steps_count ss - at) ≡ at = omega (arith, le) in
      rw (few, back) refl

  entries_are : (es : List Entry) (at : ℕ) → at ≤ length es → entries_by (Some (Body.Assign es)) (length es - at) ≡ Some (model.Entries (drop at es))
  entries_are es at le =
      let few : nat_le (length es - at) (length es) ≡ true = le-leb (length es - at) (length es) (omega (arith, le)) in
      let back : length es - (length es - at) ≡ at = omega (arith, le) in
      rw (few, back) refl

  abbrev Control : Type 0
  Control = List Item

  -- one item outside others
  abbrev Stands : List ItemPart → Control → Type 0
  Stands is k = control_at ns ps is ≡ Some k

  one_stands : (i : ItemPart) (x : Item) (others : List ItemPart) (k : Control) → item_at ns ps i ≡ Some x → Stands others k → Stands (i ∷ others) (x ∷ k)
  one_stands i x others k first second = ap (λ (o : Option Item). with_item o (control_at ns ps others)) first ∙ ap (with_item (Some x)) second

  -- what a found number makes
  made : {A B : Type 0} (o : Option A) (f : A → B) (y : B) → option_map f o ≡ Some y → (x : A) × (o ≡ Some x) × (f x ≡ y)
  made (Some x) f y e = (x, refl, same_Some (f x) y e)
  made None f y e = absurd cc

  frame_stands : (f : Frame) (is others : List ItemPart) (k : Control) → HasPart ns f → part_of ns ps f ≡ Some is → Stands others k → Stands (is ++ others) (items ns f k)
  frame_stands (frame.Do n at) is others k has e rest =
      let m = made (number_of (is_list n) ps) (λ p. single (Do p (steps_count (part_list (part_at ns n)) - at))) is e in
      let f = finds (is_list n) ps m.0 m.1 in
      let l = list_there n f.place f.passes in
      let this : item_at ns ps (Do m.0 (steps_count (part_list (part_at ns n)) - at)) ≡ Some (item ns (frame.Do n at)) =
      ap (λ (o : Option Place). do_by ns o (steps_count (part_list (part_at ns n)) - at)) (f.there ∙ ap Some l.1) ∙ last_are (part_list (part_at ns n)) at has in
      subst (λ (js : List ItemPart). Stands (js ++ others) (items ns (frame.Do n at) k)) m.2 (one_stands (Do m.0 (steps_count (part_list (part_at ns n)) - at)) (item ns (frame.Do n at)) others k this rest)
  frame_stands (frame.Lone n true) is others k has e rest =
      let m = made (number_of (is_lone n) ps) (λ p. single (Do p 0)) is e in
      let f = finds (is_lone n) ps m.0 m.1 in
      let this : item_at ns ps (Do m.0 0) ≡ Some (item ns (frame.Lone n true)) = ap (λ (o : Option Place). do_by ns o 0) (f.there ∙ ap Some (lone_there n f.place f.passes)) in
      subst (λ (js : List ItemPart). Stands (js ++ others) (items ns (frame.Lone n true) k)) m.2 (one_stands (Do m.0 0) (item ns (frame.Lone n true)) others k this rest)
  frame_stands (frame.Lone n false) is others k has e rest =
      let m = made (number_of (is_lone n) ps) (λ p. single (Do p 1)) is e in
      let f = finds (is_lone n) ps m.0 m.1 in
      let this : item_at ns ps (Do m.0 1) ≡ Some (item ns (frame.Lone n false)) = ap (λ (o : Option Place). do_by ns o 1) (f.there ∙ ap Some (lone_there n f.place f.passes)) in
      subst (λ (js : List ItemPart). Stands (js ++ others) (items ns (frame.Lone n false) k)) m.2 (one_stands (Do m.0 1) (item ns (frame.Lone n false)) others k this rest)
  frame_stands (frame.Entries n at) is others k has e rest =
      let m = made (number_of (is_body n) ps) (λ p. single (Entries p (length (body_entries (part_body (part_at ns n))) - at))) is e in
      let es : body_entries (part_body (part_at ns n)) ≡ has.0 = ap body_entries has.1 in
      let this : item_at ns ps (Entries m.0 (length (body_entries (part_body (part_at ns n))) - at)) ≡ Some (item ns (frame.Entries n at)) =
      ap (λ (o : Option Body). entries_by o (length (body_entries (part_body (part_at ns n))) - at)) (body_found n m.0 m.1 ∙ ap Some has.1)
      ∙ ap (λ (xs : List Entry). entries_by (Some (Body.Assign has.0)) (length xs - at)) es ∙ entries_are has.0 at has.2 ∙ ap (λ (xs : List Entry). Some (model.Entries (drop at xs))) (sym es) in
      subst (λ (js : List ItemPart). Stands (js ++ others) (items ns (frame.Entries n at) k)) m.2 (one_stands (Entries m.0 (length (body_entries (part_body (part_at ns n))) - at)) (item ns (frame.Entries n at)) others k this rest)
  frame_stands (frame.Then n) is others k has e rest = subst (λ (js : List ItemPart). Stands (js ++ others) (items ns (frame.Then n) k)) (same_Some (single (Then (unwrap_or (part_next (part_at ns n)) []))) is e) (one_stands (Then (unwrap_or (part_next (part_at ns n)) [])) (item ns (frame.Then n)) others k refl rest)
  frame_stands (frame.Loop looping) is others k has e rest =
      let m = made (number_of (is_body looping.value.node) ps) (λ p. single (Loop p (left_view looping.value.left) looping.value.index)) is e in
      let this : item_at ns ps (Loop m.0 (left_view looping.value.left) looping.value.index) ≡ Some (item ns (frame.Loop looping)) =
      ap (λ (o : Option Body). loop_by o (left_view looping.value.left) looping.value.index) (body_found looping.value.node m.0 m.1 ∙ ap Some has.1)
      ∙ ap (λ (b : Body). Some (model.Loop (body_loop b) (left_view looping.value.left) looping.value.index)) (sym has.1) in
      subst (λ (js : List ItemPart). Stands (js ++ others) (items ns (frame.Loop looping) k)) m.2 (one_stands (Loop m.0 (left_view looping.value.left) looping.value.index) (item ns (frame.Loop looping)) others k this rest)
  frame_stands (frame.Try trying) is others k has e rest =
      let m = made (number_of (is_body trying.value.node) ps) (λ p. single (Try p trying.value.tries trying.value.delay)) is e in
      let this : item_at ns ps (Try m.0 trying.value.tries trying.value.delay) ≡ Some (item ns (frame.Try trying)) =
      ap (λ (o : Option Body). try_by o (λ t. model.Try t trying.value.tries trying.value.delay)) (body_found trying.value.node m.0 m.1 ∙ ap Some has.1)
      ∙ ap (λ (b : Body). Some (model.Try (body_try b) trying.value.tries trying.value.delay)) (sym has.1) in
      subst (λ (js : List ItemPart). Stands (js ++ others) (items ns (frame.Try trying) k)) m.2 (one_stands (Try m.0 trying.value.tries trying.value.delay) (item ns (frame.Try trying)) others k this rest)
  frame_stands (frame.Mark number) is others k has e rest = subst (λ (js : List ItemPart). Stands (js ++ others) (items ns (frame.Mark number) k)) (same_Some (single Mark) is e) (one_stands (Mark) (item ns (frame.Mark number)) others k refl rest)
  frame_stands (frame.Back call number) is others k has e rest = subst (λ (js : List ItemPart). Stands (js ++ others) (items ns (frame.Back call number) k)) (same_Some (single (Back (result_of ns call))) is e) (one_stands (Back (result_of ns call)) (item ns (frame.Back call number)) others k refl rest)
  frame_stands (frame.Judge judging) is others k has e rest =
      let error = plain judging.value.error in
      let m = made (number_of (is_body judging.value.node) ps) (λ p. Back None ∷ Judge p judging.value.tries judging.value.delay error ∷ []) is e in
      let this : item_at ns ps (Judge m.0 judging.value.tries judging.value.delay error) ≡ Some (model.Judge (body_try (part_body (part_at ns judging.value.node))) judging.value.tries judging.value.delay error) =
      ap (λ (o : Option Body). try_by o (λ t. model.Judge t judging.value.tries judging.value.delay error)) (body_found judging.value.node m.0 m.1 ∙ ap Some has.1)
      ∙ ap (λ (b : Body). Some (model.Judge (body_try b) judging.value.tries judging.value.delay error)) (sym has.1) in
      subst (λ (js : List ItemPart). Stands (js ++ others) (items ns (frame.Judge judging) k)) m.2 (one_stands (Back None) (model.Back None) (Judge m.0 judging.value.tries judging.value.delay error ∷ others) (model.Judge (body_try (part_body (part_at ns judging.value.node))) judging.value.tries judging.value.delay error ∷ k) refl (one_stands (Judge m.0 judging.value.tries judging.value.delay error) (model.Judge (body_try (part_body (part_at ns judging.value.node))) judging.value.tries judging.value.delay error) others k this rest))

  one_more : (f : Frame) (fs : List Frame) (is : List ItemPart) → HasPart ns f → ((js : List ItemPart) → parts_of ns ps fs ≡ Some js → Stands js (control ns fs)) → (o : Option (List ItemPart)) → part_of ns ps f ≡ o
      → option_and_then (λ js. option_map (λ others. js ++ others) (parts_of ns ps fs)) o ≡ Some is → Stands is (control ns (f ∷ fs))
  one_more f fs is has others None is_none e = absurd cc
  one_more f fs is has others (Some js) some e =
      let m = made (parts_of ns ps fs) (λ l. js ++ l) is e in
      subst (λ (l : List ItemPart). Stands l (control ns (f ∷ fs))) m.2 (frame_stands f js m.0 (control ns fs) has some (others m.0 m.1))

  all_stand : (fs : List Frame) (is : List ItemPart) → HasParts ns fs → parts_of ns ps fs ≡ Some is → Stands is (control ns fs)
  all_stand [] is has e = subst (λ (js : List ItemPart). Stands js []) (same_Some [] is e) refl
  all_stand (f ∷ fs) is has e = one_more f fs is has.0 (λ js. all_stand fs js has.1) (part_of ns ps f) refl e

pub parts_stand : PartsStand
parts_stand ns ps fs is has e = all_stand ns ps fs is has e
