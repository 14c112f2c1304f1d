-- The routes of a line as a start keeps them, one after another.
use Rattle.std.proofs.Common.{◌≡◌, ◌+◌, ◌-◌, ◌*◌, ◌<◌, ◌≤◌, ℕ, suc, List, [], ◌∷◌, ◌++◌, length, take, None, Some, IsUtf8, refl, sym, ◌∙◌, ap, subst, arith}
use Rattle.std.specs.Prelude.{map, slice_get}
use Rattle.std.specs.List.{AllByRecursion, flat_map}
use Rattle.std.proofs.lemmas.Grind.{flat_map-append}
use Rattle.std.proofs.lemmas.List.{length-append, map-append, take_all}
use Rattle.std.proofs.lemmas.Option.{slice_get_within}
use Rattle.wf_lemmas.proofs.Lists.{all_push, none_past, take_push}
use Rattle.wf_args.specs.Laws as line
use Rattle.wf_args.specs.Lines.{PlainLine, PlainRoute, routes_of}
use Rattle.wf_engine.specs.Starts.{kept_route, kept_routes}
use Rattle.wf_events.specs.Spelling.{IsRoute, route}
use Rattle.wf_events.specs.View.{route_view}
use Rattle.wf_host.specs.declared.data.Address.{Address}
use Rattle.wf_record_parts.specs.Spelling.{Each, four, listed, string, two}
use Rattle.wf_value.specs.Events as plain

-- ## Lengths
pub string_is : (s : List ℕ) → length (string s) ≡ 4 + length s
string_is s = length-append (four (length s)) s

two_is : (n : ℕ) → length (two n) ≡ 2
two_is n = refl

route_is : (r : List ℕ × plain.Address) → length (route r) ≡ 10 + length r.0 + length r.1.name
route_is r =
    let all = three (string r.0) (string r.1.name) (two r.1.port) in omega (arith, all, string_is r.0, string_is r.1.name, two_is r.1.port)
  where
    three : (a b c : List ℕ) → length (a ++ b ++ c) ≡ length a + length b + length c
    three a b c = omega (arith, length-append (a ++ b) c, length-append a b)

-- ## The routes so far
pub record SoFar (l : PlainLine) (routes : List (List ℕ × Address)) (index : ℕ) : Type 0 where
  pub same : map route_view routes ≡ map kept_route (take index (routes_of l))
  pub within : index ≤ length (routes_of l)
  pub spelled : AllByRecursion IsRoute (map route_view routes)
  pub short : length (flat_map route (map route_view routes)) ≤ index * 65546
  pub counted : length (map route_view routes) ≡ index

pub none_yet : (l : PlainLine) (routes : List (List ℕ × Address)) → routes ≡ [] → SoFar l routes 0
none_yet l routes none =
    subst (λ rs. SoFar l rs 0) (sym none) (record { same = refl; within = omega arith; spelled = tt; short = omega arith; counted = refl })

pub route_more : (l : PlainLine) (routes : List (List ℕ × Address)) (index : ℕ) (p : PlainRoute) (host : List ℕ) (to : Address) → SoFar l routes index → slice_get (routes_of l) index ≡ Some p → line.IsRoute p
    → host ≡ p.host → to.name ≡ p.name → to.port ≡ p.port → IsUtf8 host → IsUtf8 to.name → SoFar l (routes ++ (host, to) ∷ []) (index + 1)
route_more l routes index p host to so_far is fits host_is name_is port_is utf8 utf8_name =
    let added : map route_view (routes ++ (host, to) ∷ []) ≡ map route_view routes ++ route_view (host, to) ∷ [] = map-append route_view routes ((host, to) ∷ []) in
    let kept : route_view (host, to) ≡ kept_route p = (λ i. (host_is i, record { name = name_is i; port = port_is i })) in
    let next : index + 1 ≡ suc index = omega arith in
    let taken : map kept_route (take (index + 1) (routes_of l)) ≡ map kept_route (take index (routes_of l)) ++ kept_route p ∷ [] =
    ap (λ k. map kept_route (take k (routes_of l))) next ∙ ap (map kept_route) (take_push (routes_of l) index p is) ∙ map-append kept_route (take index (routes_of l)) (p ∷ []) in
    let inside = slice_get_within (routes_of l) index p is in
    let both = fits.short in
    let host_long = ap length host_is in
    let name_long = ap length name_is in
    let most = fits.port.1 in
    let one : IsRoute (route_view (host, to)) = ((omega (arith, both, host_long), utf8), (omega (arith, both, name_long), utf8_name), omega (arith, port_is, most)) in
    let longer = ap length (ap (flat_map route) added ∙ flat_map-append route (map route_view routes) (route_view (host, to) ∷ []))
    ∙ length-append (flat_map route (map route_view routes)) (flat_map route (route_view (host, to) ∷ [])) in
    let last = length-append (route (route_view (host, to))) [] in
    let before = so_far.short in
    let so_many = so_far.counted in
    record {
      same = added ∙ (λ i. so_far.same i ++ kept i ∷ []) ∙ sym taken;
      within = omega (arith, inside);
      spelled = subst (AllByRecursion IsRoute) (sym added) (all_push IsRoute (map route_view routes) (route_view (host, to)) so_far.spelled one);
      short = omega (arith, longer, last, route_is (route_view (host, to)), before, both, host_long, name_long);
      counted = ap length added ∙ length-append (map route_view routes) (route_view (host, to) ∷ []) ∙ ap (λ k. k + 1) so_many;
    }

pub record AreAll (l : PlainLine) (routes : List (List ℕ × Address)) : Type 0 where
  pub same : map route_view routes ≡ kept_routes l
  pub spelled : Each IsRoute (map route_view routes)
  pub short : length (listed route (map route_view routes)) ≤ 1310924

pub all_routes : (l : PlainLine) (routes : List (List ℕ × Address)) (index : ℕ) → SoFar l routes index → slice_get (routes_of l) index ≡ None → length (routes_of l) ≤ 20 → AreAll l routes
all_routes l routes index so_far is few =
    let past = none_past (routes_of l) index is in
    let within = so_far.within in
    let so_many = so_far.counted in
    let before = so_far.short in
    let long = length-append (four (length (map route_view routes))) (flat_map route (map route_view routes)) in
    record {
      same = so_far.same ∙ ap (map kept_route) (take_all index (routes_of l) past);
      spelled = (omega (arith, so_many, within, few), so_far.spelled);
      short = omega (arith, long, before, within, few);
    }

-- behind one more fewer are left
pub fewer_left : (l : PlainLine) (index : ℕ) (p : PlainRoute) → slice_get (routes_of l) index ≡ Some p → length (routes_of l) - (index + 1) < length (routes_of l) - index
fewer_left l index p is = let inside = slice_get_within (routes_of l) index p is in omega (arith, inside)
