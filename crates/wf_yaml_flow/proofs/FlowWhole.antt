-- The whole walk over a flow collection.
use Rattle.std.proofs.Common.{◌≡◌, ℕ, suc, ◌+◌, List, [], ◌∷◌, ◌++◌, length, Bool, true, ◌==◌, Option, Some, None, option_to_list, Ok, Err, refl, sym, ap, ◌∙◌, arith}
use Rattle.std.proofs.Math.Nat.{add-zero}
use Rattle.wf_yaml_line.specs.declared.fault.Fault.{Fault}
use Rattle.wf_yaml_line.specs.Fault.{both, kept, noted, first_of_two}
use Rattle.wf_yaml_line.specs.declared.fault.Kind.TheVariants as kinds
use Rattle.wf_tree.specs.Trees.{Tree}
use Rattle.wf_yaml_line.specs.Marks.{starts, is_bracket, behind_first, open_map}
use Rattle.wf_yaml_line.specs.Views.{so_far}
use Rattle.wf_yaml_flow.specs.Flow.{Seen, goes, stops, stopped, flow}
use Rattle.wf_yaml_flow.specs.declared.places.Frame.{Frame}
use Rattle.wf_yaml_flow.specs.declared.places.Place.{Place}
use Rattle.wf_yaml_flow.specs.FlowWalk.{inner, noting, complete, resume, here, whole, turned_to}
use Rattle.wf_yaml_flow.proofs.FlowBounds.{flow_inner}
use Rattle.wf_yaml_flow.proofs.FlowJoins.{noting_nothing, noting_turn, resume_stops, resume_more}

pub begins : (n d : ℕ) (is_map : Bool) (r s : List ℕ) → starts is_bracket s ≡ true → is_map ≡ starts (λ b. b == open_map) s → r ≡ behind_first s
    → noting (Ok tt) (inner n (d + 0) is_map r) ≡ flow n d s
begins n d is_map r s some em er =
    noting_nothing tt (inner n (d + 0) is_map r)
    ∙ (λ i. inner n (add-zero d i) (em i) (er i))
    ∙ sym (flow_inner is_bracket n d s some)

err_same : (f g : Fault) → noted (Some f) ≡ Err g → f ≡ g
err_same f g e = cc

pub stops_there : (n d : ℕ) (fs : List Frame) (f : Option Fault) (r : Fault) → noted (Some r) ≡ both kept (noted f) (noted (Some (record { line = n; kind = kinds.Flow })))
    → resume n d fs (noting (noted f) (stopped n)) ≡ stops r
stops_there n d fs None r e = resume_stops n d fs (record { line = n; kind = kinds.Flow }) ∙ ap stops (sym (err_same r (record { line = n; kind = kinds.Flow }) e))
stops_there n d fs (Some g) r e = resume_stops n d fs (first_of_two g (record { line = n; kind = kinds.Flow })) ∙ ap stops (sym (err_same r (first_of_two g (record { line = n; kind = kinds.Flow })) e))

noting_kept : (f : Option Fault) (t : Tree) (s : List ℕ) → noting (noted f) (goes (Ok t) s) ≡ goes (so_far t f) s
noting_kept None t s = refl
noting_kept (Some g) t s = refl

pub goes_on : (n d : ℕ) (fs gs : List Frame) (g : Frame) (f : Option Fault) (t u : Tree) (s : List ℕ) (x : Seen Tree) → fs ≡ gs ++ g ∷ [] → so_far u f ≡ so_far t f
    → noting (noted f) x ≡ complete n (d + length gs) g (goes (so_far u f) s) → resume n d gs (noting (noted f) x) ≡ resume n d fs (noting (noted f) (goes (Ok t) s))
goes_on n d fs gs g f t u s x e et ex =
    ap (resume n d gs) (ex ∙ ap (λ r. complete n (d + length gs) g (goes r s)) et)
    ∙ sym (resume_more n d gs g (goes (so_far t f) s))
    ∙ ap (resume n d (gs ++ g ∷ [])) (sym (noting_kept f t s))
    ∙ sym (ap (λ hs. resume n d hs (noting (noted f) (goes (Ok t) s))) e)

none_more : (fs : List Frame) → fs ++ [] ≡ fs
none_more [] = refl
none_more (f ∷ fs) = ap (λ gs. f ∷ gs) (none_more fs)

one_deeper : (d : ℕ) (fs : List Frame) (f : Frame) → d + length (fs ++ f ∷ []) ≡ suc (d + length fs)
one_deeper d [] f = omega arith
one_deeper d (g ∷ fs) f = one_less d (length (fs ++ f ∷ [])) (length fs) (one_deeper d fs f) where
  one_less : (k l m : ℕ) → k + l ≡ suc (k + m) → k + suc l ≡ suc (k + suc m)
  one_less k l m e = omega (arith, e)

under : (n d : ℕ) (fs : List Frame) (o : Option Frame) (f : Option Fault) (p : Place) → whole n d (fs ++ option_to_list o) f p ≡ resume n d fs (turned_to n (d + length fs) o f p)
under n d fs None f p = ap (λ gs. whole n d gs f p) (none_more fs)
under n d fs (Some g) f p = resume_more n d fs g (noting (noted f) (here n (d + length (fs ++ g ∷ [])) p)) ∙ ap (λ k. resume n d fs (complete n (d + length fs) g (noting (noted f) (here n k p)))) (one_deeper d fs g)

pub reads_on : (n d : ℕ) (fs gs : List Frame) (o : Option Frame) (f g h : Option Fault) (p : Place) (x : Seen Tree) → gs ≡ fs ++ option_to_list o → noted h ≡ both kept (noted f) (noted g)
    → turned_to n (d + length fs) o g p ≡ x → whole n d gs h p ≡ resume n d fs (noting (noted f) x)
reads_on n d fs gs o f g h p x e ef ex =
    ap (λ hs. whole n d hs h p) e
    ∙ under n d fs o h p
    ∙ ap (resume n d fs) (noting_turn n (d + length fs) o f g h p ef ∙ ap (noting (noted f)) ex)
