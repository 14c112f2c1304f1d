-- Walks over nodes one after another, and seen from further out.
use Rattle.std.proofs.Common.{◌≡◌, ℕ, suc, ◌+◌, ◌<◌, ◌≤◌, drop, get_or, add-one, List, [], ◌∷◌, ◌++◌, length, map, Option, Some, None, Result, Ok, Err, refl, sym, ap, ◌∙◌, subst, length-append, add-zero, arith}
use Rattle.std.proofs.Math.Nat.{add_assoc}
use Rattle.wf_lemmas.proofs.Lists.{item_at, drop_end}
use Rattle.wf_ast.specs.Accept.{after_part}
use Rattle.wf_ast.specs.Nodes.{Around, Node, Path, below, nth}
use Rattle.wf_ast.specs.Tree.{Flow}
use Rattle.wf_diagnostics.proofs.Told.{further}
use Rattle.wf_diagnostics.specs.Answers.{IsKeyed}
use Rattle.wf_value.specs.Stops.{IsOutside}
use Rattle.wf_symbols.specs.Around.{Alike, SameNames, Stands, Still, around_view, inside_view, layer_view, reach}
use Rattle.wf_symbols.specs.Names.{names_of}
use Rattle.wf_check.specs.Walks.{Walks, after}
use Rattle.wf_symbols.specs.declared.around.Here.{Here}
use Rattle.wf_symbols.specs.declared.around.Scopes.{Scopes}
use Rattle.wf_check.specs.declared.progress.Progress.{Progress}
use Rattle.wf_diagnostics.specs.declared.kind.CheckKind.{CheckKind}
use Rattle.wf_value.specs.declared.stop.Stop.{Stop}
use Rattle.wf_value.specs.declared.stop.Stop.TheVariants as stop
use Rattle.wf_value.specs.HttpUrl.{first_of_two}
use Rattle.wf_value.specs.Pairs.{Text}
use Rattle.wf_value.specs.declared.path.PathPart.{PathPart}
use Rattle.wf_value.specs.declared.path.PathPart.TheVariants as part
use Rattle.wf_diagnostics.specs.Said.{Said}
use Rattle.wf_check.specs.Said.{said, said_among}

-- ## Nodes one after another
three : (a b c : Option Said) → first_of_two a (first_of_two b c) ≡ first_of_two (first_of_two a b) c
three None b c = refl
three (Some x) b c = refl

pub first_append : (fs : List Flow) (n : ℕ) (e : List Text) (xs ys : List Node) → said_among fs n e (xs ++ ys) ≡ first_of_two (said_among fs n e xs) (said_among fs (n + length xs) (after xs e) ys)
first_append fs n e [] ys = ap (λ m. said_among fs m e ys) (sym (add-zero n))
first_append fs n e (v ∷ xs) ys =
    let counted : suc n + length xs ≡ n + suc (length xs) = omega arith in
    ap (first_of_two (said fs n e v)) (first_append fs (suc n) (after_part v.part e) xs ys ∙ ap (λ m. first_of_two (said_among fs (suc n) (after_part v.part e) xs) (said_among fs m (after xs (after_part v.part e)) ys)) counted)
    ∙ three (said fs n e v) (said_among fs (suc n) (after_part v.part e) xs) (said_among fs (n + suc (length xs)) (after xs (after_part v.part e)) ys)

pub after_append : (xs ys : List Node) (e : List Text) → after (xs ++ ys) e ≡ after ys (after xs e)
after_append [] ys e = refl
after_append (v ∷ xs) ys e = after_append xs ys (after_part v.part e)

-- behind nodes at which no rule speaks
pub behind : (fs : List Flow) (n m : ℕ) (e : List Text) (xs ys : List Node) → said_among fs n e xs ≡ None → m ≡ n + length xs → said_among fs n e (xs ++ ys) ≡ said_among fs m (after xs e) ys
behind fs n m e xs ys none is =
    first_append fs n e xs ys ∙ ap (λ o. first_of_two o (said_among fs (n + length xs) (after xs e) ys)) none ∙ ap (λ k. said_among fs k (after xs e) ys) (sym is)

pub still_then : (a b c : Scopes) → Still a b → Still b c → Still a c
still_then a b c h k = record { blocks = k.blocks ∙ h.blocks; layers = k.layers ∙ h.layers; workflow = k.workflow ∙ h.workflow }

pub still : (a : Scopes) → Still a a
still a = record { blocks = refl; layers = refl; workflow = refl }

-- what stands around stays
pub stands_still : (a b : Scopes) (h : Here) (r : Around) → Still a b → Stands a h r → Stands b h r
stands_still a b h r s k =
    let same : around_view b h ≡ around_view a h = λ i. record {
      workflow = names_of (s.workflow i);
      blocks = reach (s.blocks i);
      inside = inside_view h.inside;
      in_branch = h.in_branch;
      layers = map layer_view (s.layers i);
    } in
    subst (λ w. Alike w r) (sym same) k

pub goes_on : (fs : List Flow) (p q : Path) (old mid new : Progress) (r : Result (Unit {0}) (Stop CheckKind)) (e : List Text) (xs ys : List Node) → Walks fs p old mid (Ok tt) e xs → Walks fs q mid new r (after xs e) ys
    → Walks fs q old new r e (xs ++ ys)
goes_on fs p q old mid new (Ok u) e xs ys h k = (
  behind fs old.number mid.number e xs ys h.0 h.1 ∙ k.0,
  k.1 ∙ ap (λ m. m + length ys) h.1 ∙ sym (ap (λ l. old.number + l) (length-append xs ys) ∙ sym (add_assoc old.number (length xs) (length ys))),
  subst (λ l. SameNames (names_of new.seen) l) (sym (after_append xs ys e)) k.2,
  still_then old.scopes mid.scopes new.scopes h.3 k.3,
)
goes_on fs p q old mid new (Err (stop.Refused kind way)) e xs ys h k = behind fs old.number mid.number e xs ys h.0 h.1 ∙ k
goes_on fs p q old mid new (Err stop.OutOfMemory) e xs ys h k = tt

pub stops : (fs : List Flow) (p : Path) (old mid new : Progress) (s : Stop CheckKind) (e : List Text) (xs ys : List Node) → Walks fs p old mid (Err s) e xs → Walks fs p old new (Err s) e (xs ++ ys)
stops fs p old mid new (stop.Refused kind way) e xs ys h = first_append fs old.number e xs ys ∙ ap (λ o. first_of_two o (said_among fs (old.number + length xs) (after xs e) ys)) h
stops fs p old mid new stop.OutOfMemory e xs ys h = tt

-- ## From further out
pub from_outside : (fs : List Flow) (path : Path) (p : PathPart) (old new later : Progress) (s outer : Stop CheckKind) (e : List Text) (vs : List Node) → IsOutside p s outer → Walks fs (path ++ p ∷ []) old new (Err s) e vs
    → Walks fs path old later (Err outer) e vs
from_outside fs path p old new later (stop.Refused k ps) (stop.Refused j qs) e vs o h =
    h ∙ (λ i. Some (record { kind = (sym o.0 i); place = further path ps.items qs.items p o.1 i }))
from_outside fs path p old new later stop.OutOfMemory (stop.Refused j qs) e vs o h = absurd o
from_outside fs path p old new later (stop.Refused k ps) stop.OutOfMemory e vs o h = tt
from_outside fs path p old new later stop.OutOfMemory stop.OutOfMemory e vs o h = tt

pub at_key : (fs : List Flow) (path : Path) (key : Text) (old new : Progress) (found result : Result (Unit {0}) (Stop CheckKind)) (e : List Text) (vs : List Node) → IsKeyed key found result → Walks fs (below path key) old new found e vs
    → Walks fs path old new result e vs
at_key fs path key old new (Ok u) (Ok v) e vs k h = h
at_key fs path key old new (Err s) (Err outer) e vs k h = from_outside fs path (part.Key key) old new new s outer e vs k h
at_key fs path key old new (Ok u) (Err s) e vs k h = absurd k
at_key fs path key old new (Err s) (Ok u) e vs k h = absurd k

pub at_text : (fs : List Flow) (path : Path) (key k : Text) (old new : Progress) (found result : Result (Unit {0}) (Stop CheckKind)) (e : List Text) (vs : List Node) → key ≡ k → IsKeyed key found result → Walks fs (below path k) old new found e vs
    → Walks fs path old new result e vs
at_text fs path key k old new found result e vs is h w = at_key fs path key old new found result e vs h (subst (λ x. Walks fs (below path x) old new found e vs) (sym is) w)

pub of_these : (fs : List Flow) (path : Path) (old new : Progress) (r : Result (Unit {0}) (Stop CheckKind)) (e : List Text) (vs ws : List Node) → vs ≡ ws → Walks fs path old new r e vs → Walks fs path old new r e ws
of_these fs path old new r e vs ws is w = subst (λ l. Walks fs path old new r e l) is w

-- a fault is told alike of what has the same number
pub told_alike : (fs : List Flow) (path : Path) (old mid new later : Progress) (s : Stop CheckKind) (e : List Text) (vs : List Node) → mid.number ≡ old.number → Walks fs path mid new (Err s) e vs → Walks fs path old later (Err s) e vs
told_alike fs path old mid new later (stop.Refused k way) e vs is h = ap (λ n. said_among fs n e vs) (sym is) ∙ h
told_alike fs path old mid new later stop.OutOfMemory e vs is h = tt

-- ## A walk with a rest to go
-- whatever a walk over the rest answers from here on, a walk over all answers from the beginning
pub record Rest (fs : List Flow) (path : Path) (initial : Progress) (now : Progress) (earlier : List Text) (all : List Node) (rest : List Node) : Type 0 where
  pub names : List Text
  pub seen : SameNames (names_of now.seen) names
  pub still : Still initial.scopes now.scopes
  pub on : (r : Result (Unit {0}) (Stop CheckKind)) (new : Progress) → Walks fs path now new r names rest → Walks fs path initial new r earlier all

pub begins : (fs : List Flow) (path : Path) (initial : Progress) (earlier : List Text) (all : List Node) → SameNames (names_of initial.seen) earlier → Rest fs path initial initial earlier all all
begins fs path initial earlier all h = record { names = earlier; seen = h; still = still initial.scopes; on = λ r new w. w }

pub next : (fs : List Flow) (path q : Path) (initial now new : Progress) (earlier : List Text) (all xs ys : List Node) (h : Rest fs path initial now earlier all (xs ++ ys)) → Walks fs q now new (Ok tt) h.names xs
    → Rest fs path initial new earlier all ys
next fs path q initial now new earlier all xs ys h w = record {
  names = after xs h.names;
  seen = w.2;
  still = still_then initial.scopes now.scopes new.scopes h.still w.3;
  on = λ r later z. h.on r later (goes_on fs q path now new later r h.names xs ys w z);
}

pub fails : (fs : List Flow) (path : Path) (initial now mid new : Progress) (s : Stop CheckKind) (earlier : List Text) (all xs ys : List Node) (h : Rest fs path initial now earlier all (xs ++ ys)) → Walks fs path now mid (Err s) h.names xs
    → Walks fs path initial new (Err s) earlier all
fails fs path initial now mid new s earlier all xs ys h w = h.on (Err s) new (stops fs path now mid new s h.names xs ys w)

pub ends : (fs : List Flow) (path : Path) (initial now : Progress) (earlier : List Text) (all : List Node) (h : Rest fs path initial now earlier all []) → Walks fs path initial now (Ok tt) earlier all
ends fs path initial now earlier all h =
    let same : now.number ≡ now.number + 0 = omega arith in
    h.on (Ok tt) now (refl, same, h.seen, still now.scopes)

-- ## Items of a list, from an index on
module _ {A : Type 0} (fs : List Flow) (path : Path) (row : List A → ℕ → List Node) (xs : List A) (i : ℕ) where
  turned : (initial now : Progress) (earlier : List Text) (all vs : List Node) (x : A) → i < length xs → x ≡ get_or xs i x → ((rest : List A) → row (x ∷ rest) i ≡ vs ++ row rest (suc i))
      → Rest fs path initial now earlier all (row (drop i xs) i) → Rest fs path initial now earlier all (vs ++ row (drop (i + 1) xs) (i + 1))
  turned initial now earlier all vs x lt is e h =
      subst (λ l. Rest fs path initial now earlier all l) (ap (λ l. row l i) (item_at xs i x lt is) ∙ e (drop (i + 1) xs) ∙ ap (λ n. vs ++ row (drop (i + 1) xs) n) (sym (add-one i))) h

  pub item_goes : (initial now new : Progress) (earlier : List Text) (all vs : List Node) (x : A) → i < length xs → x ≡ get_or xs i x → ((rest : List A) → row (x ∷ rest) i ≡ vs ++ row rest (suc i))
      → Rest fs path initial now earlier all (row (drop i xs) i) → ((e : List Text) → SameNames (names_of now.seen) e → Walks fs (nth path i) now new (Ok tt) e vs)
      → Rest fs path initial new earlier all (row (drop (i + 1) xs) (i + 1))
  item_goes initial now new earlier all vs x lt is e h w =
      let k = turned initial now earlier all vs x lt is e h in
      next fs path (nth path i) initial now new earlier all vs (row (drop (i + 1) xs) (i + 1)) k (w k.names k.seen)

  pub item_fails : (initial now mid new : Progress) (earlier : List Text) (all vs : List Node) (x : A) (s outer : Stop CheckKind) → i < length xs → x ≡ get_or xs i x → ((rest : List A) → row (x ∷ rest) i ≡ vs ++ row rest (suc i))
      → Rest fs path initial now earlier all (row (drop i xs) i) → ((e : List Text) → SameNames (names_of now.seen) e → Walks fs (nth path i) now mid (Err s) e vs) → IsOutside (part.Index i) s outer
      → Walks fs path initial new (Err outer) earlier all
  item_fails initial now mid new earlier all vs x s outer lt is e h w o =
      let k = turned initial now earlier all vs x lt is e h in
      fails fs path initial now new new outer earlier all vs (row (drop (i + 1) xs) (i + 1)) k (from_outside fs path (part.Index i) now mid new s outer k.names vs o (w k.names k.seen))

  -- the same of what stands at a key in the item
  pub keyed_goes : (initial now new : Progress) (earlier : List Text) (all vs : List Node) (x : A) (key k : Text) (found : Result (Unit {0}) (Stop CheckKind)) → i < length xs → x ≡ get_or xs i x
      → ((rest : List A) → row (x ∷ rest) i ≡ vs ++ row rest (suc i)) → Rest fs path initial now earlier all (row (drop i xs) i) → key ≡ k → IsKeyed key found (Ok tt)
      → ((e : List Text) → SameNames (names_of now.seen) e → Walks fs (below (nth path i) k) now new found e vs) → Rest fs path initial new earlier all (row (drop (i + 1) xs) (i + 1))
  keyed_goes initial now new earlier all vs x key k found lt is e h same o w =
      item_goes initial now new earlier all vs x lt is e h (λ names seen. at_text fs (nth path i) key k now new found (Ok tt) names vs same o (w names seen))

  pub keyed_fails : (initial now mid new : Progress) (earlier : List Text) (all vs : List Node) (x : A) (key k : Text) (found : Result (Unit {0}) (Stop CheckKind)) (s outer : Stop CheckKind) → i < length xs → x ≡ get_or xs i x
      → ((rest : List A) → row (x ∷ rest) i ≡ vs ++ row rest (suc i)) → Rest fs path initial now earlier all (row (drop i xs) i) → key ≡ k → IsKeyed key found (Err s)
      → ((e : List Text) → SameNames (names_of now.seen) e → Walks fs (below (nth path i) k) now mid found e vs) → IsOutside (part.Index i) s outer → Walks fs path initial new (Err outer) earlier all
  keyed_fails initial now mid new earlier all vs x key k found s outer lt is e h same o w out =
      item_fails initial now mid new earlier all vs x s outer lt is e h (λ names seen. at_text fs (nth path i) key k now mid found (Err s) names vs same o (w names seen)) out

  pub items_done : (initial now : Progress) (earlier : List Text) (all : List Node) → length xs ≤ i → row [] i ≡ [] → Rest fs path initial now earlier all (row (drop i xs) i) → Walks fs path initial now (Ok tt) earlier all
  items_done initial now earlier all le e h = ends fs path initial now earlier all (subst (λ l. Rest fs path initial now earlier all l) (ap (λ l. row l i) (drop_end xs i le) ∙ e) h)
