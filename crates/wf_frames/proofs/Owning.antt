-- A task's layers, by its frames.
use Rattle.std.proofs.Common.{◌≡◌, ◌<◌, ℕ, zero, suc, ◌+◌, true, false, List, [], ◌∷◌, ◌++◌, length, take, get_or, Some, None, refl, sym, ap, subst, ◌∙◌, arith}
use Rattle.std.specs.Prelude.{drop, reverse}
use Rattle.wf_lemmas.proofs.Lists.{reverse_push}
use Rattle.wf_frames.proofs.Stores.{Closes, closes, order_closed}
use Rattle.wf_frames.proofs.Sums.{SumIs, sum_closed}
use Rattle.wf_frames.proofs.Unseen.{besides_closed}
use Rattle.wf_frames.specs.Frames.{is_back, mark_of, moved_on, own, owned}
use Rattle.wf_frames.specs.Innermost.{innermost}
use Rattle.wf_frames.specs.Held.{Held}
use Rattle.wf_frames.specs.Owned.{Around, IsLinked, Linked, besides, held_of}
use Rattle.wf_frames.specs.Turns.{Leaves, dropped}
use Rattle.wf_frames.specs.declared.frames.Frame.{Frame}
use Rattle.wf_frames.specs.declared.frames.Frame.TheVariants as frame
use Rattle.wf_model.specs.Local.{layers_total, outers_total}
use Rattle.wf_scope.proofs.Seen.{vars_found}
use Rattle.wf_scope.proofs.Totals.{total_closed}
use Rattle.wf_scope.specs.Layers.{closed, rises, total_of, vars_at}
use Rattle.wf_scope.specs.Store.{layers_of}
use Rattle.wf_frames.specs.Tasks.{Own, far_layers, numbers, own_layers}
use Rattle.wf_scope.specs.declared.scopes.Scopes.{Scopes}
use Rattle.wf_value.specs.Data.{pairs_of, pairs_size}
use Rattle.wf_value.specs.Maps.{IsInOrder}

pub owned_mark : (first : ℕ) (f : Frame) (n : ℕ) (fs : List Frame) → mark_of f ≡ Some n → owned first (f ∷ fs) ≡ own n (is_back f) ∷ owned first fs
owned_mark first (frame.Mark m) n fs e = let same : m ≡ n = cc e in ap (λ (k : ℕ). own k false ∷ owned first fs) same
owned_mark first (frame.Back c m) n fs e = let same : m ≡ n = cc e in ap (λ (k : ℕ). own k true ∷ owned first fs) same
owned_mark first (frame.Judge judging) n fs e = let same : judging.value.layer ≡ n = cc e in ap (λ (k : ℕ). own k true ∷ owned first fs) same
owned_mark first (frame.Try trying) n fs e = absurd (cc e)
owned_mark first (frame.Do l at) n fs e = absurd (cc e)
owned_mark first (frame.Lone l b) n fs e = absurd (cc e)
owned_mark first (frame.Entries l at) n fs e = absurd (cc e)
owned_mark first (frame.Then l) n fs e = absurd (cc e)
owned_mark first (frame.Loop looping) n fs e = absurd (cc e)

pub owned_other : (first : ℕ) (f : Frame) (fs : List Frame) → mark_of f ≡ None → owned first (f ∷ fs) ≡ owned first fs
owned_other first (frame.Mark m) fs e = absurd (cc e)
owned_other first (frame.Back c m) fs e = absurd (cc e)
owned_other first (frame.Judge judging) fs e = absurd (cc e)
owned_other first (frame.Try trying) fs e = refl
owned_other first (frame.Do l at) fs e = refl
owned_other first (frame.Lone l b) fs e = refl
owned_other first (frame.Entries l at) fs e = refl
owned_other first (frame.Then l) fs e = refl
owned_other first (frame.Loop looping) fs e = refl

dropped_mark : (f : Frame) (n : ℕ) (h : Held) → mark_of f ≡ Some n → dropped f h ≡ record h { own = drop 1 h.own }
dropped_mark (frame.Mark m) n h e = refl
dropped_mark (frame.Back c m) n h e = refl
dropped_mark (frame.Judge judging) n h e = refl
dropped_mark (frame.Try trying) n h e = absurd (cc e)
dropped_mark (frame.Do l at) n h e = absurd (cc e)
dropped_mark (frame.Lone l b) n h e = absurd (cc e)
dropped_mark (frame.Entries l at) n h e = absurd (cc e)
dropped_mark (frame.Then l) n h e = absurd (cc e)
dropped_mark (frame.Loop looping) n h e = absurd (cc e)

dropped_other : (f : Frame) (h : Held) → mark_of f ≡ None → dropped f h ≡ h
dropped_other (frame.Mark m) h e = absurd (cc e)
dropped_other (frame.Back c m) h e = absurd (cc e)
dropped_other (frame.Judge judging) h e = absurd (cc e)
dropped_other (frame.Try trying) h e = refl
dropped_other (frame.Do l at) h e = refl
dropped_other (frame.Lone l b) h e = refl
dropped_other (frame.Entries l at) h e = refl
dropped_other (frame.Then l) h e = refl
dropped_other (frame.Loop looping) h e = refl

-- the own layers begin with the innermost
pub record Innermost (first : ℕ) (fs : List Frame) : Type 0 where
  pub top : Own
  pub rest : List Own
  pub is : owned first fs ≡ top ∷ rest
  pub number : top.number ≡ innermost first fs

pub innermost_own : (first : ℕ) (fs : List Frame) → Innermost first fs
innermost_own first [] = record { top = own first false; rest = []; is = refl; number = refl }
innermost_own first (frame.Mark n ∷ fs) = record { top = own n false; rest = owned first fs; is = refl; number = refl }
innermost_own first (frame.Back c n ∷ fs) = record { top = own n true; rest = owned first fs; is = refl; number = refl }
innermost_own first (frame.Judge judging ∷ fs) = record { top = own judging.value.layer true; rest = owned first fs; is = refl; number = refl }
innermost_own first (frame.Try trying ∷ fs) = let i = innermost_own first fs in record { top = i.top; rest = i.rest; is = i.is; number = i.number }
innermost_own first (frame.Do l at ∷ fs) = let i = innermost_own first fs in record { top = i.top; rest = i.rest; is = i.is; number = i.number }
innermost_own first (frame.Lone l b ∷ fs) = let i = innermost_own first fs in record { top = i.top; rest = i.rest; is = i.is; number = i.number }
innermost_own first (frame.Entries l at ∷ fs) = let i = innermost_own first fs in record { top = i.top; rest = i.rest; is = i.is; number = i.number }
innermost_own first (frame.Then l ∷ fs) = let i = innermost_own first fs in record { top = i.top; rest = i.rest; is = i.is; number = i.number }
innermost_own first (frame.Loop looping ∷ fs) = let i = innermost_own first fs in record { top = i.top; rest = i.rest; is = i.is; number = i.number }

-- ## Leaving
-- the innermost frame has a layer
module _ (a : Around) (p q first : ℕ) (f : Frame) (n : ℕ) (old new : List Frame) (x : Scopes) (same : q ≡ first) (first_is : p ≡ first) (mark : mark_of f ≡ Some n) (is : old ≡ f ∷ new) (r : rises (layers_of x) ≡ true) (h : IsLinked a (owned p old) x) where
  opens : owned p old ≡ own n (is_back f) ∷ owned first new
  opens = ap (λ (k : ℕ). owned k old) first_is ∙ ap (owned first) is ∙ owned_mark first f n new mark

  pub mark_closes : Closes a.keys (own n (is_back f)) (owned first new) (layers_of x)
  mark_closes = closes a.keys (own n (is_back f)) (owned first new) (layers_of x) r (subst (λ os. Linked a.keys os (layers_of x)) opens h.layers)

  mark_sum : SumIs a (owned first new) (closed n (layers_of x))
  mark_sum =
      let ls = layers_of x in
      let os = owned first new in
      let l = subst (λ os. Linked a.keys os ls) opens h.layers in
      let i = l.stand.0 in
      sum_closed (pairs_size (pairs_of (vars_at n ls))) (layers_total (own_layers os ls)) (outers_total (far_layers a.keys ls)) a.others (total_of ls) (total_of (closed n ls)) (layers_total (own_layers os (closed n ls))) (outers_total (far_layers a.keys (closed n ls)))
      (subst (λ ys. SumIs a ys ls) opens h.sum) (total_closed n ls i.0 i.1 ∙ ap (λ ps. pairs_size (pairs_of ps) + total_of (closed n ls)) (sym (vars_found n ls i.0 i.1)))
      (ap layers_total mark_closes.own) (ap outers_total mark_closes.outside)

  pub mark_left : (y : Scopes) → layers_of y ≡ closed n (layers_of x) → Leaves true old (held_of a.keys (owned p old) (layers_of x)) new (held_of a.keys (owned q new) (layers_of y))
  mark_left y e = (
    f,
    is,
    ap (λ (k : ℕ). held_of a.keys (owned k new) (layers_of y)) same ∙ ap (λ ls. held_of a.keys (owned first new) ls) e ∙ ap {B = Held} (λ os. record { own = os; outside = (held_of a.keys (owned first new) (closed n (layers_of x))).outside }) mark_closes.own
        ∙ ap {B = Held} (λ os. record { own = (held_of a.keys (owned first new) (layers_of x)).own; outside = os }) mark_closes.outside
        ∙ sym (dropped_mark f n (held_of a.keys (owned p old) (layers_of x)) mark ∙ ap {B = Held} (λ os. record { own = drop 1 (held_of a.keys os (layers_of x)).own; outside = (held_of a.keys (owned p old) (layers_of x)).outside }) opens),
  )

  pub mark_linked : (y : Scopes) → layers_of y ≡ closed n (layers_of x) → y.limit ≡ x.limit → IsLinked a (owned q new) y
  mark_linked y e l = record {
    layers = subst (λ (k : ℕ). Linked a.keys (owned k new) (layers_of y)) (sym same) (subst (λ ls. Linked a.keys (owned first new) ls) (sym e) mark_closes.linked);
    limit = l ∙ h.limit;
    order = λ m. subst (λ ls. IsInOrder (vars_at m ls)) (sym e) (order_closed n (layers_of x) r h.order m);
    unseen = ap (besides (numbers (owned q new) a.keys)) e ∙ ap (λ (k : ℕ). besides (numbers (owned k new) a.keys) (closed n (layers_of x))) same
        ∙ besides_closed n (numbers (owned first new) a.keys) (layers_of x) r ∙ ap (λ os. besides (numbers os a.keys) (layers_of x)) (sym opens) ∙ h.unseen;
    sum = subst (λ (k : ℕ). SumIs a (owned k new) (layers_of y)) (sym same) (subst (λ ls. SumIs a (owned first new) ls) (sym e) mark_sum);
  }

-- it has none
pub other_left : (a : Around) (p q : ℕ) (f : Frame) (old new : List Frame) (x : Scopes) → q ≡ p → mark_of f ≡ None → old ≡ f ∷ new → Leaves true old (held_of a.keys (owned p old) (layers_of x)) new (held_of a.keys (owned q new) (layers_of x))
other_left a p q f old new x same none is =
    (f, is, ap (λ (k : ℕ). held_of a.keys (owned k new) (layers_of x)) same ∙ ap (λ os. held_of a.keys os (layers_of x)) (sym (ap (owned p) is ∙ owned_other p f new none)) ∙ sym (dropped_other f (held_of a.keys (owned p old) (layers_of x)) none))

pub other_linked : (a : Around) (p q : ℕ) (f : Frame) (old new : List Frame) (x : Scopes) → q ≡ p → mark_of f ≡ None → old ≡ f ∷ new → IsLinked a (owned p old) x → IsLinked a (owned q new) x
other_linked a p q f old new x same none is h =
    subst (λ (k : ℕ). IsLinked a (owned k new) x) (sym same) (subst (λ os. IsLinked a os x) (ap (owned p) is ∙ owned_other p f new none) h)

-- ## The innermost layer, from the end
pub innermost_mark : (first : ℕ) (f : Frame) (n : ℕ) (fs : List Frame) → mark_of f ≡ Some n → innermost first (f ∷ fs) ≡ n
innermost_mark first (frame.Mark m) n fs e = cc e
innermost_mark first (frame.Back c m) n fs e = cc e
innermost_mark first (frame.Judge judging) n fs e = cc e
innermost_mark first (frame.Try trying) n fs e = absurd (cc e)
innermost_mark first (frame.Do l at) n fs e = absurd (cc e)
innermost_mark first (frame.Lone l b) n fs e = absurd (cc e)
innermost_mark first (frame.Entries l at) n fs e = absurd (cc e)
innermost_mark first (frame.Then l) n fs e = absurd (cc e)
innermost_mark first (frame.Loop looping) n fs e = absurd (cc e)

pub innermost_other : (first : ℕ) (f : Frame) (fs : List Frame) → mark_of f ≡ None → innermost first (f ∷ fs) ≡ innermost first fs
innermost_other first (frame.Mark m) fs e = absurd (cc e)
innermost_other first (frame.Back c m) fs e = absurd (cc e)
innermost_other first (frame.Judge judging) fs e = absurd (cc e)
innermost_other first (frame.Try trying) fs e = refl
innermost_other first (frame.Do l at) fs e = refl
innermost_other first (frame.Lone l b) fs e = refl
innermost_other first (frame.Entries l at) fs e = refl
innermost_other first (frame.Then l) fs e = refl
innermost_other first (frame.Loop looping) fs e = refl

take_last : (xs : List Frame) (n : ℕ) (x : Frame) → n < length xs → x ≡ get_or xs n x → take (suc n) xs ≡ take n xs ++ x ∷ []
take_last [] n x h e = absurd (omega (arith, h))
take_last (y ∷ xs) zero x h e = ap (λ z. z ∷ []) (sym e)
take_last (y ∷ xs) (suc n) x h e = ap (λ zs. y ∷ zs) (take_last xs n x (omega (arith, h)) e)

-- the frame at a place, before those in front of it
pub taken : (xs : List Frame) (m n : ℕ) (x : Frame) → m ≡ suc n → n < length xs → x ≡ get_or xs n x → reverse (take m xs) ≡ x ∷ reverse (take n xs)
taken xs m n x s h e = ap (λ (k : ℕ). reverse (take k xs)) s ∙ ap reverse (take_last xs n x h e) ∙ reverse_push (take n xs) x

-- a frame without a layer that is put on changes no layer
pub own_pushed : (p q : ℕ) (f : Frame) (old new : List Frame) → q ≡ p → mark_of f ≡ None → new ≡ f ∷ old → owned q new ≡ owned p old
own_pushed p q f old new same none is = ap (λ (k : ℕ). owned k new) same ∙ ap (owned p) is ∙ owned_other p f old none

-- a frame that goes on changes none either, nor the innermost
pub owned_on : (first : ℕ) (fs : List Frame) → owned first (moved_on fs) ≡ owned first fs
owned_on first [] = refl
owned_on first (frame.Mark m ∷ fs) = refl
owned_on first (frame.Back c m ∷ fs) = refl
owned_on first (frame.Judge judging ∷ fs) = refl
owned_on first (frame.Try trying ∷ fs) = refl
owned_on first (frame.Do l at ∷ fs) = refl
owned_on first (frame.Lone l b ∷ fs) = refl
owned_on first (frame.Entries l at ∷ fs) = refl
owned_on first (frame.Then l ∷ fs) = refl
owned_on first (frame.Loop looping ∷ fs) = refl

pub innermost_on : (first : ℕ) (fs : List Frame) → innermost first (moved_on fs) ≡ innermost first fs
innermost_on first [] = refl
innermost_on first (frame.Mark m ∷ fs) = refl
innermost_on first (frame.Back c m ∷ fs) = refl
innermost_on first (frame.Judge judging ∷ fs) = refl
innermost_on first (frame.Try trying ∷ fs) = refl
innermost_on first (frame.Do l at ∷ fs) = refl
innermost_on first (frame.Lone l b ∷ fs) = refl
innermost_on first (frame.Entries l at ∷ fs) = refl
innermost_on first (frame.Then l ∷ fs) = refl
innermost_on first (frame.Loop looping ∷ fs) = refl
