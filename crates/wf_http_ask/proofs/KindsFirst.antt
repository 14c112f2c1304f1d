-- The kinds of a call's arguments come first.
use Rattle.std.proofs.Common.{◌≡◌, ◌≢◌, ℕ, ℤ, pos, negsuc, Bool, true, false, ◌&&◌, List, [], ◌∷◌, Some, None, Ok, Err, Option, refl, sym, ap, ◌∙◌, subst}
use Rattle.std.specs.Prelude.{codes, if◌then◌else◌, nat_le}
use Rattle.wf_http_ask.specs.Kinds.{KindsComeFirst, are_kinds, all_values, is_field_kind, is_map_of, is_method_kind, is_query_kind, is_text, is_whole}
use Rattle.wf_value.specs.Events.{Method, method_name, method_named}
use Rattle.wf_value.specs.HttpRequest.{Asked, asked, as_text, as_whole, field_text, method_text, pairs_by, query_part, sent_body, texts_by, whole_between}
use Rattle.wf_value.specs.Data.{Data, null, boolean, integer, text, bytes, list, map, Pairs, no_pairs, pair}
use Rattle.wf_value.specs.Errors.{Answer, ◌>>=◌, or_error}
use Rattle.wf_value.specs.Pairs.{Text, get}
use Rattle.wf_value.specs.declared.Tag.TheVariants.{TypeError, ValueError}

-- ## Parts
-- a part of the right kind has a value, and one of a wrong kind is a TypeError
abbrev Told : {A : Type 0} → Bool → Answer A → Type 0
Told {A} true a = (x : A) × (a ≡ Ok x)
Told {A} false a = a ≡ Err TypeError

text_told : (o : Option Data) → Told (is_text o) (as_text o)
text_told None = refl
text_told (Some null) = refl
text_told (Some (boolean b)) = refl
text_told (Some (integer n)) = refl
text_told (Some (text t)) = (t, refl)
text_told (Some (bytes b)) = refl
text_told (Some (list vs)) = refl
text_told (Some (map ps)) = refl

whole_told : (z : ℤ) (o : Option Data) → Told (is_whole o) (as_whole z o)
whole_told z None = (z, refl)
whole_told z (Some null) = refl
whole_told z (Some (boolean b)) = refl
whole_told z (Some (integer n)) = (n, refl)
whole_told z (Some (text t)) = refl
whole_told z (Some (bytes b)) = refl
whole_told z (Some (list vs)) = refl
whole_told z (Some (map ps)) = refl

method_told : (m : Option Method) (args : Pairs) → Told (is_method_kind m args) (method_text m args)
method_told (Some m) args = (method_name m, refl)
method_told None args = text_told (get (codes "method") args)

field_told : (v : Data) → Told (is_field_kind v) (field_text v)
field_told null = refl
field_told (boolean b) = refl
field_told (integer n) = (_, refl)
field_told (text t) = (t, refl)
field_told (bytes b) = refl
field_told (list vs) = refl
field_told (map ps) = refl

query_told : (v : Data) → Told (is_query_kind v) (query_part v)
query_told null = refl
query_told (boolean true) = (codes "true", refl)
query_told (boolean false) = (codes "false", refl)
query_told (integer n) = (_, refl)
query_told (text t) = (t, refl)
query_told (bytes b) = refl
query_told (list vs) = refl
query_told (map ps) = refl

-- ## Maps
both_told : (b c : Bool) (k : Text) (a : Answer Text) (r : Answer (List (Text × Text))) → Told b a → Told c r → Told (b && c) (a >>= λ t. r >>= λ ts. Ok ((k, t) ∷ ts))
both_told true true k a r one rest = ((k, one.0) ∷ rest.0, ap (λ (x : Answer Text). x >>= λ t. r >>= λ ts. Ok ((k, t) ∷ ts)) one.1 ∙ ap (λ (x : Answer (List (Text × Text))). x >>= λ ts. Ok ((k, one.0) ∷ ts)) rest.1)
both_told true false k a r one rest = ap (λ (x : Answer Text). x >>= λ t. r >>= λ ts. Ok ((k, t) ∷ ts)) one.1 ∙ ap (λ (x : Answer (List (Text × Text))). x >>= λ ts. Ok ((k, one.0) ∷ ts)) rest
both_told false c k a r one rest = ap (λ (x : Answer Text). x >>= λ t. r >>= λ ts. Ok ((k, t) ∷ ts)) one

module _ (f : Data → Answer Text) (is_kind : Data → Bool) (told : (v : Data) → Told (is_kind v) (f v)) where
  texts_told : (ps : Pairs) → Told (all_values is_kind ps) (texts_by f ps)
  texts_told no_pairs = ([], refl)
  texts_told (pair k v ps) = both_told (is_kind v) (all_values is_kind ps) k (f v) (texts_by f ps) (told v) (texts_told ps)

  pairs_told : (o : Option Data) → Told (is_map_of is_kind o) (pairs_by f o)
  pairs_told None = ([], refl)
  pairs_told (Some null) = refl
  pairs_told (Some (boolean b)) = refl
  pairs_told (Some (integer n)) = refl
  pairs_told (Some (text t)) = refl
  pairs_told (Some (bytes b)) = refl
  pairs_told (Some (list vs)) = refl
  pairs_told (Some (map ps)) = texts_told ps

-- ## The whole
abbrev Says : {A : Type 0} → Bool → Answer A → Type 0
Says true a = a ≢ Err TypeError
Says false a = a ≡ Err TypeError

-- behind the kinds: the method and the timeout
abbrev valued : Option Method → Text → List (Text × Text) → List (Text × Text) → ℤ → Option Data → Answer Asked
valued o u fields query seconds body =
    or_error ValueError o >>= λ method. whole_between 1 1800 seconds >>= λ timeout.
    Ok (record { method = method; url = u; fields = fields; query = query; body = sent_body body; timeout = timeout })

abbrev whole : Answer Text → Answer Text → Answer (List (Text × Text)) → Answer (List (Text × Text)) → Answer ℤ → Option Data → Answer Asked
whole a u fs qs s body =
    a >>= λ name. u >>= λ url. fs >>= λ fields. qs >>= λ query. s >>= λ seconds. valued (method_named name) url fields query seconds body

-- behind the kinds no TypeError comes
by_bound : (b : Bool) (n : ℕ) (k : ℕ → Asked) → ((if b then Ok n else Err ValueError) >>= λ t. Ok (k t)) ≡ Err TypeError → ⊥
by_bound true n k e = cc
by_bound false n k e = cc

no_type_error : (o : Option Method) (u : Text) (fs qs : List (Text × Text)) (s : ℤ) (body : Option Data) → valued o u fs qs s body ≡ Err TypeError → ⊥
no_type_error None u fs qs s body e = cc
no_type_error (Some m) u fs qs (negsuc n) body e = cc
no_type_error (Some m) u fs qs (pos n) body e =
    by_bound (nat_le 1 n && nat_le n 1800) n
    (λ t. record { method = m; url = u; fields = fs; query = qs; body = sent_body body; timeout = t }) e

module _ (a u : Answer Text) (fs qs : Answer (List (Text × Text))) (s : Answer ℤ) (body : Option Data) where
  first : (x : Text) → a ≡ Ok x → whole a u fs qs s body ≡ whole (Ok x) u fs qs s body
  first x h = ap (λ (y : Answer Text). whole y u fs qs s body) h

  second : (x v : Text) → a ≡ Ok x → u ≡ Ok v → whole a u fs qs s body ≡ whole (Ok x) (Ok v) fs qs s body
  second x v h i = first x h ∙ ap (λ (y : Answer Text). whole (Ok x) y fs qs s body) i

  third : (x v : Text) (f : List (Text × Text)) → a ≡ Ok x → u ≡ Ok v → fs ≡ Ok f → whole a u fs qs s body ≡ whole (Ok x) (Ok v) (Ok f) qs s body
  third x v f h i j = second x v h i ∙ ap (λ (y : Answer (List (Text × Text))). whole (Ok x) (Ok v) y qs s body) j

  fourth : (x v : Text) (f q : List (Text × Text)) → a ≡ Ok x → u ≡ Ok v → fs ≡ Ok f → qs ≡ Ok q → whole a u fs qs s body ≡ whole (Ok x) (Ok v) (Ok f) (Ok q) s body
  fourth x v f q h i j k = third x v f h i j ∙ ap (λ (y : Answer (List (Text × Text))). whole (Ok x) (Ok v) (Ok f) y s body) k

  said : (b₁ b₂ b₃ b₄ b₅ : Bool) → Told b₁ a → Told b₂ u → Told b₃ fs → Told b₄ qs → Told b₅ s → Says (b₁ && b₂ && b₃ && b₄ && b₅) (whole a u fs qs s body)
  said false b₂ b₃ b₄ b₅ h i j k l = ap (λ (y : Answer Text). whole y u fs qs s body) h
  said true false b₃ b₄ b₅ h i j k l = first h.0 h.1 ∙ ap (λ (y : Answer Text). whole (Ok h.0) y fs qs s body) i
  said true true false b₄ b₅ h i j k l = second h.0 i.0 h.1 i.1 ∙ ap (λ (y : Answer (List (Text × Text))). whole (Ok h.0) (Ok i.0) y qs s body) j
  said true true true false b₅ h i j k l = third h.0 i.0 j.0 h.1 i.1 j.1 ∙ ap (λ (y : Answer (List (Text × Text))). whole (Ok h.0) (Ok i.0) (Ok j.0) y s body) k
  said true true true true false h i j k l = fourth h.0 i.0 j.0 k.0 h.1 i.1 j.1 k.1 ∙ ap (λ (y : Answer ℤ). whole (Ok h.0) (Ok i.0) (Ok j.0) (Ok k.0) y body) l
  said true true true true true h i j k l = λ e.
      no_type_error (method_named h.0) i.0 j.0 k.0 l.0 body
      (sym (fourth h.0 i.0 j.0 k.0 h.1 i.1 j.1 k.1 ∙ ap (λ (y : Answer ℤ). whole (Ok h.0) (Ok i.0) (Ok j.0) (Ok k.0) y body) l.1) ∙ e)

pub kinds_come_first : KindsComeFirst
kinds_come_first = record {
  wrong = λ m args h. subst (λ (b : Bool). Says b (asked m args)) h (at m args);
  right = λ m args h. subst (λ (b : Bool). Says b (asked m args)) h (at m args);
}
  where
    at : (m : Option Method) (args : Pairs) → Says (are_kinds m args) (asked m args)
    at m args =
        said (method_text m args) (as_text (get (codes "url") args)) (pairs_by field_text (get (codes "headers") args)) (pairs_by query_part (get (codes "query") args)) (as_whole (pos 300) (get (codes "timeout") args)) (get (codes "body") args)
        (is_method_kind m args) (is_text (get (codes "url") args)) (is_map_of is_field_kind (get (codes "headers") args)) (is_map_of is_query_kind (get (codes "query") args)) (is_whole (get (codes "timeout") args))
        (method_told m args) (text_told (get (codes "url") args)) (pairs_told field_text is_field_kind field_told (get (codes "headers") args)) (pairs_told query_part is_query_kind query_told (get (codes "query") args)) (whole_told (pos 300) (get (codes "timeout") args))
