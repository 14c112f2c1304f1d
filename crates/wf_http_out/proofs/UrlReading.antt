-- `url` reads exactly what `http_uri` reads as an absolute URI, under this project's further rules.
use Rattle.std.proofs.Common.{◌≡◌, ◌≢◌, ℕ, zero, suc, ◌+◌, ◌-◌, ◌<◌, ◌≤◌, ◌⊎◌, ◌==◌, Bool, true, false, not, ◌&&◌, ◌||◌, cond, [], ◌∷◌, ◌++◌, length, get_or, take, drop, Option, Some, None, Result, Ok, Err, IfOk, IsTrue, refl, sym, ap, subst, ◌∙◌, arith, inl, inr, take_all, append_assoc, length-drop, length-take, ap₂}
use Rattle.std.specs.Prelude.{IfSome, IsErrOf, unwrap_or, nat_le, bytes_eq}
use Rattle.std.specs.List.{list_all}
use Rattle.std.proofs.lemmas.Bool.{and_parts, and_from, le-leb, leb-true, lt-ltb, ltb-true, eq-eqb, eqb-true, cond-true, both_ways}
use Rattle.std.proofs.lemmas.Bool.Decides.{nat_tests}
use Rattle.std.proofs.lemmas.List.{append-nil}
use Rattle.std.proofs.lemmas.List.Elements.{All-drop}
use Rattle.std.proofs.lemmas.List.Sums.{get_or-le-sum_by, AllPass-from_list_all, list_all-from_AllPass}
use Rattle.std.proofs.lemmas.Slice.Eq.{bytes_eq-Decides}
use Rattle.std.proofs.lemmas.Str.{IsUtf8-from_ascii}
use Rattle.std.proofs.lemmas.Option.{same_Some}
use Rattle.http_uri.specs.ByteClasses.{count_of, split_once_back, is_path_byte, is_query_byte, is_delimiter, index_of}
use Rattle.http_uri.specs.Grammar.{AllPass, IsAuthority, IsTail, IsPathAndQuery, IsAbsoluteForm, IsUriText, HasScheme, MayFollow, normal_scheme, scheme_len, authority_len, without_fragment}
use Rattle.http_uri.specs.declared.uri.Uri.{Uri as Target}
use Rattle.http_uri.specs.Uri.{HasParts, Spells, SpellsNone, uri_authority, uri_data}
use Rattle.http_uri.proofs.Theorems.{Spells_unique}
use Rattle.http_uri.proofs.RunLemmas.{AllPass-at, IsAscii-pass, index_of_is}
use Rattle.http_uri.proofs.SchemeLemmas.{AllPass_front}
use Rattle.http_uri.proofs.UriLemmas.{cut_len, cut_name, cut_rest, cut_authority, cut_tail, cut_scheme, absolute_from_cuts, authority_ends}
use Rattle.wf_value.specs.HttpUrl.{Url, IsUrl, UrlIsOfHttpUri, goal, goal_at, goal_of, url_behind, url_if, is_url_byte, is_web, is_authority, is_path_text, kept_path, has_host, may_follow, all_follow}
use Rattle.wf_value.specs.HttpUrl.{url as reads}
use Rattle.wf_value.specs.HttpUrl as url
use Rattle.wf_value.specs.Events.{Routes}
use Rattle.wf_value.specs.Pairs.{Text}
use Rattle.wf_http_out.specs.declared.fault.OutFault.{OutFault}
use Rattle.wf_http_out.specs.declared.fault.OutFault.TheVariants as fault
use Rattle.wf_http_out.specs.declared.goal.Goal.{Goal}
use Rattle.wf_http_out.specs.declared.parts.Parts.{Parts}
use Rattle.wf_http_out.specs.Parts.{IsPartsOf}
use Rattle.wf_http_out.specs.Urls.{IsNoUrl, is_sendable, is_short_text, address_of}
use Rattle.wf_http_out.specs.View.{AgreesWith, goal_view}

-- ## Tests
if_some : (b : Bool) (x : Option Url) (u : Url) → cond b x None ≡ Some u → (b ≡ true) × (x ≡ Some u)
if_some true x u h = (refl, h)
if_some false x u h = absurd cc

under : (x t : Bool) → (not x || t) ≡ true → x ≡ true → t ≡ true
under true t h e = h
under false t h e = cc

under_from : (x t : Bool) → (x ≡ true → t ≡ true) → (not x || t) ≡ true
under_from true t h = h refl
under_from false t h = refl

url_byte : (b : ℕ) → is_url_byte b ≡ true → (b < 128) × (b ≢ 35)
url_byte b h = grind (arith, nat_tests)

no_at : (s : Text) → count_of 64 s ≡ 0 → (i : ℕ) → i < length s → get_or s i 0 ≢ 64
no_at s none i lt same = omega (arith, rw same at (get_or-le-sum_by (λ (x : ℕ). cond (x == 64) 1 0) s i 0 lt))

-- ## Authorities
may_follow_to : (front : Text) (b : ℕ) → may_follow front b ≡ true → MayFollow front b
may_follow_to front b h =
    let one = and_parts _ _ h in
    let two = and_parts _ _ one.0 in
    let three = and_parts _ _ two.0 in
    record {
      byte = three.0;
      colons = λ same. ltb-true _ _ (under _ _ three.1 (eq-eqb _ _ same));
      opening = λ same.
          let both = and_parts _ _ (under _ _ two.1 (eq-eqb _ _ same)) in
          (eqb-true _ _ both.0, eqb-true _ _ both.1);
      closing = λ same.
          let both = and_parts _ _ (under _ _ one.1 (eq-eqb _ _ same)) in
          (ltb-true _ _ both.0, eqb-true _ _ both.1);
    }

may_follow_from : (front : Text) (b : ℕ) → MayFollow front b → may_follow front b ≡ true
may_follow_from front b h =
    and_from _ _ (and_from _ _ (and_from _ _ h.byte (under_from _ _ λ same. lt-ltb _ _ (h.colons (eqb-true _ _ same))))
    (under_from _ _ λ same. let both = h.opening (eqb-true _ _ same) in and_from _ _ (eq-eqb _ _ both.0) (eq-eqb _ _ both.1)))
    (under_from _ _ λ same. let both = h.closing (eqb-true _ _ same) in and_from _ _ (lt-ltb _ _ both.0) (eq-eqb _ _ both.1))

all_follow_to : (front s : Text) → all_follow front s ≡ true → (i : ℕ) → i < length s → MayFollow (front ++ take i s) (get_or s i 0)
all_follow_to front [] h i lt = absurd (omega arith)
all_follow_to front (b ∷ s) h zero lt =
    subst (λ (f : Text). MayFollow f b) (sym (append-nil front)) (may_follow_to front b (and_parts _ _ h).0)
all_follow_to front (b ∷ s) h (suc i) lt =
    subst (λ (f : Text). MayFollow f (get_or s i 0)) (append_assoc front (b ∷ []) (take i s))
    (all_follow_to (front ++ b ∷ []) s (and_parts _ _ h).1 i (omega arith))

all_follow_from : (front s : Text) → ((i : ℕ) → i < length s → MayFollow (front ++ take i s) (get_or s i 0)) → all_follow front s ≡ true
all_follow_from front [] h = refl
all_follow_from front (b ∷ s) h =
    and_from _ _ (may_follow_from front b (subst (λ (f : Text). MayFollow f b) (append-nil front) (h 0 (omega arith))))
    (all_follow_from (front ++ b ∷ []) s λ i lt.
    subst (λ (f : Text). MayFollow f (get_or s i 0)) (sym (append_assoc front (b ∷ []) (take i s))) (h (suc i) (omega arith)))

authority_to : (a : Text) → is_authority a ≡ true → IsAuthority a × (count_of 64 a ≡ 0)
authority_to a h =
    let one = and_parts _ _ h in
    let two = and_parts _ _ one.0 in
    let three = and_parts _ _ two.0 in
    let four = and_parts _ _ three.0 in
    let five = and_parts _ _ four.0 in
    let some : 0 < length a = ltb-true _ _ five.0 in
    let none : count_of 64 a ≡ 0 = eqb-true _ _ one.1 in (
      record {
        nonempty = some;
        bytes = all_follow_to [] a five.1;
        closed = eqb-true _ _ four.1;
        one_colon = leb-true _ _ three.1;
        no_percent = eqb-true _ _ two.1;
        has_host = no_at a none (length a - 1) (omega arith);
      },
      none,
    )

authority_from : (a : Text) → IsAuthority a → count_of 64 a ≡ 0 → is_authority a ≡ true
authority_from a h none =
    and_from _ _
    (and_from _ _
    (and_from _ _
    (and_from _ _ (and_from _ _ (lt-ltb _ _ h.nonempty) (all_follow_from [] a h.bytes)) (eq-eqb _ _ h.closed))
    (le-leb _ _ h.one_colon))
    (eq-eqb _ _ h.no_percent))
    (eq-eqb _ _ none)

-- ## What follows the authority
whole : (t : Text) → AllPass is_url_byte t → without_fragment t ≡ t
whole t bytes =
    let at = AllPass-at is_url_byte t bytes in
    let end : index_of 35 t ≡ length t =
    index_of_is 35 t (length t) (omega arith) (λ k lt. (url_byte _ (at k lt)).1) (λ lt. absurd (omega arith)) in
    rw end (take_all (length t) t (omega arith))

some_pass : (q : ℕ → Bool) (o : Option Text) → list_all q (unwrap_or o []) ≡ true → IfSome o (AllPass q)
some_pass q None h = tt
some_pass q (Some t) h = AllPass-from_list_all q t h

pass_some : (q : ℕ → Bool) (o : Option Text) → IfSome o (AllPass q) → list_all q (unwrap_or o []) ≡ true
pass_some q None h = refl
pass_some q (Some t) h = list_all-from_AllPass q t h

marks : (b : ℕ) → is_delimiter b ≡ true → b ≢ 35 → (b ≡ 47) ⊎ (b ≡ 63)
marks b h other = grind (arith, nat_tests)

path_to : (t : Text) → 0 < length t → AllPass is_url_byte t → length t ≤ 65534 → is_delimiter (get_or t 0 0) ≡ true → is_path_text t ≡ true → IsPathAndQuery t
path_to t some bytes short starts path =
    let at = AllPass-at is_url_byte t bytes in
    let both = and_parts _ _ path in
    record {
      start = inr (inr (marks (get_or t 0 0) starts (url_byte _ (at 0 some)).1));
      path = AllPass-from_list_all is_path_byte _ both.0;
      query = some_pass is_query_byte (split_once_back 63 t) both.1;
      utf8 = IsUtf8-from_ascii t (IsAscii-pass is_url_byte t (λ b pass. (url_byte b pass).0) at);
      short = short;
    }

tail_to : (t : Text) → AllPass is_url_byte t → length t ≤ 65534 → (0 < length t → is_delimiter (get_or t 0 0) ≡ true) → is_path_text (kept_path t) ≡ true → IsTail t (kept_path t)
tail_to [] bytes short starts path = inl (refl, refl)
tail_to (b ∷ t) bytes short starts path =
    let first = starts (omega arith) in
    let same = whole (b ∷ t) bytes in
    let kept = path_to (b ∷ t) (omega arith) bytes short first path in
    inr (first, record { start = inr first; short = short; kept = subst IsPathAndQuery (sym same) kept }, sym same)

path_from : (t : Text) → IsPathAndQuery t → is_path_text t ≡ true
path_from t h = and_from _ _ (list_all-from_AllPass is_path_byte _ h.path) (pass_some is_query_byte (split_once_back 63 t) h.query)

kept_of : (t : Text) → is_delimiter (get_or t 0 0) ≡ true → kept_path t ≡ t
kept_of [] h = absurd cc
kept_of (b ∷ t) h = refl

tail_from : (t kept : Text) → AllPass is_url_byte t → IsTail t kept → (kept_path t ≡ kept) × (is_path_text (kept_path t) ≡ true)
tail_from t kept bytes (inl h) = rw h.0 (sym h.1, refl)
tail_from t kept bytes (inr h) =
    let same = whole t bytes in
    let as_it_is = kept_of t h.0 in
    (as_it_is ∙ sym same ∙ sym h.2, rw as_it_is (path_from t (subst IsPathAndQuery same h.1.kept)))

-- ## The whole
abbrev url_parts : Text → Text → Text → Url
url_parts scheme authority kept = record { scheme = scheme; authority = authority; kept = kept }

abbrev behind : ℕ → Text → Text
behind n s = drop (n + 3) s

url_of_rest : (s : Text) (u : Url) → 1 ≤ length s → length s ≤ 8192 → list_all is_url_byte s ≡ true → scheme_len s ≤ 64 → take 3 (drop (scheme_len s) s) ≡ 58 ∷ 47 ∷ 47 ∷ [] → url_behind (normal_scheme (take (scheme_len s) s)) (behind (scheme_len s) s) ≡ Some u → IsUrl s u
url_of_rest s u low high bytes short mark read =
    let n = scheme_len s in
    let rest : Text = behind n s in
    let end : ℕ = authority_len rest in
    let scheme : Text = normal_scheme (take n s) in
    let name : Text = take end rest in
    let tail : Text = drop end rest in
    let inner : (is_web scheme && is_authority name && has_host name && is_path_text (kept_path tail) ≡ true) × (Some (url_parts scheme name (kept_path tail)) ≡ Some u) = if_some _ _ u read in
    let one : (is_web scheme && is_authority name && has_host name ≡ true) × (is_path_text (kept_path tail) ≡ true) = and_parts _ _ inner.0 in
    let two : (is_web scheme && is_authority name ≡ true) × (has_host name ≡ true) = and_parts _ _ one.0 in
    let three : (is_web scheme ≡ true) × (is_authority name ≡ true) = and_parts _ _ two.0 in
    let authority : IsAuthority name × (count_of 64 name ≡ 0) = authority_to name three.1 in
    let some : 0 < length name = authority.0.nonempty in
    let all : AllPass is_url_byte s = AllPass-from_list_all is_url_byte s bytes in
    let passes : AllPass is_url_byte tail =
    All-drop (λ b. IsTrue (is_url_byte b)) end rest (All-drop (λ b. IsTrue (is_url_byte b)) (n + 3) s all) in
    let room : 0 < length rest = omega (arith, length-take end rest, some) in
    let long : 3 < length s = omega (arith, length-drop (n + 3) s) in
    let has : HasScheme s = (long, mark) in
    let fits : length tail ≤ 65534 = omega (arith, length-drop end rest, length-drop (n + 3) s) in
    let is_tail : IsTail tail (kept_path tail) = tail_to tail passes fits (authority_ends rest) one.1 in
    let few : length (take n s) ≤ 64 = omega (arith, length-take n s) in
    let form : IsAbsoluteForm s scheme name (kept_path tail) =
    absolute_from_cuts s scheme name (kept_path tail) n end has refl (AllPass_front s n refl, few) refl refl authority.0 is_tail in
    let small : length s ≤ 65534 = omega arith in
    subst (IsUrl s) (same_Some (url_parts scheme name (kept_path tail)) u inner.1)
    (record {
      reads = (small, form);
      short = (low, high);
      bytes = bytes;
      web = three.0;
      no_user = authority.1;
      host = two.1;
    })

url_to : (s : Text) (u : Url) → reads s ≡ Some u → IsUrl s u
url_to s u h =
    let n = scheme_len s in
    let outer = if_some (nat_le 1 (length s) && nat_le (length s) 8192 && list_all is_url_byte s && nat_le n 64 && bytes_eq (take 3 (drop n s)) (58 ∷ 47 ∷ 47 ∷ [])) (url_behind (normal_scheme (take n s)) (drop (3 + n) s)) u h in
    let one = and_parts _ _ outer.0 in
    let two = and_parts _ _ one.0 in
    let three = and_parts _ _ two.0 in
    let four = and_parts _ _ three.0 in
    let low : 1 ≤ length s = leb-true _ _ four.0 in
    let high : length s ≤ 8192 = leb-true _ _ four.1 in
    let short : n ≤ 64 = leb-true _ _ two.1 in
    let mark : take 3 (drop n s) ≡ 58 ∷ 47 ∷ 47 ∷ [] = (bytes_eq-Decides _ _).0 one.1 in
    let order : 3 + n ≡ n + 3 = omega arith in
    let read : url_behind (normal_scheme (take n s)) (behind n s) ≡ Some u =
    subst (λ (m : ℕ). url_behind (normal_scheme (take n s)) (drop m s) ≡ Some u) order outer.1 in
    url_of_rest s u low high three.1 short mark read

url_from : (s : Text) (u : Url) → IsUrl s u → reads s ≡ Some u
url_from s u h =
    let form = h.reads.1 in
    let n = scheme_len s in
    let len = cut_len s u.scheme u.authority u.kept form in
    let name = cut_name s u.scheme u.authority u.kept form in
    let order : 3 + n ≡ n + 3 = omega arith in
    let rest : drop (3 + n) s ≡ u.authority ++ form.tail =
    subst (λ (m : ℕ). drop m s ≡ u.authority ++ form.tail) (sym order) (cut_rest s u.scheme u.authority u.kept form) in
    let cut = cut_authority s u.scheme u.authority u.kept form in
    let left = cut_tail s u.scheme u.authority u.kept form in
    let all : AllPass is_url_byte s = AllPass-from_list_all is_url_byte s h.bytes in
    let behind_it : AllPass is_url_byte (u.authority ++ form.tail) =
    subst (AllPass is_url_byte) rest (All-drop (λ b. IsTrue (is_url_byte b)) (3 + n) s all) in
    let passes : AllPass is_url_byte form.tail =
    subst (AllPass is_url_byte) left (All-drop (λ b. IsTrue (is_url_byte b)) (authority_len (u.authority ++ form.tail)) (u.authority ++ form.tail) behind_it) in
    let tail = tail_from form.tail u.kept passes form.is_tail in
    let mark = (cut_scheme s u.scheme u.authority u.kept form).1 in
    let few : n ≤ 64 = omega (arith, form.is_scheme.1) in
    let outer : nat_le 1 (length s) && nat_le (length s) 8192 && list_all is_url_byte s && nat_le n 64 && bytes_eq (take 3 (drop n s)) (58 ∷ 47 ∷ 47 ∷ []) ≡ true =
    and_from _ _ (and_from _ _ (and_from _ _ (and_from _ _ (le-leb _ _ h.short.0) (le-leb _ _ h.short.1)) h.bytes) (le-leb _ _ few)) ((bytes_eq-Decides _ _).1 mark) in
    let inner : is_web u.scheme && is_authority u.authority && has_host u.authority && is_path_text (kept_path form.tail) ≡ true =
    and_from _ _ (and_from _ _ (and_from _ _ h.web (authority_from u.authority form.is_authority h.no_user)) h.host) tail.1 in
    let first : reads s ≡ url_behind (normal_scheme (take n s)) (drop (3 + n) s) = cond-true _ _ _ outer in
    let second : url_behind (normal_scheme (take n s)) (drop (3 + n) s) ≡ url_behind u.scheme (u.authority ++ form.tail) =
    ap₂ url_behind (ap normal_scheme name ∙ sym form.normal) rest in
    let third : url_behind u.scheme (u.authority ++ form.tail) ≡ url_if u.scheme u.authority form.tail = ap₂ (url_if u.scheme) cut left in
    let fourth : url_if u.scheme u.authority form.tail ≡ Some (url_parts u.scheme u.authority (kept_path form.tail)) = cond-true _ _ _ inner in
    first ∙ second ∙ third ∙ fourth ∙ ap (λ (k : Text). Some (url_parts u.scheme u.authority k)) tail.0

pub url_is_of_http_uri : UrlIsOfHttpUri
url_is_of_http_uri s u = (url_to s u, url_from s u)

-- ## Answers
-- what `http_uri` reads, under the further rules, is a URL
pub is_url_of : (s : Text) (uri : Target) (u : Url) → is_short_text s ≡ true → Spells s uri → HasParts uri (Some u.scheme) (Some u.authority) u.kept → is_sendable u.scheme u.authority ≡ true → IsUrl s u
is_url_of s uri u short spells parts good =
    let one = and_parts _ _ short in
    let two = and_parts _ _ one.0 in
    let three = and_parts _ _ good in
    let four = and_parts _ _ three.0 in
    let first : IsUriText s (Some u.scheme) (uri_authority uri) (uri_data uri) =
    subst (λ (x : Option Text). IsUriText s x (uri_authority uri) (uri_data uri)) parts.0 spells in
    let second : IsUriText s (Some u.scheme) (Some u.authority) (uri_data uri) =
    subst (λ (x : Option Text). IsUriText s (Some u.scheme) x (uri_data uri)) parts.1 first in
    record {
      reads = subst (λ (x : Text). IsUriText s (Some u.scheme) (Some u.authority) x) parts.2 second;
      short = (leb-true _ _ two.0, leb-true _ _ two.1);
      bytes = one.1;
      web = four.0;
      no_user = eqb-true _ _ four.1;
      host = three.1;
    }

-- a URL has the parts that `http_uri` reads
pub parts_of_url : (s : Text) (uri : Target) (u : Url) → Spells s uri → IsUrl s u → HasParts uri (Some u.scheme) (Some u.authority) u.kept × (is_sendable u.scheme u.authority ≡ true)
parts_of_url s uri u spells h =
    let other : Target = record { scheme = Some u.scheme; authority = Some u.authority; path_and_query = u.kept; absolute = λ x same. refl; authority_alone = λ none x same. absurd cc } in
    (Spells_unique s uri other spells h.reads, and_from _ _ (and_from _ _ h.web (eq-eqb _ _ h.no_user)) h.host)

pub read_ok : (s : Text) (uri : Target) (r : Result Parts OutFault) → is_short_text s ≡ true → Spells s uri → IfOk r (λ p. (u : Url) × HasParts uri (Some u.scheme) (Some u.authority) u.kept × (is_sendable u.scheme u.authority ≡ true) × IsPartsOf u p) → IfOk r (λ p. (u : Url) × IsUrl s u × IsPartsOf u p)
read_ok s uri (Ok p) short spells h = (h.0, is_url_of s uri h.0 short spells h.1 h.2, h.3)
read_ok s uri (Err e) short spells h = h

pub read_bad : (s : Text) (uri : Target) → Spells s uri → ((u : Url) → HasParts uri (Some u.scheme) (Some u.authority) u.kept → is_sendable u.scheme u.authority ≡ false) → IsNoUrl s
read_bad s uri spells bad u x =
    let parts = parts_of_url s uri u spells x in
    both_ways _ (bad u parts.0) parts.1

pub unread_is_no_url : (s : Text) → SpellsNone s → IsNoUrl s
unread_is_no_url s none u x = none (Some u.scheme) (Some u.authority) u.kept x.reads

-- the function's answer where a text is no URL
pub no_url_fails : (s : Text) (routes : Routes) → IsNoUrl s → goal s routes ≡ Err url.BadUrl
no_url_fails s routes none = ap (λ (o : Option Url). goal_of o routes) (nothing (reads s) refl)
  where
    nothing : (o : Option Url) → reads s ≡ o → reads s ≡ None
    nothing None e = e
    nothing (Some u) e = absurd (none u (url_to s u e))

pub fails : (s : Text) (routes : Routes) (e : OutFault) → (IsErrOf {T = Parts} (Err e) fault.BadUrl → IsNoUrl s) → (IsErrOf {T = Parts} (Err e) fault.NoRoute → ⊥) → (IsErrOf {T = Parts} (Err e) fault.BadHeader → ⊥) → (IsErrOf {T = Parts} (Err e) fault.BadBody → ⊥) → AgreesWith goal_view (Err e) (goal s routes)
fails s routes fault.BadUrl bad route header body = no_url_fails s routes (bad refl)
fails s routes fault.BadHeader bad route header body = absurd (header refl)
fails s routes fault.NoRoute bad route header body = absurd (route refl)
fails s routes fault.BadBody bad route header body = absurd (body refl)
fails s routes fault.OutOfMemory bad route header body = tt

pub leads : (s : Text) (routes : Routes) (u : Url) (r : Result Goal OutFault) → IsUrl s u → AgreesWith goal_view r (goal_at u (address_of u routes)) → AgreesWith goal_view r (goal s routes)
leads s routes u r h given = subst (λ (o : Option Url). AgreesWith goal_view r (goal_of o routes)) (sym (url_from s u h)) given
