-- What is sent of a URL is of visible ASCII.
use Rattle.std.proofs.Common.{◌≡◌, ◌≢◌, ◌≤◌, ◌<◌, ◌/◌, ◌%◌, ◌+◌, ℕ, zero, suc, Bool, true, false, ◌&&◌, ◌||◌, nat_lt, nat_le, ◌==◌, if◌then◌else◌, List, [], ◌∷◌, ◌++◌, length, map, take, drop, codes, bytes_eq, decimal, Option, Some, None, Ok, refl, subst, ◌∙◌, arith, length-append}
use Rattle.std.specs.List.{flat_map, list_all, list_any}
use Rattle.std.specs.Char.{is_ascii_alphanumeric}
use Rattle.std.specs.Fmt.{digit_glyph, digits, digits_onto}
use Rattle.std.proofs.lemmas.Bool.{and_from, and_parts, eqb-false}
use Rattle.std.proofs.lemmas.Bool.Decides.{nat_tests}
use Rattle.std.proofs.lemmas.List.Folds.{list_all-append}
use Rattle.http_uri.specs.ByteClasses.{split_once_front, index_of, question_mark}
use Rattle.http_uri.specs.Grammar.{or_slash, path_of, query_of, scheme_len, authority_len, normal_scheme}
use Rattle.percent_encoding.specs.Percent.{percent_encode_byte}
use Rattle.wf_value.specs.Events.{Address, Routes}
use Rattle.wf_value.specs.HttpRequest.{Asked, with_query, query_pair, has_query}
use Rattle.wf_value.specs.HttpUrl.{Url, Goal, is_url_byte, url, url_behind, url_if, kept_path, goal_of, goal_at, target_of, query_text, first_of_two, direct}
use Rattle.wf_value.specs.LibText.{url_encoded, url_encoded_byte}
use Rattle.wf_value.specs.Pairs.{Text}
use Rattle.wf_exchange.specs.Requests.{IsSent, GoalsAreSent}

abbrev Visible : List ℕ → Type 0
Visible s = list_all is_url_byte s ≡ true

both : (a b : List ℕ) → Visible a → Visible b → Visible (a ++ b)
both a b p q = list_all-append is_url_byte a b ∙ and_from (list_all is_url_byte a) (list_all is_url_byte b) p q

vis_take : (n : ℕ) (s : List ℕ) → Visible s → Visible (take n s)
vis_take zero s h = refl
vis_take (suc n) [] h = refl
vis_take (suc n) (b ∷ s) h = let p = and_parts (is_url_byte b) (list_all is_url_byte s) h in and_from (is_url_byte b) (list_all is_url_byte (take n s)) p.0 (vis_take n s p.1)

vis_drop : (n : ℕ) (s : List ℕ) → Visible s → Visible (drop n s)
vis_drop zero s h = h
vis_drop (suc n) [] h = refl
vis_drop (suc n) (b ∷ s) h = vis_drop n s (and_parts (is_url_byte b) (list_all is_url_byte s) h).1

-- ## Encoded
encoded_test : (b : ℕ) → (is_ascii_alphanumeric b || list_any (λ c. c == b) (codes "-._~")) ≡ true → is_url_byte b ≡ true
encoded_test b h = grind (arith, nat_tests, h)

glyph : (d : ℕ) → d < 16 → is_url_byte (digit_glyph true d) ≡ true
glyph d h = grind (arith, nat_tests, h)

percent : (b : ℕ) → Visible (percent_encode_byte b)
unfolding percent_encode_byte
percent b = and_from (is_url_byte 37) _ refl (and_from (is_url_byte (digit_glyph true (b / 16 % 16))) _ (glyph (b / 16 % 16) (omega arith)) (and_from (is_url_byte (digit_glyph true (b % 16))) true (glyph (b % 16) (omega arith)) refl))

either_byte : (b : ℕ) (t : Bool) → (is_ascii_alphanumeric b || list_any (λ c. c == b) (codes "-._~")) ≡ t → Visible (if t then b ∷ [] else percent_encode_byte b)
either_byte b true h = and_from (is_url_byte b) true (encoded_test b h) refl
either_byte b false h = percent b

encoded : (s : List ℕ) → Visible (url_encoded s)
encoded [] = refl
encoded (b ∷ s) = both (url_encoded_byte b) (url_encoded s) (either_byte b (is_ascii_alphanumeric b || list_any (λ c. c == b) (codes "-._~")) refl) (encoded s)

pair_visible : (p : Text × Text) → Visible (query_pair p)
pair_visible p = both (url_encoded p.0 ++ codes "=") (url_encoded p.1) (both (url_encoded p.0) (codes "=") (encoded p.0) refl) (encoded p.1)

more_visible : (ps : List (Text × Text)) → Visible (flat_map (λ q. codes "&" ++ q) (map query_pair ps))
more_visible [] = refl
more_visible (p ∷ ps) = both (codes "&" ++ query_pair p) (flat_map (λ q. codes "&" ++ q) (map query_pair ps)) (both (codes "&") (query_pair p) refl (pair_visible p)) (more_visible ps)

mark_visible : (t : Bool) → Visible (if t then codes "&" else codes "?")
mark_visible true = refl
mark_visible false = refl

query_visible : (target : Text) (ps : List (Text × Text)) → Visible target → Visible (with_query target ps)
query_visible target [] h = h
query_visible target (p ∷ ps) h =
    both (target ++ (if has_query target then codes "&" else codes "?")) (query_pair p ++ flat_map (λ q. codes "&" ++ q) (map query_pair ps))
    (both target (if has_query target then codes "&" else codes "?") h (mark_visible (has_query target)))
    (both (query_pair p) (flat_map (λ q. codes "&" ++ q) (map query_pair ps)) (pair_visible p) (more_visible ps))

query_some : (target : Text) (ps : List (Text × Text)) → 1 ≤ length target → 1 ≤ length (with_query target ps)
query_some target [] h = h
query_some target (p ∷ ps) h =
    let mark : List ℕ = if has_query target then codes "&" else codes "?" in
    let rest : List ℕ = query_pair p ++ flat_map (λ q. codes "&" ++ q) (map query_pair ps) in
    omega (arith, h, length-append (target ++ mark) rest, length-append target mark)

-- ## The URL
if_some : {A : Type 0} (t : Bool) (o : Option A) (u : A) → (if t then o else None) ≡ Some u → (t ≡ true) × (o ≡ Some u)
if_some true o u h = (refl, h)
if_some false o u h = absurd cc

record IsSeen (u : Url) : Type 0 where
  authority : Visible u.authority
  kept : Visible u.kept

kept_visible : (s : List ℕ) → Visible s → Visible (kept_path s)
kept_visible [] h = refl
kept_visible (b ∷ s) h = h

seen_if : (scheme authority tail : Text) (u : Url) → url_if scheme authority tail ≡ Some u → Visible authority → Visible tail → IsSeen u
seen_if scheme authority tail u h a t =
    let made : Some (record { scheme = scheme; authority = authority; kept = kept_path tail }) ≡ Some u = (if_some _ (Some (record { scheme = scheme; authority = authority; kept = kept_path tail })) u h).1 in
    let same : record { scheme = scheme; authority = authority; kept = kept_path tail } ≡ u = cc made in
    subst IsSeen same (record { authority = a; kept = kept_visible tail t })

url_seen : (s : Text) (u : Url) → url s ≡ Some u → IsSeen u
url_seen s u h =
    let c = if_some _ (url_behind (normal_scheme (take (scheme_len s) s)) (drop (3 + scheme_len s) s)) u h in
    let d = and_parts (nat_le 1 (length s) && nat_le (length s) 8192 && list_all is_url_byte s && nat_le (scheme_len s) 64) (bytes_eq (take 3 (drop (scheme_len s) s)) (codes "://")) c.0 in
    let e = and_parts (nat_le 1 (length s) && nat_le (length s) 8192 && list_all is_url_byte s) (nat_le (scheme_len s) 64) d.0 in
    let f = and_parts (nat_le 1 (length s) && nat_le (length s) 8192) (list_all is_url_byte s) e.0 in
    let rest : List ℕ = drop (3 + scheme_len s) s in
    let v = vis_drop (3 + scheme_len s) s f.1 in
    seen_if (normal_scheme (take (scheme_len s) s)) (take (authority_len rest) rest) (drop (authority_len rest) rest) u c.1 (vis_take (authority_len rest) rest v) (vis_drop (authority_len rest) rest v)

slash_visible : (t : Bool) (s : List ℕ) → Visible s → Visible (if t then codes "/" else s)
slash_visible true s h = refl
slash_visible false s h = h

slash_len : (t : Bool) (s : List ℕ) → (length s == 0) ≡ t → 1 ≤ length (if t then codes "/" else s)
slash_len true s h = omega arith
slash_len false s h = let differ : length s ≢ 0 = eqb-false (length s) 0 h in omega (arith, differ)

slash_some : (s : List ℕ) → 1 ≤ length (or_slash s)
slash_some s = slash_len (length s == 0) s refl

back_visible : (t : Bool) (s : List ℕ) → Visible s → Visible (query_text (if t then Some s else None))
back_visible true s h = both (codes "?") s refl h
back_visible false s h = refl

target_visible : (kept : Text) → Visible kept → Visible (target_of kept)
target_visible kept h =
    both (path_of kept) (query_text (query_of kept))
    (slash_visible (length (split_once_front question_mark kept) == 0) (split_once_front question_mark kept) (vis_take (index_of question_mark kept) kept h))
    (back_visible (nat_lt (index_of question_mark kept) (length kept)) (drop (index_of question_mark kept + 1) kept) (vis_drop (index_of question_mark kept + 1) kept h))

target_some : (kept : Text) → 1 ≤ length (target_of kept)
target_some kept = let some = slash_some (split_once_front question_mark kept) in omega (arith, some, length-append (path_of kept) (query_text (query_of kept)))

goal_seen : (u : Url) (o : Option Address) (g : Goal) (a : Asked) → IsSeen u → goal_at u o ≡ Ok g → IsSent g a
goal_seen u None g a seen h = absurd cc
goal_seen u (Some to) g a seen h =
    let same : record { address = to; authority = u.authority; target = target_of u.kept } ≡ g = cc in
    subst (λ x. IsSent x a) same (record {
      some = query_some (target_of u.kept) a.query (target_some u.kept);
      target = query_visible (target_of u.kept) a.query (target_visible u.kept seen.kept);
      authority = seen.authority;
    })

by_url : (s : Text) (o : Option Url) (routes : Routes) (g : Goal) (a : Asked) → url s ≡ o → goal_of o routes ≡ Ok g → IsSent g a
by_url s None routes g a is h = absurd cc
by_url s (Some u) routes g a is h = goal_seen u (first_of_two _ (direct u)) g a (url_seen s u is) h

-- what is sent of a URL that leads somewhere, with any query
pub goals_are_sent : GoalsAreSent
goals_are_sent s routes g a h = by_url s (url s) routes g a refl h

-- ## Numbers
low_digit : (d : ℕ) → d < 10 → is_url_byte (digit_glyph false d) ≡ true
low_digit d lt = grind (arith, nat_tests, lt)

digits_if : (t : Bool) (first later : List ℕ) → Visible first → Visible later → Visible (if t then first else later)
digits_if true first later p q = p
digits_if false first later p q = q

digits_visible : (k n : ℕ) (acc : List ℕ) → Visible acc → Visible (digits_onto k 10 false n acc)
digits_visible zero n acc h = h
digits_visible (suc k) n acc h =
    let here : Visible (digit_glyph false (n % 10) ∷ acc) = and_from (is_url_byte (digit_glyph false (n % 10))) (list_all is_url_byte acc) (low_digit (n % 10) (omega arith)) h in
    digits_if (n / 10 == 0) (digit_glyph false (n % 10) ∷ acc) (digits_onto k 10 false (n / 10) (digit_glyph false (n % 10) ∷ acc)) here (digits_visible k (n / 10) (digit_glyph false (n % 10) ∷ acc) here)

pub decimal_visible : (n : ℕ) → list_all is_url_byte (decimal n) ≡ true
unfolding digits
decimal_visible n = digits_visible 64 n [] refl
