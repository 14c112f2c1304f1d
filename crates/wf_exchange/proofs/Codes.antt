-- The code of a response that is heard in part.
use Rattle.std.proofs.Common.{◌≡◌, ℕ, IsTrue, IsFalse, List, [], ◌∷◌, ◌++◌, sym, ap, subst, ◌∙◌, append_assoc, true≢false}
use Rattle.std.specs.List.{flat_map}
use Rattle.std.proofs.lemmas.List.Concat.{flat_map-cons}
use Rattle.std.proofs.lemmas.List.Elements.{All-head}
use Rattle.httparse.specs.Grammar.{ResponseHead, IsResponseHead, ReadsResponse, print_response, status_code}
use Rattle.httparse.proofs.GrammarLemmas.{response_unique, ReadsResponse-append}
use Rattle.wf_http_in.specs.Heads.{SkipsHeads, is_interim}
use Rattle.wf_exchange.specs.Replies.{CodeIsOfTheHead}

-- no interim head stands before a head that isn't one
none_skipped : (text front rest behind inner : List ℕ) (h : ResponseHead) (interim : List ResponseHead) → ReadsResponse text h behind → IsFalse (is_interim h) → text ≡ front ++ rest
    → SkipsHeads front interim inner → front ≡ inner
none_skipped text front rest behind inner h [] reads final is skips = skips.bytes
none_skipped text front rest behind inner h (k ∷ ks) reads final is skips =
    let there : front ≡ print_response k ++ (flat_map print_response ks ++ inner) =
    skips.bytes ∙ ap (λ (l : List ℕ). l ++ inner) (flat_map-cons print_response k ks) ∙ append_assoc (print_response k) (flat_map print_response ks) inner in
    let first : ReadsResponse front k (flat_map print_response ks ++ inner) = (All-head IsResponseHead k ks skips.heads, there) in
    let whole : ReadsResponse text k ((flat_map print_response ks ++ inner) ++ rest) = subst (λ (t : List ℕ). ReadsResponse t k ((flat_map print_response ks ++ inner) ++ rest)) (sym is) (ReadsResponse-append front k _ rest first) in
    let same = (response_unique text h k behind _ reads whole).0 in
    let yes : IsTrue (is_interim k) = All-head (λ x. IsTrue (is_interim x)) k ks skips.codes in
    absurd (true≢false (sym yes ∙ ap is_interim (sym same) ∙ final))

pub code_is_of_the_head : CodeIsOfTheHead
code_is_of_the_head text front rest behind h close code fs body reads final is (k, (b, has, is_body), p, q) =
    let same = none_skipped text front rest behind has.rest h has.interim reads final is has.skips in
    let there : ReadsResponse front k b = subst (λ (t : List ℕ). ReadsResponse t k b) (sym same) has.reads in
    let whole : ReadsResponse text k (b ++ rest) = subst (λ (t : List ℕ). ReadsResponse t k (b ++ rest)) (sym is) (ReadsResponse-append front k b rest there) in
    p ∙ ap status_code (response_unique text k h (b ++ rest) behind whole reads).0
