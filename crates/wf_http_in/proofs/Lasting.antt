-- What is settled of an answer stays so, whatever is heard behind it.
use Rattle.std.proofs.Common.{ℕ, ◌-◌, List, [], ◌∷◌, ◌++◌, length, take, sym, ap, ◌∙◌, subst, arith, inl, inr, append_assoc, append-nil, length-append}
use Rattle.std.specs.Prelude.{IsTrue, Some}
use Rattle.std.specs.List.{flat_map}
use Rattle.std.proofs.lemmas.Bool.{cases_lt}
use Rattle.std.proofs.lemmas.List.Concat.{flat_map-append}
use Rattle.std.proofs.lemmas.List.Elements.{All-append, All-cons, All-nil}
use Rattle.httparse.specs.Grammar.{ResponseHead, IsResponseHead, print_response, ReadsResponse, NeverHasResponse}
use Rattle.httparse.proofs.GrammarLemmas.{ReadsResponse-append}
use Rattle.httparse.proofs.PieceLemmas.{front-append}
use Rattle.wf_value.specs.Events.{Reply, Broken}
use Rattle.wf_http_body.proofs.Fronts.{front_of}
use Rattle.wf_http_in.specs.AnswerOf.{AnswerOf}
use Rattle.wf_http_in.specs.Heads.{SkipsHeads, BehindInterim, HasHead, IsLongHead, IsBadHead, IsSmallResponse, is_interim}
use Rattle.wf_http_in.specs.Stages.{Stays}

-- ## Heads
pub skips_stay : (heard more rest : List ℕ) (hs : List ResponseHead) → SkipsHeads heard hs rest → SkipsHeads (heard ++ more) hs (rest ++ more)
skips_stay heard more rest hs x = record { heads = x.heads; codes = x.codes; small = x.small; bytes = front-append heard (flat_map print_response hs) rest more x.bytes }

pub head_stays : (heard more : List ℕ) (h : ResponseHead) (b : List ℕ) → HasHead heard h b → HasHead (heard ++ more) h (b ++ more)
head_stays heard more h b x = record {
  interim = x.interim;
  rest = x.rest ++ more;
  skips = skips_stay heard more x.rest x.interim x.skips;
  reads = ReadsResponse-append x.rest h b more x.reads;
  final = x.final;
  small = x.small;
}

never_stays : (rest more : List ℕ) → NeverHasResponse rest → NeverHasResponse (rest ++ more)
never_stays rest more never extra h b x = never (more ++ extra) h b (subst (λ (s : List ℕ). ReadsResponse s h b) (append_assoc rest more extra) x)

long_head_stays : (rest more : List ℕ) → IsLongHead rest → IsLongHead (rest ++ more)
long_head_stays rest more long = record {
  heard = let size = length-append rest more in let big = long.heard in omega arith;
  heads = λ h b x. elim (cases_lt (length rest) (length (print_response h))) [
    | inl lt ↦ let big = long.heard in omega arith
    | inr le ↦ long.heads h (take (length rest - length (print_response h)) b) (x.0, front_of rest more (print_response h) b x.1 le)
  ];
}

bad_head_stays : (rest more : List ℕ) → IsBadHead rest → IsBadHead (rest ++ more)
bad_head_stays rest more (inl never) = inl (never_stays rest more never)
bad_head_stays rest more (inr (inl long)) = inr (inl (long_head_stays rest more long))
bad_head_stays rest more (inr (inr (h, b, x, many))) = inr (inr (h, b ++ more, ReadsResponse-append rest h b more x, many))

pub bad_heads : (heard : List ℕ) → BehindInterim heard IsBadHead → Stays heard Broken
bad_heads heard (hs, rest, skips, bad) more close = inr (inl (hs, rest ++ more, skips_stay heard more rest hs skips, bad_head_stays rest more bad))

pub again : (heard piece : List ℕ) (a : Reply) → Stays heard a → Stays (heard ++ piece) a
again heard piece a stays more close = subst (λ (b : List ℕ). AnswerOf b close (Some a)) (sym (append_assoc heard piece more)) (stays (piece ++ more) close)

-- ## Interim heads
-- interim heads behind interim heads
pub further : (heard unread rest : List ℕ) (hs gs : List ResponseHead) → SkipsHeads heard hs unread → SkipsHeads unread gs rest → SkipsHeads heard (hs ++ gs) rest
further heard unread rest hs gs x y = record {
  heads = All-append IsResponseHead hs gs x.heads y.heads;
  codes = All-append (λ (g : ResponseHead). IsTrue (is_interim g)) hs gs x.codes y.codes;
  small = All-append IsSmallResponse hs gs x.small y.small;
  bytes = x.bytes ∙ ap (λ (s : List ℕ). flat_map print_response hs ++ s) y.bytes ∙ sym (append_assoc (flat_map print_response hs) (flat_map print_response gs) rest)
      ∙ ap (λ (s : List ℕ). s ++ rest) (sym (flat_map-append print_response hs gs));
}

-- one interim head more
pub one_more : (heard rest behind : List ℕ) (hs : List ResponseHead) (h : ResponseHead) → SkipsHeads heard hs rest → ReadsResponse rest h behind
    → IsTrue (is_interim h) → IsSmallResponse h → SkipsHeads heard (hs ++ h ∷ []) behind
one_more heard rest behind hs h skips reads interim small = further heard rest behind hs (h ∷ []) skips (record {
  heads = All-cons IsResponseHead h [] reads.0 (All-nil IsResponseHead);
  codes = All-cons (λ (g : ResponseHead). IsTrue (is_interim g)) h [] interim (All-nil _);
  small = All-cons IsSmallResponse h [] small (All-nil IsSmallResponse);
  bytes = reads.1 ∙ ap (λ (s : List ℕ). s ++ behind) (sym (append-nil (print_response h)));
})
