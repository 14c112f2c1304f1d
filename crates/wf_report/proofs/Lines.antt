-- The lines of a log.
use Rattle.std.proofs.Common.{◌≡◌, ◌<◌, ◌-◌, ◌+◌, ◌∙◌, ℕ, suc, List, [], ◌∷◌, ◌++◌, length, take, Option, None, Some, sym, ap, arith, append-nil}
use Rattle.std.specs.Prelude.{flat_map, slice_get}
use Rattle.std.proofs.lemmas.Grind.{flat_map-append}
use Rattle.std.proofs.lemmas.List.{take_all}
use Rattle.std.proofs.lemmas.Option.{slice_get_within}
use Rattle.wf_lemmas.proofs.Lists.{none_past, take_push}
use Rattle.wf_model.specs.Config.{LogEntry}
use Rattle.wf_report.specs.Texts.{logged, told_of}

-- the lines of the first entries
abbrev pub so_far : Option (List ℕ) → List LogEntry → ℕ → List ℕ
so_far grep es k = flat_map (told_of grep) (take k es)

pub line_more : (grep : Option (List ℕ)) (es : List LogEntry) (k n : ℕ) (e : LogEntry) (text new : List ℕ) → n ≡ k + 1 → text ≡ so_far grep es k → slice_get es k ≡ Some e → new ≡ text ++ told_of grep e → new ≡ so_far grep es n
line_more grep es k n e text new one before at more =
    let next : suc k ≡ n = omega (arith, one) in
    more ∙ ap (λ l. l ++ told_of grep e) before ∙ ap (λ l. so_far grep es k ++ l) (sym (append-nil (told_of grep e)))
    ∙ sym (flat_map-append (told_of grep) (take k es) (e ∷ [])) ∙ ap (flat_map (told_of grep)) (sym (take_push es k e at)) ∙ ap (so_far grep es) next

pub all_lines : (grep : Option (List ℕ)) (es : List LogEntry) (k : ℕ) (text : List ℕ) → text ≡ so_far grep es k → slice_get es k ≡ None → text ≡ logged grep es
unfolding logged
all_lines grep es k text is past = is ∙ ap (flat_map (told_of grep)) (take_all k es (none_past es k past))

pub fewer_left : (es : List LogEntry) (k n : ℕ) (e : LogEntry) → n ≡ k + 1 → slice_get es k ≡ Some e → length es - n < length es - k
fewer_left es k n e one is = let inside = slice_get_within es k e is in omega (arith, inside, one)
