-- What a body comes to, by its framing.
use Rattle.std.proofs.Common.{◌≡◌, ℕ, ◌-◌, ◌<◌, ◌≤◌, List, ◌++◌, length, Result, Ok, Err, refl, sym, subst}
use Rattle.std.specs.Prelude.{IfOk}
use Rattle.std.proofs.lemmas.Bool.{le-ltb, lt-leb}
use Rattle.wf_value.specs.HttpBody as plain
use Rattle.wf_value.specs.HttpBody.{Close, Complete, Malformed, Oversize, Framing, length_state, unless_closed}
use Rattle.wf_http_body.specs.declared.body.Chunks.{Chunks}
use Rattle.wf_http_body.specs.declared.body.End.{End}
use Rattle.wf_http_body.specs.declared.body.End.TheVariants as end
use Rattle.wf_http_body.specs.Lengths.{IsLengthPart, IsLengthRead}
use Rattle.wf_http_body.specs.Parts.{IsOpenBody, ReadsBody}
use Rattle.wf_http_in.specs.declared.framing.Framing.{Framing as Code}
use Rattle.wf_http_in.specs.declared.framing.Framing.TheVariants as framing
use Rattle.wf_http_in.specs.Bodies.{answer_limit, IsBody}
use Rattle.wf_http_in.specs.Found.{IsFramed}
use Rattle.wf_http_in.specs.Stages.{IsPartOf, IsRead}

-- ## States
pub length_open : (limit n : ℕ) (close : Close) (b : List ℕ) → n ≤ limit → length b < n → length_state limit close b n ≡ unless_closed close
length_open limit n close b fits short = rw (le-ltb limit n fits, lt-leb n (length b) short) refl

-- ## A body of a length
length_read : (n : ℕ) (f : Framing) (c : Chunks) (all content : List ℕ) (e : End) → f ≡ plain.OfLength n → IsLengthRead answer_limit n all content e
    → IsRead (framing.OfLength n) f c all content e
length_read n f c all content end.More is read = read
length_read n f c all content end.Whole is read = λ more close. subst (λ (g : Framing). IsBody answer_limit g close (all ++ more) (Complete content)) (sym is) (read more close)
length_read n f c all content end.Bad is read = absurd read
length_read n f c all content end.TooLarge is read = absurd read

pub sized : {E : Type 0} (code : Code) (n : ℕ) (was c : Chunks) (piece old new : List ℕ) (result : Result End E) → code ≡ framing.OfLength n
    → IfOk result (λ e. (limit : ℕ) (all : List ℕ) → n ≤ limit → IsLengthPart n all old → IsLengthRead limit n (all ++ piece) new e)
    → IfOk result (λ e. (f : Framing) (all : List ℕ) → IsFramed code f → IsPartOf code was all old → IsRead code f c (all ++ piece) new e)
sized code n was c piece old new (Ok e) is read = λ f all framed part.
    let told = subst (λ (g : Code). IsFramed g f) is framed in
    let begun = subst (λ (g : Code). IsPartOf g was all old) is part in
    subst (λ (g : Code). IsRead g f c (all ++ piece) new e) (sym is) (length_read n f c (all ++ piece) new e told.0 (read answer_limit all told.1 begun))
sized code n was c piece old new (Err x) is read = tt

-- ## Bodies in chunks
in_chunks : (f : Framing) (c : Chunks) (all content : List ℕ) (e : End) → f ≡ plain.InChunks → ReadsBody answer_limit c all content e → IsRead framing.InChunks f c all content e
in_chunks f c all content end.More is read = read
in_chunks f c all content end.Whole is read = λ more close. subst (λ (g : Framing). IsBody answer_limit g close (all ++ more) (Complete content)) (sym is) (read more close)
in_chunks f c all content end.Bad is read = λ more close. subst (λ (g : Framing). IsBody answer_limit g close (all ++ more) Malformed) (sym is) (read more close)
in_chunks f c all content end.TooLarge is read = λ more close. subst (λ (g : Framing). IsBody answer_limit g close (all ++ more) Oversize) (sym is) (read more close)

pub chunked : {E : Type 0} (code : Code) (was c : Chunks) (piece old new : List ℕ) (result : Result End E) → code ≡ framing.InChunks
    → IfOk result (λ e. (all : List ℕ) → IsOpenBody answer_limit was all old → ReadsBody answer_limit c (all ++ piece) new e)
    → IfOk result (λ e. (f : Framing) (all : List ℕ) → IsFramed code f → IsPartOf code was all old → IsRead code f c (all ++ piece) new e)
chunked code was c piece old new (Ok e) is read = λ f all framed part.
    subst (λ (g : Code). IsRead g f c (all ++ piece) new e) (sym is)
    (in_chunks f c (all ++ piece) new e (subst (λ (g : Code). IsFramed g f) is framed) (read all (subst (λ (g : Code). IsPartOf g was all old) is part)))
chunked code was c piece old new (Err x) is read = tt
