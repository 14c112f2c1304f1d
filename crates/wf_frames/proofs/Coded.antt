-- Compiled expressions by their code.
use Rattle.std.proofs.Common.{◌≡◌, ℕ, ◌+◌, ◌<◌, ◌≤◌, List, [], ◌∷◌, ◌++◌, Ok, Err, refl, sym, ap, subst, ◌∙◌, length, get_or, drop, map}
use Rattle.std.proofs.lemmas.List.{append-nil, drop_all}
use Rattle.wf_lemmas.proofs.Lists.{item_at}
use Rattle.wf_ast.specs.Apply.{View}
use Rattle.wf_ast.specs.Eval.{eval, eval_all}
use Rattle.wf_ast.specs.Tree.{Expr, exprs}
use Rattle.wf_eval.specs.Answers.{Answers, Gives}
use Rattle.wf_ast.specs.Instrs.{instrs}
use Rattle.wf_ast.specs.Machine.{code}
use Rattle.wf_ast.specs.declared.code.Instr.{Instr}
use Rattle.wf_model.proofs.Decoding.{decoded_code}
use Rattle.wf_model.specs.Decoded.{decode}
use Rattle.wf_model.specs.Shapes.{Compiled, decoded}
use Rattle.wf_value.specs.Data.{Data}
use Rattle.wf_value.specs.Errors.{Answer, ◌>>=◌}
use Rattle.wf_value.specs.Plain.{plain}
use Rattle.wf_value.specs.declared.errors.Raise.{Raise}
use Rattle.wf_value.specs.declared.errors.Raise.TheVariants.{Error, OutOfMemory}
use Rattle.wf_value.specs.declared.errors.Tag.{Tag}
use Rattle.wf_value.specs.declared.value.Value.{Value}

-- ## What an answer says
pub answered : {A B : Type 0} (f : A → B) (v : A) (d : Answer B) → Answers f (Ok v) d → d ≡ Ok (f v)
answered f v (Ok d) h = ap Ok (sym h)
answered f v (Err t) h = absurd h

pub raised : {A B : Type 0} (f : A → B) (t : Tag) (d : Answer B) → Answers f (Err (Error t)) d → d ≡ Err t
raised f t (Ok d) h = absurd h
raised f t (Err u) h = ap Err (sym h)

-- ## One expression
-- code is that of the expression that it is decoded to
pub coded : (is : List Instr) (e : Expr) → instrs is ≡ code e → instrs is ≡ code (decoded is)
coded is e h = h ∙ ap code (sym (decoded_code e) ∙ ap decode (sym h))

-- ## Some expressions

module _ (s : View) (cs : Compiled) where
  -- what some of them give
  abbrev pub all_of : Compiled → Answer (List Data)
  all_of xs = eval_all (exprs (map decoded xs)) s

  -- behind some values
  abbrev pub behind : List Value → Answer (List Data) → Answer (List Data)
  behind vs d = d >>= λ ds. Ok (map plain vs ++ ds)

  one_more : (d : Answer (List Data)) (v : Value) (old new : List Value) → new ≡ old ++ v ∷ [] → behind old (d >>= λ ds. Ok (plain v ∷ ds)) ≡ behind new d
  one_more (Ok ds) v old new n = ap Ok (sym (ap (λ l. map plain l ++ ds) n ∙ joined old v ds))
    where
      joined : (xs : List Value) (x : Value) (ds : List Data) → map plain (xs ++ x ∷ []) ++ ds ≡ map plain xs ++ plain x ∷ ds
      joined [] x ds = refl
      joined (y ∷ xs) x ds = ap (λ l. plain y ∷ l) (joined xs x ds)
  one_more (Err t) v old new n = refl

  module _ (i : ℕ) (x : List Instr) (old : List Value) (within : i < length cs) (is : x ≡ get_or cs i x) (seen : all_of cs ≡ behind old (all_of (drop i cs))) where
    opened : all_of cs ≡ behind old (eval (decoded x) s >>= λ v. all_of (drop (i + 1) cs) >>= λ ds. Ok (v ∷ ds))
    opened = seen ∙ ap (λ l. behind old (all_of l)) (item_at cs i x within is)

    pub step : (new : List Value) (v : Value) → Gives (Ok v) (eval (decoded x) s) → new ≡ old ++ v ∷ [] → all_of cs ≡ behind new (all_of (drop (i + 1) cs))
    step new v h n =
        opened ∙ ap (λ m. behind old (m >>= λ d. all_of (drop (i + 1) cs) >>= λ ds. Ok (d ∷ ds))) (answered plain v (eval (decoded x) s) h) ∙ one_more (all_of (drop (i + 1) cs)) v old new n

    pub stops : (r : Raise) → Answers plain (Err r) (eval (decoded x) s) → Answers (λ vs. map plain vs) (Err r) (all_of cs)
    stops OutOfMemory h = tt {0}
    stops (Error t) h =
        subst (λ (d : Answer (List Data)). Answers (λ vs. map plain vs) (Err (Error t)) d)
        (sym (opened ∙ ap (λ m. behind old (m >>= λ d. all_of (drop (i + 1) cs) >>= λ ds. Ok (d ∷ ds))) (raised plain t (eval (decoded x) s) h))) refl

  pub done : (i : ℕ) (vs : List Value) → length cs ≤ i → all_of cs ≡ behind vs (all_of (drop i cs)) → Answers (λ ws. map plain ws) (Ok vs) (all_of cs)
  done i vs past seen =
      subst (λ (d : Answer (List Data)). Answers (λ ws. map plain ws) (Ok vs) d) (sym (seen ∙ ap (λ l. behind vs (all_of l)) (drop_all i cs past) ∙ ap Ok (append-nil (map plain vs)))) refl
