-- The topmost values of a stack, taken as arguments.
use Rattle.std.proofs.Common.{◌≡◌, ℕ, zero, suc, ◌+◌, ◌<◌, List, [], ◌∷◌, ◌++◌, length, map, take, drop, reverse, Result, Ok, Err, refl, sym, ap, ◌∙◌, append_assoc, append-nil, zero-add, arith}
use Rattle.std.proofs.lemmas.List.{reverse-append, length-reverse, map-append}
use Rattle.wf_ast.specs.Apply.{View, apply}
use Rattle.wf_ast.specs.declared.expr.Func.{Func}
use Rattle.wf_ast.specs.Machine.{Stack, Next, call, with_args}
use Rattle.wf_value.specs.Data.{Data}
use Rattle.wf_value.specs.Errors.{Answer}
use Rattle.wf_value.specs.Plain.{plain, plain_items}
use Rattle.wf_value.specs.declared.errors.Raise.{Raise}
use Rattle.wf_value.specs.declared.errors.Raise.TheVariants.{Error, OutOfMemory}
use Rattle.wf_value.specs.declared.errors.Tag.TheVariants.{TypeError}
use Rattle.wf_value.specs.declared.value.Value.{Value}
use Rattle.wf_eval.specs.Answers.{Gives}
use Rattle.wf_eval.specs.Steps.{Leads, Steps, settled, tops}

-- the last argument stands on top
args_back : (vs : List Data) (n : ℕ) (st : Stack) (acc : List Data) (k : List Data → Stack → Answer Stack) → with_args (length vs + n) (reverse vs ++ st) acc k ≡ with_args n st (vs ++ acc) k
args_back [] n st acc k = ap (λ m. with_args m st acc k) (zero-add n)
args_back (v ∷ vs) n st acc k =
    let e : length (v ∷ vs) + n ≡ length vs + suc n = omega arith in
    ap (λ m. with_args m (reverse (v ∷ vs) ++ st) acc k) e
    ∙ ap (λ l. with_args (length vs + suc n) (l ++ st) acc k) (reverse-append (v ∷ []) vs)
    ∙ ap (λ l. with_args (length vs + suc n) l acc k) (append_assoc (reverse vs) (v ∷ []) st)
    ∙ args_back vs (suc n) (v ∷ st) acc k

args_are : (vs : List Data) (st : Stack) (k : List Data → Stack → Answer Stack) → with_args (length vs) (reverse vs ++ st) [] k ≡ k vs st
args_are vs st k =
    let e : length vs ≡ length vs + 0 = omega arith in
    ap (λ m. with_args m (reverse vs ++ st) [] k) e ∙ args_back vs 0 st [] k ∙ ap (λ l. k l st) (append-nil vs)

too_few : (n : ℕ) (st : Stack) (acc : List Data) (k : List Data → Stack → Answer Stack) → length st < n → with_args n st acc k ≡ Err TypeError
too_few zero st acc k h = absurd (omega (arith, h))
too_few (suc n) [] acc k h = refl
too_few (suc n) (v ∷ st) acc k h = too_few n st (v ∷ acc) k (omega (arith, h))

-- ## A stack that was cut
parts : (below : ℕ) (vs : List Value) → take below vs ++ drop below vs ≡ vs
parts zero vs = refl
parts (suc n) [] = refl
parts (suc n) (v ∷ vs) = ap (λ l. v ∷ l) (parts n vs)

cut_tops : (below : ℕ) (vs : List Value) → tops vs ≡ reverse (map plain (drop below vs)) ++ tops (take below vs)
cut_tops below vs =
    ap tops (sym (parts below vs)) ∙ ap reverse (map-append plain (take below vs) (drop below vs)) ∙ reverse-append (map plain (take below vs)) (map plain (drop below vs))

length_map : (vs : List Value) → length (map plain vs) ≡ length vs
length_map [] = refl
length_map (v ∷ vs) = ap suc (length_map vs)

dropped : (below n : ℕ) (vs : List Value) → below + n ≡ length vs → length (drop below vs) ≡ n
dropped zero n vs h = omega (arith, h)
dropped (suc b) n [] h = absurd (omega (arith, h))
dropped (suc b) n (v ∷ vs) h = dropped b n vs (omega (arith, h))

tops_long : (vs : List Value) → length (tops vs) ≡ length vs
tops_long vs = length-reverse (map plain vs) ∙ length_map vs

leads_as : (go other : Next → Answer Stack) (r : Result ℕ Raise) (after : Stack) → ((next : Next) → go next ≡ other next) → Leads other r after → Leads go r after
leads_as go other (Ok n) after e h = λ next. e next ∙ h next
leads_as go other (Err (Error t)) after e h = λ next. e next ∙ h next
leads_as go other (Err OutOfMemory) after e h = tt

-- ## A call
pub too_few_args : (s : View) (f : Func) (n : ℕ) (vs : List Value) (after : Stack) → length vs < n → Steps s (call f n) (tops vs) (Err (Error TypeError)) after
too_few_args s f n vs after h = λ next. too_few n (tops vs) [] _ (let e : length (tops vs) ≡ length vs = tops_long vs in omega (arith, h, e))

pub called : (s : View) (f : Func) (n below : ℕ) (old mid args slice : List Value) (made : Result Value Raise) (r : Result ℕ Raise) (after : Stack) → below + n ≡ length old → mid ≡ take below old → args ≡ drop below old → slice ≡ args → Gives made (apply s f (plain_items slice)) → ((d : Answer Data) → Gives made d → Leads (settled d (tops mid)) r after) → Steps s (call f n) (tops old) r after
called s f n below old mid args slice made r after count m a same h settles =
    leads_as (λ next. with_args n (tops old) [] (go next)) (settled (apply s f (plain_items slice)) (tops mid)) r after
    (λ next.
    ap (λ st. with_args n st [] (go next)) (cut_tops below old)
    ∙ ap (λ k. with_args k (reverse (map plain (drop below old)) ++ tops (take below old)) [] (go next)) (sym (length_map (drop below old) ∙ dropped below n old count))
    ∙ args_are (map plain (drop below old)) (tops (take below old)) (go next)
    ∙ ap (λ l. settled (apply s f (plain_items l)) (tops (take below old)) next) (sym (same ∙ a))
    ∙ ap (λ l. settled (apply s f (plain_items slice)) (tops l) next) (sym m))
    (settles (apply s f (plain_items slice)) h)
  where
    go : Next → List Data → Stack → Answer Stack
    go next vs rest = settled (apply s f vs) rest next
