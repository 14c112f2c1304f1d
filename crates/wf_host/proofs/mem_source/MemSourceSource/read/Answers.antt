use Rattle.std.proofs.Common.{◌≡◌, ◌≤◌, ◌+◌, ◌++◌, ℕ, List, length, take, drop, sym, ◌∙◌, ap, arith, take-append-drop, length-drop}
use Rattle.std.proofs.lemmas.List.{take_at, length-take-le, drop-drop}
use Rattle.wf_host.proofs.mem_source.MemSourceSource.read.Goals as goal

-- what stood in front of the rest is in front of the room
front : (file old new : List ℕ) (at n : ℕ) → n ≤ length (drop at file) → new ≡ take n (drop at file) ++ drop n old → drop at file ≡ take n new ++ drop (at + n) file
front file old new at n le is =
    let rest : List ℕ = drop at file in
    let given : take n new ≡ take n rest = ap (λ (l : List ℕ). take n l) is ∙ take_at (take n rest) (drop n old) n (length-take-le n rest le) in
    sym (take-append-drop n rest) ∙ ap (λ (l : List ℕ). l ++ drop n rest) (sym given) ∙ ap (λ (l : List ℕ). take n new ++ l) (drop-drop n at file)

pub returns-clause-bytes : goal.returns-clause-bytes
returns-clause-bytes c =
    let s = c.args.self.now in
    front s.bytes.items c.args.into.now c.copy_from-count.new.into s.at c.copy_from-count.result
    (omega (arith, c.copy_from-count.ensures.count, length-drop s.at s.bytes.items, ap length c.deref-2.ensures.value))
    (rw c.deref-2.ensures.value at c.copy_from-count.ensures.bytes)
