use Rattle.std.proofs.Common.{◌≡◌, ◌+◌, ◌∙◌, ℕ, cond, sym, arith, ap}
use Rattle.std.specs.Prelude.{bytes_eq, string_bytes}
use Rattle.wf_args.specs.Lines.{count, name_word, words_view, options_in}
use Rattle.wf_args.proofs.Names.{few_options, count_next}
use Rattle.wf_args.proofs.read.count_of.Goals as goal
use Rattle.wf_args.proofs.read.count_of.Goals.{then-eq, else-eq}

pub loop-rest-preserved : goal.loop-rest-preserved
loop-rest-preserved c =
    let named : c.eq.result ≡ bytes_eq (string_bytes c.index-rest-0.result) (name_word c.args.name) = c.eq.ensures ∙ (λ i. bytes_eq (c.as_str.ensures.value i) (c.word.ensures i)) in
    let next : (more : ℕ) → more ≡ cond c.eq.result 1 0 → more + count c.args.name (options_in (words_view c.split_at.result.1.now)) ≡ count c.args.name (options_in (words_view c.loop-rest.rest.now)) =
    λ more adds. count_next c.args.name c.loop-rest.rest.now c.split_at.result.1.now c.index-rest-0.result c.eq.result more c.loop-rest-test.true c.index-rest-0.is named adds c.split_at.ensures.back in
    elim c.if-eq.branch [
      | then-eq w ↦
          let one = next 1 (ap (λ b. cond b 1 0) (sym w.if-eq.true)) in
          record {
            counted = omega (arith, one, w.count-is, c.loop-rest.invariant.counted);
            fits = omega (arith, w.count-is, c.split_at.ensures.back_len, c.loop-rest.invariant.fits, c.loop-rest-test.true);
          }
      | else-eq w ↦
          let none = next 0 (ap (λ b. cond b 1 0) (sym w.if-eq.false)) in
          record {
            counted = omega (arith, none, w.count-is, c.loop-rest.invariant.counted);
            fits = omega (arith, w.count-is, c.split_at.ensures.back_len, c.loop-rest.invariant.fits, c.loop-rest-test.true);
          }
    ]

pub returns : goal.returns
returns c =
    let none = ap (count c.args.name) (few_options c.loop-rest.rest.now (omega (arith, c.loop-rest-test.false))) in
    omega (arith, none, c.loop-rest.invariant.counted)
