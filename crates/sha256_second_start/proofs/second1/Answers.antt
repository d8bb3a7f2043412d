-- Sixteen words, some of them known, and sixteen rounds.
-- Assumes nothing.
use Prim.Native.Nat.{ℕ}
use mathlib.Core.Path.{refl, ap, ap₂, ◌∙◌}
use native.Mathlib.Omega.{arith}
use Rattle.sha256_words.specs.Words.{◌⊞◌, σ₀, σ₁}
use Rattle.sha256.specs.Sha256.{K, scheduled}
use Rattle.sha256.proofs.Rolling.{sixteen_words, sixteen_rounds}
use Rattle.sha256_second_start.specs.Second.{second_block}
use Rattle.sha256_second_start.proofs.Laws.{word_in_constant, two_and_seven, with_fifteen, with_all, only_sixteen}
use Rattle.sha256_second_start.proofs.second1.Goals as goal

pub returns : goal.returns
unfolding K scheduled σ₀ σ₁
returns c =
    let w = c.args.w in (
      sixteen_words (second_block w)
          (only_sixteen w (omega arith))
          refl
          c.after-n2.ensures
          refl
          c.after-n4.ensures
          refl
          c.after_two-n6.ensures
          (c.add-n7.ensures ∙ two_and_seven 0x22d45414 w)
          c.after_two-n8.ensures
          c.after_two-n9.ensures
          c.after_two-n10.ensures
          c.after_two-n11.ensures
          c.after_two-n12.ensures
          c.after_two-n13.ensures
          (c.add-n14.ensures ∙ ap (λ (n : ℕ). n ⊞ σ₀ 520) c.after_two.ensures ∙ with_fifteen c.after_two-n12.result c.add-n7.result 520)
          (c.add-n15.ensures ∙ ap (λ (n : ℕ). n ⊞ 520) (c.add.ensures ∙ ap₂ ◌⊞◌ c.after_two-2.ensures c.sigma0.ensures) ∙ with_all c.after_two-n13.result c.after_two-n8.result w 520),
      sixteen_rounds 16 _ c.args.s
          c.step-s1.ensures
          (c.known-s2.ensures ∙ word_in_constant _ 0xefbe4786 0x01450000)
          c.step-s3.ensures
          (c.known-s4.ensures ∙ word_in_constant _ 0x240ca1cc 0x200051ca)
          c.step-s5.ensures
          (c.known-s6.ensures ∙ word_in_constant _ 0x4a7484aa 0x22d45414)
          c.step-s7.ensures
          c.step-s8.ensures
          c.step-s9.ensures
          c.step-s10.ensures
          c.step-s11.ensures
          c.step-s12.ensures
          c.step-s13.ensures
          c.step-s14.ensures
          c.step-s15.ensures
          c.step-s16.ensures,
    )
