-- What a rescue answers, by what was tested in turn. Assumes nothing.
use Prim.Native.Nat.{ℕ, ◌+◌, ◌-◌, ◌≤◌, ◌<◌, max}
use native.Mathlib.Omega.{arith}
use mathlib.Core.Path.{◌≡◌, refl, ap, sym, ◌∙◌, subst}
use mathlib.Core.Bool.{true, false, true≢false}
use mathlib.Core.List.{[]}
use lib.ListN.{length}
use Rattle.terms.specs.declared.Form.TheVariants.{Counted as counted}
use Rattle.terms.specs.Bits.{Bytes, Byte, All}
use Rattle.terms.specs.Form.{top32}
use Rattle.meaning.specs.Calls.{Answer, refused, accepted}
use Rattle.nodehash.specs.Node.{leaf_hash, inner_hash}
use Rattle.layout.specs.Headers.{size_right}
use Rattle.layout.specs.Stores.{store_of}
use Rattle.rescue_rules.specs.Rescue.{Counts, counts, Run}
use Rattle.rescue_rules.specs.Joining.{root_version, newest_child}
use Rattle.rescue_laws.proofs.Runs.{Readable}
use Rattle.rescue_laws.proofs.Coming.{no_root_no_run, broken_no_run, low_no_run}
use Rattle.rescue_bytes.specs.Rescues.{slots_in, SameSize, NoRun, Report, Rescues, wrong_size, out_of_order, no_version, rescues}
use Rattle.rescue_bytes.proofs.Readable.{readable}
use Rattle.rescue_bytes.proofs.Worth.{numbers_kept}
use Rattle.rescue_step.specs.Step.{joins_top, floor_top, Stops, rootless, apart, above, Joins}
use Rattle.rescue_fill.specs.Fill.{Fillable, Filled}

module _ (oldest latest : ℕ) (s old : Bytes) where
  pub wrong_source : size_right counted (length s) ≡ false → Rescues oldest latest s old (refused 1) old
  wrong_source e = wrong_size (λ h. true≢false (sym h.source ∙ e))

  pub wrong_target : (length old ≡ length s → ⊥) → Rescues oldest latest s old (refused 1) old
  wrong_target f = wrong_size (λ h. f (sym h.equal))

  module _ (size : size_right counted (length s) ≡ true) (equal : length old ≡ length s) where
    same_size : SameSize s old
    same_size = record { source = size; target = subst (λ n. size_right counted n ≡ true) (sym equal) size; equal = sym equal }

    pub disordered : latest < oldest → Rescues oldest latest s old (refused 2) old
    disordered h = out_of_order same_size h

    module _ (ordered : oldest ≤ latest) where
      pub fillable : {root low : ℕ} → Joins s latest 0 0 0 root low → Fillable s oldest latest root low old
      fillable j = record { size = size; equal = equal; ordered = ordered; joins = j }

      pub no_run : All Byte s → latest ≤ top32 → Stops s latest 0 0 0 → Rescues oldest latest s old (refused 3) old
      unfolding joins_top floor_top
      no_run bytes number stop = no_version same_size ordered (go stop)
        where
          z : Readable (slots_in s) latest
          z = readable s bytes size latest number

          no_less : (x y : ℕ) → y < max 0 x → y < x
          no_less x y h = omega arith

          go : Stops s latest 0 0 0 → NoRun s oldest latest
          go (rootless r) f m e o run = no_root_no_run leaf_hash inner_hash (slots_in s) oldest latest z r f m e run
          go (apart j) f m e o run = broken_no_run leaf_hash inner_hash (slots_in s) oldest latest z 0 (root_version (slots_in s) latest) refl j f m e run
          go (above l) f m e o run =
              low_no_run leaf_hash inner_hash (slots_in s) oldest latest z (root_version (slots_in s) latest) refl
              (no_less (newest_child 256 (slots_in s) (root_version (slots_in s) latest) 0 []) latest l) f m e run

      pub kept : {first : ℕ} {t : Bytes} {n : Counts} → All Byte s → latest ≤ top32 → Filled s oldest latest first t → n ≡ counts (slots_in s) (slots_in t) →
          Rescues oldest latest s old (accepted (record { first = first; numbers = n })) t
      kept {first} {t} bytes number h e =
          subst (λ n. Rescues oldest latest s old (accepted (record { first = first; numbers = n })) t)
          (numbers_kept s t bytes number size h.longest h.bytes ∙ sym e)
          (rescues same_size ordered h.longest h.bytes)
