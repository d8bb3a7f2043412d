-- An empty version, one whose root no slot matches and none agrees with: nothing is seen there, so a key is absent, and the searches for
-- neighbours would find nobody. Assumes nothing.
use Prim.Native.Nat.{ℕ}
use mathlib.Core.Path.{◌≡◌, refl, ap, sym, ◌∙◌}
use mathlib.Core.Bool.{cond}
use mathlib.Core.List.{[], ◌∷◌}
use Rattle.terms.specs.Bits.{Bytes}
use Rattle.terms.specs.Records.{Store}
use Rattle.meaning.specs.Sight.{Sight, matches, nothing, spoilt, Looking, scan}
use Rattle.meaning.specs.Calls.{refused, is_kept}
use Rattle.meaning.specs.Reading.{Seen, gap, seen_at, seen_root, seen}
use Rattle.meaning.specs.Proving.{absence_at, empty_version, prove_seen, proof}

pub nothing_seen : (look : Looking) (v : ℕ) → look.root v ≡ nothing → seen look v ≡ gap
unfolding seen
nothing_seen look v e = ap (λ o. seen_root o (λ b d. seen_at 255 look (b ∷ []) d)) e

pub gap_refused : (k : Bytes) (s : Seen) → s ≡ gap → prove_seen k s ≡ refused 14
unfolding prove_seen absence_at
gap_refused k s e = ap (prove_seen k) e

-- so 14 is what the searches would give there, and need not be tested before them
pub proof_by_searches : (st : Store) (v : ℕ) (k : Bytes) → proof st v k ≡ cond (is_kept st v) (prove_seen k (seen (scan st) v)) (refused 8)
unfolding proof
proof_by_searches st v k = ap (λ a. cond (is_kept st v) a (refused 8)) (go ((scan st).root v) refl)
  where
    go : (o : Sight) → (scan st).root v ≡ o →
        cond (empty_version ((scan st).root v)) (refused 14) (prove_seen k (seen (scan st) v)) ≡ prove_seen k (seen (scan st) v)
    go (matches r) e = rw e
    go nothing e = rw e (sym (gap_refused k (seen (scan st) v) (nothing_seen (scan st) v e)))
    go (spoilt i) e = rw e
