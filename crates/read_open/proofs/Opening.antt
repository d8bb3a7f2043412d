-- What a read tests first: the header's tests and then the version's, each as the code makes it; and what that says of a whole answer.
-- Assumes nothing.
use Prim.Native.Nat.{ℕ, ◌<◌, ◌≤◌}
use native.Mathlib.Omega.{arith}
use mathlib.Core.Path.{◌≡◌, refl, ap, sym, ◌∙◌}
use mathlib.Core.Bool.{Bool, true, false, cond}
use lib.ListN.{length}
use borrow.Author.Tests.{le-leb, lt-leb}
use Rattle.terms.specs.declared.Form.TheVariants.{Counted as counted}
use Rattle.terms.specs.Bits.{Bytes}
use Rattle.meaning.specs.Calls.{Answer, refused, accepted, is_kept}
use Rattle.layout.specs.Headers.{Headed, refusal, header, size_right, header_of}
use Rattle.layout.specs.Stores.{store_of}
use Rattle.header.specs.Answer.{header_says}
use Rattle.std.specs.Prelude.{Result, Ok, Err}
use Rattle.refusal_numbers.specs.Refusals.{number}
use Rattle.refusal_numbers.specs.declared.Refusal.{Refusal}
use Rattle.header.specs.declared.Header.{Header}
use Rattle.layout.proofs.Headers as headers
use Rattle.read_open.specs.Opening.{opened}
use Rattle.promises.specs.Headed.{by_header}

module _ (s : Bytes) (v : ℕ) {h : Result Header Refusal} (says : header_says h ≡ header_of counted s) where
  pub header_refused : {r : Refusal} → h ≡ Err r → refused (number r) ≡ opened s v
  unfolding opened header_says
  header_refused e = rw (← says, e)

  module _ {d : Header} (e : h ≡ Ok d) where
    header_is : header_of counted s ≡ header d.capacity d.oldest d.latest
    unfolding header_says
    header_is = sym says ∙ ap header_says e

    pub before_oldest : v < d.oldest → refused 8 ≡ opened s v
    unfolding opened is_kept
    before_oldest k = let a = headers.accepted s d.capacity d.oldest d.latest header_is in rw (header_is, a.oldest, lt-leb d.oldest v k)

    pub after_latest : d.oldest ≤ v → d.latest < v → refused 8 ≡ opened s v
    unfolding opened is_kept
    after_latest j k = let a = headers.accepted s d.capacity d.oldest d.latest header_is in rw (header_is, a.oldest, a.latest, le-leb d.oldest v j, lt-leb v d.latest k)

    pub version_kept : d.oldest ≤ v → v ≤ d.latest → accepted tt ≡ opened s v
    unfolding opened is_kept
    version_kept j k = let a = headers.accepted s d.capacity d.oldest d.latest header_is in rw (header_is, a.oldest, a.latest, le-leb d.oldest v j, le-leb v d.latest k)

-- what is refused first is the answer, else the rest decides
abbrev after : {A : Type 0} → Headed → Bool → Answer A → Answer A
after h b a = by_header h (cond b a (refused 8))

module _ {A : Type 0} (a : Answer A) (s : Bytes) (v : ℕ) where
  pub refused_first : {n : ℕ} → refused n ≡ opened s v → refused n ≡ by_header (header_of counted s) (cond (is_kept (store_of s) v) a (refused 8))
  unfolding opened
  refused_first {n} = go (header_of counted s) (is_kept (store_of s) v)
    where
      go : (h : Headed) (b : Bool) → refused n ≡ after h b (accepted (tt {0})) → refused n ≡ after h b a
      go (refusal m) b e = let z : n ≡ m = cc in ap refused z
      go (header m o l) true e = let z : ◌≡◌ {A = ℕ} 0 1 = cc in absurd (omega arith)
      go (header m o l) false e = let z : n ≡ 8 = cc in ap refused z

  pub rest_decides : accepted tt ≡ opened s v → by_header (header_of counted s) (cond (is_kept (store_of s) v) a (refused 8)) ≡ a
  unfolding opened
  rest_decides = go (header_of counted s) (is_kept (store_of s) v)
    where
      go : (h : Headed) (b : Bool) → accepted (tt {0}) ≡ after h b (accepted tt) → after h b a ≡ a
      go (refusal m) b e = let z : ◌≡◌ {A = ℕ} 0 1 = cc in absurd (omega arith)
      go (header m o l) true e = refl
      go (header m o l) false e = let z : ◌≡◌ {A = ℕ} 0 1 = cc in absurd (omega arith)

-- a store whose version is kept has the right size
pub kept_size : (s : Bytes) (v : ℕ) → accepted tt ≡ opened s v → size_right counted (length s) ≡ true
unfolding opened header_of
kept_size s v = go (size_right counted (length s)) _ _
  where
    go : (b : Bool) (g : Headed) (a : Answer (Unit {0})) → accepted tt ≡ by_header (cond b g (refusal 1)) a → b ≡ true
    go true g a e = refl
    go false g a e = let z : ◌≡◌ {A = ℕ} 0 1 = cc in absurd (omega arith)
