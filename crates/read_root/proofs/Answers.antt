-- The root record's hash, or zeros; a spoilt one is refused. Assumes nothing.
use Prim.Native.Nat.{ℕ}
use mathlib.Core.Path.{◌≡◌, ap, sym, ◌∙◌}
use Rattle.terms.specs.Records.{zeros}
use Rattle.meaning.specs.Sight.{Sight, nothing, spoilt}
use Rattle.meaning.specs.Calls.{refused, accepted}
use Rattle.meaning.specs.Reading.{spoilt_record, refusal_of, root_read}
use Rattle.hash.specs.declared.Hash.{Hash}
use Rattle.hash.specs.Hash.{hash_bytes}
use Rattle.nodehash.specs.Node.{leaf_hash, inner_hash}
use Rattle.read_root.specs.Parts.{root_says}
use Rattle.std.specs.Prelude.{Ok, Err}
use Rattle.refusal_numbers.specs.Refusals.{code}
use Rattle.refusal_numbers.specs.declared.ReadRefusal.{ReadRefusal}

module _ (x : Sight) where
  pub root_hashed : (h : Hash) → accepted (hash_bytes h) ≡ root_read leaf_hash inner_hash x → root_says (Ok h) ≡ root_read leaf_hash inner_hash x
  unfolding root_says
  root_hashed h e = e

  pub root_empty : (h : Hash) → x ≡ nothing → hash_bytes h ≡ zeros → root_says (Ok h) ≡ root_read leaf_hash inner_hash x
  unfolding root_says
  root_empty h e f = ap accepted f ∙ ap (root_read leaf_hash inner_hash) (sym e)

  pub root_spoilt : (n : ReadRefusal) (i : ℕ) → x ≡ spoilt i → code n ≡ refusal_of (spoilt_record i) → root_says (Err n) ≡ root_read leaf_hash inner_hash x
  unfolding root_says
  root_spoilt n i e f = ap refused f ∙ ap (root_read leaf_hash inner_hash) (sym e)
