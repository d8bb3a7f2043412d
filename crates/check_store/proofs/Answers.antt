-- What check answers: of bytes with an accepted header the test of the slots decides soundness, since records that are read are in form.
-- Assumes nothing.
use Prim.Native.Nat.{ℕ}
use mathlib.Core.Path.{◌≡◌, ap, sym, ◌∙◌, subst}
use mathlib.Core.Logic.{◌↔◌}
use mathlib.Core.Bool.{Bool, true, false, true≢false}
use lib.ListN.{length}
use Rattle.terms.specs.declared.Form.{Form}
use Rattle.terms.specs.Bits.{Bytes, Byte, All}
use Rattle.terms.specs.Records.{free}
use Rattle.terms.proofs.Lists.{all_at}
use Rattle.meaning.specs.Sound.{At, Sound}
use Rattle.local.specs.Test.{slots_test}
use Rattle.local.proofs.Decides.{slots_test_decides_sound}
use Rattle.nodehash.specs.Node.{leaf_hash, inner_hash}
use Rattle.layout.specs.Headers.{header, header_of}
use Rattle.layout.specs.Slots.{SlotForm}
use Rattle.layout.specs.Stores.{store_in}
use Rattle.header.specs.Answer.{header_says}
use Rattle.std.specs.Prelude.{Result, Ok, Err}
use Rattle.refusal_numbers.specs.Refusals.{number}
use Rattle.refusal_numbers.specs.declared.Refusal.{Refusal}
use Rattle.header.specs.declared.Header.{Header}
use Rattle.layout.proofs.Headers.{size_right_of, accepted}
use Rattle.layout.proofs.Stores.{store_form}
use Rattle.check_kin.specs.Kin.{Keeps}
use Rattle.promises.specs.Check.{Checked, refused, unsound, sound}

-- what was read of the header
module _ (fm : Form) (s : Bytes) {r : Result Header Refusal} (read : header_says r ≡ header_of fm s) where
  pub says_refused : {e : Refusal} → r ≡ Err e → Checked fm s (number e)
  unfolding header_says
  says_refused {e} h = refused (number e) (sym read ∙ ap header_says h)

  module _ {d : Header} (e : r ≡ Ok d) where
    header_is : header_of fm s ≡ header d.capacity d.oldest d.latest
    unfolding header_says
    header_is = sym read ∙ ap header_says e

    pub says_kept : Keeps fm s (record { oldest = d.oldest; latest = d.latest })
    says_kept =
        let a = accepted s d.capacity d.oldest d.latest header_is in
        record { size = size_right_of fm (length s) d.capacity a.size a.some a.fits; oldest = a.oldest; latest = a.latest }

    -- of bytes with an accepted header, the slots pass exactly if the store is sound
    slots_decide : All Byte s → (slots_test leaf_hash inner_hash (store_in fm s) ≡ true) ↔ Sound leaf_hash inner_hash (store_in fm s)
    unfolding At
    slots_decide b =
        let f = store_form s d.capacity d.oldest d.latest b (accepted s d.capacity d.oldest d.latest header_is) in
        slots_test_decides_sound leaf_hash inner_hash (store_in fm s) (f.some, f.fits) (f.ordered, f.number) (λ i x a.
        (subst (SlotForm (store_in fm s).form) a.1 (all_at (SlotForm (store_in fm s).form) (store_in fm s).slots free i f.each a.0)).0)

    pub says_unsound : All Byte s → {t : Bool} → t ≡ slots_test leaf_hash inner_hash (store_in fm s) → t ≡ false → Checked fm s 3
    says_unsound b f g = unsound d.capacity d.oldest d.latest header_is (λ k. true≢false (sym ((slots_decide b).1 k) ∙ sym f ∙ g))

    pub says_sound : All Byte s → {t : Bool} → t ≡ slots_test leaf_hash inner_hash (store_in fm s) → t ≡ true → Checked fm s 0
    says_sound b f g = sound d.capacity d.oldest d.latest header_is ((slots_decide b).0 (sym f ∙ g))
