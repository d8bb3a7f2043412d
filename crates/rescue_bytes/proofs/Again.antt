-- Rescuing what is sound gives back its bytes: a sound store with a root for each version, with its own oldest and latest; and a rescued
-- store, with its own, or with those that it was rescued with. Assumes nothing.
use Prim.Native.Nat.{ℕ, ◌+◌, ◌-◌, ◌≤◌}
use native.Mathlib.Omega.{arith}
use mathlib.Core.Path.{◌≡◌, refl, ap, sym, ◌∙◌, subst, subst₂}
use mathlib.Core.Bool.{true}
use lib.ListN.{length}
use Rattle.terms.specs.declared.Form.TheVariants.{Counted as counted}
use Rattle.terms.specs.Bits.{Bytes, Byte, All}
use Rattle.terms.specs.Form.{top32}
use Rattle.terms.specs.Records.{Store}
use Rattle.meaning.specs.Sound.{Sound}
use Rattle.meaning.specs.Calls.{Answer, accepted}
use Rattle.nodehash.specs.Node.{leaf_hash, inner_hash}
use Rattle.layout.specs.Headers.{size_right, header, header_of}
use Rattle.layout.specs.Stores.{store_of, store_bytes}
use Rattle.layout.proofs.Headers.{Accepted, size_right_of}
use Rattle.layout.proofs.Headers as headers
use Rattle.layout.proofs.Stores.{store_back, store_size}
use Rattle.rescue_rules.specs.Rescue.{rescued, Longest}
use Rattle.rescue_laws.proofs.Same.{sound_stays, sound_longest}
use Rattle.rescue_laws.proofs.Again.{rescued_sound, rescued_stays, again_own, again_longest}
use Rattle.rescue_bytes.specs.Rescues.{slots_in, SameSize, Report, Rescues, rescues}
use Rattle.rescue_bytes.specs.Claims.{AllRooted, AsItWas}
use Rattle.rescue_bytes.proofs.Readable.{readable}
use Rattle.rescue_bytes.proofs.Outcomes.{one_rescue}
use Rattle.rescue_bytes.proofs.Numbers.{nothing_changed}
use Rattle.rescue_bytes.proofs.Worth.{sound_form, rescued_form, target_is}

-- the report of a rescue that gave back its source
abbrev pub GaveBack : ℕ → Bytes → Answer Report → Bytes → Type 0
GaveBack first s a t = (t ≡ s) × ((r : Report) × (a ≡ accepted r) × (r.first ≡ first) × AsItWas r)

-- where the source's own bytes are an outcome, they are the outcome
gave_back : {oldest latest first more : ℕ} {s old t : Bytes} {a : Answer Report} → SameSize s old → oldest ≤ latest →
    Longest leaf_hash inner_hash (slots_in s) oldest latest first more → s ≡ store_bytes (rescued (slots_in s) first more) → Rescues oldest latest s old a t →
    GaveBack first s a t
gave_back {s = s} size o l e w =
    let (x, y) = one_rescue w (rescues size o l e) in
    (y, (_, x, refl, nothing_changed s))

-- A sound store whose versions all have a root, rescued with its own oldest and latest, comes back.
pub sound_comes_back : {s old t : Bytes} {a : Answer Report} {c o l : ℕ} → All Byte s → header_of counted s ≡ header c o l → Sound leaf_hash inner_hash (store_of s) →
    AllRooted s → length s ≡ length old → Rescues (store_of s).oldest (store_of s).latest s old a t → GaveBack (store_of s).oldest s a t
sound_comes_back {s} {old} {c = c} {o = o} {l = l} h head ok rooted e w =
    let x = headers.accepted s c o l head in
    let right = size_right_of counted (length s) c x.size x.some x.fits in
    gave_back (record { source = right; target = subst (λ n. size_right counted n ≡ true) e right; equal = e }) ok.header.0
    (sound_longest leaf_hash inner_hash (store_of s) refl ok rooted)
    (sym (ap store_bytes (sound_stays leaf_hash inner_hash (store_of s) refl ok rooted) ∙ store_back s c o l h x)) w

-- A rescued store, rescued with the same oldest and latest, comes back; and so it does with its own.
pub rescued_comes_back : {oldest latest : ℕ} {s old t : Bytes} {r : Report} → All Byte s → latest ≤ top32 → Rescues oldest latest s old (accepted r) t →
    {old₂ u : Bytes} {a : Answer Report} → length t ≡ length old₂ →
    (Rescues oldest latest t old₂ a u → GaveBack r.first t a u) × (Rescues r.first latest t old₂ a u → GaveBack r.first t a u)
rescued_comes_back {oldest} {latest} {s} h n (rescues {f = f} {m = m} {t = t} size o l e) {old₂} k =
    let z = readable s h size.source latest n in
    let st = rescued (slots_in s) f m in
    let its = rescued_form (slots_in s) f m in
    let sound = rescued_sound leaf_hash inner_hash (slots_in s) oldest latest f m z l in
    let said : store_of t ≡ st = ap store_of e ∙ target_is oldest latest (slots_in s) z f m l in
    let ok : Sound leaf_hash inner_hash (store_of t) = subst (Sound leaf_hash inner_hash) (sym said) sound in
    let right : size_right counted (length t) ≡ true = subst (λ x. size_right counted (length x) ≡ true) (sym e) (subst (λ y. size_right y (length (store_bytes st)) ≡ true) its (store_size st (sound_form st its sound))) in
    let same : SameSize t old₂ = record { source = right; target = subst (λ x. size_right counted x ≡ true) k right; equal = k } in
    let bytes : t ≡ store_bytes (rescued (slots_in t) f m) =
    e ∙ ap store_bytes (sym (rescued_stays leaf_hash inner_hash (slots_in s) oldest latest f m z l)) ∙ ap (λ x. store_bytes (rescued x.slots f m)) (sym said) in (
      gave_back same o (subst (λ x. Longest leaf_hash inner_hash x.slots oldest latest f m) (sym said) (again_longest leaf_hash inner_hash (slots_in s) oldest latest f m z l)) bytes,
      gave_back same (omega (arith, l.ends)) (subst (λ x. Longest leaf_hash inner_hash x.slots f latest f m) (sym said) (again_own leaf_hash inner_hash (slots_in s) oldest latest f m z l)) bytes,
    )
