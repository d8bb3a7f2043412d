-- Document 02, 2026-08, over the contract: an accepted rescue is worth what 02 says, the reads of the target answer for the source's trees, and
-- what is sound comes back. Assumes nothing.
use Prim.Native.Nat.{ℕ, ◌+◌, ◌≤◌}
use native.Mathlib.Omega.{arith}
use mathlib.Core.Path.{◌≡◌, refl, ap, sym, ◌∙◌, subst}
use lib.ListN.{length}
use Rattle.terms.specs.Bits.{Bytes, Byte, All}
use Rattle.terms.specs.Form.{top32}
use Rattle.meaning.specs.Tree.{grants_in}
use Rattle.meaning.specs.Sound.{Kept}
use Rattle.meaning.specs.Calls.{Answer, refused, accepted}
use Rattle.meaning.specs.Answers.{exports_refusal, exports_answer}
use Rattle.layout.specs.Stores.{store_of}
use Rattle.promises.specs.Calls.{SoundBytes}
use Rattle.rescue_bytes.specs.Rescues as rescue
use Rattle.rescue_bytes.specs.Rescues.{slots_in, Report}
use Rattle.rescue_bytes.specs.Claims.{Worth, AllRooted, AsItWas}
use Rattle.rescue_bytes.proofs.Outcomes.{accepted_report, former_never_matter}
use Rattle.rescue_bytes.proofs.Worth as worths
use Rattle.rescue_bytes.proofs.Again.{GaveBack, sound_comes_back, rescued_comes_back}
use Rattle.contracts.specs.Contracts.{Rescues}
use Rattle.demands.specs.Claims.{ReadsFor, Rescued, GivenBack}
use Rattle.demands.proofs.Stored.{stored_sound}
use Rattle.demands.proofs.Reading.{sound_reads_for}

-- An accepted rescue is worth what 02 says.
pub accepted_rescue_is_worth : {oldest latest : ℕ} {s old f t g : Bytes} → All Byte s → latest ≤ top32 → Rescues oldest latest s old f 0 t g →
    Rescued oldest latest s t g
accepted_rescue_is_worth {oldest} {latest} {s} {old} {f} {t} {g} h n w =
    let (r, x, e) = accepted_report w refl in
    let y : Worth oldest latest s t r = worths.worth h n x in
    let sound : SoundBytes t = subst SoundBytes (sym y.bytes) (stored_sound (store_of t) refl y.sound) in
    let kept : (v : ℕ) → r.first ≤ v → v ≤ latest → Kept (store_of t) v = λ v a b. (omega (arith, y.begins), omega (arith, y.ends)) in
    record {
      report = r;
      worth = y;
      sound = sound;
      told = e;
      reads = λ v a b. subst (ReadsFor t v) (ap grants_in (y.trees v (kept v a b))) (sound_reads_for sound v (kept v a b));
    }

-- The target's former bytes never matter.
pub former_bytes_never_matter : {oldest latest : ℕ} {s old new f h : Bytes} {m n : ℕ} {t u g k : Bytes} → length old ≡ length new →
    Rescues oldest latest s old f m t g → Rescues oldest latest s new h n u k → (m ≡ n) × (m ≡ 0 → (t ≡ u) × (g ≡ k))
former_bytes_never_matter e w x = former_never_matter e w x

-- an answer is a refusal or a report
not_both : {A : Type 0} {n : ℕ} {r : Report} → refused n ≡ accepted r → A
not_both e = let z : ◌≡◌ {A = ℕ} 0 1 = cc in absurd (omega arith)

same_report : {q r : Report} → accepted q ≡ accepted r → q ≡ r
same_report e = cc

given_back : {oldest latest first : ℕ} {s old f t g : Bytes} {r : ℕ} → Rescues oldest latest s old f r t g →
    ((a : Answer Report) → rescue.Rescues oldest latest s old a t → GaveBack first s a t) → GivenBack first s r t g
given_back (exports_refusal w) k = let (x, (q, e, m, c)) = k _ w in not_both e
given_back (exports_answer {a = r} w) k =
    let (x, (q, e, m, c)) = k _ w in
    let same : r ≡ q = same_report e in
    record { accepts = refl; bytes = x; report = r; told = refl; begins = ap (λ y. y.first) same ∙ m; as_it_was = subst AsItWas (sym same) c }

-- A sound store whose versions all have a root, rescued with its own oldest and latest, is given back.
pub sound_store_is_given_back : {s old f t g : Bytes} {r : ℕ} → All Byte s → SoundBytes s → AllRooted s → length s ≡ length old →
    Rescues (store_of s).oldest (store_of s).latest s old f r t g → GivenBack (store_of s).oldest s r t g
sound_store_is_given_back h w rooted e x = given_back x (λ a y. sound_comes_back h w.headed w.sound rooted e y)

-- A rescued store, rescued with the oldest and latest that it was rescued with, or with its own, is given back.
pub rescued_store_is_given_back : {oldest latest : ℕ} {s old f t g : Bytes} → All Byte s → latest ≤ top32 → Rescues oldest latest s old f 0 t g →
    {old₂ f₂ u h : Bytes} {r : ℕ} → length t ≡ length old₂ →
    (Rescues oldest latest t old₂ f₂ r u h → GivenBack (store_of t).oldest t r u h)
    × (Rescues (store_of t).oldest latest t old₂ f₂ r u h → GivenBack (store_of t).oldest t r u h)
rescued_store_is_given_back {oldest} {latest} {t = t} b n w {old₂} {f₂} {u} {h} {r} k =
    let (q, x, e) = accepted_report w refl in
    let y = worths.worth b n x in
    subst (λ v. (Rescues oldest latest t old₂ f₂ r u h → GivenBack v t r u h) × (Rescues v latest t old₂ f₂ r u h → GivenBack v t r u h)) (sym y.begins) (
      λ z. given_back z (λ a m. (rescued_comes_back b n x k).0 m),
      λ z. given_back z (λ a m. (rescued_comes_back b n x k).1 m),
    )
