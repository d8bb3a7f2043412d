-- A rescue has one outcome: its cases exclude each other, and there is one longest run. A refused one writes nothing. Assumes nothing.
use Prim.Native.Nat.{ℕ}
use native.Mathlib.Omega.{arith}
use mathlib.Core.Path.{◌≡◌, refl, ap, ap₂, sym, ◌∙◌, subst}
use mathlib.Core.Bool.{true}
use lib.ListN.{length}
use Rattle.terms.specs.declared.Form.TheVariants.{Counted as counted}
use Rattle.terms.specs.Bits.{Bytes}
use Rattle.meaning.specs.Calls.{Answer, refused, accepted}
use Rattle.meaning.specs.Answers.{exports_refusal, exports_answer}
use Rattle.nodehash.specs.Node.{leaf_hash, inner_hash}
use Rattle.layout.specs.Headers.{size_right}
use Rattle.layout.specs.Stores.{store_bytes}
use Rattle.rescue_rules.specs.Rescue.{rescued}
use Rattle.rescue_laws.proofs.Decides.{one_longest}
use Rattle.rescue_bytes.specs.Rescues.{slots_in, SameSize, Report, Rescues, wrong_size, out_of_order, no_version, rescues, report_bytes, RescueExports}

-- an answer is a refusal or a report
not_both : {A : Type 0} {n : ℕ} {r : Report} → refused n ≡ accepted r → A
not_both e = let z : ◌≡◌ {A = ℕ} 0 1 = cc in absurd (omega arith)

same_number : {m n : ℕ} → ◌≡◌ {A = Answer Report} (refused m) (refused n) → m ≡ n
same_number e = cc

same_report : {q r : Report} → accepted q ≡ accepted r → q ≡ r
same_report e = cc

module _ {oldest latest : ℕ} {s old : Bytes} where
  -- a refused rescue writes nothing
  pub refused_leaves : {n : ℕ} {t : Bytes} → Rescues oldest latest s old (refused n) t → t ≡ old
  refused_leaves (wrong_size f) = refl
  refused_leaves (out_of_order f g) = refl
  refused_leaves (no_version f g h) = refl

  -- two outcomes are equal
  pub one_rescue : {a b : Answer Report} {t u : Bytes} → Rescues oldest latest s old a t → Rescues oldest latest s old b u → (a ≡ b) × (t ≡ u)
  one_rescue (wrong_size f) (wrong_size g) = (refl, refl)
  one_rescue (wrong_size f) (out_of_order w g) = absurd (f w)
  one_rescue (wrong_size f) (no_version w g h) = absurd (f w)
  one_rescue (wrong_size f) (rescues w g h i) = absurd (f w)
  one_rescue (out_of_order w f) (wrong_size g) = absurd (g w)
  one_rescue (out_of_order w f) (out_of_order x g) = (refl, refl)
  one_rescue (out_of_order w f) (no_version x g h) = absurd (omega arith)
  one_rescue (out_of_order w f) (rescues x g h i) = absurd (omega arith)
  one_rescue (no_version w f g) (wrong_size h) = absurd (h w)
  one_rescue (no_version w f g) (out_of_order x h) = absurd (omega arith)
  one_rescue (no_version w f g) (no_version x h i) = (refl, refl)
  one_rescue (no_version w f g) (rescues {f = k} {m = m} x h i j) = absurd (g k m i.ends i.kept i.run)
  one_rescue (rescues w f g h) (wrong_size i) = absurd (i w)
  one_rescue (rescues w f g h) (out_of_order x i) = absurd (omega arith)
  one_rescue (rescues {f = k} {m = m} w f g h) (no_version x i j) = absurd (j k m g.ends g.kept g.run)
  one_rescue (rescues {f = k} {m = m} {t = t} w f g h) (rescues {f = i} {m = n} {t = u} x y z j) =
      let (a, b) = one_longest leaf_hash inner_hash (slots_in s) oldest latest k m i n g z in
      let same : t ≡ u = h ∙ ap₂ (λ x y. store_bytes (rescued (slots_in s) x y)) a b ∙ sym j in
      (cc, same)

  pub refused_export_leaves : {f : Bytes} {n : ℕ} {t g : Bytes} → RescueExports oldest latest s old f n t g → (n ≡ 0 → ⊥) → (t ≡ old) × (g ≡ f)
  refused_export_leaves (exports_refusal w) z = (refused_leaves w, refl)
  refused_export_leaves (exports_answer w) z = absurd (z refl)

  -- no rescue is refused with 0
  pub never_0 : {n : ℕ} {t : Bytes} → Rescues oldest latest s old (refused n) t → n ≡ 0 → ⊥
  never_0 (wrong_size f) e = absurd (omega arith)
  never_0 (out_of_order f g) e = absurd (omega arith)
  never_0 (no_version f g h) e = absurd (omega arith)

  pub one_export : {f : Bytes} {m n : ℕ} {t u g h : Bytes} → RescueExports oldest latest s old f m t g → RescueExports oldest latest s old f n u h →
      (m ≡ n) × (t ≡ u) × (g ≡ h)
  one_export (exports_refusal w) (exports_refusal x) = let (e, k) = one_rescue w x in (same_number e, k, refl)
  one_export (exports_refusal w) (exports_answer x) = not_both (one_rescue w x).0
  one_export (exports_answer w) (exports_refusal x) = not_both (sym (one_rescue w x).0)
  one_export (exports_answer w) (exports_answer x) = let (e, k) = one_rescue w x in (refl, k, ap report_bytes (same_report e))

  -- the report of an accepted rescue
  pub accepted_report : {f : Bytes} {n : ℕ} {t g : Bytes} → RescueExports oldest latest s old f n t g → n ≡ 0 →
      (r : Report) × Rescues oldest latest s old (accepted r) t × (g ≡ report_bytes r)
  accepted_report (exports_refusal w) e = absurd (never_0 w e)
  accepted_report (exports_answer {a = r} w) e = (r, w, refl)

-- the same rescue into another target of the same length
same_size : {s old new : Bytes} → length old ≡ length new → SameSize s old → SameSize s new
same_size e w = record { source = w.source; target = subst (λ n. size_right counted n ≡ true) e w.target; equal = w.equal ∙ e }

module _ {oldest latest : ℕ} {s old new : Bytes} (e : length old ≡ length new) where
  accepted_there : {r : Report} {t : Bytes} → Rescues oldest latest s old (accepted r) t → Rescues oldest latest s new (accepted r) t
  accepted_there (rescues w o l k) = rescues (same_size e w) o l k

  refused_there : {n : ℕ} {t : Bytes} → Rescues oldest latest s old (refused n) t → Rescues oldest latest s new (refused n) new
  refused_there (wrong_size f) = wrong_size (λ w. f (same_size (sym e) w))
  refused_there (out_of_order w l) = out_of_order (same_size e w) l
  refused_there (no_version w l f) = no_version (same_size e w) l f

  -- the target's former bytes never matter: the same number, and where it is accepted the same bytes and the same report
  pub former_never_matter : {f h : Bytes} {m n : ℕ} {t u g k : Bytes} → RescueExports oldest latest s old f m t g → RescueExports oldest latest s new h n u k →
      (m ≡ n) × (m ≡ 0 → (t ≡ u) × (g ≡ k))
  former_never_matter (exports_refusal w) (exports_refusal x) =
      let (a, b) = one_rescue (refused_there w) x in (same_number a, λ z. absurd (never_0 w z))
  former_never_matter (exports_refusal w) (exports_answer x) = not_both (one_rescue (refused_there w) x).0
  former_never_matter (exports_answer w) (exports_refusal x) = not_both (sym (one_rescue (accepted_there w) x).0)
  former_never_matter (exports_answer w) (exports_answer x) =
      let (a, b) = one_rescue (accepted_there w) x in (refl, λ z. (b, ap report_bytes (same_report a)))
