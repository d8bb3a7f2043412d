-- A rescued store holds what the source's trees of the run's versions hold: its trees are those. Assumes nothing.
use Prim.Native.Nat.{ℕ, zero, suc, ◌+◌, ◌-◌, ◌≤◌}
use native.Mathlib.Omega.{arith}
use mathlib.Core.Path.{◌≡◌, refl, ap, ap₂, sym, ◌∙◌, subst}
use mathlib.Core.List.{List, [], ◌∷◌}
use Rattle.terms.specs.Bits.{Bytes, Byte, All}
use Rattle.terms.specs.Form.{top32}
use Rattle.terms.specs.Records.{Slot, Store}
use Rattle.meaning.specs.Tree.{grants_in}
use Rattle.meaning.specs.Store.{tree_at_version}
use Rattle.meaning.specs.Sound.{Kept}
use Rattle.meaning.specs.Calls.{accepted}
use Rattle.meaning.specs.History.{Entry, entry, entries_from, held}
use Rattle.histories.proofs.Histories.{Keeps, keeps_held}
use Rattle.nodehash.specs.Node.{leaf_hash, inner_hash}
use Rattle.layout.specs.Stores.{store_of}
use Rattle.rescue_rules.specs.Rescue.{source_tree}
use Rattle.rescue_bytes.specs.Rescues.{slots_in, Report, Rescues}
use Rattle.rescue_bytes.specs.Claims.{Worth}
use Rattle.rescue_bytes.proofs.Worth.{worth}

same_ledger : (s : List Slot) (st : Store) (f n : ℕ) → ((v : ℕ) → f ≤ v → v ≤ f + n → tree_at_version st v ≡ source_tree s v) →
    entries_from (tree_at_version st) f n ≡ entries_from (source_tree s) f n
same_ledger s st f zero h = ap (λ t. entry f (grants_in t) ∷ []) (h f (omega arith) (omega arith))
same_ledger s st f (suc n) h =
    ap₂ (λ t es. entry (f + suc n) (grants_in t) ∷ es) (h (f + suc n) (omega arith) (omega arith)) (same_ledger s st f n (λ v a b. h v a (omega arith)))

held_of : (st : Store) → held st ≡ entries_from (tree_at_version st) st.oldest (st.latest - st.oldest)
unfolding held
held_of st = refl

pub rescued_keeps : {oldest latest : ℕ} {s old t : Bytes} {r : Report} → All Byte s → latest ≤ top32 → Rescues oldest latest s old (accepted r) t →
    Keeps leaf_hash inner_hash (store_of t) (entries_from (source_tree (slots_in s)) r.first (latest - r.first))
rescued_keeps {latest = latest} {s} {t = t} {r} h n w =
    let x = worth h n w in
    let st = store_of t in
    let more : st.latest - st.oldest ≡ latest - r.first = omega (arith, x.begins, x.ends) in
    subst (Keeps leaf_hash inner_hash st)
    (held_of st ∙ ap₂ (entries_from (tree_at_version st)) x.begins more
    ∙ same_ledger (slots_in s) st r.first (latest - r.first) (λ v a b. x.trees v (omega (arith, x.begins), omega (arith, x.ends, x.high))))
    (keeps_held leaf_hash inner_hash st x.sound)
