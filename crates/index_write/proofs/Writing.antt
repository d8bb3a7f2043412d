-- The outcome of each way through a call that keeps a table. Assumes nothing.
use Prim.Native.Nat.{ℕ, ◌≤◌}
use mathlib.Core.Path.{◌≡◌, refl, ap, sym, ◌∙◌, subst}
use mathlib.Core.List.{List}
use lib.ListN.{length}
use Rattle.terms.specs.declared.Form.TheVariants.{Counted as counted}
use Rattle.terms.specs.Bits.{Bytes, Byte, All}
use Rattle.terms.specs.Fields.{le}
use Rattle.terms.specs.Records.{Store}
use Rattle.terms.specs.Form.{top32}
use Rattle.meaning.specs.Calls.{refused, accepted, Result, apply}
use Rattle.meaning.specs.Answers.{Exports, exports_refusal, exports_answer}
use Rattle.nodehash.specs.Node.{leaf_hash, inner_hash}
use Rattle.hash.specs.declared.Hash.{Hash}
use Rattle.hash.specs.Hash.{hash_bytes}
use Rattle.fields.specs.Written.{written}
use Rattle.fields.proofs.Written.{number_fills}
use Rattle.layout.specs.Sizes.{room_of}
use Rattle.promises.specs.Calls.{SoundBytes}
use Rattle.apply_publish.specs.Apply.{ApplyDoes}
use Rattle.apply_answer.specs.Answers.{applied_says}
use Rattle.apply_answer.specs.declared.Applied as declared-applied
use Rattle.std.specs.Prelude.{Ok, Err}
use Rattle.std.specs.Prelude as prelude
use Rattle.refusal_numbers.specs.Refusals.{number as number_of}
use Rattle.refusal_numbers.specs.declared.Refusal.{Refusal}
use Rattle.prune_sound.specs.Prune.{pruned_says, PruneDoes}
use Rattle.batch.specs.Batch.{batch_of}
use Rattle.batch.proofs.Batches.{asks_read}
use Rattle.contracts.specs.Apply.{answer_bytes, told}
use Rattle.index_rules.specs.Tables.{RightFor, Tells, DoesBoth, not_told, refuses_both, accepts_both}
use Rattle.contracts.specs.Tabled.{AppliesBoth, PrunesBoth}
use Rattle.index_write.proofs.Staying.{applied_sound, pruned_sound}

-- what telling refuses is refused
pub not_both : {A : Type 0} {call : Store → Result A} {told : A → Bytes} {s f : Bytes} {table : List ℕ} {r : ℕ} → Tells s table r → (r ≡ 0 → ⊥) →
    Exports (λ a. DoesBoth call s table a s table) told f r f
not_both o n = exports_refusal (not_told n o)

-- and what is left of the store is sound
pub apply_sound_after : (number : ℕ) (batch : Bytes) {s t : Bytes} {a : prelude.Result declared-applied.Applied Refusal} → ApplyDoes number batch s (applied_says a) t →
    {d : declared-applied.Applied} → number ≤ top32 → All Byte batch → a ≡ Ok d → SoundBytes t
unfolding applied_says
apply_sound_after number batch {s} {t} o small bytes e =
    applied_sound number batch small bytes (subst (λ x. ApplyDoes number batch s (applied_says x) t) e o)

pub prune_sound_after : (n : ℕ) {s t : Bytes} {p : prelude.Result ℕ Refusal} → PruneDoes n s (pruned_says p) t → {k : ℕ} → p ≡ Ok k → SoundBytes t
unfolding pruned_says
prune_sound_after n {s} {t} o e = pruned_sound n (subst (λ x. PruneDoes n s (pruned_says x) t) e o)

-- a batch asks for what it is read as
pub both_applied : (number : ℕ) (batch : Bytes) → All Byte batch → {s f t g : Bytes} {table u : List ℕ} {r : ℕ} →
    Exports (λ a. DoesBoth (apply leaf_hash inner_hash number (batch_of batch)) s table a t u) told f r g → AppliesBoth number batch s table f r t u g
both_applied number batch bytes w = record { asked = batch_of batch; asks = asks_read batch bytes; applied = w }

module _ (number : ℕ) (batch : Bytes) (bytes : All Byte batch) {s f t : Bytes} {table : List ℕ} {r : ℕ} {a : prelude.Result declared-applied.Applied Refusal} (told : Tells s table r) (zero : r ≡ 0)
    (o : ApplyDoes number batch s (applied_says a) t) where
  pub apply_refused : {m : Refusal} → a ≡ Err m → AppliesBoth number batch s table f (number_of m) t table f
  unfolding applied_says
  apply_refused e =
      both_applied number batch bytes
      (exports_refusal (refuses_both (subst (Tells s table) zero told) (subst (λ q. ApplyDoes number batch s (applied_says q) t) e o)))

  pub apply_made : {d : declared-applied.Applied} {g : Bytes} {u : List ℕ} → a ≡ Ok d → RightFor t u → g ≡ answer_bytes d.version (hash_bytes d.root) d.count → AppliesBoth number batch s table f 0 t u g
  unfolding applied_says answer_bytes
  apply_made {u = u} e w q =
      subst (AppliesBoth number batch s table f 0 t u) (sym q)
      (both_applied number batch bytes
      (exports_answer (accepts_both (subst (Tells s table) zero told) (subst (λ x. ApplyDoes number batch s (applied_says x) t) e o) w)))

module _ (n : ℕ) {s f t : Bytes} {table : List ℕ} {r : ℕ} {p : prelude.Result ℕ Refusal} (told : Tells s table r) (zero : r ≡ 0) (o : PruneDoes n s (pruned_says p) t) where
  pub prune_refused : {m : Refusal} → p ≡ Err m → PrunesBoth n s table f (number_of m) t table f
  unfolding pruned_says
  prune_refused e = exports_refusal (refuses_both (subst (Tells s table) zero told) (subst (λ q. PruneDoes n s (pruned_says q) t) e o))

  pub prune_freed : {k : ℕ} {g : Bytes} {u : List ℕ} → p ≡ Ok k → RightFor t u → length f ≡ 4 → g ≡ written 0 (le 4 k) f → PrunesBoth n s table f 0 t u g
  unfolding pruned_says
  prune_freed {k} {g} {u} e w l q =
      subst (PrunesBoth n s table f 0 t u) (sym (q ∙ number_fills k f l))
      (exports_answer (accepts_both (subst (Tells s table) zero told) (subst (λ x. PruneDoes n s (pruned_says x) t) e o) w))
