-- One outcome for each move; a refused one writes nothing; the target's former bytes never matter. Assumes nothing.
use Prim.Native.Nat.{ℕ}
use native.Mathlib.Omega.{arith}
use mathlib.Core.Path.{◌≡◌, refl, ap, sym, ◌∙◌, subst}
use mathlib.Core.Bool.{Bool, true, false, cond}
use lib.ListN.{length}
use Rattle.terms.specs.declared.Form.{Form}
use Rattle.terms.specs.Bits.{Bytes}
use Rattle.terms.specs.Fields.{field}
use Rattle.layout.specs.Sizes.{capacity_at, oldest_at, latest_at, room_of}
use Rattle.layout.specs.Headers.{Headed, refusal, header, header_of, header_right, size_right}
use Rattle.layout.specs.Stores.{store_in, store_bytes}
use Rattle.move_rules.specs.Moves.{other, moved_from, SameRoom, Moves, wrong_size, wrong_header, not_sound, moves}
use Rattle.promises.specs.Calls.{SoundIn}

-- a header is refused or accepted
pub not_headed : {A : Type 0} {h : Headed} {m c o l : ℕ} → h ≡ refusal m → h ≡ header c o l → A
not_headed e f = let g = sym e ∙ f in let z : ◌≡◌ {A = ℕ} 0 1 = cc in absurd (omega arith)

-- a header of the right size is refused with 2
pub size_passed : (from : Form) (s : Bytes) {n : ℕ} → size_right from (length s) ≡ true → header_of from s ≡ refusal n → n ≡ 2
unfolding header_of
size_passed from s {n} z e =
    go (header_right from s) (field capacity_at 4 s) (field oldest_at 4 s) (field latest_at 4 s)
    (sym (ap (λ b. cond b (cond (header_right from s) (header (field capacity_at 4 s) (field oldest_at 4 s) (field latest_at 4 s)) (refusal 2)) (refusal 1)) z) ∙ e)
  where
    go : (b : Bool) (c o l : ℕ) → cond b (header c o l) (refusal 2) ≡ refusal n → n ≡ 2
    go true c o l f = let w : ◌≡◌ {A = ℕ} 0 1 = cc in absurd (omega arith)
    go false c o l f = cc

-- room goes by lengths
same_room : {from to : Form} {s old new : Bytes} → length old ≡ length new → SameRoom from to s old → SameRoom from to s new
same_room {to = to} e w = record { source = w.source; target = subst (λ n. size_right to n ≡ true) e w.target; equal = w.equal ∙ ap (room_of to) e }

module _ {from : Form} {s : Bytes} where
  -- A refused move writes nothing.
  pub refused_writes_nothing : {old t : Bytes} {n : ℕ} → Moves from s old n t → (n ≡ 0 → ⊥) → t ≡ old
  refused_writes_nothing (wrong_size f) z = refl
  refused_writes_nothing (wrong_header r e) z = refl
  refused_writes_nothing (not_sound r e f) z = refl
  refused_writes_nothing (moves r e w b) z = absurd (z refl)

  -- The target's former bytes never matter.
  pub former_never_matter : {old new t u : Bytes} {m n : ℕ} → length old ≡ length new → Moves from s old m t → Moves from s new n u →
      (m ≡ n) × (m ≡ 0 → t ≡ u)
  former_never_matter l (wrong_size f) (wrong_size g) = (refl, λ z. absurd (omega arith))
  former_never_matter l (wrong_size f) (wrong_header r e) = absurd (f (same_room (sym l) r))
  former_never_matter l (wrong_size f) (not_sound r e g) = absurd (f (same_room (sym l) r))
  former_never_matter l (wrong_size f) (moves r e w b) = absurd (f (same_room (sym l) r))
  former_never_matter l (wrong_header r e) (wrong_size f) = absurd (f (same_room l r))
  former_never_matter l (wrong_header r e) (wrong_header q d) = (refl, λ z. absurd (omega arith))
  former_never_matter l (wrong_header r e) (not_sound q d g) = not_headed e d
  former_never_matter l (wrong_header r e) (moves q d w b) = not_headed e d
  former_never_matter l (not_sound r e g) (wrong_size f) = absurd (f (same_room l r))
  former_never_matter l (not_sound r e g) (wrong_header q d) = not_headed d e
  former_never_matter l (not_sound r e g) (not_sound q d h) = (refl, λ z. absurd (omega arith))
  former_never_matter l (not_sound r e g) (moves q d w b) = absurd (g w)
  former_never_matter l (moves r e w b) (wrong_size f) = absurd (f (same_room l r))
  former_never_matter l (moves r e w b) (wrong_header q d) = not_headed d e
  former_never_matter l (moves r e w b) (not_sound q d g) = absurd (g w)
  former_never_matter l (moves r e w b) (moves q d x k) = (refl, λ z. b ∙ sym k)

  -- One move has one outcome.
  pub one_outcome : {old t u : Bytes} {m n : ℕ} → Moves from s old m t → Moves from s old n u → (m ≡ n) × (t ≡ u)
  one_outcome {old} {t} {u} {m} {n} x y = let (e, f) = former_never_matter refl x y in (e, go x y e f)
    where
      go : {m n : ℕ} {t u : Bytes} → Moves from s old m t → Moves from s old n u → m ≡ n → (m ≡ 0 → t ≡ u) → t ≡ u
      go (moves r e w b) y k f = f refl
      go (wrong_size g) y k f = sym (refused_writes_nothing y (λ z. omega arith))
      go (wrong_header r e) y k f = sym (refused_writes_nothing y (λ z. omega arith))
      go (not_sound r e g) y k f = sym (refused_writes_nothing y (λ z. omega arith))

  -- A sound source is moved into a target of the right size.
  pub sound_is_moved : {old t : Bytes} {n : ℕ} → SameRoom from (other from) s old → SoundIn from s → Moves from s old n t → n ≡ 0
  sound_is_moved r w (wrong_size f) = absurd (f r)
  sound_is_moved r w (wrong_header q e) = not_headed e w.headed
  sound_is_moved r w (not_sound q e f) = absurd (f w.sound)
  sound_is_moved r w (moves q e x b) = refl

  -- An accepted move leaves the bytes of the source's store, moved.
  pub moved_leaves : {old t : Bytes} {n : ℕ} → Moves from s old n t → n ≡ 0 → t ≡ store_bytes (moved_from from (store_in from s))
  moved_leaves (wrong_size f) z = absurd (omega arith)
  moved_leaves (wrong_header q e) z = absurd (omega arith)
  moved_leaves (not_sound q e f) z = absurd (omega arith)
  moved_leaves (moves q e x b) z = b

  -- An accepted move had a sound source.
  pub moved_was_sound : {old t : Bytes} {n : ℕ} → Moves from s old n t → n ≡ 0 → SoundIn from s
  moved_was_sound (wrong_size f) z = absurd (omega arith)
  moved_was_sound (wrong_header q e) z = absurd (omega arith)
  moved_was_sound (not_sound q e f) z = absurd (omega arith)
  moved_was_sound (moves {c} {o} {l} q e x b) z = record { capacity = c; oldest = o; latest = l; headed = e; sound = x }
