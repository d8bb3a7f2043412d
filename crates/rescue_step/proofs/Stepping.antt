-- What is looked at from the empty place on decides whether a version joins the next one's tree. Assumes nothing.
use Prim.Native.Nat.{ℕ, ◌-◌, ◌≤◌, ◌<◌, max}
use native.Mathlib.Omega.{arith}
use mathlib.Core.Path.{◌≡◌, ap, ap₂, sym, ◌∙◌, subst}
use mathlib.Core.Bool.{true}
use mathlib.Core.List.{[]}
use lib.ListN.{length}
use Rattle.terms.specs.declared.Form.TheVariants.{Counted as counted}
use Rattle.terms.specs.Bits.{Bytes, Byte, All}
use Rattle.nodehash.specs.Node.{leaf_hash, inner_hash}
use Rattle.place.specs.declared.Place as place
use Rattle.place.specs.Place.{Stands}
use Rattle.layout.specs.Headers.{size_right}
use Rattle.layout.specs.Stores.{store_of}
use Rattle.rescue_rules.specs.Joining.{root_version, newest_child, join_at}
use Rattle.std.specs.Prelude.{Option, Some, None}
use Rattle.rescue_join.specs.Join.{joins_here, floor_here, JoinSays, RightFrom, RightHere}
use Rattle.rescue_join.proofs.Rights.{nothing_right, joined_right}
use Rattle.rescue_step.specs.Step.{joins_top, floor_top, RightTop, rootless, apart, above, Joins, StepSays}

full : (n c : ℕ) → c ≡ 0 → n - c ≡ n
full n c e = omega arith

-- A right tree is right from the empty place on.
pub top_right : (s : Bytes) (b : ℕ) {p : place.Place} → Stands [] 0 p → RightTop s b → RightHere s p b
unfolding RightHere RightTop
top_right s b {p} top h =
    subst (RightFrom (256 - p.count) (store_of s).slots b) (sym top.place)
    (subst (λ n. RightFrom n (store_of s).slots b []) (sym (full 256 p.count top.count)) h)

-- There is nothing wrong where there is no tree; and a version that joins a right tree has one.
pub right_nothing : (s : Bytes) → size_right counted (length s) ≡ true → All Byte s → RightTop s 0
unfolding RightTop
right_nothing s size bytes = nothing_right s size bytes 256 []

pub right_joined : (s : Bytes) {v next b low a l : ℕ} → Joins s v next b low a l → RightTop s b → RightTop s a
unfolding RightTop joins_top
right_joined s {next = next} {b = b} {a = a} j h = joined_right (store_of s).slots next 256 a b [] j.joins h

pub step_rootless : (s : Bytes) (v next b low : ℕ) {a : ℕ} → a ≡ root_version (store_of s).slots v → a ≡ 0 → StepSays s v next b low None
step_rootless s v next b low r e = rootless (sym r ∙ e)

module _ (s : Bytes) (v next b low : ℕ) {a : ℕ} (r : a ≡ root_version (store_of s).slots v) (there : a ≡ 0 → ⊥) {p : place.Place} (top : Stands [] 0 p) where
  top_joins : joins_here s next p a b ≡ joins_top s next a b
  unfolding joins_here joins_top
  top_joins = ap₂ (λ n q. join_at leaf_hash inner_hash n (store_of s).slots next a b q) (full 256 p.count top.count) top.place

  top_floor : floor_here s p a b ≡ floor_top s a b
  unfolding floor_here floor_top
  top_floor = ap₂ (λ n q. newest_child n (store_of s).slots a b q) (full 256 p.count top.count) top.place

  module _ (j : Option ℕ) (say : JoinSays s next p a b j) where
    pub step_apart : j ≡ None → StepSays s v next b low None
    step_apart e = apart (ap (λ w. joins_top s next w b) (sym r) ∙ sym top_joins ∙ subst (JoinSays s next p a b) e say)

    module _ {l : ℕ} (e : j ≡ Some l) {h : ℕ} (m : h ≡ max low l) where
      fits : JoinSays s next p a b (Some l)
      fits = subst (JoinSays s next p a b) e say

      low_is : max low l ≡ max low (floor_top s a b)
      low_is = ap (max low) (sym fits.1 ∙ top_floor)

      pub step_above : v < h → StepSays s v next b low None
      step_above k = above (subst (λ x. v < x) (m ∙ low_is ∙ ap (λ w. max low (floor_top s w b)) r) k)

      pub step_joins : h ≤ v → StepSays s v next b low (Some (record { root = a; floor = h }))
      step_joins k = record { root = sym r; there = there; joins = sym top_joins ∙ fits.0; floor = m ∙ low_is; within = k }
