-- The target from latest backwards: it holds the rescued store of the run found up to now, and where versions join no more, the run is the
-- longest. Assumes nothing.
use Prim.Native.Nat.{ℕ, zero, suc, ◌+◌, ◌-◌, ◌≤◌, ◌<◌, max}
use native.Mathlib.Omega.{arith}
use mathlib.Core.Path.{◌≡◌, refl, ap, ap₂, sym, ◌∙◌, subst}
use mathlib.Core.Bool.{Bool, true, false}
use mathlib.Core.List.{List, [], ◌∷◌, ◌++◌}
use mathlib.Core.Option.{Option, none, some}
use lib.ListN.{length, replicate, drop, length-replicate}
use lib.Seq.{drop_at}
use Rattle.terms.specs.declared.Form.TheVariants.{Counted as counted}
use Rattle.terms.specs.Bits.{Bytes, Byte, All, Place}
use Rattle.terms.specs.Records.{Record, Slot, free, Store}
use Rattle.terms.specs.Form.{top32, most_slots}
use Rattle.meaning.specs.Store.{formatted}
use Rattle.nodehash.specs.Node.{leaf_hash, inner_hash}
use Rattle.place.specs.declared.Place as place
use Rattle.place.specs.Place.{place_of, Stands}
use Rattle.fields.specs.Written.{written}
use Rattle.layout.specs.Sizes.{room_of}
use Rattle.layout.specs.Headers.{size_right, header_bytes}
use Rattle.layout.specs.Slots.{SlotForm}
use Rattle.layout.specs.Stores.{store_of, store_bytes, slots_bytes, StoreForm}
use Rattle.layout.proofs.Headers.{size_says, length_header}
use Rattle.layout.proofs.Stores.{store_said}
use Rattle.store.proofs.Slots.{slots_many}
use Rattle.contracts.specs.Format.{format_bytes}
use Rattle.rescue_rules.specs.Rescue.{source_root, run_store, rescued, Longest}
use Rattle.rescue_rules.specs.Joining.{version_of, root_version, newest_child, join_at}
use Rattle.rescue_rules.specs.Entering.{Entered}
use Rattle.rescue_laws.proofs.Roots.{root_up_to_lem}
use Rattle.rescue_laws.proofs.Runs.{Readable}
use Rattle.rescue_laws.proofs.Coming.{Come, come_first, come_step, come_back, come_oldest, come_low, come_no_root, come_apart, come_above}
use Rattle.rescue_bytes.proofs.Readable.{readable}
use Rattle.rescue_enter.specs.Enter.{Target, Entering, Enters}
use Rattle.rescue_step.specs.Step.{joins_top, floor_top, RightTop, Stops, rootless, apart, above, Joins}
use Rattle.rescue_step.proofs.Stepping.{right_nothing, right_joined}
use Rattle.rescue_fill.specs.Fill.{bounded, Shaped, Fillable, Filled}

-- numbers, apart from the trees
full : (n c : ℕ) → c ≡ 0 → n - c ≡ n
full n c e = omega arith

-- other bounds over the same slots
over : (x y z : Bytes) → length x ≡ length y → written 0 x (y ++ z) ≡ x ++ z
unfolding written
over x y z e = let k : length y ≡ 0 + length x = omega (arith, e) in ap (x ++◌) (drop_at y z (0 + length x) k)

pub header_over : (t : Bytes) {u : Bytes} {n : ℕ} (first latest : ℕ) → Shaped t → n ≡ room_of counted (length t) → u ≡ written 0 (header_bytes counted n first latest) t →
    u ≡ bounded first latest t
unfolding store_bytes
header_over t {u} {n} first latest h e k =
    k
    ∙ ap (written 0 (header_bytes counted n first latest)) h.bytes
    ∙ over (header_bytes counted n first latest) (header_bytes counted (length (store_of t).slots) (store_of t).oldest (store_of t).latest) (slots_bytes counted (store_of t).slots)
    (length_header counted n first latest ∙ sym (length_header counted (length (store_of t).slots) (store_of t).oldest (store_of t).latest))
    ∙ ap (λ m. header_bytes counted m first latest ++ slots_bytes counted (store_of t).slots) (e ∙ sym (slots_many counted t))

pub shaped : (s t : Bytes) → Target s t → Shaped t
shaped s t h = record { size = subst (λ n. size_right counted n ≡ true) (sym h.equal) h.size; bytes = h.bytes }

-- a formatted target
free_slots_lem : (n : ℕ) → All (SlotForm counted) (replicate n free)
free_slots_lem zero = tt
free_slots_lem (suc n) = (tt, free_slots_lem n)

module _ (s t : Bytes) (size : size_right counted (length s) ≡ true) (equal : length t ≡ length s) {u : Bytes} (e : u ≡ format_bytes t) (long : length u ≡ length t) where
  t_size : size_right counted (length t) ≡ true
  t_size = subst (λ n. size_right counted n ≡ true) (sym equal) size

  is_formatted : u ≡ store_bytes (formatted (room_of counted (length t)))
  is_formatted = e ∙ rw t_size

  its_form : StoreForm (formatted (room_of counted (length t)))
  unfolding formatted
  its_form =
      let z = size_says counted (length t) t_size in
      record {
        some = rw (length-replicate (room_of counted (length t)) free) z.1;
        fits = rw (length-replicate (room_of counted (length t)) free) z.2;
        ordered = omega arith;
        number = omega arith;
        each = free_slots_lem (room_of counted (length t));
      }

  store_is : store_of u ≡ formatted (room_of counted (length t))
  unfolding formatted
  store_is = ap store_of is_formatted ∙ store_said (formatted (room_of counted (length t))) its_form

  pub format_target : Target s u
  format_target = record {
    size = size;
    equal = long ∙ equal;
    bytes = is_formatted ∙ ap store_bytes (sym store_is);
    form = subst StoreForm (sym store_is) its_form;
  }

  pub format_slots : (store_of u).slots ≡ replicate (length (store_of s).slots) free
  unfolding formatted
  format_slots =
      ap (λ (x : Store). x.slots) store_is ∙ ap (λ n. replicate n free) (ap (room_of counted) equal ∙ sym (slots_many counted s))

-- the root of a version isn't newer than the version
root_not_above : (s : List Slot) (v : ℕ) → root_version s v ≤ v
unfolding root_version
root_not_above s v = go (source_root s v) refl
  where
    go : (o : Option Record) → source_root s v ≡ o → version_of o ≤ v
    go none e = omega arith
    go (some r) e = root_up_to_lem s v r e

-- what was entered from the empty place on
whole : (s : Bytes) (n : ℕ) {p : place.Place} (a b : ℕ) {t u : Bytes} → Stands [] 0 p → Enters s n p a b t u →
    Entered 256 (store_of s).slots n a b [] (store_of t).slots (store_of u).slots
whole s n {p} a b {t} {u} top e =
    subst (λ q. Entered 256 (store_of s).slots n a b q (store_of t).slots (store_of u).slots) top.place
    (subst (λ k. Entered k (store_of s).slots n a b (place_of p) (store_of t).slots (store_of u).slots) (full 256 p.count top.count) e.entered)

-- how far it has come
pub record State (s : Bytes) (oldest latest b low : ℕ) (t : Bytes) : Type 0 where
  pub at : ℕ
  pub come : Come leaf_hash inner_hash (store_of s).slots oldest latest at b low (store_of t).slots
  pub target : Target s t
  pub root_in : b ≤ at
  pub low_in : low ≤ at
  pub right : RightTop s b

module _ (s : Bytes) (bytes : All Byte s) (oldest latest : ℕ) (number : latest ≤ top32) (size : size_right counted (length s) ≡ true) where
  abbrev S : List Slot
  S = (store_of s).slots

  z : Readable S latest
  z = readable s bytes size latest number

  -- the tree of latest
  pub state_first : {root low : ℕ} {t u : Bytes} → oldest ≤ latest → Joins s latest 0 0 0 root low → (store_of t).slots ≡ replicate (length S) free →
      {p : place.Place} → Stands [] 0 p → Enters s 0 p root 0 t u → State s oldest latest root low u
  unfolding joins_top floor_top
  state_first {root} {low} {t} {u} ordered j free-t top e = record {
    at = latest;
    come = come_first leaf_hash inner_hash S oldest latest z 0 root low (store_of t).slots (store_of u).slots ordered j.root j.there j.joins
        (sym (no_floor (newest_child 256 S root 0 []) j.floor)) j.within free-t (whole s 0 root 0 top e);
    target = e.target;
    root_in = subst (λ w. w ≤ latest) j.root (root_not_above S latest);
    low_in = j.within;
    right = right_joined s j (right_nothing s size bytes);
  }
    where
      no_floor : (x : ℕ) → low ≡ max 0 x → low ≡ x
      no_floor x k = omega arith

  module _ {b low : ℕ} {t : Bytes} (w : State s oldest latest b low t) {f : ℕ} (is-first : f ≡ max (max oldest low) b) where
    -- the first version of the root's time that a run may begin with
    within : (x y u v a : ℕ) → x ≤ a → y ≤ a → v ≤ a → u ≡ max (max x y) v → u ≤ a
    within x y u v a i j k e = omega arith

    at_oldest : (x y u v : ℕ) → u ≡ max (max x y) v → x ≤ u
    at_oldest x y u v e = omega arith

    at_low : (x y u v : ℕ) → u ≡ max (max x y) v → y ≤ u
    at_low x y u v e = omega arith

    at_root_lem : (x y u v : ℕ) → u ≡ max (max x y) v → v ≤ u
    at_root_lem x y u v e = omega arith

    back : Come leaf_hash inner_hash S oldest latest f b low (store_of t).slots
    back =
        come_back leaf_hash inner_hash S oldest latest z w.at f b low (store_of t).slots w.come (at_oldest oldest low f b is-first) (at_low oldest low f b is-first)
        (at_root_lem oldest low f b is-first) (within oldest low f b w.at w.come.low w.low_in w.root_in is-first)

    -- the target, where the run is the longest
    filled : {u : Bytes} {r : ℕ} → r ≡ f → u ≡ bounded f latest t → Longest leaf_hash inner_hash S oldest latest f (latest - f) → Filled s oldest latest r u
    unfolding rescued run_store
    filled {u} {r} e k l = subst (λ g. Filled s oldest latest g u) (sym e) (record { longest = l; bytes = k ∙ ap store_bytes same })
      where
        up : (x y : ℕ) → x ≤ y → y ≡ x + (y - x)
        up x y h = omega arith

        same : record { oldest = f; latest = latest; slots = (store_of t).slots; form = counted } ≡ rescued S f (latest - f)
        same = ap₂ (λ n xs. record { oldest = f; latest = n; slots = xs; form = counted }) (up f latest back.high) back.slots

    pub fills_oldest : {u : Bytes} {r : ℕ} → f ≤ oldest → r ≡ f → u ≡ bounded f latest t → Filled s oldest latest r u
    fills_oldest h e k =
        filled e k
        (subst (λ g. Longest leaf_hash inner_hash S oldest latest g (latest - g)) (sym same)
        (come_oldest leaf_hash inner_hash S oldest latest z b low (store_of t).slots (subst (λ g. Come leaf_hash inner_hash S oldest latest g b low (store_of t).slots) same back)))
      where
        both : (x y : ℕ) → x ≤ y → y ≤ x → x ≡ y
        both x y i j = omega arith

        same : f ≡ oldest
        same = both f oldest h (at_oldest oldest low f b is-first)

    module _ (later : oldest < f) where
      abbrev u : ℕ
      u = f - 1

      one_more : (x y : ℕ) → y < x → x ≡ suc (x - 1)
      one_more x y h = omega arith

      suc_u : f ≡ suc u
      suc_u = one_more f oldest later

      next : Come leaf_hash inner_hash S oldest latest (suc u) b low (store_of t).slots
      next = subst (λ g. Come leaf_hash inner_hash S oldest latest g b low (store_of t).slots) suc_u back

      ends : {x : Bytes} {r : ℕ} → r ≡ f → x ≡ bounded f latest t → Longest leaf_hash inner_hash S oldest latest (suc u) (latest - suc u) → Filled s oldest latest r x
      ends e k l = filled e k (subst (λ g. Longest leaf_hash inner_hash S oldest latest g (latest - g)) (sym suc_u) l)

      pub fills_low : {x : Bytes} {r : ℕ} → b < f → r ≡ f → x ≡ bounded f latest t → Filled s oldest latest r x
      fills_low h e k = ends e k (come_low leaf_hash inner_hash S oldest latest z u b low (store_of t).slots next (below oldest low f b h later is-first))
        where
          below : (x y u v : ℕ) → v < u → x < u → u ≡ max (max x y) v → u - 1 < y
          below x y u v i j e = omega arith

      pub fills_stop : {x : Bytes} {r : ℕ} → Stops s u f b low → r ≡ f → x ≡ bounded f latest t → Filled s oldest latest r x
      unfolding joins_top floor_top
      fills_stop stop e k = ends e k (go (subst (λ g. Stops s u g b low) suc_u stop))
        where
          go : Stops s u (suc u) b low → Longest leaf_hash inner_hash S oldest latest (suc u) (latest - suc u)
          go (rootless r) = come_no_root leaf_hash inner_hash S oldest latest z u b low (store_of t).slots next r
          go (apart j) = come_apart leaf_hash inner_hash S oldest latest z u b low (store_of t).slots next (root_version S u) refl j
          go (above l) =
              come_above leaf_hash inner_hash S oldest latest z u b low (store_of t).slots next (root_version S u) (newest_child 256 S (root_version S u) b []) refl refl l

      pub state_next : {a l : ℕ} {x : Bytes} → Joins s u f b low a l → {p : place.Place} → Stands [] 0 p → Enters s f p a b t x → State s oldest latest a l x
      unfolding joins_top floor_top
      state_next {a} {l} {x} j top e = record {
        at = u;
        come = subst (λ g. Come leaf_hash inner_hash S oldest latest u a g (store_of x).slots) (sym j.floor)
            (come_step leaf_hash inner_hash S oldest latest z u b low a (newest_child 256 S a b []) (store_of t).slots (store_of x).slots next (not_before oldest f later) j.root j.there
            (subst (λ g. join_at leaf_hash inner_hash 256 S g a b [] ≡ true) suc_u j.joins) refl (subst (λ g. g ≤ u) j.floor j.within)
            (subst (λ g. Entered 256 S g a b [] (store_of t).slots (store_of x).slots) suc_u (whole s f a b top e)));
        target = e.target;
        root_in = subst (λ g. g ≤ u) j.root (root_not_above S u);
        low_in = j.within;
        right = right_joined s j w.right;
      }
        where
          not_before : (x y : ℕ) → x < y → x ≤ y - 1
          not_before x y h = omega arith

      -- the next root is older
      pub root_falls : {a l : ℕ} → Joins s u f b low a l → f ≤ b → a < b
      root_falls {a} {l} j h = less a (f - 1) b f oldest (subst (λ g. g ≤ u) j.root (root_not_above S u)) h later refl
        where
          less : (a u b f o : ℕ) → a ≤ u → f ≤ b → o < f → u ≡ f - 1 → a < b
          less a u b f o i j k e = omega arith
